-- What the lines that make libraries say, as it is kept.
use Rattle.std.specs.Prelude.{ℕ, ◌==◌, Bool, List, [], ◌∷◌, Option, is_none}
use Rattle.std.specs.List.{find}
use Rattle.std.specs.Option.{option_map}
use Rattle.state_model.specs.declared.parts.Attribute.{Attribute}
use Rattle.state_model.specs.Lawful.{present_at}
use Rattle.state_model.specs.declared.vulkan.TheConstants.{CULL_MODE_FRONT_AND_BACK, LOGIC_OP_SET}
use Rattle.state_model.specs.declared.parts.VertexBinding.{VertexBinding}
use Rattle.trace_model.specs.Fields.{each, optional, range_value}
use Rattle.trace_model.specs.LibraryLines.{binding_value}
use Rattle.trace_model.specs.Lines.{LocatedAttribute, Line, vertex_line, prerast_line, fragment_line}
use Rattle.trace_text.specs.declared.library_lines.VertexLine.{VertexLine}
use Rattle.trace_text.specs.declared.library_lines.PrerastLine.{PrerastLine}
use Rattle.trace_text.specs.declared.library_lines.FragmentLine.{FragmentLine}

abbrev pub four_bindings : (a b c d : List ℕ) → Option (List (Option VertexBinding))
four_bindings a b c d = each (optional binding_value) (a ∷ b ∷ c ∷ d ∷ [])

abbrev pub cull_value : List ℕ → Option ℕ
cull_value field = range_value 0 CULL_MODE_FRONT_AND_BACK field

abbrev pub logic_value : List ℕ → Option (Option ℕ)
logic_value field = optional (range_value 0 LOGIC_OP_SET) field

abbrev pub vertex_line_of : VertexLine → Line
vertex_line_of line =
    vertex_line (record { retain = line.retain; topology = line.topology; bindings = line.bindings; attributes = line.attributes })

abbrev pub prerast_line_of : PrerastLine → Line
prerast_line_of line = prerast_line (record {
  retain = line.retain;
  module_number = line.«module»;
  layout_number = line.layout;
  view_mask = line.view_mask;
  discard = line.discard;
  cull = line.cull;
  ccw = line.ccw;
  entries = line.entries;
})

abbrev pub fragment_line_of : FragmentLine → Line
fragment_line_of line = fragment_line (record {
  retain = line.retain;
  module_number = line.«module»;
  layout_number = line.layout;
  view_mask = line.view_mask;
  depth = line.depth;
  multisample = line.multisample;
  entries = line.entries;
})

-- the binding of an attribute isn't there
abbrev pub lacks_binding : List (Option VertexBinding) → Attribute → Bool
lacks_binding bindings attribute = is_none (present_at bindings attribute.binding)

-- the first attribute at a location
abbrev pub attribute_at : List LocatedAttribute → ℕ → Option Attribute
attribute_at attributes location = option_map (λ a. a.attribute) (find (λ a. a.location == location) attributes)
