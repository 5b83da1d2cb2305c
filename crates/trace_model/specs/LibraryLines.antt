-- The forms of the lines that make libraries, by their fields after the first.
use Rattle.std.specs.Prelude.{ℕ, ◌-◌, ◌^◌, ◌==◌, nat_le, if◌then◌else◌, List, [], ◌∷◌, ◌++◌, length, take, drop, replicate, codes, Option, None, Some}
use Rattle.std.specs.List.{slice_split}
use Rattle.limits.specs.declared.TheConstants.{LOCATIONS, VERTEX_BINDINGS, ENTRIES, ATTACHMENTS, MAX_STRIDE, MAX_OFFSET}
use Rattle.state_model.specs.declared.TheConstants.{VIEWS}
use Rattle.state_model.specs.declared.format.TheConstants.{FORMAT_R32_SINT}
use Rattle.state_model.specs.declared.vulkan.TheConstants.{COMPARE_OP_ALWAYS, CULL_MODE_FRONT_AND_BACK, LOGIC_OP_SET}
use Rattle.state_model.specs.declared.parts.Topology.{Topology}
use Rattle.state_model.specs.declared.parts.Topology.TheVariants.{Points, Triangles}
use Rattle.state_model.specs.declared.parts.VertexBinding.{VertexBinding}
use Rattle.state_model.specs.declared.parts.Entry.{Entry}
use Rattle.state_model.specs.declared.parts.Depth.{Depth}
use Rattle.state_model.specs.declared.parts.Attachment.{Attachment}
use Rattle.state_model.specs.Lawful.{format_components}
use Rattle.trace_model.specs.declared.limit.TheConstants.{FIRST_ATTACHMENTS, FIRST_ENTRIES}
use Rattle.trace_model.specs.declared.whole.Version.{Version}
use Rattle.trace_model.specs.declared.whole.Version.TheVariants.{First, Second}
use Rattle.trace_model.specs.Text.{◌>>=◌, word_value}
use Rattle.trace_model.specs.Fields.{exactly, at_most, number_value, range_value, below, flag_value, optional, word_choice, colon_parts, mask_value, multisample_value, colour_value}
use Rattle.trace_model.specs.Lines.{LocatedAttribute, Line, vertex_line, prerast_line, fragment_line, output_line}

-- ---- widths by version

abbrev pub attachment_count : Version → ℕ
attachment_count First = FIRST_ATTACHMENTS
attachment_count Second = ATTACHMENTS

abbrev pub entry_count : Version → ℕ
entry_count First = FIRST_ENTRIES
entry_count Second = ENTRIES

-- as many places, those behind what is there being absent
abbrev pub filled_up : {A : Type 0} → ℕ → List (Option A) → List (Option A)
filled_up count places = places ++ replicate (count - length places) None

-- ---- vertex input

abbrev pub topology_value : List ℕ → Option Topology
topology_value field =
    word_choice (codes "points") (codes "triangles") field >>= λ triangles. Some (if triangles then Triangles else Points)

-- `v:stride` or `i:stride`
abbrev pub binding_parts : List (List ℕ) → Option VertexBinding
binding_parts (rate ∷ stride ∷ []) =
    word_choice (codes "v") (codes "i") rate >>= λ per_instance.
    range_value 0 MAX_STRIDE stride >>= λ stride.
    Some (record { stride = stride; per_instance = per_instance })
binding_parts parts = None

abbrev pub binding_value : List ℕ → Option VertexBinding
binding_value field = binding_parts (colon_parts field)

-- `location:binding:format:offset`
abbrev pub attribute_parts : List (List ℕ) → Option LocatedAttribute
attribute_parts (location ∷ binding ∷ format ∷ offset ∷ []) =
    below LOCATIONS location >>= λ location.
    below VERTEX_BINDINGS binding >>= λ binding.
    colour_value format >>= λ format.
    range_value 0 MAX_OFFSET offset >>= λ offset.
    Some (record {
      location = location;
      attribute = record { binding = binding; comps = format_components format; signed = nat_le FORMAT_R32_SINT format; offset = offset };
    })
attribute_parts parts = None

abbrev pub attribute_value : List ℕ → Option LocatedAttribute
attribute_value field = attribute_parts (colon_parts field)

-- `vertex R T B B B B A*`: retain, topology, bindings, attributes
unfoldable pub vertex_form : List (List ℕ) → Option Line
vertex_form (retain ∷ topology ∷ fields) =
    flag_value retain >>= λ retain.
    topology_value topology >>= λ topology.
    exactly VERTEX_BINDINGS (optional binding_value) (take VERTEX_BINDINGS fields) >>= λ bindings.
    at_most LOCATIONS attribute_value (drop VERTEX_BINDINGS fields) >>= λ attributes.
    Some (vertex_line (record { retain = retain; topology = topology; bindings = bindings; attributes = attributes }))
vertex_form fields = None

-- ---- shaders

-- `id=W`
abbrev pub entry_parts : List (List ℕ) → Option Entry
entry_parts (id ∷ value ∷ []) =
    below (2 ^ 32) id >>= λ id. word_value value >>= λ value. Some (record { id = id; value = value })
entry_parts parts = None

abbrev pub entry_value : List ℕ → Option Entry
entry_value field = entry_parts (slice_split (λ b. b == 61) field)

abbrev pub entries_value : Version → List (List ℕ) → Option (List Entry)
entries_value version fields = at_most (entry_count version) entry_value fields

abbrev pub view_mask_value : List ℕ → Option ℕ
view_mask_value field = mask_value VIEWS field

-- `prerast R M L V D C F E*`: retain, module, layout, view mask, discard, cull, front face, entries
unfoldable pub prerast_form : Version → List (List ℕ) → Option Line
prerast_form version (retain ∷ shader ∷ layout ∷ views ∷ discard ∷ cull ∷ front ∷ entries) =
    flag_value retain >>= λ retain.
    number_value shader >>= λ shader.
    number_value layout >>= λ layout.
    view_mask_value views >>= λ views.
    flag_value discard >>= λ discard.
    range_value 0 CULL_MODE_FRONT_AND_BACK cull >>= λ cull.
    word_choice (codes "cw") (codes "ccw") front >>= λ ccw.
    entries_value version entries >>= λ entries.
    Some (prerast_line (record {
      retain = retain;
      module_number = shader;
      layout_number = layout;
      view_mask = views;
      discard = discard;
      cull = cull;
      ccw = ccw;
      entries = entries;
    }))
prerast_form version fields = None

-- `compare:write`
abbrev pub depth_parts : List (List ℕ) → Option Depth
depth_parts (compare ∷ write ∷ []) =
    range_value 0 COMPARE_OP_ALWAYS compare >>= λ compare.
    flag_value write >>= λ write.
    Some (record { compare = compare; write = write })
depth_parts parts = None

abbrev pub depth_value : List ℕ → Option Depth
depth_value field = depth_parts (colon_parts field)

-- `fragment R M L V Z N E*`: retain, module, layout, view mask, depth, multisample, entries
unfoldable pub fragment_form : Version → List (List ℕ) → Option Line
fragment_form version (retain ∷ shader ∷ layout ∷ views ∷ depth ∷ multisample ∷ entries) =
    flag_value retain >>= λ retain.
    number_value shader >>= λ shader.
    number_value layout >>= λ layout.
    view_mask_value views >>= λ views.
    optional depth_value depth >>= λ depth.
    optional multisample_value multisample >>= λ multisample.
    entries_value version entries >>= λ entries.
    Some (fragment_line (record {
      retain = retain;
      module_number = shader;
      layout_number = layout;
      view_mask = views;
      depth = depth;
      multisample = multisample;
      entries = entries;
    }))
fragment_form version fields = None

-- ---- output

-- `format:mask`
abbrev pub attachment_parts : List (List ℕ) → Option Attachment
attachment_parts (format ∷ mask ∷ []) =
    colour_value format >>= λ format.
    mask_value (format_components format) mask >>= λ mask.
    Some (record { format = format; write_mask = mask })
attachment_parts parts = None

abbrev pub attachment_value : List ℕ → Option Attachment
attachment_value field = attachment_parts (colon_parts field)

-- `output R V N G A+`: retain, view mask, multisample, logic operation, as many attachments as the version has
unfoldable pub output_form : Version → List (List ℕ) → Option Line
output_form version (retain ∷ views ∷ multisample ∷ logic ∷ attachments) =
    flag_value retain >>= λ retain.
    view_mask_value views >>= λ views.
    multisample_value multisample >>= λ multisample.
    optional (range_value 0 LOGIC_OP_SET) logic >>= λ logic.
    exactly (attachment_count version) (optional attachment_value) attachments >>= λ attachments.
    Some (output_line (record {
      retain = retain;
      view_mask = views;
      multisample = multisample;
      logic = logic;
      attachments = filled_up ATTACHMENTS attachments;
    }))
output_form version fields = None
