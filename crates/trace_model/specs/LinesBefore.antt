-- What the lines before a line have made: the trace so far, and the layouts, which a trace keeps in its libraries alone. Each
-- line adds something to it.
use Rattle.std.specs.Prelude.{ℕ, false, ◌==◌, slice_index_or, List, [], ◌∷◌, ◌++◌, map, replicate, Option, None, Some, Result, Ok, Err}
use Rattle.std.specs.List.{find, range_with_len}
use Rattle.std.specs.Option.{option_map}
use Rattle.limits.specs.declared.TheConstants.{LOCATIONS, DESCRIPTOR_SETS, ENTRIES}
use Rattle.spirv_model.specs.declared.module.Words.{Words}
use Rattle.state_model.specs.declared.parts.Attribute.{Attribute}
use Rattle.state_model.specs.declared.parts.Layout.{Layout}
use Rattle.state_model.specs.declared.parts.Entry.{Entry}
use Rattle.state_model.specs.declared.parts.SpecValues.{SpecValues}
use Rattle.state_model.specs.declared.parts.VertexPart.{VertexPart}
use Rattle.state_model.specs.declared.parts.PrerastPart.{PrerastPart}
use Rattle.state_model.specs.declared.parts.FragmentPart.{FragmentPart}
use Rattle.check_model.specs.declared.fault.CheckFault.{CheckFault}
use Rattle.trace_model.specs.declared.whole.Library.{Library}
use Rattle.trace_model.specs.declared.whole.Library.TheVariants as library
use Rattle.trace_model.specs.declared.whole.Trace.{Trace}
use Rattle.trace_model.specs.Lines.{LocatedAttribute, VertexLine, PrerastLine, FragmentLine, Line, data_line, code_line, layout_line, vertex_line, prerast_line, fragment_line, output_line, pipe_line, target_line, step_line}
use Rattle.trace_model.specs.LibraryLines.{filled_up}

pub record Before : Type 0 where
  pub layouts : List Layout
  pub trace : Trace

abbrev pub nothing_before : Before
nothing_before = record {
  layouts = [];
  trace = record { modules = []; buffers = record { list = [] }; libs = []; pipes = []; targets = []; steps = [] };
}

-- ---- libraries

-- the layout with a number; that there is one is asked before
abbrev pub layout_at : Before → ℕ → Layout
layout_at before number =
    slice_index_or before.layouts number (record { independent = false; push_words = 0; sets = replicate DESCRIPTOR_SETS None })

-- by location
abbrev pub by_location : List LocatedAttribute → List (Option Attribute)
by_location attributes =
    map (λ location. option_map (λ a. a.attribute) (find (λ a. a.location == location) attributes)) (range_with_len 0 LOCATIONS)

abbrev pub entries_in : List Entry → SpecValues
entries_in entries = record { entries = filled_up ENTRIES (map Some entries) }

abbrev pub vertex_part : VertexLine → VertexPart
vertex_part line =
    record { retain = line.retain; topology = line.topology; bindings = line.bindings; attributes = by_location line.attributes }

abbrev pub prerast_part : Before → PrerastLine → PrerastPart
prerast_part before line = record {
  retain = line.retain;
  «module» = line.module_number;
  layout = layout_at before line.layout_number;
  view_mask = line.view_mask;
  discard = line.discard;
  cull = line.cull;
  ccw = line.ccw;
  entries = entries_in line.entries;
}

abbrev pub fragment_part : Before → FragmentLine → FragmentPart
fragment_part before line = record {
  retain = line.retain;
  «module» = line.module_number;
  layout = layout_at before line.layout_number;
  view_mask = line.view_mask;
  depth = line.depth;
  multisample = line.multisample;
  entries = entries_in line.entries;
}

-- ---- what a line adds

abbrev pub with_trace : Before → Trace → Before
with_trace before trace = record before { trace = trace }

abbrev pub with_library : Before → Library → Before
with_library before library = with_trace before (record before.trace { libs = before.trace.libs ++ library ∷ [] })

-- a module that is valid
abbrev pub with_module : Before → Result Words CheckFault → Before
with_module before (Ok read) = with_trace before (record before.trace { modules = before.trace.modules ++ read ∷ [] })
with_module before (Err fault) = before

abbrev pub with_buffer : Before → List ℕ → Before
with_buffer before words =
    with_trace before (record before.trace { buffers = record { list = before.trace.buffers.list ++ words ∷ [] } })

-- what stands before the next line: `judge` says of words whether they are a valid module
unfoldable pub after_line : (List ℕ → Result Words CheckFault) → Before → Line → Before
after_line judge before (data_line words) = with_buffer before words
after_line judge before (code_line words) = with_module before (judge words)
after_line judge before (layout_line layout) = record before { layouts = before.layouts ++ layout ∷ [] }
after_line judge before (vertex_line line) = with_library before (library.Vertex (vertex_part line))
after_line judge before (prerast_line line) = with_library before (library.Prerast (prerast_part before line))
after_line judge before (fragment_line line) = with_library before (library.Fragment (fragment_part before line))
after_line judge before (output_line part) = with_library before (library.Output part)
after_line judge before (pipe_line numbers) = with_trace before (record before.trace { pipes = before.trace.pipes ++ numbers ∷ [] })
after_line judge before (target_line recorder target) =
    with_trace before (record before.trace { targets = before.trace.targets ++ (recorder, target) ∷ [] })
after_line judge before (step_line recorder step) =
    with_trace before (record before.trace { steps = before.trace.steps ++ (recorder, step) ∷ [] })
