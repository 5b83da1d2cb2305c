-- The pipes of a trace: the libraries that each is given, their state, and their key.
use Rattle.std.specs.Prelude.{ℕ, List, [], Option, None, Some, slice_index_or, slice_get}
use Rattle.std.specs.List.{filter_map}
use Rattle.std.specs.Option.{option_map, option_map_or, option_and_then}
use Rattle.spirv_model.specs.declared.module.Inst.{Inst}
use Rattle.state_model.specs.declared.parts.VertexPart.{VertexPart}
use Rattle.state_model.specs.declared.parts.OutputPart.{OutputPart}
use Rattle.state_model.specs.declared.parts.State.{State}
use Rattle.state_model.specs.Link.{PrerastLibrary, FragmentLibrary, Libraries}
use Rattle.state_model.specs.PipeKey.{state_if_linked, key_if_linked}
use Rattle.check_model.specs.Interfaces.{inputs_of, outputs_of}
use Rattle.trace_model.specs.declared.whole.Library.{Library}
use Rattle.trace_model.specs.declared.whole.Library.TheVariants as library
use Rattle.trace_model.specs.declared.whole.Trace.{Trace}
use Rattle.trace_model.specs.SpecIds.{spec_ids_of}

-- the instructions of the module with a number
abbrev pub module_insts : Trace → ℕ → List Inst
module_insts trace number = option_map_or (λ m. m.insts) (slice_get trace.modules number) []

-- ---- libraries, by subset

abbrev pub vertex_in : Library → Option VertexPart
vertex_in (library.Vertex part) = Some part
vertex_in other = None

abbrev pub output_in : Library → Option OutputPart
output_in (library.Output part) = Some part
output_in other = None

-- with the interface of its module
abbrev pub prerast_in : Trace → Library → Option PrerastLibrary
prerast_in trace (library.Prerast part) =
    Some (record {
      part = part;
      inputs = inputs_of (module_insts trace part.«module»);
      outputs = outputs_of (module_insts trace part.«module»);
    })
prerast_in trace other = None

abbrev pub fragment_in : Trace → Library → Option FragmentLibrary
fragment_in trace (library.Fragment part) =
    Some (record {
      part = part;
      inputs = inputs_of (module_insts trace part.«module»);
      outputs = outputs_of (module_insts trace part.«module»);
    })
fragment_in trace other = None

abbrev pub libraries_by_subset : Trace → List Library → Libraries
libraries_by_subset trace given = record {
  vertex = filter_map vertex_in given;
  prerast = filter_map (prerast_in trace) given;
  fragment = filter_map (fragment_in trace) given;
  output = filter_map output_in given;
}

-- ---- a pipe, by its number

unfoldable pub pipe_libraries : Trace → ℕ → Libraries
pipe_libraries trace pipe = libraries_by_subset trace (filter_map (slice_get trace.libs) (slice_index_or trace.pipes pipe []))

-- its state, where it links
unfoldable pub pipe_state : Trace → ℕ → Option State
pipe_state trace pipe = state_if_linked (pipe_libraries trace pipe)

-- the modules of a state
abbrev pub vertex_insts : Trace → State → List Inst
vertex_insts trace state = module_insts trace state.prerast.«module»

abbrev pub fragment_insts : Trace → State → Option (List Inst)
fragment_insts trace state = option_map (λ part. module_insts trace part.«module») state.fragment

-- the numbers that they declare
abbrev pub vertex_ids : Trace → State → List ℕ
vertex_ids trace state = spec_ids_of (vertex_insts trace state)

abbrev pub fragment_ids : Trace → State → List ℕ
fragment_ids trace state = option_map_or spec_ids_of (fragment_insts trace state) []

-- its key, where it links
unfoldable pub pipe_key : Trace → ℕ → Option (List ℕ)
pipe_key trace pipe = option_and_then
    (λ state. key_if_linked (vertex_ids trace state) (fragment_ids trace state) (pipe_libraries trace pipe)) (pipe_state trace pipe)
