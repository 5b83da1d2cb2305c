-- The outcome of a stage: from the first label to the end of the invocation.
use Rattle.std.specs.Prelude.{ℕ, ◌+◌, ◌*◌, ◌==◌, Bool, false, ◌&&◌, nat_lt, if◌then◌else◌, List, [], map, length, take, replicate, slice_index, Option, None, Some}
use Rattle.std.specs.Option.{option_map, option_and_then}
use Rattle.std.specs.List.{find, position, range_with_len}
use Rattle.limits.specs.declared.TheConstants.{LOCATIONS, COMPONENTS, BACK_EDGES}
use Rattle.spirv_model.specs.declared.module.Inst.{Inst}
use Rattle.spirv_model.specs.declared.op.TheConstants as op
use Rattle.spirv_model.specs.declared.storage_class.TheConstants as class
use Rattle.spirv_model.specs.declared.builtin.TheConstants as builtin
use Rattle.spirv_model.specs.declared.decoration.TheConstants.{BUILT_IN, LOCATION}
use Rattle.state_model.specs.declared.parts.SpecValues.{SpecValues}
use Rattle.state_model.specs.declared.buffers.Buffers.{Buffers}
use Rattle.stage_model.specs.declared.inputs.Inputs.{Inputs}
use Rattle.stage_model.specs.declared.outcome.Kind.{Kind}
use Rattle.stage_model.specs.declared.outcome.Kind.TheVariants.{Done, Killed, Lost}
use Rattle.stage_model.specs.declared.outcome.Ended.{Ended}
use Rattle.stage_model.specs.Value.{Layout, size_of}
use Rattle.stage_model.specs.Program.{Program, program_of, held_layout}
use Rattle.stage_model.specs.Start.{Memory, defined_by, first_memory}
use Rattle.stage_model.specs.Machine.{State, Machine, run}

-- What an invocation is given: specialization entries, inputs and buffers.
pub record Given : Type 0 where
  pub entries : SpecValues
  pub inputs : Inputs
  pub buffers : Buffers

-- How an invocation ended, what it left, and how many back edges and steps it took.
pub record Outcome : Type 0 where
  pub kind : Kind
  pub position : List ℕ
  pub slots : List (List ℕ)
  pub back_edges : ℕ
  pub work : ℕ

-- the machine at the first block, whose label stands at this place
unfoldable pub start_at : Program → Given → ℕ → Machine
start_at program given first = record {
  place = first;
  state = record {
    label = 0;
    before = 0;
    values = defined_by program given.entries (take first program.insts);
    values_at_entry = defined_by program given.entries (take first program.insts);
    memory = first_memory program given.inputs given.buffers;
    back_edges = 0;
    steps = 0;
  };
}

-- where the first label stands
abbrev pub first_label : List Inst → Option ℕ
first_label insts = position (λ inst. inst.op == op.LABEL) insts

-- ---- what is left

-- a number is there, and is this one
abbrev pub is_number : ℕ → Option ℕ → Bool
is_number number None = false
is_number number (Some own) = own == number

-- the instruction makes an Output variable that has this word of a decoration
abbrev pub is_output_with : Program → ℕ → ℕ → Inst → Bool
is_output_with program decoration word inst =
    (inst.op == op.VARIABLE) && (slice_index inst.words 2 == class.OUTPUT) && is_number word (program.decoration (slice_index inst.words 1) decoration)

-- the Output variable with this word of a decoration
abbrev pub output_with : Program → ℕ → ℕ → Option ℕ
output_with program decoration word = option_map (λ (inst : Inst). slice_index inst.words 1) (find (is_output_with program decoration word) program.insts)

-- the words that a layout takes; none without one
abbrev pub size_in : Option Layout → ℕ
size_in None = 0
size_in (Some layout) = size_of layout

-- the four components of what a variable holds: zeros, where its type lacks them, and where there is none
abbrev pub components_left : Program → Memory → Option ℕ → List ℕ
components_left program memory None = replicate COMPONENTS 0
components_left program memory (Some variable) =
    map (λ k. if nat_lt k (size_in (held_layout program variable)) then memory variable k else 0) (range_with_len 0 COMPONENTS)

unfoldable pub position_left : Program → Memory → List ℕ
position_left program memory = components_left program memory (output_with program BUILT_IN builtin.POSITION)

unfoldable pub slots_left : Program → Memory → List (List ℕ)
slots_left program memory = map (λ location. components_left program memory (output_with program LOCATION location)) (range_with_len 0 LOCATIONS)

-- only an invocation that is done leaves something
abbrev pub left_by : Kind → Memory → Memory
left_by Done memory = memory
left_by Killed memory = λ _ _. 0
left_by Lost memory = λ _ _. 0

-- what the machine at its end leaves
abbrev pub outcome_of : Program → Kind × State → Outcome
outcome_of program (kind, state) = record {
  kind = kind;
  position = position_left program (left_by kind state.memory);
  slots = slots_left program (left_by kind state.memory);
  back_edges = state.back_edges;
  work = state.steps;
}

-- more steps than this are never needed, since an invocation is lost at its last back edge
abbrev pub enough_steps : List Inst → ℕ
enough_steps insts = (BACK_EDGES + 1) * length insts

-- the outcome of a module's instructions
unfoldable pub stage : List Inst → Given → Option Outcome
stage insts given = option_and_then
    (λ first. option_map (outcome_of (program_of insts)) (run (enough_steps insts) (program_of insts) (start_at (program_of insts) given first)))
    (first_label insts)

-- an outcome as the interpreter tells it
abbrev pub ended_of : Outcome → Ended
ended_of o = record { kind = o.kind; position = o.position; slots = o.slots; work = o.work }
