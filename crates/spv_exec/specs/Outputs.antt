-- Where the words of output variables lie in the memory.
use Rattle.std.specs.Prelude.{◌≡◌, ℕ, ◌+◌, ◌<◌, ◌==◌, Bool, true, false, nat_lt, if◌then◌else◌, List, length, take, map, replicate, slice_index, slice_index_or, Option, None, Some}
use Rattle.std.specs.List.{find, range_with_len}
use Rattle.limits.specs.declared.TheConstants.{LOCATIONS, COMPONENTS}
use Rattle.spirv_model.specs.declared.module.Inst.{Inst}
use Rattle.spirv_model.specs.declared.op.TheConstants.{VARIABLE}
use Rattle.spirv_model.specs.declared.builtin.TheConstants as builtin
use Rattle.spirv_model.specs.declared.decoration.TheConstants.{BUILT_IN, LOCATION}
use Rattle.valid_model.specs.Definitions.{inst_at}
use Rattle.stage_model.specs.Program.{Program, program_of}
use Rattle.stage_model.specs.Stage.{is_output_with}
use Rattle.frame_model.specs.Frame.{memory_place, variable_words}
use Rattle.spv_exec.specs.declared.outputs.Output.{Output}
use Rattle.spv_exec.specs.declared.outputs.Outputs.{Outputs}

-- the first of two that is there
abbrev pub first_or : Option Output → Bool → Output → Option Output
first_or (Some first) is output = Some first
first_or None true output = Some output
first_or None false output = None

-- an output lies where the variable that an instruction makes does
pub record IsOutputOf (program : Program) (inst : Inst) (output : Output) : Type 0 where
  pub place : ℕ
  pub within : place < length program.insts
  pub at : inst_at program.insts place ≡ inst
  pub makes : inst.op == VARIABLE ≡ true
  pub start : output.start ≡ memory_place program place
  pub count : output.count ≡ variable_words program inst

abbrev pub IsOutput : Program → Option Inst → Option Output → Type 0
IsOutput program None None = Unit {0}
IsOutput program (Some inst) (Some output) = IsOutputOf program inst output
IsOutput program found output = ⊥

-- the first variables among so many instructions
pub record AreOutputs (insts : List Inst) (count : ℕ) (outputs : Outputs) : Type 0 where
  pub position : IsOutput (program_of insts) (find (is_output_with (program_of insts) BUILT_IN builtin.POSITION) (take count insts)) outputs.position
  pub length_is : length outputs.slots ≡ LOCATIONS
  pub slots : (k : ℕ) → k < LOCATIONS → IsOutput (program_of insts) (find (is_output_with (program_of insts) LOCATION k) (take count insts)) (slice_index_or outputs.slots k None)

-- a component of what an output holds
abbrev pub component_at : List ℕ → Output → ℕ → ℕ
component_at memory output k = if nat_lt k output.count then slice_index memory (output.start + k) else 0

abbrev pub components_at : List ℕ → Option Output → List ℕ
components_at memory None = replicate COMPONENTS 0
components_at memory (Some output) = map (component_at memory output) (range_with_len 0 COMPONENTS)

abbrev pub slots_at : List ℕ → List (Option Output) → List (List ℕ)
slots_at memory outputs = map (λ location. components_at memory (slice_index_or outputs location None)) (range_with_len 0 LOCATIONS)
