-- What runs is done: the machine reads its values, and has its effect.
use Rattle.std.proofs.Common.{◌≡◌, ℕ, ◌==◌, Bool, true, false, if◌then◌else◌, List, [], slice_index, refl, ap, ◌∙◌, Option, Some}
use Rattle.std.specs.Option.{option_map, option_and_then}
use Rattle.spirv_model.specs.declared.module.Inst.{Inst}
use Rattle.spirv_model.specs.declared.op.TheConstants as op
use Rattle.spirv_model.specs.Operands.{entry_of, class_of}
use Rattle.stage_model.specs.Value.{Value, Pointer}
use Rattle.stage_model.specs.Program.{program_of}
use Rattle.stage_model.specs.Start.{Values, all_values}
use Rattle.stage_model.specs.Effect.{Gives, read_ids, effect_of}
use Rattle.stage_model.specs.Machine.{State, read_from, read_values, after_effect, done}
use Rattle.typed_model.proofs.EffectsRun.{instruction}
use Rattle.typed_model.proofs.PlainRuns.{at_op}
use Rattle.typed_model.proofs.InstructionsRun.{Does}

-- what runs with the values that it reads is done
pub done_by : (insts : List Inst) (state : State) (inst : Inst) (values : Values) → read_from state inst.op ≡ values → (d : Does insts values state.memory state.before inst)
    → done (program_of insts) inst state ≡ Some (after_effect inst state d.runs.effect)
unfolding done read_values
done_by insts state inst values from d =
    ap (λ (v : Values). option_map (after_effect inst state) (option_and_then (effect_of (program_of insts) state.memory inst) (all_values v (read_ids inst.op state.before inst.words)))) from
    ∙ (ap (λ (o : Option (List Value)). option_map (after_effect inst state) (option_and_then (effect_of (program_of insts) state.memory inst) o)) d.are ∙ ap (option_map (after_effect inst state)) d.runs.is)

pub reads_now : (state : State) (b : Bool) → b ≡ false → (if b then state.values_at_entry else state.values) ≡ state.values
reads_now state true isnt = cc
reads_now state false isnt = refl

pub reads_entry : (state : State) (b : Bool) → b ≡ true → (if b then state.values_at_entry else state.values) ≡ state.values_at_entry
reads_entry state true is = refl
reads_entry state false is = cc

-- phis aside, an instruction that runs with the values of ids is done
pub instruction_done : (insts : List Inst) (state : State) (inst : Inst) → inst.op == op.PHI ≡ false → (d : Does insts state.values state.memory state.before inst) → done (program_of insts) inst state ≡ Some (after_effect inst state d.runs.effect)
instruction_done insts state inst isnt d = done_by insts state inst state.values (reads_now state (inst.op == op.PHI) isnt) d

-- a phi that runs with those at its block's entry is
pub phi_done : (insts : List Inst) (state : State) (inst : Inst) → inst.op == op.PHI ≡ true → (d : Does insts state.values_at_entry state.memory state.before inst) → done (program_of insts) inst state ≡ Some (after_effect inst state d.runs.effect)
phi_done insts state inst is d = done_by insts state inst state.values_at_entry (reads_entry state (inst.op == op.PHI) is) d

abbrev IsPointed : List Inst → State → Inst → Type 0
IsPointed insts state inst = done (program_of insts) inst state ≡ Some (after_effect inst state (Gives (Pointer (slice_index inst.words 1) [])))

variable_words : (insts : List Inst) (state : State) (words : List ℕ) → IsPointed insts state (instruction op.VARIABLE words)
unfolding done read_values read_ids class_of entry_of effect_of
variable_words insts state words = refl

-- OpVariable is done, whatever the values are
pub variable_done : (insts : List Inst) (state : State) (inst : Inst) → inst.op == op.VARIABLE ≡ true → IsPointed insts state inst
variable_done insts state inst is = at_op (IsPointed insts state) inst op.VARIABLE is (variable_words insts state inst.words)
