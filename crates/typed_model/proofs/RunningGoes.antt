-- A running machine takes a step, and is running where it goes on.
use Rattle.std.proofs.Common.{◌≡◌, ℕ, ◌==◌, Bool, true, false, List, [], slice_index, refl, ap, ◌∙◌, subst, Some}
use Rattle.spirv_model.specs.declared.module.Inst.{Inst}
use Rattle.spirv_model.specs.declared.module.Words.{Words}
use Rattle.spirv_model.specs.declared.op.TheConstants as op
use Rattle.spirv_model.specs.Operands.{word_at, entry_of, class_of}
use Rattle.body_model.specs.Classes.{is_plain, is_terminator}
use Rattle.body_model.proofs.ClassFacts.{straight_phi, straight_variable, straight_selection_merge, straight_loop_merge, plain_is_straight}
use Rattle.valid_model.specs.Definitions.{inst_at}
use Rattle.check_model.specs.Intervals.{intervals_of}
use Rattle.check_model.specs.Validity.{IsValidList}
use Rattle.stage_model.specs.Value.{Value, Pointer}
use Rattle.stage_model.specs.Program.{Program, program_of}
use Rattle.stage_model.specs.Start.{Memory}
use Rattle.stage_model.specs.Effect.{Effect, Passes, Gives, Enters, has_result_class, effect_of}
use Rattle.stage_model.specs.Machine.{Machine, read_from, after_effect}
use Rattle.stage_model.proofs.Flows.{Suits, effect_suits}
use Rattle.typed_model.specs.Running.{IsRunning, TakesStep}
use Rattle.typed_model.proofs.BlockParts.{BlockPart, a_label, a_phi, a_variable, a_selection_merge, a_loop_merge, a_plain_one, a_terminator, another}
use Rattle.typed_model.proofs.EffectsRun.{instruction}
use Rattle.typed_model.proofs.FunctionRuns.{part_at, function_within}
use Rattle.typed_model.proofs.InstructionsRun.{Does}
use Rattle.typed_model.proofs.KeptSteps.{value_kept, value_inner, plain_kept, plain_inner, label_kept, selection_merge_kept, loop_merge_kept, variable_kept}
use Rattle.typed_model.proofs.PlainRuns.{at_op}
use Rattle.typed_model.proofs.RunningDoes.{here_does}
use Rattle.typed_model.proofs.RunningSteps.{inner_step, label_step, end_step}
use Rattle.typed_model.proofs.StepsDone.{done_by, variable_done}
use Rattle.typed_model.proofs.TypeLayouts.{same}
use Rattle.typed_model.proofs.ValidTypes.{keeps_rules, valid_types}

-- ---- the effects of labels and merge instructions

same_effect : (a b : Effect) → Some a ≡ Some b → b ≡ a
same_effect a b is = cc

abbrev Has : Program → Memory → List Value → (Inst → Effect) → Inst → Type 0
Has program memory read own inst = (effect : Effect) → effect_of program memory inst read ≡ Some effect → effect ≡ own inst

enters_words : (program : Program) (memory : Memory) (read : List Value) (words : List ℕ) → Has program memory read (λ inst. Enters (word_at 0 inst)) (instruction op.LABEL words)
unfolding effect_of
enters_words program memory read words effect is = same_effect (Enters (slice_index words 0)) effect is

selection_words : (program : Program) (memory : Memory) (read : List Value) (words : List ℕ) → Has program memory read (λ inst. Passes) (instruction op.SELECTION_MERGE words)
unfolding effect_of
selection_words program memory read words effect is = same_effect Passes effect is

loop_words : (program : Program) (memory : Memory) (read : List Value) (words : List ℕ) → Has program memory read (λ inst. Passes) (instruction op.LOOP_MERGE words)
unfolding effect_of
loop_words program memory read words effect is = same_effect Passes effect is

phi_gives : has_result_class (class_of op.PHI) ≡ true
unfolding class_of entry_of
phi_gives = refl

plain_label : is_plain op.LABEL ≡ false
unfolding class_of entry_of
plain_label = refl

-- ---- one step

-- a test of an opcode says what it says of an equal one
tested : (test : ℕ → Bool) (own : ℕ) (b : Bool) → test own ≡ b → (opcode : ℕ) → opcode == own ≡ true → test opcode ≡ b
tested test own b known opcode is = ap test (same opcode own is) ∙ known

-- the machine takes a step, and is running where it goes on
pub running_goes : (words : Words) (v : IsValidList words) (m : Machine) → IsRunning words.insts v.derivation m → TakesStep words.insts v.derivation m
running_goes words v m r = by_part (part_at words.insts v.derivation m.place r.low r.high) (here_does words v m r)
  where
    inst : Inst
    inst = inst_at words.insts m.place

    by_part : BlockPart inst → Does words.insts (read_from m.state inst.op) m.state.memory m.state.before inst → TakesStep words.insts v.derivation m
    by_part (a_label is) d =
        let within = function_within words.insts v.derivation m.place r.high in
        let e = at_op (Has (program_of words.insts) m.state.memory d.read (λ inst. Enters (word_at 0 inst))) inst op.LABEL is (enters_words (program_of words.insts) m.state.memory d.read inst.words) d.runs.effect d.runs.is in
        label_step words.insts v.derivation m r is (label_kept words.insts (intervals_of v.derivation) m.place m.state.values within (keeps_rules words v.sound m.place within).once is r.typed)
        (done_by words.insts m.state inst (read_from m.state inst.op) refl d ∙ ap (λ (effect : Effect). Some (after_effect inst m.state effect)) e)
    by_part (a_phi is) d =
        let within = function_within words.insts v.derivation m.place r.high in
        let gives = tested (λ opcode. has_result_class (class_of opcode)) op.PHI true phi_gives inst.op is in
        let no_store = another (λ opcode. opcode == op.PHI) op.STORE refl inst.op is in
        inner_step words.insts v.derivation m r (another (λ opcode. opcode == op.PHI) op.LABEL refl inst.op is) (tested is_terminator op.PHI false straight_phi inst.op is) d.runs.effect
        (value_inner (program_of words.insts) m.state.memory inst d.read d.runs.effect gives no_store d.runs.is)
        (value_kept words.insts (intervals_of v.derivation) m.place m.state.values m.state.memory d.read within (keeps_rules words v.sound m.place within).once gives no_store d.runs r.typed)
        (done_by words.insts m.state inst (read_from m.state inst.op) refl d)
    by_part (a_variable is) d =
        let within = function_within words.insts v.derivation m.place r.high in
        inner_step words.insts v.derivation m r (another (λ opcode. opcode == op.VARIABLE) op.LABEL refl inst.op is) (tested is_terminator op.VARIABLE false straight_variable inst.op is) (Gives (Pointer (slice_index inst.words 1) [])) tt
        (variable_kept words.insts (intervals_of v.derivation) m.place m.state.values (valid_types words v.sound) within (keeps_rules words v.sound m.place within).once is r.typed)
        (variable_done words.insts m.state inst is)
    by_part (a_selection_merge is) d =
        let e = at_op (Has (program_of words.insts) m.state.memory d.read (λ inst. Passes)) inst op.SELECTION_MERGE is (selection_words (program_of words.insts) m.state.memory d.read inst.words) d.runs.effect d.runs.is in
        inner_step words.insts v.derivation m r (another (λ opcode. opcode == op.SELECTION_MERGE) op.LABEL refl inst.op is) (tested is_terminator op.SELECTION_MERGE false straight_selection_merge inst.op is) Passes tt
        (selection_merge_kept words.insts (intervals_of v.derivation) m.place m.state.values is r.typed)
        (done_by words.insts m.state inst (read_from m.state inst.op) refl d ∙ ap (λ (effect : Effect). Some (after_effect inst m.state effect)) e)
    by_part (a_loop_merge is) d =
        let e = at_op (Has (program_of words.insts) m.state.memory d.read (λ inst. Passes)) inst op.LOOP_MERGE is (loop_words (program_of words.insts) m.state.memory d.read inst.words) d.runs.effect d.runs.is in
        inner_step words.insts v.derivation m r (another (λ opcode. opcode == op.LOOP_MERGE) op.LABEL refl inst.op is) (tested is_terminator op.LOOP_MERGE false straight_loop_merge inst.op is) Passes tt
        (loop_merge_kept words.insts (intervals_of v.derivation) m.place m.state.values is r.typed)
        (done_by words.insts m.state inst (read_from m.state inst.op) refl d ∙ ap (λ (effect : Effect). Some (after_effect inst m.state effect)) e)
    by_part (a_plain_one is) d =
        let within = function_within words.insts v.derivation m.place r.high in
        inner_step words.insts v.derivation m r (another is_plain op.LABEL plain_label inst.op is) (plain_is_straight inst.op is) d.runs.effect
        (plain_inner (program_of words.insts) m.state.memory inst d.read d.runs.effect is d.runs.is)
        (plain_kept words.insts (intervals_of v.derivation) m.place m.state.values m.state.memory d.read within (keeps_rules words v.sound m.place within).once is d.runs r.typed)
        (done_by words.insts m.state inst (read_from m.state inst.op) refl d)
    by_part (a_terminator is) d =
        end_step words.insts v.derivation m r is d.runs.effect (subst (Suits inst) d.runs.is (effect_suits (program_of words.insts) m.state.memory inst d.read)) (done_by words.insts m.state inst (read_from m.state inst.op) refl d)
