-- A valid module's instruction runs where the judgement holds: it reads values, and has an effect with them.
use Rattle.std.proofs.Common.{◌≡◌, ℕ, ◌<◌, ◌==◌, ◌||◌, Bool, true, false, List, [], ◌∷◌, length, slice_index, refl, ap, sym, ◌∙◌, subst, Option, None, Some, is_some}
use Rattle.std.specs.List.{list_all}
use Rattle.spirv_model.specs.declared.module.Inst.{Inst}
use Rattle.spirv_model.specs.declared.module.Words.{Words}
use Rattle.spirv_model.specs.declared.op.TheConstants as op
use Rattle.spirv_model.specs.declared.class.Class.{Class}
use Rattle.spirv_model.specs.declared.class.Class.TheVariants as class
use Rattle.spirv_model.specs.declared.table.TheConstants.{ROWS}
use Rattle.spirv_model.specs.Operands.{entry_of, class_in, class_of, kinds}
use Rattle.body_model.specs.Classes.{is_plain_class, is_plain, is_terminator_class, is_terminator}
use Rattle.valid_model.specs.Definitions.{inst_at}
use Rattle.valid_model.specs.Knowledge.{is_data}
use Rattle.valid_model.specs.ModuleFacts.{is_vertex, facts_of}
use Rattle.check_model.specs.Intervals.{Interval}
use Rattle.check_model.specs.Typing.{typing_of, constant_word}
use Rattle.check_model.specs.OperandTypes.{terminator_operands_fit, operands_fit_class, operands_fit}
use Rattle.check_model.specs.Visibility.{used_ids, not_visible}
use Rattle.stage_model.specs.declared.outcome.Kind.TheVariants.{Done, Killed}
use Rattle.stage_model.specs.Value.{Value}
use Rattle.stage_model.specs.Program.{program_of}
use Rattle.stage_model.specs.Start.{Values, Memory, all_values}
use Rattle.stage_model.specs.Effect.{Effect, Passes, Enters, Goes, Stops, read_ids, effect_of}
use Rattle.typed_model.specs.Types.{HasTypes, AllSuit}
use Rattle.typed_model.specs.Judgement.{AreTyped}
use Rattle.typed_model.specs.Effects.{IsTypedEffect, Runs}
use Rattle.typed_model.specs.Modules.{IsSound}
use Rattle.typed_model.proofs.BlockParts.{another}
use Rattle.typed_model.proofs.ResultIds.{in_rows, is_named, named}
use Rattle.typed_model.proofs.EffectsRun.{instruction}
use Rattle.typed_model.proofs.PlainRuns.{at_op, memory_runs, composite_runs, scalar_runs, undef_runs, conditional_runs, switch_runs}
use Rattle.typed_model.proofs.ValidTypes.{valid_types}
use Rattle.typed_model.proofs.ReadTypes.{Each}
use Rattle.typed_model.proofs.UsedReads.{IsRead, memory_reads, composite_reads, scalar_uses, conditional_reads, switch_reads}
use Rattle.typed_model.proofs.ReadValues.{IsSeen, uses_seen, typing_here, numbers_typed, has_values}

-- the instruction reads values that suit their ids, and runs with them
pub record Does (insts : List Inst) (values : Values) (memory : Memory) (before : ℕ) (inst : Inst) : Type 0 where
  pub read : List Value
  pub are : all_values values (read_ids inst.op before inst.words) ≡ Some read
  pub suit : AllSuit (program_of insts) (constant_word insts) (read_ids inst.op before inst.words) read
  pub runs : Runs (program_of insts) memory inst read

-- ---- what is known of an instruction

-- the judgement holds where it stands, and what it uses is visible
record Known (insts : List Inst) (intervals : List Interval) (place : ℕ) (values : Values) (inst : Inst) : Type 0 where
  types : HasTypes (program_of insts)
  typed : AreTyped insts intervals place values
  shaped : is_some (kinds inst) ≡ true
  seen : Each (IsSeen intervals insts place) (used_ids inst)

abbrev vertex_of : List Inst → Bool
vertex_of insts = is_vertex (facts_of insts)

fit_here : (insts : List Inst) (inst : Inst) (of : Option Class) → operands_fit (typing_of insts) inst ≡ true → class_of inst.op ≡ of → operands_fit_class (typing_here insts (vertex_of insts)) of inst ≡ true
unfolding operands_fit typing_of program_of
fit_here insts inst of fit is = sym (ap (λ (of : Option Class). operands_fit_class (typing_of insts) of inst) is) ∙ fit

known_at : (words : Words) → IsSound words → (intervals : List Interval) (place : ℕ) → place < length words.insts → not_visible intervals words.insts place ≡ None → (values : Values) → AreTyped words.insts intervals place values
    → (inst_at words.insts place).op == op.PHI ≡ false → Known words.insts intervals place values (inst_at words.insts place)
known_at words s intervals place within seen values typed isnt =
    record { types = valid_types words s.sound; typed = typed; shaped = s.shaped place within; seen = uses_seen intervals words.insts place seen isnt }

does_by : (insts : List Inst) (intervals : List Interval) (place : ℕ) (values : Values) (memory : Memory) (before : ℕ) (inst : Inst) → AreTyped insts intervals place values
    → Each (IsRead (IsSeen intervals insts place) (typing_here insts (vertex_of insts))) (read_ids inst.op before inst.words)
    → ((read : List Value) → AllSuit (program_of insts) (constant_word insts) (read_ids inst.op before inst.words) read → Runs (program_of insts) memory inst read) → Does insts values memory before inst
does_by insts intervals place values memory before inst typed reads runs =
    let h = has_values insts intervals place (vertex_of insts) values typed (read_ids inst.op before inst.words) reads in
    record { read = h.read; are = h.are; suit = h.suit; runs = runs h.read h.suit }

none_suit : (insts : List Inst) (ids : List ℕ) → ids ≡ [] → AllSuit (program_of insts) (constant_word insts) ids []
none_suit insts ids none = subst (λ ids. AllSuit (program_of insts) (constant_word insts) ids []) (sym none) tt

-- ---- plain instructions

undef_reads : (before : ℕ) (words : List ℕ) → read_ids op.UNDEF before words ≡ []
unfolding read_ids class_of entry_of
undef_reads before words = refl

undef_does : (insts : List Inst) → HasTypes (program_of insts) → (values : Values) (memory : Memory) (before : ℕ) (words : List ℕ) → is_data ((program_of insts).meaning (slice_index words 0)) ≡ true → Does insts values memory before (instruction op.UNDEF words)
undef_does insts types values memory before words fit =
    record { read = []; are = ap (all_values values) (undef_reads before words); suit = none_suit insts (read_ids op.UNDEF before words) (undef_reads before words); runs = undef_runs (program_of insts) types memory words [] fit }

plain_by : (insts : List Inst) (intervals : List Interval) (place : ℕ) (values : Values) (memory : Memory) (before : ℕ) (inst : Inst) → Known insts intervals place values inst → (of : Option Class) → class_of inst.op ≡ of
    → operands_fit_class (typing_here insts (vertex_of insts)) of inst ≡ true → is_plain_class of ≡ true → Does insts values memory before inst
plain_by insts intervals place values memory before inst k (Some class.Undef) is fit plain =
    at_op (λ inst. is_data ((program_of insts).meaning (slice_index inst.words 0)) ≡ true → Does insts values memory before inst) inst op.UNDEF (sym (ap (λ (of : Option Class). is_named of inst.op) is) ∙ named inst.op)
    (undef_does insts k.types values memory before inst.words) fit
plain_by insts intervals place values memory before inst k (Some class.Memory) is fit plain =
    does_by insts intervals place values memory before inst k.typed
    (memory_reads (IsSeen intervals insts place) (typing_here insts (vertex_of insts)) (numbers_typed insts (vertex_of insts)) before inst k.shaped fit k.seen)
    (λ read suit. memory_runs (program_of insts) k.types (constant_word insts) (vertex_of insts) memory before inst read k.shaped fit suit)
plain_by insts intervals place values memory before inst k (Some class.Composite) is fit plain =
    does_by insts intervals place values memory before inst k.typed
    (composite_reads (IsSeen intervals insts place) (typing_here insts (vertex_of insts)) before inst k.shaped fit k.seen)
    (λ read suit. composite_runs (program_of insts) k.types (constant_word insts) (vertex_of insts) memory before inst read k.shaped fit suit)
plain_by insts intervals place values memory before inst k (Some (class.Scalar operation)) is fit plain =
    does_by insts intervals place values memory before inst k.typed
    (scalar_uses (IsSeen intervals insts place) (typing_here insts (vertex_of insts)) before inst operation is k.shaped fit k.seen)
    (λ read suit. scalar_runs (program_of insts) k.types (constant_word insts) (vertex_of insts) memory before inst read operation is k.shaped fit suit)
plain_by insts intervals place values memory before inst k of is fit plain = cc

phi_class : (is_plain op.PHI ≡ false) × (is_terminator op.PHI ≡ false)
unfolding class_of entry_of
phi_class = (refl, refl)

-- a plain instruction
pub plain_does : (words : Words) → IsSound words → (intervals : List Interval) (place : ℕ) → place < length words.insts → not_visible intervals words.insts place ≡ None → (values : Values) → AreTyped words.insts intervals place values
    → (memory : Memory) (before : ℕ) → is_plain (inst_at words.insts place).op ≡ true → Does words.insts values memory before (inst_at words.insts place)
plain_does words s intervals place within seen values typed memory before plain =
    let inst = inst_at words.insts place in
    plain_by words.insts intervals place values memory before inst (known_at words s intervals place within seen values typed (another is_plain op.PHI phi_class.0 inst.op plain)) (class_of inst.op) refl
    (fit_here words.insts inst (class_of inst.op) (s.fit place within) refl) plain

-- ---- instructions that read nothing

nothing_read : (insts : List Inst) (values : Values) (memory : Memory) (before : ℕ) (inst : Inst) (effect : Effect) → read_ids inst.op before inst.words ≡ [] → effect_of (program_of insts) memory inst [] ≡ Some effect
    → IsTypedEffect (program_of insts) inst effect → Does insts values memory before inst
nothing_read insts values memory before inst effect none is typed = record { read = []; are = ap (all_values values) none; suit = none_suit insts (read_ids inst.op before inst.words) none; runs = record { effect = effect; is = is; typed = typed } }

label_words : (insts : List Inst) (values : Values) (memory : Memory) (before : ℕ) (words : List ℕ) → Does insts values memory before (instruction op.LABEL words)
unfolding read_ids class_of entry_of effect_of
label_words insts values memory before words = nothing_read insts values memory before (instruction op.LABEL words) (Enters (slice_index words 0)) refl refl tt

pub label_does : (insts : List Inst) (values : Values) (memory : Memory) (before : ℕ) (inst : Inst) → inst.op == op.LABEL ≡ true → Does insts values memory before inst
label_does insts values memory before inst is = at_op (Does insts values memory before) inst op.LABEL is (label_words insts values memory before inst.words)

selection_words : (insts : List Inst) (values : Values) (memory : Memory) (before : ℕ) (words : List ℕ) → Does insts values memory before (instruction op.SELECTION_MERGE words)
unfolding read_ids class_of entry_of effect_of
selection_words insts values memory before words = nothing_read insts values memory before (instruction op.SELECTION_MERGE words) Passes refl refl tt

pub selection_merge_does : (insts : List Inst) (values : Values) (memory : Memory) (before : ℕ) (inst : Inst) → inst.op == op.SELECTION_MERGE ≡ true → Does insts values memory before inst
selection_merge_does insts values memory before inst is = at_op (Does insts values memory before) inst op.SELECTION_MERGE is (selection_words insts values memory before inst.words)

loop_words : (insts : List Inst) (values : Values) (memory : Memory) (before : ℕ) (words : List ℕ) → Does insts values memory before (instruction op.LOOP_MERGE words)
unfolding read_ids class_of entry_of effect_of
loop_words insts values memory before words = nothing_read insts values memory before (instruction op.LOOP_MERGE words) Passes refl refl tt

pub loop_merge_does : (insts : List Inst) (values : Values) (memory : Memory) (before : ℕ) (inst : Inst) → inst.op == op.LOOP_MERGE ≡ true → Does insts values memory before inst
loop_merge_does insts values memory before inst is = at_op (Does insts values memory before) inst op.LOOP_MERGE is (loop_words insts values memory before inst.words)

-- ---- terminators

branch_words : (insts : List Inst) (values : Values) (memory : Memory) (before : ℕ) (words : List ℕ) → Does insts values memory before (instruction op.BRANCH words)
unfolding read_ids class_of entry_of effect_of
branch_words insts values memory before words = nothing_read insts values memory before (instruction op.BRANCH words) (Goes (slice_index words 0)) refl refl tt

return_words : (insts : List Inst) (values : Values) (memory : Memory) (before : ℕ) (words : List ℕ) → Does insts values memory before (instruction op.RETURN words)
unfolding read_ids class_of entry_of effect_of
return_words insts values memory before words = nothing_read insts values memory before (instruction op.RETURN words) (Stops Done) refl refl tt

unreachable_words : (insts : List Inst) (values : Values) (memory : Memory) (before : ℕ) (words : List ℕ) → Does insts values memory before (instruction op.UNREACHABLE words)
unfolding read_ids class_of entry_of effect_of
unreachable_words insts values memory before words = nothing_read insts values memory before (instruction op.UNREACHABLE words) (Stops Done) refl refl tt

kill_words : (insts : List Inst) (values : Values) (memory : Memory) (before : ℕ) (words : List ℕ) → Does insts values memory before (instruction op.KILL words)
unfolding read_ids class_of entry_of effect_of
kill_words insts values memory before words = nothing_read insts values memory before (instruction op.KILL words) (Stops Killed) refl refl tt

-- a condition or a selector is read where its type fits
abbrev Chooses : List Inst → List Interval → ℕ → Values → Memory → ℕ → Inst → Type 0
Chooses insts intervals place values memory before inst = Known insts intervals place values inst → terminator_operands_fit (typing_here insts (vertex_of insts)) inst ≡ true → Does insts values memory before inst

conditional_words : (insts : List Inst) (intervals : List Interval) (place : ℕ) (values : Values) (memory : Memory) (before : ℕ) (words : List ℕ) → Chooses insts intervals place values memory before (instruction op.BRANCH_CONDITIONAL words)
unfolding read_ids
conditional_words insts intervals place values memory before words k fit =
    does_by insts intervals place values memory before (instruction op.BRANCH_CONDITIONAL words) k.typed
    (conditional_reads (IsSeen intervals insts place) (typing_here insts (vertex_of insts)) before (instruction op.BRANCH_CONDITIONAL words) refl k.shaped fit k.seen) runs
  where
    runs : (read : List Value) → AllSuit (program_of insts) (constant_word insts) (slice_index words 0 ∷ []) read → Runs (program_of insts) memory (instruction op.BRANCH_CONDITIONAL words) read
    runs [] suit = absurd suit
    runs (value ∷ []) suit = conditional_runs (program_of insts) k.types (constant_word insts) (vertex_of insts) memory words value fit suit.0
    runs (value ∷ other ∷ more) suit = absurd suit.1

switch_words : (insts : List Inst) (intervals : List Interval) (place : ℕ) (values : Values) (memory : Memory) (before : ℕ) (words : List ℕ) → Chooses insts intervals place values memory before (instruction op.SWITCH words)
unfolding read_ids
switch_words insts intervals place values memory before words k fit =
    does_by insts intervals place values memory before (instruction op.SWITCH words) k.typed
    (switch_reads (IsSeen intervals insts place) (typing_here insts (vertex_of insts)) before (instruction op.SWITCH words) refl k.shaped fit k.seen) runs
  where
    runs : (read : List Value) → AllSuit (program_of insts) (constant_word insts) (slice_index words 0 ∷ []) read → Runs (program_of insts) memory (instruction op.SWITCH words) read
    runs [] suit = absurd suit
    runs (value ∷ []) suit = switch_runs (program_of insts) k.types (constant_word insts) (vertex_of insts) memory words value fit suit.0
    runs (value ∷ other ∷ more) suit = absurd suit.1

abbrev ends : ℕ → Bool
ends opcode = (opcode == op.BRANCH) || ((opcode == op.BRANCH_CONDITIONAL) || ((opcode == op.SWITCH) || ((opcode == op.RETURN) || ((opcode == op.UNREACHABLE) || (opcode == op.KILL)))))

abbrev ends_by : Option Class → ℕ → Bool
ends_by (Some class.Terminator) opcode = ends opcode
ends_by of opcode = true

all_end : list_all (λ row. ends_by (class_in (Some row.entry)) row.op) ROWS ≡ true
all_end = refl

ends_right : (opcode : ℕ) → ends_by (class_of opcode) opcode ≡ true
unfolding class_of entry_of
ends_right opcode = in_rows (λ opcode entry. ends_by (class_in entry) opcode) (λ opcode. refl) ROWS opcode all_end

terminator_class : (of : Option Class) → is_terminator_class of ≡ true → of ≡ Some class.Terminator
terminator_class (Some class.Terminator) is = refl
terminator_class of is = cc

by_or : {Q : Type 0} (a b : Bool) → (a || b) ≡ true → (a ≡ true → Q) → (b ≡ true → Q) → Q
by_or true b is here there = here refl
by_or false b is here there = there is

by_ending : (insts : List Inst) (intervals : List Interval) (place : ℕ) (values : Values) (memory : Memory) (before : ℕ) (inst : Inst) → ends inst.op ≡ true → Chooses insts intervals place values memory before inst
by_ending insts intervals place values memory before inst is k fit =
    let D : Inst → Type 0 = Does insts values memory before in let C : Inst → Type 0 = Chooses insts intervals place values memory before in
    by_or (inst.op == op.BRANCH) _ is (λ at. at_op D inst op.BRANCH at (branch_words insts values memory before inst.words))
    (λ rest. by_or (inst.op == op.BRANCH_CONDITIONAL) _ rest (λ at. at_op C inst op.BRANCH_CONDITIONAL at (conditional_words insts intervals place values memory before inst.words) k fit)
    (λ rest. by_or (inst.op == op.SWITCH) _ rest (λ at. at_op C inst op.SWITCH at (switch_words insts intervals place values memory before inst.words) k fit)
    (λ rest. by_or (inst.op == op.RETURN) _ rest (λ at. at_op D inst op.RETURN at (return_words insts values memory before inst.words))
    (λ rest. by_or (inst.op == op.UNREACHABLE) _ rest (λ at. at_op D inst op.UNREACHABLE at (unreachable_words insts values memory before inst.words))
    (λ at. at_op D inst op.KILL at (kill_words insts values memory before inst.words))))))

-- a terminator
pub terminator_does : (words : Words) → IsSound words → (intervals : List Interval) (place : ℕ) → place < length words.insts → not_visible intervals words.insts place ≡ None → (values : Values) → AreTyped words.insts intervals place values
    → (memory : Memory) (before : ℕ) → is_terminator (inst_at words.insts place).op ≡ true → Does words.insts values memory before (inst_at words.insts place)
terminator_does words s intervals place within seen values typed memory before is =
    let inst = inst_at words.insts place in let of = terminator_class (class_of inst.op) is in
    by_ending words.insts intervals place values memory before inst (sym (ap (λ (of : Option Class). ends_by of inst.op) of) ∙ ends_right inst.op)
    (known_at words s intervals place within seen values typed (another is_terminator op.PHI phi_class.1 inst.op is)) (fit_here words.insts inst (Some class.Terminator) (s.fit place within) of)
