-- Ids, types, constants and decorations are sound in the list that a plan makes.
use Rattle.std.proofs.Common.{◌≡◌, ℕ, ◌<◌, ◌≤◌, ◌==◌, ◌&&◌, inl, inr, Bool, true, false, not, List, [], ◌∷◌, length, refl, ap, sym, ◌∙◌, subst, arith, Option, None, Some}
use Rattle.std.proofs.lemmas.Bool.{cases_lt}
use Rattle.std.proofs.lemmas.Bool.Decides.{nat_tests}
use Rattle.std.proofs.lemmas.List.{take_all}
use Rattle.spirv_model.specs.declared.module.Inst.{Inst}
use Rattle.spirv_model.specs.declared.class.Class.TheVariants as class
use Rattle.spirv_model.specs.declared.op.TheConstants as op
use Rattle.spirv_model.specs.Operands.{word_at, entry_of, class_of}
use Rattle.scalar_model.specs.declared.scalar_value.Scalar.{Scalar}
use Rattle.scalar_model.specs.declared.scalar_value.Scalar.TheVariants.{Bool as TruthOf, Word as WordOf}
use Rattle.valid_model.specs.declared.meaning.Meaning.{Meaning}
use Rattle.valid_model.specs.declared.meaning.Meaning.TheVariants.{Absent}
use Rattle.valid_model.specs.Constants.{constant_fits, breaks_constants}
use Rattle.valid_model.specs.Definitions.{inst_at}
use Rattle.valid_model.specs.FirstFault.{bad_constant, type_fault_at, type_fault}
use Rattle.valid_model.specs.Knowledge.{Knowledge, is_data, meaning_in}
use Rattle.valid_model.specs.Meanings.{is_constant, known_by, known_before, meaning}
use Rattle.valid_model.specs.Shapes.{pointee_id}
use Rattle.check_model.specs.MemoryOperands.{load_fits, memory_operands_fit}
use Rattle.check_model.specs.Typing.{Typing, constant_word, type_of}
use Rattle.stage_model.specs.Program.{program_of}
use Rattle.stage_model.specs.Start.{of_scalar}
use Rattle.typed_model.specs.Types.{typing_in}
use Rattle.typed_model.proofs.EffectsRun.{instruction}
use Rattle.typed_model.proofs.MemoryValues.{pointer_operand}
use Rattle.typed_model.proofs.PlainRuns.{at_op}
use Rattle.typed_model.proofs.TypeLayouts.{word_is}
use Rattle.typed_model.proofs.ValidModules.{valid_sound}
use Rattle.typed_model.proofs.ValidTypes.{valid_types}
use Rattle.change_model.specs.Constants.{scalar_constant}
use Rattle.change_model.specs.Folding.{function_at}
use Rattle.change_model.specs.Plans.{changed}
use Rattle.change_model.proofs.AlikeTypes.{ByShape, data_by}
use Rattle.change_model.proofs.BehindLevel.{BehindLevel, new_one, written_one, behind_level}
use Rattle.change_model.proofs.ChangedDeclared.{types_changed}
use Rattle.change_model.proofs.ChangedDecorated.{decorations_stay}
use Rattle.change_model.proofs.ChangedDefinitions.{once_changed}
use Rattle.change_model.proofs.ChangedIds.{bounded_changed}
use Rattle.change_model.proofs.ChangedMeanings.{alone_old}
use Rattle.change_model.proofs.ChangedSound.{level_constants}
use Rattle.change_model.proofs.ChangedTypes.{type_behind}
use Rattle.change_model.proofs.ConstantsSound.{no_fault, no_rule_fault}
use Rattle.change_model.proofs.FoldedRules.{no_constant}
use Rattle.change_model.proofs.LevelScalars.{is_type_of, type_of_by, passed_by_shape}
use Rattle.change_model.proofs.Planned.{Planned, IsWritten, keeps, goes, picks, IsNewConstant, folds, nulls}
use Rattle.change_model.proofs.PlanRunsReads.{vertex_of, fit_here, means}
use Rattle.change_model.proofs.RenamedWords.{kept_result}
use Rattle.change_model.proofs.ScalarsFit.{folds_fit}

-- ---- what is said of a type is said of it behind the level

said_later : (g : Planned) (says : Meaning → Bool) → ByShape says → says Absent ≡ false → (k id : ℕ) → function_at g.words.insts ≤ k → says (meaning g.words.insts id) ≡ true → says (meaning_in (known_before (changed g.plan g.words.insts) k id)) ≡ true
said_later g says by none k id late is =
    let insts = g.words.insts in
    let s = passed_by_shape says by none (meaning insts id) is in
    ap says (type_behind g (length insts) k id s.0 late (ap (λ (l : List Inst). meaning_in (known_by l id)) (take_all (length insts) insts (omega arith)) ∙ s.1)) ∙ ap says (sym s.1) ∙ is

-- ---- nulls

load_rule : (typing : Typing) (words : List ℕ) → memory_operands_fit typing (instruction op.LOAD words) ≡ true → load_fits typing (word_at 0 (instruction op.LOAD words)) (word_at 2 (instruction op.LOAD words)) ≡ true
unfolding memory_operands_fit
load_rule typing words fits = fits

memory_class : class_of op.LOAD ≡ Some class.Memory
unfolding class_of entry_of
memory_class = refl

same_op : (opcode own : ℕ) → opcode ≡ own → opcode == own ≡ true
same_op opcode own is = grind (arith, nat_tests)

-- the type of a load that is a null may be null
null_type : (g : Planned) (k : ℕ) → k < length g.words.insts → (inst_at g.words.insts k).op ≡ op.LOAD → is_data (meaning g.words.insts (word_at 0 (inst_at g.words.insts k))) ≡ true
null_type g k within load =
    let insts = g.words.insts in
    let inst = inst_at insts k in
    let program = program_of insts in
    let vertex = vertex_of insts in
    let typing = typing_in program (constant_word insts) vertex in
    let fit = fit_here insts inst (Some class.Memory) ((valid_sound g.words g.valid).fit k within) (ap class_of load ∙ memory_class) in
    let loads = at_op (λ inst. memory_operands_fit typing inst ≡ true → load_fits typing (word_at 0 inst) (word_at 2 inst) ≡ true) inst op.LOAD (same_op inst.op op.LOAD load) (load_rule typing inst.words) fit in
    let p = pointer_operand program (constant_word insts) vertex (word_at 2 inst) (word_at 0 inst) (word_is (word_at 0 inst) (pointee_id (type_of typing (word_at 2 inst))) loads) in
    sym (ap is_data (means insts (word_at 0 inst))) ∙ (valid_types g.words g.valid.sound).pointee p.type p.class (word_at 0 inst) p.means

-- ---- new constants

same_inst : (a b : Inst) → ◌≡◌ {A = Option Inst} (Some a) (Some b) → a ≡ b
same_inst a b is = cc

scalar_known : (known : Knowledge) (type own : ℕ) (scalar : Scalar) (inst : Inst) → scalar_constant type own (Some (of_scalar scalar)) ≡ Some inst → is_type_of scalar (meaning_in (known type)) ≡ true → constant_fits known inst ≡ true
unfolding constant_fits
scalar_known known type own (TruthOf true) inst is fits = subst (λ (i : Inst). constant_fits known i ≡ true) (same_inst _ inst is) fits
scalar_known known type own (TruthOf false) inst is fits = subst (λ (i : Inst). constant_fits known i ≡ true) (same_inst _ inst is) fits
scalar_known known type own (WordOf word) inst is fits = subst (λ (i : Inst). constant_fits known i ≡ true) (same_inst _ inst is) fits

null_known : (known : Knowledge) (type own : ℕ) → is_data (meaning_in (known type)) ≡ true → constant_fits known (record { op = op.CONSTANT_NULL; words = type ∷ own ∷ [] }) ≡ true
unfolding constant_fits
null_known known type own fits = fits

new_fits : (g : Planned) (k old : ℕ) (inst : Inst) → function_at g.words.insts ≤ k → old < length g.words.insts → IsNewConstant g old inst → constant_fits (known_before (changed g.plan g.words.insts) k) inst ≡ true
new_fits g k old inst late within (folds scalar same may is) =
    let type = word_at 0 (inst_at g.words.insts old) in
    scalar_known (known_before (changed g.plan g.words.insts) k) type (word_at 1 (inst_at g.words.insts old)) scalar inst is
    (said_later g (is_type_of scalar) (type_of_by scalar) (of_none scalar) k type late (folds_fit g old scalar same))
  where
    of_none : (scalar : Scalar) → is_type_of scalar Absent ≡ false
    of_none (TruthOf b) = refl
    of_none (WordOf word) = refl
new_fits g k old inst late within (nulls same may is) =
    let type = word_at 0 (inst_at g.words.insts old) in
    let known = known_before (changed g.plan g.words.insts) k in
    subst (λ (i : Inst). constant_fits known i ≡ true) is
    (null_known known type (word_at 1 (inst_at g.words.insts old)) (said_later g is_data data_by refl k type late (null_type g old within may.is_load)))

-- ---- constants

branch_constant : (is_constant op.BRANCH ≡ false) × (is_constant op.SWITCH ≡ false)
unfolding class_of entry_of
branch_constant = (refl, refl)

-- what is written for the function is no constant
no_constant_written : (g : Planned) (old : ℕ) (inst : Inst) → IsWritten g old inst → function_at g.words.insts ≤ old → old < length g.words.insts → is_constant inst.op ≡ false
no_constant_written g old inst (keeps same is) low within =
    ap (λ (i : Inst). is_constant i.op) (sym is) ∙ ap is_constant (kept_result g.plan g.words.insts old (inst_at g.words.insts old)).op ∙ (alone_old g old low within).1
no_constant_written g old inst (goes label same may is) low within = ap (λ (i : Inst). is_constant i.op) (sym is) ∙ branch_constant.0
no_constant_written g old inst (picks label same may is) low within = ap (λ (i : Inst). is_constant i.op) (sym is) ∙ branch_constant.1

fit_constant : (known : Knowledge) (inst : Inst) → constant_fits known inst ≡ true → breaks_constants known inst ≡ false
fit_constant known inst fits = ap (λ (b : Bool). is_constant inst.op && not b) fits ∙ neither (is_constant inst.op)
  where
    neither : (b : Bool) → (b && false) ≡ false
    neither true = refl
    neither false = refl

-- each constant of the new list fits its type
pub constants_changed : (g : Planned) (k : ℕ) → k < length (changed g.plan g.words.insts) → bad_constant (changed g.plan g.words.insts) k ≡ false
unfolding bad_constant
constants_changed g k within = elim (cases_lt k (function_at g.words.insts)) [ inl low ↦ level_constants g k low | inr late ↦ by_kind late (behind_level g k late within) ]
  where
    list : List Inst
    list = changed g.plan g.words.insts

    by_kind : function_at g.words.insts ≤ k → BehindLevel g k → breaks_constants (known_before list k) (inst_at list k) ≡ false
    by_kind late (new_one old inst n least most there at) = ap (breaks_constants (known_before list k)) at ∙ fit_constant (known_before list k) inst (new_fits g k old inst late most n)
    by_kind late (written_one old inst w least most there at) = ap (breaks_constants (known_before list k)) at ∙ no_constant (known_before list k) inst (no_constant_written g old inst w least most)

-- ---- all of it

sound_at : (g : Planned) (k : ℕ) → k < length (changed g.plan g.words.insts) → type_fault_at (record { bound = g.words.bound; insts = changed g.plan g.words.insts }) k ≡ None
sound_at g k within =
    no_rule_fault (record { bound = g.words.bound; insts = changed g.plan g.words.insts }) k (once_changed g k within) (bounded_changed g k within) (types_changed g k within) (constants_changed g k within) (decorations_stay g k within)

pub plan_sound : (g : Planned) → type_fault (record { bound = g.words.bound; insts = changed g.plan g.words.insts }) ≡ None
unfolding type_fault
plan_sound g = no_fault (type_fault_at (record { bound = g.words.bound; insts = changed g.plan g.words.insts })) (length (changed g.plan g.words.insts)) (sound_at g)
