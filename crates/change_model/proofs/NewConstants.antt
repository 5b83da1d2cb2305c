-- The constants that come for folded instructions, and the results of what is written.
use Rattle.std.proofs.Common.{◌≡◌, ℕ, ◌==◌, true, false, refl, ap, sym, ◌∙◌, subst, Option, Some}
use Rattle.spirv_model.specs.declared.module.Inst.{Inst}
use Rattle.spirv_model.specs.declared.op.TheConstants as op
use Rattle.spirv_model.specs.Operands.{word_at, entry_of, class_of, result}
use Rattle.scalar_model.specs.declared.scalar_value.Scalar.{Scalar}
use Rattle.scalar_model.specs.declared.scalar_value.Scalar.TheVariants.{Bool as TruthOf, Word as WordOf}
use Rattle.valid_model.specs.Definitions.{inst_at}
use Rattle.stage_model.specs.Effect.{has_result_class}
use Rattle.stage_model.specs.Start.{of_scalar}
use Rattle.typed_model.proofs.ResultIds.{terminator_result, typed_result_id, defined_id}
use Rattle.change_model.specs.Constants.{scalar_constant}
use Rattle.change_model.specs.Settling.{is_plain_constant_class}
use Rattle.change_model.proofs.FoldedRuns.{differs, others, result_class}
use Rattle.change_model.proofs.Planned.{Planned, IsWritten, keeps, goes, picks, IsNewConstant, folds, nulls, choice_of, choice_ends, branches_end}
use Rattle.change_model.proofs.RenamedWords.{keeps_result, kept_result}
use Rattle.change_model.proofs.Settlings.{constant_defines}

-- ---- constants

-- a constant with this type and id
pub record IsPlainConstant (type own : ℕ) (inst : Inst) : Type 0 where
  pub class_is : is_plain_constant_class (class_of inst.op) ≡ true
  pub type_is : word_at 0 inst ≡ type
  pub id : word_at 1 inst ≡ own

record ArePlain : Type 0 where
  one_true : is_plain_constant_class (class_of op.CONSTANT_TRUE) ≡ true
  one_false : is_plain_constant_class (class_of op.CONSTANT_FALSE) ≡ true
  number : is_plain_constant_class (class_of op.CONSTANT) ≡ true
  null : is_plain_constant_class (class_of op.CONSTANT_NULL) ≡ true

are_plain : ArePlain
unfolding class_of entry_of
are_plain = record { one_true = refl; one_false = refl; number = refl; null = refl }

same_inst : (a b : Inst) → ◌≡◌ {A = Option Inst} (Some a) (Some b) → a ≡ b
same_inst a b is = cc

pub scalar_is_plain : (type own : ℕ) (scalar : Scalar) (inst : Inst) → scalar_constant type own (Some (of_scalar scalar)) ≡ Some inst → IsPlainConstant type own inst
scalar_is_plain type own (TruthOf true) inst is = subst (IsPlainConstant type own) (same_inst _ inst is) (record { class_is = are_plain.one_true; type_is = refl; id = refl })
scalar_is_plain type own (TruthOf false) inst is = subst (IsPlainConstant type own) (same_inst _ inst is) (record { class_is = are_plain.one_false; type_is = refl; id = refl })
scalar_is_plain type own (WordOf word) inst is = subst (IsPlainConstant type own) (same_inst _ inst is) (record { class_is = are_plain.number; type_is = refl; id = refl })

pub plain_result : (type own : ℕ) (inst : Inst) → IsPlainConstant type own inst → result inst ≡ Some own
plain_result type own inst c = defined_id inst (constant_defines (class_of inst.op) c.class_is) ∙ ap (λ (n : ℕ). Some n) c.id

pub new_is_plain : (g : Planned) (place : ℕ) (inst : Inst) → IsNewConstant g place inst → IsPlainConstant (word_at 0 (inst_at g.words.insts place)) (word_at 1 (inst_at g.words.insts place)) inst
new_is_plain g place inst (folds scalar same may is) = scalar_is_plain (word_at 0 (inst_at g.words.insts place)) (word_at 1 (inst_at g.words.insts place)) scalar inst is
new_is_plain g place inst (nulls same may is) =
    subst (IsPlainConstant (word_at 0 (inst_at g.words.insts place)) (word_at 1 (inst_at g.words.insts place))) is (record { class_is = are_plain.null; type_is = refl; id = refl })

-- ---- results

load_gives : (has_result_class (class_of op.LOAD) ≡ true) × (op.LOAD == op.STORE ≡ false)
unfolding class_of entry_of
load_gives = (refl, refl)

-- the instruction for which a constant comes has its type and its id in front
pub folded_result : (g : Planned) (place : ℕ) (inst : Inst) → IsNewConstant g place inst → result (inst_at g.words.insts place) ≡ Some (word_at 1 (inst_at g.words.insts place))
folded_result g place inst (folds scalar same may is) =
    typed_result_id (inst_at g.words.insts place) (result_class (class_of (inst_at g.words.insts place).op) may.is_scalar)
    (differs op.STORE (inst_at g.words.insts place).op others.store may.is_scalar)
folded_result g place inst (nulls same may is) =
    typed_result_id (inst_at g.words.insts place) (ap (λ (o : ℕ). has_result_class (class_of o)) may.is_load ∙ load_gives.0) (ap (λ (o : ℕ). o == op.STORE) may.is_load ∙ load_gives.1)

pub constant_result : (g : Planned) (place : ℕ) (inst : Inst) → IsNewConstant g place inst → result inst ≡ result (inst_at g.words.insts place)
constant_result g place inst c =
    plain_result (word_at 0 (inst_at g.words.insts place)) (word_at 1 (inst_at g.words.insts place)) inst (new_is_plain g place inst c) ∙ sym (folded_result g place inst c)

-- what is written for an instruction has the same result
pub written_result : (g : Planned) (place : ℕ) (inst : Inst) → IsWritten g place inst → result inst ≡ result (inst_at g.words.insts place)
written_result g place inst (keeps same is) =
    ap result (sym is) ∙ keeps_result _ (inst_at g.words.insts place) (kept_result g.plan g.words.insts place (inst_at g.words.insts place))
written_result g place inst (goes label same may is) =
    ap result (sym is) ∙ terminator_result _ branches_end.2
    ∙ sym (terminator_result (inst_at g.words.insts place) (choice_ends (inst_at g.words.insts place).op (choice_of g.plan g.words.insts (inst_at g.words.insts place) label may.only)))
written_result g place inst (picks label same may is) =
    ap result (sym is) ∙ terminator_result _ branches_end.1
    ∙ sym (terminator_result (inst_at g.words.insts place) (choice_ends (inst_at g.words.insts place).op (choice_of g.plan g.words.insts (inst_at g.words.insts place) label may.only)))
