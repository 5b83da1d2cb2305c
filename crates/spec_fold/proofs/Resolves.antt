-- Nothing but a phi resolves.
use Rattle.std.proofs.Common.{◌≡◌, ℕ, suc, ◌+◌, ◌-◌, ◌<◌, ◌==◌, ◌&&◌, ◌||◌, inl, inr, not, List, sym, ◌∙◌, Option, None, Some}
use Rattle.std.specs.Option.{option_and_then}
use Rattle.std.proofs.lemmas.Bool.{cases_lt, eqb-true}
use Rattle.spirv_model.specs.declared.module.Inst.{Inst}
use Rattle.spirv_model.specs.declared.module.Words.{Words}
use Rattle.spirv_model.specs.declared.op.TheConstants as op
use Rattle.scalar_model.specs.declared.scalar_value.Scalar.{Scalar}
use Rattle.scalar_model.specs.Scalars.{scalar_result}
use Rattle.spirv_model.specs.Operands.{class_of, word_at, words_from}
use Rattle.valid_model.specs.Definitions.{inst_at}
use Rattle.check_model.specs.Intervals.{Interval, intervals_of}
use Rattle.check_model.specs.Validity.{IsValidList}
use Rattle.change_model.specs.declared.fate.Fate.{Fate}
use Rattle.change_model.specs.declared.fate.Fate.TheVariants as fate
use Rattle.change_model.specs.Folding.{all_constants}
use Rattle.change_model.specs.Plans.{Plan, is_dead}
use Rattle.change_model.specs.PlanRules.{is_skipped, is_zero_input, root_of}
use Rattle.unit_model.specs.ConstantScalars.{is_behind, is_scalar_class}
use Rattle.change_model.specs.Passes.{chosen_way, fate_alive, fate_found, folds_to, goes_to, has_one_way, held_at, is_free, is_label, is_named_before, known_before, leaving_to, opens, picks_one, skips_to, switched_way, test_fate, way_behind}
use Rattle.change_model.proofs.FoundOrigins.{choose}
use Rattle.spec_fold.specs.Walks.{IsFoundBefore}

-- the fate isn't Resolves, or the instruction is a phi
record Phi (insts : List Inst) (place : ℕ) (what : Fate) : Type 0 where
  is : what ≡ fate.Resolves → (inst_at insts place).op ≡ op.PHI

module _ (insts : List Inst) (place : ℕ) where
  dead : Phi insts place fate.Dead
  dead = record { is = λ is. cc }

  stays : Phi insts place fate.Stays
  stays = record { is = λ is. cc }

  by_way : (way : Option ℕ) → Phi insts place (goes_to way)
  by_way None = stays
  by_way (Some label) = record { is = λ is. cc }

  by_skip : (way : Option ℕ) → Phi insts place (skips_to way)
  by_skip None = stays
  by_skip (Some label) = record { is = λ is. cc }

  by_pick : (way : Option ℕ) → Phi insts place (picks_one way)
  by_pick None = stays
  by_pick (Some label) = record { is = λ is. cc }

  by_scalar : (known : Option Scalar) → Phi insts place (folds_to known)
  by_scalar None = stays
  by_scalar (Some scalar) = record { is = λ is. cc }

  by_test : (held : Option ℕ) → Phi insts place (test_fate insts place held)
  by_test None = stays
  by_test (Some merge) = choose (Phi insts place) (is_label merge (leaving_to insts place)) (λ _. record { is = λ is. cc }) (λ _. stays)

  alive : (intervals : List Interval) (zeros : List ℕ) (plan : Plan) → Phi insts place (fate_alive intervals insts zeros plan place)
  alive intervals zeros plan =
      let inst = inst_at insts place in
      choose (Phi insts place) (inst.op == op.PHI) (λ is. record { is = λ _. eqb-true inst.op op.PHI is })
      (λ _. choose (Phi insts place) (inst.op == op.LOAD)
      (λ _. choose (Phi insts place) (is_zero_input insts zeros (root_of insts (word_at 2 inst))) (λ _. record { is = λ is. cc }) (λ _. stays))
      (λ _. choose (Phi insts place) (inst.op == op.ACCESS_CHAIN)
      (λ _. choose (Phi insts place) (is_zero_input insts zeros (word_at 2 inst)) (λ _. record { is = λ is. cc }) (λ _. stays))
      (λ _. choose (Phi insts place) (inst.op == op.SELECTION_MERGE)
      (λ _. choose (Phi insts place) (is_free insts place) (λ _. by_skip (way_behind intervals insts plan (suc place))) (λ _. stays))
      (λ _. choose (Phi insts place) (inst.op == op.LOOP_MERGE)
      (λ _. choose (Phi insts place) (opens insts place) (λ _. record { is = λ is. cc }) (λ _. stays))
      (λ _. choose (Phi insts place) (inst.op == op.BRANCH_CONDITIONAL)
      (λ _. choose (Phi insts place) (not (is_behind op.SELECTION_MERGE insts place)) (λ _. by_test (held_at insts place))
      (λ _. choose (Phi insts place) (is_skipped (plan.fate (place - 1))) (λ _. by_way (chosen_way plan insts place)) (λ _. stays)))
      (λ _. choose (Phi insts place) (inst.op == op.SWITCH)
      (λ _. choose (Phi insts place) (is_skipped (plan.fate (place - 1))) (λ _. by_way (switched_way plan insts place))
      (λ _. choose (Phi insts place) (is_free insts place && not (has_one_way inst)) (λ _. by_pick (switched_way plan insts place)) (λ _. stays)))
      (λ _. choose (Phi insts place) (is_scalar_class (class_of inst.op))
      (λ _. by_scalar (option_and_then (scalar_result inst.op) (all_constants (known_before plan insts place) (words_from 2 inst)))) (λ _. stays))))))))

  found : (intervals : List Interval) (zeros : List ℕ) (first : ℕ) (plan : Plan) → Phi insts place (fate_found intervals insts zeros first plan place)
  unfolding fate_found
  found intervals zeros first plan =
      choose (Phi insts place) ((inst_at insts place).op == op.LABEL)
      (λ _. choose (Phi insts place) ((place == first) || is_named_before plan insts place) (λ _. stays) (λ _. dead))
      (λ _. choose (Phi insts place) (is_dead (plan.fate (place - 1))) (λ _. dead) (λ _. alive intervals zeros plan))

  pub found_phi : (intervals : List Interval) (zeros : List ℕ) (first : ℕ) (plan : Plan) → fate_found intervals insts zeros first plan place ≡ fate.Resolves → (inst_at insts place).op ≡ op.PHI
  found_phi intervals zeros first plan is = (found intervals zeros first plan).is is

pub resolves_phi : (words : Words) (v : IsValidList words) (zeros : List ℕ) (plan : Plan) (place : ℕ) → IsFoundBefore words zeros place plan → (at : ℕ) → at < place → plan.fate at ≡ fate.Resolves
    → (inst_at words.insts at).op ≡ op.PHI
resolves_phi words v zeros plan place is at less resolves = elim (cases_lt v.derivation.before at) [
  | inl low ↦ elim (cases_lt at v.derivation.after) [
    | inl high ↦ found_phi words.insts at (intervals_of v.derivation) zeros (v.derivation.before + 1) plan (sym (is.found v at low high less) ∙ resolves)
    | inr past ↦ (stays words.insts at).is (sym (is.outside v at (inr past)) ∙ resolves)
  ]
  | inr before ↦ (stays words.insts at).is (sym (is.outside v at (inl before)) ∙ resolves)
]
