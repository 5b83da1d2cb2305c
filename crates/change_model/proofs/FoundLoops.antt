-- A loop that is left at once goes with its condition sequence; one that stays keeps the branch that leaves it.
use Rattle.std.proofs.Common.{◌≡◌, ℕ, ◌-◌, Bool, true, false, ◌==◌, if◌then◌else◌, refl, ap, sym, ◌∙◌, subst, arith, Some}
use Rattle.spirv_model.specs.declared.op.TheConstants as op
use Rattle.spirv_model.specs.Operands.{word_at}
use Rattle.valid_model.specs.Definitions.{inst_at}
use Rattle.unit_model.specs.ConstantScalars.{is_behind}
use Rattle.change_model.specs.declared.fate.Fate.{Fate}
use Rattle.change_model.specs.declared.fate.Fate.TheVariants as fate
use Rattle.change_model.specs.Plans.{is_dead}
use Rattle.change_model.specs.PlanRules.{goes, is_test_of, MaySkip, loop}
use Rattle.change_model.specs.Passes.{opens, held_at}
use Rattle.change_model.proofs.FoundPlans.{Found}
use Rattle.change_model.proofs.FoundConditions.{test_goes}
use Rattle.change_model.proofs.FoundHeld.{loop_within, loop_at, leaves_test, test_place, held_by, one_loop}
use Rattle.change_model.proofs.FoundOrigins.{Origin, goes_away, by_phi, by_load, by_chain, by_untyped, by_selection, by_loop, by_end, by_branch, by_switch, by_picks, by_folds, origin, dead_fate, alive_fate, alive_loop}
use Rattle.change_model.proofs.FoundOrigins as source
use Rattle.change_model.proofs.LoopTests.{test_of}

clash : {Q : Type 0} (b : Bool) → b ≡ true → b ≡ false → Q
clash true is isnt = cc
clash false is isnt = cc

stays_skips : {Q : Type 0} (what : Fate) → what ≡ fate.Stays → what ≡ fate.Skips → Q
stays_skips what is also = by_both (sym is ∙ also)
  where
    by_both : {Q : Type 0} → fate.Stays ≡ fate.Skips → Q
    by_both same = cc

stays_dead : {Q : Type 0} (what : Fate) → what ≡ fate.Stays → what ≡ fate.Dead → Q
stays_dead what is also = by_both (sym is ∙ also)
  where
    by_both : {Q : Type 0} → fate.Stays ≡ fate.Dead → Q
    by_both same = cc

module _ (f : Found) (place : ℕ) where
  pub may_skip_loop : (inst_at f.words.insts place).op ≡ op.LOOP_MERGE → opens f.words.insts place ≡ true → f.plan.fate place ≡ fate.Skips → MaySkip f.plan f.words.insts place
  may_skip_loop is opened skips = loop is (λ test t. test_goes f place is opened (ap is_dead skips) test t)

  -- one that is left at once doesn't stay
  opened_goes : {Q : Type 0} → (inst_at f.words.insts place).op ≡ op.LOOP_MERGE → opens f.words.insts place ≡ true → f.plan.fate place ≡ fate.Stays → Q
  opened_goes {Q} is opened stays = by_test (is_dead (f.plan.fate (place - 1))) refl
    where
      by_test : (b : Bool) → is_dead (f.plan.fate (place - 1)) ≡ b → Q
      by_test true dead = let w = loop_within f place is in let l = w.low in stays_dead (f.plan.fate place) stays (dead_fate f place (omega (arith, l)) w.high (ap (λ (n : ℕ). n == op.LABEL) is) dead)
      by_test false alive =
          let w = loop_within f place is in
          let l = w.low in
          stays_skips (f.plan.fate place) stays
          (alive_fate f place (omega (arith, l)) w.high (ap (λ (n : ℕ). n == op.LABEL) is) alive ∙ alive_loop f place is
          ∙ ap (λ (b : Bool). if b then fate.Skips else fate.Stays) opened)

  module _ (is : (inst_at f.words.insts place).op ≡ op.LOOP_MERGE) (stays : f.plan.fate place ≡ fate.Stays) (test : ℕ) (tests : is_test_of f.words.insts (word_at 0 (inst_at f.words.insts place)) test ≡ true) where
    held_goes : {Q : Type 0} (label : ℕ) → held_at f.words.insts test ≡ Some label → is_test_of f.words.insts label test ≡ true → Q
    held_goes label held leaves =
        let h = held_by f test label held in
        let here = test_place f place test (loop_at f place is) tests in
        let there = test_place f h.at test (loop_at f h.at h.is) (subst (λ (n : ℕ). is_test_of f.words.insts n test ≡ true) (sym h.own) leaves) in
        let same = one_loop f h.at place h.is is (sym there ∙ here) in
        opened_goes is (ap (opens f.words.insts) (sym same) ∙ h.opened) stays

    by_origin : (what : Fate) → Origin f test what → goes what ≡ false
    by_origin what (by_end label own unselected held leaves) = held_goes label held (leaves_test f test label leaves)
    by_origin what (by_branch label own selected skipped way) = clash (is_behind op.SELECTION_MERGE f.words.insts test) selected (test_of f.words.insts (word_at 0 (inst_at f.words.insts place)) test tests).unselected
    by_origin what (by_switch label own skipped way) = two_ops (sym (test_of f.words.insts (word_at 0 (inst_at f.words.insts place)) test tests).is ∙ own)
      where
        two_ops : {Q : Type 0} → op.BRANCH_CONDITIONAL ≡ op.SWITCH → Q
        two_ops same = absurd (omega (arith, same))
    by_origin what goes_away = refl
    by_origin what source.stays = refl
    by_origin what (by_phi own) = refl
    by_origin what (by_load own empty) = refl
    by_origin what (by_chain own empty) = refl
    by_origin what (by_untyped own untyped) = refl
    by_origin what (by_selection label own free way) = refl
    by_origin what (by_loop own opened) = refl
    by_origin what (by_picks label own free way) = refl
    by_origin what (by_folds known own comes) = refl

    pub loop_keeps_test : goes (f.plan.fate test) ≡ false
    loop_keeps_test = by_origin (f.plan.fate test) (origin f test)
