-- Where each fate comes from in the plan that one pass finds.
use Rattle.std.specs.Option.{option_and_then}
use Rattle.std.proofs.Common.{◌≡◌, ℕ, suc, ◌+◌, ◌-◌, ◌<◌, inl, inr, Bool, true, false, not, ◌==◌, ◌||◌, ◌&&◌, if◌then◌else◌, List, [], ◌∷◌, refl, sym, ◌∙◌, subst, Option, None, Some}
use Rattle.std.proofs.lemmas.Bool.{cases_lt, eqb-true}
use Rattle.spirv_model.specs.declared.op.TheConstants as op
use Rattle.spirv_model.specs.Operands.{word_at, words_from, class_of}
use Rattle.scalar_model.specs.declared.scalar_value.Scalar.{Scalar}
use Rattle.scalar_model.specs.Scalars.{scalar_result}
use Rattle.valid_model.specs.Definitions.{inst_at}
use Rattle.valid_model.specs.Meanings.{meaning}
use Rattle.check_model.specs.Intervals.{intervals_of}
use Rattle.check_model.specs.Visibility.{Incoming}
use Rattle.unit_model.specs.ConstantScalars.{is_behind, is_scalar_class}
use Rattle.change_model.specs.declared.fate.Fate.{Fate}
use Rattle.change_model.specs.declared.fate.Fate.TheVariants as fate
use Rattle.change_model.specs.Folding.{all_constants}
use Rattle.change_model.specs.Plans.{is_dead, block_at}
use Rattle.change_model.specs.PlanRules.{is_shape, is_skipped, is_zero_input, root_of}
use Rattle.change_model.specs.Passes.{is_free, opens, held_at, is_label, leaving_to, known_before, chosen_way, switched_way, has_one_way, way_behind, skips_to, goes_to, picks_one, folds_to, merge_fate, test_fate, branch_fate, switch_fate, heads_loop, keeps_phis, stands_at, pairs_found, phi_fate, phi_fate_of, fate_alive, is_named_before, label_fate, fate_found}
use Rattle.change_model.proofs.FoundPlans.{Found, found_at}
use Rattle.change_model.proofs.LeftScopes.{is_label_at}

pub choose : (P : Fate → Type 0) {x y : Fate} (b : Bool) → (b ≡ true → P x) → (b ≡ false → P y) → P (if b then x else y)
choose P true f g = f refl
choose P false f g = g refl

op_is : (opcode known : ℕ) → opcode == known ≡ true → opcode ≡ known
op_is opcode known is = eqb-true opcode known is

both : (a b : Bool) → (a && b) ≡ true → (a ≡ true) × (b ≡ true)
both true true is = (refl, refl)
both true false is = cc
both false b is = cc

open_test : (b : Bool) → not b ≡ false → b ≡ true
open_test true is = refl
open_test false is = cc

shut_test : (b : Bool) → not b ≡ true → b ≡ false
shut_test false is = refl
shut_test true is = cc

-- the fate of the instruction at the place, and what gives it
pub data Origin (f : Found) (place : ℕ) : Fate → Type 0 where
  goes_away : Origin f place fate.Dead
  stays : Origin f place fate.Stays
  by_phi : (inst_at f.words.insts place).op ≡ op.PHI → Origin f place fate.Resolves
  by_load : (inst_at f.words.insts place).op ≡ op.LOAD → is_zero_input f.words.insts f.zeros (root_of f.words.insts (word_at 2 (inst_at f.words.insts place))) ≡ true → Origin f place fate.Nulls
  by_chain : (inst_at f.words.insts place).op ≡ op.ACCESS_CHAIN → is_zero_input f.words.insts f.zeros (word_at 2 (inst_at f.words.insts place)) ≡ true → Origin f place fate.Unused
  by_untyped : (inst_at f.words.insts place).op ≡ op.PHI → is_shape (meaning f.words.insts (word_at 0 (inst_at f.words.insts place))) ≡ false → Origin f place fate.Unused
  by_selection : (label : ℕ) → (inst_at f.words.insts place).op ≡ op.SELECTION_MERGE → is_free f.words.insts place ≡ true
      → way_behind (intervals_of f.valid.derivation) f.words.insts f.plan (suc place) ≡ Some label → Origin f place fate.Skips
  by_loop : (inst_at f.words.insts place).op ≡ op.LOOP_MERGE → opens f.words.insts place ≡ true → Origin f place fate.Skips
  by_end : (label : ℕ) → (inst_at f.words.insts place).op ≡ op.BRANCH_CONDITIONAL → is_behind op.SELECTION_MERGE f.words.insts place ≡ false → held_at f.words.insts place ≡ Some label
      → is_label label (leaving_to f.words.insts place) ≡ true → Origin f place (fate.Goes label)
  by_branch : (label : ℕ) → (inst_at f.words.insts place).op ≡ op.BRANCH_CONDITIONAL → is_behind op.SELECTION_MERGE f.words.insts place ≡ true → is_skipped (f.plan.fate (place - 1)) ≡ true
      → chosen_way f.plan f.words.insts place ≡ Some label → Origin f place (fate.Goes label)
  by_switch : (label : ℕ) → (inst_at f.words.insts place).op ≡ op.SWITCH → is_skipped (f.plan.fate (place - 1)) ≡ true → switched_way f.plan f.words.insts place ≡ Some label → Origin f place (fate.Goes label)
  by_picks : (label : ℕ) → (inst_at f.words.insts place).op ≡ op.SWITCH → is_free f.words.insts place ≡ true → switched_way f.plan f.words.insts place ≡ Some label → Origin f place (fate.Picks label)
  by_folds : (scalar : Scalar) → is_scalar_class (class_of (inst_at f.words.insts place).op) ≡ true
      → option_and_then (scalar_result (inst_at f.words.insts place).op) (all_constants (known_before f.plan f.words.insts place) (words_from 2 (inst_at f.words.insts place))) ≡ Some scalar
      → Origin f place (fate.Folds scalar)

module _ (f : Found) (place : ℕ) where
  record Alive (what : Fate) : Type 0 where
    living : is_dead what ≡ false
    comes : Origin f place what

  one : {what : Fate} → is_dead what ≡ false → Origin f place what → Alive what
  one living comes = record { living = living; comes = comes }

  phi_by : (inst_at f.words.insts place).op ≡ op.PHI → (pairs : List Incoming) → Alive (phi_fate_of (intervals_of f.valid.derivation) f.words.insts f.plan place pairs)
  phi_by is [] = one refl stays
  phi_by is (pair ∷ []) =
      choose Alive (keeps_phis f.plan f.words.insts place && not (stands_at (intervals_of f.valid.derivation) f.words.insts f.plan place pair.value)) (λ keeps. one refl stays) (λ resolves. (one refl (by_phi is)))
  phi_by is (pair ∷ other ∷ pairs) = one refl stays

  skips_by : (way : Option ℕ) → ((label : ℕ) → way ≡ Some label → Origin f place fate.Skips) → Alive (skips_to way)
  skips_by None known = one refl stays
  skips_by (Some label) known = one refl (known label refl)

  goes_by : (way : Option ℕ) → ((label : ℕ) → way ≡ Some label → Origin f place (fate.Goes label)) → Alive (goes_to way)
  goes_by None known = one refl stays
  goes_by (Some label) known = one refl (known label refl)

  picks_by : (way : Option ℕ) → ((label : ℕ) → way ≡ Some label → Origin f place (fate.Picks label)) → Alive (picks_one way)
  picks_by None known = one refl stays
  picks_by (Some label) known = one refl (known label refl)

  folds_by : (found : Option Scalar) → ((scalar : Scalar) → found ≡ Some scalar → Origin f place (fate.Folds scalar)) → Alive (folds_to found)
  folds_by None known = one refl stays
  folds_by (Some scalar) known = one refl (known scalar refl)

  test_by : (inst_at f.words.insts place).op ≡ op.BRANCH_CONDITIONAL → is_behind op.SELECTION_MERGE f.words.insts place ≡ false → (held : Option ℕ) → held_at f.words.insts place ≡ held
      → Alive (test_fate f.words.insts place held)
  test_by is unselected None held = one refl stays
  test_by is unselected (Some merge) held = choose Alive (is_label merge (leaving_to f.words.insts place)) (λ leaves. (one refl (by_end merge is unselected held leaves))) (λ other. one refl stays)

  alive_by : Alive (fate_alive (intervals_of f.valid.derivation) f.words.insts f.zeros f.plan place)
  alive_by =
      let insts = f.words.insts in
      let inst = inst_at insts place in
      choose Alive (inst.op == op.PHI)
      (λ is. choose Alive (not (is_shape (meaning insts (word_at 0 inst)))) (λ untyped. one refl (by_untyped (op_is inst.op op.PHI is) (shut_test (is_shape (meaning insts (word_at 0 inst))) untyped)))
      (λ typed. choose Alive (heads_loop insts (block_at insts place)) (λ heads. one refl stays) (λ other. phi_by (op_is inst.op op.PHI is) (pairs_found f.plan insts place))))
      (λ _. choose Alive (inst.op == op.LOAD)
      (λ is. choose Alive (is_zero_input insts f.zeros (root_of insts (word_at 2 inst))) (λ is_zero. (one refl (by_load (op_is inst.op op.LOAD is) is_zero))) (λ other. one refl stays))
      (λ _. choose Alive (inst.op == op.ACCESS_CHAIN)
      (λ is. choose Alive (is_zero_input insts f.zeros (word_at 2 inst)) (λ is_zero. (one refl (by_chain (op_is inst.op op.ACCESS_CHAIN is) is_zero))) (λ other. one refl stays))
      (λ _. choose Alive (inst.op == op.SELECTION_MERGE)
      (λ is. choose Alive (is_free insts place)
      (λ free. skips_by (way_behind (intervals_of f.valid.derivation) insts f.plan (suc place)) (λ label way. by_selection label (op_is inst.op op.SELECTION_MERGE is) free way)) (λ held. one refl stays))
      (λ _. choose Alive (inst.op == op.LOOP_MERGE)
      (λ is. choose Alive (opens insts place) (λ opened. (one refl (by_loop (op_is inst.op op.LOOP_MERGE is) opened))) (λ other. one refl stays))
      (λ _. choose Alive (inst.op == op.BRANCH_CONDITIONAL)
      (λ is. choose Alive (not (is_behind op.SELECTION_MERGE insts place))
      (λ unselected. test_by (op_is inst.op op.BRANCH_CONDITIONAL is) (shut_test (is_behind op.SELECTION_MERGE insts place) unselected) (held_at insts place) refl)
      (λ selected. choose Alive (is_skipped (f.plan.fate (place - 1)))
      (λ skipped. goes_by (chosen_way f.plan insts place) (λ label way. by_branch label (op_is inst.op op.BRANCH_CONDITIONAL is) (open_test (is_behind op.SELECTION_MERGE insts place) selected) skipped way))
      (λ other. one refl stays)))
      (λ _. choose Alive (inst.op == op.SWITCH)
      (λ is. choose Alive (is_skipped (f.plan.fate (place - 1)))
      (λ skipped. goes_by (switched_way f.plan insts place) (λ label way. by_switch label (op_is inst.op op.SWITCH is) skipped way))
      (λ other. choose Alive (is_free insts place && not (has_one_way inst))
      (λ all. picks_by (switched_way f.plan insts place) (λ label way. by_picks label (op_is inst.op op.SWITCH is) (both (is_free insts place) (not (has_one_way inst)) all).0 way)) (λ held. one refl stays)))
      (λ _. choose Alive (is_scalar_class (class_of inst.op))
      (λ is. folds_by (option_and_then (scalar_result inst.op) (all_constants (known_before f.plan insts place) (words_from 2 inst))) (λ scalar known. by_folds scalar is known)) (λ other. one refl stays))))))))

  found_by : Origin f place (found_at f place)
  unfolding fate_found
  found_by =
      choose (Origin f place) (is_label_at f.words.insts place)
      (λ is. choose (Origin f place) ((place == f.valid.derivation.before + 1) || is_named_before f.plan f.words.insts place) (λ named. stays) (λ unnamed. goes_away))
      (λ isnt. choose (Origin f place) (is_dead (f.plan.fate (place - 1))) (λ dead. goes_away) (λ alive. alive_by.comes))

  pub alive_never : is_dead (fate_alive (intervals_of f.valid.derivation) f.words.insts f.zeros f.plan place) ≡ false
  alive_never = alive_by.living

  pub origin : Origin f place (f.plan.fate place)
  origin = elim (cases_lt f.valid.derivation.before place) [
    | inl behind ↦ elim (cases_lt place f.valid.derivation.after) [
      | inl within ↦ subst (Origin f place) (sym (f.is.found place behind within)) found_by
      | inr past ↦ subst (Origin f place) (sym (f.is.outside place (inr past))) stays
    ]
    | inr front ↦ subst (Origin f place) (sym (f.is.outside place (inl front))) stays
  ]

-- ---- what the pass finds, by what stands at the place

module _ (f : Found) (place : ℕ) (low : f.valid.derivation.before < place) (high : place < f.valid.derivation.after) where
  pub alive_fate : is_label_at f.words.insts place ≡ false → is_dead (f.plan.fate (place - 1)) ≡ false → f.plan.fate place ≡ fate_alive (intervals_of f.valid.derivation) f.words.insts f.zeros f.plan place
  unfolding fate_found
  alive_fate isnt alive = f.is.found place low high ∙ (rw isnt (rw alive refl))

  pub dead_fate : is_label_at f.words.insts place ≡ false → is_dead (f.plan.fate (place - 1)) ≡ true → f.plan.fate place ≡ fate.Dead
  unfolding fate_found
  dead_fate isnt dead = f.is.found place low high ∙ (rw isnt (rw dead refl))

  pub label_found : is_label_at f.words.insts place ≡ true → f.plan.fate place ≡ label_fate f.plan f.words.insts (f.valid.derivation.before + 1) place
  unfolding fate_found
  label_found is = f.is.found place low high ∙ (rw is refl)

module _ (f : Found) (place : ℕ) where
  pub alive_merge : (inst_at f.words.insts place).op ≡ op.SELECTION_MERGE → fate_alive (intervals_of f.valid.derivation) f.words.insts f.zeros f.plan place ≡ merge_fate (intervals_of f.valid.derivation) f.words.insts f.plan place
  alive_merge is = rw is refl

  pub alive_loop : (inst_at f.words.insts place).op ≡ op.LOOP_MERGE → fate_alive (intervals_of f.valid.derivation) f.words.insts f.zeros f.plan place
      ≡ (if opens f.words.insts place then fate.Skips else fate.Stays)
  alive_loop is = rw is refl

  pub alive_phi : (inst_at f.words.insts place).op ≡ op.PHI → fate_alive (intervals_of f.valid.derivation) f.words.insts f.zeros f.plan place ≡ phi_fate (intervals_of f.valid.derivation) f.words.insts f.plan place
  alive_phi is = rw is refl

  pub alive_choice : (inst_at f.words.insts place).op ≡ op.BRANCH_CONDITIONAL → fate_alive (intervals_of f.valid.derivation) f.words.insts f.zeros f.plan place ≡ branch_fate (intervals_of f.valid.derivation) f.words.insts f.plan place
  alive_choice is = rw is refl

  pub alive_switch : (inst_at f.words.insts place).op ≡ op.SWITCH → fate_alive (intervals_of f.valid.derivation) f.words.insts f.zeros f.plan place ≡ switch_fate (intervals_of f.valid.derivation) f.words.insts f.plan place
  alive_switch is = rw is refl
