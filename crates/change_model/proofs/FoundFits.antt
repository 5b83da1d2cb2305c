-- What each fate asks that one pass finds, but for phis and for what nobody uses.
use Rattle.std.proofs.Common.{◌≡◌, ℕ, suc, ◌+◌, ◌-◌, ◌<◌, ◌≤◌, inl, inr, Bool, true, false, not, ◌==◌, ◌&&◌, nat_lt, if◌then◌else◌, List, refl, ap, sym, ◌∙◌, arith, Option, None, Some}
use Rattle.std.proofs.lemmas.Bool.{cases_lt, eqb-true, eq-eqb, lt-ltb}
use Rattle.spirv_model.specs.declared.module.Inst.{Inst}
use Rattle.spirv_model.specs.declared.op.TheConstants as op
use Rattle.spirv_model.specs.Operands.{word_at, words_from}
use Rattle.scalar_model.specs.Scalars.{scalar_result}
use Rattle.valid_model.specs.declared.meaning.Meaning.{Meaning}
use Rattle.valid_model.specs.Definitions.{inst_at}
use Rattle.valid_model.specs.Meanings.{meaning}
use Rattle.check_model.specs.Intervals.{intervals_of}
use Rattle.unit_model.specs.ConstantScalars.{is_behind, is_left_from_within}
use Rattle.change_model.specs.declared.fate.Fate.{Fate}
use Rattle.change_model.specs.declared.fate.Fate.TheVariants as fate
use Rattle.change_model.specs.Plans.{is_dead, block_at}
use Rattle.change_model.specs.PlanRules.{goes, is_shape, is_skipped, root_of, scalar_left, may_keep_phis, MayStay, selection, IsResolved, MayBeUnused, FateFits, is_left_within}
use Rattle.change_model.specs.Passes.{phi_fate, known_before, chosen_way, switched_way, has_one_way, may_become_branch, way_behind, goes_to}
use Rattle.change_model.proofs.ConditionNames.{inside_at}
use Rattle.change_model.proofs.FoundPlans.{Found}
use Rattle.change_model.proofs.FoundGoes.{leaves_to, leaves_only}
use Rattle.change_model.proofs.FoundKnown.{known_left, result_known, only_chosen, only_switched}
use Rattle.change_model.proofs.FoundLoops.{may_skip_loop, loop_keeps_test}
use Rattle.change_model.proofs.FoldsThere.{taken}
use Rattle.change_model.proofs.FoundOrigins.{Origin, goes_away, by_phi, by_load, by_chain, by_untyped, by_selection, by_loop, by_end, by_branch, by_switch, by_picks, by_folds, origin, alive_fate, alive_choice, alive_phi, alive_switch, dead_fate}
use Rattle.change_model.proofs.FoundOrigins as source
use Rattle.change_model.proofs.LeftScopes.{is_label_at}
use Rattle.change_model.proofs.FoundWithin.{none_within, one_way_default}
use Rattle.change_model.proofs.LeftPlacedWhole.{outside_silent}

clash : {Q : Type 0} (b : Bool) → b ≡ true → b ≡ false → Q
clash true is isnt = cc
clash false is isnt = cc

other_op : {Q : Type 0} (opcode known other : ℕ) → opcode ≡ known → opcode ≡ other → known == other ≡ false → Q
other_op opcode known other is same differ = clash (known == other) (eq-eqb known other (sym is ∙ same)) differ

skips_is : (what : Fate) → is_skipped what ≡ true → what ≡ fate.Skips
skips_is fate.Skips is = refl
skips_is other is = cc

-- a place behind an OpSelectionMerge
pub behind_selection : (f : Found) (place : ℕ) → (inst_at f.words.insts place).op ≡ op.SELECTION_MERGE → is_behind op.SELECTION_MERGE f.words.insts (place + 1) ≡ true
behind_selection f place is =
    both (nat_lt 0 (place + 1)) ((inst_at f.words.insts (place + 1 - 1)).op == op.SELECTION_MERGE) (lt-ltb 0 (place + 1) (omega arith))
    (ap (λ (n : ℕ). (inst_at f.words.insts n).op == op.SELECTION_MERGE) {x = place + 1 - 1} {y = place} (omega arith) ∙ ap (λ (n : ℕ). n == op.SELECTION_MERGE) is)
  where
    both : (a b : Bool) → a ≡ true → b ≡ true → (a && b) ≡ true
    both a b first second = rw first second

module _ (f : Found) (place : ℕ) (is : (inst_at f.words.insts place).op ≡ op.SELECTION_MERGE) where
  abbrev insts : List Inst
  insts = f.words.insts

  before : (what : Fate) → f.plan.fate place ≡ what → f.plan.fate (place + 1 - 1) ≡ what
  before what same = ap f.plan.fate {x = place + 1 - 1} {y = place} (omega arith) ∙ same

  -- ---- where it stays

  stays_by : f.plan.fate place ≡ fate.Stays → (what : Fate) → Origin f (place + 1) what → goes what ≡ false
  stays_by stays what (by_end label own unselected held leaves) = clash (is_behind op.SELECTION_MERGE insts (place + 1)) (behind_selection f place is) unselected
  stays_by stays what (by_branch label own selected skipped way) = clash (is_skipped (f.plan.fate (place + 1 - 1))) skipped (ap is_skipped (before fate.Stays stays))
  stays_by stays what (by_switch label own skipped way) = clash (is_skipped (f.plan.fate (place + 1 - 1))) skipped (ap is_skipped (before fate.Stays stays))
  stays_by stays what goes_away = refl
  stays_by stays what source.stays = refl
  stays_by stays what (by_phi own) = refl
  stays_by stays what (by_load own empty) = refl
  stays_by stays what (by_chain own empty) = refl
  stays_by stays what (by_untyped own untyped) = refl
  stays_by stays what (by_selection label own free way) = refl
  stays_by stays what (by_loop own opened) = refl
  stays_by stays what (by_picks label own free way) = refl
  stays_by stays what (by_folds known own comes) = refl

  pub branch_kept : f.plan.fate place ≡ fate.Stays → goes (f.plan.fate (place + 1)) ≡ false
  branch_kept stays = stays_by stays (f.plan.fate (place + 1)) (origin f (place + 1))

  -- ---- where it goes

  module _ (low : f.valid.derivation.before < place) (label : ℕ) (skips : f.plan.fate place ≡ fate.Skips) where
    -- the branch behind it stands in the function
    choice_goes : place + 1 < f.valid.derivation.after → (inst_at insts (place + 1)).op ≡ op.BRANCH_CONDITIONAL → chosen_way f.plan insts (place + 1) ≡ Some label → f.plan.fate (place + 1) ≡ fate.Goes label
    choice_goes within own way =
        alive_fate f (place + 1) (omega (arith, low)) within (ap (λ (n : ℕ). n == op.LABEL) own) (ap is_dead (before fate.Skips skips)) ∙ alive_choice f (place + 1) own
        ∙ by_parts (is_behind op.SELECTION_MERGE insts (place + 1)) (is_skipped (f.plan.fate (place + 1 - 1))) (chosen_way f.plan insts (place + 1)) _ (behind_selection f place is) (ap is_skipped (before fate.Skips skips)) way
      where
        by_parts : (a b : Bool) (to : Option ℕ) (other : Fate) → a ≡ true → b ≡ true → to ≡ Some label → (if not a then other else if b then goes_to to else fate.Stays) ≡ fate.Goes label
        by_parts a b to other first second third = rw first (rw second (rw third refl))

    switch_goes : place + 1 < f.valid.derivation.after → (inst_at insts (place + 1)).op ≡ op.SWITCH → switched_way f.plan insts (place + 1) ≡ Some label → f.plan.fate (place + 1) ≡ fate.Goes label
    switch_goes within own way =
        alive_fate f (place + 1) (omega (arith, low)) within (ap (λ (n : ℕ). n == op.LABEL) own) (ap is_dead (before fate.Skips skips)) ∙ alive_switch f (place + 1) own
        ∙ by_parts (is_skipped (f.plan.fate (place + 1 - 1))) (switched_way f.plan insts (place + 1)) _ (ap is_skipped (before fate.Skips skips)) way
      where
        by_parts : (b : Bool) (to : Option ℕ) (other : Fate) → b ≡ true → to ≡ Some label → (if b then goes_to to else other) ≡ fate.Goes label
        by_parts b to other second third = rw second (rw third refl)

    by_way : place + 1 < f.valid.derivation.after → (a b c : Bool) → (inst_at insts (place + 1)).op == op.BRANCH_CONDITIONAL ≡ a → (inst_at insts (place + 1)).op == op.SWITCH ≡ b
        → (if a then chosen_way f.plan insts (place + 1) else if b && c then switched_way f.plan insts (place + 1) else None) ≡ Some label → goes (f.plan.fate (place + 1)) ≡ true
    by_way within true b c p q way = ap goes (choice_goes within (eqb-true (inst_at insts (place + 1)).op op.BRANCH_CONDITIONAL p) way)
    by_way within false true true p q way = ap goes (switch_goes within (eqb-true (inst_at insts (place + 1)).op op.SWITCH q) way)
    by_way within false true false p q way = cc
    by_way within false false c p q way = cc

    beyond : (a b c : Bool) → (inst_at insts (place + 1)).op == op.BRANCH_CONDITIONAL ≡ a → (inst_at insts (place + 1)).op == op.SWITCH ≡ b → a ≡ false → b ≡ false
        → (if a then chosen_way f.plan insts (place + 1) else if b && c then switched_way f.plan insts (place + 1) else None) ≡ Some label → goes (f.plan.fate (place + 1)) ≡ true
    beyond false false c p q first second way = cc
    beyond true b c p q first second way = cc
    beyond false true c p q first second way = cc

    pub branch_goes : way_behind (intervals_of f.valid.derivation) insts f.plan (place + 1) ≡ Some label → goes (f.plan.fate (place + 1)) ≡ true
    branch_goes way = elim (cases_lt (place + 1) f.valid.derivation.after) [
      | inl within ↦ by_way within ((inst_at insts (place + 1)).op == op.BRANCH_CONDITIONAL) ((inst_at insts (place + 1)).op == op.SWITCH) (may_become_branch (intervals_of f.valid.derivation) insts (place + 1)) refl refl way
      | inr past ↦
          let s = outside_silent f.words f.valid (place + 1) (inr past) in
          beyond ((inst_at insts (place + 1)).op == op.BRANCH_CONDITIONAL) ((inst_at insts (place + 1)).op == op.SWITCH) (may_become_branch (intervals_of f.valid.derivation) insts (place + 1)) refl refl s.nowhere.no_choice
          s.nowhere.no_switch way
    ]

-- ---- an OpSwitch that goes

module _ (f : Found) (place label : ℕ) (own : (inst_at f.words.insts place).op ≡ op.SWITCH) (low : f.valid.derivation.before + 1 ≤ place) (high : place < f.valid.derivation.after) where
  -- it stands behind an OpSelectionMerge
  pub switch_behind : is_behind op.SELECTION_MERGE f.words.insts place ≡ true
  switch_behind = (inside_at f.words.insts f.valid.derivation.sequence place low high).switch own

  selection_before : (inst_at f.words.insts (place - 1)).op ≡ op.SELECTION_MERGE
  selection_before = eqb-true (inst_at f.words.insts (place - 1)).op op.SELECTION_MERGE (second (nat_lt 0 place) ((inst_at f.words.insts (place - 1)).op == op.SELECTION_MERGE) switch_behind)
    where
      second : (a b : Bool) → (a && b) ≡ true → b ≡ true
      second true b is = is
      second false b is = cc

  -- the way of the OpSwitch is known, and it may become OpBranch
  skipped_way : (what : Fate) → Origin f (place - 1) what → is_skipped what ≡ true → (to : ℕ) × (way_behind (intervals_of f.valid.derivation) f.words.insts f.plan place ≡ Some to)
  skipped_way what (by_selection to is free way) skipped = (to, ap (way_behind (intervals_of f.valid.derivation) f.words.insts f.plan) {x = place} {y = suc (place - 1)} (omega (arith, low)) ∙ way)
  skipped_way what (by_loop is opened) skipped = other_op (inst_at f.words.insts (place - 1)).op op.LOOP_MERGE op.SELECTION_MERGE is selection_before refl
  skipped_way what goes_away skipped = cc
  skipped_way what source.stays skipped = cc
  skipped_way what (by_phi is) skipped = cc
  skipped_way what (by_load is empty) skipped = cc
  skipped_way what (by_chain is empty) skipped = cc
  skipped_way what (by_untyped is untyped) skipped = cc
  skipped_way what (by_end to is unselected held leaves) skipped = cc
  skipped_way what (by_branch to is selected also way) skipped = cc
  skipped_way what (by_switch to is also way) skipped = cc
  skipped_way what (by_picks to is free way) skipped = cc
  skipped_way what (by_folds known is comes) skipped = cc

  by_parts : (a b c d : Bool) (first second : Option ℕ) (to : ℕ) → a ≡ false → (if a then first else if b && (c && not d) then second else None) ≡ Some to → (c ≡ true) × (d ≡ false)
  by_parts false true true false first second to isnt way = (refl, refl)
  by_parts true b c d first second to isnt way = cc
  by_parts false false c d first second to isnt way = cc
  by_parts false true false d first second to isnt way = cc
  by_parts false true true true first second to isnt way = cc

  pub within : is_skipped (f.plan.fate (place - 1)) ≡ true → switched_way f.plan f.words.insts place ≡ Some label
      → is_left_within f.plan f.words.insts (intervals_of f.valid.derivation) label (word_at 0 (inst_at f.words.insts (place - 1))) ≡ false
  within skipped way =
      let inst = inst_at f.words.insts place in
      let merge = word_at 0 (inst_at f.words.insts (place - 1)) in
      let found = skipped_way (f.plan.fate (place - 1)) (origin f (place - 1)) skipped in
      let parts = by_parts (inst.op == op.BRANCH_CONDITIONAL) (inst.op == op.SWITCH) (has_one_way inst) (is_left_from_within (intervals_of f.valid.derivation) f.words.insts (word_at 1 inst) merge)
      (chosen_way f.plan f.words.insts place) (switched_way f.plan f.words.insts place) found.0 (ap (λ (n : ℕ). n == op.BRANCH_CONDITIONAL) own) found.1 in
      let same = one_way_default (known_before f.plan f.words.insts place (word_at 0 inst)) inst label parts.0 way in
      ap (λ (n : ℕ). is_left_within f.plan f.words.insts (intervals_of f.valid.derivation) n merge) same ∙ none_within f (word_at 1 inst) merge parts.1

-- ---- the type of a phi that stays

unused_stays : fate.Unused ≡ fate.Stays → ⊥
unused_stays is = cc

dead_stays : fate.Dead ≡ fate.Stays → ⊥
dead_stays is = cc

module _ (f : Found) (place : ℕ) (low : f.valid.derivation.before < place) (high : place < f.valid.derivation.after) where
  pub phi_typed : (inst_at f.words.insts place).op ≡ op.PHI → f.plan.fate place ≡ fate.Stays → is_shape (meaning f.words.insts (word_at 0 (inst_at f.words.insts place))) ≡ true
  phi_typed is same = by_block (is_dead (f.plan.fate (place - 1))) refl
    where
      type : Meaning
      type = meaning f.words.insts (word_at 0 (inst_at f.words.insts place))

      no_label : is_label_at f.words.insts place ≡ false
      no_label = ap (λ (n : ℕ). n == op.LABEL) is

      by_shape : (b : Bool) → is_shape type ≡ b → phi_fate (intervals_of f.valid.derivation) f.words.insts f.plan place ≡ fate.Stays → is_shape type ≡ true
      by_shape true shape found = shape
      by_shape false untyped found = absurd (unused_stays (sym (taken (not (is_shape type)) _ _ (ap not untyped)) ∙ found))

      by_block : (b : Bool) → is_dead (f.plan.fate (place - 1)) ≡ b → is_shape type ≡ true
      by_block true dead = absurd (dead_stays (sym (dead_fate f place low high no_label dead) ∙ same))
      by_block false alive = by_shape (is_shape type) refl (sym (alive_fate f place low high no_label alive ∙ alive_phi f place is) ∙ same)

-- ---- all of it

-- what the plan of one pass owes for phis and for what nobody uses
pub record Owed (f : Found) : Type 0 where
  pub resolved : (place : ℕ) → f.valid.derivation.before < place → place < f.valid.derivation.after → f.plan.fate place ≡ fate.Resolves → IsResolved f.plan f.words.insts (intervals_of f.valid.derivation) place
  pub kept : (place : ℕ) → f.valid.derivation.before < place → place < f.valid.derivation.after → (inst_at f.words.insts place).op ≡ op.PHI → f.plan.fate place ≡ fate.Stays → may_keep_phis f.plan f.words.insts (block_at f.words.insts place) ≡ true
  pub unused : (place : ℕ) → f.valid.derivation.before < place → place < f.valid.derivation.after → f.plan.fate place ≡ fate.Unused → MayBeUnused f.plan f.words.insts place

module _ (f : Found) (owed : Owed f) (place : ℕ) (low : f.valid.derivation.before < place) (high : place < f.valid.derivation.after) where
  abbrev Fits : Fate → Type 0
  Fits what = FateFits f.plan f.words.insts (intervals_of f.valid.derivation) f.zeros place what

  may_stay : f.plan.fate place ≡ fate.Stays → MayStay f.plan f.words.insts place
  may_stay stays = record {
    selection = λ is. branch_kept f place is stays;
    loop = λ is test tests. loop_keeps_test f place is stays test tests;
    phi = λ is. owed.kept place low high is stays;
    type = λ is. phi_typed f place low high is stays;
    load = λ is. f.is.unread (root_of f.words.insts (word_at 2 (inst_at f.words.insts place)));
  }

  by_origin : (what : Fate) → f.plan.fate place ≡ what → Origin f place what → Fits what
  by_origin what same goes_away = tt
  by_origin what same source.stays = may_stay same
  by_origin what same (by_phi is) = owed.resolved place low high same
  by_origin what same (by_load is empty) = record { is_load = is; is_zero = empty }
  by_origin what same (by_chain is empty) = owed.unused place low high same
  by_origin what same (by_untyped is untyped) = owed.unused place low high same
  by_origin what same (by_selection label is free way) = selection is (branch_goes f place is low label same (ap (way_behind (intervals_of f.valid.derivation) f.words.insts f.plan) {x = place + 1} {y = suc place} (omega arith) ∙ way))
  by_origin what same (by_loop is opened) = may_skip_loop f place is opened same
  by_origin what same (by_end label is unselected held leaves) = record {
    only = leaves_only f place label leaves;
    skipped = λ selected. clash (is_behind op.SELECTION_MERGE f.words.insts place) selected unselected;
    within = λ switch. other_op (inst_at f.words.insts place).op op.BRANCH_CONDITIONAL op.SWITCH is switch refl;
    leaves = λ also. (leaves_to f.words.insts place label leaves).merges;
  }
  by_origin what same (by_branch label is selected skipped way) = record {
    only = only_chosen f.plan f.words.insts place label is way;
    skipped = λ also. skips_is (f.plan.fate (place - 1)) skipped;
    within = λ switch. other_op (inst_at f.words.insts place).op op.BRANCH_CONDITIONAL op.SWITCH is switch refl;
    leaves = λ unselected. clash (is_behind op.SELECTION_MERGE f.words.insts place) selected unselected;
  }
  by_origin what same (by_switch label is skipped way) = record {
    only = only_switched f.plan f.words.insts place label is way;
    skipped = λ also. skips_is (f.plan.fate (place - 1)) skipped;
    within = λ also. within f place label is (omega (arith, low)) high skipped way;
    leaves = λ unselected. clash (is_behind op.SELECTION_MERGE f.words.insts place) (switch_behind f place label is (omega (arith, low)) high) unselected;
  }
  by_origin what same (by_picks label is free way) = record { is_switch = is; only = only_switched f.plan f.words.insts place label is way }
  by_origin what same (by_folds known is comes) = record {
    is_scalar = is;
    comes = result_known (known_before f.plan f.words.insts place) (scalar_left f.plan f.words.insts) (λ id scalar knows. known_left f.plan f.words.insts place id scalar knows) (words_from 2 (inst_at f.words.insts place))
        (scalar_result (inst_at f.words.insts place).op) known comes;
  }

  pub fate_fits : FateFits f.plan f.words.insts (intervals_of f.valid.derivation) f.zeros place (f.plan.fate place)
  fate_fits = by_origin (f.plan.fate place) refl (origin f place)
