-- The arms that are found place by place, and what is told by the places that lead out of them.
use Rattle.std.proofs.Common.{◌≡◌, ℕ, zero, suc, ◌+◌, ◌<◌, ◌≤◌, inl, inr, ◌==◌, ◌&&◌, ◌||◌, not, nat_lt, if◌then◌else◌, Bool, true, false, List, [], ◌∷◌, length, slice_index, refl, ap, sym, ◌∙◌, arith, Option, None, Some}
use Rattle.std.specs.List.{list_any, range_with_len}
use Rattle.std.specs.Option.{option_map}
use Rattle.std.proofs.lemmas.Bool.{cases_lt, lt-ltb, eqb-true, eq-eqb}
use Rattle.spirv_model.specs.declared.module.Inst.{Inst}
use Rattle.spirv_model.specs.declared.module.Words.{Words}
use Rattle.spirv_model.specs.declared.op.TheConstants as op
use Rattle.spirv_model.specs.Operands.{word_at}
use Rattle.body_model.specs.Switches.{is_among}
use Rattle.body_model.specs.Targets.{targets}
use Rattle.id_table.specs.declared.table.IdTable.{IdTable}
use Rattle.id_table.specs.Tables.{at}
use Rattle.valid_model.specs.Definitions.{inst_at, definition}
use Rattle.check_model.specs.Intervals.{intervals_of}
use Rattle.check_model.specs.Validity.{IsValidList}
use Rattle.unit_model.specs.ConstantScalars.{is_left_from_within}
use Rattle.change_model.specs.Passes.{has_one_way}
use Rattle.spv_check.specs.SequenceLimits.{AreLimits}
use Rattle.spec_fold.specs.Facts.{AddsArm, AreLeftWithin, arm_at, arm_behind, arm_from, has_arm, is_nested_in, leaves_to, merge_before}
use Rattle.spec_fold.specs.Sets.{AddsThose, AreThose}
use Rattle.spec_fold.specs.declared.marks.Marks.{Marks}
use Rattle.spec_fold.specs.declared.within.Arm.{Arm}
use Rattle.spec_fold.proofs.ArmsWithin.{none_within, not_first, one_switch, some_within}
use Rattle.spec_fold.proofs.LoopSets.{gathers_next}

-- the arms of the OpSwitches before a place, by their merge blocks
abbrev pub arms_before : List Inst → List ℕ → ℕ → ℕ → Option Arm
arms_before insts limits zero label = None
arms_before insts limits (suc place) label = arm_behind (arm_at insts limits place) (arms_before insts limits place label) label

abbrev pub AreArmsBefore : List Inst → List ℕ → ℕ → IdTable Arm → Type 0
AreArmsBefore insts limits place arms = (label : ℕ) → at arms label ≡ arms_before insts limits place label

-- the place leads to the merge block of an arm from a nested sequence
abbrev pub leads_at : List Inst → List ℕ → IdTable Arm → ℕ → ℕ → Bool
leads_at insts limits arms label place = leaves_to arms place (slice_index limits place) (targets (inst_at insts place)) label

pub arms_next : (insts : List Inst) (limits : List ℕ) (place : ℕ) (arm : Option Arm) (old new : IdTable Arm) → arm ≡ arm_at insts limits place → AreArmsBefore insts limits place old → AddsArm arm old new → AreArmsBefore insts limits (place + 1) new
arms_next insts limits place arm old new is had adds label =
    adds label ∙ ap (λ (a : Option Arm). arm_behind a (at old label) label) is ∙ ap (λ (a : Option Arm). arm_behind (arm_at insts limits place) a label) (had label)
    ∙ ap (λ (n : ℕ). arms_before insts limits n label) {x = suc place} {y = place + 1} (omega arith)

-- ---- one of them

module _ (insts : List Inst) (limits : List ℕ) where
  none_before : (n label : ℕ) → ((k : ℕ) (arm : Arm) → k < n → arm_at insts limits k ≡ Some arm → arm.merge ≡ label → ⊥) → arms_before insts limits n label ≡ None
  none_before zero label none = refl
  none_before (suc n) label none =
      ap (λ (before : Option Arm). arm_behind (arm_at insts limits n) before label) (none_before n label (λ k arm less. none k arm (omega (arith, less))))
      ∙ by_arm (arm_at insts limits n) refl
    where
      by_test : (arm : Arm) (b : Bool) → arm.merge == label ≡ b → arm_at insts limits n ≡ Some arm → (if b then Some arm else None) ≡ None
      by_test arm true merges is = absurd (none n arm (omega arith) is (eqb-true arm.merge label merges))
      by_test arm false merges is = refl

      by_arm : (found : Option Arm) → arm_at insts limits n ≡ found → arm_behind found None label ≡ None
      by_arm None is = refl
      by_arm (Some arm) is = by_test arm (arm.merge == label) refl is

  module _ (place label : ℕ) (only : (k : ℕ) (arm : Arm) → arm_at insts limits k ≡ Some arm → arm.merge ≡ label → k ≡ place) (own : (arm : Arm) → arm_at insts limits place ≡ Some arm → arm.merge ≡ label) where
    later_arm : (k : ℕ) → place < k → (before : Option Arm) → arm_behind (arm_at insts limits k) before label ≡ before
    later_arm k less before = by_arm (arm_at insts limits k) refl
      where
        by_test : (arm : Arm) (b : Bool) → arm.merge == label ≡ b → arm_at insts limits k ≡ Some arm → (if b then Some arm else before) ≡ before
        by_test arm true merges is = let e = only k arm is (eqb-true arm.merge label merges) in absurd (omega (arith, e, less))
        by_test arm false merges is = refl

        by_arm : (found : Option Arm) → arm_at insts limits k ≡ found → arm_behind found before label ≡ before
        by_arm None is = refl
        by_arm (Some arm) is = by_test arm (arm.merge == label) refl is

    own_arm : arm_behind (arm_at insts limits place) None label ≡ arm_at insts limits place
    own_arm = by_arm (arm_at insts limits place) refl
      where
        by_test : (arm : Arm) (b : Bool) → arm.merge == label ≡ b → arm.merge ≡ label → (if b then Some arm else None) ≡ Some arm
        by_test arm true merges is = refl
        by_test arm false merges is = absurd (differ (arm.merge == label) (eq-eqb arm.merge label is) merges)
          where
            differ : (b : Bool) → b ≡ true → b ≡ false → ⊥
            differ true is isnt = cc
            differ false is isnt = cc

        by_arm : (found : Option Arm) → arm_at insts limits place ≡ found → arm_behind found None label ≡ found
        by_arm None is = refl
        by_arm (Some arm) is = by_test arm (arm.merge == label) refl (own arm is)

    the_arm : (n : ℕ) → place < n → arms_before insts limits n label ≡ arm_at insts limits place
    the_arm zero less = absurd (omega (arith, less))
    the_arm (suc n) less = elim (cases_lt place n) [
      | inl later ↦ later_arm n later (arms_before insts limits n label) ∙ the_arm n later
      | inr last ↦
          let e : n ≡ place = omega (arith, last, less) in
          ap (λ (before : Option Arm). arm_behind (arm_at insts limits n) before label) (none_before n label (λ k arm before is merges. let f = only k arm is merges in omega (arith, f, before, last)))
          ∙ ap (λ (k : ℕ). arm_behind (arm_at insts limits k) None label) e ∙ own_arm
    ]

  -- it is that of an OpSwitch, with its merge block
  arm_of_switch : (place : ℕ) (arm : Arm) → arm_at insts limits place ≡ Some arm → ((inst_at insts place).op ≡ op.SWITCH) × (arm.merge ≡ merge_before insts place)
  arm_of_switch place arm is = by_test (has_arm insts place) refl (definition insts (word_at 1 (inst_at insts place))) is
    where
      switches : (a b c e : Bool) → (a && b && c && e) ≡ true → b ≡ true
      switches true true c e all = refl
      switches true false c e all = cc
      switches false b c e all = cc

      merge_of : (first : ℕ) → Some (arm_from limits (merge_before insts place) first) ≡ Some arm → arm.merge ≡ merge_before insts place
      merge_of first same = let e : arm_from limits (merge_before insts place) first ≡ arm = cc in sym (ap (λ (a : Arm). a.merge) e)

      by_test : (b : Bool) → has_arm insts place ≡ b → (found : Option ℕ) → (if b then option_map (arm_from limits (merge_before insts place)) found else None) ≡ Some arm
          → ((inst_at insts place).op ≡ op.SWITCH) × (arm.merge ≡ merge_before insts place)
      by_test true holds None is = cc
      by_test true holds (Some first) is = (
        eqb-true (inst_at insts place).op op.SWITCH
            (switches (nat_lt 0 place) ((inst_at insts place).op == op.SWITCH) (has_one_way (inst_at insts place)) (not (word_at 1 (inst_at insts place) == merge_before insts place)) holds),
        merge_of first is,
      )
      by_test false holds found is = cc

-- ---- the whole

none_led : (labels : ℕ → Bool) (list : List ℕ) → list_any (λ place. labels place && false) list ≡ false
none_led labels [] = refl
none_led labels (place ∷ list) = by_test (labels place) (none_led labels list)
  where
    by_test : (b : Bool) → list_any (λ place. labels place && false) list ≡ false → ((b && false) || list_any (λ place. labels place && false) list) ≡ false
    by_test true none = none
    by_test false none = none

module _ (words : Words) (v : IsValidList words) (limits : List ℕ) (are : AreLimits words.insts limits) (place : ℕ) (within : place < length words.insts) (switch : (inst_at words.insts place).op ≡ op.SWITCH)
    (one : has_one_way (inst_at words.insts place) ≡ true) where
  abbrev label : ℕ
  label = merge_before words.insts place

  abbrev default : ℕ
  default = word_at 1 (inst_at words.insts place)

  abbrev by_arm_at : Option Arm → Bool
  by_arm_at arm = list_any (λ (k : ℕ). is_among label (targets (inst_at words.insts k)) && is_nested_in arm k (slice_index limits k)) (range_with_len 0 (length words.insts))

  abbrev arm_by : Bool → Option ℕ → Option Arm
  arm_by same found = if nat_lt 0 place && ((inst_at words.insts place).op == op.SWITCH) && has_one_way (inst_at words.insts place) && not same then option_map (arm_from limits label) found else None

  arm_is : (same : Bool) (found : Option ℕ) → default == label ≡ same → definition words.insts default ≡ found → arm_at words.insts limits place ≡ (if not same then option_map (arm_from limits label) found else None)
  arm_is same found equal defined =
      ap (λ (b : Bool). arm_by b (definition words.insts default)) equal ∙ ap (arm_by same) defined
      ∙ all_true (nat_lt 0 place) ((inst_at words.insts place).op == op.SWITCH) (has_one_way (inst_at words.insts place)) (not same) (option_map (arm_from limits label) found)
      (lt-ltb 0 place (not_first words v place switch)) (eq-eqb (inst_at words.insts place).op op.SWITCH switch) one
    where
      all_true : (a b c e : Bool) (arm : Option Arm) → a ≡ true → b ≡ true → c ≡ true → (if a && b && c && e then arm else None) ≡ (if e then arm else None)
      all_true a b c e arm first second third = rw first (rw second (rw third refl))

  told : by_arm_at (arm_at words.insts limits place) ≡ is_left_from_within (intervals_of v.derivation) words.insts default label
  told = by_test (default == label) refl
    where
      by_test : (b : Bool) → default == label ≡ b → by_arm_at (arm_at words.insts limits place) ≡ is_left_from_within (intervals_of v.derivation) words.insts default label
      by_test true same =
          ap by_arm_at (arm_is true (definition words.insts default) same refl) ∙ none_led (λ (k : ℕ). is_among label (targets (inst_at words.insts k))) (range_with_len 0 (length words.insts))
          ∙ sym (none_within words v place switch (eqb-true default label same))
      by_test false differs =
          let s = some_within words v limits are place switch (λ same. differ (default == label) (eq-eqb default label same) differs) in
          ap by_arm_at (arm_is false (Some s.first) differs s.defined) ∙ sym s.is
        where
          differ : (b : Bool) → b ≡ true → b ≡ false → ⊥
          differ true is isnt = cc
          differ false is isnt = cc

  found : arms_before words.insts limits (length words.insts) label ≡ arm_at words.insts limits place
  found = the_arm words.insts limits place label
      (λ k arm is merges. (let s = arm_of_switch words.insts limits k arm is in one_switch words v k place s.0 switch (sym s.1 ∙ merges)))
      (λ arm is. (arm_of_switch words.insts limits place arm is).1) (length words.insts) within

-- at the end of both loops
pub left_within_are : (words : Words) (limits : List ℕ) (arms : IdTable Arm) (marks : Marks) → AreLimits words.insts limits → AreArmsBefore words.insts limits (length words.insts) arms
    → AreThose (λ label. list_any (leads_at words.insts limits arms label) (range_with_len 0 (length words.insts))) marks → AreLeftWithin words marks
left_within_are words limits arms marks limits_are arms_are are v place within switch one =
    are (merge_before words.insts place)
    ∙ ap (by_arm_at words v limits limits_are place within switch one) (arms_are (merge_before words.insts place) ∙ found words v limits limits_are place within switch one)
    ∙ told words v limits limits_are place within switch one

pub exits_next : (insts : List Inst) (limits : List ℕ) (arms : IdTable Arm) (place : ℕ) (inst : Inst) (old new : Marks) → inst ≡ inst_at insts place
    → AreThose (λ label. list_any (leads_at insts limits arms label) (range_with_len 0 place)) old → AddsThose (leaves_to arms place (slice_index limits place) (targets inst)) old new
    → AreThose (λ label. list_any (leads_at insts limits arms label) (range_with_len 0 (place + 1))) new
exits_next insts limits arms place inst old new is had adds =
    gathers_next (leads_at insts limits arms) (leaves_to arms place (slice_index limits place) (targets inst)) place old new
    (λ label. ap (λ (i : Inst). leaves_to arms place (slice_index limits place) (targets i) label) is) had adds

pub left_at_end : (words : Words) (insts : List Inst) (limits : List ℕ) (arms : IdTable Arm) (marks : Marks) (n m : ℕ) → insts ≡ words.insts → AreLimits words.insts limits → n ≤ length insts → length insts ≤ n → AreArmsBefore insts limits n arms
    → m ≤ length insts → length insts ≤ m → AreThose (λ label. list_any (leads_at insts limits arms label) (range_with_len 0 m)) marks → AreLeftWithin words marks
left_at_end words insts limits arms marks n m same limits_are most least arms_are up down are =
    let count : n ≡ length insts = omega (arith, most, least) in
    let also : m ≡ length insts = omega (arith, up, down) in
    left_within_are words limits arms marks limits_are
    (λ label. arms_are label ∙ ap (λ (k : ℕ). arms_before insts limits k label) count ∙ ap (λ (l : List Inst). arms_before l limits (length l) label) same)
    (λ label. are label ∙ ap (λ (k : ℕ). list_any (leads_at insts limits arms label) (range_with_len 0 k)) also
    ∙ ap (λ (l : List Inst). list_any (leads_at l limits arms label) (range_with_len 0 (length l))) same)
