-- What is visible at a place that isn't dead isn't dead either.
use Rattle.std.proofs.Common.{◌≡◌, ℕ, suc, ◌+◌, ◌-◌, ◌<◌, ◌≤◌, ◌&&◌, ◌||◌, inl, inr, Bool, true, false, not, nat_le, nat_lt, List, [], ◌++◌, drop, refl, ap, sym, ◌∙◌, arith, Option, Some}
use Rattle.std.specs.Prelude.{slice_get}
use Rattle.std.proofs.lemmas.Bool.{cases_lt, lt-ltb, ltb-true, le-leb}
use Rattle.std.proofs.lemmas.List.Folds.{list_all-append}
use Rattle.basics.proofs.Bools.{first_of_both, second_of_both}
use Rattle.spirv_model.specs.declared.module.Words.{Words}
use Rattle.body_model.specs.declared.block_end.BlockEnd.{BlockEnd}
use Rattle.body_model.specs.declared.block_end.BlockEnd.TheVariants as way
use Rattle.body_model.specs.Blocks.{block_end}
use Rattle.body_model.specs.Due.{IsDue}
use Rattle.body_model.specs.Grammar.{Derives, Sequence, ends, goes_on, selects, picks, loops, Arm, straight, through, Arms, no_arm, arm_behind}
use Rattle.body_model.specs.Scope.{Scope}
use Rattle.body_model.proofs.Shapes.{IsWhole, after_of}
use Rattle.body_model.proofs.Slices.{slice_get-drop}
use Rattle.valid_model.specs.Definitions.{inst_at}
use Rattle.check_model.specs.Intervals.{Interval, interval, around, inside, of_arm, of_arms, has_place, intervals_of, is_visible}
use Rattle.check_model.specs.Validity.{IsValidList}
use Rattle.typed_model.specs.Jumps.{keeps}
use Rattle.typed_model.proofs.BlockParts.{block_parts}
use Rattle.typed_model.proofs.LabelsBefore.{stands_there}
use Rattle.typed_model.proofs.TypedSteps.{seen}
use Rattle.change_model.specs.Plans.{Plan, is_dead}
use Rattle.change_model.specs.PlanRules.{IsPlan}
use Rattle.change_model.proofs.LeftAlive.{all_dead}
use Rattle.change_model.proofs.LeftHeads.{same_life}
use Rattle.change_model.proofs.LeftPlaced.{IsArmPlaced, placed_next, placed_true, placed_false, placed_merge}
use Rattle.change_model.proofs.LeftPlacedArms.{AreArmsPlaced, placed_arms, placed_join}
use Rattle.change_model.proofs.LeftPlacedLoops.{placed_test, placed_body, placed_step, placed_behind}
use Rattle.change_model.proofs.LeftPlacedWhole.{labels_once, placed_whole}
use Rattle.change_model.proofs.LeftScopes.{is_label_at, Placed}
use Rattle.change_model.proofs.Planned.{Planned}

-- ---- what is kept

front_kept : (is js : List Interval) (a b : ℕ) → keeps (is ++ js) a b ≡ true → keeps is a b ≡ true
front_kept is js a b kept = first_of_both (keeps is a b) (keeps js a b) (sym (list_all-append (λ i. not (has_place a i) || has_place b i) is js) ∙ kept)

rest_kept : (is js : List Interval) (a b : ℕ) → keeps (is ++ js) a b ≡ true → keeps js a b ≡ true
rest_kept is js a b kept = second_of_both (keeps is a b) (keeps js a b) (sym (list_all-append (λ i. not (has_place a i) || has_place b i) is js) ∙ kept)

both : (a b : Bool) → a ≡ true → b ≡ true → (a && b) ≡ true
both true b is also = also
both false b is also = cc

second_of : (a b : Bool) → a ≡ true → (not a || b) ≡ true → b ≡ true
second_of true b is either = either
second_of false b is either = cc

-- what is kept from a place of an interval is kept in it
kept_within : (from to a b : ℕ) (is : List Interval) → from ≤ a → a < to → keeps (around from to is) a b ≡ true → (b < to) × (keeps is a b ≡ true)
kept_within from to a b is low high kept =
    let own = interval from to in
    let here = both (nat_le from a) (nat_lt a to) (le-leb from a low) (lt-ltb a to high) in
    let there = second_of (has_place a own) (has_place b own) here (first_of_both (not (has_place a own) || has_place b own) (keeps is a b) kept) in
    (ltb-true b to (second_of_both (nat_le from b) (nat_lt b to) there), second_of_both (not (has_place a own) || has_place b own) (keeps is a b) kept)

-- ---- in a part of the function

-- where a place is dead, so is each one at which it is visible
abbrev Sinks : Plan → ℕ → ℕ → List Interval → Type 0
Sinks plan from to is = (a b : ℕ) → from ≤ a → a < b → b < to → keeps is a b ≡ true → is_dead (plan.fate a) ≡ true → is_dead (plan.fate b) ≡ true

-- in an interval of its own
abbrev SinksWithin : Plan → ℕ → ℕ → List Interval → Type 0
SinksWithin plan from to is = (a b : ℕ) → from ≤ a → a < to → a < b → keeps is a b ≡ true → is_dead (plan.fate a) ≡ true → is_dead (plan.fate b) ≡ true

sinks_around : (plan : Plan) (from to : ℕ) (is : List Interval) → Sinks plan from to is → SinksWithin plan from to (around from to is)
sinks_around plan from to is sinks a b low high less kept dead = let k = kept_within from to a b is low high kept in sinks a b low less k.0 k.1 dead

module _ (words : Words) (v : IsValidList words) (zeros : List ℕ) (plan : Plan) (p : IsPlan words v zeros plan) where
  -- a place of its first block: the block is dead, and so is all of it
  first_sinks : (scope : Scope) (wanted next : Option ℕ) (from to : ℕ) (end : BlockEnd) → IsDue words.insts wanted from → block_end words.insts scope from ≡ end → IsWhole end → (is : List Interval) → Placed words.insts v.derivation scope next from to is
      → (a b : ℕ) → from ≤ a → a < after_of end → a < b → b < to → is_dead (plan.fate a) ≡ true → is_dead (plan.fate b) ≡ true
  first_sinks scope wanted next from to end here at whole is placed a b low early less high dead =
      let l = placed.low in
      let h = placed.high in
      all_dead words v zeros plan p from to l h (λ place at before. placed.entered place at (inl before))
      (sym (same_life words v zeros plan p from a low l (omega (arith, less, high, h)) plain) ∙ dead) b (omega (arith, low, less)) high
    where
      plain : (place : ℕ) → from < place → place ≤ a → is_label_at words.insts place ≡ false
      plain place more upto =
          let l = placed.low in
          let h = placed.high in
          let within : place < v.derivation.after = omega (arith, upto, less, high, h) in
          let index = place - from - 1 in
          let e : from + suc index ≡ place = omega (arith, more) in
          let found : slice_get (drop from words.insts) (suc index) ≡ Some (inst_at words.insts place) =
          slice_get-drop from (suc index) words.insts ∙ ap (slice_get words.insts) e ∙ stands_there words.insts v.derivation place (omega (arith, l, more)) within in
          ((block_parts words.insts scope wanted from end here at whole).later index (inst_at words.insts place) found (omega (arith, e, upto, early))).no_label

  mutual
    sinks : {scope : Scope} {wanted next : Option ℕ} {from to : ℕ} (s : Sequence words.insts scope wanted from to next) → Placed words.insts v.derivation scope next from to (inside s) → Sinks plan from to (inside s)
    sinks {scope} {wanted} {next} {from} {to} (ends last here at next_is after_is) placed a b low less high kept dead =
        let early : a < last.after = omega (arith, after_is, less, high) in
        first_sinks scope wanted next from to (way.Ends last) here at tt [] placed a b low early less high dead
    sinks {scope} {wanted} {next} {from} {to} (goes_on after here at rest) placed a b low less high kept dead = elim (cases_lt a after) [
      | inl early ↦ first_sinks scope wanted next from to (way.GoesOn after) here at tt (inside rest) placed a b low early less high dead
      | inr late ↦ sinks rest (placed_next words.insts (labels_once words v) v.derivation scope wanted next from to after here at rest placed) a b late less high kept dead
    ]
    sinks {scope} {wanted} {next} {from} {to} (selects head second join here at on_true on_false rest) placed a b low less high kept dead =
        let A = of_arm on_true in let B = of_arm on_false in let R = inside rest in
        elim (cases_lt a head.after) [
          | inl early ↦ first_sinks scope wanted next from to (way.Selects head) here at tt (A ++ (B ++ R)) placed a b low early less high dead
          | inr late ↦ elim (cases_lt a second) [
            | inl in_true ↦ arm_sinks on_true (placed_true words.insts (labels_once words v) v.derivation scope wanted next from to head second join here at on_true on_false rest placed) a b late in_true less (front_kept A (B ++ R) a b kept) dead
            | inr past ↦ elim (cases_lt a join) [
              | inl in_false ↦
                  arm_sinks on_false (placed_false words.insts (labels_once words v) v.derivation scope wanted next from to head second join here at on_true on_false rest placed) a b past in_false less
                  (front_kept B R a b (rest_kept A (B ++ R) a b kept)) dead
              | inr behind ↦
                  sinks rest (placed_merge words.insts (labels_once words v) v.derivation scope wanted next from to head second join here at on_true on_false rest placed) a b behind less high
                  (rest_kept B R a b (rest_kept A (B ++ R) a b kept)) dead
            ]
          ]
        ]
    sinks {scope} {wanted} {next} {from} {to} (picks head join here at arms rest) placed a b low less high kept dead =
        let A = of_arms arms in let R = inside rest in
        elim (cases_lt a head.after) [
          | inl early ↦ first_sinks scope wanted next from to (way.Picks head) here at tt (A ++ R) placed a b low early less high dead
          | inr late ↦ elim (cases_lt a join) [
            | inl in_arms ↦ arms_sink head.after arms (placed_arms words.insts (labels_once words v) v.derivation scope wanted next from to head join here at arms rest placed) a b late in_arms less (front_kept A R a b kept) dead
            | inr behind ↦ sinks rest (placed_join words.insts (labels_once words v) v.derivation scope wanted next from to head join here at arms rest placed) a b behind less high (rest_kept A R a b kept) dead
          ]
        ]
    sinks {scope} {wanted} {next} {from} {to} (loops head inner first second third here at tested within step rest) placed a b low less high kept dead =
        let C = around head.after first (inside tested) in let D = around first second (inside within) in let E = around second third (inside step) in let R = inside rest in
        elim (cases_lt a head.after) [
          | inl early ↦ first_sinks scope wanted next from to (way.Loops head) here at tt (C ++ (D ++ (E ++ R))) placed a b low early less high dead
          | inr late ↦ elim (cases_lt a first) [
            | inl in_test ↦
                sinks_around plan head.after first (inside tested)
                (sinks tested (placed_test words.insts (labels_once words v) v.derivation scope wanted next from to head inner first second third here at tested within step rest placed)) a b late in_test less
                (front_kept C (D ++ (E ++ R)) a b kept) dead
            | inr past ↦ elim (cases_lt a second) [
              | inl in_body ↦
                  sinks_around plan first second (inside within)
                  (sinks within (placed_body words.insts (labels_once words v) v.derivation scope wanted next from to head inner first second third here at tested within step rest placed)) a b past in_body less
                  (front_kept D (E ++ R) a b (rest_kept C (D ++ (E ++ R)) a b kept)) dead
              | inr further ↦ elim (cases_lt a third) [
                | inl in_step ↦
                    sinks_around plan second third (inside step)
                    (sinks step (placed_step words.insts (labels_once words v) v.derivation scope wanted next from to head inner first second third here at tested within step rest placed)) a b further in_step less
                    (front_kept E R a b (rest_kept D (E ++ R) a b (rest_kept C (D ++ (E ++ R)) a b kept))) dead
                | inr behind ↦
                    sinks rest (placed_behind words.insts (labels_once words v) v.derivation scope wanted next from to head inner first second third here at tested within step rest placed) a b behind less high
                    (rest_kept E R a b (rest_kept D (E ++ R) a b (rest_kept C (D ++ (E ++ R)) a b kept))) dead
              ]
            ]
          ]
        ]

    arm_sinks : {scope : Scope} {merge target from to : ℕ} (x : Arm words.insts scope merge target from to) → IsArmPlaced words.insts v.derivation x → SinksWithin plan from to (of_arm x)
    arm_sinks (straight same none) placed a b low high less kept dead = absurd (omega (arith, low, high, none))
    arm_sinks {from = from} {to = to} (through isnt s) placed a b low high less kept dead = sinks_around plan from to (inside s) (sinks s placed) a b low high less kept dead

    arms_sink : (after : ℕ) {scope : Scope} {merge : ℕ} {all due left : List ℕ} {from to : ℕ} (x : Arms words.insts scope merge all due from left to) → AreArmsPlaced words.insts v.derivation after x → SinksWithin plan from to (of_arms x)
    arms_sink after (no_arm same none) placed a b low high less kept dead = absurd (omega (arith, low, high, none))
    arms_sink after {from = from} {to = to} (arm_behind label between before arms among fewer s) placed a b low high less kept dead = elim (cases_lt a between) [
      | inl early ↦ arms_sink after arms placed.0 a b low early less (front_kept (of_arms arms) (around between to (inside s)) a b kept) dead
      | inr late ↦ sinks_around plan between to (inside s) (sinks s placed.1.placed) a b late high less (rest_kept (of_arms arms) (around between to (inside s)) a b kept) dead
    ]

-- ---- in the function

clash : {Q : Type 0} (b : Bool) → b ≡ true → b ≡ false → Q
clash true is isnt = cc
clash false is isnt = cc

pub seen_alive : (g : Planned) (a b : ℕ) → is_visible (intervals_of g.valid.derivation) a b ≡ true → is_dead (g.plan.fate b) ≡ false → is_dead (g.plan.fate a) ≡ false
seen_alive g a b visible alive = elim (cases_lt d.before a) [
  | inl low ↦ elim (cases_lt a d.after) [
    | inl high ↦ by_test low high (is_dead (g.plan.fate a)) refl
    | inr past ↦ ap is_dead (g.is.outside a (inr past))
  ]
  | inr upto ↦ ap is_dead (g.is.outside a (inl upto))
]
  where
    d : Derives g.words.insts
    d = g.valid.derivation

    by_test : g.valid.derivation.before < a → a < g.valid.derivation.after → (x : Bool) → is_dead (g.plan.fate a) ≡ x → x ≡ false
    by_test low high false is = refl
    by_test low high true dead =
        let s = seen (intervals_of g.valid.derivation) a b visible in
        clash (is_dead (g.plan.fate b))
        (sinks_around g.plan (d.before + 1) d.after (inside d.sequence) (sinks g.words g.valid g.zeros g.plan g.is d.sequence (placed_whole g.words g.valid)) a b (omega (arith, low)) high s.0 s.1 dead) alive
