-- The labels in a part of a sequence are free in its new scope.
use Rattle.std.proofs.Common.{◌≡◌, ◌≢◌, ℕ, ◌<◌, ◌≤◌, inl, Bool, true, false, ◌==◌, ◌||◌, not, if◌then◌else◌, List, [], ◌∷◌, ◌++◌, refl, ap, sym, ◌∙◌, arith, Option, None, Some}
use Rattle.spirv_model.specs.declared.module.Inst.{Inst}
use Rattle.body_model.specs.declared.scope.End.{End}
use Rattle.body_model.specs.Blocks.{exit_to}
use Rattle.body_model.specs.Grammar.{Derives}
use Rattle.body_model.specs.Scope.{Scope, behind_block, behind_selection, behind_loop, arm, switch_arm, condition, body, continuing}
use Rattle.body_model.specs.Switches.{is_among, without}
use Rattle.check_model.specs.Intervals.{Interval}
use Rattle.change_model.proofs.LeftExits.{ExitBy, by_merge, by_leave, by_header, by_loop, exit_by, exit_is}
use Rattle.change_model.proofs.LeftPlacedArms.{PlacedArm}
use Rattle.change_model.proofs.LeftScopes.{is_label_at, label_at, Placed, IsFree, Apart}

-- no exit leads to the label
pub no_exit : (scope : Scope) (label : ℕ) → (ExitBy scope label → ⊥) → exit_to scope label ≡ None
no_exit scope label isnt = by_found (exit_to scope label) refl
  where
    by_found : (found : Option End) → exit_to scope label ≡ found → found ≡ None
    by_found None is = refl
    by_found (Some end) is = absurd (isnt (exit_by scope label end is))

pub not_exit : (scope : Scope) (label : ℕ) → exit_to scope label ≡ None → ExitBy scope label → ⊥
not_exit scope label none way = never (exit_is scope label way).is none
  where
    never : {found : Option End} {end : End} → found ≡ Some end → found ≡ None → ⊥
    never some none = cc

-- an exit is a way to leave
pub leaves_by : (scope : Scope) (label : ℕ) → ExitBy scope label → exit_to scope label ≢ None
leaves_by scope label way none = not_exit scope label none way

-- ---- the same sequence, further on

pub apart_less : (insts : List Inst) (low from to high : ℕ) (scope : Scope) → low ≤ from → to ≤ high → Apart insts low high scope → Apart insts from to scope
apart_less insts low from to high scope down up apart place behind before is = apart place (omega (arith, down, behind)) (omega (arith, up, before)) is

pub apart_block : (insts : List Inst) (from to : ℕ) (scope : Scope) → Apart insts from to scope → Apart insts from to (behind_block scope)
apart_block insts from to scope apart place behind before is = (let f = apart place behind before is in record { goes = f.goes; free = f.free })

pub apart_selection : (insts : List Inst) (from to : ℕ) (scope : Scope) → Apart insts from to scope → Apart insts from to (behind_selection scope)
apart_selection insts from to scope apart place behind before is = (let f = apart place behind before is in record { goes = f.goes; free = f.free })

pub apart_loop : (insts : List Inst) (from to : ℕ) (scope : Scope) → Apart insts from to scope → Apart insts from to (behind_loop scope)
apart_loop insts from to scope apart place behind before is = (let f = apart place behind before is in record { goes = f.goes; free = f.free })

-- ---- parts

some_label : (a b : ℕ) → ◌≡◌ {A = Option ℕ} (Some a) (Some b) → a ≡ b
some_label a b same = cc

none_some : {X : Type 0} {x : X} → ◌≡◌ {A = Option X} None (Some x) → ⊥
none_some same = cc

among_both : (label : ℕ) (xs ys : List ℕ) → is_among label xs ≡ false → is_among label ys ≡ false → is_among label (xs ++ ys) ≡ false
among_both label [] ys first second = second
among_both label (x ∷ xs) ys first second = by_test (x == label) (is_among label xs) refl refl first (λ none. among_both label xs ys none second)
  where
    by_test : (a b : Bool) → x == label ≡ a → is_among label xs ≡ b → (a || b) ≡ false → (is_among label xs ≡ false → is_among label (xs ++ ys) ≡ false) → ((x == label) || is_among label (xs ++ ys)) ≡ false
    by_test true b is rest none more = cc
    by_test false b is rest none more = rw is (more (rest ∙ none))

refuted : (b : Bool) → (b ≡ true → ⊥) → b ≡ false
refuted true isnt = absurd (isnt refl)
refuted false isnt = refl

without_among : (label own : ℕ) (labels : List ℕ) → is_among label (without own labels) ≡ true → is_among label labels ≡ true
without_among label own [] among = among
without_among label own (x ∷ labels) among = by_tests (x == own) (x == label) refl among (λ more. without_among label own labels more)
  where
    by_tests : (a b : Bool) → x == label ≡ b → is_among label (if not a then x ∷ without own labels else without own labels) ≡ true → (is_among label (without own labels) ≡ true → is_among label labels ≡ true)
        → ((x == label) || is_among label labels) ≡ true
    by_tests a true is among more = rw is refl
    by_tests true false is among more = rw is (more among)
    by_tests false false is among more = rw is (more (sym (ap (λ (b : Bool). b || is_among label (without own labels)) is) ∙ among))

module _ (insts : List Inst) (d : Derives insts) (old new : Scope) (low high from to : ℕ) (down : low ≤ from) (up : to ≤ high) (apart : Apart insts low high new) (inner : List Interval) where
  free_there : (place : ℕ) → from < place → place < to → is_label_at insts place ≡ true → IsFree new (label_at insts place)
  free_there place behind before is = apart place (omega (arith, down, behind)) (omega (arith, up, before)) is

  -- an exit that a part has of the sequence around it
  outer : (place : ℕ) → from < place → place < to → is_label_at insts place ≡ true → ExitBy new (label_at insts place) → ⊥
  outer place behind before is way = not_exit new (label_at insts place) (free_there place behind before is).goes way

  pub apart_arm : (merge : ℕ) → Placed insts d (arm old merge) None from to inner → Apart insts from to (arm new merge)
  apart_arm merge p place behind before is = record { goes = no_exit (arm new merge) (label_at insts place) no_way; free = (free_there place behind before is).free }
    where
      no_way : ExitBy (arm new merge) (label_at insts place) → ⊥
      no_way (by_merge same) = p.merge merge refl place (omega (arith, behind)) before is (sym (some_label merge (label_at insts place) same))
      no_way (by_leave same) = outer place behind before is (by_leave same)
      no_way (by_header same) = none_some same
      no_way (by_loop exits same one) = outer place behind before is (by_loop exits same one)

  pub apart_switch : (merge own after : ℕ) (all : List ℕ) → PlacedArm insts d old merge all after own from to inner → Apart insts from to (switch_arm new merge (without own all))
  apart_switch merge own after all p place behind before is = record {
    goes = no_exit (switch_arm new merge (without own all)) (label_at insts place) no_way;
    free = among_both (label_at insts place) (without own all) new.barred
        (refuted (is_among (label_at insts place) (without own all)) (λ among. p.others (label_at insts place) (without_among (label_at insts place) own all among) place behind before is refl))
        (free_there place behind before is).free;
  }
    where
      at_merge : ◌≡◌ {A = Option ℕ} (Some merge) (Some (label_at insts place)) → ⊥
      at_merge same = p.placed.merge merge refl place (omega (arith, behind)) before is (sym (some_label merge (label_at insts place) same))

      no_way : ExitBy (switch_arm new merge (without own all)) (label_at insts place) → ⊥
      no_way (by_merge same) = at_merge same
      no_way (by_leave same) = at_merge same
      no_way (by_header same) = none_some same
      no_way (by_loop exits same one) = outer place behind before is (by_loop exits same one)

  pub apart_test : (merge : ℕ) → Apart insts from to (condition new merge)
  apart_test merge place behind before is = record { goes = refl; free = (free_there place behind before is).free }

  pub apart_body : (merge next : ℕ) → Placed insts d (body old merge next) None from to inner → Apart insts from to (body new merge next)
  apart_body merge next p place behind before is = record { goes = no_exit (body new merge next) (label_at insts place) no_way; free = (free_there place behind before is).free }
    where
      no_way : ExitBy (body new merge next) (label_at insts place) → ⊥
      no_way (by_merge same) = none_some same
      no_way (by_leave same) = none_some same
      no_way (by_header same) = none_some same
      no_way (by_loop exits same one) = p.left (label_at insts place) (inl (leaves_by (body old merge next) (label_at insts place) (by_loop exits same one))) place (omega (arith, behind)) before is refl

  pub apart_step : (header : ℕ) → Placed insts d (continuing old header) None from to inner → Apart insts from to (continuing new header)
  apart_step header p place behind before is = record { goes = no_exit (continuing new header) (label_at insts place) no_way; free = (free_there place behind before is).free }
    where
      no_way : ExitBy (continuing new header) (label_at insts place) → ⊥
      no_way (by_merge same) = none_some same
      no_way (by_leave same) = none_some same
      no_way (by_header same) = p.left (label_at insts place) (inl (leaves_by (continuing old header) (label_at insts place) (by_header same))) place (omega (arith, behind)) before is refl
      no_way (by_loop exits same one) = none_some same
