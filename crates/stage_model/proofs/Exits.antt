-- Where the parts of a selection, an OpSwitch or a loop may lead, in the scope around them.
use Rattle.std.proofs.Common.{◌≡◌, ◌≢◌, ℕ, ◌==◌, ◌⊎◌, inl, inr, Bool, true, false, if◌then◌else◌, List, refl, ap, sym, ◌∙◌, subst, arith, Option, None, Some}
use Rattle.std.proofs.lemmas.Bool.Decides.{nat_tests}
use Rattle.body_model.specs.declared.scope.End.{End}
use Rattle.body_model.specs.declared.scope.End.TheVariants.{Merge, Leave, Back, Break, Continue}
use Rattle.body_model.specs.declared.scope.LoopExits.{LoopExits}
use Rattle.body_model.specs.Scope.{Scope, arm, switch_arm, condition, body, continuing}
use Rattle.body_model.specs.Blocks.{is_label, loop_exit_to, exit_to}
use Rattle.body_model.specs.Targets.{MayLeaveTo}

same_some : (a b : ℕ) → ◌≡◌ {A = Option ℕ} (Some a) (Some b) → a ≡ b
same_some a b is = cc

none_some : (a : ℕ) → ◌≡◌ {A = Option ℕ} None (Some a) → ⊥
none_some a is = cc

equal : (a b : ℕ) → a == b ≡ true → a ≡ b
equal a b is = grind (arith, nat_tests)

equal_back : (a b : ℕ) → b == a ≡ true → a ≡ b
equal_back a b is = grind (arith, nat_tests)

flipped : (a b : ℕ) → a == b ≡ false → b == a ≡ false
flipped a b isnt = grind (arith, nat_tests)

self : (a : ℕ) → a == a ≡ true
self a = grind (arith, nat_tests)

-- an exit by the innermost OpSwitch or the innermost loop is one in the scope around
around : (own leaves goes_back : Bool) (exits : Option End) → (if leaves then Some Leave else exits) ≢ None → (if own then Some Merge else if leaves then Some Leave else if goes_back then Some Back else exits) ≢ None
around true leaves goes_back exits there none = cc
around false true goes_back exits there none = cc
around false false true exits there none = cc
around false false false exits there none = there none

-- what an arm's exit is, where it isn't the merge block
not_merge : (leaves : Bool) (exits : Option End) (is_merge : Bool) → is_merge ≡ false → (if is_merge then Some Merge else if leaves then Some Leave else if false then Some Back else exits) ≢ None
    → (if leaves then Some Leave else exits) ≢ None
not_merge leaves exits true isnt there none = cc
not_merge leaves exits false isnt there none = there none

pub arm_exit : (scope : Scope) (merge : ℕ) (next : Option ℕ) (label : ℕ) → MayLeaveTo (arm scope merge) None label → label == merge ≡ false → MayLeaveTo scope next label
arm_exit scope merge next label (inl there) isnt =
    inl (around (is_label scope.merge label) (is_label scope.leave label) (is_label scope.header label) (loop_exit_to scope.exits label)
    (not_merge (is_label scope.leave label) (loop_exit_to scope.exits label) (merge == label) (flipped label merge isnt) there))
arm_exit scope merge next label (inr (inl is)) isnt = absurd (none_some label is)
arm_exit scope merge next label (inr (inr is)) isnt = absurd (none_some label is)

pub switch_exit : (scope : Scope) (merge : ℕ) (others : List ℕ) (next : Option ℕ) (label : ℕ) → MayLeaveTo (switch_arm scope merge others) None label → label == merge ≡ false → MayLeaveTo scope next label
switch_exit scope merge others next label (inl there) isnt =
    inl (around (is_label scope.merge label) (is_label scope.leave label) (is_label scope.header label) (loop_exit_to scope.exits label)
    (λ none. there (by_merge (merge == label) (loop_exit_to scope.exits label) (flipped label merge isnt) (left (is_label scope.leave label) (loop_exit_to scope.exits label) none))))
  where
    left : (leaves : Bool) (exits : Option End) → (if leaves then Some Leave else exits) ≡ None → exits ≡ None
    left true exits is = cc
    left false exits is = is

    by_merge : (is_merge : Bool) (exits : Option End) → is_merge ≡ false → exits ≡ None → (if is_merge then Some Merge else if is_merge then Some Leave else if false then Some Back else exits) ≡ None
    by_merge true exits isnt none = cc
    by_merge false exits isnt none = none
switch_exit scope merge others next label (inr (inl is)) isnt = absurd (none_some label is)
switch_exit scope merge others next label (inr (inr is)) isnt = absurd (none_some label is)

pub merge_exit : (scope : Scope) (merge label : ℕ) → label ≡ merge → MayLeaveTo (arm scope merge) None label
merge_exit scope merge label is = inl (λ none. by_test scope merge label (merge == label) (ap (λ (l : ℕ). merge == l) is ∙ self merge) none)
  where
    by_test : (scope : Scope) (merge label : ℕ) (b : Bool) → b ≡ true → (if b then Some Merge else if is_label scope.leave label then Some Leave else if false then Some Back else loop_exit_to scope.exits label) ≡ None → ⊥
    by_test scope merge label true is none = cc
    by_test scope merge label false is none = cc

pub condition_exit : (scope : Scope) (merge inner label : ℕ) → MayLeaveTo (condition scope merge) (Some inner) label → label == merge ≡ false → label ≡ inner
condition_exit scope merge inner label (inl there) isnt = absurd (there refl)
condition_exit scope merge inner label (inr (inl is)) isnt = absurd (differ label merge isnt (sym (same_some merge label is)))
  where
    differ : (a b : ℕ) → a == b ≡ false → a ≡ b → ⊥
    differ a b isnt is = grind (arith, nat_tests)
condition_exit scope merge inner label (inr (inr is)) isnt = sym (same_some inner label is)

pub body_exit : (scope : Scope) (merge continue label : ℕ) → MayLeaveTo (body scope merge continue) None label → label == merge ≡ false → label ≡ continue
body_exit scope merge continue label (inl there) isnt = by_tests merge continue label (merge == label) (continue == label) (flipped label merge isnt) refl there
  where
    by_tests : (merge continue label : ℕ) (a b : Bool) → a ≡ false → b ≡ (continue == label) → (if a then Some Break else if b then Some Continue else None) ≢ None → label ≡ continue
    by_tests merge continue label true b isnt is there = cc
    by_tests merge continue label false true isnt is there = equal_back label continue (sym is)
    by_tests merge continue label false false isnt is there = absurd (there refl)
body_exit scope merge continue label (inr (inl is)) isnt = absurd (none_some label is)
body_exit scope merge continue label (inr (inr is)) isnt = absurd (none_some label is)

pub continue_exit : (scope : Scope) (header label : ℕ) → MayLeaveTo (continuing scope header) None label → label ≡ header
continue_exit scope header label (inl there) = by_test header label (header == label) refl there
  where
    by_test : (header label : ℕ) (b : Bool) → b ≡ (header == label) → (if b then Some Back else None) ≢ None → label ≡ header
    by_test header label true is there = equal_back label header (sym is)
    by_test header label false is there = absurd (there refl)
continue_exit scope header label (inr (inl is)) = absurd (none_some label is)
continue_exit scope header label (inr (inr is)) = absurd (none_some label is)
