-- The sequence intervals of a function: from which place up to which its own sequence stands, each arm, and each of the three
-- parts of each loop. A part of a sequence is none.
use Rattle.std.specs.Prelude.{ℕ, ◌+◌, Bool, not, ◌&&◌, ◌||◌, nat_le, nat_lt, List, [], ◌∷◌, ◌++◌, Option}
use Rattle.std.specs.List.{list_all}
use Rattle.spirv_model.specs.declared.module.Inst.{Inst}
use Rattle.body_model.specs.Scope.{Scope}
use Rattle.body_model.specs.Grammar.{Sequence, ends, goes_on, selects, picks, loops, Arm, straight, through, Arms, no_arm, arm_behind, Derives}

-- the places from the first one up to the second one, which isn't among them
pub record Interval : Type 0 where
  pub from : ℕ
  pub to : ℕ

abbrev pub interval : ℕ → ℕ → Interval
interval from to = record { from = from; to = to }

-- a sequence between two places, and what stands in it
abbrev pub around : ℕ → ℕ → List Interval → List Interval
around from to inside = interval from to ∷ inside

abbrev mutual
  -- of what stands in a sequence, apart from the sequence itself
  pub inside : {insts : List Inst} {scope : Scope} {wanted next : Option ℕ} {from to : ℕ} → Sequence insts scope wanted from to next → List Interval
  inside (ends last here is label_is place_is) = []
  inside (goes_on after here is rest) = inside rest
  inside (selects head second join here is on_true on_false rest) = of_arm on_true ++ (of_arm on_false ++ inside rest)
  inside (picks head join here is arms rest) = of_arms arms ++ inside rest
  inside (loops head inner first second third here is condition body step rest) =
      around head.after first (inside condition) ++ (around first second (inside body) ++ (around second third (inside step) ++ inside rest))

  pub of_arm : {insts : List Inst} {scope : Scope} {merge target from to : ℕ} → Arm insts scope merge target from to → List Interval
  of_arm (straight is none) = []
  of_arm {from = from} {to = to} (through isnt sequence) = around from to (inside sequence)

  pub of_arms : {insts : List Inst} {scope : Scope} {merge : ℕ} {all due left : List ℕ} {from to : ℕ} → Arms insts scope merge all due from left to → List Interval
  of_arms (no_arm is none) = []
  of_arms {to = to} (arm_behind label between before arms among is sequence) = of_arms arms ++ around between to (inside sequence)

-- of the module's function
abbrev pub intervals_of : {insts : List Inst} → Derives insts → List Interval
intervals_of d = around (d.before + 1) d.after (inside d.sequence)

-- ---- visibility

abbrev pub has_place : ℕ → Interval → Bool
has_place place i = nat_le i.from place && nat_lt place i.to

-- what is defined at the first place is visible at the second: it stands before it, and in no interval that ends between them
unfoldable pub is_visible : List Interval → ℕ → ℕ → Bool
is_visible intervals a b = nat_lt a b && list_all (λ i. not (has_place a i) || has_place b i) intervals
