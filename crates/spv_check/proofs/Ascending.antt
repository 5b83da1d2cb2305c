-- The numbers of a set stand in ascending order.
use Rattle.std.proofs.Common.{◌≡◌, ℕ, zero, suc, ◌<◌, ◌==◌, nat_lt, Bool, true, false, ◌||◌, List, [], ◌∷◌, length, slice_index, Result, Ok, Err, refl, subst, sym, ◌∙◌, arith}
use Rattle.std.specs.Prelude.{cond, IfOk}
use Rattle.std.specs.List.{list_any}
use Rattle.std.specs.List.Sorted.{IsStrictlySortedBy}
use Rattle.std.specs.Ordering.{nat_cmp, is_eq}
use Rattle.std.specs.declared.cmp.Ordering.TheVariants.{Less, Equal, Greater}
use Rattle.std.specs.BTreeMap.{is_at}
use Rattle.std.specs.BTreeSet.{BTreeSet, keys}
use Rattle.std.proofs.lemmas.Bool.Decides.{nat_tests}
use Rattle.std.specs.declared.alloc.AllocError.{AllocError}
use Rattle.spirv_model.specs.declared.module.Inst.{Inst}
use Rattle.body_model.specs.Switches.{is_among}
use Rattle.check_model.specs.Interfaces.{AreSpecIds}
use Rattle.spv_check.specs.SpecIds.{AreInOrder, HasSpecIds}

less_by : (b e : Bool) → cond b Less (cond e Equal Greater) ≡ Less → b ≡ true
less_by true e is = refl
less_by false true is = cc
less_by false false is = cc

below : (x y : ℕ) → nat_cmp x y ≡ Less → x < y
below x y is = let lower = less_by (nat_lt x y) (x == y) is in grind (arith, nat_tests)

ascending : (xs : List ℕ) → IsStrictlySortedBy nat_cmp xs → (i j : ℕ) → i < j → j < length xs → slice_index xs i < slice_index xs j
unfolding IsStrictlySortedBy
ascending [] sorted i j lower within = absurd (omega arith)
ascending (x ∷ []) sorted i j lower within = absurd (omega arith)
ascending (x ∷ y ∷ xs) sorted zero zero lower within = absurd (omega arith)
ascending (x ∷ y ∷ xs) sorted zero (suc zero) lower within = below x y sorted.0.0
ascending (x ∷ y ∷ xs) sorted zero (suc (suc j)) lower within =
    let first = below x y sorted.0.0 in
    let next = ascending (y ∷ xs) sorted.1 zero (suc j) (omega arith) (omega arith) in omega (arith, first, next)
ascending (x ∷ y ∷ xs) sorted (suc i) zero lower within = absurd (omega arith)
ascending (x ∷ y ∷ xs) sorted (suc i) (suc j) lower within = ascending (y ∷ xs) sorted.1 i j (omega arith) (omega arith)

by_tests : (lower e e' : Bool) → e ≡ e' → (lower ≡ true → e' ≡ false) → is_eq (cond lower Less (cond e Equal Greater)) ≡ e'
by_tests true e e' same apart = sym (apart refl)
by_tests false true e' same apart = same
by_tests false false e' same apart = same

same_key : (id key : ℕ) → is_eq (nat_cmp id key) ≡ (key == id)
same_key id key = by_tests (nat_lt id key) (id == key) (key == id) (grind (arith, nat_tests)) (λ lower. grind (arith, nat_tests))

either : (a a' b b' : Bool) → a ≡ a' → b ≡ b' → (a || b) ≡ (a' || b')
either a a' b b' x y = cc

among : (id : ℕ) (ids : List ℕ) → is_among id ids ≡ list_any (is_at (nat_cmp id)) ids
among id [] = refl
among id (key ∷ ids) = either _ _ _ _ (sym (same_key id key)) (among id ids)

pub spec_ids_of : (insts : List Inst) (set : BTreeSet ℕ) (ids : List ℕ) → HasSpecIds insts set → AreInOrder set ids → AreSpecIds insts ids
spec_ids_of insts set ids has are =
    subst (AreSpecIds insts) (sym are.are)
    (record { ascending = ascending (keys set) are.ordered; declared = λ id. among id (keys set) ∙ has id })

pub spec_ids_if : (insts : List Inst) (set : BTreeSet ℕ) (result : Result (List ℕ) AllocError) → HasSpecIds insts set → IfOk result (AreInOrder set) → IfOk result (AreSpecIds insts)
spec_ids_if insts set (Ok ids) has are = spec_ids_of insts set ids has are
spec_ids_if insts set (Err error) has are = tt
