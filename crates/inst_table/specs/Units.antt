-- The units that are built, in the order of their addresses. Their records fill the heap from its beginning.
use Rattle.std.specs.Prelude.{◌≡◌, ℕ, suc, ◌+◌, List, [], ◌∷◌, ◌++◌, length, cond, ◌==◌, slice_index}
use Rattle.inst_table.specs.declared.view.Unit.{Unit}

-- two lengths, and so many words
abbrev pub IsRecord : List ℕ → Type 0
IsRecord words = length words ≡ 2 + slice_index words 0 + slice_index words 1

-- the words of all records
abbrev pub heap_of : List Unit → List ℕ
heap_of [] = []
heap_of (u ∷ us) = u.words ++ heap_of us

-- 1 plus the place at which the unit's record begins, where the first record begins at `place`, or 0 where the unit isn't built
abbrev pub address_from : ℕ → List Unit → ℕ → ℕ
address_from place [] number = 0
address_from place (u ∷ us) number = cond (u.number == number) (suc place) (address_from (place + length u.words) us number)

abbrev pub address_of : List Unit → ℕ → ℕ
address_of us number = address_from 0 us number

-- the sum of f over a list
abbrev pub total : {X : Type 0} → (X → ℕ) → List X → ℕ
total f [] = 0
total f (x ∷ xs) = f x + total f xs
