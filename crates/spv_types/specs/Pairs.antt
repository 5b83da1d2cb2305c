-- Maps and sets whose keys are pairs of numbers.
use Rattle.std.specs.Prelude.{◌≡◌, ℕ, Bool, ◌==◌, ◌&&◌, ◌||◌, if◌then◌else◌, Option, None, Some}
use Rattle.std.specs.Option.{option_or}
use Rattle.std.specs.declared.cmp.Ordering.{Ordering}
use Rattle.std.specs.Ordering.{nat_cmp, ordering_then}
use Rattle.std.specs.BTreeMap.{BTreeMap, get}
use Rattle.std.specs.BTreeSet.{BTreeSet, contains}

abbrev pub pair_cmp : ℕ × ℕ → ℕ × ℕ → Ordering
pair_cmp x y = ordering_then (nat_cmp x.0 y.0) (nat_cmp x.1 y.1)

abbrev pub at_pair : BTreeMap (ℕ × ℕ) ℕ → ℕ → ℕ → Option ℕ
at_pair map a b = get pair_cmp map (a, b)

abbrev pub has_pair : BTreeSet (ℕ × ℕ) → ℕ → ℕ → Bool
has_pair set a b = contains pair_cmp set (a, b)

-- the word, where this holds
abbrev pub word_if : Bool → ℕ → Option ℕ
word_if here word = if here then Some word else None

-- the pair's word is kept, where the map has none before
abbrev pub KeepsFirst : ℕ → ℕ → ℕ → BTreeMap (ℕ × ℕ) ℕ → BTreeMap (ℕ × ℕ) ℕ → Type 0
KeepsFirst a b word old new =
    (c d : ℕ) → at_pair new c d ≡ option_or (at_pair old c d) (word_if ((a == c) && (b == d)) word)

-- the set has the pair, too
abbrev pub AddsPair : ℕ → ℕ → BTreeSet (ℕ × ℕ) → BTreeSet (ℕ × ℕ) → Type 0
AddsPair a b old new = (c d : ℕ) → has_pair new c d ≡ (has_pair old c d || ((a == c) && (b == d)))
