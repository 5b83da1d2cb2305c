-- The words of values that have one.
use Rattle.std.specs.Prelude.{◌≡◌, ℕ, List, [], ◌∷◌, Some}
use Rattle.stage_model.specs.Value.{Value, words_of}

-- these are the single words of the values
abbrev pub AreWords : List Value → List ℕ → Type 0
AreWords [] [] = Unit {0}
AreWords (value ∷ values) (word ∷ words) = (words_of value ≡ Some (word ∷ [])) × AreWords values words
AreWords values words = ⊥
