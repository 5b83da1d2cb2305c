-- Words that are made one by one of the words of lists.
use Rattle.std.specs.Prelude.{ℕ, Bool, not, ◌==◌, if◌then◌else◌, List, [], ◌∷◌}

-- of two lists, as far as both go
abbrev pub on_both : (ℕ → ℕ → ℕ) → List ℕ → List ℕ → List ℕ
on_both f (a ∷ xs) (b ∷ ys) = f a b ∷ on_both f xs ys
on_both f xs ys = []

-- a truth value's word is 1 or 0
abbrev pub is_true_word : ℕ → Bool
is_true_word word = not (word == 0)

-- the first or the second word, by a truth value's
abbrev pub chosen_word : (condition first second : ℕ) → ℕ
chosen_word condition first second = if is_true_word condition then first else second

-- of the words of two lists those that the words of truth values choose
abbrev pub chosen_words : List ℕ → List ℕ → List ℕ → List ℕ
chosen_words (condition ∷ conditions) (a ∷ xs) (b ∷ ys) = chosen_word condition a b ∷ chosen_words conditions xs ys
chosen_words conditions xs ys = []
