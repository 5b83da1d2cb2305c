-- The words that stand for scalars.
use Rattle.std.specs.Prelude.{ℕ, Bool, true, false, not, ◌==◌, if◌then◌else◌, List, [], ◌∷◌, Option, None, Some}
use Rattle.scalar_model.specs.declared.scalar_value.Scalar.{Scalar}
use Rattle.scalar_model.specs.declared.scalar_value.Scalar.TheVariants.{Bool as Truth, Word}
use Rattle.scalar_model.specs.Scalars.{word_from_word, word_from_words, comparison, truth_from_truth, truth_from_truths}

abbrev pub truth_word : Bool → ℕ
truth_word true = 1
truth_word false = 0

-- a truth value is the word 1 or 0
abbrev pub scalar_word : Scalar → ℕ
scalar_word (Truth b) = truth_word b
scalar_word (Word word) = word

abbrev pub is_true_word : ℕ → Bool
is_true_word word = not (word == 0)

-- the word that an operation of this kind gives, or else this one
abbrev pub word_by_word : Option (ℕ → ℕ) → ℕ → ℕ → ℕ
word_by_word None word other = other
word_by_word (Some f) word other = f word

abbrev pub truth_by_truth : Option (Bool → Bool) → ℕ → ℕ
truth_by_truth None word = 0
truth_by_truth (Some f) word = truth_word (f (is_true_word word))

abbrev pub word_by_words : Option (ℕ → ℕ → ℕ) → ℕ → ℕ → ℕ → ℕ
word_by_words None left right other = other
word_by_words (Some f) left right other = f left right

abbrev pub truth_by_words : Option (ℕ → ℕ → Bool) → ℕ → ℕ → ℕ → ℕ
truth_by_words None left right other = other
truth_by_words (Some f) left right other = truth_word (f left right)

abbrev pub truth_by_truths : Option (Bool → Bool → Bool) → ℕ → ℕ → ℕ
truth_by_truths None left right = 0
truth_by_truths (Some f) left right = truth_word (f (is_true_word left) (is_true_word right))

-- the word of an operation's result, by the words of its operands
unfoldable pub word_of_one : ℕ → ℕ → ℕ
word_of_one op word = word_by_word (word_from_word op) word (truth_by_truth (truth_from_truth op) word)

unfoldable pub word_of_two : ℕ → ℕ → ℕ → ℕ
word_of_two op left right =
    word_by_words (word_from_words op) left right (truth_by_words (comparison op) left right (truth_by_truths (truth_from_truths op) left right))

-- the first or the second word, by the word of a truth value
abbrev pub word_of_choice : (condition first second : ℕ) → ℕ
word_of_choice condition first second = if is_true_word condition then first else second

unfoldable pub word_of_all : ℕ → List ℕ → ℕ
word_of_all op (word ∷ []) = word_of_one op word
word_of_all op (left ∷ right ∷ []) = word_of_two op left right
word_of_all op (condition ∷ first ∷ second ∷ []) = word_of_choice condition first second
word_of_all op words = 0
