-- What operations on words give.
use Rattle.std.specs.Prelude.{ℕ, Option}
use Rattle.std.specs.Option.{option_map, option_or}
use Rattle.std.specs.Int.{int_shr}
use Rattle.basics.specs.Word.{signed_word, word_of}
use Rattle.scalar_model.specs.Scalars.{comparison, shifted, sign_in_every_bit, word_from_words}
use Rattle.scalar_model.specs.declared.scalar_value.Scalar.{Scalar}
use Rattle.scalar_model.specs.declared.scalar_value.Scalar.TheVariants.{Bool as Truth, Word}

-- the result of an operation on two words: a word, or else the truth of a comparison
abbrev pub result_of_words : ℕ → ℕ → ℕ → Option Scalar
result_of_words op left right =
    option_or (option_map (λ f. Word (f left right)) (word_from_words op)) (option_map (λ f. Truth (f left right)) (comparison op))

-- an arithmetic shift, which by 32 bits or more gives the sign in every bit
abbrev pub arithmetic_shift : ℕ → ℕ → ℕ
arithmetic_shift word bits = shifted (λ a k. word_of (int_shr (signed_word a) k)) sign_in_every_bit word bits
