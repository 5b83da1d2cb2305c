-- The word of the result of a scalar operation on values, by their words.
use Rattle.std.proofs.Common.{◌≡◌, ℕ, ◌≤◌, true, false, List, [], ◌∷◌, map, Option, None, Some, refl, ap, sym, ◌∙◌}
use Rattle.std.specs.Option.{option_map, option_and_then}
use Rattle.scalar_model.specs.declared.scalar_value.Scalar.{Scalar}
use Rattle.scalar_model.specs.declared.scalar_value.Scalar.TheVariants.{Bool as TruthOf, Word as WordOf}
use Rattle.scalar_model.specs.Scalars.{scalar_result}
use Rattle.stage_model.specs.Value.{Value, Truth, Word, Composite, Pointer, Outside, words_of}
use Rattle.stage_model.specs.Start.{scalar_of, of_scalar, all_scalars, scalar_value}
use Rattle.spv_ops.specs.ScalarWords.{scalar_word}
use Rattle.spv_exec.specs.ScalarWords.{AreWords}
use Rattle.spv_exec.proofs.LargeOpcodes.{no_large}

no_value : (value : Value) → ◌≡◌ {A = Option Value} None (Some value) → ⊥
no_value value is = cc

same_some : {A : Type 0} (x y : A) → Some x ≡ Some y → x ≡ y
same_some x y is = cc

own_word : (s : Scalar) → words_of (of_scalar s) ≡ Some (scalar_word s ∷ [])
own_word (TruthOf true) = refl
own_word (TruthOf false) = refl
own_word (WordOf word) = refl

-- scalars, whose words these are
pub record Scalars (opcode : ℕ) (words : List ℕ) (value : Value) : Type 0 where
  pub operands : List Scalar
  pub result : Scalar
  pub gives : scalar_result opcode operands ≡ Some result
  pub are : words ≡ map scalar_word operands
  pub word : words_of value ≡ Some (scalar_word result ∷ [])

one_word : (a b : ℕ) → ◌≡◌ {A = Option (List ℕ)} (Some (a ∷ [])) (Some (b ∷ [])) → a ≡ b
one_word a b is = cc

first_scalar : (value : Value) (word : ℕ) (s : Scalar) → scalar_of value ≡ Some s → words_of value ≡ Some (word ∷ []) → word ≡ scalar_word s
first_scalar (Truth b) word s is has = one_word word (scalar_word s) (sym has ∙ (own_word (TruthOf b) ∙ ap (λ (t : Scalar). Some (scalar_word t ∷ [])) (same_some (TruthOf b) s is)))
first_scalar (Word w) word s is has = one_word word (scalar_word s) (sym has ∙ (own_word (WordOf w) ∙ ap (λ (t : Scalar). Some (scalar_word t ∷ [])) (same_some (WordOf w) s is)))
first_scalar (Composite parts) word s is has = cc
first_scalar (Pointer v i) word s is has = cc
first_scalar Outside word s is has = cc

all_words : (read : List Value) (words : List ℕ) (scalars : List Scalar) → all_scalars read ≡ Some scalars → AreWords read words → words ≡ map scalar_word scalars
all_words [] [] scalars is are = ap (map scalar_word) (same_some [] scalars is)
all_words [] (word ∷ words) scalars is are = absurd are
all_words (value ∷ values) [] scalars is are = absurd are
all_words (value ∷ values) (word ∷ words) scalars is are = by_first (scalar_of value) (all_scalars values) refl refl is (λ more those. all_words values words more those are.1)
  where
    by_first : (first : Option Scalar) (rest : Option (List Scalar)) → scalar_of value ≡ first → all_scalars values ≡ rest → option_and_then (λ first. option_map (λ rest. first ∷ rest) rest) first ≡ Some scalars
        → ((more : List Scalar) → all_scalars values ≡ Some more → words ≡ map scalar_word more) → word ∷ words ≡ map scalar_word scalars
    by_first None rest of those is behind = cc
    by_first (Some s) None of those is behind = cc
    by_first (Some s) (Some more) of those is behind =
        ap (λ (w : ℕ). w ∷ words) (first_scalar value word s of are.0) ∙ (ap (λ (l : List ℕ). scalar_word s ∷ l) (behind more those) ∙ ap (map scalar_word) (same_some (s ∷ more) scalars is))

scalars_by : (opcode : ℕ) (read : List Value) (words : List ℕ) (value : Value) → AreWords read words → (found : Option (List Scalar)) → all_scalars read ≡ found → option_map of_scalar (option_and_then (scalar_result opcode) found) ≡ Some value → Scalars opcode words value
scalars_by opcode read words value are None those is = absurd (no_value value is)
scalars_by opcode read words value are (Some operands) those is = by_result (scalar_result opcode operands) refl is
  where
    by_result : (result : Option Scalar) → scalar_result opcode operands ≡ result → option_map of_scalar result ≡ Some value → Scalars opcode words value
    by_result None gives is = absurd (no_value value is)
    by_result (Some result) gives is = record {
      operands = operands;
      result = result;
      gives = gives;
      are = all_words read words operands those are;
      word = ap words_of (sym (same_some (of_scalar result) value is)) ∙ own_word result;
    }

pub scalars_of : (opcode : ℕ) (read : List Value) (words : List ℕ) (value : Value) → scalar_value opcode read ≡ Some value → AreWords read words → Scalars opcode words value
scalars_of opcode read words value is are = scalars_by opcode read words value are (all_scalars read) refl is

pub none_large : (opcode : ℕ) (words : List ℕ) (value : Value) → 65536 ≤ opcode → Scalars opcode words value → ⊥
none_large opcode words value large s = no_scalar s.result (sym (no_large opcode s.operands large) ∙ s.gives)
  where
    no_scalar : (result : Scalar) → ◌≡◌ {A = Option Scalar} None (Some result) → ⊥
    no_scalar result is = cc
