-- The words of an instruction with other names for the ids among them, as they are passed from the front.
use Rattle.std.specs.Prelude.{◌≡◌, ℕ, if◌then◌else◌, List, [], ◌∷◌, ◌++◌, map, take, drop, Option, None, Some, is_some, IsSome, IfSome, Result, Ok, Err}
use Rattle.std.specs.Borrow.{Bor}
use Rattle.spirv_model.specs.declared.table.Operand.{Operand}
use Rattle.spirv_model.specs.declared.table.Operand.TheVariants.{IdRef}
use Rattle.spirv_model.specs.declared.table.Operands.{Operands}
use Rattle.spirv_model.specs.declared.table.Rest.{Rest}
use Rattle.spirv_model.specs.declared.table.Rest.TheVariants.{IdRefs, PairsIdRefIdRef, PairsLiteralIntegerIdRef}
use Rattle.spirv_model.specs.Operands.{kinds_from, listed_of, operand_words, text_end}

-- the words fit these operands
abbrev pub Fit : List (Option Operand) → Rest → List ℕ → Type 0
Fit listed rest words = IsSome (kinds_from listed rest words)

-- the words that stand for an operand
abbrev pub operand_left : (ℕ → ℕ) → Operand → List ℕ → List ℕ
operand_left name IdRef words = map name words
operand_left name operand words = words

-- literals and ids by turns
abbrev pub cases_left : (ℕ → ℕ) → List ℕ → List ℕ
cases_left name [] = []
cases_left name (literal ∷ []) = literal ∷ []
cases_left name (literal ∷ id ∷ words) = literal ∷ name id ∷ cases_left name words

-- the words after the listed operands
abbrev pub rest_left : (ℕ → ℕ) → Rest → List ℕ → List ℕ
rest_left name IdRefs words = map name words
rest_left name PairsIdRefIdRef words = map name words
rest_left name PairsLiteralIntegerIdRef words = cases_left name words
rest_left name rest words = words

-- words that begin with these operands
abbrev pub words_left : (ℕ → ℕ) → List (Option Operand) → Rest → List ℕ → List ℕ
words_left name [] rest words = rest_left name rest words
words_left name (None ∷ more) rest words = rest_left name rest words
words_left name (Some operand ∷ more) rest words =
    elim (operand_words operand words) [
      | None ↦ []
      | Some n ↦ operand_left name operand (take n words) ++ words_left name more rest (drop n words)
    ]

-- words that fit these operands
abbrev pub all_left : (ℕ → ℕ) → Operands → List ℕ → List ℕ
all_left name operands words = words_left name (listed_of operands) operands.rest words

-- the words of the operand at the front are pushed, and those after it are given
abbrev pub PushesOperand : {E : Type 0} → (ℕ → ℕ) → List ℕ → List ℕ → Operand → List ℕ → Result (Bor (List ℕ)) E → Type 0
PushesOperand name old new operand words (Ok after) =
    IfSome (operand_words operand words) (λ n. (new ≡ old ++ operand_left name operand (take n words)) × (after.now ≡ drop n words))
PushesOperand name old new operand words (Err e) = Unit {0}

-- the words of the text at the front, and those after it
abbrev pub text_front : List ℕ → List ℕ
text_front [] = []
text_front (word ∷ words) = word ∷ (if is_some (text_end word) then [] else text_front words)

abbrev pub after_text : List ℕ → List ℕ
after_text [] = []
after_text (word ∷ words) = if is_some (text_end word) then words else after_text words

-- the words of the text at the front are pushed, and those after it are given
abbrev pub PushesText : {E : Type 0} → List ℕ → List ℕ → List ℕ → Result (Bor (List ℕ)) E → Type 0
PushesText old new words (Ok after) = (new ≡ old ++ text_front words) × (after.now ≡ after_text words)
PushesText old new words (Err e) = Unit {0}
