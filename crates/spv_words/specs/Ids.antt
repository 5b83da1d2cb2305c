-- The ids that are left among words, as they are passed from the front.
use Rattle.std.specs.Prelude.{◌≡◌, ℕ, Bool, if◌then◌else◌, List, [], ◌∷◌, ◌++◌, take, drop, Option, None, Some, is_some, MatchOption}
use Rattle.spirv_model.specs.declared.table.Operand.{Operand}
use Rattle.spirv_model.specs.declared.table.Operands.{Operands}
use Rattle.spirv_model.specs.declared.table.Rest.{Rest}
use Rattle.spirv_model.specs.declared.table.Rest.TheVariants.{Nothing, IdRefs, LiteralIntegers, PairsIdRefIdRef, PairsLiteralIntegerIdRef}
use Rattle.spirv_model.specs.Operands.{ids_by, is_id, kinds_from, listed_of, operand_words}

-- each second word
abbrev pub second_words : List ℕ → List ℕ
second_words [] = []
second_words (literal ∷ []) = []
second_words (literal ∷ id ∷ words) = id ∷ second_words words

-- the ids among words after the listed operands
abbrev pub rest_ids : Rest → List ℕ → List ℕ
rest_ids Nothing words = []
rest_ids IdRefs words = words
rest_ids LiteralIntegers words = []
rest_ids PairsIdRefIdRef words = words
rest_ids PairsLiteralIntegerIdRef words = second_words words

-- the ids among words that begin with these operands
abbrev pub ids_left : List (Option Operand) → Rest → List ℕ → List ℕ
ids_left [] rest words = rest_ids rest words
ids_left (None ∷ more) rest words = rest_ids rest words
ids_left (Some operand ∷ more) rest words =
    elim (operand_words operand words) [
      | None ↦ []
      | Some n ↦ (if is_id operand then take n words else []) ++ ids_left more rest (drop n words)
    ]

-- the words fit the operands
abbrev pub fits : Operands → List ℕ → Bool
fits operands words = is_some (kinds_from (listed_of operands) operands.rest words)

-- the ids among words of an instruction with these operands
abbrev pub operand_ids : Operands → List ℕ → List ℕ
operand_ids operands words = ids_by (kinds_from (listed_of operands) operands.rest words) words

-- the operands without the first listed one
abbrev pub IsAfterFirst : Operands → Operands → Type 0
IsAfterFirst operands after = operands.listed.0 ∷ listed_of after ≡ listed_of operands ++ (None ∷ [])

-- the first id is taken, if one is left
abbrev pub TakesFirst : List ℕ → List ℕ → Option ℕ → Type 0
TakesFirst old new answer = MatchOption answer ((old ≡ []) × (new ≡ [])) (λ id. old ≡ id ∷ new)

-- the ids after the listed operands are this one and those among the words behind it
abbrev pub AreRestIds : Rest → List ℕ → ℕ → List ℕ → Type 0
AreRestIds rest words id after = rest_ids rest words ≡ id ∷ rest_ids rest after
