-- What is pushed of an instruction's line.
use Rattle.std.specs.Prelude.{◌≡◌, ℕ, ◌/◌, Bool, true, false, ◌==◌, if◌then◌else◌, List, [], ◌∷◌, ◌++◌, length, take, drop, Option, IsSome, IfSome, Result, Ok, Err}
use Rattle.std.specs.List.{All, flat_map}
use Rattle.std.specs.Borrow.{Bor}
use Rattle.std.specs.Fmt.{decimal}
use Rattle.spirv_model.specs.declared.module.Inst.{Inst}
use Rattle.spirv_model.specs.declared.table.Operand.{Operand}
use Rattle.spirv_model.specs.declared.table.Rest.{Rest}
use Rattle.spirv_model.specs.declared.table.Operands.{Operands}
use Rattle.spirv_model.specs.Operands.{entry_of, kinds, kinds_from, listed_of, operand_words}
use Rattle.listing_model.specs.Listing.{after_space, before_zero, byte_digits, bytes_of, fields_from, fields_in, id_text, literal_and_id_fields, operand_fields, rest_fields, word_digits}
use Rattle.listing_model.specs.Spelling.{place_in, string_words, with_result}

-- the words fit these operands
abbrev pub Fit : List (Option Operand) → Rest → List ℕ → Type 0
Fit listed rest words = IsSome (kinds_from listed rest words)

-- the fields of words that begin with these operands, each after one space
abbrev pub spaced : List (Option Operand) → Rest → List ℕ → List ℕ
spaced listed rest words = flat_map after_space (fields_from listed rest words)

-- the fields of words that fit these operands
abbrev pub operand_text : Operands → List ℕ → List ℕ
operand_text operands words = spaced (listed_of operands) operands.rest words

-- the fields of the words after the listed operands
abbrev pub rest_text : Rest → List ℕ → List ℕ
rest_text rest words = flat_map after_space (rest_fields rest words)

abbrev pub ids_text : List ℕ → List ℕ
ids_text ids = flat_map (λ id. after_space (id_text id)) ids

abbrev pub literals_text : List ℕ → List ℕ
literals_text literals = flat_map (λ n. after_space (decimal n)) literals

-- literals and ids by turns
abbrev pub pairs_text : List ℕ → List ℕ
pairs_text words = flat_map after_space (literal_and_id_fields words)

-- the fields of an instruction's words
abbrev pub others_text : Inst → List ℕ
others_text inst = flat_map after_space (fields_in (entry_of inst.op) inst.words)

-- the fields of the operand at the front are pushed, and the words after it are given
abbrev pub PushesOperand : {E : Type 0} → List ℕ → List ℕ → Operand → List ℕ → Result (Bor (List ℕ)) E → Type 0
PushesOperand old new operand words (Ok after) =
    IfSome (operand_words operand words) (λ n. (new ≡ old ++ flat_map after_space (operand_fields operand (take n words))) × (after.now ≡ drop n words))
PushesOperand old new operand words (Err e) = Unit {0}

-- there is a zero among these bytes
abbrev pub has_zero : List ℕ → Bool
has_zero [] = false
has_zero (byte ∷ bytes) = if byte == 0 then true else has_zero bytes

-- the digits of the text at the front, and the words after it
abbrev pub string_digits : List ℕ → List ℕ
string_digits [] = []
string_digits (word ∷ words) = word_digits word ++ (if has_zero (bytes_of word) then [] else string_digits words)

abbrev pub after_string : List ℕ → List ℕ
after_string [] = []
after_string (word ∷ words) = if has_zero (bytes_of word) then words else after_string words

-- the digits of the text at the front are pushed, and the words after it are given
abbrev pub PushesString : {E : Type 0} → List ℕ → List ℕ → List ℕ → Result (Bor (List ℕ)) E → Type 0
PushesString old new words (Ok after) = (new ≡ old ++ string_digits words) × (after.now ≡ after_string words)
PushesString old new words (Err e) = Unit {0}

-- the digits of the bytes before the first zero are pushed, and it is told whether there is one
abbrev pub PushesBytes : {E : Type 0} → List ℕ → List ℕ → List ℕ → Result Bool E → Type 0
PushesBytes old new bytes (Ok ends) = (new ≡ old ++ flat_map byte_digits (before_zero bytes)) × (ends ≡ has_zero bytes)
PushesBytes old new bytes (Err e) = Unit {0}

-- the words of a text with these digits
abbrev pub words_of_digits : List ℕ → List ℕ
words_of_digits digits = string_words (length digits / 8) digits

-- the words of an instruction with this opcode, the result's id at its place among the others
abbrev pub with_result_of : ℕ → ℕ → List ℕ → List ℕ
with_result_of op id words = with_result (place_in (entry_of op)) id words

-- the words of each instruction fit its operands
abbrev pub AllFit : List Inst → Type 0
AllFit insts = All (λ inst. IsSome (kinds inst)) insts
