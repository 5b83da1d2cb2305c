-- The listing of a module: a line for the form and the id bound, and a line for each instruction.
use Rattle.std.specs.Prelude.{ℕ, ◌+◌, ◌/◌, ◌%◌, ◌==◌, nat_lt, if◌then◌else◌, List, [], ◌∷◌, ◌++◌, map, take, drop, codes, Option, None, Some}
use Rattle.std.specs.List.{flat_map}
use Rattle.std.specs.Fmt.{decimal}
use Rattle.spirv_model.specs.declared.module.Inst.{Inst}
use Rattle.spirv_model.specs.declared.module.Words.{Words}
use Rattle.spirv_model.specs.declared.table.Operand.{Operand}
use Rattle.spirv_model.specs.declared.table.Operand.TheVariants.{IdResultType, IdResult, IdRef, LiteralInteger, Fixed, LiteralString}
use Rattle.spirv_model.specs.declared.table.Rest.{Rest}
use Rattle.spirv_model.specs.declared.table.Rest.TheVariants.{Nothing, IdRefs, LiteralIntegers, PairsIdRefIdRef, PairsLiteralIntegerIdRef}
use Rattle.spirv_model.specs.declared.table.Entry.{Entry}
use Rattle.spirv_model.specs.declared.table.Entry.TheVariants.{Listed}
use Rattle.spirv_model.specs.Operands.{entry_of, operand_words, listed_of, result}
use Rattle.listing_model.specs.Names.{name_of}

-- an id
abbrev pub id_text : ℕ → List ℕ
id_text id = 37 ∷ decimal id

-- the lower-case hexadecimal digit of a value below 16
abbrev pub hex_digit : ℕ → ℕ
hex_digit value = if nat_lt value 10 then 48 + value else 87 + value

abbrev pub byte_digits : ℕ → List ℕ
byte_digits byte = hex_digit (byte / 16) ∷ hex_digit (byte % 16) ∷ []

-- the bytes of a word, the lowest first
abbrev pub bytes_of : ℕ → List ℕ
bytes_of word = word % 256 ∷ word / 256 % 256 ∷ word / 65536 % 256 ∷ word / 16777216 ∷ []

-- the bytes before the first zero byte
abbrev pub before_zero : List ℕ → List ℕ
before_zero [] = []
before_zero (byte ∷ bytes) = if byte == 0 then [] else byte ∷ before_zero bytes

-- the digits of those bytes of a text that this word has: two digits a byte
abbrev pub word_digits : ℕ → List ℕ
word_digits word = flat_map byte_digits (before_zero (bytes_of word))

-- a text with these words
abbrev pub string_text : List ℕ → List ℕ
string_text words = 120 ∷ flat_map word_digits words

-- the fields for the words that stand for an operand: the result's id has none
abbrev pub operand_fields : Operand → List ℕ → List (List ℕ)
operand_fields IdResultType words = map id_text words
operand_fields IdResult words = []
operand_fields IdRef words = map id_text words
operand_fields LiteralInteger words = map decimal words
operand_fields (Fixed expected) words = map decimal words
operand_fields LiteralString words = string_text words ∷ []

-- literals and ids by turns
abbrev pub literal_and_id_fields : List ℕ → List (List ℕ)
literal_and_id_fields [] = []
literal_and_id_fields (literal ∷ []) = decimal literal ∷ []
literal_and_id_fields (literal ∷ id ∷ words) = decimal literal ∷ id_text id ∷ literal_and_id_fields words

-- the fields for the words after the listed operands
abbrev pub rest_fields : Rest → List ℕ → List (List ℕ)
rest_fields Nothing words = []
rest_fields IdRefs words = map id_text words
rest_fields LiteralIntegers words = map decimal words
rest_fields PairsIdRefIdRef words = map id_text words
rest_fields PairsLiteralIntegerIdRef words = literal_and_id_fields words

-- the fields for words that begin with these operands
abbrev pub fields_from : List (Option Operand) → Rest → List ℕ → List (List ℕ)
fields_from [] rest words = rest_fields rest words
fields_from (None ∷ more) rest words = rest_fields rest words
fields_from (Some operand ∷ more) rest words =
    elim (operand_words operand words) [
      | None ↦ []
      | Some n ↦ operand_fields operand (take n words) ++ fields_from more rest (drop n words)
    ]

-- the fields for an instruction's words
abbrev pub fields_in : Option Entry → List ℕ → List (List ℕ)
fields_in (Some (Listed class operands)) words = fields_from (listed_of operands) operands.rest words
fields_in entry words = []

-- what stands before the name: the result's id, if there is one
abbrev pub result_text : Option ℕ → List ℕ
result_text None = []
result_text (Some id) = id_text id ++ codes " = "

-- the name, or nothing
abbrev pub name_text : Option (List ℕ) → List ℕ
name_text None = []
name_text (Some name) = name

-- a field after one space
abbrev pub after_space : List ℕ → List ℕ
after_space field = 32 ∷ field

-- an instruction: its result's id, its name, and its other operands in the order of the words
unfoldable pub inst_text : Inst → List ℕ
inst_text inst = result_text (result inst) ++ name_text (name_of inst.op) ++ flat_map after_space (fields_in (entry_of inst.op) inst.words)

-- the same, with the line feed
abbrev pub inst_line : Inst → List ℕ
inst_line inst = inst_text inst ++ 10 ∷ []

-- the first line, which names the form and has the id bound
abbrev pub head_text : ℕ → List ℕ
head_text bound = codes "spvt 1 " ++ decimal bound

-- the listing of a list of instructions and an id bound
abbrev pub listing : ℕ → List Inst → List ℕ
listing bound insts = head_text bound ++ 10 ∷ flat_map inst_line insts

abbrev pub listing_of : Words → List ℕ
listing_of read = listing read.bound read.insts
