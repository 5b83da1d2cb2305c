-- The instruction that the fields of a line speak of. Any line speaks of one where its name is an opcode's; whether it is
-- that instruction's line is for the instruction's own text to say.
use Rattle.std.specs.Prelude.{ℕ, zero, suc, ◌+◌, ◌*◌, ◌/◌, ◌%◌, Bool, ◌&&◌, ◌==◌, nat_lt, bytes_eq, if◌then◌else◌, List, [], ◌∷◌, ◌++◌, length, take, drop, slice_index, Option, None, Some, is_some}
use Rattle.std.specs.List.{flat_map, slice_split}
use Rattle.basics.specs.Word.{low_bits}
use Rattle.spirv_model.specs.declared.module.Inst.{Inst}
use Rattle.spirv_model.specs.declared.table.Entry.{Entry}
use Rattle.spirv_model.specs.declared.table.Entry.TheVariants.{Listed}
use Rattle.spirv_model.specs.Operands.{entry_of, kinds, listed_of, result_place}
use Rattle.listing_model.specs.Names.{op_named}
use Rattle.listing_model.specs.Listing.{inst_text}

-- the fields of a line: it is cut at each space
abbrev pub fields_of : List ℕ → List (List ℕ)
fields_of line = slice_split (λ b. b == 32) line

-- the low 32 bits of the number with these decimal digits behind a number
abbrev pub number_onto : ℕ → List ℕ → ℕ
number_onto n [] = n
number_onto n (digit ∷ digits) = number_onto (low_bits (10 * n + digit % 16)) digits

-- the value of a hexadecimal digit
abbrev pub hex_value : ℕ → ℕ
hex_value digit = if nat_lt digit 58 then digit % 16 else digit % 16 + 9

-- the byte whose two digits stand at this place, or zero past the end
abbrev pub byte_at : ℕ → List ℕ → ℕ
byte_at place digits = (16 * hex_value (slice_index digits place) + hex_value (slice_index digits (place + 1))) % 256

-- the word whose four bytes' digits these are
abbrev pub digits_word : List ℕ → ℕ
digits_word digits = byte_at 0 digits + 256 * byte_at 2 digits + 65536 * byte_at 4 digits + 16777216 * byte_at 6 digits

-- so many words of eight digits, and the text's last one
abbrev pub string_words : ℕ → List ℕ → List ℕ
string_words zero digits = digits_word digits ∷ []
string_words (suc n) digits = digits_word digits ∷ string_words n (drop 8 digits)

-- the words that a field speaks of: those of a text behind `x`, an id behind `%`, or a literal
abbrev pub field_words : List ℕ → List ℕ
field_words [] = []
field_words (first ∷ others) =
    if first == 120 then string_words (length others / 8) others
    else if first == 37 then number_onto 0 others ∷ []
    else number_onto 0 (first ∷ others) ∷ []

-- the fields from the name on: behind two others where the first begins with `%`
abbrev pub named_fields : List (List ℕ) → List (List ℕ)
named_fields [] = []
named_fields (first ∷ fields) = if slice_index first 0 == 37 then drop 1 fields else first ∷ fields

-- the number in the first field, behind its first character
abbrev pub first_number : List (List ℕ) → ℕ
first_number [] = 0
first_number (first ∷ fields) = number_onto 0 (drop 1 first)

-- the opcode whose name is the first of these fields
abbrev pub first_op : List (List ℕ) → Option ℕ
first_op [] = None
first_op (name ∷ fields) = op_named name

-- the words that the fields behind the name speak of
abbrev pub other_words : List (List ℕ) → List ℕ
other_words [] = []
other_words (name ∷ fields) = flat_map field_words fields

-- the words with the result's id at its place
abbrev pub with_result : Option ℕ → ℕ → List ℕ → List ℕ
with_result None id words = words
with_result (Some place) id words = take place words ++ id ∷ drop place words

-- where an instruction of this entry has its result's id
abbrev pub place_in : Option Entry → Option ℕ
place_in (Some (Listed class operands)) = result_place (listed_of operands)
place_in entry = None

-- the instruction with this opcode that a line's fields speak of
unfoldable pub spoken_of : ℕ → List (List ℕ) → Inst
spoken_of op fields = record {
  op = op;
  words = with_result (place_in (entry_of op)) (first_number fields) (other_words (named_fields fields));
}

-- this is the instruction's text, and its words fit its operands
abbrev pub is_text_of : Inst → List ℕ → Bool
is_text_of inst text = is_some (kinds inst) && bytes_eq text (inst_text inst)
