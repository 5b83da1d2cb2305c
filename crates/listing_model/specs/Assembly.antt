-- What a listing is assembled to: the words of the module, or the first faulty line and its first cause.
use Rattle.std.specs.Prelude.{ℕ, ◌+◌, Bool, true, false, not, ◌&&◌, ◌==◌, nat_lt, nat_le, bytes_eq, if◌then◌else◌, List, [], ◌∷◌, ◌++◌, length, drop, Option, None, Some, Result, Ok, Err}
use Rattle.std.specs.List.{slice_split}
use Rattle.limits.specs.declared.TheConstants.{MODULE_WORDS, MAX_BOUND}
use Rattle.spirv_model.specs.Module.{module_words, words_of}
use Rattle.listing_model.specs.declared.fault.TheConstants.{LISTING_BYTES}
use Rattle.listing_model.specs.declared.fault.TextFault.{TextFault}
use Rattle.listing_model.specs.declared.fault.TextCause.{TextCause}
use Rattle.listing_model.specs.declared.fault.TextCause.TheVariants.{TooLong, NoEnd, NoHead, NoName, BadOperands, TooManyWords, Memory}
use Rattle.listing_model.specs.declared.fault.ListFault.{ListFault}
use Rattle.listing_model.specs.declared.fault.ListFault.TheVariants as list_fault
use Rattle.spirv_model.specs.declared.module.WordsFault.{WordsFault}
use Rattle.spirv_model.specs.declared.module.Inst.{Inst}
use Rattle.spirv_model.specs.declared.module.Words.{Words}
use Rattle.listing_model.specs.Listing.{head_text, listing_of}
use Rattle.listing_model.specs.Spelling.{fields_of, number_onto, named_fields, first_op, spoken_of, is_text_of}

-- a line: its text, and whether a line feed ends it
pub record Line : Type 0 where
  pub text : List ℕ
  pub ended : Bool

-- the lines of what is cut at each line feed: behind the last line feed stands no line where nothing stands
abbrev pub lines_in : List (List ℕ) → List Line
lines_in [] = []
lines_in (last ∷ []) = if length last == 0 then [] else record { text = last; ended = false } ∷ []
lines_in (text ∷ next ∷ texts) = record { text = text; ended = true } ∷ lines_in (next ∷ texts)

abbrev pub lines_of : List ℕ → List Line
lines_of bytes = lines_in (slice_split (λ b. b == 10) bytes)

-- the id bound that the first line speaks of, behind its first seven characters
abbrev pub head_bound : List ℕ → ℕ
head_bound text = number_onto 0 (drop 7 text)

-- it is the first line of a listing
abbrev pub is_head : List ℕ → Bool
is_head text = bytes_eq text (head_text (head_bound text)) && nat_lt 0 (head_bound text) && nat_le (head_bound text) MAX_BOUND

-- the id bound of a first line, or the first cause for which it is faulty
unfoldable pub head_gives : Line → Result ℕ TextCause
head_gives line =
    if not line.ended then Err NoEnd
    else if not (is_head line.text) then Err NoHead
    else Ok (head_bound line.text)

-- the id bound of the first of these lines
abbrev pub first_gives : List Line → Result ℕ TextCause
first_gives [] = Err NoHead
first_gives (head ∷ lines) = head_gives head

-- the first cause for which a line behind so many words is faulty that speaks of this instruction
abbrev pub operands_cause : ℕ → Inst → List ℕ → Option TextCause
operands_cause before inst text =
    if not (is_text_of inst text) then Some BadOperands
    else if nat_lt MODULE_WORDS (before + 1 + length inst.words) then Some TooManyWords
    else None

-- the instruction that a line speaks of, if its name is an opcode's
unfoldable pub line_inst : List ℕ → Option Inst
line_inst text = elim (first_op (named_fields (fields_of text))) [ None ↦ None | Some op ↦ Some (spoken_of op (fields_of text)) ]

-- the instruction of a line behind so many words, or the first cause for which the line is faulty
abbrev pub line_gives : ℕ → Line → Result Inst TextCause
line_gives before line =
    if not line.ended then Err NoEnd
    else elim (line_inst line.text) [
      | None ↦ Err NoName
      | Some inst ↦ elim (operands_cause before inst line.text) [ Some cause ↦ Err cause | None ↦ Ok inst ]
    ]

-- the words that come of these lines, the first of which has this number, behind the words so far
abbrev pub assembled_from : ℕ → List ℕ → List Line → Result (List ℕ) TextFault
assembled_from number words [] = Ok words
assembled_from number words (line ∷ lines) =
    elim (line_gives (length words) line) [
      | Err cause ↦ Err (record { line = number; cause = cause })
      | Ok inst ↦ assembled_from (number + 1) (words ++ words_of inst) lines
    ]

-- the words that come of these lines, all of them
abbrev pub assembled_lines : List Line → Result (List ℕ) TextFault
assembled_lines lines =
    elim (first_gives lines) [
      | Err cause ↦ Err (record { line = 1; cause = cause })
      | Ok bound ↦ assembled_from 2 (module_words [] bound) (drop 1 lines)
    ]

-- the words that a listing is assembled to, or the first faulty line and its first cause
unfoldable pub assembled : List ℕ → Result (List ℕ) TextFault
assembled bytes =
    if nat_lt LISTING_BYTES (length bytes) then Err (record { line = 0; cause = TooLong })
    else assembled_lines (lines_of bytes)

-- the listing of what words are read as, or the reader's fault
abbrev pub listed_text : Result Words WordsFault → Result (List ℕ) ListFault
listed_text (Ok read) = Ok (listing_of read)
listed_text (Err fault) = Err (list_fault.Words fault)

-- want of memory
abbrev pub is_memory : TextCause → Bool
is_memory Memory = true
is_memory cause = false

abbrev pub lacks_memory : TextFault → Bool
lacks_memory fault = is_memory fault.cause

abbrev pub list_lacks_memory : ListFault → Bool
list_lacks_memory list_fault.Memory = true
list_lacks_memory fault = false
