-- The list of instructions of a module's words: cut by the length fields alone, without the skipped opcodes.
use Rattle.std.specs.Prelude.{ℕ, zero, suc, ◌+◌, ◌*◌, ◌/◌, ◌%◌, ◌≡◌, ◌≤◌, Bool, true, false, not, ◌&&◌, ◌==◌, nat_lt, nat_le, if◌then◌else◌, List, [], ◌∷◌, length, drop, slice_index, Option, None, Some, is_none, is_some, Result, Ok, Err}
use Rattle.std.specs.List.{filter, flat_map, list_all}
use Rattle.std.specs.Option.{option_map}
use Rattle.limits.specs.declared.TheConstants.{MODULE_WORDS, MAX_BOUND}
use Rattle.spirv_model.specs.declared.module.Inst.{Inst}
use Rattle.spirv_model.specs.declared.module.Words.{Words}
use Rattle.spirv_model.specs.declared.module.WordsFault.{WordsFault}
use Rattle.spirv_model.specs.declared.module.WordsFault.TheVariants.{BadHeader, ZeroLength, CutShort, UnknownOp, BadShape, FloatType, Memory}
use Rattle.spirv_model.specs.declared.table.Entry.{Entry}
use Rattle.spirv_model.specs.declared.table.Entry.TheVariants.{Skipped, Float, Listed}
use Rattle.spirv_model.specs.Operands.{entry_of, kinds}
use Rattle.spirv_model.specs.declared.module.TheConstants.{MAGIC, VERSION, HEADER_WORDS}

-- the instructions up to the end of the words, or up to the first that can't be cut and why it can't
pub record Cut : Type 0 where
  pub insts : List Inst
  pub broken : Option WordsFault

-- the rest of the running instruction, if it is whole, and what stands after it
abbrev pub Rest : Type 0
Rest = Option (List ℕ) × Cut

-- nothing more
abbrev pub nothing : Cut
nothing = record { insts = []; broken = None }

-- what can't be cut
abbrev pub broken_by : WordsFault → Cut
broken_by fault = record { insts = []; broken = Some fault }

-- the instruction with these words after its first, if they are there, and what stands after it
abbrev pub instruction_before : ℕ → Rest → Cut
instruction_before op (None, after) = after
instruction_before op (Some words, after) = record { insts = record { op = op; words = words } ∷ after.insts; broken = after.broken }

-- an instruction with this opcode and so many words, its first among them
abbrev pub begin : ℕ → ℕ → (ℕ → Rest) → Cut
begin op zero rest_of = broken_by ZeroLength
begin op (suc more) rest_of = instruction_before op (rest_of more)

-- a word onto the rest of its instruction
abbrev pub onto : ℕ → Rest → Rest
onto word rest = (option_map (λ words. word ∷ words) rest.0, rest.1)

-- the words cut, where so many of them belong to the running instruction
abbrev pub rest_of : List ℕ → ℕ → Rest
rest_of [] zero = (Some [], nothing)
rest_of [] (suc n) = (None, broken_by CutShort)
rest_of (word ∷ words) zero = (Some [], begin (word % 65536) (word / 65536) (rest_of words))
rest_of (word ∷ words) (suc n) = onto word (rest_of words n)

-- the words after the header, cut into instructions: a first word has the word count in its high half and the opcode in its low half
abbrev pub cut : List ℕ → Cut
cut words = (rest_of words 0).1

-- the version is 1.0 to 1.6
abbrev pub is_version : ℕ → Bool
is_version word = (word % 256 == 0) && (word / 65536 == 1) && nat_le (word / 256 % 256) 6

-- the first five words are a header, and there aren't too many words
abbrev pub has_header : List ℕ → Bool
has_header words =
    nat_le HEADER_WORDS (length words) && nat_le (length words) MODULE_WORDS
    && (slice_index words 0 == MAGIC) && is_version (slice_index words 1)
    && nat_lt 0 (slice_index words 3) && nat_le (slice_index words 3) MAX_BOUND
    && (slice_index words 4 == 0)

-- the entry is that of an opcode without a place in the list, of one with a place, or of OpTypeFloat
abbrev pub skips : Option Entry → Bool
skips (Some Skipped) = true
skips entry = false

abbrev pub lists : Option Entry → Bool
lists (Some (Listed class operands)) = true
lists entry = false

abbrev pub floats : Option Entry → Bool
floats (Some Float) = true
floats entry = false

-- the instruction has no place in the list
abbrev pub is_skipped : Inst → Bool
is_skipped inst = skips (entry_of inst.op)

-- its opcode isn't known
abbrev pub has_unknown_op : Inst → Bool
has_unknown_op inst = is_none (entry_of inst.op)

-- its opcode has operands that its words don't fit
abbrev pub has_bad_shape : Inst → Bool
has_bad_shape inst = lists (entry_of inst.op) && is_none (kinds inst)

-- it is OpTypeFloat
abbrev pub is_float_type : Inst → Bool
is_float_type inst = floats (entry_of inst.op)

-- the rule that an instruction breaks that has this place in the list, or would have it
abbrev pub fault_at : ℕ → Inst → Option WordsFault
fault_at place inst =
    if has_unknown_op inst then Some (UnknownOp inst.op)
    else if has_bad_shape inst then Some (BadShape place)
    else if is_float_type inst then Some FloatType
    else None

-- the first fault of instructions, where so many stand before them in the list
abbrev pub first_fault : ℕ → List Inst → Option WordsFault
first_fault place [] = None
first_fault place (inst ∷ insts) = elim (fault_at place inst) [ None ↦ first_fault (if is_skipped inst then place else place + 1) insts | Some fault ↦ Some fault ]

-- the instructions that aren't skipped
abbrev pub listed : List Inst → List Inst
listed insts = filter (λ inst. not (is_skipped inst)) insts

-- the list of a cut, where so many instructions stand before it, or the first fault: what can't be cut comes last
unfoldable pub list_of_cut : ℕ → Cut → Result (List Inst) WordsFault
list_of_cut place c =
    elim (first_fault place c.insts) [
      | Some fault ↦ Err fault
      | None ↦ elim c.broken [ Some fault ↦ Err fault | None ↦ Ok (listed c.insts) ]
    ]

-- the module with this bound
abbrev pub with_bound : ℕ → Result (List Inst) WordsFault → Result Words WordsFault
with_bound bound (Ok insts) = Ok (record { bound = bound; insts = insts })
with_bound bound (Err fault) = Err fault

-- the instructions and the id bound of these words, or the first fault: the header's, else that of the first instruction that breaks a rule
abbrev pub module_of : List ℕ → Result Words WordsFault
module_of words =
    if has_header words
    then with_bound (slice_index words 3) (list_of_cut 0 (cut (drop HEADER_WORDS words)))
    else Err BadHeader

-- the first word of an instruction: its word count in the high half and its opcode in the low half
abbrev pub first_word : Inst → ℕ
first_word inst = (length inst.words + 1) * 65536 + inst.op

abbrev pub words_of : Inst → List ℕ
words_of inst = first_word inst ∷ inst.words

-- the words of a module with these instructions: the header with version 1.0 and generator 0, and each instruction's words
abbrev pub module_words : List Inst → ℕ → List ℕ
module_words insts bound = MAGIC ∷ VERSION ∷ 0 ∷ bound ∷ 0 ∷ flat_map words_of insts

-- the words after the first are the operands that the table lists for the opcode
abbrev pub fits_table : Inst → Bool
fits_table inst = is_some (kinds inst)

-- the instructions and the bound can be written as a module's words, and be read again
pub record IsWritable (words : Words) : Type 0 where
  pub fit : list_all fits_table words.insts ≡ true
  pub bound_least : 1 ≤ words.bound
  pub bound_most : words.bound ≤ MAX_BOUND
  pub few : length (module_words words.insts words.bound) ≤ MODULE_WORDS

-- want of memory
abbrev pub is_memory : WordsFault → Bool
is_memory Memory = true
is_memory fault = false
