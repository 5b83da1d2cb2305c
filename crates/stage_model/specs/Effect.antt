-- What one instruction of a block does: it reads the values of its operands, and has an effect that they alone decide.
use Rattle.std.specs.Prelude.{ℕ, ◌+◌, ◌-◌, ◌==◌, Bool, true, false, ◌&&◌, ◌||◌, nat_lt, nat_le, if◌then◌else◌, List, [], ◌∷◌, ◌++◌, length, drop, take, map, slice_index, slice_get, Option, None, Some}
use Rattle.std.specs.Option.{option_map, option_and_then}
use Rattle.std.specs.List.{range_with_len}
use Rattle.spirv_model.specs.declared.module.Inst.{Inst}
use Rattle.spirv_model.specs.declared.class.Class.{Class}
use Rattle.spirv_model.specs.declared.class.Class.TheVariants as class
use Rattle.spirv_model.specs.declared.op.TheConstants as op
use Rattle.spirv_model.specs.Operands.{class_of}
use Rattle.stage_model.specs.declared.outcome.Kind.{Kind}
use Rattle.stage_model.specs.declared.outcome.Kind.TheVariants.{Done, Killed}
use Rattle.stage_model.specs.Value.{Value, Truth, Word, Composite, Pointer, Outside, Layout, size_of, words_of, value_of, zero_of, part_along}
use Rattle.stage_model.specs.Program.{Program, held_layout}
use Rattle.stage_model.specs.Start.{Values, Memory, all_values}
use Rattle.stage_model.specs.Operations.{extracted, inserted, constructed, is_vector, shuffled, operation}

-- What an instruction does.
pub data Effect : Type 0 where
  -- nothing
  Passes : Effect
  -- its result is this value
  Gives : Value → Effect
  -- it writes words into a variable from a place on
  Writes : (variable place : ℕ) (words : List ℕ) → Effect
  -- it begins the block with this label
  Enters : ℕ → Effect
  -- control goes to the block with this label
  Goes : ℕ → Effect
  -- the invocation ends
  Stops : Kind → Effect

-- ---- which ids it reads

-- the value that a phi pairs with a block
abbrev pub paired_with : ℕ → List ℕ → List ℕ
paired_with before [] = []
paired_with before (value ∷ []) = []
paired_with before (value ∷ block ∷ pairs) = if block == before then value ∷ [] else paired_with before pairs

-- an operation on values
abbrev pub is_operation_class : Option Class → Bool
is_operation_class (Some class.Composite) = true
is_operation_class (Some (class.Scalar operation)) = true
is_operation_class other = false

-- an instruction of a block, OpStore aside, that gives its result a value
abbrev pub has_result_class : Option Class → Bool
has_result_class (Some class.Undef) = true
has_result_class (Some class.Phi) = true
has_result_class (Some class.Memory) = true
has_result_class of = is_operation_class of

-- the ids whose values an instruction reads, where control came from this block
unfoldable pub read_ids : ℕ → ℕ → List ℕ → List ℕ
read_ids opcode before words =
    if opcode == op.PHI then paired_with before (drop 2 words)
    else if opcode == op.LOAD then slice_index words 2 ∷ []
    else if opcode == op.STORE then take 2 words
    else if opcode == op.VECTOR_SHUFFLE then take 2 (drop 2 words)
    else if opcode == op.COMPOSITE_EXTRACT then slice_index words 2 ∷ []
    else if opcode == op.COMPOSITE_INSERT then take 2 (drop 2 words)
    else if opcode == op.BRANCH_CONDITIONAL then slice_index words 0 ∷ []
    else if opcode == op.SWITCH then slice_index words 0 ∷ []
    else if (opcode == op.ACCESS_CHAIN) || is_operation_class (class_of opcode) then drop 2 words
    else []

-- ---- memory

-- words of a variable from a place on
abbrev pub words_from : Memory → ℕ → ℕ → ℕ → List ℕ
words_from memory variable place count = map (λ k. memory variable (place + k)) (range_with_len 0 count)

-- memory with these words written into a variable from a place on
abbrev pub with_words : ℕ → ℕ → List ℕ → Memory → Memory
with_words variable place words memory = λ other at.
    if (other == variable) && nat_le place at && nat_lt at (place + length words)
    then slice_index words (at - place) else memory other at

-- where the part of a variable begins to which the indices lead
abbrev pub place_of : Program → ℕ → List ℕ → Option ℕ
place_of program variable indices =
    option_map (λ (place, layout). place) (option_and_then (λ layout. part_along layout indices) (held_layout program variable))

-- a load of a value of a layout; outside of a variable are zeros
abbrev pub loaded : Program → Memory → Layout → Value → Option Value
loaded program memory layout (Pointer variable indices) =
    option_map (λ place. value_of layout (words_from memory variable place (size_of layout))) (place_of program variable indices)
loaded program memory layout Outside = Some (zero_of layout)
loaded program memory layout value = None

-- a store of words; outside of a variable it writes nothing
abbrev pub stored : Program → List ℕ → Value → Option Effect
stored program words (Pointer variable indices) = option_map (λ place. Writes variable place words) (place_of program variable indices)
stored program words Outside = Some Passes
stored program words value = None

abbrev pub stores : Program → List Value → Option Effect
stores program (pointer ∷ object ∷ []) = option_and_then (λ words. stored program words pointer) (words_of object)
stores program values = None

-- the words of these values, if each is a word
abbrev pub all_words : List Value → Option (List ℕ)
all_words [] = Some []
all_words (Word word ∷ values) = option_map (λ words. word ∷ words) (all_words values)
all_words (value ∷ values) = None

-- a pointer to a part of a variable, or outside where there is no such part
abbrev pub pointer_along : Option ℕ → ℕ → List ℕ → Value
pointer_along None variable indices = Outside
pointer_along (Some place) variable indices = Pointer variable indices

-- OpAccessChain from a pointer along indices
abbrev pub chained : Program → Value → List ℕ → Option Value
chained program (Pointer variable indices) more =
    Some (pointer_along (place_of program variable (indices ++ more)) variable (indices ++ more))
chained program Outside more = Some Outside
chained program value more = None

abbrev pub chain_of : Program → List Value → Option Value
chain_of program (pointer ∷ indices) = option_and_then (chained program pointer) (all_words indices)
chain_of program [] = None

-- ---- results

abbrev pub one : List Value → Option Value
one (value ∷ []) = Some value
one values = None

abbrev pub inserted_in : List Value → List ℕ → Option Value
inserted_in (object ∷ value ∷ []) indices = inserted object indices value
inserted_in values indices = None

abbrev pub shuffle_of : List Value → List ℕ → Option Value
shuffle_of (first ∷ second ∷ []) literals = shuffled first second literals
shuffle_of values literals = None

-- the result of an instruction of this type, by its other words and the values that it reads
unfoldable pub result_of : Program → Memory → ℕ → ℕ → List ℕ → List Value → Option Value
result_of program memory opcode type words values =
    if opcode == op.PHI then one values
    else if opcode == op.UNDEF then option_map zero_of (program.layout type)
    else if opcode == op.LOAD then option_and_then (λ layout. option_and_then (loaded program memory layout) (one values)) (program.layout type)
    else if opcode == op.ACCESS_CHAIN then chain_of program values
    else if opcode == op.VECTOR_SHUFFLE then shuffle_of values (drop 2 words)
    else if opcode == op.COMPOSITE_CONSTRUCT then Some (constructed (is_vector (program.meaning type)) values)
    else if opcode == op.COMPOSITE_EXTRACT then option_and_then (extracted (drop 1 words)) (one values)
    else if opcode == op.COMPOSITE_INSERT then inserted_in values (drop 2 words)
    else operation opcode values

-- ---- control

-- OpBranchConditional
abbrev pub branches : List Value → ℕ → ℕ → Option Effect
branches (Truth condition ∷ []) on_true on_false = Some (Goes (if condition then on_true else on_false))
branches values on_true on_false = None

-- the target of the literal that equals the selector, else the default
abbrev pub target_for : ℕ → ℕ → List ℕ → ℕ
target_for selector default [] = default
target_for selector default (literal ∷ []) = default
target_for selector default (literal ∷ target ∷ cases) = if literal == selector then target else target_for selector default cases

-- OpSwitch
abbrev pub picks : List Value → ℕ → List ℕ → Option Effect
picks (Word selector ∷ []) default cases = Some (Goes (target_for selector default cases))
picks values default cases = None

-- ---- all of them

-- the effect of an instruction, by the values that it reads; there is none where they don't fit
unfoldable pub effect_of : Program → Memory → Inst → List Value → Option Effect
effect_of program memory inst values =
    if inst.op == op.LABEL then Some (Enters (slice_index inst.words 0))
    else if (inst.op == op.SELECTION_MERGE) then Some Passes
    else if (inst.op == op.LOOP_MERGE) then Some Passes
    else if inst.op == op.VARIABLE then Some (Gives (Pointer (slice_index inst.words 1) []))
    else if inst.op == op.STORE then stores program values
    else if inst.op == op.BRANCH then Some (Goes (slice_index inst.words 0))
    else if inst.op == op.BRANCH_CONDITIONAL then branches values (slice_index inst.words 1) (slice_index inst.words 2)
    else if inst.op == op.SWITCH then picks values (slice_index inst.words 1) (drop 2 inst.words)
    else if inst.op == op.RETURN then Some (Stops Done)
    else if inst.op == op.UNREACHABLE then Some (Stops Done)
    else if inst.op == op.KILL then Some (Stops Killed)
    else if has_result_class (class_of inst.op) then option_map Gives (result_of program memory inst.op (slice_index inst.words 0) (drop 2 inst.words) values)
    else None
