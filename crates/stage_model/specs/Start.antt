-- What ids and variables are when an invocation begins.
use Rattle.std.specs.Prelude.{ℕ, ◌+◌, ◌/◌, ◌==◌, Bool, true, false, not, ◌&&◌, nat_lt, if◌then◌else◌, List, [], ◌∷◌, slice_index, slice_index_or, slice_get, is_some, Option, None, Some}
use Rattle.std.specs.Option.{option_map, option_and_then, unwrap_or, option_or}
use Rattle.std.specs.List.{fold}
use Rattle.spirv_model.specs.declared.module.Inst.{Inst}
use Rattle.scalar_model.specs.declared.scalar_value.Scalar.{Scalar}
use Rattle.scalar_model.specs.declared.scalar_value.Scalar.TheVariants.{Bool as TruthOf, Word as WordOf}
use Rattle.valid_model.specs.declared.meaning.Meaning.{Meaning}
use Rattle.valid_model.specs.declared.meaning.Meaning.TheVariants.{Variable}
use Rattle.spirv_model.specs.declared.op.TheConstants as op
use Rattle.spirv_model.specs.declared.storage_class.TheConstants as class
use Rattle.spirv_model.specs.declared.builtin.TheConstants as builtin
use Rattle.spirv_model.specs.declared.decoration.TheConstants.{SPEC_ID, BUILT_IN, LOCATION, BINDING, DESCRIPTOR_SET}
use Rattle.scalar_model.specs.Scalars.{scalar_result}
use Rattle.limits.specs.declared.TheConstants.{COMPONENTS}
use Rattle.state_model.specs.declared.parts.Entry.{Entry}
use Rattle.state_model.specs.declared.parts.SpecValues.{SpecValues}
use Rattle.state_model.specs.declared.buffers.Buffers.{Buffers}
use Rattle.stage_model.specs.declared.inputs.Inputs.{Inputs}
use Rattle.stage_model.specs.Value.{Value, Truth, Word, Composite, Pointer, Outside, Layout, word_of_truth, zero_of, parts_from}
use Rattle.stage_model.specs.Program.{Program, held_type, block_offsets}

-- the values of ids; an id without one has none
abbrev pub Values : Type 0
Values = ℕ → Option Value

abbrev pub no_values : Values
no_values = λ _. None

-- values with this one changed
abbrev pub with_value : ℕ → Option Value → Values → Values
with_value id value values = λ other. if other == id then value else values other

-- the values of these ids, if each has one
abbrev pub all_values : Values → List ℕ → Option (List Value)
all_values values [] = Some []
all_values values (id ∷ ids) = option_and_then (λ first. option_map (λ rest. first ∷ rest) (all_values values ids)) (values id)

-- ---- scalars

abbrev pub scalar_of : Value → Option Scalar
scalar_of (Truth b) = Some (TruthOf b)
scalar_of (Word word) = Some (WordOf word)
scalar_of value = None

abbrev pub of_scalar : Scalar → Value
of_scalar (TruthOf b) = Truth b
of_scalar (WordOf word) = Word word

abbrev pub all_scalars : List Value → Option (List Scalar)
all_scalars [] = Some []
all_scalars (value ∷ values) = option_and_then (λ first. option_map (λ rest. first ∷ rest) (all_scalars values)) (scalar_of value)

-- the result of a scalar operation on scalars
abbrev pub scalar_value : ℕ → List Value → Option Value
scalar_value opcode values = option_map of_scalar (option_and_then (scalar_result opcode) (all_scalars values))

-- ---- constants (SPIR-V specification, section 3.49.7 "Constant-Creation Instructions")

-- the word of the first entry with this id
abbrev pub entry_word : List (Option Entry) → ℕ → Option ℕ
entry_word [] id = None
entry_word (None ∷ entries) id = entry_word entries id
entry_word (Some entry ∷ entries) id = if entry.id == id then Some entry.value else entry_word entries id

-- the word that specialization gives an id, by its SpecId
abbrev pub specialized : Program → SpecValues → ℕ → Option ℕ
specialized program entries id = option_and_then (entry_word entries.entries) (program.decoration id SPEC_ID)

abbrev pub is_nonzero : ℕ → Bool
is_nonzero word = not (word == 0)

-- the words without the first
abbrev pub rest_of : List ℕ → List ℕ
rest_of [] = []
rest_of (word ∷ words) = words

-- the result of a constant with these words: the id of its type, its own, and then what it is made of
unfoldable pub constant_of : Program → SpecValues → Values → ℕ → List ℕ → Option Value
constant_of program entries values opcode (type ∷ id ∷ words) =
    if opcode == op.CONSTANT_TRUE then Some (Truth true)
    else if opcode == op.CONSTANT_FALSE then Some (Truth false)
    else if opcode == op.CONSTANT then Some (Word (slice_index words 0))
    else if opcode == op.CONSTANT_NULL then option_map zero_of (program.layout type)
    else if (opcode == op.CONSTANT_COMPOSITE) then option_map (λ parts. Composite (parts_from parts)) (all_values values words)
    else if (opcode == op.SPEC_CONSTANT_COMPOSITE) then option_map (λ parts. Composite (parts_from parts)) (all_values values words)
    else if opcode == op.SPEC_CONSTANT_TRUE then Some (Truth (is_nonzero (unwrap_or (specialized program entries id) 1)))
    else if opcode == op.SPEC_CONSTANT_FALSE then Some (Truth (is_nonzero (unwrap_or (specialized program entries id) 0)))
    else if opcode == op.SPEC_CONSTANT then Some (Word (unwrap_or (specialized program entries id) (slice_index words 0)))
    else if opcode == op.SPEC_CONSTANT_OP then option_and_then (scalar_value (slice_index words 0)) (all_values values (rest_of words))
    else if opcode == op.UNDEF then option_map zero_of (program.layout type)
    else if opcode == op.VARIABLE then Some (Pointer id [])
    else None
constant_of program entries values opcode _ = None

-- the values after an instruction of the module's level
abbrev pub with_definition : Program → SpecValues → Values → Inst → Values
with_definition program entries values inst =
    if is_some (constant_of program entries values inst.op inst.words)
    then with_value (slice_index inst.words 1) (constant_of program entries values inst.op inst.words) values
    else values

unfoldable pub defined_by : Program → SpecValues → List Inst → Values
defined_by program entries insts = fold (with_definition program entries) no_values insts

-- ---- variables

-- the words of each variable, by their place in it
abbrev pub Memory : Type 0
Memory = ℕ → ℕ → ℕ

-- a word of the buffer with this number; 0 past its end, and without a buffer
abbrev pub buffer_word : Buffers → Option ℕ → ℕ → ℕ
buffer_word buffers number at =
    unwrap_or (option_and_then (λ words. slice_get words at) (option_and_then (slice_get buffers.list) number)) 0

-- a word that is read at an offset; 0 without one
abbrev pub option_word : (ℕ → ℕ) → Option ℕ → ℕ
option_word word None = 0
option_word word (Some offset) = word offset

abbrev pub built_in_word : Inputs → ℕ → ℕ → ℕ
built_in_word inputs number at =
    if number == builtin.VERTEX_INDEX then inputs.vertex_index
    else if number == builtin.INSTANCE_INDEX then inputs.instance_index
    else if number == builtin.FRAG_COORD then slice_index inputs.frag_coord at
    else if number == builtin.FRONT_FACING then word_of_truth inputs.front
    else 0

-- a word of an Input variable, with a built-in or at a location
abbrev pub input_word : Inputs → Option ℕ → Option ℕ → ℕ → ℕ
input_word inputs (Some number) location at = built_in_word inputs number at
input_word inputs None (Some location) at = slice_index (slice_index_or inputs.slots location []) at
input_word inputs None None at = 0

-- the number of the buffer that is bound at a set and a binding
abbrev pub bound_buffer : Inputs → Option ℕ → Option ℕ → Option ℕ
bound_buffer inputs (Some set) (Some binding) = slice_index_or (slice_index_or inputs.uniforms set []) binding None
bound_buffer inputs set binding = None

-- a word of a variable of this class
abbrev pub class_word : Program → Inputs → Buffers → ℕ → ℕ → ℕ → ℕ
class_word program inputs buffers variable storage at =
    if storage == class.INPUT then input_word inputs (program.decoration variable BUILT_IN) (program.decoration variable LOCATION) at
    else if storage == class.UNIFORM
    then option_word (λ offset. buffer_word buffers (bound_buffer inputs (program.decoration variable DESCRIPTOR_SET) (program.decoration variable BINDING)) (offset / 4))
    (slice_get (block_offsets program (held_type program variable)) at)
    else if storage == class.PUSH_CONSTANT
    then option_word (λ offset. slice_index inputs.push (offset / 4)) (slice_get (block_offsets program (held_type program variable)) at)
    else 0

abbrev pub variable_word : Program → Inputs → Buffers → ℕ → Meaning → ℕ → ℕ
variable_word program inputs buffers variable (Variable type storage) at = class_word program inputs buffers variable storage at
variable_word program inputs buffers variable meaning at = 0

-- inputs, uniforms and push constants hold what is given; all other variables hold zeros
unfoldable pub first_memory : Program → Inputs → Buffers → Memory
first_memory program inputs buffers = λ variable at. variable_word program inputs buffers variable (program.meaning variable) at
