-- Which types, variables and functions are allowed (SPIR-V specification, section 3.49.6 "Type-Declaration
-- Instructions"), and the fault BadType.
use Rattle.std.specs.Prelude.{ℕ, ◌*◌, ◌^◌, Bool, true, false, ◌&&◌, ◌==◌, nat_lt, nat_le, if◌then◌else◌, List, ◌∷◌, is_none, Option, None, Some, not}
use Rattle.std.specs.List.{list_all, sum_by}
use Rattle.std.specs.Option.{option_map}
use Rattle.limits.specs.declared.TheConstants.{TYPE_WORDS}
use Rattle.spirv_model.specs.declared.module.Inst.{Inst}
use Rattle.spirv_model.specs.declared.class.Class.{Class}
use Rattle.spirv_model.specs.declared.class.Class.TheVariants.{TypeDeclaration}
use Rattle.spirv_model.specs.declared.table.Entry.{Entry}
use Rattle.spirv_model.specs.declared.table.Entry.TheVariants.{Listed}
use Rattle.spirv_model.specs.declared.table.Operand.{Operand}
use Rattle.spirv_model.specs.declared.table.Operand.TheVariants.{IdResultType}
use Rattle.valid_model.specs.declared.meaning.IdFacts.{IdFacts}
use Rattle.valid_model.specs.declared.meaning.Meaning.{Meaning}
use Rattle.valid_model.specs.declared.meaning.Meaning.TheVariants.{Shape as OfShape}
use Rattle.valid_model.specs.declared.meaning.Shape.{Shape}
use Rattle.valid_model.specs.declared.meaning.Shape.TheVariants.{Void, Bool as Truth, Int, BoolVector, IntVector, Array, Struct, Pointer, Function}
use Rattle.spirv_model.specs.Operands.{entry_of, class_of, listed_of, word_at, words_from}
use Rattle.valid_model.specs.Definitions.{definition, inst_at}
use Rattle.valid_model.specs.Knowledge.{Knowledge, a_type, is_data, is_storage_class, is_void, length_in, meaning_in, size_in}
use Rattle.spirv_model.specs.declared.op.TheConstants as op

-- ---- types, where they are allowed

abbrev pub is_type_class : Option Class → Bool
is_type_class (Some TypeDeclaration) = true
is_type_class class = false

-- the instruction declares a type
abbrev pub is_type : ℕ → Bool
is_type opcode = is_type_class (class_of opcode)

-- an integer has 32 bits, and is unsigned or signed
abbrev pub integer_type : ℕ → ℕ → Option IdFacts
integer_type width signedness = if (width == 32) && nat_le signedness 1 then Some (a_type (Int (signedness == 1)) 1) else None

abbrev pub vector_shape : Meaning → ℕ → Option Shape
vector_shape (OfShape Truth) count = Some (BoolVector count)
vector_shape (OfShape (Int signed)) count = Some (IntVector count signed)
vector_shape meaning count = None

-- a vector has two to four components, which are truth values or integers
abbrev pub vector_type : Meaning → ℕ → Option IdFacts
vector_type component count =
    if nat_le 2 count && nat_le count 4 then option_map (λ shape. a_type shape count) (vector_shape component count) else None

-- the number that a word is by its type, where that is at least 1
abbrev pub constant_length : Meaning → ℕ → ℕ
constant_length (OfShape (Int true)) word = if nat_lt word (2 ^ 31) then word else 0
constant_length (OfShape (Int false)) word = word
constant_length meaning word = 0

-- the elements of an array whose length is the result of an instruction with this opcode, this type and this word: those of an
-- OpConstant, and none of any other
abbrev pub array_length : ℕ → Meaning → ℕ → ℕ
array_length opcode type word = if opcode == op.CONSTANT then constant_length type word else 0

-- an array has at least one element, and isn't too large
abbrev pub array_type : Option IdFacts → ℕ → ℕ → Option IdFacts
array_type element id length =
    if is_data (meaning_in element) && nat_lt 0 length && nat_le (length * size_in element) TYPE_WORDS
    then Some (a_type (Array id length) (length * size_in element))
    else None

-- the words of all members
abbrev pub members_size : Knowledge → List ℕ → ℕ
members_size known members = sum_by (λ id. size_in (known id)) members

-- a structure may have no members, and isn't too large
abbrev pub struct_size : Knowledge → List ℕ → Option ℕ
struct_size known members =
    if list_all (λ id. is_data (meaning_in (known id))) members && nat_le (members_size known members) TYPE_WORDS
    then Some (members_size known members)
    else None

abbrev pub struct_type : Knowledge → List ℕ → Option IdFacts
struct_type known members = option_map (λ size. a_type (Struct (record { list = members })) size) (struct_size known members)

abbrev pub pointer_type : Meaning → ℕ → ℕ → Option IdFacts
pointer_type pointee class to = if is_storage_class class && is_data pointee then Some (a_type (Pointer class to) 0) else None

-- a function has no result
abbrev pub function_type : Meaning → Option IdFacts
function_type returned = if is_void returned then Some (a_type Function 0) else None

-- the type that an instruction declares, where it is allowed
unfoldable pub type_of : Knowledge → Inst → Option IdFacts
type_of known inst =
    if inst.op == op.TYPE_VOID then Some (a_type Void 0)
    else if inst.op == op.TYPE_BOOL then Some (a_type Truth 1)
    else if inst.op == op.TYPE_INT then integer_type (word_at 1 inst) (word_at 2 inst)
    else if inst.op == op.TYPE_VECTOR then vector_type (meaning_in (known (word_at 1 inst))) (word_at 2 inst)
    else if inst.op == op.TYPE_ARRAY then array_type (known (word_at 1 inst)) (word_at 1 inst) (length_in (known (word_at 2 inst)))
    else if inst.op == op.TYPE_STRUCT then struct_type known (words_from 1 inst)
    else if inst.op == op.TYPE_POINTER then pointer_type (meaning_in (known (word_at 2 inst))) (word_at 1 inst) (word_at 2 inst)
    else if inst.op == op.TYPE_FUNCTION then function_type (meaning_in (known (word_at 1 inst)))
    else None

-- ---- BadType: a type, a variable or a function isn't allowed, or a type is used before its definition

-- a pointer of this storage class
abbrev pub is_pointer_of : ℕ → Meaning → Bool
is_pointer_of class (OfShape (Pointer own to)) = own == class
is_pointer_of class meaning = false

abbrev pub is_function : Meaning → Bool
is_function (OfShape Function) = true
is_function meaning = false

-- the instruction isn't allowed, where so much is known before it: a type that is none of those allowed, a variable whose
-- type is no pointer of the class that it names, or a function with a result or without a function type
unfoldable pub breaks_types : Knowledge → Inst → Bool
breaks_types known inst =
    if is_type inst.op then is_none (type_of known inst)
    else if inst.op == op.VARIABLE then not (is_pointer_of (word_at 2 inst) (meaning_in (known (word_at 0 inst))))
    else if inst.op == op.FUNCTION then not (is_void (meaning_in (known (word_at 0 inst))) && is_function (meaning_in (known (word_at 3 inst))))
    else false

-- the instruction's result type, if it has one
abbrev pub is_result_type : List (Option Operand) → Bool
is_result_type (Some IdResultType ∷ more) = true
is_result_type listed = false

abbrev pub result_type_in : Option Entry → Inst → Option ℕ
result_type_in (Some (Listed class operands)) inst = if is_result_type (listed_of operands) then Some (word_at 0 inst) else None
result_type_in entry inst = None

unfoldable pub result_type : Inst → Option ℕ
result_type inst = result_type_in (entry_of inst.op) inst

-- a type is defined there, after the place
abbrev pub is_type_after : List Inst → ℕ → Option ℕ → Bool
is_type_after insts place None = false
is_type_after insts place (Some at) = nat_lt place at && is_type (inst_at insts at).op

abbrev pub is_later_type : List Inst → ℕ → Option ℕ → Bool
is_later_type insts place None = false
is_later_type insts place (Some type) = is_type_after insts place (definition insts type)

-- the result type is defined later
unfoldable pub has_later_type : List Inst → ℕ → Bool
has_later_type insts place = is_later_type insts place (result_type (inst_at insts place))
