-- The operands of OpLoad, OpStore and OpAccessChain (SPIR-V specification, section 3.49.8 "Memory Instructions").
use Rattle.std.specs.Prelude.{ℕ, ◌==◌, Bool, false, ◌&&◌, if◌then◌else◌, List, [], ◌∷◌, slice_get, Option, None, Some}
use Rattle.std.specs.Option.{option_map, option_and_then}
use Rattle.spirv_model.specs.declared.module.Inst.{Inst}
use Rattle.spirv_model.specs.declared.op.TheConstants as op
use Rattle.spirv_model.specs.Operands.{word_at, words_from}
use Rattle.valid_model.specs.declared.meaning.Meaning.{Meaning}
use Rattle.valid_model.specs.declared.meaning.Meaning.TheVariants.{Shape as OfShape, Variable}
use Rattle.valid_model.specs.declared.meaning.Shape.TheVariants.{BoolVector, IntVector, Array, Struct, Pointer}
use Rattle.valid_model.specs.Knowledge.{is_integer}
use Rattle.valid_model.specs.ModuleFacts.{is_word}
use Rattle.valid_model.specs.Shapes.{pointee_id}
use Rattle.check_model.specs.declared.components.Component.TheVariants as component
use Rattle.check_model.specs.declared.components.Part.{Part}
use Rattle.check_model.specs.declared.components.Part.TheVariants as part
use Rattle.check_model.specs.Typing.{Typing, type_of, has_type}
use Rattle.check_model.specs.CompositeOperands.{member_part, is_of_type}

-- OpLoad of this type through a pointer
abbrev pub load_fits : Typing → ℕ → ℕ → Bool
load_fits typing type pointer = is_word type (pointee_id (type_of typing pointer))

-- an object of the type that is pointed to
abbrev pub is_object_of : Typing → Option ℕ → ℕ → Bool
is_object_of typing None object = false
is_object_of typing (Some type) object = has_type typing type object

-- OpStore through a pointer
abbrev pub store_fits : Typing → ℕ → ℕ → Bool
store_fits typing pointer object = is_object_of typing (pointee_id (type_of typing pointer)) object

-- ---- OpAccessChain

-- what an index leads to, where it is an integer
abbrev pub indexed : Typing → ℕ → Part → Option Part
indexed typing index reached = if is_integer (type_of typing index) then Some reached else None

-- a member of a structure, by an OpConstant
abbrev pub member_at : List ℕ → Option ℕ → Option Part
member_at members number = member_part (option_and_then (slice_get members) number)

-- the part of a value of this type to which the index with this id leads; those of arrays and vectors may be any integers
abbrev pub chain_part : Typing → Meaning → ℕ → Option Part
chain_part typing (OfShape (BoolVector count)) index = indexed typing index (part.Component component.Truth)
chain_part typing (OfShape (IntVector count signed)) index = indexed typing index (part.Component (component.Integer signed))
chain_part typing (OfShape (Array element count)) index = indexed typing index (part.Type element)
chain_part typing (OfShape (Struct members)) index = member_at members.list (typing.constant index)
chain_part typing meaning index = None

abbrev pub chain_step : Typing → ℕ → Part → Option Part
chain_step typing index (part.Type type) = chain_part typing (typing.meaning type) index
chain_step typing index (part.Component component) = None

abbrev pub chain_along : Typing → Option Part → List ℕ → Option Part
chain_along typing reached [] = reached
chain_along typing reached (index ∷ indices) = chain_along typing (option_and_then (chain_step typing index) reached) indices

-- a pointer of this class to such a part
abbrev pub is_pointer_to : Typing → Meaning → ℕ → Option Part → Bool
is_pointer_to typing (OfShape (Pointer class to)) storage reached = (class == storage) && is_of_type typing to reached
is_pointer_to typing meaning storage reached = false

-- from a variable, along indices, to a pointer of this type
abbrev pub chain_fits : Typing → ℕ → Meaning → List ℕ → Bool
chain_fits typing type (Variable held storage) indices =
    is_pointer_to typing (typing.meaning type) storage (chain_along typing (option_map part.Type (pointee_id (typing.meaning held))) indices)
chain_fits typing type base indices = false

-- ---- all of them

-- the operands of an instruction of this class fit
unfoldable pub memory_operands_fit : Typing → Inst → Bool
memory_operands_fit typing inst =
    if inst.op == op.LOAD then load_fits typing (word_at 0 inst) (word_at 2 inst)
    else if inst.op == op.STORE then store_fits typing (word_at 0 inst) (word_at 1 inst)
    else if inst.op == op.ACCESS_CHAIN then chain_fits typing (word_at 0 inst) (typing.meaning (word_at 2 inst)) (words_from 3 inst)
    else false
