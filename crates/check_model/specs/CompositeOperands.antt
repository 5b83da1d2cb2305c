-- The operands of instructions that make composites or take them apart (SPIR-V specification, section 3.49.12 "Composite
-- Instructions"), and of OpAny and OpAll.
use Rattle.std.specs.Prelude.{ℕ, ◌+◌, ◌-◌, ◌^◌, ◌==◌, Bool, true, false, ◌&&◌, ◌||◌, nat_lt, nat_le, if◌then◌else◌, List, [], ◌∷◌, length, slice_get, Option, None, Some}
use Rattle.std.specs.List.{list_all, sum_by, zip}
use Rattle.std.specs.Option.{option_map, option_and_then}
use Rattle.basics.specs.Word.{are_equal}
use Rattle.spirv_model.specs.declared.module.Inst.{Inst}
use Rattle.spirv_model.specs.declared.op.TheConstants as op
use Rattle.spirv_model.specs.Operands.{word_at, words_from}
use Rattle.valid_model.specs.declared.meaning.Meaning.{Meaning}
use Rattle.valid_model.specs.declared.meaning.Meaning.TheVariants.{Shape as OfShape}
use Rattle.valid_model.specs.declared.meaning.Shape.TheVariants.{BoolVector, IntVector, Array, Struct}
use Rattle.valid_model.specs.Knowledge.{is_bool}
use Rattle.check_model.specs.declared.components.Component.{Component}
use Rattle.check_model.specs.declared.components.Component.TheVariants as component
use Rattle.check_model.specs.declared.components.Components.{Components}
use Rattle.check_model.specs.declared.components.Part.{Part}
use Rattle.check_model.specs.declared.components.Part.TheVariants as part
use Rattle.check_model.specs.Typing.{Typing, type_id, type_of, has_type, components_in}

abbrev pub is_same_component : Component → Component → Bool
is_same_component component.Truth component.Truth = true
is_same_component (component.Integer signed) (component.Integer other) = are_equal signed other
is_same_component a b = false

-- ---- parts

abbrev pub component_part : Component → ℕ → ℕ → Option Part
component_part component count index = if nat_lt index count then Some (part.Component component) else None

abbrev pub member_part : Option ℕ → Option Part
member_part member = option_map part.Type member

-- the part of a value of this type with this index
abbrev pub part_at : Meaning → ℕ → Option Part
part_at (OfShape (BoolVector count)) index = component_part component.Truth count index
part_at (OfShape (IntVector count signed)) index = component_part (component.Integer signed) count index
part_at (OfShape (Array element count)) index = if nat_lt index count then Some (part.Type element) else None
part_at (OfShape (Struct members)) index = member_part (slice_get members.list index)
part_at meaning index = None

-- the part of a part; a component has none
abbrev pub part_of : Typing → Part → ℕ → Option Part
part_of typing (part.Type type) index = part_at (typing.meaning type) index
part_of typing (part.Component component) index = None

-- the part to which these indices lead
abbrev pub part_along : Typing → Option Part → List ℕ → Option Part
part_along typing reached [] = reached
part_along typing reached (index ∷ indices) = part_along typing (option_and_then (λ whole. part_of typing whole index) reached) indices

-- a scalar of this component
abbrev pub is_scalar_of : Component → Option Components → Bool
is_scalar_of component None = false
is_scalar_of component (Some of) = is_same_component component of.component && (of.count == 1)

-- the part is of the type with this id
abbrev pub is_of_type : Typing → ℕ → Option Part → Bool
is_of_type typing type None = false
is_of_type typing type (Some (part.Type own)) = own == type
is_of_type typing type (Some (part.Component component)) = is_scalar_of component (components_in (typing.meaning type))

-- the type of an id as a part
abbrev pub whole_of : Typing → ℕ → Option Part
whole_of typing id = option_map part.Type (type_id (typing.meaning id))

abbrev pub is_of : Typing → Option ℕ → Option Part → Bool
is_of typing None reached = false
is_of typing (Some type) reached = is_of_type typing type reached

-- OpCompositeExtract
abbrev pub extract_fits : Typing → ℕ → ℕ → List ℕ → Bool
extract_fits typing type composite indices = is_of_type typing type (part_along typing (whole_of typing composite) indices)

-- OpCompositeInsert
abbrev pub insert_fits : Typing → ℕ → ℕ → ℕ → List ℕ → Bool
insert_fits typing type object composite indices =
    has_type typing type composite && is_of typing (type_id (typing.meaning object)) (part_along typing (whole_of typing composite) indices)

-- ---- OpCompositeConstruct

-- a scalar or a vector of this component
abbrev pub is_made_of : Component → Option Components → Bool
is_made_of component None = false
is_made_of component (Some of) = is_same_component component of.component

abbrev pub count_in : Option Components → ℕ
count_in None = 0
count_in (Some of) = of.count

abbrev pub components_of : Typing → ℕ → Option Components
components_of typing id = components_in (type_of typing id)

-- at least two scalars or vectors of the component that together have as many
abbrev pub vector_parts_fit : Typing → Component → ℕ → List ℕ → Bool
vector_parts_fit typing component count parts =
    nat_le 2 (length parts) && list_all (λ id. is_made_of component (components_of typing id)) parts
    && (sum_by (λ id. count_in (components_of typing id)) parts == count)

-- one part for each member, of the member's type
abbrev pub members_fit : Typing → List ℕ → List ℕ → Bool
members_fit typing types parts =
    (length parts == length types) && list_all (λ pair. has_type typing pair.0 pair.1) (zip types parts)

abbrev pub parts_fit : Typing → Meaning → List ℕ → Bool
parts_fit typing (OfShape (BoolVector count)) parts = vector_parts_fit typing component.Truth count parts
parts_fit typing (OfShape (IntVector count signed)) parts = vector_parts_fit typing (component.Integer signed) count parts
parts_fit typing (OfShape (Array element count)) parts = (length parts == count) && list_all (has_type typing element) parts
parts_fit typing (OfShape (Struct members)) parts = members_fit typing members.list parts
parts_fit typing meaning parts = false

-- ---- OpVectorShuffle

-- the literal that stands for no component
abbrev pub no_component : ℕ
no_component = 2 ^ 32 - 1

abbrev pub is_vector_of : Component → Option Components → Bool
is_vector_of component None = false
is_vector_of component (Some of) = is_same_component component of.component && nat_le 2 of.count

-- two vectors of the component of the result, which has as many components as there are literals; these number the components of both
abbrev pub shuffle_into : Option Components → (first second : Option Components) → List ℕ → Bool
shuffle_into None first second literals = false
shuffle_into (Some of) first second literals =
    nat_le 2 of.count && (of.count == length literals) && is_vector_of of.component first && is_vector_of of.component second
    && list_all (λ literal. nat_lt literal (count_in first + count_in second) || (literal == no_component)) literals

abbrev pub shuffle_fits : Typing → ℕ → ℕ → ℕ → List ℕ → Bool
shuffle_fits typing type first second literals =
    shuffle_into (components_in (typing.meaning type)) (components_of typing first) (components_of typing second) literals

-- ---- OpAny and OpAll

-- a vector of truth values
abbrev pub is_truth_vector : Meaning → Bool
is_truth_vector (OfShape (BoolVector count)) = true
is_truth_vector meaning = false

abbrev pub reduction_fits : Typing → ℕ → ℕ → Bool
reduction_fits typing type vector = is_bool (typing.meaning type) && is_truth_vector (type_of typing vector)

-- ---- all of them

-- the operands of an instruction of this class fit
unfoldable pub composite_operands_fit : Typing → Inst → Bool
composite_operands_fit typing inst =
    if inst.op == op.COMPOSITE_CONSTRUCT then parts_fit typing (typing.meaning (word_at 0 inst)) (words_from 2 inst)
    else if inst.op == op.COMPOSITE_EXTRACT then extract_fits typing (word_at 0 inst) (word_at 2 inst) (words_from 3 inst)
    else if inst.op == op.COMPOSITE_INSERT then insert_fits typing (word_at 0 inst) (word_at 2 inst) (word_at 3 inst) (words_from 4 inst)
    else if inst.op == op.VECTOR_SHUFFLE then shuffle_fits typing (word_at 0 inst) (word_at 2 inst) (word_at 3 inst) (words_from 4 inst)
    else if inst.op == op.ANY then reduction_fits typing (word_at 0 inst) (word_at 2 inst)
    else if inst.op == op.ALL then reduction_fits typing (word_at 0 inst) (word_at 2 inst)
    else false
