-- Types and the layouts of their values.
use Rattle.std.proofs.Common.{◌≡◌, ℕ, ◌==◌, Bool, true, false, refl, ap, sym, ◌∙◌, arith, Option, None, Some}
use Rattle.std.proofs.lemmas.Bool.Decides.{nat_tests}
use Rattle.std.specs.Option.{option_map}
use Rattle.basics.proofs.Bools.{first_of_both, second_of_both}
use Rattle.valid_model.specs.declared.meaning.Meaning.{Meaning}
use Rattle.valid_model.specs.declared.meaning.Meaning.TheVariants.{Shape as OfShape}
use Rattle.valid_model.specs.declared.meaning.Shape.TheVariants.{Bool as OneBool, Int, BoolVector, IntVector, Pointer}
use Rattle.valid_model.specs.Knowledge.{is_data}
use Rattle.valid_model.specs.ModuleFacts.{is_word}
use Rattle.check_model.specs.declared.components.Component.{Component}
use Rattle.check_model.specs.declared.components.Component.TheVariants as component
use Rattle.check_model.specs.declared.components.Components.{Components}
use Rattle.check_model.specs.declared.components.Part.{Part}
use Rattle.check_model.specs.declared.components.Part.TheVariants as part
use Rattle.check_model.specs.OperandTypes.{is_pointer}
use Rattle.check_model.specs.ScalarOperands.{is_truth}
use Rattle.check_model.specs.CompositeOperands.{is_same_component, is_scalar_of, is_of_type}
use Rattle.check_model.specs.Typing.{type_id, has_type, type_of, meaning_of, components_in}
use Rattle.stage_model.specs.Value.{Value, Layout}
use Rattle.stage_model.specs.Program.{Program}
use Rattle.typed_model.specs.Values.{HasLayout, IsData, IsOfMeaning, IsOfType}
use Rattle.typed_model.specs.Results.{scalar_layout, vector_layout, layout_of_components, HasResult}
use Rattle.typed_model.specs.Types.{HasTypes, typing_in, part_layout, Suits, HasTypedResult}

pub same : (a b : ℕ) → a == b ≡ true → a ≡ b
same a b is = grind (arith, nat_tests)

-- ---- data

data_by : (program : Program) (type : ℕ) (value : Value) (m : Meaning) → is_pointer m ≡ false → IsOfMeaning program type m value → IsData program type value
data_by program type value (OfShape (Pointer class to)) isnt is = cc
data_by program type value m isnt is = is

by_data : (program : Program) (type : ℕ) (value : Value) (m : Meaning) → is_pointer m ≡ false → IsData program type value → IsOfMeaning program type m value
by_data program type value (OfShape (Pointer class to)) isnt is = cc
by_data program type value m isnt is = is

pub data_of : (program : Program) (type : ℕ) (value : Value) → is_pointer (program.meaning type) ≡ false → IsOfType program type value → IsData program type value
data_of program type value isnt is = data_by program type value (program.meaning type) isnt is

pub of_data : (program : Program) (type : ℕ) (value : Value) → is_pointer (program.meaning type) ≡ false → IsData program type value → IsOfType program type value
of_data program type value isnt is = by_data program type value (program.meaning type) isnt is

pub data_no_pointer : (m : Meaning) → is_data m ≡ true → is_pointer m ≡ false
data_no_pointer (OfShape (Pointer class to)) is = cc
data_no_pointer m is = refl

pub components_no_pointer : (m : Meaning) (of : Components) → components_in m ≡ Some of → is_pointer m ≡ false
components_no_pointer (OfShape (Pointer class to)) of is = cc
components_no_pointer m of is = refl

same_some : {A : Type 0} (x y : A) → Some x ≡ Some y → x ≡ y
same_some x y is = cc

-- a value of data of a known layout
pub layout_is : (program : Program) (type : ℕ) (value : Value) (layout : Layout) → program.layout type ≡ Some layout → IsData program type value → HasLayout layout value
layout_is program type value layout known is = is.has ∙ (sym is.known ∙ known)

pub has_layout : (program : Program) (type : ℕ) (value : Value) (layout : Layout) → is_pointer (program.meaning type) ≡ false → program.layout type ≡ Some layout → HasLayout layout value → IsOfType program type value
has_layout program type value layout isnt known has = of_data program type value isnt (record { layout = layout; known = known; has = has })

-- ---- scalars and vectors

components_by : (program : Program) → HasTypes program → (type : ℕ) (of : Components) (m : Meaning) → program.meaning type ≡ m → components_in m ≡ Some of → program.layout type ≡ Some (layout_of_components of)
components_by program types type of (OfShape OneBool) is are = types.shaped type OneBool is ∙ ap (option_map layout_of_components) are
components_by program types type of (OfShape (Int signed)) is are = types.shaped type (Int signed) is ∙ ap (option_map layout_of_components) are
components_by program types type of (OfShape (BoolVector count)) is are =
    types.shaped type (BoolVector count) is ∙ (ap (λ (b : Bool). Some (vector_layout b count true)) (sym (types.truths type count is)) ∙ ap (option_map layout_of_components) are)
components_by program types type of (OfShape (IntVector count signed)) is are =
    types.shaped type (IntVector count signed) is ∙ (ap (λ (b : Bool). Some (vector_layout b count false)) (sym (types.integers type count signed is)) ∙ ap (option_map layout_of_components) are)
components_by program types type of m is are = cc

pub components_layout : (program : Program) → HasTypes program → (type : ℕ) (of : Components) → components_in (program.meaning type) ≡ Some of → program.layout type ≡ Some (layout_of_components of)
components_layout program types type of are = components_by program types type of (program.meaning type) refl are

no_pointer_by : (program : Program) → HasTypes program → (type : ℕ) (layout : Layout) (m : Meaning) → program.meaning type ≡ m → program.layout type ≡ Some layout → is_pointer m ≡ false
no_pointer_by program types type layout (OfShape (Pointer class to)) is known = let e = types.shaped type (Pointer class to) is in cc
no_pointer_by program types type layout m is known = refl

-- a type with a layout is no pointer
pub no_pointer : (program : Program) → HasTypes program → (type : ℕ) (layout : Layout) → program.layout type ≡ Some layout → is_pointer (program.meaning type) ≡ false
no_pointer program types type layout known = no_pointer_by program types type layout (program.meaning type) refl known

pub has_type_layout : (program : Program) → HasTypes program → (type : ℕ) (value : Value) (layout : Layout) → program.layout type ≡ Some layout → HasLayout layout value → IsOfType program type value
has_type_layout program types type value layout known has = has_layout program type value layout (no_pointer program types type layout known) known has

pub type_has_layout : (program : Program) → HasTypes program → (type : ℕ) (value : Value) (layout : Layout) → program.layout type ≡ Some layout → IsOfType program type value → HasLayout layout value
type_has_layout program types type value layout known is = layout_is program type value layout known (data_of program type value (no_pointer program types type layout known) is)

pub typed_result : (program : Program) → HasTypes program → (type : ℕ) (layout : Layout) (result : Option Value) → program.layout type ≡ Some layout → HasResult layout result → HasTypedResult program type result
typed_result program types type layout result known r = record { value = r.value; is = r.is; has = has_type_layout program types type r.value layout known r.has }

-- ---- the type of an id

pub word_is : (type : ℕ) (own : Option ℕ) → is_word type own ≡ true → own ≡ Some type
word_is type None is = cc
word_is type (Some own) is = ap Some (same own type is)

pub own_type : (program : Program) (constant : ℕ → Option ℕ) (vertex : Bool) (type id : ℕ) → has_type (typing_in program constant vertex) type id ≡ true → type_id (program.meaning id) ≡ Some type
own_type program constant vertex type id is = word_is type (type_id (program.meaning id)) is

-- a value of an operand with components
pub components_suit : (program : Program) → HasTypes program → (constant : ℕ → Option ℕ) (vertex : Bool) (id : ℕ) (value : Value) (of : Components) → components_in (type_of (typing_in program constant vertex) id) ≡ Some of → Suits program constant id value
    → HasLayout (layout_of_components of) value
components_suit program types constant vertex id value of are suits = by_type program types constant vertex id value of (type_id (program.meaning id)) refl are suits
  where
    by_type : (program : Program) → HasTypes program → (constant : ℕ → Option ℕ) (vertex : Bool) (id : ℕ) (value : Value) (of : Components) (type : Option ℕ) → type_id (program.meaning id) ≡ type
        → components_in (meaning_of (typing_in program constant vertex) type) ≡ Some of → Suits program constant id value → HasLayout (layout_of_components of) value
    by_type program types constant vertex id value of None is are suits = cc
    by_type program types constant vertex id value of (Some type) is are suits =
        type_has_layout program types type value (layout_of_components of) (components_layout program types type of are) (suits.of_type type is)

-- ---- parts

pub same_component : (a b : Component) → is_same_component a b ≡ true → is_truth a ≡ is_truth b
same_component component.Truth component.Truth is = refl
same_component (component.Integer signed) (component.Integer other) is = refl
same_component component.Truth (component.Integer other) is = cc
same_component (component.Integer signed) component.Truth is = cc

scalar_type : (program : Program) → HasTypes program → (type : ℕ) (component : Component) (of : Option Components) → components_in (program.meaning type) ≡ of → is_scalar_of component of ≡ true
    → program.layout type ≡ Some (scalar_layout (is_truth component))
scalar_type program types type component None are is = cc
scalar_type program types type component (Some of) are is =
    let one = second_of_both (is_same_component component of.component) (of.count == 1) is in
    components_layout program types type of are ∙ (ap (λ (b : Bool). Some (vector_layout b of.count (is_truth of.component))) one
    ∙ ap (λ (b : Bool). Some (scalar_layout b)) (sym (same_component component of.component (first_of_both (is_same_component component of.component) (of.count == 1) is))))

-- a part of a type has the type's layout
pub part_of_type : (program : Program) → HasTypes program → (constant : ℕ → Option ℕ) (vertex : Bool) (type : ℕ) (reached : Option Part) → is_of_type (typing_in program constant vertex) type reached ≡ true
    → (p : Part) × (reached ≡ Some p) × (program.layout type ≡ part_layout program p)
part_of_type program types constant vertex type None is = cc
part_of_type program types constant vertex type (Some (part.Type own)) is = (part.Type own, refl, ap program.layout (sym (same own type is)))
part_of_type program types constant vertex type (Some (part.Component component)) is =
    (part.Component component, refl, scalar_type program types type component (components_in (program.meaning type)) refl is)
