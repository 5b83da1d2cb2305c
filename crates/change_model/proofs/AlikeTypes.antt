-- Two modules in which types have the same shapes, and ids of which one is of the type of the other: what the rules of operands say of both.
use Rattle.std.proofs.Common.{◌≡◌, ℕ, refl, ap, sym, ◌∙◌, Option, None, Some}
use Rattle.valid_model.specs.declared.meaning.Shape.{Shape}
use Rattle.valid_model.specs.declared.meaning.Meaning.{Meaning}
use Rattle.valid_model.specs.declared.meaning.Meaning.TheVariants.{Absent, Shape as OfShape, Variable}
use Rattle.valid_model.specs.Knowledge.{is_bool, is_integer, is_data}
use Rattle.valid_model.specs.ModuleFacts.{is_word}
use Rattle.valid_model.specs.Shapes.{pointee_id}
use Rattle.check_model.specs.CompositeOperands.{part_at, is_truth_vector}
use Rattle.check_model.specs.OperandTypes.{is_pointer}
use Rattle.check_model.specs.Storage.{points_to_read_only}
use Rattle.check_model.specs.Typing.{Typing, type_id, meaning_of, type_of, has_type, components_in}
use Rattle.change_model.proofs.ChangedShapes.{shape_in}

-- ---- both modules

-- types have the same shapes, and both are of the same stage
pub record AreAlike (new old : Typing) : Type 0 where
  pub shape : (id : ℕ) → shape_in (new.meaning id) ≡ shape_in (old.meaning id)
  pub vertex : new.vertex ≡ old.vertex

-- the id of the new module is of the type of the old one's, the same variable, and the same number
pub record IsAlike (new old : Typing) (to from : ℕ) : Type 0 where
  pub type : type_id (new.meaning to) ≡ type_id (old.meaning from)
  pub variable : (type class : ℕ) → old.meaning from ≡ Variable type class → new.meaning to ≡ Variable type class
  pub number : (word : ℕ) → old.constant from ≡ Some word → new.constant to ≡ Some word

-- ---- what is told by shapes

abbrev pub as_shape : Option Shape → Meaning
as_shape None = Absent
as_shape (Some shape) = OfShape shape

-- what is said of a type is said by its shape
abbrev pub ByShape : {A : Type 0} → (Meaning → A) → Type 0
ByShape says = (m : Meaning) → says m ≡ says (as_shape (shape_in m))

pub same_shapes : {A : Type 0} (says : Meaning → A) → ByShape says → (a b : Meaning) → shape_in a ≡ shape_in b → says a ≡ says b
same_shapes says by a b same = by a ∙ ap (λ (o : Option Shape). says (as_shape o)) same ∙ sym (by b)

pub bool_by : ByShape is_bool
bool_by (OfShape shape) = refl
bool_by m = refl

pub integer_by : ByShape is_integer
integer_by (OfShape shape) = refl
integer_by m = refl

pub data_by : ByShape is_data
data_by (OfShape shape) = refl
data_by m = refl

pub components_by : ByShape components_in
components_by (OfShape shape) = refl
components_by m = refl

pub pointee_by : ByShape pointee_id
pointee_by (OfShape shape) = refl
pointee_by m = refl

pub pointer_by : ByShape is_pointer
pointer_by (OfShape shape) = refl
pointer_by m = refl

pub read_only_by : ByShape points_to_read_only
read_only_by (OfShape shape) = refl
read_only_by m = refl

pub truth_vector_by : ByShape is_truth_vector
truth_vector_by (OfShape shape) = refl
truth_vector_by m = refl

pub part_by : (index : ℕ) → ByShape (λ m. part_at m index)
part_by index (OfShape shape) = refl
part_by index m = refl

-- ---- types of ids

of_both : (new old : Typing) → AreAlike new old → (type : Option ℕ) → shape_in (meaning_of new type) ≡ shape_in (meaning_of old type)
of_both new old a None = refl
of_both new old a (Some type) = a.shape type

-- both ids are of a type of the same shape
pub types_alike : (new old : Typing) → AreAlike new old → (to from : ℕ) → IsAlike new old to from → shape_in (type_of new to) ≡ shape_in (type_of old from)
types_alike new old a to from s = ap (λ (o : Option ℕ). shape_in (meaning_of new o)) s.type ∙ of_both new old a (type_id (old.meaning from))

-- so what is said of their types by shapes is the same
pub says_alike : {A : Type 0} (says : Meaning → A) → ByShape says → (new old : Typing) → AreAlike new old → (to from : ℕ) → IsAlike new old to from → says (type_of new to) ≡ says (type_of old from)
says_alike says by new old a to from s = same_shapes says by (type_of new to) (type_of old from) (types_alike new old a to from s)

-- and what is said of a type
pub type_says : {A : Type 0} (says : Meaning → A) → ByShape says → (new old : Typing) → AreAlike new old → (id : ℕ) → says (new.meaning id) ≡ says (old.meaning id)
type_says says by new old a id = same_shapes says by (new.meaning id) (old.meaning id) (a.shape id)

pub has_alike : (new old : Typing) (type to from : ℕ) → IsAlike new old to from → has_type new type to ≡ has_type old type from
has_alike new old type to from s = ap (is_word type) s.type
