-- What is known of the types of a module: each has the layout of its shape.
use Rattle.std.specs.Prelude.{◌≡◌, ℕ, ◌==◌, Bool, true, false, List, [], ◌∷◌, Option, Some}
use Rattle.valid_model.specs.declared.meaning.Shape.{Shape}
use Rattle.valid_model.specs.declared.meaning.Shape.TheVariants.{BoolVector, IntVector, Pointer}
use Rattle.valid_model.specs.declared.meaning.Meaning.{Meaning}
use Rattle.valid_model.specs.declared.meaning.Meaning.TheVariants.{Shape as OfShape, Variable}
use Rattle.valid_model.specs.Knowledge.{is_data}
use Rattle.check_model.specs.declared.components.Part.{Part}
use Rattle.check_model.specs.declared.components.Part.TheVariants as part
use Rattle.check_model.specs.ScalarOperands.{is_truth}
use Rattle.check_model.specs.Typing.{Typing, type_id}
use Rattle.stage_model.specs.Value.{Value, Word, Layout}
use Rattle.stage_model.specs.Program.{Program, layout_of_shape}
use Rattle.typed_model.specs.Values.{IsOfType}
use Rattle.typed_model.specs.Results.{scalar_layout}

-- types have these meanings and layouts: data have a layout, a variable's type is a pointer of its class, pointers
-- point to data, and a vector has more than one component
pub record AreTypes (meaning : ℕ → Meaning) (layout : ℕ → Option Layout) : Type 0 where
  pub shaped : (id : ℕ) (shape : Shape) → meaning id ≡ OfShape shape → layout id ≡ layout_of_shape layout shape
  pub there : (id : ℕ) → is_data (meaning id) ≡ true → (known : Layout) × (layout id ≡ Some known)
  pub variable : (id type class : ℕ) → meaning id ≡ Variable type class → (to : ℕ) × (meaning type ≡ OfShape (Pointer class to))
  pub pointee : (id class to : ℕ) → meaning id ≡ OfShape (Pointer class to) → is_data (meaning to) ≡ true
  pub truths : (id count : ℕ) → meaning id ≡ OfShape (BoolVector count) → count == 1 ≡ false
  pub integers : (id count : ℕ) (signed : Bool) → meaning id ≡ OfShape (IntVector count signed) → count == 1 ≡ false

abbrev pub HasTypes : Program → Type 0
HasTypes program = AreTypes program.meaning program.layout

-- what the rules of operands know of ids, where these are the numbers that an OpConstant is
abbrev pub typing_in : Program → (ℕ → Option ℕ) → Bool → Typing
typing_in program constant vertex = record { meaning = program.meaning; constant = constant; vertex = vertex }

-- what a part of a composite is made of
abbrev pub part_layout : Program → Part → Option Layout
part_layout program (part.Type type) = program.layout type
part_layout program (part.Component component) = Some (scalar_layout (is_truth component))

-- the id may stand for the value: it is of the id's type, and the number that an OpConstant is
pub record Suits (program : Program) (constant : ℕ → Option ℕ) (id : ℕ) (value : Value) : Type 0 where
  pub of_type : (type : ℕ) → type_id (program.meaning id) ≡ Some type → IsOfType program type value
  pub number : (word : ℕ) → constant id ≡ Some word → value ≡ Word word

-- each of these ids may stand for the value in its place
abbrev pub AllSuit : Program → (ℕ → Option ℕ) → List ℕ → List Value → Type 0
AllSuit program constant [] [] = Unit {0}
AllSuit program constant (id ∷ ids) (value ∷ values) = Suits program constant id value × AllSuit program constant ids values
AllSuit program constant ids values = ⊥

-- there is a result, of the type with this id
pub record HasTypedResult (program : Program) (type : ℕ) (result : Option Value) : Type 0 where
  pub value : Value
  pub is : result ≡ Some value
  pub has : IsOfType program type value
