-- Which values are of a type.
use Rattle.std.specs.Prelude.{◌≡◌, ℕ, List, Option, None, Some}
use Rattle.std.specs.Option.{option_map}
use Rattle.valid_model.specs.declared.meaning.Meaning.{Meaning}
use Rattle.valid_model.specs.declared.meaning.Meaning.TheVariants.{Shape as OfShape, Variable}
use Rattle.valid_model.specs.declared.meaning.Shape.TheVariants.{Pointer as PointerType}
use Rattle.stage_model.specs.Value.{Value, Truth, Word, Composite, Pointer, Outside, Parts, NoParts, PartsOf, Layout, OneTruth, OneWord, Several, Layouts, NoLayouts, LayoutsOf, part_along}
use Rattle.stage_model.specs.Program.{Program, held_layout}

-- ---- data

abbrev pub layouts_with : Option Layout → Option Layouts → Option Layouts
layouts_with None more = None
layouts_with (Some layout) None = None
layouts_with (Some layout) (Some layouts) = Some (LayoutsOf layout layouts)

-- what a value is made of; a pointer is no data
abbrev mutual
  pub layout_in : Value → Option Layout
  layout_in (Truth b) = Some OneTruth
  layout_in (Word word) = Some OneWord
  layout_in (Composite parts) = option_map Several (layouts_in parts)
  layout_in (Pointer variable indices) = None
  layout_in Outside = None

  pub layouts_in : Parts → Option Layouts
  layouts_in NoParts = Some NoLayouts
  layouts_in (PartsOf value parts) = layouts_with (layout_in value) (layouts_in parts)

abbrev pub HasLayout : Layout → Value → Type 0
HasLayout layout value = layout_in value ≡ Some layout

-- the value is of the layout that data of this type have
pub record IsData (program : Program) (type : ℕ) (value : Value) : Type 0 where
  pub layout : Layout
  pub known : program.layout type ≡ Some layout
  pub has : HasLayout layout value

-- ---- pointers

-- the indices lead to a part of this variable, which is of the class and whose part is of the type
pub record PointsTo (program : Program) (class type variable : ℕ) (indices : List ℕ) : Type 0 where
  pub held : ℕ
  pub is_variable : program.meaning variable ≡ Variable held class
  pub whole : Layout
  pub holds : held_layout program variable ≡ Some whole
  pub place : ℕ
  pub layout : Layout
  pub found : part_along whole indices ≡ Some (place, layout)
  pub known : program.layout type ≡ Some layout

-- a pointer of this class to a value of the type, or outside of its variable
abbrev pub IsPointer : Program → ℕ → ℕ → Value → Type 0
IsPointer program class type (Pointer variable indices) = PointsTo program class type variable indices
IsPointer program class type Outside = Unit {0}
IsPointer program class type (Truth b) = ⊥
IsPointer program class type (Word word) = ⊥
IsPointer program class type (Composite parts) = ⊥

-- ---- of any type

abbrev pub IsOfMeaning : Program → ℕ → Meaning → Value → Type 0
IsOfMeaning program type (OfShape (PointerType class to)) value = IsPointer program class to value
IsOfMeaning program type meaning value = IsData program type value

-- the value is of the type with this id
abbrev pub IsOfType : Program → ℕ → Value → Type 0
IsOfType program type value = IsOfMeaning program type (program.meaning type) value
