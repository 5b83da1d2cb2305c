-- What is known of ids where operands are judged: what they mean, and which number an OpConstant is.
use Rattle.std.specs.Prelude.{ℕ, ◌==◌, Bool, if◌then◌else◌, List, Option, None, Some}
use Rattle.std.specs.Option.{option_and_then}
use Rattle.spirv_model.specs.declared.module.Inst.{Inst}
use Rattle.spirv_model.specs.declared.op.TheConstants.{CONSTANT}
use Rattle.spirv_model.specs.Operands.{word_at}
use Rattle.valid_model.specs.declared.meaning.Meaning.{Meaning}
use Rattle.valid_model.specs.declared.meaning.Meaning.TheVariants.{Absent, Shape as OfShape, Constant, Variable, Value}
use Rattle.valid_model.specs.declared.meaning.Shape.TheVariants.{Bool as Truth, Int, BoolVector, IntVector}
use Rattle.valid_model.specs.Definitions.{definition, inst_at}
use Rattle.valid_model.specs.Meanings.{meaning}
use Rattle.valid_model.specs.ModuleFacts.{is_word, is_vertex, facts_of}
use Rattle.check_model.specs.declared.components.Component.{Component}
use Rattle.check_model.specs.declared.components.Component.TheVariants as component
use Rattle.check_model.specs.declared.components.Components.{Components}

pub record Typing : Type 0 where
  -- what each id means
  pub meaning : ℕ → Meaning
  -- the word of an OpConstant
  pub constant : ℕ → Option ℕ
  -- the module is one of a vertex shader
  pub vertex : Bool

abbrev pub constant_in : Inst → Option ℕ
constant_in inst = if inst.op == CONSTANT then Some (word_at 2 inst) else None

-- the word of the OpConstant that defines an id
unfoldable pub constant_word : List Inst → ℕ → Option ℕ
constant_word insts id = option_and_then (λ place. constant_in (inst_at insts place)) (definition insts id)

unfoldable pub typing_of : List Inst → Typing
typing_of insts = record { meaning = meaning insts; constant = constant_word insts; vertex = is_vertex (facts_of insts) }

-- ---- types of ids

-- the id of the type of a constant, a variable or a value
abbrev pub type_id : Meaning → Option ℕ
type_id (Constant type) = Some type
type_id (Variable type class) = Some type
type_id (Value type) = Some type
type_id meaning = None

-- the id is of the type with this id
abbrev pub has_type : Typing → ℕ → ℕ → Bool
has_type typing type id = is_word type (type_id (typing.meaning id))

abbrev pub meaning_of : Typing → Option ℕ → Meaning
meaning_of typing None = Absent
meaning_of typing (Some id) = typing.meaning id

-- the meaning of an id's type
abbrev pub type_of : Typing → ℕ → Meaning
type_of typing id = meaning_of typing (type_id (typing.meaning id))

-- ---- components of types

abbrev pub components : Component → ℕ → Option Components
components component count = Some (record { component = component; count = count })

-- what a scalar or a vector is made of
abbrev pub components_in : Meaning → Option Components
components_in (OfShape Truth) = components component.Truth 1
components_in (OfShape (Int signed)) = components (component.Integer signed) 1
components_in (OfShape (BoolVector count)) = components component.Truth count
components_in (OfShape (IntVector count signed)) = components (component.Integer signed) count
components_in meaning = None
