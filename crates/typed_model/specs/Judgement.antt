-- Which values ids have at a place of a function: each id that is visible there has a value of its type.
use Rattle.std.specs.Prelude.{◌≡◌, ℕ, true, List, Some}
use Rattle.spirv_model.specs.declared.module.Inst.{Inst}
use Rattle.valid_model.specs.Definitions.{definition}
use Rattle.valid_model.specs.Meanings.{meaning}
use Rattle.check_model.specs.Intervals.{Interval, is_visible}
use Rattle.check_model.specs.Typing.{type_id, constant_word}
use Rattle.stage_model.specs.Value.{Value}
use Rattle.stage_model.specs.Program.{program_of}
use Rattle.stage_model.specs.Start.{Values}
use Rattle.typed_model.specs.Types.{Suits}

-- the id has a value, which suits it
pub record HasValue (insts : List Inst) (values : Values) (id : ℕ) : Type 0 where
  pub value : Value
  pub is : values id ≡ Some value
  pub suits : Suits (program_of insts) (constant_word insts) id value

-- each id that has a type and is visible at the place has a value that suits it
abbrev pub AreTyped : List Inst → List Interval → ℕ → Values → Type 0
AreTyped insts intervals place values =
    (id at type : ℕ) → definition insts id ≡ Some at → is_visible intervals at place ≡ true → type_id (meaning insts id) ≡ Some type → HasValue insts values id
