-- The tables of ids beside the definitions.
use Rattle.std.specs.Prelude.{◌≡◌, ℕ, ◌+◌, ◌<◌, Bool, if◌then◌else◌, List, length, Option, None, Some}
use Rattle.std.specs.Option.{option_or}
use Rattle.id_table.specs.declared.table.IdTable.{IdTable}
use Rattle.id_table.specs.Tables.{at}
use Rattle.spirv_model.specs.declared.module.Inst.{Inst}
use Rattle.spirv_model.specs.declared.module.Words.{Words}
use Rattle.spirv_model.specs.Operands.{result}
use Rattle.valid_model.specs.declared.meaning.IdFacts.{IdFacts}
use Rattle.valid_model.specs.declared.meaning.Meaning.{Meaning}
use Rattle.valid_model.specs.declared.type_fault.TypeFault.{TypeFault}
use Rattle.valid_model.specs.Definitions.{definition, gives, twice_by}
use Rattle.valid_model.specs.Knowledge.{Knowledge, constant_type, meaning_in}
use Rattle.valid_model.specs.Meanings.{known_after, known_by}
use Rattle.valid_model.specs.FirstFault.{rule_fault}
use Rattle.spv_types.specs.declared.pass.Found.{Found}
use Rattle.spv_types.specs.declared.pass.FirstPass.{FirstPass}

-- what the table has
abbrev pub in_table : IdTable IdFacts → Knowledge
in_table table id = at table id

-- the meaning that the table has of an id, and of the type of a constant
abbrev pub meaning_by : IdTable IdFacts → ℕ → Meaning
meaning_by table id = meaning_in (in_table table id)

abbrev pub constant_type_by : IdTable IdFacts → ℕ → Meaning
constant_type_by table id = constant_type (in_table table) id

-- the table has what is known after one more instruction
abbrev pub AddsMeaning : Inst → IdTable IdFacts → IdTable IdFacts → Type 0
AddsMeaning inst old new = (id : ℕ) → in_table new id ≡ known_after (in_table old) inst id

-- the place that the table has of an id
abbrev pub in_places : IdTable ℕ → ℕ → Option ℕ
in_places places id = at places id

-- the earlier place, or else this one, if the instruction there has the result
abbrev pub first_place : Option ℕ → Bool → ℕ → Option ℕ
first_place found here place = option_or found (if here then Some place else None)

-- the table has the place of each id's definition
abbrev pub HasPlaces : IdTable ℕ → List Inst → Type 0
HasPlaces places insts = (id : ℕ) → in_places places id ≡ definition insts id

-- the table has the place of one more instruction's result, where it has none before
abbrev pub AddsPlace : Inst → ℕ → IdTable ℕ → IdTable ℕ → Type 0
AddsPlace inst place old new = (id : ℕ) → in_places new id ≡ first_place (in_places old id) (gives id inst) place

-- the result of the instruction at the place, where the table has an earlier place of it
abbrev pub IsResultTwice : IdTable ℕ → Inst → ℕ → Option ℕ → Type 0
IsResultTwice places inst place twice =
    (insts : List Inst) → HasPlaces places insts → twice ≡ twice_by insts place (result inst)

-- the first fault at the first n places, with its place
pub record IsFirst (words : Words) (n : ℕ) (found : Found) : Type 0 where
  pub within : found.place < n
  pub before : (place : ℕ) → place < found.place → rule_fault words place ≡ None
  pub here : rule_fault words found.place ≡ Some found.fault

abbrev pub FindsFirst : Words → ℕ → Option Found → Type 0
FindsFirst words n None = (place : ℕ) → place < n → rule_fault words place ≡ None
FindsFirst words n (Some found) = IsFirst words n found

-- the first fault, after that of one more place
abbrev pub AddsFault : Option Found → ℕ → Option TypeFault → Option Found → Type 0
AddsFault old place fault new =
    (words : Words) → FindsFirst words place old → fault ≡ rule_fault words place → FindsFirst words (place + 1) new

-- what going over all instructions leaves
pub record IsFirstPass (words : Words) (pass : FirstPass) : Type 0 where
  pub known : (id : ℕ) → in_table pass.table id ≡ known_by words.insts id
  pub found : FindsFirst words (length words.insts) pass.found
