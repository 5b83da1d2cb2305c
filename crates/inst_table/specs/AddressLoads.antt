-- The load of an address word.
use Rattle.std.specs.Prelude.{◌≡◌, ◌≢◌, ℕ, [], ◌∷◌, ◌++◌, Option, Some, None}
use Rattle.inst_table.specs.Passes.{KnowsAddress, IsTheKnownAddress}
use Rattle.inst_table.specs.Lawful.{IsOneWay}
use Rattle.inst_table.specs.declared.pass.Address.{Address}
use Rattle.inst_table.specs.declared.view.View.{View}

-- the word that an answer stands for
abbrev pub word_in : Option Address → ℕ
word_in None = 0
word_in (Some address) = address.word

-- One load of the unit's address word, which gave this word. It is the one that was known, which isn't 0, and what the loads of an address gave goes one way.
pub record LoadsAddress (v w : View) (unit word : ℕ) : Type 0 where
  pub address_loads : w.address_loads ≡ v.address_loads ++ (unit, word) ∷ []
  pub same : IsTheKnownAddress v unit word
  pub one_way : IsOneWay w.address_loads

abbrev pub LoadsNoAddress : View → View → Type 0
LoadsNoAddress v w = w.address_loads ≡ v.address_loads

abbrev pub IsKnownAddress : View → Address → Type 0
IsKnownAddress v address = KnowsAddress v address.unit address.word

-- Where it knew the unit's address, that is the answer.
abbrev pub GivesKnownAddress : View → ℕ → Option Address → Type 0
GivesKnownAddress v unit answer = (word : ℕ) → KnowsAddress v unit word → answer ≡ Some (record { unit = unit; word = word })

-- The address is the unit's, and known. Its word isn't 0.
pub record IsAddressOf (unit : ℕ) (v : View) (address : Address) : Type 0 where
  pub of_unit : address.unit ≡ unit
  pub there : address.word ≢ 0
  pub known : KnowsAddress v unit address.word
