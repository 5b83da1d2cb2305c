-- What a key says of states.
use Rattle.std.specs.Prelude.{◌≡◌, ◌↔◌, ℕ, List}
use Rattle.state_model.specs.Lawful.{IsLawful}
use Rattle.state_model.specs.Canonical.{IsTidy}
use Rattle.state_model.specs.Key.{key}
use Rattle.state_model.specs.declared.parts.State.{State}

-- a lawful and tidy state with this key
pub record HasKey (k : List ℕ) (s : State) : Type 0 where
  pub lawful : IsLawful s
  pub tidy : IsTidy s
  pub same : key s ≡ k

-- of the lawful and tidy states this one alone has the key
abbrev pub TellsApart : List ℕ → State → Type 0
TellsApart k s = (t : State) → IsLawful t → IsTidy t → (key t ≡ k) ↔ (t ≡ s)
