-- Which entries the modules declare.
use Rattle.std.specs.Prelude.{◌≡◌, List, ℕ, IfSome}
use Rattle.std.specs.List.{Contains}
use Rattle.state_model.specs.Lawful.{AllPresent}
use Rattle.state_model.specs.Canonical.{IsTidy}
use Rattle.state_model.specs.declared.parts.State.{State}

-- each entry of the state is declared by its stage's module
pub record DeclaresAll (vs_ids fs_ids : List ℕ) (s : State) : Type 0 where
  pub vertex : AllPresent (λ e. Contains vs_ids e.id) s.prerast.entries.entries
  pub fragment : IfSome s.fragment (λ f. AllPresent (λ e. Contains fs_ids e.id) f.entries.entries)

-- a tidy state whose entries are all declared stays as it is
abbrev pub KeepsTidy : (vs_ids fs_ids : List ℕ) (old new : State) → Type 0
KeepsTidy vs_ids fs_ids old new = IsTidy old → DeclaresAll vs_ids fs_ids old → new ≡ old
