-- How the machine of a changed module follows that of the module before it.
use Rattle.std.specs.Prelude.{◌≡◌, ℕ, ◌≤◌, Some}
use Rattle.stage_model.specs.declared.outcome.Kind.{Kind}
use Rattle.stage_model.specs.Program.{Program}
use Rattle.stage_model.specs.Start.{Values, Memory}
use Rattle.stage_model.specs.Machine.{State, Machine, GoesOn, step}
use Rattle.stage_model.specs.Steps.{Steps, IsStuck}
use Rattle.stage_model.specs.Leads.{Stops}
use Rattle.stage_model.specs.Stage.{Outcome, outcome_of}

-- ---- states

-- ids with this property have the same values on both sides, where an id of the old side may have another name on the new one
abbrev pub AgreeOn : (ℕ → Type 0) → (ℕ → ℕ) → Values → Values → Type 0
AgreeOn Seen name new old = (id : ℕ) → Seen id → new (name id) ≡ old id

-- these variables hold the same words
abbrev pub HoldSame : (ℕ → Type 0) → Memory → Memory → Type 0
HoldSame Held new old = (variable at : ℕ) → Held variable → new variable at ≡ old variable at

-- What both sides agree on at a point of the function: the values of the ids that are seen there, and of those that the phis of the running
-- block may take, the words of variables, the blocks and the back edges. No more steps were taken on the new side.
pub record AreAlike (name : ℕ → ℕ) (Seen Entered Held : ℕ → Type 0) (new old : State) : Type 0 where
  pub values : AgreeOn Seen name new.values old.values
  pub values_at_entry : AgreeOn Entered name new.values_at_entry old.values_at_entry
  pub memory : HoldSame Held new.memory old.memory
  pub label : new.label ≡ old.label
  pub before : new.before ≡ old.before
  pub back_edges : new.back_edges ≡ old.back_edges
  pub steps : new.steps ≤ old.steps

-- ---- machines

-- a machine takes a step and comes to another one by some more
pub record Moves (program : Program) (from to : Machine) : Type 0 where
  pub next : Machine
  pub goes : step program from ≡ Some (GoesOn next)
  pub comes : Steps program next to

-- What two machines come to: the old one moves, and the new one comes to a machine that is related to it again; or both end, and what the
-- new one leaves is kept; or the old one leaves nothing.
pub data Round (Kept : Outcome → Outcome → Type 0) (new old : Program) (Related : Machine → Machine → Type 0) : Machine → Machine → Type 0 where
  returns : {m n : Machine} (m' n' : Machine) → Steps new m m' → Moves old n n' → Related m' n' → Round Kept new old Related m n
  ends : {m n : Machine} (kind : Kind) (after after' : State) → Stops new m.place m.state kind after → Stops old n.place n.state kind after'
      → Kept (outcome_of new (kind, after)) (outcome_of old (kind, after')) → Round Kept new old Related m n
  stops : {m n : Machine} → IsStuck old n → Round Kept new old Related m n

-- the new machine follows the old one: wherever they are related, they come to machines that are related again, or end alike
abbrev pub Follows : (Outcome → Outcome → Type 0) → (new old : Program) → (Machine → Machine → Type 0) → Type 0
Follows Kept new old Related = (m n : Machine) → Related m n → Round Kept new old Related m n
