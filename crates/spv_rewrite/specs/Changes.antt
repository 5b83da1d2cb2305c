-- The plan of a change, and what the program keeps of a module that it changes.
use Rattle.std.specs.Prelude.{ℕ, false}
use Rattle.check_model.specs.Validity.{IsValidList}
use Rattle.change_model.specs.Plans.{Plan, plan_of}
use Rattle.spv_rewrite.specs.declared.change.Change.{Change}
use Rattle.spv_rewrite.specs.Ends.{AreEnds}

-- the plan of a change, which doesn't ask which variables are read
abbrev pub plan_in : Change → Plan
plan_in change = plan_of change.fates.now change.names.now (λ _. false)

-- the instructions are those of a valid module, and the table has where its blocks end
pub record IsOfModule (change : Change) : Type 0 where
  pub bound : ℕ
  pub valid : IsValidList (record { insts = change.insts.now; bound = bound })
  pub ends : AreEnds change.insts.now change.ends
