-- What the machine comes to by its steps.
use Rattle.std.specs.Prelude.{◌≡◌, Option, None, Some}
use Rattle.stage_model.specs.Program.{Program}
use Rattle.stage_model.specs.Machine.{Machine, Step, GoesOn, step}

-- the machine comes from one state to another, by any number of steps
pub data Steps (program : Program) : Machine → Machine → Type 0 where
  stays : {m n : Machine} → m ≡ n → Steps program m n
  goes : {m n : Machine} (next : Machine) → step program m ≡ Some (GoesOn next) → Steps program next n → Steps program m n

-- the machine comes to an instruction that it can't run
pub record IsStuck (program : Program) (m : Machine) : Type 0 where
  pub at : Machine
  pub comes : Steps program m at
  pub stuck : step program at ≡ None
