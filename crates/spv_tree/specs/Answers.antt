-- Which faults say nothing of the list.
use Rattle.std.specs.Prelude.{Bool, true, false}
use Rattle.body_model.specs.declared.fault.TreeFault.{TreeFault}
use Rattle.body_model.specs.declared.fault.TreeFault.TheVariants.{Memory}

abbrev pub is_memory : TreeFault → Bool
is_memory Memory = true
is_memory fault = false
