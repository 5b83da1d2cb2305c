use Rattle.std.proofs.Common.{ap, ◌∙◌}
use Rattle.check_model.specs.EntryPoints.{bad_entry_count}
use Rattle.check_model.specs.Validity.{list_fault}
use Rattle.spv_check.proofs.UsePasses.{same_first}
use Rattle.spv_check.proofs.list_faults.list_fault.Goals as goal

pub returns : goal.returns
unfolding list_fault
returns c = λ intervals are.
    c.first_fault_of.ensures
    ∙ same_first _ _ _ _ _ _ _ _ (c.bad_entry_count-count.ensures ∙ ap bad_entry_count c.as_slice.ensures) (c.use_fault-used.ensures intervals are) c.not_flat-smooth.ensures c.location_twice-twice.ensures
