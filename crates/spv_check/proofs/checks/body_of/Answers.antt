use Rattle.spv_check.proofs.FaultsTold.{of_tree}
use Rattle.spv_check.proofs.checks.body_of.Goals as goal

pub returns-in-Err : goal.returns-in-Err
returns-in-Err c = of_tree c.args.words.now _ c.tree_of.result c.in-Err.fault c.tree_fault.result c.as_slice.ensures c.tree_of.ensures.fault c.in-Err.is c.tree_fault.ensures
