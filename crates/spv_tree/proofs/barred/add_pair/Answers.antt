use Rattle.spv_tree.specs.Barred.{has_pair}
use Rattle.spv_tree.proofs.TargetTables.{added}
use Rattle.spv_tree.proofs.barred.add_pair.Goals as goal

pub returns : goal.returns
returns c = λ a b. added c.args.place c.args.label a b (has_pair c.args.targets.now a b) (has_pair c.insert.new.self a b) (c.in_ok-insert.ensures.updates.0 (a, b))
