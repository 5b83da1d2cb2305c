use Rattle.spv_types.specs.Pairs.{has_pair}
use Rattle.spv_types.proofs.PairKeys.{added}
use Rattle.spv_types.proofs.pairs.add_pair.Goals as goal

pub returns : goal.returns
returns c = λ a b. added c.args.a c.args.b a b (has_pair c.args.set.now a b) (has_pair c.insert.new.self a b) (c.in_ok-insert.ensures.updates.0 (a, b))
