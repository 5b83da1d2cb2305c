use Rattle.std.proofs.Common.{is_some, None, lit≤, rules}
use Rattle.state_model.specs.Key.{bit}
use Rattle.limits.specs.declared.TheConstants.{DESCRIPTOR_SETS}
use Rattle.state_key.proofs.Packing.{Packs-start, Packs-next, Packs-room}
use Rattle.state_key.proofs.key.sets_defined.Goals as goal

pub loop-set-init : goal.loop-set-init
loop-set-init c = Packs-start 1 DESCRIPTOR_SETS (λ set. bit (is_some set)) c.args.sets.now (search rules)

pub loop-set-preserved : goal.loop-set-preserved
loop-set-preserved c =
    Packs-next 1 DESCRIPTOR_SETS (λ set. bit (is_some set)) c.args.sets.now (search rules) c.loop-set.set c.loop-set.word c.bit.result c.with_lowest-word.result None c.loop-set-test.true c.loop-set.invariant (search rules) (search rules) c.with_lowest-word.ensures

pub with_lowest-word-requires-clause-fits : goal.with_lowest-word-requires-clause-fits
with_lowest-word-requires-clause-fits c =
    Packs-room 1 DESCRIPTOR_SETS (λ set. bit (is_some set)) c.args.sets.now (search rules) c.loop-set.set c.loop-set.word c.bit.result c.loop-set-test.true c.loop-set.invariant (search rules) (lit≤ tt)
