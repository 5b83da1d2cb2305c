use Rattle.std.proofs.Common.{unwrap_or, ◌∙◌, lit≤, rules}
use Rattle.limits.specs.declared.TheConstants.{DESCRIPTOR_SETS}
use Rattle.state_key.proofs.Packing.{Packs-start, Packs-next, Packs-room}
use Rattle.state_key.proofs.key.set_masks.Goals as goal

pub loop-set-init : goal.loop-set-init
loop-set-init c = Packs-start 8 DESCRIPTOR_SETS (λ set. unwrap_or set 0) c.args.sets.now (search rules)

pub loop-set-preserved : goal.loop-set-preserved
loop-set-preserved c =
    Packs-next 8 DESCRIPTOR_SETS (λ set. unwrap_or set 0) c.args.sets.now (search rules) c.loop-set.set c.loop-set.word c.from.result c.with_lowest-word.result _ c.loop-set-test.true c.loop-set.invariant (c.from.ensures ∙ c.unwrap_or.ensures) (search rules) c.with_lowest-word.ensures

pub with_lowest-word-requires-clause-fits : goal.with_lowest-word-requires-clause-fits
with_lowest-word-requires-clause-fits c =
    Packs-room 8 DESCRIPTOR_SETS (λ set. unwrap_or set 0) c.args.sets.now (search rules) c.loop-set.set c.loop-set.word c.from.result c.loop-set-test.true c.loop-set.invariant (search rules) (lit≤ tt)
