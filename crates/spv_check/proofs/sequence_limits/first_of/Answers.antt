use Rattle.std.proofs.Common.{ap, sym}
use Rattle.spv_check.specs.SequenceLimits.{Mark}
use Rattle.spv_check.proofs.TreeLimits.{marked_block, marked_choice, marked_pick, marked_round}
use Rattle.spv_check.proofs.sequence_limits.first_of.Goals as goal

pub returns-in-Block : goal.returns-in-Block
returns-in-Block c = sym (ap (λ (m : Mark). m.first) (marked_block c.args.node.now c.in-Block.block c.in-Block.is))

pub returns-in-Choice : goal.returns-in-Choice
returns-in-Choice c = sym (ap (λ (m : Mark). m.first) (marked_choice c.args.node.now _ c.in-Choice.is))

pub returns-in-Pick : goal.returns-in-Pick
returns-in-Pick c = sym (ap (λ (m : Mark). m.first) (marked_pick c.args.node.now _ c.in-Pick.is))

pub returns-in-Round : goal.returns-in-Round
returns-in-Round c = sym (ap (λ (m : Mark). m.first) (marked_round c.args.node.now _ c.in-Round.is))
