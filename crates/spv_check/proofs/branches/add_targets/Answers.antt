use Rattle.std.proofs.Common.{◌+◌, take, get_or}
use Rattle.std.proofs.lemmas.List.{take_more}
use Rattle.spv_check.proofs.BlockLists.{seen_more, target_new, target_old}
use Rattle.spv_check.proofs.branches.add_targets.Goals as goal

pub loop-target-preserved-then-not-branch : goal.loop-target-preserved-then-not-branch
loop-target-preserved-then-not-branch c =
    let targets = c.args.targets.now in
    let so = c.loop-target in
    let more = take_more targets so.target-index 0 c.loop-target-test.true in
    record {
      seen = seen_more so.seen c.see.new.seen (take so.target-index targets) (take (so.target-index + 1) targets) (get_or targets so.target-index 0) so.invariant.seen more c.in_ok-see.ensures.now;
      added = target_old c.args.label (get_or targets so.target-index 0) c.args.sources.now so.sources so.seen (take so.target-index targets) (take (so.target-index + 1) targets) _ so.invariant.seen more
          c.in_ok-see.ensures.before c.if-not-branch.true so.invariant.added;
    }

pub loop-target-preserved : goal.loop-target-preserved
loop-target-preserved c =
    let targets = c.args.targets.now in
    let so = c.loop-target in
    let more = take_more targets so.target-index 0 c.loop-target-test.true in
    record {
      seen = seen_more so.seen c.see.new.seen (take so.target-index targets) (take (so.target-index + 1) targets) (get_or targets so.target-index 0) so.invariant.seen more c.in_ok-see.ensures.now;
      added = target_new c.args.label (get_or targets so.target-index 0) c.args.sources.now so.sources c.add_source.new.sources so.seen (take so.target-index targets) (take (so.target-index + 1) targets) _ so.invariant.seen more
          c.in_ok-see.ensures.before c.if-not-branch.false so.invariant.added c.in_ok-add_source.ensures;
    }
