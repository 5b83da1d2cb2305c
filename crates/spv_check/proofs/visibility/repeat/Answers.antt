use Rattle.std.proofs.Common.{◌+◌, take, get_or, sym, ◌∙◌}
use Rattle.std.proofs.lemmas.List.{take_more}
use Rattle.spv_check.proofs.BlockLists.{seen_more, new_one, old_one}
use Rattle.spv_check.proofs.PhiUses.{repeats, none_repeats}
use Rattle.spv_check.proofs.visibility.repeat.Goals as goal

pub returns-then-not-branch : goal.returns-then-not-branch
returns-then-not-branch c =
    let labels = c.args.labels.now in
    let so = c.loop-label in
    sym (repeats labels (take so.label-index labels) so.label-index (get_or labels so.label-index 0) (take_more labels so.label-index 0 c.loop-label-test.true)
    (sym (so.invariant.seen (get_or labels so.label-index 0)) ∙ old_one _ _ c.in_ok-see.ensures.before c.if-not-branch.true))

pub loop-label-preserved : goal.loop-label-preserved
loop-label-preserved c =
    let labels = c.args.labels.now in
    let so = c.loop-label in
    let more = take_more labels so.label-index 0 c.loop-label-test.true in
    record {
      seen = seen_more so.seen c.see.new.seen (take so.label-index labels) (take (so.label-index + 1) labels) (get_or labels so.label-index 0) so.invariant.seen more c.in_ok-see.ensures.now;
      none = none_repeats (take so.label-index labels) (take (so.label-index + 1) labels) (get_or labels so.label-index 0) more so.invariant.none
          (sym (so.invariant.seen (get_or labels so.label-index 0)) ∙ new_one _ _ c.in_ok-see.ensures.before c.if-not-branch.false);
    }
