use Rattle.spv_tree.proofs.CaseLists.{none_yet, literal_seen, literal_new}
use Rattle.spv_tree.proofs.cases.repeat.Goals as goal

pub loop-case-init : goal.loop-case-init
loop-case-init c = none_yet c.args.cases.now c.new-seen.result c.new-seen.ensures.empty

pub returns-then-not-branch : goal.returns-then-not-branch
returns-then-not-branch c =
    literal_seen c.args.cases.now c.loop-case.case-index c.loop-case.seen _ _ c.loop-case-test.true c.loop-case.invariant c.in_ok-see.ensures.before c.if-not-branch.true

pub loop-case-preserved : goal.loop-case-preserved
loop-case-preserved c =
    literal_new c.args.cases.now c.loop-case.case-index c.loop-case.seen c.see.new.seen _ _ c.loop-case-test.true c.loop-case.invariant c.in_ok-see.ensures.before c.if-not-branch.false c.in_ok-see.ensures.now
