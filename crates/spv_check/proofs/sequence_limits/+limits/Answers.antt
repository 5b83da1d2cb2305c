use Rattle.std.proofs.Common.{ap, sym, refl, ◌∙◌, ◌++◌}
use Rattle.std.specs.Prelude.{replicate}
use Rattle.spv_check.specs.SequenceLimits.{Mark, node_mark, choice_limits, pick_limits, round_limits, run_limits, way_limits}
use Rattle.spv_tree.specs.declared.tree.Choice.{out-Choice}
use Rattle.spv_tree.specs.declared.tree.Round.{out-Round}
use Rattle.spv_check.proofs.TreeLimits.{marked_block, marked_choice, marked_pick, marked_round, choice_out, round_out, node_added, run_added, arm_added, pick_added, two_added, part_added}
use Rattle.spv_check.proofs.sequence_limits.+limits.Goals as goal

pub add_node-returns-in-Block : goal.add_node-returns-in-Block
add_node-returns-in-Block t c =
    part_added c.add_places.result c.args.limits.now.items c.add_places.new.limits.items (replicate c.in-Block.block.count c.args.end) ((node_mark c.args.node.now).limits c.args.end)
    (ap (λ (m : Mark). m.limits c.args.end) (sym (marked_block c.args.node.now c.in-Block.block c.in-Block.is))) c.add_places.ensures

pub add_node-returns-in-Choice : goal.add_node-returns-in-Choice
add_node-returns-in-Choice t c =
    part_added c.add_choice.result c.args.limits.now.items c.add_choice.new.limits.items (choice_limits c.get.result.now) ((node_mark c.args.node.now).limits c.args.end)
    (ap choice_limits c.get.ensures ∙ ap (λ (m : Mark). m.limits c.args.end) (sym (marked_choice c.args.node.now c.in-Choice.choice c.in-Choice.is))) c.add_choice.ensures

pub add_node-returns-in-Pick : goal.add_node-returns-in-Pick
add_node-returns-in-Pick t c =
    part_added c.add_pick.result c.args.limits.now.items c.add_pick.new.limits.items (pick_limits c.get-in-Pick.result.now) ((node_mark c.args.node.now).limits c.args.end)
    (ap pick_limits c.get-in-Pick.ensures ∙ ap (λ (m : Mark). m.limits c.args.end) (sym (marked_pick c.args.node.now c.in-Pick.pick c.in-Pick.is))) c.add_pick.ensures

pub add_node-returns-in-Round : goal.add_node-returns-in-Round
add_node-returns-in-Round t c =
    part_added c.add_round.result c.args.limits.now.items c.add_round.new.limits.items (round_limits c.get-in-Round.result.now) ((node_mark c.args.node.now).limits c.args.end)
    (ap round_limits c.get-in-Round.ensures ∙ ap (λ (m : Mark). m.limits c.args.end) (sym (marked_round c.args.node.now c.in-Round.round c.in-Round.is))) c.add_round.ensures

pub add_choice-returns : goal.add_choice-returns
add_choice-returns t c =
    let whole = c.args.choice.now in
    two_added c.args.limits.now.items c.add_way.new.limits.items c.add_way-2.new.limits.items (way_limits (out-Choice whole).yes) (way_limits (out-Choice whole).no) (choice_limits whole)
    c.in_ok-add_way.ensures c.in_ok-add_way-2.ensures (choice_out whole)

pub add_round-returns : goal.add_round-returns
add_round-returns t c =
    let whole = c.args.round.now in
    let test = run_limits (out-Round whole).test in
    let inner = run_limits (out-Round whole).inner in
    let step = run_limits (out-Round whole).step in
    two_added c.args.limits.now.items c.add_run.new.limits.items c.add_run-3.new.limits.items test (inner ++ step) (round_limits whole) c.in_ok-add_run.ensures
    (two_added c.add_run.new.limits.items c.add_run-2.new.limits.items c.add_run-3.new.limits.items inner step (inner ++ step) c.in_ok-add_run-2.ensures c.in_ok-add_run-3.ensures refl)
    (round_out whole)

pub add_run-loop-node-preserved : goal.add_run-loop-node-preserved
add_run-loop-node-preserved t c =
    node_added c.end_of-end.result c.as_slice-node-items.result.now c.loop-node.node-index c.node-item.result c.args.limits.now.items c.loop-node.limits.items c.add_node.new.limits.items
    c.loop-node-test.true c.node-item.is c.loop-node.invariant c.in_ok-add_node.ensures

pub add_run-returns : goal.add_run-returns
add_run-returns t c =
    run_added c.end_of-end.result c.as_slice-node-items.result.now c.loop-node.node-index c.args.run.now c.args.limits.now.items c.loop-node.limits.items
    c.loop-node-test.false c.as_slice-node-items.ensures c.end_of-end.ensures c.loop-node.invariant

pub add_pick-loop-run-preserved : goal.add_pick-loop-run-preserved
add_pick-loop-run-preserved t c =
    arm_added c.as_slice-run-items.result.now c.loop-run.run-index c.run-item.result c.args.limits.now.items c.loop-run.limits.items c.add_run.new.limits.items
    c.loop-run-test.true c.run-item.is c.loop-run.invariant c.in_ok-add_run.ensures

pub add_pick-returns : goal.add_pick-returns
add_pick-returns t c =
    pick_added c.as_slice-run-items.result.now c.loop-run.run-index c.args.pick.now c.args.limits.now.items c.loop-run.limits.items
    c.loop-run-test.false c.as_slice-run-items.ensures c.loop-run.invariant
