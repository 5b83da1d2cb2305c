use Rattle.std.proofs.Common.{ap, sym, refl, ◌∙◌, ◌++◌}
use Rattle.spv_tree.specs.Listed.{of_block, node_list, choice_list, pick_list, round_list, run_list, way_list}
use Rattle.spv_tree.specs.declared.tree.Choice.{out-Choice}
use Rattle.spv_tree.specs.declared.tree.Round.{out-Round}
use Rattle.spv_tree.proofs.Listings.{block_listed, choice_node, pick_node, round_node, choice_out, round_out, node_added, run_added, arm_added, pick_added, two_added, part_added}
use Rattle.spv_tree.proofs.flat.+flat.Goals as goal

pub add_node-returns-in-Block : goal.add_node-returns-in-Block
add_node-returns-in-Block t c =
    let insts = c.args.insts.now in
    part_added c.add_block.result c.args.list.now.items c.add_block.new.list.items (of_block insts c.in-Block.block) (node_list insts c.args.node.now)
    (sym (ap (node_list insts) c.in-Block.is ∙ block_listed insts c.in-Block.block)) c.add_block.ensures

pub add_node-returns-in-Choice : goal.add_node-returns-in-Choice
add_node-returns-in-Choice t c =
    let insts = c.args.insts.now in
    part_added c.add_choice.result c.args.list.now.items c.add_choice.new.list.items (choice_list insts c.get.result.now) (node_list insts c.args.node.now)
    (ap (choice_list insts) c.get.ensures ∙ sym (ap (node_list insts) c.in-Choice.is ∙ choice_node insts c.in-Choice.choice)) c.add_choice.ensures

pub add_node-returns-in-Pick : goal.add_node-returns-in-Pick
add_node-returns-in-Pick t c =
    let insts = c.args.insts.now in
    part_added c.add_pick.result c.args.list.now.items c.add_pick.new.list.items (pick_list insts c.get-in-Pick.result.now) (node_list insts c.args.node.now)
    (ap (pick_list insts) c.get-in-Pick.ensures ∙ sym (ap (node_list insts) c.in-Pick.is ∙ pick_node insts c.in-Pick.pick)) c.add_pick.ensures

pub add_node-returns-in-Round : goal.add_node-returns-in-Round
add_node-returns-in-Round t c =
    let insts = c.args.insts.now in
    part_added c.add_round.result c.args.list.now.items c.add_round.new.list.items (round_list insts c.get-in-Round.result.now) (node_list insts c.args.node.now)
    (ap (round_list insts) c.get-in-Round.ensures ∙ sym (ap (node_list insts) c.in-Round.is ∙ round_node insts c.in-Round.round)) c.add_round.ensures

pub add_choice-returns : goal.add_choice-returns
add_choice-returns t c =
    let insts = c.args.insts.now in
    let whole = c.args.choice.now in
    two_added c.args.list.now.items c.add_way.new.list.items c.add_way-2.new.list.items (way_list insts (out-Choice whole).yes) (way_list insts (out-Choice whole).no) (choice_list insts whole)
    c.in_ok-add_way.ensures c.in_ok-add_way-2.ensures (choice_out insts whole)

pub add_round-returns : goal.add_round-returns
add_round-returns t c =
    let insts = c.args.insts.now in
    let whole = c.args.round.now in
    let test = run_list insts (out-Round whole).test in
    let inner = run_list insts (out-Round whole).inner in
    let step = run_list insts (out-Round whole).step in
    two_added c.args.list.now.items c.add_run-2.new.list.items c.add_run-3.new.list.items (test ++ inner) step (round_list insts whole)
    (two_added c.args.list.now.items c.add_run.new.list.items c.add_run-2.new.list.items test inner (test ++ inner) c.in_ok-add_run.ensures c.in_ok-add_run-2.ensures refl)
    c.in_ok-add_run-3.ensures (round_out insts whole)

pub add_run-loop-node-preserved : goal.add_run-loop-node-preserved
add_run-loop-node-preserved t c =
    node_added c.args.insts.now c.as_slice-node-items.result.now c.loop-node.node-index c.node-item.result c.args.list.now.items c.loop-node.list.items c.add_node.new.list.items
    c.loop-node-test.true c.node-item.is c.loop-node.invariant c.in_ok-add_node.ensures

pub add_run-returns : goal.add_run-returns
add_run-returns t c =
    run_added c.args.insts.now c.as_slice-node-items.result.now c.loop-node.node-index c.args.run.now c.args.list.now.items c.loop-node.list.items
    c.loop-node-test.false c.as_slice-node-items.ensures c.loop-node.invariant

pub add_pick-loop-run-preserved : goal.add_pick-loop-run-preserved
add_pick-loop-run-preserved t c =
    arm_added c.args.insts.now c.as_slice-run-items.result.now c.loop-run.run-index c.run-item.result c.args.list.now.items c.loop-run.list.items c.add_run.new.list.items
    c.loop-run-test.true c.run-item.is c.loop-run.invariant c.in_ok-add_run.ensures

pub add_pick-returns : goal.add_pick-returns
add_pick-returns t c =
    pick_added c.args.insts.now c.as_slice-run-items.result.now c.loop-run.run-index c.args.pick.now c.args.list.now.items c.loop-run.list.items
    c.loop-run-test.false c.as_slice-run-items.ensures c.loop-run.invariant
