-- The instructions of the blocks of a tree, in their order.
use Rattle.std.specs.Prelude.{List, [], ◌∷◌, ◌++◌, map, take, drop, Option, None, Some}
use Rattle.spirv_model.specs.declared.module.Inst.{Inst}
use Rattle.spv_tree.specs.declared.tree.Block.{Block}
use Rattle.spv_tree.specs.declared.tree.Choice.{Choice}
use Rattle.spv_tree.specs.declared.tree.Node.{Node}
use Rattle.spv_tree.specs.declared.tree.Node.TheOpen as open_one
use Rattle.spv_tree.specs.declared.tree.Node.TheOpen.{Node-F, Choice-F, Pick-F, Round-F, Run-F}
use Rattle.spv_tree.specs.declared.tree.Node.TheFolds.{fold-Node, fold-Choice, fold-Pick, fold-Round, fold-Run}
use Rattle.spv_tree.specs.declared.tree.Pick.{Pick}
use Rattle.spv_tree.specs.declared.tree.Round.{Round}
use Rattle.spv_tree.specs.declared.tree.Run.{Run}

abbrev pub Insts : Type 0
Insts = List Inst

-- the lists joined in their order
abbrev pub joined : List Insts → Insts
joined [] = []
joined (insts ∷ rest) = insts ++ joined rest

abbrev pub of_way : Option Insts → Insts
of_way None = []
of_way (Some insts) = insts

abbrev pub of_block : Insts → Block → Insts
of_block insts block = take block.count (drop block.first insts)

-- one level of a tree, with the instructions of what is below in its place
abbrev pub of_node : Insts → Node-F Insts Insts Insts Insts Insts → Insts
of_node insts (open_one.Block block) = of_block insts block
of_node insts (open_one.Choice choice) = choice
of_node insts (open_one.Pick pick) = pick
of_node insts (open_one.Round round) = round

abbrev pub of_choice : Choice-F Insts Insts Insts Insts Insts → Insts
of_choice choice = of_way choice.yes ++ of_way choice.no

abbrev pub of_pick : Pick-F Insts Insts Insts Insts Insts → Insts
of_pick pick = joined pick.arms

abbrev pub of_round : Round-F Insts Insts Insts Insts Insts → Insts
of_round round = (round.test ++ round.inner) ++ round.step

abbrev pub of_run : Run-F Insts Insts Insts Insts Insts → Insts
of_run run = joined run.nodes

unfoldable pub node_list : Insts → Node → Insts
node_list insts = fold-Node Insts Insts Insts Insts Insts (of_node insts) of_choice of_pick of_round of_run

unfoldable pub choice_list : Insts → Choice → Insts
choice_list insts = fold-Choice Insts Insts Insts Insts Insts (of_node insts) of_choice of_pick of_round of_run

unfoldable pub pick_list : Insts → Pick → Insts
pick_list insts = fold-Pick Insts Insts Insts Insts Insts (of_node insts) of_choice of_pick of_round of_run

unfoldable pub round_list : Insts → Round → Insts
round_list insts = fold-Round Insts Insts Insts Insts Insts (of_node insts) of_choice of_pick of_round of_run

unfoldable pub run_list : Insts → Run → Insts
run_list insts = fold-Run Insts Insts Insts Insts Insts (of_node insts) of_choice of_pick of_round of_run

abbrev pub nodes_list : Insts → List Node → Insts
nodes_list insts nodes = joined (map (node_list insts) nodes)

abbrev pub way_list : Insts → Option Run → Insts
way_list insts None = []
way_list insts (Some run) = run_list insts run

abbrev pub runs_list : Insts → List Run → Insts
runs_list insts runs = joined (map (run_list insts) runs)
