-- For each place the end of the innermost sequence interval that has it: what is defined there is visible behind it, up to that end.
use Rattle.std.specs.Prelude.{◌≡◌, ℕ, ◌+◌, ◌-◌, ◌<◌, ◌&&◌, nat_lt, min, ◌^◌, List, [], ◌∷◌, ◌++◌, map, length, replicate, slice_index, Option, None, Some}
use Rattle.spirv_model.specs.declared.module.Inst.{Inst}
use Rattle.body_model.specs.Grammar.{Derives}
use Rattle.check_model.specs.Intervals.{intervals_of, is_visible}
use Rattle.spv_tree.specs.declared.tree.Block.{Block}
use Rattle.spv_tree.specs.declared.tree.Choice.{Choice}
use Rattle.spv_tree.specs.declared.tree.Node.{Node}
use Rattle.spv_tree.specs.declared.tree.Node.TheOpen as open_one
use Rattle.spv_tree.specs.declared.tree.Node.TheOpen.{Node-F, Choice-F, Pick-F, Round-F, Run-F}
use Rattle.spv_tree.specs.declared.tree.Node.TheFolds.{fold-Node, fold-Choice, fold-Pick, fold-Round, fold-Run}
use Rattle.spv_tree.specs.declared.tree.Pick.{Pick}
use Rattle.spv_tree.specs.declared.tree.Round.{Round}
use Rattle.spv_tree.specs.declared.tree.Run.{Run, out-Run}

-- one number for each instruction, below which lie the places where its result is visible behind it, whatever the derivation
pub record AreLimits (insts : List Inst) (limits : List ℕ) : Type 0 where
  pub for_each : length limits ≡ length insts
  pub are_exact : (derivation : Derives insts) (a b : ℕ) → b < length insts
      → is_visible (intervals_of derivation) a b ≡ (nat_lt a b && nat_lt b (slice_index limits a))

-- ---- along a tree

abbrev pub Limits : Type 0
Limits = List ℕ

-- what a node says of its places: the first one and the end of a block, and the limits of all, for the end of its sequence
pub record Mark : Type 0 where
  pub first : ℕ
  pub end : ℕ
  pub limits : ℕ → Limits

abbrev pub nested : Limits → Mark
nested limits = record { first = 0; end = 0; limits = λ _. limits }

abbrev pub of_block : Block → Mark
of_block block = record { first = block.first; end = min (block.first + block.count) (2 ^ 32 - 1); limits = λ end. replicate block.count end }

-- the end of the last one, behind others with an end
abbrev pub end_behind : ℕ → List Mark → ℕ
end_behind end [] = end
end_behind end (mark ∷ marks) = end_behind mark.end marks

abbrev pub front : List Mark → ℕ
front [] = 0
front (mark ∷ marks) = mark.first

-- the limits of all, in a sequence with this end
abbrev pub spread : ℕ → List Mark → Limits
spread end [] = []
spread end (mark ∷ marks) = mark.limits end ++ spread end marks

abbrev pub joined : List Limits → Limits
joined [] = []
joined (limits ∷ rest) = limits ++ joined rest

abbrev pub of_way : Option Limits → Limits
of_way None = []
of_way (Some limits) = limits

-- one level of a tree
abbrev pub of_node : Node-F Mark Limits Limits Limits Limits → Mark
of_node (open_one.Block block) = of_block block
of_node (open_one.Choice choice) = nested choice
of_node (open_one.Pick pick) = nested pick
of_node (open_one.Round round) = nested round

abbrev pub of_choice : Choice-F Mark Limits Limits Limits Limits → Limits
of_choice choice = of_way choice.yes ++ of_way choice.no

abbrev pub of_pick : Pick-F Mark Limits Limits Limits Limits → Limits
of_pick pick = joined pick.arms

abbrev pub of_round : Round-F Mark Limits Limits Limits Limits → Limits
of_round round = round.test ++ (round.inner ++ round.step)

abbrev pub of_run : Run-F Mark Limits Limits Limits Limits → Limits
of_run run = spread (end_behind 0 run.nodes) run.nodes

unfoldable pub node_mark : Node → Mark
node_mark = fold-Node Mark Limits Limits Limits Limits of_node of_choice of_pick of_round of_run

unfoldable pub choice_limits : Choice → Limits
choice_limits = fold-Choice Mark Limits Limits Limits Limits of_node of_choice of_pick of_round of_run

unfoldable pub pick_limits : Pick → Limits
pick_limits = fold-Pick Mark Limits Limits Limits Limits of_node of_choice of_pick of_round of_run

unfoldable pub round_limits : Round → Limits
round_limits = fold-Round Mark Limits Limits Limits Limits of_node of_choice of_pick of_round of_run

unfoldable pub run_limits : Run → Limits
run_limits = fold-Run Mark Limits Limits Limits Limits of_node of_choice of_pick of_round of_run

abbrev pub nodes_limits : ℕ → List Node → Limits
nodes_limits end nodes = spread end (map node_mark nodes)

-- the end of a sequence, and its first place
unfoldable pub run_end : Run → ℕ
run_end run = end_behind 0 (map node_mark (out-Run run).nodes)

unfoldable pub run_front : Run → ℕ
run_front run = front (map node_mark (out-Run run).nodes)

abbrev pub way_limits : Option Run → Limits
way_limits None = []
way_limits (Some run) = run_limits run

abbrev pub runs_limits : List Run → Limits
runs_limits runs = joined (map run_limits runs)
