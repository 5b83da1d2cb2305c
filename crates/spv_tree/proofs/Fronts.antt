-- The part of a sequence that was read so far.
use Rattle.std.proofs.Common.{◌≡◌, ℕ, List, [], ◌∷◌, ◌++◌, Option, None, Some, refl, ap, subst, sym, ◌∙◌, append_assoc}
use Rattle.spirv_model.specs.declared.module.Inst.{Inst}
use Rattle.body_model.specs.declared.scope.End.{End}
use Rattle.body_model.specs.declared.block_end.SequenceEnd.{SequenceEnd}
use Rattle.body_model.specs.declared.block_end.SelectionHead.{SelectionHead}
use Rattle.body_model.specs.declared.block_end.SwitchHead.{SwitchHead}
use Rattle.body_model.specs.declared.block_end.LoopHead.{LoopHead}
use Rattle.body_model.specs.declared.block_end.BlockEnd.TheVariants.{Ends, GoesOn, Selects, Picks, Loops}
use Rattle.body_model.specs.Scope.{Scope, behind_block, behind_selection, behind_loop}
use Rattle.body_model.specs.Blocks.{block_end}
use Rattle.body_model.specs.Due.{IsDue}
use Rattle.body_model.specs.Grammar.{Sequence, ends, goes_on, selects, picks, loops}
use Rattle.body_model.specs.Faults.{Reached}
use Rattle.body_model.specs.Faults as faults
use Rattle.spv_tree.specs.declared.tree.Run.{Run}
use Rattle.spv_tree.specs.declared.tree.Block.{Block}
use Rattle.spv_tree.specs.declared.tree.Node.{Node}
use Rattle.spv_tree.specs.declared.tree.Node.TheVariants as node
use Rattle.spv_tree.specs.Trees.{block_at, run, nodes_of, end_of, run_of}
use Rattle.spv_tree.specs.Parts.{IsChoice, IsPick, IsRound}

-- the sequence from a place on has these nodes in front of others
pub record Whole (insts : List Inst) (scope : Scope) (wanted : Option ℕ) (from to : ℕ) (next : Option ℕ) (nodes : List Node) (end : End) : Type 0 where
  pub whole : Sequence insts scope wanted from to next
  pub nodes_are : nodes_of whole ≡ nodes
  pub end_is : end_of whole ≡ end

-- what is left of a sequence, where these nodes were read
pub record Front (insts : List Inst) (scope : Scope) (wanted : Option ℕ) (from : ℕ) (nodes : List Node) (rest_scope : Scope) (rest_wanted : Option ℕ) (place : ℕ) : Type 0 where
  pub derives : (to : ℕ) (next : Option ℕ) (rest : Sequence insts rest_scope rest_wanted place to next) → Whole insts scope wanted from to next (nodes ++ nodes_of rest) (end_of rest)
  pub reached : Reached insts scope wanted from → Reached insts rest_scope rest_wanted place
  pub depth : rest_scope.depth ≡ scope.depth

pub at_start : (insts : List Inst) (scope : Scope) (wanted : Option ℕ) (from : ℕ) → Front insts scope wanted from [] scope wanted from
at_start insts scope wanted from = record { derives = λ to next rest. record { whole = rest; nodes_are = refl; end_is = refl }; reached = λ reached. reached; depth = refl }

-- one front behind the other
pub both : (insts : List Inst) (scope : Scope) (wanted : Option ℕ) (from : ℕ) (nodes : List Node) (now : Scope) (label : Option ℕ) (place : ℕ) (more : List Node) (later : Scope) (later_label : Option ℕ) (later_place : ℕ)
    → Front insts scope wanted from nodes now label place → Front insts now label place more later later_label later_place → Front insts scope wanted from (nodes ++ more) later later_label later_place
both insts scope wanted from nodes now label place more later later_label later_place front step = record {
  derives = λ to next rest.
      let s = step.derives to next rest in
      let f = front.derives to next s.whole in
      record { whole = f.whole; nodes_are = f.nodes_are ∙ ap (λ (ns : List Node). nodes ++ ns) s.nodes_are ∙ sym (append_assoc nodes more (nodes_of rest)); end_is = f.end_is ∙ s.end_is };
  reached = λ reached. step.reached (front.reached reached);
  depth = step.depth ∙ front.depth;
}

-- ---- one block, and what it opens

pub after_block : (insts : List Inst) (now : Scope) (label : Option ℕ) (place after : ℕ) → IsDue insts label place → block_end insts now place ≡ GoesOn after
    → Front insts now label place (node.Block (block_at insts place after) ∷ []) (behind_block now) None after
after_block insts now label place after here is = record {
  derives = λ to next rest. record { whole = goes_on after here is rest; nodes_are = refl; end_is = refl };
  reached = λ reached. faults.behind_block reached here is;
  depth = refl;
}

pub after_choice : (insts : List Inst) (now : Scope) (label : Option ℕ) (place : ℕ) (head : SelectionHead) (to : ℕ) (built : Node) → IsDue insts label place → block_end insts now place ≡ Selects head
    → IsChoice insts now head to built → Front insts now label place (node.Block (block_at insts place head.after) ∷ built ∷ []) (behind_selection now) (Some head.merge) to
after_choice insts now label place head to built here is read = record {
  derives = λ past next rest. record {
    whole = selects head read.second to here is read.on_true read.on_false rest;
    nodes_are = ap (λ (n : Node). node.Block (block_at insts place head.after) ∷ n ∷ nodes_of rest) (sym read.node_is);
    end_is = refl;
  };
  reached = λ reached. faults.behind_selection head reached here is read.on_true read.on_false;
  depth = refl;
}

pub after_pick : (insts : List Inst) (now : Scope) (label : Option ℕ) (place : ℕ) (head : SwitchHead) (to : ℕ) (built : Node) → IsDue insts label place → block_end insts now place ≡ Picks head
    → IsPick insts now head to built → Front insts now label place (node.Block (block_at insts place head.after) ∷ built ∷ []) (behind_selection now) (Some head.merge) to
after_pick insts now label place head to built here is read = record {
  derives = λ past next rest. record {
    whole = picks head to here is read.arms rest;
    nodes_are = ap (λ (n : Node). node.Block (block_at insts place head.after) ∷ n ∷ nodes_of rest) (sym read.node_is);
    end_is = refl;
  };
  reached = λ reached. faults.behind_switch head reached here is read.arms;
  depth = refl;
}

pub after_round : (insts : List Inst) (now : Scope) (label : Option ℕ) (place : ℕ) (head : LoopHead) (to : ℕ) (built : Node) → IsDue insts label place → block_end insts now place ≡ Loops head
    → IsRound insts now head to built → Front insts now label place (node.Block (block_at insts place head.after) ∷ built ∷ []) (behind_loop now) (Some head.merge) to
after_round insts now label place head to built here is read = record {
  derives = λ past next rest. record {
    whole = loops head read.inner read.first read.second to here is read.tested read.inside read.step rest;
    nodes_are = ap (λ (n : Node). node.Block (block_at insts place head.after) ∷ n ∷ nodes_of rest) (sym read.node_is);
    end_is = refl;
  };
  reached = λ reached. faults.behind_loop head reached here is read.tested read.inside read.step;
  depth = refl;
}

-- the sequence ends with a block
pub at_end : (insts : List Inst) (scope : Scope) (wanted : Option ℕ) (from : ℕ) (nodes : List Node) (now : Scope) (label : Option ℕ) (place : ℕ) (last : SequenceEnd) (built : Run)
    → Front insts scope wanted from nodes now label place → IsDue insts label place → block_end insts now place ≡ Ends last
    → built ≡ run (nodes ++ node.Block (block_at insts place last.after) ∷ []) last.end
    → (d : Sequence insts scope wanted from last.after last.next) × (built ≡ run_of d)
at_end insts scope wanted from nodes now label place last built front here is made =
    let f = front.derives last.after last.next (ends last here is refl refl) in
    (f.whole, made ∙ ap (λ (ns : List Node). run ns last.end) (sym f.nodes_are) ∙ ap (run (nodes_of f.whole)) (sym f.end_is))

-- ---- as the code writes it

pub front_as : (insts : List Inst) (scope : Scope) (wanted : Option ℕ) (from : ℕ) (nodes same_nodes : List Node) (now same_now : Scope) (label : Option ℕ) (place : ℕ)
    → Front insts scope wanted from nodes now label place → same_nodes ≡ nodes → same_now ≡ now → Front insts scope wanted from same_nodes same_now label place
front_as insts scope wanted from nodes same_nodes now same_now label place front is_nodes is_now =
    subst (λ (ns : List Node). Front insts scope wanted from ns same_now label place) (sym is_nodes)
    (subst (λ (s : Scope). Front insts scope wanted from nodes s label place) (sym is_now) front)

pub pushed_block : (insts : List Inst) (nodes pushed : List Node) (place after : ℕ) (block : Block) → pushed ≡ nodes ++ node.Block block ∷ [] → block ≡ block_at insts place after
    → pushed ≡ nodes ++ node.Block (block_at insts place after) ∷ []
pushed_block insts nodes pushed place after block is made = is ∙ ap (λ (b : Block). nodes ++ node.Block b ∷ []) made

pub pushed_both : (insts : List Inst) (nodes one all : List Node) (built : Node) (place after : ℕ) (block : Block) → one ≡ nodes ++ node.Block block ∷ [] → block ≡ block_at insts place after
    → all ≡ one ++ built ∷ [] → all ≡ nodes ++ (node.Block (block_at insts place after) ∷ built ∷ [])
pushed_both insts nodes one all built place after block is made more =
    more ∙ ap (λ (ns : List Node). ns ++ built ∷ []) (pushed_block insts nodes one place after block is made) ∙ append_assoc nodes (node.Block (block_at insts place after) ∷ []) (built ∷ [])
