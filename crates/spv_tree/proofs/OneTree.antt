-- All derivations of a list have one tree.
use Rattle.std.proofs.Common.{◌≡◌, ℕ, ◌+◌, List, [], ◌∷◌, ◌++◌, Option, None, Some, refl, ap, subst, sym, ◌∙◌, arith}
use Rattle.spirv_model.specs.declared.module.Inst.{Inst}
use Rattle.body_model.specs.declared.scope.End.{End}
use Rattle.body_model.specs.declared.block_end.BlockEnd.{BlockEnd}
use Rattle.body_model.specs.declared.block_end.BlockEnd.TheVariants as way
use Rattle.body_model.specs.declared.block_end.SwitchHead.{SwitchHead}
use Rattle.body_model.specs.Scope.{Scope, behind_block, behind_selection, behind_loop, switch_arm, condition, body, continuing}
use Rattle.body_model.specs.Switches.{without, cases_of, switch_words}
use Rattle.body_model.specs.Blocks.{block_end}
use Rattle.body_model.specs.Grammar.{Sequence, ends, goes_on, selects, picks, loops, Arm, straight, through, Arms, no_arm, arm_behind, ArmsUpTo, Derives}
use Rattle.body_model.proofs.OneArms.{count, same_label, arms_end, same_count}
use Rattle.body_model.proofs.OneFunction.{one_start}
use Rattle.spv_tree.specs.declared.tree.Node.{Node}
use Rattle.spv_tree.specs.declared.tree.Node.TheVariants as node
use Rattle.spv_tree.specs.declared.tree.Run.{Run}
use Rattle.spv_tree.specs.Trees.{block_at, choice, pick, numbered, arm_number, round, run, labels_in, nodes_of, end_of, run_of, arm_of, runs_of, pick_of}

-- a sequence's nodes and its end
record Tree : Type 0 where
  nodes : List Node
  end : End

abbrev tree_of : {insts : List Inst} {scope : Scope} {wanted next : Option ℕ} {from to : ℕ} → Sequence insts scope wanted from to next → Tree
tree_of d = record { nodes = nodes_of d; end = end_of d }

-- the tree with its first block, and what that opens
abbrev behind : List Inst → ℕ → ℕ → List Node → Tree → Tree
behind insts from after more rest = record { nodes = node.Block (block_at insts from after) ∷ (more ++ rest.nodes); end = rest.end }

abbrev run_in : Tree → Run
run_in tree = run tree.nodes tree.end

-- the parts of a sequence whose first block ends so, and its tree by theirs
abbrev Parts : List Inst → Scope → (from to : ℕ) → Option ℕ → Tree → BlockEnd → Type 0
Parts insts scope from to next tree (way.Broken fault) = ⊥
Parts insts scope from to next tree (way.Ends last) = (last.after ≡ to) × (tree ≡ behind insts from last.after [] (record { nodes = []; end = last.end }))
Parts insts scope from to next tree (way.GoesOn after) = (rest : Sequence insts (behind_block scope) None after to next) × (tree ≡ behind insts from after [] (tree_of rest))
Parts insts scope from to next tree (way.Selects head) =
    (second : ℕ) × (join : ℕ) × (on_true : Arm insts scope head.merge head.on_true head.after second) × (on_false : Arm insts scope head.merge head.on_false second join)
    × (rest : Sequence insts (behind_selection scope) (Some head.merge) join to next)
    × (tree ≡ behind insts from head.after (choice head.cond head.merge (arm_of on_true) (arm_of on_false) ∷ []) (tree_of rest))
Parts insts scope from to next tree (way.Picks head) =
    (join : ℕ) × (arms : ArmsUpTo insts scope head [] join) × (rest : Sequence insts (behind_selection scope) (Some head.merge) join to next)
    × (tree ≡ behind insts from head.after (pick_of insts head arms ∷ []) (tree_of rest))
Parts insts scope from to next tree (way.Loops head) =
    (inner : ℕ) × (first : ℕ) × (second : ℕ) × (third : ℕ) × (tested : Sequence insts (condition scope head.merge) (Some head.test) head.after first (Some inner))
    × (inside : Sequence insts (body scope head.merge head.next) (Some inner) first second None) × (step : Sequence insts (continuing scope head.header) (Some head.next) second third None)
    × (rest : Sequence insts (behind_loop scope) (Some head.merge) third to next)
    × (tree ≡ behind insts from head.after (round head.header head.merge head.next (run_of tested) (run_of inside) (run_of step) ∷ []) (tree_of rest))

parts : (insts : List Inst) {scope : Scope} {wanted next : Option ℕ} {from to : ℕ} (d : Sequence insts scope wanted from to next) → Parts insts scope from to next (tree_of d) (block_end insts scope from)
parts insts {scope = scope} {next = next} {from = from} {to = to} (ends last here is label_is place_is) =
    subst (Parts insts scope from to next (behind insts from last.after [] (record { nodes = []; end = last.end }))) (sym is) (place_is, refl)
parts insts {scope = scope} {next = next} {from = from} {to = to} (goes_on after here is rest) = subst (Parts insts scope from to next (behind insts from after [] (tree_of rest))) (sym is) (rest, refl)
parts insts {scope = scope} {next = next} {from = from} {to = to} (selects head second join here is on_true on_false rest) =
    subst (Parts insts scope from to next (behind insts from head.after (choice head.cond head.merge (arm_of on_true) (arm_of on_false) ∷ []) (tree_of rest))) (sym is) (second, join, on_true, on_false, rest, refl)
parts insts {scope = scope} {next = next} {from = from} {to = to} (picks head join here is arms rest) =
    subst (Parts insts scope from to next (behind insts from head.after (pick_of insts head arms ∷ []) (tree_of rest))) (sym is) (join, arms, rest, refl)
parts insts {scope = scope} {next = next} {from = from} {to = to} (loops head inner first second third here is tested inside step rest) =
    subst (Parts insts scope from to next (behind insts from head.after (round head.header head.merge head.next (run_of tested) (run_of inside) (run_of step) ∷ []) (tree_of rest))) (sym is)
    (inner, first, second, third, tested, inside, step, rest, refl)

-- the parts of another derivation from the same place
parts_at : (insts : List Inst) {scope : Scope} {wanted next : Option ℕ} {from from' to : ℕ} (end : BlockEnd) (d : Sequence insts scope wanted from' to next) → from ≡ from' → block_end insts scope from ≡ end
    → Parts insts scope from' to next (tree_of d) end
parts_at insts {scope = scope} {next = next} {from' = from'} {to = to} end d here is =
    subst (Parts insts scope from' to next (tree_of d)) (sym (ap (block_end insts scope) here) ∙ is) (parts insts d)

same_behind : (insts : List Inst) (from from' after : ℕ) (more more' : List Node) (rest rest' : Tree) → from ≡ from' → more ≡ more' → rest ≡ rest' → behind insts from after more rest ≡ behind insts from' after more' rest'
same_behind insts from from' after more more' rest rest' here is tree =
    ap (λ (n : ℕ). behind insts n after more rest) here ∙ ap (λ (l : List Node). behind insts from' after l rest) is ∙ ap (behind insts from' after more') tree

same_choice : (cond merge : ℕ) (a a' b b' : Option Run) → a ≡ a' → b ≡ b' → choice cond merge a b ∷ [] ≡ choice cond merge a' b' ∷ []
same_choice cond merge a a' b b' x y = ap (λ (o : Option Run). choice cond merge o b ∷ []) x ∙ ap (λ (o : Option Run). choice cond merge a' o ∷ []) y

same_round : (header merge next : ℕ) (a a' b b' c c' : Tree) → a ≡ a' → b ≡ b' → c ≡ c'
    → round header merge next (run_in a) (run_in b) (run_in c) ∷ [] ≡ round header merge next (run_in a') (run_in b') (run_in c') ∷ []
same_round header merge next a a' b b' c c' x y z =
    ap (λ (t : Tree). round header merge next (run_in t) (run_in b) (run_in c) ∷ []) x ∙ ap (λ (t : Tree). round header merge next (run_in a') (run_in t) (run_in c) ∷ []) y
    ∙ ap (λ (t : Tree). round header merge next (run_in a') (run_in b') (run_in t) ∷ []) z

same_pick : (insts : List Inst) (head : SwitchHead) (labels labels' : List ℕ) (runs runs' : List Run) → labels ≡ labels' → runs ≡ runs'
    → pick head.selector head.merge (numbered (cases_of (switch_words insts head)) labels) (arm_number labels head.default) runs ∷ []
    ≡ pick head.selector head.merge (numbered (cases_of (switch_words insts head)) labels') (arm_number labels' head.default) runs' ∷ []
same_pick insts head labels labels' runs runs' x y =
    ap (λ (l : List ℕ). pick head.selector head.merge (numbered (cases_of (switch_words insts head)) l) (arm_number l head.default) runs ∷ []) x
    ∙ ap (λ (r : List Run). pick head.selector head.merge (numbered (cases_of (switch_words insts head)) labels') (arm_number labels' head.default) r ∷ []) y

-- a sequence with this tree
record IsSequence (insts : List Inst) (scope : Scope) (wanted : Option ℕ) (from to : ℕ) (next : Option ℕ) (tree : Tree) : Type 0 where
  sequence : Sequence insts scope wanted from to next
  same : tree_of sequence ≡ tree

relabelled : (insts : List Inst) (scope : Scope) (merge : ℕ) (all : List ℕ) (label label' between to : ℕ) → label ≡ label' → (d : Sequence insts (switch_arm scope merge (without label' all)) (Some label') between to None)
    → IsSequence insts (switch_arm scope merge (without label all)) (Some label) between to None (tree_of d)
relabelled insts scope merge all label label' between to same d =
    subst (λ (l : ℕ). IsSequence insts (switch_arm scope merge (without l all)) (Some l) between to None (tree_of d)) (sym same) (record { sequence = d; same = refl })

mutual
  one : (insts : List Inst) {scope : Scope} {wanted wanted' next next' : Option ℕ} {from from' to to' : ℕ} (d : Sequence insts scope wanted from to next) (d' : Sequence insts scope wanted' from' to' next')
      → from ≡ from' → (to ≡ to') × (tree_of d ≡ tree_of d')
  one insts {from = from} {from' = from'} (ends last here is label_is place_is) d' same =
      let p = parts_at insts (way.Ends last) d' same is in
      (sym place_is ∙ p.0, same_behind insts from from' last.after [] [] _ _ same refl refl ∙ sym p.1)
  one insts {from = from} {from' = from'} (goes_on after here is rest) d' same =
      let p = parts_at insts (way.GoesOn after) d' same is in
      let more = one insts rest p.0 refl in
      (more.0, same_behind insts from from' after [] [] _ _ same refl more.1 ∙ sym p.1)
  one insts {from = from} {from' = from'} (selects head second join here is on_true on_false rest) d' same =
      let p = parts_at insts (way.Selects head) d' same is in
      let first = one_arm insts on_true p.2 refl in
      let other = one_arm insts on_false p.3 first.0 in
      let more = one insts rest p.4 other.0 in
      (more.0, same_behind insts from from' head.after _ _ _ _ same (same_choice head.cond head.merge _ _ _ _ first.1 other.1) more.1 ∙ sym p.5)
  one insts {from = from} {from' = from'} (picks head join here is arms rest) d' same =
      let p = parts_at insts (way.Picks head) d' same is in
      let numbers = same_count insts arms p.1 refl in
      let more = one insts rest p.2 (arms_end insts arms p.1 refl numbers).1 in
      let all = one_arms insts arms p.1 refl numbers in
      (more.0, same_behind insts from from' head.after _ _ _ _ same (same_pick insts head _ _ _ _ all.0 all.1) more.1 ∙ sym p.3)
  one insts {from = from} {from' = from'} (loops head inner first second third here is tested inside step rest) d' same =
      let p = parts_at insts (way.Loops head) d' same is in
      let a = one insts tested p.4 refl in
      let b = one insts inside p.5 a.0 in
      let c = one insts step p.6 b.0 in
      let more = one insts rest p.7 c.0 in
      (more.0, same_behind insts from from' head.after _ _ _ _ same (same_round head.header head.merge head.next _ _ _ _ _ _ a.1 b.1 c.1) more.1 ∙ sym p.8)

  one_arm : (insts : List Inst) {scope : Scope} {merge target from from' to to' : ℕ} (d : Arm insts scope merge target from to) (d' : Arm insts scope merge target from' to') → from ≡ from'
      → (to ≡ to') × (arm_of d ≡ arm_of d')
  one_arm insts (straight is none) (straight is' none') same = (sym none ∙ same ∙ none', refl)
  one_arm insts (straight is none) (through isnt' sequence') same = absurd (isnt' is)
  one_arm insts (through isnt sequence) (straight is' none') same = absurd (isnt is')
  one_arm insts (through isnt sequence) (through isnt' sequence') same = let all = one insts sequence sequence' same in (all.0, ap (λ (t : Tree). Some (run_in t)) all.1)

  one_arms : (insts : List Inst) {scope : Scope} {merge : ℕ} {all due left left' : List ℕ} {from from' to to' : ℕ} (d : Arms insts scope merge all due from left to) (d' : Arms insts scope merge all due from' left' to')
      → from ≡ from' → count d ≡ count d' → (labels_in d ≡ labels_in d') × (runs_of d ≡ runs_of d')
  one_arms insts (no_arm is none) (no_arm is' none') here same = (refl, refl)
  one_arms insts (no_arm is none) (arm_behind label' between' before' arms' among' is' sequence') here same = absurd (omega arith)
  one_arms insts (arm_behind label between before arms among is sequence) (no_arm is' none') here same = absurd (omega arith)
  one_arms insts {scope = scope} {merge = merge} {all = all} {to' = to'} (arm_behind label between before arms among is sequence) (arm_behind label' between' before' arms' among' is' sequence') here same =
      let reach = (arms_end insts arms arms' here (omega arith)).1 in
      let labels = same_label insts reach sequence sequence' in
      let other = relabelled insts scope merge all label label' between' to' labels sequence' in
      let first = one_arms insts arms arms' here (omega arith) in
      let last = (one insts sequence other.sequence reach).1 ∙ other.same in (
        ap (λ (l : List ℕ). l ++ label ∷ []) first.0 ∙ ap (λ (n : ℕ). labels_in arms' ++ n ∷ []) labels,
        ap (λ (r : List Run). r ++ run_of sequence ∷ []) first.1 ∙ ap (λ (t : Tree). runs_of arms' ++ run_in t ∷ []) last,
      )

-- the tree of a list's derivation is that of any other
pub one_tree : (insts : List Inst) (d d' : Derives insts) → run_of d.sequence ≡ run_of d'.sequence
one_tree insts d d' =
    let start = one_start insts d.before d'.before d.begins d'.begins in
    ap run_in (one insts d.sequence d'.sequence (ap (λ (n : ℕ). n + 1) start)).1
