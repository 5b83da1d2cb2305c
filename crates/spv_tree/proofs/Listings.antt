-- The instructions of a tree's blocks are those of the derivation, in their order.
use Rattle.std.proofs.Common.{◌≡◌, ℕ, zero, suc, ◌+◌, ◌-◌, ◌<◌, ◌≤◌, ◌==◌, Bool, if◌then◌else◌, List, [], ◌∷◌, ◌++◌, length, take, drop, Option, None, Some, refl, ap, subst, sym, ◌∙◌, arith, append-nil, append_assoc, get_or}
use Rattle.std.specs.Prelude.{All, IsTrue, slice_get, Result, OnOk}
use Rattle.std.proofs.lemmas.Bool.{eq-eqb}
use Rattle.std.proofs.lemmas.Result.{on_ok_weaker}
use Rattle.std.proofs.lemmas.List.Elements.{All-head, All-tail}
use Rattle.std.proofs.lemmas.Option.{slice_get_past}
use Rattle.std.proofs.lemmas.List.{length-drop, take_more, take_all}
use Rattle.spirv_model.specs.declared.module.Inst.{Inst}
use Rattle.spirv_model.specs.declared.op.TheConstants.{FUNCTION}
use Rattle.body_model.specs.declared.scope.End.{End}
use Rattle.body_model.specs.declared.block_end.BlockEnd.TheVariants.{GoesOn, Selects, Picks, Loops}
use Rattle.body_model.specs.Classes.{is_module_level}
use Rattle.body_model.specs.Scope.{Scope}
use Rattle.body_model.specs.Switches.{cases_of, switch_words}
use Rattle.body_model.specs.Code.{slice}
use Rattle.body_model.specs.Grammar.{IsOp, Sequence, ends, goes_on, selects, picks, loops, Arm, straight, through, Arms, no_arm, arm_behind}
use Rattle.body_model.proofs.Ends.{Between}
use Rattle.body_model.proofs.Forward.{sound_at, forward, arm_forward, arms_forward}
use Rattle.body_model.proofs.ModuleLevels.{no_function}
use Rattle.body_model.proofs.Slices as slices
use Rattle.spv_tree.specs.declared.tree.Block.{Block}
use Rattle.spv_tree.specs.declared.tree.Body.{Body}
use Rattle.spv_tree.specs.declared.tree.Choice.{Choice, out-Choice}
use Rattle.spv_tree.specs.declared.tree.Pick.{Pick, out-Pick}
use Rattle.spv_tree.specs.declared.tree.PickCase.{PickCase}
use Rattle.spv_tree.specs.declared.tree.Node.{Node}
use Rattle.spv_tree.specs.declared.tree.Node.TheVariants as node
use Rattle.spv_tree.specs.declared.tree.Node.TheOpen as open_one
use Rattle.spv_tree.specs.declared.tree.Node.TheFolds.{map-Choice, fold-roll-Node, fold-roll-Choice, fold-roll-Pick, fold-roll-Round, fold-roll-Run, fold_out-Choice, fold_out-Pick, fold_out-Round, fold_out-Run}
use Rattle.spv_tree.specs.declared.tree.Round.{Round, out-Round}
use Rattle.spv_tree.specs.declared.tree.Run.{Run, out-Run}
use Rattle.spv_tree.specs.Trees.{IsTreeOf, behind_function, without_last, function_blocks, block_at, choice, pick, numbered, arm_number, labels_in, round, run, nodes_of, end_of, run_of, arm_of, runs_of, pick_of}
use Rattle.spv_tree.specs.Listed.{Insts, of_block, of_node, of_choice, of_pick, of_round, of_run, node_list, choice_list, pick_list, round_list, run_list, nodes_list, runs_list, way_list}

-- ---- one level of a tree

choice_layer : (insts : Insts) (cond merge : ℕ) (taken left : Option Run)
    → of_choice (map-Choice Node Choice Pick Round Run Insts Insts Insts Insts Insts (node_list insts) (choice_list insts) (pick_list insts) (round_list insts) (run_list insts)
    (record { cond = cond; merge = merge; yes = taken; no = left }))
    ≡ way_list insts taken ++ way_list insts left
choice_layer insts cond merge None None = refl
choice_layer insts cond merge None (Some below) = refl
choice_layer insts cond merge (Some below) None = refl
choice_layer insts cond merge (Some below) (Some other) = refl

pub block_listed : (insts : Insts) (block : Block) → node_list insts (node.Block block) ≡ of_block insts block
unfolding node_list
block_listed insts block = ap (node_list insts) (sym (node.rolls-Block block)) ∙ fold-roll-Node Insts Insts Insts Insts Insts (of_node insts) of_choice of_pick of_round of_run (open_one.Block block)

pub choice_node : (insts : Insts) (below : Choice) → node_list insts (node.Choice below) ≡ choice_list insts below
unfolding node_list choice_list
choice_node insts below = ap (node_list insts) (sym (node.rolls-Choice below)) ∙ fold-roll-Node Insts Insts Insts Insts Insts (of_node insts) of_choice of_pick of_round of_run (open_one.Choice below)

pub pick_node : (insts : Insts) (below : Pick) → node_list insts (node.Pick below) ≡ pick_list insts below
unfolding node_list pick_list
pick_node insts below = ap (node_list insts) (sym (node.rolls-Pick below)) ∙ fold-roll-Node Insts Insts Insts Insts Insts (of_node insts) of_choice of_pick of_round of_run (open_one.Pick below)

pub round_node : (insts : Insts) (below : Round) → node_list insts (node.Round below) ≡ round_list insts below
unfolding node_list round_list
round_node insts below = ap (node_list insts) (sym (node.rolls-Round below)) ∙ fold-roll-Node Insts Insts Insts Insts Insts (of_node insts) of_choice of_pick of_round of_run (open_one.Round below)

pub choice_out : (insts : Insts) (whole : Choice) → choice_list insts whole ≡ way_list insts (out-Choice whole).yes ++ way_list insts (out-Choice whole).no
unfolding node_list choice_list pick_list round_list run_list
choice_out insts whole = fold_out-Choice Insts Insts Insts Insts Insts (of_node insts) of_choice of_pick of_round of_run whole
    ∙ choice_layer insts (out-Choice whole).cond (out-Choice whole).merge (out-Choice whole).yes (out-Choice whole).no

pub pick_out : (insts : Insts) (whole : Pick) → pick_list insts whole ≡ runs_list insts (out-Pick whole).arms
unfolding pick_list run_list
pick_out insts whole = fold_out-Pick Insts Insts Insts Insts Insts (of_node insts) of_choice of_pick of_round of_run whole

pub round_out : (insts : Insts) (whole : Round) → round_list insts whole ≡ (run_list insts (out-Round whole).test ++ run_list insts (out-Round whole).inner) ++ run_list insts (out-Round whole).step
unfolding round_list run_list
round_out insts whole = fold_out-Round Insts Insts Insts Insts Insts (of_node insts) of_choice of_pick of_round of_run whole

pub run_out : (insts : Insts) (whole : Run) → run_list insts whole ≡ nodes_list insts (out-Run whole).nodes
unfolding node_list run_list
run_out insts whole = fold_out-Run Insts Insts Insts Insts Insts (of_node insts) of_choice of_pick of_round of_run whole

rolled : (insts : Insts) (nodes : List Node) (end : End) → run_list insts (run nodes end) ≡ nodes_list insts nodes
unfolding node_list run_list
rolled insts nodes end = fold-roll-Run Insts Insts Insts Insts Insts (of_node insts) of_choice of_pick of_round of_run (record { nodes = nodes; end = end })

chosen : (insts : Insts) (cond merge : ℕ) (taken left : Option Run) → node_list insts (choice cond merge taken left) ≡ way_list insts taken ++ way_list insts left
unfolding node_list choice_list pick_list round_list run_list
chosen insts cond merge taken left =
    choice_node insts _
    ∙ fold-roll-Choice Insts Insts Insts Insts Insts (of_node insts) of_choice of_pick of_round of_run (record { cond = cond; merge = merge; yes = taken; no = left })
    ∙ choice_layer insts cond merge taken left

picked : (insts : Insts) (selector merge : ℕ) (cases : List PickCase) (default : Option ℕ) (arms : List Run) → node_list insts (pick selector merge cases default arms) ≡ runs_list insts arms
unfolding pick_list run_list
picked insts selector merge cases default arms =
    pick_node insts _
    ∙ fold-roll-Pick Insts Insts Insts Insts Insts (of_node insts) of_choice of_pick of_round of_run (record { selector = selector; merge = merge; cases = cases; default = default; arms = arms })

looped : (insts : Insts) (header merge next : ℕ) (test inner step : Run) → node_list insts (round header merge next test inner step) ≡ (run_list insts test ++ run_list insts inner) ++ run_list insts step
unfolding round_list run_list
looped insts header merge next test inner step =
    round_node insts _
    ∙ fold-roll-Round Insts Insts Insts Insts Insts (of_node insts) of_choice of_pick of_round of_run (record { header = header; merge = merge; next = next; test = test; inner = inner; step = step })

-- ---- lists that grow

nodes_push : (insts : Insts) (nodes : List Node) (last : Node) → nodes_list insts (nodes ++ last ∷ []) ≡ nodes_list insts nodes ++ node_list insts last
nodes_push insts [] last = append-nil (node_list insts last)
nodes_push insts (first ∷ nodes) last =
    ap (λ (l : Insts). node_list insts first ++ l) (nodes_push insts nodes last) ∙ sym (append_assoc (node_list insts first) (nodes_list insts nodes) (node_list insts last))

runs_push : (insts : Insts) (runs : List Run) (last : Run) → runs_list insts (runs ++ last ∷ []) ≡ runs_list insts runs ++ run_list insts last
runs_push insts [] last = append-nil (run_list insts last)
runs_push insts (first ∷ runs) last =
    ap (λ (l : Insts). run_list insts first ++ l) (runs_push insts runs last) ∙ sym (append_assoc (run_list insts first) (runs_list insts runs) (run_list insts last))

-- ---- derivations

lower : {from past to : ℕ} → Between from past to → from ≤ to
lower between = omega (arith, between.forward)

-- the block, and what stands behind it
with_block : (insts : Insts) (from after to : ℕ) (nodes : List Node) → from ≤ after → after ≤ to → nodes_list insts nodes ≡ slice insts after to → nodes_list insts (node.Block (block_at insts from after) ∷ nodes) ≡ slice insts from to
with_block insts from after to nodes one two is =
    ap (λ (l : Insts). l ++ nodes_list insts nodes) (block_listed insts (block_at insts from after)) ∙ slices.joined insts (slice insts from after) (nodes_list insts nodes) from after to one two refl is

mutual
  -- a sequence's blocks are the instructions from its first place up to the place after it
  pub sequence_listed : (insts : Insts) {scope : Scope} {wanted next : Option ℕ} {from to : ℕ} (d : Sequence insts scope wanted from to next) → nodes_list insts (nodes_of d) ≡ slice insts from to
  sequence_listed insts {from = from} (ends last here is label_is place_is) =
      ap (λ (l : Insts). l ++ []) (block_listed insts (block_at insts from last.after)) ∙ append-nil (slice insts from last.after) ∙ ap (slice insts from) place_is
  sequence_listed insts {from = from} {to = to} (goes_on after here is rest) =
      with_block insts from after to (nodes_of rest) (lower (sound_at insts _ from (GoesOn after) is)) (lower (forward insts rest)) (sequence_listed insts rest)
  sequence_listed insts {from = from} {to = to} (selects head second join here is on_true on_false rest) =
      let one = arm_forward insts on_true in
      let two = arm_forward insts on_false in
      let more = lower (forward insts rest) in
      let both = chosen insts head.cond head.merge (arm_of on_true) (arm_of on_false) ∙ slices.joined insts _ _ head.after second join one two (arm_listed insts on_true) (arm_listed insts on_false) in
      let whole : head.after ≤ join = omega (arith, one, two) in
      let all : head.after ≤ to = omega (arith, whole, more) in
      with_block insts from head.after to (choice head.cond head.merge (arm_of on_true) (arm_of on_false) ∷ nodes_of rest) (lower (sound_at insts _ from (Selects head) is).0) all (slices.joined insts _ _ head.after join to whole more both (sequence_listed insts rest))
  sequence_listed insts {from = from} {to = to} (picks head join here is arms rest) =
      let whole = arms_forward insts arms in
      let more = lower (forward insts rest) in
      let all : head.after ≤ to = omega (arith, whole, more) in
      with_block insts from head.after to (pick_of insts head arms ∷ nodes_of rest) (lower (sound_at insts _ from (Picks head) is).0) all
      (slices.joined insts _ _ head.after join to whole more (picked insts head.selector head.merge (numbered (cases_of (switch_words insts head)) (labels_in arms)) (arm_number (labels_in arms) head.default) (runs_of arms) ∙ arms_listed insts arms) (sequence_listed insts rest))
  sequence_listed insts {from = from} {to = to} (loops head inner first second third here is tested inside step rest) =
      let one = lower (forward insts tested) in
      let two = lower (forward insts inside) in
      let three = lower (forward insts step) in
      let more = lower (forward insts rest) in
      let front : head.after ≤ second = omega (arith, one, two) in
      let whole : head.after ≤ third = omega (arith, front, three) in
      let all : head.after ≤ to = omega (arith, whole, more) in
      let parts = looped insts head.header head.merge head.next (run_of tested) (run_of inside) (run_of step)
      ∙ slices.joined insts _ _ head.after second third front three
      (slices.joined insts _ _ head.after first second one two (rolled insts (nodes_of tested) (end_of tested) ∙ sequence_listed insts tested) (rolled insts (nodes_of inside) (end_of inside) ∙ sequence_listed insts inside))
      (rolled insts (nodes_of step) (end_of step) ∙ sequence_listed insts step) in
      with_block insts from head.after to (round head.header head.merge head.next (run_of tested) (run_of inside) (run_of step) ∷ nodes_of rest) (lower (sound_at insts _ from (Loops head) is).0) all (slices.joined insts _ _ head.after third to whole more parts (sequence_listed insts rest))

  pub arm_listed : (insts : Insts) {scope : Scope} {merge target from to : ℕ} (a : Arm insts scope merge target from to) → way_list insts (arm_of a) ≡ slice insts from to
  arm_listed insts {from = from} {to = to} (straight is same) = sym (slices.nothing insts from to same)
  arm_listed insts (through isnt sequence) = rolled insts (nodes_of sequence) (end_of sequence) ∙ sequence_listed insts sequence

  pub arms_listed : (insts : Insts) {scope : Scope} {merge : ℕ} {all due left : List ℕ} {from to : ℕ} (a : Arms insts scope merge all due from left to) → runs_list insts (runs_of a) ≡ slice insts from to
  arms_listed insts {from = from} {to = to} (no_arm is none) = sym (slices.nothing insts from to none)
  arms_listed insts {from = from} {to = to} (arm_behind label between before arms among is sequence) =
      runs_push insts (runs_of arms) (run_of sequence)
      ∙ slices.joined insts _ _ from between to (arms_forward insts arms) (lower (forward insts sequence)) (arms_listed insts arms) (rolled insts (nodes_of sequence) (end_of sequence) ∙ sequence_listed insts sequence)

-- ---- the whole function

behind : (rest : Insts) (before : ℕ) → All (λ inst. IsTrue (is_module_level inst.op)) (take before rest) → IsOp FUNCTION (slice_get rest before) → behind_function rest ≡ drop (suc before) rest
behind [] before level function = absurd (subst (IsOp FUNCTION) (slice_get_past [] before (omega arith)) function)
behind (inst ∷ rest) zero level function = ap (λ (b : Bool). if b then rest else behind_function rest) (eq-eqb inst.op FUNCTION function)
behind (inst ∷ rest) (suc before) level function =
    ap (λ (b : Bool). if b then rest else behind_function rest)
    (no_function inst.op (inst.op == FUNCTION) refl (All-head (λ (i : Inst). IsTrue (is_module_level i.op)) inst (take before rest) level))
    ∙ behind rest before (All-tail (λ (i : Inst). IsTrue (is_module_level i.op)) inst (take before rest) level) function

-- the blocks of a derivation's tree are the function's instructions
pub whole_listed : (insts : Insts) (body : Body) → IsTreeOf insts body → run_list insts body.run ≡ function_blocks insts
unfolding function_blocks
whole_listed insts body is =
    let d = is.derives in
    let start : suc d.before ≡ d.before + 1 = omega arith in
    let front : behind_function insts ≡ drop (d.before + 1) insts = behind insts d.before d.begins.module_level d.begins.function ∙ ap (λ (n : ℕ). drop n insts) start in
    let size : length (drop (d.before + 1) insts) - 1 ≡ d.after - (d.before + 1) = simp length-drop (omega (arith, d.last)) in
    ap (run_list insts) (is.run_is d) ∙ rolled insts (nodes_of d.sequence) (end_of d.sequence)
    ∙ sequence_listed insts d.sequence
    ∙ sym (ap without_last front ∙ ap (λ (n : ℕ). take n (drop (d.before + 1) insts)) size)

-- ---- as the code writes it

-- the list with the instructions of one node more
pub node_added : (insts : Insts) (nodes : List Node) (index : ℕ) (last : Node) (old list added : Insts) → index < length nodes → last ≡ get_or nodes index last
    → list ≡ old ++ nodes_list insts (take index nodes) → added ≡ list ++ node_list insts last → added ≡ old ++ nodes_list insts (take (index + 1) nodes)
node_added insts nodes index last old list added within is so more =
    let front : take (index + 1) nodes ≡ take index nodes ++ last ∷ [] = take_more nodes index last within ∙ ap (λ (n : Node). take index nodes ++ n ∷ []) (sym is) in
    more ∙ ap (λ (l : Insts). l ++ node_list insts last) so ∙ append_assoc old (nodes_list insts (take index nodes)) (node_list insts last)
    ∙ ap (λ (l : Insts). old ++ l) (sym (nodes_push insts (take index nodes) last) ∙ ap (nodes_list insts) (sym front))

pub run_added : (insts : Insts) (nodes : List Node) (index : ℕ) (whole : Run) (old list : Insts) → length nodes ≤ index → nodes ≡ (out-Run whole).nodes
    → list ≡ old ++ nodes_list insts (take index nodes) → list ≡ old ++ run_list insts whole
run_added insts nodes index whole old list past is so =
    so ∙ ap (λ (l : Insts). old ++ l) (ap (nodes_list insts) (take_all index nodes past ∙ is) ∙ sym (run_out insts whole))

-- with those of one arm more
pub arm_added : (insts : Insts) (runs : List Run) (index : ℕ) (last : Run) (old list added : Insts) → index < length runs → last ≡ get_or runs index last
    → list ≡ old ++ runs_list insts (take index runs) → added ≡ list ++ run_list insts last → added ≡ old ++ runs_list insts (take (index + 1) runs)
arm_added insts runs index last old list added within is so more =
    let front : take (index + 1) runs ≡ take index runs ++ last ∷ [] = take_more runs index last within ∙ ap (λ (n : Run). take index runs ++ n ∷ []) (sym is) in
    more ∙ ap (λ (l : Insts). l ++ run_list insts last) so ∙ append_assoc old (runs_list insts (take index runs)) (run_list insts last)
    ∙ ap (λ (l : Insts). old ++ l) (sym (runs_push insts (take index runs) last) ∙ ap (runs_list insts) (sym front))

pub pick_added : (insts : Insts) (runs : List Run) (index : ℕ) (whole : Pick) (old list : Insts) → length runs ≤ index → runs ≡ (out-Pick whole).arms
    → list ≡ old ++ runs_list insts (take index runs) → list ≡ old ++ pick_list insts whole
pick_added insts runs index whole old list past is so =
    so ∙ ap (λ (l : Insts). old ++ l) (ap (runs_list insts) (take_all index runs past ∙ is) ∙ sym (pick_out insts whole))

-- the list with two parts more
pub two_added : (old first both one two whole : Insts) → first ≡ old ++ one → both ≡ first ++ two → whole ≡ one ++ two → both ≡ old ++ whole
two_added old first both one two whole is more all = more ∙ ap (λ (l : Insts). l ++ two) is ∙ append_assoc old one two ∙ ap (λ (l : Insts). old ++ l) (sym all)

-- the list with a part more, where a call says so at Ok
pub part_added : {E : Type 0} (result : Result (Unit {0}) E) (old added part whole : Insts) → part ≡ whole → OnOk result (added ≡ old ++ part) → OnOk result (added ≡ old ++ whole)
part_added result old added part whole is = on_ok_weaker result (λ so. so ∙ ap (λ (l : Insts). old ++ l) is)
