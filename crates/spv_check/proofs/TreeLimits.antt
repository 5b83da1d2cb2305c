-- The limits along a tree are those of the derivation's intervals.
use Rattle.std.proofs.Common.{◌≡◌, ℕ, zero, suc, ◌+◌, ◌-◌, ◌<◌, ◌≤◌, ◌^◌, Bool, true, false, ◌&&◌, nat_lt, List, [], ◌∷◌, ◌++◌, length, map, min, Option, None, Some, refl, ap, subst, sym, ◌∙◌, arith, append-nil, append_assoc, get_or, take}
use Rattle.std.specs.Prelude.{replicate, slice_get, Result, OnOk}
use Rattle.std.proofs.Math.Bool.{and-true}
use Rattle.std.proofs.lemmas.Bool.{lt-ltb, ltb-true}
use Rattle.std.proofs.lemmas.Result.{on_ok_weaker}
use Rattle.std.proofs.lemmas.List.{take_more, take_all}
use Rattle.spirv_model.specs.declared.module.Inst.{Inst}
use Rattle.body_model.specs.declared.scope.End.{End}
use Rattle.body_model.specs.declared.block_end.BlockEnd.TheVariants.{Ends, GoesOn, Selects, Picks, Loops}
use Rattle.body_model.specs.Scope.{Scope}
use Rattle.body_model.specs.Switches.{cases_of, switch_words}
use Rattle.body_model.specs.Grammar.{Sequence, ends, goes_on, selects, picks, loops, Arm, straight, through, Arms, no_arm, arm_behind, Derives}
use Rattle.body_model.proofs.Ends.{Between}
use Rattle.body_model.proofs.Forward.{sound_at, forward, arm_forward}
use Rattle.check_model.specs.Intervals.{Interval, around, inside, of_arm, of_arms, intervals_of, is_visible}
use Rattle.check_model.proofs.NestedIntervals.{Bounds, keeps, no_places, own_places, placed, enclosed}
use Rattle.spv_tree.specs.declared.tree.Block.{Block}
use Rattle.spv_tree.specs.declared.tree.Body.{Body}
use Rattle.spv_tree.specs.declared.tree.Choice.{Choice, out-Choice}
use Rattle.spv_tree.specs.declared.tree.Pick.{Pick, out-Pick}
use Rattle.spv_tree.specs.declared.tree.PickCase.{PickCase}
use Rattle.spv_tree.specs.declared.tree.Node.{Node}
use Rattle.spv_tree.specs.declared.tree.Node.TheVariants as node
use Rattle.spv_tree.specs.declared.tree.Node.TheOpen as open_one
use Rattle.spv_tree.specs.declared.tree.Node.TheFolds.{map-Choice, fold-roll-Node, fold-roll-Choice, fold-roll-Pick, fold-roll-Round, fold-roll-Run, fold_out-Choice, fold_out-Pick, fold_out-Round, fold_out-Run}
use Rattle.spv_tree.specs.declared.tree.Round.{Round, out-Round}
use Rattle.spv_tree.specs.declared.tree.Run.{Run, out-Run}
use Rattle.spv_tree.specs.Trees.{IsTreeOf, block_at, choice, pick, numbered, arm_number, labels_in, round, run, nodes_of, end_of, run_of, arm_of, runs_of, pick_of}
use Rattle.spv_check.specs.SequenceLimits.{AreLimits, Limits, Mark, nested, of_block, end_behind, front, of_node, of_choice, of_pick, of_round, of_run, node_mark, choice_limits, pick_limits, round_limits, run_limits, nodes_limits, run_end, run_front, way_limits, runs_limits}

-- ---- one level of a tree

choice_layer : (cond merge : ℕ) (taken left : Option Run)
    → of_choice (map-Choice Node Choice Pick Round Run Mark Limits Limits Limits Limits node_mark choice_limits pick_limits round_limits run_limits
    (record { cond = cond; merge = merge; yes = taken; no = left }))
    ≡ way_limits taken ++ way_limits left
choice_layer cond merge None None = refl
choice_layer cond merge None (Some below) = refl
choice_layer cond merge (Some below) None = refl
choice_layer cond merge (Some below) (Some other) = refl

pub block_mark : (block : Block) → node_mark (node.Block block) ≡ of_block block
unfolding node_mark
block_mark block = ap node_mark (sym (node.rolls-Block block)) ∙ fold-roll-Node Mark Limits Limits Limits Limits of_node of_choice of_pick of_round of_run (open_one.Block block)

pub choice_mark : (below : Choice) → node_mark (node.Choice below) ≡ nested (choice_limits below)
unfolding node_mark choice_limits
choice_mark below = ap node_mark (sym (node.rolls-Choice below)) ∙ fold-roll-Node Mark Limits Limits Limits Limits of_node of_choice of_pick of_round of_run (open_one.Choice below)

pub pick_mark : (below : Pick) → node_mark (node.Pick below) ≡ nested (pick_limits below)
unfolding node_mark pick_limits
pick_mark below = ap node_mark (sym (node.rolls-Pick below)) ∙ fold-roll-Node Mark Limits Limits Limits Limits of_node of_choice of_pick of_round of_run (open_one.Pick below)

pub round_mark : (below : Round) → node_mark (node.Round below) ≡ nested (round_limits below)
unfolding node_mark round_limits
round_mark below = ap node_mark (sym (node.rolls-Round below)) ∙ fold-roll-Node Mark Limits Limits Limits Limits of_node of_choice of_pick of_round of_run (open_one.Round below)

pub choice_out : (whole : Choice) → choice_limits whole ≡ way_limits (out-Choice whole).yes ++ way_limits (out-Choice whole).no
unfolding node_mark choice_limits pick_limits round_limits run_limits
choice_out whole = fold_out-Choice Mark Limits Limits Limits Limits of_node of_choice of_pick of_round of_run whole
    ∙ choice_layer (out-Choice whole).cond (out-Choice whole).merge (out-Choice whole).yes (out-Choice whole).no

pub pick_out : (whole : Pick) → pick_limits whole ≡ runs_limits (out-Pick whole).arms
unfolding pick_limits run_limits
pick_out whole = fold_out-Pick Mark Limits Limits Limits Limits of_node of_choice of_pick of_round of_run whole

pub round_out : (whole : Round) → round_limits whole ≡ run_limits (out-Round whole).test ++ (run_limits (out-Round whole).inner ++ run_limits (out-Round whole).step)
unfolding round_limits run_limits
round_out whole = fold_out-Round Mark Limits Limits Limits Limits of_node of_choice of_pick of_round of_run whole

pub run_out : (whole : Run) → run_limits whole ≡ nodes_limits (run_end whole) (out-Run whole).nodes
unfolding node_mark run_limits run_end
run_out whole = fold_out-Run Mark Limits Limits Limits Limits of_node of_choice of_pick of_round of_run whole

rolled : (nodes : List Node) (end : End) → run_limits (run nodes end) ≡ nodes_limits (end_behind 0 (map node_mark nodes)) nodes
unfolding node_mark run_limits
rolled nodes end = fold-roll-Run Mark Limits Limits Limits Limits of_node of_choice of_pick of_round of_run (record { nodes = nodes; end = end })

chosen : (cond merge : ℕ) (taken left : Option Run) → node_mark (choice cond merge taken left) ≡ nested (way_limits taken ++ way_limits left)
unfolding node_mark choice_limits pick_limits round_limits run_limits
chosen cond merge taken left =
    choice_mark _
    ∙ ap nested (fold-roll-Choice Mark Limits Limits Limits Limits of_node of_choice of_pick of_round of_run (record { cond = cond; merge = merge; yes = taken; no = left }) ∙ choice_layer cond merge taken left)

picked : (selector merge : ℕ) (cases : List PickCase) (default : Option ℕ) (arms : List Run) → node_mark (pick selector merge cases default arms) ≡ nested (runs_limits arms)
unfolding pick_limits run_limits
picked selector merge cases default arms =
    pick_mark _
    ∙ ap nested (fold-roll-Pick Mark Limits Limits Limits Limits of_node of_choice of_pick of_round of_run (record { selector = selector; merge = merge; cases = cases; default = default; arms = arms }))

looped : (header merge next : ℕ) (test inner step : Run) → node_mark (round header merge next test inner step) ≡ nested (run_limits test ++ (run_limits inner ++ run_limits step))
unfolding round_limits run_limits
looped header merge next test inner step =
    round_mark _
    ∙ ap nested (fold-roll-Round Mark Limits Limits Limits Limits of_node of_choice of_pick of_round of_run (record { header = header; merge = merge; next = next; test = test; inner = inner; step = step }))

-- ---- places of a derivation

lower : {from past to : ℕ} → Between from past to → from ≤ to
lower between = omega (arith, between.forward)

-- the end of a block is the place behind it
block_end_is : (insts : List Inst) (from after : ℕ) → from ≤ after → after < 2 ^ 32 → (node_mark (node.Block (block_at insts from after))).end ≡ after
block_end_is insts from after forward few = ap (λ (m : Mark). m.end) (block_mark (block_at insts from after)) ∙ least (from + (after - from)) after (omega arith) few
  where
    least : (n to : ℕ) → n ≡ to → to < 2 ^ 32 → min n (2 ^ 32 - 1) ≡ to
    least n to same less = omega (arith, same, less)

ends_at : (marks : List Mark) (mark : Mark) (end to : ℕ) → mark.end ≡ end → end_behind end marks ≡ to → end_behind mark.end marks ≡ to
ends_at marks mark end to same is = ap (λ (e : ℕ). end_behind e marks) same ∙ is

-- the end of a sequence's nodes, whatever stands before them, is the place behind it
end_is : (insts : List Inst) → length insts < 2 ^ 32 → {scope : Scope} {wanted next : Option ℕ} {from to : ℕ} (d : Sequence insts scope wanted from to next) (before : ℕ) → end_behind before (map node_mark (nodes_of d)) ≡ to
end_is insts few {from = from} (ends last here is label_is place_is) before =
    let between = (sound_at insts _ from (Ends last) is).0 in
    block_end_is insts from last.after (lower between) (omega (arith, few, between.within)) ∙ place_is
end_is insts few (goes_on after here is rest) before = end_is insts few rest (node_mark (node.Block (block_at insts _ after))).end
end_is insts few (selects head second join here is on_true on_false rest) before = end_is insts few rest (node_mark (choice head.cond head.merge (arm_of on_true) (arm_of on_false))).end
end_is insts few (picks head join here is arms rest) before = end_is insts few rest (node_mark (pick_of insts head arms)).end
end_is insts few (loops head inner first second third here is tested body step rest) before =
    end_is insts few rest (node_mark (round head.header head.merge head.next (run_of tested) (run_of body) (run_of step))).end

front_is : (insts : List Inst) {scope : Scope} {wanted next : Option ℕ} {from to : ℕ} (d : Sequence insts scope wanted from to next) → front (map node_mark (nodes_of d)) ≡ from
front_is insts {from = from} (ends last here is label_is place_is) = ap (λ (m : Mark). m.first) (block_mark (block_at insts from last.after))
front_is insts {from = from} (goes_on after here is rest) = ap (λ (m : Mark). m.first) (block_mark (block_at insts from after))
front_is insts {from = from} (selects head second join here is on_true on_false rest) = ap (λ (m : Mark). m.first) (block_mark (block_at insts from head.after))
front_is insts {from = from} (picks head join here is arms rest) = ap (λ (m : Mark). m.first) (block_mark (block_at insts from head.after))
front_is insts {from = from} (loops head inner first second third here is tested body step rest) = ap (λ (m : Mark). m.first) (block_mark (block_at insts from head.after))

-- ---- limits of a derivation

with_block : (insts : List Inst) {is : List Interval} (from : ℕ) {after to : ℕ} (end : ℕ) (nodes : List Node) → from ≤ after → Bounds is after to end (nodes_limits end nodes)
    → Bounds is from to end (nodes_limits end (node.Block (block_at insts from after) ∷ nodes))
with_block insts {is = is} from {after = after} {to = to} end nodes forward rest =
    subst (λ (m : Mark). Bounds is from to end (m.limits end ++ nodes_limits end nodes)) (sym (block_mark (block_at insts from after))) (placed (own_places from after end forward) rest)

with_node : {is : List Interval} {from to : ℕ} (end : ℕ) (first : Node) (nodes : List Node) (limits : Limits) → node_mark first ≡ nested limits → Bounds is from to end (limits ++ nodes_limits end nodes)
    → Bounds is from to end (nodes_limits end (first ∷ nodes))
with_node {is = is} {from = from} {to = to} end first nodes limits marked all = subst (λ (m : Mark). Bounds is from to end (m.limits end ++ nodes_limits end nodes)) (sym marked) all

regrouped : {is : List Interval} {from to end : ℕ} (a b c : Limits) → Bounds is from to end (a ++ (b ++ c)) → Bounds is from to end ((a ++ b) ++ c)
regrouped {is = is} {from = from} {to = to} {end = end} a b c = subst (λ (ls : Limits). Bounds is from to end ls) (sym (append_assoc a b c))

regrouped_three : {is : List Interval} {from to end : ℕ} (a b c d : Limits) → Bounds is from to end (a ++ (b ++ (c ++ d))) → Bounds is from to end ((a ++ (b ++ c)) ++ d)
regrouped_three {is = is} {from = from} {to = to} {end = end} a b c d =
    subst (λ (ls : Limits). Bounds is from to end ls) (sym (append_assoc a (b ++ c) d ∙ ap (λ (l : Limits). a ++ l) (append_assoc b c d)))

runs_push : (runs : List Run) (last : Run) → runs_limits (runs ++ last ∷ []) ≡ runs_limits runs ++ run_limits last
runs_push [] last = append-nil (run_limits last)
runs_push (first ∷ runs) last = ap (λ (l : Limits). run_limits first ++ l) (runs_push runs last) ∙ sym (append_assoc (run_limits first) (runs_limits runs) (run_limits last))

-- a sequence of its own, within another one
as_run : (insts : List Inst) → length insts < 2 ^ 32 → {scope : Scope} {wanted next : Option ℕ} {from to : ℕ} (d : Sequence insts scope wanted from to next) (end : ℕ) → to ≤ end
    → Bounds (inside d) from to to (nodes_limits to (nodes_of d)) → Bounds (around from to (inside d)) from to end (run_limits (run_of d))
as_run insts few {from = from} {to = to} d end within own =
    subst (λ (ls : Limits). Bounds (around from to (inside d)) from to end ls)
    (sym (rolled (nodes_of d) (end_of d) ∙ ap (λ (n : ℕ). nodes_limits n (nodes_of d)) (end_is insts few d 0))) (enclosed end own within)

mutual
  sequence_bounds : (insts : List Inst) → length insts < 2 ^ 32 → {scope : Scope} {wanted next : Option ℕ} {from to : ℕ} (d : Sequence insts scope wanted from to next) (end : ℕ) → to ≤ end
      → Bounds (inside d) from to end (nodes_limits end (nodes_of d))
  sequence_bounds insts few {from = from} (ends last here is label_is place_is) end within =
      with_block insts from end [] (lower (sound_at insts _ from (Ends last) is).0) (no_places end place_is)
  sequence_bounds insts few {from = from} (goes_on after here is rest) end within =
      with_block insts from end (nodes_of rest) (lower (sound_at insts _ from (GoesOn after) is)) (sequence_bounds insts few rest end within)
  sequence_bounds insts few {from = from} (selects head second join here is on_true on_false rest) end within =
      let more = lower (forward insts rest) in
      let second_within : join ≤ end = omega (arith, more, within) in
      let first_within : second ≤ end = omega (arith, second_within, arm_forward insts on_false) in
      with_block insts from end (choice head.cond head.merge (arm_of on_true) (arm_of on_false) ∷ nodes_of rest) (lower (sound_at insts _ from (Selects head) is).0)
      (with_node end (choice head.cond head.merge (arm_of on_true) (arm_of on_false)) (nodes_of rest) (way_limits (arm_of on_true) ++ way_limits (arm_of on_false)) (chosen head.cond head.merge (arm_of on_true) (arm_of on_false))
      (regrouped (way_limits (arm_of on_true)) (way_limits (arm_of on_false)) (nodes_limits end (nodes_of rest))
      (placed (arm_bounds insts few on_true end first_within) (placed (arm_bounds insts few on_false end second_within) (sequence_bounds insts few rest end within)))))
  sequence_bounds insts few {from = from} (picks head join here is arms rest) end within =
      let more = lower (forward insts rest) in
      let arms_within : join ≤ end = omega (arith, more, within) in
      with_block insts from end (pick_of insts head arms ∷ nodes_of rest) (lower (sound_at insts _ from (Picks head) is).0)
      (with_node end (pick_of insts head arms) (nodes_of rest) (runs_limits (runs_of arms))
      (picked head.selector head.merge (numbered (cases_of (switch_words insts head)) (labels_in arms)) (arm_number (labels_in arms) head.default) (runs_of arms))
      (placed (arms_bounds insts few arms end arms_within) (sequence_bounds insts few rest end within)))
  sequence_bounds insts few {from = from} (loops head inner first second third here is tested body step rest) end within =
      let more = lower (forward insts rest) in
      let step_within : third ≤ end = omega (arith, more, within) in
      let three = lower (forward insts step) in
      let body_within : second ≤ end = omega (arith, step_within, three) in
      let two = lower (forward insts body) in
      let test_within : first ≤ end = omega (arith, body_within, two) in
      with_block insts from end (round head.header head.merge head.next (run_of tested) (run_of body) (run_of step) ∷ nodes_of rest) (lower (sound_at insts _ from (Loops head) is).0)
      (with_node end (round head.header head.merge head.next (run_of tested) (run_of body) (run_of step)) (nodes_of rest) (run_limits (run_of tested) ++ (run_limits (run_of body) ++ run_limits (run_of step)))
      (looped head.header head.merge head.next (run_of tested) (run_of body) (run_of step))
      (regrouped_three (run_limits (run_of tested)) (run_limits (run_of body)) (run_limits (run_of step)) (nodes_limits end (nodes_of rest))
      (placed (as_run insts few tested end test_within (sequence_bounds insts few tested first (omega arith)))
      (placed (as_run insts few body end body_within (sequence_bounds insts few body second (omega arith)))
      (placed (as_run insts few step end step_within (sequence_bounds insts few step third (omega arith))) (sequence_bounds insts few rest end within))))))

  arm_bounds : (insts : List Inst) → length insts < 2 ^ 32 → {scope : Scope} {merge target from to : ℕ} (a : Arm insts scope merge target from to) (end : ℕ) → to ≤ end
      → Bounds (of_arm a) from to end (way_limits (arm_of a))
  arm_bounds insts few (straight is same) end within = no_places end same
  arm_bounds insts few {to = to} (through isnt sequence) end within = as_run insts few sequence end within (sequence_bounds insts few sequence to (omega arith))

  arms_bounds : (insts : List Inst) → length insts < 2 ^ 32 → {scope : Scope} {merge : ℕ} {all due left : List ℕ} {from to : ℕ} (a : Arms insts scope merge all due from left to) (end : ℕ) → to ≤ end
      → Bounds (of_arms a) from to end (runs_limits (runs_of a))
  arms_bounds insts few (no_arm due same) end within = no_places end same
  arms_bounds insts few {from = from} {to = to} (arm_behind label between before arms among is sequence) end within =
      let more = lower (forward insts sequence) in
      let before_within : between ≤ end = omega (arith, more, within) in
      subst (λ (ls : Limits). Bounds (of_arms arms ++ around between to (inside sequence)) from to end ls) (sym (runs_push (runs_of arms) (run_of sequence)))
      (placed (arms_bounds insts few arms end before_within) (as_run insts few sequence end within (sequence_bounds insts few sequence to (omega arith))))

-- ---- the whole list

from_start : (to end : ℕ) → Bounds [] 0 to end (replicate to end)
from_start to end = subst (λ (n : ℕ). Bounds [] 0 to end (replicate n end)) {x = to - 0} {y = to} (omega arith) (own_places 0 to end (omega arith))

-- the function's own places, and those before them
function_bounds : (insts : List Inst) → length insts < 2 ^ 32 → (d : Derives insts) → Bounds (intervals_of d) 0 d.after (length insts) (replicate (d.before + 1) (length insts) ++ run_limits (run_of d.sequence))
function_bounds insts few d =
    let within : d.after ≤ length insts = omega (arith, d.last) in
    placed (from_start (d.before + 1) (length insts)) (as_run insts few d.sequence (length insts) within (sequence_bounds insts few d.sequence d.after (omega arith)))

visible_test : (p k e w : Bool) → e ≡ true → (p ≡ true → (k && e) ≡ w) → (p && k) ≡ (p && w)
visible_test false k e w is so = refl
visible_test true k true w is so = sym (and-true k) ∙ so refl
visible_test true k false w is so = absurd (cc)

visible_by : (intervals : List Interval) (past : ℕ) (limits : List ℕ) → Bounds intervals 0 past past limits → (a b : ℕ) → b < past → is_visible intervals a b ≡ (nat_lt a b && nat_lt b (get_or limits a 0))
unfolding is_visible
visible_by intervals past limits bounds a b within =
    visible_test (nat_lt a b) (keeps intervals a b) (nat_lt b past) (nat_lt b (get_or limits a 0)) (lt-ltb b past within)
    (λ less. let before : a < b = ltb-true a b less in bounds.inside a b (omega arith) (omega arith) before ∙ ap (λ (n : ℕ). nat_lt b (get_or limits n 0)) {x = a - 0} {y = a} (omega arith))

pub front_of_run : (insts : List Inst) {scope : Scope} {wanted next : Option ℕ} {from to : ℕ} (d : Sequence insts scope wanted from to next) (whole : Run) → whole ≡ run_of d → run_front whole ≡ from
unfolding run_front
front_of_run insts d whole is = ap (λ (r : Run). front (map node_mark (out-Run r).nodes)) is ∙ front_is insts d

module _ (insts : List Inst) (few : length insts < 2 ^ 32) (body : Body) (tree : IsTreeOf insts body) (one two three : Limits) (left : ℕ)
    (first_is : one ≡ replicate (run_front body.run) (length insts)) (second_is : two ≡ one ++ run_limits body.run)
    (left_is : left ≡ length insts - length two) (third_is : three ≡ two ++ replicate left (length insts)) where
  up_to : (d : Derives insts) → Bounds (intervals_of d) 0 d.after (length insts) two
  up_to d =
      let is = tree.run_is d in
      subst (λ (ls : Limits). Bounds (intervals_of d) 0 d.after (length insts) ls)
      (sym (second_is ∙ ap (λ (ls : Limits). ls ++ run_limits body.run) (first_is ∙ ap (λ (n : ℕ). replicate n (length insts)) (front_of_run insts d.sequence body.run is))
      ∙ ap (λ (r : Run). replicate (d.before + 1) (length insts) ++ run_limits r) is))
      (function_bounds insts few d)

  whole_bounds : (d : Derives insts) → Bounds (intervals_of d) 0 (length insts) (length insts) three
  whole_bounds d =
      let part = up_to d in
      let rest : left ≡ length insts - d.after = omega (arith, left_is, part.size) in
      subst (λ (is : List Interval). Bounds is 0 (length insts) (length insts) three) (append-nil (intervals_of d))
      (subst (λ (ls : Limits). Bounds (intervals_of d ++ []) 0 (length insts) (length insts) ls) (sym (third_is ∙ ap (λ (n : ℕ). two ++ replicate n (length insts)) rest))
      (placed part (own_places d.after (length insts) (length insts) (omega (arith, d.last)))))

  pub whole_limits : AreLimits insts three
  whole_limits = record {
    for_each = let size = (whole_bounds tree.derives).size in omega (arith, size);
    are_exact = λ d a b within. visible_by (intervals_of d) (length insts) three (whole_bounds d) a b within;
  }

-- ---- as the code writes it

pub marked_block : (whole : Node) (block : Block) → whole ≡ node.Block block → node_mark whole ≡ of_block block
marked_block whole block is = ap node_mark is ∙ block_mark block

pub marked_choice : (whole : Node) (below : Choice) → whole ≡ node.Choice below → node_mark whole ≡ nested (choice_limits below)
marked_choice whole below is = ap node_mark is ∙ choice_mark below

pub marked_pick : (whole : Node) (below : Pick) → whole ≡ node.Pick below → node_mark whole ≡ nested (pick_limits below)
marked_pick whole below is = ap node_mark is ∙ pick_mark below

pub marked_round : (whole : Node) (below : Round) → whole ≡ node.Round below → node_mark whole ≡ nested (round_limits below)
marked_round whole below is = ap node_mark is ∙ round_mark below

-- the end of the last node
pub last_node : (nodes : List Node) (before : ℕ) (last : Node) → slice_get nodes (length nodes - 1) ≡ Some last → (node_mark last).end ≡ end_behind before (map node_mark nodes)
last_node [] before last is = absurd (cc)
last_node (node ∷ []) before last is = let same : node ≡ last = cc in sym (ap (λ (n : Node). (node_mark n).end) same)
last_node (node ∷ other ∷ nodes) before last is =
    let place : length (node ∷ other ∷ nodes) - 1 ≡ suc (length (other ∷ nodes) - 1) = omega arith in
    last_node (other ∷ nodes) (node_mark node).end last (ap (slice_get (node ∷ other ∷ nodes)) (sym place) ∙ is)

pub last_of_run : (whole : Run) (nodes : List Node) (last : Node) → nodes ≡ (out-Run whole).nodes → slice_get nodes (length nodes - 1) ≡ Some last → (node_mark last).end ≡ run_end whole
unfolding run_end
last_of_run whole nodes last is found = last_node nodes 0 last found ∙ ap (λ (l : List Node). end_behind 0 (map node_mark l)) is

pub end_of_none : (whole : Run) (nodes : List Node) → nodes ≡ (out-Run whole).nodes → slice_get nodes (length nodes - 1) ≡ None → 0 ≡ run_end whole
unfolding run_end
end_of_none whole [] is found = ap (λ (l : List Node). end_behind 0 (map node_mark l)) is
end_of_none whole (node ∷ nodes) is found = absurd (none_there (node ∷ nodes) (length (node ∷ nodes) - 1) (omega arith) found)
  where
    none_there : (ns : List Node) (k : ℕ) → k < length ns → slice_get ns k ≡ None → ⊥
    none_there [] k less none = omega arith
    none_there (n ∷ ns) zero less none = cc
    none_there (n ∷ ns) (suc k) less none = none_there ns k (omega arith) none

pub front_of_first : (whole : Run) (nodes : List Node) (first : Node) → nodes ≡ (out-Run whole).nodes → slice_get nodes 0 ≡ Some first → (node_mark first).first ≡ run_front whole
unfolding run_front
front_of_first whole [] first is found = absurd (cc)
front_of_first whole (node ∷ nodes) first is found =
    let same : node ≡ first = cc in
    sym (ap (λ (n : Node). (node_mark n).first) same) ∙ ap (λ (l : List Node). front (map node_mark l)) is

pub front_of_none : (whole : Run) (nodes : List Node) → nodes ≡ (out-Run whole).nodes → slice_get nodes 0 ≡ None → 0 ≡ run_front whole
unfolding run_front
front_of_none whole [] is found = ap (λ (l : List Node). front (map node_mark l)) is
front_of_none whole (node ∷ nodes) is found = absurd (cc)

nodes_push : (end : ℕ) (nodes : List Node) (last : Node) → nodes_limits end (nodes ++ last ∷ []) ≡ nodes_limits end nodes ++ (node_mark last).limits end
nodes_push end [] last = append-nil ((node_mark last).limits end)
nodes_push end (first ∷ nodes) last =
    ap (λ (l : Limits). (node_mark first).limits end ++ l) (nodes_push end nodes last) ∙ sym (append_assoc ((node_mark first).limits end) (nodes_limits end nodes) ((node_mark last).limits end))

-- the list with the limits of one node more
pub node_added : (end : ℕ) (nodes : List Node) (index : ℕ) (last : Node) (old list added : Limits) → index < length nodes → last ≡ get_or nodes index last
    → list ≡ old ++ nodes_limits end (take index nodes) → added ≡ list ++ (node_mark last).limits end → added ≡ old ++ nodes_limits end (take (index + 1) nodes)
node_added end nodes index last old list added within is so more =
    let grown : take (index + 1) nodes ≡ take index nodes ++ last ∷ [] = take_more nodes index last within ∙ ap (λ (n : Node). take index nodes ++ n ∷ []) (sym is) in
    more ∙ ap (λ (l : Limits). l ++ (node_mark last).limits end) so ∙ append_assoc old (nodes_limits end (take index nodes)) ((node_mark last).limits end)
    ∙ ap (λ (l : Limits). old ++ l) (sym (nodes_push end (take index nodes) last) ∙ ap (nodes_limits end) (sym grown))

pub run_added : (end : ℕ) (nodes : List Node) (index : ℕ) (whole : Run) (old list : Limits) → length nodes ≤ index → nodes ≡ (out-Run whole).nodes → end ≡ run_end whole
    → list ≡ old ++ nodes_limits end (take index nodes) → list ≡ old ++ run_limits whole
run_added end nodes index whole old list past is end_known so =
    so ∙ ap (λ (l : Limits). old ++ l) (ap (nodes_limits end) (take_all index nodes past ∙ is) ∙ ap (λ (n : ℕ). nodes_limits n (out-Run whole).nodes) end_known ∙ sym (run_out whole))

-- with those of one arm more
pub arm_added : (runs : List Run) (index : ℕ) (last : Run) (old list added : Limits) → index < length runs → last ≡ get_or runs index last
    → list ≡ old ++ runs_limits (take index runs) → added ≡ list ++ run_limits last → added ≡ old ++ runs_limits (take (index + 1) runs)
arm_added runs index last old list added within is so more =
    let grown : take (index + 1) runs ≡ take index runs ++ last ∷ [] = take_more runs index last within ∙ ap (λ (n : Run). take index runs ++ n ∷ []) (sym is) in
    more ∙ ap (λ (l : Limits). l ++ run_limits last) so ∙ append_assoc old (runs_limits (take index runs)) (run_limits last)
    ∙ ap (λ (l : Limits). old ++ l) (sym (runs_push (take index runs) last) ∙ ap runs_limits (sym grown))

pub pick_added : (runs : List Run) (index : ℕ) (whole : Pick) (old list : Limits) → length runs ≤ index → runs ≡ (out-Pick whole).arms
    → list ≡ old ++ runs_limits (take index runs) → list ≡ old ++ pick_limits whole
pick_added runs index whole old list past is so = so ∙ ap (λ (l : Limits). old ++ l) (ap runs_limits (take_all index runs past ∙ is) ∙ sym (pick_out whole))

-- the list with two parts more
pub two_added : (old first both one two whole : Limits) → first ≡ old ++ one → both ≡ first ++ two → whole ≡ one ++ two → both ≡ old ++ whole
two_added old first both one two whole is more all = more ∙ ap (λ (l : Limits). l ++ two) is ∙ append_assoc old one two ∙ ap (λ (l : Limits). old ++ l) (sym all)

-- the list with a part more, where a call says so at Ok
pub part_added : {E : Type 0} (result : Result (Unit {0}) E) (old added part whole : Limits) → part ≡ whole → OnOk result (added ≡ old ++ part) → OnOk result (added ≡ old ++ whole)
part_added result old added part whole is = on_ok_weaker result (λ so. so ∙ ap (λ (l : Limits). old ++ l) is)
