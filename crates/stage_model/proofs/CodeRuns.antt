-- What code does is what the machine's steps lead to: by the derivation that the code is of.
use Rattle.std.proofs.Common.{◌≡◌, ◌≢◌, ℕ, zero, suc, ◌+◌, ◌-◌, ◌<◌, ◌≤◌, ◌==◌, ◌||◌, Bool, true, false, not, ◌&&◌, if◌then◌else◌, List, [], ◌∷◌, ◌++◌, length, drop, append_assoc, slice_index, refl, ap, sym, ◌∙◌, subst, arith, Option, None, Some}
use Rattle.std.specs.Prelude.{slice_get}
use Rattle.spirv_model.specs.declared.op.TheConstants.{LABEL}
use Rattle.std.proofs.lemmas.List.{length-append}
use Rattle.std.proofs.lemmas.Bool.Decides.{nat_tests}
use Rattle.limits.specs.declared.TheConstants.{BACK_EDGES}
use Rattle.spirv_model.specs.declared.module.Inst.{Inst}
use Rattle.body_model.specs.declared.block_end.SelectionHead.{SelectionHead}
use Rattle.body_model.specs.declared.block_end.SwitchHead.{SwitchHead}
use Rattle.body_model.specs.declared.block_end.LoopHead.{LoopHead}
use Rattle.body_model.specs.declared.block_end.BlockEnd.{BlockEnd}
use Rattle.body_model.specs.declared.block_end.BlockEnd.TheVariants as way
use Rattle.body_model.specs.Scope.{Scope}
use Rattle.body_model.specs.Scope as scopes
use Rattle.body_model.specs.Blocks.{begins_with, block_end}
use Rattle.body_model.specs.Due.{only, IsDue}
use Rattle.body_model.specs.Switches.{is_among, without, labels_of, switch_words, targets_of, arm_labels, words_at}
use Rattle.body_model.specs.Targets.{targets, MayLeaveTo}
use Rattle.body_model.specs.Grammar.{Sequence, ends, goes_on, selects, picks, loops, Arm, straight, through, Arms, no_arm, arm_behind}
use Rattle.body_model.specs.Code.{Code, CodeArm, CodeArms, slice, code_of, code_of_arm, code_of_arms}
use Rattle.body_model.proofs.Dues.{stands_at, at_stands}
use Rattle.body_model.proofs.Shapes.{after_of}
use Rattle.body_model.proofs.Forward.{forward, arm_forward, arms_forward}
use Rattle.stage_model.specs.Program.{Program}
use Rattle.stage_model.specs.Machine.{State, Flow, Next, To, Stopped}
use Rattle.stage_model.specs.Running.{Run, leaves, onward, onward_at, block, turned, turns, looped, eval, eval_arm, eval_arms}
use Rattle.stage_model.specs.Leads.{Flows, Leads}
use Rattle.stage_model.proofs.Comings.{leads_within}
use Rattle.stage_model.proofs.BlockRuns.{AfterLast, front_at, behind_front}
use Rattle.stage_model.proofs.WholeBlocks.{BlockAt, block_at, leads_block}
use Rattle.stage_model.proofs.Loops.{RunsTo, LoopParts, turns_lead}
use Rattle.stage_model.proofs.Jumps.{HasPlaces, goes_to, onward_leads, onward_at_leads, left_by, choose_run, turned_leads, same_label}
use Rattle.stage_model.proofs.Exits.{arm_exit, switch_exit, merge_exit, condition_exit, body_exit, continue_exit}

-- where a sequence begins, its block is due
pub due_of : {insts : List Inst} {scope : Scope} {wanted next : Option ℕ} {from to : ℕ} → Sequence insts scope wanted from to next → IsDue insts wanted from
due_of (ends last here is label_is place_is) = here
due_of (goes_on after here is rest) = here
due_of (selects head second join here is on_true on_false rest) = here
due_of (picks head join here is arms rest) = here
due_of (loops head inner first second third here is condition body step rest) = here

pub one_name : (label other : ℕ) (labels : List ℕ) → labels ≡ other ∷ [] → is_among label labels ≡ true → label ≡ other
one_name label other labels are among = by_test label other (other == label) refl (sym (ap (is_among label) are) ∙ among)
  where
    by_test : (label other : ℕ) (b : Bool) → b ≡ (other == label) → (b || false) ≡ true → label ≡ other
    by_test label other true is among = sym (same_label other label (sym is))
    by_test label other false is among = cc

pub other_name : (label a b : ℕ) (labels : List ℕ) → labels ≡ a ∷ b ∷ [] → is_among label labels ≡ true → label == a ≡ false → label ≡ b
other_name label a b labels are among isnt = by_test label a b (a == label) refl (sym (ap (is_among label) are) ∙ among) isnt
  where
    flipped : (a b : ℕ) → true ≡ (a == b) → b == a ≡ false → ⊥
    flipped a b is isnt = grind (arith, nat_tests)

    by_test : (label a b : ℕ) (t : Bool) → t ≡ (a == label) → (t || ((b == label) || false)) ≡ true → label == a ≡ false → label ≡ b
    by_test label a b true is among isnt = absurd (flipped a label is isnt)
    by_test label a b false is among isnt = one_name label b (b ∷ []) refl among

-- a label that is due somewhere, and one that stands where any may
pub due_as : (insts : List Inst) (label known place : ℕ) → label ≡ known → IsDue insts (Some known) place → IsDue insts (Some label) place
due_as insts label known place is due = subst (λ l. IsDue insts (Some l) place) (sym is) due

pub stands_as : (insts : List Inst) (wanted : Option ℕ) (label place : ℕ) (behind : List Inst) → drop place insts ≡ behind → begins_with label behind ≡ true → IsDue insts wanted place → IsDue insts (Some label) place
stands_as insts wanted label place behind is begins due =
    let s = stands_at insts (only wanted) place due in
    at_stands insts (only (Some label)) place
    (record {
      inst = s.inst;
      more = s.more;
      front = s.front;
      label = s.label;
      new = s.new;
      among = ap (λ (b : Bool). b || false) (flip label (slice_index s.inst.words 0) (second_true (s.inst.op == LABEL) _ (ap (begins_with label) (sym s.front ∙ is) ∙ begins)));
    })
  where
    second_true : (a b : Bool) → (a && b) ≡ true → b ≡ true
    second_true true b is = is
    second_true false b is = cc

    flip : (a b : ℕ) → b == a ≡ true → a == b ≡ true
    flip a b is = grind (arith, nat_tests)

-- where a sequence begins stands some label
pub own_label : (insts : List Inst) (scope : Scope) (wanted : Option ℕ) (place : ℕ) (end : BlockEnd) (b : BlockAt insts scope place end) → IsDue insts wanted place → IsDue insts (Some b.label) place
own_label insts scope wanted place end b due = stands_as insts wanted b.label place (drop place insts) refl b.begins due

pub at_behind : (insts : List Inst) (scope : Scope) (place : ℕ) (end : BlockEnd) (b : BlockAt insts scope place end) → drop (after_of end) insts ≡ b.behind
at_behind insts scope place end b =
    ap (λ (n : ℕ). drop n insts) (omega (arith, b.after, length-append b.front (b.last ∷ []))) ∙ behind_front insts (b.front ++ b.last ∷ []) b.behind place (b.here ∙ sym (append_assoc b.front (b.last ∷ []) b.behind))

-- the words of the OpSwitch of a block
switch_is : (insts : List Inst) (scope : Scope) (place : ℕ) (head : SwitchHead) (b : BlockAt insts scope place (way.Picks head)) → switch_words insts head ≡ b.last.words
unfolding switch_words
switch_is insts scope place head b =
    let at = front_at insts (place + length b.front) b.last b.behind (behind_front insts b.front (b.last ∷ b.behind) place b.here) in
    ap words_at (ap (slice_get insts) (omega (arith, b.after)) ∙ at.0)

kept_among : (label merge : ℕ) (labels : List ℕ) → is_among label labels ≡ true → label == merge ≡ false → is_among label (without merge labels) ≡ true
kept_among label merge [] among isnt = cc
kept_among label merge (first ∷ labels) among isnt = by_tests label merge first labels (first == merge) (first == label) refl refl among isnt (kept_among label merge labels)
  where
    clash : (label merge first : ℕ) → true ≡ (first == merge) → true ≡ (first == label) → label == merge ≡ false → ⊥
    clash label merge first a b isnt = grind (arith, nat_tests)

    by_tests : (label merge first : ℕ) (labels : List ℕ) (m l : Bool) → m ≡ (first == merge) → l ≡ (first == label) → (l || is_among label labels) ≡ true → label == merge ≡ false
        → (is_among label labels ≡ true → label == merge ≡ false → is_among label (without merge labels) ≡ true)
        → is_among label (if not m then first ∷ without merge labels else without merge labels) ≡ true
    by_tests label merge first labels true true is_m is_l among isnt rest = absurd (clash label merge first is_m is_l isnt)
    by_tests label merge first labels true false is_m is_l among isnt rest = rest among isnt
    by_tests label merge first labels false true is_m is_l among isnt rest = ap (λ (b : Bool). b || is_among label (without merge labels)) (sym is_l)
    by_tests label merge first labels false false is_m is_l among isnt rest = ap (λ (b : Bool). b || is_among label (without merge labels)) (sym is_l) ∙ rest among isnt

pub among_arms : (insts : List Inst) (scope : Scope) (place : ℕ) (head : SwitchHead) (b : BlockAt insts scope place (way.Picks head)) (label : ℕ) → is_among label (targets b.last) ≡ true → label == head.merge ≡ false
    → is_among label (labels_of insts head) ≡ true
unfolding labels_of
among_arms insts scope place head b label among isnt =
    kept_among label head.merge (targets_of (switch_words insts head))
    (ap (λ (words : List ℕ). is_among label (targets_of words)) (switch_is insts scope place head b) ∙ sym (ap (is_among label) b.ends) ∙ among) isnt

differ : (a b : ℕ) → a == b ≡ false → a ≡ b → ⊥
differ a b isnt is = grind (arith, nat_tests)

-- a loop's parts, by the runs of its sequences
parts_of_loop : (insts : List Inst) (program : Program) → program.insts ≡ insts → HasPlaces insts program → (scope : Scope) (wanted : Option ℕ) (from : ℕ) (head : LoopHead) (b : BlockAt insts scope from (way.Loops head)) (inner first second third : ℕ)
    → IsDue insts wanted from
    → (condition : Sequence insts (scopes.condition scope head.merge) (Some head.test) head.after first (Some inner))
    → (body : Sequence insts (scopes.body scope head.merge head.next) (Some inner) first second None)
    → (step : Sequence insts (scopes.continuing scope head.header) (Some head.next) second third None)
    → (runs_condition runs_body runs_step : Run) → RunsTo program (MayLeaveTo (scopes.condition scope head.merge) (Some inner)) head.after first runs_condition
    → RunsTo program (MayLeaveTo (scopes.body scope head.merge head.next) None) first second runs_body → RunsTo program (MayLeaveTo (scopes.continuing scope head.header) None) second third runs_step
    → LoopParts insts program head.merge (block program (slice insts from head.after)) runs_condition runs_body runs_step from third
parts_of_loop insts program same places scope wanted from head b inner first second third here condition body step runs_condition runs_body runs_step on_condition on_body on_step =
    let p = forward insts condition in let q = forward insts body in let r = forward insts step in
    record {
      label = head.header;
      test = head.test;
      inner = inner;
      continue = head.next;
      after = head.after;
      first = first;
      second = second;
      low = omega (arith, b.after);
      up = omega (arith, p.forward);
      further = omega (arith, q.forward);
      high = omega (arith, r.forward);
      place = places head.header from (due_as insts head.header b.label from b.ends.1 (own_label insts scope wanted from (way.Loops head) b here));
      on_header = λ state few. leads_within program (AfterLast b.last) (λ l. l ≡ head.test) from head.after head.after state _ (omega arith) (λ label among. one_name label head.test (targets b.last) b.ends.0 among)
          (leads_block insts program same scope from (way.Loops head) b state few);
      due_test = due_of condition;
      on_condition = λ state few. leads_within program _ (λ l. l == head.merge ≡ false → l ≡ inner) head.after first first state _ (omega arith) (condition_exit scope head.merge inner) (on_condition state few);
      due_inner = due_of body;
      on_body = λ state few. leads_within program _ (λ l. l == head.merge ≡ false → l ≡ head.next) first second second state _ (omega arith) (body_exit scope head.merge head.next) (on_body state few);
      due_continue = due_of step;
      on_step = λ state few. leads_within program _ (λ l. l ≡ head.header) second third third state _ (omega arith) (continue_exit scope head.header) (on_step state few);
    }

-- where an arm of an OpSwitch leads: to the merge block, or where the sequence around may be left
abbrev ExitOfSwitch : Scope → ℕ → ℕ → Type 0
ExitOfSwitch scope merge label = label == merge ≡ false → (next : Option ℕ) → MayLeaveTo scope next label

left_at_merge : (program : Program) (scope : Scope) (merge from to past label : ℕ) (state after : State) → to ≤ past → Flows program from to state label after → label ≡ merge
    → Leads program (ExitOfSwitch scope merge) from past state (leaves merge after)
left_at_merge program scope merge from to past label state after up f is =
    left_by program (ExitOfSwitch scope merge) from to past merge state after up (subst (λ l. Flows program from to state l after) is f) (λ isnt next. absurd (differ merge merge isnt refl))

true_false : true ≡ false → ⊥
true_false is = cc

pub not_before : (label own : ℕ) (before : List ℕ) → label == own ≡ false → is_among label (without own before) ≡ false → is_among label before ≡ false
not_before label own before isnt gone = by_case label own before (is_among label before) refl isnt gone
  where
    by_case : (label own : ℕ) (before : List ℕ) (b : Bool) → b ≡ is_among label before → label == own ≡ false → is_among label (without own before) ≡ false → b ≡ false
    by_case label own before true is isnt gone = absurd (true_false (sym (kept_among label own before (sym is) isnt) ∙ gone))
    by_case label own before false is isnt gone = refl

mutual
  pub sequence_runs : (insts : List Inst) (program : Program) → program.insts ≡ insts → HasPlaces insts program → {scope : Scope} {wanted next : Option ℕ} {from to : ℕ} → (d : Sequence insts scope wanted from to next)
      → RunsTo program (MayLeaveTo scope next) from to (eval program (code_of d))
  sequence_runs insts program same places {scope} {wanted} {next} {from} {to} (ends last here is label_is place_is) = λ state few.
      let b = block_at insts scope wanted from (way.Ends last) here is tt in
      subst (λ n. Leads program (MayLeaveTo scope n) from to state (block program (slice insts from last.after) state)) label_is
      (leads_within program (AfterLast b.last) (MayLeaveTo scope last.next) from last.after to state (block program (slice insts from last.after) state) (omega (arith, place_is)) b.ends
      (leads_block insts program same scope from (way.Ends last) b state few))
  sequence_runs insts program same places {scope} {wanted} {next} {from} {to} (goes_on after here is rest) = λ state few.
      let b = block_at insts scope wanted from (way.GoesOn after) here is tt in
      onward_leads program (AfterLast b.last) (MayLeaveTo scope next) from after to state (block program (slice insts from after)) (λ _. eval program (code_of rest)) (leads_block insts program same scope from (way.GoesOn after) b state few)
      (λ label s among f. goes_to insts program places (MayLeaveTo scope next) from after after to label state s (eval program (code_of rest) s) (omega (arith, f.low, f.high)) f
      (due_as insts label b.ends.0 after (one_name label b.ends.0 (targets b.last) b.ends.1 among) (stands_as insts None b.ends.0 after b.behind (at_behind insts scope from (way.GoesOn after) b) b.ends.2 (due_of rest)))
      (omega arith) (sequence_runs insts program same places rest s f.few))
  sequence_runs insts program same places {scope} {wanted} {next} {from} {to} (selects head second join here is on_true on_false rest) = λ state few.
      let b = block_at insts scope wanted from (way.Selects head) here is tt in
      let p = arm_forward insts on_true in let q = arm_forward insts on_false in let r = forward insts rest in
      let MayGo : ℕ → Type 0 = MayLeaveTo (scopes.arm scope head.merge) None in
      let go : ℕ → Run = λ to. if to == head.on_true then eval_arm program head.merge (code_of_arm on_true) else eval_arm program head.merge (code_of_arm on_false) in
      onward_at_leads insts program places MayGo (MayLeaveTo scope next) from join to head.merge state (onward (block program (slice insts from head.after)) go) (eval program (code_of rest)) (omega (arith, b.after, p, q)) (omega (arith, r.forward))
      (onward_leads program (AfterLast b.last) MayGo from head.after join state (block program (slice insts from head.after)) go (leads_block insts program same scope from (way.Selects head) b state few)
      (λ label s among f. choose_run program MayGo from join state s (eval_arm program head.merge (code_of_arm on_true)) (eval_arm program head.merge (code_of_arm on_false)) (label == head.on_true)
      (λ is_true. leads_within program MayGo MayGo from second join state (eval_arm program head.merge (code_of_arm on_true) s) q (λ _ h. h) (arm_runs insts program same places on_true from head.after label state s (omega (arith, f.low, f.high)) f (same_label label head.on_true is_true) (omega arith)))
      (λ isnt. arm_runs insts program same places on_false from head.after label state s (omega (arith, f.low, f.high)) f (other_name label head.on_true head.on_false (targets b.last) b.ends among isnt) p)))
      (due_of rest) (sequence_runs insts program same places rest) (arm_exit scope head.merge next)
  sequence_runs insts program same places {scope} {wanted} {next} {from} {to} (picks head join here is arms rest) = λ state few.
      let b = block_at insts scope wanted from (way.Picks head) here is tt in
      let p = arms_forward insts arms in let r = forward insts rest in
      let MayGo : ℕ → Type 0 = ExitOfSwitch scope head.merge in
      let go : ℕ → Run = λ to. if to == head.merge then leaves head.merge else eval_arms program (code_of_arms arms) to in
      onward_at_leads insts program places MayGo (MayLeaveTo scope next) from join to head.merge state (onward (block program (slice insts from head.after)) go) (eval program (code_of rest)) (omega (arith, b.after, p)) (omega (arith, r.forward))
      (onward_leads program (AfterLast b.last) MayGo from head.after join state (block program (slice insts from head.after)) go (leads_block insts program same scope from (way.Picks head) b state few)
      (λ label s among f. choose_run program MayGo from join state s (leaves head.merge) (eval_arms program (code_of_arms arms) label) (label == head.merge)
      (λ is_merge. left_at_merge program scope head.merge from head.after join label state s p f (same_label label head.merge is_merge))
      (λ isnt. arms_run insts program same places arms from head.after label state s (omega (arith, f.low, f.high)) f (omega arith) (among_arms insts scope from head b label among isnt) refl)))
      (due_of rest) (sequence_runs insts program same places rest) (λ label may isnt. may isnt next)
  sequence_runs insts program same places {scope} {wanted} {next} {from} {to} (loops head inner first second third here is condition body step rest) = λ state few.
      let b = block_at insts scope wanted from (way.Loops head) here is tt in
      let p = forward insts condition in let q = forward insts body in let r = forward insts step in let u = forward insts rest in
      onward_at_leads insts program places (λ label. label ≡ head.merge) (MayLeaveTo scope next) from third to head.merge state (looped head.merge (block program (slice insts from head.after)) (eval program (code_of condition)) (eval program (code_of body)) (eval program (code_of step))) (eval program (code_of rest)) (omega (arith, b.after, p.forward, q.forward, r.forward)) (omega (arith, u.forward))
      (turns_lead insts program places head.merge from third (block program (slice insts from head.after)) (eval program (code_of condition)) (eval program (code_of body)) (eval program (code_of step))
      (parts_of_loop insts program same places scope wanted from head b inner first second third here condition body step (eval program (code_of condition)) (eval program (code_of body)) (eval program (code_of step)) (sequence_runs insts program same places condition) (sequence_runs insts program same places body) (sequence_runs insts program same places step))
      (BACK_EDGES - state.back_edges) state few (omega arith))
      (due_of rest) (sequence_runs insts program same places rest) (λ label is isnt. absurd (differ label head.merge isnt is))

  -- an arm, from a flow to its label or to the merge block
  arm_runs : (insts : List Inst) (program : Program) → program.insts ≡ insts → HasPlaces insts program → {scope : Scope} {merge target from to : ℕ} → (a : Arm insts scope merge target from to) → (start past label : ℕ) (state after : State) → start ≤ past
      → Flows program start past state label after → label ≡ target → past ≤ from → Leads program (MayLeaveTo (scopes.arm scope merge) None) start to state (eval_arm program merge (code_of_arm a) after)
  arm_runs insts program same places {scope} {merge} {target} {from} {to} (straight is none) = λ start past label state after low f named behind.
      left_by program (MayLeaveTo (scopes.arm scope merge) None) start past to merge state after (omega (arith, behind, none))
      (subst (λ l. Flows program start past state l after) (named ∙ is) f) (merge_exit scope merge merge refl)
  arm_runs insts program same places {scope} {merge} {target} {from} {to} (through isnt sequence) = λ start past label state after low f named behind.
      goes_to insts program places (MayLeaveTo (scopes.arm scope merge) None) start past from to label state after (eval program (code_of sequence) after) low f
      (due_as insts label target from named (due_of sequence)) behind (sequence_runs insts program same places sequence after f.few)

  -- the arms of an OpSwitch, from a flow to the label of one of them
  arms_run : (insts : List Inst) (program : Program) → program.insts ≡ insts → HasPlaces insts program → {scope : Scope} {merge : ℕ} {all due left : List ℕ} {from to : ℕ} → (a : Arms insts scope merge all due from left to)
      → (start past label : ℕ) (state after : State) → start ≤ past → Flows program start past state label after → past ≤ from → is_among label due ≡ true → is_among label left ≡ false
      → Leads program (ExitOfSwitch scope merge) start to state (eval_arms program (code_of_arms a) label after)
  arms_run insts program same places {scope} {merge} {all} {due} {left} {from} {to} (no_arm is none) = λ start past label state after low f behind among gone.
      absurd (true_false (sym among ∙ ap (is_among label) is ∙ gone))
  arms_run insts program same places {scope} {merge} {all} {due} {left} {from} {to} (arm_behind own between before arms is_due is_left sequence) = λ start past label state after low f behind among gone.
      let p = arms_forward insts arms in let q = forward insts sequence in
      let MayGo : ℕ → Type 0 = ExitOfSwitch scope merge in
      choose_run program MayGo start to state after (eval program (code_of sequence)) (eval_arms program (code_of_arms arms) label) (label == own)
      (λ is_own. leads_within program (MayLeaveTo (scopes.switch_arm scope merge (without own all)) None) MayGo start to to state (eval program (code_of sequence) after) (omega arith) (λ l may isnt next. switch_exit scope merge (without own all) next l may isnt)
      (goes_to insts program places (MayLeaveTo (scopes.switch_arm scope merge (without own all)) None) start past between to label state after (eval program (code_of sequence) after) low f
      (due_as insts label own between (same_label label own is_own) (due_of sequence)) (omega (arith, behind, p)) (sequence_runs insts program same places sequence after f.few)))
      (λ isnt. leads_within program MayGo MayGo start between to state (eval_arms program (code_of_arms arms) label after) (omega (arith, q.forward)) (λ _ h. h)
      (arms_run insts program same places arms start past label state after low f behind among (not_before label own before isnt (ap (is_among label) is_left ∙ gone))))
