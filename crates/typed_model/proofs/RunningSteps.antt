-- A machine that is running is so behind its step: at the next instruction of its block, or at the label where a branch leads.
use Rattle.std.proofs.Common.{◌≡◌, ℕ, ◌+◌, ◌<◌, ◌≤◌, ◌==◌, inl, inr, nat_le, Bool, true, false, if◌then◌else◌, List, slice_index, refl, ap, sym, ◌∙◌, subst, arith, Option, Some}
use Rattle.std.specs.Prelude.{slice_get}
use Rattle.std.specs.Option.{option_map, option_and_then}
use Rattle.std.proofs.lemmas.Bool.{cases_lt}
use Rattle.limits.specs.declared.TheConstants.{BACK_EDGES}
use Rattle.spirv_model.specs.declared.module.Inst.{Inst}
use Rattle.spirv_model.specs.declared.op.TheConstants.{LABEL}
use Rattle.spirv_model.specs.Operands.{word_at}
use Rattle.body_model.specs.Classes.{is_terminator}
use Rattle.body_model.specs.Due.{only, IsDue}
use Rattle.body_model.specs.Switches.{is_among}
use Rattle.body_model.specs.Targets.{targets}
use Rattle.body_model.specs.Grammar.{Derives}
use Rattle.body_model.proofs.ClassFacts.{straight_label}
use Rattle.body_model.proofs.Dues.{stands_at, among_one}
use Rattle.valid_model.specs.Definitions.{inst_at}
use Rattle.check_model.specs.Intervals.{intervals_of}
use Rattle.stage_model.specs.declared.outcome.Kind.{Kind}
use Rattle.stage_model.specs.declared.outcome.Kind.TheVariants.{Lost}
use Rattle.stage_model.specs.Program.{program_of}
use Rattle.stage_model.specs.Start.{Values, Memory}
use Rattle.stage_model.specs.Effect.{Effect, Passes, Gives, Writes, Enters, Goes, Stops}
use Rattle.stage_model.specs.Machine.{State, Flow, Next, To, Stopped, counted, after_effect, done, Machine, Step, GoesOn, Ends, at, jump, led, step}
use Rattle.stage_model.specs.Leads.{machine}
use Rattle.stage_model.proofs.BlockRuns.{front_at}
use Rattle.stage_model.proofs.LabelPlaces.{label_places}
use Rattle.stage_model.proofs.Flows.{Suits}
use Rattle.typed_model.specs.Judgement.{AreTyped}
use Rattle.typed_model.specs.Jumps.{Lands}
use Rattle.typed_model.specs.Running.{IsInFirst, IsEntered, IsRunning, TakesStep}
use Rattle.typed_model.proofs.BlockParts.{another, clash}
use Rattle.typed_model.proofs.FirstBlocks.{found_at}
use Rattle.typed_model.proofs.FunctionParts.{function_fits}
use Rattle.typed_model.proofs.KeptSteps.{AreKept, IsInner}
use Rattle.typed_model.proofs.LabelsBefore.{stands_there, own_label_behind, same_label_behind}
use Rattle.typed_model.proofs.TypedSteps.{typed_along}
use Rattle.typed_model.proofs.ValidFunctions.{lands}

-- ---- the step

pub same_insts : (insts : List Inst) → (program_of insts).insts ≡ insts
unfolding program_of
same_insts insts = refl

step_by : (insts : List Inst) (m : Machine) (inst : Inst) (flow : Flow × State) (to : Step) → slice_get insts m.place ≡ Some inst → done (program_of insts) inst m.state ≡ Some flow → led (program_of insts) m.place flow ≡ Some to
    → step (program_of insts) m ≡ Some to
unfolding step
step_by insts m inst flow to at does leads =
    let program = program_of insts in
    ap (λ (l : List Inst). option_and_then (led program m.place) (option_and_then (λ inst. done program inst m.state) (slice_get l m.place))) (same_insts insts)
    ∙ (ap (λ (o : Option Inst). option_and_then (led program m.place) (option_and_then (λ inst. done program inst m.state) o)) at ∙ (ap (option_and_then (led program m.place)) does ∙ leads))

-- the machine goes on at the next place
goes_next : (insts : List Inst) (d : Derives insts) (m : Machine) (inst : Inst) (state : State) → slice_get insts m.place ≡ Some inst → done (program_of insts) inst m.state ≡ Some (Next, state) → IsRunning insts d (machine (m.place + 1) state)
    → TakesStep insts d m
goes_next insts d m inst state at does next = record {
  to = GoesOn (machine (m.place + 1) state);
  is = step_by insts m inst (Next, state) (GoesOn (machine (m.place + 1) state)) at does refl;
  on = λ other same. subst (IsRunning insts d) (same_machine (machine (m.place + 1) state) other same) next;
} where
  same_machine : (a b : Machine) → GoesOn a ≡ GoesOn b → a ≡ b
  same_machine a b is = cc

-- ---- the next instruction of a block

-- what stands behind an instruction that is no terminator
record Behind (insts : List Inst) (d : Derives insts) (place : ℕ) : Type 0 where
  high : place + 1 < d.after
  no_label : (inst_at insts (place + 1)).op == LABEL ≡ false

behind_inst : (insts : List Inst) (d : Derives insts) (place : ℕ) → d.before + 1 ≤ place → place < d.after → is_terminator (inst_at insts place).op ≡ false → Behind insts d place
behind_inst insts d place low high isnt =
    let f = function_fits insts d place low high in
    let straight : is_terminator f.inst.op ≡ false = ap (λ (i : Inst). is_terminator i.op) (sym (found_at insts place f.inst f.at)) ∙ isnt in
    let more = f.on straight in
    record { high = more; no_label = f.inside straight (inst_at insts (place + 1)) (stands_there insts d (place + 1) (omega (arith, low)) more) }

still_first : (insts : List Inst) (first place : ℕ) → (inst_at insts (place + 1)).op == LABEL ≡ false → IsInFirst insts first place → IsInFirst insts first (place + 1)
still_first insts first place isnt is other past upto = elim (cases_lt place other) [
  | inl more ↦ ap (λ (n : ℕ). (inst_at insts n).op == LABEL) {x = other} {y = place + 1} (omega (arith, more, upto)) ∙ isnt
  | inr less ↦ is other past less
]

still_entered : (insts : List Inst) (d : Derives insts) (place label before : ℕ) (values : Values) → (inst_at insts (place + 1)).op == LABEL ≡ false → IsEntered insts d place label before values → IsEntered insts d (place + 1) label before values
still_entered insts d place label before values isnt (inl first) = inl (still_first insts (d.before + 1) place isnt first)
still_entered insts d place label before values isnt (inr came) = inr came

next_running : (insts : List Inst) (d : Derives insts) (m : Machine) → IsRunning insts d m → (inst_at insts m.place).op == LABEL ≡ false → is_terminator (inst_at insts m.place).op ≡ false
    → (values : Values) (memory : Memory) (steps : ℕ) → AreTyped insts (intervals_of d) (m.place + 1) values → IsRunning insts d (machine (m.place + 1) (record m.state { values = values; memory = memory; steps = steps }))
next_running insts d m r no_label straight values memory steps typed =
    let b = behind_inst insts d m.place r.low r.high straight in
    record {
      low = let low = r.low in omega (arith, low);
      high = b.high;
      typed = typed;
      enters = λ is. absurd (clash ((inst_at insts (m.place + 1)).op == LABEL) is b.no_label);
      label = λ _. r.label no_label ∙ sym (same_label_behind insts m.place (stands_there insts d m.place r.low r.high) no_label);
      entered = λ _. still_entered insts d m.place m.state.label m.state.before m.state.values_at_entry b.no_label (r.entered no_label);
    }

-- behind an instruction that is no label and no terminator
pub inner_step : (insts : List Inst) (d : Derives insts) (m : Machine) → IsRunning insts d m → (inst_at insts m.place).op == LABEL ≡ false → is_terminator (inst_at insts m.place).op ≡ false
    → (effect : Effect) → IsInner effect → AreKept insts (intervals_of d) m.place m.state.values effect → done (program_of insts) (inst_at insts m.place) m.state ≡ Some (after_effect (inst_at insts m.place) m.state effect) → TakesStep insts d m
inner_step insts d m r no_label straight (Gives value) inner kept does =
    goes_next insts d m (inst_at insts m.place) _ (stands_there insts d m.place r.low r.high) does (next_running insts d m r no_label straight _ m.state.memory (m.state.steps + 1) kept)
inner_step insts d m r no_label straight Passes inner kept does =
    goes_next insts d m (inst_at insts m.place) _ (stands_there insts d m.place r.low r.high) does (next_running insts d m r no_label straight m.state.values m.state.memory (m.state.steps + 1) kept)
inner_step insts d m r no_label straight (Writes variable place words) inner kept does =
    goes_next insts d m (inst_at insts m.place) _ (stands_there insts d m.place r.low r.high) does (next_running insts d m r no_label straight m.state.values _ (m.state.steps + 1) kept)
inner_step insts d m r no_label straight (Enters label) inner kept does = absurd inner
inner_step insts d m r no_label straight (Goes label) inner kept does = absurd inner
inner_step insts d m r no_label straight (Stops kind) inner kept does = absurd inner

-- ---- behind an OpLabel

entered_running : (insts : List Inst) (d : Derives insts) (m : Machine) → IsRunning insts d m → (inst_at insts m.place).op == LABEL ≡ true → is_terminator (inst_at insts m.place).op ≡ false → AreTyped insts (intervals_of d) (m.place + 1) m.state.values
    → IsRunning insts d (machine (m.place + 1) (record (counted m.state) { label = word_at 0 (inst_at insts m.place); before = m.state.label; values_at_entry = m.state.values }))
entered_running insts d m r is straight typed =
    let b = behind_inst insts d m.place r.low r.high straight in
    record {
      low = let low = r.low in omega (arith, low);
      high = b.high;
      typed = typed;
      enters = λ also. absurd (clash ((inst_at insts (m.place + 1)).op == LABEL) also b.no_label);
      label = λ _. sym (own_label_behind insts m.place (stands_there insts d m.place r.low r.high) is);
      entered = λ _. still_entered insts d m.place (word_at 0 (inst_at insts m.place)) m.state.label m.state.values b.no_label (r.enters is);
    }

pub label_step : (insts : List Inst) (d : Derives insts) (m : Machine) → IsRunning insts d m → (inst_at insts m.place).op == LABEL ≡ true → AreTyped insts (intervals_of d) (m.place + 1) m.state.values
    → done (program_of insts) (inst_at insts m.place) m.state ≡ Some (after_effect (inst_at insts m.place) m.state (Enters (word_at 0 (inst_at insts m.place)))) → TakesStep insts d m
label_step insts d m r is typed does =
    goes_next insts d m (inst_at insts m.place) _ (stands_there insts d m.place r.low r.high) does
    (entered_running insts d m r is (straight (inst_at insts m.place).op is) typed)
  where
    straight : (opcode : ℕ) → opcode == LABEL ≡ true → is_terminator opcode ≡ false
    straight opcode is = by_test (is_terminator opcode) refl
      where
        by_test : (b : Bool) → is_terminator opcode ≡ b → b ≡ false
        by_test true ends = absurd (clash (opcode == LABEL) is (another is_terminator LABEL straight_label opcode ends))
        by_test false isnt = refl

-- ---- where a branch leads

-- the OpLabel that stands where a block is due
pub record LabelThere (insts : List Inst) (label place : ℕ) : Type 0 where
  pub is : (inst_at insts place).op == LABEL ≡ true
  pub own : label ≡ word_at 0 (inst_at insts place)

pub label_there : (insts : List Inst) (label place : ℕ) → IsDue insts (Some label) place → LabelThere insts label place
label_there insts label place due =
    let s = stands_at insts (only (Some label)) place due in
    let e = found_at insts place s.inst (front_at insts place s.inst s.more s.front).0 in
    record { is = ap (λ (i : Inst). i.op == LABEL) e ∙ s.label; own = sym (ap (word_at 0) e ∙ among_one (slice_index s.inst.words 0) label s.among) }

landed : (insts : List Inst) (d : Derives insts) (m : Machine) → IsRunning insts d m → is_terminator (inst_at insts m.place).op ≡ true → (label : ℕ) → is_among label (targets (inst_at insts m.place)) ≡ true
    → (l : Lands insts (intervals_of d) (d.before + 1) d.after m.place label) → (edges steps : ℕ) → IsRunning insts d (machine l.place (record m.state { back_edges = edges; steps = steps }))
landed insts d m r ends label among l edges steps =
    let t = label_there insts label l.place l.due in
    let no_label = another is_terminator LABEL straight_label (inst_at insts m.place).op ends in
    record {
      low = l.low;
      high = l.high;
      typed = typed_along insts (intervals_of d) m.place l.place m.state.values ends l.jump r.typed;
      enters = λ _. inr (record {
        terminator = m.place;
        low = r.low;
        high = r.high;
        ends = ends;
        names = subst (λ n. is_among n (targets (inst_at insts m.place)) ≡ true) t.own among;
        block = sym (r.label no_label);
        typed = r.typed;
      });
      label = λ isnt. absurd (clash ((inst_at insts l.place).op == LABEL) t.is isnt);
      entered = λ isnt. absurd (clash ((inst_at insts l.place).op == LABEL) t.is isnt);
    }

goes_on : (insts : List Inst) (d : Derives insts) (place : ℕ) (state : State) (next : Machine) → ((edges : ℕ) → IsRunning insts d (machine place (record state { back_edges = edges }))) → (back full : Bool)
    → (if back then (if full then Ends Lost (record state { back_edges = state.back_edges + 1 }) else at place (record state { back_edges = state.back_edges + 1 })) else at place state) ≡ GoesOn next → IsRunning insts d next
goes_on insts d place state next running true true is = cc
goes_on insts d place state next running true false is = subst (IsRunning insts d) (same_machine _ next is) (running (state.back_edges + 1))
  where
    same_machine : (a b : Machine) → GoesOn a ≡ GoesOn b → a ≡ b
    same_machine a b is = cc
goes_on insts d place state next running false full is = subst (IsRunning insts d) (same_machine _ next is) (running state.back_edges)
  where
    same_machine : (a b : Machine) → GoesOn a ≡ GoesOn b → a ≡ b
    same_machine a b is = cc

branch_step : (insts : List Inst) (d : Derives insts) (m : Machine) → IsRunning insts d m → is_terminator (inst_at insts m.place).op ≡ true → (label : ℕ) → is_among label (targets (inst_at insts m.place)) ≡ true
    → done (program_of insts) (inst_at insts m.place) m.state ≡ Some (To label, counted m.state) → TakesStep insts d m
branch_step insts d m r ends label among does =
    let here = stands_there insts d m.place r.low r.high in
    let l = lands insts d m.place label (record { inst = inst_at insts m.place; at = here; terminator = ends; among = among }) r.low r.high in
    record {
      to = jump m.place l.place (counted m.state);
      is = step_by insts m (inst_at insts m.place) (To label, counted m.state) (jump m.place l.place (counted m.state)) here does (ap (option_map (λ to. jump m.place to (counted m.state))) (label_places insts label l.place l.due));
      on = λ next is. goes_on insts d l.place (counted m.state) next (λ edges. landed insts d m r ends label among l edges (m.state.steps + 1)) (nat_le l.place m.place) (nat_le BACK_EDGES (m.state.back_edges + 1)) is;
    }

-- behind a terminator
pub end_step : (insts : List Inst) (d : Derives insts) (m : Machine) → IsRunning insts d m → is_terminator (inst_at insts m.place).op ≡ true → (effect : Effect) → Suits (inst_at insts m.place) (Some effect)
    → done (program_of insts) (inst_at insts m.place) m.state ≡ Some (after_effect (inst_at insts m.place) m.state effect) → TakesStep insts d m
end_step insts d m r ends (Goes label) suits does = branch_step insts d m r ends label suits.1 does
end_step insts d m r ends (Stops kind) suits does = record {
  to = Ends kind (counted m.state);
  is = step_by insts m (inst_at insts m.place) (Stopped kind, counted m.state) (Ends kind (counted m.state)) (stands_there insts d m.place r.low r.high) does refl;
  on = λ next is. absurd (never kind (counted m.state) next is);
} where
  never : (kind : Kind) (state : State) (next : Machine) → Ends kind state ≡ GoesOn next → ⊥
  never kind state next is = cc
end_step insts d m r ends Passes suits does = absurd (clash (is_terminator (inst_at insts m.place).op) ends suits)
end_step insts d m r ends (Gives value) suits does = absurd (clash (is_terminator (inst_at insts m.place).op) ends suits)
end_step insts d m r ends (Writes variable place words) suits does = absurd (clash (is_terminator (inst_at insts m.place).op) ends suits)
end_step insts d m r ends (Enters label) suits does = absurd (clash (is_terminator (inst_at insts m.place).op) ends suits)
