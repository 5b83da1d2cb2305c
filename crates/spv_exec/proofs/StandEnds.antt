-- Where the code stands behind a branch, and what it has come to where the invocation ends.
use Rattle.std.proofs.Common.{◌≡◌, ℕ, ◌+◌, ◌<◌, ◌≤◌, ◌==◌, nat_le, Bool, true, false, if◌then◌else◌, List, [], ◌∷◌, length, slice_index, refl, ap, sym, ◌∙◌, subst, arith, Option, None, Some}
use Rattle.std.specs.Option.{option_map}
use Rattle.limits.specs.declared.TheConstants.{BACK_EDGES}
use Rattle.spirv_model.specs.declared.module.Inst.{Inst}
use Rattle.spirv_model.specs.declared.module.Words.{Words}
use Rattle.spirv_model.specs.declared.op.TheConstants as op
use Rattle.spirv_model.specs.Operands.{word_at, entry_of, result}
use Rattle.body_model.specs.Classes.{is_terminator}
use Rattle.body_model.specs.Switches.{is_among}
use Rattle.body_model.specs.Targets.{targets}
use Rattle.body_model.specs.Due.{IsDue}
use Rattle.valid_model.specs.Definitions.{definition, inst_at}
use Rattle.check_model.specs.Intervals.{intervals_of}
use Rattle.check_model.specs.Validity.{IsValidList}
use Rattle.stage_model.specs.declared.outcome.Kind.{Kind}
use Rattle.stage_model.specs.declared.outcome.Kind.TheVariants.{Lost}
use Rattle.stage_model.specs.Program.{Program, program_of}
use Rattle.stage_model.specs.Start.{Values, Memory}
use Rattle.stage_model.specs.Effect.{Goes, Stops}
use Rattle.stage_model.specs.Machine.{State, Machine, Step, GoesOn, Ends, at, back_to, counted, jump, step}
use Rattle.stage_model.specs.Leads.{machine}
use Rattle.stage_model.proofs.LabelPlaces.{label_places}
use Rattle.typed_model.specs.Jumps.{Lands}
use Rattle.typed_model.proofs.BlockParts.{another, clash}
use Rattle.typed_model.proofs.EffectsRun.{instruction}
use Rattle.typed_model.proofs.FunctionRuns.{function_within}
use Rattle.typed_model.proofs.LabelsBefore.{stands_there}
use Rattle.typed_model.proofs.ModuleValues.{defined_at}
use Rattle.typed_model.proofs.PlainRuns.{at_op}
use Rattle.typed_model.proofs.RunningSteps.{label_there}
use Rattle.typed_model.proofs.ValidFunctions.{lands}
use Rattle.typed_model.proofs.ValidTypes.{keeps_rules}
use Rattle.frame_model.specs.Shown.{ShowsMemory}
use Rattle.spv_exec.specs.declared.stand.Stand.{Stand}
use Rattle.spv_exec.specs.Phis.{ShowsTaken}
use Rattle.spv_exec.specs.Walks.{IsAt, LeadsTo, Stands, StepsTo}
use Rattle.spv_exec.proofs.MachineSteps.{here, DoesHere, step_by, runs_next, suits_here}

-- ---- labels

label_result : (words : List ℕ) → result (instruction op.LABEL words) ≡ Some (slice_index words 0)
unfolding result entry_of
label_result words = refl

-- a label is defined where its block is due
label_defined : (words : Words) → IsValidList words → (label place : ℕ) → IsDue words.insts (Some label) place → place < length words.insts → definition words.insts label ≡ Some place
label_defined words v label place due within =
    let t = label_there words.insts label place due in
    let inst = inst_at words.insts place in
    defined_at words.insts place label within (at_op (λ inst. result inst ≡ Some (word_at 0 inst)) inst op.LABEL t.is (label_result inst.words) ∙ ap (λ (n : ℕ). Some n) (sym t.own))
    (keeps_rules words v.sound place within).once

-- where the branch at a machine's place leads
pub record Landing (words : Words) (m : Machine) (label : ℕ) : Type 0 where
  pub place : ℕ
  pub is_label : (inst_at words.insts place).op == op.LABEL ≡ true
  pub defined : definition words.insts label ≡ Some place
  pub steps : step (program_of words.insts) m ≡ Some (jump m.place place (counted m.state))

pub landing : (words : Words) (m : Machine) (at : Stand) (frame incoming memory : List ℕ) (s : Stands words m at frame incoming memory) (d : DoesHere words m) (label : ℕ) → d.runs.effect ≡ Goes label → Landing words m label
landing words m at frame incoming memory s d label is =
    let suits = suits_here words m d (Goes label) is in
    let r = s.running in
    let l = lands words.insts s.valid.derivation m.place label
    (record { inst = here words m; at = stands_there words.insts s.valid.derivation m.place r.low r.high; terminator = suits.0; among = suits.1 }) r.low r.high in
    record {
      place = l.place;
      is_label = (label_there words.insts label l.place l.due).is;
      defined = label_defined words s.valid label l.place l.due (function_within words.insts s.valid.derivation l.place l.high);
      steps = step_by words s.valid m r d (Goes label) is ∙ ap (option_map (λ to. jump m.place to (counted m.state))) (label_places words.insts label l.place l.due);
    }

-- ---- jumps

-- a jump goes on at the place, or loses the invocation; it changes nothing but the count of back edges
data HasJumped (to : ℕ) (state : State) : Step → Type 0 where
  on : (edges : ℕ) → HasJumped to state (GoesOn (machine to (record state { back_edges = edges })))
  lost : (edges : ℕ) → HasJumped to state (Ends Lost (record state { back_edges = edges }))

has_jumped : (to : ℕ) (state : State) (back last : Bool)
    → HasJumped to state (if back then (if last then Ends Lost (record state { back_edges = state.back_edges + 1 }) else at to (record state { back_edges = state.back_edges + 1 })) else at to state)
has_jumped to state true true = lost (state.back_edges + 1)
has_jumped to state true false = on (state.back_edges + 1)
has_jumped to state false last = on state.back_edges

-- at a label no phi is due
pub no_phi_there : (words : Words) (place : ℕ) (incoming : List ℕ) (values : Values) (before : ℕ) → (inst_at words.insts place).op == op.LABEL ≡ true → ShowsTaken (program_of words.insts) incoming values before place
unfolding program_of
no_phi_there words place incoming values before is other value low within phis takes =
    absurd (clash ((inst_at words.insts place).op == op.LABEL) is (another (λ opcode. opcode == op.PHI) op.LABEL refl (inst_at words.insts place).op (phis place (omega arith) low)))

pub branch_steps : (words : Words) (m : Machine) (at ended : Stand) (frame incoming memory : List ℕ) (s : Stands words m at frame incoming memory) (label : ℕ) (l : Landing words m label) (result : Option Kind)
    → LeadsTo result ended (jump m.place l.place (counted m.state)) → (result ≡ None → ended.back_edges < BACK_EDGES) → StepsTo words m result ended frame incoming memory
branch_steps words m at ended frame incoming memory s label l result leads few =
    by_jump (jump m.place l.place (counted m.state)) (has_jumped l.place (counted m.state) (nat_le l.place m.place) (nat_le BACK_EDGES (m.state.back_edges + 1))) l.steps result leads few
  where
    by_jump : (j : Step) → HasJumped l.place (counted m.state) j → step (program_of words.insts) m ≡ Some j → (result : Option Kind) → LeadsTo result ended j → (result ≡ None → ended.back_edges < BACK_EDGES)
        → StepsTo words m result ended frame incoming memory
    by_jump j (on edges) steps None leads few = (
      machine l.place (record (counted m.state) { back_edges = edges }),
      steps,
      record {
        valid = s.valid;
        running = runs_next words s.valid m s.running (machine l.place (record (counted m.state) { back_edges = edges })) steps;
        place = leads.0;
        state = leads.1;
        few = few refl;
        size = s.size;
        shows = s.shows;
        incoming_size = s.incoming_size;
        taken = no_phi_there words l.place incoming m.state.values_at_entry m.state.before l.is_label;
        holds = s.holds;
      },
    )
    by_jump j (on edges) steps (Some kind) leads few = absurd leads
    by_jump j (lost edges) steps None leads few = absurd leads
    by_jump j (lost edges) steps (Some kind) leads few =
        let is : Some (Ends Lost (record (counted m.state) { back_edges = edges })) ≡ Some (Ends kind (record (counted m.state) { back_edges = edges })) = ap (λ (k : Kind). Some (Ends k (record (counted m.state) { back_edges = edges }))) leads.0 in
        (record (counted m.state) { back_edges = edges }, steps ∙ is, leads.1.work, s.holds)

-- ---- ends

pub stops_steps : (words : Words) (m : Machine) (at : Stand) (frame incoming memory : List ℕ) (s : Stands words m at frame incoming memory) (d : DoesHere words m) (kind : Kind) → d.runs.effect ≡ Stops kind
    → StepsTo words m (Some kind) (record at { work = at.work + 1 }) frame incoming memory
stops_steps words m at frame incoming memory s d kind is =
    (counted m.state, step_by words s.valid m s.running d (Stops kind) is, ap (λ (n : ℕ). n + 1) s.state.work, s.holds)

-- what the branch finds
pub counted_is : (words : Words) (m : Machine) (at : Stand) (frame incoming memory : List ℕ) → Stands words m at frame incoming memory → IsAt (counted m.state) (record at { work = at.work + 1 })
counted_is words m at frame incoming memory s = record { label = s.state.label; before = s.state.before; back_edges = s.state.back_edges; work = ap (λ (n : ℕ). n + 1) s.state.work }
