-- Where the code stands behind a label, and behind a phi.
use Rattle.std.proofs.Common.{◌≡◌, ℕ, zero, suc, ◌+◌, ◌-◌, ◌<◌, ◌≤◌, ◌==◌, inl, inr, Bool, true, false, List, [], ◌∷◌, length, take, drop, slice_index, refl, ap, sym, ◌∙◌, subst, arith, Option, None, Some}
use Rattle.std.proofs.lemmas.Bool.{cases_lt}
use Rattle.std.proofs.lemmas.Bool.Decides.{nat_tests}
use Rattle.spirv_model.specs.declared.module.Inst.{Inst}
use Rattle.spirv_model.specs.declared.module.Words.{Words}
use Rattle.spirv_model.specs.declared.op.TheConstants as op
use Rattle.spirv_model.specs.Operands.{word_at, entry_of, class_of}
use Rattle.body_model.specs.Classes.{is_terminator}
use Rattle.body_model.specs.Grammar.{Derives}
use Rattle.body_model.proofs.ClassFacts.{straight_label, straight_phi}
use Rattle.valid_model.specs.Definitions.{inst_at}
use Rattle.check_model.specs.Branches.{label_behind}
use Rattle.check_model.specs.Validity.{IsValidList}
use Rattle.stage_model.specs.Value.{Value}
use Rattle.stage_model.specs.Program.{Program, program_of}
use Rattle.stage_model.specs.Start.{Values, Memory, with_value, all_values}
use Rattle.stage_model.specs.Effect.{Gives, Enters, has_result_class, read_ids, effect_of}
use Rattle.stage_model.specs.Machine.{State, Machine, GoesOn, step}
use Rattle.stage_model.specs.Leads.{machine}
use Rattle.typed_model.specs.Running.{IsInFirst, Came, IsEntered}
use Rattle.typed_model.specs.Values.{IsOfType}
use Rattle.typed_model.proofs.BlockParts.{another, clash}
use Rattle.typed_model.proofs.FirstBlocks.{found_at, no_phi_first}
use Rattle.typed_model.proofs.FunctionParts.{function_fits}
use Rattle.typed_model.proofs.FunctionRuns.{function_within}
use Rattle.typed_model.proofs.LabelsBefore.{stands_there, own_label_behind, same_label_behind}
use Rattle.typed_model.proofs.PhiRuns.{phi_takes}
use Rattle.typed_model.proofs.StepsDone.{reads_entry}
use Rattle.typed_model.proofs.ValidTypes.{valid_types}
use Rattle.frame_model.specs.Frame.{frame_words, frame_place, in_frame}
use Rattle.frame_model.specs.Shown.{Shows, IsFrame, StandsAt}
use Rattle.frame_model.specs.Written.{written}
use Rattle.frame_model.proofs.FrameSizes.{value_size}
use Rattle.frame_model.proofs.FrameWrites.{Result, shows_written, is_frame_written}
use Rattle.frame_model.proofs.GivenResults.{effect_result}
use Rattle.frame_model.proofs.ResultWords.{result_words}
use Rattle.spv_exec.specs.declared.stand.Stand.{Stand}
use Rattle.spv_exec.specs.Phis.{ArePhis, Takes, PhiReads, PhisRead, ShowsTaken}
use Rattle.spv_exec.specs.Walks.{IsAt, Stands, StepsTo}
use Rattle.spv_exec.proofs.BranchTargets.{defined_by}
use Rattle.spv_exec.proofs.MachineSteps.{here, DoesHere, step_by, runs_next}
use Rattle.spv_exec.proofs.OpcodeEffects.{label_effect, GivesOne, phi_effect, phi_reads}
use Rattle.spv_exec.proofs.StandSteps.{further, within_here, within_program, effect_here, typed_here}

-- ---- the phis of a block

same_op : (a b : ℕ) → a == b ≡ true → a ≡ b
same_op a b is = grind (arith, nat_tests)

op_straight : (own : ℕ) → is_terminator own ≡ false → (opcode : ℕ) → opcode == own ≡ true → is_terminator opcode ≡ false
op_straight own known opcode is = ap is_terminator (same_op opcode own is) ∙ known

-- the function goes on behind an instruction that is no terminator
goes_on : (insts : List Inst) (d : Derives insts) (place : ℕ) → d.before + 1 ≤ place → place < d.after → is_terminator (inst_at insts place).op ≡ false → place + 1 < d.after
goes_on insts d place low high isnt =
    let f = function_fits insts d place low high in f.on (ap (λ (i : Inst). is_terminator i.op) (sym (found_at insts place f.inst f.at)) ∙ isnt)

-- a place behind a label, with nothing but phis between
record IsBehind (insts : List Inst) (d : Derives insts) (label place : ℕ) : Type 0 where
  high : place < d.after
  behind : label_behind 0 (take place insts) ≡ word_at 0 (inst_at insts label)

abbrev AllPhis : List Inst → ℕ → ℕ → Type 0
AllPhis insts from to = (place : ℕ) → from ≤ place → place ≤ to → (inst_at insts place).op == op.PHI ≡ true

behind_label : (insts : List Inst) (d : Derives insts) (label n : ℕ) → d.before + 1 ≤ label → label < d.after → (inst_at insts label).op == op.LABEL ≡ true → AllPhis insts (label + 1) (label + 1 + n) → IsBehind insts d label (label + 1 + n)
behind_label insts d label zero low high is phis =
    let e : label + 1 ≡ label + 1 + 0 = omega arith in
    subst (IsBehind insts d label) e (record {
      high = goes_on insts d label low high (op_straight op.LABEL straight_label (inst_at insts label).op is);
      behind = own_label_behind insts label (stands_there insts d label low high) is;
    })
behind_label insts d label (suc n) low high is phis =
    let before = behind_label insts d label n low high is (λ place past upto. phis place past (omega (arith, upto))) in
    let is_phi = phis (label + 1 + n) (omega arith) (omega arith) in
    let e : label + 1 + n + 1 ≡ label + 1 + suc n = omega arith in
    let past : d.before + 1 ≤ label + 1 + n = omega (arith, low) in
    let high = before.high in
    subst (IsBehind insts d label) e (record {
      high = goes_on insts d (label + 1 + n) past high (op_straight op.PHI straight_phi (inst_at insts (label + 1 + n)).op is_phi);
      behind = same_label_behind insts (label + 1 + n) (stands_there insts d (label + 1 + n) past high) (another (λ opcode. opcode == op.PHI) op.LABEL refl (inst_at insts (label + 1 + n)).op is_phi) ∙ before.behind;
    })

phi_class : (has_result_class (class_of op.PHI) ≡ true) × (op.PHI == op.STORE ≡ false)
unfolding class_of entry_of
phi_class = (refl, refl)

-- a value of a phi's type is as long as its result
phi_size : (words : Words) → IsValidList words → (place : ℕ) (value : Value) → place < length words.insts → (inst_at words.insts place).op == op.PHI ≡ true → IsOfType (program_of words.insts) (word_at 0 (inst_at words.insts place)) value
    → length (in_frame (program_of words.insts) value) ≡ frame_words (program_of words.insts) (inst_at words.insts place)
unfolding program_of
phi_size words v place value within is typed =
    let opcode = (inst_at words.insts place).op in
    let e : opcode ≡ op.PHI = same_op opcode op.PHI is in
    value_size (program_of words.insts) (valid_types words v.sound) (word_at 0 (inst_at words.insts place)) value typed
    ∙ sym (result_words words v place within (ap (λ (n : ℕ). has_result_class (class_of n)) e ∙ phi_class.0) (ap (λ (n : ℕ). n == op.STORE) e ∙ phi_class.1))

-- it reads a value that the frame shows
phi_read : (words : Words) (v : IsValidList words) (frame : List ℕ) (values : Values) (before place : ℕ) → Shows (program_of words.insts) frame values → v.derivation.before + 1 ≤ place → place < v.derivation.after
    → (inst_at words.insts place).op == op.PHI ≡ true → Came words.insts v.derivation (label_behind 0 (take place words.insts)) before values → PhiReads (program_of words.insts) frame values before place
unfolding program_of
phi_read words v frame values before place shows low high is came =
    let t = phi_takes words v place low high is before values came in
    let d = defined_by words.insts t.id (word_at 0 (inst_at words.insts place)) _ refl t.typed in
    record {
      id = t.id;
      pair = t.pair;
      value = t.has.value;
      has = t.has.is;
      at = d.0;
      defined = d.1;
      stands = shows.stands t.id d.0 t.has.value d.1 t.has.is;
      size = phi_size words v place t.has.value (function_within words.insts v.derivation place high) is (t.has.suits.of_type (word_at 0 (inst_at words.insts place)) t.typed);
    }

-- all phis behind a label do
pub phis_read : (words : Words) (m : Machine) (at : Stand) (frame incoming memory : List ℕ) (s : Stands words m at frame incoming memory) → (here words m).op == op.LABEL ≡ true
    → PhisRead (program_of words.insts) frame m.state.values m.state.label (m.place + 1)
unfolding program_of
phis_read words m at frame incoming memory s is place past within phis = by_entry (s.running.enters is)
  where
    n : m.place + 1 + (place - (m.place + 1)) ≡ place
    n = omega (arith, past)

    behind : IsBehind words.insts s.valid.derivation m.place place
    behind = subst (IsBehind words.insts s.valid.derivation m.place) n
        (behind_label words.insts s.valid.derivation m.place (place - (m.place + 1)) s.running.low s.running.high is (λ other low high. phis other low (omega (arith, high, n))))

    is_phi : (inst_at words.insts place).op == op.PHI ≡ true
    is_phi = phis place past (omega arith)

    low : s.valid.derivation.before + 1 ≤ place
    low = let l = s.running.low in omega (arith, l, past)

    in_first : IsInFirst words.insts (s.valid.derivation.before + 1) m.place → IsInFirst words.insts (s.valid.derivation.before + 1) place
    in_first first other later upto = elim (cases_lt m.place other) [
      | inl more ↦ another (λ opcode. opcode == op.PHI) op.LABEL refl (inst_at words.insts other).op (phis other (omega (arith, more)) upto)
      | inr less ↦ first other later less
    ]

    by_entry : IsEntered words.insts s.valid.derivation m.place (word_at 0 (inst_at words.insts m.place)) m.state.label m.state.values → PhiReads (program_of words.insts) frame m.state.values m.state.label place
    by_entry (inl first) =
        absurd (clash ((inst_at words.insts place).op == op.PHI) is_phi
        (no_phi_first words.insts s.valid.derivation place (let l = s.running.low in omega (arith, l, past)) behind.high (in_first first)))
    by_entry (inr came) =
        phi_read words s.valid frame m.state.values m.state.label place s.shows low behind.high is_phi (subst (λ l. Came words.insts s.valid.derivation l m.state.label m.state.values) (sym behind.behind) came)

-- ---- behind a label

abbrev pub entered : Stand → ℕ → Stand
entered at label = record at { place = at.place + 1; label = label; before = at.label; work = at.work + 1 }

pub label_steps : (words : Words) (m : Machine) (at : Stand) (frame incoming memory kept : List ℕ) (s : Stands words m at frame incoming memory) (d : DoesHere words m) → (here words m).op == op.LABEL ≡ true → IsFrame (program_of words.insts) kept
    → ShowsTaken (program_of words.insts) kept m.state.values m.state.label (m.place + 1) → StepsTo words m None (entered at (word_at 0 (here words m))) frame kept memory
label_steps words m at frame incoming memory kept s d is size taken =
    let effect = label_effect (program_of words.insts) m.state.memory d.read d.runs.effect (here words m) is d.runs.is in
    let state : State = record m.state { label = word_at 0 (here words m); before = m.state.label; values_at_entry = m.state.values; steps = m.state.steps + 1 } in
    let steps = step_by words s.valid m s.running d (Enters (word_at 0 (here words m))) effect in (
      machine (m.place + 1) state,
      steps,
      record {
        valid = s.valid;
        running = runs_next words s.valid m s.running (machine (m.place + 1) state) steps;
        place = ap (λ (n : ℕ). n + 1) s.place;
        state = record { label = refl; before = s.state.label; back_edges = s.state.back_edges; work = ap (λ (n : ℕ). n + 1) s.state.work };
        few = s.few;
        size = s.size;
        shows = s.shows;
        incoming_size = size;
        taken = taken;
        holds = s.holds;
      },
    )

-- ---- behind a phi

-- what the phi takes stands for it
pub phi_stands : (words : Words) (m : Machine) (at : Stand) (frame incoming memory : List ℕ) (s : Stands words m at frame incoming memory) (d : DoesHere words m) (is : (here words m).op == op.PHI ≡ true) (g : GivesOne d.read d.runs.effect)
    → StandsAt (program_of words.insts) incoming m.place g.value
unfolding program_of
phi_stands words m at frame incoming memory s d is g =
    let takes : all_values m.state.values_at_entry _ ≡ Some (g.value ∷ []) =
    ap (all_values m.state.values_at_entry) (sym (phi_reads m.state.before (here words m) is))
    ∙ (ap (λ (v : Values). all_values v (read_ids (here words m).op m.state.before (here words m).words)) (sym (reads_entry m.state ((here words m).op == op.PHI) is)) ∙ (d.are ∙ ap (λ (l : List Value). Some l) g.reads)) in
    s.taken m.place g.value (omega arith) (within_here words m at frame incoming memory s)
    (λ place low high. ap (λ (n : ℕ). (inst_at words.insts n).op == op.PHI) {x = place} {y = m.place} (omega (arith, low, high)) ∙ is) takes

-- what is due behind it was before it
still_due : (words : Words) (m : Machine) (incoming : List ℕ) (values : Values) (before : ℕ) → (here words m).op == op.PHI ≡ true → ShowsTaken (program_of words.insts) incoming values before m.place
    → ShowsTaken (program_of words.insts) incoming values before (m.place + 1)
unfolding program_of
still_due words m incoming values before is taken place value low within phis takes =
    taken place value (omega (arith, low)) within
    (λ other past upto. elim (cases_lt m.place other) [
      | inl more ↦ phis other (omega (arith, more)) upto
      | inr less ↦ ap (λ (n : ℕ). (inst_at words.insts n).op == op.PHI) {x = other} {y = m.place} (omega (arith, less, past)) ∙ is
    ]) takes

phi_result : (words : Words) (m : Machine) → IsValidList words → (d : DoesHere words m) (value : Value) → m.place < length words.insts → d.runs.effect ≡ Gives value → Result (program_of words.insts) m.place (slice_index (here words m).words 1) value
unfolding program_of
phi_result words m v d value within is = effect_result words v m.place m.state.memory d.read value within (effect_here words m d (Gives value) is) (typed_here words m d value is)

pub phi_steps : (words : Words) (m : Machine) (at : Stand) (frame incoming memory shown : List ℕ) (s : Stands words m at frame incoming memory) (d : DoesHere words m) → (here words m).op == op.PHI ≡ true → (g : GivesOne d.read d.runs.effect)
    → shown ≡ written frame (frame_place (program_of words.insts) m.place) (in_frame (program_of words.insts) g.value) → StepsTo words m None (further at) shown incoming memory
phi_steps words m at frame incoming memory shown s d is g writes =
    let program = program_of words.insts in
    let within = within_here words m at frame incoming memory s in
    let values : Values = with_value (slice_index (here words m).words 1) (Some g.value) m.state.values in
    let state : State = record m.state { values = values; steps = m.state.steps + 1 } in
    let steps = step_by words s.valid m s.running d (Gives g.value) g.is in
    let r = phi_result words m s.valid d g.value within g.is in (
      machine (m.place + 1) state,
      steps,
      record {
        valid = s.valid;
        running = runs_next words s.valid m s.running (machine (m.place + 1) state) steps;
        place = ap (λ (n : ℕ). n + 1) s.place;
        state = record { label = s.state.label; before = s.state.before; back_edges = s.state.back_edges; work = ap (λ (n : ℕ). n + 1) s.state.work };
        few = s.few;
        size = subst (IsFrame program) (sym writes) (is_frame_written program frame m.place g.value s.size (within_program words m.place within) r.size);
        shows = subst (λ (l : List ℕ). Shows program l values) (sym writes) (shows_written program frame m.state.values m.place (slice_index (here words m).words 1) g.value s.size s.shows r);
        incoming_size = s.incoming_size;
        taken = still_due words m incoming m.state.values_at_entry m.state.before is s.taken;
        holds = s.holds;
      },
    )
