-- Where the code stands behind an instruction that is no label, no phi and no terminator.
use Rattle.std.proofs.Common.{◌≡◌, ℕ, ◌+◌, ◌<◌, ◌≤◌, ◌==◌, Bool, true, false, List, [], ◌∷◌, length, slice_index, refl, ap, sym, ◌∙◌, subst, arith, Option, None, Some}
use Rattle.limits.specs.declared.TheConstants.{BACK_EDGES}
use Rattle.spirv_model.specs.declared.module.Inst.{Inst}
use Rattle.spirv_model.specs.declared.module.Words.{Words}
use Rattle.spirv_model.specs.declared.op.TheConstants as op
use Rattle.spirv_model.specs.Operands.{word_at}
use Rattle.body_model.specs.Classes.{is_terminator}
use Rattle.valid_model.specs.Definitions.{inst_at}
use Rattle.check_model.specs.Typing.{constant_word}
use Rattle.check_model.specs.Validity.{IsValidList}
use Rattle.stage_model.specs.Value.{Value}
use Rattle.stage_model.specs.Program.{Program, program_of}
use Rattle.stage_model.specs.Start.{Values, Memory, with_value, all_values}
use Rattle.stage_model.specs.Effect.{Effect, Passes, Gives, Writes, Enters, Goes, Stops, with_words, read_ids, effect_of}
use Rattle.stage_model.specs.Machine.{State, Machine, Step, GoesOn, read_from, step}
use Rattle.stage_model.specs.Leads.{machine}
use Rattle.stage_model.proofs.Flows.{Suits}
use Rattle.typed_model.specs.Effects.{IsTypedEffect}
use Rattle.typed_model.specs.Types.{AllSuit}
use Rattle.typed_model.specs.Values.{IsOfType}
use Rattle.typed_model.proofs.BlockParts.{clash}
use Rattle.typed_model.proofs.FunctionRuns.{function_within}
use Rattle.typed_model.proofs.StepsDone.{reads_now}
use Rattle.frame_model.specs.Frame.{frame_place, in_frame}
use Rattle.frame_model.specs.Shown.{Shows, ShowsMemory, IsFrame}
use Rattle.frame_model.specs.Written.{written, reads_at, GivesAt}
use Rattle.frame_model.proofs.GivenResults.{shows_given, is_frame_given}
use Rattle.spv_exec.specs.declared.stand.Stand.{Stand}
use Rattle.spv_exec.specs.Accesses.{LoadsSome, StoresAt, memory_after}
use Rattle.spv_exec.specs.Branches.{GoesAt}
use Rattle.spv_exec.specs.Phis.{ShowsTaken}
use Rattle.spv_exec.specs.Walks.{IsAt, Stands, StepsTo}
use Rattle.spv_exec.proofs.MachineSteps.{here, DoesHere, step_by, runs_next, suits_here, no_phi_behind, reads_alike}
use Rattle.spv_exec.proofs.OpcodeEffects.{IsStored}

-- ---- what the frame shows of what the instruction reads

pub within_here : (words : Words) (m : Machine) (at : Stand) (frame incoming memory : List ℕ) → Stands words m at frame incoming memory → m.place < length words.insts
within_here words m at frame incoming memory s = function_within words.insts s.valid.derivation m.place s.running.high

-- any but a phi reads the values that are there now
are_read : (words : Words) (m : Machine) (d : DoesHere words m) → (here words m).op == op.PHI ≡ false → all_values m.state.values (reads_at (program_of words.insts) m.place) ≡ Some d.read
unfolding program_of
are_read words m d isnt =
    let inst = here words m in
    ap (all_values m.state.values) (reads_alike inst.op 0 m.state.before inst.words isnt) ∙ (ap (λ (v : Values). all_values v (read_ids inst.op m.state.before inst.words)) (sym (reads_now m.state (inst.op == op.PHI) isnt)) ∙ d.are)

suit_read : (words : Words) (m : Machine) (d : DoesHere words m) → (here words m).op == op.PHI ≡ false → AllSuit (program_of words.insts) (constant_word (program_of words.insts).insts) (reads_at (program_of words.insts) m.place) d.read
unfolding program_of
suit_read words m d isnt =
    let inst = here words m in subst (λ (ids : List ℕ). AllSuit (program_of words.insts) (constant_word words.insts) ids d.read) (sym (reads_alike inst.op 0 m.state.before inst.words isnt)) d.suit

pub effect_here : (words : Words) (m : Machine) (d : DoesHere words m) (effect : Effect) → d.runs.effect ≡ effect → effect_of (program_of words.insts) m.state.memory (inst_at (program_of words.insts).insts m.place) d.read ≡ Some effect
unfolding program_of
effect_here words m d effect is = d.runs.is ∙ ap (λ (e : Effect). Some e) is

pub typed_here : (words : Words) (m : Machine) (d : DoesHere words m) (value : Value) → d.runs.effect ≡ Gives value → IsOfType (program_of words.insts) (slice_index (inst_at (program_of words.insts).insts m.place).words 0) value
unfolding program_of
typed_here words m d value is = subst (IsTypedEffect (program_of words.insts) (here words m)) is d.runs.typed

pub within_program : (words : Words) (place : ℕ) → place < length words.insts → place < length (program_of words.insts).insts
unfolding program_of
within_program words place less = less

pub gives_at : (words : Words) (m : Machine) (at : Stand) (frame incoming memory : List ℕ) (s : Stands words m at frame incoming memory) (d : DoesHere words m) (value : Value) → (here words m).op == op.PHI ≡ false → d.runs.effect ≡ Gives value
    → GivesAt (program_of words.insts) frame m.state.memory m.place value
gives_at words m at frame incoming memory s d value isnt is = record {
  within = within_program words m.place (within_here words m at frame incoming memory s);
  size = s.size;
  values = m.state.values;
  shows = s.shows;
  read = d.read;
  are = are_read words m d isnt;
  suit = suit_read words m d isnt;
  effect = effect_here words m d (Gives value) is;
  typed = typed_here words m d value is;
}

pub loads_some : (words : Words) (m : Machine) (at : Stand) (frame incoming memory : List ℕ) (s : Stands words m at frame incoming memory) (d : DoesHere words m) (value : Value) → (here words m).op == op.PHI ≡ false → d.runs.effect ≡ Gives value
    → LoadsSome (program_of words.insts) frame memory m.place
loads_some words m at frame incoming memory s d value isnt is =
    record { held = m.state.memory; value = value; holds = s.holds; gives = gives_at words m at frame incoming memory s d value isnt is }

stores_here : (words : Words) (m : Machine) → (here words m).op == op.STORE ≡ true → (inst_at (program_of words.insts).insts m.place).op == op.STORE ≡ true
unfolding program_of
stores_here words m is = is

pub stores_at : (words : Words) (m : Machine) (at : Stand) (frame incoming memory : List ℕ) (s : Stands words m at frame incoming memory) (d : DoesHere words m) → (here words m).op == op.PHI ≡ false → (here words m).op == op.STORE ≡ true
    → StoresAt (program_of words.insts) frame memory m.state.memory m.place d.runs.effect
stores_at words m at frame incoming memory s d isnt is = record {
  within = within_program words m.place (within_here words m at frame incoming memory s);
  stores = stores_here words m is;
  size = s.size;
  values = m.state.values;
  shows = s.shows;
  holds = s.holds;
  read = d.read;
  are = are_read words m d isnt;
  suit = suit_read words m d isnt;
  effect_is = effect_here words m d d.runs.effect refl;
}

pub goes_at : (words : Words) (m : Machine) (at : Stand) (frame incoming memory : List ℕ) (s : Stands words m at frame incoming memory) (d : DoesHere words m) (label : ℕ) → (here words m).op == op.PHI ≡ false → d.runs.effect ≡ Goes label
    → GoesAt (program_of words.insts) frame m.place label
goes_at words m at frame incoming memory s d label isnt is = record {
  within = within_program words m.place (within_here words m at frame incoming memory s);
  size = s.size;
  values = m.state.values;
  shows = s.shows;
  read = d.read;
  are = are_read words m d isnt;
  suit = suit_read words m d isnt;
  held = m.state.memory;
  effect = effect_here words m d (Goes label) is;
}

-- ---- the next place

-- one place further on
abbrev pub further : Stand → Stand
further at = record at { place = at.place + 1; work = at.work + 1 }

abbrev pub counted_at : State → Values → Memory → State
counted_at state values memory = record state { values = values; memory = memory; steps = state.steps + 1 }

further_at : (state : State) (values : Values) (memory : Memory) (at : Stand) → IsAt state at → IsAt (counted_at state values memory) (further at)
further_at state values memory at here = record { label = here.label; before = here.before; back_edges = here.back_edges; work = ap (λ (n : ℕ). n + 1) here.work }

-- no phi is due there
none_due : (words : Words) (m : Machine) (at : Stand) (frame incoming memory : List ℕ) (s : Stands words m at frame incoming memory) → (here words m).op == op.LABEL ≡ false → (here words m).op == op.PHI ≡ false → is_terminator (here words m).op ≡ false
    → (values : Values) (before : ℕ) → ShowsTaken (program_of words.insts) incoming values before (m.place + 1)
unfolding program_of
none_due words m at frame incoming memory s no_label no_phi straight values before place value low within phis takes =
    absurd (clash ((inst_at words.insts (m.place + 1)).op == op.PHI) (phis (m.place + 1) (omega arith) low)
    (no_phi_behind words.insts s.valid.derivation m.place s.running.low s.running.high straight no_label no_phi))

-- the machine's step goes on to the next place, where the code shows its values and its variables
inner_steps : (words : Words) (m : Machine) (at : Stand) (frame incoming memory : List ℕ) (s : Stands words m at frame incoming memory) → (here words m).op == op.LABEL ≡ false → (here words m).op == op.PHI ≡ false → is_terminator (here words m).op ≡ false
    → (values : Values) (held : Memory) (shown cells : List ℕ) → step (program_of words.insts) m ≡ Some (GoesOn (machine (m.place + 1) (counted_at m.state values held)))
    → IsFrame (program_of words.insts) shown → Shows (program_of words.insts) shown values → ShowsMemory (program_of words.insts) cells held → StepsTo words m None (further at) shown incoming cells
inner_steps words m at frame incoming memory s no_label no_phi straight values held shown cells steps size shows holds = (
  machine (m.place + 1) (counted_at m.state values held),
  steps,
  record {
    valid = s.valid;
    running = runs_next words s.valid m s.running (machine (m.place + 1) (counted_at m.state values held)) steps;
    place = ap (λ (n : ℕ). n + 1) s.place;
    state = further_at m.state values held at s.state;
    few = s.few;
    size = size;
    shows = shows;
    incoming_size = s.incoming_size;
    taken = none_due words m at frame incoming memory s no_label no_phi straight m.state.values_at_entry m.state.before;
    holds = holds;
  },
)

-- ---- by the effect

-- a result
pub gives_steps : (words : Words) (m : Machine) (at : Stand) (frame incoming memory : List ℕ) (s : Stands words m at frame incoming memory) (d : DoesHere words m) (value : Value) (shown : List ℕ) → (here words m).op == op.LABEL ≡ false
    → (here words m).op == op.PHI ≡ false → d.runs.effect ≡ Gives value → shown ≡ written frame (frame_place (program_of words.insts) m.place) (in_frame (program_of words.insts) value) → StepsTo words m None (further at) shown incoming memory
unfolding gives_at
gives_steps words m at frame incoming memory s d value shown no_label no_phi is writes =
    let g = gives_at words m at frame incoming memory s d value no_phi is in
    inner_steps words m at frame incoming memory s no_label no_phi (suits_here words m d (Gives value) is) (with_value (slice_index (here words m).words 1) (Some value) m.state.values) m.state.memory shown memory
    (step_by words s.valid m s.running d (Gives value) is)
    (subst (IsFrame (program_of words.insts)) (sym writes) (is_frame_given words s.valid frame m.state.memory m.place value g))
    (subst (λ (l : List ℕ). Shows (program_of words.insts) l (with_value (slice_index (here words m).words 1) (Some value) m.state.values)) (sym writes) (shows_given words s.valid frame m.state.memory m.place value g))
    s.holds

-- nothing
pub passes_steps : (words : Words) (m : Machine) (at : Stand) (frame incoming memory : List ℕ) (s : Stands words m at frame incoming memory) (d : DoesHere words m) → (here words m).op == op.LABEL ≡ false → (here words m).op == op.PHI ≡ false
    → d.runs.effect ≡ Passes → StepsTo words m None (further at) frame incoming memory
passes_steps words m at frame incoming memory s d no_label no_phi is =
    inner_steps words m at frame incoming memory s no_label no_phi (suits_here words m d Passes is) m.state.values m.state.memory frame memory (step_by words s.valid m s.running d Passes is) s.size s.shows s.holds

-- words that are written
writes_steps : (words : Words) (m : Machine) (at : Stand) (frame incoming memory : List ℕ) (s : Stands words m at frame incoming memory) (d : DoesHere words m) (variable place : ℕ) (new cells : List ℕ) → (here words m).op == op.LABEL ≡ false
    → (here words m).op == op.PHI ≡ false → d.runs.effect ≡ Writes variable place new → ShowsMemory (program_of words.insts) cells (with_words variable place new m.state.memory) → StepsTo words m None (further at) frame incoming cells
writes_steps words m at frame incoming memory s d variable place new cells no_label no_phi is holds =
    inner_steps words m at frame incoming memory s no_label no_phi (suits_here words m d (Writes variable place new) is) m.state.values (with_words variable place new m.state.memory) frame cells
    (step_by words s.valid m s.running d (Writes variable place new) is) s.size s.shows holds

-- a store
pub stores_steps : (words : Words) (m : Machine) (at : Stand) (frame incoming memory : List ℕ) (s : Stands words m at frame incoming memory) (d : DoesHere words m) (effect : Effect) (cells : List ℕ) → (here words m).op == op.LABEL ≡ false
    → (here words m).op == op.PHI ≡ false → IsStored effect → d.runs.effect ≡ effect → ShowsMemory (program_of words.insts) cells (memory_after m.state.memory effect) → StepsTo words m None (further at) frame incoming cells
stores_steps words m at frame incoming memory s d Passes cells no_label no_phi stored is holds =
    inner_steps words m at frame incoming memory s no_label no_phi (suits_here words m d Passes is) m.state.values m.state.memory frame cells (step_by words s.valid m s.running d Passes is) s.size s.shows holds
stores_steps words m at frame incoming memory s d (Writes variable place new) cells no_label no_phi stored is holds = writes_steps words m at frame incoming memory s d variable place new cells no_label no_phi is holds
stores_steps words m at frame incoming memory s d (Gives value) cells no_label no_phi stored is holds = absurd stored
stores_steps words m at frame incoming memory s d (Enters label) cells no_label no_phi stored is holds = absurd stored
stores_steps words m at frame incoming memory s d (Goes label) cells no_label no_phi stored is holds = absurd stored
stores_steps words m at frame incoming memory s d (Stops kind) cells no_label no_phi stored is holds = absurd stored
