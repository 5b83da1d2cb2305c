-- Runs of a prepared module: how they begin, and what they leave.
use Rattle.std.proofs.Common.{◌≡◌, ℕ, ◌+◌, ◌<◌, ◌≤◌, ◌==◌, Bool, true, false, nat_lt, if◌then◌else◌, List, [], ◌∷◌, length, take, refl, ap, sym, ◌∙◌, subst, arith, Option, None, Some}
use Rattle.std.specs.Prelude.{map, replicate}
use Rattle.std.proofs.Math.Path.{fun_ext}
use Rattle.std.proofs.lemmas.List.{length-replicate}
use Rattle.std.specs.Option.{option_map, option_and_then, unwrap_or}
use Rattle.std.specs.List.{range_with_len}
use Rattle.limits.specs.declared.TheConstants.{COMPONENTS, LOCATIONS}
use Rattle.spirv_model.specs.declared.module.Words.{Words}
use Rattle.spirv_model.specs.declared.op.TheConstants as op
use Rattle.valid_model.specs.Definitions.{inst_at}
use Rattle.check_model.specs.Validity.{IsValidList}
use Rattle.stage_model.specs.declared.outcome.Kind.{Kind}
use Rattle.stage_model.specs.declared.outcome.Kind.TheVariants.{Done, Killed, Lost}
use Rattle.stage_model.specs.declared.outcome.Ended.{Ended}
use Rattle.spirv_model.specs.declared.decoration.TheConstants.{LOCATION}
use Rattle.stage_model.specs.Program.{Program, program_of, held_layout}
use Rattle.stage_model.specs.Start.{Memory, first_memory}
use Rattle.stage_model.specs.Machine.{State, Machine, run}
use Rattle.stage_model.specs.Stage.{Given, Outcome, size_in, start_at, first_label, components_left, position_left, slots_left, left_by, output_with, outcome_of, enough_steps, stage, ended_of}
use Rattle.typed_model.proofs.NeverStuck.{never_stuck}
use Rattle.typed_model.proofs.RunningStart.{first_label_is, running_start, starts_with_label}
use Rattle.frame_model.specs.Shown.{ShowsMemory, IsFrame}
use Rattle.spv_exec.specs.declared.stand.End.{End}
use Rattle.spv_exec.specs.FirstFrames.{IsFirstFrame}
use Rattle.spv_exec.specs.PreparedFor.{left_so}
use Rattle.spv_exec.specs.Walks.{start, Stands, EndsSome, EndsSo}
use Rattle.spv_exec.proofs.StandEnds.{no_phi_there}

-- a valid module has a label
pub first_there : (words : Words) → IsValidList words → (found : Option ℕ) (place : ℕ) → found ≡ first_label words.insts → place ≡ unwrap_or found 0 → first_label words.insts ≡ Some place
first_there words v found place is whole =
    let e = first_label_is words.insts v.derivation in
    e ∙ ap (λ (n : ℕ). Some n) (sym (whole ∙ ap (λ (o : Option ℕ). unwrap_or o 0) (is ∙ e)))

-- ---- what is left without memory

zero_or : (b : Bool) → ◌≡◌ {A = ℕ} (if b then 0 else 0) 0
zero_or true = refl
zero_or false = refl

no_components : (program : Program) (found : Option ℕ) → components_left program (λ _ _. 0) found ≡ replicate COMPONENTS 0
no_components program None = refl
no_components program (Some variable) = ap (λ (f : ℕ → ℕ). map f (range_with_len 0 COMPONENTS)) (fun_ext (λ k. zero_or (nat_lt k (size_in (held_layout program variable)))))

no_position : (program : Program) → position_left program (λ _ _. 0) ≡ replicate COMPONENTS 0
unfolding position_left
no_position program = no_components program _

no_slots : (program : Program) → slots_left program (λ _ _. 0) ≡ replicate LOCATIONS (replicate COMPONENTS 0)
unfolding slots_left
no_slots program = ap (λ (f : ℕ → List ℕ). map f (range_with_len 0 LOCATIONS)) (fun_ext (λ location. no_components program (output_with program LOCATION location)))

made : Kind → List ℕ → List (List ℕ) → ℕ → Ended
made kind position slots work = record { kind = kind; position = position; slots = slots; work = work }

-- zeros, which are left where the variables hold zeros
left_nothing : (program : Program) (e : Ended) → e.position ≡ replicate COMPONENTS 0 → e.slots ≡ replicate LOCATIONS (replicate COMPONENTS 0)
    → e ≡ made e.kind (position_left program (λ _ _. 0)) (slots_left program (λ _ _. 0)) e.work
unfolding made
left_nothing program e position slots =
    ap (λ (p : List ℕ). made e.kind p e.slots e.work) (position ∙ sym (no_position program)) ∙ ap (λ (s : List (List ℕ)). made e.kind (position_left program (λ _ _. 0)) s e.work) (slots ∙ sym (no_slots program))

-- of an invocation that isn't done nothing is left
by_kind : (program : Program) (e : Ended) (held : Memory) (kind : Kind) → e.kind ≡ kind
    → e ≡ made e.kind (position_left program (left_by kind held)) (slots_left program (left_by kind held)) e.work → e ≡ left_so program (record { kind = e.kind; work = e.work }) held
unfolding made
by_kind program e held kind is same = same ∙ ap (λ (k : Kind). made e.kind (position_left program (left_by k held)) (slots_left program (left_by k held)) e.work) (sym is)

pub killed_leaves : (program : Program) (e : Ended) (held : Memory) → e.position ≡ replicate COMPONENTS 0 → e.slots ≡ replicate LOCATIONS (replicate COMPONENTS 0) → e.kind ≡ Killed
    → e ≡ left_so program (record { kind = e.kind; work = e.work }) held
killed_leaves program e held position slots is = by_kind program e held Killed is (left_nothing program e position slots)

pub lost_leaves : (program : Program) (e : Ended) (held : Memory) → e.position ≡ replicate COMPONENTS 0 → e.slots ≡ replicate LOCATIONS (replicate COMPONENTS 0) → e.kind ≡ Lost
    → e ≡ left_so program (record { kind = e.kind; work = e.work }) held
lost_leaves program e held position slots is = by_kind program e held Lost is (left_nothing program e position slots)

-- ---- the start

same_number : (a b : ℕ) → ◌≡◌ {A = Option ℕ} (Some a) (Some b) → a ≡ b
same_number a b is = cc

label_first : (words : Words) (v : IsValidList words) (first : ℕ) → first_label words.insts ≡ Some first → (inst_at words.insts first).op == op.LABEL ≡ true
label_first words v first is =
    ap (λ (n : ℕ). (inst_at words.insts n).op == op.LABEL) (same_number first (v.derivation.before + 1) (sym is ∙ first_label_is words.insts v.derivation)) ∙ starts_with_label words.insts v.derivation

-- the machine at the first label stands where the code begins
pub stands_first : (words : Words) (v : IsValidList words) (given : Given) (first : ℕ) (frame incoming memory : List ℕ) → first_label words.insts ≡ Some first → IsFirstFrame (program_of words.insts) given.entries first frame
    → IsFrame (program_of words.insts) incoming → ShowsMemory (program_of words.insts) memory (first_memory (program_of words.insts) given.inputs given.buffers)
    → Stands words (start_at (program_of words.insts) given first) (start first) frame incoming memory
unfolding start_at
stands_first words v given first frame incoming memory is shows size holds = record {
  valid = v;
  running = running_start words v given first is;
  place = refl;
  state = record { label = refl; before = refl; back_edges = refl; work = refl };
  few = omega arith;
  size = shows.size;
  shows = shows.shows;
  incoming_size = size;
  taken = no_phi_there words first incoming _ _ (label_first words v first is);
  holds = holds;
}

-- the stage's end
pub record EndsIn (words : Words) (given : Given) (first : ℕ) : Type 0 where
  pub kind : Kind
  pub state : State
  pub ends : run (enough_steps words.insts) (program_of words.insts) (start_at (program_of words.insts) given first) ≡ Some (kind, state)
  pub stage_is : stage words.insts given ≡ Some (outcome_of (program_of words.insts) (kind, state))

stage_by : (words : Words) (given : Given) (first : ℕ) → first_label words.insts ≡ Some first
    → stage words.insts given ≡ option_map (outcome_of (program_of words.insts)) (run (enough_steps words.insts) (program_of words.insts) (start_at (program_of words.insts) given first))
unfolding stage
stage_by words given first is =
    ap (option_and_then (λ first. option_map (outcome_of (program_of words.insts)) (run (enough_steps words.insts) (program_of words.insts) (start_at (program_of words.insts) given first)))) is

ends_by : (words : Words) (given : Given) (first : ℕ) (o : Outcome) (found : Option (Kind × State)) → first_label words.insts ≡ Some first → stage words.insts given ≡ Some o
    → run (enough_steps words.insts) (program_of words.insts) (start_at (program_of words.insts) given first) ≡ found → EndsIn words given first
ends_by words given first o None is has ends = absurd (never o (sym (stage_by words given first is ∙ ap (option_map (outcome_of (program_of words.insts))) ends) ∙ has))
  where
    never : (o : Outcome) → ◌≡◌ {A = Option Outcome} None (Some o) → ⊥
    never o is = cc
ends_by words given first o (Some (kind, state)) is has ends =
    record { kind = kind; state = state; ends = ends; stage_is = stage_by words given first is ∙ ap (option_map (outcome_of (program_of words.insts))) ends }

pub ends_in : (words : Words) → IsValidList words → (given : Given) (first : ℕ) → first_label words.insts ≡ Some first → EndsIn words given first
ends_in words v given first is = let o = never_stuck words v given in ends_by words given first o.0 _ is o.1 refl

-- where a walk begins, it comes to the stage's end
pub ends_some : (words : Words) (v : IsValidList words) (given : Given) (first : ℕ) (frame incoming memory : List ℕ) → first_label words.insts ≡ Some first → IsFirstFrame (program_of words.insts) given.entries first frame
    → IsFrame (program_of words.insts) incoming → ShowsMemory (program_of words.insts) memory (first_memory (program_of words.insts) given.inputs given.buffers) → EndsSome words (start first) frame incoming memory
ends_some words v given first frame incoming memory is shows size holds =
    let e = ends_in words v given first is in
    record { machine = start_at (program_of words.insts) given first; stands = stands_first words v given first frame incoming memory is shows size holds; kind = e.kind; state = e.state; ends = e.ends }

-- what it leaves is the stage's outcome
pub outcome_is : (words : Words) (given : Given) (first : ℕ) (e : EndsIn words given first) (end : End) (memory : List ℕ) (result : Ended) → EndsSo words end memory e.kind e.state → result ≡ left_so (program_of words.insts) end e.state.memory
    → option_map ended_of (stage words.insts given) ≡ Some result
outcome_is words given first e end memory result so is =
    ap (option_map ended_of) e.stage_is
    ∙ ap (λ (r : Ended). Some r)
    (ap (λ (k : Kind). left_so (program_of words.insts) (record { kind = k; work = e.state.steps }) e.state.memory) (sym so.kind_is)
    ∙ (ap (λ (n : ℕ). left_so (program_of words.insts) (record { kind = end.kind; work = n }) e.state.memory) so.work ∙ sym is))

pub so_many : (words : List ℕ) (count : ℕ) → words ≡ replicate count 0 → length words ≡ count
so_many words count is = ap (λ (l : List ℕ). length l) is ∙ length-replicate count 0
