-- The same function behind other instructions: the machine takes the same steps, at places that are so far apart.
use Rattle.std.proofs.Common.{◌≡◌, ℕ, zero, suc, ◌+◌, ◌<◌, ◌≤◌, ◌==◌, ◌&&◌, Bool, true, false, nat_le, if◌then◌else◌, List, [], ◌∷◌, length, drop, slice_index, refl, ap, sym, ◌∙◌, subst, arith, Option, None, Some}
use Rattle.std.specs.Prelude.{slice_get}
use Rattle.std.specs.Option.{option_map, option_and_then}
use Rattle.std.proofs.lemmas.Bool.Decides.{nat_tests}
use Rattle.limits.specs.declared.TheConstants.{BACK_EDGES}
use Rattle.spirv_model.specs.declared.module.Inst.{Inst}
use Rattle.spirv_model.specs.declared.op.TheConstants.{LABEL}
use Rattle.body_model.proofs.Slices.{slice_get-drop}
use Rattle.valid_model.specs.Definitions.{inst_at}
use Rattle.stage_model.specs.declared.outcome.Kind.{Kind}
use Rattle.stage_model.specs.declared.outcome.Kind.TheVariants.{Lost}
use Rattle.stage_model.specs.Program.{Program, is_label, first_label_place, program_of}
use Rattle.stage_model.specs.Machine.{State, Flow, Next, To, Stopped, done, Machine, Step, GoesOn, Ends, at, back_to, jump, led, step}
use Rattle.stage_model.specs.Steps.{stays}
use Rattle.stage_model.specs.Leads.{machine}
use Rattle.stage_model.specs.Stage.{Given, start_at, first_label, outcome_of, stage}
use Rattle.stage_model.proofs.Comings.{one_step}
use Rattle.change_model.specs.Keeping.{IsKept, KeepsOutcome}
use Rattle.change_model.specs.Following.{Round, returns, ends, stops, Follows}
use Rattle.change_model.specs.Programs.{AreProgramsAlike}
use Rattle.change_model.proofs.Composing.{kept_same}
use Rattle.change_model.proofs.Followed.{same_insts, stage_followed}
use Rattle.change_model.proofs.SameEffects.{done_same}
use Rattle.change_model.proofs.SameStarts.{outcome_same}

-- ---- labels behind instructions without any

pub further : (n : ℕ) (place : Option ℕ) → option_map (λ (k : ℕ). suc k) (option_map (λ (k : ℕ). n + k) place) ≡ option_map (λ (k : ℕ). suc n + k) place
further n None = refl
further n (Some k) = ap (λ (k : ℕ). Some k) {x = suc (n + k)} {y = suc n + k} (omega arith)

pub as_far : (place : Option ℕ) → place ≡ option_map (λ (k : ℕ). 0 + k) place
as_far None = refl
as_far (Some k) = ap (λ (k : ℕ). Some k) {x = k} {y = 0 + k} (omega arith)

no_label : (label : ℕ) (inst : Inst) → inst.op == LABEL ≡ false → is_label label inst ≡ false
no_label label inst isnt = ap (λ (b : Bool). b && (slice_index inst.words 0 == label)) isnt

pub label_behind_front : (insts : List Inst) (n label : ℕ) → n ≤ length insts → ((k : ℕ) → k < n → (inst_at insts k).op == LABEL ≡ false)
    → first_label_place insts label ≡ option_map (λ (k : ℕ). n + k) (first_label_place (drop n insts) label)
unfolding first_label_place
label_behind_front insts zero label within front = as_far (first_label_place insts label)
label_behind_front [] (suc n) label within front = absurd (omega (arith, within))
label_behind_front (inst ∷ insts) (suc n) label within front =
    ap (λ (b : Bool). if b then Some 0 else option_map (λ (place : ℕ). suc place) (first_label_place insts label)) (no_label label inst (front 0 (omega arith)))
    ∙ ap (option_map (λ (place : ℕ). suc place)) (label_behind_front insts n label (omega (arith, within)) (λ k less. front (suc k) (omega (arith, less))))
    ∙ further n (first_label_place (drop n insts) label)

-- ---- both sides

-- in both lists the same instructions stand from the first label on
pub record HaveSameFunction (new old : List Inst) (first first' : ℕ) : Type 0 where
  pub same : drop first new ≡ drop first' old
  pub within : first ≤ length new
  pub within' : first' ≤ length old
  pub front : (k : ℕ) → k < first → (inst_at new k).op == LABEL ≡ false
  pub front' : (k : ℕ) → k < first' → (inst_at old k).op == LABEL ≡ false

-- the machines are at the same instruction of the function, in the same state
record AreTogether (first first' : ℕ) (m n : Machine) : Type 0 where
  far : ℕ
  place : m.place ≡ first + far
  place' : n.place ≡ first' + far
  state : m.state ≡ n.state

-- a step of the old side, and what the new side's is then
data SameStep (first first' : ℕ) : Option Step → Option Step → Type 0 where
  no_step : SameStep first first' None None
  goes : (far : ℕ) (state : State) → SameStep first first' (Some (GoesOn (machine (first + far) state))) (Some (GoesOn (machine (first' + far) state)))
  finishes : (kind : Kind) (state : State) → SameStep first first' (Some (Ends kind state)) (Some (Ends kind state))

full_step : (first first' far : ℕ) (state : State) (full : Bool)
    → SameStep first first' (Some (if full then Ends Lost state else at (first + far) state)) (Some (if full then Ends Lost state else at (first' + far) state))
full_step first first' far state true = finishes Lost state
full_step first first' far state false = goes far state

back_or_on : (first first' far : ℕ) (state : State) (back : Bool)
    → SameStep first first' (Some (if back then back_to (first + far) state else at (first + far) state)) (Some (if back then back_to (first' + far) state else at (first' + far) state))
back_or_on first first' far state true = full_step first first' far (record state { back_edges = state.back_edges + 1 }) (nat_le BACK_EDGES (state.back_edges + 1))
back_or_on first first' far state false = goes far state

apart : (n far to : ℕ) → nat_le (n + to) (n + far) ≡ nat_le to far
apart n far to = grind (arith, nat_tests)

jumps : (first first' far : ℕ) (state : State) (to : Option ℕ)
    → SameStep first first' (option_map (λ to. jump (first + far) to state) (option_map (λ (k : ℕ). first + k) to)) (option_map (λ to. jump (first' + far) to state) (option_map (λ (k : ℕ). first' + k) to))
jumps first first' far state None = no_step
jumps first first' far state (Some to) =
    subst (λ (b : Bool). SameStep first first' (Some (if b then back_to (first + to) state else at (first + to) state)) (Some (jump (first' + far) (first' + to) state))) (sym (apart first far to))
    (subst (λ (b : Bool). SameStep first first' (Some (if nat_le to far then back_to (first + to) state else at (first + to) state)) (Some (if b then back_to (first' + to) state else at (first' + to) state))) (sym (apart first' far to))
    (back_or_on first first' to state (nat_le to far)))

next_step : (first first' far place place' : ℕ) (state : State) → place ≡ first + (far + 1) → place' ≡ first' + (far + 1) → SameStep first first' (Some (GoesOn (machine place state))) (Some (GoesOn (machine place' state)))
next_step first first' far place place' state is is' =
    subst (λ n. SameStep first first' (Some (GoesOn (machine n state))) (Some (GoesOn (machine place' state)))) (sym is)
    (subst (λ n. SameStep first first' (Some (GoesOn (machine (first + (far + 1)) state))) (Some (GoesOn (machine n state)))) (sym is') (goes (far + 1) state))

leads_same : (p q : Program) (first first' far : ℕ) (labels : ℕ → Option ℕ) → ((label : ℕ) → p.label_place label ≡ option_map (λ (k : ℕ). first + k) (labels label))
    → ((label : ℕ) → q.label_place label ≡ option_map (λ (k : ℕ). first' + k) (labels label)) → (flow : Flow) (state : State) → SameStep first first' (led p (first + far) (flow, state)) (led q (first' + far) (flow, state))
leads_same p q first first' far labels here there Next state = next_step first first' far (first + far + 1) (first' + far + 1) state (omega arith) (omega arith)
leads_same p q first first' far labels here there (To label) state =
    subst (λ (o : Option ℕ). SameStep first first' (option_map (λ to. jump (first + far) to state) o) (option_map (λ to. jump (first' + far) to state) (q.label_place label))) (sym (here label))
    (subst (λ (o : Option ℕ). SameStep first first' (option_map (λ to. jump (first + far) to state) (option_map (λ (k : ℕ). first + k) (labels label))) (option_map (λ to. jump (first' + far) to state) o)) (sym (there label))
    (jumps first first' far state (labels label)))
leads_same p q first first' far labels here there (Stopped kind) state = finishes kind state

some_leads : (p q : Program) (first first' far : ℕ) (labels : ℕ → Option ℕ) → ((label : ℕ) → p.label_place label ≡ option_map (λ (k : ℕ). first + k) (labels label))
    → ((label : ℕ) → q.label_place label ≡ option_map (λ (k : ℕ). first' + k) (labels label)) → (does : Option (Flow × State))
    → SameStep first first' (option_and_then (led p (first + far)) does) (option_and_then (led q (first' + far)) does)
some_leads p q first first' far labels here there None = no_step
some_leads p q first first' far labels here there (Some does) = leads_same p q first first' far labels here there does.0 does.1

found_same : (p q : Program) → AreProgramsAlike p q → (first first' far : ℕ) (labels : ℕ → Option ℕ) → ((label : ℕ) → p.label_place label ≡ option_map (λ (k : ℕ). first + k) (labels label))
    → ((label : ℕ) → q.label_place label ≡ option_map (λ (k : ℕ). first' + k) (labels label)) → (state : State) (found : Option Inst)
    → SameStep first first' (option_and_then (led p (first + far)) (option_and_then (λ inst. done p inst state) found)) (option_and_then (led q (first' + far)) (option_and_then (λ inst. done q inst state) found))
found_same p q s first first' far labels here there state None = no_step
found_same p q s first first' far labels here there state (Some inst) =
    subst (λ (d : Option (Flow × State)). SameStep first first' (option_and_then (led p (first + far)) d) (option_and_then (led q (first' + far)) (done q inst state))) (sym (done_same p q s.mean inst state))
    (some_leads p q first first' far labels here there (done q inst state))

-- ---- steps

labels_are : (insts : List Inst) (label : ℕ) → (program_of insts).label_place label ≡ first_label_place insts label
unfolding program_of
labels_are insts label = refl

labels_behind : (insts rest : List Inst) (first label : ℕ) → drop first insts ≡ rest → first ≤ length insts → ((k : ℕ) → k < first → (inst_at insts k).op == LABEL ≡ false)
    → (program_of insts).label_place label ≡ option_map (λ (k : ℕ). first + k) (first_label_place rest label)
labels_behind insts rest first label is within front =
    labels_are insts label ∙ label_behind_front insts first label within front ∙ ap (λ (l : List Inst). option_map (λ (k : ℕ). first + k) (first_label_place l label)) is

inst_behind : (insts rest : List Inst) (first far : ℕ) → drop first insts ≡ rest → slice_get (program_of insts).insts (first + far) ≡ slice_get rest far
inst_behind insts rest first far is =
    ap (λ (l : List Inst). slice_get l (first + far)) (same_insts insts) ∙ sym (slice_get-drop first far insts) ∙ ap (λ (l : List Inst). slice_get l far) is

together_step : (new old : List Inst) (first first' : ℕ) → HaveSameFunction new old first first' → AreProgramsAlike (program_of new) (program_of old) → (far : ℕ) (state : State)
    → SameStep first first' (step (program_of new) (machine (first + far) state)) (step (program_of old) (machine (first' + far) state))
unfolding step
together_step new old first first' f s far state =
    let p = program_of new in let q = program_of old in
    let rest = drop first' old in
    subst (λ (o : Option Inst). SameStep first first' (option_and_then (led p (first + far)) (option_and_then (λ inst. done p inst state) o)) (option_and_then (led q (first' + far)) (option_and_then (λ inst. done q inst state) (slice_get q.insts (first' + far)))))
    (inst_behind old rest first' far refl ∙ sym (inst_behind new rest first far f.same))
    (found_same p q s first first' far (first_label_place rest) (λ label. labels_behind new rest first label f.same f.within f.front) (λ label. labels_behind old rest first' label refl f.within' f.front') state (slice_get q.insts (first' + far)))

same_kept : (p q : Program) → AreProgramsAlike p q → (kind : Kind) (state : State) → IsKept (outcome_of p (kind, state)) (outcome_of q (kind, state))
same_kept p q s kind state = subst (IsKept (outcome_of p (kind, state))) (outcome_same p q s kind state) (kept_same (outcome_of p (kind, state)))

to_round : (p q : Program) → AreProgramsAlike p q → (first first' : ℕ) (m n : Machine) {found found' : Option Step} → SameStep first first' found found' → step p m ≡ found → step q n ≡ found'
    → Round IsKept p q (AreTogether first first') m n
to_round p q s first first' m n no_step is is' = stops (record { at = n; comes = stays refl; stuck = is' })
to_round p q s first first' m n (goes far state) is is' =
    returns (machine (first + far) state) (machine (first' + far) state) (one_step p m (machine (first + far) state) is) (record { next = machine (first' + far) state; goes = is'; comes = stays refl })
    (record { far = far; place = refl; place' = refl; state = refl })
to_round p q s first first' m n (finishes kind state) is is' =
    ends kind state state (record { at = m; comes = stays refl; stops = is }) (record { at = n; comes = stays refl; stops = is' }) (same_kept p q s kind state)

is_machine : (m : Machine) (place : ℕ) (state : State) → m.place ≡ place → m.state ≡ state → m ≡ machine place state
is_machine m place state is same = ap (λ (n : ℕ). machine n m.state) is ∙ ap (machine place) same

follows_together : (new old : List Inst) (first first' : ℕ) → HaveSameFunction new old first first' → AreProgramsAlike (program_of new) (program_of old)
    → Follows IsKept (program_of new) (program_of old) (AreTogether first first')
follows_together new old first first' f s m n t =
    let p = program_of new in let q = program_of old in
    to_round p q s first first' m n (together_step new old first first' f s t.far n.state)
    (ap (step p) (is_machine m (first + t.far) n.state t.place t.state)) (ap (step q) (is_machine n (first' + t.far) n.state t.place' refl))

start_place : (insts : List Inst) (given : Given) (first : ℕ) → (start_at (program_of insts) given first).place ≡ first + 0
unfolding start_at
start_place insts given first = omega arith

-- where both sides start in the same state, they leave the same
pub same_function_keeps : (new old : List Inst) (given given' : Given) (first first' : ℕ) → first_label new ≡ Some first → first_label old ≡ Some first' → HaveSameFunction new old first first'
    → AreProgramsAlike (program_of new) (program_of old) → (start_at (program_of new) given first).state ≡ (start_at (program_of old) given' first').state → KeepsOutcome (stage new given) (stage old given')
same_function_keeps new old given given' first first' at at' f s start =
    stage_followed IsKept new old (AreTogether first first') (follows_together new old first first' f s) given given' first first' at at'
    (record { far = 0; place = start_place new given first; place' = start_place old given' first'; state = start })
