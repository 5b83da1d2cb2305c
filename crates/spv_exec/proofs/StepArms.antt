-- One step of the code, by the opcode of the instruction where it stands.
use Rattle.std.proofs.Common.{◌≡◌, ℕ, ◌+◌, ◌<◌, ◌≤◌, ◌^◌, ◌==◌, ◌⊎◌, inl, inr, Bool, true, false, List, length, refl, ap, sym, ◌∙◌, subst, arith, Option, None, Some}
use Rattle.std.proofs.lemmas.Bool.Decides.{nat_tests}
use Rattle.limits.specs.declared.TheConstants.{BACK_EDGES, MODULE_WORDS}
use Rattle.spirv_model.specs.declared.module.Inst.{Inst}
use Rattle.spirv_model.specs.declared.module.Words.{Words}
use Rattle.spirv_model.specs.declared.op.TheConstants as op
use Rattle.spirv_model.specs.Operands.{word_at}
use Rattle.valid_model.specs.Definitions.{definition, inst_at}
use Rattle.check_model.specs.Validity.{IsValidList}
use Rattle.stage_model.specs.declared.outcome.Kind.{Kind}
use Rattle.stage_model.specs.declared.outcome.Kind.TheVariants.{Done, Killed}
use Rattle.stage_model.specs.Value.{Value}
use Rattle.stage_model.specs.Program.{Program, program_of}
use Rattle.stage_model.specs.Start.{Values, Memory}
use Rattle.stage_model.specs.Effect.{Effect, Passes, Goes, effect_of}
use Rattle.stage_model.specs.Machine.{State, Machine, Step, counted, jump}
use Rattle.frame_model.specs.Frame.{frame_place, in_frame}
use Rattle.frame_model.specs.Shown.{ShowsMemory, IsFrame, StandsAt}
use Rattle.frame_model.specs.Written.{written, GivesAt}
use Rattle.frame_model.proofs.FrameLimits.{insts_few}
use Rattle.spv_exec.specs.declared.stand.Stand.{Stand}
use Rattle.spv_exec.specs.Accesses.{LoadsSome, StoresAt, StoresSome, memory_after}
use Rattle.spv_exec.specs.Branches.{GoesAt}
use Rattle.spv_exec.specs.Opcodes.{gives_result}
use Rattle.spv_exec.specs.Phis.{PhisRead, ShowsTaken}
use Rattle.spv_exec.specs.Walks.{IsAt, LeadsTo, Stands, StandsSome, StepsTo}
use Rattle.spv_exec.proofs.MachineSteps.{here, DoesHere, does_here}
use Rattle.spv_exec.proofs.OpcodeEffects.{selection_effect, loop_effect, return_effect, unreachable_effect, kill_effect, GoesTo, branch_effect, conditional_effect, switch_effect, store_effect, phi_effect, IsOther, other_effect}
use Rattle.spv_exec.proofs.StandSteps.{within_here, gives_at, loads_some, stores_at, goes_at, further, gives_steps, passes_steps, stores_steps}
use Rattle.spv_exec.proofs.StandEnters.{phis_read, entered, label_steps, phi_stands, phi_steps}
use Rattle.spv_exec.proofs.StandEnds.{landing, branch_steps, stops_steps, counted_is}

-- ---- the opcode where the code stands

equal : (a b : ℕ) → a ≡ b → a == b ≡ true
equal a b is = grind (arith, nat_tests)

differs : (a b : ℕ) → (a ≡ b → ⊥) → a == b ≡ false
differs a b isnt = grind (arith, nat_tests)

abbrev op_at : Words → Stand → ℕ
op_at words at = (inst_at words.insts at.place).op

op_here : (words : Words) (m : Machine) (at : Stand) (frame incoming memory : List ℕ) → Stands words m at frame incoming memory → (here words m).op ≡ op_at words at
op_here words m at frame incoming memory s = ap (λ (n : ℕ). (inst_at words.insts n).op) s.place

is_here : (words : Words) (m : Machine) (at : Stand) (frame incoming memory : List ℕ) → Stands words m at frame incoming memory → (own : ℕ) → op_at words at ≡ own → (here words m).op == own ≡ true
is_here words m at frame incoming memory s own is = equal (here words m).op own (op_here words m at frame incoming memory s ∙ is)

isnt_here : (words : Words) (m : Machine) (at : Stand) (frame incoming memory : List ℕ) → Stands words m at frame incoming memory → (own other : ℕ) → (own ≡ other → ⊥) → op_at words at ≡ own → (here words m).op == other ≡ false
isnt_here words m at frame incoming memory s own other apart is =
    differs (here words m).op other (λ e. apart (sym (op_here words m at frame incoming memory s ∙ is) ∙ e))

other_here : (words : Words) (m : Machine) (at : Stand) (frame incoming memory : List ℕ) → Stands words m at frame incoming memory → IsOther (op_at words at) → IsOther (here words m).op
other_here words m at frame incoming memory s o = subst IsOther (sym (op_here words m at frame incoming memory s)) o

-- it is none of these
pub is_other : (opcode : ℕ) → (opcode ≡ op.LABEL → ⊥) → (opcode ≡ op.PHI → ⊥) → (opcode ≡ op.SELECTION_MERGE → ⊥) → (opcode ≡ op.LOOP_MERGE → ⊥) → (opcode ≡ op.STORE → ⊥) → (opcode ≡ op.BRANCH → ⊥) → (opcode ≡ op.BRANCH_CONDITIONAL → ⊥)
    → (opcode ≡ op.SWITCH → ⊥) → (opcode ≡ op.RETURN → ⊥) → (opcode ≡ op.UNREACHABLE → ⊥) → (opcode ≡ op.KILL → ⊥) → IsOther opcode
is_other opcode label phi selection loop store branch conditional switch returns unreachable kill = record {
  no_label = differs opcode op.LABEL label;
  no_phi = differs opcode op.PHI phi;
  no_selection = differs opcode op.SELECTION_MERGE selection;
  no_loop = differs opcode op.LOOP_MERGE loop;
  no_store = differs opcode op.STORE store;
  no_branch = differs opcode op.BRANCH branch;
  no_conditional = differs opcode op.BRANCH_CONDITIONAL conditional;
  no_switch = differs opcode op.SWITCH switch;
  no_return = differs opcode op.RETURN returns;
  no_unreachable = differs opcode op.UNREACHABLE unreachable;
  no_kill = differs opcode op.KILL kill;
}

-- ---- what the callees ask

pub few_insts : (words : Words) (at : Stand) (frame incoming memory : List ℕ) → StandsSome words at frame incoming memory → length words.insts < 2 ^ 32
few_insts words at frame incoming memory some = let f = insts_few words some.stands.valid in omega (arith, f)

pub place_fits : (words : Words) (at : Stand) (frame incoming memory : List ℕ) → StandsSome words at frame incoming memory → at.place + 1 < 2 ^ 32
place_fits words at frame incoming memory some =
    let s = some.stands in let f = insts_few words s.valid in let w = within_here words some.machine at frame incoming memory s in let p = s.place in omega (arith, f, w, p)

pub stores_some : (words : Words) (at : Stand) (frame incoming memory : List ℕ) → StandsSome words at frame incoming memory → op_at words at ≡ op.STORE → StoresSome (program_of words.insts) frame memory at.place
stores_some words at frame incoming memory some is =
    let m = some.machine in let s = some.stands in let d = does_here words s.valid m s.running in
    record {
      held = m.state.memory;
      effect = d.runs.effect;
      stores = subst (λ (n : ℕ). StoresAt (program_of words.insts) frame memory m.state.memory n d.runs.effect) s.place
          (stores_at words m at frame incoming memory s d (isnt_here words m at frame incoming memory s op.STORE op.PHI (λ e. omega (arith, e)) is) (is_here words m at frame incoming memory s op.STORE is));
    }

pub result_some : (words : Words) (at : Stand) (frame incoming memory : List ℕ) → StandsSome words at frame incoming memory → IsOther (op_at words at) → LoadsSome (program_of words.insts) frame memory at.place
result_some words at frame incoming memory some o =
    let m = some.machine in let s = some.stands in let d = does_here words s.valid m s.running in
    let other = other_here words m at frame incoming memory s o in
    let g = other_effect (program_of words.insts) m.state.memory d.read d.runs.effect (here words m) other d.runs.is in
    subst (λ (n : ℕ). LoadsSome (program_of words.insts) frame memory n) s.place (loads_some words m at frame incoming memory s d g.value other.no_phi g.is)

pub result_given : (words : Words) (at : Stand) (frame incoming memory : List ℕ) → StandsSome words at frame incoming memory → IsOther (op_at words at) → gives_result (op_at words at) ≡ true
result_given words at frame incoming memory some o =
    let m = some.machine in let s = some.stands in let d = does_here words s.valid m s.running in
    ap gives_result (sym (op_here words m at frame incoming memory s))
    ∙ (other_effect (program_of words.insts) m.state.memory d.read d.runs.effect (here words m) (other_here words m at frame incoming memory s o) d.runs.is).gives

-- ---- steps

pub label_arm : (words : Words) (m : Machine) (at ended : Stand) (frame incoming memory kept : List ℕ) → Stands words m at frame incoming memory → op_at words at ≡ op.LABEL
    → ended ≡ entered at (word_at 0 (inst_at words.insts at.place)) → length kept ≡ length incoming
    → ((values : Values) → IsFrame (program_of words.insts) frame → IsFrame (program_of words.insts) incoming → PhisRead (program_of words.insts) frame values at.label (at.place + 1) → ShowsTaken (program_of words.insts) kept values at.label (at.place + 1))
    → StepsTo words m None ended frame kept memory
label_arm words m at ended frame incoming memory kept s is stands long takes =
    let d = does_here words s.valid m s.running in
    let is_label = is_here words m at frame incoming memory s op.LABEL is in
    let reads = subst (λ (l : ℕ). PhisRead (program_of words.insts) frame m.state.values l (at.place + 1)) s.state.label
    (subst (λ (n : ℕ). PhisRead (program_of words.insts) frame m.state.values m.state.label (n + 1)) s.place (phis_read words m at frame incoming memory s is_label)) in
    let taken = subst (λ (l : ℕ). ShowsTaken (program_of words.insts) kept m.state.values l (m.place + 1)) (sym s.state.label)
    (subst (λ (n : ℕ). ShowsTaken (program_of words.insts) kept m.state.values at.label (n + 1)) (sym s.place) (takes m.state.values s.size s.incoming_size reads)) in
    let e : entered at (word_at 0 (here words m)) ≡ ended = ap (λ (n : ℕ). entered at (word_at 0 (inst_at words.insts n))) s.place ∙ sym stands in
    subst (λ (stand : Stand). StepsTo words m None stand frame kept memory) e (label_steps words m at frame incoming memory kept s d is_label (long ∙ s.incoming_size) taken)

pub phi_arm : (words : Words) (m : Machine) (at : Stand) (frame incoming memory shown : List ℕ) → Stands words m at frame incoming memory → op_at words at ≡ op.PHI
    → ((value : Value) → IsFrame (program_of words.insts) frame → IsFrame (program_of words.insts) incoming → StandsAt (program_of words.insts) incoming at.place value
    → shown ≡ written frame (frame_place (program_of words.insts) at.place) (in_frame (program_of words.insts) value))
    → StepsTo words m None (further at) shown incoming memory
phi_arm words m at frame incoming memory shown s is writes =
    let d = does_here words s.valid m s.running in
    let is_phi = is_here words m at frame incoming memory s op.PHI is in
    let g = phi_effect (program_of words.insts) m.state.memory d.read d.runs.effect (here words m) is_phi d.runs.is in
    phi_steps words m at frame incoming memory shown s d is_phi g
    (subst (λ (n : ℕ). shown ≡ written frame (frame_place (program_of words.insts) n) (in_frame (program_of words.insts) g.value)) (sym s.place)
    (writes g.value s.size s.incoming_size (subst (λ (n : ℕ). StandsAt (program_of words.insts) incoming n g.value) s.place (phi_stands words m at frame incoming memory s d is_phi g))))

pub selection_arm : (words : Words) (m : Machine) (at : Stand) (frame incoming memory : List ℕ) → Stands words m at frame incoming memory → op_at words at ≡ op.SELECTION_MERGE → StepsTo words m None (further at) frame incoming memory
selection_arm words m at frame incoming memory s is =
    let d = does_here words s.valid m s.running in
    passes_steps words m at frame incoming memory s d (isnt_here words m at frame incoming memory s op.SELECTION_MERGE op.LABEL (λ e. omega (arith, e)) is)
    (isnt_here words m at frame incoming memory s op.SELECTION_MERGE op.PHI (λ e. omega (arith, e)) is)
    (selection_effect (program_of words.insts) m.state.memory d.read d.runs.effect (here words m) (is_here words m at frame incoming memory s op.SELECTION_MERGE is) d.runs.is)

pub loop_arm : (words : Words) (m : Machine) (at : Stand) (frame incoming memory : List ℕ) → Stands words m at frame incoming memory → op_at words at ≡ op.LOOP_MERGE → StepsTo words m None (further at) frame incoming memory
loop_arm words m at frame incoming memory s is =
    let d = does_here words s.valid m s.running in
    passes_steps words m at frame incoming memory s d (isnt_here words m at frame incoming memory s op.LOOP_MERGE op.LABEL (λ e. omega (arith, e)) is)
    (isnt_here words m at frame incoming memory s op.LOOP_MERGE op.PHI (λ e. omega (arith, e)) is)
    (loop_effect (program_of words.insts) m.state.memory d.read d.runs.effect (here words m) (is_here words m at frame incoming memory s op.LOOP_MERGE is) d.runs.is)

pub store_arm : (words : Words) (m : Machine) (at : Stand) (frame incoming memory cells : List ℕ) → Stands words m at frame incoming memory → op_at words at ≡ op.STORE
    → ((held : Memory) (effect : Effect) → StoresAt (program_of words.insts) frame memory held at.place effect → ShowsMemory (program_of words.insts) cells (memory_after held effect)) → StepsTo words m None (further at) frame incoming cells
store_arm words m at frame incoming memory cells s is stores =
    let d = does_here words s.valid m s.running in
    let is_store = is_here words m at frame incoming memory s op.STORE is in
    let no_phi = isnt_here words m at frame incoming memory s op.STORE op.PHI (λ e. omega (arith, e)) is in
    stores_steps words m at frame incoming memory s d d.runs.effect cells (isnt_here words m at frame incoming memory s op.STORE op.LABEL (λ e. omega (arith, e)) is) no_phi
    (store_effect (program_of words.insts) m.state.memory d.read d.runs.effect (here words m) is_store d.runs.is) refl
    (stores m.state.memory d.runs.effect
    (subst (λ (n : ℕ). StoresAt (program_of words.insts) frame memory m.state.memory n d.runs.effect) s.place (stores_at words m at frame incoming memory s d no_phi is_store)))

pub result_arm : (words : Words) (m : Machine) (at : Stand) (frame incoming memory shown : List ℕ) → Stands words m at frame incoming memory → IsOther (op_at words at)
    → ((held : Memory) (value : Value) → ShowsMemory (program_of words.insts) memory held → GivesAt (program_of words.insts) frame held at.place value
    → shown ≡ written frame (frame_place (program_of words.insts) at.place) (in_frame (program_of words.insts) value))
    → StepsTo words m None (further at) shown incoming memory
result_arm words m at frame incoming memory shown s o writes =
    let d = does_here words s.valid m s.running in
    let other = other_here words m at frame incoming memory s o in
    let g = other_effect (program_of words.insts) m.state.memory d.read d.runs.effect (here words m) other d.runs.is in
    gives_steps words m at frame incoming memory s d g.value shown other.no_label other.no_phi g.is
    (subst (λ (n : ℕ). shown ≡ written frame (frame_place (program_of words.insts) n) (in_frame (program_of words.insts) g.value)) (sym s.place)
    (writes m.state.memory g.value s.holds
    (subst (λ (n : ℕ). GivesAt (program_of words.insts) frame m.state.memory n g.value) s.place (gives_at words m at frame incoming memory s d g.value other.no_phi g.is))))

-- ---- branches

-- the opcode is that of a branch
abbrev pub IsBranch : ℕ → Type 0
IsBranch opcode = (opcode ≡ op.BRANCH) ⊎ ((opcode ≡ op.BRANCH_CONDITIONAL) ⊎ (opcode ≡ op.SWITCH))

branch_goes : (words : Words) (m : Machine) (at : Stand) (frame incoming memory : List ℕ) (s : Stands words m at frame incoming memory) (d : DoesHere words m) → IsBranch (op_at words at) → GoesTo d.runs.effect
branch_goes words m at frame incoming memory s d (inl is) = branch_effect (program_of words.insts) m.state.memory d.read d.runs.effect (here words m) (is_here words m at frame incoming memory s op.BRANCH is) d.runs.is
branch_goes words m at frame incoming memory s d (inr (inl is)) =
    conditional_effect (program_of words.insts) m.state.memory d.read d.runs.effect (here words m) (is_here words m at frame incoming memory s op.BRANCH_CONDITIONAL is) d.runs.is
branch_goes words m at frame incoming memory s d (inr (inr is)) = switch_effect (program_of words.insts) m.state.memory d.read d.runs.effect (here words m) (is_here words m at frame incoming memory s op.SWITCH is) d.runs.is

branch_no_phi : (words : Words) (m : Machine) (at : Stand) (frame incoming memory : List ℕ) (s : Stands words m at frame incoming memory) → IsBranch (op_at words at) → (here words m).op == op.PHI ≡ false
branch_no_phi words m at frame incoming memory s (inl is) = isnt_here words m at frame incoming memory s op.BRANCH op.PHI (λ e. omega (arith, e)) is
branch_no_phi words m at frame incoming memory s (inr (inl is)) = isnt_here words m at frame incoming memory s op.BRANCH_CONDITIONAL op.PHI (λ e. omega (arith, e)) is
branch_no_phi words m at frame incoming memory s (inr (inr is)) = isnt_here words m at frame incoming memory s op.SWITCH op.PHI (λ e. omega (arith, e)) is

pub branch_arm : (words : Words) (m : Machine) (at ended : Stand) (frame incoming memory : List ℕ) (result : Option Kind) → Stands words m at frame incoming memory → IsBranch (op_at words at)
    → ((label to : ℕ) (state : State) → IsValidList words → GoesAt (program_of words.insts) frame at.place label → definition words.insts label ≡ Some to → IsAt state (record at { work = at.work + 1 }) → LeadsTo result ended (jump at.place to state))
    → (result ≡ None → ended.back_edges < BACK_EDGES) → StepsTo words m result ended frame incoming memory
branch_arm words m at ended frame incoming memory result s is jumps few =
    let d = does_here words s.valid m s.running in
    let g = branch_goes words m at frame incoming memory s d is in
    let l = landing words m at frame incoming memory s d g.label g.is in
    let leads = jumps g.label l.place (counted m.state) s.valid
    (subst (λ (n : ℕ). GoesAt (program_of words.insts) frame n g.label) s.place (goes_at words m at frame incoming memory s d g.label (branch_no_phi words m at frame incoming memory s is) g.is)) l.defined
    (counted_is words m at frame incoming memory s) in
    branch_steps words m at ended frame incoming memory s g.label l result (subst (λ (n : ℕ). LeadsTo result ended (jump n l.place (counted m.state))) (sym s.place) leads) few

pub return_arm : (words : Words) (m : Machine) (at : Stand) (frame incoming memory : List ℕ) → Stands words m at frame incoming memory → op_at words at ≡ op.RETURN → StepsTo words m (Some Done) (record at { work = at.work + 1 }) frame incoming memory
return_arm words m at frame incoming memory s is =
    let d = does_here words s.valid m s.running in
    stops_steps words m at frame incoming memory s d Done (return_effect (program_of words.insts) m.state.memory d.read d.runs.effect (here words m) (is_here words m at frame incoming memory s op.RETURN is) d.runs.is)

pub unreachable_arm : (words : Words) (m : Machine) (at : Stand) (frame incoming memory : List ℕ) → Stands words m at frame incoming memory → op_at words at ≡ op.UNREACHABLE → StepsTo words m (Some Done) (record at { work = at.work + 1 }) frame incoming memory
unreachable_arm words m at frame incoming memory s is =
    let d = does_here words s.valid m s.running in
    stops_steps words m at frame incoming memory s d Done (unreachable_effect (program_of words.insts) m.state.memory d.read d.runs.effect (here words m) (is_here words m at frame incoming memory s op.UNREACHABLE is) d.runs.is)

pub kill_arm : (words : Words) (m : Machine) (at : Stand) (frame incoming memory : List ℕ) → Stands words m at frame incoming memory → op_at words at ≡ op.KILL → StepsTo words m (Some Killed) (record at { work = at.work + 1 }) frame incoming memory
kill_arm words m at frame incoming memory s is =
    let d = does_here words s.valid m s.running in
    stops_steps words m at frame incoming memory s d Killed (kill_effect (program_of words.insts) m.state.memory d.read d.runs.effect (here words m) (is_here words m at frame incoming memory s op.KILL is) d.runs.is)

-- ---- ranges of opcodes

pub two_ops : (opcode : ℕ) → op.LOOP_MERGE ≤ opcode → opcode ≤ op.SELECTION_MERGE → (opcode ≡ op.LOOP_MERGE) ⊎ (opcode ≡ op.SELECTION_MERGE)
two_ops opcode low high = by_test (opcode == op.LOOP_MERGE) refl
  where
    by_test : (b : Bool) → opcode == op.LOOP_MERGE ≡ b → (opcode ≡ op.LOOP_MERGE) ⊎ (opcode ≡ op.SELECTION_MERGE)
    by_test true is = inl (grind (arith, nat_tests))
    by_test false isnt = inr (grind (arith, nat_tests))

pub three_ops : (opcode : ℕ) → op.BRANCH ≤ opcode → opcode ≤ op.SWITCH → IsBranch opcode
three_ops opcode low high = by_test (opcode == op.BRANCH) (opcode == op.BRANCH_CONDITIONAL) refl refl
  where
    by_test : (a b : Bool) → opcode == op.BRANCH ≡ a → opcode == op.BRANCH_CONDITIONAL ≡ b → IsBranch opcode
    by_test true b is other = inl (grind (arith, nat_tests))
    by_test false true isnt is = inr (inl (grind (arith, nat_tests)))
    by_test false false isnt other = inr (inr (grind (arith, nat_tests)))
