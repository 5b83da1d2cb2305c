-- A walk of the code beside a run of the machine.
use Rattle.std.proofs.Common.{◌≡◌, ℕ, zero, suc, ◌+◌, ◌*◌, ◌-◌, ◌<◌, ◌≤◌, ◌^◌, List, length, refl, ap, sym, ◌∙◌, subst, arith, Option, None, Some}
use Rattle.limits.specs.declared.TheConstants.{BACK_EDGES, MODULE_WORDS}
use Rattle.spirv_model.specs.declared.module.Words.{Words}
use Rattle.stage_model.specs.declared.outcome.Kind.{Kind}
use Rattle.stage_model.specs.Program.{Program, program_of}
use Rattle.stage_model.specs.Machine.{State, Machine, Step, GoesOn, Ends, step, end_after, run}
use Rattle.stage_model.specs.Stage.{enough_steps}
use Rattle.frame_model.specs.Shown.{ShowsMemory}
use Rattle.frame_model.proofs.FrameLimits.{insts_few}
use Rattle.spv_exec.specs.declared.stand.Stand.{Stand}
use Rattle.spv_exec.specs.declared.stand.End.{End}
use Rattle.spv_exec.specs.Walks.{start, Stands, StandsSome, StepsTo, EndsSome, EndsSo}

-- a machine stands here that ends so within the steps that are left
pub record ComesTo (words : Words) (at : Stand) (frame incoming memory : List ℕ) (kind : Kind) (state : State) : Type 0 where
  pub machine : Machine
  pub stands : Stands words machine at frame incoming memory
  pub left : ℕ
  pub count : at.work + left ≡ enough_steps words.insts
  pub ends : run left (program_of words.insts) machine ≡ Some (kind, state)

-- it does, where one stood at the start that ended so
abbrev pub WalksOn : Words → ℕ → (frame incoming memory : List ℕ) → Stand → (shown taken cells : List ℕ) → Type 0
WalksOn words first frame incoming memory at shown taken cells =
    (m : Machine) (kind : Kind) (state : State) → Stands words m (start first) frame incoming memory → run (enough_steps words.insts) (program_of words.insts) m ≡ Some (kind, state) → ComesTo words at shown taken cells kind state

pub starts : (words : Words) (first : ℕ) (frame incoming memory : List ℕ) → WalksOn words first frame incoming memory (start first) frame incoming memory
starts words first frame incoming memory m kind state s ends = record { machine = m; stands = s; left = enough_steps words.insts; count = omega arith; ends = ends }

pub somewhere : (words : Words) (first : ℕ) (frame incoming memory : List ℕ) (at : Stand) (shown taken cells : List ℕ) → EndsSome words (start first) frame incoming memory → WalksOn words first frame incoming memory at shown taken cells
    → (kind : Kind) × (state : State) × ComesTo words at shown taken cells kind state
somewhere words first frame incoming memory at shown taken cells e walks = (e.kind, e.state, walks e.machine e.kind e.state e.stands e.ends)

pub stands_some : (words : Words) (at : Stand) (frame incoming memory : List ℕ) (kind : Kind) (state : State) → ComesTo words at frame incoming memory kind state → StandsSome words at frame incoming memory
stands_some words at frame incoming memory kind state c = record { machine = c.machine; stands = c.stands }

-- few steps were taken
pub has_room : (words : Words) (at : Stand) (frame incoming memory : List ℕ) (kind : Kind) (state : State) → ComesTo words at frame incoming memory kind state → at.work < 2 ^ 63
has_room words at frame incoming memory kind state c = let few = insts_few words c.stands.valid in let count = c.count in omega (arith, few, count)

-- ---- one step

never_now : (program : Program) (m : Machine) (kind : Kind) (state : State) (left : ℕ) → left ≡ 0 → run left program m ≡ Some (kind, state) → ⊥
never_now program m kind state zero none ends = no_end kind state ends
  where
    no_end : (kind : Kind) (state : State) → ◌≡◌ {A = Option (Kind × State)} None (Some (kind, state)) → ⊥
    no_end kind state is = cc
never_now program m kind state (suc left) none ends = omega (arith, none)

-- a step is left
pub one_left : (words : Words) (at : Stand) (frame incoming memory : List ℕ) (kind : Kind) (state : State) → ComesTo words at frame incoming memory kind state → at.work < enough_steps words.insts
one_left words at frame incoming memory kind state c = by_left c.left refl
  where
    by_left : (left : ℕ) → c.left ≡ left → at.work < enough_steps words.insts
    by_left zero none = absurd (never_now (program_of words.insts) c.machine kind state c.left none c.ends)
    by_left (suc left) some = let count = c.count in omega (arith, some, count)

-- what is left behind it
record Behind (program : Program) (m : Machine) (left : ℕ) (kind : Kind) (state : State) : Type 0 where
  fewer : ℕ
  count : left ≡ fewer + 1
  ends : end_after (step program m) (run fewer program) ≡ Some (kind, state)

behind : (program : Program) (m : Machine) (left : ℕ) (kind : Kind) (state : State) → run left program m ≡ Some (kind, state) → Behind program m left kind state
behind program m zero kind state ends = absurd (never_now program m kind state 0 refl ends)
behind program m (suc left) kind state ends = record { fewer = left; count = omega arith; ends = ends }

-- the walk goes on behind a step
pub step_on : (words : Words) (at ended : Stand) (frame incoming memory shown taken cells : List ℕ) (kind : Kind) (state : State) (c : ComesTo words at frame incoming memory kind state) → ended.work ≡ at.work + 1
    → StepsTo words c.machine None ended shown taken cells → ComesTo words ended shown taken cells kind state
step_on words at ended frame incoming memory shown taken cells kind state c work (next, steps, stands) =
    let b = behind (program_of words.insts) c.machine c.left kind state c.ends in
    record {
      machine = next;
      stands = stands;
      left = b.fewer;
      count = let count = c.count in let more = b.count in omega (arith, work, count, more);
      ends = ap (λ (s : Option Step). end_after s (run b.fewer (program_of words.insts))) (sym steps) ∙ b.ends;
    }

same_some : {A : Type 0} (x y : A) → Some x ≡ Some y → x ≡ y
same_some x y is = cc

same_end : (a b : Kind) (x y : State) → ◌≡◌ {A = Option (Kind × State)} (Some (a, x)) (Some (b, y)) → (a ≡ b) × (x ≡ y)
same_end a b x y is =
    let p : Kind × State = (a, x) in let q : Kind × State = (b, y) in let e : p ≡ q = same_some p q is in
    (ap (λ (p : Kind × State). p.0) e, ap (λ (p : Kind × State). p.1) e)

-- the walk ends there
pub step_ends : (words : Words) (at ended : Stand) (frame incoming memory shown taken cells : List ℕ) (own kind : Kind) (state : State) (c : ComesTo words at frame incoming memory kind state)
    → StepsTo words c.machine (Some own) ended shown taken cells → EndsSo words (record { kind = own; work = ended.work }) cells kind state
step_ends words at ended frame incoming memory shown taken cells own kind state c (last, steps, work, holds) =
    let b = behind (program_of words.insts) c.machine c.left kind state c.ends in
    let e = same_end own kind last state (ap (λ (s : Option Step). end_after s (run b.fewer (program_of words.insts))) (sym steps) ∙ b.ends) in
    record { kind_is = e.0; work = ap (λ (s : State). s.steps) (sym e.1) ∙ work; holds = subst (λ (s : State). ShowsMemory (program_of words.insts) cells s.memory) e.1 holds }

pub no_end : (found : Option Kind) → ((kind : Kind) → found ≡ Some kind → ⊥) → found ≡ None
no_end None isnt = refl
no_end (Some kind) isnt = absurd (isnt kind refl)
