-- What code does: the meaning of each part, made of the meanings of its parts.
use Rattle.std.specs.Prelude.{ℕ, zero, suc, ◌+◌, ◌-◌, ◌==◌, nat_le, if◌then◌else◌, List, [], ◌∷◌, Option, None, Some}
use Rattle.limits.specs.declared.TheConstants.{BACK_EDGES}
use Rattle.spirv_model.specs.declared.module.Inst.{Inst}
use Rattle.body_model.specs.Code.{Code, Ends, GoesOn, Selects, Picks, Loops, CodeArm, Straight, Through, CodeArms, NoArm, ArmBehind}
use Rattle.stage_model.specs.declared.outcome.Kind.{Kind}
use Rattle.stage_model.specs.declared.outcome.Kind.TheVariants.{Lost}
use Rattle.stage_model.specs.Program.{Program}
use Rattle.stage_model.specs.Machine.{State, Flow, Next, To, Stopped, done}

-- where a part of a function leads from a state, and the state there; nothing where an instruction can't be done
abbrev pub Run : Type 0
Run = State → Option (Flow × State)

-- it leads on from a state
abbrev pub led_on : Option (Flow × State) → (Flow → Run) → Option (Flow × State)
led_on None go = None
led_on (Some (flow, state)) go = go flow state

-- control goes to a label that isn't in the part
abbrev pub leaves : ℕ → Run
leaves label state = Some (To label, state)

-- what comes of a flow to a label; an invocation that has ended stays so
abbrev pub at_label : (ℕ → Run) → Flow → Run
at_label go Next state = None
at_label go (To label) state = go label state
at_label go (Stopped kind) state = Some (Stopped kind, state)

abbrev pub onward : Run → (ℕ → Run) → Run
onward run go state = led_on (run state) (at_label go)

-- the same, where the flow goes to this label; to any other one it leaves
abbrev pub onward_at : Run → ℕ → Run → Run
onward_at run label next = onward run (λ to. if to == label then next else leaves to)

-- the instructions of a block, one after another
abbrev pub after_inst : Run → Flow → Run
after_inst rest Next state = rest state
after_inst rest (To label) state = Some (To label, state)
after_inst rest (Stopped kind) state = Some (Stopped kind, state)

abbrev pub block : Program → List Inst → Run
block program [] state = Some (Next, state)
block program (inst ∷ insts) state = led_on (done program inst state) (after_inst (block program insts))

-- ---- loops

-- one more back edge, and then a further turn; the last back edge that is allowed loses the invocation
abbrev pub turned : Run → Run
turned again state =
    if nat_le BACK_EDGES (state.back_edges + 1)
    then Some (Stopped Lost, record state { back_edges = state.back_edges + 1 })
    else again (record state { back_edges = state.back_edges + 1 })

-- a loop with this merge block: its header, condition sequence, body and continue sequence, so many turns at most
abbrev pub turns : ℕ → ℕ → (header condition body step : Run) → Run
turns zero merge header condition body step state = None
turns (suc n) merge header condition body step state =
    onward header (λ _. onward condition (λ to. if to == merge then leaves merge
    else onward body (λ to. if to == merge then leaves merge
    else onward step (λ _. turned (turns n merge header condition body step))))) state

-- as many turns as there are back edges left
abbrev pub looped : ℕ → (header condition body step : Run) → Run
looped merge header condition body step state = turns (BACK_EDGES - state.back_edges) merge header condition body step state

-- ---- code

abbrev mutual
  pub eval : Program → Code → Run
  eval program (Ends insts end) = block program insts
  eval program (GoesOn insts rest) = onward (block program insts) (λ _. eval program rest)
  eval program (Selects insts cond merge on_true on_false if_true if_false rest) =
      onward_at (onward (block program insts) (λ to. if to == on_true then eval_arm program merge if_true else eval_arm program merge if_false)) merge (eval program rest)
  eval program (Picks insts selector merge default cases arms rest) =
      onward_at (onward (block program insts) (λ to. if to == merge then leaves merge else eval_arms program arms to)) merge (eval program rest)
  eval program (Loops insts merge next test condition inner step rest) =
      onward_at (looped merge (block program insts) (eval program condition) (eval program inner) (eval program step)) merge (eval program rest)

  -- a way straight to the merge block leads there
  pub eval_arm : Program → ℕ → CodeArm → Run
  eval_arm program merge Straight = leaves merge
  eval_arm program merge (Through code) = eval program code

  -- the arm with a label
  pub eval_arms : Program → CodeArms → ℕ → Run
  eval_arms program NoArm to = λ state. None
  eval_arms program (ArmBehind arms label code) to = if to == label then eval program code else eval_arms program arms to
