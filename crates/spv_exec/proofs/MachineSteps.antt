-- What a running machine's step is, by the effect of the instruction at its place.
use Rattle.std.proofs.Common.{◌≡◌, ℕ, ◌+◌, ◌<◌, ◌≤◌, ◌==◌, Bool, true, false, if◌then◌else◌, List, [], ◌∷◌, slice_index, refl, ap, sym, ◌∙◌, subst, arith, Option, None, Some}
use Rattle.std.specs.Prelude.{slice_get}
use Rattle.std.specs.Option.{option_map, option_and_then}
use Rattle.spirv_model.specs.declared.module.Inst.{Inst}
use Rattle.spirv_model.specs.declared.module.Words.{Words}
use Rattle.spirv_model.specs.declared.op.TheConstants as op
use Rattle.spirv_model.specs.Operands.{word_at, entry_of, class_of}
use Rattle.body_model.specs.Classes.{is_terminator}
use Rattle.body_model.specs.Grammar.{Derives}
use Rattle.valid_model.specs.Definitions.{inst_at}
use Rattle.check_model.specs.Typing.{constant_word}
use Rattle.check_model.specs.Validity.{IsValidList}
use Rattle.stage_model.specs.declared.outcome.Kind.{Kind}
use Rattle.stage_model.specs.declared.outcome.Kind.TheVariants.{Done, Killed}
use Rattle.stage_model.specs.Value.{Value}
use Rattle.stage_model.specs.Program.{Program, program_of}
use Rattle.stage_model.specs.Start.{Memory, all_values}
use Rattle.stage_model.specs.Effect.{Effect, Passes, Gives, Enters, Goes, Stops, read_ids, effect_of}
use Rattle.stage_model.specs.Machine.{State, Machine, Step, GoesOn, read_from, after_effect, done, led, step}
use Rattle.stage_model.proofs.Flows.{Suits, effect_suits}
use Rattle.typed_model.specs.Running.{IsRunning}
use Rattle.typed_model.specs.Effects.{IsTypedEffect}
use Rattle.typed_model.specs.Types.{AllSuit}
use Rattle.typed_model.proofs.BlockParts.{clash}
use Rattle.typed_model.proofs.FirstBlocks.{found_at}
use Rattle.typed_model.proofs.FunctionParts.{function_fits}
use Rattle.typed_model.proofs.InstructionsRun.{Does}
use Rattle.typed_model.proofs.LabelsBefore.{stands_there}
use Rattle.typed_model.proofs.RunningDoes.{here_does}
use Rattle.typed_model.proofs.RunningGoes.{running_goes}
use Rattle.typed_model.proofs.RunningSteps.{same_insts}
use Rattle.typed_model.proofs.StepsDone.{done_by}

abbrev pub here : Words → Machine → Inst
here words m = inst_at words.insts m.place

-- what the instruction does where the machine runs
abbrev pub DoesHere : Words → Machine → Type 0
DoesHere words m = Does words.insts (read_from m.state (here words m).op) m.state.memory m.state.before (here words m)

pub does_here : (words : Words) (v : IsValidList words) (m : Machine) → IsRunning words.insts v.derivation m → DoesHere words m
does_here words v m r = here_does words v m r

-- the step leads where the effect does
pub step_led : (words : Words) (v : IsValidList words) (m : Machine) → IsRunning words.insts v.derivation m → (d : DoesHere words m) → step (program_of words.insts) m ≡ led (program_of words.insts) m.place (after_effect (here words m) m.state d.runs.effect)
unfolding step
step_led words v m r d =
    let program = program_of words.insts in
    ap (λ (l : List Inst). option_and_then (led program m.place) (option_and_then (λ inst. done program inst m.state) (slice_get l m.place))) (same_insts words.insts)
    ∙ (ap (λ (o : Option Inst). option_and_then (led program m.place) (option_and_then (λ inst. done program inst m.state) o)) (stands_there words.insts v.derivation m.place r.low r.high)
    ∙ ap (option_and_then (led program m.place)) (done_by words.insts m.state (here words m) (read_from m.state (here words m).op) refl d))

-- by its effect
pub step_by : (words : Words) (v : IsValidList words) (m : Machine) → IsRunning words.insts v.derivation m → (d : DoesHere words m) (effect : Effect) → d.runs.effect ≡ effect
    → step (program_of words.insts) m ≡ led (program_of words.insts) m.place (after_effect (here words m) m.state effect)
step_by words v m r d effect is = step_led words v m r d ∙ ap (λ (effect : Effect). led (program_of words.insts) m.place (after_effect (here words m) m.state effect)) is

-- the machine runs on where the step goes
pub runs_next : (words : Words) (v : IsValidList words) (m : Machine) → IsRunning words.insts v.derivation m → (next : Machine) → step (program_of words.insts) m ≡ Some (GoesOn next) → IsRunning words.insts v.derivation next
runs_next words v m r next is = let g = running_goes words v m r in g.on next (same_step (step (program_of words.insts) m) g.to (GoesOn next) g.is is)
  where
    same_step : (found : Option Step) (a b : Step) → found ≡ Some a → found ≡ Some b → a ≡ b
    same_step found a b is also = cc

-- what a terminator does suits it
pub suits_here : (words : Words) (m : Machine) (d : DoesHere words m) (effect : Effect) → d.runs.effect ≡ effect → Suits (here words m) (Some effect)
suits_here words m d effect is =
    subst (λ (e : Effect). Suits (here words m) (Some e)) is (subst (Suits (here words m)) d.runs.is (effect_suits (program_of words.insts) m.state.memory (here words m) d.read))

-- ---- what stands behind

-- behind an instruction that is no terminator, no label and no phi stands no phi
pub no_phi_behind : (insts : List Inst) (d : Derives insts) (place : ℕ) → d.before + 1 ≤ place → place < d.after → is_terminator (inst_at insts place).op ≡ false → (inst_at insts place).op == op.LABEL ≡ false
    → (inst_at insts place).op == op.PHI ≡ false → (inst_at insts (place + 1)).op == op.PHI ≡ false
no_phi_behind insts d place low high isnt no_label no_phi =
    let f = function_fits insts d place low high in
    let e : inst_at insts place ≡ f.inst = found_at insts place f.inst f.at in
    let straight : is_terminator f.inst.op ≡ false = ap (λ (i : Inst). is_terminator i.op) (sym e) ∙ isnt in
    f.phis straight (ap (λ (i : Inst). i.op == op.LABEL) (sym e) ∙ no_label) (ap (λ (i : Inst). i.op == op.PHI) (sym e) ∙ no_phi) (inst_at insts (place + 1))
    (stands_there insts d (place + 1) (omega (arith, low)) (f.on straight))

-- ---- values that it reads

chosen : {A : Type 0} (x y z : A) (b : Bool) → b ≡ false → (if b then y else x) ≡ (if b then z else x)
chosen x y z true isnt = cc
chosen x y z false isnt = refl

-- any but a phi reads the same, wherever control came from
pub reads_alike : (opcode before other : ℕ) (words : List ℕ) → opcode == op.PHI ≡ false → read_ids opcode before words ≡ read_ids opcode other words
unfolding read_ids
reads_alike opcode before other words isnt = chosen _ _ _ (opcode == op.PHI) isnt
