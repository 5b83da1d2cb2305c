-- A running machine finds an instruction at its place, and the values that it reads; so it is done.
use Rattle.std.proofs.Common.{◌≡◌, ℕ, ◌+◌, ◌<◌, ◌≤◌, ◌==◌, inl, inr, Bool, true, false, List, refl, ap, sym, ◌∙◌, subst, arith}
use Rattle.std.proofs.lemmas.Bool.{cases_lt}
use Rattle.spirv_model.specs.declared.module.Inst.{Inst}
use Rattle.spirv_model.specs.declared.module.Words.{Words}
use Rattle.spirv_model.specs.declared.op.TheConstants as op
use Rattle.body_model.specs.Grammar.{Derives}
use Rattle.valid_model.specs.Definitions.{inst_at}
use Rattle.check_model.specs.Validity.{IsValidList}
use Rattle.stage_model.specs.Start.{Values}
use Rattle.stage_model.specs.Machine.{State, Machine, read_from}
use Rattle.typed_model.specs.Running.{Came, IsEntered, IsRunning, Acts}
use Rattle.typed_model.proofs.BlockParts.{another, clash}
use Rattle.typed_model.proofs.FunctionParts.{function_starts}
use Rattle.typed_model.proofs.FunctionRuns.{function_does}
use Rattle.typed_model.proofs.InstructionsRun.{Does}
use Rattle.typed_model.proofs.StepsDone.{reads_now, reads_entry, done_by}
use Rattle.typed_model.proofs.FirstBlocks.{found_at, no_phi_first}
use Rattle.typed_model.proofs.LabelsBefore.{stands_there}
use Rattle.typed_model.proofs.PhiRuns.{phi_does}
use Rattle.typed_model.proofs.VariableRuns.{variable_does}

-- what is no label stands behind the function's first one
pub behind_start : (insts : List Inst) (d : Derives insts) (place : ℕ) → d.before + 1 ≤ place → (inst_at insts place).op == op.LABEL ≡ false → d.before + 1 < place
behind_start insts d place low isnt = elim (cases_lt (d.before + 1) place) [
  | inl more ↦ more
  | inr upto ↦
      let s = function_starts insts d in let e : d.before + 1 ≡ place = omega (arith, low, upto) in
      absurd (clash ((inst_at insts place).op == op.LABEL) (ap (λ (n : ℕ). (inst_at insts n).op == op.LABEL) (sym e) ∙ (ap (λ (i : Inst). i.op == op.LABEL) (found_at insts (d.before + 1) s.inst s.at) ∙ s.is)) isnt)
]

-- its block was entered by a branch
entered_does : (words : Words) (v : IsValidList words) (m : Machine) → IsRunning words.insts v.derivation m → (inst_at words.insts m.place).op == op.PHI ≡ true → (inst_at words.insts m.place).op == op.LABEL ≡ false
    → IsEntered words.insts v.derivation m.place m.state.label m.state.before m.state.values_at_entry → Does words.insts m.state.values_at_entry m.state.memory m.state.before (inst_at words.insts m.place)
entered_does words v m r is isnt (inl first) =
    absurd (clash ((inst_at words.insts m.place).op == op.PHI) is (no_phi_first words.insts v.derivation m.place (behind_start words.insts v.derivation m.place r.low isnt) r.high first))
entered_does words v m r is isnt (inr came) =
    phi_does words v m.place r.low r.high is m.state.before m.state.values_at_entry (subst (λ l. Came words.insts v.derivation l m.state.before m.state.values_at_entry) (r.label isnt) came) m.state.memory

-- it reads the values that are there now, or those at its block's entry
does_from : (insts : List Inst) (state : State) (inst : Inst) (values : Values) → read_from state inst.op ≡ values → Does insts values state.memory state.before inst → Does insts (read_from state inst.op) state.memory state.before inst
does_from insts state inst values is d = subst (λ (values : Values). Does insts values state.memory state.before inst) (sym is) d

pub here_does : (words : Words) (v : IsValidList words) (m : Machine) → IsRunning words.insts v.derivation m → Does words.insts (read_from m.state (inst_at words.insts m.place).op) m.state.memory m.state.before (inst_at words.insts m.place)
here_does words v m r = by_phi (inst.op == op.PHI) (inst.op == op.VARIABLE) refl refl
  where
    inst : Inst
    inst = inst_at words.insts m.place

    by_phi : (phi variable : Bool) → inst.op == op.PHI ≡ phi → inst.op == op.VARIABLE ≡ variable → Does words.insts (read_from m.state inst.op) m.state.memory m.state.before inst
    by_phi true variable is of =
        let isnt = another (λ opcode. opcode == op.PHI) op.LABEL refl inst.op is in
        does_from words.insts m.state inst m.state.values_at_entry (reads_entry m.state (inst.op == op.PHI) is) (entered_does words v m r is isnt (r.entered isnt))
    by_phi false true isnt is =
        does_from words.insts m.state inst m.state.values (reads_now m.state (inst.op == op.PHI) isnt) (variable_does words v m.place r.low r.high is m.state.values m.state.memory m.state.before)
    by_phi false false isnt other =
        does_from words.insts m.state inst m.state.values (reads_now m.state (inst.op == op.PHI) isnt) (function_does words v m.place r.low r.high m.state.values r.typed m.state.memory m.state.before isnt other)

-- the instruction at a running machine's place is done, with values that suit their ids and a result of its type
pub running_does : (words : Words) (v : IsValidList words) (m : Machine) → IsRunning words.insts v.derivation m → Acts words.insts m
running_does words v m r =
    let inst = inst_at words.insts m.place in
    let d = here_does words v m r in
    record {
      inst = inst;
      at = stands_there words.insts v.derivation m.place r.low r.high;
      read = d.read;
      are = d.are;
      suit = d.suit;
      runs = d.runs;
      is_done = done_by words.insts m.state inst (read_from m.state inst.op) refl d;
    }
