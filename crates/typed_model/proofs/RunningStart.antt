-- The machine is running where a valid module's function begins.
use Rattle.std.proofs.Common.{◌≡◌, ℕ, ◌+◌, ◌<◌, ◌==◌, ◌||◌, inl, nat_lt, Bool, true, false, if◌then◌else◌, List, length, take, ap, sym, ◌∙◌, subst, arith, Option, None, Some}
use Rattle.std.proofs.lemmas.Bool.{lt-ltb}
use Rattle.std.proofs.lemmas.List.Sums.{position_or_len_is}
use Rattle.spirv_model.specs.declared.module.Inst.{Inst}
use Rattle.spirv_model.specs.declared.module.Words.{Words}
use Rattle.spirv_model.specs.declared.op.TheConstants as op
use Rattle.body_model.specs.Classes.{is_module_level}
use Rattle.body_model.specs.Grammar.{Derives}
use Rattle.body_model.proofs.ClassFacts.{no_level_label}
use Rattle.body_model.proofs.Forward.{forward}
use Rattle.valid_model.specs.Definitions.{inst_at, no_instruction}
use Rattle.check_model.specs.Intervals.{intervals_of}
use Rattle.check_model.specs.Validity.{IsValidList}
use Rattle.stage_model.specs.Program.{program_of}
use Rattle.stage_model.specs.Start.{defined_by}
use Rattle.stage_model.specs.Stage.{Given, start_at, first_label}
use Rattle.typed_model.specs.Judgement.{AreTyped}
use Rattle.typed_model.specs.Running.{IsRunning}
use Rattle.typed_model.proofs.BlockParts.{another, clash}
use Rattle.typed_model.proofs.FirstBlocks.{found_at}
use Rattle.typed_model.proofs.FunctionParts.{function_starts}
use Rattle.typed_model.proofs.RunningSteps.{same_insts}
use Rattle.typed_model.proofs.ValidFunctions.{front_of, valid_start}

level_test : (is_module_level op.LABEL || (op.LABEL == op.FUNCTION)) ≡ false
level_test = ap (λ (b : Bool). b || false) no_level_label

pub starts_with_label : (insts : List Inst) (d : Derives insts) → (inst_at insts (d.before + 1)).op == op.LABEL ≡ true
starts_with_label insts d = let s = function_starts insts d in ap (λ (i : Inst). i.op == op.LABEL) (found_at insts (d.before + 1) s.inst s.at) ∙ s.is

-- the function's first block has the first label of the list
pub first_label_is : (insts : List Inst) (d : Derives insts) → first_label insts ≡ Some (d.before + 1)
first_label_is insts d =
    let first = d.before + 1 in
    let f = forward insts d.sequence in
    let within : first < length insts = omega (arith, f.forward, d.last) in
    ap (λ (n : ℕ). if nat_lt n (length insts) then Some n else None)
    (position_or_len_is (λ (inst : Inst). inst.op == op.LABEL) insts first no_instruction (omega (arith, within))
    (λ k less. another (λ opcode. is_module_level opcode || (opcode == op.FUNCTION)) op.LABEL level_test (inst_at insts k).op ((front_of (record { insts = insts; bound = 0 }) d).level k less))
    (λ more. starts_with_label insts d))
    ∙ ap (λ (b : Bool). if b then Some first else None) (lt-ltb first (length insts) within)

-- the machine is running there
pub start_here : (words : Words) (v : IsValidList words) (given : Given) → IsRunning words.insts v.derivation (start_at (program_of words.insts) given (v.derivation.before + 1))
unfolding start_at
start_here words v given =
    let insts = words.insts in let d = v.derivation in let first = d.before + 1 in
    record {
      low = omega arith;
      high = let f = forward insts d.sequence in omega (arith, f.forward);
      typed = subst (λ l. AreTyped insts (intervals_of d) first (defined_by (program_of insts) given.entries (take first l))) (sym (same_insts insts)) (valid_start words v given.entries);
      enters = λ _. inl (λ other past upto. absurd (omega (arith, past, upto)));
      label = λ isnt. absurd (clash ((inst_at insts first).op == op.LABEL) (starts_with_label insts d) isnt);
      entered = λ isnt. absurd (clash ((inst_at insts first).op == op.LABEL) (starts_with_label insts d) isnt);
    }

-- the machine is running at the first label
pub running_start : (words : Words) (v : IsValidList words) (given : Given) (first : ℕ) → first_label words.insts ≡ Some first → IsRunning words.insts v.derivation (start_at (program_of words.insts) given first)
running_start words v given first is =
    subst (λ n. IsRunning words.insts v.derivation (start_at (program_of words.insts) given n)) (same_place (v.derivation.before + 1) first (sym (first_label_is words.insts v.derivation) ∙ is)) (start_here words v given)
  where
    same_place : (a b : ℕ) → ◌≡◌ {A = Option ℕ} (Some a) (Some b) → a ≡ b
    same_place a b is = cc
