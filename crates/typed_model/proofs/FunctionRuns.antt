-- In the function of a valid module each instruction runs where the judgement holds, phis and variables aside.
use Rattle.std.proofs.Common.{◌≡◌, ℕ, ◌+◌, ◌<◌, ◌≤◌, ◌==◌, false, List, length, sym, subst, arith}
use Rattle.std.proofs.lemmas.Option.{get_or_from_slice_get}
use Rattle.spirv_model.specs.declared.module.Inst.{Inst}
use Rattle.spirv_model.specs.declared.module.Words.{Words}
use Rattle.spirv_model.specs.declared.op.TheConstants as op
use Rattle.body_model.specs.Grammar.{Derives}
use Rattle.valid_model.specs.Definitions.{inst_at, no_instruction}
use Rattle.check_model.specs.Intervals.{intervals_of}
use Rattle.check_model.specs.Validity.{IsValidList}
use Rattle.stage_model.specs.Start.{Values, Memory}
use Rattle.typed_model.specs.Judgement.{AreTyped}
use Rattle.typed_model.proofs.ValidModules.{valid_sound, valid_seen}
use Rattle.typed_model.proofs.BlockParts.{BlockPart, a_label, a_phi, a_variable, a_selection_merge, a_loop_merge, a_plain_one, a_terminator}
use Rattle.typed_model.proofs.FunctionParts.{function_fits}
use Rattle.typed_model.proofs.InstructionsRun.{Does, plain_does, label_does, selection_merge_does, loop_merge_does, terminator_does}

-- what stands at a place of the function is a part of a block
pub part_at : (insts : List Inst) (d : Derives insts) (place : ℕ) → d.before + 1 ≤ place → place < d.after → BlockPart (inst_at insts place)
part_at insts d place low high =
    let f = function_fits insts d place low high in subst BlockPart (sym (get_or_from_slice_get insts place f.inst no_instruction f.at)) f.part

pub function_within : (insts : List Inst) (d : Derives insts) (place : ℕ) → place < d.after → place < length insts
function_within insts d place high = omega (arith, high, d.last)

pub function_does : (read : Words) (v : IsValidList read) (place : ℕ) → v.derivation.before + 1 ≤ place → place < v.derivation.after → (values : Values)
    → AreTyped read.insts (intervals_of v.derivation) place values → (memory : Memory) (before : ℕ) → (inst_at read.insts place).op == op.PHI ≡ false → (inst_at read.insts place).op == op.VARIABLE ≡ false
    → Does read.insts values memory before (inst_at read.insts place)
function_does read v place low high values typed memory before no_phi no_variable =
    let within = function_within read.insts v.derivation place high in
    by_part (part_at read.insts v.derivation place low high) within
  where
    by_part : BlockPart (inst_at read.insts place) → place < length read.insts → Does read.insts values memory before (inst_at read.insts place)
    by_part (a_label is) within = label_does read.insts values memory before (inst_at read.insts place) is
    by_part (a_phi is) within = cc
    by_part (a_variable is) within = cc
    by_part (a_selection_merge is) within = selection_merge_does read.insts values memory before (inst_at read.insts place) is
    by_part (a_loop_merge is) within = loop_merge_does read.insts values memory before (inst_at read.insts place) is
    by_part (a_plain_one is) within = plain_does read (valid_sound read v) (intervals_of v.derivation) place within (valid_seen read v place within) values typed memory before is
    by_part (a_terminator is) within = terminator_does read (valid_sound read v) (intervals_of v.derivation) place within (valid_seen read v place within) values typed memory before is
