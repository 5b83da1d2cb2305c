use Rattle.std.proofs.Common.{◌≡◌, ℕ, ◌-◌, ◌<◌, ◌≤◌, ◌==◌, true, length}
use Rattle.spirv_model.specs.declared.op.TheConstants as op
use Rattle.valid_model.specs.Definitions.{inst_at}
use Rattle.stage_model.specs.Program.{program_of}
use Rattle.stage_model.specs.Start.{Values}
use Rattle.frame_model.specs.Shown.{IsFrame}
use Rattle.spv_exec.specs.Phis.{PhisRead}
use Rattle.spv_exec.proofs.PhiWords.{ShowsTakenUpTo}
use Rattle.spv_exec.proofs.phis.take_phis.Given as goal

abbrev pub invariant-loop-place : goal.invariant-loop-place
invariant-loop-place l = record {
  low : l.first ≤ l.place;
  high : l.place ≤ length l.of.insts;
  phis : (place : ℕ) → l.first ≤ place → place < l.place → (inst_at l.of.insts place).op == op.PHI ≡ true;
  shows : (values : Values) → IsFrame (program_of l.of.insts) l.frame → IsFrame (program_of l.of.insts) l.fn.incoming → PhisRead (program_of l.of.insts) l.frame values l.before l.first
      → ShowsTakenUpTo (program_of l.of.insts) l.incoming values l.before l.first l.place;
}

abbrev pub decreases-loop-place : goal.decreases-loop-place
decreases-loop-place l = length l.of.insts - l.place
