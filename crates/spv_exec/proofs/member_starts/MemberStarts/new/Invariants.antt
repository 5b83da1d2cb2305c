use Rattle.std.proofs.Common.{◌≡◌}
use Rattle.check_model.specs.Validity.{IsValidList}
use Rattle.stage_model.specs.Program.{program_of}
use Rattle.spv_exec.proofs.StartsTo.{StartsTo}
use Rattle.spv_exec.proofs.member_starts.MemberStarts.new.Given as goal

abbrev pub invariant-loop-inst : goal.invariant-loop-inst
invariant-loop-inst l = record {
  same : l.insts ≡ l.of.insts;
  valid : IsValidList l.of;
  to : StartsTo (program_of l.of.insts) l.firsts.items l.starts.items l.inst-index;
}
