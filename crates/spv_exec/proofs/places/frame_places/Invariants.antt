use Rattle.std.proofs.Common.{◌≡◌}
use Rattle.check_model.specs.Validity.{IsValidList}
use Rattle.stage_model.specs.Program.{program_of}
use Rattle.frame_model.specs.Frame.{frame_place}
use Rattle.spv_exec.proofs.PlacesTo.{AreTo}
use Rattle.spv_exec.proofs.places.frame_places.Given as goal

abbrev pub invariant-loop-inst : goal.invariant-loop-inst
invariant-loop-inst l = record {
  same : l.insts ≡ l.of.insts;
  valid : IsValidList l.of;
  to : AreTo (frame_place (program_of l.of.insts)) l.places.items l.next l.inst-index;
}
