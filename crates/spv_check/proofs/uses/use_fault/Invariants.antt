use Rattle.std.proofs.Common.{◌≡◌, List, None}
use Rattle.check_model.specs.Intervals.{Interval}
use Rattle.check_model.specs.Storage.{is_in_function}
use Rattle.check_model.specs.Validity.{first_use_fault, use_fault_at}
use Rattle.spv_check.specs.TypingIn.{AreModuleIds}
use Rattle.spv_check.specs.Uses.{AreHidden}
use Rattle.spv_check.proofs.uses.use_fault.Given as goal

abbrev pub invariant-loop-place : goal.invariant-loop-place
invariant-loop-place l = record {
  told : AreModuleIds l.words l.known;
  inside : l.in_function ≡ is_in_function l.words.insts l.place;
  faultless : (intervals : List Interval) → AreHidden intervals l.words.insts l.hidden → first_use_fault (use_fault_at intervals l.words.insts) l.place ≡ None;
}
