use Rattle.std.proofs.Common.{◌≡◌, ℕ, ◌<◌, false, get_or, take, length}
use Rattle.std.specs.Ordering.{nat_cmp}
use Rattle.std.specs.BTreeSet.{contains}
use Rattle.body_model.specs.Due.{has_label}
use Rattle.spv_tree.specs.Parts.{repeats}
use Rattle.spv_tree.proofs.labels.repeated_labels.Given as goal

abbrev pub invariant-loop-inst : goal.invariant-loop-inst
invariant-loop-inst l = record {
  lengths : length l.marks.items ≡ l.inst-index;
  each : (place : ℕ) → place < l.inst-index → get_or l.marks.items place false ≡ repeats l.insts place;
  seen : (label : ℕ) → contains nat_cmp l.seen label ≡ has_label (take l.inst-index l.insts) label;
}
