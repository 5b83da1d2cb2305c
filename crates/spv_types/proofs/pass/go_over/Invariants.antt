use Rattle.std.proofs.Common.{◌≡◌, take}
use Rattle.valid_model.specs.Meanings.{known_by}
use Rattle.spv_types.specs.Tables.{in_table, FindsFirst}
use Rattle.spv_types.proofs.pass.go_over.Given as goal

abbrev pub invariant-loop-place : goal.invariant-loop-place
invariant-loop-place l = record {
  known : in_table l.table ≡ known_by (take l.place l.insts);
  first : FindsFirst l.words l.place l.found;
}
