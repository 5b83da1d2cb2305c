use Rattle.std.proofs.Common.{◌≡◌, ◌*◌, ◌^◌, ◌≤◌}
use Rattle.int_device.specs.Draws.{Draws, fragments_in_row}
use Rattle.int_device.proofs.shading.Shading.row.Given as goal

abbrev pub invariant-loop-i : goal.invariant-loop-i
invariant-loop-i l = record {
  draws : Draws l.fn.self l.fn.canvas l.canvas l.work (fragments_in_row l.p l.left l.i l.layer l.y);
  bound : l.work ≤ l.i * 2 ^ 27;
  same : l.self ≡ l.fn.self;
}
