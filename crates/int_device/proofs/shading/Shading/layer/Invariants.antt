use Rattle.std.proofs.Common.{◌≡◌, ◌*◌, ◌^◌, ◌≤◌}
use Rattle.int_device.specs.Draws.{Draws, fragments_in_layer}
use Rattle.int_device.proofs.shading.Shading.layer.Given as goal

abbrev pub invariant-loop-i : goal.invariant-loop-i
invariant-loop-i l = record {
  draws : Draws l.fn.self l.fn.canvas l.canvas l.work (fragments_in_layer l.p l.left l.width l.top l.i l.layer);
  bound : l.work ≤ l.i * 2 ^ 35;
  same : l.self ≡ l.fn.self;
}
