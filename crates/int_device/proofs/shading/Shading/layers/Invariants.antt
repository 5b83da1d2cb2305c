use Rattle.std.proofs.Common.{◌≡◌, ◌*◌, ◌^◌, ◌≤◌}
use Rattle.int_device.specs.Draws.{Draws, fragments_in_layers}
use Rattle.int_device.proofs.shading.Shading.layers.Given as goal

abbrev pub invariant-loop-layer : goal.invariant-loop-layer
invariant-loop-layer l = record {
  draws : Draws l.fn.self l.fn.canvas l.canvas l.work (fragments_in_layers l.p l.columns.0 l.columns.1 l.rows.0 l.rows.1 l.mask l.layer);
  bound : l.work ≤ l.layer * 2 ^ 43;
  same : l.self ≡ l.fn.self;
}
