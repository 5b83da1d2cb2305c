use Rattle.std.proofs.Common.{◌≡◌, ◌*◌, ◌^◌, ◌≤◌}
use Rattle.int_device.specs.Scenes.{DrawsAll, primitives_until}
use Rattle.int_device.proofs.drawing.draw_instances.Given as goal

abbrev pub invariant-loop-instance : goal.invariant-loop-instance
invariant-loop-instance l = record {
  draws : DrawsAll l.fn.vertices l.fn.shading l.fn.canvas l.canvas l.work (primitives_until l.fn.vertices l.count l.instance);
  bound : l.work ≤ (l.count * l.instance) * 2 ^ 46;
  vertices : l.vertices ≡ l.fn.vertices;
  shading : l.shading ≡ l.fn.shading;
}
