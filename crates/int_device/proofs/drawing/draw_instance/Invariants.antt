use Rattle.std.proofs.Common.{◌≡◌, ◌*◌, ◌^◌, ◌≤◌}
use Rattle.int_device.specs.Scenes.{DrawsAll, primitives_in}
use Rattle.int_device.proofs.drawing.draw_instance.Given as goal

abbrev pub invariant-loop-primitive : goal.invariant-loop-primitive
invariant-loop-primitive l = record {
  draws : DrawsAll l.fn.vertices l.fn.shading l.fn.canvas l.canvas l.work (primitives_in l.fn.vertices l.primitive l.instance);
  bound : l.work ≤ l.primitive * 2 ^ 46;
  vertices : l.vertices ≡ l.fn.vertices;
  shading : l.shading ≡ l.fn.shading;
}
