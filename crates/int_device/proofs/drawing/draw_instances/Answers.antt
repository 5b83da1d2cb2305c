use Rattle.std.proofs.Common.{◌+◌, ◌∙◌, arith}
use Rattle.int_device.specs.Scenes.{primitives_in, primitives_until}
use Rattle.int_device.proofs.DrawLaws.{all_next, instances_more}
use Rattle.int_device.proofs.drawing.draw_instances.Goals as goal

pub loop-instance-preserved : goal.loop-instance-preserved
loop-instance-preserved c =
    let a = c.args in
    let l = c.loop-instance in
    let drawn = c.draw_instance-work in
    record {
      draws = all_next a.vertices.now l.vertices a.shading.now l.shading a.canvas.now l.canvas drawn.new.canvas l.work drawn.result
          (primitives_until a.vertices.now a.count l.instance) (primitives_in l.vertices a.count l.instance) (primitives_until a.vertices.now a.count (l.instance + 1))
          l.invariant.vertices l.invariant.shading l.invariant.draws drawn.ensures.draws (instances_more a.vertices.now l.vertices a.count l.instance l.invariant.vertices);
      bound = omega (arith, l.invariant.bound, drawn.ensures.bound);
      vertices = drawn.ensures.vertices ∙ l.invariant.vertices;
      shading = drawn.ensures.shading ∙ l.invariant.shading;
    }
