use Rattle.std.proofs.Common.{◌+◌, ◌∙◌, [], ◌∷◌, arith}
use Rattle.int_device.specs.Scenes.{outcomes_in, primitives_in}
use Rattle.int_device.proofs.DrawLaws.{all_next, instance_more}
use Rattle.int_device.proofs.drawing.draw_instance.Goals as goal

pub loop-primitive-preserved : goal.loop-primitive-preserved
loop-primitive-preserved c =
    let a = c.args in
    let l = c.loop-primitive in
    let drawn = c.draw_primitive-work in
    record {
      draws = all_next a.vertices.now l.vertices a.shading.now l.shading a.canvas.now l.canvas drawn.new.canvas l.work drawn.result
          (primitives_in a.vertices.now l.primitive a.instance) (outcomes_in l.vertices a.instance l.primitive ∷ []) (primitives_in a.vertices.now (l.primitive + 1) a.instance)
          l.invariant.vertices l.invariant.shading l.invariant.draws drawn.ensures.draws (instance_more a.vertices.now l.vertices l.primitive a.instance l.invariant.vertices);
      bound = omega (arith, l.invariant.bound, drawn.ensures.bound);
      vertices = drawn.ensures.vertices ∙ l.invariant.vertices;
      shading = drawn.ensures.shading ∙ l.invariant.shading;
    }
