use Rattle.std.proofs.Common.{◌+◌, refl}
use Rattle.int_device.proofs.DrawLaws.{all_one}
use Rattle.int_device.proofs.drawing.draw_primitive.Goals as goal

pub returns-clause-draws : goal.returns-clause-draws
returns-clause-draws c =
    let a = c.args in
    all_one a.vertices.now a.shading.now a.canvas.now c.draw_if.new.canvas (c.assemble-a.result.work + c.draw_if.result) c.draw_if.result a.instance a.primitive
    a.state.now c.assemble-a.result c.requires.dynamic c.requires.state c.assemble-a.ensures.is refl c.draw_if.ensures.draws
