use Rattle.int_device.proofs.WholeLaws.{draws_all, draws_none}
use Rattle.int_device.proofs.whole_draw.draw_primitives.Goals as goal

pub returns-then-count-eq0 : goal.returns-then-count-eq0
returns-then-count-eq0 c =
    draws_none c.args.vertices.now c.args.shading.now c.args.canvas.now c.args.state.now c.args.call.now c.primitive_count-count.result
    c.requires.state c.requires.call c.primitive_count-count.ensures.is c.if-count-eq0.true

pub returns : goal.returns
returns c =
    draws_all c.args.vertices.now c.args.shading.now c.args.canvas.now c.draw_instances.new.canvas c.draw_instances.result c.args.state.now c.args.call.now c.primitive_count-count.result
    c.requires.state c.requires.call c.primitive_count-count.ensures.is c.draw_instances.ensures
