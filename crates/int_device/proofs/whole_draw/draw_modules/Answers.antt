use Rattle.std.proofs.Common.{refl, ◌∙◌}
use Rattle.std.specs.Option.{option_copied}
use Rattle.int_device.proofs.WholeLaws.{whole}
use Rattle.int_device.proofs.whole_draw.draw_modules.Goals as goal

pub returns-clause-image : goal.returns-clause-image
returns-clause-image c =
    let a = c.args in
    c.close.ensures
    ∙ (whole (record { vertex = a.vertex.now; fragment = option_copied a.fragment }) a.state.now a.dynamic.now a.call.now a.buffers.now a.targets.now
    c.draw_primitives-work.new.canvas c.draw_primitives-work.result
    a.vertex.now c.in_ok-vertices.vertices c.in_ok-shading.shading c.in_ok-canvas.canvas
    c.in_ok-vertices.ensures refl c.in_ok-shading.ensures c.in_ok-canvas.ensures.ok c.draw_primitives-work.ensures).image

pub returns-clause-work : goal.returns-clause-work
returns-clause-work c =
    let a = c.args in
    (whole (record { vertex = a.vertex.now; fragment = option_copied a.fragment }) a.state.now a.dynamic.now a.call.now a.buffers.now a.targets.now
    c.draw_primitives-work.new.canvas c.draw_primitives-work.result
    a.vertex.now c.in_ok-vertices.vertices c.in_ok-shading.shading c.in_ok-canvas.canvas
    c.in_ok-vertices.ensures refl c.in_ok-shading.ensures c.in_ok-canvas.ensures.ok c.draw_primitives-work.ensures).steps
