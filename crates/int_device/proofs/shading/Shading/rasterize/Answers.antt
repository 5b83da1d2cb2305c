use Rattle.int_device.specs.Draws.{Shade}
use Rattle.int_device.proofs.BoxFragments.{draws_boxed}
use Rattle.int_device.proofs.shading.Shading.rasterize.Goals as goal

pub returns-clause-draws : goal.returns-clause-draws
returns-clause-draws c =
    let i = c.self.inside in
    let of : Shade = record { stage = record { insts = i.run.words.insts; part = i.part; output = i.output }; dynamic = i.dynamic.now; buffers = i.buffers.now } in
    draws_boxed c.args.self.now of c.args.canvas.now c.layers.new.canvas c.layers.result c.args.p.now c.args.view_mask c.layers_of.result
    c.columns_of-columns.result.0 c.columns_of-columns.result.1 c.rows_of-rows.result.0 c.rows_of-rows.result.1
    c.self.view_is c.layers_of.ensures c.columns_of-columns.ensures c.rows_of-rows.ensures c.layers.ensures.draws
