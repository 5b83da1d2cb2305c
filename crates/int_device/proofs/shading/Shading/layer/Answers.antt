use Rattle.std.proofs.Common.{◌+◌, ◌∙◌, arith}
use Rattle.int_device.specs.Draws.{fragments_in_row, fragments_in_layer}
use Rattle.int_device.proofs.Shades.{draws_next, layer_more}
use Rattle.int_device.proofs.shading.Shading.layer.Goals as goal

pub loop-i-preserved : goal.loop-i-preserved
loop-i-preserved c =
    let a = c.args in
    record {
      draws = draws_next a.self.now c.loop-i.self a.canvas.now c.loop-i.canvas c.row-work.new.canvas c.loop-i.work c.row-work.result
          (fragments_in_layer a.p.now a.columns.0 a.columns.1 a.rows.0 c.loop-i.i a.layer) (fragments_in_row a.p.now a.columns.0 a.columns.1 a.layer (a.rows.0 + c.loop-i.i))
          (fragments_in_layer a.p.now a.columns.0 a.columns.1 a.rows.0 (c.loop-i.i + 1) a.layer)
          c.loop-i.invariant.same c.loop-i.invariant.draws c.row-work.ensures.draws (layer_more a.p.now a.columns.0 a.columns.1 a.rows.0 c.loop-i.i a.layer);
      bound = omega (arith, c.loop-i.invariant.bound, c.row-work.ensures.bound);
      same = c.row-work.ensures.same ∙ c.loop-i.invariant.same;
    }
