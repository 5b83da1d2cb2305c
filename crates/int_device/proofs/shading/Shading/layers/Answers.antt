use Rattle.std.proofs.Common.{◌+◌, ◌∙◌, arith}
use Rattle.int_device.specs.Draws.{fragments_if_masked, fragments_in_layers}
use Rattle.int_device.proofs.Shades.{draws_next, layers_more}
use Rattle.int_device.proofs.shading.Shading.layers.Goals as goal

pub loop-layer-preserved : goal.loop-layer-preserved
loop-layer-preserved c =
    let a = c.args in
    let n = c.loop-layer.layer in
    record {
      draws = draws_next a.self.now c.loop-layer.self a.canvas.now c.loop-layer.canvas c.masked_layer-work.new.canvas c.loop-layer.work c.masked_layer-work.result
          (fragments_in_layers a.p.now a.columns.0 a.columns.1 a.rows.0 a.rows.1 a.mask n) (fragments_if_masked a.p.now a.columns.0 a.columns.1 a.rows.0 a.rows.1 a.mask n)
          (fragments_in_layers a.p.now a.columns.0 a.columns.1 a.rows.0 a.rows.1 a.mask (n + 1))
          c.loop-layer.invariant.same c.loop-layer.invariant.draws c.masked_layer-work.ensures.draws (layers_more a.p.now a.columns.0 a.columns.1 a.rows.0 a.rows.1 a.mask n);
      bound = omega (arith, c.loop-layer.invariant.bound, c.masked_layer-work.ensures.bound);
      same = c.masked_layer-work.ensures.same ∙ c.loop-layer.invariant.same;
    }
