use Rattle.std.proofs.Common.{◌+◌, ◌∙◌, arith}
use Rattle.int_device.specs.Draws.{fragments_in_row, fragments_at}
use Rattle.int_device.proofs.Shades.{draws_next, row_more}
use Rattle.int_device.proofs.shading.Shading.row.Goals as goal

pub loop-i-preserved : goal.loop-i-preserved
loop-i-preserved c =
    let a = c.args in
    record {
      draws = draws_next a.self.now c.loop-i.self a.canvas.now c.loop-i.canvas c.pixel-work.new.canvas c.loop-i.work c.pixel-work.result
          (fragments_in_row a.p.now a.left c.loop-i.i a.layer a.y) (fragments_at a.p.now a.layer a.y (a.left + c.loop-i.i)) (fragments_in_row a.p.now a.left (c.loop-i.i + 1) a.layer a.y)
          c.loop-i.invariant.same c.loop-i.invariant.draws c.pixel-work.ensures.draws (row_more a.p.now a.left c.loop-i.i a.layer a.y);
      bound = omega (arith, c.loop-i.invariant.bound, c.pixel-work.ensures.bound);
      same = c.pixel-work.ensures.same ∙ c.loop-i.invariant.same;
    }
