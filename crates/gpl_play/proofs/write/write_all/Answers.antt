use Rattle.std.proofs.Common.{◌∙◌}
use Rattle.gpl_play.proofs.Streams.{written_next}
use Rattle.gpl_play.proofs.write.write_all.Goals as goal

pub loop-rest-preserved : goal.loop-rest-preserved
loop-rest-preserved g c = record {
  written = written_next _ _ _ c.args.text.now c.loop-rest.rest.now c.split_at.result.1.now c.in_ok-count.count c.loop-rest.invariant.written
      c.in_ok-count.ensures.appends c.split_at.ensures.back;
  unraised = c.in_ok-count.ensures.unraised ∙ c.loop-rest.invariant.unraised;
}
