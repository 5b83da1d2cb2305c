use Rattle.std.proofs.Common.{ap, ◌∙◌}
use Rattle.listing_model.specs.ModuleTexts.{modules_text}
use Rattle.trace_model.specs.declared.whole.Trace.{Trace}
use Rattle.gpl_play.proofs.Dues.{listings_due, no_trace_fault}
use Rattle.gpl_play.proofs.text.listings_of.Goals as goal

pub returns-in-Ok-modules_text-clause-text : goal.returns-in-Ok-modules_text-clause-text
returns-in-Ok-modules_text-clause-text g c = record {
  all = listings_due (g.S.Source.left c.args.source.now) c.in-Ok.trace c.in-Ok-modules_text.text.items c.in-Ok.ensures.trace.all
      (c.in-Ok-modules_text.ensures ∙ ap modules_text c.as_slice.ensures ∙ ap (λ (t : Trace). modules_text t.modules) c.trace.view_is);
  faultless = no_trace_fault (g.S.Source.left c.args.source.now) c.in-Ok.trace c.in-Ok.ensures.trace.all;
  ended = c.in-Ok.ensures.trace.ended;
}
