use Rattle.std.proofs.Common.{ap, ◌∙◌}
use Rattle.trace_model.specs.CodeText.{code_text}
use Rattle.gpl_play.proofs.Dues.{code_due, no_listing_fault}
use Rattle.gpl_play.proofs.text.code_of.Goals as goal

pub returns-in-Ok-code_text-clause-text : goal.returns-in-Ok-code_text-clause-text
returns-in-Ok-code_text-clause-text g c = record {
  all = code_due (g.S.Source.left c.args.source.now) c.in-Ok.words.items c.in-Ok-code_text.text.items c.in-Ok.ensures.words.all
      (c.in-Ok-code_text.ensures ∙ ap code_text c.as_slice.ensures.value);
  faultless = no_listing_fault (g.S.Source.left c.args.source.now) c.in-Ok.words.items c.in-Ok.ensures.words.all;
  ended = c.in-Ok.ensures.words.ended;
}
