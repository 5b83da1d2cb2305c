use Rattle.std.proofs.Common.{ap, subst, sym, ◌∙◌}
use Rattle.trace_model.specs.LineForms.{line_of}
use Rattle.trace_text.specs.Taking.{Takes, before_of, given_by}
use Rattle.trace_model.specs.LineForms.{line_of_fields}
use Rattle.trace_text.proofs.GivenLines.{given_line}
use Rattle.trace_text.proofs.made.Made.take_line.Goals as goal

pub returns : goal.returns
unfolding line_of
returns c =
    let gives =
    ap (λ fields. given_by (before_of c.args.self.now) (line_of_fields c.args.version fields)) c.new-fields.ensures
    ∙ sym (given_line c.args.version (before_of c.args.self.now) c.args.line.now) in
    subst (Takes c.take_fields.result (before_of c.take_fields.new.self)) gives c.take_fields.ensures
