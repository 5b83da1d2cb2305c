use Rattle.std.proofs.Common.{◌∙◌, sym}
use Rattle.trace_text.proofs.FormatNames.{format-is_named}
use Rattle.trace_text.proofs.field_values.format_value.Goals as goal

pub returns-clause-value : goal.returns-clause-value
returns-clause-value c = c.format_named.ensures.value ∙ sym (format-is_named c.args.field.now)
