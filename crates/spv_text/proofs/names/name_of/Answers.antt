use Rattle.spv_text.proofs.NameTables.{no_row, the_row}
use Rattle.spv_text.proofs.names.name_of.Goals as goal

pub returns-then-number-eq0 : goal.returns-then-number-eq0
returns-then-number-eq0 c = no_row c.args.op c.from.result c.byte_at-number.result c.from.ensures c.byte_at-number.ensures.value c.if-number-eq0.true

pub returns : goal.returns
returns c =
    the_row c.args.op c.from.result c.byte_at-number.result c.row_name.result.now c.from.ensures c.byte_at-number.ensures.value c.if-number-eq0.false
    c.row_name.ensures
