use Rattle.spv_text.proofs.FieldTexts.{string_pushed}
use Rattle.spv_text.proofs.line.push_operand.Goals as goal

pub returns-in-LiteralString : goal.returns-in-LiteralString
returns-in-LiteralString c =
    string_pushed c.push_string.result c.args.operand c.args.text.now.items c.extend_from_slice.new.self.items c.push_string.new.text.items c.args.words.now
    c.in-LiteralString.is c.in_ok-extend_from_slice-in-LiteralString.ensures.items c.push_string.ensures
