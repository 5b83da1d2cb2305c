use Rattle.change_model.specs.Plans.{name_in}
use Rattle.spv_rewrite.proofs.KeptWords.{text_pushed}
use Rattle.spv_rewrite.proofs.renaming.push_operand.Goals as goal

pub returns-in-LiteralString : goal.returns-in-LiteralString
returns-in-LiteralString c =
    text_pushed (name_in c.args.names.now) c.push_text.result c.args.operand c.args.list.now c.push_text.new.list c.args.words.now c.in-LiteralString.is c.push_text.ensures
