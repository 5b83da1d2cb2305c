use Rattle.spv_words.proofs.IdLists.{unfit-ids, fitting-ids}
use Rattle.spirv_model.specs.Operands.{listed_of}
use Rattle.spv_words.proofs.operands.ids_of.Goals as goal

pub returns-then-not-fit : goal.returns-then-not-fit
returns-then-not-fit c = unfit-ids (listed_of c.args.operands.now) c.args.operands.now.rest c.args.words.now _ c.fit.ensures c.if-not-fit.true

pub returns : goal.returns
returns c = fitting-ids (listed_of c.args.operands.now) c.args.operands.now.rest c.args.words.now _ c.fit.ensures c.if-not-fit.false
