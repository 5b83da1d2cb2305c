use Rattle.change_model.proofs.ShortWords.{short}
use Rattle.unit_records.proofs.write.module_words.Goals as goal

pub write_module-requires-clause-short : goal.write_module-requires-clause-short
write_module-requires-clause-short c k d within = short c.args.own.now c.insts.ensures.valid.writable c.insts.result.now c.insts.ensures.are k d within
