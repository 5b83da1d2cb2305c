use Rattle.typed_model.proofs.ValidTypes.{defined_within}
use Rattle.spv_exec.proofs.composites.operand_words.Goals as goal

pub frame_words-requires : goal.frame_words-requires
frame_words-requires c = defined_within c.args.of.now.insts c.args.id c.in-Some.place (cc)
