use Rattle.spv_text.proofs.Assembling.{listed_answer, listing_answer}
use Rattle.spv_text.proofs.lines.assemble.Goals as goal

pub returns-clause-listing : goal.returns-clause-listing
returns-clause-listing c = listing_answer c.args.bytes.now c.assembled_words.result c.assembled_words.ensures.gives

pub returns-clause-complete : goal.returns-clause-complete
returns-clause-complete c = listed_answer c.args.bytes.now c.assembled_words.result c.assembled_words.ensures.gives
