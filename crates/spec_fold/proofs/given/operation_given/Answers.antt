use Rattle.id_table.specs.Tables.{at}
use Rattle.spec_fold.proofs.NoResults.{none_large, none_few, none_many, too_large}
use Rattle.spec_fold.proofs.given.operation_given.Goals as goal

pub returns-in_default : goal.returns-in_default
returns-in_default c =
    none_large (at c.args.known.now) c.args.words.now c.first_word.result c.first_word.ensures (too_large c.try_from.result c.first_word.result c.try_from.ensures c.in_default.not-Ok)

pub returns-in_default-words : goal.returns-in_default-words
returns-in_default-words c = none_few (at c.args.known.now) c.args.words.now c.in_default-words.len_below

pub returns-in_default-words-2 : goal.returns-in_default-words-2
returns-in_default-words-2 c = none_many (at c.args.known.now) c.args.words.now c.in_default-words.len_at_least
