-- What answers cite of the number of fields.
use Rattle.trace_text.proofs.EachField.{exactly-by_each, at_most-by_each, some_of-by_at_most}

pub ruleset counted = (exactly-by_each, at_most-by_each, some_of-by_at_most)
