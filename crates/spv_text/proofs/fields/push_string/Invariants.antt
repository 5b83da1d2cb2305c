use Rattle.std.proofs.Common.{◌≡◌, ◌++◌, ◌/◌, length}
use Rattle.listing_model.specs.Spelling.{string_words}
use Rattle.spv_text.proofs.fields.push_string.Given as goal

abbrev pub invariant-loop-rest : goal.invariant-loop-rest
invariant-loop-rest l =
    l.words.items ++ string_words (length l.rest / 8) l.rest ≡ l.fn.words.items ++ string_words (length l.digits / 8) l.digits

abbrev pub decreases-loop-rest : goal.decreases-loop-rest
decreases-loop-rest l = length l.rest
