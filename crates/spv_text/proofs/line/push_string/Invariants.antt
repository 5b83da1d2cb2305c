use Rattle.std.proofs.Common.{◌≡◌, ◌++◌, length}
use Rattle.spv_text.specs.Pieces.{after_string, string_digits}
use Rattle.spv_text.proofs.line.push_string.Given as goal

abbrev pub invariant-loop-word : goal.invariant-loop-word
invariant-loop-word l = record {
  pushed : l.text.items ++ string_digits l.rest ≡ l.fn.text.items ++ string_digits l.words;
  left : after_string l.rest ≡ after_string l.words;
}

abbrev pub decreases-loop-word : goal.decreases-loop-word
decreases-loop-word l = length l.rest
