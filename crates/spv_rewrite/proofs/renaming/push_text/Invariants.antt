use Rattle.std.proofs.Common.{◌≡◌, ◌++◌, length}
use Rattle.spv_rewrite.specs.Renaming.{after_text, text_front}
use Rattle.spv_rewrite.proofs.renaming.push_text.Given as goal

abbrev pub invariant-loop-word : goal.invariant-loop-word
invariant-loop-word l = record {
  pushed : l.list ++ text_front l.rest ≡ l.fn.list ++ text_front l.words;
  left : after_text l.rest ≡ after_text l.words;
}

abbrev pub decreases-loop-word : goal.decreases-loop-word
decreases-loop-word l = length l.rest
