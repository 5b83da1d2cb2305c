use Rattle.std.proofs.Common.{◌≡◌, ◌+◌, drop}
use Rattle.std.specs.Option.{option_map}
use Rattle.spirv_model.specs.Operands.{text_words}
use Rattle.spv_words.proofs.operands.text_words.Given as goal

-- what is left of the text, behind the words that were passed
abbrev pub invariant-loop-place : goal.invariant-loop-place
invariant-loop-place l = option_map (λ n. n + l.place) (text_words (drop l.place l.words)) ≡ text_words l.words
