use Rattle.std.proofs.Common.{◌≡◌, ◌++◌, ◌∷◌, take}
use Rattle.std.specs.List.{flat_map}
use Rattle.trace_model.specs.Text.{word_text}
use Rattle.trace_text.proofs.print_targets.push_sample.Given as goal

abbrev pub invariant-loop-word : goal.invariant-loop-word
invariant-loop-word l = l.text.items ≡ l.initial.text.items ++ flat_map (λ word. 44 ∷ word_text word) (take l.word-index l.others)
