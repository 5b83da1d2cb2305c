use Rattle.std.proofs.Common.{◌≡◌, ◌++◌, map, take}
use Rattle.state_model.specs.Key.{attribute_word}
use Rattle.state_key.proofs.key.push_attributes.Given as goal

abbrev pub invariant-loop-attribute : goal.invariant-loop-attribute
invariant-loop-attribute l = l.words ≡ l.initial.words ++ map attribute_word (take l.attribute-index l.attributes)
