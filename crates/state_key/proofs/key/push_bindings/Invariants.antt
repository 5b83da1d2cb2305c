use Rattle.std.proofs.Common.{◌≡◌, ◌++◌, map, take}
use Rattle.state_model.specs.Key.{binding_word}
use Rattle.state_key.proofs.key.push_bindings.Given as goal

abbrev pub invariant-loop-binding : goal.invariant-loop-binding
invariant-loop-binding l = l.words ≡ l.initial.words ++ map binding_word (take l.binding-index l.bindings)
