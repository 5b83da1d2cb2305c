use Rattle.std.proofs.Common.{◌≡◌, ◌++◌, map, take}
use Rattle.state_model.specs.Key.{entry_word}
use Rattle.state_key.proofs.key.push_entries.Given as goal

abbrev pub invariant-loop-entry : goal.invariant-loop-entry
invariant-loop-entry l = l.words ≡ l.initial.words ++ map entry_word (take l.entry-index l.entries)
