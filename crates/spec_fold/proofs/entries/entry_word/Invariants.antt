use Rattle.std.proofs.Common.{◌≡◌, drop}
use Rattle.stage_model.specs.Start.{entry_word}
use Rattle.spec_fold.proofs.entries.entry_word.Given as goal

abbrev pub invariant-loop-entry : goal.invariant-loop-entry
invariant-loop-entry l = entry_word l.entries l.id ≡ entry_word (drop l.entry-index l.entries) l.id
