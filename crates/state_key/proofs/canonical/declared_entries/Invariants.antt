use Rattle.std.proofs.Common.{◌≡◌, ℕ, ◌<◌, Option, length, get_or}
use Rattle.state_model.specs.Canonical.{if_declared}
use Rattle.limits.specs.declared.TheConstants.{ENTRIES}
use Rattle.state_model.specs.declared.parts.Entry.{Entry}
use Rattle.state_key.proofs.canonical.declared_entries.Given as goal

abbrev pub invariant-loop-i : goal.invariant-loop-i
invariant-loop-i l = record {
  count : length l.kept ≡ ENTRIES;
  filled : (k : ℕ) (d : Option Entry) → k < l.i → get_or l.kept k d ≡ if_declared l.ids (get_or l.entries k d);
}
