use Rattle.std.proofs.Common.{◌≡◌, ℕ, ◌<◌, Option, length, get_or}
use Rattle.state_key.specs.Unpacked.{entry_at}
use Rattle.limits.specs.declared.TheConstants.{ENTRIES}
use Rattle.state_model.specs.declared.parts.Entry.{Entry}
use Rattle.state_key.proofs.unpack.entries_of.Given as goal

abbrev pub invariant-loop-i : goal.invariant-loop-i
invariant-loop-i l = record {
  count : length l.entries ≡ ENTRIES;
  filled : (k : ℕ) (d : Option Entry) → k < l.i → get_or l.entries k d ≡ entry_at l.key l.at l.count k;
}
