use Rattle.std.proofs.Common.{List, Option, None, ap, rules}
use Rattle.std.proofs.lemmas.List.FromFn.{fill_by_all}
use Rattle.state_key.specs.Unpacked.{entry_at, entries_of}
use Rattle.limits.specs.declared.TheConstants.{ENTRIES}
use Rattle.state_model.specs.declared.parts.Entry.{Entry}
use Rattle.state_model.specs.declared.parts.SpecValues.{SpecValues}
use Rattle.state_key.proofs.unpack.entries_of.Goals as goal

abbrev record_of : List (Option Entry) → SpecValues
record_of es = record { entries = es }

pub returns : goal.returns
unfolding entries_of
returns c =
    ap (λ (es : List (Option Entry)). record_of es) (fill_by_all (entry_at c.args.key.now c.args.at c.args.count) c.loop-i.entries ENTRIES None c.loop-i.invariant.count (search rules))
