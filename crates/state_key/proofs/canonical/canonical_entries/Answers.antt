use Rattle.std.proofs.Common.{List, Option, ap, subst, rules}
use Rattle.std.specs.List.Sorted.{IsPermutation}
use Rattle.std.proofs.lemmas.List.Sorted.{IsNonDecreasingBy-from_sort_by_key}
use Rattle.state_model.specs.Canonical.{canonical_entries, entry_rank}
use Rattle.state_model.specs.declared.parts.Entry.{Entry}
use Rattle.state_model.specs.declared.parts.SpecValues.{SpecValues}
use Rattle.state_key.proofs.KeptEntries.{sorted_is_in_order}
use Rattle.state_key.proofs.canonical.canonical_entries.Goals as goal

abbrev made : List (Option Entry) → SpecValues
made entries = record { entries = entries }

pub returns : goal.returns
unfolding canonical_entries
returns c =
    let sort = c.sort_unstable_by_key.ensures in
    let from = c.declared_entries-entries.ensures in
    ap made (sorted_is_in_order c.args.ids.now c.args.v.now c.requires c.sort_unstable_by_key.new.self
    (subst (λ xs. IsPermutation xs c.sort_unstable_by_key.new.self) from sort.permutation)
    (IsNonDecreasingBy-from_sort_by_key entry_rank _ sort.sorted (λ a r q k. search rules)))
