use Rattle.std.proofs.Common.{◌≡◌, ◌++◌, length}
use Rattle.std.specs.List.{flat_map}
use Rattle.listing_model.specs.Listing.{after_space, literal_and_id_fields}
use Rattle.spv_text.proofs.line.push_pairs.Given as goal

abbrev pub invariant-loop-literal : goal.invariant-loop-literal
invariant-loop-literal l =
    l.text.items ++ flat_map after_space (literal_and_id_fields l.rest) ≡ l.fn.text.items ++ flat_map after_space (literal_and_id_fields l.words)

abbrev pub decreases-loop-literal : goal.decreases-loop-literal
decreases-loop-literal l = length l.rest
