use Rattle.std.proofs.Common.{◌≡◌, ◌++◌, take}
use Rattle.std.specs.List.{flat_map}
use Rattle.std.specs.Fmt.{decimal}
use Rattle.listing_model.specs.Listing.{after_space}
use Rattle.spv_text.proofs.line.push_literals.Given as goal

abbrev pub invariant-loop-literal : goal.invariant-loop-literal
invariant-loop-literal l = l.text.items ≡ l.fn.text.items ++ flat_map (λ n. after_space (decimal n)) (take l.literal-index l.literals)
