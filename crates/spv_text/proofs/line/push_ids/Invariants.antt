use Rattle.std.proofs.Common.{◌≡◌, ◌++◌, take}
use Rattle.std.specs.List.{flat_map}
use Rattle.listing_model.specs.Listing.{after_space, id_text}
use Rattle.spv_text.proofs.line.push_ids.Given as goal

abbrev pub invariant-loop-id : goal.invariant-loop-id
invariant-loop-id l = l.text.items ≡ l.fn.text.items ++ flat_map (λ id. after_space (id_text id)) (take l.id-index l.ids)
