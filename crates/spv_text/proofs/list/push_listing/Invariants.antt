use Rattle.std.proofs.Common.{◌≡◌, ◌++◌, ◌∷◌, take}
use Rattle.std.specs.List.{flat_map}
use Rattle.listing_model.specs.Listing.{head_text, inst_line}
use Rattle.spv_text.proofs.list.push_listing.Given as goal

abbrev pub invariant-loop-inst : goal.invariant-loop-inst
invariant-loop-inst l =
    l.text.items ≡ l.fn.text.items ++ (head_text l.bound ++ 10 ∷ flat_map inst_line (take l.inst-index l.insts))
