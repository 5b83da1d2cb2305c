use Rattle.std.proofs.Common.{◌≡◌, ◌++◌, take}
use Rattle.spv_rewrite.proofs.listing.push_level.Given as goal

abbrev pub invariant-loop-place : goal.invariant-loop-place
invariant-loop-place l = l.list ≡ l.fn.list ++ take l.place l.insts
