use Rattle.std.proofs.Common.{◌≡◌, ℕ, ◌<◌, Option, length, get_or}
use Rattle.state_key.specs.Unpacked.{set_of}
use Rattle.limits.specs.declared.TheConstants.{DESCRIPTOR_SETS}
use Rattle.state_key.proofs.unpack.layout_of.Given as goal

abbrev pub invariant-loop-set : goal.invariant-loop-set
invariant-loop-set l = record {
  count : length l.sets ≡ DESCRIPTOR_SETS;
  filled : (k : ℕ) (d : Option ℕ) → k < l.set → get_or l.sets k d ≡ set_of l.defined l.masks k;
}
