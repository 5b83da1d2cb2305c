use Rattle.std.proofs.Common.{◌≡◌, ◌++◌, drop}
use Rattle.std.specs.List.{flat_map}
use Rattle.listing_model.specs.Listing.{before_zero, byte_digits}
use Rattle.spv_text.specs.Pieces.{has_zero}
use Rattle.spv_text.proofs.line.push_bytes.Given as goal

abbrev pub invariant-loop-byte : goal.invariant-loop-byte
invariant-loop-byte l = record {
  pushed : l.text.items ++ flat_map byte_digits (before_zero (drop l.byte-index l.bytes)) ≡ l.fn.text.items ++ flat_map byte_digits (before_zero l.bytes);
  ends : has_zero (drop l.byte-index l.bytes) ≡ has_zero l.bytes;
}
