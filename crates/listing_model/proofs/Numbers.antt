-- The limit as a plain number.
use Rattle.std.proofs.Common.{◌≡◌, refl}
use Rattle.listing_model.specs.declared.fault.TheConstants.{LISTING_BYTES}

pub listing-bytes : LISTING_BYTES ≡ 16777216
listing-bytes = refl
