-- The fault of bytes that are no listing.
use Rattle.std.specs.Prelude.{◌≡◌, ℕ, List, Err}
use Rattle.listing_model.specs.declared.fault.TextFault.{TextFault}
use Rattle.listing_model.specs.Assembly.{assembled}

abbrev pub HasListingFault : List ℕ → TextFault → Type 0
HasListingFault bytes fault = assembled bytes ≡ Err fault
