use Rattle.std.proofs.Common.{◌≡◌, ◌<◌, drop}
use Rattle.listing_model.specs.Spelling.{number_onto}
use Rattle.spv_text.proofs.fields.number.Given as goal

abbrev pub invariant-loop-digit : goal.invariant-loop-digit
invariant-loop-digit l = record {
  small : l.value < 4294967296;
  same : number_onto l.value (drop l.digit-index l.digits) ≡ number_onto 0 l.digits;
}
