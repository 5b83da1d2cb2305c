use Rattle.std.proofs.Common.{◌≡◌}
use Rattle.std.specs.List.{fold, range_with_len}
use Rattle.int_device.specs.SampleRules.{told, location_by}
use Rattle.int_device.proofs.samples.write_locations.Given as goal

abbrev pub invariant-loop-location : goal.invariant-loop-location
invariant-loop-location l =
    l.canvas ≡ fold (location_by l.rules (told l.f) l.slots l.sample) l.fn.canvas (range_with_len 0 l.location)
