use Rattle.std.proofs.Common.{take}
use Rattle.spv_types.specs.Tables.{HasPlaces}
use Rattle.spv_types.proofs.definitions.definitions.Given as goal

abbrev pub invariant-loop-place : goal.invariant-loop-place
invariant-loop-place l = HasPlaces l.places (take l.place l.insts)
