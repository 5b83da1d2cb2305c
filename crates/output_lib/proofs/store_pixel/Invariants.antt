use Rattle.std.proofs.Common.{◌≡◌, ℕ, ◌<◌, length, get_or}
use Rattle.limits.specs.declared.TheConstants.{COMPONENTS}
use Rattle.draw_model.specs.Pixel.{stored_component}
use Rattle.output_lib.proofs.store_pixel.Given as goal

abbrev pub invariant-loop-i : goal.invariant-loop-i
invariant-loop-i l =
    (length l.pixel ≡ COMPONENTS) × ((k : ℕ) → k < l.i → get_or l.pixel k 0 ≡ stored_component l.op l.mask l.s l.d k)
