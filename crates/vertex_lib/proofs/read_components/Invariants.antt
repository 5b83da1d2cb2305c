use Rattle.std.proofs.Common.{◌≡◌, ℕ, ◌<◌, length, get_or}
use Rattle.limits.specs.declared.TheConstants.{COMPONENTS}
use Rattle.draw_model.specs.Fetch.{attribute_component}
use Rattle.vertex_lib.proofs.read_components.Given as goal

abbrev pub invariant-loop-i : goal.invariant-loop-i
invariant-loop-i l =
    (length l.words ≡ COMPONENTS) × ((k : ℕ) → k < l.i → get_or l.words k 0 ≡ attribute_component l.buffers l.number l.attribute l.start k)
