use Rattle.std.proofs.Common.{◌≡◌, ℕ, ◌<◌, Option, length, get_or}
use Rattle.state_model.specs.Lawful.{present_at}
use Rattle.state_model.specs.declared.parts.VertexBinding.{VertexBinding}
use Rattle.limits.specs.declared.TheConstants.{VERTEX_BINDINGS}
use Rattle.trace_text.proofs.places.bindings_of.Given as goal

abbrev pub invariant-loop-i : goal.invariant-loop-i
invariant-loop-i l = record {
  count : length l.bindings ≡ VERTEX_BINDINGS;
  filled : (k : ℕ) (d : Option VertexBinding) → k < l.i → get_or l.bindings k d ≡ present_at l.list k;
}
