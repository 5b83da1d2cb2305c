use Rattle.std.proofs.Common.{◌≡◌, ℕ, ◌<◌, Option, length, get_or}
use Rattle.state_key.specs.Unpacked.{binding_at}
use Rattle.limits.specs.declared.TheConstants.{VERTEX_BINDINGS}
use Rattle.state_model.specs.declared.parts.VertexBinding.{VertexBinding}
use Rattle.state_key.proofs.unpack.bindings_of.Given as goal

abbrev pub invariant-loop-i : goal.invariant-loop-i
invariant-loop-i l = record {
  count : length l.bindings ≡ VERTEX_BINDINGS;
  filled : (k : ℕ) (d : Option VertexBinding) → k < l.i → get_or l.bindings k d ≡ binding_at l.key k;
}
