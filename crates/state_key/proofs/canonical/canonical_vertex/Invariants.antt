use Rattle.std.proofs.Common.{◌≡◌, ℕ, ◌<◌, ◌≤◌, Option, None, length, get_or, if◌then◌else◌}
use Rattle.state_model.specs.Lawful.{present_at}
use Rattle.state_model.specs.Canonical.{is_named}
use Rattle.limits.specs.declared.TheConstants.{VERTEX_BINDINGS}
use Rattle.state_model.specs.declared.parts.VertexBinding.{VertexBinding}
use Rattle.state_key.proofs.canonical.canonical_vertex.Given as goal

abbrev pub invariant-loop-number : goal.invariant-loop-number
invariant-loop-number l = record {
  count : length l.bindings ≡ VERTEX_BINDINGS;
  filled : (k : ℕ) (d : Option VertexBinding) → k < l.number → get_or l.bindings k d ≡ (if is_named l.v.attributes k then present_at l.v.bindings k else None);
  empty : (k : ℕ) (d : Option VertexBinding) → l.number ≤ k → k < VERTEX_BINDINGS → get_or l.bindings k d ≡ None;
}
