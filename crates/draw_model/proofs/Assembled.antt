-- The primitives of a draw are those that are assembled.
use Rattle.std.proofs.Common.{◌≡◌, ℕ, ◌+◌, ◌*◌, ◌<◌, ◌≤◌, true, false, cond, refl, arith}
use Rattle.std.specs.Prelude.{Option, None, Some, nat_le}
use Rattle.std.proofs.lemmas.Bool.Decides.{nat_tests}
use Rattle.state_model.specs.declared.parts.Topology.{Topology}
use Rattle.state_model.specs.declared.parts.Topology.TheVariants.{Points, Triangles}
use Rattle.draw_model.specs.Assembly.{primitive_vertices, first_vertex}
use Rattle.draw_model.specs.WholeDraw.{primitive_count}

by_test : (a b : ℕ) (o : Option ℕ) → a ≤ b → cond (nat_le a b) o None ≡ o
by_test a b o h = let t : nat_le a b ≡ true = grind (arith, nat_tests) in rw t refl

past_test : (a b : ℕ) (o : Option ℕ) → b < a → cond (nat_le a b) o None ≡ None
past_test a b o h = let t : nat_le a b ≡ false = grind (arith, nat_tests) in rw t refl

-- below the count each one has its first vertex, and from it on there is none
pub assembled : (t : Topology) (vertices primitive : ℕ) → primitive < primitive_count t vertices →
    first_vertex t vertices primitive ≡ Some (primitive * primitive_vertices t)
assembled Points vertices primitive h = by_test ((primitive + 1) * 1) vertices (Some (primitive * 1)) (omega (arith, h))
assembled Triangles vertices primitive h = by_test ((primitive + 1) * 3) vertices (Some (primitive * 3)) (omega (arith, h))

pub not_assembled : (t : Topology) (vertices primitive : ℕ) → primitive_count t vertices ≤ primitive → first_vertex t vertices primitive ≡ None
not_assembled Points vertices primitive h = past_test ((primitive + 1) * 1) vertices (Some (primitive * 1)) (omega (arith, h))
not_assembled Triangles vertices primitive h = past_test ((primitive + 1) * 3) vertices (Some (primitive * 3)) (omega (arith, h))
