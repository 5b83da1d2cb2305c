-- Of the two directions of an edge exactly one is that of a top or a left edge, so each centre on an edge between two
-- triangles is of one of them.
use Rattle.std.proofs.Common.{◌≡◌, not, arith}
use Rattle.std.proofs.lemmas.Int.{ints}
use Rattle.std.proofs.lemmas.Bool.Decides.{nat_tests}
use Rattle.draw_model.specs.declared.position.Position.{Position}
use Rattle.draw_model.specs.Coverage.{is_top_or_left}

pub one-direction : (p q : Position) → (p.y ≡ q.y → p.x ≡ q.x → ⊥) → is_top_or_left p q ≡ not (is_top_or_left q p)
unfolding is_top_or_left
one-direction p q apart = grind (arith, ints, nat_tests)
