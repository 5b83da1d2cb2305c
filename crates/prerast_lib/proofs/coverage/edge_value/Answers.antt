use Rattle.std.proofs.Common.{◌≡◌, ◌<◌, ◌^◌, ℤ, w64, to_z, of_z, rules}
use Rattle.std.proofs.lemmas.Int.{to_z-of_z}
use Rattle.draw_model.specs.Coverage.{edge_value}
use lib.Signed.{mag}
use Rattle.prerast_lib.proofs.coverage.edge_value.Goals as goal

-- a number that fits is what its bits say
read : (z : ℤ) → mag z < 2 ^ 63 → to_z w64 (of_z w64 z) ≡ z
read z small = to_z-of_z w64 z (record { sfits = small })

pub returns : goal.returns
unfolding edge_value
returns c = rw (
  read c.difference.result c.difference.type_inv,
  c.difference.ensures,
  read c.product.result c.product.type_inv,
  c.product.ensures.value,
  read c.distance.result c.distance.type_inv,
  c.distance.ensures.value,
  read c.distance-2.result c.distance-2.type_inv,
  c.distance-2.ensures.value,
  read c.product-2.result c.product-2.type_inv,
  c.product-2.ensures.value,
  read c.distance-3.result c.distance-3.type_inv,
  c.distance-3.ensures.value,
  read c.distance-4.result c.distance-4.type_inv,
  c.distance-4.ensures.value,
  read c.args.p.x (search rules),
  read c.args.p.y (search rules),
  read c.args.q.x (search rules),
  read c.args.q.y (search rules),
  read c.args.at.x (search rules),
  read c.args.at.y (search rules),
)
