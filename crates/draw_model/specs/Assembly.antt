-- Which vertices make a primitive.
use Rattle.std.specs.Prelude.{ℕ, ◌+◌, ◌*◌, nat_le, Option, Some, None, if◌then◌else◌}
use Rattle.state_model.specs.declared.parts.Topology.{Topology}
use Rattle.state_model.specs.declared.parts.Topology.TheVariants.{Points, Triangles}

abbrev pub primitive_vertices : Topology → ℕ
primitive_vertices Points = 1
primitive_vertices Triangles = 3

-- the first vertex of a primitive, where so many vertices make it whole; those left over make none
abbrev pub first_vertex : Topology → ℕ → ℕ → Option ℕ
first_vertex topology vertices primitive =
    let size = primitive_vertices topology in
    if nat_le ((primitive + 1) * size) vertices then Some (primitive * size) else None
