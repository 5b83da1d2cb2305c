-- The libraries that `Libs` holds.
use Rattle.std.specs.Prelude.{map}
use Rattle.state_model.specs.Link.{Libraries}
use Rattle.link_rules.specs.Single.{prerast_library, fragment_library}
use Rattle.link_rules.specs.declared.Libs.{Libs}

abbrev pub libraries : Libs → Libraries
libraries libs = record {
  vertex = map (λ v. v.part) libs.vertex.items;
  prerast = map prerast_library libs.prerast.items;
  fragment = map fragment_library libs.fragment.items;
  output = map (λ o. o.part) libs.output.items;
}
