-- Libraries whose parts are lawful, each for itself.
use Rattle.std.specs.List.{All}
use Rattle.state_model.specs.Lawful.{IsVertexPart, IsPrerastPart, IsFragmentPart, IsOutputPart}
use Rattle.state_model.specs.Link.{Libraries}

pub record HoldsLawfulParts (libs : Libraries) : Type 0 where
  pub vertex : All IsVertexPart libs.vertex
  pub prerast : All (λ p. IsPrerastPart p.part) libs.prerast
  pub fragment : All (λ f. IsFragmentPart f.part) libs.fragment
  pub output : All IsOutputPart libs.output
