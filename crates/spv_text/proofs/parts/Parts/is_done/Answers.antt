use Rattle.std.proofs.Common.{ap, ◌∙◌}
use Rattle.spv_text.specs.Parts.{is_done}
use Rattle.spv_text.proofs.SplitParts.{done_is}
use Rattle.spv_text.proofs.parts.Parts.is_done.Goals as goal

pub returns : goal.returns
returns c = done_is c.is_none.result c.self.inside.rest c.self.inside.separator c.is_none.ensures ∙ ap (λ ps. is_done ps) c.self.view_is
