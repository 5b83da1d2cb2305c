use Rattle.std.proofs.Common.{◌≡◌, take}
use Rattle.std.specs.List.{filter_map}
use Rattle.std.specs.Prelude.{slice_get}
use Rattle.link_rules.specs.Libs.{libraries}
use Rattle.link_rules.specs.Parts.{HoldsLawfulParts}
use Rattle.gpl_play.specs.Links.{libraries_given}
use Rattle.gpl_play.proofs.links.libraries_of.Given as goal

abbrev pub invariant-loop-number : goal.invariant-loop-number
invariant-loop-number l = record {
  are : libraries l.made ≡ libraries_given l.modules (filter_map (slice_get l.libs) (take l.number-index l.pipe));
  lawful : HoldsLawfulParts (libraries l.made);
}
