use Rattle.std.proofs.Common.{◌≡◌, ◌+◌, ◌++◌, length}
use Rattle.std.specs.List.{flat_map, enumerate_from}
use Rattle.listing_model.specs.ModuleTexts.{module_text}
use Rattle.gpl_play.proofs.listings.modules_text.Given as goal

-- what is written, and the modules that are left
abbrev pub invariant-loop-module : goal.invariant-loop-module
invariant-loop-module l = record {
  same : l.text.items ++ flat_map module_text (enumerate_from l.number l.rest) ≡ flat_map module_text (enumerate_from 0 l.modules);
  place : l.number + length l.rest ≡ length l.modules;
}

abbrev pub decreases-loop-module : goal.decreases-loop-module
decreases-loop-module l = length l.rest
