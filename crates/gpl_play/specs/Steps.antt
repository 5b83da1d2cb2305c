-- Lines of a recorder whose places and numbers are in their ranges.
use Rattle.trace_model.specs.declared.whole.Step.{Step}
use Rattle.trace_model.specs.LawfulPlay.{Counts, IsStep}

-- by some counts of objects
abbrev pub HasPlaces : Step → Type 0
HasPlaces step = (counts : Counts) × IsStep counts step
