-- Passes one after another, until one finds that all stays.
use Rattle.std.specs.Prelude.{◌≡◌, ℕ, true, List}
use Rattle.spirv_model.specs.declared.module.Words.{Words}
use Rattle.body_model.specs.Grammar.{Derives}
use Rattle.check_model.specs.Intervals.{intervals_of}
use Rattle.state_model.specs.declared.parts.SpecValues.{SpecValues}
use Rattle.unit_model.specs.ConstantScalars.{is_folded, is_straightened}
use Rattle.change_model.specs.Plans.{Plan, changed}
use Rattle.change_model.specs.Specialised.{CameOf, names_no_zeros}

-- the module that a plan makes
abbrev pub changed_by : Plan → Words → Words
changed_by plan words = record { bound = words.bound; insts = changed plan words.insts }

-- what is asked of the module behind the last pass: it came of all that the one before the first came of, and nothing known is left in it
pub record IsStraightened (zeros : List ℕ) (new first : Words) : Type 0 where
  pub came : (entries : SpecValues) (old : Words) → CameOf zeros entries first old → CameOf zeros entries new old
  pub folded : is_folded new.insts ≡ true
  pub straightened : (derivation : Derives new.insts) → is_straightened (intervals_of derivation) new.insts ≡ true
  pub unnamed : names_no_zeros zeros new.insts ≡ true
