-- What a pass is told of a module before it begins.
use Rattle.std.specs.Prelude.{◌≡◌, ℕ, ◌-◌, ◌<◌, ◌^◌, ◌==◌, ◌&&◌, not, nat_lt, nat_le, Bool, true, false, if◌then◌else◌, length, slice_index, List, Option, None, Some}
use Rattle.std.specs.Option.{option_map}
use Rattle.spirv_model.specs.declared.module.Inst.{Inst}
use Rattle.spirv_model.specs.declared.module.Words.{Words}
use Rattle.spirv_model.specs.declared.op.TheConstants.{SWITCH}
use Rattle.spirv_model.specs.Operands.{word_at}
use Rattle.body_model.specs.Switches.{is_among}
use Rattle.id_table.specs.Tables.{at}
use Rattle.id_table.specs.declared.table.IdTable.{IdTable}
use Rattle.valid_model.specs.Definitions.{definition, inst_at}
use Rattle.check_model.specs.Intervals.{intervals_of}
use Rattle.check_model.specs.Validity.{IsValidList}
use Rattle.unit_model.specs.ConstantScalars.{is_merge_of_loop, is_left_from_within}
use Rattle.change_model.specs.Folding.{function_at}
use Rattle.change_model.specs.Passes.{has_one_way, heads_loop, is_left_loop}
use Rattle.spv_check.specs.SequenceLimits.{AreLimits}
use Rattle.spv_rewrite.specs.Ends.{AreEnds}
use Rattle.spec_fold.specs.Sets.{has, AreThose}
use Rattle.spec_fold.specs.declared.facts.Facts.{Facts}
use Rattle.spec_fold.specs.declared.marks.Marks.{Marks}
use Rattle.spec_fold.specs.declared.within.Arm.{Arm}

-- ---- arms of an OpSwitch without literals that are left from within

abbrev pub merge_before : List Inst → ℕ → ℕ
merge_before insts place = word_at 0 (inst_at insts (place - 1))

-- an OpSwitch without literals whose default isn't its merge block
abbrev pub has_arm : List Inst → ℕ → Bool
has_arm insts place =
    nat_lt 0 place && ((inst_at insts place).op == SWITCH) && has_one_way (inst_at insts place)
    && not (word_at 1 (inst_at insts place) == merge_before insts place)

-- the arm that begins at a place, in a selection with this merge block
abbrev pub arm_from : List ℕ → (merge first : ℕ) → Arm
arm_from limits merge first = record { merge = merge; first = first; last = slice_index limits first - 1 }

abbrev pub arm_at : List Inst → List ℕ → ℕ → Option Arm
arm_at insts limits place =
    if has_arm insts place
    then option_map (arm_from limits (merge_before insts place)) (definition insts (word_at 1 (inst_at insts place)))
    else None

-- the arm of the selection with a merge block, by those before and one more
abbrev pub arm_behind : Option Arm → Option Arm → ℕ → Option Arm
arm_behind None before label = before
arm_behind (Some arm) before label = if arm.merge == label then Some arm else before

abbrev pub AddsArm : Option Arm → IdTable Arm → IdTable Arm → Type 0
AddsArm arm old new = (label : ℕ) → at new label ≡ arm_behind arm (at old label) label

-- a place with this limit lies in a sequence that is nested in the arm: at the arm's last place none does, whatever the limit there
abbrev pub is_nested_in : Option Arm → (place limit : ℕ) → Bool
is_nested_in None place limit = false
is_nested_in (Some arm) place limit = nat_le arm.first place && nat_lt place arm.last && nat_le limit arm.last

-- these labels are the merge blocks of arms that have the place in a nested sequence
abbrev pub leaves_to : IdTable Arm → (place limit : ℕ) → List ℕ → ℕ → Bool
leaves_to arms place limit labels label = is_among label labels && is_nested_in (at arms label) place limit

-- the set tells, by the merge block of an OpSwitch without literals, whether its arm is left from within
abbrev pub AreLeftWithin : Words → Marks → Type 0
AreLeftWithin words marks = (v : IsValidList words) (place : ℕ) → place < length words.insts → (inst_at words.insts place).op ≡ SWITCH
    → has_one_way (inst_at words.insts place) ≡ true
    → has marks (word_at 0 (inst_at words.insts (place - 1)))
    ≡ is_left_from_within (intervals_of v.derivation) words.insts (word_at 1 (inst_at words.insts place)) (word_at 0 (inst_at words.insts (place - 1)))

pub record AreFacts (facts : Facts) : Type 0 where
  pub valid : IsValidList facts.of.now
  pub few : length facts.of.now.insts < 2 ^ 32
  pub function : facts.function ≡ function_at facts.of.now.insts
  pub ends : AreEnds facts.of.now.insts facts.ends
  pub limits : AreLimits facts.of.now.insts facts.limits.items
  pub loops : AreThose (is_merge_of_loop facts.of.now.insts) facts.loops
  pub left : AreThose (is_left_loop facts.of.now.insts) facts.left
  pub heads : AreThose (heads_loop facts.of.now.insts) facts.heads
  pub within : AreLeftWithin facts.of.now facts.within

-- the facts of this module, where inputs are zeros at these locations
pub record AreFactsOf (words : Words) (zeros : List ℕ) (facts : Facts) : Type 0 where
  pub of : facts.of.now ≡ words
  pub zeros_are : facts.zeros.now ≡ zeros
  pub are : AreFacts facts
