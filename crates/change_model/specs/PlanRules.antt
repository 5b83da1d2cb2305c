-- When a plan may be carried out: what each fate asks of the instruction at its place.
use Rattle.std.specs.Prelude.{◌≡◌, ℕ, suc, ◌+◌, ◌-◌, ◌<◌, ◌≤◌, ◌==◌, ◌⊎◌, Bool, true, false, not, ◌&&◌, ◌||◌, nat_lt, if◌then◌else◌, List, [], ◌∷◌, length, filter, Option, None, Some}
use Rattle.std.specs.List.{list_any, range_with_len}
use Rattle.std.specs.Option.{option_and_then}
use Rattle.spirv_model.specs.declared.module.Inst.{Inst}
use Rattle.spirv_model.specs.declared.module.Words.{Words}
use Rattle.spirv_model.specs.declared.op.TheConstants as op
use Rattle.spirv_model.specs.declared.storage_class.TheConstants as storage_class
use Rattle.spirv_model.specs.declared.decoration.TheConstants.{LOCATION, BUILT_IN}
use Rattle.spirv_model.specs.Operands.{word_at, words_from, class_of, result}
use Rattle.scalar_model.specs.declared.scalar_value.Scalar.{Scalar}
use Rattle.scalar_model.specs.declared.scalar_value.Scalar.TheVariants.{Word as WordOf}
use Rattle.scalar_model.specs.Scalars.{scalar_result}
use Rattle.body_model.specs.Classes.{is_plain}
use Rattle.body_model.specs.Switches.{is_among}
use Rattle.body_model.specs.Targets.{targets}
use Rattle.valid_model.specs.declared.meaning.Meaning.{Meaning}
use Rattle.valid_model.specs.declared.meaning.Meaning.TheVariants.{Shape as OfShape, Variable}
use Rattle.valid_model.specs.Definitions.{definition, inst_at}
use Rattle.valid_model.specs.DecorationWords.{decoration_of}
use Rattle.valid_model.specs.Meanings.{meaning}
use Rattle.check_model.specs.Intervals.{Interval, intervals_of, is_visible}
use Rattle.check_model.specs.Validity.{IsValidList}
use Rattle.check_model.specs.Visibility.{Incoming, incoming, used_ids}
use Rattle.stage_model.specs.Effect.{target_for}
use Rattle.unit_model.specs.ConstantScalars.{null_scalar, scalar_by, is_scalar_class, is_behind, chosen_target, begins_at, is_nested, is_to_merge_of_loop}
use Rattle.change_model.specs.declared.fate.Fate.{Fate}
use Rattle.change_model.specs.declared.fate.Fate.TheVariants.{Dead, Stays, Goes, Picks, Folds, Nulls, Resolves, Skips, Unused}
use Rattle.change_model.specs.Folding.{all_constants}
use Rattle.change_model.specs.Plans.{Plan, is_dead, leads_from, predecessors_left, written_at, block_at}

-- ---- where control still comes

-- the labels of the blocks that belong to a merge instruction
abbrev pub merge_labels : Inst → List ℕ
merge_labels inst =
    if inst.op == op.SELECTION_MERGE then word_at 0 inst ∷ []
    else if inst.op == op.LOOP_MERGE then word_at 0 inst ∷ word_at 1 inst ∷ []
    else []

abbrev pub stays : Fate → Bool
stays Stays = true
stays fate = false

-- the instruction at a place still leads to the label, or is a merge instruction that stays and names it
abbrev pub still_names : Plan → List Inst → ℕ → ℕ → Bool
still_names plan insts label place =
    leads_from plan insts label place || (stays (plan.fate place) && is_among label (merge_labels (inst_at insts place)))

-- the OpLabel at a place isn't dead exactly where an instruction before it still names it; and where it is, none does at all
pub record IsEnteredRightly (plan : Plan) (insts : List Inst) (place : ℕ) : Type 0 where
  pub alive : is_dead (plan.fate place) ≡ false → list_any (still_names plan insts (word_at 0 (inst_at insts place))) (range_with_len 0 place) ≡ true
  pub dead : is_dead (plan.fate place) ≡ true → (from : ℕ) → still_names plan insts (word_at 0 (inst_at insts place)) from ≡ false

-- ---- sequences that are left

abbrev pub goes_to_begin : List Inst → Interval → Fate → Bool
goes_to_begin insts i (Goes label) = begins_at insts label i
goes_to_begin insts i fate = false

-- the branch of a selection or an OpSwitch goes to the label that stands where the interval begins
abbrev pub is_arm_of : Plan → List Inst → Interval → ℕ → Bool
is_arm_of plan insts i place = is_behind op.SELECTION_MERGE insts place && goes_to_begin insts i (plan.fate place)

abbrev pub is_skipped : Fate → Bool
is_skipped Skips = true
is_skipped fate = false

-- the interval is the condition sequence of a loop that is left at once
abbrev pub is_condition_left : Plan → List Inst → Interval → Bool
is_condition_left plan insts i =
    nat_lt 1 i.from && ((inst_at insts (i.from - 2)).op == op.LOOP_MERGE) && is_skipped (plan.fate (i.from - 2))

-- the sequence becomes a part of the one around it
unfoldable pub is_joined : Plan → List Inst → Interval → Bool
is_joined plan insts i = list_any (is_arm_of plan insts i) (range_with_len 0 i.from) || is_condition_left plan insts i

-- a sequence that is left as one of its own
abbrev pub remains : Plan → List Inst → Interval → Bool
remains plan insts i = not (is_dead (plan.fate i.from)) && not (is_joined plan insts i)

unfoldable pub intervals_left : Plan → List Inst → List Interval → List Interval
intervals_left plan insts intervals = filter (remains plan insts) intervals

-- an instruction in the interval still leads to the label
abbrev pub is_left_in : Plan → List Inst → ℕ → Interval → Bool
is_left_in plan insts label i = list_any (leads_from plan insts label) (range_with_len i.from (i.to - i.from))

-- in the arm with a label, a nested sequence that remains still leads to another label
abbrev pub is_left_within : Plan → List Inst → List Interval → (arm label : ℕ) → Bool
is_left_within plan insts intervals arm label = list_any
    (λ outer. begins_at insts arm outer
    && list_any (λ inner. is_nested outer inner && is_left_in plan insts label inner) (intervals_left plan insts intervals))
    intervals

-- ---- what is known

-- the scalar that the result of an instruction with this fate is, where it is a constant
abbrev pub scalar_as : List Inst → Inst → Fate → Option Scalar
scalar_as insts inst (Folds scalar) = Some scalar
scalar_as insts inst Nulls = null_scalar (meaning insts (word_at 0 inst))
scalar_as insts inst fate = scalar_by insts inst

abbrev pub scalar_of : Plan → List Inst → Option ℕ → Option Scalar
scalar_of plan insts None = None
scalar_of plan insts (Some place) = scalar_as insts (inst_at insts place) (plan.fate place)

-- the scalar that an id is in the list that the plan makes, under the name that it has there
unfoldable pub scalar_left : Plan → List Inst → ℕ → Option Scalar
scalar_left plan insts id = scalar_of plan insts (definition insts (plan.name id))

-- the target of an OpSwitch with this selector
abbrev pub switched_target : Option Scalar → Inst → Option ℕ
switched_target (Some (WordOf selector)) inst = Some (target_for selector (word_at 1 inst) (words_from 2 inst))
switched_target selector inst = None

-- where the branch or the OpSwitch at a place always leads
abbrev pub only_target : Plan → List Inst → Inst → Option ℕ
only_target plan insts inst =
    if inst.op == op.BRANCH_CONDITIONAL then chosen_target (scalar_left plan insts (word_at 0 inst)) inst
    else if inst.op == op.SWITCH then switched_target (scalar_left plan insts (word_at 0 inst)) inst
    else None

-- the variable that an id leads to: it is a chain from it, or the variable itself
abbrev pub root_by : List Inst → ℕ → Option ℕ → ℕ
root_by insts id None = id
root_by insts id (Some place) = if (inst_at insts place).op == op.ACCESS_CHAIN then word_at 2 (inst_at insts place) else id

unfoldable pub root_of : List Inst → ℕ → ℕ
root_of insts id = root_by insts id (definition insts id)

abbrev pub is_input_of : Meaning → Bool
is_input_of (Variable type class) = class == storage_class.INPUT
is_input_of meaning = false

abbrev pub is_among_locations : List ℕ → Option ℕ → Bool
is_among_locations zeros None = false
is_among_locations zeros (Some location) = is_among location zeros

abbrev pub is_nothing : Option ℕ → Bool
is_nothing None = true
is_nothing (Some word) = false

-- the id is an input variable at one of these locations
abbrev pub is_zero_input : List Inst → List ℕ → ℕ → Bool
is_zero_input insts zeros id =
    is_input_of (meaning insts id) && is_nothing (decoration_of insts id BUILT_IN) && is_among_locations zeros (decoration_of insts id LOCATION)

-- ---- what each fate asks

abbrev pub goes : Fate → Bool
goes (Goes label) = true
goes fate = false

-- the end of a loop's condition sequence, where the loop has this merge block
abbrev pub is_test_of : List Inst → (merge place : ℕ) → Bool
is_test_of insts merge place =
    ((inst_at insts place).op == op.BRANCH_CONDITIONAL) && not (is_behind op.SELECTION_MERGE insts place) && is_among merge (targets (inst_at insts place))

-- a merge instruction at a place stays, by which the block with this label may have phis: as the merge block of a selection or an
-- OpSwitch, or as the header of a loop
abbrev pub lets_phis : Plan → List Inst → ℕ → ℕ → Bool
lets_phis plan insts label place = stays (plan.fate place)
    && (((inst_at insts place).op == op.SELECTION_MERGE) && (word_at 0 (inst_at insts place) == label)
    || ((inst_at insts place).op == op.LOOP_MERGE) && (block_at insts place == label))

abbrev pub may_keep_phis : Plan → List Inst → ℕ → Bool
may_keep_phis plan insts label = list_any (lets_phis plan insts label) (range_with_len 0 (length insts))

abbrev pub is_shape : Meaning → Bool
is_shape (OfShape shape) = true
is_shape meaning = false

pub record MayStay (plan : Plan) (insts : List Inst) (place : ℕ) : Type 0 where
  pub selection : (inst_at insts place).op ≡ op.SELECTION_MERGE → goes (plan.fate (place + 1)) ≡ false
  pub loop : (inst_at insts place).op ≡ op.LOOP_MERGE → (test : ℕ) → is_test_of insts (word_at 0 (inst_at insts place)) test ≡ true
      → goes (plan.fate test) ≡ false
  pub phi : (inst_at insts place).op ≡ op.PHI → may_keep_phis plan insts (block_at insts place) ≡ true
  -- a phi to which no value comes may name anything for its type
  pub type : (inst_at insts place).op ≡ op.PHI → is_shape (meaning insts (word_at 0 (inst_at insts place))) ≡ true
  pub load : (inst_at insts place).op ≡ op.LOAD → plan.is_unread (root_of insts (word_at 2 (inst_at insts place))) ≡ false

-- a branch of a selection or an OpSwitch whose merge instruction goes, or the end of the condition sequence of a loop that is left at
-- once. Where the arm of an OpSwitch has a sequence that leads to the merge block from within, there is no other way to write it
pub record MayGo (plan : Plan) (insts : List Inst) (intervals : List Interval) (place label : ℕ) : Type 0 where
  pub only : only_target plan insts (inst_at insts place) ≡ Some label
  pub skipped : is_behind op.SELECTION_MERGE insts place ≡ true → plan.fate (place - 1) ≡ Skips
  pub within : (inst_at insts place).op ≡ op.SWITCH → is_left_within plan insts intervals label (word_at 0 (inst_at insts (place - 1))) ≡ false
  pub leaves : is_behind op.SELECTION_MERGE insts place ≡ false → is_to_merge_of_loop insts (Some label) ≡ true

pub record MayPick (plan : Plan) (insts : List Inst) (place label : ℕ) : Type 0 where
  pub is_switch : (inst_at insts place).op ≡ op.SWITCH
  pub only : only_target plan insts (inst_at insts place) ≡ Some label

pub record MayFold (plan : Plan) (insts : List Inst) (place : ℕ) (scalar : Scalar) : Type 0 where
  pub is_scalar : is_scalar_class (class_of (inst_at insts place).op) ≡ true
  pub comes : option_and_then (scalar_result (inst_at insts place).op) (all_constants (scalar_left plan insts) (words_from 2 (inst_at insts place))) ≡ Some scalar

-- a load from an input that is zero
pub record MayBeNull (insts : List Inst) (zeros : List ℕ) (place : ℕ) : Type 0 where
  pub is_load : (inst_at insts place).op ≡ op.LOAD
  pub is_zero : is_zero_input insts zeros (root_of insts (word_at 2 (inst_at insts place))) ≡ true

-- a merge instruction of a selection whose branch goes, or of a loop that is left at once
pub data MaySkip (plan : Plan) (insts : List Inst) (place : ℕ) : Type 0 where
  selection : (inst_at insts place).op ≡ op.SELECTION_MERGE → goes (plan.fate (place + 1)) ≡ true → MaySkip plan insts place
  loop : (inst_at insts place).op ≡ op.LOOP_MERGE
      → ((test : ℕ) → is_test_of insts (word_at 0 (inst_at insts place)) test ≡ true → plan.fate test ≡ Goes (word_at 0 (inst_at insts place)))
      → MaySkip plan insts place

-- ---- phis

abbrev pub pairs_in : List ℕ → List Incoming → List Incoming
pairs_in blocks pairs = filter (λ (pair : Incoming). is_among pair.block blocks) pairs

abbrev pub is_constant_fate : Fate → Bool
is_constant_fate (Folds scalar) = true
is_constant_fate Nulls = true
is_constant_fate fate = false

-- one pair of the phi at a place is left, and its value stands for the phi: a constant by then, or visible there and given in another block
pub record IsResolved (plan : Plan) (insts : List Inst) (intervals : List Interval) (place : ℕ) : Type 0 where
  pub pair : Incoming
  pub is_phi : (inst_at insts place).op ≡ op.PHI
  pub only : pairs_in (predecessors_left plan insts (block_at insts place)) (incoming (inst_at insts place)) ≡ pair ∷ []
  -- the value is defined before the phi: else a phi could stand for itself, and an operation on it fold to anything, in the header of a loop
  -- that no block before it branches to
  pub origin : ℕ
  pub given : definition insts pair.value ≡ Some origin
  pub earlier : origin < place
  pub stands : plan.name (word_at 1 (inst_at insts place)) ≡ plan.name pair.value
  pub at : ℕ
  pub defined : definition insts (plan.name pair.value) ≡ Some at
  pub visible : is_constant_fate (plan.fate at) || is_visible (intervals_left plan insts intervals) at place ≡ true
  pub apart : is_constant_fate (plan.fate at) || not (block_at insts at == block_at insts place) ≡ true

-- ---- what nobody uses

abbrev pub is_incoming : ℕ → Inst → Bool
is_incoming id inst = (inst.op == op.PHI) && list_any (λ (pair : Incoming). pair.value == id) (incoming inst)

abbrev pub is_user : ℕ → Inst → Bool
is_user id inst = is_among id (used_ids inst) || is_incoming id inst

-- no instruction that is left uses the id
abbrev pub IsUsedNowhere : Plan → List Inst → ℕ → Type 0
IsUsedNowhere plan insts id = (place : ℕ) → list_any (is_user id) (written_at plan insts place) ≡ false

-- an instruction of a block with a result that isn't used, or a store to a variable that isn't read
pub data MayBeUnused (plan : Plan) (insts : List Inst) (place : ℕ) : Type 0 where
  result_of : (id : ℕ) → is_plain (inst_at insts place).op || ((inst_at insts place).op == op.PHI) || ((inst_at insts place).op == op.VARIABLE) ≡ true
      → result (inst_at insts place) ≡ Some id → IsUsedNowhere plan insts id → MayBeUnused plan insts place
  store : (inst_at insts place).op ≡ op.STORE → plan.is_unread (root_of insts (word_at 0 (inst_at insts place))) ≡ true → MayBeUnused plan insts place

-- ---- all of it

abbrev pub FateFits : Plan → List Inst → List Interval → List ℕ → ℕ → Fate → Type 0
FateFits plan insts intervals zeros place Dead = Unit {0}
FateFits plan insts intervals zeros place Stays = MayStay plan insts place
FateFits plan insts intervals zeros place (Goes label) = MayGo plan insts intervals place label
FateFits plan insts intervals zeros place (Picks label) = MayPick plan insts place label
FateFits plan insts intervals zeros place (Folds scalar) = MayFold plan insts place scalar
FateFits plan insts intervals zeros place Nulls = MayBeNull insts zeros place
FateFits plan insts intervals zeros place Resolves = IsResolved plan insts intervals place
FateFits plan insts intervals zeros place Skips = MaySkip plan insts place
FateFits plan insts intervals zeros place Unused = MayBeUnused plan insts place

-- an id that has another name is a phi that goes
pub record IsResolvedId (plan : Plan) (insts : List Inst) (id : ℕ) : Type 0 where
  pub place : ℕ
  pub resolves : plan.fate place ≡ Resolves
  pub own : word_at 1 (inst_at insts place) ≡ id

-- the plan may be carried out on a valid module, where inputs are zeros at these locations
pub record IsPlan (words : Words) (v : IsValidList words) (zeros : List ℕ) (plan : Plan) : Type 0 where
  pub outside : (place : ℕ) → (place ≤ v.derivation.before) ⊎ (v.derivation.after ≤ place) → plan.fate place ≡ Stays
  pub begins : is_dead (plan.fate (v.derivation.before + 1)) ≡ false
  pub blocks : (place : ℕ) → v.derivation.before + 1 ≤ place → suc place < v.derivation.after → (inst_at words.insts (suc place)).op == op.LABEL ≡ false
      → is_dead (plan.fate (suc place)) ≡ is_dead (plan.fate place)
  pub labels : (place : ℕ) → v.derivation.before + 1 < place → place < v.derivation.after → (inst_at words.insts place).op == op.LABEL ≡ true
      → IsEnteredRightly plan words.insts place
  pub fits : (place : ℕ) → v.derivation.before < place → place < v.derivation.after
      → FateFits plan words.insts (intervals_of v.derivation) zeros place (plan.fate place)
  pub names : (id : ℕ) → (plan.name id ≡ id) ⊎ IsResolvedId plan words.insts id
