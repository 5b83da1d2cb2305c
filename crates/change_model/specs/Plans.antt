-- A plan says what becomes of each instruction of a function, and which ids stand for others; the list that it makes of a module's.
use Rattle.std.specs.Prelude.{ℕ, ◌-◌, ◌==◌, Bool, true, false, if◌then◌else◌, List, [], ◌∷◌, ◌++◌, length, map, filter, take, slice_index_or, Option, None, Some}
use Rattle.std.specs.List.{flat_map, range_with_len}
use Rattle.spirv_model.specs.declared.module.Inst.{Inst}
use Rattle.spirv_model.specs.declared.table.Operand.{Operand}
use Rattle.spirv_model.specs.declared.table.Operand.TheVariants.{IdRef}
use Rattle.spirv_model.specs.declared.op.TheConstants as op
use Rattle.spirv_model.specs.Operands.{word_at, words_from, kinds}
use Rattle.body_model.specs.Switches.{is_among}
use Rattle.body_model.specs.Targets.{targets}
use Rattle.valid_model.specs.Definitions.{inst_at}
use Rattle.check_model.specs.Branches.{Block, blocks_of, label_behind}
use Rattle.stage_model.specs.Start.{of_scalar}
use Rattle.change_model.specs.declared.fate.Fate.{Fate}
use Rattle.change_model.specs.declared.fate.Fate.TheVariants.{Dead, Stays, Goes, Picks, Folds, Nulls}
use Rattle.change_model.specs.Constants.{scalar_constant}
use Rattle.change_model.specs.Folding.{function_at}

pub record Plan : Type 0 where
  -- what becomes of the instruction at a place
  pub fate : ℕ → Fate
  -- the id that stands for an id
  pub name : ℕ → ℕ
  -- nobody reads what the variable holds
  pub is_unread : ℕ → Bool

abbrev pub is_dead : Fate → Bool
is_dead Dead = true
is_dead fate = false

-- ---- branches that are left

-- the labels to which a terminator with this fate leads
abbrev pub targets_left : Fate → Inst → List ℕ
targets_left Dead inst = []
targets_left (Goes label) inst = label ∷ []
targets_left (Picks label) inst = label ∷ []
targets_left fate inst = targets inst

-- the instruction at a place still leads to the label
abbrev pub leads_from : Plan → List Inst → ℕ → ℕ → Bool
leads_from plan insts label place = is_among label (targets_left (plan.fate place) (inst_at insts place))

abbrev pub is_led_by : Plan → List Inst → ℕ → Block → Bool
is_led_by plan insts label block = leads_from plan insts label block.end

-- the labels of the blocks that still branch to a block
unfoldable pub predecessors_left : Plan → List Inst → ℕ → List ℕ
predecessors_left plan insts label = map (λ (block : Block). block.label) (filter (is_led_by plan insts label) (blocks_of insts))

-- ---- instructions that stay

-- operands that are ids, and not results or their types, under other names
abbrev pub renamed_words : (ℕ → ℕ) → List Operand → List ℕ → List ℕ
renamed_words name [] words = words
renamed_words name (kind ∷ kinds) [] = []
renamed_words name (IdRef ∷ kinds) (word ∷ words) = name word ∷ renamed_words name kinds words
renamed_words name (kind ∷ kinds) (word ∷ words) = word ∷ renamed_words name kinds words

abbrev pub renamed_by : (ℕ → ℕ) → Option (List Operand) → List ℕ → List ℕ
renamed_by name None words = words
renamed_by name (Some kinds) words = renamed_words name kinds words

-- the pairs of a phi whose blocks are left, with other names for the values
abbrev pub pairs_left : (ℕ → ℕ) → List ℕ → List ℕ → List ℕ
pairs_left name blocks [] = []
pairs_left name blocks (value ∷ []) = []
pairs_left name blocks (value ∷ block ∷ words) =
    if is_among block blocks then name value ∷ block ∷ pairs_left name blocks words else pairs_left name blocks words

-- a phi where these blocks branch to its own
abbrev pub phi_left : (ℕ → ℕ) → List ℕ → Inst → Inst
phi_left name blocks inst = record inst { words = take 2 inst.words ++ pairs_left name blocks (words_from 2 inst) }

-- the label of the block that a place is in
abbrev pub block_at : List Inst → ℕ → ℕ
block_at insts place = label_behind 0 (take place insts)

-- the instruction at a place, where it stays
abbrev pub kept_at : Plan → List Inst → ℕ → Inst → Inst
kept_at plan insts place inst =
    if inst.op == op.PHI then phi_left plan.name (predecessors_left plan insts (block_at insts place)) inst
    else record inst { words = renamed_by plan.name (kinds inst) inst.words }

abbrev pub branch_to : ℕ → Inst
branch_to label = record { op = op.BRANCH; words = label ∷ [] }

abbrev pub switch_to : (selector label : ℕ) → Inst
switch_to selector label = record { op = op.SWITCH; words = selector ∷ label ∷ [] }

-- what is written for an instruction with this fate at a place
abbrev pub written_as : Plan → List Inst → ℕ → Inst → Fate → List Inst
written_as plan insts place inst Stays = kept_at plan insts place inst ∷ []
written_as plan insts place inst (Goes label) = branch_to label ∷ []
written_as plan insts place inst (Picks label) = switch_to (plan.name (word_at 0 inst)) label ∷ []
written_as plan insts place inst fate = []

unfoldable pub written_at : Plan → List Inst → ℕ → List Inst
written_at plan insts place = written_as plan insts place (inst_at insts place) (plan.fate place)

-- ---- constants

abbrev pub listed : Option Inst → List Inst
listed None = []
listed (Some inst) = inst ∷ []

-- the constant of the module's level that stands for an instruction with this fate
abbrev pub constant_as : Inst → Fate → List Inst
constant_as inst (Folds scalar) = listed (scalar_constant (word_at 0 inst) (word_at 1 inst) (Some (of_scalar scalar)))
constant_as inst Nulls = record { op = op.CONSTANT_NULL; words = word_at 0 inst ∷ word_at 1 inst ∷ [] } ∷ []
constant_as inst fate = []

unfoldable pub constant_at : Plan → List Inst → ℕ → List Inst
constant_at plan insts place = constant_as (inst_at insts place) (plan.fate place)

-- ---- the list

-- the places from OpFunction on
abbrev pub later_places : List Inst → List ℕ
later_places insts = range_with_len (function_at insts) (length insts - function_at insts)

-- the module's level, the new constants behind it, and what is written for the function
unfoldable pub changed : Plan → List Inst → List Inst
changed plan insts =
    take (function_at insts) insts ++ (flat_map (constant_at plan insts) (later_places insts) ++ flat_map (written_at plan insts) (later_places insts))

-- ---- the plan that lists are

-- what becomes of the instruction at a place: it stays past the end
abbrev pub fate_in : List Fate → ℕ → Fate
fate_in fates place = slice_index_or fates place Stays

-- the id that stands for an id: itself past the end
abbrev pub name_in : List ℕ → ℕ → ℕ
name_in names id = slice_index_or names id id

abbrev pub plan_of : List Fate → List ℕ → (ℕ → Bool) → Plan
plan_of fates names is_unread = record { fate = fate_in fates; name = name_in names; is_unread = is_unread }
