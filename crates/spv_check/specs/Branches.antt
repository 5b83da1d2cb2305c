-- Which blocks branch to which, as the code keeps it.
use Rattle.std.specs.Prelude.{◌≡◌, ℕ, ◌<◌, Bool, ◌&&◌, ◌||◌, ◌==◌, if◌then◌else◌, List, [], ◌∷◌, ◌++◌, take, length, slice_index, Option, None, Some}
use Rattle.std.specs.Option.{option_or}
use Rattle.std.specs.Ordering.{nat_cmp}
use Rattle.std.specs.BTreeMap.{BTreeMap, get}
use Rattle.std.specs.BTreeSet.{BTreeSet, contains}
use Rattle.std.specs.Global.{Vec}
use Rattle.spirv_model.specs.declared.module.Inst.{Inst}
use Rattle.body_model.specs.Classes.{is_terminator}
use Rattle.body_model.specs.Switches.{is_among}
use Rattle.body_model.specs.Targets.{targets}
use Rattle.check_model.specs.Branches.{predecessors, block_end_of, label_behind}
use Rattle.spv_check.specs.declared.branches.Branches.{Branches}

-- ---- the tables

abbrev pub Ends : Type 0
Ends = BTreeMap ℕ ℕ

abbrev pub Sources : Type 0
Sources = BTreeMap ℕ (Vec ℕ)

abbrev pub items_of : Option (Vec ℕ) → List ℕ
items_of None = []
items_of (Some list) = list.items

-- the list that the table has of a label
abbrev pub list_at : Sources → ℕ → List ℕ
list_at sources label = items_of (get nat_cmp sources label)

-- ---- what they tell

-- for each place the label of the block in which it stands
pub record AreLabels (insts : List Inst) (labels : List ℕ) : Type 0 where
  pub for_each : length labels ≡ length insts
  pub at : (place : ℕ) → place < length insts → slice_index labels place ≡ label_behind 0 (take place insts)

pub record AreEnds (insts : List Inst) (ends : Ends) : Type 0 where
  pub at : (label : ℕ) → get nat_cmp ends label ≡ block_end_of insts label

pub record AreSources (insts : List Inst) (sources : Sources) : Type 0 where
  pub at : (label : ℕ) → list_at sources label ≡ predecessors insts label

abbrev pub label_at : Branches → ℕ → ℕ
label_at branches place = slice_index branches.labels.items place

abbrev pub end_at : Branches → ℕ → Option ℕ
end_at branches label = get nat_cmp branches.ends label

abbrev pub sources_at : Branches → ℕ → List ℕ
sources_at branches label = list_at branches.sources label

-- by place the label of its block, by label the place of a block's terminator and the labels of those that branch to it
pub record AreBranches (insts : List Inst) (branches : Branches) : Type 0 where
  pub labels : (place : ℕ) → place < length insts → label_at branches place ≡ label_behind 0 (take place insts)
  pub ends : (label : ℕ) → end_at branches label ≡ block_end_of insts label
  pub sources : (label : ℕ) → sources_at branches label ≡ predecessors insts label

-- ---- steps

-- the block with this label ends at the place, if the instruction there is a terminator
abbrev pub end_here : ℕ → Inst → ℕ → ℕ → Option ℕ
end_here own inst place label = if is_terminator inst.op && (own == label) then Some place else None

abbrev pub AddsEnd : ℕ → Inst → ℕ → Ends → Ends → Type 0
AddsEnd own inst place old new = (label : ℕ) → get nat_cmp new label ≡ option_or (get nat_cmp old label) (end_here own inst place label)

abbrev pub if_so : ℕ → Bool → List ℕ
if_so own leads = if leads then own ∷ [] else []

-- the lists of those labels have one more
abbrev pub AddsSource : ℕ → (ℕ → Bool) → Sources → Sources → Type 0
AddsSource own leads old new = (label : ℕ) → list_at new label ≡ list_at old label ++ if_so own (leads label)

abbrev pub IsWithout : ℕ → Sources → Sources → Type 0
IsWithout target old new = (label : ℕ) → list_at new label ≡ (if target == label then [] else list_at old label)

abbrev pub stands_among : List ℕ → ℕ → Bool
stands_among labels label = is_among label labels

-- the instruction ends a block and names the label
abbrev pub leads_to : Inst → ℕ → Bool
leads_to inst label = is_terminator inst.op && is_among label (targets inst)

-- the label is in the set from now on
abbrev pub Sees : ℕ → BTreeSet ℕ → BTreeSet ℕ → Type 0
Sees label old new = (other : ℕ) → contains nat_cmp new other ≡ ((other == label) || contains nat_cmp old other)
