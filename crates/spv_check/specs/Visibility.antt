-- Which ids are visible where they are used, by the tables of ids, limits and branches.
use Rattle.std.specs.Prelude.{◌≡◌, ℕ, Bool, false, ◌&&◌, nat_lt, if◌then◌else◌, List, [], ◌∷◌, slice_index, Option, None, Some}
use Rattle.std.specs.Option.{unwrap_or}
use Rattle.std.specs.Ordering.{nat_cmp}
use Rattle.std.specs.BTreeSet.{BTreeSet, contains}
use Rattle.spirv_model.specs.declared.module.Inst.{Inst}
use Rattle.spirv_model.specs.Operands.{word_at, words_from}
use Rattle.body_model.specs.Switches.{is_among}
use Rattle.valid_model.specs.Definitions.{definition}
use Rattle.body_model.specs.Grammar.{Derives}
use Rattle.check_model.specs.Intervals.{intervals_of}
use Rattle.check_model.specs.Visibility.{Use, use_at, not_visible}
use Rattle.spv_types.specs.declared.ids.Ids.{Ids}
use Rattle.spv_types.specs.Answers.{place_at}
use Rattle.spv_check.specs.declared.branches.Branches.{Branches}
use Rattle.spv_check.specs.Branches.{AreBranches, end_at}
use Rattle.spv_check.specs.SequenceLimits.{AreLimits}

-- the tables are those of the instructions
pub record TellsVisible (insts : List Inst) (ids : Ids) (limits : List ℕ) (branches : Branches) : Type 0 where
  pub places : (id : ℕ) → place_at ids id ≡ definition insts id
  pub ends : AreLimits insts limits
  pub blocks : AreBranches insts branches

-- the first id that the instruction at a place uses and that isn't visible, if there is one, whatever the derivation
abbrev pub IsFirstHidden : List Inst → ℕ → Option ℕ → Type 0
IsFirstHidden insts place found = (derivation : Derives insts) → found ≡ not_visible (intervals_of derivation) insts place

-- what is defined at a place, if at all, stands before the use, which stands below its limit
abbrev pub is_within : List ℕ → ℕ → Option ℕ → Bool
is_within limits at None = false
is_within limits at (Some place) = nat_lt place at && nat_lt at (slice_index limits place)

abbrev pub is_shown : Ids → List ℕ → Use → Bool
is_shown ids limits used = is_within limits used.place (place_at ids used.id)

-- the first of the ids that isn't visible at a place
abbrev pub first_hidden_id : Ids → List ℕ → ℕ → List ℕ → Option ℕ
first_hidden_id ids limits place [] = None
first_hidden_id ids limits place (id ∷ used) = if is_shown ids limits (use_at place id) then first_hidden_id ids limits place used else Some id

-- of the words of a phi, values and blocks by turns, the first value that isn't visible at the end of its block
abbrev pub first_hidden_value : Ids → List ℕ → Branches → ℕ → List ℕ → Option ℕ
first_hidden_value ids limits branches place [] = None
first_hidden_value ids limits branches place (value ∷ []) = None
first_hidden_value ids limits branches place (value ∷ block ∷ words) =
    if is_shown ids limits (use_at (unwrap_or (end_at branches block) place) value) then first_hidden_value ids limits branches place words else Some value

abbrev pub phi_hidden : Ids → List ℕ → Branches → Inst → ℕ → Option ℕ
phi_hidden ids limits branches inst place =
    if is_shown ids limits (use_at place (word_at 0 inst)) then first_hidden_value ids limits branches place (words_from 2 inst) else Some (word_at 0 inst)

-- the blocks among them
abbrev pub blocks_named : List ℕ → List ℕ
blocks_named [] = []
blocks_named (value ∷ []) = []
blocks_named (value ∷ block ∷ words) = block ∷ blocks_named words

abbrev pub HasLabels : BTreeSet ℕ → List ℕ → Type 0
HasLabels set labels = (label : ℕ) → contains nat_cmp set label ≡ is_among label labels
