-- How far a pass has come.
use Rattle.std.specs.Prelude.{◌≡◌, ℕ, ◌+◌, ◌<◌, ◌≤◌, ◌==◌, ◌⊎◌, ◌&&◌, ◌||◌, Bool, true, false, not, if◌then◌else◌, length, map, List, [], ◌∷◌, ◌++◌, Option, None, Some}
use Rattle.std.specs.List.{list_any, range_with_len}
use Rattle.spirv_model.specs.declared.module.Inst.{Inst}
use Rattle.spirv_model.specs.declared.module.Words.{Words}
use Rattle.spirv_model.specs.declared.op.TheConstants.{SELECTION_MERGE}
use Rattle.spirv_model.specs.Operands.{class_of, word_at}
use Rattle.body_model.specs.Switches.{Case, cases_in, is_among}
use Rattle.valid_model.specs.Definitions.{inst_at}
use Rattle.check_model.specs.Intervals.{intervals_of}
use Rattle.check_model.specs.Validity.{IsValidList}
use Rattle.check_model.specs.Visibility.{Incoming}
use Rattle.change_model.specs.declared.fate.Fate.{Fate}
use Rattle.change_model.specs.declared.fate.Fate.TheVariants.{Nulls, Resolves, Skips, Stays, Unused}
use Rattle.change_model.specs.Plans.{Plan, name_in, plan_of, block_at, targets_left}
use Rattle.change_model.specs.PlanRules.{IsResolvedId, is_zero_input, merge_labels, root_of, stays, still_names}
use Rattle.change_model.specs.Passes.{IsFound, IsNamedAfter, fate_found, held_at, is_left_loop, keeps_merge, next_held, operation_fate, pairs_found}
use Rattle.unit_model.specs.ConstantScalars.{is_scalar_class}
use Rattle.spv_rewrite.specs.Ends.{next_label}
use Rattle.spec_fold.specs.PhiPairs.{lone_value}
use Rattle.spec_fold.specs.Sets.{AddsThose, AreThose}
use Rattle.spec_fold.specs.declared.facts.Facts.{Facts}
use Rattle.spec_fold.specs.declared.walk.Walk.{Walk}

-- the plan that is found so far
abbrev pub plan_in : Walk → Plan
plan_in walk = plan_of walk.fates.items walk.names.items (λ _. false)

-- an instruction with this fate leads to the label, or names it as a merge instruction that stays
abbrev pub names_with : Fate → Inst → ℕ → Bool
names_with fate inst label = is_among label (targets_left fate inst) || (stays fate && is_among label (merge_labels inst))

-- an OpSelectionMerge with this fate stays and has this merge block
abbrev pub merges_with : Fate → Inst → ℕ → Bool
merges_with fate inst label = stays fate && (inst.op == SELECTION_MERGE) && (word_at 0 inst == label)

-- the targets among literals and targets by turns
abbrev pub case_targets : List ℕ → List ℕ
case_targets words = map (λ (case : Case). case.target) (cases_in words)

-- ---- single instructions

abbrev pub load_fate : List Inst → List ℕ → Inst → Fate
load_fate insts zeros inst = if is_zero_input insts zeros (root_of insts (word_at 2 inst)) then Nulls else Stays

abbrev pub chain_fate : List Inst → List ℕ → Inst → Fate
chain_fate insts zeros inst = if is_zero_input insts zeros (word_at 2 inst) then Unused else Stays

abbrev pub loop_fate : List Inst → Inst → Fate
loop_fate insts inst = if is_left_loop insts (word_at 0 inst) then Skips else Stays

abbrev pub other_fate : List Inst → Plan → ℕ → Fate
other_fate insts plan place = if is_scalar_class (class_of (inst_at insts place).op) then operation_fate insts plan place else Stays

-- ---- steps

-- the names where a phi with this id goes, and a value stands for it
abbrev pub named_after : List ℕ → ℕ → Option ℕ → ℕ → ℕ
named_after names own None id = name_in names id
named_after names own (Some value) id = if own == id then name_in names value else name_in names id

-- the value that stands for a phi with this fate
abbrev pub value_for : Fate → List Incoming → Option ℕ
value_for Resolves pairs = lone_value pairs
value_for fate pairs = None

-- one more instruction has this fate, and a value stands for it if it is a phi that goes
pub record IsStep (insts : List Inst) (place : ℕ) (fate : Fate) (value : Option ℕ) (old new : Walk) : Type 0 where
  pub fates : new.fates.items ≡ old.fates.items ++ fate ∷ []
  pub names : (id : ℕ) → name_in new.names.items id ≡ named_after old.names.items (word_at 1 (inst_at insts place)) value id
  pub named : AddsThose (names_with fate (inst_at insts place)) old.named new.named
  pub merges : AddsThose (merges_with fate (inst_at insts place)) old.merges new.merges
  pub held : new.held ≡ next_held insts place old.held
  pub label : new.label ≡ next_label (inst_at insts place) old.label
  pub changes : new.changes ≡ (old.changes || not (stays fate))

-- ---- the whole

-- the plan is what a pass finds for the instructions before a place
pub record IsFoundBefore (words : Words) (zeros : List ℕ) (place : ℕ) (plan : Plan) : Type 0 where
  pub outside : (v : IsValidList words) (at : ℕ) → (at ≤ v.derivation.before) ⊎ (v.derivation.after ≤ at) → plan.fate at ≡ Stays
  pub found : (v : IsValidList words) (at : ℕ) → v.derivation.before < at → at < v.derivation.after → at < place
      → plan.fate at ≡ fate_found (intervals_of v.derivation) words.insts zeros (v.derivation.before + 1) plan at
  pub named : (v : IsValidList words) (at : ℕ) → plan.fate at ≡ Resolves → IsNamedAfter plan words.insts at (pairs_found plan words.insts at)
  pub names : (id : ℕ) → (plan.name id ≡ id) ⊎ IsResolvedId plan words.insts id

-- an instruction doesn't stay
pub record GoesAnywhere (plan : Plan) : Type 0 where
  pub at : ℕ
  pub goes : stays (plan.fate at) ≡ false

-- what is kept when the instructions before a place are done
pub record IsWalk (facts : Facts) (place : ℕ) (walk : Walk) : Type 0 where
  pub count : length walk.fates.items ≡ place
  pub is : IsFoundBefore facts.of.now facts.zeros.now place (plan_in walk)
  pub named : AreThose (λ label. list_any (still_names (plan_in walk) facts.of.now.insts label) (range_with_len 0 place)) walk.named
  pub merges : AreThose (λ label. list_any (keeps_merge (plan_in walk) facts.of.now.insts label) (range_with_len 0 place)) walk.merges
  pub held : walk.held ≡ held_at facts.of.now.insts place
  pub label : walk.label ≡ block_at facts.of.now.insts place
  pub unchanged : walk.changes ≡ false → (at : ℕ) → (plan_in walk).fate at ≡ Stays
  pub changed : walk.changes ≡ true → GoesAnywhere (plan_in walk)

-- a whole pass over a valid module, where inputs are zeros at these locations
pub record IsPassOf (words : Words) (zeros : List ℕ) (walk : Walk) : Type 0 where
  pub found : (v : IsValidList words) → IsFound words v zeros (plan_in walk)
  pub unchanged : walk.changes ≡ false → (at : ℕ) → (plan_in walk).fate at ≡ Stays
  pub changed : walk.changes ≡ true → GoesAnywhere (plan_in walk)
