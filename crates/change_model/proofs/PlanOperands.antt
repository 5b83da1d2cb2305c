-- Each instruction of the list that a plan makes has operands of the types that it takes, where all that it uses is visible.
use Rattle.std.proofs.Common.{◌≡◌, ℕ, ◌<◌, ◌==◌, ◌&&◌, inl, inr, Bool, true, false, not, if◌then◌else◌, List, [], ◌∷◌, length, map, refl, ap, sym, ◌∙◌, subst, arith, Option, None, Some}
use Rattle.std.specs.List.{find}
use Rattle.std.specs.Option.{option_map}
use Rattle.std.proofs.lemmas.Bool.{cases_lt}
use Rattle.spirv_model.specs.declared.module.Inst.{Inst}
use Rattle.spirv_model.specs.declared.class.Class.{Class}
use Rattle.spirv_model.specs.declared.class.Class.TheVariants as class
use Rattle.spirv_model.specs.declared.op.TheConstants as op
use Rattle.spirv_model.specs.Operands.{word_at, entry_of, class_of}
use Rattle.body_model.specs.Classes.{is_module_level_class, is_plain_class}
use Rattle.valid_model.specs.Definitions.{definition, inst_at}
use Rattle.valid_model.specs.Knowledge.{is_data}
use Rattle.check_model.specs.Intervals.{Interval}
use Rattle.check_model.specs.OperandTypes.{operands_fit_class, operands_fit}
use Rattle.check_model.specs.Typing.{Typing, typing_of}
use Rattle.check_model.specs.Validity.{has_bad_operands}
use Rattle.check_model.specs.Visibility.{Use, Incoming, incoming, used_ids, names_predecessors, incoming_use, phi_uses, use_at, uses_at, is_defined_for, is_visible_use, not_visible}
use Rattle.typed_model.proofs.ReadTypes.{Each}
use Rattle.typed_model.proofs.ReadValues.{uses_seen}
use Rattle.typed_model.proofs.ResultIds.{is_named, named}
use Rattle.typed_model.proofs.ValidModules.{valid_sound}
use Rattle.change_model.specs.Folding.{function_at}
use Rattle.change_model.specs.Plans.{changed, kept_at, phi_left, switch_to, branch_to, predecessors_left, block_at}
use Rattle.change_model.proofs.AlikeEnds.{values_in, phi_fit, end_fit, switch_fit}
use Rattle.change_model.proofs.AlikeTypes.{AreAlike, IsAlike, data_by, type_says}
use Rattle.change_model.proofs.AlikeWords.{plain_fit}
use Rattle.change_model.proofs.BehindLevel.{BehindLevel, new_one, written_one, behind_level}
use Rattle.change_model.proofs.ChangedMeanings.{level_inst}
use Rattle.change_model.proofs.ChangedPlaces.{function_within}
use Rattle.change_model.proofs.MovedUp.{function_is, level_inst as level_class}
use Rattle.change_model.proofs.NamedAlike.{are_alike, seen_alike}
use Rattle.change_model.proofs.NamedTypes.{fit_as, phi_class}
use Rattle.change_model.proofs.NewConstants.{new_is_plain}
use Rattle.change_model.proofs.Planned.{Planned, IsWritten, keeps, goes, picks}
use Rattle.change_model.proofs.PlanRunsRenamed.{renamed}
use Rattle.change_model.proofs.PlanRunsRoots.{kept_plain}
use Rattle.change_model.proofs.RenamedWords.{kept_result}
use Rattle.change_model.proofs.SettledOperands.{constant_operands}
use Rattle.change_model.proofs.Settlings.{op_is}

-- ---- what is visible is defined

-- the id is defined, and visible somewhere
abbrev pub IsGiven : List Interval → List Inst → ℕ → Type 0
IsGiven intervals insts id = (place : ℕ) × (is_defined_for intervals place (definition insts id) ≡ true)

all_given : (intervals : List Interval) (insts : List Inst) (place : ℕ) (pairs : List Incoming) → option_map (λ (used : Use). used.id) (find (λ used. not (is_visible_use intervals insts used)) (map (incoming_use insts place) pairs)) ≡ None
    → Each (IsGiven intervals insts) (values_in pairs)
all_given intervals insts place [] none = tt
all_given intervals insts place (pair ∷ pairs) none = by_first (is_visible_use intervals insts used) refl none (all_given intervals insts place pairs)
  where
    used : Use
    used = incoming_use insts place pair

    by_first : (b : Bool) → is_visible_use intervals insts used ≡ b
        → option_map (λ (used : Use). used.id) (if not b then Some used else find (λ used. not (is_visible_use intervals insts used)) (map (incoming_use insts place) pairs)) ≡ None
        → (option_map (λ (used : Use). used.id) (find (λ used. not (is_visible_use intervals insts used)) (map (incoming_use insts place) pairs)) ≡ None → Each (IsGiven intervals insts) (values_in pairs))
        → Each (IsGiven intervals insts) (values_in (pair ∷ pairs))
    by_first true is none further = ((used.place, is), further none)
    by_first false is none further = cc

-- the values of a phi
values_given : (intervals : List Interval) (insts : List Inst) (place : ℕ) → not_visible intervals insts place ≡ None → (inst_at insts place).op == op.PHI ≡ true → Each (IsGiven intervals insts) (values_in (incoming (inst_at insts place)))
unfolding not_visible uses_at
values_given intervals insts place none is =
    all_given intervals insts place (incoming (inst_at insts place))
    (behind_type (is_visible_use intervals insts (use_at place (word_at 0 (inst_at insts place)))) (use_at place (word_at 0 (inst_at insts place))) (find (λ used. not (is_visible_use intervals insts used)) (map (incoming_use insts place) (incoming (inst_at insts place))))
    (by_phi (names_predecessors insts place) ((inst_at insts place).op == op.PHI) is (phi_uses insts place (inst_at insts place)) (map (use_at place) (used_ids (inst_at insts place))) none))
  where
    behind_type : (b : Bool) (first : Use) (rest : Option Use) → option_map (λ (used : Use). used.id) (if not b then Some first else rest) ≡ None → option_map (λ (used : Use). used.id) rest ≡ None
    behind_type true first rest none = none
    behind_type false first rest none = cc

    by_phi : (names b : Bool) → b ≡ true → (phis uses : List Use)
        → (if b && not names then Some (word_at 1 (inst_at insts place)) else option_map (λ (used : Use). used.id) (find (λ used. not (is_visible_use intervals insts used)) (if b then phis else uses))) ≡ None
        → option_map (λ (used : Use). used.id) (find (λ used. not (is_visible_use intervals insts used)) phis) ≡ None
    by_phi true true is phis uses none = none
    by_phi false true is phis uses none = cc
    by_phi names false is phis uses none = cc

-- all that instructions of the new list use is visible there
abbrev pub AreSeen : Planned → List Interval → Type 0
AreSeen g intervals = (k : ℕ) → k < length (changed g.plan g.words.insts) → not_visible intervals (changed g.plan g.words.insts) k ≡ None

-- ---- the module's level

level_fits : (new old : Typing) → AreAlike new old → (of : Option Class) (inst : Inst) → is_module_level_class of ≡ true → operands_fit_class old of inst ≡ true → operands_fit_class new of inst ≡ true
level_fits new old a (Some class.Undef) inst level fits = type_says is_data data_by new old a (word_at 0 inst) ∙ fits
level_fits new old a (Some class.Setting) inst level fits = refl
level_fits new old a (Some class.TypeDeclaration) inst level fits = refl
level_fits new old a (Some class.Constant) inst level fits = refl
level_fits new old a (Some class.SpecConstant) inst level fits = refl
level_fits new old a (Some class.SpecConstantResult) inst level fits = refl
level_fits new old a (Some class.Variable) inst level fits = refl
level_fits new old a of inst level fits = cc

fits_old : (g : Planned) (old : ℕ) (of : Option Class) → old < length g.words.insts → class_of (inst_at g.words.insts old).op ≡ of → operands_fit_class (typing_of g.words.insts) of (inst_at g.words.insts old) ≡ true
fits_old g old of within is = sym (fit_as (typing_of g.words.insts) (inst_at g.words.insts old) of is) ∙ (valid_sound g.words g.valid).fit old within

fits_level : (g : Planned) (k : ℕ) → k < function_at g.words.insts → operands_fit (typing_of (changed g.plan g.words.insts)) (inst_at (changed g.plan g.words.insts) k) ≡ true
fits_level g k low =
    let insts = g.words.insts in
    let new = typing_of (changed g.plan insts) in
    let inst = inst_at insts k in
    let most = function_within insts in
    let first = function_is insts g.valid.derivation in
    ap (operands_fit new) (level_inst g k low) ∙ fit_as new inst (class_of inst.op) refl
    ∙ level_fits new (typing_of insts) (are_alike g) (class_of inst.op) inst (level_class insts g.valid.derivation k (omega (arith, low, first))) (fits_old g k (class_of inst.op) (omega (arith, low, most)) refl)

-- ---- instructions that stay

-- the classes of the function's instructions that have a rule
pub data HasRule (of : Option Class) : Type 0 where
  plain : is_plain_class of ≡ true → HasRule of
  phi : of ≡ Some class.Phi → HasRule of
  ending : of ≡ Some class.Terminator → HasRule of
  free : ((typing : Typing) (inst : Inst) → operands_fit_class typing of inst ≡ true) → HasRule of

pub rule_of : (of : Option Class) → HasRule of
rule_of None = free (λ typing inst. refl)
rule_of (Some class.Undef) = plain refl
rule_of (Some class.Memory) = plain refl
rule_of (Some class.Composite) = plain refl
rule_of (Some (class.Scalar operation)) = plain refl
rule_of (Some class.Phi) = phi refl
rule_of (Some class.Terminator) = ending refl
rule_of (Some other) = free (λ typing inst. refl)

pub no_plain_phi : is_plain_class (Some class.Phi) ≡ true → ⊥
no_plain_phi is = cc

pub no_ending_phi : ◌≡◌ {A = Option Class} (Some class.Phi) (Some class.Terminator) → ⊥
no_ending_phi is = cc

-- an instruction of another class than that of phis is none
pub not_phi : (inst : Inst) → (class_of inst.op ≡ Some class.Phi → ⊥) → inst.op == op.PHI ≡ false
not_phi inst never = by_test (inst.op == op.PHI) refl
  where
    by_test : (b : Bool) → inst.op == op.PHI ≡ b → b ≡ false
    by_test false isnt = refl
    by_test true is = absurd (never (ap class_of (op_is inst.op op.PHI is) ∙ phi_class))

switch_class : class_of op.SWITCH ≡ Some class.Terminator
unfolding class_of entry_of
switch_class = refl

branch_fits : (typing : Typing) (label : ℕ) → operands_fit typing (branch_to label) ≡ true
unfolding class_of entry_of operands_fit
branch_fits typing label = refl

-- the new list's instruction at a place
module _ (g : Planned) (intervals : List Interval) (seen : AreSeen g intervals) (k : ℕ) (within : k < length (changed g.plan g.words.insts)) where
  -- what it uses, where it is no phi
  pub used_there : (inst : Inst) → inst_at (changed g.plan g.words.insts) k ≡ inst → inst.op == op.PHI ≡ false → Each (IsGiven intervals (changed g.plan g.words.insts)) (used_ids inst)
  used_there inst at isnt =
      each_given (used_ids inst)
      (subst (λ (i : Inst). Each (λ id. is_defined_for intervals k (definition (changed g.plan g.words.insts) id) ≡ true) (used_ids i)) at
      (uses_seen intervals (changed g.plan g.words.insts) k (seen k within) (ap (λ (i : Inst). i.op == op.PHI) at ∙ isnt)))
    where
      each_given : (ids : List ℕ) → Each (λ id. is_defined_for intervals k (definition (changed g.plan g.words.insts) id) ≡ true) ids
          → Each (λ id. (place : ℕ) × (is_defined_for intervals place (definition (changed g.plan g.words.insts) id) ≡ true)) ids
      each_given [] each = tt
      each_given (id ∷ ids) each = ((k, each.0), each_given ids each.1)

  -- an id's name that it uses
  pub given_alike : (id : ℕ) → IsGiven intervals (changed g.plan g.words.insts) (g.plan.name id) → IsAlike (typing_of (changed g.plan g.words.insts)) (typing_of g.words.insts) (g.plan.name id) id
  given_alike id given = seen_alike g intervals given.0 id given.1

  phi_kept : (old : ℕ) (inst : Inst) → old < length g.words.insts → class_of (inst_at g.words.insts old).op ≡ Some class.Phi → phi_left g.plan.name (predecessors_left g.plan g.words.insts (block_at g.words.insts old)) (inst_at g.words.insts old) ≡ inst
      → inst_at (changed g.plan g.words.insts) k ≡ inst → operands_fit (typing_of (changed g.plan g.words.insts)) inst ≡ true
  phi_kept old inst most of is at =
      let insts = g.words.insts in let list = changed g.plan insts in
      let before = inst_at insts old in
      let blocks = predecessors_left g.plan insts (block_at insts old) in
      let op_phi : before.op == op.PHI ≡ true = sym (ap (λ (of : Option Class). is_named of before.op) of) ∙ named before.op in
      let same : inst_at list k ≡ phi_left g.plan.name blocks before = at ∙ sym is in
      let given = subst (λ (i : Inst). Each (IsGiven intervals list) (values_in (incoming i))) same
      (values_given intervals list k (seen k within) (ap (λ (i : Inst). i.op == op.PHI) same ∙ op_phi)) in
      ap (operands_fit (typing_of list)) (sym is) ∙ fit_as (typing_of list) (phi_left g.plan.name blocks before) (Some class.Phi) of
      ∙ phi_fit (typing_of list) (typing_of insts) g.plan.name (are_alike g) (IsGiven intervals list) given_alike blocks before given (fits_old g old (Some class.Phi) most of)

  kept_fits : (old : ℕ) (inst : Inst) → old < length g.words.insts → kept_at g.plan g.words.insts old (inst_at g.words.insts old) ≡ inst → inst_at (changed g.plan g.words.insts) k ≡ inst
      → operands_fit (typing_of (changed g.plan g.words.insts)) inst ≡ true
  kept_fits old inst most is at = by_rule (rule_of (class_of before.op))
    where
      insts : List Inst
      insts = g.words.insts

      list : List Inst
      list = changed g.plan g.words.insts

      before : Inst
      before = inst_at g.words.insts old

      under_names : before.op == op.PHI ≡ false → renamed g.plan.name before ≡ inst
      under_names isnt = sym (kept_plain g.plan insts old before isnt) ∙ is

      used : before.op == op.PHI ≡ false → Each (IsGiven intervals list) (used_ids (renamed g.plan.name before))
      used isnt = used_there (renamed g.plan.name before) (at ∙ sym (under_names isnt)) isnt

      by_rule : HasRule (class_of before.op) → operands_fit (typing_of list) inst ≡ true
      by_rule (plain rule) =
          let isnt = not_phi before (λ of. no_plain_phi (ap is_plain_class (sym of) ∙ rule)) in
          ap (operands_fit (typing_of list)) (sym (under_names isnt)) ∙ fit_as (typing_of list) (renamed g.plan.name before) (class_of before.op) refl
          ∙ plain_fit (typing_of list) (typing_of insts) g.plan.name (are_alike g) (IsGiven intervals list) given_alike before (class_of before.op) refl rule
          ((valid_sound g.words g.valid).shaped old most) (used isnt) (fits_old g old (class_of before.op) most refl)
      by_rule (ending of) =
          let isnt = not_phi before (λ also. no_ending_phi (sym also ∙ of)) in
          ap (operands_fit (typing_of list)) (sym (under_names isnt)) ∙ fit_as (typing_of list) (renamed g.plan.name before) (Some class.Terminator) of
          ∙ end_fit (typing_of list) (typing_of insts) g.plan.name (are_alike g) (IsGiven intervals list) given_alike before
          ((valid_sound g.words g.valid).shaped old most) (used isnt) (fits_old g old (Some class.Terminator) most of)
      by_rule (phi of) =
          phi_kept old inst most of
          (sym (ap (λ (b : Bool). if b then phi_left g.plan.name (predecessors_left g.plan insts (block_at insts old)) before else renamed g.plan.name before) (sym (ap (λ (of : Option Class). is_named of before.op) of) ∙ named before.op)) ∙ is) at
      by_rule (free rule) =
          fit_as (typing_of list) inst (class_of before.op) (ap (λ (i : Inst). class_of i.op) (sym is) ∙ ap class_of (kept_result g.plan insts old before).op) ∙ rule (typing_of list) inst

  written_fits : (old : ℕ) (inst : Inst) → old < length g.words.insts → IsWritten g old inst → inst_at (changed g.plan g.words.insts) k ≡ inst → operands_fit (typing_of (changed g.plan g.words.insts)) inst ≡ true
  written_fits old inst most (keeps same is) at = kept_fits old inst most is at
  written_fits old inst most (goes label same may is) at = ap (operands_fit (typing_of (changed g.plan g.words.insts))) (sym is) ∙ branch_fits (typing_of (changed g.plan g.words.insts)) label
  written_fits old inst most (picks label same may is) at =
      let insts = g.words.insts in let list = changed g.plan insts in
      let before = inst_at insts old in
      let written = switch_to (g.plan.name (word_at 0 before)) label in
      ap (operands_fit (typing_of list)) (sym is) ∙ fit_as (typing_of list) written (Some class.Terminator) switch_class
      ∙ switch_fit (typing_of list) (typing_of insts) g.plan.name (are_alike g) (IsGiven intervals list) given_alike before label may.is_switch
      (used_there written (at ∙ sym is) refl) (fits_old g old (Some class.Terminator) most (ap class_of may.is_switch ∙ switch_class))

  fits_there : operands_fit (typing_of (changed g.plan g.words.insts)) (inst_at (changed g.plan g.words.insts) k) ≡ true
  fits_there = elim (cases_lt k (function_at g.words.insts)) [ inl low ↦ fits_level g k low | inr late ↦ by_kind (behind_level g k late within) ]
    where
      list : List Inst
      list = changed g.plan g.words.insts

      by_kind : BehindLevel g k → operands_fit (typing_of list) (inst_at list k) ≡ true
      by_kind (new_one old inst n least most there at) = ap (operands_fit (typing_of list)) at ∙ constant_operands (typing_of list) inst (new_is_plain g old inst n).class_is
      by_kind (written_one old inst w least most there at) = ap (operands_fit (typing_of list)) at ∙ written_fits old inst most w at

-- each instruction of the new list has operands of the types that it takes
pub operands_changed : (g : Planned) (intervals : List Interval) → ((k : ℕ) → k < length (changed g.plan g.words.insts) → not_visible intervals (changed g.plan g.words.insts) k ≡ None)
    → (k : ℕ) → k < length (changed g.plan g.words.insts) → has_bad_operands (changed g.plan g.words.insts) k ≡ false
unfolding has_bad_operands
operands_changed g intervals seen k within = ap not (fits_there g intervals seen k within)
