-- Where the branches go to which one pass gives one way: it is one of their targets, and the only one by what is known.
use Rattle.std.proofs.Common.{◌≡◌, ℕ, Bool, true, false, not, ◌==◌, ◌||◌, ◌&&◌, if◌then◌else◌, List, [], ◌∷◌, refl, ap, sym, ◌∙◌, Option, None, Some}
use Rattle.std.proofs.lemmas.Bool.{eqb-true}
use Rattle.spirv_model.specs.declared.module.Inst.{Inst}
use Rattle.spirv_model.specs.declared.op.TheConstants as op
use Rattle.spirv_model.specs.Operands.{word_at}
use Rattle.body_model.specs.Switches.{is_among}
use Rattle.body_model.specs.Targets.{targets}
use Rattle.valid_model.specs.Definitions.{inst_at}
use Rattle.unit_model.specs.ConstantScalars.{constant_scalar, chosen_target, is_behind, is_to_merge_of_loop}
use Rattle.change_model.specs.declared.fate.Fate.{Fate}
use Rattle.change_model.specs.declared.fate.Fate.TheVariants as fate
use Rattle.change_model.specs.Plans.{is_dead, targets_left, leads_from}
use Rattle.change_model.specs.PlanRules.{merge_labels, stays, still_names, only_target, scalar_left}
use Rattle.change_model.specs.Passes.{is_label, leaving_to}
use Rattle.change_model.proofs.FoundPlans.{Found}
use Rattle.change_model.proofs.FoundConstants.{constant_left}
use Rattle.change_model.proofs.FoundKnown.{chosen_known, only_choice, only_chosen, only_switched}
use Rattle.change_model.proofs.FoundOrigins.{Origin, goes_away, by_phi, by_load, by_chain, by_untyped, by_selection, by_loop, by_end, by_branch, by_switch, by_picks, by_folds, origin}
use Rattle.change_model.proofs.FoundOrigins as source
use Rattle.change_model.proofs.LeftAlive.{only_among}
use Rattle.change_model.proofs.LeftScopes.{names}

clash : {Q : Type 0} (b : Bool) → b ≡ true → b ≡ false → Q
clash true is isnt = cc
clash false is isnt = cc

or_true : (t : Bool) → (t || true) ≡ true
or_true true = refl
or_true false = refl

-- ---- the end of a condition sequence that leaves its loop

-- it is a branch without a merge instruction, and goes to the merge block of a loop
pub record LeavesTo (insts : List Inst) (place label : ℕ) : Type 0 where
  pub is : (inst_at insts place).op ≡ op.BRANCH_CONDITIONAL
  pub unselected : is_behind op.SELECTION_MERGE insts place ≡ false
  pub chosen : chosen_target (constant_scalar insts (word_at 0 (inst_at insts place))) (inst_at insts place) ≡ Some label
  pub merges : is_to_merge_of_loop insts (Some label) ≡ true

pub leaves_to : (insts : List Inst) (place label : ℕ) → is_label label (leaving_to insts place) ≡ true → LeavesTo insts place label
leaves_to insts place label is =
    by_tests ((inst_at insts place).op == op.BRANCH_CONDITIONAL) (is_behind op.SELECTION_MERGE insts place) (chosen_target (constant_scalar insts (word_at 0 (inst_at insts place))) (inst_at insts place)) refl refl refl is
  where
    by_label : (to : ℕ) (b : Bool) → b ≡ is_to_merge_of_loop insts (Some to) → is_label label (if b then Some to else None) ≡ true → (b ≡ true) × (to ≡ label)
    by_label to true is same = (refl, eqb-true to label same)
    by_label to false is same = cc

    by_tests : (a b : Bool) (to : Option ℕ) → (inst_at insts place).op == op.BRANCH_CONDITIONAL ≡ a → is_behind op.SELECTION_MERGE insts place ≡ b
        → chosen_target (constant_scalar insts (word_at 0 (inst_at insts place))) (inst_at insts place) ≡ to
        → is_label label (if a && not b && is_to_merge_of_loop insts to then to else None) ≡ true → LeavesTo insts place label
    by_tests true false (Some to) p q r same =
        let l = by_label to (is_to_merge_of_loop insts (Some to)) refl same in
        record {
          is = eqb-true (inst_at insts place).op op.BRANCH_CONDITIONAL p;
          unselected = q;
          chosen = r ∙ ap (λ (n : ℕ). Some n) l.1;
          merges = ap (λ (n : ℕ). is_to_merge_of_loop insts (Some n)) (sym l.1) ∙ l.0;
        }
    by_tests true false None p q r same = cc
    by_tests true true to p q r same = cc
    by_tests false b to p q r same = cc

-- ---- the only way

module _ (f : Found) (place : ℕ) where
  pub leaves_only : (label : ℕ) → is_label label (leaving_to f.words.insts place) ≡ true → only_target f.plan f.words.insts (inst_at f.words.insts place) ≡ Some label
  leaves_only label known =
      let insts = f.words.insts in
      let inst = inst_at insts place in
      let l = leaves_to insts place label known in
      only_choice f.plan insts inst label l.is
      (chosen_known (constant_scalar insts (word_at 0 inst)) (scalar_left f.plan insts (word_at 0 inst)) inst label (λ scalar is. constant_left f (word_at 0 inst) scalar is) l.chosen)

  -- the one label to which a fate gives the way
  abbrev OnlyWay : Fate → Type 0
  OnlyWay (fate.Goes label) = only_target f.plan f.words.insts (inst_at f.words.insts place) ≡ Some label
  OnlyWay (fate.Picks label) = only_target f.plan f.words.insts (inst_at f.words.insts place) ≡ Some label
  OnlyWay what = Unit {0}

  pub only_way : (what : Fate) → Origin f place what → OnlyWay what
  only_way what (by_end label is unselected held known) = leaves_only label known
  only_way what (by_branch label is selected skipped way) = only_chosen f.plan f.words.insts place label is way
  only_way what (by_switch label is skipped way) = only_switched f.plan f.words.insts place label is way
  only_way what (by_picks label is free way) = only_switched f.plan f.words.insts place label is way
  only_way what goes_away = tt
  only_way what source.stays = tt
  only_way what (by_phi is) = tt
  only_way what (by_load is empty) = tt
  only_way what (by_chain is empty) = tt
  only_way what (by_untyped is untyped) = tt
  only_way what (by_selection label is free way) = tt
  only_way what (by_loop is opened) = tt
  only_way what (by_folds known is comes) = tt

  -- ---- what still names a label names it in the module

  one_target : (label to : ℕ) → only_target f.plan f.words.insts (inst_at f.words.insts place) ≡ Some to → is_among label (to ∷ []) ≡ true → is_among label (targets (inst_at f.words.insts place)) ≡ true
  one_target label to only among = by_test (to == label) refl among
    where
      by_test : (b : Bool) → to == label ≡ b → (b || false) ≡ true → is_among label (targets (inst_at f.words.insts place)) ≡ true
      by_test true same some = ap (λ (n : ℕ). is_among n (targets (inst_at f.words.insts place))) (sym (eqb-true to label same)) ∙ only_among f.plan f.words.insts (inst_at f.words.insts place) to only
      by_test false differ some = cc

  among_by : (label : ℕ) (what : Fate) → OnlyWay what → is_among label (targets_left what (inst_at f.words.insts place)) ≡ true → is_among label (targets (inst_at f.words.insts place)) ≡ true
  among_by label (fate.Goes to) only among = one_target label to only among
  among_by label (fate.Picks to) only among = one_target label to only among
  among_by label fate.Dead only among = cc
  among_by label other only among = among

  pub still_leads : (label : ℕ) → leads_from f.plan f.words.insts label place ≡ true → is_among label (targets (inst_at f.words.insts place)) ≡ true
  still_leads label leads = among_by label (f.plan.fate place) (only_way (f.plan.fate place) (origin f place)) leads

  pub still_named : (label : ℕ) → still_names f.plan f.words.insts label place ≡ true → names f.words.insts place label ≡ true
  still_named label named = by_tests (leads_from f.plan f.words.insts label place) (stays (f.plan.fate place)) (is_among label (merge_labels (inst_at f.words.insts place))) (λ leads. still_leads label leads) named
    where
      by_tests : (a b c : Bool) → (a ≡ true → is_among label (targets (inst_at f.words.insts place)) ≡ true) → (a || (b && c)) ≡ true → (is_among label (targets (inst_at f.words.insts place)) || c) ≡ true
      by_tests true b c leads some = ap (λ (t : Bool). t || c) (leads refl)
      by_tests false true true leads some = or_true (is_among label (targets (inst_at f.words.insts place)))
      by_tests false true false leads some = cc
      by_tests false false c leads some = cc

  -- a dead one names nothing
  pub dead_names : (label : ℕ) → is_dead (f.plan.fate place) ≡ true → still_names f.plan f.words.insts label place ≡ false
  dead_names label is = by_fate (f.plan.fate place) is
    where
      by_fate : (what : Fate) → is_dead what ≡ true → (is_among label (targets_left what (inst_at f.words.insts place)) || (stays what && is_among label (merge_labels (inst_at f.words.insts place)))) ≡ false
      by_fate fate.Dead is = refl
      by_fate other is = cc

-- one that stays names what it names in the module
pub stays_names : (f : Found) (place label : ℕ) → f.plan.fate place ≡ fate.Stays → names f.words.insts place label ≡ true → still_names f.plan f.words.insts label place ≡ true
stays_names f place label is named =
    ap (λ (what : Fate). is_among label (targets_left what (inst_at f.words.insts place)) || (stays what && is_among label (merge_labels (inst_at f.words.insts place)))) is ∙ named
