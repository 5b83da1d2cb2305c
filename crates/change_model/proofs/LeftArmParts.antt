-- Arms of a selection or an OpSwitch: the branch before them alone leads to them from before. One that it still leads to is left, and the
-- others are dead.
use Rattle.std.proofs.Common.{◌≡◌, ℕ, ◌+◌, ◌-◌, ◌<◌, ◌≤◌, inl, ◌==◌, ◌&&◌, ◌||◌, Bool, true, false, List, refl, ap, ◌∙◌, arith, Option, None}
use Rattle.std.specs.List.{list_any}
use Rattle.std.proofs.lemmas.Bool.{eqb-true, eq-eqb}
use Rattle.spirv_model.specs.declared.module.Inst.{Inst}
use Rattle.spirv_model.specs.declared.module.Words.{Words}
use Rattle.spirv_model.specs.declared.op.TheConstants as op
use Rattle.body_model.specs.declared.scope.Phis.TheVariants.{AtHeader}
use Rattle.body_model.specs.Scope.{Scope, behind_selection}
use Rattle.body_model.specs.Switches.{is_among}
use Rattle.valid_model.specs.Definitions.{inst_at}
use Rattle.check_model.specs.Intervals.{Interval, interval, around, intervals_of}
use Rattle.check_model.specs.Validity.{IsValidList}
use Rattle.change_model.specs.Folding.{function_at}
use Rattle.change_model.specs.declared.fate.Fate.TheVariants as fate
use Rattle.change_model.specs.Plans.{Plan, is_dead, leads_from}
use Rattle.change_model.specs.PlanRules.{IsPlan, goes, remains, merge_labels, stays, still_names}
use Rattle.change_model.proofs.LeftAlive.{still_named, named_alive, unnamed_dead, all_dead}
use Rattle.change_model.proofs.LeftCases.{KeepsPhis, Makes}
use Rattle.change_model.proofs.LeftClosed.{Closed, closed}
use Rattle.change_model.proofs.LeftDerivations.{nowhere}
use Rattle.change_model.proofs.LeftLasts.{clash, and_no}
use Rattle.change_model.proofs.LeftPlaced.{Branched}
use Rattle.change_model.proofs.LeftRemains.{BeginIn, remains_so, no_test_behind, unentered_by, remains_among}
use Rattle.change_model.proofs.LeftScopes.{is_label_at, label_at, has_bounds, names, Placed, StandsNot, Quiet, Unled, Suits, Apart, Continues}
use Rattle.change_model.proofs.MovedUp.{function_is}

pub begins_own : (from to : ℕ) (is : List Interval) → from < to → BeginIn from to is → BeginIn from to (around from to is)
begins_own from to is forward s = ((omega arith, forward), s)

-- ---- arms

-- an arm of a selection or an OpSwitch whose branch stands at a place
pub record ArmAt (words : Words) (v : IsValidList words) (plan : Plan) (S : Scope) (merge branch label from to : ℕ) (inside : List Interval) : Type 0 where
  pub forward : from < to
  pub behind : branch < from
  pub placed : Placed words.insts v.derivation S None from to inside
  pub is_label : is_label_at words.insts from ≡ true
  pub own : label_at words.insts from ≡ label
  pub apart : StandsNot words.insts from to merge
  -- nothing before it names its label but the branch
  pub before : (place : ℕ) → place < from → (place ≡ branch → ⊥) → names words.insts place label ≡ false
  -- nor does the branch of another selection
  pub branched : Branched words.insts (branch + 1) from
  pub no_loop : (inst_at words.insts (from - 2)).op == op.LOOP_MERGE ≡ false
  -- no merge instruction in it names the merge block
  pub merges : (place : ℕ) → from ≤ place → place < to → is_among merge (merge_labels (inst_at words.insts place)) ≡ false
  pub starts : BeginIn from to inside
  pub among : (test : Interval → Bool) → list_any test (around from to inside) ≡ true → list_any test (intervals_of v.derivation) ≡ true
  pub phis : (new : Scope) → new.phis ≡ AtHeader → KeepsPhis plan words.insts from S new
  pub makes : is_dead (plan.fate from) ≡ false → Makes words v plan S None from to inside

-- what stands behind the arms, where the merge instruction stands at a place
pub record RestAt (words : Words) (v : IsValidList words) (plan : Plan) (old : Scope) (next : Option ℕ) (merge merging from to : ℕ) (inside : List Interval) : Type 0 where
  pub forward : from < to
  pub behind : merging + 2 ≤ from
  pub placed : Placed words.insts v.derivation (behind_selection old) next from to inside
  pub is_label : is_label_at words.insts from ≡ true
  pub own : label_at words.insts from ≡ merge
  -- nothing before the merge instruction names its label
  pub before : (place : ℕ) → place < merging → names words.insts place merge ≡ false
  pub starts : BeginIn from to inside
  pub phis : plan.fate merging ≡ fate.Skips → (new : Scope) → new.phis ≡ AtHeader → KeepsPhis plan words.insts from (behind_selection old) new
  pub makes : is_dead (plan.fate from) ≡ false → Makes words v plan (behind_selection old) next from to inside

pub either_place : {Q : Type 0} (a b : ℕ) → (a ≡ b → Q) → ((a ≡ b → ⊥) → Q) → Q
either_place {Q = Q} a b same other = by_test (a == b) refl
  where
    by_test : (t : Bool) → a == b ≡ t → Q
    by_test true is = same (eqb-true a b is)
    by_test false isnt = other (λ is. clash (a == b) (eq-eqb a b is) isnt)

module _ (words : Words) (v : IsValidList words) (zeros : List ℕ) (plan : Plan) (p : IsPlan words v zeros plan) (S : Scope) (merge branch label from to : ℕ) (inside : List Interval) (a : ArmAt words v plan S merge branch label from to inside)
    (low : v.derivation.before + 1 ≤ branch) where
  abbrev insts : List Inst
  insts = words.insts

  or_left : (x y : Bool) → x ≡ true → (x || y) ≡ true
  or_left true y is = refl
  or_left false y is = cc

  first_low : v.derivation.before + 1 < from
  first_low = let b = a.behind in omega (arith, low, b)

  first_high : from < v.derivation.after
  first_high = let f = a.forward in let h = a.placed.high in omega (arith, f, h)

  unnamed : (place : ℕ) → place < from → (place ≡ branch → ⊥) → still_names plan insts (label_at insts from) place ≡ false
  unnamed place less other = still_named words v zeros plan p place (label_at insts from) (ap (names insts place) a.own ∙ a.before place less other)

  -- the branch leads there
  pub arm_lives : leads_from plan insts label branch ≡ true → is_dead (plan.fate from) ≡ false
  arm_lives leads = named_alive words v zeros plan p from branch first_low first_high a.is_label (or_left (leads_from plan insts (label_at insts from) branch) (stays (plan.fate branch) && is_among (label_at insts from) (merge_labels (inst_at insts branch))) (ap (λ (n : ℕ). leads_from plan insts n branch) a.own ∙ leads))

  -- it doesn't
  pub arm_dead : leads_from plan insts label branch ≡ false → is_among label (merge_labels (inst_at insts branch)) ≡ false → (place : ℕ) → from ≤ place → place < to → is_dead (plan.fate place) ≡ true
  arm_dead leads merges =
      all_dead words v zeros plan p from to a.placed.low a.placed.high (λ place at less behind before is. a.placed.entered place at (inl less) behind before is)
      (unnamed_dead words v zeros plan p from first_low first_high a.is_label
      (λ place less. either_place place branch
      (λ same. ap (still_names plan insts (label_at insts from)) same ∙ ap (λ (n : ℕ). still_names plan insts n branch) a.own ∙ branch_names) (λ other. unnamed place less other)))
    where
      branch_names : still_names plan insts label branch ≡ false
      branch_names = or_none (leads_from plan insts label branch) (stays (plan.fate branch) && is_among label (merge_labels (inst_at insts branch))) leads (and_no (stays (plan.fate branch)) (is_among label (merge_labels (inst_at insts branch))) merges)
        where
          or_none : (x y : Bool) → x ≡ false → y ≡ false → (x || y) ≡ false
          or_none x y first second = rw first second

  -- where the branch has more than one way or stays an OpSwitch, it is a sequence of its own
  pub arm_remains : is_dead (plan.fate from) ≡ false → goes (plan.fate branch) ≡ false → remains plan insts (interval from to) ≡ true
  arm_remains alive ways =
      let before : branch + 1 - 1 ≡ branch = omega arith in
      remains_so plan insts from to alive (unentered_by words v zeros plan p (branch + 1) from a.branched (ap (λ (n : ℕ). goes (plan.fate n)) before ∙ ways)) (no_test_behind plan insts from to a.no_loop)

  pub arm_member : list_any (has_bounds from to) (intervals_of v.derivation) ≡ true
  arm_member = a.among (has_bounds from to) (rw (eq-eqb from from refl) (rw (eq-eqb to to refl) refl))

  -- where it is left, nothing in it leads to a label to which no nested sequence leads
  pub arm_unled : is_dead (plan.fate from) ≡ false → goes (plan.fate branch) ≡ false → (low high other : ℕ) → low < from → to ≤ high → Quiet plan insts (intervals_of v.derivation) low high other → Unled plan insts from to other
  arm_unled alive ways low high other less most quiet = quiet from to less most
      (remains_among plan insts (intervals_of v.derivation) (around from to inside) a.among from to (rw (arm_remains alive ways) (rw (eq-eqb from from refl) (rw (eq-eqb to to refl) refl))))

  in_function : function_at insts ≤ from
  in_function = let f = function_is insts v.derivation in let l = a.placed.low in omega (arith, f, l)

  -- its code, where it is left
  pub arm_closed : (new : Scope) → is_dead (plan.fate from) ≡ false → goes (plan.fate branch) ≡ false → new.phis ≡ AtHeader → Suits plan insts from to S new nowhere → Apart insts from to new
      → Continues plan insts (intervals_of v.derivation) from to new None nowhere → Closed plan insts new None from to inside
  arm_closed new alive ways phis suits apart cont =
      let f = a.forward in
      closed plan insts (intervals_of v.derivation) new None from to inside in_function (omega (arith, f)) (arm_remains alive ways) (a.makes alive new None nowhere (inl refl) (a.phis new phis) suits apart cont)
