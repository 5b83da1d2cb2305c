-- The arms of an OpSwitch: the code that is made of them where it stays, and where one of them alone is left.
use Rattle.std.proofs.Common.{◌≡◌, ℕ, ◌+◌, ◌<◌, ◌≤◌, inl, inr, ◌==◌, ◌||◌, not, Bool, true, false, if◌then◌else◌, List, [], ◌∷◌, ◌++◌, length, map, refl, ap, sym, ◌∙◌, subst, arith, None, Some}
use Rattle.std.proofs.lemmas.Bool.{cases_lt, eqb-true, eq-eqb}
use Rattle.std.proofs.lemmas.List.{map-append}
use Rattle.spirv_model.specs.declared.module.Inst.{Inst}
use Rattle.spirv_model.specs.declared.module.Words.{Words}
use Rattle.body_model.specs.Scope.{Scope, switch_arm}
use Rattle.body_model.specs.Switches.{is_among, without}
use Rattle.body_model.specs.Targets.{targets}
use Rattle.body_model.specs.Code.{NoArm, ArmBehind, printed, printed_arms}
use Rattle.body_model.specs.Fitting.{no_arm, arm_behind}
use Rattle.valid_model.specs.Definitions.{inst_at}
use Rattle.check_model.specs.Intervals.{Interval, around, intervals_of}
use Rattle.check_model.specs.Validity.{IsValidList}
use Rattle.check_model.proofs.CodeIntervals.{inside_code, past}
use Rattle.check_model.proofs.CodeIntervals as code_intervals
use Rattle.change_model.specs.Folding.{function_at}
use Rattle.change_model.specs.Plans.{Plan, is_dead, leads_from}
use Rattle.change_model.specs.PlanRules.{IsPlan, goes, intervals_left, merge_labels}
use Rattle.change_model.proofs.ChangedPlaces.{place_left}
use Rattle.change_model.proofs.LeftArmParts.{ArmAt, begins_own, either_place, arm_lives, arm_dead, arm_unled, arm_closed}
use Rattle.change_model.proofs.LeftArms.{continues_nowhere, suits_switch_arm, free_switch_arm}
use Rattle.change_model.proofs.LeftClosed.{Closed, none_next}
use Rattle.change_model.proofs.LeftEndings.{differ}
use Rattle.change_model.proofs.LeftGoes.{unled_both}
use Rattle.change_model.proofs.LeftIntervals.{moved}
use Rattle.change_model.proofs.LeftLasts.{clash, none_left, refuted}
use Rattle.change_model.proofs.LeftRemains.{left_both, none_left_of}
use Rattle.change_model.proofs.LeftScopes.{label_at, names, written, Quiet, Unled, Onward, Suits, Apart, FitsSo}
use Rattle.change_model.proofs.LeftSwitches.{MadeArms}
use Rattle.change_model.proofs.LeftWritten.{written_none, written_split, written_places}
use Rattle.change_model.proofs.MovedUp.{function_is}

-- ---- labels without one of them

without_more : (label own : ℕ) (labels : List ℕ) → without label (own ∷ labels) ≡ (if not (own == label) then own ∷ without label labels else without label labels)
without_more label own labels = refl

-- one of them is another one, and among them all
pub among_without : (label other : ℕ) (labels : List ℕ) → is_among other (without label labels) ≡ true → (is_among other labels ≡ true) × (other ≡ label → ⊥)
among_without label other [] among = cc
among_without label other (own ∷ labels) among = by_test (own == label) refl among (among_without label other labels)
  where
    by_own : (b : Bool) → own == other ≡ b → own == label ≡ false → (b || is_among other (without label labels)) ≡ true → (is_among other (without label labels) ≡ true → (is_among other labels ≡ true) × (other ≡ label → ⊥))
        → ((b || is_among other labels) ≡ true) × (other ≡ label → ⊥)
    by_own true same differs some more = (refl, λ equal. clash (own == label) (eq-eqb own label (eqb-true own other same ∙ equal)) differs)
    by_own false isnt differs some more = more some

    or_right : (a b : Bool) → b ≡ true → (a || b) ≡ true
    or_right true b is = refl
    or_right false b is = is

    by_test : (b : Bool) → own == label ≡ b → is_among other (if not b then own ∷ without label labels else without label labels) ≡ true → (is_among other (without label labels) ≡ true → (is_among other labels ≡ true) × (other ≡ label → ⊥))
        → (is_among other (own ∷ labels) ≡ true) × (other ≡ label → ⊥)
    by_test true same some more = let r = more some in (or_right (own == other) (is_among other labels) r.0, r.1)
    by_test false differs some more = by_own (own == other) refl differs some more

-- and back
pub still_among : (label other : ℕ) (labels : List ℕ) → is_among other labels ≡ true → (other ≡ label → ⊥) → is_among other (without label labels) ≡ true
still_among label other [] among isnt = cc
still_among label other (own ∷ labels) among isnt = by_tests (own == label) (own == other) refl refl among (λ more. still_among label other labels more isnt)
  where
    by_tests : (a b : Bool) → own == label ≡ a → own == other ≡ b → (b || is_among other labels) ≡ true → (is_among other labels ≡ true → is_among other (without label labels) ≡ true)
        → is_among other (if not a then own ∷ without label labels else without label labels) ≡ true
    by_tests true true first second some more = absurd (isnt (sym (eqb-true own other second) ∙ eqb-true own label first))
    by_tests true false first second some more = more some
    by_tests false true first second some more = ap (λ (b : Bool). b || is_among other (without label labels)) second
    by_tests false false first second some more = ap (λ (b : Bool). b || is_among other (without label labels)) second ∙ more some

-- ---- arms

-- some arms of an OpSwitch, one behind the other: of its arms with the first labels, those with the second ones are due at the first place,
-- and those with the third ones are left at the second place
pub data ArmsAt (words : Words) (v : IsValidList words) (plan : Plan) (old : Scope) (merge branch : ℕ) (all due : List ℕ) (from : ℕ) : List ℕ → ℕ → List Interval → Type 0 where
  no_arms : {left : List ℕ} {to : ℕ} {inside : List Interval} → due ≡ left → from ≡ to → inside ≡ [] → ArmsAt words v plan old merge branch all due from left to inside
  more_arms : {left : List ℕ} {to : ℕ} {inside : List Interval} (label between : ℕ) (before : List ℕ) (others inner : List Interval) → ArmsAt words v plan old merge branch all due from before between others → is_among label before ≡ true
      → without label before ≡ left → inside ≡ others ++ around between to inner → is_among label all ≡ true → from ≤ between → ArmAt words v plan (switch_arm old merge (without label all)) merge branch label between to inner
      → ArmsAt words v plan old merge branch all due from left to inside

module _ (words : Words) (v : IsValidList words) (zeros : List ℕ) (plan : Plan) (p : IsPlan words v zeros plan) (old new : Scope) (merge branch low high : ℕ) (all : List ℕ) (onward : Onward) (first : v.derivation.before + 1 ≤ branch) (behind : low < branch)
    (suits : Suits plan words.insts low high old new onward) (apart : Apart words.insts low high new) (ways : goes (plan.fate branch) ≡ false)
    (all_targets : (label : ℕ) → is_among label all ≡ true → is_among label (targets (inst_at words.insts branch)) ≡ true) where
  abbrev insts : List Inst
  insts = words.insts

  abbrev intervals : List Interval
  intervals = intervals_of v.derivation

  -- the code of one of them that is left
  pub switch_arm_closed : (fewer : List ℕ) → ((other : ℕ) → is_among other all ≡ false → is_among other fewer ≡ false) → (label from to : ℕ) (inner : List Interval)
      → ((other : ℕ) → is_among other (without label all) ≡ false → is_among other fewer ≡ false)
      → ArmAt words v plan (switch_arm old merge (without label all)) merge branch label from to inner → to ≤ high → leads_from plan insts label branch ≡ true → Closed plan insts (switch_arm new merge fewer) None from to inner
  switch_arm_closed fewer fewer_all label from to inner fewer_others x most leads =
      let b = x.behind in
      let l = behind in
      arm_closed words v zeros plan p (switch_arm old merge (without label all)) merge branch label from to inner x first (switch_arm new merge fewer)
      (arm_lives words v zeros plan p (switch_arm old merge (without label all)) merge branch label from to inner x first leads) ways refl
      (suits_switch_arm plan insts low from to high merge old new onward (omega (arith, b, l)) most suits (without label all) fewer fewer_others)
      (λ place after within is. free_switch_arm new merge (label_at insts place) fewer (apart place (omega (arith, b, l, after)) (omega (arith, within, most)) is) (λ same. x.apart place (omega (arith, after)) within is (sym same))
      (fewer_all (label_at insts place) (refuted (is_among (label_at insts place) all) (λ among.
      clash (is_among (label_at insts place) (targets (inst_at insts branch))) (all_targets (label_at insts place) among) (not_named (label_at insts place) (x.placed.entered branch place (inl b) after within is))))))
      (continues_nowhere plan insts intervals from to (switch_arm new merge fewer) None (λ place after within is. (λ same. cc, λ same. cc)))
    where
      first_none : (a b : Bool) → (a || b) ≡ false → a ≡ false
      first_none true b none = cc
      first_none false b none = refl

      not_named : (other : ℕ) → names insts branch other ≡ false → is_among other (targets (inst_at insts branch)) ≡ false
      not_named other none = first_none (is_among other (targets (inst_at insts branch))) (is_among other (merge_labels (inst_at insts branch))) none

  -- ---- all of them are left

  module _ (due : List ℕ) (from : ℕ) (low_from : branch < from) (leads : (label : ℕ) → is_among label all ≡ true → leads_from plan insts label branch ≡ true) where
    in_function : function_at insts ≤ from
    in_function = let f = function_is insts v.derivation in omega (arith, f, first, low_from)

    pub arms_closed : (left : List ℕ) (to : ℕ) (inside : List Interval) → to ≤ high → ArmsAt words v plan old merge branch all due from left to inside → MadeArms plan insts new merge all due left from to inside
    arms_closed left to inside most (no_arms same none nothing) = record {
      code = NoArm;
      fits = no_arm same;
      prints = sym (written_none plan insts from to (omega (arith, none)));
      inner = sym (ap (map (moved plan insts)) (ap (intervals_left plan insts) nothing ∙ none_left plan insts));
    }
    arms_closed left to inside most (more_arms label between before others inner arms among fewer is own least x) =
        let f = x.forward in
        let P = place_left plan insts in
        let M = map (moved plan insts) in
        let L = intervals_left plan insts in
        let a = arms_closed before between others (omega (arith, f, most)) arms in
        let c = switch_arm_closed (without label all) (λ other none. refuted (is_among other (without label all)) (λ some. clash (is_among other all) (among_without label other all some).0 none)) label between to inner (λ other none. none) x most (leads label own) in
        let at_between : past (P from) (printed_arms a.code) ≡ P between = ap (λ (l : List Inst). P from + length l) a.prints ∙ written_places plan insts from between least in_function in
        record {
          code = ArmBehind a.code label c.code;
          fits = arm_behind label before a.fits among fewer (none_next (subst (λ (n : ℕ). FitsSo (switch_arm new merge (without label all)) (Some n) c.code None) x.own c.fits));
          prints = ap (λ (l : List Inst). l ++ printed c.code) a.prints ∙ ap (λ (l : List Inst). written plan insts from between ++ l) c.prints ∙ sym (written_split plan insts from between to least (omega (arith, f)));
          inner = ap (λ (l : List Interval). l ++ code_intervals.between (past (P from) (printed_arms a.code)) c.code (inside_code c.code (past (P from) (printed_arms a.code)))) a.inner
              ∙ ap (λ (n : ℕ). M (L others) ++ code_intervals.between n c.code (inside_code c.code n)) at_between
              ∙ ap (λ (l : List Interval). M (L others) ++ l) c.inner
              ∙ sym (map-append (moved plan insts) (L others) (L (around between to inner)))
              ∙ ap M (sym (left_both plan insts others (around between to inner))) ∙ ap (λ (l : List Interval). M (L l)) (sym is);
        }

    pub arms_unled : (left : List ℕ) (to : ℕ) (inside : List Interval) → to ≤ high → ArmsAt words v plan old merge branch all due from left to inside → (other : ℕ) → Quiet plan insts intervals low high other → Unled plan insts from to other
    arms_unled left to inside most (no_arms same none nothing) other quiet = λ place least less. absurd (omega (arith, none, least, less))
    arms_unled left to inside most (more_arms label between before others inner arms among fewer is own least x) other quiet =
        let f = x.forward in
        let b = behind in
        let l = low_from in
        let alive = arm_lives words v zeros plan p (switch_arm old merge (without label all)) merge branch label between to inner x first (leads label own) in
        unled_both plan insts from between to other (arms_unled before between others (omega (arith, f, most)) arms other quiet)
        (arm_unled words v zeros plan p (switch_arm old merge (without label all)) merge branch label between to inner x first alive ways low high other (omega (arith, b, l, least)) most quiet)

-- ---- one of them is left

-- it stands at a place, and all others are dead
pub record OneArm (words : Words) (v : IsValidList words) (plan : Plan) (old : Scope) (merge branch : ℕ) (all : List ℕ) (label from to : ℕ) (inside : List Interval) : Type 0 where
  pub start : ℕ
  pub end : ℕ
  pub inner : List Interval
  pub arm : ArmAt words v plan (switch_arm old merge (without label all)) merge branch label start end inner
  pub low : from ≤ start
  pub high : end ≤ to
  pub before : (place : ℕ) → from ≤ place → place < start → is_dead (plan.fate place) ≡ true
  pub behind : (place : ℕ) → end ≤ place → place < to → is_dead (plan.fate place) ≡ true
  pub same : intervals_left plan words.insts inside ≡ intervals_left plan words.insts (around start end inner)

module _ (words : Words) (v : IsValidList words) (zeros : List ℕ) (plan : Plan) (p : IsPlan words v zeros plan) (old : Scope) (merge branch : ℕ) (all due : List ℕ) (from chosen : ℕ) (first : v.derivation.before + 1 ≤ branch)
    (leads : (other : ℕ) → leads_from plan words.insts other branch ≡ (chosen == other)) (silent : (other : ℕ) → is_among other (merge_labels (inst_at words.insts branch)) ≡ false) where
  abbrev code : List Inst
  code = words.insts

  one_dead : (label start end : ℕ) (inner : List Interval) → ArmAt words v plan (switch_arm old merge (without label all)) merge branch label start end inner → (chosen ≡ label → ⊥) → (place : ℕ) → start ≤ place → place < end → is_dead (plan.fate place) ≡ true
  one_dead label start end inner x isnt =
      arm_dead words v zeros plan p (switch_arm old merge (without label all)) merge branch label start end inner x first (leads label ∙ differ chosen label isnt) (silent label)

  one_left : (label start end : ℕ) (inner : List Interval) → ArmAt words v plan (switch_arm old merge (without label all)) merge branch label start end inner → (chosen ≡ label → ⊥) → intervals_left plan code (around start end inner) ≡ []
  one_left label start end inner x isnt = none_left_of plan code start end (one_dead label start end inner x isnt) (around start end inner) (begins_own start end inner x.forward x.starts)

  abbrev AllDead : ℕ → List Interval → Type 0
  AllDead to inside = ((place : ℕ) → from ≤ place → place < to → is_dead (plan.fate place) ≡ true) × (intervals_left plan code inside ≡ [])

  nothing_there : (to : ℕ) (inside : List Interval) → from ≡ to → inside ≡ [] → AllDead to inside
  nothing_there to inside none nothing = (λ place least less. absurd (omega (arith, none, least, less)), ap (intervals_left plan code) nothing ∙ none_left plan code)

  one_more : (to between label : ℕ) (inside others inner : List Interval) → inside ≡ others ++ around between to inner → ArmAt words v plan (switch_arm old merge (without label all)) merge branch label between to inner → (chosen ≡ label → ⊥)
      → AllDead between others → AllDead to inside
  one_more to between label inside others inner is x isnt rest = (
    λ place least less. elim (cases_lt place between) [ inl early ↦ rest.0 place least early | inr late ↦ one_dead label between to inner x isnt place late less ],
    ap (intervals_left plan code) is ∙ left_both plan code others (around between to inner) ∙ ap (λ (l : List Interval). l ++ intervals_left plan code (around between to inner)) rest.1 ∙ one_left label between to inner x isnt,
  )

  -- control goes to none of them
  pub none_taken : is_among chosen all ≡ false → (left : List ℕ) (to : ℕ) (inside : List Interval) → ArmsAt words v plan old merge branch all due from left to inside → AllDead to inside
  none_taken none left to inside (no_arms same empty nothing) = nothing_there to inside empty nothing
  none_taken none left to inside (more_arms label between before others inner arms among fewer is own least x) =
      one_more to between label inside others inner is x (λ same. clash (is_among chosen all) (ap (λ (n : ℕ). is_among n all) same ∙ own) none) (none_taken none before between others arms)

  -- those before one whose label is still due
  none_yet : (left : List ℕ) (to : ℕ) (inside : List Interval) → is_among chosen left ≡ true → ArmsAt words v plan old merge branch all due from left to inside → AllDead to inside
  none_yet left to inside still (no_arms same empty nothing) = nothing_there to inside empty nothing
  none_yet left to inside still (more_arms label between before others inner arms among fewer is own least x) =
      let r = among_without label chosen before (ap (is_among chosen) fewer ∙ still) in
      one_more to between label inside others inner is x r.1 (none_yet before between others r.0 arms)

  -- the one that is taken
  pub one_taken : is_among chosen due ≡ true → (left : List ℕ) (to : ℕ) (inside : List Interval) → is_among chosen left ≡ false → ArmsAt words v plan old merge branch all due from left to inside → OneArm words v plan old merge branch all chosen from to inside
  one_taken due_still left to inside gone (no_arms same empty nothing) = clash (is_among chosen left) (ap (is_among chosen) (sym same) ∙ due_still) gone
  one_taken due_still left to inside gone (more_arms label between before others inner arms among fewer is own least x) =
      either_place label chosen
      (λ same.
      let n = none_yet before between others (ap (λ (n : ℕ). is_among n before) (sym same) ∙ among) arms in
      record {
        start = between;
        end = to;
        inner = inner;
        arm = subst (λ (n : ℕ). ArmAt words v plan (switch_arm old merge (without n all)) merge branch n between to inner) same x;
        low = least;
        high = omega arith;
        before = n.0;
        behind = λ place past less. absurd (omega (arith, past, less));
        same = ap (intervals_left plan code) is ∙ left_both plan code others (around between to inner) ∙ ap (λ (l : List Interval). l ++ intervals_left plan code (around between to inner)) n.1;
      })
      (λ isnt.
      let f = x.forward in
      let other : chosen ≡ label → ⊥ = λ same. isnt (sym same) in
      let o = one_taken due_still before between others (refuted (is_among chosen before) (λ some. clash (is_among chosen left) (ap (is_among chosen) (sym fewer) ∙ still_among label chosen before some other) gone)) arms in
      let oh = o.high in
      record {
        start = o.start;
        end = o.end;
        inner = o.inner;
        arm = o.arm;
        low = o.low;
        high = omega (arith, oh, f);
        before = o.before;
        behind = λ place past less. elim (cases_lt place between) [ inl early ↦ o.behind place past early | inr late ↦ one_dead label between to inner x other place late less ];
        same = ap (intervals_left plan code) is ∙ left_both plan code others (around between to inner) ∙ ap (λ (l : List Interval). intervals_left plan code others ++ l) (one_left label between to inner x other)
            ∙ append_none (intervals_left plan code others) ∙ o.same;
      })
    where
      append_none : (xs : List Interval) → xs ++ [] ≡ xs
      append_none [] = refl
      append_none (i ∷ xs) = ap (λ (l : List Interval). i ∷ l) (append_none xs)
