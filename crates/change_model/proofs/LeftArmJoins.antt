-- The code that is made of a sequence whose first block ends in a selection or an OpSwitch that goes: control comes to the merge block at
-- once, or to one arm, which is joined into the sequence around it.
use Rattle.std.proofs.Common.{◌≡◌, ◌≢◌, ℕ, ◌+◌, ◌<◌, ◌≤◌, ◌⊎◌, inl, inr, Bool, true, false, ◌==◌, if◌then◌else◌, List, ◌++◌, refl, ap, sym, ◌∙◌, subst, arith, Option, None, Some}
use Rattle.std.proofs.lemmas.Bool.{cases_lt, eqb-true, eq-eqb}
use Rattle.spirv_model.specs.declared.module.Inst.{Inst}
use Rattle.spirv_model.specs.declared.module.Words.{Words}
use Rattle.body_model.specs.declared.block_end.BlockEnd.{BlockEnd}
use Rattle.body_model.specs.declared.scope.Phis.{Phis}
use Rattle.body_model.specs.declared.scope.Phis.TheVariants.{AtHeader}
use Rattle.body_model.specs.Scope.{Scope, behind_block}
use Rattle.body_model.specs.Code.{Code}
use Rattle.check_model.specs.Intervals.{Interval, intervals_of}
use Rattle.check_model.specs.Validity.{IsValidList}
use Rattle.change_model.specs.Folding.{function_at}
use Rattle.change_model.specs.Plans.{Plan, is_dead}
use Rattle.change_model.specs.PlanRules.{IsPlan, intervals_left}
use Rattle.change_model.proofs.LeftArms.{with_phis, suits_rest, free_rest, continues_rest}
use Rattle.change_model.proofs.LeftCases.{KeepsPhis, Makes, Knows}
use Rattle.change_model.proofs.LeftEndings.{Branches}
use Rattle.change_model.proofs.LeftGoes.{quiet_less, goes_made}
use Rattle.change_model.proofs.LeftJoins.{with_onward, with_itself, last_made, joined_made}
use Rattle.change_model.proofs.LeftLasts.{Head}
use Rattle.change_model.proofs.LeftScopes.{is_label_at, label_at, StandsNot, Quiet, Unled, Onward, Suits, IsFree, Apart, FitsSo, Continues, Made}
use Rattle.change_model.proofs.MovedUp.{function_is}

clash : {Q : Type 0} (b : Bool) → b ≡ true → b ≡ false → Q
clash true is isnt = cc
clash false is isnt = cc

module _ (words : Words) (v : IsValidList words) (zeros : List ℕ) (plan : Plan) (p : IsPlan words v zeros plan) (old new : Scope) (from : ℕ) (end : BlockEnd) (h : Head words v plan old new from end)
    (label merge join to : ℕ) (k : Branches plan words.insts h.o.place (h.o.place + 2) label) (goal next : Option ℕ) (onward : Onward) (all in_rest : List Interval)
    (known_next : Knows plan words.insts old onward next goal) (suits : Suits plan words.insts from to old new onward) (apart : Apart words.insts from to new)
    (cont : Continues plan words.insts (intervals_of v.derivation) from to new goal onward)
    (low : h.o.place + 2 ≤ join) (high : join < to) (at_join : is_label_at words.insts join ≡ true) (own_join : label_at words.insts join ≡ merge)
    (kept : Phis) (phis_rest : KeepsPhis plan words.insts join (with_phis kept old) (behind_block new))
    (rest : is_dead (plan.fate join) ≡ false → Makes words v plan (with_phis kept old) next join to in_rest) where
  abbrev insts : List Inst
  insts = words.insts

  abbrev intervals : List Interval
  intervals = intervals_of v.derivation

  -- the new scope of what stands behind the block
  abbrev behind : Scope
  behind = behind_block new

  least : from < join
  least = let e = h.o.place_is in let l = low in omega (arith, e, l)

  free_join : IsFree new merge
  free_join = subst (IsFree new) own_join (apart join least high at_join)

  made_rest : is_dead (plan.fate join) ≡ false → Made plan insts intervals behind goal onward join to in_rest
  made_rest lives =
      let l = least in
      rest lives behind goal onward known_next phis_rest (suits_rest plan insts from join to old new onward kept AtHeader (omega (arith, l)) suits)
      (λ place after within is. free_rest new (label_at insts place) AtHeader (apart place (omega (arith, l, after)) within is))
      (continues_rest plan insts intervals from join to new goal onward AtHeader (omega (arith, l)) cont)

  -- straight to the merge block
  pub straight_made : merge ≡ label → (dead : (place : ℕ) → h.o.place + 2 ≤ place → place < join → is_dead (plan.fate place) ≡ true) → is_dead (plan.fate join) ≡ false
      → intervals_left plan insts all ≡ intervals_left plan insts in_rest → Made plan insts intervals new goal onward from to all
  straight_made is dead lives same =
      goes_made words v zeros plan p old new from end h (h.o.place + 2) join to label goal onward all in_rest k (subst (IsFree new) is free_join) (own_join ∙ is) at_join low high dead same (made_rest lives)

  -- to an arm
  module _ (S : Scope) (a b : ℕ) (inner : List Interval) (first : h.o.place + 2 ≤ a) (forward : a < b) (most : b ≤ join) (at_arm : is_label_at insts a ≡ true) (own_arm : label_at insts a ≡ label)
      (phis_arm : KeepsPhis plan insts a S behind) (past : Option ℕ) (makes_arm : Makes words v plan S past a b inner)
      (knows_arm : (further : Onward) → (further merge ≢ None) ⊎ Unled plan insts a b merge → Knows plan insts S further past goal)
      (suits_arm : (further : Onward) → ((label : ℕ) → onward label ≢ None → further label ≢ None) → (further merge ≢ None) ⊎ Unled plan insts a b merge → Suits plan insts a b S behind further)
      (stands_not : StandsNot insts a b merge) (quiet : Quiet plan insts intervals a b merge)
      (same_life : is_dead (plan.fate join) ≡ false → Unled plan insts a b merge → ⊥) where
    behind_from : from < a
    behind_from = let e = h.o.place_is in let l = first in omega (arith, e, l)

    in_function : function_at insts ≤ a
    in_function = let f = function_is insts v.derivation in let l = h.low in let b = behind_from in omega (arith, f, l, b)

    apart_arm : Apart insts a b behind
    apart_arm place after within is =
        let l = behind_from in
        let m = most in
        let t = high in
        free_rest new (label_at insts place) AtHeader (apart place (omega (arith, l, after)) (omega (arith, within, m, t)) is)

    beyond_arm : (place : ℕ) → a < place → place < b → is_label_at insts place ≡ true → (new.test ≡ Some (label_at insts place) → ⊥) × (goal ≡ Some (label_at insts place) → ⊥)
    beyond_arm place after within is =
        let l = behind_from in
        let m = most in
        let t = high in
        cont.beyond place (omega (arith, l, after)) (omega (arith, within, m, t)) is

    -- the merge block is another place to which neither a test leads nor what stands behind
    beyond_join : (new.test ≡ Some merge → ⊥) × (goal ≡ Some merge → ⊥)
    beyond_join = subst (λ (n : ℕ). (new.test ≡ Some n → ⊥) × (goal ≡ Some n → ⊥)) own_join (cont.beyond join least high at_join)

    free_arm : IsFree new label
    free_arm =
        let m = most in
        let t = high in
        let f = forward in
        subst (IsFree new) own_arm (apart a behind_from (omega (arith, f, m, t)) at_arm)

    -- the code of the merge block stands behind it
    module _ (lives : is_dead (plan.fate join) ≡ false) where
      r : Made plan insts intervals behind goal onward join to in_rest
      r = made_rest lives

      abbrev further : Onward
      further = with_onward merge r.code onward

      more : (label : ℕ) → onward label ≢ None → further label ≢ None
      more label some = by_test (merge == label)
        where
          by_test : (b : Bool) → (if b then Some r.code else onward label) ≢ None
          by_test true none = cc
          by_test false none = some none

      there : further merge ≢ None
      there none = never (sym (with_itself merge r.code onward) ∙ none)
        where
          never : ◌≡◌ {A = Option Code} (Some r.code) None → ⊥
          never is = cc

      r_fits : FitsSo behind (Some merge) r.code goal
      r_fits = subst (λ (n : ℕ). FitsSo behind (Some n) r.code goal) own_join r.fits

      continues_more : Continues plan insts intervals a b behind goal further
      continues_more = record {
        fits = λ label code is. fits_by label code (merge == label) refl is;
        free = λ label code is. free_by label code (merge == label) refl is;
        quiet = λ label code is. quiet_by label code (merge == label) refl is;
        beyond = beyond_arm;
      }
        where
          fits_by : (label : ℕ) (code : Code) (t : Bool) → merge == label ≡ t → (if t then Some r.code else onward label) ≡ Some code → FitsSo (behind_block behind) (Some label) code goal
          fits_by label code true is same =
              let f = subst (λ (n : ℕ). FitsSo behind (Some n) r.code goal) (eqb-true merge label is) r_fits in
              subst (λ (c : Code). FitsSo (behind_block behind) (Some label) c goal) (own_code r.code code same) (record { next = f.next; fits = f.fits; next_is = f.next_is })
            where
              own_code : (c d : Code) → ◌≡◌ {A = Option Code} (Some c) (Some d) → c ≡ d
              own_code c d is = cc
          fits_by label code false is same = let f = cont.fits label code same in record { next = f.next; fits = f.fits; next_is = f.next_is }

          free_by : (label : ℕ) (code : Code) (t : Bool) → merge == label ≡ t → (if t then Some r.code else onward label) ≡ Some code → IsFree behind label
          free_by label code true is same = subst (IsFree behind) (eqb-true merge label is) (free_rest new merge AtHeader free_join)
          free_by label code false is same = free_rest new label AtHeader (cont.free label code same)

          quiet_by : (label : ℕ) (code : Code) (t : Bool) → merge == label ≡ t → (if t then Some r.code else onward label) ≡ Some code → Quiet plan insts intervals a b label
          quiet_by label code true is same = subst (Quiet plan insts intervals a b) (eqb-true merge label is) quiet
          quiet_by label code false is same =
              let l = behind_from in
              let m = most in
              let t = high in
              quiet_less plan insts intervals from a to b label (omega (arith, l)) (omega (arith, m, t)) (cont.quiet label code same)

      made_more : Made plan insts intervals behind goal further a b inner
      made_more = makes_arm behind goal further (knows_arm further (inl there)) phis_arm (suits_arm further more (inl there)) apart_arm continues_more

      -- something leads to the merge block, and so the end of the arm does
      ends_there : (found : Option ℕ) → made_more.end ≡ found → made_more.end ≡ Some merge
      ends_there found is = by_test found is
        where
          other : (made_more.end ≡ Some merge → ⊥) → made_more.end ≡ Some merge
          other isnt = absurd (same_life lives (made_more.only merge stands_not quiet (isnt, beyond_join.0, beyond_join.1)))

          by_equal : (found : ℕ) (t : Bool) → found == merge ≡ t → made_more.end ≡ Some found → made_more.end ≡ Some merge
          by_equal found true same is = is ∙ ap (λ (n : ℕ). Some n) (eqb-true found merge same)
          by_equal found false isnt is = other (λ equal. clash (found == merge) (eq-eqb found merge (one_label found merge (sym is ∙ equal))) isnt)
            where
              one_label : (x y : ℕ) → ◌≡◌ {A = Option ℕ} (Some x) (Some y) → x ≡ y
              one_label x y same = cc

          by_test : (found : Option ℕ) → made_more.end ≡ found → made_more.end ≡ Some merge
          by_test None is = other (λ equal. no_label (sym is ∙ equal))
            where
              no_label : ◌≡◌ {A = Option ℕ} None (Some merge) → ⊥
              no_label same = cc
          by_test (Some found) is = by_equal found (found == merge) refl is

      -- nothing in the arm leads to another label that stands elsewhere
      pub other_unled : (label : ℕ) → (label ≡ merge → ⊥) → StandsNot insts a b label → Quiet plan insts intervals a b label → (new.test ≡ Some label → ⊥) × (goal ≡ Some label → ⊥) → Unled plan insts a b label
      other_unled label isnt none quiet_there differs =
          made_more.only label none quiet_there ((λ is. isnt (one_label label merge (sym is ∙ ends_there made_more.end refl))), differs.0, differs.1)
        where
          one_label : (x y : ℕ) → ◌≡◌ {A = Option ℕ} (Some x) (Some y) → x ≡ y
          one_label x y same = cc

    module _ (dead_before : (place : ℕ) → h.o.place + 2 ≤ place → place < a → is_dead (plan.fate place) ≡ true) (dead_between : (place : ℕ) → b ≤ place → place < join → is_dead (plan.fate place) ≡ true)
        (no_lead : is_dead (plan.fate join) ≡ true → Unled plan insts a b merge) (dead_rest : is_dead (plan.fate join) ≡ true → (place : ℕ) → join ≤ place → place < to → is_dead (plan.fate place) ≡ true)
        (same_dead : is_dead (plan.fate join) ≡ true → intervals_left plan insts all ≡ intervals_left plan insts inner)
        (same : intervals_left plan insts all ≡ intervals_left plan insts inner ++ intervals_left plan insts in_rest) where
      goes_to_arm : (inside : List Interval) → intervals_left plan insts all ≡ intervals_left plan insts inside → Made plan insts intervals behind goal onward a to inside → Made plan insts intervals new goal onward from to all
      goes_to_arm inside equal made =
          let m = most in
          let t = high in
          let f = forward in
          goes_made words v zeros plan p old new from end h (h.o.place + 2) a to label goal onward all inside k free_arm own_arm at_arm first (omega (arith, f, m, t)) dead_before equal made

      -- nothing goes to the merge block any more
      module _ (dead : is_dead (plan.fate join) ≡ true) where
        continues_dead : Continues plan insts intervals a b behind goal onward
        continues_dead = record {
          fits = λ label code is. (let f = cont.fits label code is in record { next = f.next; fits = f.fits; next_is = f.next_is });
          free = λ label code is. free_rest new label AtHeader (cont.free label code is);
          quiet = λ label code is. (let l = behind_from in let m = most in let t = high in quiet_less plan insts intervals from a to b label (omega (arith, l)) (omega (arith, m, t)) (cont.quiet label code is));
          beyond = beyond_arm;
        }

        alone_made : Made plan insts intervals new goal onward from to all
        alone_made =
            let m = most in
            let t = high in
            let f = forward in
            let made = makes_arm behind goal onward (knows_arm onward (inr (no_lead dead))) phis_arm (suits_arm onward (λ label some. some) (inr (no_lead dead))) apart_arm continues_dead in
            goes_to_arm inner (same_dead dead)
            (last_made plan insts intervals behind goal onward a b to in_function (omega (arith, f)) inner inner refl (omega (arith, m, t)) nothing made)
          where
            nothing : (place : ℕ) → b ≤ place → place < to → is_dead (plan.fate place) ≡ true
            nothing place least less = elim (cases_lt place join) [
              | inl before ↦ dead_between place least before
              | inr there ↦ dead_rest dead place there less
            ]

      joined_here : (lives : is_dead (plan.fate join) ≡ false) → Made plan insts intervals new goal onward from to all
      joined_here lives =
          let f = forward in
          goes_to_arm all refl
          (joined_made plan insts intervals behind goal onward a b to in_function (omega (arith, f)) join merge all inner in_rest same most high at_join own_join dead_between (r lives) (made_more lives) (ends_there lives (made_more lives).end refl))

      pub arm_made : Made plan insts intervals new goal onward from to all
      arm_made = by_life (is_dead (plan.fate join)) refl
        where
          by_life : (b : Bool) → is_dead (plan.fate join) ≡ b → Made plan insts intervals new goal onward from to all
          by_life true is = alone_made is
          by_life false is = joined_here is
