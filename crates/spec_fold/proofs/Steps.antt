-- What the plan says after one more instruction.
use Rattle.std.proofs.Common.{◌≡◌, ℕ, zero, suc, ◌+◌, ◌-◌, ◌<◌, ◌≤◌, ◌==◌, inl, inr, Bool, true, false, if◌then◌else◌, List, [], ◌∷◌, length, refl, ap, sym, ◌∙◌, arith, subst, Option, None, Some}
use Rattle.std.specs.Prelude.{◌⊎◌}
use Rattle.std.proofs.lemmas.Bool.{cases_lt, eqb-true, eq-eqb}
use Rattle.std.proofs.lemmas.List.{get_or_append_left, get_or_at, get_or-append_right}
use Rattle.spirv_model.specs.declared.op.TheConstants as op
use Rattle.spirv_model.specs.Operands.{word_at}
use Rattle.valid_model.specs.Definitions.{definition, inst_at}
use Rattle.check_model.specs.Intervals.{intervals_of}
use Rattle.check_model.specs.Validity.{IsValidList}
use Rattle.check_model.specs.Visibility.{Incoming}
use Rattle.change_model.specs.declared.fate.Fate.{Fate}
use Rattle.change_model.specs.declared.fate.Fate.TheVariants as fate
use Rattle.change_model.specs.Plans.{Plan, fate_in, name_in}
use Rattle.change_model.specs.PlanRules.{IsResolvedId}
use Rattle.change_model.specs.Passes.{IsNamedAfter, fate_found, pairs_found}
use Rattle.change_model.proofs.FoundSooner.{found_same, pairs_same}
use Rattle.change_model.proofs.KnownSooner.{AgreeBefore}
use Rattle.change_model.proofs.PlanRunsNames.{phi_result}
use Rattle.change_model.proofs.PlanRunsValues.{own_defined}
use Rattle.change_model.proofs.SoonerUses.{value_earlier}
use Rattle.spec_fold.specs.Facts.{AreFacts}
use Rattle.spec_fold.specs.PhiPairs.{lone_value}
use Rattle.spec_fold.specs.Walks.{IsFoundBefore, IsStep, IsWalk, named_after, plan_in, value_for}
use Rattle.spec_fold.specs.declared.facts.Facts.{Facts}
use Rattle.spec_fold.specs.declared.walk.Walk.{Walk}
use Rattle.spec_fold.proofs.Resolves.{resolves_phi}

-- ---- fates by place

past_stays : (fates : List Fate) (at : ℕ) → length fates ≤ at → fate_in fates at ≡ fate.Stays
past_stays [] at past = refl
past_stays (what ∷ fates) zero past = absurd (omega (arith, past))
past_stays (what ∷ fates) (suc at) past = past_stays fates at (omega (arith, past))

none_some : {Q : Type 0} (found : Option ℕ) (id : ℕ) → found ≡ None → found ≡ Some id → Q
none_some found id none some = let e = sym none ∙ some in cc

place_same : (found : Option ℕ) (a b : ℕ) → found ≡ Some a → found ≡ Some b → a ≡ b
place_same found a b first second = some_same a b (sym first ∙ second)
  where
    some_same : (a b : ℕ) → Some a ≡ Some b → a ≡ b
    some_same a b is = cc

-- a step over the instruction at a place, of which is known what it becomes
pub record Stepped : Type 0 where
  pub facts : Facts
  pub are : AreFacts facts
  pub place : ℕ
  pub within : place < length facts.of.now.insts
  pub what : Fate
  pub old : Walk
  pub new : Walk
  pub had : IsWalk facts place old
  pub step : IsStep facts.of.now.insts place what (value_for what (pairs_found (plan_in old) facts.of.now.insts place)) old new
  pub outside : (v : IsValidList facts.of.now) → (place ≤ v.derivation.before) ⊎ (v.derivation.after ≤ place) → what ≡ fate.Stays
  pub inside : (v : IsValidList facts.of.now) → v.derivation.before < place → place < v.derivation.after
      → what ≡ fate_found (intervals_of v.derivation) facts.of.now.insts facts.zeros.now (v.derivation.before + 1) (plan_in old) place
  pub phi : what ≡ fate.Resolves → (inst_at facts.of.now.insts place).op ≡ op.PHI

module _ (s : Stepped) where
  abbrev old : Plan
  old = plan_in s.old

  abbrev new : Plan
  new = plan_in s.new

  pub fate_before : (at : ℕ) → at < s.place → (plan_in s.new).fate at ≡ (plan_in s.old).fate at
  fate_before at less = let e = s.had.count in ap (λ (l : List Fate). fate_in l at) s.step.fates ∙ get_or_append_left s.old.fates.items (s.what ∷ []) fate.Stays at (omega (arith, less, e))

  pub fate_here : (plan_in s.new).fate s.place ≡ s.what
  fate_here = ap (λ (l : List Fate). fate_in l s.place) s.step.fates ∙ get_or_at s.old.fates.items s.what [] fate.Stays s.place s.had.count

  pub fate_past : (at : ℕ) → s.place < at → (plan_in s.new).fate at ≡ fate.Stays
  fate_past at past =
      let e = s.had.count in
      ap (λ (l : List Fate). fate_in l at) s.step.fates ∙ get_or-append_right s.old.fates.items (s.what ∷ []) s.place at fate.Stays e (omega (arith, past))
      ∙ past_stays (s.what ∷ []) (at - s.place) (omega (arith, past))

  pub old_past : (at : ℕ) → s.place ≤ at → (plan_in s.old).fate at ≡ fate.Stays
  old_past at past = let e = s.had.count in past_stays s.old.fates.items at (omega (arith, past, e))

  -- each place is before it, at it or past it
  by_place : (P : ℕ → Type 0) (at : ℕ) → (at < s.place → P at) → P s.place → (s.place < at → P at) → P at
  by_place P at before here past = elim (cases_lt at s.place) [
    | inl less ↦ before less
    | inr least ↦ elim (cases_lt s.place at) [
      | inl more ↦ past more
      | inr most ↦ let e : s.place ≡ at = omega (arith, least, most) in subst P e here
    ]
  ]

  -- ---- names

  abbrev own : ℕ
  own = word_at 1 (inst_at s.facts.of.now.insts s.place)

  own_there : s.what ≡ fate.Resolves → definition s.facts.of.now.insts (word_at 1 (inst_at s.facts.of.now.insts s.place)) ≡ Some s.place
  own_there is = own_defined s.facts.of.now s.are.valid s.place own s.within (phi_result (inst_at s.facts.of.now.insts s.place) (s.phi is))

  -- what is defined before it keeps its name
  name_before : (id at : ℕ) → definition s.facts.of.now.insts id ≡ Some at → at < s.place → (plan_in s.new).name id ≡ (plan_in s.old).name id
  name_before id at defined less = s.step.names id ∙ by_fate s.what refl
    where
      other : s.what ≡ fate.Resolves → word_at 1 (inst_at s.facts.of.now.insts s.place) == id ≡ true → ⊥
      other is same =
          let e = place_same (definition s.facts.of.now.insts id) at s.place defined (ap (definition s.facts.of.now.insts) (sym (eqb-true own id same)) ∙ own_there is) in
          omega (arith, e, less)

      by_test : (b : Bool) (value : ℕ) → own == id ≡ b → s.what ≡ fate.Resolves → (if b then name_in s.old.names.items value else name_in s.old.names.items id) ≡ name_in s.old.names.items id
      by_test true value same is = absurd (other is same)
      by_test false value isnt is = refl

      by_value : (value : Option ℕ) → s.what ≡ fate.Resolves → named_after s.old.names.items own value id ≡ name_in s.old.names.items id
      by_value None is = refl
      by_value (Some value) is = by_test (own == id) value refl is

      by_fate : (what : Fate) → s.what ≡ what → named_after s.old.names.items own (value_for what (pairs_found (plan_in s.old) s.facts.of.now.insts s.place)) id ≡ name_in s.old.names.items id
      by_fate fate.Resolves is = by_value (lone_value (pairs_found (plan_in s.old) s.facts.of.now.insts s.place)) is
      by_fate what is = refl

  pub agree : (at : ℕ) → at ≤ s.place → AgreeBefore s.facts.of.now.insts at (plan_in s.old) (plan_in s.new)
  agree at least = record {
    fates = λ k less. sym (fate_before k (omega (arith, less, least)));
    names = λ id k defined less. sym (name_before id k defined (omega (arith, less, least)));
  }

  -- ---- what is found

  outside_stays : (v : IsValidList s.facts.of.now) (at : ℕ) → (at ≤ v.derivation.before) ⊎ (v.derivation.after ≤ at) → (plan_in s.new).fate at ≡ fate.Stays
  outside_stays v at outside = by_place (λ at. (at ≤ v.derivation.before) ⊎ (v.derivation.after ≤ at) → (plan_in s.new).fate at ≡ fate.Stays) at
      (λ less outside. fate_before at less ∙ s.had.is.outside v at outside)
      (λ outside. fate_here ∙ s.outside v outside)
      (λ past outside. fate_past at past) outside

  found_before : (v : IsValidList s.facts.of.now) (at : ℕ) → v.derivation.before < at → at < v.derivation.after → at < s.place + 1
      → (plan_in s.new).fate at ≡ fate_found (intervals_of v.derivation) s.facts.of.now.insts s.facts.zeros.now (v.derivation.before + 1) (plan_in s.new) at
  found_before v at low high less = elim (cases_lt at s.place) [
    | inl before ↦
        fate_before at before ∙ s.had.is.found v at low high before
        ∙ found_same s.facts.of.now v s.facts.zeros.now (plan_in s.old) (plan_in s.new) at (agree at (omega (arith, before))) low high
    | inr least ↦ here (omega (arith, less, least)) low high
  ]
    where
      here : at ≡ s.place → v.derivation.before < at → at < v.derivation.after
          → (plan_in s.new).fate at ≡ fate_found (intervals_of v.derivation) s.facts.of.now.insts s.facts.zeros.now (v.derivation.before + 1) (plan_in s.new) at
      here is low high =
          let low : v.derivation.before < s.place = omega (arith, is, low) in
          let high : s.place < v.derivation.after = omega (arith, is, high) in
          ap (plan_in s.new).fate is ∙ fate_here ∙ s.inside v low high
          ∙ found_same s.facts.of.now v s.facts.zeros.now (plan_in s.old) (plan_in s.new) s.place (agree s.place (omega arith)) low high
          ∙ ap (fate_found (intervals_of v.derivation) s.facts.of.now.insts s.facts.zeros.now (v.derivation.before + 1) (plan_in s.new)) (sym is)

  -- ---- names of phis that go

  lone_named : (pairs : List Incoming) → pairs_found (plan_in s.old) s.facts.of.now.insts s.place ≡ pairs → s.what ≡ fate.Resolves → IsNamedAfter (plan_in s.new) s.facts.of.now.insts s.place pairs
  lone_named [] is resolves = tt
  lone_named (pair ∷ []) is resolves =
      let e = value_earlier s.facts.of.now s.are.valid s.place s.within (plan_in s.old) (s.phi resolves) pair is in
      let value : value_for s.what (pairs_found (plan_in s.old) s.facts.of.now.insts s.place) ≡ Some pair.value =
      ap (λ (w : Fate). value_for w (pairs_found (plan_in s.old) s.facts.of.now.insts s.place)) resolves ∙ ap lone_value is in
      s.step.names own ∙ ap (λ (v : Option ℕ). named_after s.old.names.items own v own) value
      ∙ by_test (own == own) (eq-eqb own own refl) ∙ sym (name_before pair.value e.at e.is e.less)
    where
      by_test : (b : Bool) → b ≡ true → (if b then name_in s.old.names.items pair.value else name_in s.old.names.items own) ≡ name_in s.old.names.items pair.value
      by_test true is = refl
      by_test false is = cc
  lone_named (pair ∷ other ∷ pairs) is resolves = tt

  -- the names of an earlier phi and of its value are as they were
  kept_named : (v : IsValidList s.facts.of.now) (at : ℕ) (pairs : List Incoming) → at < s.place → (plan_in s.old).fate at ≡ fate.Resolves → pairs_found (plan_in s.old) s.facts.of.now.insts at ≡ pairs
      → IsNamedAfter (plan_in s.old) s.facts.of.now.insts at pairs → IsNamedAfter (plan_in s.new) s.facts.of.now.insts at pairs
  kept_named v at [] less resolves is named = tt
  kept_named v at (pair ∷ []) less resolves is named =
      let within : at < length s.facts.of.now.insts = let more = s.within in omega (arith, less, more) in
      let phi = resolves_phi s.facts.of.now v s.facts.zeros.now (plan_in s.old) s.place s.had.is at less resolves in
      let own_at = own_defined s.facts.of.now v at (word_at 1 (inst_at s.facts.of.now.insts at)) within (phi_result (inst_at s.facts.of.now.insts at) phi) in
      let e = value_earlier s.facts.of.now v at within (plan_in s.old) phi pair is in
      let before = e.less in
      name_before (word_at 1 (inst_at s.facts.of.now.insts at)) at own_at less ∙ named ∙ sym (name_before pair.value e.at e.is (omega (arith, before, less)))
  kept_named v at (pair ∷ other ∷ pairs) less resolves is named = tt

  named_all : (v : IsValidList s.facts.of.now) (at : ℕ) → (plan_in s.new).fate at ≡ fate.Resolves → IsNamedAfter (plan_in s.new) s.facts.of.now.insts at (pairs_found (plan_in s.new) s.facts.of.now.insts at)
  named_all v at = by_place (λ at. (plan_in s.new).fate at ≡ fate.Resolves → IsNamedAfter (plan_in s.new) s.facts.of.now.insts at (pairs_found (plan_in s.new) s.facts.of.now.insts at)) at
      (λ less resolves.
      let was = sym (fate_before at less) ∙ resolves in
      subst (IsNamedAfter (plan_in s.new) s.facts.of.now.insts at) (pairs_same s.facts.of.now.insts at (plan_in s.old) (plan_in s.new) (agree at (omega (arith, less))))
      (kept_named v at (pairs_found (plan_in s.old) s.facts.of.now.insts at) less was refl (s.had.is.named v at was)))
      (λ resolves.
      subst (IsNamedAfter (plan_in s.new) s.facts.of.now.insts s.place) (pairs_same s.facts.of.now.insts s.place (plan_in s.old) (plan_in s.new) (agree s.place (omega arith)))
      (lone_named (pairs_found (plan_in s.old) s.facts.of.now.insts s.place) refl (sym fate_here ∙ resolves)))
      (λ past resolves. let e = sym (fate_past at past) ∙ resolves in cc)

  -- ---- other names

  resolved_still : (id : ℕ) → IsResolvedId (plan_in s.old) s.facts.of.now.insts id → IsResolvedId (plan_in s.new) s.facts.of.now.insts id
  resolved_still id r = elim (cases_lt r.place s.place) [
    | inl less ↦ record { place = r.place; resolves = fate_before r.place less ∙ r.resolves; own = r.own }
    | inr least ↦ no_resolves (sym (old_past r.place least) ∙ r.resolves)
  ]
    where
      no_resolves : {Q : Type 0} → fate.Stays ≡ fate.Resolves → Q
      no_resolves is = cc

  names_all : (id : ℕ) → ((plan_in s.new).name id ≡ id) ⊎ IsResolvedId (plan_in s.new) s.facts.of.now.insts id
  names_all id = by_fate s.what refl
    where
      by_old : (plan_in s.new).name id ≡ (plan_in s.old).name id → ((plan_in s.new).name id ≡ id) ⊎ IsResolvedId (plan_in s.new) s.facts.of.now.insts id
      by_old same = elim (s.had.is.names id) [
        | inl own ↦ inl (same ∙ own)
        | inr r ↦ inr (resolved_still id r)
      ]

      by_test : (b : Bool) (value : ℕ) → own == id ≡ b → s.what ≡ fate.Resolves
          → (plan_in s.new).name id ≡ (if b then name_in s.old.names.items value else name_in s.old.names.items id)
          → ((plan_in s.new).name id ≡ id) ⊎ IsResolvedId (plan_in s.new) s.facts.of.now.insts id
      by_test true value same is named = inr (record { place = s.place; resolves = fate_here ∙ is; own = eqb-true own id same })
      by_test false value isnt is named = by_old named

      by_value : (value : Option ℕ) → s.what ≡ fate.Resolves → (plan_in s.new).name id ≡ named_after s.old.names.items own value id
          → ((plan_in s.new).name id ≡ id) ⊎ IsResolvedId (plan_in s.new) s.facts.of.now.insts id
      by_value None is named = by_old named
      by_value (Some value) is named = by_test (own == id) value refl is named

      by_fate : (what : Fate) → s.what ≡ what → ((plan_in s.new).name id ≡ id) ⊎ IsResolvedId (plan_in s.new) s.facts.of.now.insts id
      by_fate fate.Resolves is = by_value (value_for s.what (pairs_found (plan_in s.old) s.facts.of.now.insts s.place)) is (s.step.names id)
      by_fate what is = by_old (s.step.names id ∙ ap (λ (w : Fate). named_after s.old.names.items own (value_for w (pairs_found (plan_in s.old) s.facts.of.now.insts s.place)) id) is)

  pub found_after : IsFoundBefore s.facts.of.now s.facts.zeros.now (s.place + 1) (plan_in s.new)
  found_after = record { outside = outside_stays; found = found_before; named = named_all; names = names_all }
