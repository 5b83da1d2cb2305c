-- What is kept from one instruction to the next, and at the end.
use Rattle.std.proofs.Common.{◌≡◌, ℕ, zero, suc, ◌+◌, ◌<◌, ◌≤◌, ◌||◌, inl, inr, Bool, true, false, not, [], ◌∷◌, length, refl, ap, sym, ◌∙◌, arith, subst, Option}
use Rattle.std.specs.Prelude.{◌⊎◌, OnOk, Result, Ok, Err}
use Rattle.std.specs.List.{list_any, range_with_len}
use Rattle.std.proofs.lemmas.Bool.{cases_lt}
use Rattle.std.proofs.lemmas.List.{length-append}
use Rattle.spirv_model.specs.declared.op.TheConstants as op
use Rattle.valid_model.specs.Definitions.{inst_at}
use Rattle.check_model.specs.Intervals.{intervals_of}
use Rattle.check_model.specs.Validity.{IsValidList}
use Rattle.change_model.specs.declared.fate.Fate.{Fate}
use Rattle.change_model.specs.declared.fate.Fate.TheVariants as fate
use Rattle.change_model.specs.PlanRules.{still_names, stays}
use Rattle.change_model.specs.Passes.{fate_found, held_at, keeps_merge, next_held, pairs_found}
use Rattle.typed_model.proofs.BlockParts.{clash}
use Rattle.change_model.proofs.FoundSooner.{merges_same, named_same}
use Rattle.spv_rewrite.proofs.BlockEnds.{label_next}
use Rattle.spec_fold.specs.Facts.{AreFacts}
use Rattle.spec_fold.specs.Sets.{AddsThose, AreThose, has}
use Rattle.spec_fold.specs.Walks.{GoesAnywhere, IsPassOf, IsStep, IsWalk, merges_with, names_with, plan_in, value_for}
use Rattle.spec_fold.specs.declared.facts.Facts.{Facts}
use Rattle.spec_fold.specs.declared.marks.Marks.{Marks}
use Rattle.spec_fold.specs.declared.walk.Walk.{Walk}
use Rattle.spec_fold.proofs.Resolves.{found_phi}
use Rattle.spec_fold.proofs.Steps.{Stepped, agree, fate_before, fate_here, fate_past, found_after, old_past}

-- ---- sets

or_assoc : (a b c : Bool) → ((a || b) || c) ≡ (a || (b || c))
or_assoc true b c = refl
or_assoc false b c = refl

or_false : (a : Bool) → (a || false) ≡ a
or_false true = refl
or_false false = refl

-- one more place
any_more : (p : ℕ → Bool) (from n : ℕ) → list_any p (range_with_len from (suc n)) ≡ (list_any p (range_with_len from n) || p (from + n))
any_more p from zero = or_false (p from) ∙ ap p {x = from} {y = from + 0} (omega arith)
any_more p from (suc n) =
    ap (λ (b : Bool). p from || b) (any_more p (from + 1) n ∙ ap (λ (k : ℕ). list_any p (range_with_len (from + 1) n) || p k) {x = from + 1 + n} {y = from + suc n} (omega arith))
    ∙ sym (or_assoc (p from) (list_any p (range_with_len (from + 1) n)) (p (from + suc n)))

pub set_more : (p q : ℕ → ℕ → Bool) (place : ℕ) (old new : Marks) → ((label : ℕ) → list_any (p label) (range_with_len 0 place) ≡ list_any (q label) (range_with_len 0 place))
    → AreThose (λ label. list_any (p label) (range_with_len 0 place)) old → AddsThose (λ label. q label place) old new
    → AreThose (λ label. list_any (q label) (range_with_len 0 (place + 1))) new
set_more p q place old new same are adds label =
    adds label ∙ ap (λ (b : Bool). b || q label place) (are label ∙ same label) ∙ ap (λ (n : ℕ). list_any (q label) (range_with_len 0 place) || q label n) {x = place} {y = 0 + place} (omega arith) ∙ sym (any_more (q label) 0 place)
    ∙ ap (λ (n : ℕ). list_any (q label) (range_with_len 0 n)) {x = suc place} {y = place + 1} (omega arith)

-- ---- one more instruction

stays_only : (what : Fate) → stays what ≡ true → what ≡ fate.Stays
stays_only fate.Stays is = refl
stays_only what is = cc

neither : (a b : Bool) → (a || not b) ≡ false → (a ≡ false) × (b ≡ true)
neither false true is = (refl, refl)
neither false false is = cc
neither true b is = cc

module _ (s : Stepped) where
  names_here : (label : ℕ) → names_with s.what (inst_at s.facts.of.now.insts s.place) label ≡ still_names (plan_in s.new) s.facts.of.now.insts label s.place
  names_here label = ap (λ (what : Fate). names_with what (inst_at s.facts.of.now.insts s.place) label) (sym (fate_here s))

  merges_here : (label : ℕ) → merges_with s.what (inst_at s.facts.of.now.insts s.place) label ≡ keeps_merge (plan_in s.new) s.facts.of.now.insts label s.place
  merges_here label = ap (λ (what : Fate). merges_with what (inst_at s.facts.of.now.insts s.place) label) (sym (fate_here s))

  unchanged_after : s.new.changes ≡ false → (at : ℕ) → (plan_in s.new).fate at ≡ fate.Stays
  unchanged_after is at =
      let n = neither s.old.changes (stays s.what) (sym s.step.changes ∙ is) in
      elim (cases_lt at s.place) [
        | inl less ↦ fate_before s at less ∙ s.had.unchanged n.0 at
        | inr least ↦ elim (cases_lt s.place at) [
          | inl past ↦ fate_past s at past
          | inr most ↦ let e : at ≡ s.place = omega (arith, least, most) in ap (plan_in s.new).fate e ∙ fate_here s ∙ stays_only s.what n.1
        ]
      ]

  some_change : s.new.changes ≡ true → GoesAnywhere (plan_in s.new)
  some_change is = by_tests s.old.changes (stays s.what) refl refl (sym s.step.changes ∙ is)
    where
      before : GoesAnywhere (plan_in s.old) → GoesAnywhere (plan_in s.new)
      before g = elim (cases_lt g.at s.place) [
        | inl less ↦ record { at = g.at; goes = ap stays (fate_before s g.at less) ∙ g.goes }
        | inr least ↦ absurd (clash (stays ((plan_in s.old).fate g.at)) (ap stays (old_past s g.at least)) g.goes)
      ]

      by_tests : (a b : Bool) → s.old.changes ≡ a → stays s.what ≡ b → (a || not b) ≡ true → GoesAnywhere (plan_in s.new)
      by_tests true b was now is = before (s.had.changed was)
      by_tests false false was now is = record { at = s.place; goes = ap stays (fate_here s) ∙ now }
      by_tests false true was now is = cc

  pub walk_after : IsWalk s.facts (s.place + 1) s.new
  walk_after = record {
    count = let e = s.had.count in ap length s.step.fates ∙ length-append s.old.fates.items (s.what ∷ []) ∙ ap (λ (n : ℕ). n + 1) e;
    is = found_after s;
    named = set_more (still_names (plan_in s.old) s.facts.of.now.insts) (still_names (plan_in s.new) s.facts.of.now.insts) s.place s.old.named s.new.named
        (named_same s.facts.of.now.insts s.place (plan_in s.old) (plan_in s.new) (agree s s.place (omega arith))) s.had.named
        (λ label. s.step.named label ∙ ap (λ (b : Bool). has s.old.named label || b) (names_here label));
    merges = set_more (keeps_merge (plan_in s.old) s.facts.of.now.insts) (keeps_merge (plan_in s.new) s.facts.of.now.insts) s.place s.old.merges s.new.merges
        (merges_same s.facts.of.now.insts s.place (plan_in s.old) (plan_in s.new) (agree s s.place (omega arith))) s.had.merges
        (λ label. s.step.merges label ∙ ap (λ (b : Bool). has s.old.merges label || b) (merges_here label));
    held = s.step.held ∙ ap (next_held s.facts.of.now.insts s.place) s.had.held ∙ ap (held_at s.facts.of.now.insts) {x = suc s.place} {y = s.place + 1} (omega arith);
    label = s.step.label ∙ label_next s.facts.of.now s.place s.old.label (inst_at s.facts.of.now.insts s.place) s.within refl s.had.label;
    unchanged = unchanged_after;
    changed = some_change;
  }

-- nothing but a phi resolves
pub phi_only : (facts : Facts) (are : AreFacts facts) (walk : Walk) (place : ℕ) (what : Fate)
    → ((v : IsValidList facts.of.now) → (place ≤ v.derivation.before) ⊎ (v.derivation.after ≤ place) → what ≡ fate.Stays)
    → ((v : IsValidList facts.of.now) → v.derivation.before < place → place < v.derivation.after
    → what ≡ fate_found (intervals_of v.derivation) facts.of.now.insts facts.zeros.now (v.derivation.before + 1) (plan_in walk) place)
    → what ≡ fate.Resolves → (inst_at facts.of.now.insts place).op ≡ op.PHI
phi_only facts are walk place what outside inside is = elim (cases_lt are.valid.derivation.before place) [
  | inl low ↦ elim (cases_lt place are.valid.derivation.after) [
    | inl high ↦ found_phi facts.of.now.insts place (intervals_of are.valid.derivation) facts.zeros.now (are.valid.derivation.before + 1) (plan_in walk) (sym (inside are.valid low high) ∙ is)
    | inr past ↦ never (sym (outside are.valid (inr past)) ∙ is)
  ]
  | inr before ↦ never (sym (outside are.valid (inl before)) ∙ is)
]
  where
    never : {Q : Type 0} → fate.Stays ≡ fate.Resolves → Q
    never is = cc

pub step_done : {E : Type 0} (result : Result (Unit {0}) E) (facts : Facts) (are : AreFacts facts) (place : ℕ) (within : place < length facts.of.now.insts) (what : Fate) (value : Option ℕ) (old new : Walk)
    → IsWalk facts place old → value ≡ value_for what (pairs_found (plan_in old) facts.of.now.insts place) → OnOk result (IsStep facts.of.now.insts place what value old new)
    → ((v : IsValidList facts.of.now) → (place ≤ v.derivation.before) ⊎ (v.derivation.after ≤ place) → what ≡ fate.Stays)
    → ((v : IsValidList facts.of.now) → v.derivation.before < place → place < v.derivation.after
    → what ≡ fate_found (intervals_of v.derivation) facts.of.now.insts facts.zeros.now (v.derivation.before + 1) (plan_in old) place)
    → OnOk result (IsWalk facts (place + 1) new)
step_done (Err e) facts are place within what value old new had is step outside inside = tt
step_done (Ok done) facts are place within what value old new had is step outside inside = walk_after (record {
  facts = facts;
  are = are;
  place = place;
  within = within;
  what = what;
  old = old;
  new = new;
  had = had;
  step = subst (λ (v : Option ℕ). IsStep facts.of.now.insts place what v old new) is step;
  outside = outside;
  inside = inside;
  phi = phi_only facts are old place what outside inside;
})

-- ---- the end

pub passed : (facts : Facts) (walk : Walk) (place : ℕ) → length facts.of.now.insts ≤ place → IsWalk facts place walk → IsPassOf facts.of.now facts.zeros.now walk
passed facts walk place whole w = record {
  found = λ v. record {
    outside = w.is.outside v;
    found = λ at low high. w.is.found v at low high (let last = v.derivation.last in omega (arith, high, last, whole));
    named = w.is.named v;
    names = w.is.names;
    unread = λ id. refl;
  };
  unchanged = w.unchanged;
  changed = w.changed;
}
