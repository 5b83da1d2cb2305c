-- A label is dead in the plan that one pass finds exactly where nothing still names it.
use Rattle.std.proofs.Common.{◌≡◌, ℕ, zero, suc, ◌+◌, ◌-◌, ◌<◌, ◌≤◌, ◌⊎◌, inl, inr, Bool, true, false, ◌==◌, ◌||◌, if◌then◌else◌, List, refl, ap, sym, ◌∙◌, arith, None}
use Rattle.std.proofs.lemmas.Bool.{cases_lt, eq-eqb, ne_eqb}
use Rattle.spirv_model.specs.declared.module.Inst.{Inst}
use Rattle.body_model.proofs.Forward.{forward}
use Rattle.stage_model.proofs.CodeRuns.{due_of}
use Rattle.change_model.specs.declared.fate.Fate.TheVariants as fate
use Rattle.change_model.specs.Plans.{is_dead}
use Rattle.change_model.specs.PlanRules.{still_names, IsEnteredRightly}
use Rattle.change_model.specs.Passes.{is_named_before}
use Rattle.change_model.proofs.FoundPlans.{Found}
use Rattle.change_model.proofs.FoundGoes.{still_named, dead_names}
use Rattle.change_model.proofs.FoundOrigins.{alive_never, dead_fate, label_found, alive_fate}
use Rattle.change_model.proofs.LeftAlive.{none_any}
use Rattle.change_model.proofs.LeftBlockNames.{silent_names}
use Rattle.change_model.proofs.LeftChosen.{any_of_range}
use Rattle.change_model.proofs.LeftPlaced.{due_label}
use Rattle.change_model.proofs.LeftPlacedWhole.{outside_silent, labels_once}
use Rattle.change_model.proofs.LeftScopes.{is_label_at, label_at, names}
use Rattle.change_model.proofs.LoopNames.{Beyond, ahead, back, known}

clash : {Q : Type 0} (b : Bool) → b ≡ true → b ≡ false → Q
clash true is isnt = cc
clash false is isnt = cc

refuted : (b : Bool) → (b ≡ true → ⊥) → b ≡ false
refuted true isnt = absurd (isnt refl)
refuted false isnt = refl

module _ (f : Found) where
  abbrev insts : List Inst
  insts = f.words.insts

  -- ---- one instruction

  -- behind the first block's label, a label is dead exactly where nothing before it names it
  label_dead : (place : ℕ) → f.valid.derivation.before + 1 < place → place < f.valid.derivation.after → is_label_at insts place ≡ true → (b : Bool) → is_named_before f.plan insts place ≡ b → is_dead (f.plan.fate place) ≡ (if b then false else true)
  label_dead place low high is b named =
      ap is_dead (label_found f place (omega (arith, low)) high is)
      ∙ by_test b (place == f.valid.derivation.before + 1) (is_named_before f.plan insts place) (ne_eqb place (f.valid.derivation.before + 1) (λ same. omega (arith, same, low))) named
    where
      by_test : (b a c : Bool) → a ≡ false → c ≡ b → is_dead (if a || c then fate.Stays else fate.Dead) ≡ (if b then false else true)
      by_test true a c first second = rw first (rw second refl)
      by_test false a c first second = rw first (rw second refl)

  -- a label that something before it still names is alive
  pub named_alive : (place from : ℕ) → f.valid.derivation.before + 1 < place → place < f.valid.derivation.after → is_label_at insts place ≡ true → from < place → still_names f.plan insts (label_at insts place) from ≡ true
      → is_dead (f.plan.fate place) ≡ false
  named_alive place from low high is less named =
      label_dead place low high is true (any_of_range (still_names f.plan insts (label_at insts place)) place 0 from (omega arith) (omega (arith, less)) named)

  pub unnamed_dead : (place : ℕ) → f.valid.derivation.before + 1 < place → place < f.valid.derivation.after → is_label_at insts place ≡ true → ((from : ℕ) → from < place → still_names f.plan insts (label_at insts place) from ≡ false)
      → is_dead (f.plan.fate place) ≡ true
  unnamed_dead place low high is none = label_dead place low high is false (none_any (still_names f.plan insts (label_at insts place)) place 0 (λ at least less. none at (omega (arith, less))))

  pub first_alive : is_dead (f.plan.fate (f.valid.derivation.before + 1)) ≡ false
  first_alive =
      let g = (forward insts f.valid.derivation.sequence).forward in
      ap is_dead (label_found f (f.valid.derivation.before + 1) (omega arith) g (due_label insts None (f.valid.derivation.before + 1) (due_of f.valid.derivation.sequence)))
      ∙ first_fate (f.valid.derivation.before + 1 == f.valid.derivation.before + 1) (is_named_before f.plan insts (f.valid.derivation.before + 1)) (eq-eqb (f.valid.derivation.before + 1) (f.valid.derivation.before + 1) refl)
    where
      first_fate : (a b : Bool) → a ≡ true → is_dead (if a || b then fate.Stays else fate.Dead) ≡ false
      first_fate a b is = rw is refl

  pub same_block : (place : ℕ) → f.valid.derivation.before < place → place + 1 < f.valid.derivation.after → is_label_at insts (place + 1) ≡ false → is_dead (f.plan.fate (place + 1)) ≡ is_dead (f.plan.fate place)
  same_block place low high isnt = by_test (is_dead (f.plan.fate place)) refl
    where
      before : place + 1 - 1 ≡ place
      before = omega arith

      by_test : (b : Bool) → is_dead (f.plan.fate place) ≡ b → is_dead (f.plan.fate (place + 1)) ≡ is_dead (f.plan.fate place)
      by_test true dead = ap is_dead (dead_fate f (place + 1) (omega (arith, low)) high isnt (ap (λ (n : ℕ). is_dead (f.plan.fate n)) before ∙ dead)) ∙ sym dead
      by_test false alive = ap is_dead (alive_fate f (place + 1) (omega (arith, low)) high isnt (ap (λ (n : ℕ). is_dead (f.plan.fate n)) before ∙ alive)) ∙ alive_never f (place + 1) ∙ sym alive

  -- ---- a part that nothing before its first label enters

  module _ (from to : ℕ) (low : f.valid.derivation.before + 1 ≤ from) (high : to ≤ f.valid.derivation.after)
      (entered : (place at : ℕ) → place < from → from < at → at < to → is_label_at insts at ≡ true → names insts place (label_at insts at) ≡ false) (first : is_dead (f.plan.fate from) ≡ true) where
    one_dead : (n place : ℕ) → place ≡ from + n → place < to → ((at : ℕ) → from ≤ at → at < place → is_dead (f.plan.fate at) ≡ true) → is_dead (f.plan.fate place) ≡ true
    one_dead zero place is less before = ap (λ (n : ℕ). is_dead (f.plan.fate n)) {x = place} {y = from} (omega (arith, is)) ∙ first
    one_dead (suc n) place is less before = by_test (is_label_at insts place) refl
      where
        unnamed : is_label_at insts place ≡ true → (at : ℕ) → at < place → (at < from) ⊎ (from ≤ at) → still_names f.plan insts (label_at insts place) at ≡ false
        unnamed label at under (inl outside) = refuted (still_names f.plan insts (label_at insts place) at)
            (λ named. clash (names insts at (label_at insts place)) (still_named f at (label_at insts place) named) (entered at place outside (omega (arith, is)) less label))
        unnamed label at under (inr inside) = dead_names f at (label_at insts place) (before at inside under)

        by_test : (b : Bool) → is_label_at insts place ≡ b → is_dead (f.plan.fate place) ≡ true
        by_test true label = unnamed_dead place (omega (arith, is, low)) (omega (arith, less, high)) label (λ at under. unnamed label at under (cases_lt at from))
        by_test false plain =
            let one : place ≡ from + n + 1 = omega (arith, is) in
            ap (λ (k : ℕ). is_dead (f.plan.fate k)) one
            ∙ same_block (from + n) (omega (arith, low)) (omega (arith, one, less, high)) (ap (is_label_at insts) (sym one) ∙ plain)
            ∙ before (from + n) (omega arith) (omega (arith, one))

    up_to : (n place : ℕ) → from ≤ place → place < from + n → place < to → is_dead (f.plan.fate place) ≡ true
    up_to zero place least less within = absurd (omega (arith, least, less))
    up_to (suc n) place least less within =
        one_dead (place - from) place (omega (arith, least)) within (λ at under before. up_to n at under (omega (arith, less, before)) (omega (arith, before, within)))

    pub all_dead : (place : ℕ) → from ≤ place → place < to → is_dead (f.plan.fate place) ≡ true
    all_dead place least less = up_to (place + 1 - from) place least (omega (arith, least)) less

  -- ---- labels

  -- nothing before the label still names it, so the loop whose header it is goes as a whole
  later_silent : (place from : ℕ) → f.valid.derivation.before + 1 < place → place < f.valid.derivation.after → is_label_at insts place ≡ true → is_dead (f.plan.fate place) ≡ true → place ≤ from
      → still_names f.plan insts (label_at insts place) from ≡ true → ⊥
  later_silent place from low high is dead least still = elim (cases_lt from f.valid.derivation.after) [
    | inr past ↦ clash (names insts from (label_at insts place)) named (silent_names insts from (label_at insts place) (outside_silent f.words f.valid from (inr past)))
    | inl within ↦ by_beyond ((known f.words f.valid from (omega (arith, low, least)) within).named (label_at insts place) named)
  ]
    where
      named : names insts from (label_at insts place) ≡ true
      named = still_named f from (label_at insts place) still

      by_beyond : Beyond insts f.valid.derivation from (from + 1) (label_at insts place) → ⊥
      by_beyond (ahead s) =
          let e = labels_once f.words f.valid s.at place s.stands.is_label is s.stands.own in
          let later = s.low in
          omega (arith, e, later, least)
      by_beyond (back b) =
          let e = labels_once f.words f.valid b.header place b.stands.is_label is b.stands.own in
          let c = b.construct in
          let before = b.before in
          let within = b.within in
          let gone = all_dead b.header b.past c.low c.high c.entered (ap (λ (n : ℕ). is_dead (f.plan.fate n)) e ∙ dead) from (omega (arith, before)) (omega (arith, within)) in
          clash (still_names f.plan insts (label_at insts place) from) still (dead_names f from (label_at insts place) gone)

  pub entered_rightly : (place : ℕ) → f.valid.derivation.before + 1 < place → place < f.valid.derivation.after → is_label_at insts place ≡ true → IsEnteredRightly f.plan insts place
  entered_rightly place low high is = by_test (is_named_before f.plan insts place) refl
    where
      by_test : (b : Bool) → is_named_before f.plan insts place ≡ b → IsEnteredRightly f.plan insts place
      by_test true named = record {
        alive = λ alive. named;
        dead = λ dead. clash (is_dead (f.plan.fate place)) dead (label_dead place low high is true named);
      }
      by_test false none = record {
        alive = λ alive. clash (is_dead (f.plan.fate place)) (label_dead place low high is false none) alive;
        dead = λ dead from. refuted (still_names f.plan insts (label_at insts place) from) (λ still. elim (cases_lt from place) [
          | inl before ↦ clash (is_named_before f.plan insts place) (any_of_range (still_names f.plan insts (label_at insts place)) place 0 from (omega arith) (omega (arith, before)) still) none
          | inr least ↦ later_silent place from low high is dead least still
        ]);
      }
