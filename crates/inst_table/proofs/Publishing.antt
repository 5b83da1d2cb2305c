-- What a pass and the publisher know after their calls.
use Rattle.std.proofs.Common.{◌≡◌, ℕ, zero, suc, ◌+◌, ◌-◌, ◌<◌, ◌≤◌, ◌≢◌, List, [], ◌∷◌, ◌++◌, length, Contains, get_or, sym, refl, ap, ◌∙◌, subst, inl, inr, ⊎_elim, arith, length-append}
use Rattle.std.proofs.lemmas.List.Elements.{Contains-append_left, Contains-append_right}
use Rattle.atomic_table.specs.Table.{Me}
use Rattle.inst_table.specs.Subject.{Subject}
use Rattle.inst_table.specs.Views.{with_address_load, known_with_address, with_known, joint_view, unit_note, words_of_units, with_unit}
use Rattle.inst_table.specs.Passes.{KnowsAddress, IsTheKnownAddress, KnowsAtLeast, IsKnownUnit, MayPublish, FitsKnown, KnowsRecord, IsInRecord, LearnsWords}
use Rattle.inst_table.specs.AddressLoads.{LoadsAddress}
use Rattle.inst_table.specs.Lawful.{IsOneWay}
use Rattle.inst_table.specs.Plays.{AreSoundUnits}
use Rattle.inst_table.specs.Units.{IsRecord, heap_of, address_of}
use Rattle.inst_table.specs.declared.setup.Numbers.{Numbers}
use Rattle.inst_table.specs.declared.view.View.{View}
use Rattle.inst_table.specs.declared.view.Unit.{Unit}
use Rattle.inst_table.specs.declared.view.KnownWord.{KnownWord}
use Rattle.inst_table.specs.declared.view.KnownWord.TheVariants.{AddressWord, HeapWord}
use Rattle.inst_table.proofs.Follows.{contains-here, contains-there, KnowsRow-keeps}
use Rattle.inst_table.proofs.Addresses.{address-new, heap_of-push}
use Rattle.inst_table.proofs.Lists.{at_left, length-push, each-push}
use Rattle.inst_table.proofs.UnitSteps.{unit_contains}
use Rattle.inst_table.proofs.Sharing.{knows_both}

-- ---- address

addressed_keeps : (unit word : ℕ) (known : List KnownWord) (k : KnownWord) → Contains known k → Contains (known_with_address unit word known) k
addressed_keeps unit zero known k c = c
addressed_keeps unit (suc place) known k c = contains-there known (AddressWord unit (suc place)) k c

pub hears_all : (x y : Me ℕ View) (unit found word : ℕ) → found ≡ word → y ≡ (with_address_load unit found x.0, x.1) → IsTheKnownAddress x.0 unit found → IsOneWay y.0.address_loads → LoadsAddress x.0 y.0 unit word
hears_all x y unit found word e is same one = record {
  address_loads = ap (λ (m : Me ℕ View). m.0.address_loads) is ∙ ap (λ (w : ℕ). x.0.address_loads ++ (unit, w) ∷ []) e;
  same = λ known k. (sym e ∙ (same known k).0, (same known k).1);
  one_way = one;
}

pub hears_keeps : (x y : Me ℕ View) (unit found : ℕ) → y ≡ (with_address_load unit found x.0, x.1) → KnowsAtLeast x.0 y.0
hears_keeps x y unit found is = subst (λ (m : Me ℕ View). KnowsAtLeast x.0 m.0) (sym is) (record { seen = omega arith; words = λ k c. addressed_keeps unit found x.0.known k c; absences = λ a c. c })

-- ---- fetch

pub record Reading (fits : Subject → List ℕ → Type 0) (z : Numbers) (unit word : ℕ) (u v : View) (first second : ℕ) (items : List ℕ) : Type 0 where
  pub learns : LearnsWords u v
  pub knows : KnowsRecord v word items
  pub lengths : (2 ≤ length items) × (get_or items 0 0 ≡ first) × (get_or items 1 0 ≡ second)
  pub fitting : (words : List ℕ) → KnowsRecord v word words → IsRecord words → FitsKnown fits z v unit words

learns_more : (u v : View) (k : KnownWord) → LearnsWords u v → LearnsWords u (with_known k v)
learns_more u v k t = record { rest = λ i. with_known k (t.rest i); words = λ w c. contains-there v.known k w (t.words w c) }

pub still_known : (x y : Me ℕ View) (k : KnownWord) (unit word : ℕ) → y ≡ (with_known k x.0, x.1) → KnowsAddress x.0 unit word → KnowsAddress y.0 unit word
still_known x y k unit word is c = subst (λ (m : Me ℕ View). KnowsAddress m.0 unit word) (sym is) (contains-there x.0.known k (AddressWord unit word) c)

knows_push : (v : View) (word r : ℕ) (items : List ℕ) → KnowsRecord v word items → KnowsRecord (with_known (HeapWord (word - 1 + length items) r) v) word (items ++ r ∷ [])
knows_push v word r items t at h = let long = length-push items r in
    each-push (λ w k. Contains (HeapWord (word - 1 + length items) r ∷ v.known) (HeapWord (word - 1 + k) w)) items r 0
    (λ k near. contains-there v.known (HeapWord (word - 1 + length items) r) (HeapWord (word - 1 + k) (get_or items k 0)) (t k near))
    (contains-here v.known (HeapWord (word - 1 + length items) r)) at (omega arith)

pub reading_start : (fits : Subject → List ℕ → Type 0) (z : Numbers) (unit word : ℕ) (x y w : Me ℕ View) (first second : ℕ) (items : List ℕ)
    → y ≡ (with_known (HeapWord (word - 1 + 0) first) x.0, x.1) → w ≡ (with_known (HeapWord (word - 1 + 1) second) y.0, y.1)
    → ((words : List ℕ) → KnowsRecord w.0 word words → IsRecord words → FitsKnown fits z w.0 unit words) → items ≡ first ∷ second ∷ [] → Reading fits z unit word x.0 w.0 first second items
reading_start fits z unit word x y w first second items e₁ e₂ f is =
    let v₁ : View = with_known (HeapWord (word - 1 + 0) first) x.0 in
    let v₂ : View = with_known (HeapWord (word - 1 + 1) second) v₁ in
    let same : w.0 ≡ v₂ = ap (λ (m : Me ℕ View). m.0) e₂ ∙ ap (λ (m : Me ℕ View). with_known (HeapWord (word - 1 + 1) second) m.0) e₁ in
    let L : LearnsWords x.0 v₂ = learns_more x.0 v₁ (HeapWord (word - 1 + 1) second) (learns_more x.0 x.0 (HeapWord (word - 1 + 0) first) (record { rest = refl; words = λ k c. c })) in
    let K : KnowsRecord v₂ word (first ∷ second ∷ []) = knows_push v₁ word second (first ∷ []) (knows_push x.0 word first [] (λ at h. absurd (omega arith))) in record {
      learns = subst (λ (v : View). LearnsWords x.0 v) (sym same) L;
      knows = subst (λ (v : View). KnowsRecord v word items) (sym same) (subst (λ (ws : List ℕ). KnowsRecord v₂ word ws) (sym is) K);
      lengths = ((let e = ap length is in omega arith), ap (λ (ws : List ℕ). get_or ws 0 0) is, ap (λ (ws : List ℕ). get_or ws 1 0) is);
      fitting = f;
    }

pub reading_more : (fits : Subject → List ℕ → Type 0) (z : Numbers) (unit word : ℕ) (u : View) (x y : Me ℕ View) (first second at r : ℕ) (items more : List ℕ)
    → Reading fits z unit word u x.0 first second items → length items ≡ at → y ≡ (with_known (HeapWord (word - 1 + at) r) x.0, x.1)
    → ((words : List ℕ) → KnowsRecord y.0 word words → IsRecord words → FitsKnown fits z y.0 unit words) → more ≡ items ++ r ∷ [] → Reading fits z unit word u y.0 first second more
reading_more fits z unit word u x y first second at r items more t long e f is =
    let v : View = with_known (HeapWord (word - 1 + length items) r) x.0 in
    let same : y.0 ≡ v = ap (λ (m : Me ℕ View). m.0) e ∙ ap (λ (k : ℕ). with_known (HeapWord (word - 1 + k) r) x.0) (sym long) in
    let two = t.lengths.0 in record {
      learns = subst (λ (k : View). LearnsWords u k) (sym same) (learns_more u x.0 (HeapWord (word - 1 + length items) r) t.learns);
      knows = subst (λ (k : View). KnowsRecord k word more) (sym same) (subst (λ (ws : List ℕ). KnowsRecord v word ws) (sym is) (knows_push x.0 word r items t.knows));
      lengths = (
        (let e = ap length is in let p = length-push items r in omega arith),
        ap (λ (ws : List ℕ). get_or ws 0 0) is ∙ at_left items (r ∷ []) 0 0 (omega arith) ∙ t.lengths.1,
        ap (λ (ws : List ℕ). get_or ws 1 0) is ∙ at_left items (r ∷ []) 1 0 (omega arith) ∙ t.lengths.2,
      );
      fitting = f;
    }

pub reading_on : (fits : Subject → List ℕ → Type 0) (z : Numbers) (unit word : ℕ) (u v : View) (first second at : ℕ) (items : List ℕ) → Reading fits z unit word u v first second items → KnowsAddress u unit word → at < 2 + first + second
    → KnowsAddress v unit word × IsInRecord v word at
reading_on fits z unit word u v first second at items t known low =
    let e : word - 1 + 0 ≡ word - 1 = omega arith in
    let two = t.lengths.0 in (
      t.learns.words (AddressWord unit word) known,
      inr (
        first,
        second,
        subst (λ (k : ℕ). Contains v.known (HeapWord k first)) e (subst (λ (w : ℕ). Contains v.known (HeapWord (word - 1 + 0) w)) t.lengths.1 (t.knows 0 (omega arith))),
        subst (λ (w : ℕ). Contains v.known (HeapWord (word - 1 + 1) w)) t.lengths.2 (t.knows 1 (omega arith)),
        low,
      ),
    )

pub reading_end : (fits : Subject → List ℕ → Type 0) (z : Numbers) (unit word : ℕ) (u v : View) (first second : ℕ) (items : List ℕ) → Reading fits z unit word u v first second items → length items ≡ 2 + first + second
    → IsRecord items × KnowsRecord v word items × FitsKnown fits z v unit items
reading_end fits z unit word u v first second items t long = let a = t.lengths.1 in let b = t.lengths.2 in let whole : IsRecord items = omega arith in (whole, t.knows, t.fitting items t.knows whole)

-- ---- publish

pub may_still : (fits : Subject → List ℕ → Type 0) (z : Numbers) (x y : Me ℕ View) (by : View) (unit : ℕ) (words : List ℕ) → y ≡ (joint_view x.0 by, x.1) → MayPublish fits z by unit words → MayPublish fits z y.0 unit words
may_still fits z x y by unit words is may = ⊎_elim (λ a. inl a)
    (λ b. inr (b.0, b.1, b.2, b.3, KnowsRow-keeps by y.0 b.0 b.1 (knows_both x y by is).1.words b.4, b.5)) may

pub is_known : (fits : Subject → List ℕ → Type 0) (z : Numbers) (v : View) (unit : ℕ) (words : List ℕ) → MayPublish fits z v unit words → IsKnownUnit z v unit
is_known fits z v unit words may = ⊎_elim (λ a. inl a.0) (λ b. inr (b.0, b.1, b.2, b.4)) may

-- The publisher after it has taken in a pass: it has the same units, and knows what the pass knew.
pub record Taken (x y : Me ℕ View) (by : View) : Type 0 where
  pub units : y.0.units ≡ x.0.units
  pub publishes : y.0.publishes ≡ x.0.publishes
  pub rights : y.1 ≡ x.1
  pub knows : KnowsAtLeast by y.0

pub taken : (x y : Me ℕ View) (by : View) → y ≡ (joint_view x.0 by, x.1) → Taken x y by
taken x y by is = record {
  units = ap (λ (m : Me ℕ View). m.0.units) is;
  publishes = ap (λ (m : Me ℕ View). m.0.publishes) is;
  rights = ap (λ (m : Me ℕ View). m.1) is;
  knows = (knows_both x y by is).1;
}

-- the address word that the publisher finds then
pub found_word : (asked : List (List ℕ)) (fits : Subject → List ℕ → Type 0) (longest : Subject → ℕ) (z : Numbers) (x y : Me ℕ View) (by : View) (unit word : ℕ) (words : List ℕ) → y ≡ (joint_view x.0 by, x.1)
    → MayPublish fits z by unit words → AreSoundUnits asked fits longest z y.0 → (unit < z.libraries + z.rows → word ≡ address_of y.0.units.built unit) → word ≡ address_of y.0.units.built unit
found_word asked fits longest z x y by unit word words is may s found = found (s.inside unit (is_known fits z y.0 unit words (may_still fits z x y by unit words is may)))

pub note_of : (by s u : View) (unit word : ℕ) → KnowsAtLeast by s → u ≡ unit_note s → address_of s.units.built unit ≡ word → word ≢ 0 → KnowsAtLeast by u × KnowsAddress u unit word
note_of by s u unit word t is at there =
    let P : View → Type 0 = λ v. KnowsAtLeast by v × KnowsAddress v unit word in
    let here : P (unit_note s) = (
      record { seen = t.seen; words = λ k c. Contains-append_right (words_of_units 0 s.units.built) s.known k (t.words k c); absences = t.absences },
      Contains-append_left (words_of_units 0 s.units.built) s.known (AddressWord unit word) (unit_contains 0 s.units.built unit word at there),
    ) in
    subst P (sym is) here

-- the note of a record that was accepted
pub note_of_new : (by u : View) (y w : Me ℕ View) (unit word : ℕ) (words : List ℕ) → KnowsAtLeast by y.0 → w ≡ (with_unit unit words y.0, y.1) → u ≡ unit_note w.0 → address_of y.0.units.built unit ≡ 0
    → word ≡ 1 + length (heap_of y.0.units.built) → KnowsAtLeast by u × KnowsAddress u unit word
note_of_new by u y w unit word words t new is gap at =
    let v : View = with_unit unit words y.0 in
    let s : KnowsAtLeast by v = record { seen = t.seen; words = t.words; absences = t.absences } in
    note_of by v u unit word s (is ∙ ap (λ (m : Me ℕ View). unit_note m.0) new) (address-new 0 y.0.units.built (record { number = unit; words = words }) unit gap refl ∙ (let e : suc (0 + length (heap_of y.0.units.built)) ≡ word = omega arith in e)) (λ z. omega arith)

-- what two loads of heap words leave
pub learns_two : (x y w : Me ℕ View) (k l : KnownWord) → y ≡ (with_known k x.0, x.1) → w ≡ (with_known l y.0, y.1) → LearnsWords x.0 w.0 × (w.1 ≡ x.1)
learns_two x y w k l e₁ e₂ =
    let v : View = with_known l (with_known k x.0) in
    let same : w.0 ≡ v = ap (λ (m : Me ℕ View). m.0) e₂ ∙ ap (λ (m : Me ℕ View). with_known l m.0) e₁ in (
      subst (λ (u : View). LearnsWords x.0 u) (sym same) (learns_more x.0 (with_known k x.0) l (learns_more x.0 x.0 k (record { rest = refl; words = λ k c. c }))),
      ap (λ (m : Me ℕ View). m.1) e₂ ∙ ap (λ (m : Me ℕ View). m.1) e₁,
    )

pub note_of_same : (by : View) (y s : Me ℕ View) (u : View) (unit word : ℕ) → s ≡ y → KnowsAtLeast by y.0 → u ≡ unit_note s.0 → address_of y.0.units.built unit ≡ word → word ≢ 0 → KnowsAtLeast by u × KnowsAddress u unit word
note_of_same by y s u unit word same t is at there = note_of by y.0 u unit word t (is ∙ ap (λ (m : Me ℕ View). unit_note m.0) same) at there

pub note_of_accepted : (by u : View) (y s w : Me ℕ View) (unit word : ℕ) (words : List ℕ) → s ≡ y → KnowsAtLeast by y.0 → w ≡ (with_unit unit words s.0, s.1) → u ≡ unit_note w.0 → address_of y.0.units.built unit ≡ 0
    → word ≡ 1 + length (heap_of y.0.units.built) → KnowsAtLeast by u × KnowsAddress u unit word
note_of_accepted by u y s w unit word words same t new is gap at = note_of_new by u y w unit word words t (new ∙ (λ i. (with_unit unit words (same i).0, (same i).1))) is gap at

-- The publisher once a record was accepted.
pub record AfterAccepting (x v : Me ℕ View) (unit : ℕ) (words : List ℕ) : Type 0 where
  pub rights : v.1 ≡ x.1
  pub publishes : v.0.publishes ≡ x.0.publishes
  pub partly : v.0.units.partly ≡ []
  pub built : v.0.units.built ≡ x.0.units.built ++ (record { number = unit; words = words }) ∷ []
  pub heap : length (heap_of v.0.units.built) ≡ length (heap_of x.0.units.built) + length words

pub accepts : (x y s w v : Me ℕ View) (by : View) (unit : ℕ) (words : List ℕ) → y ≡ (joint_view x.0 by, x.1) → s ≡ y → w ≡ (with_unit unit words s.0, s.1) → v ≡ w → AfterAccepting x v unit words
accepts x y s w v by unit words e₁ e₂ e₃ e₄ =
    let m : Me ℕ View = (with_unit unit words (joint_view x.0 by), x.1) in
    let e : v ≡ m = e₄ ∙ e₃ ∙ (λ i. (with_unit unit words (e₂ i).0, (e₂ i).1)) ∙ (λ i. (with_unit unit words (e₁ i).0, (e₁ i).1)) in
    let u : Unit = record { number = unit; words = words } in
    let long : length (heap_of (x.0.units.built ++ u ∷ [])) ≡ length (heap_of x.0.units.built) + length words = ap length (heap_of-push x.0.units.built u) ∙ length-append (heap_of x.0.units.built) words in
    subst (λ (k : Me ℕ View). AfterAccepting x k unit words) (sym e) (record { rights = refl; publishes = refl; partly = refl; built = refl; heap = long })
