-- The steps on addresses and on the heap.
use Rattle.std.proofs.Common.{◌≡◌, ℕ, zero, suc, ◌+◌, ◌-◌, ◌^◌, ◌<◌, ◌≤◌, ◌≢◌, true, false, List, [], ◌∷◌, ◌++◌, length, All, Contains, Option, Some, get_or, set, sym, refl, ap, ◌∙◌, subst, inl, inr, ⊎_elim, arith, append_assoc, append-nil, length-append}
use mathlib.Core.Option.{none}
use mathlib.Core.Logic.{dite}
use native.Mathlib.Decide.{ℕ_discrete}
use Rattle.std.proofs.lemmas.List.{ext_get_or}
use Rattle.std.proofs.lemmas.List.Elements.{All-push, All-nil, All-cons, All-head, All-tail, All-get_or, All-append, All-contains}
use Rattle.atomic_table.specs.Table.{Me, step, Allows, Splits}
use Rattle.inst_table.specs.Subject.{Subject, pair}
use Rattle.inst_table.specs.Layout.{count_place, head_place, key_place, next_place, row_place, address_place, heap_place, width}
use Rattle.inst_table.specs.Chain.{key_at}
use Rattle.inst_table.specs.Views.{with_address_load, known_with_address, with_known, with_units, units_with_word, units_with_address, unit_note, words_of_units, no_units}
use Rattle.inst_table.specs.Passes.{KnowsRow, KnowsAddress, IsKnownUnit, MayPublish, FitsKnown, KnowsRecord, IsInRecord}
use Rattle.inst_table.specs.Plays.{IsOfUnits, AreSoundUnits, AddressLoad, HeapLoad, UnitReload, HeapStore, AddressStore, asked_by, fits_by, longest_by}
use Rattle.inst_table.specs.Units.{IsRecord, heap_of, address_from, address_of}
use Rattle.inst_table.specs.Lawful.{Content, Claims, IsRight, IsOneWay, AreDistinct, StandsForRows, RowsAreSound, IsUnit, FitsUnit, IsBuilt, numbers_of}
use Rattle.inst_table.specs.declared.setup.Numbers.{Numbers}
use Rattle.inst_table.specs.declared.view.View.{View}
use Rattle.inst_table.specs.declared.view.Rows.{Rows}
use Rattle.inst_table.specs.declared.view.Unit.{Unit}
use Rattle.inst_table.specs.declared.view.Units.{Units}
use Rattle.inst_table.specs.declared.view.KnownWord.{KnownWord}
use Rattle.inst_table.specs.declared.view.KnownWord.TheVariants.{KeyWord, AddressWord, HeapWord}
use Rattle.inst_table.proofs.Lists.{other, here, at_left, at_push, length-push, each-push, AreDistinct-push}
use Rattle.inst_table.proofs.Follows.{contains-here, contains-there}
use Rattle.inst_table.proofs.Addresses.{heap_of-push, numbers_of-push, address-other, address-new, address-keeps, address-none, address-first, address-later, address-absent, RecordAt, record_at}
use Rattle.inst_table.proofs.Weights.{leaves_room}
use Rattle.inst_table.proofs.Growth.{Grows, Claims-grow}
use Rattle.inst_table.proofs.LookSteps.{Claims-learn, known_row}
use Rattle.inst_table.proofs.Sharing.{Claims-fresh}
use Rattle.inst_table.proofs.Steps.{Rule, loads, stores, splits}

-- ---- the load of an address word

addressed_right : (c : Content) (seen unit word : ℕ) (known : List KnownWord) → address_of c.units.built unit ≡ word → All (IsRight c seen) known → All (IsRight c seen) (known_with_address unit word known)
addressed_right c seen unit zero known e t = t
addressed_right c seen unit (suc place) known e t = All-cons (IsRight c seen) (AddressWord unit (suc place)) known ((λ z. cc), e) t

one_way_push : (c : Content) (mine : List (ℕ × ℕ)) (unit word : ℕ) → address_of c.units.built unit ≡ word → All (λ (m : ℕ × ℕ). m.1 ≢ 0 → address_of c.units.built m.0 ≡ m.1) mine → IsOneWay mine → IsOneWay (mine ++ (unit, word) ∷ [])
one_way_push c mine unit word is right one i j low high same there =
    let long = length-push mine (unit, word) in
    let near : i < length mine = omega arith in
    let first : get_or (mine ++ (unit, word) ∷ []) i (0, 0) ≡ get_or mine i (0, 0) = at_left mine ((unit, word) ∷ []) i (0, 0) near in
    let set' : (get_or mine i (0, 0)).1 ≢ 0 = λ z. there (ap (λ (m : ℕ × ℕ). m.1) first ∙ z) in
    dite (ℕ_discrete j (length mine))
    (λ last. let e : get_or (mine ++ (unit, word) ∷ []) j (0, 0) ≡ (unit, word) = ap (λ (k : ℕ). get_or (mine ++ (unit, word) ∷ []) k (0, 0)) last ∙ at_push mine (unit, word) (0, 0) in
    let unit_same : (get_or mine i (0, 0)).0 ≡ unit = ap (λ (m : ℕ × ℕ). m.0) (sym first) ∙ same ∙ ap (λ (m : ℕ × ℕ). m.0) e in
    let then : address_of c.units.built (get_or mine i (0, 0)).0 ≡ (get_or mine i (0, 0)).1 = right i (0, 0) near set' in
    ap (λ (m : ℕ × ℕ). m.1) e ∙ sym is ∙ ap (λ (n : ℕ). address_of c.units.built n) (sym unit_same) ∙ then ∙ ap (λ (m : ℕ × ℕ). m.1) (sym first))
    (λ ne. let under : j < length mine = omega arith in let e : get_or (mine ++ (unit, word) ∷ []) j (0, 0) ≡ get_or mine j (0, 0) = at_left mine ((unit, word) ∷ []) j (0, 0) under in
    ap (λ (m : ℕ × ℕ). m.1) e ∙ one i j low under (ap (λ (m : ℕ × ℕ). m.0) (sym first) ∙ same ∙ ap (λ (m : ℕ × ℕ). m.0) e) set' ∙ ap (λ (m : ℕ × ℕ). m.1) (sym first))

Claims-load : (c : Content) (v : View) (unit word : ℕ) → address_of c.units.built unit ≡ word → Claims c v → Claims c (with_address_load unit word v)
Claims-load c v unit word is t = record {
  seen = t.seen;
  known = addressed_right c v.seen unit word v.known is t.known;
  absent = t.absent;
  walk = t.walk;
  walked = t.walked;
  loads = All-push (λ (m : ℕ × ℕ). m.1 ≢ 0 → address_of c.units.built m.0 ≡ m.1) v.address_loads (unit, word) t.loads (λ there. is);
  one_way = one_way_push c v.address_loads unit word is t.loads t.one_way;
  creates = t.creates;
  publishes = t.publishes;
}

low_row : (c : Content) (v : View) (row : ℕ) (key : List ℕ) → Claims c v → KnowsRow v row key → row < v.seen
low_row c v row key t knows = (let r : IsRight c v.seen (KeyWord row 0 (get_or key 0 0)) = All-contains (IsRight c v.seen) v.known (KeyWord row 0 (get_or key 0 0)) t.known (knows 0 (omega arith)) in r).0

-- ---- the publisher's view, with other units

Claims-units : (c d : Content) (v : View) (units : Units) → Grows c d → c.rows.count ≤ length c.rows.linked → c.rows ≡ d.rows → units ≡ d.units → Claims c v → Claims d (with_units units v)
Claims-units c d v units g behind rows is t =
    let free : Claims c (record v { publishes = false; units = no_units }) = record { seen = t.seen; known = t.known; absent = t.absent; walk = t.walk; walked = t.walked; loads = t.loads; one_way = t.one_way; creates = t.creates; publishes = λ y. cc } in
    let b : Claims d (record v { publishes = false; units = no_units }) = Claims-grow c d g behind (record v { publishes = false; units = no_units }) free (λ y. t.creates y ∙ rows) (λ y. cc) in record {
      seen = b.seen;
      known = b.known;
      absent = b.absent;
      walk = b.walk;
      walked = b.walked;
      loads = b.loads;
      one_way = b.one_way;
      creates = b.creates;
      publishes = λ y. is;
    }

grows_units : (c : Content) (y : Units) → ((unit : ℕ) → address_of c.units.built unit ≢ 0 → address_of y.built unit ≡ address_of c.units.built unit)
    → ((at : ℕ) → at < length (heap_of c.units.built) → (at < length (heap_of y.built)) × (get_or (heap_of y.built) at 0 ≡ get_or (heap_of c.units.built) at 0)) → Grows c (record { rows = c.rows; units = y })
grows_units c y addresses heap = record { count = omega arith; long = omega arith; rows = λ row h. refl; addresses = addresses; heap = heap }

-- a store behind the rows leaves the rows
rows_stay : (asked : List (List ℕ)) (z : Numbers) (ws : List ℕ) (i new : ℕ) (x : Rows) → row_place z.rows ≤ i → RowsAreSound asked z x → StandsForRows ws x → StandsForRows (set ws i new) x
rows_stay asked z ws i new x high r t = let room = r.room in record {
  count = other ws i count_place new (λ e. omega arith) ∙ t.count;
  heads = λ b h. other ws i (head_place b) new (λ e. omega arith) ∙ t.heads b h;
  keys = λ row at h h'. other ws i (key_place row at) new (λ e. omega arith) ∙ t.keys row at h h';
  nexts = λ row h. other ws i (next_place row) new (λ e. omega arith) ∙ t.nexts row h;
  draft = λ at h. let b = r.begun (omega arith) in let short = r.short in other ws i (key_place (length x.linked) at) new (λ e. omega arith) ∙ t.draft at h;
  joined = λ y. let w = r.whole y in let b = r.begun (omega arith) in other ws i (next_place (length x.linked)) new (λ e. omega arith) ∙ t.joined y;
}

-- the address words of units that are built once each
units_right : (c : Content) (seen place : ℕ) (us : List Unit) → ((n word : ℕ) → address_from place us n ≡ word → word ≢ 0 → address_of c.units.built n ≡ word) → AreDistinct (numbers_of us) 0 → All (IsRight c seen) (words_of_units place us)
units_right c seen place [] same once = All-nil (IsRight c seen)
units_right c seen place (u ∷ us) same once = All-cons (IsRight c seen) (AddressWord u.number (suc place)) (words_of_units (place + length u.words) us)
    ((λ z. cc), same u.number (suc place) (address-first place u us u.number refl) (λ z. cc))
    (units_right c seen (place + length u.words) us
    (λ n word e there. same n word (address-later place u us n (λ this. there (sym e ∙ address-absent (place + length u.words) us n (λ i h h'. once 0 (suc i) (omega arith) (omega arith) (this ∙ sym h')))) ∙ e) there)
    (λ i j low high. once (suc i) (suc j) (omega arith) (omega arith)))

-- the address of a unit that is built is among them
pub unit_contains : (place : ℕ) (us : List Unit) (n word : ℕ) → address_from place us n ≡ word → word ≢ 0 → Contains (words_of_units place us) (AddressWord n word)
unit_contains place [] n word e there = absurd (there (sym e))
unit_contains place (u ∷ us) n word e there = dite (ℕ_discrete u.number n)
    (λ this. let f : suc place ≡ word = sym (address-first place u us n this) ∙ e in
    subst (λ (x : KnownWord). Contains (words_of_units place (u ∷ us)) x) (λ i. AddressWord (this i) (f i)) (contains-here (words_of_units (place + length u.words) us) (AddressWord u.number (suc place))))
    (λ ne. contains-there (words_of_units (place + length u.words) us) (AddressWord u.number (suc place)) (AddressWord n word) (unit_contains (place + length u.words) us n word (sym (address-later place u us n ne) ∙ e) there))

module _ (asked : List (List ℕ)) (fits : Subject → List ℕ → Type 0) (z : Numbers) where
  -- a unit that is known lies within the table
  known_unit : (c : Content) (v : View) (unit : ℕ) → Claims c v → RowsAreSound asked z c.rows → IsKnownUnit z v unit → unit < z.libraries + z.rows
  known_unit c v unit t r known = let a = t.seen in let b = r.behind in let d = r.room in
      ⊎_elim (λ (h : unit < z.libraries). omega arith) (λ k. let low = low_row c v k.0 k.1 t k.3 in let e = k.2 in omega arith) known

  -- what may be published is a unit, which the record fits
  may_be_built : (c : Content) (v : View) (unit : ℕ) (words : List ℕ) → Claims c v → RowsAreSound asked z c.rows → MayPublish fits z v unit words → IsUnit z c.rows unit × FitsUnit fits z c.rows unit words
  may_be_built c v unit words t r may = ⊎_elim
      (λ a. (inl a.0, record { as_library = λ h. a.1; as_pair = λ row low e. absurd (let h = a.0 in omega arith) }))
      (λ b. let known = known_row c v b.0 b.1 t r.behind r.wide b.3 b.4 in let upto = t.seen in let low = known.0 in let at = b.2 in (
        inr (b.0, omega arith, b.2),
        record {
          as_library = λ h. absurd (omega arith);
          as_pair = λ row near e. let same : b.0 ≡ row = omega arith in subst (λ (key : List ℕ). fits (pair key) words) (sym known.1 ∙ ap (λ (k : ℕ). key_at c.rows.linked k) same) b.5;
        },
      )) may

  pub hears : (n id : ℕ) (m : Me ℕ View) (unit i : ℕ) → (unit < z.libraries + z.rows → i ≡ address_place z unit) → IsKnownUnit z m.0 unit
      → Allows (Rule asked fits z) n id m i (λ r. r) (AddressLoad unit (step n i 0 0 none) m)
  hears n id m unit i place known = loads asked fits z n id m i (λ r. with_address_load unit r m.0) (AddressLoad unit (step n i 0 0 none) m) (λ s l t.
      let c : Content = l.content in let r : ℕ = get_or s.words i 0 in
      let inside : unit < z.libraries + z.rows = known_unit c m.0 unit t l.rows known in
      let is : address_of c.units.built unit ≡ r = sym (ap (λ (k : ℕ). get_or s.words k 0) (place inside) ∙ l.stands_for_units.addresses unit inside) in
      let after : Claims c (with_address_load unit r m.0) = Claims-load c m.0 unit r is t in record {
        claims = after;
        creates = refl;
        publishes = refl;
        tells = (refl, (λ word k. let right : IsRight c m.0.seen (AddressWord unit word) = All-contains (IsRight c m.0.seen) m.0.known (AddressWord unit word) t.known k in (sym is ∙ right.1, right.0)), after.one_way);
      })

  -- the record at an address that is known
  known_record : (c : Content) (v : View) (unit word : ℕ) → Claims c v → KnowsAddress v unit word → (word ≢ 0) × RecordAt c.units.built unit (word - 1)
  known_record c v unit word t k = let right : IsRight c v.seen (AddressWord unit word) = All-contains (IsRight c v.seen) v.known (AddressWord unit word) t.known k in
      (right.0, record_at c.units.built unit word right.0 right.1)

  -- a known heap word of it is its word
  known_heap : (c : Content) (v : View) (unit place at word : ℕ) → Claims c v → (r : RecordAt c.units.built unit place) → at < length r.unit.words → Contains v.known (HeapWord (place + at) word) → word ≡ get_or r.unit.words at 0
  known_heap c v unit place at word t r h k = let right : IsRight c v.seen (HeapWord (place + at) word) = All-contains (IsRight c v.seen) v.known (HeapWord (place + at) word) t.known k in right.1 ∙ r.words at h

  -- the place lies in the record
  in_record : (c : Content) (v : View) (unit word at : ℕ) → Claims c v → (r : RecordAt c.units.built unit (word - 1)) → IsRecord r.unit.words → IsInRecord v word at → at < length r.unit.words
  in_record c v unit word at t r whole inside = ⊎_elim (λ (h : at < 2). omega arith)
      (λ q. let e : word - 1 ≡ word - 1 + 0 = omega arith in
      let a : q.0 ≡ get_or r.unit.words 0 0 = known_heap c v unit (word - 1) 0 q.0 t r (omega arith) (subst (λ (k : ℕ). Contains v.known (HeapWord k q.0)) e q.2) in
      let b : q.1 ≡ get_or r.unit.words 1 0 = known_heap c v unit (word - 1) 1 q.1 t r (omega arith) q.3 in
      let low = q.4 in omega arith) inside

  -- a record that is known whole is that record
  whole_record : (c : Content) (v : View) (unit word : ℕ) (words : List ℕ) → Claims c v → (r : RecordAt c.units.built unit (word - 1)) → IsRecord r.unit.words → KnowsRecord v word words → IsRecord words → words ≡ r.unit.words
  whole_record c v unit word words t r whole knows is =
      let a : get_or words 0 0 ≡ get_or r.unit.words 0 0 = known_heap c v unit (word - 1) 0 (get_or words 0 0) t r (omega arith) (knows 0 (omega arith)) in
      let b : get_or words 1 0 ≡ get_or r.unit.words 1 0 = known_heap c v unit (word - 1) 1 (get_or words 1 0) t r (omega arith) (knows 1 (omega arith)) in
      ext_get_or 0 words r.unit.words (omega arith) (λ at h. known_heap c v unit (word - 1) at (get_or words at 0) t r (omega arith) (knows at h))

  -- which fits what the unit is known to be
  fits_known : (c : Content) (v : View) (unit : ℕ) (words : List ℕ) → Claims c v → RowsAreSound asked z c.rows → FitsUnit fits z c.rows unit words → FitsKnown fits z v unit words
  fits_known c v unit words t r f = record {
    as_library = f.as_library;
    as_pair = λ row key e long knows. let k = known_row c v row key t r.behind r.wide long knows in let low = k.0 in let upto = t.seen in
        subst (λ (x : List ℕ). fits (pair x) words) k.1 (f.as_pair row (omega arith) e);
  }

  pub reads_record : (n id : ℕ) (m : Me ℕ View) (unit word at i : ℕ) → (1 ≤ word → word - 1 + at < z.heap → i ≡ heap_place z (word - 1 + at)) → KnowsAddress m.0 unit word → IsInRecord m.0 word at
      → Allows (Rule asked fits z) n id m i (λ r. r) (HeapLoad fits z unit word at (step n i 0 0 none) m)
  reads_record n id m unit word at i place known inside = loads asked fits z n id m i (λ r. with_known (HeapWord (word - 1 + at) r) m.0) (HeapLoad fits z unit word at (step n i 0 0 none) m) (λ s l t.
      let c : Content = l.content in let r : ℕ = get_or s.words i 0 in
      let k = known_record c m.0 unit word t known in let there = k.0 in let rec : RecordAt c.units.built unit (word - 1) = k.1 in
      let u : IsBuilt fits z c.rows rec.unit = All-contains (IsBuilt fits z c.rows) c.units.built rec.unit l.units.built rec.is_built in
      let low : at < length rec.unit.words = in_record c m.0 unit word at t rec u.whole inside in
      let far = rec.inside in let room = l.units.room in let long = length-append (heap_of c.units.built) c.units.partly in
      let q : ℕ = word - 1 + at in
      let is : r ≡ get_or (heap_of c.units.built) q 0 = ap (λ (k : ℕ). get_or s.words k 0) (place (omega arith) (omega arith)) ∙ l.stands_for_units.heap q (omega arith) ∙ at_left (heap_of c.units.built) c.units.partly q 0 (omega arith) in
      let small : get_or rec.unit.words at 0 < 2 ^ 32 = All-get_or (λ w. w < 2 ^ 32) rec.unit.words at 0 low u.small in
      let value : r ≡ get_or rec.unit.words at 0 = is ∙ rec.words at low in
      let after : Claims c (with_known (HeapWord q r) m.0) = Claims-learn c m.0 (HeapWord q r) (omega arith, is) t in record {
        claims = after;
        creates = refl;
        publishes = refl;
        tells = (
          refl,
          omega arith,
          λ words knows whole.
              let same : words ≡ rec.unit.words = whole_record c (with_known (HeapWord q r) m.0) unit word words after rec u.whole knows whole in
              subst (λ (ws : List ℕ). FitsKnown fits z (with_known (HeapWord q r) m.0) unit ws) (sym same)
              (fits_known c (with_known (HeapWord q r) m.0) unit rec.unit.words after l.rows (subst (λ (k : ℕ). FitsUnit fits z c.rows k rec.unit.words) rec.number u.fitting)),
        );
      })

  small_heap : (x : Rows) (us : List Unit) → All (IsBuilt fits z x) us → All (λ w. w < 2 ^ 32) (heap_of us)
  small_heap x [] all = All-nil (λ w. w < 2 ^ 32)
  small_heap x (u ∷ us) all = All-append (λ w. w < 2 ^ 32) u.words (heap_of us) (All-head (IsBuilt fits z x) u us all).small (small_heap x us (All-tail (IsBuilt fits z x) u us all))

  pub checks_all : (longest : Subject → ℕ) → ((s : Subject) (words : List ℕ) → fits s words → length words ≤ longest s) → (n id : ℕ) (m : Me ℕ View) (i : ℕ) → m.0.publishes ≡ true
      → Allows (Rule asked fits z) n id m i (λ r. r) (UnitReload asked fits longest z (step n i 0 0 none) m)
  checks_all longest short n id m i publishes = loads asked fits z n id m i (λ r. m.0) (UnitReload asked fits longest z (step n i 0 0 none) m) (λ s l t.
      let c : Content = l.content in let r : ℕ = get_or s.words i 0 in
      let same : c.units ≡ m.0.units = sym (t.publishes publishes) in
      let long = length-append (heap_of c.units.built) c.units.partly in
      let word_is : IsOfUnits z c.units i r = record {
        addresses = λ unit h e. ap (λ (k : ℕ). get_or s.words k 0) e ∙ l.stands_for_units.addresses unit h;
        heap = λ at h e. let v : r ≡ get_or (heap_of c.units.built) at 0 = ap (λ (k : ℕ). get_or s.words k 0) e ∙ l.stands_for_units.heap at (omega arith) ∙ at_left (heap_of c.units.built) c.units.partly at 0 h in
            let b : get_or (heap_of c.units.built) at 0 < 2 ^ 32 = All-get_or (λ w. w < 2 ^ 32) (heap_of c.units.built) at 0 h (small_heap c.rows c.units.built l.units.built) in (v, omega arith);
      } in record {
        claims = t;
        creates = refl;
        publishes = refl;
        tells = (
          refl,
          subst (λ (y : Units). IsOfUnits z y i r) same word_is,
          record {
            within = let room = l.units.room in let e = ap (λ (y : Units). length (heap_of y.built)) same in omega arith;
            inside = λ unit k. known_unit c m.0 unit t l.rows k;
            leaves_room = λ fit unit words may gap. let b = may_be_built c m.0 unit words t l.rows may in
                subst (λ (y : Units). length (heap_of y.built) + length words ≤ z.heap) same
                (leaves_room asked z c.rows l.rows fits longest short c.units unit words l.units fit b.0 b.1 (ap (λ (y : Units). address_of y.built unit) same ∙ gap));
            heap_known = λ at word k. let right : IsRight c m.0.seen (HeapWord at word) = All-contains (IsRight c m.0.seen) m.0.known (HeapWord at word) t.known k in
                right.1 ∙ ap (λ (y : Units). get_or (heap_of y.built) at 0) same;
            known = λ unit word k. let right : IsRight c m.0.seen (AddressWord unit word) = All-contains (IsRight c m.0.seen) m.0.known (AddressWord unit word) t.known k in
                (right.0, ap (λ (y : Units). address_of y.built unit) (sym same) ∙ right.1);
          },
        );
      })

  pub lays : (n id : ℕ) (m : Me ℕ View) (i new : ℕ) → i ≡ heap_place z (length (heap_of m.0.units.built) + length m.0.units.partly) → m.0.publishes ≡ true
      → length (heap_of m.0.units.built) + length m.0.units.partly < z.heap → new < 2 ^ 32 → Allows (Rule asked fits z) n id m i (λ _. new) (λ _. HeapStore (step n i new 0 none) m new)
  lays n id m i new place publishes room small = stores asked fits z n id m i new (with_units (units_with_word new m.0.units) m.0) (HeapStore (step n i new 0 none) m new) (λ s l t.
      let c : Content = l.content in let y : Units = c.units in let same : m.0.units ≡ y = t.publishes publishes in
      let e₁ = ap (λ (k : Units). length (heap_of k.built)) same in let e₂ = ap (λ (k : Units). length k.partly) same in
      let y' : Units = units_with_word new y in
      let d : Content = record { rows = c.rows; units = y' } in
      let old : List ℕ = heap_of y.built ++ y.partly in
      let long = length-append (heap_of y.built) y.partly in
      let joined : heap_of y.built ++ (y.partly ++ new ∷ []) ≡ old ++ new ∷ [] = sym (append_assoc (heap_of y.built) y.partly (new ∷ [])) in
      let more : length (heap_of y.built ++ (y.partly ++ new ∷ [])) ≡ length old + 1 = ap length joined ∙ length-push old new in
      let g : Grows c d = grows_units c y' (λ unit h. refl) (λ at h. (h, refl)) in
      let wide = l.wide in
      let inside : i < length s.words = omega arith in
      let st = l.stands_for_units in record {
        content = d;
        grows = g;
        stands_for_rows = rows_stay asked z s.words i new c.rows (omega arith) l.rows l.stands_for_rows;
        stands_for_units = record {
          addresses = λ unit h. other s.words i (address_place z unit) new (λ e. omega arith) ∙ st.addresses unit h;
          heap = λ at h. subst (λ (ws : List ℕ). get_or (set s.words i new) (heap_place z at) 0 ≡ get_or ws at 0) (sym joined)
              (each-push (λ w a. get_or (set s.words i new) (heap_place z a) 0 ≡ w) old new 0
              (λ a near. other s.words i (heap_place z a) new (λ e. omega arith) ∙ st.heap a near)
              (let e : heap_place z (length old) ≡ i = omega arith in ap (λ (k : ℕ). get_or (set s.words i new) k 0) e ∙ here s.words i new inside) at (omega arith));
        };
        rows = l.rows;
        units = let u = l.units in record { built = u.built; once = u.once; room = omega arith; small = All-push (λ w. w < 2 ^ 32) y.partly new u.small small };
        claims = Claims-units c d m.0 (units_with_word new m.0.units) g l.rows.behind refl (ap (units_with_word new) same) t;
        creates = refl;
        publishes = refl;
        by_creator = inl refl;
        by_publisher = inr publishes;
        tells = refl;
      })

  pub publishes_record : (n id : ℕ) (m : Me ℕ View) (unit i new : ℕ) → (unit < z.libraries + z.rows → i ≡ address_place z unit) → i < width z → m.0.publishes ≡ true → MayPublish fits z m.0 unit m.0.units.partly → IsRecord m.0.units.partly
      → address_of m.0.units.built unit ≡ 0 → new ≡ 1 + length (heap_of m.0.units.built) → Allows (Rule asked fits z) n id m i (λ _. new) (λ _. AddressStore unit (step n i new 0 none) m new)
  publishes_record n id m unit i new place within publishes may whole none' is = stores asked fits z n id m i new (with_units (units_with_address unit m.0.units) m.0) (AddressStore unit (step n i new 0 none) m new) (λ s l t.
      let c : Content = l.content in let y : Units = c.units in let same : m.0.units ≡ y = t.publishes publishes in
      let e₁ = ap (λ (k : Units). length (heap_of k.built)) same in
      let gap : address_of y.built unit ≡ 0 = ap (λ (k : Units). address_of k.built unit) (sym same) ∙ none' in
      let y' : Units = units_with_address unit y in
      let u : Unit = record { number = unit; words = y.partly } in
      let d : Content = record { rows = c.rows; units = y' } in
      let b = may_be_built c m.0 unit m.0.units.partly t l.rows may in
      let behind = l.rows.behind in let full = l.rows.room in
      let unit_low : unit < z.libraries + z.rows = ⊎_elim (λ (h : unit < z.libraries). omega arith) (λ q. let low = q.1 in let e = q.2 in omega arith) b.0 in
      let at_place : i ≡ address_place z unit = place unit_low in
      let fit : FitsUnit fits z c.rows unit y.partly = subst (λ (k : Units). FitsUnit fits z c.rows unit k.partly) same b.1 in
      let record_whole : IsRecord y.partly = subst (λ (k : Units). IsRecord k.partly) same whole in
      let heap_is : heap_of (y.built ++ u ∷ []) ≡ heap_of y.built ++ y.partly = heap_of-push y.built u in
      let g : Grows c d = grows_units c y' (λ k there. address-keeps 0 y.built u k there)
      (λ at h. (let e = ap length heap_is in let long = length-append (heap_of y.built) y.partly in omega arith, ap (λ (ws : List ℕ). get_or ws at 0) heap_is ∙ at_left (heap_of y.built) y.partly at 0 h)) in
      let wide = l.wide in
      let inside : i < length s.words = omega arith in
      let st = l.stands_for_units in let us = l.units in
      let all_is : heap_of (y.built ++ u ∷ []) ++ [] ≡ heap_of y.built ++ y.partly = append-nil (heap_of (y.built ++ u ∷ [])) ∙ heap_is in record {
        content = d;
        grows = g;
        stands_for_rows = rows_stay asked z s.words i new c.rows (omega arith) l.rows l.stands_for_rows;
        stands_for_units = record {
          addresses = λ k h. dite (ℕ_discrete unit k)
              (λ this. (let e : address_place z k ≡ i = omega arith in ap (λ (p : ℕ). get_or (set s.words i new) p 0) e) ∙ here s.words i new inside ∙ is ∙ (let e : 1 + length (heap_of m.0.units.built) ≡ suc (0 + length (heap_of y.built)) = omega arith in e)
              ∙ sym (address-new 0 y.built u k (subst (λ (x : ℕ). address_of y.built x ≡ 0) this gap) this))
              (λ ne. other s.words i (address_place z k) new (λ e. ne (omega arith)) ∙ st.addresses k h ∙ sym (address-other 0 y.built u k ne));
          heap = λ at h. let near : at < length (heap_of y.built ++ y.partly) = subst (λ (ws : List ℕ). at < length ws) all_is h in
              other s.words i (heap_place z at) new (λ e. omega arith) ∙ st.heap at near ∙ ap (λ (ws : List ℕ). get_or ws at 0) (sym all_is);
        };
        rows = l.rows;
        units = record {
          built = All-push (IsBuilt fits z c.rows) y.built u us.built (record { unit = b.0; whole = record_whole; small = us.small; fitting = fit });
          once = subst (λ (ns : List ℕ). AreDistinct ns 0) (sym (numbers_of-push y.built u)) (AreDistinct-push (numbers_of y.built) unit 0 (address-none 0 y.built unit gap) us.once);
          room = let e = ap length all_is in let r = us.room in omega arith;
          small = All-nil (λ w. w < 2 ^ 32);
        };
        claims = Claims-units c d m.0 (units_with_address unit m.0.units) g l.rows.behind refl (ap (units_with_address unit) same) t;
        creates = refl;
        publishes = refl;
        by_creator = inl refl;
        by_publisher = inr publishes;
        tells = refl;
      })

  pub tells_units : (id : ℕ) (v : View) → v.publishes ≡ true → Splits (Rule asked fits z) id v v (unit_note v)
  tells_units id v publishes = splits asked fits z id v (unit_note v) refl refl (λ c x y t.
      let same : v.units ≡ c.units = t.publishes publishes in
      let right : All (IsRight c v.seen) (words_of_units 0 v.units.built) = units_right c v.seen 0 v.units.built (λ n word e there. ap (λ (k : Units). address_of k.built n) (sym same) ∙ e)
      (subst (λ (k : Units). AreDistinct (numbers_of k.built) 0) (sym same) y.once) in
      Claims-fresh c v v.seen (words_of_units 0 v.units.built ++ v.known) t.seen (omega arith) (All-append (IsRight c v.seen) (words_of_units 0 v.units.built) v.known right t.known) t)

pub hears_at : (asked : List (List ℕ)) (fits : Subject → List ℕ → Type 0) (z z' : Numbers) (n id : ℕ) (m : Me ℕ View) (named unit i : ℕ) → z ≡ z' → (unit < z'.libraries + z'.rows → i ≡ address_place z' unit)
    → named ≡ unit → IsKnownUnit z m.0 unit → Allows (Rule asked fits z) n id m i (λ r. r) (AddressLoad named (step n i 0 0 none) m)
hears_at asked fits z z' n id m named unit i kept place same known = subst (λ (k : ℕ). Allows (Rule asked fits z) n id m i (λ r. r) (AddressLoad k (step n i 0 0 none) m)) (sym same)
    (hears asked fits z n id m unit i (subst (λ (q : Numbers). unit < q.libraries + q.rows → i ≡ address_place q unit) (sym kept) place) known)

module _ {F : Type 0} (askedF : F → List (List ℕ)) (fitsF : F → Subject → List ℕ → Type 0) (longestF : F → Subject → ℕ) (fit : F) where
  pub reads_record_at : (z z' w : Numbers) (n id : ℕ) (m : Me ℕ View) (o : Option F) (named unit named_word word named_at at i : ℕ) → z ≡ z' → (1 ≤ word → word - 1 + at < z'.heap → i ≡ heap_place z' (word - 1 + at))
      → o ≡ Some fit → w ≡ z → named ≡ unit → named_word ≡ word → named_at ≡ at → KnowsAddress m.0 unit word → IsInRecord m.0 word at
      → Allows (Rule (askedF fit) (fitsF fit) z) n id m i (λ r. r) (HeapLoad (fits_by fitsF o) w named named_word named_at (step n i 0 0 none) m)
  reads_record_at z z' w n id m o named unit named_word word named_at at i kept place is same_numbers same same_word same_at known inside =
      subst (λ (o' : Option F). Allows (Rule (askedF fit) (fitsF fit) z) n id m i (λ r. r) (HeapLoad (fits_by fitsF o') w named named_word named_at (step n i 0 0 none) m)) (sym is)
      (subst (λ (w' : Numbers). Allows (Rule (askedF fit) (fitsF fit) z) n id m i (λ r. r) (HeapLoad (fitsF fit) w' named named_word named_at (step n i 0 0 none) m)) (sym same_numbers)
      (subst (λ (k : ℕ). Allows (Rule (askedF fit) (fitsF fit) z) n id m i (λ r. r) (HeapLoad (fitsF fit) z k named_word named_at (step n i 0 0 none) m)) (sym same)
      (subst (λ (k : ℕ). Allows (Rule (askedF fit) (fitsF fit) z) n id m i (λ r. r) (HeapLoad (fitsF fit) z unit k named_at (step n i 0 0 none) m)) (sym same_word)
      (subst (λ (k : ℕ). Allows (Rule (askedF fit) (fitsF fit) z) n id m i (λ r. r) (HeapLoad (fitsF fit) z unit word k (step n i 0 0 none) m)) (sym same_at)
      (reads_record (askedF fit) (fitsF fit) z n id m unit word at i (subst (λ (q : Numbers). 1 ≤ word → word - 1 + at < q.heap → i ≡ heap_place q (word - 1 + at)) (sym kept) place) known inside)))))

  pub checks_at : (z w : Numbers) (n id : ℕ) (m : Me ℕ View) (o : Option F) (i : ℕ) → ((f : F) (s : Subject) (words : List ℕ) → fitsF f s words → length words ≤ longestF f s)
      → o ≡ Some fit → w ≡ z → m.0.publishes ≡ true
      → Allows (Rule (askedF fit) (fitsF fit) z) n id m i (λ r. r) (UnitReload (asked_by askedF o) (fits_by fitsF o) (longest_by longestF o) w (step n i 0 0 none) m)
  checks_at z w n id m o i short is same_numbers publishes =
      subst (λ (o' : Option F). Allows (Rule (askedF fit) (fitsF fit) z) n id m i (λ r. r) (UnitReload (asked_by askedF o') (fits_by fitsF o') (longest_by longestF o') w (step n i 0 0 none) m)) (sym is)
      (subst (λ (w' : Numbers). Allows (Rule (askedF fit) (fitsF fit) z) n id m i (λ r. r) (UnitReload (askedF fit) (fitsF fit) (longestF fit) w' (step n i 0 0 none) m)) (sym same_numbers)
      (checks_all (askedF fit) (fitsF fit) z (longestF fit) (short fit) n id m i publishes))

  pub sound_at : (z w : Numbers) (v : View) (o : Option F) → o ≡ Some fit → w ≡ z → AreSoundUnits (asked_by askedF o) (fits_by fitsF o) (longest_by longestF o) w v → AreSoundUnits (askedF fit) (fitsF fit) (longestF fit) z v
  sound_at z w v o is same t = subst (λ (w' : Numbers). AreSoundUnits (askedF fit) (fitsF fit) (longestF fit) w' v) same
      (subst (λ (o' : Option F). AreSoundUnits (asked_by askedF o') (fits_by fitsF o') (longest_by longestF o') w v) is t)

  pub fits_at : (z w : Numbers) (v : View) (o : Option F) (named unit named_word word : ℕ) → o ≡ Some fit → w ≡ z → named ≡ unit → named_word ≡ word
      → ((words : List ℕ) → KnowsRecord v named_word words → IsRecord words → FitsKnown (fits_by fitsF o) w v named words)
      → (words : List ℕ) → KnowsRecord v word words → IsRecord words → FitsKnown (fitsF fit) z v unit words
  fits_at z w v o named unit named_word word is same_numbers same same_word t words knows whole =
      subst (λ (w' : Numbers). FitsKnown (fitsF fit) w' v unit words) same_numbers
      (subst (λ (n : ℕ). FitsKnown (fitsF fit) w v n words) same
      (subst (λ (o' : Option F). FitsKnown (fits_by fitsF o') w v named words) is (t words (subst (λ (k : ℕ). KnowsRecord v k words) (sym same_word) knows) whole)))

pub lays_at : (asked : List (List ℕ)) (fits : Subject → List ℕ → Type 0) (z z' : Numbers) (n id : ℕ) (m : Me ℕ View) (at i new : ℕ) → z ≡ z' → (at < z'.heap → i ≡ heap_place z' at) → m.0.publishes ≡ true
    → at ≡ length (heap_of m.0.units.built) + length m.0.units.partly → at < z.heap → new < 2 ^ 32 → Allows (Rule asked fits z) n id m i (λ _. new) (λ _. HeapStore (step n i new 0 none) m new)
lays_at asked fits z z' n id m at i new kept place publishes is room small =
    lays asked fits z n id m i new ((subst (λ (q : Numbers). at < q.heap → i ≡ heap_place q at) (sym kept) place) room ∙ ap (λ (k : ℕ). heap_place z k) is) publishes (omega arith) small

pub publishes_at : (asked : List (List ℕ)) (fits : Subject → List ℕ → Type 0) (z z' : Numbers) (n id : ℕ) (m : Me ℕ View) (named unit i new : ℕ) → z ≡ z' → (unit < z'.libraries + z'.rows → i ≡ address_place z' unit) → i < width z' → named ≡ unit
    → m.0.publishes ≡ true → MayPublish fits z m.0 unit m.0.units.partly → IsRecord m.0.units.partly → address_of m.0.units.built unit ≡ 0 → new ≡ 1 + length (heap_of m.0.units.built)
    → Allows (Rule asked fits z) n id m i (λ _. new) (λ _. AddressStore named (step n i new 0 none) m new)
publishes_at asked fits z z' n id m named unit i new kept place inside same publishes may whole none' is =
    subst (λ (k : ℕ). Allows (Rule asked fits z) n id m i (λ _. new) (λ _. AddressStore k (step n i new 0 none) m new)) (sym same)
    (publishes_record asked fits z n id m unit i new (subst (λ (q : Numbers). unit < q.libraries + q.rows → i ≡ address_place q unit) (sym kept) place)
    (subst (λ (q : Numbers). i < width q) (sym kept) inside) publishes may whole none' is)
