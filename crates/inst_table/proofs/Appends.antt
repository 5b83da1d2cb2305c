-- The steps of the creator.
use Rattle.std.proofs.Common.{◌≡◌, ℕ, zero, suc, ◌+◌, ◌<◌, ◌≤◌, true, false, List, [], ◌∷◌, ◌++◌, length, All, Contains, get_or, set, sym, refl, ap, ◌∙◌, subst, inl, inr, ⊎_elim, arith}
use mathlib.Core.Option.{none}
use mathlib.Core.Logic.{dite}
use native.Mathlib.Decide.{ℕ_discrete}
use Rattle.std.proofs.lemmas.List.Elements.{All-weaker, All-push, All-nil, All-cons, All-head, All-tail, All-append, All-contains, Contains-append_left, Contains-append_right}
use Rattle.atomic_table.specs.Table.{Me, step, Allows, Splits}
use Rattle.inst_table.specs.Bucket.{key_words, buckets, bucket_of}
use Rattle.inst_table.specs.Subject.{Subject, pair}
use Rattle.inst_table.specs.Layout.{count_place, head_place, key_place, next_place, row_place, address_place, heap_place}
use Rattle.inst_table.specs.Chain.{key_at, key_word, bucket_at, newest}
use Rattle.inst_table.specs.Views.{with_rows, rows_with_word, rows_with_next, rows_with_head, with_count, without_creation, row_note, words_of_row, words_of_rows}
use Rattle.inst_table.specs.Passes.{KnowsRow}
use Rattle.inst_table.specs.Plays.{IsOfRows, AreSound, RowReload, KeyWordStore, NextStore, HeadStore, CountStore}
use Rattle.inst_table.specs.Lawful.{Content, Claims, IsRight, NoneBetween, StandsForUnits, UnitsAreSound, IsBuilt}
use Rattle.inst_table.specs.declared.setup.Numbers.{Numbers}
use Rattle.inst_table.specs.declared.view.View.{View}
use Rattle.inst_table.specs.declared.view.Rows.{Rows}
use Rattle.inst_table.specs.declared.view.Unit.{Unit}
use Rattle.inst_table.specs.declared.view.Units.{Units}
use Rattle.inst_table.proofs.Lists.{other, here, at_left, at_push, length-push, each-push, AreDistinct-push}
use Rattle.inst_table.proofs.Chains.{newest-same, newest-here, newest-other}
use Rattle.inst_table.proofs.Growth.{Grows, Claims-grow}
use Rattle.inst_table.proofs.LookSteps.{Claims-seen}
use Rattle.inst_table.specs.declared.view.KnownWord.TheVariants.{KeyWord}
use Rattle.inst_table.proofs.Follows.{contains-here, contains-there}
use Rattle.inst_table.proofs.Sharing.{Claims-without_creation, Claims-fresh}
use Rattle.inst_table.proofs.Steps.{Rule, loads, stores, splits}

-- a store into the rows leaves the units
units_stay : (z : Numbers) (ws : List ℕ) (i new : ℕ) (y : Units) → i < row_place z.rows → StandsForUnits z ws y → StandsForUnits z (set ws i new) y
units_stay z ws i new y low t = record {
  addresses = λ unit h. other ws i (address_place z unit) new (λ e. omega arith) ∙ t.addresses unit h;
  heap = λ at h. other ws i (heap_place z at) new (λ e. omega arith) ∙ t.heap at h;
}

-- the units stay sound as rows are added
built_still : (fits : Subject → List ℕ → Type 0) (z : Numbers) (x x' : Rows) → x.count ≤ x'.count → ((row : ℕ) → row < x.count → key_at x'.linked row ≡ key_at x.linked row)
    → (u : Unit) → IsBuilt fits z x u → IsBuilt fits z x' u
built_still fits z x x' more same u t = record {
  unit = ⊎_elim (λ a. inl a) (λ b. inr (b.0, (let low = b.1 in omega arith), b.2)) t.unit;
  whole = t.whole;
  small = t.small;
  fitting = record {
    as_library = t.fitting.as_library;
    as_pair = λ row high is. ⊎_elim (λ (a : u.number < z.libraries). absurd (omega arith))
        (λ b. let low : row < x.count = let near = b.1 in let at = b.2 in omega arith in
        subst (λ (key : List ℕ). fits (pair key) u.words) (sym (same row low)) (t.fitting.as_pair row low is)) t.unit;
  };
}

pub units_still : (fits : Subject → List ℕ → Type 0) (z : Numbers) (x x' : Rows) (y : Units) → x.count ≤ x'.count → ((row : ℕ) → row < x.count → key_at x'.linked row ≡ key_at x.linked row)
    → UnitsAreSound fits z x y → UnitsAreSound fits z x' y
units_still fits z x x' y more same t = record {
  built = All-weaker (IsBuilt fits z x) (IsBuilt fits z x') (built_still fits z x x' more same) y.built t.built;
  once = t.once;
  room = t.room;
  small = t.small;
}

-- the creator's view, with other rows
Claims-rows : (c d : Content) (v : View) (rows : Rows) → Grows c d → c.rows.count ≤ length c.rows.linked → c.units ≡ d.units → rows ≡ d.rows → Claims c v → Claims d (with_rows rows v)
Claims-rows c d v rows g behind units is t =
    let b : Claims d (without_creation v) = Claims-grow c d g behind (without_creation v) (Claims-without_creation c v t) (λ y. cc) (λ y. t.publishes y ∙ units) in record {
      seen = b.seen;
      known = b.known;
      absent = b.absent;
      walk = b.walk;
      walked = b.walked;
      loads = b.loads;
      one_way = b.one_way;
      creates = λ y. is;
      publishes = b.publishes;
    }

-- a content that has other rows, which begin with the same keys
grows_rows : (c : Content) (x : Rows) → c.rows.count ≤ x.count → length c.rows.linked ≤ length x.linked → ((row : ℕ) → row < length c.rows.linked → key_at x.linked row ≡ key_at c.rows.linked row)
    → Grows c (record { rows = x; units = c.units })
grows_rows c x more long same = record { count = more; long = long; rows = same; addresses = λ unit h. refl; heap = λ at h. (h, refl) }

row_right : (c : Content) (seen row at : ℕ) (ws : List ℕ) → row < seen → at + length ws ≤ key_words → ((j : ℕ) → j < length ws → key_word c.rows.linked row (at + j) ≡ get_or ws j 0) → All (IsRight c seen) (words_of_row row at ws)
row_right c seen row at [] low fit same = All-nil (IsRight c seen)
row_right c seen row at (w ∷ ws) low fit same = All-cons (IsRight c seen) (KeyWord row at w) (words_of_row row (at + 1) ws)
    (low, omega arith, let e : at ≡ at + 0 = omega arith in sym (ap (λ (k : ℕ). key_word c.rows.linked row k) e ∙ same 0 (omega arith)))
    (row_right c seen row (at + 1) ws low (omega arith) (λ j h. let e : at + 1 + j ≡ at + suc j = omega arith in ap (λ (k : ℕ). key_word c.rows.linked row k) e ∙ same (suc j) (omega arith)))

rows_right : (c : Content) (seen row : ℕ) (keys : List (List ℕ)) → row + length keys ≤ seen → ((k : ℕ) → k < length keys → key_at c.rows.linked (row + k) ≡ get_or keys k [])
    → All (λ key. length key ≡ key_words) keys → All (IsRight c seen) (words_of_rows row keys)
rows_right c seen row [] fit same wide = All-nil (IsRight c seen)
rows_right c seen row (key ∷ keys) fit same wide =
    let long : length key ≡ key_words = All-head (λ k. length k ≡ key_words) key keys wide in
    let e : row ≡ row + 0 = omega arith in
    All-append (IsRight c seen) (words_of_row row 0 key) (words_of_rows (row + 1) keys)
    (row_right c seen row 0 key (omega arith) (omega arith) (λ j h. let f : 0 + j ≡ j = omega arith in ap (λ (k : ℕ). key_word c.rows.linked row k) f ∙ ap (λ (k : List ℕ). get_or k j 0) (ap (λ (r : ℕ). key_at c.rows.linked r) e ∙ same 0 (omega arith))))
    (rows_right c seen (row + 1) keys (omega arith) (λ k h. let f : row + 1 + k ≡ row + suc k = omega arith in ap (λ (r : ℕ). key_at c.rows.linked r) f ∙ same (suc k) (omega arith))
    (All-tail (λ k. length k ≡ key_words) key keys wide))

row_contains : (row at : ℕ) (ws : List ℕ) (j : ℕ) → j < length ws → Contains (words_of_row row at ws) (KeyWord row (at + j) (get_or ws j 0))
row_contains row at [] j h = absurd (omega arith)
row_contains row at (w ∷ ws) zero h = let e : at ≡ at + 0 = omega arith in subst (λ (k : ℕ). Contains (words_of_row row at (w ∷ ws)) (KeyWord row k w)) e (contains-here (words_of_row row (at + 1) ws) (KeyWord row at w))
row_contains row at (w ∷ ws) (suc j) h = let e : at + 1 + j ≡ at + suc j = omega arith in
    contains-there (words_of_row row (at + 1) ws) (KeyWord row at w) (KeyWord row (at + suc j) (get_or ws j 0))
    (subst (λ (k : ℕ). Contains (words_of_row row (at + 1) ws) (KeyWord row k (get_or ws j 0))) e (row_contains row (at + 1) ws j (omega arith)))

rows_contain : (row : ℕ) (keys : List (List ℕ)) (k at : ℕ) → k < length keys → at < length (get_or keys k []) → Contains (words_of_rows row keys) (KeyWord (row + k) at (get_or (get_or keys k []) at 0))
rows_contain row [] k at h h' = absurd (omega arith)
rows_contain row (key ∷ keys) zero at h h' = let e : row ≡ row + 0 = omega arith in let f : 0 + at ≡ at = omega arith in
    Contains-append_left (words_of_row row 0 key) (words_of_rows (row + 1) keys) (KeyWord (row + 0) at (get_or key at 0))
    (subst (λ (r : ℕ). Contains (words_of_row row 0 key) (KeyWord r at (get_or key at 0))) e (subst (λ (k : ℕ). Contains (words_of_row row 0 key) (KeyWord row k (get_or key at 0))) f (row_contains row 0 key at h')))
rows_contain row (key ∷ keys) (suc k) at h h' = let e : row + 1 + k ≡ row + suc k = omega arith in
    Contains-append_right (words_of_row row 0 key) (words_of_rows (row + 1) keys) (KeyWord (row + suc k) at (get_or (get_or keys k []) at 0))
    (subst (λ (r : ℕ). Contains (words_of_rows (row + 1) keys) (KeyWord r at (get_or (get_or keys k []) at 0))) e (rows_contain (row + 1) keys k at (omega arith) h'))

-- such a pass knows the row
pub note_knows : (v u : View) (row : ℕ) (key : List ℕ) → u ≡ row_note v → row < length v.rows.linked → key_at v.rows.linked row ≡ key → length key ≡ key_words → KnowsRow u row key
note_knows v u row key is near same long at inside =
    let e : 0 + row ≡ row = omega arith in
    let fit : at < length (key_at v.rows.linked row) = subst (λ (k : List ℕ). at < length k) (sym same) (omega arith) in
    let there : Contains (words_of_rows 0 v.rows.linked) (KeyWord row at (get_or key at 0)) =
    subst (λ (k : List ℕ). Contains (words_of_rows 0 v.rows.linked) (KeyWord row at (get_or k at 0))) same
    (subst (λ (r : ℕ). Contains (words_of_rows 0 v.rows.linked) (KeyWord r at (key_word v.rows.linked row at))) e (rows_contain 0 v.rows.linked row at near fit)) in
    subst (λ (x : View). Contains x.known (KeyWord row at (get_or key at 0))) (sym is) (Contains-append_left (words_of_rows 0 v.rows.linked) v.known (KeyWord row at (get_or key at 0)) there)

module _ (asked : List (List ℕ)) (fits : Subject → List ℕ → Type 0) (z : Numbers) where
  pub checks : (n id : ℕ) (m : Me ℕ View) (i : ℕ) (keys : List (List ℕ)) (room : ℕ) → keys ≡ asked → room ≡ z.rows → m.0.creates ≡ true
      → Allows (Rule asked fits z) n id m i (λ r. r) (RowReload keys room (step n i 0 0 none) m)
  checks n id m i keys room same_keys same_room creates = loads asked fits z n id m i (λ r. m.0) (RowReload keys room (step n i 0 0 none) m) (λ s l t.
      let c : Content = l.content in let r : ℕ = get_or s.words i 0 in
      let of_rows : IsOfRows c.rows i r = record {
        heads = λ b h e. ap (λ (k : ℕ). get_or s.words k 0) e ∙ l.stands_for_rows.heads b h;
        keys = λ row at near inside e. ap (λ (k : ℕ). get_or s.words k 0) e ∙ l.stands_for_rows.keys row at near inside;
        nexts = λ row near e. ap (λ (k : ℕ). get_or s.words k 0) e ∙ l.stands_for_rows.nexts row near;
      } in
      let sound : AreSound keys room c.rows.linked = record { within = (let h = l.rows.room in omega arith); wide = l.rows.wide; asked_for = subst (λ (ks : List (List ℕ)). All (Contains ks) c.rows.linked) (sym same_keys) l.rows.asked_for; distinct = l.rows.distinct } in
      let same : c.rows ≡ m.0.rows = sym (t.creates creates) in record {
        claims = t;
        creates = refl;
        publishes = refl;
        tells = (
          refl,
          subst (λ (x : Rows). IsOfRows x i r) same of_rows,
          subst (λ (x : Rows). AreSound keys room x.linked) same sound,
          λ row at word k. let right : IsRight c m.0.seen (KeyWord row at word) = All-contains (IsRight c m.0.seen) m.0.known (KeyWord row at word) t.known k in
              let low = right.0 in let upto = t.seen in let behind = l.rows.behind in let e = ap (λ (x : Rows). length x.linked) same in
              (omega arith, right.2 ∙ ap (λ (x : Rows). key_word x.linked row at) same),
        );
      })

  pub drafts : (n id : ℕ) (m : Me ℕ View) (row at i new : ℕ) → i ≡ key_place row at → m.0.creates ≡ true → length m.0.rows.linked ≡ row → m.0.rows.count ≡ row → row < z.rows
      → length m.0.rows.draft ≡ at → at < key_words → m.0.rows.joined ≡ false
      → Allows (Rule asked fits z) n id m i (λ _. new) (λ _. KeyWordStore (step n i new 0 none) m new)
  drafts n id m row at i new place creates full counted room long inside open' = stores asked fits z n id m i new (with_rows (rows_with_word new m.0.rows) m.0) (KeyWordStore (step n i new 0 none) m new) (λ s l t.
      let c : Content = l.content in let x : Rows = c.rows in let same : m.0.rows ≡ x = t.creates creates in
      let e₁ = ap (λ (k : Rows). length k.linked) same in let e₂ = ap (λ (k : Rows). k.count) same in let e₃ = ap (λ (k : Rows). length k.draft) same in
      let e₄ : x.joined ≡ false = sym (ap (λ (k : Rows). k.joined) same) ∙ open' in
      let y : Rows = rows_with_word new x in
      let d : Content = record { rows = y; units = c.units } in
      let wide = l.wide in
      let g : Grows c d = grows_rows c y (omega arith) (omega arith) (λ k h. refl) in
      let st = l.stands_for_rows in
      let inside' : i < length s.words = omega arith in record {
        content = d;
        grows = g;
        stands_for_rows = record {
          count = other s.words i count_place new (λ e. omega arith) ∙ st.count;
          heads = λ b h. other s.words i (head_place b) new (λ e. omega arith) ∙ st.heads b h;
          keys = λ k a h h'. other s.words i (key_place k a) new (λ e. omega arith) ∙ st.keys k a h h';
          nexts = λ k h. other s.words i (next_place k) new (λ e. omega arith) ∙ st.nexts k h;
          draft = λ a h. let more = length-push x.draft new in each-push (λ w a. get_or (set s.words i new) (key_place (length x.linked) a) 0 ≡ w) x.draft new 0
              (λ a near. other s.words i (key_place (length x.linked) a) new (λ e. omega arith) ∙ st.draft a near)
              (let e : key_place (length x.linked) (length x.draft) ≡ i = omega arith in ap (λ (k : ℕ). get_or (set s.words i new) k 0) e ∙ here s.words i new inside') a (omega arith);
          joined = λ y. cc;
        };
        stands_for_units = units_stay z s.words i new c.units (omega arith) l.stands_for_units;
        rows = let more = length-push x.draft new in let r = l.rows in record {
          behind = r.behind;
          ahead = r.ahead;
          room = r.room;
          short = omega arith;
          begun = λ h. (omega arith, omega arith);
          whole = λ y. cc;
          wide = r.wide;
          asked_for = r.asked_for;
          distinct = r.distinct;
        };
        units = units_still fits z x y c.units (omega arith) (λ k h. refl) l.units;
        claims = Claims-rows c d m.0 (rows_with_word new m.0.rows) g l.rows.behind refl (ap (rows_with_word new) same) t;
        creates = refl;
        publishes = refl;
        by_creator = inr creates;
        by_publisher = inl refl;
        tells = refl;
      })

  pub nexts : (n id : ℕ) (m : Me ℕ View) (row i new : ℕ) → i ≡ next_place row → m.0.creates ≡ true → length m.0.rows.linked ≡ row → row < z.rows
      → length m.0.rows.draft ≡ key_words → m.0.rows.joined ≡ false → new ≡ newest (bucket_at m.0.rows.linked) (bucket_of m.0.rows.draft) row
      → Allows (Rule asked fits z) n id m i (λ _. new) (λ _. NextStore (step n i new 0 none) m new)
  nexts n id m row i new place creates full room long open' is = stores asked fits z n id m i new (with_rows (rows_with_next m.0.rows) m.0) (NextStore (step n i new 0 none) m new) (λ s l t.
      let c : Content = l.content in let x : Rows = c.rows in let same : m.0.rows ≡ x = t.creates creates in
      let e₁ = ap (λ (k : Rows). length k.linked) same in let e₃ = ap (λ (k : Rows). length k.draft) same in
      let y : Rows = rows_with_next x in
      let d : Content = record { rows = y; units = c.units } in
      let wide = l.wide in
      let g : Grows c d = grows_rows c y (omega arith) (omega arith) (λ k h. refl) in
      let st = l.stands_for_rows in
      let inside : i < length s.words = omega arith in
      let at_row : row ≡ length x.linked = omega arith in
      let begun = l.rows.begun (omega arith) in record {
        content = d;
        grows = g;
        stands_for_rows = record {
          count = other s.words i count_place new (λ e. omega arith) ∙ st.count;
          heads = λ b h. other s.words i (head_place b) new (λ e. omega arith) ∙ st.heads b h;
          keys = λ k a h h'. other s.words i (key_place k a) new (λ e. omega arith) ∙ st.keys k a h h';
          nexts = λ k h. other s.words i (next_place k) new (λ e. omega arith) ∙ st.nexts k h;
          draft = λ a h. other s.words i (key_place (length x.linked) a) new (λ e. omega arith) ∙ st.draft a h;
          joined = λ y. (let e : next_place (length x.linked) ≡ i = omega arith in ap (λ (k : ℕ). get_or (set s.words i new) k 0) e) ∙ here s.words i new inside
              ∙ is ∙ (λ j. newest (bucket_at (same j).linked) (bucket_of (same j).draft) (at_row j));
        };
        stands_for_units = units_stay z s.words i new c.units (omega arith) l.stands_for_units;
        rows = let r = l.rows in record {
          behind = r.behind;
          ahead = r.ahead;
          room = r.room;
          short = r.short;
          begun = r.begun;
          whole = λ y. omega arith;
          wide = r.wide;
          asked_for = r.asked_for;
          distinct = r.distinct;
        };
        units = units_still fits z x y c.units (omega arith) (λ k h. refl) l.units;
        claims = Claims-rows c d m.0 (rows_with_next m.0.rows) g l.rows.behind refl (ap rows_with_next same) t;
        creates = refl;
        publishes = refl;
        by_creator = inr creates;
        by_publisher = inl refl;
        tells = refl;
      })

  pub heads : (n id : ℕ) (m : Me ℕ View) (row i new : ℕ) → i ≡ head_place (bucket_of m.0.rows.draft) → bucket_of m.0.rows.draft < buckets → m.0.creates ≡ true → length m.0.rows.linked ≡ row
      → length m.0.rows.draft ≡ key_words → m.0.rows.joined ≡ true → new ≡ row + 1 → Contains asked m.0.rows.draft → NoneBetween m.0.rows.linked m.0.rows.draft 0 row
      → Allows (Rule asked fits z) n id m i (λ _. new) (λ _. HeadStore (step n i new 0 none) m new)
  heads n id m row i new place small creates full long closed is may free = stores asked fits z n id m i new (with_rows (rows_with_head m.0.rows) m.0) (HeadStore (step n i new 0 none) m new) (λ s l t.
      let c : Content = l.content in let x : Rows = c.rows in let same : m.0.rows ≡ x = t.creates creates in
      let e₁ = ap (λ (k : Rows). length k.linked) same in let e₃ = ap (λ (k : Rows). length k.draft) same in
      let e₄ : x.joined ≡ true = sym (ap (λ (k : Rows). k.joined) same) ∙ closed in
      let b₀ : ℕ = bucket_of x.draft in
      let place' : i ≡ head_place b₀ = place ∙ ap (λ (k : Rows). head_place (bucket_of k.draft)) same in
      let small' : b₀ < buckets = subst (λ (k : Rows). bucket_of k.draft < buckets) same small in
      let y : Rows = rows_with_head x in
      let top : ℕ = length x.linked in
      let d : Content = record { rows = y; units = c.units } in
      let wide = l.wide in
      let more : length y.linked ≡ top + 1 = length-push x.linked x.draft in
      let keeps : (k : ℕ) → k < top → key_at y.linked k ≡ key_at x.linked k = λ k h. at_left x.linked (x.draft ∷ []) k [] h in
      let last : key_at y.linked top ≡ x.draft = at_push x.linked x.draft [] in
      let below : (b k : ℕ) → k ≤ top → newest (bucket_at y.linked) b k ≡ newest (bucket_at x.linked) b k = λ b k h. newest-same (bucket_at y.linked) (bucket_at x.linked) b k (λ r near. ap bucket_of (keeps r (omega arith))) in
      let begun = l.rows.begun (omega arith) in
      let behind = l.rows.behind in
      let g : Grows c d = grows_rows c y (omega arith) (omega arith) keeps in
      let st = l.stands_for_rows in
      let inside : i < length s.words = omega arith in
      let sized : (b : ℕ) → newest (bucket_at y.linked) b (length y.linked) ≡ newest (bucket_at y.linked) b (suc top) = λ b. let e : length y.linked ≡ suc top = omega arith in ap (λ (k : ℕ). newest (bucket_at y.linked) b k) e in record {
        content = d;
        grows = g;
        stands_for_rows = record {
          count = other s.words i count_place new (λ e. omega arith) ∙ st.count;
          heads = λ b h. dite (ℕ_discrete b b₀)
              (λ this. (let e : head_place b ≡ i = omega arith in ap (λ (k : ℕ). get_or (set s.words i new) k 0) e) ∙ here s.words i new inside ∙ (let e : new ≡ suc top = omega arith in e)
              ∙ sym (sized b ∙ newest-here (bucket_at y.linked) b top (ap bucket_of last ∙ sym this)))
              (λ ne. other s.words i (head_place b) new (λ e. ne (omega arith)) ∙ st.heads b h
              ∙ sym (sized b ∙ newest-other (bucket_at y.linked) b top (λ e. ne (sym e ∙ ap bucket_of last)) ∙ below b top (omega arith)));
          keys = λ k a h h'. other s.words i (key_place k a) new (λ e. omega arith) ∙ dite (ℕ_discrete k top)
              (λ this. (ap (λ (r : ℕ). get_or s.words (key_place r a) 0) this) ∙ st.draft a (omega arith) ∙ ap (λ (key : List ℕ). get_or key a 0) (sym last) ∙ ap (λ (r : ℕ). key_word y.linked r a) (sym this))
              (λ ne. let near : k < top = omega arith in st.keys k a near h' ∙ ap (λ (key : List ℕ). get_or key a 0) (sym (keeps k near)));
          nexts = λ k h. other s.words i (next_place k) new (λ e. omega arith) ∙ dite (ℕ_discrete k top)
              (λ this. ap (λ (r : ℕ). get_or s.words (next_place r) 0) this ∙ st.joined e₄ ∙ sym (below b₀ top (omega arith)) ∙ ap (λ (b : ℕ). newest (bucket_at y.linked) b top) (sym (ap bucket_of last))
              ∙ ap (λ (r : ℕ). newest (bucket_at y.linked) (bucket_at y.linked r) r) (sym this))
              (λ ne. let near : k < top = omega arith in st.nexts k near ∙ ap (λ (b : ℕ). newest (bucket_at x.linked) b k) (sym (ap bucket_of (keeps k near))) ∙ sym (below (bucket_at y.linked k) k (omega arith)));
          draft = λ a h. absurd (omega arith);
          joined = λ y. cc;
        };
        stands_for_units = units_stay z s.words i new c.units (omega arith) l.stands_for_units;
        rows = let r = l.rows in record {
          behind = omega arith;
          ahead = omega arith;
          room = omega arith;
          short = omega arith;
          begun = λ h. absurd (omega arith);
          whole = λ y. cc;
          wide = All-push (λ key. length key ≡ key_words) x.linked x.draft r.wide (omega arith);
          asked_for = All-push (Contains asked) x.linked x.draft r.asked_for (subst (λ (k : Rows). Contains asked k.draft) same may);
          distinct = AreDistinct-push x.linked x.draft [] (λ k h e. let f : NoneBetween x.linked x.draft 0 row = subst (λ (k : Rows). NoneBetween k.linked k.draft 0 row) same free in f k (omega arith) (omega arith) e) r.distinct;
        };
        units = units_still fits z x y c.units (omega arith) (λ k h. keeps k (omega arith)) l.units;
        claims = Claims-rows c d m.0 (rows_with_head m.0.rows) g l.rows.behind refl (ap rows_with_head same) t;
        creates = refl;
        publishes = refl;
        by_creator = inr creates;
        by_publisher = inl refl;
        tells = refl;
      })

  pub counts_more : (n id : ℕ) (m : Me ℕ View) (new : ℕ) → m.0.creates ≡ true → length m.0.rows.linked ≡ m.0.rows.count + 1 → new ≡ m.0.rows.count + 1
      → Allows (Rule asked fits z) n id m 0 (λ _. new) (λ _. CountStore (step n 0 new 0 none) m new)
  counts_more n id m new creates ahead is = stores asked fits z n id m 0 new (with_count m.0) (CountStore (step n 0 new 0 none) m new) (λ s l t.
      let c : Content = l.content in let x : Rows = c.rows in let same : m.0.rows ≡ x = t.creates creates in
      let e₁ = ap (λ (k : Rows). length k.linked) same in let e₂ = ap (λ (k : Rows). k.count) same in
      let y : Rows = record x { count = x.count + 1 } in
      let d : Content = record { rows = y; units = c.units } in
      let wide = l.wide in let upto = t.seen in
      let g : Grows c d = grows_rows c y (omega arith) (omega arith) (λ k h. refl) in
      let st = l.stands_for_rows in
      let inside : 0 < length s.words = omega arith in
      let moved : Claims d (with_rows (with_count m.0).rows m.0) = Claims-rows c d m.0 (with_count m.0).rows g l.rows.behind refl (λ j. record (same j) { count = (same j).count + 1 }) t in record {
        content = d;
        grows = g;
        stands_for_rows = record {
          count = here s.words 0 new inside ∙ is ∙ ap (λ (k : Rows). k.count + 1) same;
          heads = λ b h. other s.words 0 (head_place b) new (λ e. omega arith) ∙ st.heads b h;
          keys = λ k a h h'. other s.words 0 (key_place k a) new (λ e. omega arith) ∙ st.keys k a h h';
          nexts = λ k h. other s.words 0 (next_place k) new (λ e. omega arith) ∙ st.nexts k h;
          draft = λ a h. other s.words 0 (key_place (length x.linked) a) new (λ e. omega arith) ∙ st.draft a h;
          joined = λ y. other s.words 0 (next_place (length x.linked)) new (λ e. omega arith) ∙ st.joined y;
        };
        stands_for_units = units_stay z s.words 0 new c.units (omega arith) l.stands_for_units;
        rows = let r = l.rows in record {
          behind = omega arith;
          ahead = omega arith;
          room = r.room;
          short = r.short;
          begun = λ h. let b = r.begun h in absurd (omega arith);
          whole = r.whole;
          wide = r.wide;
          asked_for = r.asked_for;
          distinct = r.distinct;
        };
        units = units_still fits z x y c.units (omega arith) (λ k h. refl) l.units;
        claims = Claims-seen d (with_rows (with_count m.0).rows m.0) (m.0.rows.count + 1) m.0.looks (omega arith) (omega arith) moved;
        creates = refl;
        publishes = refl;
        by_creator = inr creates;
        by_publisher = inl refl;
        tells = refl;
      })

  pub drafts_at : (n id : ℕ) (m : Me ℕ View) (row at i new : ℕ) → i ≡ key_place row at → (m.0.creates ≡ true) × (m.0.rows.joined ≡ false) → (length m.0.rows.linked ≡ row) × (m.0.rows.count ≡ row) × (row < z.rows)
      → (length m.0.rows.draft ≡ at) × (at < key_words) → Allows (Rule asked fits z) n id m i (λ _. new) (λ _. KeyWordStore (step n i new 0 none) m new)
  drafts_at n id m row at i new place creates full long = drafts n id m row at i new place creates.0 full.0 full.1 full.2 long.0 long.1 creates.1

  pub nexts_at : (n id : ℕ) (x m : Me ℕ View) (row i new b word : ℕ) → m ≡ x → i ≡ next_place row → (x.0.creates ≡ true) × (x.0.rows.joined ≡ false) → (length x.0.rows.linked ≡ row) × (row < z.rows)
      → (length x.0.rows.draft ≡ key_words) × (bucket_of x.0.rows.draft ≡ b) × (b < buckets) → IsOfRows x.0.rows word new → word ≡ head_place b
      → Allows (Rule asked fits z) n id m i (λ _. new) (λ _. NextStore (step n i new 0 none) m new)
  nexts_at n id x m row i new b word same place creates full draft is at = subst (λ (y : Me ℕ View). Allows (Rule asked fits z) n id y i (λ _. new) (λ _. NextStore (step n i new 0 none) y new)) (sym same)
      (nexts n id x row i new place creates.0 full.0 full.1 draft.0 creates.1 (is.heads b draft.2 at ∙ (λ j. newest (bucket_at x.0.rows.linked) (sym draft.1 j) (full.0 j))))

  -- a pass that knows all rows
  pub tells_rows : (id : ℕ) (v : View) → v.creates ≡ true → v.rows.count ≡ length v.rows.linked → Splits (Rule asked fits z) id v v (row_note v)
  tells_rows id v creates whole = splits asked fits z id v (row_note v) refl refl (λ c x y t.
      let same : v.rows ≡ c.rows = t.creates creates in
      let e₁ = ap (λ (k : Rows). k.count) same in let low = t.seen in
      let right : All (IsRight c v.rows.count) (words_of_rows 0 v.rows.linked) = rows_right c v.rows.count 0 v.rows.linked (omega arith)
      (λ k h. let e : 0 + k ≡ k = omega arith in ap (λ (r : ℕ). key_at c.rows.linked r) e ∙ ap (λ (r : Rows). key_at r.linked k) (sym same))
      (subst (λ (r : Rows). All (λ key. length key ≡ key_words) r.linked) (sym same) x.wide) in
      Claims-fresh c v v.rows.count (words_of_rows 0 v.rows.linked ++ v.known) (omega arith) (omega arith)
      (All-append (IsRight c v.rows.count) (words_of_rows 0 v.rows.linked) v.known right (Claims-seen c v v.rows.count v.looks (omega arith) (omega arith) t).known) t)

pub sound_at : (asked asked' : List (List ℕ)) (room room' : ℕ) (keys : List (List ℕ)) → asked' ≡ asked → room' ≡ room → AreSound asked' room' keys → AreSound asked room keys
sound_at asked asked' room room' keys e₁ e₂ s = subst (λ (k : List (List ℕ)). AreSound k room keys) e₁ (subst (λ (n : ℕ). AreSound asked' n keys) e₂ s)
