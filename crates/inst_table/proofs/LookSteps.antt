-- The loads of a look-up.
use Rattle.std.proofs.Common.{◌≡◌, ℕ, zero, suc, ◌+◌, ◌^◌, ◌<◌, ◌≤◌, ◌≢◌, List, [], length, All, IfSome, Option, Some, None, get_or, sym, refl, ap, ◌∙◌, subst, ⊎_elim, arith}
use Rattle.std.proofs.lemmas.List.{ext_get_or}
use mathlib.Core.Option.{none}
use mathlib.Core.Logic.{dite}
use native.Mathlib.Decide.{dec_le, ℕ_discrete}
use Rattle.std.proofs.lemmas.List.Elements.{All-weaker, All-cons, All-contains, All-get_or}
use Rattle.atomic_table.specs.Table.{Me, step, Allows}
use Rattle.inst_table.specs.Bucket.{key_words, buckets, bucket_of}
use Rattle.inst_table.specs.Subject.{Subject}
use Rattle.inst_table.specs.Layout.{head_place, key_place, next_place}
use Rattle.inst_table.specs.Chain.{key_at, bucket_at, newest}
use Rattle.inst_table.specs.Views.{with_seen, with_walk, with_known, absences_at, steps_at}
use Rattle.inst_table.specs.Passes.{KnowsRow, KnowsNoRow, KnowsDifference, IsPassed}
use Rattle.inst_table.specs.Plays.{CountLoad, HeadLoad, NextLoad, KeyWordLoad}
use Rattle.inst_table.specs.Lawful.{Content, Claims, IsRight, NoneBetween, StandsIn, IsOnTheWay}
use Rattle.inst_table.specs.declared.setup.Numbers.{Numbers}
use Rattle.inst_table.specs.declared.view.View.{View}
use Rattle.inst_table.specs.declared.view.Walk.{Walk}
use Rattle.inst_table.specs.declared.view.KnownWord.{KnownWord}
use Rattle.inst_table.specs.declared.view.KnownWord.TheVariants.{KeyWord, AddressWord, HeapWord}
use Rattle.inst_table.proofs.Chains.{newest-le, newest-in, newest-none}
use Rattle.inst_table.proofs.Steps.{Rule, loads}

pub IsRight-later : (c : Content) (seen n : ℕ) → seen ≤ n → (word : KnownWord) → IsRight c seen word → IsRight c n word
IsRight-later c seen n low (KeyWord row at word) r = let a = r.0 in (omega arith, r.1, r.2)
IsRight-later c seen n low (AddressWord unit word) r = r
IsRight-later c seen n low (HeapWord at word) r = r

IsOnTheWay-later : (c : Content) (seen n : ℕ) → seen ≤ n → (w : Option Walk) → IfSome w (IsOnTheWay c.rows seen) → IfSome w (IsOnTheWay c.rows n)
IsOnTheWay-later c seen n low None t = tt
IsOnTheWay-later c seen n low (Some w) t = record { below = let a = t.below in omega arith; stands = t.stands; passed = t.passed }

-- a later count
pub Claims-seen : (c : Content) (v : View) (n looks : ℕ) → v.seen ≤ n → n ≤ c.rows.count → Claims c v → Claims c (record v { seen = n; looks = looks })
Claims-seen c v n looks low high t = record {
  seen = high;
  known = All-weaker (IsRight c v.seen) (IsRight c n) (IsRight-later c v.seen n low) v.known t.known;
  absent = All-weaker (λ (a : List ℕ × ℕ). (a.1 ≤ v.seen) × NoneBetween c.rows.linked a.0 0 a.1) (λ (a : List ℕ × ℕ). (a.1 ≤ n) × NoneBetween c.rows.linked a.0 0 a.1)
      (λ a h. (let x = h.0 in omega arith, h.1)) v.absent t.absent;
  walk = IsOnTheWay-later c v.seen n low v.walk t.walk;
  walked = t.walked;
  loads = t.loads;
  one_way = t.one_way;
  creates = t.creates;
  publishes = t.publishes;
}

-- one more word that is known
pub Claims-learn : (c : Content) (v : View) (word : KnownWord) → IsRight c v.seen word → Claims c v → Claims c (with_known word v)
Claims-learn c v word right t = record {
  seen = t.seen;
  known = All-cons (IsRight c v.seen) word v.known right t.known;
  absent = t.absent;
  walk = t.walk;
  walked = t.walked;
  loads = t.loads;
  one_way = t.one_way;
  creates = t.creates;
  publishes = t.publishes;
}

absent_come : (c : Content) (seen : ℕ) (key : List ℕ) (n place : ℕ) (absences : List (List ℕ × ℕ)) → n ≤ seen → NoneBetween c.rows.linked key place n
    → All (λ (a : List ℕ × ℕ). (a.1 ≤ seen) × NoneBetween c.rows.linked a.0 0 a.1) absences → All (λ (a : List ℕ × ℕ). (a.1 ≤ seen) × NoneBetween c.rows.linked a.0 0 a.1) (absences_at place key n absences)
absent_come c seen key n zero absences low free t = All-cons (λ (a : List ℕ × ℕ). (a.1 ≤ seen) × NoneBetween c.rows.linked a.0 0 a.1) (key, n) absences (low, free) t
absent_come c seen key n (suc row) absences low free t = t

walked_come : (c : Content) (b place : ℕ) (rows : List (ℕ × ℕ)) → ((row : ℕ) → place ≡ row + 1 → StandsIn c.rows.linked b row)
    → All (λ (p : ℕ × ℕ). StandsIn c.rows.linked p.1 p.0) rows → All (λ (p : ℕ × ℕ). StandsIn c.rows.linked p.1 p.0) (steps_at place b rows)
walked_come c b zero rows stands t = t
walked_come c b (suc row) rows stands t = All-cons (λ (p : ℕ × ℕ). StandsIn c.rows.linked p.1 p.0) (row, b) rows (stands row (omega arith)) t

-- a look-up comes to a row or to the end
pub Claims-come : (c : Content) (v : View) (key : List ℕ) (n place : ℕ) → n ≤ v.seen → ((row : ℕ) → place ≡ row + 1 → StandsIn c.rows.linked (bucket_of key) row)
    → NoneBetween c.rows.linked key place n → Claims c v → Claims c (with_walk key n place v)
Claims-come c v key n place low stands free t = record {
  seen = t.seen;
  known = t.known;
  absent = absent_come c v.seen key n place v.absent low free t.absent;
  walk = record { below = low; stands = stands; passed = free };
  walked = walked_come c (bucket_of key) place v.walked stands t.walked;
  loads = t.loads;
  one_way = t.one_way;
  creates = t.creates;
  publishes = t.publishes;
}

-- a row whose words are known has the key
pub known_row : (c : Content) (v : View) (row : ℕ) (key : List ℕ) → Claims c v → c.rows.count ≤ length c.rows.linked → All (λ k. length k ≡ key_words) c.rows.linked
    → length key ≡ key_words → KnowsRow v row key → (row < v.seen) × (key_at c.rows.linked row ≡ key)
known_row c v row key t behind wide long knows =
    let right : (at : ℕ) → at < key_words → IsRight c v.seen (KeyWord row at (get_or key at 0)) = λ at h. All-contains (IsRight c v.seen) v.known (KeyWord row at (get_or key at 0)) t.known (knows at h) in
    let low : row < v.seen = (right 0 (omega arith)).0 in
    let upto = t.seen in
    let there : length (key_at c.rows.linked row) ≡ key_words = All-get_or (λ k. length k ≡ key_words) c.rows.linked row [] (omega arith) wide in
    (low, ext_get_or 0 (key_at c.rows.linked row) key (there ∙ sym long) (λ at h. sym (right at (omega arith)).2))

-- the words that are known of a row, so that the key that is looked for can't be its key
differs : (c : Content) (v : View) (row : ℕ) (key : List ℕ) → Claims c v → KnowsDifference v row key → key_at c.rows.linked row ≢ key
differs c v row key t d e =
    let right : IsRight c v.seen (KeyWord row d.0 d.1) = All-contains (IsRight c v.seen) v.known (KeyWord row d.0 d.1) t.known d.3 in
    d.4 (right.2 ∙ ap (λ (k : List ℕ). get_or k d.0 0) e)

module _ (asked : List (List ℕ)) (fits : Subject → List ℕ → Type 0) (z : Numbers) where
  pub counts : (n id : ℕ) (m : Me ℕ View) (room : ℕ) → z.rows ≤ room → z.rows < 2 ^ 32 → Allows (Rule asked fits z) n id m 0 (λ r. r) (CountLoad room (step n 0 0 0 none) m)
  counts n id m room fit small = loads asked fits z n id m 0 (λ r. with_seen r m.0) (CountLoad room (step n 0 0 0 none) m) (λ s l t.
      let is = l.stands_for_rows.count in let low = t.seen in let behind = l.rows.behind in let room = l.rows.room in record {
        claims = Claims-seen l.content m.0 (get_or s.words 0 0) (m.0.looks + 1) (omega arith) (omega arith) t;
        creates = refl;
        publishes = refl;
        tells = (refl, omega arith, omega arith, omega arith);
      })

  -- where a look-up ends, no row that is known has the key
  misses : (c : Content) (v : View) (key : List ℕ) (place : ℕ) → Claims c v → c.rows.count ≤ length c.rows.linked → All (λ k. length k ≡ key_words) c.rows.linked
      → length key ≡ key_words → NoneBetween c.rows.linked key place v.seen → place ≡ 0 → KnowsNoRow v key
  misses c v key place t behind wide long free ends row knows = let k = known_row c v row key t behind wide long knows in free row (omega arith) k.0 k.1

  enters : (n id : ℕ) (m : Me ℕ View) (room : ℕ) (key : List ℕ) (below : ℕ) → z.rows ≤ room → length key ≡ key_words → bucket_of key < buckets → below ≡ m.0.seen
      → Allows (Rule asked fits z) n id m (head_place (bucket_of key)) (λ r. r) (HeadLoad room key below (step n (head_place (bucket_of key)) 0 0 none) m)
  enters n id m room key below fit long small same = loads asked fits z n id m (head_place (bucket_of key)) (λ r. with_walk key below r m.0) (HeadLoad room key below (step n (head_place (bucket_of key)) 0 0 none) m) (λ s l t.
      let c : Content = l.content in let rows : List (List ℕ) = c.rows.linked in
      let r : ℕ = get_or s.words (head_place (bucket_of key)) 0 in
      let is : r ≡ newest (bucket_at rows) (bucket_of key) (length rows) = l.stands_for_rows.heads (bucket_of key) small in
      let top = newest-le (bucket_at rows) (bucket_of key) (length rows) in
      let behind = l.rows.behind in let full = l.rows.room in let upto = t.seen in
      let free : (n : ℕ) → n ≤ length rows → NoneBetween rows key r n = λ n h row low high e. newest-none (bucket_at rows) (bucket_of key) (length rows) row (omega arith) (omega arith) (ap bucket_of e) in record {
        claims = Claims-come c m.0 key below r (omega arith) (λ row e. (omega arith, newest-in (bucket_at rows) (bucket_of key) (length rows) row (sym is ∙ e))) (free below (omega arith)) t;
        creates = refl;
        publishes = refl;
        tells = (refl, omega arith, misses c m.0 key r t l.rows.behind l.rows.wide long (free m.0.seen (omega arith)));
      })

  goes : (n id : ℕ) (m : Me ℕ View) (room : ℕ) (key : List ℕ) (below row : ℕ) → z.rows ≤ room → length key ≡ key_words → below ≡ m.0.seen
      → m.0.walk ≡ Some (record { key = key; below = below; place = row + 1 }) → IsPassed m.0 row key below
      → Allows (Rule asked fits z) n id m (next_place row) (λ r. r) (NextLoad room key below (step n (next_place row) 0 0 none) m)
  goes n id m room key below row fit long same stands passes = loads asked fits z n id m (next_place row) (λ r. with_walk key below r m.0) (NextLoad room key below (step n (next_place row) 0 0 none) m) (λ s l t.
      let c : Content = l.content in let rows : List (List ℕ) = c.rows.linked in
      let r : ℕ = get_or s.words (next_place row) 0 in
      let way : IsOnTheWay c.rows m.0.seen (record { key = key; below = below; place = row + 1 }) = subst (λ (w : Option Walk). IfSome w (IsOnTheWay c.rows m.0.seen)) stands t.walk in
      let st : StandsIn rows (bucket_of key) row = way.stands row refl in
      let near : row < length rows = st.0 in
      let is : r ≡ newest (bucket_at rows) (bucket_of key) row = l.stands_for_rows.nexts row st.0 ∙ ap (λ (b : ℕ). newest (bucket_at rows) b row) st.1 in
      let top = newest-le (bucket_at rows) (bucket_of key) row in
      let behind = l.rows.behind in let full = l.rows.room in let upto = t.seen in
      let free : NoneBetween rows key r below = λ k low high. dite (dec_le (suc k) row) (λ under e. newest-none (bucket_at rows) (bucket_of key) row k (omega arith) under (ap bucket_of e))
      (λ over. dite (ℕ_discrete k row) (λ here e. ⊎_elim (λ (past : below ≤ row). omega arith) (λ d. differs c m.0 row key t d (subst (λ (x : ℕ). key_at rows x ≡ key) here e)) passes)
      (λ there. way.passed k (omega arith) high)) in record {
        claims = Claims-come c m.0 key below r (omega arith) (λ k e. (omega arith, newest-in (bucket_at rows) (bucket_of key) row k (sym is ∙ e))) free t;
        creates = refl;
        publishes = refl;
        tells = ((refl, omega arith, misses c m.0 key r t l.rows.behind l.rows.wide long (subst (λ (x : ℕ). NoneBetween rows key r x) same free)), λ k e. omega arith);
      })

  reads_key : (n id : ℕ) (m : Me ℕ View) (row at : ℕ) → row < m.0.seen → at < key_words
      → Allows (Rule asked fits z) n id m (key_place row at) (λ r. r) (KeyWordLoad (step n (key_place row at) 0 0 none) m)
  reads_key n id m row at near inside = loads asked fits z n id m (key_place row at) (λ r. with_known (KeyWord row at r) m.0) (KeyWordLoad (step n (key_place row at) 0 0 none) m) (λ s l t.
      let c : Content = l.content in let r : ℕ = get_or s.words (key_place row at) 0 in
      let behind = l.rows.behind in let upto = t.seen in record {
        claims = Claims-learn c m.0 (KeyWord row at r) (near, inside, l.stands_for_rows.keys row at (omega arith) inside) t;
        creates = refl;
        publishes = refl;
        tells = λ row' at' within e. let same_row : row ≡ row' = omega arith in let same_at : at ≡ at' = omega arith in λ i. (with_known (KeyWord (same_row i) (same_at i) r) m.0, m.1);
      })

  pub enters_at : (n id : ℕ) (m : Me ℕ View) (room : ℕ) (key : List ℕ) (below i : ℕ) → i ≡ head_place (bucket_of key) → z.rows ≤ room → length key ≡ key_words → bucket_of key < buckets → below ≡ m.0.seen
      → Allows (Rule asked fits z) n id m i (λ r. r) (HeadLoad room key below (step n i 0 0 none) m)
  enters_at n id m room key below i e fit long small same = subst (λ (j : ℕ). Allows (Rule asked fits z) n id m j (λ r. r) (HeadLoad room key below (step n j 0 0 none) m)) (sym e) (enters n id m room key below fit long small same)

  pub goes_at : (n id : ℕ) (m : Me ℕ View) (room : ℕ) (key : List ℕ) (below row i : ℕ) → i ≡ next_place row → z.rows ≤ room → length key ≡ key_words → below ≡ m.0.seen
      → m.0.walk ≡ Some (record { key = key; below = below; place = row + 1 }) → IsPassed m.0 row key below
      → Allows (Rule asked fits z) n id m i (λ r. r) (NextLoad room key below (step n i 0 0 none) m)
  goes_at n id m room key below row i e fit long same stands passes = subst (λ (j : ℕ). Allows (Rule asked fits z) n id m j (λ r. r) (NextLoad room key below (step n j 0 0 none) m)) (sym e) (goes n id m room key below row fit long same stands passes)

  pub reads_key_at : (n id : ℕ) (m : Me ℕ View) (row at i : ℕ) → i ≡ key_place row at → row < m.0.seen → at < key_words
      → Allows (Rule asked fits z) n id m i (λ r. r) (KeyWordLoad (step n i 0 0 none) m)
  reads_key_at n id m row at i e near inside = subst (λ (j : ℕ). Allows (Rule asked fits z) n id m j (λ r. r) (KeyWordLoad (step n j 0 0 none) m)) (sym e) (reads_key n id m row at near inside)
