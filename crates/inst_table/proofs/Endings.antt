-- What is read when a table is closed.
use Rattle.std.proofs.Common.{◌≡◌, ℕ, ◌+◌, ◌-◌, ◌<◌, ◌≤◌, ◌≢◌, List, [], ◌∷◌, ◌++◌, length, All, Option, Some, None, Vec, Global, get_or, set, sym, refl, ap, ◌∙◌, subst, arith, append_assoc, below_more}
use mathlib.Core.Logic.{dite}
use native.Mathlib.Decide.{ℕ_discrete}
use Rattle.std.proofs.lemmas.List.{ext_get_or}
use Rattle.atomic_table.specs.Table.{Me}
use Rattle.inst_table.specs.Bucket.{key_words}
use Rattle.inst_table.specs.Subject.{Subject}
use Rattle.inst_table.specs.Layout.{key_place}
use Rattle.inst_table.specs.Chain.{key_at, key_word}
use Rattle.inst_table.specs.Views.{joint_view, row_note, unit_note, words_of_units}
use Rattle.inst_table.specs.Units.{IsRecord, heap_of, address_of}
use Rattle.inst_table.specs.Passes.{KnowsRow, KnowsRightKeys, KnowsAddress, KnowsAtLeast, KnowsRecord, FitsKnown}
use Rattle.inst_table.specs.AddressLoads.{LoadsAddress}
use Rattle.inst_table.specs.Plays.{IsOfRows, AreSound, AreSoundUnits}
use Rattle.inst_table.specs.Closing.{AgreesWith, IsUnitOf, AreUnitsOf, IsReadUnit, AreReadUnits, BeginsWith}
use Rattle.inst_table.specs.declared.setup.Numbers.{Numbers}
use Rattle.inst_table.specs.declared.view.View.{View}
use Rattle.inst_table.specs.declared.view.Unit.{Unit}
use Rattle.inst_table.specs.declared.view.KnownWord.TheVariants.{KeyWord, AddressWord, HeapWord}
use Rattle.inst_table.proofs.Lists.{other, here, each-push}
use Rattle.inst_table.proofs.Follows.{KnowsRow-keeps}
use Rattle.inst_table.proofs.Sharing.{knows_both}
use Rattle.std.proofs.lemmas.List.Elements.{Contains-append_left}
use Rattle.inst_table.proofs.Adding.{note_of_old}
use Rattle.inst_table.proofs.UnitSteps.{unit_contains}

-- ---- the keys

pub key_more : (x y : Me ℕ View) (row at found word : ℕ) (key : List ℕ) → y ≡ x → length key ≡ key_words → at < key_words → row < length x.0.rows.linked → IsOfRows y.0.rows word found → word ≡ key_place row at
    → ((k : ℕ) → k < at → get_or key k 0 ≡ key_word x.0.rows.linked row k) → (k : ℕ) → k < at + 1 → get_or (set key at found) k 0 ≡ key_word x.0.rows.linked row k
key_more x y row at found word key same long inside near is place before =
    let of : IsOfRows x.0.rows word found = subst (λ (m : Me ℕ View). IsOfRows m.0.rows word found) same is in
    below_more (λ (k : ℕ). get_or (set key at found) k 0 ≡ key_word x.0.rows.linked row k) at
    (λ k h. other key at k found (λ e. omega arith) ∙ before k h)
    (here key at found (omega arith) ∙ of.keys row at near inside place)

pub key_whole : (rows : List (List ℕ)) (row at : ℕ) (key : List ℕ) → length key ≡ key_words → length (key_at rows row) ≡ key_words → key_words ≤ at → ((k : ℕ) → k < at → get_or key k 0 ≡ key_word rows row k) → key ≡ key_at rows row
key_whole rows row at key long wide whole each = ext_get_or 0 key (key_at rows row) (long ∙ sym wide) (λ k h. each k (omega arith))

-- ---- what is known agrees

pub keys_agree : (x y : Me ℕ View) (by v : View) → y ≡ (joint_view x.0 by, x.1) → KnowsAtLeast v by → KnowsRightKeys y.0 y.0.rows.linked → KnowsRightKeys v x.0.rows.linked
keys_agree x y by v is t right row at word c =
    let r = right row at word ((knows_both x y by is).1.words (KeyWord row at word) (t.words (KeyWord row at word) c)) in
    let e = ap (λ (m : Me ℕ View). m.0.rows.linked) is in
    subst (λ (rows : List (List ℕ)). (row < length rows) × (word ≡ key_word rows row at)) e r

pub agrees : (asked : List (List ℕ)) (fits : Subject → List ℕ → Type 0) (longest : Subject → ℕ) (z : Numbers) (rows : List (List ℕ)) (x y : Me ℕ View) (by : View) → y ≡ (joint_view x.0 by, x.1) → KnowsRightKeys by rows → AreSoundUnits asked fits longest z y.0 → AgreesWith by rows x.0.units.built
agrees asked fits longest z rows x y by is keys s =
    let t = (knows_both x y by is).1 in let e = ap (λ (m : Me ℕ View). m.0.units.built) is in record {
      keys = keys;
      addresses = λ unit word c. subst (λ (us : List Unit). (word ≢ 0) × (address_of us unit ≡ word)) e (s.known unit word (t.words (AddressWord unit word) c));
      heap = λ at word c. subst (λ (us : List Unit). word ≡ get_or (heap_of us) at 0) e (s.heap_known at word (t.words (HeapWord at word) c));
    }

pub agrees_before : (v w : View) (rows : List (List ℕ)) (us : List Unit) → KnowsAtLeast v w → AgreesWith w rows us → AgreesWith v rows us
agrees_before v w rows us t a = record {
  keys = λ row at word c. a.keys row at word (t.words (KeyWord row at word) c);
  addresses = λ unit word c. a.addresses unit word (t.words (AddressWord unit word) c);
  heap = λ at word c. a.heap at word (t.words (HeapWord at word) c);
}

pub agreed : (v w : View) (rows rows' : List (List ℕ)) (us us' : List Unit) → rows' ≡ rows → us' ≡ us → KnowsAtLeast v w → AgreesWith w rows' us' → AgreesWith v rows us
agreed v w rows rows' us us' e₁ e₂ t a = agrees_before v w rows us t (subst (λ (x : List (List ℕ)). AgreesWith w x us) e₁ (subst (λ (y : List Unit). AgreesWith w rows' y) e₂ a))

-- ---- the units

pub knows_trans : (u v w : View) → KnowsAtLeast u v → KnowsAtLeast v w → KnowsAtLeast u w
knows_trans u v w a b = record { seen = let x = a.seen in let y = b.seen in omega arith; words = λ k c. b.words k (a.words k c); absences = λ k c. b.absences k (a.absences k c) }

pub begins_trans : (a b c : List (ℕ × ℕ)) → BeginsWith b a → BeginsWith c b → BeginsWith c a
begins_trans a b c x y = (x.0 ++ y.0, y.1 ∙ ap (λ (m : List (ℕ × ℕ)). m ++ y.0) x.1 ∙ append_assoc a x.0 y.0)

module _ (fits : Subject → List ℕ → Type 0) (z : Numbers) where
  pub read_none : (z' : Numbers) (u v : View) (row : ℕ) → z ≡ z' → LoadsAddress u v (z'.libraries + row) 0 → IsReadUnit fits z u v row None
  read_none z' u v row kept h word k = (h.same word (subst (λ (q : Numbers). KnowsAddress u (q.libraries + row) word) kept k)).0

  pub read_some : (z' : Numbers) (u v w : View) (unit row word : ℕ) (items : Vec ℕ Global) → z ≡ z' → unit ≡ z'.libraries + row → LoadsAddress u v (z'.libraries + row) word → word ≢ 0 → KnowsAddress v (z'.libraries + row) word
      → KnowsAtLeast u v → KnowsAtLeast v w → IsRecord items.items → KnowsRecord w word items.items → FitsKnown fits z w unit items.items → IsReadUnit fits z u w row (Some items)
  read_some z' u v w unit row word items kept is h there k a b whole knows f = (
    word,
    record {
      there = there;
      known = subst (λ (q : Numbers). KnowsAddress w (q.libraries + row) word) (sym kept) (b.words (AddressWord (z'.libraries + row) word) k);
      same = λ x c. (h.same x (subst (λ (q : Numbers). KnowsAddress u (q.libraries + row) x) kept c)).0;
      whole = whole;
      read = knows;
      fitting = λ key long c. f.as_pair row key (is ∙ ap (λ (q : Numbers). q.libraries + row) (sym kept)) long (KnowsRow-keeps u w row key (λ x d. b.words x (a.words x d)) c);
    },
  )

  pub read_later : (u v w : View) (row : ℕ) (o : Option (Vec ℕ Global)) → KnowsAtLeast v w → IsReadUnit fits z u v row o → IsReadUnit fits z u w row o
  read_later u v w row None t r = r
  read_later u v w row (Some items) t r = let q = r.1 in (
    r.0,
    record {
      there = q.there;
      known = t.words (AddressWord (z.libraries + row) r.0) q.known;
      same = q.same;
      whole = q.whole;
      read = λ at h. t.words (HeapWord (r.0 - 1 + at) (get_or items.items at 0)) (q.read at h);
      fitting = q.fitting;
    },
  )

  pub read_earlier : (u v w : View) (row : ℕ) (o : Option (Vec ℕ Global)) → KnowsAtLeast u v → IsReadUnit fits z v w row o → IsReadUnit fits z u w row o
  read_earlier u v w row None t r = λ word c. r word (t.words (AddressWord (z.libraries + row) word) c)
  read_earlier u v w row (Some items) t r = let q = r.1 in (
    r.0,
    record {
      there = q.there;
      known = q.known;
      same = λ x c. q.same x (t.words (AddressWord (z.libraries + row) x) c);
      whole = q.whole;
      read = q.read;
      fitting = λ key long c. q.fitting key long (KnowsRow-keeps u v row key t.words c);
    },
  )

  pub read_more : (u v w : View) (units more : List (Option (Vec ℕ Global))) (row : ℕ) (o : Option (Vec ℕ Global)) → length units ≡ row → KnowsAtLeast u v → KnowsAtLeast v w → more ≡ units ++ o ∷ []
      → ((k : ℕ) → k < row → IsReadUnit fits z u v k (get_or units k None)) → IsReadUnit fits z v w row o → (k : ℕ) → k < row + 1 → IsReadUnit fits z u w k (get_or more k None)
  read_more u v w units more row o long a b is before new k h =
      subst (λ (os : List (Option (Vec ℕ Global))). IsReadUnit fits z u w k (get_or os k None)) (sym is)
      (each-push (λ x n. IsReadUnit fits z u w n x) units o None (λ n near. read_later u v w n (get_or units n None) b (before n (omega arith)))
      (subst (λ (n : ℕ). IsReadUnit fits z u w n o) (sym long) (read_earlier u v w row o a new)) k (omega arith))

  unit_of : (u v : View) (rows : List (List ℕ)) (us : List Unit) (row : ℕ) (o : Option (Vec ℕ Global)) → ((unit word : ℕ) → address_of us unit ≡ word → word ≢ 0 → KnowsAddress u unit word) → KnowsRow u row (key_at rows row) → length (key_at rows row) ≡ key_words
      → AgreesWith v rows us → IsReadUnit fits z u v row o → IsUnitOf fits z.libraries rows us row o
  unit_of u v rows us row None all knows long a r = dite (ℕ_discrete (address_of us (z.libraries + row)) 0) (λ e. e)
      (λ ne. absurd (ne (sym (r (address_of us (z.libraries + row)) (all (z.libraries + row) (address_of us (z.libraries + row)) refl ne)))))
  unit_of u v rows us row (Some items) all knows long a r =
      let q = r.1 in
      let e : address_of us (z.libraries + row) ≡ r.0 = (a.addresses (z.libraries + row) r.0 q.known).1 in record {
        built = λ y. q.there (sym e ∙ y);
        whole = q.whole;
        stored = λ at h. a.heap (r.0 - 1 + at) (get_or items.items at 0) (q.read at h) ∙ ap (λ (w : ℕ). get_or (heap_of us) (w - 1 + at) 0) (sym e);
        fitting = q.fitting (key_at rows row) long knows;
      }

  pub units_are : (u v : View) (rows : List (List ℕ)) (us : List Unit) (units : List (Option (Vec ℕ Global))) (count : ℕ) → ((unit word : ℕ) → address_of us unit ≡ word → word ≢ 0 → KnowsAddress u unit word)
      → ((row : ℕ) → row < count → KnowsRow u row (key_at rows row)) → All (λ key. length key ≡ key_words) rows → length rows ≡ count
      → AreReadUnits fits z u v count units → AgreesWith v rows us → AreUnitsOf fits z.libraries rows us units
  units_are u v rows us units count all knows wide long r a = record {
    long = r.long ∙ sym long;
    each = λ row h. let near : row < count = omega arith in
        unit_of u v rows us row (get_or units row None) all (knows row near) (wide row [] h) a (r.each row near);
  }

-- ---- what the pass knows that has taken in the notes of both

pub rows_known : (asked : List (List ℕ)) (room : ℕ) (x y : Me ℕ View) (note v w : View) (count : ℕ) → AreSound asked room x.0.rows.linked → y ≡ x → note ≡ row_note y.0 → length x.0.rows.linked ≡ count
    → KnowsAtLeast note v → KnowsAtLeast v w → (row : ℕ) → row < count → KnowsRow w row (key_at x.0.rows.linked row)
rows_known asked room x y note v w count s same is long a b row h =
    let key : List ℕ = key_at x.0.rows.linked row in
    KnowsRow-keeps note w row key (λ k c. b.words k (a.words k c)) (note_of_old x y note row count key same is long h refl (s.wide row [] (omega arith)))

pub units_known : (s note w : View) → note ≡ unit_note s → KnowsAtLeast note w → (unit word : ℕ) → address_of s.units.built unit ≡ word → word ≢ 0 → KnowsAddress w unit word
units_known s note w is t unit word e there = t.words (AddressWord unit word)
    (subst (λ (v : View). KnowsAddress v unit word) (sym is) (Contains-append_left (words_of_units 0 s.units.built) s.known (AddressWord unit word) (unit_contains 0 s.units.built unit word e there)))

pub sound_rows : (asked rows : List (List ℕ)) (keys : List (List ℕ)) (room : ℕ) → keys ≡ rows → AreSound asked room rows → AreSound asked room keys
sound_rows asked rows keys room e s = subst (λ (xs : List (List ℕ)). AreSound asked room xs) (sym e) s
