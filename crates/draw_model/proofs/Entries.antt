-- The canonical form of specialization entries says of each declared id what the entries said.
use Rattle.std.proofs.Common.{◌≡◌, ℕ, ◌<◌, Bool, true, false, cond, List, [], ◌∷◌, map, length, refl, ap, sym, ◌∙◌, arith}
use Rattle.std.specs.Prelude.{Option, None, Some, ◌==◌, nat_le, slice_index_or, suc}
use Rattle.std.specs.List.{AllPairs}
use Rattle.std.proofs.lemmas.Bool.Decides.{nat_tests}
use Rattle.state_model.specs.declared.parts.Entry.{Entry}
use Rattle.state_model.specs.declared.parts.SpecValues.{SpecValues}
use Rattle.state_model.specs.Lawful.{HaveDifferentIds}
use Rattle.state_model.specs.Canonical.{is_declared, if_declared, entry_rank, with_entry, in_order, canonical_entries}
use Rattle.stage_model.specs.Start.{entry_word}

pub same_number : (a b : ℕ) → (a == b) ≡ true → a ≡ b
same_number a b h = grind (arith, nat_tests)

-- ---- the declared ones stay

declared_same : (ids : List ℕ) (a b : ℕ) → a ≡ b → is_declared ids a ≡ is_declared ids b
declared_same ids a b e = ap (is_declared ids) e

undeclared : (ids : List ℕ) (e : Entry) (o : Option ℕ) (id : ℕ) → is_declared ids id ≡ true → is_declared ids e.id ≡ false → (same : Bool) → (e.id == id) ≡ same →
    o ≡ cond same (Some e.value) o
undeclared ids e o id here not_here true h = let k = declared_same ids e.id id (same_number e.id id h) in absurd (cc)
undeclared ids e o id here not_here false h = refl

kept_entry : (ids : List ℕ) (e : Entry) (ys xs : List (Option Entry)) (id : ℕ) → is_declared ids id ≡ true → entry_word ys id ≡ entry_word xs id →
    (declared : Bool) → is_declared ids e.id ≡ declared → entry_word (cond declared (Some e) None ∷ ys) id ≡ entry_word (Some e ∷ xs) id
kept_entry ids e ys xs id here same true h = ap (cond (e.id == id) (Some e.value)) same
kept_entry ids e ys xs id here same false h = same ∙ undeclared ids e (entry_word xs id) id here h (e.id == id) refl

kept_word : (ids : List ℕ) (xs : List (Option Entry)) (id : ℕ) → is_declared ids id ≡ true → entry_word (map (if_declared ids) xs) id ≡ entry_word xs id
kept_word ids [] id here = refl
kept_word ids (None ∷ xs) id here = kept_word ids xs id here
kept_word ids (Some e ∷ xs) id here =
    kept_entry ids e (map (if_declared ids) xs) xs id here (kept_word ids xs id here) (is_declared ids e.id) refl

-- ---- no two have one id

abbrev IsApart : Option Entry → List (Option Entry) → Type 0
IsApart o [] = Unit {0}
IsApart o (x ∷ xs) = HaveDifferentIds o x × IsApart o xs

abbrev AreDistinct : List (Option Entry) → Type 0
AreDistinct [] = Unit {0}
AreDistinct (x ∷ xs) = IsApart x xs × AreDistinct xs

apart_from : (o : Option Entry) (xs : List (Option Entry)) → ((j : ℕ) (d : Option Entry) → j < length xs → HaveDifferentIds o (slice_index_or xs j d)) → IsApart o xs
apart_from o [] h = tt
apart_from o (x ∷ xs) h = (h 0 x (omega arith), apart_from o xs (λ j d within. h (suc j) d (omega (arith, within))))

pub distinct_from : (xs : List (Option Entry)) → AllPairs HaveDifferentIds xs → AreDistinct xs
distinct_from [] h = tt
distinct_from (x ∷ xs) h = (
  apart_from x xs (λ j d within. h 0 (suc j) d (omega arith) (omega (arith, within))),
  distinct_from xs (λ i j d before within. h (suc i) (suc j) d (omega (arith, before)) (omega (arith, within))),
)

-- what is dropped has no id
none_apart : (o : Option Entry) → HaveDifferentIds o None
none_apart None = tt
none_apart (Some e) = tt

dropped_apart : (o : Option Entry) (e : Entry) (declared : Bool) → HaveDifferentIds o (Some e) → HaveDifferentIds o (cond declared (Some e) None)
dropped_apart o e true h = h
dropped_apart o e false h = none_apart o

kept_apart : (ids : List ℕ) (o : Option Entry) (xs : List (Option Entry)) → IsApart o xs → IsApart o (map (if_declared ids) xs)
kept_apart ids o [] h = tt
kept_apart ids o (None ∷ xs) h = (h.0, kept_apart ids o xs h.1)
kept_apart ids o (Some e ∷ xs) h = (dropped_apart o e (is_declared ids e.id) h.0, kept_apart ids o xs h.1)

none_apart_all : (xs : List (Option Entry)) → IsApart None xs
none_apart_all [] = tt
none_apart_all (x ∷ xs) = (tt, none_apart_all xs)

front_apart : (e : Entry) (xs : List (Option Entry)) (declared : Bool) → IsApart (Some e) xs → IsApart (cond declared (Some e) None) xs
front_apart e xs true h = h
front_apart e xs false h = none_apart_all xs

kept_distinct : (ids : List ℕ) (xs : List (Option Entry)) → AreDistinct xs → AreDistinct (map (if_declared ids) xs)
kept_distinct ids [] h = tt
kept_distinct ids (None ∷ xs) h = (none_apart_all (map (if_declared ids) xs), kept_distinct ids xs h.1)
kept_distinct ids (Some e ∷ xs) h =
    (front_apart e (map (if_declared ids) xs) (is_declared ids e.id) (kept_apart ids (Some e) xs h.0), kept_distinct ids xs h.1)

-- ---- their order says nothing

with_entry_apart : (o p : Option Entry) (xs : List (Option Entry)) → HaveDifferentIds o p → IsApart o xs → IsApart o (with_entry p xs)
with_entry_apart o p [] h hs = (h, tt)
with_entry_apart o p (x ∷ xs) h hs = by_test (with_entry_apart o p xs h hs.1) (nat_le (entry_rank p) (entry_rank x))
  where
    by_test : IsApart o (with_entry p xs) → (first : Bool) → IsApart o (cond first (p ∷ x ∷ xs) (x ∷ with_entry p xs))
    by_test later true = (h, hs)
    by_test later false = (hs.0, later)

in_order_apart : (o : Option Entry) (xs : List (Option Entry)) → IsApart o xs → IsApart o (in_order xs)
in_order_apart o [] h = tt
in_order_apart o (x ∷ xs) h = with_entry_apart o x (in_order xs) h.0 (in_order_apart o xs h.1)

exchanged_words : (e f : Entry) (o : Option ℕ) (id : ℕ) → (e.id ≡ f.id → ⊥) → (first second : Bool) → (e.id == id) ≡ first → (f.id == id) ≡ second →
    cond second (Some f.value) (cond first (Some e.value) o) ≡ cond first (Some e.value) (cond second (Some f.value) o)
exchanged_words e f o id apart true true h k = absurd (apart (same_number e.id id h ∙ sym (same_number f.id id k)))
exchanged_words e f o id apart true false h k = refl
exchanged_words e f o id apart false true h k = refl
exchanged_words e f o id apart false false h k = refl

exchanged : (o x : Option Entry) (xs : List (Option Entry)) (id : ℕ) → HaveDifferentIds o x → entry_word (x ∷ o ∷ xs) id ≡ entry_word (o ∷ x ∷ xs) id
exchanged None None xs id h = refl
exchanged None (Some f) xs id h = refl
exchanged (Some e) None xs id h = refl
exchanged (Some e) (Some f) xs id h = exchanged_words e f (entry_word xs id) id h (e.id == id) (f.id == id) refl refl

behind : (x : Option Entry) (ys xs : List (Option Entry)) (id : ℕ) → entry_word ys id ≡ entry_word xs id → entry_word (x ∷ ys) id ≡ entry_word (x ∷ xs) id
behind None ys xs id h = h
behind (Some e) ys xs id h = ap (cond (e.id == id) (Some e.value)) h

with_entry_word : (o : Option Entry) (xs : List (Option Entry)) (id : ℕ) → IsApart o xs → entry_word (with_entry o xs) id ≡ entry_word (o ∷ xs) id
with_entry_word o [] id h = refl
with_entry_word o (x ∷ xs) id h = by_test (with_entry_word o xs id h.1) (nat_le (entry_rank o) (entry_rank x))
  where
    by_test : entry_word (with_entry o xs) id ≡ entry_word (o ∷ xs) id → (first : Bool) →
        entry_word (cond first (o ∷ x ∷ xs) (x ∷ with_entry o xs)) id ≡ entry_word (o ∷ x ∷ xs) id
    by_test later true = refl
    by_test later false = behind x (with_entry o xs) (o ∷ xs) id later ∙ exchanged o x xs id h.0

ordered_word : (xs : List (Option Entry)) (id : ℕ) → AreDistinct xs → entry_word (in_order xs) id ≡ entry_word xs id
ordered_word [] id h = refl
ordered_word (x ∷ xs) id h =
    with_entry_word x (in_order xs) id (in_order_apart x xs h.0) ∙ behind x (in_order xs) xs id (ordered_word xs id h.1)

-- for a declared id, the canonical entries have the word of the entries
pub canonical_word : (ids : List ℕ) (v : SpecValues) (id : ℕ) → AllPairs HaveDifferentIds v.entries → is_declared ids id ≡ true →
    entry_word (canonical_entries ids v).entries id ≡ entry_word v.entries id
unfolding canonical_entries
canonical_word ids v id distinct here =
    ordered_word (map (if_declared ids) v.entries) id (kept_distinct ids v.entries (distinct_from v.entries distinct)) ∙ kept_word ids v.entries id here
