-- The canonical entries are the declared ones, in order.
use Rattle.std.proofs.Common.{◌≡◌, ◌==◌, ℕ, zero, suc, ◌+◌, ◌<◌, ◌≤◌, ◌||◌, Bool, true, false, List, [], ◌∷◌, Option, Some, None, IfSome, map, length, get_or, refl, sym, ap, ◌∙◌, subst, inl, inr, ◌⊎◌, arith, if◌then◌else◌}
use Rattle.std.specs.List.{AllPairs, Contains, count_by}
use Rattle.std.specs.List.Sorted.{IsPermutation, IsNonDecreasingBy}
use Rattle.std.specs.Option.{option_map_or}
use Rattle.std.proofs.lemmas.Bool.Decides.{nat_tests}
use Rattle.std.proofs.lemmas.List.{length-map}
use Rattle.std.proofs.lemmas.List.Elements.{Contains-get_or, All-contains}
use Rattle.std.proofs.lemmas.List.Sorted.{IsPermutation-sym, Contains-permutation, length_permutation, sum_by-IsPermutation}
use Rattle.state_model.specs.Lawful.{IsEntry, HaveDifferentIds, IsSpecValues}
use Rattle.state_model.specs.Canonical.{Precedes, AreInOrder, is_declared, if_declared, entry_rank, in_order, KeepsDeclared, canonical_entries}
use Rattle.state_model.specs.declared.parts.Entry.{Entry}
use Rattle.state_model.specs.declared.parts.SpecValues.{SpecValues}
use Rattle.state_key.proofs.EntryOrder.{here, later, either, in_order-perm, Ascends-in_order, Ascends-from_sorted, sorted_from_Ascends, same_ascending, TellsByRank, one, count-cons, count_none, AllPairs-tail, different_later, one_by_id}

or_true : (a b : Bool) → a || b ≡ true → (a ≡ true) ⊎ (b ≡ true)
or_true true b e = inl refl
or_true false b e = inr e

pub true_or : (a b : Bool) → (a ≡ true) ⊎ (b ≡ true) → a || b ≡ true
true_or true b e = refl
true_or false b (inl e) = cc
true_or false b (inr e) = e

pub number_same : (a b : ℕ) → (a == b) ≡ true → a ≡ b
number_same a b e = grind (arith, nat_tests)

pub same_number : (a b : ℕ) → a ≡ b → (a == b) ≡ true
same_number a b e = grind (arith, nat_tests)

by_either : (x id : ℕ) (ids : List ℕ) → (is_declared ids id ≡ true → Contains ids id) → ((x == id) ≡ true) ⊎ (is_declared ids id ≡ true) → Contains (x ∷ ids) id
by_either x id ids rest (inl e) = subst (Contains (x ∷ ids)) (number_same x id e) (here x ids)
by_either x id ids rest (inr e) = later x id ids (rest e)

pub declared_from : (ids : List ℕ) (id : ℕ) → is_declared ids id ≡ true → Contains ids id
declared_from [] id e = cc
declared_from (x ∷ ids) id e = by_either x id ids (λ r. declared_from ids id r) (or_true (x == id) (is_declared ids id) e)

to_either : (x id : ℕ) (ids : List ℕ) → (Contains ids id → is_declared ids id ≡ true) → (x ≡ id) ⊎ Contains ids id → ((x == id) ≡ true) ⊎ (is_declared ids id ≡ true)
to_either x id ids rest (inl e) = inl (same_number x id e)
to_either x id ids rest (inr d) = inr (rest d)

pub declared_to : (ids : List ℕ) (id : ℕ) → Contains ids id → is_declared ids id ≡ true
declared_to [] id c = let within = c.1 in absurd (omega arith)
declared_to (x ∷ ids) id c = true_or (x == id) (is_declared ids id) (to_either x id ids (λ d. declared_to ids id d) (either x id ids c))

picked : (b : Bool) (f e : Entry) → (if b then Some f else None) ≡ Some e → (b ≡ true) × (f ≡ e)
picked true f e h = (refl, cc)
picked false f e h = cc

head_kept : (ids : List ℕ) (x : Option Entry) (e : Entry) → if_declared ids x ≡ Some e → (x ≡ Some e) × (is_declared ids e.id ≡ true)
head_kept ids None e h = cc
head_kept ids (Some f) e h =
    let p = picked (is_declared ids f.id) f e h in
    (ap (λ z. Some z) p.1, ap (λ (z : Entry). is_declared ids z.id) (sym p.1) ∙ p.0)

from_either : (ids : List ℕ) (e : Entry) (x : Option Entry) (es : List (Option Entry)) → (Contains (map (if_declared ids) es) (Some e) → Contains es (Some e) × (is_declared ids e.id ≡ true)) → (if_declared ids x ≡ Some e) ⊎ Contains (map (if_declared ids) es) (Some e) → Contains (x ∷ es) (Some e) × (is_declared ids e.id ≡ true)
from_either ids e x es rest (inl h) = let p = head_kept ids x e h in (subst (Contains (x ∷ es)) p.0 (here x es), p.1)
from_either ids e x es rest (inr d) = let r = rest d in (later x (Some e) es r.0, r.1)

kept_from : (ids : List ℕ) (e : Entry) (es : List (Option Entry)) → Contains (map (if_declared ids) es) (Some e) → Contains es (Some e) × (is_declared ids e.id ≡ true)
kept_from ids e [] c = let within = c.1 in absurd (omega arith)
kept_from ids e (x ∷ es) c = from_either ids e x es (λ d. kept_from ids e es d) (either (if_declared ids x) (Some e) (map (if_declared ids) es) c)

to_map : (ids : List ℕ) (e : Entry) (x : Option Entry) (es : List (Option Entry)) → is_declared ids e.id ≡ true → (Contains es (Some e) → Contains (map (if_declared ids) es) (Some e)) → (x ≡ Some e) ⊎ Contains es (Some e) → Contains (if_declared ids x ∷ map (if_declared ids) es) (Some e)
to_map ids e x es d rest (inl h) =
    let stays : if_declared ids x ≡ Some e = ap (if_declared ids) h ∙ ap (λ b. if b then Some e else None) d in
    subst (Contains (if_declared ids x ∷ map (if_declared ids) es)) stays (here (if_declared ids x) (map (if_declared ids) es))
to_map ids e x es d rest (inr c) = later (if_declared ids x) (Some e) (map (if_declared ids) es) (rest c)

kept_to : (ids : List ℕ) (e : Entry) (es : List (Option Entry)) → Contains es (Some e) → is_declared ids e.id ≡ true → Contains (map (if_declared ids) es) (Some e)
kept_to ids e [] c d = let within = c.1 in absurd (omega arith)
kept_to ids e (x ∷ es) c d = to_map ids e x es d (λ r. kept_to ids e es r d) (either x (Some e) es c)

-- what stays is distinct

map_either : (ids : List ℕ) (y x : Option Entry) (es : List (Option Entry)) → (Contains (map (if_declared ids) es) y → (z : Option Entry) × (Contains es z × (if_declared ids z ≡ y))) → (if_declared ids x ≡ y) ⊎ Contains (map (if_declared ids) es) y → (z : Option Entry) × (Contains (x ∷ es) z × (if_declared ids z ≡ y))
map_either ids y x es rest (inl h) = (x, (here x es, h))
map_either ids y x es rest (inr d) = let r = rest d in (r.0, (later x r.0 es r.1.0, r.1.1))

map_from : (ids : List ℕ) (y : Option Entry) (es : List (Option Entry)) → Contains (map (if_declared ids) es) y → (z : Option Entry) × (Contains es z × (if_declared ids z ≡ y))
map_from ids y [] c = let within = c.1 in absurd (omega arith)
map_from ids y (x ∷ es) c = map_either ids y x es (λ d. map_from ids y es d) (either (if_declared ids x) y (map (if_declared ids) es) c)

different_picked : (a b : Bool) (e f : Entry) → HaveDifferentIds (Some e) (Some f) → HaveDifferentIds (if a then Some e else None) (if b then Some f else None)
different_picked true true e f h = h
different_picked true false e f h = tt
different_picked false b e f h = tt

keeps_different : (ids : List ℕ) (x z : Option Entry) → HaveDifferentIds x z → HaveDifferentIds (if_declared ids x) (if_declared ids z)
keeps_different ids None z h = tt
keeps_different ids (Some e) None h = none_last (is_declared ids e.id)
  where
    none_last : (b : Bool) → HaveDifferentIds (if b then Some e else None) None
    none_last true = tt
    none_last false = tt
keeps_different ids (Some e) (Some f) h = different_picked (is_declared ids e.id) (is_declared ids f.id) e f h

AllPairs-cons : (x : Option Entry) (xs : List (Option Entry)) → ((y : Option Entry) → Contains xs y → HaveDifferentIds x y) → AllPairs HaveDifferentIds xs → AllPairs HaveDifferentIds (x ∷ xs)
AllPairs-cons x xs first rest i zero d before within = absurd (omega arith)
AllPairs-cons x xs first rest zero (suc j) d before within = first (get_or xs j d) (Contains-get_or xs j d (omega arith))
AllPairs-cons x xs first rest (suc i) (suc j) d before within = rest i j d (omega arith) (omega arith)

distinct_map : (ids : List ℕ) (es : List (Option Entry)) → AllPairs HaveDifferentIds es → AllPairs HaveDifferentIds (map (if_declared ids) es)
distinct_map ids [] h = h
distinct_map ids (x ∷ es) h =
    AllPairs-cons (if_declared ids x) (map (if_declared ids) es)
    (λ y c. let m = map_from ids y es c in subst (HaveDifferentIds (if_declared ids x)) m.1.1 (keeps_different ids x m.0 (different_later x m.0 es h m.1.0)))
    (distinct_map ids es (AllPairs-tail x es h))

-- an id is there once

abbrev has_id : ℕ → Option Entry → Bool
has_id id o = option_map_or (λ (e : Entry). e.id == id) o false

not_same : (a b : ℕ) → (a ≡ b → ⊥) → (a == b) ≡ false
not_same a b h = grind (arith, nat_tests)

other_id : (id : ℕ) (x y : Option Entry) → has_id id x ≡ true → HaveDifferentIds x y → has_id id y ≡ false
other_id id None y e h = cc
other_id id (Some a) None e h = refl
other_id id (Some a) (Some b) e h = not_same b.id id (λ same. h (number_same a.id id e ∙ sym same))

once_more : (id : ℕ) (x : Option Entry) (xs : List (Option Entry)) → AllPairs HaveDifferentIds (x ∷ xs) → count_by (has_id id) xs ≤ 1 → (b : Bool) → has_id id x ≡ b → count_by (has_id id) (x ∷ xs) ≤ 1
once_more id x xs h rest true e =
    let none = count_none (has_id id) xs (λ y c. other_id id x y e (different_later x y xs h c)) in
    let all = count-cons (has_id id) x xs ∙ ap (λ b. one b + count_by (has_id id) xs) e in
    omega (arith, none, all)
once_more id x xs h rest false e =
    let all = count-cons (has_id id) x xs ∙ ap (λ b. one b + count_by (has_id id) xs) e in
    omega (arith, rest, all)

at_most_once : (id : ℕ) (xs : List (Option Entry)) → AllPairs HaveDifferentIds xs → count_by (has_id id) xs ≤ 1
at_most_once id [] h = omega arith
at_most_once id (x ∷ xs) h =
    once_more id x xs h (at_most_once id xs (AllPairs-tail x xs h)) (has_id id x) refl

one_at : (p : Option Entry → Bool) (xs : List (Option Entry)) (j : ℕ) (d : Option Entry) → j < length xs → p (get_or xs j d) ≡ true → 1 ≤ count_by p xs
one_at p [] j d within e = absurd (omega arith)
one_at p (x ∷ xs) zero d within e = let all = count-cons p x xs ∙ ap (λ b. one b + count_by p xs) e in omega (arith, all)
one_at p (x ∷ xs) (suc j) d within e = let rest = one_at p xs j d (omega arith) e in omega (arith, rest, count-cons p x xs)

two_at : (p : Option Entry → Bool) (xs : List (Option Entry)) (i j : ℕ) (d : Option Entry) → i < j → j < length xs → p (get_or xs i d) ≡ true → p (get_or xs j d) ≡ true → 2 ≤ count_by p xs
two_at p [] i j d before within e f = absurd (omega arith)
two_at p (x ∷ xs) i zero d before within e f = absurd (omega arith)
two_at p (x ∷ xs) zero (suc j) d before within e f =
    let rest = one_at p xs j d (omega arith) f in
    let all = count-cons p x xs ∙ ap (λ b. one b + count_by p xs) e in
    omega (arith, rest, all)
two_at p (x ∷ xs) (suc i) (suc j) d before within e f =
    let rest = two_at p xs i j d (omega arith) (omega arith) e f in omega (arith, rest, count-cons p x xs)

-- the entries that stay, before they are sorted

module _ (ids : List ℕ) (v : SpecValues) (lawful : IsSpecValues v) where
  abbrev declared : List (Option Entry)
  declared = map (if_declared ids) v.entries

  word_of : (e : Entry) → Contains declared (Some e) → IsEntry e
  word_of e c = All-contains (λ o. IfSome o IsEntry) v.entries (Some e) lawful.words (kept_from ids e v.entries c).0

  distinct : AllPairs HaveDifferentIds declared
  distinct = distinct_map ids v.entries lawful.distinct

  pub tells : (xs : List (Option Entry)) → ((y : Option Entry) → Contains xs y → Contains declared y) → (ys : List (Option Entry)) → ((y : Option Entry) → Contains ys y → Contains declared y) → TellsByRank xs ys
  tells xs from ys from' None None c d e = refl
  tells xs from ys from' None (Some f) c d e = let w = word_of f (from' (Some f) d) in absurd (omega (arith, e, w.id))
  tells xs from ys from' (Some a) None c d e = let w = word_of a (from (Some a) c) in absurd (omega (arith, e, w.id))
  tells xs from ys from' (Some a) (Some f) c d e =
      ap (λ z. Some z) (one_by_id a f declared distinct (from (Some a) c) (from' (Some f) d) e)

  -- a sorted list with the same entries is that one
  pub sorted_is_in_order : (xs : List (Option Entry)) → IsPermutation declared xs → IsNonDecreasingBy entry_rank xs → xs ≡ in_order declared
  sorted_is_in_order xs perm up =
      same_ascending xs (in_order declared) (Ascends-from_sorted xs up) (Ascends-in_order declared)
      (λ p. sum_by-IsPermutation (λ x. one (p x)) declared xs perm ∙ sym (sum_by-IsPermutation (λ x. one (p x)) declared (in_order declared) (in_order-perm declared)))
      (tells xs (λ y c. Contains-permutation xs declared y (IsPermutation-sym declared xs perm) c) (in_order declared) back)
    where
      back : (y : Option Entry) → Contains (in_order declared) y → Contains declared y
      back y c = Contains-permutation (in_order declared) declared y (IsPermutation-sym declared (in_order declared) (in_order-perm declared)) c

  from_sorted : (y : Option Entry) → Contains (in_order declared) y → Contains declared y
  from_sorted y c = Contains-permutation (in_order declared) declared y (IsPermutation-sym declared (in_order declared) (in_order-perm declared)) c

  once_sorted : (id : ℕ) → count_by (has_id id) (in_order declared) ≤ 1
  once_sorted id =
      let same = sum_by-IsPermutation (λ x. one (has_id id x)) declared (in_order declared) (in_order-perm declared) in
      omega (arith, same, at_most_once id declared distinct)

  ordered_pair : (a b : Option Entry) → Contains (in_order declared) b → entry_rank a ≤ entry_rank b → ((e f : Entry) → a ≡ Some e → b ≡ Some f → e.id ≡ f.id → ⊥) → Precedes a b
  ordered_pair a None c le apart = tt
  ordered_pair None (Some f) c le apart = let w = word_of f (from_sorted (Some f) c) in absurd (omega (arith, w.id))
  ordered_pair (Some e) (Some f) c le apart = let differ = apart e f refl refl in grind (arith, differ)

  pub in_order_is_ordered : AreInOrder (in_order declared)
  in_order_is_ordered i j d before within =
      ordered_pair (get_or (in_order declared) i d) (get_or (in_order declared) j d) (Contains-get_or (in_order declared) j d within)
      (sorted_from_Ascends (in_order declared) (Ascends-in_order declared) i j d before within)
      (λ e f a b same. twice e f a b same)
    where
      twice : (e f : Entry) → get_or (in_order declared) i d ≡ Some e → get_or (in_order declared) j d ≡ Some f → e.id ≡ f.id → ⊥
      twice e f a b same =
          let left = ap (has_id f.id) a ∙ same_number e.id f.id same in
          let right = ap (has_id f.id) b ∙ same_number f.id f.id refl in
          omega (arith, two_at (has_id f.id) (in_order declared) i j d before within left right, once_sorted f.id)

  pub keeps_declared : KeepsDeclared ids v.entries (canonical_entries ids v).entries
  unfolding canonical_entries
  keeps_declared = record {
    kept = λ e. (
      λ c. let k = kept_from ids e v.entries (from_sorted (Some e) c) in (k.0, declared_from ids e.id k.1),
      λ c. Contains-permutation declared (in_order declared) (Some e) (in_order-perm declared) (kept_to ids e v.entries c.0 (declared_to ids e.id c.1)),
    );
    in_order = in_order_is_ordered;
    same_count = length_permutation declared (in_order declared) (in_order-perm declared) ∙ length-map v.entries (if_declared ids);
  }
