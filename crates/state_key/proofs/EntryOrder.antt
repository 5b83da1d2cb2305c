-- Entries that are sorted by their ids: what is in the list, and that there is one such list.
use Rattle.std.proofs.Common.{◌≡◌, ℕ, zero, suc, ◌+◌, ◌<◌, ◌≤◌, Bool, true, false, cond, nat_le, nat_lt, List, [], ◌∷◌, Option, Some, None, map, length, get_or, refl, sym, ap, ◌∙◌, subst, inl, inr, ◌⊎◌, arith, if◌then◌else◌}
use Rattle.std.specs.List.{AllPairs, Contains, count_by}
use Rattle.std.proofs.lemmas.Bool.Decides.{nat_tests}
use Rattle.std.proofs.lemmas.List.Elements.{Contains-get_or}
use Rattle.std.proofs.lemmas.Bool.{cases_lt}
use Rattle.std.specs.List.Sorted.{IsPermutation, IsNonDecreasingBy}
use Rattle.std.proofs.lemmas.List.Sorted.{IsPermutation-refl, IsPermutation-sym, IsPermutation-trans, IsPermutation-cons, IsPermutation-middle, Contains-permutation}
use Rattle.std.proofs.lemmas.List.Sums.{sum_by-cons}
use Rattle.state_model.specs.Lawful.{HaveDifferentIds}
use Rattle.state_model.specs.Canonical.{entry_rank, with_entry, in_order}
use Rattle.state_model.specs.declared.parts.Entry.{Entry}

pub map_from_each : {X Y : Type 0} (f : X → Y) (xs : List X) (ys : List Y) (d : X) → length ys ≡ length xs → ((k : ℕ) → k < length ys → get_or ys k (f d) ≡ f (get_or xs k d)) → ys ≡ map f xs
map_from_each f [] [] d long each = refl
map_from_each f [] (y ∷ ys) d long each = absurd (omega (arith, long))
map_from_each f (x ∷ xs) [] d long each = absurd (omega (arith, long))
map_from_each f (x ∷ xs) (y ∷ ys) d long each =
    let first : y ≡ f x = each 0 (omega arith) in
    let rest : ys ≡ map f xs = map_from_each f xs ys d (omega (arith, long)) (λ k within. each (suc k) (omega arith)) in
    cc

-- membership, by the head and the rest

pub here : {X : Type 0} (x : X) (xs : List X) → Contains (x ∷ xs) x
here x xs = (0, omega arith, refl)

pub later : {X : Type 0} (x y : X) (xs : List X) → Contains xs y → Contains (x ∷ xs) y
later x y xs c = (suc c.0, let within = c.1 in omega arith, c.2)

pub either : {X : Type 0} (x y : X) (xs : List X) → Contains (x ∷ xs) y → (x ≡ y) ⊎ Contains xs y
either x y xs c = by_place c.0 c.1 c.2
  where
    by_place : (k : ℕ) → k < length (x ∷ xs) → get_or (x ∷ xs) k y ≡ y → (x ≡ y) ⊎ Contains xs y
    by_place zero within e = inl e
    by_place (suc k) within e = inr (k, omega arith, e)

-- the sorted list holds what the list holds

perm_place : (b : Bool) (o x : Option Entry) (xs ys : List (Option Entry)) → IsPermutation (o ∷ xs) ys → IsPermutation (o ∷ x ∷ xs) (if b then o ∷ x ∷ xs else x ∷ ys)
perm_place true o x xs ys p = IsPermutation-refl (o ∷ x ∷ xs)
perm_place false o x xs ys p =
    IsPermutation-trans (o ∷ x ∷ xs) (x ∷ o ∷ xs) (x ∷ ys) (IsPermutation-middle (o ∷ []) x xs) (IsPermutation-cons x (o ∷ xs) ys p)

with_entry-perm : (o : Option Entry) (xs : List (Option Entry)) → IsPermutation (o ∷ xs) (with_entry o xs)
with_entry-perm o [] = IsPermutation-refl (o ∷ [])
with_entry-perm o (x ∷ xs) = perm_place (nat_le (entry_rank o) (entry_rank x)) o x xs (with_entry o xs) (with_entry-perm o xs)

pub in_order-perm : (xs : List (Option Entry)) → IsPermutation xs (in_order xs)
in_order-perm [] = IsPermutation-refl []
in_order-perm (x ∷ xs) =
    IsPermutation-trans (x ∷ xs) (x ∷ in_order xs) (with_entry x (in_order xs)) (IsPermutation-cons x xs (in_order xs) (in_order-perm xs)) (with_entry-perm x (in_order xs))

-- by ascending rank
abbrev pub Ascends : List (Option Entry) → Type 0
Ascends [] = Unit {0}
Ascends (x ∷ xs) = ((y : Option Entry) → Contains xs y → entry_rank x ≤ entry_rank y) × Ascends xs

le_place : (a b : ℕ) → nat_le a b ≡ true → a ≤ b
le_place a b e = grind (arith, nat_tests)

lt_place : (a b : ℕ) → nat_le a b ≡ false → b ≤ a
lt_place a b e = grind (arith, nat_tests)

ascends_place : (b : Bool) (o x : Option Entry) (xs ys : List (Option Entry)) → nat_le (entry_rank o) (entry_rank x) ≡ b → Ascends (x ∷ xs) → Ascends ys → ((y : Option Entry) → Contains ys y → (o ≡ y) ⊎ Contains xs y) → Ascends (if b then o ∷ x ∷ xs else x ∷ ys)
ascends_place true o x xs ys e up rest holds = (first, up)
  where
    below : entry_rank o ≤ entry_rank x
    below = le_place (entry_rank o) (entry_rank x) e

    of_either : (y : Option Entry) → (x ≡ y) ⊎ Contains xs y → entry_rank o ≤ entry_rank y
    of_either y (inl same) = subst (λ z. entry_rank o ≤ entry_rank z) same below
    of_either y (inr c) = let next = up.0 y c in omega (arith, below)

    first : (y : Option Entry) → Contains (x ∷ xs) y → entry_rank o ≤ entry_rank y
    first y c = of_either y (either x y xs c)
ascends_place false o x xs ys e up rest holds = (first, rest)
  where
    below : entry_rank x ≤ entry_rank o
    below = lt_place (entry_rank o) (entry_rank x) e

    of_either : (y : Option Entry) → (o ≡ y) ⊎ Contains xs y → entry_rank x ≤ entry_rank y
    of_either y (inl same) = subst (λ z. entry_rank x ≤ entry_rank z) same below
    of_either y (inr c) = up.0 y c

    first : (y : Option Entry) → Contains ys y → entry_rank x ≤ entry_rank y
    first y c = of_either y (holds y c)

none_in : (o y : Option Entry) → Contains [] y → entry_rank o ≤ entry_rank y
none_in o y c = let within = c.1 in absurd (omega arith)

Ascends-with_entry : (o : Option Entry) (xs : List (Option Entry)) → Ascends xs → Ascends (with_entry o xs)
Ascends-with_entry o [] up = (none_in o, tt)
Ascends-with_entry o (x ∷ xs) up =
    ascends_place (nat_le (entry_rank o) (entry_rank x)) o x xs (with_entry o xs) refl up (Ascends-with_entry o xs up.1)
    (λ y c. either o y xs (Contains-permutation (with_entry o xs) (o ∷ xs) y (IsPermutation-sym (o ∷ xs) (with_entry o xs) (with_entry-perm o xs)) c))

pub Ascends-in_order : (xs : List (Option Entry)) → Ascends (in_order xs)
Ascends-in_order [] = tt
Ascends-in_order (x ∷ xs) = Ascends-with_entry x (in_order xs) (Ascends-in_order xs)

pub Ascends-from_sorted : (xs : List (Option Entry)) → IsNonDecreasingBy entry_rank xs → Ascends xs
Ascends-from_sorted [] up = tt
Ascends-from_sorted (x ∷ xs) up = (
  λ y c. let within = c.1 in subst (λ z. entry_rank x ≤ entry_rank z) c.2 (up 0 (suc c.0) y (omega arith) (omega arith)),
  Ascends-from_sorted xs (λ i j d before within. up (suc i) (suc j) d (omega arith) (omega arith)),
)

pub sorted_from_Ascends : (xs : List (Option Entry)) → Ascends xs → (i j : ℕ) (d : Option Entry) → i < j → j < length xs → entry_rank (get_or xs i d) ≤ entry_rank (get_or xs j d)
sorted_from_Ascends [] up i j d before within = absurd (omega arith)
sorted_from_Ascends (x ∷ xs) up i zero d before within = absurd (omega arith)
sorted_from_Ascends (x ∷ xs) up zero (suc j) d before within = up.0 (get_or xs j d) (Contains-get_or xs j d (omega arith))
sorted_from_Ascends (x ∷ xs) up (suc i) (suc j) d before within = sorted_from_Ascends xs up.1 i j d (omega arith) (omega arith)

-- there is one such list

abbrev SameCounts : List (Option Entry) → List (Option Entry) → Type 0
SameCounts xs ys = (p : Option Entry → Bool) → count_by p xs ≡ count_by p ys

abbrev pub one : Bool → ℕ
one b = cond b 1 0

pub count-cons : (p : Option Entry → Bool) (x : Option Entry) (xs : List (Option Entry)) → count_by p (x ∷ xs) ≡ one (p x) + count_by p xs
count-cons p x xs = sum_by-cons (λ x. one (p x)) x xs

pub count_none : (p : Option Entry → Bool) (xs : List (Option Entry)) → ((y : Option Entry) → Contains xs y → p y ≡ false) → count_by p xs ≡ 0
count_none p [] h = refl
count_none p (x ∷ xs) h =
    count-cons p x xs ∙ ap (λ n. one (p x) + n) (count_none p xs (λ y c. h y (later x y xs c))) ∙ ap (λ b. one b + 0) (h x (here x xs))

below_test : (a b : ℕ) → a < b → nat_lt a b ≡ true
below_test a b h = grind (arith, nat_tests)

not_below_test : (a b : ℕ) → b ≤ a → nat_lt a b ≡ false
not_below_test a b h = grind (arith, nat_tests)

abbrev is_lower : Option Entry → Option Entry → Bool
is_lower x z = nat_lt (entry_rank z) (entry_rank x)

-- the first of the one is no higher than that of the other
first_no_higher : (x y : Option Entry) (xs ys : List (Option Entry)) → Ascends (x ∷ xs) → SameCounts (x ∷ xs) (y ∷ ys) → entry_rank x ≤ entry_rank y
first_no_higher x y xs ys up same = by_cases (cases_lt (entry_rank y) (entry_rank x))
  where
    of_either : (z : Option Entry) → (x ≡ z) ⊎ Contains xs z → entry_rank x ≤ entry_rank z
    of_either z (inl e) = subst (λ w. entry_rank x ≤ entry_rank w) e (omega arith)
    of_either z (inr c) = up.0 z c

    by_cases : (entry_rank y < entry_rank x) ⊎ (entry_rank x ≤ entry_rank y) → entry_rank x ≤ entry_rank y
    by_cases (inl p) =
        let none = count_none (is_lower x) (x ∷ xs) (λ z c. not_below_test (entry_rank z) (entry_rank x) (of_either z (either x z xs c))) in
        let some = count-cons (is_lower x) y ys ∙ ap (λ b. one b + count_by (is_lower x) ys) (below_test (entry_rank y) (entry_rank x) p) in
        absurd (omega (arith, same (is_lower x), none, some))
    by_cases (inr q) = q

-- one rank, one element
abbrev pub TellsByRank : List (Option Entry) → List (Option Entry) → Type 0
TellsByRank xs ys = (x y : Option Entry) → Contains xs x → Contains ys y → entry_rank x ≡ entry_rank y → x ≡ y

all_pass : Option Entry → Bool
all_pass z = true

sym_counts : (xs ys : List (Option Entry)) → SameCounts xs ys → SameCounts ys xs
sym_counts xs ys same p = sym (same p)

cancel : (p : Option Entry → Bool) (x y : Option Entry) (xs ys : List (Option Entry)) → x ≡ y → count_by p (x ∷ xs) ≡ count_by p (y ∷ ys) → count_by p xs ≡ count_by p ys
cancel p x y xs ys e same =
    let first : one (p x) ≡ one (p y) = ap (λ z. one (p z)) e in
    omega (arith, same, count-cons p x xs, count-cons p y ys, first)

pub same_ascending : (xs ys : List (Option Entry)) → Ascends xs → Ascends ys → SameCounts xs ys → TellsByRank xs ys → xs ≡ ys
unfolding all_pass
same_ascending [] [] up vp same tells = refl
same_ascending [] (y ∷ ys) up vp same tells = absurd (omega (arith, same all_pass, count-cons all_pass y ys))
same_ascending (x ∷ xs) [] up vp same tells = absurd (omega (arith, same all_pass, count-cons all_pass x xs))
same_ascending (x ∷ xs) (y ∷ ys) up vp same tells =
    let low = first_no_higher x y xs ys up same in
    let high = first_no_higher y x ys xs vp (sym_counts (x ∷ xs) (y ∷ ys) same) in
    let first : x ≡ y = tells x y (here x xs) (here y ys) (omega (arith, low, high)) in
    let rest : xs ≡ ys = same_ascending xs ys up.1 vp.1 (λ p. cancel p x y xs ys first (same p)) (λ a b c d. tells a b (later x a xs c) (later y b ys d)) in
    cc

-- distinct entries

pub AllPairs-tail : (x : Option Entry) (xs : List (Option Entry)) → AllPairs HaveDifferentIds (x ∷ xs) → AllPairs HaveDifferentIds xs
AllPairs-tail x xs h i j d before within = h (suc i) (suc j) d (omega arith) (omega arith)

pub different_later : (x y : Option Entry) (xs : List (Option Entry)) → AllPairs HaveDifferentIds (x ∷ xs) → Contains xs y → HaveDifferentIds x y
different_later x y xs h c = let within = c.1 in subst (HaveDifferentIds x) c.2 (h 0 (suc c.0) y (omega arith) (omega arith))

turned : (x y : Option Entry) → HaveDifferentIds x y → HaveDifferentIds y x
turned None None h = tt
turned None (Some f) h = tt
turned (Some e) None h = tt
turned (Some e) (Some f) h = λ same. h (sym same)

by_heads : (e f : Entry) (x : Option Entry) (xs : List (Option Entry)) → AllPairs HaveDifferentIds (x ∷ xs) → e.id ≡ f.id → (Contains xs (Some e) → Contains xs (Some f) → e ≡ f) → (x ≡ Some e) ⊎ Contains xs (Some e) → (x ≡ Some f) ⊎ Contains xs (Some f) → e ≡ f
by_heads e f x xs h same rest (inl a) (inl b) = cc
by_heads e f x xs h same rest (inl a) (inr d) = absurd ((subst (λ z. HaveDifferentIds z (Some f)) a (different_later x (Some f) xs h d)) same)
by_heads e f x xs h same rest (inr c) (inl b) = absurd ((subst (λ z. HaveDifferentIds z (Some e)) b (different_later x (Some e) xs h c)) (sym same))
by_heads e f x xs h same rest (inr c) (inr d) = rest c d

-- among distinct entries an id is of one
pub one_by_id : (e f : Entry) (xs : List (Option Entry)) → AllPairs HaveDifferentIds xs → Contains xs (Some e) → Contains xs (Some f) → e.id ≡ f.id → e ≡ f
one_by_id e f [] h c d same = let within = c.1 in absurd (omega arith)
one_by_id e f (x ∷ xs) h c d same =
    by_heads e f x xs h same (λ p q. one_by_id e f xs (AllPairs-tail x xs h) p q same) (either x (Some e) xs c) (either x (Some f) xs d)
