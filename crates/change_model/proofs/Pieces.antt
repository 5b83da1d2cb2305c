-- A list that is put together from pieces, one for each of consecutive numbers.
use Rattle.std.proofs.Common.{◌≡◌, ℕ, zero, suc, ◌+◌, ◌<◌, ◌≤◌, List, [], ◌∷◌, ◌++◌, length, take, slice_get, refl, ap, sym, ◌∙◌, subst, arith, append_assoc, length-append, Some}
use Rattle.std.specs.List.{flat_map, range_with_len}

-- ---- elements of two lists, one behind the other

pub get_front : {X : Type 0} (xs ys : List X) (place : ℕ) → place < length xs → slice_get (xs ++ ys) place ≡ slice_get xs place
get_front [] ys place within = absurd (omega (arith, within))
get_front (x ∷ xs) ys zero within = refl
get_front (x ∷ xs) ys (suc place) within = get_front xs ys place (omega (arith, within))

pub get_behind : {X : Type 0} (xs ys : List X) (place : ℕ) → slice_get (xs ++ ys) (length xs + place) ≡ slice_get ys place
get_behind [] ys place = ap (slice_get ys) {x = 0 + place} {y = place} (omega arith)
get_behind (x ∷ xs) ys place = ap (slice_get (x ∷ (xs ++ ys))) {x = suc (length xs) + place} {y = suc (length xs + place)} (omega arith) ∙ get_behind xs ys place

pub get_taken : {X : Type 0} (n : ℕ) (xs : List X) (place : ℕ) → place < n → slice_get (take n xs) place ≡ slice_get xs place
get_taken zero xs place less = absurd (omega (arith, less))
get_taken (suc n) [] place less = refl
get_taken (suc n) (x ∷ xs) zero less = refl
get_taken (suc n) (x ∷ xs) (suc place) less = get_taken n xs place (omega (arith, less))

pub got_within : {X : Type 0} (xs : List X) (place : ℕ) (x : X) → slice_get xs place ≡ Some x → place < length xs
got_within [] place x is = cc
got_within (y ∷ xs) zero x is = omega arith
got_within (y ∷ xs) (suc place) x is = let rest = got_within xs place x is in omega (arith, rest)

-- ---- pieces

abbrev pub pieces : {X : Type 0} → (ℕ → List X) → (from n : ℕ) → List X
pieces f from n = flat_map f (range_with_len from n)

-- the pieces of the first m numbers, and those of the n numbers behind
pub pieces_behind : {X : Type 0} (f : ℕ → List X) (m n from : ℕ) → pieces f from (m + n) ≡ pieces f from m ++ pieces f (from + m) n
pieces_behind f zero n from = ap (λ (k : ℕ). pieces f from k) {x = 0 + n} {y = n} (omega arith) ∙ ap (λ (k : ℕ). pieces f k n) {x = from} {y = from + 0} (omega arith)
pieces_behind f (suc m) n from =
    ap (λ (k : ℕ). pieces f from k) {x = suc m + n} {y = suc (m + n)} (omega arith) ∙ ap (λ l. f from ++ l) (pieces_behind f m n (from + 1))
    ∙ sym (append_assoc (f from) (pieces f (from + 1) m) (pieces f (from + 1 + m) n))
    ∙ ap (λ (k : ℕ). pieces f from (suc m) ++ pieces f k n) {x = from + 1 + m} {y = from + suc m} (omega arith)

-- one more
pub pieces_more : {X : Type 0} (f : ℕ → List X) (n from : ℕ) → length (pieces f from (suc n)) ≡ length (pieces f from n) + length (f (from + n))
pieces_more f zero from =
    length-append (f from) [] ∙ ap (λ (k : ℕ). length (f k) + 0) {x = from} {y = from + 0} (omega arith) ∙ flip (length (f (from + 0)))
  where
    flip : (a : ℕ) → a + 0 ≡ 0 + a
    flip a = omega arith
pieces_more f (suc n) from =
    length-append (f from) (pieces f (from + 1) (suc n)) ∙ ap (λ (k : ℕ). length (f from) + k) (pieces_more f n (from + 1))
    ∙ grouped (length (f from)) (length (pieces f (from + 1) n)) (length (f (from + 1 + n)))
    ∙ ap (λ (k : ℕ). k + length (f (from + 1 + n))) (sym (length-append (f from) (pieces f (from + 1) n)))
    ∙ ap (λ (k : ℕ). length (pieces f from (suc n)) + length (f k)) {x = from + 1 + n} {y = from + suc n} (omega arith)
  where
    grouped : (a b c : ℕ) → a + (b + c) ≡ a + b + c
    grouped a b c = omega arith

-- fewer numbers have no more
pub fewer_pieces : {X : Type 0} (f : ℕ → List X) (m n from : ℕ) → m ≤ n → length (pieces f from m) ≤ length (pieces f from n)
fewer_pieces f zero n from least = omega arith
fewer_pieces f (suc m) zero from least = absurd (omega (arith, least))
fewer_pieces f (suc m) (suc n) from least =
    let a = length-append (f from) (pieces f (from + 1) m) in
    let b = length-append (f from) (pieces f (from + 1) n) in
    let rest = fewer_pieces f m n (from + 1) (omega (arith, least)) in
    omega (arith, a, b, rest)

-- a piece that is one element stands behind the pieces before it
pub piece_there : {X : Type 0} (f : ℕ → List X) (k n from : ℕ) (x : X) → f (from + k) ≡ x ∷ [] → k < n → slice_get (pieces f from n) (length (pieces f from k)) ≡ Some x
piece_there f k zero from x is less = absurd (omega (arith, less))
piece_there f zero (suc n) from x is less =
    ap (λ l. slice_get (l ++ pieces f (from + 1) n) 0) (ap f {x = from} {y = from + 0} (omega arith) ∙ is)
piece_there f (suc k) (suc n) from x is less =
    ap (slice_get (f from ++ pieces f (from + 1) n)) (length-append (f from) (pieces f (from + 1) k))
    ∙ get_behind (f from) (pieces f (from + 1) n) (length (pieces f (from + 1) k))
    ∙ piece_there f k n (from + 1) x (ap f {x = from + 1 + k} {y = from + suc k} (omega arith) ∙ is) (omega (arith, less))

-- what stands at a place, where each piece has at most one element
pub record PieceAt {X : Type 0} (f : ℕ → List X) (from n place : ℕ) : Type 0 where
  pub number : ℕ
  pub element : X
  pub within : number < n
  pub is : f (from + number) ≡ element ∷ []
  pub before : length (pieces f from number) ≡ place

pub piece_at : {X : Type 0} (f : ℕ → List X) → ((k : ℕ) → length (f k) ≤ 1) → (n from place : ℕ) → place < length (pieces f from n) → PieceAt f from n place
piece_at f most zero from place within = absurd (omega (arith, within))
piece_at {X = X} f most (suc n) from place within = by_front (piece_at f most n (from + 1)) (f from) refl place within
  where
    by_front : ((place : ℕ) → place < length (pieces f (from + 1) n) → PieceAt f (from + 1) n place) → (front : List X) → f from ≡ front → (place : ℕ) → place < length (pieces f from (suc n)) → PieceAt f from (suc n) place
    by_front rest [] is place within =
        let shorter : place < length (pieces f (from + 1) n) = subst (λ (l : List X). place < length (l ++ pieces f (from + 1) n)) is within in
        let r = rest place shorter in
        record {
          number = suc r.number;
          element = r.element;
          within = let w = r.within in omega (arith, w);
          is = ap f {x = from + suc r.number} {y = from + 1 + r.number} (omega arith) ∙ r.is;
          before = ap (λ (l : List X). length (l ++ pieces f (from + 1) r.number)) is ∙ r.before;
        }
    by_front rest (x ∷ []) is zero within = record {
      number = 0;
      element = x;
      within = omega arith;
      is = ap f {x = from + 0} {y = from} (omega arith) ∙ is;
      before = refl;
    }
    by_front rest (x ∷ []) is (suc place) within =
        let longer : suc place < suc (length (pieces f (from + 1) n)) = subst (λ (l : List X). suc place < length (l ++ pieces f (from + 1) n)) is within in
        let r = rest place (omega (arith, longer)) in
        record {
          number = suc r.number;
          element = r.element;
          within = let w = r.within in omega (arith, w);
          is = ap f {x = from + suc r.number} {y = from + 1 + r.number} (omega arith) ∙ r.is;
          before = ap (λ (l : List X). length (l ++ pieces f (from + 1) r.number)) is ∙ ap (λ (k : ℕ). suc k) r.before;
        }
    by_front rest (x ∷ y ∷ more) is place within =
        let long : length (x ∷ y ∷ more) ≤ 1 = subst (λ (l : List X). length l ≤ 1) is (most from) in
        absurd (omega (arith, long))
