-- A look-up on its way.
use Rattle.std.proofs.Common.{◌≡◌, ℕ, zero, suc, ◌+◌, ◌<◌, ◌≤◌, ◌⊎◌, List, ◌∷◌, length, Contains, Some, get_or, sym, refl, ap, ◌∙◌, subst, inl, inr, ⊎_elim, arith, below_more}
use Rattle.atomic_table.specs.Table.{Me}
use Rattle.inst_table.specs.Bucket.{bucket_of}
use Rattle.inst_table.specs.Views.{with_seen, with_walk, with_known, absences_at, steps_at}
use Rattle.inst_table.specs.Passes.{KnowsRow, KnowsNoRow, KnowsAtLeast, LearnsAlongChain, LearnsRow, FollowsChain}
use Rattle.inst_table.specs.declared.view.View.{View}
use Rattle.inst_table.specs.declared.view.KnownWord.{KnownWord}
use Rattle.inst_table.specs.declared.view.KnownWord.TheVariants.{KeyWord}

module _ {X : Type 0} where
  pub contains-here : (xs : List X) (x : X) → Contains (x ∷ xs) x
  contains-here xs x = (0, omega arith, refl)

  pub contains-there : (xs : List X) (y x : X) → Contains xs x → Contains (y ∷ xs) x
  contains-there xs y x c = let near = c.1 in (suc c.0, omega arith, c.2)

  pub contains-cases : (xs : List X) (y x : X) → Contains (y ∷ xs) x → (y ≡ x) ⊎ Contains xs x
  contains-cases xs y x c = cases xs y x c.0 c.1 c.2
    where
      cases : (xs : List X) (y x : X) (k : ℕ) → k < suc (length xs) → get_or (y ∷ xs) k x ≡ x → (y ≡ x) ⊎ Contains xs x
      cases xs y x zero h e = inl e
      cases xs y x (suc k) h e = inr (k, omega arith, e)

pub LearnsRow-none : (v : View) (row : ℕ) → LearnsRow v row v
LearnsRow-none v row = record { rest = refl; words = λ word h. h; of_row = λ word h. inl h }

pub LearnsRow-more : (v w : View) (row at x : ℕ) → LearnsRow v row w → LearnsRow v row (with_known (KeyWord row at x) w)
LearnsRow-more v w row at x t = record {
  rest = λ i. with_known (KeyWord row at x) (t.rest i);
  words = λ word h. contains-there w.known (KeyWord row at x) word (t.words word h);
  of_row = λ word h. ⊎_elim (λ (e : KeyWord row at x ≡ word). inr (at, x, sym e)) (λ c. t.of_row word c) (contains-cases w.known (KeyWord row at x) word h);
}

pub KnowsRow-keeps : (v w : View) (row : ℕ) (key : List ℕ) → ((word : KnownWord) → Contains v.known word → Contains w.known word) → KnowsRow v row key → KnowsRow w row key
KnowsRow-keeps v w row key more k at h = more (KeyWord row at (get_or key at 0)) (k at h)

pub FollowsChain-none : (v : View) (key : List ℕ) → FollowsChain v v key
FollowsChain-none v key = record { rest = refl; words = λ word h. h; absences = λ a h. h; walked = λ p h. h; learns = λ row at word h. inl h }

absent_keeps : (place : ℕ) (key : List ℕ) (n : ℕ) (xs : List (List ℕ × ℕ)) (a : List ℕ × ℕ) → Contains xs a → Contains (absences_at place key n xs) a
absent_keeps zero key n xs a c = contains-there xs (key, n) a c
absent_keeps (suc row) key n xs a c = c

walked_keeps : (place b : ℕ) (xs : List (ℕ × ℕ)) (p : ℕ × ℕ) → Contains xs p → Contains (steps_at place b xs) p
walked_keeps zero b xs p c = c
walked_keeps (suc row) b xs p c = contains-there xs (row, b) p c

pub absent-ends : (place : ℕ) (key : List ℕ) (n : ℕ) (xs : List (List ℕ × ℕ)) → place ≡ 0 → Contains (absences_at place key n xs) (key, n)
absent-ends zero key n xs e = contains-here xs (key, n)
absent-ends (suc row) key n xs e = absurd (omega arith)

pub walked-stands : (place b : ℕ) (xs : List (ℕ × ℕ)) (row : ℕ) → place ≡ row + 1 → Contains (steps_at place b xs) (row, b)
walked-stands zero b xs row e = absurd (omega arith)
walked-stands (suc k) b xs row e = let same : k ≡ row = omega arith in subst (λ (x : ℕ). Contains ((k, b) ∷ xs) (x, b)) same (contains-here xs (k, b))

-- it comes to another row or to the end
pub FollowsChain-come : (v w : View) (key : List ℕ) (n place : ℕ) → FollowsChain v w key → FollowsChain v (with_walk key n place w) key
FollowsChain-come v w key n place t = record {
  rest = λ i. with_walk key n place (t.rest i);
  words = t.words;
  absences = λ a h. absent_keeps place key n w.absent a (t.absences a h);
  walked = λ p h. walked_keeps place (bucket_of key) w.walked p (t.walked p h);
  learns = λ row at word h. ⊎_elim (λ c. inl c) (λ c. inr (walked_keeps place (bucket_of key) w.walked (row, bucket_of key) c)) (t.learns row at word h);
}

-- it learns words of the row where it stands
pub FollowsChain-learn : (v w u : View) (key : List ℕ) (row : ℕ) → FollowsChain v w key → LearnsRow w row u → Contains w.walked (row, bucket_of key) → FollowsChain v u key
FollowsChain-learn v w u key row t l st =
    let absent : u.absent ≡ w.absent = ap (λ (x : View). x.absent) l.rest in
    let walked : u.walked ≡ w.walked = ap (λ (x : View). x.walked) l.rest in
    let walk : u.walk ≡ w.walk = ap (λ (x : View). x.walk) l.rest in
    let stays : (p : ℕ × ℕ) → Contains w.walked p → Contains u.walked p = λ p h. subst (λ (xs : List (ℕ × ℕ)). Contains xs p) (sym walked) h in record {
      rest = l.rest ∙ (λ i. record (t.rest i) { known = u.known }) ∙ (λ i. record v { known = u.known; absent = sym absent i; walk = sym walk i; walked = sym walked i });
      words = λ word h. l.words word (t.words word h);
      absences = λ a h. subst (λ (xs : List (List ℕ × ℕ)). Contains xs a) (sym absent) (t.absences a h);
      walked = λ p h. stays p (t.walked p h);
      learns = λ r at word h. ⊎_elim
          (λ c. ⊎_elim (λ old. inl old) (λ new. inr (stays (r, bucket_of key) new)) (t.learns r at word c))
          (λ q. let same : KeyWord r at word ≡ KeyWord row q.0 q.1 = q.2 in let here : row ≡ r = cc in inr (stays (r, bucket_of key) (subst (λ (x : ℕ). Contains w.walked (x, bucket_of key)) here st)))
          (l.of_row (KeyWord r at word) h);
    }

-- where a look-up has come
pub record Arrival (u w : View) (key : List ℕ) (n place : ℕ) : Type 0 where
  pub follows : FollowsChain u w key
  pub stands : w.walk ≡ Some (record { key = key; below = n; place = place })
  pub walked : (row : ℕ) → place ≡ row + 1 → Contains w.walked (row, bucket_of key)
  pub ends : place ≡ 0 → Contains w.absent (key, n)

pub arrives : (u : View) (x y : Me ℕ View) (key asked : List ℕ) (n below place : ℕ) → asked ≡ key → below ≡ n → y ≡ (with_walk asked below place x.0, x.1) → FollowsChain u x.0 key → Arrival u y.0 key n place
arrives u x y key asked n below place same same_n is t =
    let v : View = x.0 in let w : View = y.0 in
    let e : w ≡ with_walk key n place v = ap (λ (m : Me ℕ View). m.0) is ∙ (λ i. with_walk (same i) (same_n i) place v) in
    subst (λ (x : View). Arrival u x key n place) (sym e) (record {
      follows = FollowsChain-come u v key n place t;
      stands = refl;
      walked = λ row h. walked-stands place (bucket_of key) v.walked row h;
      ends = absent-ends place key n v.absent;
    })

pub KnowsNoRow-before : (v w : View) (key asked : List ℕ) → asked ≡ key → ((word : KnownWord) → Contains v.known word → Contains w.known word) → KnowsNoRow w asked → KnowsNoRow v key
KnowsNoRow-before v w key asked same more never row k = never row (subst (λ (x : List ℕ). KnowsRow w row x) (sym same) (KnowsRow-keeps v w row key more k))

-- what a whole look-up leaves
pub finds : (x y z : Me ℕ View) (key : List ℕ) (n : ℕ) → y ≡ (with_seen n x.0, x.1) → x.0.seen ≤ n → FollowsChain y.0 z.0 key → LearnsAlongChain x.0 z.0 key × KnowsAtLeast x.0 z.0
finds x y z key n is low t =
    let f : FollowsChain (with_seen n x.0) z.0 key = subst (λ (m : Me ℕ View). FollowsChain m.0 z.0 key) is t in let seen = ap (λ (v : View). v.seen) f.rest in
    (f.learns, record { seen = omega arith; words = f.words; absences = f.absences })

pub never : (x y : Me ℕ View) (key : List ℕ) (n : ℕ) → y ≡ (with_seen n x.0, x.1) → KnowsNoRow y.0 key → KnowsNoRow x.0 key
never x y key n is t = subst (λ (m : Me ℕ View). KnowsNoRow m.0 key) is t

-- the rights of a seat stay
pub rights : (x y : Me ℕ View) (w : View) → y ≡ (w, x.1) → y.1 ≡ x.1
rights x y w is = ap (λ (m : Me ℕ View). m.1) is

-- one more word of the row
pub reads_word : (u : View) (x y : Me ℕ View) (row at word : ℕ) → y ≡ (with_known (KeyWord row at word) x.0, x.1) → LearnsRow u row x.0 → LearnsRow u row y.0
reads_word u x y row at word is t = subst (λ (m : Me ℕ View). LearnsRow u row m.0) (sym is) (LearnsRow-more u x.0 row at word t)

pub reads_equal : (x y : Me ℕ View) (row at word : ℕ) (key : List ℕ) → y ≡ (with_known (KeyWord row at word) x.0, x.1) → word ≡ get_or key at 0
    → ((k : ℕ) → k < at → Contains x.0.known (KeyWord row k (get_or key k 0))) → (k : ℕ) → k < at + 1 → Contains y.0.known (KeyWord row k (get_or key k 0))
reads_equal x y row at word key is equal before k h = subst (λ (m : Me ℕ View). Contains m.0.known (KeyWord row k (get_or key k 0))) (sym is)
    (below_more (λ j. Contains (KeyWord row at word ∷ x.0.known) (KeyWord row j (get_or key j 0))) at
    (λ j near. contains-there x.0.known (KeyWord row at word) (KeyWord row j (get_or key j 0)) (before j near))
    (subst (λ (w : ℕ). Contains (KeyWord row at word ∷ x.0.known) (KeyWord row at w)) equal (contains-here x.0.known (KeyWord row at word))) k h)
