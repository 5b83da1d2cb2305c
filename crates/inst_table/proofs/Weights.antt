-- A heap that has room for the greatest records of all units has room for the records of units that are built once each.
use Rattle.std.proofs.Common.{◌≡◌, ℕ, zero, suc, ◌+◌, ◌-◌, ◌<◌, ◌≤◌, Bool, cond, ltb, List, [], ◌∷◌, ◌++◌, map, length, All, Contains, get_or, sym, refl, ap, ◌∙◌, subst, ⊎_elim, arith, lt-ltb, le-ltb, length-append}
use mathlib.Core.Logic.{dite}
use native.Mathlib.Decide.{dec_le, ℕ_discrete}
use Rattle.std.proofs.lemmas.List.Elements.{All-head, All-tail, All-push, All-get_or, Contains-append_left, Contains-append_right}
use Rattle.std.proofs.lemmas.List.{get_or_default}
use Rattle.inst_table.specs.Subject.{Subject, library, pair, libraries_below, all_subjects}
use Rattle.inst_table.specs.Chain.{key_at}
use Rattle.inst_table.specs.Units.{heap_of, address_of, total}
use Rattle.inst_table.specs.Lawful.{AreDistinct, IsUnit, FitsUnit, IsBuilt, RowsAreSound, UnitsAreSound, numbers_of}
use Rattle.inst_table.specs.declared.setup.Numbers.{Numbers}
use Rattle.inst_table.specs.declared.view.Rows.{Rows}
use Rattle.inst_table.specs.declared.view.Unit.{Unit}
use Rattle.inst_table.specs.declared.view.Units.{Units}
use Rattle.inst_table.proofs.Follows.{contains-here, contains-there}
use Rattle.inst_table.proofs.Lists.{AreDistinct-push}
use Rattle.inst_table.proofs.Addresses.{address-none}
use Rattle.inst_table.proofs.Within.{within}

-- what a unit is for
subject_at : Numbers → Rows → ℕ → Subject
subject_at z x n = cond (ltb n z.libraries) (library n) (pair (key_at x.linked (n - z.libraries)))

subject_library : (z : Numbers) (x : Rows) (n : ℕ) → n < z.libraries → subject_at z x n ≡ library n
unfolding subject_at
subject_library z x n h = ap (λ (b : Bool). cond b (library n) (pair (key_at x.linked (n - z.libraries)))) (lt-ltb n z.libraries h)

subject_pair : (z : Numbers) (x : Rows) (n row : ℕ) → n ≡ z.libraries + row → subject_at z x n ≡ pair (key_at x.linked row)
unfolding subject_at
subject_pair z x n row e = ap (λ (b : Bool). cond b (library n) (pair (key_at x.linked (n - z.libraries)))) (le-ltb n z.libraries (omega arith))
    ∙ (let f : n - z.libraries ≡ row = omega arith in ap (λ (k : ℕ). pair (key_at x.linked k)) f)

library_among : (n k : ℕ) → n < k → Contains (libraries_below k) (library n)
library_among n zero h = absurd (omega arith)
library_among n (suc k) h = dite (ℕ_discrete n k) (λ e. subst (λ (j : ℕ). Contains (library k ∷ libraries_below k) (library j)) (sym e) (contains-here (libraries_below k) (library k)))
    (λ ne. contains-there (libraries_below k) (library k) (library n) (library_among n k (omega arith)))

pair_among : (keys : List (List ℕ)) (key : List ℕ) (k : ℕ) → k < length keys → get_or keys k key ≡ key → Contains (map pair keys) (pair key)
pair_among [] key k h e = absurd (omega arith)
pair_among (x ∷ keys) key zero h e = subst (λ (y : List ℕ). Contains (pair x ∷ map pair keys) (pair y)) e (contains-here (map pair keys) (pair x))
pair_among (x ∷ keys) key (suc k) h e = contains-there (map pair keys) (pair x) (pair key) (pair_among keys key k (omega arith) e)

module _ {X Y : Type 0} (f : X → Y) where
  at_map : (xs : List X) (i : ℕ) (d : X) → get_or (map f xs) i (f d) ≡ f (get_or xs i d)
  at_map [] i d = refl
  at_map (x ∷ xs) zero d = refl
  at_map (x ∷ xs) (suc i) d = at_map xs i d

  long_map : (xs : List X) → length (map f xs) ≡ length xs
  long_map [] = refl
  long_map (x ∷ xs) = ap suc (long_map xs)

total-push : {X : Type 0} (w : X → ℕ) (xs : List X) (x : X) → total w (xs ++ x ∷ []) ≡ total w xs + w x
total-push w [] x = omega arith
total-push w (y ∷ xs) x = let e = total-push w xs x in omega arith

map-push : {X Y : Type 0} (f : X → Y) (xs : List X) (x : X) → map f (xs ++ x ∷ []) ≡ map f xs ++ f x ∷ []
map-push f [] x = refl
map-push {X} {Y} f (y ∷ xs) x = ap (λ (ys : List Y). f y ∷ ys) (map-push f xs x)

module _ (asked : List (List ℕ)) (z : Numbers) (x : Rows) (sound : RowsAreSound asked z x) where
  among : (n : ℕ) → IsUnit z x n → Contains (all_subjects z.libraries asked) (subject_at z x n)
  among n u = ⊎_elim
      (λ (h : n < z.libraries). subst (λ (s : Subject). Contains (all_subjects z.libraries asked) s) (sym (subject_library z x n h)) (Contains-append_left (libraries_below z.libraries) (map pair asked) (library n) (library_among n z.libraries h)))
      (λ r. let row : ℕ = r.0 in let near : row < x.count = r.1 in let behind = sound.behind in
      let c : Contains asked (key_at x.linked row) = All-get_or (Contains asked) x.linked row [] (omega arith) sound.asked_for in
      subst (λ (s : Subject). Contains (all_subjects z.libraries asked) s) (sym (subject_pair z x n row r.2))
      (Contains-append_right (libraries_below z.libraries) (map pair asked) (pair (key_at x.linked row)) (pair_among asked (key_at x.linked row) c.0 c.1 c.2))) u

  same_row : (r r' : ℕ) → r < x.count → r' < x.count → key_at x.linked r ≡ key_at x.linked r' → r ≡ r'
  same_row r r' h h' e = let behind = sound.behind in dite (ℕ_discrete r r') (λ y. y)
      (λ ne. dite (dec_le (suc r) r') (λ low. absurd (sound.distinct r r' low (omega arith) e)) (λ high. absurd (sound.distinct r' r (omega arith) (omega arith) (sym e))))

  one_subject : (n m : ℕ) → IsUnit z x n → IsUnit z x m → subject_at z x n ≡ subject_at z x m → n ≡ m
  one_subject n m u v e = ⊎_elim
      (λ (h : n < z.libraries). ⊎_elim
      (λ (h' : m < z.libraries). let f : library n ≡ library m = sym (subject_library z x n h) ∙ e ∙ subject_library z x m h' in cc)
      (λ r. let f : library n ≡ pair (key_at x.linked r.0) = sym (subject_library z x n h) ∙ e ∙ subject_pair z x m r.0 r.2 in cc) v)
      (λ q. ⊎_elim
      (λ (h' : m < z.libraries). let f : pair (key_at x.linked q.0) ≡ library m = sym (subject_pair z x n q.0 q.2) ∙ e ∙ subject_library z x m h' in cc)
      (λ r. let f : pair (key_at x.linked q.0) ≡ pair (key_at x.linked r.0) = sym (subject_pair z x n q.0 q.2) ∙ e ∙ subject_pair z x m r.0 r.2 in
      let k : key_at x.linked q.0 ≡ key_at x.linked r.0 = cc in let s = same_row q.0 r.0 q.1 r.1 k in let a = q.2 in let b = r.2 in omega arith) v) u

  distinct_subjects : (ns : List ℕ) → All (IsUnit z x) ns → AreDistinct ns 0 → AreDistinct (map (subject_at z x) ns) (subject_at z x 0)
  distinct_subjects ns all once i j low high e =
      let long = long_map (subject_at z x) ns in
      once i j low (omega arith) (one_subject (get_or ns i 0) (get_or ns j 0) (All-get_or (IsUnit z x) ns i 0 (omega arith) all) (All-get_or (IsUnit z x) ns j 0 (omega arith) all)
      (sym (at_map (subject_at z x) ns i 0) ∙ e ∙ at_map (subject_at z x) ns j 0))

  all_among : (ns : List ℕ) → All (IsUnit z x) ns → All (Contains (all_subjects z.libraries asked)) (map (subject_at z x) ns)
  all_among ns all i d h = let long = long_map (subject_at z x) ns in
      subst (λ (s : Subject). Contains (all_subjects z.libraries asked) s) (sym (get_or_default (map (subject_at z x) ns) i d (subject_at z x 0) h ∙ at_map (subject_at z x) ns i 0))
      (among (get_or ns i 0) (All-get_or (IsUnit z x) ns i 0 (omega arith) all))

  module _ (fits : Subject → List ℕ → Type 0) (longest : Subject → ℕ) (short : (s : Subject) (words : List ℕ) → fits s words → length words ≤ longest s) where
    record_short : (n : ℕ) (words : List ℕ) → IsUnit z x n → FitsUnit fits z x n words → length words ≤ longest (subject_at z x n)
    record_short n words u f = ⊎_elim
        (λ (h : n < z.libraries). subst (λ (s : Subject). length words ≤ longest s) (sym (subject_library z x n h)) (short (library n) words (f.as_library h)))
        (λ r. subst (λ (s : Subject). length words ≤ longest s) (sym (subject_pair z x n r.0 r.2)) (short (pair (key_at x.linked r.0)) words (f.as_pair r.0 r.1 r.2))) u

    heap_short : (us : List Unit) → All (IsBuilt fits z x) us → length (heap_of us) ≤ total longest (map (subject_at z x) (numbers_of us))
    heap_short [] all = omega arith
    heap_short (u ∷ us) all = let b : IsBuilt fits z x u = All-head (IsBuilt fits z x) u us all in
        let here = record_short u.number u.words b.unit b.fitting in let rest = heap_short us (All-tail (IsBuilt fits z x) u us all) in let long = length-append u.words (heap_of us) in omega arith

    are_units : (us : List Unit) → All (IsBuilt fits z x) us → All (IsUnit z x) (numbers_of us)
    are_units [] all i d h = absurd (omega arith)
    are_units (u ∷ us) all zero d h = (All-head (IsBuilt fits z x) u us all).unit
    are_units (u ∷ us) all (suc i) d h = are_units us (All-tail (IsBuilt fits z x) u us all) i d (omega arith)

    pub leaves_room : (y : Units) (n : ℕ) (words : List ℕ) → UnitsAreSound fits z x y → total longest (all_subjects z.libraries asked) ≤ z.heap → IsUnit z x n → FitsUnit fits z x n words
        → address_of y.built n ≡ 0 → length (heap_of y.built) + length words ≤ z.heap
    leaves_room y n words s fit u f none =
        let f' : ℕ → Subject = subject_at z x in
        let ns : List ℕ = numbers_of y.built in
        let all : All (IsUnit z x) (ns ++ n ∷ []) = All-push (IsUnit z x) ns n (are_units y.built s.built) u in
        let once : AreDistinct (ns ++ n ∷ []) 0 = AreDistinct-push ns n 0 (address-none 0 y.built n none) s.once in
        let whole : total longest (map f' (ns ++ n ∷ [])) ≤ total longest (all_subjects z.libraries asked) =
        within longest (map f' (ns ++ n ∷ [])) (all_subjects z.libraries asked) (f' 0) (distinct_subjects (ns ++ n ∷ []) all once) (all_among (ns ++ n ∷ []) all) in
        let cut : total longest (map f' (ns ++ n ∷ [])) ≡ total longest (map f' ns) + longest (f' n) = ap (total longest) (map-push f' ns n) ∙ total-push longest (map f' ns) (f' n) in
        let a = heap_short y.built s.built in let b = record_short n words u f in omega arith
