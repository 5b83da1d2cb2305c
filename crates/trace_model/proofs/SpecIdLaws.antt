-- The numbers by which a module's specialization constants are set are one list.
use Rattle.std.proofs.Common.{◌≡◌, ℕ, zero, suc, ◌<◌, ◌≤◌, ◌&&◌, ◌||◌, ◌==◌, Bool, true, false, cond, List, [], ◌∷◌, length, refl, ap, subst, sym, ◌∙◌, arith}
use Rattle.std.specs.Prelude.{⊤, nat_lt, map, filter, slice_index}
use Rattle.std.specs.List.{fold, list_any}
use Rattle.std.proofs.lemmas.Bool.Decides.{nat_tests}
use Rattle.spirv_model.specs.declared.module.Inst.{Inst}
use Rattle.spirv_model.specs.Operands.{word_at}
use Rattle.body_model.specs.Switches.{is_among}
use Rattle.valid_model.specs.EarlierFacts.{has_spec_id}
use Rattle.check_model.specs.Interfaces.{AreSpecIds}
use Rattle.trace_model.specs.SpecIds.{gives_spec_id, with_number, spec_ids_of}

-- ---- ascending lists

-- they ascend, and all are above this one
abbrev AscendAbove : ℕ → List ℕ → Type 0
AscendAbove bound [] = ⊤
AscendAbove bound (x ∷ xs) = (bound < x) × AscendAbove x xs

abbrev Ascend : List ℕ → Type 0
Ascend [] = ⊤
Ascend (x ∷ xs) = AscendAbove x xs

ascend_above : (bound : ℕ) (xs : List ℕ) → AscendAbove bound xs → Ascend xs
ascend_above bound [] h = tt
ascend_above bound (x ∷ xs) h = h.1

-- with one more number they still do

with_above : (bound n : ℕ) (xs : List ℕ) → bound < n → AscendAbove bound xs → AscendAbove bound (with_number xs n)
with_above bound n [] low h = (low, tt)
with_above bound n (x ∷ xs) low h = by_tests (nat_lt n x) refl (n == x) refl (λ above. with_above x n xs above h.1)
  where
    by_tests : (less : Bool) → nat_lt n x ≡ less → (same : Bool) → (n == x) ≡ same → (x < n → AscendAbove x (with_number xs n))
        → AscendAbove bound (cond less (n ∷ x ∷ xs) (cond same (x ∷ xs) (x ∷ with_number xs n)))
    by_tests true less same is behind = (low, (grind (arith, nat_tests), h.1))
    by_tests false less true is behind = h
    by_tests false less false is behind = (h.0, behind (grind (arith, nat_tests)))

with_ascends : (n : ℕ) (xs : List ℕ) → Ascend xs → Ascend (with_number xs n)
with_ascends n [] h = tt
with_ascends n (x ∷ xs) h = by_tests (nat_lt n x) refl (n == x) refl
  where
    by_tests : (less : Bool) → nat_lt n x ≡ less → (same : Bool) → (n == x) ≡ same
        → Ascend (cond less (n ∷ x ∷ xs) (cond same (x ∷ xs) (x ∷ with_number xs n)))
    by_tests true less same is = (grind (arith, nat_tests), h)
    by_tests false less true is = h
    by_tests false less false is = with_above x n xs (grind (arith, nat_tests)) h

fold_ascends : (numbers xs : List ℕ) → Ascend xs → Ascend (fold with_number xs numbers)
fold_ascends [] xs h = h
fold_ascends (n ∷ numbers) xs h = fold_ascends numbers (with_number xs n) (with_ascends n xs h)

-- ---- the same by places

at_places : (xs : List ℕ) → Ascend xs → (i j : ℕ) → i < j → j < length xs → slice_index xs i < slice_index xs j
at_places [] h i j lower within = absurd (omega arith)
at_places (x ∷ []) h i j lower within = absurd (omega arith)
at_places (x ∷ y ∷ xs) h zero zero lower within = absurd (omega arith)
at_places (x ∷ y ∷ xs) h zero (suc zero) lower within = h.0
at_places (x ∷ y ∷ xs) h zero (suc (suc j)) lower within =
    let next = at_places (y ∷ xs) h.1 zero (suc j) (omega arith) (omega arith) in
    let first = h.0 in omega (arith, first, next)
at_places (x ∷ y ∷ xs) h (suc i) zero lower within = absurd (omega arith)
at_places (x ∷ y ∷ xs) h (suc i) (suc j) lower within = at_places (y ∷ xs) h.1 i j (omega arith) (omega arith)

by_places : (xs : List ℕ) → ((i j : ℕ) → i < j → j < length xs → slice_index xs i < slice_index xs j) → Ascend xs
by_places [] h = tt
by_places (x ∷ []) h = tt
by_places (x ∷ y ∷ xs) h =
    (h zero (suc zero) (omega arith) (omega arith), by_places (y ∷ xs) (λ i j lower within. h (suc i) (suc j) (omega arith) (omega arith)))

-- ---- what is among them

regrouped : (a b c : Bool) → (a || (b || c)) ≡ (b || (a || c))
regrouped true true c = refl
regrouped true false c = refl
regrouped false true c = refl
regrouped false false c = refl

same_twice : (a b : Bool) → (a || b) ≡ (a || (a || b))
same_twice true b = refl
same_twice false b = refl

among_with : (id n : ℕ) (xs : List ℕ) → is_among id (with_number xs n) ≡ ((n == id) || is_among id xs)
among_with id n [] = refl
among_with id n (x ∷ xs) = by_tests (nat_lt n x) (n == x) refl (among_with id n xs)
  where
    by_tests : (less same : Bool) → (n == x) ≡ same → is_among id (with_number xs n) ≡ ((n == id) || is_among id xs)
        → is_among id (cond less (n ∷ x ∷ xs) (cond same (x ∷ xs) (x ∷ with_number xs n))) ≡ ((n == id) || ((x == id) || is_among id xs))
    by_tests true same is behind = refl
    by_tests false true is behind =
        let equal : n ≡ x = grind (arith, nat_tests) in
        same_twice (x == id) (is_among id xs) ∙ ap (λ (m : ℕ). (m == id) || ((x == id) || is_among id xs)) (sym equal)
    by_tests false false is behind = ap (λ b. (x == id) || b) behind ∙ regrouped (x == id) (n == id) (is_among id xs)

among_fold : (id : ℕ) (numbers xs : List ℕ) → is_among id (fold with_number xs numbers) ≡ (is_among id xs || is_among id numbers)
among_fold id [] xs = sym (or_false (is_among id xs))
  where
    or_false : (b : Bool) → (b || false) ≡ b
    or_false true = refl
    or_false false = refl
among_fold id (n ∷ numbers) xs =
    among_fold id numbers (with_number xs n) ∙ ap (λ b. b || is_among id numbers) (among_with id n xs) ∙ moved (n == id) (is_among id xs) (is_among id numbers)
  where
    moved : (a b c : Bool) → ((a || b) || c) ≡ (b || (a || c))
    moved true true c = refl
    moved true false c = refl
    moved false true c = refl
    moved false false c = refl

abbrev numbers_in : List Inst → List ℕ
numbers_in insts = map (word_at 2) (filter gives_spec_id insts)

among_numbers : (id : ℕ) (insts : List Inst) → is_among id (numbers_in insts) ≡ list_any (has_spec_id id) insts
among_numbers id [] = refl
among_numbers id (inst ∷ insts) = by_test (gives_spec_id inst) (among_numbers id insts)
  where
    by_test : (gives : Bool) → is_among id (numbers_in insts) ≡ list_any (has_spec_id id) insts
        → is_among id (map (word_at 2) (cond gives (inst ∷ filter gives_spec_id insts) (filter gives_spec_id insts)))
        ≡ ((gives && (word_at 2 inst == id)) || list_any (has_spec_id id) insts)
    by_test true behind = ap (λ b. (word_at 2 inst == id) || b) behind
    by_test false behind = behind

-- ---- they are the module's numbers

pub spec_ids_of-AreSpecIds : (insts : List Inst) → AreSpecIds insts (spec_ids_of insts)
unfolding spec_ids_of
spec_ids_of-AreSpecIds insts = record {
  ascending = at_places (fold with_number [] (numbers_in insts)) (fold_ascends (numbers_in insts) [] tt);
  declared = λ id. among_fold id (numbers_in insts) [] ∙ among_numbers id insts;
}

-- ---- and there is no other such list

not_among_below : (id bound : ℕ) (xs : List ℕ) → AscendAbove bound xs → id ≤ bound → is_among id xs ≡ false
not_among_below id bound [] h low = refl
not_among_below id bound (x ∷ xs) h low =
    let above = h.0 in
    neither (x == id) (is_among id xs) (other x id (omega (arith, above))) (not_among_below id x xs h.1 (omega (arith, above)))
  where
    neither : (a b : Bool) → a ≡ false → b ≡ false → (a || b) ≡ false
    neither a b x y = cc

    other : (x id : ℕ) → id < x → (x == id) ≡ false
    other x id less = grind (arith, nat_tests)

among_first : (x : ℕ) (xs : List ℕ) → is_among x (x ∷ xs) ≡ true
among_first x xs = first (x == x) (is_among x xs) (grind (arith, nat_tests))
  where
    first : (a b : Bool) → a ≡ true → (a || b) ≡ true
    first a b is = cc

among_behind : (id x : ℕ) (xs : List ℕ) → x < id → is_among id (x ∷ xs) ≡ is_among id xs
among_behind id x xs less = drop_first (x == id) (is_among id xs) (grind (arith, nat_tests))
  where
    drop_first : (a b : Bool) → a ≡ false → (a || b) ≡ b
    drop_first a b is = cc

not_both : (b : Bool) → b ≡ true → b ≡ false → ⊥
not_both b yes_it no_it = cc

abbrev SameMembers : List ℕ → List ℕ → Type 0
SameMembers xs ys = (id : ℕ) → is_among id xs ≡ is_among id ys

-- the first of one isn't below the first of the other
not_lower : (x y : ℕ) (xs ys : List ℕ) → Ascend (y ∷ ys) → SameMembers (x ∷ xs) (y ∷ ys) → y ≤ x
not_lower x y xs ys h same = by_test (nat_lt x y) refl
  where
    by_test : (less : Bool) → nat_lt x y ≡ less → y ≤ x
    by_test false is = grind (arith, nat_tests)
    by_test true is =
        absurd (not_both (is_among x (y ∷ ys)) (sym (same x) ∙ among_first x xs) (not_among_below x x (y ∷ ys) (grind (arith, nat_tests), h) (omega arith)))

same_behind : (x : ℕ) (xs ys : List ℕ) → AscendAbove x xs → AscendAbove x ys → SameMembers (x ∷ xs) (x ∷ ys) → SameMembers xs ys
same_behind x xs ys h h' same id = by_test (nat_lt x id) refl
  where
    by_test : (less : Bool) → nat_lt x id ≡ less → is_among id xs ≡ is_among id ys
    by_test true is =
        let less : x < id = grind (arith, nat_tests) in
        sym (among_behind id x xs less) ∙ same id ∙ among_behind id x ys less
    by_test false is =
        let low : id ≤ x = grind (arith, nat_tests) in
        not_among_below id x xs h low ∙ sym (not_among_below id x ys h' low)

one_list : (xs ys : List ℕ) → Ascend xs → Ascend ys → SameMembers xs ys → xs ≡ ys
one_list [] [] h h' same = refl
one_list [] (y ∷ ys) h h' same = absurd (not_both (is_among y (y ∷ ys)) (among_first y ys) (sym (same y)))
one_list (x ∷ xs) [] h h' same = absurd (not_both (is_among x (x ∷ xs)) (among_first x xs) (same x))
one_list (x ∷ xs) (y ∷ ys) h h' same =
    by_first (grind (arith, not_lower x y xs ys h' same, not_lower y x ys xs h (λ id. sym (same id))))
    (λ zs above members. one_list xs zs (ascend_above x xs h) (ascend_above x zs above) members)
  where
    by_first : x ≡ y → ((zs : List ℕ) → AscendAbove x zs → SameMembers xs zs → xs ≡ zs) → x ∷ xs ≡ y ∷ ys
    by_first equal behind =
        let above : AscendAbove x ys = subst (λ (n : ℕ). AscendAbove n ys) (sym equal) h' in
        let members : SameMembers (x ∷ xs) (x ∷ ys) = subst (λ (n : ℕ). SameMembers (x ∷ xs) (n ∷ ys)) (sym equal) same in
        ap (λ (zs : List ℕ). x ∷ zs) (behind ys above (same_behind x xs ys h above members)) ∙ ap (λ (n : ℕ). n ∷ ys) equal

pub one_spec_ids : (insts : List Inst) (ids : List ℕ) → AreSpecIds insts ids → ids ≡ spec_ids_of insts
one_spec_ids insts ids are = by_laws (spec_ids_of-AreSpecIds insts)
  where
    by_laws : AreSpecIds insts (spec_ids_of insts) → ids ≡ spec_ids_of insts
    by_laws own = one_list ids (spec_ids_of insts) (by_places ids are.ascending) (by_places (spec_ids_of insts) own.ascending)
        (λ id. are.declared id ∙ sym (own.declared id))
