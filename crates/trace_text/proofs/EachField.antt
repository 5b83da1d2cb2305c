-- Fields read one by one.
use Rattle.std.proofs.Common.{◌≡◌, ℕ, ◌==◌, Bool, true, false, cond, List, [], ◌∷◌, ◌++◌, Option, None, Some, length, refl, ap, sym, ◌∙◌, append_assoc}
use Rattle.std.specs.Prelude.{⊤, nat_lt, nat_le}
use Rattle.std.specs.Option.{option_map}
use Rattle.trace_model.specs.Text.{◌>>=◌}
use Rattle.trace_model.specs.Fields.{each, exactly, at_most, some_of}
use Rattle.trace_model.proofs.FieldRanges.{each-is}

-- what is said, behind what was said before
abbrev pub behind : {A : Type 0} → List A → Option (List A) → Option (List A)
behind values more = option_map (λ xs. values ++ xs) more

pub behind-nothing : {A : Type 0} (more : Option (List A)) → behind [] more ≡ more
behind-nothing None = refl
behind-nothing (Some xs) = refl

after_one : {A : Type 0} (values : List A) (value : A) (more : Option (List A)) → behind (values ++ value ∷ []) more ≡ behind values (more >>= λ xs. Some (value ∷ xs))
after_one values value None = refl
after_one values value (Some xs) = ap (λ ys. Some ys) (append_assoc values (value ∷ []) xs)

pub each-next : {A : Type 0} (read : List ℕ → Option A) (values : List A) (value : A) (field : List ℕ) (fields : List (List ℕ)) → Some value ≡ read field
    → behind (values ++ value ∷ []) (each read fields) ≡ behind values (each read (field ∷ fields))
each-next {A} read values value field fields h =
    after_one values value (each read fields)
    ∙ ap (λ (o : Option A). behind values (o >>= λ x. each read fields >>= λ xs. Some (x ∷ xs))) h

pub each-none : {A : Type 0} (read : List ℕ → Option A) (values : List A) (field : List ℕ) (fields : List (List ℕ)) → None ≡ read field
    → behind values (each read (field ∷ fields)) ≡ None
each-none {A} read values field fields h = ap (λ (o : Option A). behind values (o >>= λ x. each read fields >>= λ xs. Some (x ∷ xs))) (sym h)

pub each-end : {A : Type 0} (read : List ℕ → Option A) (values : List A) → behind values (each read []) ≡ Some values
each-end {A} read values = ap (λ ys. Some ys) (no_more values)
  where
    no_more : (xs : List A) → xs ++ [] ≡ xs
    no_more [] = refl
    no_more (x ∷ xs) = ap (λ ys. x ∷ ys) (no_more xs)

-- ---- how many

each-length : {A : Type 0} (read : List ℕ → Option A) (fields : List (List ℕ)) (xs : List A) → each read fields ≡ Some xs → length xs ≡ length fields
each-length {A} read fields xs h = (each-is read (λ x. ⊤) (λ field x is. tt) fields xs h).1

-- by the number of what is said
by_count : {A : Type 0} (read : List ℕ → Option A) (test : ℕ → Bool) (fields : List (List ℕ))
    → cond (test (length fields)) (each read fields) None ≡ (each read fields >>= λ xs. cond (test (length xs)) (Some xs) None)
by_count {A} read test fields = by_answer (each read fields) (each-length read fields)
  where
    none_either : (b : Bool) → ◌≡◌ {A = Option (List A)} (cond b None None) None
    none_either true = refl
    none_either false = refl

    by_answer : (o : Option (List A)) → ((xs : List A) → o ≡ Some xs → length xs ≡ length fields)
        → cond (test (length fields)) o None ≡ (o >>= λ xs. cond (test (length xs)) (Some xs) None)
    by_answer None same = none_either (test (length fields))
    by_answer (Some xs) same = ap (λ (n : ℕ). cond (test n) (Some xs) None) (sym (same xs refl))

pub exactly-by_each : {A : Type 0} (read : List ℕ → Option A) (count : ℕ) (fields : List (List ℕ))
    → exactly count read fields ≡ (each read fields >>= λ xs. cond (length xs == count) (Some xs) None)
exactly-by_each read count fields = by_count read (λ n. n == count) fields

pub at_most-by_each : {A : Type 0} (read : List ℕ → Option A) (count : ℕ) (fields : List (List ℕ))
    → at_most count read fields ≡ (each read fields >>= λ xs. cond (nat_le (length xs) count) (Some xs) None)
at_most-by_each read count fields = by_count read (λ n. nat_le n count) fields

pub some_of-by_at_most : {A : Type 0} (read : List ℕ → Option A) (count : ℕ) (fields : List (List ℕ))
    → some_of count read fields ≡ (at_most count read fields >>= λ xs. cond (nat_lt 0 (length xs)) (Some xs) None)
some_of-by_at_most {A} read count fields = by_test (nat_le (length fields) count)
  where
    none_either : (b : Bool) → ◌≡◌ {A = Option (List A)} (cond b None None) None
    none_either true = refl
    none_either false = refl

    by_test : (few : Bool) → cond (nat_lt 0 (length fields)) (cond few (each read fields) None) None
        ≡ (cond few (each read fields) None >>= λ xs. cond (nat_lt 0 (length xs)) (Some xs) None)
    by_test true = by_count read (λ n. nat_lt 0 n) fields
    by_test false = none_either (nat_lt 0 (length fields))
