-- What several fields say has what each of them has.
use Rattle.std.proofs.Common.{◌≡◌, ℕ, ◌≤◌, ◌==◌, Bool, true, false, cond, List, [], ◌∷◌, Option, None, Some, length, refl, subst, ◌∙◌, arith}
use Rattle.std.specs.Prelude.{nat_lt, nat_le, codes, bytes_eq, IfSome, All}
use Rattle.std.specs.Option.{option_map}
use Rattle.std.proofs.lemmas.Bool.Decides.{nat_tests}
use Rattle.std.proofs.lemmas.List.Elements.{All-cons}
use Rattle.trace_model.specs.Fields.{each, exactly, at_most, some_of, optional}
use Rattle.trace_model.proofs.FieldRanges.{EachIs, each-is}

pub all-of_each : {A : Type 0} (P : A → Type 0) (xs : List A) → EachIs P xs → All P xs
all-of_each P [] all = λ k d within. absurd (omega arith)
all-of_each P (x ∷ xs) all = All-cons P x xs all.0 (all-of_each P xs all.1)

inner : {A : Type 0} (a b : A) → Some a ≡ Some b → a ≡ b
inner a b h = cc

-- `-` asks nothing
pub optional-is : {A : Type 0} (read : List ℕ → Option A) (P : A → Type 0) → ((field : List ℕ) (x : A) → read field ≡ Some x → P x)
    → (field : List ℕ) (o : Option A) → optional read field ≡ Some o → IfSome o P
optional-is {A} read P has field o h = by_test (bytes_eq field (codes "-")) (read field) refl h
  where
    by_test : (dash : Bool) (m : Option A) → read field ≡ m → cond dash (Some None) (option_map Some m) ≡ Some o → IfSome o P
    by_test true m is h = subst (λ (o : Option A). IfSome o P) (inner None o h) tt
    by_test false None is h = cc
    by_test false (Some x) is h = subst (λ (o : Option A). IfSome o P) (inner (Some x) o h) (has field x is)

pub exactly-is : {A : Type 0} (count : ℕ) (read : List ℕ → Option A) (P : A → Type 0) → ((field : List ℕ) (x : A) → read field ≡ Some x → P x)
    → (fields : List (List ℕ)) (xs : List A) → exactly count read fields ≡ Some xs → All P xs × (length xs ≡ count)
exactly-is {A} count read P has fields xs h = by_test (length fields == count) refl h
  where
    joined : EachIs P xs × (length xs ≡ length fields) → length fields ≡ count → All P xs × (length xs ≡ count)
    joined all same = (all-of_each P xs all.0, all.1 ∙ same)

    by_test : (same : Bool) → (length fields == count) ≡ same → cond same (each read fields) None ≡ Some xs → All P xs × (length xs ≡ count)
    by_test true is h = joined (each-is read P has fields xs h) (grind (arith, nat_tests))
    by_test false is h = cc

pub at_most-is : {A : Type 0} (count : ℕ) (read : List ℕ → Option A) (P : A → Type 0) → ((field : List ℕ) (x : A) → read field ≡ Some x → P x)
    → (fields : List (List ℕ)) (xs : List A) → at_most count read fields ≡ Some xs → All P xs × (length xs ≤ count)
at_most-is {A} count read P has fields xs h = by_test (nat_le (length fields) count) refl h
  where
    by_test : (few : Bool) → nat_le (length fields) count ≡ few → cond few (each read fields) None ≡ Some xs → All P xs × (length xs ≤ count)
    by_test true is h =
        let are = each-is read P has fields xs h in
        let same : length xs ≡ length fields = are.1 in
        (all-of_each P xs are.0, grind (arith, nat_tests, is, same))
    by_test false is h = cc

pub some_of-is : {A : Type 0} (count : ℕ) (read : List ℕ → Option A) (P : A → Type 0) → ((field : List ℕ) (x : A) → read field ≡ Some x → P x)
    → (fields : List (List ℕ)) (xs : List A) → some_of count read fields ≡ Some xs → All P xs × (length xs ≤ count)
some_of-is {A} count read P has fields xs h = by_test (nat_lt 0 (length fields)) h
  where
    by_test : (some : Bool) → cond some (at_most count read fields) None ≡ Some xs → All P xs × (length xs ≤ count)
    by_test true h = at_most-is count read P has fields xs h
    by_test false h = cc
