-- Numbers found one by one.
use Rattle.std.proofs.Common.{◌≡◌, ℕ, ◌+◌, ◌<◌, Bool, true, false, cond, ◌||◌, List, [], ◌∷◌, ◌++◌, None, Some, length, drop, get_or, refl, ap, sym, ◌∙◌, append_assoc}
use Rattle.std.specs.Prelude.{nat_le}
use Rattle.std.specs.List.{list_any}
use Rattle.basics.proofs.Lists.{drop_first}
use Rattle.trace_text.specs.Taking.{known_among}
use Rattle.trace_text.proofs.EachField.{behind}

one_known : (count : ℕ) (known : List ℕ) (number : ℕ) (numbers : List ℕ) → nat_le count number ≡ false
    → behind (known ++ number ∷ []) (known_among count numbers) ≡ behind known (known_among count (number ∷ numbers))
one_known count known number numbers h = by_rest (list_any (λ n. nat_le count n) numbers) ∙ by_test (nat_le count number) h
  where
    by_rest : (rest : Bool) → behind (known ++ number ∷ []) (cond rest None (Some numbers)) ≡ behind known (cond (false || rest) None (Some (number ∷ numbers)))
    by_rest true = refl
    by_rest false = ap (λ (ns : List ℕ). Some ns) (append_assoc known (number ∷ []) numbers)

    by_test : (test : Bool) → test ≡ false
        → behind known (cond (false || list_any (λ n. nat_le count n) numbers) None (Some (number ∷ numbers))) ≡ behind known (cond (test || list_any (λ n. nat_le count n) numbers) None (Some (number ∷ numbers)))
    by_test true h = cc
    by_test false h = refl

pub known-next : (count : ℕ) (known numbers : List ℕ) (i number : ℕ) → i < length numbers → number ≡ get_or numbers i 0 → nat_le count number ≡ false
    → behind (known ++ number ∷ []) (known_among count (drop (i + 1) numbers)) ≡ behind known (known_among count (drop i numbers))
known-next count known numbers i number within is h =
    one_known count known number (drop (i + 1) numbers) h
    ∙ ap (λ (n : ℕ). behind known (known_among count (n ∷ drop (i + 1) numbers))) is
    ∙ ap (λ (ns : List ℕ). behind known (known_among count ns)) (sym (drop_first numbers i within))

pub known-none : (count : ℕ) (known numbers : List ℕ) (i number : ℕ) → i < length numbers → number ≡ get_or numbers i 0 → nat_le count number ≡ true
    → behind known (known_among count (drop i numbers)) ≡ None
known-none count known numbers i number within is h =
    ap (λ (ns : List ℕ). behind known (known_among count ns)) (drop_first numbers i within)
    ∙ ap (λ (n : ℕ). behind known (known_among count (n ∷ drop (i + 1) numbers))) (sym is)
    ∙ ap (λ (test : Bool). behind known (cond (test || list_any (λ n. nat_le count n) (drop (i + 1) numbers)) None (Some (number ∷ drop (i + 1) numbers)))) h
