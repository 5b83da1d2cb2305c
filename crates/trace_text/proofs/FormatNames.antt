-- The place of a format among the names, by the tests of the names.
use Rattle.std.proofs.Common.{◌≡◌, ℕ, suc, Bool, true, false, cond, List, None, Some, refl, ap, ◌∙◌}
use Rattle.std.specs.Prelude.{bytes_eq, codes}
use Rattle.std.specs.Option.{option_map}
use Rattle.std.proofs.lemmas.Iterator.Adapters.{position_from-zero}
use Rattle.trace_model.specs.Fields.{format_names, format_value}
use Rattle.trace_text.specs.Values.{format_named}

by_tests : (a b c d e f g h i : Bool)
    → option_map (λ (n : ℕ). suc n)
    (cond a (Some 0) (cond b (Some 1) (cond c (Some 2) (cond d (Some 3) (cond e (Some 4) (cond f (Some 5) (cond g (Some 6) (cond h (Some 7) (cond i (Some 8) None)))))))))
    ≡ cond a (Some 1) (cond b (Some 2) (cond c (Some 3) (cond d (Some 4) (cond e (Some 5) (cond f (Some 6) (cond g (Some 7) (cond h (Some 8) (cond i (Some 9) None))))))))
by_tests true b c d e f g h i = refl
by_tests false true c d e f g h i = refl
by_tests false false true d e f g h i = refl
by_tests false false false true e f g h i = refl
by_tests false false false false true f g h i = refl
by_tests false false false false false true g h i = refl
by_tests false false false false false false true h i = refl
by_tests false false false false false false false true i = refl
by_tests false false false false false false false false true = refl
by_tests false false false false false false false false false = refl

pub format-is_named : (name : List ℕ) → format_value name ≡ format_named name
format-is_named name =
    ap (option_map (λ (n : ℕ). suc n)) (position_from-zero (bytes_eq name) format_names)
    ∙ by_tests (bytes_eq name (codes "u1")) (bytes_eq name (codes "u2")) (bytes_eq name (codes "u3")) (bytes_eq name (codes "u4"))
    (bytes_eq name (codes "s1")) (bytes_eq name (codes "s2")) (bytes_eq name (codes "s3")) (bytes_eq name (codes "s4")) (bytes_eq name (codes "z"))
