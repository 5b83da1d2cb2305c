-- The listings of several modules, with one module more.
use Rattle.std.proofs.Common.{◌≡◌, ℕ, ◌+◌, List, ◌∷◌, ◌++◌, ap, sym, ◌∙◌, append_assoc}
use Rattle.std.specs.List.{flat_map, enumerate_from}
use Rattle.spirv_model.specs.declared.module.Words.{Words}
use Rattle.listing_model.specs.ModuleTexts.{module_text}

pub one_more : (text new whole : List ℕ) (number : ℕ) (read : Words) (rest others : List Words) → rest ≡ read ∷ others
    → text ++ flat_map module_text (enumerate_from number rest) ≡ whole → new ≡ text ++ module_text (number, read)
    → new ++ flat_map module_text (enumerate_from (number + 1) others) ≡ whole
one_more text new whole number read rest others is same more =
    ap (λ (t : List ℕ). t ++ flat_map module_text (enumerate_from (number + 1) others)) more
    ∙ append_assoc text (module_text (number, read)) (flat_map module_text (enumerate_from (number + 1) others))
    ∙ ap (λ (r : List Words). text ++ flat_map module_text (enumerate_from number r)) (sym is)
    ∙ same
