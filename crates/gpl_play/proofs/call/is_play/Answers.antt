use Rattle.std.proofs.Common.{◌≡◌, ℕ, List, [], ◌∷◌, map, ap, sym, ◌∙◌}
use Rattle.std.specs.Prelude.{codes, string_bytes}
use Rattle.std.proofs.lemmas.Slice.Eq.{bytes_eq-Decides}
use Rattle.gpl_play.proofs.Words.{one}
use Rattle.gpl_play.proofs.call.is_play.Goals as goal

pub returns-in-len1 : goal.returns-in-len1
returns-in-len1 c =
    let single = one string_bytes c.as_slice.result.now c.word-item.result c.in-len1.len_at_least c.in-len1.len_below c.word-item.is in
    let words = ap (λ ws. map string_bytes ws) (sym c.as_slice.ensures.value) ∙ single in
    let test = bytes_eq-Decides c.as_str.result.now (codes "play") in (
      λ yes. words ∙ ap (λ (w : List ℕ). w ∷ []) (sym c.as_str.ensures.value ∙ test.0 (sym c.eq.ensures ∙ yes)),
      λ is. let same : string_bytes c.word-item.result ≡ codes "play" = cc (words, is) in c.eq.ensures ∙ test.1 (c.as_str.ensures.value ∙ same),
    )
