use Rattle.std.proofs.Common.{◌==◌, ◌∷◌, List, ℕ, ◌+◌, drop, ap, sym, ◌∙◌}
use Rattle.std.specs.List.{slice_split}
use Rattle.spv_text.proofs.SplitParts.{split_at_place, split_nowhere}
use Rattle.spv_text.proofs.parts.cut_first.Goals as goal

pub returns-in-Some : goal.returns-in-Some
returns-in-Some c =
    let p = λ (b : ℕ). b == c.args.separator in
    split_at_place p c.args.bytes.now c.in-Some.at (sym c.in-Some.ensures.place)
    ∙ ap (λ (part : List ℕ). part ∷ slice_split p (drop (c.in-Some.at + 1) c.args.bytes.now)) (sym c.split_at.ensures.front)
    ∙ ap (λ (after : List ℕ). c.split_at.result.0.now ∷ slice_split p after) (sym c.split_at-in-Some.ensures.back)

pub returns-in-None : goal.returns-in-None
returns-in-None c = split_nowhere (λ (b : ℕ). b == c.args.separator) c.args.bytes.now (sym c.in-None.ensures.place)
