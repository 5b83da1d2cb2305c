-- One word that is copied.
use Rattle.std.proofs.Common.{◌≡◌, ℕ, ◌<◌, List, length, get_or, set, take, ap, sym, ◌∙◌}
use Rattle.std.proofs.lemmas.List.{drop_more}
use Rattle.frame_model.specs.Shown.{words_at}
use Rattle.frame_model.specs.Written.{written}
use Rattle.spv_exec.proofs.ComponentLoops.{one_written}

pub one_copied : (from to : List ℕ) (at place : ℕ) → at < length from → place < length to → set to place (get_or from at 0) ≡ written to place (words_at from at 1)
one_copied from to at place within room =
    one_written to place (get_or from at 0) room ∙ ap (λ (l : List ℕ). written to place l) (sym (ap (λ (l : List ℕ). take 1 l) (drop_more from at 0 within)))
