-- Each step keeps the rule of the High and of the Normal queue.
use Rattle.std.proofs.Common.{◌≡◌, ℕ, ◌+◌, List, [], ◌∷◌, set, refl, sym, ap, ◌∙◌, arith, length-append}
use mathlib.Core.Option.{some}
use lib.ListN.{get_elem?}
use Rattle.std.specs.List.{sum_by}
use Rattle.std.proofs.lemmas.List.Elements.{All-push, All-head, All-tail}
use Rattle.std.proofs.lemmas.List.Sums.{sum_by-append, sum_by-set}
use Rattle.crossbeam_queue.specs.Fifo.{Pushes, Pops, Admits}
use Rattle.prio_workers.proofs.Places.{within, get_or_at}
use Rattle.prio_workers.specs.declared.plain_queue.PlainView.{PlainView}
use Rattle.prio_workers.specs.PlainRule.{new_plain_view, after_push, after_pop, IsPlainRule, PopsPlain}

-- a sum over the views after one of them has changed
sum_at : (f : PlainView → ℕ) (views : List PlainView) (pass : ℕ) (v w : PlainView) → get_elem? views pass ≡ some v
    → sum_by f (set views pass w) + f v ≡ sum_by f views + f w
sum_at f views pass v w at = ap (λ u. sum_by f (set views pass w) + f u) (sym (get_or_at views pass v at))
    ∙ sum_by-set f views pass w v (within views pass v at)

module _ {J : Type 0} (IsFor : J → Type 0) where
  pub pushes : (n pass : ℕ) (v : PlainView) (job : J) → IsFor job
      → Pushes (IsPlainRule IsFor) n pass v job (λ w. w ≡ after_push v)
  pushes n pass v job due items views room h at = let w : PlainView = after_push v in (
    w,
    record {
      due = All-push IsFor items job h.due due;
      none_lost = omega (arith, h.none_lost, sum_at (λ (u : PlainView). u.pushed) views pass v w at, sum_at (λ (u : PlainView). u.popped) views pass v w at, length-append items (job ∷ []));
    },
    refl,
  )

  pub pops : (pass : ℕ) (v : PlainView) → Pops (IsPlainRule IsFor) pass v (λ job w. PopsPlain IsFor v job w)
  pops pass v job items views h at = let w : PlainView = after_pop v in (
    w,
    record {
      due = All-tail IsFor job items h.due;
      none_lost = omega (arith, h.none_lost, sum_at (λ (u : PlainView). u.pushed) views pass v w at, sum_at (λ (u : PlainView). u.popped) views pass v w at);
    },
    record { counted = refl; due = All-head IsFor job items h.due },
  )

  pub admits : Admits (IsPlainRule IsFor) new_plain_view
  admits items views h = record {
    due = h.due;
    none_lost = omega (arith, h.none_lost, sum_by-append (λ (u : PlainView). u.pushed) views (new_plain_view ∷ []), sum_by-append (λ (u : PlainView). u.popped) views (new_plain_view ∷ []));
  }
