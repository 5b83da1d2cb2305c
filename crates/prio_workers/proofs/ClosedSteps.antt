-- Each step keeps the rule of the closed word.
use Rattle.std.proofs.Common.{◌≡◌, ◌≢◌, ◌⊎◌, inl, inr, ℕ, Bool, true, false, true≢false, if◌then◌else◌, ◌==◌, List, [], ◌∷◌, set, get_or, refl, sym, ap, ◌∙◌, subst, ⊎_elim}
use mathlib.Core.Option.{some, some-injective}
use lib.ListN.{get_elem?}
use Rattle.atomic_table.specs.Table.{Me, keeps, Allows, Splits}
use Rattle.atomic_table.proofs.Lists.{at_set, set_else, set_again, at_longer, at_snoc}
use Rattle.prio_workers.proofs.Places.{set_at}
use Rattle.prio_workers.specs.declared.closed_word.ClosedView.{ClosedView}
use Rattle.prio_workers.specs.ClosedRule.{closer_view, new_worker_view, closed_word, view_after_load, IsClosedRule}

either_true : (b read : Bool) → (if b then true else read) ≡ true → (b ≡ true) ⊎ (read ≡ true)
either_true true read e = inl refl
either_true false read e = inr e

stored_where_one : (stored : Bool) → (closed_word stored == 1) ≡ true → stored ≡ true
stored_where_one true e = refl
stored_where_one false e = absurd (true≢false (sym e))

module _ {S : Type 0} where
  pub reads : (slots id : ℕ) (me : Me S ClosedView) → me.0.is_closer ≡ false → Allows (IsClosedRule {S = S}) slots id me 0 (λ n. n) (λ found after. after ≡ (view_after_load me.0 found, me.1))
  reads slots id me worker s h len at fits = let found : ℕ = get_or s.words 0 0 in
      let w : ClosedView = view_after_load me.0 found in
      let is_found : found ≡ closed_word h.stored = ap (λ (ws : List ℕ). get_or ws 0 0) h.word in
      let other : h.closer ≢ id = λ e. true≢false (ap (λ (v : ClosedView). v.is_closer) (some-injective (closer_view h.stored) me.0 (sym h.closer_knows ∙ ap (get_elem? s.views) e ∙ at)) ∙ worker) in
      let read_one : w.read ≡ true → h.stored ≡ true = λ e. ⊎_elim (λ now. stored_where_one h.stored (ap (λ (n : ℕ). n == 1) (sym is_found) ∙ now)) (λ before. h.workers id me.0 at before) (either_true (found == 1) me.0.read e) in (
        w,
        keeps,
        tt,
        record {
          closer = h.closer;
          stored = h.stored;
          word = let P : List ℕ → Type 0 = λ ws. set ws 0 (get_or ws 0 0) ≡ closed_word h.stored ∷ [] in subst P (sym h.word) refl;
          closer_knows = set_else s.views id h.closer w other ∙ h.closer_knows;
          one_closer = λ j u e c. ⊎_elim (λ x. absurd (true≢false (sym c ∙ (ap (λ (v : ClosedView). v.is_closer) (sym x.1) ∙ worker)))) (λ x. h.one_closer j u x.1 c) (at_set s.views id j w u e);
          workers = λ j u e r. ⊎_elim (λ x. read_one (ap (λ (v : ClosedView). v.read) x.1 ∙ r)) (λ x. h.workers j u x.1 r) (at_set s.views id j w u e);
        },
        refl,
      )

  pub stores : (slots id : ℕ) (me : Me S ClosedView) → me.0.is_closer ≡ true → Allows (IsClosedRule {S = S}) slots id me 0 (λ _. 1) (λ _ after. after ≡ (closer_view true, me.1))
  stores slots id me closer s h len at fits = let w : ClosedView = closer_view true in
      let here : id ≡ h.closer = h.one_closer id me.0 at closer in (
        w,
        keeps,
        tt,
        record {
          closer = id;
          stored = true;
          word = let P : List ℕ → Type 0 = λ ws. set ws 0 1 ≡ 1 ∷ [] in subst P (sym h.word) refl;
          closer_knows = set_at s.views id w me.0 at;
          one_closer = λ j u e c. ⊎_elim (λ x. x.0) (λ x. h.one_closer j u x.1 c ∙ sym here) (at_set s.views id j w u e);
          workers = λ j u e r. refl;
        },
        refl,
      )

  pub splits : (id : ℕ) (v : ClosedView) → v.is_closer ≡ true → Splits (IsClosedRule {S = S}) id v v (new_worker_view)
  splits id v closer s h at = let same : set s.views id v ≡ s.views = set_again s.views id v at in
      let all : List ClosedView = set s.views id v in
      let within : (j : ℕ) (u : ClosedView) → get_elem? all j ≡ some u → get_elem? s.views j ≡ some u = λ j u e. ap (λ (l : List ClosedView). get_elem? l j) (sym same) ∙ e in record {
        closer = h.closer;
        stored = h.stored;
        word = h.word;
        closer_knows = at_longer all (new_worker_view ∷ []) h.closer (closer_view h.stored) (ap (λ (l : List ClosedView). get_elem? l h.closer) same ∙ h.closer_knows);
        one_closer = λ j u e c. ⊎_elim (λ x. h.one_closer j u (within j u x) c) (λ x. absurd (true≢false (sym c ∙ ap (λ (y : ClosedView). y.is_closer) (sym x)))) (at_snoc all (new_worker_view) u j e);
        workers = λ j u e r. ⊎_elim (λ x. h.workers j u (within j u x) r) (λ x. absurd (true≢false (sym r ∙ ap (λ (y : ClosedView). y.read) (sym x)))) (at_snoc all (new_worker_view) u j e);
      }
