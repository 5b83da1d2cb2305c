-- Each step keeps the rule of the Low queue.
use Rattle.std.proofs.Common.{◌≡◌, ◌≢◌, ℕ, ◌+◌, ◌<◌, true, false, true≢false, List, [], ◌∷◌, ◌++◌, set, All, AllPairs, Contains, refl, sym, ap, ◌∙◌, subst, ⊎_elim, arith}
use mathlib.Core.Option.{some, some-injective}
use mathlib.Core.Logic.{dite}
use native.Mathlib.Decide.{ℕ_discrete}
use lib.ListN.{get_elem?}
use Rattle.std.proofs.lemmas.List.Elements.{All-nil, All-push, All-head, All-tail, All-weaker, All-contains, Contains-append_left, Contains-push, Contains-push_cases}
use Rattle.std.proofs.lemmas.List.Quantifiers.{all_pairs_push}
use Rattle.crossbeam_queue.specs.Fifo.{Pushes, Pops, Forks}
use Rattle.atomic_table.proofs.Lists.{at_set, set_else, set_again, at_longer, at_snoc}
use Rattle.prio_workers.proofs.Places.{set_at}
use Rattle.prio_workers.specs.declared.low_queue.LowView.{LowView}
use Rattle.prio_workers.specs.LowRule.{producer_view, taker_view, after_next_push, AreNumbered, HasTaken, IsTakenOnce, IsLowRule, PopsLow}

none_in_nil : (n : ℕ) → Contains [] n → ⊥
none_in_nil n c = let h = c.1 in omega arith

numbered_push : {J : Type 0} (number : J → ℕ) (first end : ℕ) (items : List J) (job : J) → AreNumbered number first items end → number job ≡ end → AreNumbered number first (items ++ job ∷ []) (end + 1)
numbered_push number first end [] job h e = (e ∙ sym h, ap (λ k. k + 1) h)
numbered_push number first end (x ∷ xs) job h e = (h.0, numbered_push number (first + 1) end xs job h.1 e)

once_kept : (old new : List LowView) (n : ℕ) → ((j : ℕ) → HasTaken old j n → HasTaken new j n) → ((j : ℕ) → HasTaken new j n → HasTaken old j n) → IsTakenOnce old n → IsTakenOnce new n
once_kept old new n stays was once = record { taker = once.taker; has_taken = stays once.taker once.has_taken; no_other = λ j h. once.no_other j (was j h) }

module _ {J : Type 0} (number : J → ℕ) (IsFor : J → Type 0) where
  pub pops : (pass : ℕ) (v : LowView) → v.is_producer ≡ false → Pops (IsLowRule number IsFor) pass v (PopsLow number IsFor v)
  pops pass v taker job items views h at = let w : LowView = taker_view (v.taken ++ number job ∷ []) in
      let is_next : number job ≡ h.next_taken = h.queued.0 in
      let B : ℕ → Type 0 = λ k. All (λ n. n < k) v.taken in
      let below : All (λ n. n < number job) v.taken = subst B (sym is_next) (h.below pass v at) in
      let other : h.producer ≢ pass = λ e. true≢false (ap (λ (y : LowView). y.is_producer) (some-injective (producer_view h.next_pushed) v (sym h.producer_knows ∙ ap (get_elem? views) e ∙ at)) ∙ taker) in
      let Less : ℕ → ℕ → Type 0 = λ a b. a < b in
      let A : LowView → Type 0 = λ u. AllPairs Less u.taken in
      let L : LowView → Type 0 = λ u. All (λ n. n < h.next_taken + 1) u.taken in
      let up : (xs : List ℕ) → All (λ n. n < h.next_taken) xs → All (λ n. n < h.next_taken + 1) xs = λ xs a. All-weaker (λ n. n < h.next_taken) (λ n. n < h.next_taken + 1) (λ n lt. omega arith) xs a in
      let views' : List LowView = set views pass w in
      let stays : (n j : ℕ) → HasTaken views j n → HasTaken views' j n = λ n j t. dite (ℕ_discrete j pass)
      (λ e. (w, ap (get_elem? views') e ∙ set_at views pass w v at, Contains-append_left v.taken (number job ∷ []) n (let C : LowView → Type 0 = λ u. Contains u.taken n in subst C (some-injective t.0 v (sym t.1 ∙ ap (get_elem? views) e ∙ at)) t.2)))
      (λ ne. (t.0, set_else views pass j w ne ∙ t.1, t.2)) in
      let was : (n j : ℕ) → n ≢ number job → HasTaken views' j n → HasTaken views j n = λ n j apart t. let C : LowView → Type 0 = λ u. Contains u.taken n in ⊎_elim
      (λ x. ⊎_elim (λ c. (v, ap (get_elem? views) x.0 ∙ at, c)) (λ e. absurd (apart (sym e))) (Contains-push_cases v.taken (number job) n (subst C (sym x.1) t.2)))
      (λ x. (t.0, x.1, t.2)) (at_set views pass j w t.0 t.1) in
      let new_one : (n : ℕ) → n ≡ h.next_taken → IsTakenOnce views' n = λ n e. record {
        taker = pass;
        has_taken = (w, set_at views pass w v at, let C : ℕ → Type 0 = λ k. Contains (v.taken ++ number job ∷ []) k in subst C (is_next ∙ sym e) (Contains-push v.taken (number job)));
        no_other = λ j t. ⊎_elim (λ x. x.0) (λ x. absurd (let lt : n < h.next_taken = All-contains (λ k. k < h.next_taken) t.0.taken n (h.below j t.0 x.1) t.2 in omega arith)) (at_set views pass j w t.0 t.1);
      } in (
        w,
        record {
          next_taken = h.next_taken + 1;
          next_pushed = h.next_pushed;
          producer = h.producer;
          queued = h.queued.1;
          due = All-tail IsFor job items h.due;
          producer_knows = set_else views pass h.producer w other ∙ h.producer_knows;
          one_producer = λ j u e c. ⊎_elim (λ x. absurd (true≢false (sym c ∙ ap (λ (y : LowView). y.is_producer) (sym x.1)))) (λ x. h.one_producer j u x.1 c) (at_set views pass j w u e);
          ascending = λ j u e. ⊎_elim (λ x. subst A x.1 (all_pairs_push Less v.taken (number job) (h.ascending pass v at) below)) (λ x. h.ascending j u x.1) (at_set views pass j w u e);
          below = λ j u e. ⊎_elim (λ x. subst L x.1 (All-push (λ n. n < h.next_taken + 1) v.taken (number job) (up v.taken (h.below pass v at)) (omega arith))) (λ x. up u.taken (h.below j u x.1)) (at_set views pass j w u e);
          taken_once = λ n lt. dite (ℕ_discrete n h.next_taken) (new_one n) (λ ne. once_kept views views' n (stays n) (λ j. was n j (λ e. ne (e ∙ is_next))) (h.taken_once n (omega arith)));
        },
        record { listed = refl; ascending = below; due = All-head IsFor job items h.due },
      )

  pub pushes : (n pass : ℕ) (v : LowView) (job : J) → v.is_producer ≡ true → number job ≡ v.pushed → IsFor job
      → Pushes (IsLowRule number IsFor) n pass v job (λ w. w ≡ after_next_push v)
  pushes _ pass v job producer is_next due items views room h at = let w : LowView = producer_view (v.pushed + 1) in
      let here : pass ≡ h.producer = h.one_producer pass v at producer in
      let is : producer_view h.next_pushed ≡ v = some-injective (producer_view h.next_pushed) v (sym h.producer_knows ∙ ap (get_elem? views) (sym here) ∙ at) in
      let end : h.next_pushed ≡ v.pushed = ap (λ (y : LowView). y.pushed) is in
      let Less : ℕ → ℕ → Type 0 = λ a b. a < b in
      let A : LowView → Type 0 = λ u. AllPairs Less u.taken in
      let L : LowView → Type 0 = λ u. All (λ n. n < h.next_taken) u.taken in
      let N : ℕ → Type 0 = λ k. AreNumbered number h.next_taken (items ++ job ∷ []) (k + 1) in
      let views' : List LowView = set views pass w in
      let stays : (n j : ℕ) → HasTaken views j n → HasTaken views' j n = λ n j t. let C : LowView → Type 0 = λ u. Contains u.taken n in
      (t.0, set_else views pass j w (λ e. none_in_nil n (subst C (some-injective t.0 v (sym t.1 ∙ ap (get_elem? views) e ∙ at) ∙ sym is) t.2)) ∙ t.1, t.2) in
      let was : (n j : ℕ) → HasTaken views' j n → HasTaken views j n = λ n j t. let C : LowView → Type 0 = λ u. Contains u.taken n in
      ⊎_elim (λ x. absurd (none_in_nil n (subst C (sym x.1) t.2))) (λ x. (t.0, x.1, t.2)) (at_set views pass j w t.0 t.1) in (
        w,
        record {
          next_taken = h.next_taken;
          next_pushed = v.pushed + 1;
          producer = pass;
          queued = subst N end (numbered_push number h.next_taken h.next_pushed items job h.queued (is_next ∙ sym end));
          due = All-push IsFor items job h.due due;
          producer_knows = set_at views pass w v at;
          one_producer = λ j u e c. ⊎_elim (λ x. x.0) (λ x. h.one_producer j u x.1 c ∙ sym here) (at_set views pass j w u e);
          ascending = λ j u e. ⊎_elim (λ x. subst A x.1 (λ i k d lt end. absurd (omega arith))) (λ x. h.ascending j u x.1) (at_set views pass j w u e);
          below = λ j u e. ⊎_elim (λ x. subst L x.1 (All-nil (λ n. n < h.next_taken))) (λ x. h.below j u x.1) (at_set views pass j w u e);
          taken_once = λ n lt. once_kept views views' n (stays n) (was n) (h.taken_once n lt);
        },
        refl,
      )

  pub forks : (pass : ℕ) (v : LowView) → Forks (IsLowRule number IsFor) pass v v (taker_view [])
  forks pass v items views h at = let w : LowView = taker_view [] in
      let all : List LowView = set views pass v in
      let same : all ≡ views = set_again views pass v at in
      let views' : List LowView = all ++ w ∷ [] in
      let within : (j : ℕ) (u : LowView) → get_elem? all j ≡ some u → get_elem? views j ≡ some u = λ j u e. ap (λ (l : List LowView). get_elem? l j) (sym same) ∙ e in
      let longer : (j : ℕ) (u : LowView) → get_elem? views j ≡ some u → get_elem? views' j ≡ some u = λ j u e. at_longer all (w ∷ []) j u (ap (λ (l : List LowView). get_elem? l j) same ∙ e) in
      let Less : ℕ → ℕ → Type 0 = λ a b. a < b in
      let A : LowView → Type 0 = λ u. AllPairs Less u.taken in
      let L : LowView → Type 0 = λ u. All (λ n. n < h.next_taken) u.taken in
      let was : (n j : ℕ) → HasTaken views' j n → HasTaken views j n = λ n j t. let C : LowView → Type 0 = λ u. Contains u.taken n in
      ⊎_elim (λ x. (t.0, within j t.0 x, t.2)) (λ x. absurd (none_in_nil n (subst C (sym x) t.2))) (at_snoc all w t.0 j t.1) in record {
        next_taken = h.next_taken;
        next_pushed = h.next_pushed;
        producer = h.producer;
        queued = h.queued;
        due = h.due;
        producer_knows = longer h.producer (producer_view h.next_pushed) h.producer_knows;
        one_producer = λ j u e c. ⊎_elim (λ x. h.one_producer j u (within j u x) c) (λ x. absurd (true≢false (sym c ∙ ap (λ (y : LowView). y.is_producer) (sym x)))) (at_snoc all w u j e);
        ascending = λ j u e. ⊎_elim (λ x. h.ascending j u (within j u x)) (λ x. subst A x (λ i k d lt end. absurd (omega arith))) (at_snoc all w u j e);
        below = λ j u e. ⊎_elim (λ x. h.below j u (within j u x)) (λ x. subst L x (All-nil (λ n. n < h.next_taken))) (at_snoc all w u j e);
        taken_once = λ n lt. once_kept views views' n (λ j t. (t.0, longer j t.0 t.1, t.2)) (was n) (h.taken_once n lt);
      }

  -- a number was taken by one pass at most
  pub taken_by_one : (items : List J) (views : List LowView) → IsLowRule number IsFor items views → (n i j : ℕ) → HasTaken views i n → HasTaken views j n → i ≡ j
  taken_by_one items views h n i j ti tj =
      let once : IsTakenOnce views n = h.taken_once n (All-contains (λ k. k < h.next_taken) ti.0.taken n (h.below i ti.0 ti.1) ti.2) in once.no_other i ti ∙ sym (once.no_other j tj)
