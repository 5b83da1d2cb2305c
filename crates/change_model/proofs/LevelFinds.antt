-- What is found in a list before a place, where nothing behind it passes the test.
use Rattle.std.proofs.Common.{◌≡◌, ℕ, zero, suc, ◌<◌, ◌≤◌, ◌||◌, Bool, true, false, cond, List, [], ◌∷◌, length, take, refl, ap, sym, ◌∙◌, arith, Option, Some}
use Rattle.std.specs.Prelude.{filter}
use Rattle.std.specs.List.{find, list_any}
use Rattle.spirv_model.specs.declared.module.Inst.{Inst}
use Rattle.valid_model.specs.Definitions.{inst_at}

-- no instruction from a place on passes the test
abbrev pub FailsFrom : (Inst → Bool) → List Inst → ℕ → Type 0
FailsFrom p insts first = (k : ℕ) → first ≤ k → k < length insts → p (inst_at insts k) ≡ false

fails_rest : (p : Inst → Bool) (inst : Inst) (insts : List Inst) (first : ℕ) → FailsFrom p (inst ∷ insts) (suc first) → FailsFrom p insts first
fails_rest p inst insts first fails = λ k least within. fails (suc k) (omega (arith, least)) (omega (arith, within))

pub find_before : (p : Inst → Bool) (insts : List Inst) (first : ℕ) → FailsFrom p insts first → find p insts ≡ find p (take first insts)
find_before p [] zero fails = refl
find_before p [] (suc first) fails = refl
find_before p (inst ∷ insts) zero fails =
    ap (λ (b : Bool). cond b (Some inst) (find p insts)) (fails 0 (omega arith) (omega arith))
    ∙ find_before p insts 0 (λ k least within. fails (suc k) (omega arith) (omega (arith, within)))
find_before p (inst ∷ insts) (suc first) fails = ap (λ (o : Option Inst). cond (p inst) (Some inst) o) (find_before p insts first (fails_rest p inst insts first fails))

pub filter_before : (p : Inst → Bool) (insts : List Inst) (first : ℕ) → FailsFrom p insts first → filter p insts ≡ filter p (take first insts)
filter_before p [] zero fails = refl
filter_before p [] (suc first) fails = refl
filter_before p (inst ∷ insts) zero fails =
    ap (λ (b : Bool). cond b (inst ∷ filter p insts) (filter p insts)) (fails 0 (omega arith) (omega arith))
    ∙ filter_before p insts 0 (λ k least within. fails (suc k) (omega arith) (omega (arith, within)))
filter_before p (inst ∷ insts) (suc first) fails = ap (λ (l : List Inst). cond (p inst) (inst ∷ l) l) (filter_before p insts first (fails_rest p inst insts first fails))

pub any_before : (p : Inst → Bool) (insts : List Inst) (first : ℕ) → FailsFrom p insts first → list_any p insts ≡ list_any p (take first insts)
any_before p [] zero fails = refl
any_before p [] (suc first) fails = refl
any_before p (inst ∷ insts) zero fails =
    ap (λ (b : Bool). b || list_any p insts) (fails 0 (omega arith) (omega arith))
    ∙ any_before p insts 0 (λ k least within. fails (suc k) (omega arith) (omega (arith, within)))
any_before p (inst ∷ insts) (suc first) fails = ap (λ (b : Bool). p inst || b) (any_before p insts first (fails_rest p inst insts first fails))

-- the first that passes
pub find_first : (p : Inst → Bool) (insts : List Inst) (place : ℕ) → place < length insts → p (inst_at insts place) ≡ true → ((k : ℕ) → k < place → p (inst_at insts k) ≡ false)
    → find p insts ≡ Some (inst_at insts place)
find_first p [] place within is fails = absurd (omega (arith, within))
find_first p (inst ∷ insts) zero within is fails = ap (λ (b : Bool). cond b (Some inst) (find p insts)) is
find_first p (inst ∷ insts) (suc place) within is fails =
    ap (λ (b : Bool). cond b (Some inst) (find p insts)) (fails 0 (omega arith))
    ∙ find_first p insts place (omega (arith, within)) is (λ k less. fails (suc k) (omega (arith, less)))

-- two lists with the same front
pub find_same : (p : Inst → Bool) (new old : List Inst) (first : ℕ) → take first new ≡ take first old → FailsFrom p new first → FailsFrom p old first → find p new ≡ find p old
find_same p new old first front fails also = find_before p new first fails ∙ ap (find p) front ∙ sym (find_before p old first also)

pub filter_same : (p : Inst → Bool) (new old : List Inst) (first : ℕ) → take first new ≡ take first old → FailsFrom p new first → FailsFrom p old first → filter p new ≡ filter p old
filter_same p new old first front fails also = filter_before p new first fails ∙ ap (filter p) front ∙ sym (filter_before p old first also)
