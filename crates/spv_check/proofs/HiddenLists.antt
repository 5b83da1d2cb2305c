-- The list of the first ids that aren't visible, place by place.
use Rattle.std.proofs.Common.{◌≡◌, ℕ, ◌+◌, ◌<◌, List, [], ◌∷◌, ◌++◌, length, Option, None, ap, ◌∙◌, inl, inr, arith, get_or}
use Rattle.std.proofs.lemmas.Bool.{cases_lt}
use Rattle.std.proofs.lemmas.List.{length_push, get_or_push, get_or_append_left}
use Rattle.spirv_model.specs.declared.module.Inst.{Inst}
use Rattle.body_model.specs.Grammar.{Derives}
use Rattle.check_model.specs.Intervals.{intervals_of}
use Rattle.check_model.specs.Visibility.{not_visible}
use Rattle.spv_check.specs.Uses.{AreAllHidden}
use Rattle.spv_check.specs.Visibility.{IsFirstHidden}

-- those of so many places
pub record HiddenBefore (insts : List Inst) (place : ℕ) (hidden : List (Option ℕ)) : Type 0 where
  pub for_each : length hidden ≡ place
  pub at : (k : ℕ) → k < place → IsFirstHidden insts k (get_or hidden k None)

pub none_hidden : (insts : List Inst) (hidden : List (Option ℕ)) → hidden ≡ [] → HiddenBefore insts 0 hidden
none_hidden insts hidden none = record { for_each = ap length none; at = λ k less. absurd (omega (arith, less)) }

pub hidden_more : (insts : List Inst) (place : ℕ) (hidden more : List (Option ℕ)) (found : Option ℕ) → HiddenBefore insts place hidden → more ≡ hidden ++ found ∷ [] → IsFirstHidden insts place found
    → HiddenBefore insts (place + 1) more
hidden_more insts place hidden more found so more_is is = record {
  for_each = ap length more_is ∙ length_push hidden found ∙ ap (λ (n : ℕ). n + 1) so.for_each;
  at = λ k less d. ap (λ (l : List (Option ℕ)). get_or l k None) more_is ∙ split k less d;
}
  where
    split : (k : ℕ) → k < place + 1 → (d : Derives insts) → get_or (hidden ++ found ∷ []) k None ≡ not_visible (intervals_of d) insts k
    split k less d = elim (cases_lt k place) [
      | inl before ↦ get_or_append_left hidden (found ∷ []) None k (omega (arith, so.for_each)) ∙ so.at k before d
      | inr past ↦ let same : place ≡ k = omega arith in get_or_push hidden found None k (so.for_each ∙ same) ∙ is d ∙ ap (not_visible (intervals_of d) insts) same
    ]

pub all_hidden : (insts : List Inst) (place : ℕ) (hidden : List (Option ℕ)) → place ≡ length insts → HiddenBefore insts place hidden → AreAllHidden insts hidden
all_hidden insts place hidden whole so = record { for_each = so.for_each ∙ whole; at = λ d k less. so.at k (omega (arith, whole, less)) d }
