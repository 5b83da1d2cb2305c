-- What pipes link to, one after the other.
use Rattle.std.proofs.Common.{◌≡◌, ℕ, zero, suc, ◌+◌, ◌<◌, List, [], ◌∷◌, ◌++◌, length, get_or, map, ap, sym, ◌∙◌, subst, arith, false, true, Option, None, Some, Result}
use Rattle.std.proofs.Math.Path.{fun_ext}
use Rattle.std.proofs.lemmas.List.{length-append, get_or_read}
use Rattle.std.proofs.lemmas.List.FromFn.{map-range_with_len_more}
use Rattle.std.specs.List.{filter_map, range_with_len}
use Rattle.std.specs.Prelude.{slice_get}
use Rattle.spirv_model.specs.declared.module.Words.{Words}
use Rattle.state_model.specs.declared.parts.State.{State}
use Rattle.state_model.specs.declared.rule.Rule.{Rule}
use Rattle.state_model.specs.Link.{Libraries, failed_rule, linked_state}
use Rattle.state_model.specs.PipeKey.{state_if_linked}
use Rattle.trace_model.specs.declared.whole.Library.{Library}
use Rattle.trace_model.specs.declared.whole.Trace.{Trace}
use Rattle.trace_model.specs.Pipes.{pipe_libraries}
use Rattle.trace_text.specs.Printed.{pipe_rules}
use Rattle.gpl_play.specs.Links.{HasObjects, AreLinks, AreLinksUntil, IsLinkOf, libraries_at, libraries_given}
use Rattle.gpl_play.proofs.DrawSteps.{unless_failed}
use Rattle.gpl_play.proofs.LinkLaws.{libraries_are}

-- ---- one link

-- the libraries with the numbers of a pipe
pub given_at : (modules : List Words) (libs : List Library) (pipes : List (List ℕ)) (i : ℕ) (pipe numbers : List ℕ) (given : Libraries) → i < length pipes → pipe ≡ get_or pipes i pipe → numbers ≡ pipe
    → given ≡ libraries_given modules (filter_map (slice_get libs) numbers) → given ≡ libraries_at modules libs pipes i
given_at modules libs pipes i pipe numbers given within at same is =
    is ∙ ap (λ (ns : List ℕ). libraries_given modules (filter_map (slice_get libs) ns)) (same ∙ get_or_read pipes i pipe within at [])

pub linked_is : (libs : Libraries) (state : State) → failed_rule libs false ≡ None → linked_state libs ≡ Some state → state_if_linked libs ≡ Some state
unfolding state_if_linked
linked_is libs state none made = ap (λ (failed : Option Rule). unless_failed failed (linked_state libs)) none ∙ made

-- ---- states

get_more : {A : Type 0} (xs : List A) (x : A) (P : ℕ → A → Type 0) → ((i : ℕ) (y : A) → slice_get xs i ≡ Some y → P i y) → P (length xs) x
    → (i : ℕ) (y : A) → slice_get (xs ++ x ∷ []) i ≡ Some y → P i y
get_more [] x P old new zero y e = let same : x ≡ y = cc e in subst (P 0) same new
get_more [] x P old new (suc i) y e = cc
get_more (z ∷ xs) x P old new zero y e = old zero y e
get_more (z ∷ xs) x P old new (suc i) y e = get_more xs x (λ k. P (suc k)) (λ k y is. old (suc k) y is) new i y e

pub links_more : (modules : List Words) (libs : List Library) (pipes : List (List ℕ)) (n : ℕ) (links : List (Result State Rule)) (link : Result State Rule)
    → AreLinksUntil modules libs pipes n links → IsLinkOf (libraries_at modules libs pipes n) link → AreLinksUntil modules libs pipes (n + 1) (links ++ link ∷ [])
links_more modules libs pipes n links link h is = record {
  count = omega (arith, length-append links (link ∷ []), h.count);
  each =
      get_more links link (λ (pipe : ℕ) (of : Result State Rule). IsLinkOf (libraries_at modules libs pipes pipe) of) h.each
      (subst (λ (pipe : ℕ). IsLinkOf (libraries_at modules libs pipes pipe) link) (sym h.count) is);
}

pub links_all : (trace : Trace) (modules : List Words) (libs : List Library) (pipes : List (List ℕ)) (links : List (Result State Rule)) → HasObjects trace modules libs pipes
    → AreLinksUntil modules libs pipes (length pipes) links → AreLinks trace links
links_all trace modules libs pipes links has h = record {
  count = h.count ∙ ap length (sym has.pipes_are);
  each = λ pipe link is. subst (λ (given : Libraries). IsLinkOf given link) (sym (libraries_are trace modules libs pipes has pipe)) (h.each pipe link is);
}

-- ---- rules

abbrev pub rules_of : Libraries → Option Rule × Option Rule
rules_of libs = (failed_rule libs false, failed_rule libs true)

-- those of the first pipes
abbrev pub rules_until : List Words → List Library → List (List ℕ) → ℕ → List (Option Rule × Option Rule)
rules_until modules libs pipes n = map (λ pipe. rules_of (libraries_at modules libs pipes pipe)) (range_with_len 0 n)

pub rules_more : (modules : List Words) (libs : List Library) (pipes : List (List ℕ)) (n : ℕ) (rules : List (Option Rule × Option Rule)) (given : Libraries) → rules ≡ rules_until modules libs pipes n
    → given ≡ libraries_at modules libs pipes n → rules ++ rules_of given ∷ [] ≡ rules_until modules libs pipes (n + 1)
rules_more modules libs pipes n rules given are is =
    ap (λ (rs : List (Option Rule × Option Rule)). rs ++ rules_of given ∷ []) are
    ∙ ap (λ (of : Libraries). rules_until modules libs pipes n ++ rules_of of ∷ []) is
    ∙ sym (map-range_with_len_more (λ (pipe : ℕ). rules_of (libraries_at modules libs pipes pipe)) 0 n n (omega arith))

pub rules_all : (trace : Trace) (modules : List Words) (libs : List Library) (pipes : List (List ℕ)) → HasObjects trace modules libs pipes → rules_until modules libs pipes (length pipes) ≡ pipe_rules trace
rules_all trace modules libs pipes has =
    ap (λ (of : ℕ → Libraries). map (λ (pipe : ℕ). rules_of (of pipe)) (range_with_len 0 (length pipes))) (fun_ext (λ (pipe : ℕ). sym (libraries_are trace modules libs pipes has pipe)))
    ∙ ap (λ (ps : List (List ℕ)). map (λ (pipe : ℕ). rules_of (pipe_libraries trace pipe)) (range_with_len 0 (length ps))) (sym has.pipes_are)
