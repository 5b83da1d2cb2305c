-- One draw more: what it leaves, where its pipe links and where a rule refuses it.
use Rattle.std.proofs.Common.{◌≡◌, ℕ, ◌+◌, List, [], ◌∷◌, ◌++◌, length, refl, ap, sym, ◌∙◌, arith, Option, None, Some}
use Rattle.std.proofs.lemmas.List.Elements.{filter_map-append}
use Rattle.std.proofs.lemmas.List.Sums.{fold-append}
use Rattle.std.specs.List.{filter_map, enumerate_from}
use Rattle.std.specs.Prelude.{false}
use Rattle.state_model.specs.declared.parts.State.{State}
use Rattle.state_model.specs.declared.rule.Rule.{Rule}
use Rattle.state_model.specs.Link.{Libraries, failed_rule, linked_state}
use Rattle.state_model.specs.PipeKey.{state_if_linked}
use Rattle.draw_model.specs.declared.framebuffer.Targets.{Targets}
use Rattle.trace_model.specs.declared.whole.Trace.{Trace}
use Rattle.trace_model.specs.Pipes.{pipe_libraries, pipe_state}
use Rattle.trace_model.specs.Playing.{RecordedDraw, first_targets, after_linked, after_draw, pipe_rule, refusal}
use Rattle.gpl_play.specs.Plays.{AreLeftBy}

-- ---- what a rule says of the state, and a state of the rules

abbrev pub unless_failed : Option Rule → Option State → Option State
unless_failed failed made = elim failed [ Some rule ↦ None | None ↦ made ]

refused_state : (libs : Libraries) (rule : Rule) → failed_rule libs false ≡ Some rule → state_if_linked libs ≡ None
unfolding state_if_linked
refused_state libs rule h = ap (λ (failed : Option Rule). unless_failed failed (linked_state libs)) h

no_rule : (failed : Option Rule) (state : State) (made : Option State) → unless_failed failed made ≡ Some state → failed ≡ None
no_rule None state made h = refl
no_rule (Some rule) state made h = cc

linked_rule : (libs : Libraries) (state : State) → state_if_linked libs ≡ Some state → failed_rule libs false ≡ None
unfolding state_if_linked
linked_rule libs state h = no_rule (failed_rule libs false) state (linked_state libs) h

-- ---- one more

enumerate_more : {X : Type 0} (n : ℕ) (xs : List X) (x : X) → enumerate_from n (xs ++ x ∷ []) ≡ enumerate_from n xs ++ (n + length xs, x) ∷ []
enumerate_more n [] x = ap (λ (k : ℕ). (k, x) ∷ []) (omega arith)
enumerate_more n (y ∷ ys) x =
    ap (λ rest. (n, y) ∷ rest) (enumerate_more (n + 1) ys x ∙ ap (λ (k : ℕ). enumerate_from (n + 1) ys ++ (k, x) ∷ []) (omega arith))

numbered_more : {X : Type 0} (xs : List X) (x : X) → enumerate_from 0 (xs ++ x ∷ []) ≡ enumerate_from 0 xs ++ (length xs, x) ∷ []
numbered_more xs x =
    enumerate_more 0 xs x ∙ ap (λ (k : ℕ). enumerate_from 0 xs ++ (k, x) ∷ []) {x = 0 + length xs} {y = length xs} (omega arith)

-- the targets and the refused draws, with one draw more
pub one_more : (trace : Trace) (front : List RecordedDraw) (drawn : RecordedDraw) (targets : Targets) (refused : List (ℕ × Rule)) → AreLeftBy trace front targets refused
    → AreLeftBy trace (front ++ drawn ∷ []) (after_draw trace targets drawn) (refused ++ filter_map (refusal trace) ((length front, drawn) ∷ []))
one_more trace front drawn targets refused left = record {
  targets_are = ap (λ (t : Targets). after_draw trace t drawn) left.targets_are ∙ sym (fold-append (after_draw trace) (first_targets trace) front (drawn ∷ []));
  refused_are =
      ap (λ (r : List (ℕ × Rule)). r ++ filter_map (refusal trace) ((length front, drawn) ∷ [])) left.refused_are
      ∙ sym (filter_map-append (refusal trace) (enumerate_from 0 front) ((length front, drawn) ∷ []))
      ∙ ap (filter_map (refusal trace)) (sym (numbered_more front drawn));
}

-- a refused draw leaves the targets
pub refused_targets : (trace : Trace) (drawn : RecordedDraw) (targets : Targets) (rule : Rule) → failed_rule (pipe_libraries trace drawn.pipe) false ≡ Some rule
    → after_draw trace targets drawn ≡ targets
unfolding after_draw pipe_state
refused_targets trace drawn targets rule h = rw (refused_state (pipe_libraries trace drawn.pipe) rule h) refl

pub refused_more : (trace : Trace) (drawn : RecordedDraw) (number : ℕ) (rule : Rule) → failed_rule (pipe_libraries trace drawn.pipe) false ≡ Some rule
    → filter_map (refusal trace) ((number, drawn) ∷ []) ≡ (number, rule) ∷ []
unfolding pipe_rule
refused_more trace drawn number rule h = rw h refl

-- a draw whose pipe links
pub linked_targets : (trace : Trace) (drawn : RecordedDraw) (targets : Targets) (state : State) → state_if_linked (pipe_libraries trace drawn.pipe) ≡ Some state
    → after_draw trace targets drawn ≡ after_linked trace targets drawn state
unfolding after_draw pipe_state
linked_targets trace drawn targets state h = rw h refl

pub linked_more : (trace : Trace) (drawn : RecordedDraw) (number : ℕ) (state : State) → state_if_linked (pipe_libraries trace drawn.pipe) ≡ Some state
    → filter_map (refusal trace) ((number, drawn) ∷ []) ≡ []
unfolding pipe_rule
linked_more trace drawn number state h = rw (linked_rule (pipe_libraries trace drawn.pipe) state h) refl
