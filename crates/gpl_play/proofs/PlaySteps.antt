-- The lines of a play, one after the other.
use Rattle.std.proofs.Common.{◌≡◌, ℕ, zero, suc, ◌+◌, ◌<◌, List, [], ◌∷◌, ◌++◌, length, take, drop, replicate, cond, false, refl, ap, sym, ◌∙◌, subst, arith, append-nil, Some}
use Rattle.std.proofs.lemmas.List.{length-append, set-get_or}
use Rattle.std.proofs.lemmas.List.Sums.{fold-append, sum_by-cons}
use Rattle.std.specs.List.{All, sum_by}
use Rattle.std.specs.Prelude.{slice_get, slice_set}
use Rattle.state_model.specs.declared.rule.Rule.{Rule}
use Rattle.draw_model.specs.declared.command.Dynamic.{Dynamic}
use Rattle.draw_model.specs.declared.command.DrawCall.{DrawCall}
use Rattle.draw_model.specs.declared.framebuffer.Targets.{Targets}
use Rattle.trace_model.specs.declared.limit.TheConstants.{DRAWS, RECORDERS}
use Rattle.trace_model.specs.declared.whole.Step.{Step}
use Rattle.trace_model.specs.declared.whole.Step.TheVariants.{Push, Vbuf, Ubuf, Scissor, Bind, Draw}
use Rattle.trace_model.specs.declared.whole.Trace.{Trace}
use Rattle.trace_model.specs.LawfulPlay.{IsStep, counts_of}
use Rattle.trace_model.specs.ObjectCauses.{is_draw}
use Rattle.trace_model.specs.Playing.{first_dynamic, after_step, RecordedDraw, dynamic_at, draws_from, draws_of}
use Rattle.trace_model.proofs.DrawSplits.{recorded_after, recorded, draws_from-append, draws-at}
use Rattle.gpl_play.specs.Plays.{Drawables, AreOf, AreLeftBy, IsDrawOf, IsPlayOf, drawn_by}
use Rattle.gpl_play.proofs.LinkLaws.{middle}

-- ---- lists

split_get : {A : Type 0} (xs : List A) (i : ℕ) (x : A) → slice_get xs i ≡ Some x → xs ≡ take i xs ++ x ∷ drop (suc i) xs
split_get [] i x e = cc
split_get (y ∷ xs) zero x e = let same : y ≡ x = cc e in ap (λ z. z ∷ xs) same
split_get (y ∷ xs) (suc i) x e = ap (λ ys. y ∷ ys) (split_get xs i x e)

take_get : {A : Type 0} (xs : List A) (i : ℕ) (x : A) → slice_get xs i ≡ Some x → take (suc i) xs ≡ take i xs ++ x ∷ []
take_get [] i x e = cc
take_get (y ∷ xs) zero x e = let same : y ≡ x = cc e in ap (λ z. z ∷ []) same
take_get (y ∷ xs) (suc i) x e = ap (λ ys. y ∷ ys) (take_get xs i x e)

-- ---- recorders

abbrev pub firsts : List Dynamic
firsts = replicate RECORDERS first_dynamic

-- what the recorders draw with after a line
set_is : (dynamics : List Dynamic) (recorder : ℕ) (step : Step) → slice_set dynamics recorder (after_step (dynamic_at dynamics recorder) step) ≡ recorded_after dynamics (recorder, step)
unfolding after_step
set_is dynamics recorder (Draw pipe call) = set-get_or dynamics recorder first_dynamic
set_is dynamics recorder (Push at words) = refl
set_is dynamics recorder (Vbuf slot buffer) = refl
set_is dynamics recorder (Ubuf set binding buffer) = refl
set_is dynamics recorder (Scissor rect) = refl
set_is dynamics recorder (Bind colour depth) = refl

-- a draw sets nothing
draw_sets : (dynamics : List Dynamic) (recorder pipe : ℕ) (call : DrawCall) → slice_set dynamics recorder (after_step (dynamic_at dynamics recorder) (Draw pipe call)) ≡ dynamics
draw_sets dynamics recorder pipe call = set_is dynamics recorder (Draw pipe call)

-- what is drawn with, at the line of a draw
pub drawn_with : (dynamics after : List Dynamic) (recorder : ℕ) (step : Step) (pipe : ℕ) (call : DrawCall) (dynamic : Dynamic)
    → after ≡ slice_set dynamics recorder (after_step (dynamic_at dynamics recorder) step) → step ≡ Draw pipe call → dynamic ≡ dynamic_at after recorder → dynamic ≡ dynamic_at dynamics recorder
drawn_with dynamics after recorder step pipe call dynamic set is with_this =
    with_this
    ∙ ap (λ (ds : List Dynamic). dynamic_at ds recorder)
    (set ∙ ap (λ (s : Step). slice_set dynamics recorder (after_step (dynamic_at dynamics recorder) s)) is ∙ draw_sets dynamics recorder pipe call)

-- a line of a lawful trace
pub step_is : (objects : Drawables) (steps : List (ℕ × Step)) (first : Targets) (none : List (ℕ × Rule)) (i recorder : ℕ) (step : Step) → (play : IsPlayOf objects steps first none)
    → slice_get steps i ≡ Some (recorder, step) → (recorder < RECORDERS) × IsStep (counts_of play.trace) step
step_is objects steps first none i recorder step play there =
    middle (λ (s : ℕ × Step). (s.0 < RECORDERS) × IsStep (counts_of play.trace) s.1) (take i steps) (recorder, step) (drop (suc i) steps)
    (subst (All (λ (s : ℕ × Step). (s.0 < RECORDERS) × IsStep (counts_of play.trace) s.1)) (play.steps_are ∙ split_get steps i (recorder, step) there) play.lawful.steps)

-- ---- what the lines so far have left

-- These draws of the first lines were made, and the recorders draw with these.
pub record HavePlayed (objects : Drawables) (steps : List (ℕ × Step)) (first : Targets) (none : List (ℕ × Rule)) (i : ℕ) (dynamics : List Dynamic) (number : ℕ) (targets : Targets) (refused : List (ℕ × Rule)) : Type 0 where
  pub set : dynamics ≡ recorded firsts (take i steps)
  pub count : number ≡ length (draws_from firsts (take i steps))
  pub left : (trace : Trace) → AreOf trace objects → AreLeftBy trace [] first none → AreLeftBy trace (draws_from firsts (take i steps)) targets refused

recorded_more : (steps : List (ℕ × Step)) (i recorder : ℕ) (step : Step) (dynamics : List Dynamic) → slice_get steps i ≡ Some (recorder, step) → dynamics ≡ recorded firsts (take i steps)
    → slice_set dynamics recorder (after_step (dynamic_at dynamics recorder) step) ≡ recorded firsts (take (suc i) steps)
recorded_more steps i recorder step dynamics there is =
    set_is dynamics recorder step
    ∙ ap (λ (ds : List Dynamic). recorded_after ds (recorder, step)) is
    ∙ sym (fold-append recorded_after firsts (take i steps) ((recorder, step) ∷ []))
    ∙ ap (recorded firsts) (sym (take_get steps i (recorder, step) there))

draws_more : (steps : List (ℕ × Step)) (i recorder : ℕ) (step : Step) → slice_get steps i ≡ Some (recorder, step)
    → draws_from firsts (take (suc i) steps) ≡ draws_from firsts (take i steps) ++ draws_from (recorded firsts (take i steps)) ((recorder, step) ∷ [])
draws_more steps i recorder step there =
    ap (draws_from firsts) (take_get steps i (recorder, step) there) ∙ draws_from-append firsts (take i steps) ((recorder, step) ∷ [])

-- a line that is no draw makes none
no_draw : (dynamics : List Dynamic) (recorder : ℕ) (step : Step) → is_draw step ≡ false → draws_from dynamics ((recorder, step) ∷ []) ≡ []
no_draw dynamics recorder (Draw pipe call) h = cc
no_draw dynamics recorder (Push at words) h = refl
no_draw dynamics recorder (Vbuf slot buffer) h = refl
no_draw dynamics recorder (Ubuf set binding buffer) h = refl
no_draw dynamics recorder (Scissor rect) h = refl
no_draw dynamics recorder (Bind colour depth) h = refl

pub not_draw : (step : Step) → ((pipe : ℕ) (call : DrawCall) → step ≡ Draw pipe call → ⊥) → is_draw step ≡ false
not_draw (Draw pipe call) h = absurd (h pipe call refl)
not_draw (Push at words) h = refl
not_draw (Vbuf slot buffer) h = refl
not_draw (Ubuf set binding buffer) h = refl
not_draw (Scissor rect) h = refl
not_draw (Bind colour depth) h = refl

same_draws : (steps : List (ℕ × Step)) (i recorder : ℕ) (step : Step) → slice_get steps i ≡ Some (recorder, step) → is_draw step ≡ false
    → draws_from firsts (take i steps) ≡ draws_from firsts (take (suc i) steps)
same_draws steps i recorder step there none =
    sym (append-nil (draws_from firsts (take i steps)))
    ∙ ap (λ (ds : List RecordedDraw). draws_from firsts (take i steps) ++ ds) (sym (no_draw (recorded firsts (take i steps)) recorder step none))
    ∙ sym (draws_more steps i recorder step there)

one_draw : (steps : List (ℕ × Step)) (i recorder pipe : ℕ) (call : DrawCall) (dynamics : List Dynamic) (dynamic : Dynamic) → slice_get steps i ≡ Some (recorder, Draw pipe call)
    → dynamics ≡ recorded firsts (take i steps) → dynamic ≡ dynamic_at dynamics recorder
    → draws_from firsts (take i steps) ++ drawn_by recorder pipe dynamic call ∷ [] ≡ draws_from firsts (take (suc i) steps)
one_draw steps i recorder pipe call dynamics dynamic there is same =
    ap (λ (d : Dynamic). draws_from firsts (take i steps) ++ drawn_by recorder pipe d call ∷ []) same
    ∙ ap (λ (ds : List Dynamic). draws_from firsts (take i steps) ++ drawn_by recorder pipe (dynamic_at ds recorder) call ∷ []) is
    ∙ sym (draws_more steps i recorder (Draw pipe call) there)

next : (P : ℕ → Type 0) (i : ℕ) → P (suc i) → P (i + 1)
next P i h = let same : suc i ≡ i + 1 = omega arith in subst P same h

-- a line that is no draw
pub set_played : (objects : Drawables) (steps : List (ℕ × Step)) (first : Targets) (none : List (ℕ × Rule)) (i recorder : ℕ) (step : Step) (dynamics : List Dynamic) (number : ℕ) (targets : Targets) (refused : List (ℕ × Rule))
    → slice_get steps i ≡ Some (recorder, step) → is_draw step ≡ false → HavePlayed objects steps first none i dynamics number targets refused
    → HavePlayed objects steps first none (i + 1) (slice_set dynamics recorder (after_step (dynamic_at dynamics recorder) step)) number targets refused
set_played objects steps first none i recorder step dynamics number targets refused there none_here h = next
    (λ (n : ℕ). HavePlayed objects steps first none n (slice_set dynamics recorder (after_step (dynamic_at dynamics recorder) step)) number targets refused) i (record {
      set = recorded_more steps i recorder step dynamics there h.set;
      count = h.count ∙ ap length (same_draws steps i recorder step there none_here);
      left = λ trace of before. subst (λ (ds : List RecordedDraw). AreLeftBy trace ds targets refused) (same_draws steps i recorder step there none_here) (h.left trace of before);
    })

length_one : {A : Type 0} (xs : List A) (x : A) → length xs + 1 ≡ length (xs ++ x ∷ [])
length_one xs x = omega (arith, length-append xs (x ∷ []))

-- a draw
pub draw_played : (objects : Drawables) (steps : List (ℕ × Step)) (first : Targets) (none : List (ℕ × Rule)) (i recorder pipe : ℕ) (call : DrawCall) (dynamics : List Dynamic) (dynamic : Dynamic) (number : ℕ)
    (before after : Targets) (refused more : List (ℕ × Rule)) → slice_get steps i ≡ Some (recorder, Draw pipe call) → dynamic ≡ dynamic_at dynamics recorder
    → HavePlayed objects steps first none i dynamics number before refused
    → ((trace : Trace) (front : List RecordedDraw) → AreOf trace objects → number ≡ length front → AreLeftBy trace front before refused → AreLeftBy trace (front ++ drawn_by recorder pipe dynamic call ∷ []) after more)
    → HavePlayed objects steps first none (i + 1) (slice_set dynamics recorder (after_step (dynamic_at dynamics recorder) (Draw pipe call))) (number + 1) after more
draw_played objects steps first none i recorder pipe call dynamics dynamic number before after refused more there same h leaves =
    let is = one_draw steps i recorder pipe call dynamics dynamic there h.set same in
    next (λ (n : ℕ). HavePlayed objects steps first none n (slice_set dynamics recorder (after_step (dynamic_at dynamics recorder) (Draw pipe call))) (number + 1) after more) i (record {
      set = recorded_more steps i recorder (Draw pipe call) dynamics there h.set;
      count = ap (λ (n : ℕ). n + 1) h.count ∙ length_one (draws_from firsts (take i steps)) (drawn_by recorder pipe dynamic call) ∙ ap length is;
      left = λ trace of begins. subst (λ (ds : List RecordedDraw). AreLeftBy trace ds after more) is (leaves trace (draws_from firsts (take i steps)) of h.count (h.left trace of begins));
    })

-- the draw is one of the trace
pub draw_of : (objects : Drawables) (steps : List (ℕ × Step)) (first : Targets) (none : List (ℕ × Rule)) (i recorder pipe : ℕ) (call : DrawCall) (dynamics : List Dynamic) (dynamic : Dynamic) (number : ℕ)
    (targets : Targets) (refused : List (ℕ × Rule)) → slice_get steps i ≡ Some (recorder, Draw pipe call) → dynamic ≡ dynamic_at dynamics recorder
    → IsPlayOf objects steps first none → HavePlayed objects steps first none i dynamics number targets refused
    → IsDrawOf objects number (drawn_by recorder pipe dynamic call) targets refused
draw_of objects steps first none i recorder pipe call dynamics dynamic number targets refused there same play h = record {
  trace = play.trace;
  lawful = play.lawful;
  of = play.of;
  front = draws_from firsts (take i steps);
  rest = draws_from (recorded firsts (take i steps)) (drop (suc i) steps);
  split =
      draws-at play.trace (take i steps) recorder pipe call (drop (suc i) steps) (play.steps_are ∙ split_get steps i (recorder, Draw pipe call) there)
      ∙ ap (λ (ds : List Dynamic). draws_from firsts (take i steps) ++ drawn_by recorder pipe (dynamic_at ds recorder) call ∷ draws_from (recorded firsts (take i steps)) (drop (suc i) steps)) (sym h.set)
      ∙ ap (λ (d : Dynamic). draws_from firsts (take i steps) ++ drawn_by recorder pipe d call ∷ draws_from (recorded firsts (take i steps)) (drop (suc i) steps)) (sym same);
  count = h.count;
  left = h.left play.trace play.of play.left;
}

-- all lines
pub all_played : (objects : Drawables) (steps : List (ℕ × Step)) (first : Targets) (none : List (ℕ × Rule)) (dynamics : List Dynamic) (number : ℕ) (targets : Targets) (refused : List (ℕ × Rule)) (trace : Trace)
    → HavePlayed objects steps first none (length steps) dynamics number targets refused → AreOf trace objects → trace.steps ≡ steps → AreLeftBy trace [] first none
    → AreLeftBy trace (draws_of trace) targets refused
unfolding draws_of
all_played objects steps first none dynamics number targets refused trace h of are before =
    subst (λ (lines : List (ℕ × Step)). AreLeftBy trace (draws_from firsts lines) targets refused) (take_whole steps ∙ sym are) (h.left trace of before)
  where
    take_whole : {A : Type 0} (xs : List A) → take (length xs) xs ≡ xs
    take_whole [] = refl
    take_whole (x ∷ xs) = ap (λ ys. x ∷ ys) (take_whole xs)

-- ---- how many there are

abbrev draw_count : ℕ × Step → ℕ
draw_count s = cond (is_draw s.1) 1 0

count_one : (m n k : ℕ) → m ≡ n → k ≡ 1 + n → suc m ≡ k
count_one m n k h is = omega (arith, h, is)

count_none : (m n k : ℕ) → m ≡ n → k ≡ 0 + n → m ≡ k
count_none m n k h is = omega (arith, h, is)

-- a line that is no draw, in front of others
uncounted : (dynamics : List Dynamic) (recorder : ℕ) (step : Step) (steps : List (ℕ × Step)) (draws : ℕ) → is_draw step ≡ false → draws ≡ sum_by draw_count steps
    → draws ≡ sum_by draw_count ((recorder, step) ∷ steps)
uncounted dynamics recorder step steps draws none h =
    count_none draws (sum_by draw_count steps) (sum_by draw_count ((recorder, step) ∷ steps)) h
    (sum_by-cons draw_count (recorder, step) steps ∙ ap (λ b. cond b 1 0 + sum_by draw_count steps) none)

draws_counted : (dynamics : List Dynamic) (steps : List (ℕ × Step)) → length (draws_from dynamics steps) ≡ sum_by draw_count steps
draws_counted dynamics [] = refl
draws_counted dynamics ((recorder, Draw pipe call) ∷ steps) =
    count_one (length (draws_from dynamics steps)) (sum_by draw_count steps) (sum_by draw_count ((recorder, Draw pipe call) ∷ steps)) (draws_counted dynamics steps)
    (sum_by-cons draw_count (recorder, Draw pipe call) steps)
draws_counted dynamics ((recorder, Push at words) ∷ steps) = uncounted dynamics recorder (Push at words) steps _ refl (draws_counted (recorded_after dynamics (recorder, Push at words)) steps)
draws_counted dynamics ((recorder, Vbuf slot buffer) ∷ steps) = uncounted dynamics recorder (Vbuf slot buffer) steps _ refl (draws_counted (recorded_after dynamics (recorder, Vbuf slot buffer)) steps)
draws_counted dynamics ((recorder, Ubuf set binding buffer) ∷ steps) =
    uncounted dynamics recorder (Ubuf set binding buffer) steps _ refl (draws_counted (recorded_after dynamics (recorder, Ubuf set binding buffer)) steps)
draws_counted dynamics ((recorder, Scissor rect) ∷ steps) = uncounted dynamics recorder (Scissor rect) steps _ refl (draws_counted (recorded_after dynamics (recorder, Scissor rect)) steps)
draws_counted dynamics ((recorder, Bind colour depth) ∷ steps) = uncounted dynamics recorder (Bind colour depth) steps _ refl (draws_counted (recorded_after dynamics (recorder, Bind colour depth)) steps)

pub few_before : (objects : Drawables) (number : ℕ) (drawn : RecordedDraw) (targets : Targets) (refused : List (ℕ × Rule)) → IsDrawOf objects number drawn targets refused → number < DRAWS
unfolding draws_of
few_before objects number drawn targets refused d =
    let all : length (draws_of d.trace) ≡ length d.front + length (drawn ∷ d.rest) = ap length d.split ∙ length-append d.front (drawn ∷ d.rest) in
    let counted : length (draws_of d.trace) ≡ sum_by draw_count d.trace.steps = draws_counted firsts d.trace.steps in
    omega (arith, d.count, all, counted, d.lawful.few_draws)
