-- The draws of lines one after another: those of the lines in front, and then those of the others, where recorders draw with what
-- the lines in front have set.
use Rattle.std.proofs.Common.{◌≡◌, ℕ, List, [], ◌∷◌, ◌++◌, replicate, refl, ap, ◌∙◌}
use Rattle.std.specs.Prelude.{slice_set}
use Rattle.std.specs.List.{fold}
use Rattle.draw_model.specs.declared.command.Dynamic.{Dynamic}
use Rattle.draw_model.specs.declared.command.DrawCall.{DrawCall}
use Rattle.trace_model.specs.declared.limit.TheConstants.{RECORDERS}
use Rattle.trace_model.specs.declared.whole.Step.{Step}
use Rattle.trace_model.specs.declared.whole.Step.TheVariants.{Push, Vbuf, Ubuf, Scissor, Bind, Draw}
use Rattle.trace_model.specs.declared.whole.Trace.{Trace}
use Rattle.trace_model.specs.Playing.{first_dynamic, after_step, RecordedDraw, dynamic_at, draws_from, draws_of}

-- what recorders draw with after a line
abbrev pub recorded_after : List Dynamic → ℕ × Step → List Dynamic
recorded_after dynamics (recorder, Draw pipe call) = dynamics
recorded_after dynamics (recorder, step) = slice_set dynamics recorder (after_step (dynamic_at dynamics recorder) step)

-- after lines
abbrev pub recorded : List Dynamic → List (ℕ × Step) → List Dynamic
recorded dynamics steps = fold recorded_after dynamics steps

pub draws_from-append : (dynamics : List Dynamic) (front rest : List (ℕ × Step)) → draws_from dynamics (front ++ rest) ≡ draws_from dynamics front ++ draws_from (recorded dynamics front) rest
draws_from-append dynamics [] rest = refl
draws_from-append dynamics ((recorder, Draw pipe call) ∷ front) rest =
    ap (λ (draws : List RecordedDraw). record { recorder = recorder; pipe = pipe; dynamic = dynamic_at dynamics recorder; call = call } ∷ draws) (draws_from-append dynamics front rest)
draws_from-append dynamics ((recorder, Push at words) ∷ front) rest = draws_from-append (recorded_after dynamics (recorder, Push at words)) front rest
draws_from-append dynamics ((recorder, Vbuf slot buffer) ∷ front) rest = draws_from-append (recorded_after dynamics (recorder, Vbuf slot buffer)) front rest
draws_from-append dynamics ((recorder, Ubuf set binding buffer) ∷ front) rest = draws_from-append (recorded_after dynamics (recorder, Ubuf set binding buffer)) front rest
draws_from-append dynamics ((recorder, Scissor rect) ∷ front) rest = draws_from-append (recorded_after dynamics (recorder, Scissor rect)) front rest
draws_from-append dynamics ((recorder, Bind colour depth) ∷ front) rest = draws_from-append (recorded_after dynamics (recorder, Bind colour depth)) front rest

-- the draws of a trace, at a draw
pub draws-at : (trace : Trace) (front : List (ℕ × Step)) (recorder pipe : ℕ) (call : DrawCall) (rest : List (ℕ × Step)) → trace.steps ≡ front ++ (recorder, Draw pipe call) ∷ rest
    → draws_of trace
    ≡ draws_from (replicate RECORDERS first_dynamic) front
    ++ record { recorder = recorder; pipe = pipe; dynamic = dynamic_at (recorded (replicate RECORDERS first_dynamic) front) recorder; call = call }
    ∷ draws_from (recorded (replicate RECORDERS first_dynamic) front) rest
unfolding draws_of
draws-at trace front recorder pipe call rest h =
    ap (draws_from (replicate RECORDERS first_dynamic)) h ∙ draws_from-append (replicate RECORDERS first_dynamic) front ((recorder, Draw pipe call) ∷ rest)
