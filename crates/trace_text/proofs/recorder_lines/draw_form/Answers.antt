use Rattle.std.proofs.Common.{◌≡◌, ℕ, false, List, [], ◌∷◌, None, refl, ap, ◌∙◌}
use Rattle.trace_model.specs.RecorderLines.{draw_form}
use Rattle.trace_text.specs.Parts.{is_empty}
use Rattle.trace_text.proofs.recorder_lines.draw_form.Goals as goal

-- a field more than a draw has
one_more : (a b c d e f : List ℕ) (rest fields : List (List ℕ)) → is_empty rest ≡ false → fields ≡ a ∷ b ∷ c ∷ d ∷ e ∷ f ∷ rest → draw_form fields ≡ None
unfolding draw_form
one_more a b c d e f [] fields h is = cc
one_more a b c d e f (x ∷ rest) fields h is = ap draw_form is ∙ refl

pub returns-then-not-is_done : goal.returns-then-not-is_done
returns-then-not-is_done c = one_more _ _ _ _ _ _ c.next_six.new.self c.args.fields.now c.if-not-is_done.ensures c.in_ok-recorder.ensures
