use Rattle.std.proofs.Common.{◌≡◌, ℕ, false, List, [], ◌∷◌, None, refl, ap, ◌∙◌}
use Rattle.trace_model.specs.SetupLines.{target_form}
use Rattle.trace_text.specs.Parts.{is_empty}
use Rattle.trace_text.proofs.setup_lines.target_form.Goals as goal

-- a field more than a target has
one_more : (a b c d e f g : List ℕ) (rest fields : List (List ℕ)) → is_empty rest ≡ false → fields ≡ a ∷ b ∷ c ∷ d ∷ e ∷ f ∷ g ∷ rest → target_form fields ≡ None
unfolding target_form
one_more a b c d e f g [] fields h is = cc
one_more a b c d e f g (x ∷ rest) fields h is = ap target_form is ∙ refl

pub returns-then-not-is_done-clause-said : goal.returns-then-not-is_done-clause-said
returns-then-not-is_done-clause-said c =
    one_more _ _ _ _ _ _ _ c.next_seven.new.self c.args.fields.now c.if-not-is_done.ensures c.in_ok-recorder.ensures
