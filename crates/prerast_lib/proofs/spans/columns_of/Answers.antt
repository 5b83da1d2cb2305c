use Rattle.std.proofs.Common.{◌≡◌, ◌<◌, ◌^◌, ℤ, w64, to_z, of_z, ap, ◌∙◌, subst, rules}
use Rattle.std.specs.Int.Signed.{◌≤ℤ◌}
use Rattle.std.proofs.lemmas.Int.{to_z-of_z}
use lib.Signed.{mag}
use Rattle.draw_model.specs.declared.position.Position.{Position}
use Rattle.draw_model.specs.Coverage.{corner}
use Rattle.prerast_lib.specs.Spans.{IsSpan}
use Rattle.prerast_lib.proofs.BoxLaws.{hold_columns}
use Rattle.prerast_lib.proofs.spans.columns_of.Goals as goal

-- a number that fits is what its bits say
read : (z : ℤ) → mag z < 2 ^ 63 → to_z w64 (of_z w64 z) ≡ z
read z small = to_z-of_z w64 z (record { sfits = small })

pub returns : goal.returns
returns c =
    let span : IsSpan c.least.result c.greatest.result c.args.start c.args.extent c.span.result.0 c.span.result.1 =
    rw (read c.least.result c.least.type_inv, read c.greatest.result c.greatest.type_inv) at c.span.ensures in
    let at_a : to_z w64 (of_z w64 c.position_of-a.result.x) ≡ (corner c.args.corners.now 0).x =
    read c.position_of-a.result.x (search rules) ∙ ap (λ (p : Position). p.x) c.position_of-a.ensures in
    let at_b : to_z w64 (of_z w64 c.position_of-b.result.x) ≡ (corner c.args.corners.now 1).x =
    read c.position_of-b.result.x (search rules) ∙ ap (λ (p : Position). p.x) c.position_of-b.ensures in
    let at_c : to_z w64 (of_z w64 c.position_of-c.result.x) ≡ (corner c.args.corners.now 2).x =
    read c.position_of-c.result.x (search rules) ∙ ap (λ (p : Position). p.x) c.position_of-c.ensures in
    hold_columns c.args.corners.now c.least.result c.greatest.result c.args.start c.args.extent c.span.result.0 c.span.result.1 span
    (subst (λ (z : ℤ). c.least.result ≤ℤ z) at_a c.least.ensures.a) (subst (λ (z : ℤ). c.least.result ≤ℤ z) at_b c.least.ensures.b) (subst (λ (z : ℤ). c.least.result ≤ℤ z) at_c c.least.ensures.c)
    (subst (λ (z : ℤ). z ≤ℤ c.greatest.result) at_a c.greatest.ensures.a) (subst (λ (z : ℤ). z ≤ℤ c.greatest.result) at_b c.greatest.ensures.b) (subst (λ (z : ℤ). z ≤ℤ c.greatest.result) at_c c.greatest.ensures.c)
