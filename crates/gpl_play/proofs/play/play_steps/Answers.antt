use Rattle.std.proofs.Common.{◌≡◌, ℕ, ◌+◌, List, length, refl, sym, ap, ◌∙◌, subst, arith, Some}
use Rattle.std.specs.Prelude.{slice_set}
use Rattle.std.proofs.lemmas.Option.{slice_get_read}
use Rattle.draw_model.specs.declared.command.Dynamic.{Dynamic}
use Rattle.trace_model.specs.LawfulPlay.{counts_of}
use Rattle.trace_model.specs.declared.whole.Step.{Step}
use Rattle.trace_model.specs.Playing.{after_step, dynamic_at}
use Rattle.gpl_play.specs.Plays.{drawn_by}
use Rattle.gpl_play.proofs.PlaySteps.{HavePlayed, step_is, not_draw, set_played, draw_played, draw_of, drawn_with, all_played, few_before}
use Rattle.gpl_play.proofs.play.play_steps.Goals as goal

pub take_line-requires-clause-recorder : goal.take_line-requires-clause-recorder
take_line-requires-clause-recorder c =
    let l = c.loop-recorder in
    let a = c.args in
    let item = c.loop-recorder-item.result in
    let there = slice_get_read a.steps.now (length a.steps.now) l.recorder-index item refl c.loop-recorder-test.true c.loop-recorder-item.is in
    (step_is a.objects.now a.steps.now a.left.now.targets a.left.now.refused.items l.recorder-index item.0 item.1 c.requires there).0

pub take_line-requires-clause-places : goal.take_line-requires-clause-places
take_line-requires-clause-places c =
    let l = c.loop-recorder in
    let a = c.args in
    let item = c.loop-recorder-item.result in
    let there = slice_get_read a.steps.now (length a.steps.now) l.recorder-index item refl c.loop-recorder-test.true c.loop-recorder-item.is in
    (counts_of c.requires.trace, (step_is a.objects.now a.steps.now a.left.now.targets a.left.now.refused.items l.recorder-index item.0 item.1 c.requires there).1)

pub loop-recorder-preserved-in_default : goal.loop-recorder-preserved-in_default
loop-recorder-preserved-in_default c =
    let l = c.loop-recorder in
    let a = c.args in
    let item = c.loop-recorder-item.result in
    let there = slice_get_read a.steps.now (length a.steps.now) l.recorder-index item refl c.loop-recorder-test.true c.loop-recorder-item.is in
    subst (λ (ds : List Dynamic). HavePlayed a.objects.now a.steps.now a.left.now.targets a.left.now.refused.items (l.recorder-index + 1) ds l.number l.left.targets l.left.refused.items)
    (sym c.take_line.ensures)
    (set_played a.objects.now a.steps.now a.left.now.targets a.left.now.refused.items l.recorder-index item.0 item.1 l.dynamics l.number l.left.targets l.left.refused.items
    there (not_draw item.1 c.in_default.not-Draw) l.invariant)

pub play_draw-requires : goal.play_draw-requires
play_draw-requires c =
    let l = c.loop-recorder in
    let a = c.args in
    let item = c.loop-recorder-item.result in
    let there = slice_get_read a.steps.now (length a.steps.now) l.recorder-index item refl c.loop-recorder-test.true c.loop-recorder-item.is in
    let drawn = drawn_with l.dynamics c.take_line.new.dynamics item.0 item.1 c.in-Draw.pipe c.in-Draw.call c.dynamic_of-dynamic.result.now c.take_line.ensures c.in-Draw.is c.dynamic_of-dynamic.ensures in (
      item.0,
      draw_of a.objects.now a.steps.now a.left.now.targets a.left.now.refused.items l.recorder-index item.0 c.in-Draw.pipe c.in-Draw.call l.dynamics c.dynamic_of-dynamic.result.now l.number l.left.targets l.left.refused.items
          (there ∙ ap (λ (step : Step). Some (item.0, step)) c.in-Draw.is) drawn c.requires l.invariant,
    )

pub overflow_add-number : goal.overflow_add-number
overflow_add-number c =
    let l = c.loop-recorder in
    let a = c.args in
    let item = c.loop-recorder-item.result in
    let there = slice_get_read a.steps.now (length a.steps.now) l.recorder-index item refl c.loop-recorder-test.true c.loop-recorder-item.is in
    let drawn = drawn_with l.dynamics c.take_line.new.dynamics item.0 item.1 c.in-Draw.pipe c.in-Draw.call c.dynamic_of-dynamic.result.now c.take_line.ensures c.in-Draw.is c.dynamic_of-dynamic.ensures in
    let few = few_before a.objects.now l.number (drawn_by item.0 c.in-Draw.pipe c.dynamic_of-dynamic.result.now c.in-Draw.call) l.left.targets l.left.refused.items
    (draw_of a.objects.now a.steps.now a.left.now.targets a.left.now.refused.items l.recorder-index item.0 c.in-Draw.pipe c.in-Draw.call l.dynamics c.dynamic_of-dynamic.result.now l.number l.left.targets l.left.refused.items
    (there ∙ ap (λ (step : Step). Some (item.0, step)) c.in-Draw.is) drawn c.requires l.invariant) in
    omega (arith, few)

pub loop-recorder-preserved : goal.loop-recorder-preserved
loop-recorder-preserved c =
    let l = c.loop-recorder in
    let a = c.args in
    let item = c.loop-recorder-item.result in
    let there = slice_get_read a.steps.now (length a.steps.now) l.recorder-index item refl c.loop-recorder-test.true c.loop-recorder-item.is in
    let drawn = drawn_with l.dynamics c.take_line.new.dynamics item.0 item.1 c.in-Draw.pipe c.in-Draw.call c.dynamic_of-dynamic.result.now c.take_line.ensures c.in-Draw.is c.dynamic_of-dynamic.ensures in
    subst
    (λ (ds : List Dynamic). HavePlayed a.objects.now a.steps.now a.left.now.targets a.left.now.refused.items (l.recorder-index + 1) ds (l.number + 1) c.play_draw.new.left.targets c.play_draw.new.left.refused.items)
    (sym (c.take_line.ensures ∙ ap (λ (step : Step). slice_set l.dynamics item.0 (after_step (dynamic_at l.dynamics item.0) step)) c.in-Draw.is))
    (draw_played a.objects.now a.steps.now a.left.now.targets a.left.now.refused.items l.recorder-index item.0 c.in-Draw.pipe c.in-Draw.call l.dynamics c.dynamic_of-dynamic.result.now l.number l.left.targets c.play_draw.new.left.targets
    l.left.refused.items c.play_draw.new.left.refused.items (there ∙ ap (λ (step : Step). Some (item.0, step)) c.in-Draw.is) drawn l.invariant
    (λ trace front of is left. c.in_ok-play_draw.ensures trace front item.0 of is left))

pub returns : goal.returns
returns c = λ trace of are before.
    let l = c.loop-recorder in
    let a = c.args in
    let all : l.recorder-index ≡ length a.steps.now = omega arith in
    all_played a.objects.now a.steps.now a.left.now.targets a.left.now.refused.items l.dynamics l.number l.left.targets l.left.refused.items trace
    (subst (λ (n : ℕ). HavePlayed a.objects.now a.steps.now a.left.now.targets a.left.now.refused.items n l.dynamics l.number l.left.targets l.left.refused.items) all l.invariant)
    of are before
