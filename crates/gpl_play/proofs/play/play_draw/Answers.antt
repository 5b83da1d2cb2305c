use Rattle.std.proofs.Common.{◌<◌, length, sym, ap, ◌∙◌, subst, Some}
use Rattle.std.specs.Prelude.{slice_get}
use Rattle.gpl_play.specs.Plays.{Drawables, drawn_by}
use Rattle.gpl_play.proofs.PlayLaws.{linked_left, refused_left, pipe_within, drawable}
use Rattle.gpl_play.proofs.play.play_draw.Goals as goal

pub link_at-requires : goal.link_at-requires
link_at-requires c =
    let a = c.args in
    subst (λ (o : Drawables). a.pipe < length o.links) (sym c.objects.view_is)
    (pipe_within a.objects.now a.number (drawn_by c.requires.0 a.pipe a.dynamic.now a.call.now) a.left.now.targets a.left.now.refused.items c.requires.1)

pub draw_linked-requires : goal.draw_linked-requires
draw_linked-requires c =
    let a = c.args in (
      c.requires.1.trace,
      c.requires.1.of,
      drawable a.objects.now a.number (drawn_by c.requires.0 a.pipe a.dynamic.now a.call.now) a.left.now.targets a.left.now.refused.items c.in-Ok.state c.requires.1
          (ap (λ (o : Drawables). slice_get o.links a.pipe) (sym c.objects.view_is) ∙ c.link_at.ensures ∙ ap Some c.in-Ok.is),
    )

pub returns-in_ok-draw_linked-in-Ok : goal.returns-in_ok-draw_linked-in-Ok
returns-in_ok-draw_linked-in-Ok c = λ trace front recorder of is left.
    let a = c.args in
    linked_left trace front (drawn_by recorder a.pipe a.dynamic.now a.call.now) a.left.now.targets c.draw_linked.new.targets a.left.now.refused.items c.in-Ok.state
    (of.links.each a.pipe _ (ap (λ (o : Drawables). slice_get o.links a.pipe) (sym c.objects.view_is) ∙ c.link_at.ensures ∙ ap Some c.in-Ok.is))
    left (c.in_ok-draw_linked-in-Ok.ensures trace recorder a.pipe of)

pub returns-in_ok-push-in-Err : goal.returns-in_ok-push-in-Err
returns-in_ok-push-in-Err c = λ trace front recorder of is left.
    let a = c.args in
    let more = refused_left trace front (drawn_by recorder a.pipe a.dynamic.now a.call.now) a.left.now.targets a.left.now.refused.items a.number c.in-Err.rule
    (of.links.each a.pipe _ (ap (λ (o : Drawables). slice_get o.links a.pipe) (sym c.objects.view_is) ∙ c.link_at.ensures ∙ ap Some c.in-Err.is)) is left in
    record { targets_are = more.targets_are; refused_are = c.in_ok-push-in-Err.ensures.items ∙ more.refused_are }
