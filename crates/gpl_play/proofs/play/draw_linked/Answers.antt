use Rattle.std.proofs.Common.{ℕ, ◌<◌, length, sym, ap, subst}
use Rattle.std.specs.Prelude.{IfSome}
use Rattle.int_device.specs.Modules.{insts_of}
use Rattle.gpl_play.specs.Plays.{Drawables, AreOf, drawn_by}
use Rattle.gpl_play.proofs.PlayLaws.{vertex_is, drawn_lawful, drawn_image}
use Rattle.gpl_play.proofs.play.draw_linked.Goals as goal

pub module_at-vertex-requires : goal.module_at-vertex-requires
module_at-vertex-requires c =
    let of = subst (AreOf c.requires.0) (sym c.objects.view_is) c.requires.1 in
    subst (λ (n : ℕ). (c.args.state.now.prerast).«module» < n) (ap length of.modules) c.requires.2.vertex

pub fragment_module-fragment-requires : goal.fragment_module-fragment-requires
fragment_module-fragment-requires c =
    let of = subst (AreOf c.requires.0) (sym c.objects.view_is) c.requires.1 in
    subst (λ (n : ℕ). IfSome c.args.state.now.fragment (λ part. part.«module» < n)) (ap length of.modules) c.requires.2.fragment

pub draw_modules-requires : goal.draw_modules-requires
draw_modules-requires c =
    let a = c.args in
    let i = c.objects.inside in
    let own : Drawables = record { modules = i.modules.now; buffers = i.buffers.now; links = i.links.now } in
    drawn_lawful c.requires.0 own a.state.now a.dynamic.now a.call.now a.targets.now c.module_at-vertex.result.now.insts (insts_of c.fragment_module-fragment.result)
    (subst (AreOf c.requires.0) (sym c.objects.view_is) c.requires.1) (vertex_is own.modules a.state.now c.module_at-vertex.result.now c.module_at-vertex.ensures) c.fragment_module-fragment.ensures c.requires.2

pub returns : goal.returns
returns c = λ trace recorder pipe of.
    let a = c.args in
    let i = c.objects.inside in
    let own : Drawables = record { modules = i.modules.now; buffers = i.buffers.now; links = i.links.now } in
    drawn_image trace own a.state.now (drawn_by recorder pipe a.dynamic.now a.call.now) a.targets.now c.draw_modules.new.targets c.module_at-vertex.result.now.insts (insts_of c.fragment_module-fragment.result)
    (subst (AreOf trace) (sym c.objects.view_is) of) (vertex_is own.modules a.state.now c.module_at-vertex.result.now c.module_at-vertex.ensures) c.fragment_module-fragment.ensures c.in_ok-draw_modules.ensures.image
