use Rattle.std.proofs.Common.{◌≡◌, ℕ, ◌+◌, List, length, sym, subst, arith, Result}
use Rattle.state_model.specs.declared.parts.State.{State}
use Rattle.state_model.specs.declared.rule.Rule.{Rule}
use Rattle.state_model.specs.Link.{Libraries}
use Rattle.link_rules.specs.Libs.{libraries}
use Rattle.gpl_play.specs.Links.{AreLinksUntil, IsLinkOf}
use Rattle.gpl_play.proofs.PipeLinks.{given_at, links_more, links_all}
use Rattle.gpl_play.proofs.links.link_pipes.Goals as goal

pub loop-pipe-preserved : goal.loop-pipe-preserved
loop-pipe-preserved c =
    let l = c.loop-pipe in
    let a = c.args in
    let given = given_at a.modules.now a.libs.now a.pipes.now l.pipe-index c.pipe-item.result c.as_slice.result.now (libraries c.in_ok-given.given) c.loop-pipe-test.true c.pipe-item.is c.as_slice.ensures c.in_ok-given.ensures.libraries in
    subst (λ (links : List (Result State Rule)). AreLinksUntil a.modules.now a.libs.now a.pipes.now (l.pipe-index + 1) links) (sym {A = List (Result State Rule)} c.in_ok-push.ensures.items)
    (links_more a.modules.now a.libs.now a.pipes.now l.pipe-index l.links.items c.state_of.result l.invariant
    (subst (λ (libs : Libraries). IsLinkOf libs c.state_of.result) given c.state_of.ensures))

pub returns : goal.returns
returns c = λ trace has.
    let l = c.loop-pipe in
    let a = c.args in
    let all : l.pipe-index ≡ length a.pipes.now = omega arith in
    links_all trace a.modules.now a.libs.now a.pipes.now l.links.items has
    (subst (λ (n : ℕ). AreLinksUntil a.modules.now a.libs.now a.pipes.now n l.links.items) all l.invariant)
