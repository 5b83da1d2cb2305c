use Rattle.std.proofs.Common.{◌≡◌, ℕ, [], ◌∷◌, ◌++◌, length, ap, ◌∙◌, arith, false, Option}
use Rattle.state_model.specs.declared.rule.Rule.{Rule}
use Rattle.state_model.specs.Link.{failed_rule}
use Rattle.link_rules.specs.Libs.{libraries}
use Rattle.gpl_play.proofs.PipeLinks.{given_at, rules_until, rules_more, rules_all}
use Rattle.gpl_play.proofs.links.rules_of_pipes.Goals as goal

pub loop-pipe-preserved : goal.loop-pipe-preserved
loop-pipe-preserved c =
    let l = c.loop-pipe in
    let a = c.args in
    let made = libraries c.in_ok-given.given in
    let given = given_at a.modules.now a.libs.now a.pipes.now l.pipe-index c.pipe-item.result c.as_slice.result.now made c.loop-pipe-test.true c.pipe-item.is c.as_slice.ensures c.in_ok-given.ensures.libraries in
    c.in_ok-push.ensures.items
    ∙ ap (λ (fast : Option Rule). l.rules.items ++ (fast, c.err-in-loop-pipe.result) ∷ []) (c.err.ensures.value ∙ c.link.ensures)
    ∙ ap (λ (optimised : Option Rule). l.rules.items ++ (failed_rule made false, optimised) ∷ []) (c.err-in-loop-pipe.ensures.value ∙ c.link-in-loop-pipe.ensures)
    ∙ rules_more a.modules.now a.libs.now a.pipes.now l.pipe-index l.rules.items made l.invariant given

pub returns : goal.returns
returns c = λ trace has.
    let l = c.loop-pipe in
    let a = c.args in
    let all : l.pipe-index ≡ length a.pipes.now = omega arith in
    l.invariant ∙ ap (λ (n : ℕ). rules_until a.modules.now a.libs.now a.pipes.now n) all ∙ rules_all trace a.modules.now a.libs.now a.pipes.now has
