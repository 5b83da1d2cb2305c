use Rattle.std.proofs.Common.{◌≡◌, ℕ, ◌+◌, ◌<◌, ◌-◌, subst, arith, Option, None}
use Rattle.stage_model.specs.declared.outcome.Kind.{Kind}
use Rattle.stage_model.specs.Stage.{enough_steps}
use Rattle.spv_exec.specs.Walks.{StepsTo}
use Rattle.spv_exec.proofs.WalkRuns.{somewhere, stands_some, has_room, one_left, step_on, step_ends, no_end}
use Rattle.spv_exec.proofs.walk.walk.Goals as goal

pub step-requires-clause-stands : goal.step-requires-clause-stands
step-requires-clause-stands c =
    let w = somewhere c.args.of.now c.args.first c.args.frame.now c.args.incoming.now c.args.memory.now c.loop-kind.at c.loop-kind.frame c.loop-kind.incoming c.loop-kind.memory c.requires c.loop-kind.invariant in
    stands_some c.args.of.now c.loop-kind.at c.loop-kind.frame c.loop-kind.incoming c.loop-kind.memory w.0 w.1 w.2

pub step-requires-clause-room : goal.step-requires-clause-room
step-requires-clause-room c =
    let w = somewhere c.args.of.now c.args.first c.args.frame.now c.args.incoming.now c.args.memory.now c.loop-kind.at c.loop-kind.frame c.loop-kind.incoming c.loop-kind.memory c.requires c.loop-kind.invariant in
    has_room c.args.of.now c.loop-kind.at c.loop-kind.frame c.loop-kind.incoming c.loop-kind.memory w.0 w.1 w.2

pub returns-in-Some : goal.returns-in-Some
returns-in-Some c = λ m kind state stands ends.
    let w = c.loop-kind.invariant m kind state stands ends in
    step_ends c.args.of.now c.loop-kind.at c.step.new.at c.loop-kind.frame c.loop-kind.incoming c.loop-kind.memory c.step.new.frame c.step.new.incoming c.step.new.memory c.in-Some.kind kind state w (c.in-Some.ensures.steps w.machine w.stands)

pub loop-kind-smaller : goal.loop-kind-smaller
loop-kind-smaller c =
    let w = somewhere c.args.of.now c.args.first c.args.frame.now c.args.incoming.now c.args.memory.now c.loop-kind.at c.loop-kind.frame c.loop-kind.incoming c.loop-kind.memory c.requires c.loop-kind.invariant in
    let less = one_left c.args.of.now c.loop-kind.at c.loop-kind.frame c.loop-kind.incoming c.loop-kind.memory w.0 w.1 w.2 in
    omega (arith, less, c.step.ensures.work)

pub loop-kind-preserved : goal.loop-kind-preserved
loop-kind-preserved c = λ m kind state stands ends.
    let w = c.loop-kind.invariant m kind state stands ends in
    step_on c.args.of.now c.loop-kind.at c.step.new.at c.loop-kind.frame c.loop-kind.incoming c.loop-kind.memory c.step.new.frame c.step.new.incoming c.step.new.memory kind state w c.step.ensures.work
    (subst (λ (found : Option Kind). StepsTo c.args.of.now w.machine found c.step.new.at c.step.new.frame c.step.new.incoming c.step.new.memory) (no_end c.step.result c.in_default.not-Some) (c.step.ensures.steps w.machine w.stands))
