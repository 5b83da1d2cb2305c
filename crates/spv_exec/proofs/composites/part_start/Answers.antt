use Rattle.std.proofs.Common.{◌≡◌, refl, subst, arith, slice_index, drop, ◌+◌, Option, Some}
use Rattle.std.proofs.lemmas.List.{drop_more, drop_all}
use Rattle.stage_model.specs.Value.{Layout}
use Rattle.stage_model.specs.Program.{program_of}
use Rattle.spv_exec.specs.declared.module_frame.Part.{Part}
use Rattle.spv_exec.specs.ModuleFrames.{AnswersPart}
use Rattle.spv_exec.proofs.PartStarts.{Reaches, leads, part_there, part_next, part_end}
use Rattle.spv_exec.proofs.composites.part_start.Goals as goal

pub loop-literal-init : goal.loop-literal-init
loop-literal-init c = λ layout part start known less along. leads layout start known along (omega arith)

pub returns-in_default : goal.returns-in_default
returns-in_default c = λ layout part start known less along.
    let program = program_of c.args.of.now.insts in let whole = c.loop-literal.whole in let literal = slice_index c.args.literals.now c.loop-literal.literal-index in
    let rest = drop_more c.args.literals.now c.loop-literal.literal-index 0 c.loop-literal-test.true in
    let here = subst (λ l. Reaches program whole l start part c.loop-literal.start) rest (c.loop-literal.invariant layout part start known less along) in
    absurd (part_there program whole literal (drop (c.loop-literal.literal-index + 1) c.args.literals.now) start part c.loop-literal.start here
    (subst (λ (o : Option Part). (layout : Layout) → program.layout whole ≡ Some layout → AnswersPart program layout literal o) c.in_default.is c.part.ensures))

pub loop-literal-preserved : goal.loop-literal-preserved
loop-literal-preserved c = λ layout part start known less along.
    let program = program_of c.args.of.now.insts in let whole = c.loop-literal.whole in let literal = slice_index c.args.literals.now c.loop-literal.literal-index in
    let rest = drop_more c.args.literals.now c.loop-literal.literal-index 0 c.loop-literal-test.true in
    let here = subst (λ l. Reaches program whole l start part c.loop-literal.start) rest (c.loop-literal.invariant layout part start known less along) in
    part_next program whole literal (drop (c.loop-literal.literal-index + 1) c.args.literals.now) start part c.loop-literal.start c.in-Some.part _ less refl here
    (subst (λ (o : Option Part). (layout : Layout) → program.layout whole ≡ Some layout → AnswersPart program layout literal o) c.in-Some.is c.part.ensures)

pub returns : goal.returns
returns c = λ layout part start known less along.
    part_end (program_of c.args.of.now.insts) c.loop-literal.whole (drop c.loop-literal.literal-index c.args.literals.now) start part c.loop-literal.start (c.loop-literal.invariant layout part start known less along)
    (drop_all c.loop-literal.literal-index c.args.literals.now c.loop-literal-test.false)
