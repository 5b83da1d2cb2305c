use Rattle.std.proofs.Common.{ℕ, ◌+◌, List, drop, get_or, refl, sym, subst}
use Rattle.std.proofs.lemmas.List.{drop_more, drop_all}
use Rattle.stage_model.specs.Program.{program_of}
use Rattle.frame_model.specs.Frame.{OUTSIDE}
use Rattle.spv_exec.specs.Chains.{ComesTo}
use Rattle.spv_exec.proofs.ChainWords.{comes_outside, comes_further, comes_here}
use Rattle.spv_exec.proofs.accesses.along.Goals as goal

pub returns-in_default : goal.returns-in_default
unfolding program_of
returns-in_default c =
    let program = program_of c.args.of.now.insts in let frame = c.args.frame.now in let ids = c.args.ids.now in let index = c.loop-id.id-index in
    let here = comes_outside program frame c.loop-id.at c.loop-id.held (get_or ids index 0) (drop (index + 1) ids) c.word_of.result c.word_of.ensures c.in_default.ensures in
    c.loop-id.invariant OUTSIDE (subst (λ (l : List ℕ). ComesTo program frame c.loop-id.at c.loop-id.held l OUTSIDE) (sym (drop_more ids index 0 c.loop-id-test.true)) here)

pub loop-id-preserved : goal.loop-id-preserved
unfolding program_of
loop-id-preserved c = λ word comes.
    let program = program_of c.args.of.now.insts in let frame = c.args.frame.now in let ids = c.args.ids.now in let index = c.loop-id.id-index in
    let here =
    comes_further program frame c.loop-id.at c.loop-id.held (get_or ids index 0) (drop (index + 1) ids) c.word_of.result c.in-Some.part.start _ c.in-Some.part.ty word c.word_of.ensures (λ layout known. c.in-Some.ensures layout known) refl comes in
    c.loop-id.invariant word (subst (λ (l : List ℕ). ComesTo program frame c.loop-id.at c.loop-id.held l word) (sym (drop_more ids index 0 c.loop-id-test.true)) here)

pub returns : goal.returns
returns c =
    let program = program_of c.args.of.now.insts in let frame = c.args.frame.now in let ids = c.args.ids.now in
    c.loop-id.invariant c.loop-id.at
    (subst (λ (l : List ℕ). ComesTo program frame c.loop-id.at c.loop-id.held l c.loop-id.at) (sym (drop_all c.loop-id.id-index ids c.loop-id-test.false)) (comes_here program frame c.loop-id.at c.loop-id.held))
