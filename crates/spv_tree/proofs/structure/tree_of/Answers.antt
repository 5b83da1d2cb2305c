use Rattle.std.proofs.Common.{Err, ap, arith, ◌∙◌}
use Rattle.std.proofs.lemmas.Result.{err_from_is_err_and}
use Rattle.body_model.proofs.FaultLaws.{not_both}
use Rattle.spv_tree.proofs.WholeTrees.{begins_within, is_tree, function_fails, sequence_fails, closing_fails, exactly, that_fault}
use Rattle.spv_tree.proofs.structure.tree_of.Goals as goal

pub overflow_add-first : goal.overflow_add-first
overflow_add-first c = omega (arith, begins_within c.args.insts.now c.in_ok-first.first c.in_ok-first.ensures)

pub returns-in_err-first-clause-fault : goal.returns-in_err-first-clause-fault
returns-in_err-first-clause-fault c =
    let p = err_from_is_err_and c.from_residual.result c.from_residual.ensures.1 in
    function_fails c.args.insts.now c.from_residual.result c.in_err-first.field-0.0 (p.1 ∙ ap Err p.2) c.in_err-first.ensures

pub returns-in_err-first-clause-exact : goal.returns-in_err-first-clause-exact
returns-in_err-first-clause-exact c = exactly c.args.insts.now c.from_residual.result (returns-in_err-first-clause-fault c)

pub returns-in_err-first-clause-only : goal.returns-in_err-first-clause-only
returns-in_err-first-clause-only c = that_fault c.args.insts.now c.from_residual.result (returns-in_err-first-clause-fault c)

pub returns-in_err-read-clause-fault : goal.returns-in_err-read-clause-fault
returns-in_err-read-clause-fault c =
    let insts = c.args.insts.now in
    let p = err_from_is_err_and c.from_residual-in_err-read.result c.from_residual-in_err-read.ensures.1 in
    sequence_fails insts c.from_residual-in_err-read.result c.in_ok-first.first _ c.in_err-read.field-0.0 (p.1 ∙ ap Err p.2) c.in_ok-first.ensures c.main.ensures c.in_err-read.ensures

pub returns-in_err-read-clause-exact : goal.returns-in_err-read-clause-exact
returns-in_err-read-clause-exact c = exactly c.args.insts.now c.from_residual-in_err-read.result (returns-in_err-read-clause-fault c)

pub returns-in_err-read-clause-only : goal.returns-in_err-read-clause-only
returns-in_err-read-clause-only c = that_fault c.args.insts.now c.from_residual-in_err-read.result (returns-in_err-read-clause-fault c)

pub returns-in_err-closed-clause-fault : goal.returns-in_err-closed-clause-fault
returns-in_err-closed-clause-fault c =
    let insts = c.args.insts.now in
    let read = c.in_ok-read.read in
    let p = err_from_is_err_and c.from_residual-in_err-closed.result c.from_residual-in_err-closed.ensures.1 in
    closing_fails insts c.from_residual-in_err-closed.result c.in_ok-first.first read.place read.next _ read.run c.in_err-closed.field-0.0 (p.1 ∙ ap Err p.2)
    c.in_ok-first.ensures c.main.ensures c.in_ok-read.ensures c.in_err-closed.ensures

pub returns-in_err-closed-clause-exact : goal.returns-in_err-closed-clause-exact
returns-in_err-closed-clause-exact c = exactly c.args.insts.now c.from_residual-in_err-closed.result (returns-in_err-closed-clause-fault c)

pub returns-in_err-closed-clause-only : goal.returns-in_err-closed-clause-only
returns-in_err-closed-clause-only c = that_fault c.args.insts.now c.from_residual-in_err-closed.result (returns-in_err-closed-clause-fault c)

pub returns-clause-derived : goal.returns-clause-derived
returns-clause-derived c =
    let read = c.in_ok-read.read in
    is_tree c.args.insts.now c.in_ok-first.first read.place read.next _ _ c.in_ok-first.ensures c.main.ensures c.in_ok-read.ensures c.in_ok-closed.ensures

pub returns-clause-fault : goal.returns-clause-fault
returns-clause-fault c = (returns-clause-derived c).derives

pub returns-clause-only : goal.returns-clause-only
returns-clause-only c = λ fault has. not_both c.args.insts.now fault (returns-clause-derived c).derives has
