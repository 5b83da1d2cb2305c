use Rattle.std.proofs.Common.{arith, sym, ◌∙◌}
use Rattle.body_model.specs.Due.{only}
use Rattle.body_model.specs.Faults.{no_block}
use Rattle.body_model.proofs.Dues.{due_within}
use Rattle.spv_tree.specs.Barred.{barred_by, scope_in}
use Rattle.spv_tree.proofs.TargetTables.{barred}
use Rattle.spv_tree.proofs.FaultReasons.{reason_for, block_found}
use Rattle.spv_tree.proofs.sequence.due_block.Goals as goal

pub returns-in-Some : goal.returns-in-Some
returns-in-Some c = reason_for _ c.args.insts.now c.in-Some.fault (λ reached. no_block reached (sym c.missing.ensures ∙ c.in-Some.is))

pub block_end-requires-clause-within : goal.block_end-requires-clause-within
block_end-requires-clause-within c = omega (arith, due_within c.args.insts.now (only c.args.wanted) c.args.place (sym c.missing.ensures ∙ c.in_default.is))

pub returns : goal.returns
returns c =
    let insts = c.args.insts.now in
    let arms = c.args.arms.now in
    block_found insts (scope_in insts arms c.args.scope) c.args.wanted c.args.place c.in_ok-end.end
    (c.in_ok-end.ensures (barred_by insts arms) (barred insts c.args.tables.now.targets arms c.requires.known.targets c.requires.switches))
    (sym c.missing.ensures ∙ c.in_default.is)
