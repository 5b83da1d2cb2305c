use Rattle.spv_tree.proofs.CaseLists.{literals_told}
use Rattle.spv_tree.proofs.cases.has_equal_literals.Goals as goal

pub returns : goal.returns
returns c =
    literals_told c.in_ok-cases.cases.items c.as_slice.result.now c.args.words.now _ c.as_slice.ensures.value c.in_ok-cases.ensures c.in_ok-are_equal.ensures
