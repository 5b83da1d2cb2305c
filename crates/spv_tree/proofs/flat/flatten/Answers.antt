use Rattle.std.proofs.Common.{ap, ◌∙◌, ◌++◌}
use Rattle.spv_tree.specs.Listed.{Insts, run_list}
use Rattle.spv_tree.proofs.Listings.{whole_listed}
use Rattle.spv_tree.proofs.flat.flatten.Goals as goal

pub returns : goal.returns
returns c =
    let insts = c.args.insts.now in
    c.in_ok-add_run.ensures ∙ ap (λ (l : Insts). l ++ run_list insts c.args.body.now.run) c.new-list.ensures.items ∙ whole_listed insts c.args.body.now c.requires
