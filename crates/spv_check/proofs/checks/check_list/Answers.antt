use Rattle.spv_check.proofs.ExactAnswers.{list_exact, list_only}
use Rattle.spv_check.proofs.FaultsTold.{few_listed}
use Rattle.spv_check.proofs.checks.check_list.Goals as goal

pub returns-clause-exact : goal.returns-clause-exact
returns-clause-exact c = list_exact c.args.words c.list_checked.result c.list_checked.ensures

pub returns-clause-only : goal.returns-clause-only
returns-clause-only c = list_only c.args.words c.list_checked.result c.list_checked.ensures

pub list_checked-requires-clause-few : goal.list_checked-requires-clause-few
list_checked-requires-clause-few c = few_listed c.args.words c.requires
