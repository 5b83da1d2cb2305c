use Rattle.spv_check.proofs.ExactAnswers.{module_exact, module_only}
use Rattle.spv_check.proofs.checks.check.Goals as goal

pub returns-clause-exact : goal.returns-clause-exact
returns-clause-exact c = module_exact c.args.words.now c.words_checked.result c.words_checked.ensures

pub returns-clause-only : goal.returns-clause-only
returns-clause-only c = module_only c.args.words.now c.words_checked.result c.words_checked.ensures
