use Rattle.std.proofs.Common.{Err, ap, ◌∙◌}
use Rattle.std.proofs.lemmas.Result.{err_from_is_err_and}
use Rattle.check_model.specs.Validity.{IsValid, HasModuleFault}
use Rattle.spv_check.proofs.ExactAnswers.{of_list_read}
use Rattle.spv_check.proofs.FaultsTold.{fails_too}
use Rattle.spv_check.proofs.checks.words_checked.Goals as goal

pub returns-in_err-read : goal.returns-in_err-read
returns-in_err-read c =
    let p = err_from_is_err_and c.from_residual.result c.from_residual.ensures.1 in
    fails_too (IsValid c.args.words.now) (HasModuleFault c.args.words.now) c.from_residual.result c.in_err-read.field-0.0 (p.1 ∙ ap Err p.2) c.in_err-read.ensures.read

pub returns : goal.returns
returns c = of_list_read c.args.words.now c.in_ok-read.read c.list_checked.result c.in_ok-read.ensures.read c.list_checked.ensures
