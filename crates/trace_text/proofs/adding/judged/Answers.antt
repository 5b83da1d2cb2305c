use Rattle.std.proofs.Common.{◌≡◌, List, ℕ, Some, Ok, Err, ap, subst, sym}
use Rattle.std.specs.Option.{option_map}
use Rattle.std.specs.Result.{result_err}
use Rattle.basics.specs.Answer.{FaultUnlessMemory}
use Rattle.check_model.specs.declared.fault.CheckFault.{CheckFault}
use Rattle.check_model.specs.declared.fault.CheckFault.TheVariants as check
use Rattle.check_model.specs.Validity.{HasModuleFault}
use Rattle.check_model.specs.Validity as validity
use Rattle.trace_model.specs.declared.line_fault.Cause.{Cause}
use Rattle.trace_model.specs.declared.line_fault.Cause.TheVariants.{BadModule}
use Rattle.trace_model.proofs.ReadingLaws.{verdict_of, is_verdict_of}
use Rattle.trace_text.specs.Lines.{is_memory}
use Rattle.trace_text.specs.Taking.{cause_of_module}
use Rattle.trace_text.proofs.adding.judged.Goals as goal

abbrev told : List ℕ → Cause → Type 0
told words cause = option_map BadModule (result_err (verdict_of words)) ≡ Some cause

has : (words : List ℕ) (fault : CheckFault) → HasModuleFault words fault → told words (BadModule fault)
has words fault h = ap (λ verdict. option_map BadModule (result_err verdict)) (is_verdict_of words (Err fault) h)

by_fault : (words : List ℕ) (fault : CheckFault) → FaultUnlessMemory validity.is_memory (HasModuleFault words) fault → FaultUnlessMemory is_memory (told words) (cause_of_module fault)
by_fault words (check.Words reason) h = has words (check.Words reason) h
by_fault words (check.Tree reason) h = has words (check.Tree reason) h
by_fault words (check.Ids reason) h = has words (check.Ids reason) h
by_fault words (check.NotVisible id) h = has words (check.NotVisible id) h
by_fault words (check.OperandType place) h = has words (check.OperandType place) h
by_fault words (check.WrongStorage place) h = has words (check.WrongStorage place) h
by_fault words (check.EntryCount count) h = has words (check.EntryCount count) h
by_fault words (check.NotFlat location) h = has words (check.NotFlat location) h
by_fault words (check.LocationTwice location) h = has words (check.LocationTwice location) h
by_fault words check.Memory h = tt

pub returns-in-Ok : goal.returns-in-Ok
returns-in-Ok c = is_verdict_of c.args.words.now (Ok c.in-Ok.made) c.in-Ok.ensures.fault

pub returns-in-Err : goal.returns-in-Err
returns-in-Err c =
    subst (FaultUnlessMemory is_memory (told c.args.words.now)) (sym c.cause_of_module.ensures) (by_fault c.args.words.now c.in-Err.fault c.in-Err.ensures.fault)
