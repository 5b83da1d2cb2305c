use Rattle.std.proofs.Common.{◌≡◌, Ok, subst, sym}
use Rattle.basics.specs.Answer.{FaultUnlessMemory}
use Rattle.trace_model.proofs.ReadingLaws.{is-reading}
use Rattle.trace_text.specs.declared.reading.ReadFault.TheVariants.{Fault}
use Rattle.trace_text.specs.Readings.{HasFault, is_want}
use Rattle.trace_text.proofs.OneAnswer.{only_trace, no_fault, has_fault, no_trace, only_fault}
use Rattle.trace_text.proofs.reading.read_trace.Goals as goal

pub returns-in-Ok-clause-fault : goal.returns-in-Ok-clause-fault
returns-in-Ok-clause-fault c = is-reading c.args.bytes.now (Ok c.in-Ok.trace) c.in-Ok.ensures

pub returns-in-Ok-clause-exact : goal.returns-in-Ok-clause-exact
returns-in-Ok-clause-exact c = λ trace is. only_trace c.args.bytes.now c.in-Ok.trace trace c.in-Ok.ensures is

pub returns-in-Ok-clause-only : goal.returns-in-Ok-clause-only
returns-in-Ok-clause-only c = λ fault has. no_fault c.args.bytes.now c.in-Ok.trace fault c.in-Ok.ensures has

pub returns-in-Err-clause-fault : goal.returns-in-Err-clause-fault
returns-in-Err-clause-fault c =
    subst (FaultUnlessMemory is_want (HasFault c.args.bytes.now)) (sym c.read_fault.ensures) (has_fault c.args.bytes.now c.in-Err.fault c.in-Err.ensures)

pub returns-in-Err-clause-exact : goal.returns-in-Err-clause-exact
returns-in-Err-clause-exact c = λ trace is.
    subst (FaultUnlessMemory is_want (λ fault. ⊥)) (sym c.read_fault.ensures) (no_trace c.args.bytes.now c.in-Err.fault trace c.in-Err.ensures is)

pub returns-in-Err-clause-only : goal.returns-in-Err-clause-only
returns-in-Err-clause-only c = λ fault has.
    subst (FaultUnlessMemory is_want (λ told. told ≡ Fault fault)) (sym c.read_fault.ensures) (only_fault c.args.bytes.now c.in-Err.fault fault c.in-Err.ensures has)
