use Rattle.std.proofs.Common.{sym, subst}
use Rattle.basics.specs.Answer.{FaultUnlessMemory}
use Rattle.trace_text.specs.Readings.{HasFault, is_want}
use Rattle.trace_text.specs.declared.reading.ReadFault.{ReadFault}
use Rattle.gpl_play.specs.Reads.{Reads}
use Rattle.gpl_play.proofs.Outcomes.{trace_taken, trace_fault_taken}
use Rattle.gpl_play.proofs.take.take_trace.Goals as goal

pub returns-in-Ok-read_trace-clause-trace : goal.returns-in-Ok-read_trace-clause-trace
returns-in-Ok-read_trace-clause-trace g c =
    trace_taken (g.S.Source.left c.args.source.now) (g.S.Source.left c.read_all.new.source) c.as_slice.result.now c.in-Ok-read_trace.trace
    (subst (Reads (g.S.Source.left c.args.source.now) (g.S.Source.left c.read_all.new.source)) (sym c.as_slice.ensures.value) c.in-Ok.ensures.read)
    c.in-Ok-read_trace.ensures.fault

pub returns-clause-stop : goal.returns-clause-stop
returns-clause-stop g c =
    trace_fault_taken (g.S.Source.left c.args.source.now) (g.S.Source.left c.read_all.new.source) c.as_slice.result.now c.in-Err-Fault.fault
    (subst (Reads (g.S.Source.left c.args.source.now) (g.S.Source.left c.read_all.new.source)) (sym c.as_slice.ensures.value) c.in-Ok.ensures.read)
    (subst (λ (fault : ReadFault). FaultUnlessMemory is_want (HasFault c.as_slice.result.now) fault) c.in-Err-Fault.field-0-is c.in-Err-Fault.ensures.fault)
