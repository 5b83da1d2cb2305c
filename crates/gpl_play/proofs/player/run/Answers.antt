use Rattle.basics.specs.Count.{Rose}
use Rattle.trace_model.specs.declared.whole.Trace.{Trace}
use Rattle.trace_model.specs.Reading.{IsTraceOf, HasTraceFault}
use Rattle.gpl_play.proofs.Dues.{trace_or_fault}
use Rattle.gpl_play.proofs.Endings.{not_refused, stopped_complete}
use Rattle.gpl_play.proofs.player.run.Goals as goal

pub returns-in-Ok-text_of_play-clause-refuses : goal.returns-in-Ok-text_of_play-clause-refuses
returns-in-Ok-text_of_play-clause-refuses g c = λ form calm.
    not_refused (λ bytes. IsTraceOf bytes c.in-Ok.trace) HasTraceFault (g.S.Source.left c.args.source.now) c.ended-in-Ok-text_of_play.result.status
    (λ bytes fault is has. trace_or_fault bytes c.in-Ok.trace fault is has) c.in-Ok.ensures.trace.all

pub returns-in-Err-clause-complete : goal.returns-in-Err-clause-complete
returns-in-Err-clause-complete g c = λ form calm quiet.
    stopped_complete {A = Trace} HasTraceFault (λ bytes. (trace : Trace) × IsTraceOf bytes trace) (g.S.Source.left c.args.source.now)
    (g.S.Source.left c.take_trace.new.source) c.in-Err.stop c.stopped.result.status
    (Rose (g.S.Source.faults c.args.source.now) (g.S.Source.faults c.take_trace.new.source))
    (λ bytes fault sound has. trace_or_fault bytes sound.0 fault sound.1 has) c.in-Err.ensures.stop c.in-Err.ensures.failed calm c.stopped.ensures.status
