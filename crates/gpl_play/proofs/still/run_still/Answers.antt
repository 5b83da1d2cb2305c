use Rattle.std.proofs.Common.{map, sym, ◌∙◌}
use Rattle.std.specs.Prelude.{string_bytes}
use Rattle.basics.specs.Count.{Rose}
use Rattle.trace_model.specs.declared.whole.Trace.{Trace}
use Rattle.trace_model.specs.Reading.{IsTraceOf, HasTraceFault}
use Rattle.gpl_play.specs.Runs.{IsStillText}
use Rattle.gpl_play.proofs.Dues.{still_due, trace_or_fault}
use Rattle.gpl_play.proofs.Endings.{not_refused, stopped_complete, writes_due, writes_due_front}
use Rattle.gpl_play.proofs.still.run_still.Goals as goal

pub returns-in-Ok-text_of-clause-done : goal.returns-in-Ok-text_of-clause-done
returns-in-Ok-text_of-clause-done g c = λ all.
    writes_due (IsStillText (map string_bytes c.args.words.now.items)) (g.S.Source.left c.args.source.now) (g.K.Sink.held c.args.sink.now) (g.K.Sink.held c.told.new.sink)
    c.as_slice.result.now
    (still_due (map string_bytes c.args.words.now.items) c.in-Some.call (g.S.Source.left c.args.source.now) c.in-Ok.trace c.as_slice.result.now
    c.in-Some.ensures.some c.in-Ok.ensures.trace.all (c.as_slice.ensures.value ∙ c.in-Ok-text_of.ensures))
    (c.told.ensures.done (sym c.ended-in-Ok-text_of.ensures.status ∙ all))

pub returns-in-Ok-text_of-clause-front : goal.returns-in-Ok-text_of-clause-front
returns-in-Ok-text_of-clause-front g c = λ some.
    writes_due_front (IsStillText (map string_bytes c.args.words.now.items)) (g.S.Source.left c.args.source.now) (g.K.Sink.held c.args.sink.now) (g.K.Sink.held c.told.new.sink)
    c.as_slice.result.now
    (still_due (map string_bytes c.args.words.now.items) c.in-Some.call (g.S.Source.left c.args.source.now) c.in-Ok.trace c.as_slice.result.now
    c.in-Some.ensures.some c.in-Ok.ensures.trace.all (c.as_slice.ensures.value ∙ c.in-Ok-text_of.ensures))
    (c.told.ensures.front (sym c.ended-in-Ok-text_of.ensures.status ∙ some))

pub returns-in-Ok-text_of-clause-refuses : goal.returns-in-Ok-text_of-clause-refuses
returns-in-Ok-text_of-clause-refuses g c = λ form calm.
    not_refused (λ bytes. IsTraceOf bytes c.in-Ok.trace) HasTraceFault (g.S.Source.left c.args.source.now) c.ended-in-Ok-text_of.result.status
    (λ bytes fault is has. trace_or_fault bytes c.in-Ok.trace fault is has) c.in-Ok.ensures.trace.all

pub returns-clause-complete : goal.returns-clause-complete
returns-clause-complete g c = λ form calm quiet.
    stopped_complete {A = Trace} HasTraceFault (λ bytes. (trace : Trace) × IsTraceOf bytes trace) (g.S.Source.left c.args.source.now)
    (g.S.Source.left c.take_trace.new.source) c.in-Err.stop c.stopped.result.status
    (Rose (g.S.Source.faults c.args.source.now) (g.S.Source.faults c.take_trace.new.source))
    (λ bytes fault sound has. trace_or_fault bytes sound.0 fault sound.1 has) c.in-Err.ensures.stop c.in-Err.ensures.failed calm c.stopped.ensures.status
