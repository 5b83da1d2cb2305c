use Rattle.std.proofs.Common.{map, Vec, Global, ℕ}
use Rattle.std.specs.Prelude.{string_bytes}
use Rattle.basics.specs.Count.{Rose}
use Rattle.gpl_play.specs.TextRuns.{HasFaultFor, IsSoundFor}
use Rattle.gpl_play.proofs.Endings.{stopped_complete}
use Rattle.gpl_play.proofs.TextCalls.{sound_for, stops_for}
use Rattle.gpl_play.proofs.text.text_run.Goals as goal

pub returns-in-Err-clause-complete : goal.returns-in-Err-clause-complete
returns-in-Err-clause-complete g c = λ calm quiet.
    stopped_complete {A = Vec ℕ Global} (HasFaultFor (map string_bytes c.args.words.now.items)) (IsSoundFor (map string_bytes c.args.words.now.items))
    (g.S.Source.left c.args.source.now) (g.S.Source.left c.text_of.new.source) c.in-Err.stop c.stopped.result.status
    (Rose (g.S.Source.faults c.args.source.now) (g.S.Source.faults c.text_of.new.source)) (sound_for (map string_bytes c.args.words.now.items))
    (stops_for (map string_bytes c.args.words.now.items) c.in-Some.call (g.S.Source.left c.args.source.now) (g.S.Source.left c.text_of.new.source) c.in-Err.stop
    c.in-Some.ensures.some c.in-Err.ensures.stop)
    c.in-Err.ensures.failed calm c.stopped.ensures.status
