use Rattle.std.proofs.Common.{sym, subst, Vec, Global, ℕ}
use Rattle.std.specs.Prelude.{Err}
use Rattle.listing_model.specs.declared.fault.TextFault.{TextFault}
use Rattle.gpl_play.specs.declared.take.Stop.{Stop}
use Rattle.gpl_play.specs.Listings.{HasListingFault}
use Rattle.gpl_play.specs.Reads.{Reads}
use Rattle.gpl_play.specs.Takes.{HasFailed, Stops}
use Rattle.gpl_play.proofs.Outcomes.{words_taken, listing_stopped, listing_not_failed}
use Rattle.gpl_play.proofs.take.take_words.Goals as goal

pub returns-in-Ok-assemble-clause-words : goal.returns-in-Ok-assemble-clause-words
returns-in-Ok-assemble-clause-words g c =
    words_taken (g.S.Source.left c.args.source.now) (g.S.Source.left c.read_all.new.source) c.as_slice.result.now c.in-Ok-assemble.words.items
    (subst (Reads (g.S.Source.left c.args.source.now) (g.S.Source.left c.read_all.new.source)) (sym c.as_slice.ensures.value) c.in-Ok.ensures.read)
    c.in-Ok-assemble.ensures.gives

pub returns-clause-stop : goal.returns-clause-stop
returns-clause-stop g c =
    subst (Stops HasListingFault (g.S.Source.left c.args.source.now) (g.S.Source.left c.read_all.new.source)) (sym c.listing_stop.ensures)
    (listing_stopped (g.S.Source.left c.args.source.now) (g.S.Source.left c.read_all.new.source) c.as_slice.result.now c.in-Err.fault
    (subst (Reads (g.S.Source.left c.args.source.now) (g.S.Source.left c.read_all.new.source)) (sym c.as_slice.ensures.value) c.in-Ok.ensures.read)
    c.in-Err.ensures.gives)

pub returns-clause-failed : goal.returns-clause-failed
returns-clause-failed g c = λ is.
    absurd (listing_not_failed {A = Vec ℕ Global} c.in-Err.fault (subst (λ (s : Stop TextFault). HasFailed {A = Vec ℕ Global} (Err s)) c.listing_stop.ensures is))
