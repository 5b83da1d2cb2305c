-- What is due to a trace or a listing, and that neither has a fault.
use Rattle.std.proofs.Common.{◌≡◌, ℕ, List, sym, ◌∙◌, Option}
use Rattle.std.specs.Prelude.{IfSome, Ok, Err}
use Rattle.listing_model.specs.Assembly.{assembled}
use Rattle.listing_model.specs.ModuleTexts.{modules_text}
use Rattle.listing_model.proofs.Assembled.{is_listing}
use Rattle.listing_model.proofs.Converse.{listing_gives}
use Rattle.trace_model.specs.CodeText.{code_text}
use Rattle.trace_model.specs.declared.line_fault.TraceFault.{TraceFault}
use Rattle.trace_model.specs.declared.whole.Trace.{Trace}
use Rattle.trace_model.specs.Reading.{IsTraceOf, HasTraceFault}
use Rattle.trace_model.proofs.ReadingLaws.{one_reading}
use Rattle.gpl_play.specs.declared.call.StillCall.{StillCall}
use Rattle.gpl_play.specs.declared.call.TextCall.{TextCall}
use Rattle.gpl_play.specs.declared.call.TextCall.TheVariants.{Listings, Assembly}
use Rattle.gpl_play.specs.declared.text.TextRunFault.{TextRunFault}
use Rattle.gpl_play.specs.declared.text.TextRunFault.TheVariants as run
use Rattle.gpl_play.specs.Runs.{IsPrinted, IsStillText, still_text, still_words}
use Rattle.gpl_play.specs.TextRuns.{HasTextFault, IsDue, IsSound}
use Rattle.gpl_play.proofs.Outcomes.{mapped}

-- ---- a trace

pub trace_or_fault : (bytes : List ℕ) (trace : Trace) (fault : TraceFault) → IsTraceOf bytes trace → HasTraceFault bytes fault → ⊥
trace_or_fault bytes trace fault is has = let clash : Ok trace ≡ Err fault = one_reading bytes (Ok trace) (Err fault) is has in cc

pub printed : (print : Trace → List ℕ) (left : Option (List ℕ)) (trace : Trace) (text : List ℕ) → IfSome left (λ bytes. IsTraceOf bytes trace) → text ≡ print trace
    → IfSome left (λ bytes. IsPrinted print bytes text)
printed print left trace text all due = mapped left (λ bytes. IsTraceOf bytes trace) (λ bytes. IsPrinted print bytes text) (λ bytes is. (trace, is, due)) all

pub still_due : (words : List (List ℕ)) (call : StillCall) (left : Option (List ℕ)) (trace : Trace) (text : List ℕ) → words ≡ still_words call
    → IfSome left (λ bytes. IsTraceOf bytes trace) → text ≡ still_text call trace → IfSome left (λ bytes. IsStillText words bytes text)
still_due words call left trace text form all due =
    mapped left (λ bytes. IsTraceOf bytes trace) (λ bytes. IsStillText words bytes text) (λ bytes is. (call, form, (trace, is, due))) all

-- ---- between modules and text

trace_clash : (bytes : List ℕ) (trace : Trace) → IsTraceOf bytes trace → (fault : TextRunFault) → HasTextFault Listings bytes fault → ⊥
trace_clash bytes trace is (run.Trace reason) has = trace_or_fault bytes trace reason is has
trace_clash bytes trace is (run.Text reason) has = has

listing_clash : (bytes words : List ℕ) → assembled bytes ≡ Ok words → (fault : TextRunFault) → HasTextFault Assembly bytes fault → ⊥
listing_clash bytes words is (run.Trace reason) has = has
listing_clash bytes words is (run.Text reason) has = let clash : Ok words ≡ Err reason = sym is ∙ has in cc

pub sound_clash : (call : TextCall) (bytes : List ℕ) (fault : TextRunFault) → IsSound call bytes → HasTextFault call bytes fault → ⊥
sound_clash Listings bytes fault sound has = trace_clash bytes sound.0 sound.1 fault has
sound_clash Assembly bytes fault sound has = listing_clash bytes sound.0 (listing_gives bytes sound.0 sound.1 sound.2) fault has

pub no_trace_fault : (left : Option (List ℕ)) (trace : Trace) → IfSome left (λ bytes. IsTraceOf bytes trace)
    → IfSome left (λ bytes. (fault : TextRunFault) → HasTextFault Listings bytes fault → ⊥)
no_trace_fault left trace all =
    mapped left (λ bytes. IsTraceOf bytes trace) (λ bytes. (fault : TextRunFault) → HasTextFault Listings bytes fault → ⊥) (λ bytes is. trace_clash bytes trace is) all

pub no_listing_fault : (left : Option (List ℕ)) (words : List ℕ) → IfSome left (λ bytes. assembled bytes ≡ Ok words)
    → IfSome left (λ bytes. (fault : TextRunFault) → HasTextFault Assembly bytes fault → ⊥)
no_listing_fault left words all =
    mapped left (λ bytes. assembled bytes ≡ Ok words) (λ bytes. (fault : TextRunFault) → HasTextFault Assembly bytes fault → ⊥) (λ bytes is. listing_clash bytes words is) all

pub listings_due : (left : Option (List ℕ)) (trace : Trace) (text : List ℕ) → IfSome left (λ bytes. IsTraceOf bytes trace) → text ≡ modules_text trace.modules
    → IfSome left (λ bytes. IsDue Listings bytes text)
listings_due left trace text all due = printed (λ t. modules_text t.modules) left trace text all due

pub code_due : (left : Option (List ℕ)) (words text : List ℕ) → IfSome left (λ bytes. assembled bytes ≡ Ok words) → text ≡ code_text words
    → IfSome left (λ bytes. IsDue Assembly bytes text)
code_due left words text all due =
    mapped left (λ bytes. assembled bytes ≡ Ok words) (λ bytes. IsDue Assembly bytes text) (λ bytes is. (words, is_listing bytes words is, due)) all
