-- What taking a trace or a listing from a source gives.
use Rattle.std.specs.Prelude.{◌≡◌, ℕ, if◌then◌else◌, List, Option, None, Some, IfSome, Result, Ok, Err}
use Rattle.std.specs.Io.KnownBytes.{IsAtEnd}
use Rattle.trace_model.specs.declared.whole.Trace.{Trace}
use Rattle.trace_model.specs.LawfulPlay.{LawfulTrace}
use Rattle.trace_model.specs.Reading.{IsTraceOf}
use Rattle.listing_model.specs.declared.fault.TextFault.{TextFault}
use Rattle.listing_model.specs.Assembly.{assembled, lacks_memory}
use Rattle.gpl_play.specs.Reads.{ReadsSome}
use Rattle.gpl_play.specs.declared.status.TheConstants.{REFUSED, READ_FAILED, NO_MEMORY}
use Rattle.gpl_play.specs.declared.take.Stop.{Stop}
use Rattle.gpl_play.specs.declared.take.Stop.TheVariants.{Failed, Memory, Refused}

-- what was left is this trace, and all of it was read
pub record Takes (before after : Option (List ℕ)) (trace : Trace) : Type 0 where
  pub all : IfSome before (λ bytes. IsTraceOf bytes trace)
  pub ended : IsAtEnd after
  pub lawful : LawfulTrace trace

-- what was left is a listing that is assembled to these words, and all of it was read
pub record TakesWords (before after : Option (List ℕ)) (words : List ℕ) : Type 0 where
  pub all : IfSome before (λ bytes. assembled bytes ≡ Ok words)
  pub ended : IsAtEnd after

module _ {F : Type 0} where
  -- bytes with this fault were read, and reading ended
  pub record TakesFault (HasFault : List ℕ → F → Type 0) (before after : Option (List ℕ)) (fault : F) : Type 0 where
    pub all : IfSome before (λ bytes. HasFault bytes fault)
    pub read : ReadsSome before after

  -- at bytes with a fault, it is told
  abbrev pub Stops : (List ℕ → F → Type 0) → Option (List ℕ) → Option (List ℕ) → Stop F → Type 0
  Stops HasFault before after (Refused fault) = TakesFault HasFault before after fault
  Stops HasFault before after Failed = Unit {0}
  Stops HasFault before after Memory = Unit {0}

  -- a read failed
  abbrev pub HasFailed : {A : Type 0} → Result A (Stop F) → Type 0
  HasFailed answer = answer ≡ Err Failed

  -- ---- how a call ends then

  abbrev pub stop_status : Stop F → ℕ
  stop_status Failed = READ_FAILED
  stop_status Memory = NO_MEMORY
  stop_status (Refused fault) = REFUSED

  abbrev pub stop_fault : Stop F → Option F
  stop_fault (Refused fault) = Some fault
  stop_fault Failed = None
  stop_fault Memory = None

-- the same of the fault that assembling has
abbrev pub listing_stop : TextFault → Stop TextFault
listing_stop fault = if lacks_memory fault then Memory else Refused fault
