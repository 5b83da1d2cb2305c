-- What was read is what was left to be read, where it is a trace or a listing, and else it has the same fault.
use Rattle.std.proofs.Common.{◌≡◌, ℕ, ◌+◌, ◌<◌, List, ◌++◌, length, ap, sym, ◌∙◌, subst, arith, append-nil, Bool, true, false, inl, inr, Option, None, Some}
use Rattle.std.proofs.lemmas.List.{length-append}
use Rattle.std.specs.Prelude.{IfSome, MatchBool, if◌then◌else◌, Result, Ok, Err}
use Rattle.std.specs.Io.KnownBytes.{Consumes, IsAtEnd}
use Rattle.limits.specs.declared.TheConstants.{TRACE_BYTES}
use Rattle.listing_model.specs.declared.fault.TextFault.{TextFault}
use Rattle.listing_model.specs.declared.fault.TextCause.TheVariants as text
use Rattle.basics.specs.Answer.{FaultUnlessMemory}
use Rattle.listing_model.specs.Assembly.{assembled, lacks_memory}
use Rattle.spv_text.proofs.Assembling as listing
use Rattle.trace_model.specs.declared.line_fault.TraceFault.{TraceFault}
use Rattle.trace_model.specs.declared.line_fault.Cause.TheVariants.{TooLong}
use Rattle.trace_model.specs.declared.whole.Trace.{Trace}
use Rattle.trace_model.specs.Reading.{IsTraceOf, HasTraceFault, fault_at, reading}
use Rattle.trace_model.proofs.ReadingLaws.{verdict_of, is-reading, reading-is, too_long}
use Rattle.trace_model.proofs.LawfulTraces.{trace-is_lawful}
use Rattle.gpl_play.specs.Listings.{HasListingFault}
use Rattle.gpl_play.specs.Reads.{Reads, EndsReading}
use Rattle.gpl_play.specs.Takes.{HasFailed, Stops, Takes, TakesWords, TakesFault, listing_stop}
use Rattle.gpl_play.specs.declared.take.Stop.TheVariants.{Failed, Memory, Refused}

-- ---- what was left

pub mapped : (left : Option (List ℕ)) (P Q : List ℕ → Type 0) → ((bytes : List ℕ) → P bytes → Q bytes) → IfSome left P → IfSome left Q
mapped None P Q f h = tt
mapped (Some bytes) P Q f h = f bytes h

all_read : (before after : Option (List ℕ)) (bytes : List ℕ) → Consumes before after bytes → IsAtEnd after → IfSome before (λ all. all ≡ bytes)
all_read None after bytes consumed end = tt
all_read (Some all) None bytes consumed end = absurd consumed
all_read (Some all) (Some left) bytes consumed end = consumed ∙ ap (λ (r : List ℕ). bytes ++ r) end ∙ append-nil bytes

one_more : (bytes : List ℕ) → length bytes ≡ TRACE_BYTES + 1 → TRACE_BYTES < length bytes
one_more bytes h = omega (arith, h)

longer : (all bytes left : List ℕ) → all ≡ bytes ++ left → TRACE_BYTES < length bytes → TRACE_BYTES < length all
longer all bytes left is long = omega (arith, ap length is ∙ length-append bytes left, long)

-- ---- what bytes give, where too many of them have a fault

module _ {A F : Type 0} (gives : List ℕ → Result A F) (last : F) (last_is : (bytes : List ℕ) → TRACE_BYTES < length bytes → gives bytes ≡ Err last) where
  not_long : (bytes : List ℕ) (x : A) → gives bytes ≡ Ok x → TRACE_BYTES < length bytes → ⊥
  not_long bytes x h long = let clash : Ok x ≡ Err last = sym h ∙ last_is bytes long in cc

  at_end : (after : Option (List ℕ)) (bytes : List ℕ) (x : A) → EndsReading after bytes → gives bytes ≡ Ok x → IsAtEnd after
  at_end after bytes x (inl end) h = end
  at_end after bytes x (inr long) h = absurd (not_long bytes x h (one_more bytes long))

  value_taken : (before after : Option (List ℕ)) (bytes : List ℕ) (x : A) → Reads before after bytes → gives bytes ≡ Ok x
      → IfSome before (λ all. gives all ≡ Ok x) × IsAtEnd after
  value_taken before after bytes x reads h =
      let end = at_end after bytes x reads.ended h in
      (mapped before (λ all. all ≡ bytes) (λ all. gives all ≡ Ok x) (λ all is. ap gives is ∙ h) (all_read before after bytes reads.consumed end), end)

  fault_is : (bytes : List ℕ) (fault : F) → gives bytes ≡ Err fault → TRACE_BYTES < length bytes → last ≡ fault
  fault_is bytes fault h long = let same : Err last ≡ Err fault = sym (last_is bytes long) ∙ h in cc

  all_long : (before after : Option (List ℕ)) (bytes : List ℕ) (fault : F) → Consumes before after bytes → TRACE_BYTES < length bytes → gives bytes ≡ Err fault
      → IfSome before (λ all. gives all ≡ Err fault)
  all_long None after bytes fault consumed long h = tt
  all_long (Some all) None bytes fault consumed long h = absurd consumed
  all_long (Some all) (Some left) bytes fault consumed long h =
      subst (λ (f : F). gives all ≡ Err f) (fault_is bytes fault h long) (last_is all (longer all bytes left consumed long))

  fault_kept : (before after : Option (List ℕ)) (bytes : List ℕ) (fault : F) → Consumes before after bytes → EndsReading after bytes → gives bytes ≡ Err fault
      → IfSome before (λ all. gives all ≡ Err fault)
  fault_kept before after bytes fault consumed (inl end) h =
      mapped before (λ all. all ≡ bytes) (λ all. gives all ≡ Err fault) (λ all is. ap gives is ∙ h) (all_read before after bytes consumed end)
  fault_kept before after bytes fault consumed (inr long) h = all_long before after bytes fault consumed (one_more bytes long) h

-- ---- a trace

pub trace_taken : (before after : Option (List ℕ)) (bytes : List ℕ) (trace : Trace) → Reads before after bytes → IsTraceOf bytes trace → Takes before after trace
trace_taken before after bytes trace reads h =
    let taken = value_taken (reading verdict_of) (fault_at 0 TooLong) (too_long verdict_of) before after bytes trace reads (reading-is bytes (Ok trace) h) in
    record {
      all = mapped before (λ all. reading verdict_of all ≡ Ok trace) (λ all. IsTraceOf all trace) (λ all is. is-reading all (Ok trace) is) taken.0;
      ended = taken.1;
      lawful = trace-is_lawful bytes trace h;
    }

pub trace_fault_taken : (before after : Option (List ℕ)) (bytes : List ℕ) (fault : TraceFault) → Reads before after bytes → HasTraceFault bytes fault
    → TakesFault HasTraceFault before after fault
trace_fault_taken before after bytes fault reads h =
    let kept = fault_kept (reading verdict_of) (fault_at 0 TooLong) (too_long verdict_of) before after bytes fault reads.consumed reads.ended (reading-is bytes (Err fault) h) in
    record {
      all = mapped before (λ all. reading verdict_of all ≡ Err fault) (λ all. HasTraceFault all fault) (λ all is. is-reading all (Err fault) is) kept;
      read = (bytes, reads);
    }

-- ---- a listing

abbrev last_fault : TextFault
last_fault = record { line = 0; cause = text.TooLong }

long_listing : (bytes : List ℕ) → TRACE_BYTES < length bytes → assembled bytes ≡ Err last_fault
long_listing bytes long = listing.too_long bytes (omega (arith, long))

pub words_taken : (before after : Option (List ℕ)) (bytes words : List ℕ) → Reads before after bytes → assembled bytes ≡ Ok words → TakesWords before after words
words_taken before after bytes words reads h =
    let taken = value_taken assembled last_fault long_listing before after bytes words reads h in
    record { all = taken.0; ended = taken.1 }

pub listing_fault_taken : (before after : Option (List ℕ)) (bytes : List ℕ) (fault : TextFault) → Reads before after bytes → assembled bytes ≡ Err fault
    → TakesFault HasListingFault before after fault
listing_fault_taken before after bytes fault reads h =
    record { all = fault_kept assembled last_fault long_listing before after bytes fault reads.consumed reads.ended h; read = (bytes, reads) }

by_memory : (lacks : Bool) (before after : Option (List ℕ)) (bytes : List ℕ) (fault : TextFault) → Reads before after bytes → MatchBool lacks (Unit {0}) (assembled bytes ≡ Err fault)
    → Stops HasListingFault before after (if lacks then Memory else Refused fault)
by_memory true before after bytes fault reads h = tt
by_memory false before after bytes fault reads h = listing_fault_taken before after bytes fault reads h

pub listing_stopped : (before after : Option (List ℕ)) (bytes : List ℕ) (fault : TextFault) → Reads before after bytes
    → FaultUnlessMemory lacks_memory (λ f. assembled bytes ≡ Err f) fault → Stops HasListingFault before after (listing_stop fault)
listing_stopped before after bytes fault reads h = by_memory (lacks_memory fault) before after bytes fault reads h

not_by_memory : (lacks : Bool) (fault : TextFault) → (if lacks then Memory else Refused fault) ≡ Failed → ⊥
not_by_memory true fault is = cc
not_by_memory false fault is = cc

-- that is no failed read
pub listing_not_failed : {A : Type 0} (fault : TextFault) → HasFailed {A = A} (Err (listing_stop fault)) → ⊥
listing_not_failed fault is = not_by_memory (lacks_memory fault) fault (cc is)
