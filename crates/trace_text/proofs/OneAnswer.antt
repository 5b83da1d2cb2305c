-- The answer of a reader is the one that the bytes have.
use Rattle.std.proofs.Common.{◌≡◌, ℕ, Bool, true, false, List, Result, Ok, Err, MatchBool}
use Rattle.std.specs.Prelude.{if◌then◌else◌}
use Rattle.basics.specs.Answer.{FaultUnlessMemory}
use Rattle.trace_model.specs.declared.line_fault.TraceFault.{TraceFault}
use Rattle.trace_model.specs.declared.whole.Trace.{Trace}
use Rattle.trace_model.specs.Reading.{IsTraceOf, HasTraceFault, reading}
use Rattle.trace_model.proofs.ReadingLaws.{verdict_of, is-reading, one_reading, reading-is}
use Rattle.trace_text.specs.declared.reading.ReadFault.TheVariants.{Fault, Memory}
use Rattle.trace_text.specs.Readings.{HasFault, is_memory, is_want, read_fault}

abbrev ok : Trace → Result Trace TraceFault
ok trace = Ok trace

abbrev err : TraceFault → Result Trace TraceFault
err fault = Err fault

-- this fault was read, unless memory ran out
abbrev IsRead : List ℕ → TraceFault → Type 0
IsRead bytes fault = FaultUnlessMemory is_memory (λ fault. reading verdict_of bytes ≡ Err fault) fault

pub only_trace : (bytes : List ℕ) (read trace : Trace) → reading verdict_of bytes ≡ Ok read → IsTraceOf bytes trace → read ≡ trace
only_trace bytes read trace h is =
    let same : ok read ≡ ok trace = one_reading bytes (Ok read) (Ok trace) (is-reading bytes (Ok read) h) is in
    cc

pub no_fault : (bytes : List ℕ) (read : Trace) (fault : TraceFault) → reading verdict_of bytes ≡ Ok read → HasTraceFault bytes fault → ⊥
no_fault bytes read fault h has =
    let same : ok read ≡ err fault = one_reading bytes (Ok read) (Err fault) (is-reading bytes (Ok read) h) has in
    cc

pub has_fault : (bytes : List ℕ) (fault : TraceFault) → IsRead bytes fault → FaultUnlessMemory is_want (HasFault bytes) (read_fault fault)
has_fault bytes fault read = by_test (is_memory fault) read
  where
    by_test : (want : Bool) → MatchBool want (Unit {0}) (reading verdict_of bytes ≡ Err fault) → FaultUnlessMemory is_want (HasFault bytes) (if want then Memory else Fault fault)
    by_test true read = tt
    by_test false read = is-reading bytes (Err fault) read

pub no_trace : (bytes : List ℕ) (fault : TraceFault) (trace : Trace) → IsRead bytes fault → IsTraceOf bytes trace → FaultUnlessMemory is_want (λ fault. ⊥) (read_fault fault)
no_trace bytes fault trace read is = by_test (is_memory fault) read
  where
    by_test : (want : Bool) → MatchBool want (Unit {0}) (reading verdict_of bytes ≡ Err fault) → FaultUnlessMemory is_want (λ fault. ⊥) (if want then Memory else Fault fault)
    by_test true read = tt
    by_test false read = no_fault bytes trace fault (reading-is bytes (Ok trace) is) (is-reading bytes (Err fault) read)

pub only_fault : (bytes : List ℕ) (fault other : TraceFault) → IsRead bytes fault → HasTraceFault bytes other → FaultUnlessMemory is_want (λ told. told ≡ Fault other) (read_fault fault)
only_fault bytes fault other read has = by_test (is_memory fault) read
  where
    by_test : (want : Bool) → MatchBool want (Unit {0}) (reading verdict_of bytes ≡ Err fault) → FaultUnlessMemory is_want (λ told. told ≡ Fault other) (if want then Memory else Fault fault)
    by_test true read = tt
    by_test false read =
        let same : err fault ≡ err other = one_reading bytes (Err fault) (Err other) (is-reading bytes (Err fault) read) has in
        cc
