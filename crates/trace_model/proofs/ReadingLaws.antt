-- Each list of bytes has exactly one answer: it is one trace, or has one first faulty line and cause. It depends on verdicts of
-- the words of its `code` lines alone.
use Rattle.std.proofs.Common.{◌≡◌, ℕ, ◌<◌, List, true, Result, Ok, Err, ◌⊎◌, inl, inr, refl, ap, sym, ◌∙◌, arith}
use Rattle.std.specs.Prelude.{length, nat_lt}
use Rattle.std.proofs.Math.Path.{fun_ext}
use Rattle.std.proofs.lemmas.Bool.Decides.{nat_tests}
use Rattle.limits.specs.declared.TheConstants.{TRACE_BYTES}
use Rattle.spirv_model.specs.declared.module.Words.{Words}
use Rattle.check_model.specs.declared.fault.CheckFault.{CheckFault}
use Rattle.check_model.specs.Validity.{IsValid, HasModuleFault}
use Rattle.check_model.proofs.FaultLaws.{valid_or_faulty, one_valid, not_both_of_words, one_fault_of_words}
use Rattle.trace_model.specs.declared.line_fault.TraceFault.{TraceFault}
use Rattle.trace_model.specs.declared.line_fault.Cause.TheVariants.{TooLong}
use Rattle.trace_model.specs.declared.whole.Trace.{Trace}
use Rattle.trace_model.specs.Reading.{Verdict, IsVerdict, fault_at, reading, IsReading}

-- ---- verdicts

pub one_verdict : (words : List ℕ) (a b : Verdict) → IsVerdict words a → IsVerdict words b → a ≡ b
one_verdict words (Ok read) (Ok other) valid also = ap Ok (one_valid words read other valid also)
one_verdict words (Ok read) (Err reason) valid has = absurd (not_both_of_words words read reason valid has)
one_verdict words (Err reason) (Ok read) has valid = absurd (not_both_of_words words read reason valid has)
one_verdict words (Err reason) (Err other) has also = ap Err (one_fault_of_words words reason other has also)

abbrev pub Judged : List ℕ → Type 0
Judged words = (verdict : Verdict) × IsVerdict words verdict

pub judged : (words : List ℕ) → Judged words
judged words = by_validity (valid_or_faulty words)
  where
    by_validity : ((read : Words) × IsValid words read) ⊎ ((reason : CheckFault) × HasModuleFault words reason) → Judged words
    by_validity (inl valid) = (Ok valid.0, valid.1)
    by_validity (inr faulty) = (Err faulty.0, faulty.1)

-- what is to be said of words, and that it is
pub verdict_of : List ℕ → Verdict
verdict_of words = (judged words).0

pub verdict_of-IsVerdict : (words : List ℕ) → IsVerdict words (verdict_of words)
unfolding verdict_of judged
verdict_of-IsVerdict words = (judged words).1

pub is_verdict_of : (words : List ℕ) (verdict : Verdict) → IsVerdict words verdict → verdict_of words ≡ verdict
is_verdict_of words verdict is = one_verdict words (verdict_of words) verdict (verdict_of-IsVerdict words) is

-- ---- readings

-- a judge that is always right is this one
one_judge : (judge : List ℕ → Verdict) → ((words : List ℕ) → IsVerdict words (judge words)) → judge ≡ verdict_of
one_judge judge right = fun_ext (λ words. one_verdict words (judge words) (verdict_of words) (right words) (verdict_of-IsVerdict words))

-- the answer is that of this judge
pub reading-is : (bytes : List ℕ) (answer : Result Trace TraceFault) → IsReading bytes answer → reading verdict_of bytes ≡ answer
reading-is bytes answer is = ap (λ judge. reading judge bytes) (sym (one_judge is.judge is.judges)) ∙ is.reads

pub is-reading : (bytes : List ℕ) (answer : Result Trace TraceFault) → reading verdict_of bytes ≡ answer → IsReading bytes answer
is-reading bytes answer reads = record { judge = verdict_of; judges = verdict_of-IsVerdict; reads = reads }

pub one_reading : (bytes : List ℕ) (a b : Result Trace TraceFault) → IsReading bytes a → IsReading bytes b → a ≡ b
one_reading bytes a b is also = sym (reading-is bytes a is) ∙ reading-is bytes b also

pub some_reading : (bytes : List ℕ) → (answer : Result Trace TraceFault) × IsReading bytes answer
some_reading bytes = (reading verdict_of bytes, is-reading bytes (reading verdict_of bytes) refl)

-- ---- too many bytes

pub too_long : (judge : List ℕ → Verdict) (bytes : List ℕ) → TRACE_BYTES < length bytes → reading judge bytes ≡ Err (fault_at 0 TooLong)
unfolding reading
too_long judge bytes long = rw (longer TRACE_BYTES (length bytes) long) refl
  where
    longer : (limit count : ℕ) → limit < count → nat_lt limit count ≡ true
    longer limit count h = grind (arith, nat_tests)
