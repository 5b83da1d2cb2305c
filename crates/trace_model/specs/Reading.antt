-- The trace of bytes, or the first faulty line and the first cause on it.
use Rattle.std.specs.Prelude.{◌≡◌, ℕ, ◌+◌, Bool, ◌==◌, nat_lt, if◌then◌else◌, List, [], ◌∷◌, length, Option, None, Some, Result, Ok, Err}
use Rattle.std.specs.Option.{option_or, option_map}
use Rattle.std.specs.Result.{result_err}
use Rattle.limits.specs.declared.TheConstants.{TRACE_BYTES}
use Rattle.spirv_model.specs.declared.module.Words.{Words}
use Rattle.check_model.specs.declared.fault.CheckFault.{CheckFault}
use Rattle.check_model.specs.Validity.{IsValid, HasModuleFault}
use Rattle.trace_model.specs.declared.line_fault.TraceFault.{TraceFault}
use Rattle.trace_model.specs.declared.line_fault.Cause.{Cause}
use Rattle.trace_model.specs.declared.line_fault.Cause.TheVariants.{TooLong, NoHeader, BadLine, TooMany, Unknown, BadModule, BadPart, ForeignTarget}
use Rattle.trace_model.specs.declared.whole.Trace.{Trace}
use Rattle.trace_model.specs.declared.whole.Version.{Version}
use Rattle.trace_model.specs.Text.{lines_of}
use Rattle.trace_model.specs.Lines.{Line, code_line}
use Rattle.trace_model.specs.LineForms.{line_of, version_of}
use Rattle.trace_model.specs.LinesBefore.{Before, nothing_before, after_line}
use Rattle.trace_model.specs.ObjectCauses.{is_too_many, is_unknown, binds_foreign}
use Rattle.trace_model.specs.PartCauses.{is_bad_part}

-- ---- modules

-- what is said of words: the module that they are, or their fault
abbrev pub Verdict : Type 0
Verdict = Result Words CheckFault

abbrev pub IsVerdict : List ℕ → Verdict → Type 0
IsVerdict words (Ok read) = IsValid words read
IsVerdict words (Err fault) = HasModuleFault words fault

-- BadModule, on a line `code` alone
abbrev pub module_cause : (List ℕ → Verdict) → Line → Option Cause
module_cause judge (code_line words) = option_map BadModule (result_err (judge words))
module_cause judge line = None

-- ---- a line

abbrev pub cause_if : Bool → Cause → Option Cause
cause_if holds cause = if holds then Some cause else None

-- the first cause on a line of a form, behind what came before it
unfoldable pub cause_of : (List ℕ → Verdict) → Before → Line → Option Cause
cause_of judge before line =
    option_or (cause_if (is_too_many before line) TooMany)
    (option_or (cause_if (is_unknown before line) Unknown)
    (option_or (module_cause judge line)
    (option_or (cause_if (is_bad_part before line) BadPart)
    (cause_if (binds_foreign before line) ForeignTarget))))

-- what stands before the next line, or the first cause
abbrev pub line_gives : (List ℕ → Verdict) → Version → Before → List ℕ → Result Before Cause
line_gives judge version before text =
    elim (line_of version text) [
      | None ↦ Err BadLine
      | Some line ↦ elim (cause_of judge before line) [ Some cause ↦ Err cause | None ↦ Ok (after_line judge before line) ]
    ]

-- ---- all lines

abbrev pub fault_at : ℕ → Cause → TraceFault
fault_at line cause = record { line = line; cause = cause }

-- of the lines from a number on. The last part stands behind the last line feed: it is a line without one, unless it is empty
abbrev pub lines_give : (List ℕ → Verdict) → Version → ℕ → Before → List (List ℕ) → Result Trace TraceFault
lines_give judge version number before [] = Ok before.trace
lines_give judge version number before (last ∷ []) = if length last == 0 then Ok before.trace else Err (fault_at number BadLine)
lines_give judge version number before (text ∷ next ∷ texts) =
    elim (line_gives judge version before text) [
      | Err cause ↦ Err (fault_at number cause)
      | Ok after ↦ lines_give judge version (number + 1) after (next ∷ texts)
    ]

-- of the lines after the first, which names this version; there is no line feed behind it where nothing follows
abbrev pub body_gives : (List ℕ → Verdict) → Version → List (List ℕ) → Result Trace TraceFault
body_gives judge version [] = Err (fault_at 1 BadLine)
body_gives judge version texts = lines_give judge version 2 nothing_before texts

abbrev pub texts_give : (List ℕ → Verdict) → List (List ℕ) → Result Trace TraceFault
texts_give judge [] = Err (fault_at 1 NoHeader)
texts_give judge (first ∷ texts) =
    elim (version_of first) [ None ↦ Err (fault_at 1 NoHeader) | Some version ↦ body_gives judge version texts ]

-- what bytes are read as, where `judge` says of words whether they are a valid module
unfoldable pub reading : (List ℕ → Verdict) → List ℕ → Result Trace TraceFault
reading judge bytes = if nat_lt TRACE_BYTES (length bytes) then Err (fault_at 0 TooLong) else texts_give judge (lines_of bytes)

-- ---- the answer

-- the bytes are this trace, or have this fault
pub record IsReading (bytes : List ℕ) (answer : Result Trace TraceFault) : Type 0 where
  pub judge : List ℕ → Verdict
  pub judges : (words : List ℕ) → IsVerdict words (judge words)
  pub reads : reading judge bytes ≡ answer

abbrev pub IsTraceOf : List ℕ → Trace → Type 0
IsTraceOf bytes trace = IsReading bytes (Ok trace)

abbrev pub HasTraceFault : List ℕ → TraceFault → Type 0
HasTraceFault bytes fault = IsReading bytes (Err fault)
