-- What a line gives, by what it says.
use Rattle.std.proofs.Common.{◌≡◌, ℕ, List, Option, None, Some, Ok, Err, refl}
use Rattle.trace_model.specs.declared.line_fault.Cause.{Cause}
use Rattle.trace_model.specs.declared.line_fault.Cause.TheVariants.{BadLine}
use Rattle.trace_model.specs.declared.whole.Version.{Version}
use Rattle.trace_model.specs.Lines.{Line}
use Rattle.trace_model.specs.LinesBefore.{Before, after_line}
use Rattle.trace_model.specs.LineForms.{line_of}
use Rattle.trace_model.specs.Reading.{cause_of, line_gives}
use Rattle.trace_model.proofs.ReadingLaws.{verdict_of}
use Rattle.trace_text.specs.Taking.{given_by, unless_cause}

pub given_line : (version : Version) (before : Before) (text : List ℕ) → line_gives verdict_of version before text ≡ given_by before (line_of version text)
given_line version before text = by_line (line_of version text)
  where
    by_cause : (cause : Option Cause) (after : Before) → elim cause [ Some cause ↦ Err cause | None ↦ Ok after ] ≡ unless_cause cause after
    by_cause None after = refl
    by_cause (Some cause) after = refl

    by_line : (line : Option Line)
        → elim line [ None ↦ Err BadLine | Some line ↦ elim (cause_of verdict_of before line) [ Some cause ↦ Err cause | None ↦ Ok (after_line verdict_of before line) ] ] ≡ given_by before line
    by_line None = refl
    by_line (Some line) = by_cause (cause_of verdict_of before line) (after_line verdict_of before line)
