-- What bytes are read as depends on what is said of the words of their `code` lines alone.
use Rattle.std.proofs.Common.{◌≡◌, ℕ, ◌+◌, cond, List, [], ◌∷◌, Option, None, Some, Result, Ok, Err, length, refl, ap, ◌∙◌}
use Rattle.std.specs.Prelude.{⊤, nat_lt}
use Rattle.limits.specs.declared.TheConstants.{TRACE_BYTES}
use Rattle.trace_model.specs.declared.line_fault.TraceFault.{TraceFault}
use Rattle.trace_model.specs.declared.line_fault.Cause.{Cause}
use Rattle.trace_model.specs.declared.line_fault.Cause.TheVariants.{TooLong, NoHeader, BadLine}
use Rattle.trace_model.specs.declared.whole.Trace.{Trace}
use Rattle.trace_model.specs.declared.whole.Version.{Version}
use Rattle.trace_model.specs.Text.{lines_of}
use Rattle.trace_model.specs.Lines.{Line, data_line, code_line, layout_line, vertex_line, prerast_line, fragment_line, output_line, pipe_line, target_line, step_line}
use Rattle.trace_model.specs.LineForms.{line_of, version_of}
use Rattle.trace_model.specs.LinesBefore.{Before, nothing_before, after_line}
use Rattle.trace_model.specs.Reading.{Verdict, cause_of, line_gives, lines_give, body_gives, texts_give, fault_at, reading}

-- the two say the same of the words of a line, of each of these lines, and of those behind a first line
abbrev pub AgreeOn : (judge other : List ℕ → Verdict) → Option Line → Type 0
AgreeOn judge other (Some (code_line words)) = judge words ≡ other words
AgreeOn judge other line = ⊤

abbrev pub Agree : (judge other : List ℕ → Verdict) → Version → List (List ℕ) → Type 0
Agree judge other version [] = ⊤
Agree judge other version (text ∷ texts) = AgreeOn judge other (line_of version text) × Agree judge other version texts

abbrev pub AgreeBehind : (judge other : List ℕ → Verdict) → Option Version → List (List ℕ) → Type 0
AgreeBehind judge other None texts = ⊤
AgreeBehind judge other (Some version) texts = Agree judge other version texts

abbrev pub AgreeOnTexts : (judge other : List ℕ → Verdict) → List (List ℕ) → Type 0
AgreeOnTexts judge other [] = ⊤
AgreeOnTexts judge other (first ∷ texts) = AgreeBehind judge other (version_of first) texts

same_cause : (judge other : List ℕ → Verdict) (before : Before) (line : Line) → AgreeOn judge other (Some line) → cause_of judge before line ≡ cause_of other before line
unfolding cause_of
same_cause judge other before (data_line words) agree = refl
same_cause judge other before (code_line words) agree = rw agree refl
same_cause judge other before (layout_line layout) agree = refl
same_cause judge other before (vertex_line line) agree = refl
same_cause judge other before (prerast_line line) agree = refl
same_cause judge other before (fragment_line line) agree = refl
same_cause judge other before (output_line part) agree = refl
same_cause judge other before (pipe_line numbers) agree = refl
same_cause judge other before (target_line recorder target) agree = refl
same_cause judge other before (step_line recorder step) agree = refl

same_after : (judge other : List ℕ → Verdict) (before : Before) (line : Line) → AgreeOn judge other (Some line) → after_line judge before line ≡ after_line other before line
unfolding after_line
same_after judge other before (data_line words) agree = refl
same_after judge other before (code_line words) agree = rw agree refl
same_after judge other before (layout_line layout) agree = refl
same_after judge other before (vertex_line line) agree = refl
same_after judge other before (prerast_line line) agree = refl
same_after judge other before (fragment_line line) agree = refl
same_after judge other before (output_line part) agree = refl
same_after judge other before (pipe_line numbers) agree = refl
same_after judge other before (target_line recorder target) agree = refl
same_after judge other before (step_line recorder step) agree = refl

abbrev settled : Option Cause → Before → Result Before Cause
settled cause after = elim cause [ Some cause ↦ Err cause | None ↦ Ok after ]

abbrev by_line : (List ℕ → Verdict) → Before → Option Line → Result Before Cause
by_line judge before line =
    elim line [ None ↦ Err BadLine | Some line ↦ settled (cause_of judge before line) (after_line judge before line) ]

same_by_line : (judge other : List ℕ → Verdict) (before : Before) (line : Option Line) → AgreeOn judge other line → by_line judge before line ≡ by_line other before line
same_by_line judge other before None agree = refl
same_by_line judge other before (Some line) agree =
    ap (λ cause. settled cause (after_line judge before line)) (same_cause judge other before line agree)
    ∙ ap (λ after. settled (cause_of other before line) after) (same_after judge other before line agree)

abbrev onward : ℕ → (Before → Result Trace TraceFault) → Result Before Cause → Result Trace TraceFault
onward number more given = elim given [ Err cause ↦ Err (fault_at number cause) | Ok after ↦ more after ]

same_onward : (number : ℕ) (more more' : Before → Result Trace TraceFault) (given given' : Result Before Cause) → given ≡ given' → ((after : Before) → more after ≡ more' after)
    → onward number more given ≡ onward number more' given'
same_onward number more more' given given' same behind = by_given given behind ∙ ap (onward number more') same
  where
    by_given : (given : Result Before Cause) → ((after : Before) → more after ≡ more' after) → onward number more given ≡ onward number more' given
    by_given (Err cause) behind = refl
    by_given (Ok after) behind = behind after

same_lines : (judge other : List ℕ → Verdict) (version : Version) (number : ℕ) (before : Before) (texts : List (List ℕ))
    → Agree judge other version texts → lines_give judge version number before texts ≡ lines_give other version number before texts
same_lines judge other version number before [] agree = refl
same_lines judge other version number before (last ∷ []) agree = refl
same_lines judge other version number before (text ∷ next ∷ texts) agree =
    same_onward number (λ after. lines_give judge version (number + 1) after (next ∷ texts)) (λ after. lines_give other version (number + 1) after (next ∷ texts))
    (line_gives judge version before text) (line_gives other version before text)
    (same_by_line judge other before (line_of version text) agree.0)
    (λ after. same_lines judge other version (number + 1) after (next ∷ texts) agree.1)

same_body : (judge other : List ℕ → Verdict) (version : Version) (texts : List (List ℕ)) → Agree judge other version texts → body_gives judge version texts ≡ body_gives other version texts
same_body judge other version [] agree = refl
same_body judge other version (text ∷ texts) agree = same_lines judge other version 2 nothing_before (text ∷ texts) agree

abbrev behind_first : (Version → Result Trace TraceFault) → Option Version → Result Trace TraceFault
behind_first body version = elim version [ None ↦ Err (fault_at 1 NoHeader) | Some version ↦ body version ]

same_texts : (judge other : List ℕ → Verdict) (texts : List (List ℕ)) → AgreeOnTexts judge other texts → texts_give judge texts ≡ texts_give other texts
same_texts judge other [] agree = refl
same_texts judge other (first ∷ texts) agree = by_version (version_of first) agree
  where
    by_version : (version : Option Version) → AgreeBehind judge other version texts
        → behind_first (λ version. body_gives judge version texts) version ≡ behind_first (λ version. body_gives other version texts) version
    by_version None agree = refl
    by_version (Some version) agree = same_body judge other version texts agree

pub same_reading : (judge other : List ℕ → Verdict) (bytes : List ℕ) → AgreeOnTexts judge other (lines_of bytes) → reading judge bytes ≡ reading other bytes
unfolding reading
same_reading judge other bytes agree = ap (λ answer. cond (nat_lt TRACE_BYTES (length bytes)) (Err (fault_at 0 TooLong)) answer) (same_texts judge other (lines_of bytes) agree)
