-- What a run reads and writes.
use Rattle.std.specs.Prelude.{◌≡◌, ◌⊎◌, ℕ, List, [], ◌∷◌, codes, Option, IfSome}
use Rattle.std.specs.Io.KnownBytes.{Appends}
use Rattle.basics.specs.Count.{Rose}
use Rattle.trace_model.specs.declared.whole.Trace.{Trace}
use Rattle.trace_model.specs.PlayText.{play_text, links_text, check_text}
use Rattle.trace_model.specs.Reading.{IsTraceOf, HasTraceFault}
use Rattle.gpl_play.specs.declared.call.StillCall.{StillCall}
use Rattle.gpl_play.specs.declared.call.StillCall.TheVariants.{Check, Links}
use Rattle.gpl_play.specs.declared.status.TheConstants.{DONE, REFUSED, NO_MEMORY}
use Rattle.gpl_play.specs.Writes.{WritesFront}

-- no call failed in between
abbrev pub NoFault : ℕ → ℕ → Type 0
NoFault before after = Rose before after → ⊥

-- the run ended with this status, unless memory ran out
abbrev pub EndsUnlessMemory : ℕ → ℕ → Type 0
EndsUnlessMemory wanted status = (status ≡ wanted) ⊎ (status ≡ NO_MEMORY)

-- ---- the forms of words

abbrev pub IsPlay : List (List ℕ) → Type 0
IsPlay words = words ≡ codes "play" ∷ []

abbrev pub still_words : StillCall → List (List ℕ)
still_words Check = codes "check" ∷ []
still_words Links = codes "links" ∷ []

abbrev pub IsStill : List (List ℕ) → Type 0
IsStill words = (call : StillCall) × (words ≡ still_words call)

-- ---- the text that is due to bytes

-- the bytes are a trace, of which this is printed
abbrev pub IsPrinted : (Trace → List ℕ) → List ℕ → List ℕ → Type 0
IsPrinted print bytes text = (trace : Trace) × IsTraceOf bytes trace × (text ≡ print trace)

-- the targets after all draws, and the refused draws
abbrev pub IsPlayText : List ℕ → List ℕ → Type 0
IsPlayText bytes text = IsPrinted play_text bytes text

abbrev pub still_text : StillCall → Trace → List ℕ
still_text Check trace = check_text trace
still_text Links trace = links_text trace

-- by the call that the words are a form of
abbrev pub IsStillText : List (List ℕ) → List ℕ → List ℕ → Type 0
IsStillText words bytes text = (call : StillCall) × (words ≡ still_words call) × IsPrinted (still_text call) bytes text

-- ---- what is written

-- the text due to what was left to be read, which is a trace, was written, and nothing else
abbrev pub WritesDue : (List ℕ → List ℕ → Type 0) → Option (List ℕ) → Option (List ℕ) → Option (List ℕ) → Type 0
WritesDue IsDue left before after = IfSome left (λ bytes. (text : List ℕ) × IsDue bytes text × Appends before after text)

-- a front of that text was written
abbrev pub WritesDueFront : (List ℕ → List ℕ → Type 0) → Option (List ℕ) → Option (List ℕ) → Option (List ℕ) → Type 0
WritesDueFront IsDue left before after = IfSome left (λ bytes. (text : List ℕ) × IsDue bytes text × WritesFront before after text)

-- ---- statuses

module _ {F : Type 0} where
  -- what was left to be read has a fault
  abbrev pub IsFaulty : (List ℕ → F → Type 0) → Option (List ℕ) → Type 0
  IsFaulty HasFault left = IfSome left (λ bytes. (fault : F) × HasFault bytes fault)

  -- bytes with a fault are refused
  abbrev pub IsRefusedIfFaulty : (List ℕ → F → Type 0) → ℕ → List ℕ → Type 0
  IsRefusedIfFaulty HasFault status bytes = (fault : F) → HasFault bytes fault → EndsUnlessMemory REFUSED status

-- sound bytes are served
abbrev pub IsDoneIfSound : (List ℕ → Type 0) → ℕ → List ℕ → Type 0
IsDoneIfSound IsSound status bytes = IsSound bytes → EndsUnlessMemory DONE status

-- what was left to be read is no trace
abbrev pub IsNoTrace : Option (List ℕ) → Type 0
IsNoTrace left = IsFaulty HasTraceFault left

-- bytes that are no trace are refused
abbrev pub IsRefusedIfNoTrace : ℕ → List ℕ → Type 0
IsRefusedIfNoTrace status bytes = IsRefusedIfFaulty HasTraceFault status bytes

-- a trace is played
abbrev pub IsPlayedIfTrace : ℕ → List ℕ → Type 0
IsPlayedIfTrace status bytes = IsDoneIfSound (λ bytes. (trace : Trace) × IsTraceOf bytes trace) status bytes
