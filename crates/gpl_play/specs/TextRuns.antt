-- What a run between modules and text reads and writes.
use Rattle.std.specs.Prelude.{◌≡◌, ℕ, true, List, [], ◌∷◌, codes, Option, IfSome}
use Rattle.std.specs.Io.KnownBytes.{IsAtEnd}
use Rattle.listing_model.specs.FaultText as listing_fault
use Rattle.listing_model.specs.Meaning.{IsListing, are_words}
use Rattle.listing_model.specs.ModuleTexts.{modules_text}
use Rattle.trace_model.specs.FaultText as trace_fault
use Rattle.trace_model.specs.CodeText.{code_text}
use Rattle.trace_model.specs.declared.whole.Trace.{Trace}
use Rattle.trace_model.specs.Reading.{IsTraceOf, HasTraceFault}
use Rattle.gpl_play.specs.Listings.{HasListingFault}
use Rattle.gpl_play.specs.Runs.{IsPrinted}
use Rattle.gpl_play.specs.declared.call.TextCall.{TextCall}
use Rattle.gpl_play.specs.declared.call.TextCall.TheVariants.{Listings, Assembly}
use Rattle.gpl_play.specs.declared.text.TextRunFault.{TextRunFault}
use Rattle.gpl_play.specs.declared.text.TextRunFault.TheVariants as of

-- ---- the forms of words

abbrev pub text_words : TextCall → List (List ℕ)
text_words Listings = codes "text" ∷ []
text_words Assembly = codes "assemble" ∷ []

abbrev pub IsText : List (List ℕ) → Type 0
IsText words = (call : TextCall) × (words ≡ text_words call)

-- ---- of a call

-- this text is due to the bytes
abbrev pub IsDue : TextCall → List ℕ → List ℕ → Type 0
IsDue Listings bytes text = IsPrinted (λ trace. modules_text trace.modules) bytes text
IsDue Assembly bytes text = (words : List ℕ) × IsListing bytes words × (text ≡ code_text words)

-- the bytes are no trace, or no listing
abbrev pub HasTextFault : TextCall → List ℕ → TextRunFault → Type 0
HasTextFault Listings bytes (of.Trace reason) = HasTraceFault bytes reason
HasTextFault Listings bytes (of.Text reason) = ⊥
HasTextFault Assembly bytes (of.Trace reason) = ⊥
HasTextFault Assembly bytes (of.Text reason) = HasListingFault bytes reason

-- the bytes are a trace, or a listing of words of 32 bits
abbrev pub IsSound : TextCall → List ℕ → Type 0
IsSound Listings bytes = (trace : Trace) × IsTraceOf bytes trace
IsSound Assembly bytes = (words : List ℕ) × IsListing bytes words × (are_words words ≡ true)

-- this text is due to what was left, which has no fault, and all of it was read
pub record TakesText (call : TextCall) (before after : Option (List ℕ)) (text : List ℕ) : Type 0 where
  pub all : IfSome before (λ bytes. IsDue call bytes text)
  pub faultless : IfSome before (λ bytes. (fault : TextRunFault) → HasTextFault call bytes fault → ⊥)
  pub ended : IsAtEnd after

-- ---- by the call that the words are a form of

abbrev pub IsTextFor : List (List ℕ) → List ℕ → List ℕ → Type 0
IsTextFor words bytes text = (call : TextCall) × (words ≡ text_words call) × IsDue call bytes text

abbrev pub HasFaultFor : List (List ℕ) → List ℕ → TextRunFault → Type 0
HasFaultFor words bytes fault = (call : TextCall) × (words ≡ text_words call) × HasTextFault call bytes fault

abbrev pub IsSoundFor : List (List ℕ) → List ℕ → Type 0
IsSoundFor words bytes = (call : TextCall) × (words ≡ text_words call) × IsSound call bytes

-- ---- what is told of a fault

abbrev pub run_fault_line : TextRunFault → List ℕ
run_fault_line (of.Trace reason) = trace_fault.fault_line reason
run_fault_line (of.Text reason) = listing_fault.fault_line reason
