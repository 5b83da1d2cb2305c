-- What is due and what is at fault by the call that words are a form of.
use Rattle.std.proofs.Common.{◌≡◌, ℕ, List, [], length, get_or, refl, ap, sym, ◌∙◌, subst, arith, Option, None, Some}
use Rattle.std.specs.Prelude.{IfSome}
use Rattle.gpl_play.specs.declared.call.TextCall.{TextCall}
use Rattle.gpl_play.specs.declared.call.TextCall.TheVariants.{Listings, Assembly}
use Rattle.gpl_play.specs.declared.take.Stop.{Stop}
use Rattle.gpl_play.specs.declared.take.Stop.TheVariants.{Failed, Memory, Refused}
use Rattle.gpl_play.specs.declared.text.TextRunFault.{TextRunFault}
use Rattle.gpl_play.specs.Runs.{IsDoneIfSound, IsRefusedIfFaulty}
use Rattle.gpl_play.specs.Takes.{Stops}
use Rattle.gpl_play.specs.TextRuns.{HasFaultFor, HasTextFault, IsDue, IsSound, IsSoundFor, IsText, IsTextFor, text_words}
use Rattle.gpl_play.proofs.Dues.{sound_clash}
use Rattle.gpl_play.proofs.Outcomes.{mapped}

-- ---- one call

same_call : (a b : TextCall) → text_words a ≡ text_words b → a ≡ b
same_call Listings Listings h = refl
same_call Listings Assembly h = absurd (omega (arith, ap (λ (ws : List (List ℕ)). length (get_or ws 0 [])) h))
same_call Assembly Listings h = absurd (omega (arith, ap (λ (ws : List (List ℕ)). length (get_or ws 0 [])) h))
same_call Assembly Assembly h = refl

pub sound_for : (words : List (List ℕ)) (bytes : List ℕ) (fault : TextRunFault) → IsSoundFor words bytes → HasFaultFor words bytes fault → ⊥
sound_for words bytes fault sound has =
    sound_clash has.0 bytes fault (subst (λ (call : TextCall). IsSound call bytes) (same_call sound.0 has.0 (sym sound.1 ∙ has.1)) sound.2) has.2

pub text_for : (words : List (List ℕ)) (call : TextCall) (left : Option (List ℕ)) (text : List ℕ) → words ≡ text_words call → IfSome left (λ bytes. IsDue call bytes text)
    → IfSome left (λ bytes. IsTextFor words bytes text)
text_for words call left text form due = mapped left (λ bytes. IsDue call bytes text) (λ bytes. IsTextFor words bytes text) (λ bytes is. (call, form, is)) due

faultless_for : (words : List (List ℕ)) (call : TextCall) (bytes : List ℕ) (fault : TextRunFault) → words ≡ text_words call
    → ((fault : TextRunFault) → HasTextFault call bytes fault → ⊥) → HasFaultFor words bytes fault → ⊥
faultless_for words call bytes fault form none has =
    none fault (subst (λ (c : TextCall). HasTextFault c bytes fault) (same_call has.0 call (sym has.1 ∙ form)) has.2)

-- bytes without a fault are not refused
pub not_refused_for : (words : List (List ℕ)) (call : TextCall) (left : Option (List ℕ)) (status : ℕ) → words ≡ text_words call
    → IfSome left (λ bytes. (fault : TextRunFault) → HasTextFault call bytes fault → ⊥) → IfSome left (IsRefusedIfFaulty (HasFaultFor words) status)
not_refused_for words call None status form none = tt
not_refused_for words call (Some bytes) status form none = λ fault has. absurd (faultless_for words call bytes fault form none has)

pub stops_for : (words : List (List ℕ)) (call : TextCall) (left after : Option (List ℕ)) (stop : Stop TextRunFault) → words ≡ text_words call
    → Stops (HasTextFault call) left after stop → Stops (HasFaultFor words) left after stop
stops_for words call left after Failed form stops = tt
stops_for words call left after Memory form stops = tt
stops_for words call left after (Refused fault) form stops = record {
  all = mapped left (λ bytes. HasTextFault call bytes fault) (λ bytes. HasFaultFor words bytes fault) (λ bytes has. (call, form, has)) stops.all;
  read = stops.read;
}

-- ---- other words

pub other_refused : (words : List (List ℕ)) (left : Option (List ℕ)) (status : ℕ) → (IsText words → ⊥) → IfSome left (IsRefusedIfFaulty (HasFaultFor words) status)
other_refused words None status other = tt
other_refused words (Some bytes) status other = λ fault has. absurd (other (has.0, has.1))

pub other_served : (words : List (List ℕ)) (left : Option (List ℕ)) (status : ℕ) → (IsText words → ⊥) → IfSome left (IsDoneIfSound (IsSoundFor words) status)
other_served words None status other = tt
other_served words (Some bytes) status other = λ sound. absurd (other (sound.0, sound.1))
