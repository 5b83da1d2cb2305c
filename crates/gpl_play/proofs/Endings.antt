-- How the end of a call keeps its promises, whatever its input and its text are.
use Rattle.std.proofs.Common.{◌≡◌, ℕ, List, refl, subst, sym, inr, Option, None, Some}
use Rattle.std.specs.Prelude.{IfSome, Err}
use Rattle.std.specs.Io.KnownBytes.{Appends}
use Rattle.gpl_play.specs.declared.status.TheConstants.{REFUSED, NO_MEMORY}
use Rattle.gpl_play.specs.declared.take.Stop.{Stop}
use Rattle.gpl_play.specs.declared.take.Stop.TheVariants.{Failed, Memory, Refused}
use Rattle.gpl_play.specs.Runs.{IsDoneIfSound, IsRefusedIfFaulty, WritesDue, WritesDueFront}
use Rattle.gpl_play.specs.Takes.{HasFailed, Stops, stop_status}
use Rattle.gpl_play.specs.Writes.{WritesFront}

-- ---- with a text

pub writes_due : (IsDue : List ℕ → List ℕ → Type 0) (left held now : Option (List ℕ)) (text : List ℕ) → IfSome left (λ bytes. IsDue bytes text) → Appends held now text
    → WritesDue IsDue left held now
writes_due IsDue None held now text due appends = tt
writes_due IsDue (Some bytes) held now text due appends = (text, due, appends)

pub writes_due_front : (IsDue : List ℕ → List ℕ → Type 0) (left held now : Option (List ℕ)) (text : List ℕ) → IfSome left (λ bytes. IsDue bytes text)
    → WritesFront held now text → WritesDueFront IsDue left held now
writes_due_front IsDue None held now text due front = tt
writes_due_front IsDue (Some bytes) held now text due front = (text, due, front)

-- bytes with a text have no fault
pub not_refused : {F : Type 0} (HasText : List ℕ → Type 0) (HasFault : List ℕ → F → Type 0) (left : Option (List ℕ)) (status : ℕ)
    → ((bytes : List ℕ) (fault : F) → HasText bytes → HasFault bytes fault → ⊥) → IfSome left HasText → IfSome left (IsRefusedIfFaulty HasFault status)
not_refused HasText HasFault None status clash text = tt
not_refused HasText HasFault (Some bytes) status clash text = λ fault has. absurd (clash bytes fault text has)

-- ---- where nothing was taken

for_memory : (IsSound : List ℕ → Type 0) (left : Option (List ℕ)) → IfSome left (IsDoneIfSound IsSound NO_MEMORY)
for_memory IsSound None = tt
for_memory IsSound (Some bytes) = λ _. inr refl

for_fault : {F : Type 0} (HasFault : List ℕ → F → Type 0) (IsSound : List ℕ → Type 0) (left : Option (List ℕ)) (fault : F)
    → ((bytes : List ℕ) (fault : F) → IsSound bytes → HasFault bytes fault → ⊥) → IfSome left (λ bytes. HasFault bytes fault) → IfSome left (IsDoneIfSound IsSound REFUSED)
for_fault HasFault IsSound None fault clash has = tt
for_fault HasFault IsSound (Some bytes) fault clash has = λ sound. absurd (clash bytes fault sound has)

by_stop : {A F : Type 0} (HasFault : List ℕ → F → Type 0) (IsSound : List ℕ → Type 0) (left after : Option (List ℕ)) (stop : Stop F) (Fails : Type 0)
    → ((bytes : List ℕ) (fault : F) → IsSound bytes → HasFault bytes fault → ⊥) → Stops HasFault left after stop → (HasFailed {A = A} (Err stop) → Fails) → (Fails → ⊥)
    → IfSome left (IsDoneIfSound IsSound (stop_status stop))
by_stop HasFault IsSound left after Failed Fails clash stops failed calm = absurd (calm (failed refl))
by_stop HasFault IsSound left after Memory Fails clash stops failed calm = for_memory IsSound left
by_stop HasFault IsSound left after (Refused fault) Fails clash stops failed calm = for_fault HasFault IsSound left fault clash stops.all

-- only a failed read, want of memory or a fault keeps a call from its end
pub stopped_complete : {A F : Type 0} (HasFault : List ℕ → F → Type 0) (IsSound : List ℕ → Type 0) (left after : Option (List ℕ)) (stop : Stop F) (status : ℕ) (Fails : Type 0)
    → ((bytes : List ℕ) (fault : F) → IsSound bytes → HasFault bytes fault → ⊥) → Stops HasFault left after stop → (HasFailed {A = A} (Err stop) → Fails) → (Fails → ⊥)
    → status ≡ stop_status stop → IfSome left (IsDoneIfSound IsSound status)
stopped_complete {A} HasFault IsSound left after stop status Fails clash stops failed calm is =
    subst (λ (n : ℕ). IfSome left (IsDoneIfSound IsSound n)) (sym is) (by_stop {A = A} HasFault IsSound left after stop Fails clash stops failed calm)
