-- What a call answers whose value is seen by a view.
use Rattle.std.specs.Prelude.{◌≡◌, ℕ, Bool, true, List, Result, Ok, Err, Vec}
use Rattle.std.specs.Global.{Global}
use Rattle.listing_model.specs.declared.fault.TextFault.{TextFault}
use Rattle.listing_model.specs.declared.fault.ListFault.{ListFault}
use Rattle.listing_model.specs.Assembly.{lacks_memory, list_lacks_memory}
use Rattle.listing_model.specs.Meaning.{IsListing, are_words}
use Rattle.basics.specs.Answer.{UnlessMemory}

-- the answer, seen by a view, is the expected one, unless memory ran out
abbrev pub Gives : {X Y F : Type 0} → (F → Bool) → (X → Y) → Result Y F → Result X F → Type 0
Gives lacks_memory view expected answer = UnlessMemory lacks_memory (λ value. expected ≡ Ok (view value)) (λ fault. expected ≡ Err fault) answer

-- the words are those expected or the fault is, unless memory ran out
abbrev pub GivesWords : Result (List ℕ) TextFault → Result (Vec ℕ Global) TextFault → Type 0
GivesWords expected answer = Gives lacks_memory (λ words. words.items) expected answer

-- the bytes are those expected or the fault is, unless memory ran out
abbrev pub GivesText : Result (List ℕ) ListFault → Result (Vec ℕ Global) ListFault → Type 0
GivesText expected answer = Gives list_lacks_memory (λ text. text.items) expected answer

-- where the bytes are a listing of words, these are the answer, unless memory ran out
abbrev pub GivesListed : List ℕ → Result (Vec ℕ Global) TextFault → Type 0
GivesListed bytes answer =
    (listed : List ℕ) → IsListing bytes listed → are_words listed ≡ true → UnlessMemory lacks_memory (λ words. words.items ≡ listed) (λ _. ⊥) answer
