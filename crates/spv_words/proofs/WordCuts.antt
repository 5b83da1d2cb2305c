-- One instruction at the front of the words, and what it adds to the list.
use Rattle.std.proofs.Common.{◌≡◌, ℕ, zero, suc, ◌+◌, ◌-◌, true, false, not, cond, ◌/◌, ◌%◌, ◌<◌, ◌≤◌, List, [], ◌∷◌, ◌++◌, length, take, drop, refl, ap, sym, ◌∙◌, append_assoc, length-append, arith}
use Rattle.std.proofs.lemmas.List.{append-nil}
use Rattle.std.specs.Prelude.{Option, None, Some, Result, Ok, Err}
use Rattle.basics.specs.Answer.{IsAnswer}
use Rattle.basics.proofs.Answers.{unless_memory}
use Rattle.spirv_model.specs.declared.module.WordsFault.{WordsFault}
use Rattle.spirv_model.specs.declared.module.WordsFault.TheVariants.{ZeroLength, CutShort}
use Rattle.spirv_model.specs.Module.{Cut, rest_of, cut, broken_by, begin, onto, instruction_before, fault_at, first_fault, is_skipped, listed, list_of_cut, is_memory}
use Rattle.spirv_model.specs.declared.module.Inst.{Inst}
use Rattle.spv_words.specs.Pieces.{with_front}

-- where the words of the running instruction are all there
pub rest_of-whole : (words : List ℕ) (n : ℕ) → n ≤ length words → rest_of words n ≡ (Some (take n words), cut (drop n words))
rest_of-whole [] zero h = refl
rest_of-whole [] (suc n) h = absurd (omega arith)
rest_of-whole (word ∷ words) zero h = refl
rest_of-whole (word ∷ words) (suc n) h = ap (onto word) (rest_of-whole words n (omega arith))

-- where they aren't
pub rest_of-short : (words : List ℕ) (n : ℕ) → length words < n → rest_of words n ≡ (None, broken_by CutShort)
rest_of-short [] zero h = absurd (omega arith)
rest_of-short [] (suc n) h = refl
rest_of-short (word ∷ words) zero h = absurd (omega arith)
rest_of-short (word ∷ words) (suc n) h = ap (onto word) (rest_of-short words n (omega arith))

-- the three things that a first word may begin
pub cut-zero : (word : ℕ) (after : List ℕ) → word / 65536 ≡ 0 → cut (word ∷ after) ≡ broken_by ZeroLength
cut-zero word after h = ap (λ n. begin (word % 65536) n (rest_of after)) h

pub cut-short : (word more : ℕ) (after : List ℕ) → word / 65536 ≡ suc more → length after < more → cut (word ∷ after) ≡ broken_by CutShort
cut-short word more after h short =
    ap (λ n. begin (word % 65536) n (rest_of after)) h ∙ ap (instruction_before (word % 65536)) (rest_of-short after more short)

pub cut-whole : (word more : ℕ) (after : List ℕ) → word / 65536 ≡ suc more → more ≤ length after → cut (word ∷ after)
    ≡ record { insts = record { op = word % 65536; words = take more after } ∷ (cut (drop more after)).insts; broken = (cut (drop more after)).broken }
cut-whole word more after h whole =
    ap (λ n. begin (word % 65536) n (rest_of after)) h ∙ ap (instruction_before (word % 65536)) (rest_of-whole after more whole)

abbrev pub answer : Option WordsFault → Option WordsFault → List Inst → Result (List Inst) WordsFault
answer fault broken insts = elim fault [ Some fault ↦ Err fault | None ↦ elim broken [ Some fault ↦ Err fault | None ↦ Ok insts ] ]

front-kept : (fault broken : Option WordsFault) (inst : Inst) (insts : List Inst) → answer fault broken (inst ∷ insts) ≡ with_front (inst ∷ []) (answer fault broken insts)
front-kept (Some fault) broken inst insts = refl
front-kept None (Some fault) inst insts = refl
front-kept None None inst insts = refl

-- where the words can't be cut
list-broken : (place : ℕ) (fault : WordsFault) → list_of_cut place (broken_by fault) ≡ Err fault
unfolding list_of_cut
list-broken place fault = refl

list-empty : (place : ℕ) → list_of_cut place (cut []) ≡ Ok []
unfolding list_of_cut
list-empty place = refl

gives-fault : (fault : WordsFault) (read : Result (List Inst) WordsFault) → read ≡ Err fault → IsAnswer {T = List Inst} is_memory read (Err fault)
gives-fault fault read h = unless_memory (is_memory fault) (read ≡ Err fault) h

-- an instruction that breaks a rule
list-faulty : (place : ℕ) (inst : Inst) (c : Cut) (fault : WordsFault) → fault_at place inst ≡ Some fault
    → list_of_cut place (record { insts = inst ∷ c.insts; broken = c.broken }) ≡ Err fault
unfolding list_of_cut
list-faulty place inst c fault h =
    ap (λ o. answer (elim o [ None ↦ first_fault (cond (is_skipped inst) place (place + 1)) c.insts | Some fault ↦ Some fault ]) c.broken (listed (inst ∷ c.insts))) h

-- one that is skipped, and one that isn't
list-skipped : (place : ℕ) (inst : Inst) (c : Cut) → fault_at place inst ≡ None → is_skipped inst ≡ true
    → list_of_cut place (record { insts = inst ∷ c.insts; broken = c.broken }) ≡ list_of_cut place c
unfolding list_of_cut
list-skipped place inst c h skipped =
    ap (λ o. answer (elim o [ None ↦ first_fault (cond (is_skipped inst) place (place + 1)) c.insts | Some fault ↦ Some fault ]) c.broken (listed (inst ∷ c.insts))) h
    ∙ ap (λ b. answer (first_fault (cond b place (place + 1)) c.insts) c.broken (cond (not b) (inst ∷ listed c.insts) (listed c.insts))) skipped

list-listed : (place : ℕ) (inst : Inst) (c : Cut) → fault_at place inst ≡ None → is_skipped inst ≡ false
    → list_of_cut place (record { insts = inst ∷ c.insts; broken = c.broken }) ≡ with_front (inst ∷ []) (list_of_cut (place + 1) c)
unfolding list_of_cut
list-listed place inst c h listed_too =
    ap (λ o. answer (elim o [ None ↦ first_fault (cond (is_skipped inst) place (place + 1)) c.insts | Some fault ↦ Some fault ]) c.broken (listed (inst ∷ c.insts))) h
    ∙ ap (λ b. answer (first_fault (cond b place (place + 1)) c.insts) c.broken (cond (not b) (inst ∷ listed c.insts) (listed c.insts))) listed_too
    ∙ front-kept (first_fault (place + 1) c.insts) c.broken inst (listed c.insts)

-- the same behind instructions that were listed before, as the loop meets them
pub stops-zero : (front : List Inst) (place : ℕ) (rest : List ℕ) (whole : Result (List Inst) WordsFault) (first : ℕ) (after : List ℕ)
    → with_front front (list_of_cut place (cut rest)) ≡ whole → rest ≡ first ∷ after → first / 65536 ≡ 0 → whole ≡ Err ZeroLength
stops-zero front place rest whole first after same is none =
    sym same ∙ ap (λ c. with_front front (list_of_cut place c)) (ap cut is ∙ cut-zero first after none) ∙ ap (with_front front) (list-broken place ZeroLength)

pub stops-short : (front : List Inst) (place : ℕ) (rest : List ℕ) (whole : Result (List Inst) WordsFault) (first : ℕ) (after : List ℕ)
    → with_front front (list_of_cut place (cut rest)) ≡ whole → rest ≡ first ∷ after → (first / 65536 ≡ 0 → ⊥) → length after < first / 65536 - 1 → whole ≡ Err CutShort
stops-short front place rest whole first after same is more short =
    sym same ∙ ap (λ c. with_front front (list_of_cut place c)) (ap cut is ∙ cut-short first (first / 65536 - 1) after (omega arith) short)
    ∙ ap (with_front front) (list-broken place CutShort)

-- the instruction at the front, and what stands after it
pub record Stands (rest : List ℕ) (first : ℕ) (after own next : List ℕ) : Type 0 where
  pub is : rest ≡ first ∷ after
  pub counted : first / 65536 ≡ 0 → ⊥
  pub there : first / 65536 - 1 ≤ length after
  pub own_is : own ≡ take (first / 65536 - 1) after
  pub next_is : next ≡ drop (first / 65536 - 1) after

abbrev pub stood : ℕ → List ℕ → Inst
stood first own = record { op = first % 65536; words = own }

cut-stands : (rest : List ℕ) (first : ℕ) (after own next : List ℕ) → Stands rest first after own next
    → cut rest ≡ record { insts = stood first own ∷ (cut next).insts; broken = (cut next).broken }
cut-stands rest first after own next s =
    ap cut s.is ∙ cut-whole first (first / 65536 - 1) after (omega (arith, s.counted)) s.there
    ∙ ap (λ ws. record { insts = stood first ws ∷ (cut (drop (first / 65536 - 1) after)).insts; broken = (cut (drop (first / 65536 - 1) after)).broken }) (sym s.own_is)
    ∙ ap (λ ws. record { insts = stood first own ∷ (cut ws).insts; broken = (cut ws).broken }) (sym s.next_is)

pub stops-faulty : (front : List Inst) (place : ℕ) (rest : List ℕ) (whole : Result (List Inst) WordsFault) (first : ℕ) (after own next : List ℕ) (fault : WordsFault)
    → with_front front (list_of_cut place (cut rest)) ≡ whole → Stands rest first after own next → fault_at place (stood first own) ≡ Some fault → IsAnswer {T = List Inst} is_memory whole (Err fault)
stops-faulty front place rest whole first after own next fault same s h =
    gives-fault fault whole (sym same ∙ ap (λ c. with_front front (list_of_cut place c)) (cut-stands rest first after own next s)
    ∙ ap (with_front front) (list-faulty place (stood first own) (cut next) fault h))

pub skips-on : (front : List Inst) (rest : List ℕ) (whole : Result (List Inst) WordsFault) (first : ℕ) (after own next : List ℕ)
    → with_front front (list_of_cut (length front) (cut rest)) ≡ whole → Stands rest first after own next
    → fault_at (length front) (stood first own) ≡ None → is_skipped (stood first own) ≡ true → with_front front (list_of_cut (length front) (cut next)) ≡ whole
skips-on front rest whole first after own next same s sound skipped =
    ap (with_front front) (sym (ap (list_of_cut (length front)) (cut-stands rest first after own next s) ∙ list-skipped (length front) (stood first own) (cut next) sound skipped)) ∙ same

front-append : (front own : List Inst) (rest : Result (List Inst) WordsFault) → with_front (front ++ own) rest ≡ with_front front (with_front own rest)
front-append front own (Ok insts) = ap (λ (i : List Inst). Ok i) (append_assoc front own insts)
front-append front own (Err fault) = refl

pub lists-on : (front insts : List Inst) (rest : List ℕ) (whole : Result (List Inst) WordsFault) (first : ℕ) (after own next kept : List ℕ)
    → with_front front (list_of_cut (length front) (cut rest)) ≡ whole → Stands rest first after own next
    → fault_at (length front) (stood first own) ≡ None → is_skipped (stood first own) ≡ false → kept ≡ own → insts ≡ front ++ stood first kept ∷ []
    → with_front insts (list_of_cut (length insts) (cut next)) ≡ whole
lists-on front insts rest whole first after own next kept same s sound listed_too kept_is insts_is =
    let one = stood first own in
    let all : insts ≡ front ++ one ∷ [] = insts_is ∙ ap (λ (ws : List ℕ). front ++ stood first ws ∷ []) kept_is in
    ap (λ (i : List Inst). with_front i (list_of_cut (length i) (cut next))) all
    ∙ ap (λ n. with_front (front ++ one ∷ []) (list_of_cut n (cut next))) (length-append front (one ∷ []))
    ∙ front-append front (one ∷ []) (list_of_cut (length front + 1) (cut next))
    ∙ ap (with_front front) (sym (ap (list_of_cut (length front)) (cut-stands rest first after own next s) ∙ list-listed (length front) one (cut next) sound listed_too))
    ∙ same

-- the end of the words
pub lists-all : (front : List Inst) (place : ℕ) (rest : List ℕ) (whole : Result (List Inst) WordsFault)
    → with_front front (list_of_cut place (cut rest)) ≡ whole → length rest ≡ 0 → whole ≡ Ok front
lists-all front place [] whole same end = sym same ∙ ap (with_front front) (list-empty place) ∙ ap (λ (i : List Inst). Ok i) (append-nil front)
lists-all front place (word ∷ rest) whole same end = absurd (omega (arith, end))
