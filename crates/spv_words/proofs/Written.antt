-- Written instructions are cut as they were given.
use Rattle.std.proofs.Common.{◌≡◌, ℕ, suc, ◌+◌, ◌*◌, ◌/◌, ◌%◌, ◌<◌, ◌≤◌, Bool, true, false, cond, not, List, [], ◌∷◌, ◌++◌, length, get_or, take, drop, Option, None, Some, Ok, Err, is_ok, inl, inr, subst, refl, ap, sym, ◌∙◌, length-append, append_assoc, arith}
use Rattle.std.specs.List.{All, flat_map}
use Rattle.std.proofs.lemmas.List.{take_more, take_all, flat_map_more, get_or_default}
use Rattle.std.proofs.lemmas.Bool.{cases_lt}
use Rattle.spirv_model.specs.declared.module.Inst.{Inst}
use Rattle.spirv_model.specs.declared.module.WordsFault.{WordsFault}
use Rattle.spirv_model.specs.declared.module.WordsFault.TheVariants.{BadHeader}
use Rattle.spirv_model.specs.Module.{Cut, cut, first_word, words_of, module_words, module_of, with_bound, has_header, list_of_cut, first_fault, listed, is_skipped}
use Rattle.spv_words.specs.Writing.{ReadsAgain}
use Rattle.spv_words.proofs.WordCuts.{cut-whole, answer}

word-count : (n op : ℕ) → op < 65536 → ((n + 1) * 65536 + op) / 65536 ≡ suc n
word-count n op h = omega arith

word-op : (n op : ℕ) → op < 65536 → ((n + 1) * 65536 + op) % 65536 ≡ op
word-op n op h = omega arith

take-front : (xs ys : List ℕ) → take (length xs) (xs ++ ys) ≡ xs
take-front [] ys = refl
take-front (x ∷ xs) ys = ap (λ zs. x ∷ zs) (take-front xs ys)

drop-front : (xs ys : List ℕ) → drop (length xs) (xs ++ ys) ≡ ys
drop-front [] ys = refl
drop-front (x ∷ xs) ys = drop-front xs ys

abbrev pub whole_cut : List Inst → Cut
whole_cut insts = record { insts = insts; broken = None }

cut-written : (insts : List Inst) → All (λ inst. inst.op < 65536) insts → cut (flat_map words_of insts) ≡ whole_cut insts
cut-written [] h = refl
cut-written (inst ∷ insts) h =
    let more = flat_map words_of insts in
    let narrow : inst.op < 65536 = h 0 inst (omega arith) in
    let behind : cut (drop (length inst.words) (inst.words ++ more)) ≡ whole_cut insts = ap cut (drop-front inst.words more) ∙ cut-written insts (λ k d lt. h (suc k) d (omega arith)) in
    cut-whole (first_word inst) (length inst.words) (inst.words ++ more) (word-count (length inst.words) inst.op narrow) (omega (arith, length-append {A = ℕ}))
    ∙ ap (λ (c : Cut). record { insts = record { op = first_word inst % 65536; words = take (length inst.words) (inst.words ++ more) } ∷ c.insts; broken = c.broken }) behind
    ∙ ap (λ ws. whole_cut (record { op = first_word inst % 65536; words = ws } ∷ insts)) (take-front inst.words more)
    ∙ ap (λ op. whole_cut (record { op = op; words = inst.words } ∷ insts)) (word-op (length inst.words) inst.op narrow)

all-listed : (insts : List Inst) → All (λ inst. is_skipped inst ≡ false) insts → listed insts ≡ insts
all-listed [] h = refl
all-listed (inst ∷ insts) h =
    ap (λ b. cond (not b) (inst ∷ listed insts) (listed insts)) (let first : is_skipped inst ≡ false = h 0 inst (omega arith) in first) ∙ ap (λ (i : List Inst). inst ∷ i) (all-listed insts (λ k d lt. h (suc k) d (omega arith)))

read-answer : (has : Bool) (bound : ℕ) (fault : Option WordsFault) (insts kept : List Inst) → kept ≡ insts
    → is_ok (cond has (with_bound bound (answer fault None kept)) (Err BadHeader)) ≡ true
    → cond has (with_bound bound (answer fault None kept)) (Err BadHeader) ≡ Ok (record { bound = bound; insts = insts })
read-answer false bound fault insts kept same sound = cc
read-answer true bound (Some fault) insts kept same sound = cc
read-answer true bound None insts kept same sound = ap (λ (i : List Inst). Ok (record { bound = bound; insts = i })) same

list-written : (insts : List Inst) → All (λ inst. inst.op < 65536) insts → list_of_cut 0 (cut (flat_map words_of insts)) ≡ answer (first_fault 0 insts) None (listed insts)
unfolding list_of_cut
list-written insts h = ap (λ (c : Cut). answer (first_fault 0 c.insts) c.broken (listed c.insts)) (cut-written insts h)

read-written : (insts : List Inst) (bound : ℕ) → All (λ inst. inst.op < 65536) insts
    → module_of (module_words insts bound) ≡ cond (has_header (module_words insts bound)) (with_bound bound (answer (first_fault 0 insts) None (listed insts))) (Err BadHeader)
read-written insts bound h = ap (λ r. cond (has_header (module_words insts bound)) (with_bound bound r) (Err BadHeader)) (list-written insts h)

reads-again : (insts : List Inst) (bound : ℕ) → All (λ inst. inst.op < 65536) insts → ReadsAgain insts bound (module_words insts bound)
reads-again insts bound narrow sound kept =
    let read = read-written insts bound narrow in
    read ∙ read-answer (has_header (module_words insts bound)) bound (first_fault 0 insts) insts (listed insts) (all-listed insts kept) (ap (λ r. is_ok r) (sym read) ∙ sound)

-- one more instruction
pub written-more : (insts : List Inst) (i : ℕ) (inst : Inst) (bound : ℕ) (words with_first new : List ℕ) → words ≡ module_words (take i insts) bound
    → i < length insts → inst ≡ get_or insts i inst → with_first ≡ words ++ (first_word inst ∷ []) → new ≡ with_first ++ inst.words
    → new ≡ module_words (take (i + 1) insts) bound
written-more insts i inst bound words with_first new same in_range is first_is new_is =
    new_is ∙ ap (λ ws. ws ++ inst.words) first_is ∙ append_assoc words (first_word inst ∷ []) inst.words ∙ ap (λ ws. ws ++ words_of inst) same
    ∙ flat_map_more words_of (module_words [] bound) (take i insts) inst
    ∙ ap (λ one. module_words [] bound ++ flat_map words_of (take i insts ++ one ∷ [])) is
    ∙ ap (λ (some : List Inst). module_words [] bound ++ flat_map words_of some) (sym (take_more insts i inst in_range))

pub narrow-more : (insts : List Inst) (i : ℕ) (inst : Inst) → ((k : ℕ) (d : Inst) → k < i → (get_or insts k d).op < 65536) → i < length insts
    → inst ≡ get_or insts i inst → inst.op < 65536 → (k : ℕ) (d : Inst) → k < i + 1 → (get_or insts k d).op < 65536
narrow-more insts i inst narrow in_range is here k d lt =
    elim (cases_lt k i) [
      | inl below ↦ narrow k d below
      | inr above ↦
          let at : k ≡ i = omega arith in
          let same : get_or insts k d ≡ inst = ap (λ j. get_or insts j d) at ∙ get_or_default insts i d inst in_range ∙ sym is in
          subst (λ (one : Inst). one.op < 65536) (sym same) here
    ]

pub reads-words : (insts : List Inst) (i bound : ℕ) (words : List ℕ) → length insts ≤ i → ((k : ℕ) (d : Inst) → k < i → (get_or insts k d).op < 65536)
    → words ≡ module_words (take i insts) bound → ReadsAgain insts bound words
reads-words insts i bound words all narrow is =
    subst (ReadsAgain insts bound) (ap (λ (some : List Inst). module_words some bound) (sym (take_all i insts all)) ∙ sym is)
    (reads-again insts bound (λ k d lt. narrow k d (omega arith)))
