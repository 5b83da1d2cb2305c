-- What an instruction uses that names no id that goes: ids that stay.
use Rattle.std.proofs.Common.{◌≡◌, ℕ, ◌==◌, ◌%◌, ◌||◌, Bool, true, false, if◌then◌else◌, List, [], ◌∷◌, length, map, refl, ap, sym, ◌∙◌, Option, None, Some, is_some}
use Rattle.std.specs.List.{list_any}
use Rattle.std.specs.Option.{option_map}
use Rattle.spirv_model.specs.declared.module.Inst.{Inst}
use Rattle.spirv_model.specs.declared.op.TheConstants as op
use Rattle.spirv_model.specs.declared.table.Operand.{Operand}
use Rattle.spirv_model.specs.declared.table.Operand.TheVariants.{IdResultType, IdResult, IdRef}
use Rattle.spirv_model.specs.Operands.{word_at, literal_and_id, kinds, ids_among, ids_by, ids, entry_of, class_of}
use Rattle.check_model.specs.Visibility.{used_among, used_by, uses_operands, is_choice, used_ids, Incoming, incoming_in, incoming}
use Rattle.typed_model.proofs.EffectsRun.{instruction}
use Rattle.typed_model.proofs.PlainRuns.{at_op}
use Rattle.typed_model.proofs.ReadTypes.{Each}
use Rattle.change_model.proofs.StayingWords.{Stays}

pub each_stays : (gone : ℕ → Bool) (words : List ℕ) → list_any gone words ≡ false → Each (λ id. gone id ≡ false) words
each_stays gone [] none = tt
each_stays gone (id ∷ words) none = by_test (gone id) refl none (each_stays gone words)
  where
    by_test : (b : Bool) → gone id ≡ b → (b || list_any gone words) ≡ false → (list_any gone words ≡ false → Each (λ id. gone id ≡ false) words) → (gone id ≡ false) × Each (λ id. gone id ≡ false) words
    by_test true is none rest = cc
    by_test false is none rest = (is, rest none)

-- ---- operands

second_none : (a b : Bool) → (a || b) ≡ false → b ≡ false
second_none true b none = cc
second_none false b none = none

first_none : (a b : Bool) → (a || b) ≡ false → a ≡ false
first_none true b none = cc
first_none false b none = refl

one_more : (a b c : Bool) → (a || b) ≡ false → (b ≡ false → c ≡ false) → (a || c) ≡ false
one_more true b c none rest = cc
one_more false b c none rest = rest none

used_none : (gone : ℕ → Bool) (found : List Operand) (words : List ℕ) → list_any gone (ids_among found words) ≡ false → list_any gone (used_among found words) ≡ false
used_none gone [] words none = refl
used_none gone (kind ∷ found) [] none = refl
used_none gone (IdResultType ∷ found) (word ∷ words) none = one_more (gone word) (list_any gone (ids_among found words)) (list_any gone (used_among found words)) none (used_none gone found words)
used_none gone (IdRef ∷ found) (word ∷ words) none = one_more (gone word) (list_any gone (ids_among found words)) (list_any gone (used_among found words)) none (used_none gone found words)
used_none gone (IdResult ∷ found) (word ∷ words) none = used_none gone found words (second_none (gone word) (list_any gone (ids_among found words)) none)
used_none gone (kind ∷ found) (word ∷ words) none = used_none gone found words none

used_by_none : (gone : ℕ → Bool) (found : Option (List Operand)) (words : List ℕ) → list_any gone (ids_by found words) ≡ false → list_any gone (used_by found words) ≡ false
used_by_none gone None words none = refl
used_by_none gone (Some found) words none = used_none gone found words none

operands_stay : (gone : ℕ → Bool) (inst : Inst) → Stays gone inst → list_any gone (used_by (kinds inst) inst.words) ≡ false
unfolding ids
operands_stay gone inst s = used_by_none gone (kinds inst) inst.words s.none

-- ---- conditions and selectors

abbrev FirstStays : (ℕ → Bool) → Inst → Type 0
FirstStays gone inst = is_some (kinds inst) ≡ true → list_any gone (ids inst) ≡ false → gone (word_at 0 inst) ≡ false

condition_stays : (gone : ℕ → Bool) (words : List ℕ) → FirstStays gone (instruction op.BRANCH_CONDITIONAL words)
unfolding kinds entry_of ids
condition_stays gone (condition ∷ first ∷ second ∷ []) has none = first_none (gone condition) _ none
condition_stays gone (condition ∷ first ∷ second ∷ more ∷ words) has none = cc
condition_stays gone (condition ∷ first ∷ []) has none = cc
condition_stays gone (condition ∷ []) has none = cc
condition_stays gone [] has none = cc

abbrev switch_kinds : List ℕ → Bool → Option (List Operand)
switch_kinds cases even = option_map (λ (k : List Operand). IdRef ∷ k) (option_map (λ (k : List Operand). IdRef ∷ k) (if even then Some (literal_and_id cases) else None))

selector_by : (gone : ℕ → Bool) (selector default : ℕ) (cases : List ℕ) (even : Bool) → is_some (switch_kinds cases even) ≡ true → list_any gone (ids_by (switch_kinds cases even) (selector ∷ default ∷ cases)) ≡ false → gone selector ≡ false
selector_by gone selector default cases true has none = first_none (gone selector) _ none
selector_by gone selector default cases false has none = cc

selector_stays : (gone : ℕ → Bool) (words : List ℕ) → FirstStays gone (instruction op.SWITCH words)
unfolding kinds entry_of ids
selector_stays gone (selector ∷ default ∷ cases) has none = selector_by gone selector default cases (length cases % 2 == 0) has none
selector_stays gone (selector ∷ []) has none = cc
selector_stays gone [] has none = cc

choice_stays : (gone : ℕ → Bool) (inst : Inst) → Stays gone inst → is_choice inst.op ≡ true → gone (word_at 0 inst) ≡ false
choice_stays gone inst s is = by_tests (inst.op == op.BRANCH_CONDITIONAL) (inst.op == op.SWITCH) refl refl is
  where
    by_tests : (a b : Bool) → inst.op == op.BRANCH_CONDITIONAL ≡ a → inst.op == op.SWITCH ≡ b → (a || b) ≡ true → gone (word_at 0 inst) ≡ false
    by_tests true b is other some = at_op (FirstStays gone) inst op.BRANCH_CONDITIONAL is (condition_stays gone inst.words) s.shaped s.none
    by_tests false true other is some = at_op (FirstStays gone) inst op.SWITCH is (selector_stays gone inst.words) s.shaped s.none
    by_tests false false other is some = cc

-- all that an instruction uses stays
pub used_stay : (gone : ℕ → Bool) (inst : Inst) → Stays gone inst → list_any gone (used_ids inst) ≡ false
unfolding used_ids
used_stay gone inst s = by_tests (uses_operands (class_of inst.op)) (is_choice inst.op) refl
  where
    alone : (b : Bool) → b ≡ false → (b || false) ≡ false
    alone b is = rw is refl

    by_tests : (a b : Bool) → is_choice inst.op ≡ b → list_any gone (if a then used_by (kinds inst) inst.words else if b then word_at 0 inst ∷ [] else []) ≡ false
    by_tests true b is = operands_stay gone inst s
    by_tests false true is = alone (gone (word_at 0 inst)) (choice_stays gone inst s is)
    by_tests false false is = refl

-- ---- phis

refs : (words : List ℕ) → ids_among (map (λ (_ : ℕ). IdRef) words) words ≡ words
refs [] = refl
refs (word ∷ words) = ap (λ (l : List ℕ). word ∷ l) (refs words)

pairs_stay : (gone : ℕ → Bool) (words : List ℕ) → list_any gone words ≡ false → list_any (λ (pair : Incoming). gone pair.value) (incoming_in words) ≡ false
pairs_stay gone [] none = refl
pairs_stay gone (value ∷ []) none = refl
pairs_stay gone (value ∷ block ∷ words) none =
    one_more (gone value) (gone block || list_any gone words) (list_any (λ (pair : Incoming). gone pair.value) (incoming_in words)) none
    (λ rest. pairs_stay gone words (second_none (gone block) (list_any gone words) rest))

abbrev PhiStays : (ℕ → Bool) → Inst → Type 0
PhiStays gone inst = is_some (kinds inst) ≡ true → list_any gone (ids inst) ≡ false → (gone (word_at 0 inst) ≡ false) × (list_any (λ (pair : Incoming). gone pair.value) (incoming inst) ≡ false)

abbrev phi_kinds : List ℕ → Bool → Option (List Operand)
phi_kinds pairs even = option_map (λ (k : List Operand). IdResultType ∷ k) (option_map (λ (k : List Operand). IdResult ∷ k) (if even then Some (map (λ _. IdRef) pairs) else None))

phi_by : (gone : ℕ → Bool) (type own : ℕ) (pairs : List ℕ) (even : Bool) → is_some (phi_kinds pairs even) ≡ true → list_any gone (ids_by (phi_kinds pairs even) (type ∷ own ∷ pairs)) ≡ false
    → (gone type ≡ false) × (list_any (λ (pair : Incoming). gone pair.value) (incoming_in pairs) ≡ false)
phi_by gone type own pairs true has none =
    let behind = second_none (gone own) _ (second_none (gone type) _ none) in
    (first_none (gone type) _ none, pairs_stay gone pairs (sym (ap (list_any gone) (refs pairs)) ∙ behind))
phi_by gone type own pairs false has none = cc

phi_words : (gone : ℕ → Bool) (words : List ℕ) → PhiStays gone (instruction op.PHI words)
unfolding kinds entry_of ids
phi_words gone (type ∷ own ∷ pairs) has none = phi_by gone type own pairs (length pairs % 2 == 0) has none
phi_words gone (type ∷ []) has none = cc
phi_words gone [] has none = cc

-- so does what a phi uses
pub phi_stays : (gone : ℕ → Bool) (inst : Inst) → Stays gone inst → inst.op == op.PHI ≡ true → (gone (word_at 0 inst) ≡ false) × (list_any (λ (pair : Incoming). gone pair.value) (incoming inst) ≡ false)
phi_stays gone inst s is = at_op (PhiStays gone) inst op.PHI is (phi_words gone inst.words) s.shaped s.none
