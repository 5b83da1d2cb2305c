-- The ids of an instruction: its result, and what its other operands are.
use Rattle.std.proofs.Common.{◌≡◌, ℕ, zero, suc, ◌==◌, ◌||◌, ◌⊎◌, inl, inr, Bool, true, false, not, if◌then◌else◌, List, [], ◌∷◌, ◌++◌, map, drop, slice_index, refl, ap, sym, ◌∙◌, Option, None, Some}
use Rattle.std.specs.Prelude.{replicate}
use Rattle.std.specs.List.{list_all}
use Rattle.std.specs.Option.{option_map}
use Rattle.std.proofs.lemmas.Bool.{eqb-true}
use Rattle.basics.proofs.Bools.{first_of_both, second_of_both}
use Rattle.spirv_model.specs.declared.module.Inst.{Inst}
use Rattle.spirv_model.specs.declared.table.TheConstants.{ROWS}
use Rattle.spirv_model.specs.declared.table.Operand.{Operand}
use Rattle.spirv_model.specs.declared.table.Operand.TheVariants.{IdResultType, IdResult, IdRef, LiteralInteger, Fixed, LiteralString}
use Rattle.spirv_model.specs.declared.table.Rest.{Rest}
use Rattle.spirv_model.specs.declared.table.Rest.TheVariants.{Nothing, IdRefs, LiteralIntegers, PairsIdRefIdRef, PairsLiteralIntegerIdRef}
use Rattle.spirv_model.specs.declared.table.Entry.{Entry}
use Rattle.spirv_model.specs.declared.table.Entry.TheVariants.{Listed, Skipped, Float}
use Rattle.spirv_model.specs.Operands.{entry_of, operand_words, literal_and_id, rest_kinds, kinds_from, listed_of, kinds_in, kinds, ids_among, ids_by, ids, result_place, result_in, result}
use Rattle.body_model.specs.Switches.{is_among}
use Rattle.check_model.specs.Visibility.{used_among, used_by}
use Rattle.typed_model.proofs.ResultIds.{in_rows}

-- ---- operands among which there is no result

abbrev is_result_operand : Option Operand → Bool
is_result_operand (Some IdResult) = true
is_result_operand operand = false

abbrev no_results : List (Option Operand) → Bool
no_results listed = list_all (λ (operand : Option Operand). not (is_result_operand operand)) listed

-- those of them that are ids are all used
abbrev AreUsed : Option (List Operand) → List ℕ → Type 0
AreUsed found words = ids_by found words ≡ used_by found words

refs_used : (others words : List ℕ) → ids_among (map (λ (_ : ℕ). IdRef) others) words ≡ used_among (map (λ (_ : ℕ). IdRef) others) words
refs_used [] words = refl
refs_used (other ∷ others) [] = refl
refs_used (other ∷ others) (word ∷ words) = ap (λ (l : List ℕ). word ∷ l) (refs_used others words)

literals_used : (others words : List ℕ) → ids_among (map (λ (_ : ℕ). LiteralInteger) others) words ≡ used_among (map (λ (_ : ℕ). LiteralInteger) others) words
literals_used [] words = refl
literals_used (other ∷ others) [] = refl
literals_used (other ∷ others) (word ∷ words) = literals_used others words

turns_used : (others words : List ℕ) → ids_among (literal_and_id others) words ≡ used_among (literal_and_id others) words
turns_used [] words = refl
turns_used (literal ∷ []) [] = refl
turns_used (literal ∷ []) (word ∷ words) = refl
turns_used (literal ∷ id ∷ others) [] = refl
turns_used (literal ∷ id ∷ others) (word ∷ []) = refl
turns_used (literal ∷ id ∷ others) (word ∷ second ∷ words) = ap (λ (l : List ℕ). second ∷ l) (turns_used others words)

even_used : (found : List Operand) (words : List ℕ) (b : Bool) → ids_among found words ≡ used_among found words → AreUsed (if b then Some found else None) words
even_used found words true same = same
even_used found words false same = refl

rest_used : (rest : Rest) (words : List ℕ) → AreUsed (rest_kinds rest words) words
rest_used Nothing [] = refl
rest_used Nothing (word ∷ words) = refl
rest_used IdRefs words = refs_used words words
rest_used LiteralIntegers words = literals_used words words
rest_used PairsIdRefIdRef words = even_used (map (λ (_ : ℕ). IdRef) words) words _ (refs_used words words)
rest_used PairsLiteralIntegerIdRef words = even_used (literal_and_id words) words _ (turns_used words words)

one_used : (operand : Operand) (found : List Operand) (word : ℕ) (words : List ℕ) → not (is_result_operand (Some operand)) ≡ true → ids_among found words ≡ used_among found words → ids_among (operand ∷ found) (word ∷ words) ≡ used_among (operand ∷ found) (word ∷ words)
one_used IdResultType found word words isnt same = ap (λ (l : List ℕ). word ∷ l) same
one_used IdResult found word words isnt same = cc
one_used IdRef found word words isnt same = ap (λ (l : List ℕ). word ∷ l) same
one_used LiteralInteger found word words isnt same = same
one_used (Fixed expected) found word words isnt same = same
one_used LiteralString found word words isnt same = same

several_used : (n : ℕ) (operand : Operand) (found : List Operand) (words : List ℕ) → not (is_result_operand (Some operand)) ≡ true → ids_among found (drop n words) ≡ used_among found (drop n words)
    → ids_among (replicate n operand ++ found) words ≡ used_among (replicate n operand ++ found) words
several_used zero operand found words isnt same = same
several_used (suc n) operand found [] isnt same = refl
several_used (suc n) operand found (word ∷ words) isnt same = one_used operand (replicate n operand ++ found) word words isnt (several_used n operand found words isnt same)

more_used : (listed : List (Option Operand)) (rest : Rest) (words : List ℕ) → no_results listed ≡ true → AreUsed (kinds_from listed rest words) words
more_used [] rest words none = rest_used rest words
more_used (None ∷ more) rest words none = rest_used rest words
more_used (Some operand ∷ more) rest words none =
    by_words (operand_words operand words) (λ n. more_used more rest (drop n words) (second_of_both (not (is_result_operand (Some operand))) (no_results more) none))
  where
    isnt : not (is_result_operand (Some operand)) ≡ true
    isnt = first_of_both (not (is_result_operand (Some operand))) (no_results more) none

    by_rest : (n : ℕ) (found : Option (List Operand)) → AreUsed found (drop n words) → AreUsed (option_map (λ (k : List Operand). replicate n operand ++ k) found) words
    by_rest n None same = refl
    by_rest n (Some found) same = several_used n operand found words isnt same

    by_words : (taken : Option ℕ) → ((n : ℕ) → AreUsed (kinds_from more rest (drop n words)) (drop n words)) → AreUsed (elim taken [ None ↦ None | Some n ↦ option_map (λ (k : List Operand). replicate n operand ++ k) (kinds_from more rest (drop n words)) ]) words
    by_words None same = refl
    by_words (Some n) same = by_rest n (kinds_from more rest (drop n words)) (same n)

-- ---- a result stands first, or behind its type

abbrev has_result_first : List (Option Operand) → Bool
has_result_first (Some IdResultType ∷ Some IdResult ∷ more) = no_results more
has_result_first (Some IdResult ∷ more) = no_results more
has_result_first listed = no_results listed

abbrev is_result_row : Option Entry → Bool
is_result_row (Some (Listed of operands)) = has_result_first (listed_of operands)
is_result_row entry = true

all_result_rows : list_all (λ row. is_result_row (Some row.entry)) ROWS ≡ true
all_result_rows = refl

result_row : (opcode : ℕ) → is_result_row (entry_of opcode) ≡ true
unfolding entry_of
result_row opcode = in_rows (λ opcode entry. is_result_row entry) (λ opcode. refl) ROWS opcode all_result_rows

-- ---- an id is the result, or used

either : {Q : Type 0} (a b : Bool) → (a || b) ≡ true → (a ≡ true → Q) → (b ≡ true → Q) → Q
either true b is here there = here refl
either false b is here there = there is

or_left : (a b : Bool) → a ≡ true → (a || b) ≡ true
or_left true b is = refl
or_left false b is = cc

or_right : (a b : Bool) → b ≡ true → (a || b) ≡ true
or_right true b is = refl
or_right false b is = is

abbrev IsOf : ℕ → Option Entry → List ℕ → Option ℕ → Type 0
IsOf id entry words own = is_among id (ids_by (kinds_in entry words) words) ≡ true → (own ≡ Some id) ⊎ (is_among id (used_by (kinds_in entry words) words) ≡ true)

abbrev IsListedOf : ℕ → List (Option Operand) → Rest → List ℕ → Option ℕ → Type 0
IsListedOf id listed rest words own = is_among id (ids_by (kinds_from listed rest words) words) ≡ true → (own ≡ Some id) ⊎ (is_among id (used_by (kinds_from listed rest words) words) ≡ true)

abbrev result_of : List (Option Operand) → List ℕ → Option ℕ
result_of listed words = option_map (λ place. slice_index words place) (result_place listed)

typed_of : (id : ℕ) (more : List (Option Operand)) (rest : Rest) (words : List ℕ) → no_results more ≡ true → IsListedOf id (Some IdResultType ∷ Some IdResult ∷ more) rest words (result_of (Some IdResultType ∷ Some IdResult ∷ more) words)
typed_of id more rest [] none among = cc
typed_of id more rest (a ∷ []) none among = cc
typed_of id more rest (a ∷ b ∷ words) none among = by_found (kinds_from more rest words) (more_used more rest words none) among
  where
    by_found : (found : Option (List Operand)) → AreUsed found words → is_among id (ids_by (option_map (λ (k : List Operand). IdResultType ∷ k) (option_map (λ (k : List Operand). IdResult ∷ k) found)) (a ∷ b ∷ words)) ≡ true
        → (Some b ≡ Some id) ⊎ (is_among id (used_by (option_map (λ (k : List Operand). IdResultType ∷ k) (option_map (λ (k : List Operand). IdResult ∷ k) found)) (a ∷ b ∷ words)) ≡ true)
    by_found None same among = cc
    by_found (Some k) same among =
        either (a == id) ((b == id) || is_among id (ids_among k words)) among (λ own. inr (or_left (a == id) (is_among id (used_among k words)) own))
        (λ later. either (b == id) (is_among id (ids_among k words)) later (λ own. inl (ap (λ (n : ℕ). Some n) (eqb-true b id own))) (λ used. inr (or_right (a == id) (is_among id (used_among k words)) (ap (is_among id) (sym same) ∙ used))))

first_of : (id : ℕ) (more : List (Option Operand)) (rest : Rest) (words : List ℕ) → no_results more ≡ true → IsListedOf id (Some IdResult ∷ more) rest words (result_of (Some IdResult ∷ more) words)
first_of id more rest [] none among = cc
first_of id more rest (a ∷ words) none among = by_found (kinds_from more rest words) (more_used more rest words none) among
  where
    by_found : (found : Option (List Operand)) → AreUsed found words → is_among id (ids_by (option_map (λ (k : List Operand). IdResult ∷ k) found) (a ∷ words)) ≡ true
        → (Some a ≡ Some id) ⊎ (is_among id (used_by (option_map (λ (k : List Operand). IdResult ∷ k) found) (a ∷ words)) ≡ true)
    by_found None same among = cc
    by_found (Some k) same among =
        either (a == id) (is_among id (ids_among k words)) among (λ own. inl (ap (λ (n : ℕ). Some n) (eqb-true a id own))) (λ used. inr (ap (is_among id) (sym same) ∙ used))

others_of : (id : ℕ) (listed : List (Option Operand)) (rest : Rest) (words : List ℕ) (own : Option ℕ) → no_results listed ≡ true → IsListedOf id listed rest words own
others_of id listed rest words own none among = inr (ap (is_among id) (sym (more_used listed rest words none)) ∙ among)

listed_of_ids : (id : ℕ) (listed : List (Option Operand)) (rest : Rest) (words : List ℕ) → has_result_first listed ≡ true → IsListedOf id listed rest words (result_of listed words)
listed_of_ids id (Some IdResultType ∷ Some IdResult ∷ more) rest words first = typed_of id more rest words first
listed_of_ids id (Some IdResult ∷ more) rest words first = first_of id more rest words first
listed_of_ids id listed rest words first = others_of id listed rest words (result_of listed words) first

entry_ids : (id : ℕ) (entry : Option Entry) (inst : Inst) → is_result_row entry ≡ true → IsOf id entry inst.words (result_in entry inst)
entry_ids id (Some (Listed of operands)) inst first among = listed_of_ids id (listed_of operands) operands.rest inst.words first among
entry_ids id (Some Skipped) inst first among = cc
entry_ids id (Some Float) inst first among = cc
entry_ids id None inst first among = cc

pub ids_are : (inst : Inst) (id : ℕ) → is_among id (ids inst) ≡ true → (result inst ≡ Some id) ⊎ (is_among id (used_by (kinds inst) inst.words) ≡ true)
unfolding ids kinds result
ids_are inst id among = entry_ids id (entry_of inst.op) inst (result_row inst.op) among
