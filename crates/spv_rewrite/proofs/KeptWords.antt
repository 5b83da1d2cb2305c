-- The words of an instruction that stays.
use Rattle.std.proofs.Common.{◌≡◌, ℕ, zero, suc, ◌/◌, ◌%◌, ◌==◌, ◌||◌, Bool, true, false, cond, if◌then◌else◌, List, [], ◌∷◌, ◌++◌, length, map, take, drop, replicate, refl, ap, sym, ◌∙◌, subst, Option, None, Some, is_some}
use Rattle.std.specs.Prelude.{IsSome, IfSome, Result, Ok, Err}
use Rattle.std.specs.Borrow.{Bor}
use Rattle.std.specs.Option.{option_map}
use Rattle.spirv_model.specs.declared.module.Inst.{Inst}
use Rattle.spirv_model.specs.declared.class.Class.{Class}
use Rattle.spirv_model.specs.declared.table.Operand.{Operand}
use Rattle.spirv_model.specs.declared.table.Operand.TheVariants.{IdRef, LiteralInteger, LiteralString}
use Rattle.spirv_model.specs.declared.table.Operands.{Operands}
use Rattle.spirv_model.specs.declared.table.Rest.{Rest}
use Rattle.spirv_model.specs.declared.table.Rest.TheVariants.{Nothing, IdRefs, LiteralIntegers, PairsIdRefIdRef, PairsLiteralIntegerIdRef}
use Rattle.spirv_model.specs.declared.table.Entry.{Entry}
use Rattle.spirv_model.specs.declared.table.Entry.TheVariants.{Listed}
use Rattle.spirv_model.specs.Operands.{entry_of, text_end, text_words, operand_words, literal_and_id, rest_kinds, kinds_from, listed_of, kinds_in, kinds}
use Rattle.change_model.specs.Plans.{renamed_words, renamed_by}
use Rattle.spv_rewrite.specs.Renaming.{Fit, operand_left, cases_left, rest_left, words_left, all_left, PushesOperand, text_front, after_text, PushesText}

-- ---- texts

abbrev IsText : List ℕ → ℕ → Type 0
IsText words n = (text_front words ≡ take n words) × (after_text words ≡ drop n words)

goes_on : (o : Option ℕ) (word : ℕ) (words : List ℕ) → IfSome o (IsText words)
    → IfSome (option_map (λ n. suc n) o) (λ n. (word ∷ text_front words ≡ take n (word ∷ words)) × (after_text words ≡ drop n (word ∷ words)))
goes_on None word words h = tt
goes_on (Some n) word words h = (ap (λ (t : List ℕ). word ∷ t) h.0, h.1)

one_more : (e : Option Bool) (word : ℕ) (words : List ℕ) → IfSome (text_words words) (IsText words)
    → IfSome (elim e [ None ↦ option_map (λ n. suc n) (text_words words) | Some padded ↦ if padded then Some 1 else None ])
    (λ n. (word ∷ (if is_some e then [] else text_front words) ≡ take n (word ∷ words)) × ((if is_some e then words else after_text words) ≡ drop n (word ∷ words)))
one_more None word words h = goes_on (text_words words) word words h
one_more (Some true) word words h = (refl, refl)
one_more (Some false) word words h = tt

is_text : (words : List ℕ) → IfSome (text_words words) (IsText words)
is_text [] = tt
is_text (word ∷ words) = one_more (text_end word) word words (is_text words)

by_count : (o : Option ℕ) (old new words after : List ℕ) → new ≡ old ++ text_front words → after ≡ after_text words → IfSome o (IsText words)
    → IfSome o (λ n. (new ≡ old ++ take n words) × (after ≡ drop n words))
by_count None old new words after pushed left h = tt
by_count (Some n) old new words after pushed left h = (pushed ∙ ap (λ (t : List ℕ). old ++ t) h.0, left ∙ h.1)

pushes : {E : Type 0} (name : ℕ → ℕ) (result : Result (Bor (List ℕ)) E) (old new words : List ℕ) → PushesText old new words result → PushesOperand name old new LiteralString words result
pushes name (Ok after) old new words p = by_count (text_words words) old new words after.now p.0 p.1 (is_text words)
pushes name (Err e) old new words p = tt

pub text_pushed : {E : Type 0} (name : ℕ → ℕ) (result : Result (Bor (List ℕ)) E) (operand : Operand) (old new words : List ℕ) → operand ≡ LiteralString
    → PushesText old new words result → PushesOperand name old new operand words result
text_pushed name result operand old new words is p = subst (λ (o : Operand). PushesOperand name old new o words result) (sym is) (pushes name result old new words p)

four : (a b d e x y z : Bool) → (a || b || d || e) ≡ is_some (cond a (Some x) (cond b (Some y) (cond d (Some z) (cond e (Some true) None))))
four true b d e x y z = refl
four false true d e x y z = refl
four false false true e x y z = refl
four false false false true x y z = refl
four false false false false x y z = refl

pub text_ends : (word : ℕ) → ((word % 256 == 0) || (word / 256 % 256 == 0) || (word / 65536 % 256 == 0) || (word / 16777216 == 0)) ≡ is_some (text_end word)
text_ends word =
    four (word % 256 == 0) (word / 256 % 256 == 0) (word / 65536 % 256 == 0) (word / 16777216 == 0) (word == 0) (word / 256 == 0) (word / 65536 == 0)

-- ---- words after the listed operands

ids_same : (name : ℕ → ℕ) (ids : List ℕ) → renamed_words name (map (λ _. IdRef) ids) ids ≡ map name ids
ids_same name [] = refl
ids_same name (id ∷ ids) = ap (λ (l : List ℕ). name id ∷ l) (ids_same name ids)

literals_same : (name : ℕ → ℕ) (words : List ℕ) → renamed_words name (map (λ _. LiteralInteger) words) words ≡ words
literals_same name [] = refl
literals_same name (word ∷ words) = ap (λ (l : List ℕ). word ∷ l) (literals_same name words)

cases_same : (name : ℕ → ℕ) (words : List ℕ) → renamed_words name (literal_and_id words) words ≡ cases_left name words
cases_same name [] = refl
cases_same name (literal ∷ []) = refl
cases_same name (literal ∷ id ∷ words) = ap (λ (l : List ℕ). literal ∷ name id ∷ l) (cases_same name words)

even : (name : ℕ → ℕ) (b : Bool) (kinds : List Operand) (words left : List ℕ) → renamed_words name kinds words ≡ left → IsSome (if b then Some kinds else None) → renamed_by name (if b then Some kinds else None) words ≡ left
even name true kinds words left same some = same
even name false kinds words left same some = cc

rest_same : (name : ℕ → ℕ) (rest : Rest) (words : List ℕ) → IsSome (rest_kinds rest words) → renamed_by name (rest_kinds rest words) words ≡ rest_left name rest words
rest_same name Nothing [] some = refl
rest_same name Nothing (word ∷ words) some = cc
rest_same name IdRefs words some = ids_same name words
rest_same name LiteralIntegers words some = literals_same name words
rest_same name PairsIdRefIdRef words some = even name (length words % 2 == 0) (map (λ _. IdRef) words) words (map name words) (ids_same name words) some
rest_same name PairsLiteralIntegerIdRef words some = even name (length words % 2 == 0) (literal_and_id words) words (cases_left name words) (cases_same name words) some

-- ---- listed operands

abbrev one_left : (ℕ → ℕ) → Operand → ℕ → ℕ
one_left name IdRef word = name word
one_left name operand word = word

none_left : (name : ℕ → ℕ) (operand : Operand) → operand_left name operand [] ≡ []
none_left name IdRef = refl
none_left name operand = refl

more_left : (name : ℕ → ℕ) (operand : Operand) (word : ℕ) (words : List ℕ) → operand_left name operand (word ∷ words) ≡ one_left name operand word ∷ operand_left name operand words
more_left name IdRef word words = refl
more_left name operand word words = refl

first_renamed : (name : ℕ → ℕ) (operand : Operand) (kinds : List Operand) (word : ℕ) (words : List ℕ) → renamed_words name (operand ∷ kinds) (word ∷ words) ≡ one_left name operand word ∷ renamed_words name kinds words
first_renamed name IdRef kinds word words = refl
first_renamed name operand kinds word words = refl

none_renamed : (name : ℕ → ℕ) (kinds : List Operand) → renamed_words name kinds [] ≡ []
none_renamed name [] = refl
none_renamed name (kind ∷ kinds) = refl

front_same : (name : ℕ → ℕ) (operand : Operand) (kinds : List Operand) (n : ℕ) (words : List ℕ)
    → renamed_words name (replicate n operand ++ kinds) words ≡ operand_left name operand (take n words) ++ renamed_words name kinds (drop n words)
front_same name operand kinds zero words = ap (λ (l : List ℕ). l ++ renamed_words name kinds words) (sym (none_left name operand))
front_same name operand kinds (suc n) [] = sym (ap (λ (l : List ℕ). l ++ renamed_words name kinds []) (none_left name operand) ∙ none_renamed name kinds)
front_same name operand kinds (suc n) (word ∷ words) =
    first_renamed name operand (replicate n operand ++ kinds) word words ∙ ap (λ (l : List ℕ). one_left name operand word ∷ l) (front_same name operand kinds n words)
    ∙ sym (ap (λ (l : List ℕ). l ++ renamed_words name kinds (drop n words)) (more_left name operand word (take n words)))

by_kinds : (name : ℕ → ℕ) (operand : Operand) (n : ℕ) (words rest : List ℕ) (k : Option (List Operand)) → IsSome (option_map (λ kinds. replicate n operand ++ kinds) k)
    → (IsSome k → renamed_by name k (drop n words) ≡ rest) → renamed_by name (option_map (λ kinds. replicate n operand ++ kinds) k) words ≡ operand_left name operand (take n words) ++ rest
by_kinds name operand n words rest None some later = cc
by_kinds name operand n words rest (Some kinds) some later = front_same name operand kinds n words ∙ ap (λ (l : List ℕ). operand_left name operand (take n words) ++ l) (later refl)

listed_same : (name : ℕ → ℕ) (listed : List (Option Operand)) (rest : Rest) (words : List ℕ) → Fit listed rest words → renamed_by name (kinds_from listed rest words) words ≡ words_left name listed rest words
listed_same name [] rest words fit = rest_same name rest words fit
listed_same name (None ∷ more) rest words fit = rest_same name rest words fit
listed_same name (Some operand ∷ more) rest words fit = by_words (operand_words operand words) fit (λ n. listed_same name more rest (drop n words))
  where
    by_words : (o : Option ℕ)
        → IsSome (elim o [ None ↦ None | Some n ↦ option_map (λ kinds. replicate n operand ++ kinds) (kinds_from more rest (drop n words)) ])
        → ((n : ℕ) → Fit more rest (drop n words) → renamed_by name (kinds_from more rest (drop n words)) (drop n words) ≡ words_left name more rest (drop n words))
        → renamed_by name (elim o [ None ↦ None | Some n ↦ option_map (λ kinds. replicate n operand ++ kinds) (kinds_from more rest (drop n words)) ]) words
        ≡ elim o [ None ↦ [] | Some n ↦ operand_left name operand (take n words) ++ words_left name more rest (drop n words) ]
    by_words None some later = cc
    by_words (Some n) some later = by_kinds name operand n words (words_left name more rest (drop n words)) (kinds_from more rest (drop n words)) some (later n)

-- ---- an instruction

pub listed_kinds : (inst : Inst) (class : Class) (operands : Operands) (words : List ℕ) → entry_of inst.op ≡ Some (Listed class operands) → words ≡ inst.words
    → kinds inst ≡ kinds_from (listed_of operands) operands.rest words
unfolding kinds
listed_kinds inst class operands words h w = ap (λ (e : Option Entry). kinds_in e inst.words) h ∙ ap (kinds_from (listed_of operands) operands.rest) (sym w)

pub words_same : (name : ℕ → ℕ) (inst : Inst) (class : Class) (operands : Operands) (words : List ℕ) → entry_of inst.op ≡ Some (Listed class operands) → words ≡ inst.words
    → IsSome (kinds inst) → all_left name operands words ≡ renamed_by name (kinds inst) inst.words
words_same name inst class operands words h w some =
    let k = listed_kinds inst class operands words h w in
    sym (listed_same name (listed_of operands) operands.rest words (subst (λ (o : Option (List Operand)). IsSome o) k some))
    ∙ ap (λ (o : Option (List Operand)). renamed_by name o words) (sym k) ∙ ap (renamed_by name (kinds inst)) w
