-- Fields of ids and of literals, and texts.
use Rattle.std.proofs.Common.{◌≡◌, ℕ, suc, ◌/◌, ◌%◌, Bool, true, false, cond, if◌then◌else◌, ◌==◌, List, [], ◌∷◌, ◌++◌, map, take, drop, codes, Option, None, Some, is_some, refl, ap, subst, sym, ◌∙◌, append_assoc, append-nil}
use Rattle.std.specs.Prelude.{IfSome, Result, Ok, Err}
use Rattle.std.specs.Borrow.{Bor}
use Rattle.std.specs.List.{flat_map}
use Rattle.std.specs.Option.{option_map}
use Rattle.std.specs.Fmt.{decimal}
use Rattle.spirv_model.specs.declared.table.Operand.{Operand}
use Rattle.spirv_model.specs.declared.table.Operand.TheVariants.{LiteralString}
use Rattle.spirv_model.specs.declared.table.Rest.{Rest}
use Rattle.spirv_model.specs.declared.table.Rest.TheVariants.{IdRefs, LiteralIntegers, PairsIdRefIdRef}
use Rattle.spirv_model.specs.Operands.{text_end, text_words}
use Rattle.listing_model.specs.Listing.{after_space, bytes_of, id_text, rest_fields, word_digits}
use Rattle.spv_text.specs.Pieces.{PushesOperand, PushesString, after_string, has_zero, string_digits}

mapped : (f : List ℕ → List ℕ) (g : ℕ → List ℕ) (xs : List ℕ) → flat_map f (map g xs) ≡ flat_map (λ x. f (g x)) xs
mapped f g [] = refl
mapped f g (x ∷ xs) = ap (λ (t : List ℕ). f (g x) ++ t) (mapped f g xs)

pub ids_mapped : (rest : Rest) (ids : List ℕ) → rest ≡ IdRefs → flat_map after_space (rest_fields rest ids) ≡ flat_map (λ id. after_space (id_text id)) ids
ids_mapped rest ids is = ap (λ (r : Rest). flat_map after_space (rest_fields r ids)) is ∙ mapped after_space id_text ids

pub pairs_mapped : (rest : Rest) (ids : List ℕ) → rest ≡ PairsIdRefIdRef → flat_map after_space (rest_fields rest ids) ≡ flat_map (λ id. after_space (id_text id)) ids
pairs_mapped rest ids is = ap (λ (r : Rest). flat_map after_space (rest_fields r ids)) is ∙ mapped after_space id_text ids

pub literals_mapped : (rest : Rest) (literals : List ℕ) → rest ≡ LiteralIntegers
    → flat_map after_space (rest_fields rest literals) ≡ flat_map (λ n. after_space (decimal n)) literals
literals_mapped rest literals is = ap (λ (r : Rest). flat_map after_space (rest_fields r literals)) is ∙ mapped after_space decimal literals

-- ---- texts

four : (a b d e x y z : Bool) → cond a true (cond b true (cond d true (cond e true false)))
    ≡ is_some (cond a (Some x) (cond b (Some y) (cond d (Some z) (cond e (Some true) None))))
four true b d e x y z = refl
four false true d e x y z = refl
four false false true e x y z = refl
four false false false true x y z = refl
four false false false false x y z = refl

ends : (word : ℕ) → has_zero (bytes_of word) ≡ is_some (text_end word)
ends word =
    four (word % 256 == 0) (word / 256 % 256 == 0) (word / 65536 % 256 == 0) (word / 16777216 == 0) (word == 0) (word / 256 == 0) (word / 65536 == 0)

-- the text at the front and what is after it, by the number of its words
abbrev IsText : List ℕ → ℕ → Type 0
IsText words n = (string_digits words ≡ flat_map word_digits (take n words)) × (after_string words ≡ drop n words)

goes_on : (o : Option ℕ) (word : ℕ) (words : List ℕ) → IfSome o (IsText words)
    → IfSome (option_map (λ n. suc n) o) (λ n. (word_digits word ++ string_digits words ≡ flat_map word_digits (take n (word ∷ words))) × (after_string words ≡ drop n (word ∷ words)))
goes_on None word words h = tt
goes_on (Some n) word words h = (ap (λ (t : List ℕ). word_digits word ++ t) h.0, h.1)

one_more : (e : Option Bool) (z : Bool) (word : ℕ) (words : List ℕ) → z ≡ is_some e → IfSome (text_words words) (IsText words)
    → IfSome (elim e [ None ↦ option_map (λ n. suc n) (text_words words) | Some padded ↦ if padded then Some 1 else None ])
    (λ n. (word_digits word ++ (if z then [] else string_digits words) ≡ flat_map word_digits (take n (word ∷ words))) × ((if z then words else after_string words) ≡ drop n (word ∷ words)))
one_more None true word words is h = cc
one_more None false word words is h = goes_on (text_words words) word words h
one_more (Some true) true word words is h = (refl, refl)
one_more (Some false) true word words is h = tt
one_more (Some padded) false word words is h = cc

is_text : (words : List ℕ) → IfSome (text_words words) (IsText words)
is_text [] = tt
is_text (word ∷ words) = one_more (text_end word) (has_zero (bytes_of word)) word words (ends word) (is_text words)

by_count : (o : Option ℕ) (old mid new words after : List ℕ) → mid ≡ old ++ codes " x" → new ≡ mid ++ string_digits words → after ≡ after_string words → IfSome o (IsText words)
    → IfSome o (λ n. (new ≡ old ++ flat_map after_space ((120 ∷ flat_map word_digits (take n words)) ∷ [])) × (after ≡ drop n words))
by_count None old mid new words after m p a h = tt
by_count (Some n) old mid new words after m p a h = (
  p ∙ ap (λ (t : List ℕ). t ++ string_digits words) m ∙ append_assoc old (codes " x") (string_digits words)
      ∙ ap (λ (t : List ℕ). old ++ 32 ∷ 120 ∷ t) (h.0 ∙ sym (append-nil (flat_map word_digits (take n words)))),
  a ∙ h.1,
)

pushed : {E : Type 0} (result : Result (Bor (List ℕ)) E) (old mid new words : List ℕ) → mid ≡ old ++ codes " x" → PushesString mid new words result
    → PushesOperand old new LiteralString words result
pushed (Ok after) old mid new words m p = by_count (text_words words) old mid new words after.now m p.0 p.1 (is_text words)
pushed (Err e) old mid new words m p = tt

pub string_pushed : {E : Type 0} (result : Result (Bor (List ℕ)) E) (operand : Operand) (old mid new words : List ℕ) → operand ≡ LiteralString
    → mid ≡ old ++ codes " x" → PushesString mid new words result → PushesOperand old new operand words result
string_pushed result operand old mid new words is m p = subst (λ (o : Operand). PushesOperand old new o words result) (sym is) (pushed result old mid new words m p)
