-- The fields of an instruction's words speak of these words.
use Rattle.std.proofs.Common.{◌≡◌, ℕ, zero, suc, ◌+◌, ◌*◌, ◌<◌, ◌≤◌, ◌^◌, Bool, true, false, ◌&&◌, not, cond, ◌==◌, List, [], ◌∷◌, ◌++◌, drop, take, map, replicate, Option, None, Some, is_some, refl, ap, subst, sym, ◌∙◌, append-nil, take-append-drop, length, length-append, arith, if◌then◌else◌}
use Rattle.std.specs.Prelude.{IfSome, slice_index}
use Rattle.std.specs.List.{flat_map}
use Rattle.std.specs.Option.{option_map}
use Rattle.std.specs.Fmt.{decimal}
use Rattle.std.proofs.lemmas.Grind.{flat_map-append}
use Rattle.std.proofs.lemmas.List.Folds.{list_all-append}
use Rattle.basics.proofs.Bools.{first_of_both, second_of_both}
use Rattle.spirv_model.specs.declared.table.Operand.{Operand}
use Rattle.spirv_model.specs.declared.table.Operand.TheVariants.{IdResultType, IdResult, IdRef, LiteralInteger, Fixed, LiteralString}
use Rattle.spirv_model.specs.declared.table.Rest.{Rest}
use Rattle.spirv_model.specs.declared.table.Rest.TheVariants.{Nothing, IdRefs, LiteralIntegers, PairsIdRefIdRef, PairsLiteralIntegerIdRef}
use Rattle.spirv_model.specs.Operands.{kinds_from, operand_words, rest_kinds, result_place, text_end, text_words}
use Rattle.listing_model.specs.Listing.{after_space, before_zero, byte_digits, bytes_of, fields_from, id_text, literal_and_id_fields, operand_fields, rest_fields, string_text, word_digits}
use Rattle.listing_model.specs.Spelling.{field_words, with_result}
use Rattle.listing_model.specs.Meaning.{are_words, is_word}
use Rattle.listing_model.proofs.Digits.{above, bytes_above, both_above, decimal_above, decimal_short, id_above, id_words, literal_words}
use Rattle.listing_model.proofs.Texts.{below_limit, text_back}
use Rattle.listing_model.proofs.Cuts.{are_fields}

-- these fields speak of these words, and have no space and no line feed
pub record Speak (fields : List (List ℕ)) (words : List ℕ) : Type 0 where
  pub words_are : flat_map field_words fields ≡ words
  pub clean : are_fields fields ≡ true
  pub short : length (flat_map after_space fields) ≤ 12 * length words

none_speak : Speak [] []
none_speak = record { words_are = refl; clean = refl; short = omega arith }

id_speaks : (w : ℕ) (fields : List (List ℕ)) (words : List ℕ) → is_word w ≡ true → Speak fields words → Speak (id_text w ∷ fields) (w ∷ words)
id_speaks w fields words h s =
    let small = below_limit w h in
    record {
      words_are = ap (λ (ws : List ℕ). ws ++ flat_map field_words fields) (id_words w small) ∙ ap (λ (ws : List ℕ). w ∷ ws) s.words_are;
      clean = ap (λ (b : Bool). b && are_fields fields) (id_above w small) ∙ s.clean;
      short = omega (arith, decimal_short w small, s.short, length-append (id_text w) (flat_map after_space fields));
    }

literal_speaks : (w : ℕ) (fields : List (List ℕ)) (words : List ℕ) → is_word w ≡ true → Speak fields words → Speak (decimal w ∷ fields) (w ∷ words)
literal_speaks w fields words h s =
    let small = below_limit w h in
    record {
      words_are = ap (λ (ws : List ℕ). ws ++ flat_map field_words fields) (literal_words w small) ∙ ap (λ (ws : List ℕ). w ∷ ws) s.words_are;
      clean = ap (λ (b : Bool). b && are_fields fields) (decimal_above w small) ∙ s.clean;
      short = omega (arith, decimal_short w small, s.short, length-append (decimal w) (flat_map after_space fields));
    }

ids_speak : (words : List ℕ) → are_words words ≡ true → Speak (map id_text words) words
ids_speak [] h = none_speak
ids_speak (w ∷ words) h =
    id_speaks w (map id_text words) words (first_of_both (is_word w) (are_words words) h) (ids_speak words (second_of_both (is_word w) (are_words words) h))

literals_speak : (words : List ℕ) → are_words words ≡ true → Speak (map decimal words) words
literals_speak [] h = none_speak
literals_speak (w ∷ words) h =
    literal_speaks w (map decimal words) words (first_of_both (is_word w) (are_words words) h) (literals_speak words (second_of_both (is_word w) (are_words words) h))

pairs_speak : (words : List ℕ) → are_words words ≡ true → Speak (literal_and_id_fields words) words
pairs_speak [] h = none_speak
pairs_speak (w ∷ []) h = literal_speaks w [] [] (first_of_both (is_word w) true h) none_speak
pairs_speak (w ∷ id ∷ words) h =
    let more = second_of_both (is_word w) (is_word id && are_words words) h in
    literal_speaks w (id_text id ∷ literal_and_id_fields words) (id ∷ words) (first_of_both (is_word w) (is_word id && are_words words) h)
    (id_speaks id (literal_and_id_fields words) words (first_of_both (is_word id) (are_words words) more) (pairs_speak words (second_of_both (is_word id) (are_words words) more)))

rest_speak : (rest : Rest) (words : List ℕ) → is_some (rest_kinds rest words) ≡ true → are_words words ≡ true → Speak (rest_fields rest words) words
rest_speak Nothing [] k h = none_speak
rest_speak Nothing (w ∷ words) k h = cc
rest_speak IdRefs words k h = ids_speak words h
rest_speak LiteralIntegers words k h = literals_speak words h
rest_speak PairsIdRefIdRef words k h = ids_speak words h
rest_speak PairsLiteralIntegerIdRef words k h = pairs_speak words h

-- ---- one operand

digits_above : (words : List ℕ) → above 32 (flat_map word_digits words) ≡ true
digits_above [] = refl
digits_above (w ∷ words) = both_above 32 (word_digits w) (flat_map word_digits words) (bytes_above (before_zero (bytes_of w))) (digits_above words)

bytes_short : (bytes : List ℕ) → length (flat_map byte_digits bytes) ≡ 2 * length bytes
bytes_short [] = refl
bytes_short (b ∷ bytes) = omega (arith, bytes_short bytes)

by_zero : (b : Bool) (byte : ℕ) (bytes : List ℕ) (n : ℕ) → length bytes ≤ n → length (cond b [] (byte ∷ bytes)) ≤ n + 1
by_zero true byte bytes n h = omega arith
by_zero false byte bytes n h = omega (arith, h)

before_short : (bytes : List ℕ) → length (before_zero bytes) ≤ length bytes
before_short [] = omega arith
before_short (b ∷ bytes) = omega (arith, by_zero (b == 0) b (before_zero bytes) (length bytes) (before_short bytes))

digits_short : (words : List ℕ) → length (flat_map word_digits words) ≤ 8 * length words
digits_short [] = omega arith
digits_short (w ∷ words) =
    omega (arith, length-append (word_digits w) (flat_map word_digits words), digits_short words, bytes_short (before_zero (bytes_of w)), before_short (bytes_of w))

-- a text has a word
one_word : (e : Option Bool) (o : Option ℕ) (w : ℕ) (words : List ℕ)
    → IfSome (elim e [ None ↦ option_map (λ n. suc n) o | Some padded ↦ if padded then Some 1 else None ]) (λ n. 1 ≤ length (take n (w ∷ words)))
one_word None None w words = tt
one_word None (Some n) w words = omega arith
one_word (Some true) o w words = omega arith
one_word (Some false) o w words = tt

has_word : (words : List ℕ) → IfSome (text_words words) (λ n. 1 ≤ length (take n words))
has_word [] = tt
has_word (w ∷ words) = one_word (text_end w) (text_words words) w words

text_speaks : (o : Option ℕ) (words : List ℕ) → IfSome o (λ n. field_words (string_text (take n words)) ≡ take n words) → IfSome o (λ n. 1 ≤ length (take n words))
    → IfSome o (λ n. Speak (string_text (take n words) ∷ []) (take n words))
text_speaks None words h some = tt
text_speaks (Some n) words h some = record {
  words_are = append-nil (field_words (string_text (take n words))) ∙ h;
  clean = ap (λ (b : Bool). b && true) (digits_above (take n words));
  short = omega (arith, some, digits_short (take n words), length-append (flat_map word_digits (take n words)) []);
}

fixed_speaks : (b : Bool) (w : ℕ) (words : List ℕ) → is_word w ≡ true → IfSome (cond b (Some 1) None) (λ n. Speak (map decimal (take n (w ∷ words))) (take n (w ∷ words)))
fixed_speaks true w words h = literal_speaks w [] [] h none_speak
fixed_speaks false w words h = tt

abbrev pub is_result : Operand → Bool
is_result IdResult = true
is_result operand = false

-- the words at the front that stand for an operand
operand_speaks : (operand : Operand) (words : List ℕ) → is_result operand ≡ false → are_words words ≡ true
    → IfSome (operand_words operand words) (λ n. Speak (operand_fields operand (take n words)) (take n words))
operand_speaks IdResultType [] r h = tt
operand_speaks IdResultType (w ∷ words) r h = id_speaks w [] [] (first_of_both (is_word w) (are_words words) h) none_speak
operand_speaks IdResult words r h = cc
operand_speaks IdRef [] r h = tt
operand_speaks IdRef (w ∷ words) r h = id_speaks w [] [] (first_of_both (is_word w) (are_words words) h) none_speak
operand_speaks LiteralInteger [] r h = tt
operand_speaks LiteralInteger (w ∷ words) r h = literal_speaks w [] [] (first_of_both (is_word w) (are_words words) h) none_speak
operand_speaks (Fixed expected) [] r h = tt
operand_speaks (Fixed expected) (w ∷ words) r h = fixed_speaks (w == expected) w words (first_of_both (is_word w) (are_words words) h)
operand_speaks LiteralString words r h = text_speaks (text_words words) words (text_back words h) (has_word words)

both_speak : (fields more : List (List ℕ)) (words others : List ℕ) → Speak fields words → Speak more others → Speak (fields ++ more) (words ++ others)
both_speak fields more words others s m = record {
  words_are = flat_map-append field_words fields more ∙ ap (λ (ws : List ℕ). ws ++ flat_map field_words more) s.words_are ∙ ap (λ (ws : List ℕ). words ++ ws) m.words_are;
  clean = list_all-append (above 32) fields more ∙ ap (λ (b : Bool). b && are_fields more) s.clean ∙ m.clean;
  short = omega (arith, s.short, m.short, length-append words others, ap length (flat_map-append after_space fields more), length-append (flat_map after_space fields) (flat_map after_space more));
}

mapped_some : (n : ℕ) (operand : Operand) (o : Option (List Operand)) → is_some (option_map (λ kinds. replicate n operand ++ kinds) o) ≡ true → is_some o ≡ true
mapped_some n operand None h = cc
mapped_some n operand (Some kinds) h = refl

words_left : (n : ℕ) (words : List ℕ) → are_words words ≡ true → are_words (drop n words) ≡ true
words_left zero words h = h
words_left (suc n) [] h = refl
words_left (suc n) (w ∷ words) h = words_left n words (second_of_both (is_word w) (are_words words) h)

-- the result's id isn't among these operands
abbrev pub no_result : List (Option Operand) → Bool
no_result [] = true
no_result (None ∷ more) = true
no_result (Some operand ∷ more) = not (is_result operand) && no_result more

not_true : (b : Bool) → not b ≡ true → b ≡ false
not_true true h = cc
not_true false h = refl

by_count : (o : Option ℕ) (operand : Operand) (more : List (Option Operand)) (rest : Rest) (words : List ℕ)
    → is_some (elim o [ None ↦ None | Some n ↦ option_map (λ kinds. replicate n operand ++ kinds) (kinds_from more rest (drop n words)) ]) ≡ true
    → IfSome o (λ n. Speak (operand_fields operand (take n words)) (take n words))
    → ((n : ℕ) → is_some (kinds_from more rest (drop n words)) ≡ true → Speak (fields_from more rest (drop n words)) (drop n words))
    → Speak (elim o [ None ↦ [] | Some n ↦ operand_fields operand (take n words) ++ fields_from more rest (drop n words) ]) words
by_count None operand more rest words k s others = cc
by_count (Some n) operand more rest words k s others =
    subst (Speak (operand_fields operand (take n words) ++ fields_from more rest (drop n words))) (take-append-drop n words)
    (both_speak (operand_fields operand (take n words)) (fields_from more rest (drop n words)) (take n words) (drop n words) s
    (others n (mapped_some n operand (kinds_from more rest (drop n words)) k)))

-- fields of words without a result
plain_speak : (listed : List (Option Operand)) (rest : Rest) (words : List ℕ) → no_result listed ≡ true → is_some (kinds_from listed rest words) ≡ true
    → are_words words ≡ true → Speak (fields_from listed rest words) words
plain_speak [] rest words r k h = rest_speak rest words k h
plain_speak (None ∷ more) rest words r k h = rest_speak rest words k h
plain_speak (Some operand ∷ more) rest words r k h =
    let one = not_true (is_result operand) (first_of_both (not (is_result operand)) (no_result more) r) in
    by_count (operand_words operand words) operand more rest words k (operand_speaks operand words one h)
    (λ n j. plain_speak more rest (drop n words) (second_of_both (not (is_result operand)) (no_result more) r) j (words_left n words h))

-- ---- the result's place

-- the result's id stands only where a result has its place
abbrev pub has_shape : List (Option Operand) → Bool
has_shape (Some IdResult ∷ more) = no_result more
has_shape (Some IdResultType ∷ Some IdResult ∷ more) = no_result more
has_shape listed = no_result listed

abbrev pub result_of : List (Option Operand) → List ℕ → Option ℕ
result_of listed words = option_map (λ place. slice_index words place) (result_place listed)

-- the words with the result among them are those that the fields speak of
pub record Shaped (listed : List (Option Operand)) (rest : Rest) (words : List ℕ) : Type 0 where
  pub words_are : (id : ℕ) → IfSome (result_of listed words) (λ r. id ≡ r) → with_result (result_place listed) id (flat_map field_words (fields_from listed rest words)) ≡ words
  pub clean : are_fields (fields_from listed rest words) ≡ true
  pub small : IfSome (result_of listed words) (λ r. r < 2 ^ 32)
  pub short : length (flat_map after_space (fields_from listed rest words)) ≤ 12 * length words

plain_shaped : (listed : List (Option Operand)) (rest : Rest) (words : List ℕ) → result_place listed ≡ None → no_result listed ≡ true
    → is_some (kinds_from listed rest words) ≡ true → are_words words ≡ true → Shaped listed rest words
plain_shaped listed rest words p r k h =
    let s = plain_speak listed rest words r k h in
    record {
      words_are = λ id same. ap (λ (o : Option ℕ). with_result o id (flat_map field_words (fields_from listed rest words))) p ∙ s.words_are;
      clean = s.clean;
      small = subst (λ (o : Option ℕ). IfSome (option_map (λ place. slice_index words place) o) (λ r. r < 2 ^ 32)) (sym p) tt;
      short = s.short;
    }

first_shaped : (more : List (Option Operand)) (rest : Rest) (words : List ℕ) → no_result more ≡ true
    → is_some (kinds_from (Some IdResult ∷ more) rest words) ≡ true → are_words words ≡ true → Shaped (Some IdResult ∷ more) rest words
first_shaped more rest [] r k h = cc
first_shaped more rest (w ∷ words) r k h =
    let s = plain_speak more rest words r (mapped_some 1 IdResult (kinds_from more rest words) k) (second_of_both (is_word w) (are_words words) h) in
    record {
      words_are = λ id same. ap (λ (i : ℕ). i ∷ flat_map field_words (fields_from more rest words)) same ∙ ap (λ (ws : List ℕ). w ∷ ws) s.words_are;
      clean = s.clean;
      small = below_limit w (first_of_both (is_word w) (are_words words) h);
      short = omega (arith, s.short);
    }

second_shaped : (more : List (Option Operand)) (rest : Rest) (words : List ℕ) → no_result more ≡ true
    → is_some (kinds_from (Some IdResultType ∷ Some IdResult ∷ more) rest words) ≡ true → are_words words ≡ true → Shaped (Some IdResultType ∷ Some IdResult ∷ more) rest words
second_shaped more rest [] r k h = cc
second_shaped more rest (t ∷ []) r k h = cc
second_shaped more rest (t ∷ w ∷ words) r k h =
    let others = second_of_both (is_word t) (is_word w && are_words words) h in
    let s = plain_speak more rest words r (mapped_some 1 IdResult (kinds_from more rest words) (mapped_some 1 IdResultType (kinds_from (Some IdResult ∷ more) rest (w ∷ words)) k))
    (second_of_both (is_word w) (are_words words) others) in
    let typed = id_speaks t (fields_from more rest words) words (first_of_both (is_word t) (is_word w && are_words words) h) s in
    record {
      words_are = λ id same. ap (with_result (Some 1) id) typed.words_are ∙ ap (λ (i : ℕ). t ∷ i ∷ words) same;
      clean = typed.clean;
      small = below_limit w (first_of_both (is_word w) (are_words words) others);
      short = omega (arith, typed.short);
    }

pub shaped : (listed : List (Option Operand)) (rest : Rest) (words : List ℕ) → has_shape listed ≡ true → is_some (kinds_from listed rest words) ≡ true
    → are_words words ≡ true → Shaped listed rest words
shaped [] rest words s k h = plain_shaped [] rest words refl s k h
shaped (None ∷ more) rest words s k h = plain_shaped (None ∷ more) rest words refl s k h
shaped (Some IdResult ∷ more) rest words s k h = first_shaped more rest words s k h
shaped (Some IdResultType ∷ Some IdResult ∷ more) rest words s k h = second_shaped more rest words s k h
shaped (Some IdResultType ∷ []) rest words s k h = plain_shaped (Some IdResultType ∷ []) rest words refl s k h
shaped (Some IdResultType ∷ None ∷ more) rest words s k h = plain_shaped (Some IdResultType ∷ None ∷ more) rest words refl s k h
shaped (Some IdResultType ∷ Some IdResultType ∷ more) rest words s k h = plain_shaped (Some IdResultType ∷ Some IdResultType ∷ more) rest words refl s k h
shaped (Some IdResultType ∷ Some IdRef ∷ more) rest words s k h = plain_shaped (Some IdResultType ∷ Some IdRef ∷ more) rest words refl s k h
shaped (Some IdResultType ∷ Some LiteralInteger ∷ more) rest words s k h = plain_shaped (Some IdResultType ∷ Some LiteralInteger ∷ more) rest words refl s k h
shaped (Some IdResultType ∷ Some (Fixed e) ∷ more) rest words s k h = plain_shaped (Some IdResultType ∷ Some (Fixed e) ∷ more) rest words refl s k h
shaped (Some IdResultType ∷ Some LiteralString ∷ more) rest words s k h = plain_shaped (Some IdResultType ∷ Some LiteralString ∷ more) rest words refl s k h
shaped (Some IdRef ∷ more) rest words s k h = plain_shaped (Some IdRef ∷ more) rest words refl s k h
shaped (Some LiteralInteger ∷ more) rest words s k h = plain_shaped (Some LiteralInteger ∷ more) rest words refl s k h
shaped (Some (Fixed e) ∷ more) rest words s k h = plain_shaped (Some (Fixed e) ∷ more) rest words refl s k h
shaped (Some LiteralString ∷ more) rest words s k h = plain_shaped (Some LiteralString ∷ more) rest words refl s k h
