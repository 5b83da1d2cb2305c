-- The operands that an instruction of a function has depend on nothing but its opcode and the number of its words.
use Rattle.std.proofs.Common.{◌≡◌, ℕ, suc, ◌%◌, ◌==◌, ◌&&◌, Bool, true, false, if◌then◌else◌, List, [], ◌∷◌, length, map, refl, ap, sym, ◌∙◌, arith, Option, None, Some}
use Rattle.std.specs.Option.{option_map}
use Rattle.std.specs.List.{list_all}
use Rattle.spirv_model.specs.declared.table.TheConstants.{ROWS}
use Rattle.spirv_model.specs.declared.table.Operand.{Operand}
use Rattle.spirv_model.specs.declared.table.Operand.TheVariants.{IdResultType, IdResult, IdRef, LiteralInteger, Fixed, LiteralString}
use Rattle.spirv_model.specs.declared.table.Rest.{Rest}
use Rattle.spirv_model.specs.declared.table.Rest.TheVariants.{Nothing, IdRefs, LiteralIntegers, PairsIdRefIdRef, PairsLiteralIntegerIdRef}
use Rattle.spirv_model.specs.declared.table.Entry.{Entry}
use Rattle.spirv_model.specs.declared.table.Entry.TheVariants.{Skipped, Float, Listed}
use Rattle.spirv_model.specs.Operands.{entry_of, class_in, class_of, listed_of, literal_and_id, rest_kinds, kinds_from, kinds_in}
use Rattle.typed_model.proofs.ResultIds.{in_rows}
use Rattle.change_model.specs.Plans.{renamed_words, renamed_by}
use Rattle.change_model.proofs.BehindLevel.{is_setting_class}

-- ---- what follows the listed operands

refs_same : (a b : List ℕ) → length a ≡ length b → map (λ (_ : ℕ). IdRef) a ≡ map (λ (_ : ℕ). IdRef) b
refs_same [] [] long = refl
refs_same [] (y ∷ b) long = absurd (omega (arith, long))
refs_same (x ∷ a) [] long = absurd (omega (arith, long))
refs_same (x ∷ a) (y ∷ b) long = ap (λ (l : List Operand). IdRef ∷ l) (refs_same a b (omega (arith, long)))

literals_same : (a b : List ℕ) → length a ≡ length b → map (λ (_ : ℕ). LiteralInteger) a ≡ map (λ (_ : ℕ). LiteralInteger) b
literals_same [] [] long = refl
literals_same [] (y ∷ b) long = absurd (omega (arith, long))
literals_same (x ∷ a) [] long = absurd (omega (arith, long))
literals_same (x ∷ a) (y ∷ b) long = ap (λ (l : List Operand). LiteralInteger ∷ l) (literals_same a b (omega (arith, long)))

turns_same : (a b : List ℕ) → length a ≡ length b → literal_and_id a ≡ literal_and_id b
turns_same [] [] long = refl
turns_same [] (y ∷ b) long = absurd (omega (arith, long))
turns_same (x ∷ a) [] long = absurd (omega (arith, long))
turns_same (x ∷ []) (y ∷ []) long = refl
turns_same (x ∷ []) (y ∷ z ∷ b) long = absurd (omega (arith, long))
turns_same (x ∷ w ∷ a) (y ∷ []) long = absurd (omega (arith, long))
turns_same (x ∷ w ∷ a) (y ∷ z ∷ b) long = ap (λ (l : List Operand). LiteralInteger ∷ IdRef ∷ l) (turns_same a b (omega (arith, long)))

nothing_same : (a b : List ℕ) → length a ≡ length b → rest_kinds Nothing a ≡ rest_kinds Nothing b
nothing_same [] [] long = refl
nothing_same [] (y ∷ b) long = absurd (omega (arith, long))
nothing_same (x ∷ a) [] long = absurd (omega (arith, long))
nothing_same (x ∷ a) (y ∷ b) long = refl

rest_same : (rest : Rest) (a b : List ℕ) → length a ≡ length b → rest_kinds rest a ≡ rest_kinds rest b
rest_same Nothing a b long = nothing_same a b long
rest_same IdRefs a b long = ap (λ (l : List Operand). Some l) (refs_same a b long)
rest_same LiteralIntegers a b long = ap (λ (l : List Operand). Some l) (literals_same a b long)
rest_same PairsIdRefIdRef a b long =
    ap (λ (n : ℕ). if n % 2 == 0 then Some (map (λ (_ : ℕ). IdRef) a) else None) long ∙ ap (λ (l : List Operand). if length b % 2 == 0 then Some l else None) (refs_same a b long)
rest_same PairsLiteralIntegerIdRef a b long =
    ap (λ (n : ℕ). if n % 2 == 0 then Some (literal_and_id a) else None) long ∙ ap (λ (l : List Operand). if length b % 2 == 0 then Some l else None) (turns_same a b long)

-- ---- listed operands

-- the operand is any one word
abbrev is_one_word : Option Operand → Bool
is_one_word (Some (Fixed word)) = false
is_one_word (Some LiteralString) = false
is_one_word operand = true

abbrev are_words : List (Option Operand) → Bool
are_words listed = list_all is_one_word listed

one_step : (operand : Operand) (more : List (Option Operand)) (rest : Rest) (x : ℕ) (a : List ℕ) → is_one_word (Some operand) ≡ true
    → kinds_from (Some operand ∷ more) rest (x ∷ a) ≡ option_map (λ (k : List Operand). operand ∷ k) (kinds_from more rest a)
one_step IdResultType more rest x a is = refl
one_step IdResult more rest x a is = refl
one_step IdRef more rest x a is = refl
one_step LiteralInteger more rest x a is = refl
one_step (Fixed word) more rest x a is = cc
one_step LiteralString more rest x a is = cc

first_of : (a b : Bool) → (a && b) ≡ true → (a ≡ true) × (b ≡ true)
first_of true b is = (refl, is)
first_of false b is = cc

kinds_same : (listed : List (Option Operand)) (rest : Rest) (a b : List ℕ) → are_words listed ≡ true → length a ≡ length b → kinds_from listed rest a ≡ kinds_from listed rest b
kinds_same [] rest a b are long = rest_same rest a b long
kinds_same (None ∷ more) rest a b are long = rest_same rest a b long
kinds_same (Some operand ∷ more) rest [] [] are long = refl
kinds_same (Some operand ∷ more) rest [] (y ∷ b) are long = absurd (omega (arith, long))
kinds_same (Some operand ∷ more) rest (x ∷ a) [] are long = absurd (omega (arith, long))
kinds_same (Some operand ∷ more) rest (x ∷ a) (y ∷ b) are long =
    let f = first_of (is_one_word (Some operand)) (are_words more) are in
    one_step operand more rest x a f.0 ∙ ap (option_map (λ (k : List Operand). operand ∷ k)) (kinds_same more rest a b f.1 (omega (arith, long))) ∙ sym (one_step operand more rest y b f.0)

-- ---- the table

abbrev is_word_row : ℕ → Option Entry → Bool
is_word_row opcode (Some (Listed of operands)) = if is_setting_class (Some of) then true else are_words (listed_of operands)
is_word_row opcode entry = true

all_word_rows : list_all (λ row. is_word_row row.op (Some row.entry)) ROWS ≡ true
all_word_rows = refl

word_row : (opcode : ℕ) → is_word_row opcode (entry_of opcode) ≡ true
unfolding entry_of
word_row opcode = in_rows is_word_row (λ opcode. refl) ROWS opcode all_word_rows

entry_same : (opcode : ℕ) (entry : Option Entry) (a b : List ℕ) → is_setting_class (class_in entry) ≡ false → is_word_row opcode entry ≡ true → length a ≡ length b → kinds_in entry a ≡ kinds_in entry b
entry_same opcode (Some (Listed of operands)) a b isnt row long =
    kinds_same (listed_of operands) operands.rest a b (sym (ap (λ (c : Bool). if c then true else are_words (listed_of operands)) isnt) ∙ row) long
entry_same opcode (Some Skipped) a b isnt row long = refl
entry_same opcode (Some Float) a b isnt row long = refl
entry_same opcode None a b isnt row long = refl

pub same_kinds : (opcode : ℕ) (a b : List ℕ) → is_setting_class (class_of opcode) ≡ false → length a ≡ length b → kinds_in (entry_of opcode) a ≡ kinds_in (entry_of opcode) b
unfolding class_of
same_kinds opcode a b isnt long = entry_same opcode (entry_of opcode) a b isnt (word_row opcode) long

-- ---- other names

names_long : (name : ℕ → ℕ) (found : List Operand) (words : List ℕ) → length (renamed_words name found words) ≡ length words
names_long name [] words = refl
names_long name (kind ∷ found) [] = refl
names_long name (IdRef ∷ found) (word ∷ words) = ap (λ (n : ℕ). suc n) (names_long name found words)
names_long name (kind ∷ found) (word ∷ words) = ap (λ (n : ℕ). suc n) (names_long name found words)

pub renamed_long : (name : ℕ → ℕ) (found : Option (List Operand)) (words : List ℕ) → length (renamed_by name found words) ≡ length words
renamed_long name None words = refl
renamed_long name (Some found) words = names_long name found words
