-- The digits of a text's words give the words back.
use Rattle.std.proofs.Common.{◌≡◌, ℕ, suc, ◌+◌, ◌*◌, ◌/◌, ◌%◌, ◌<◌, ◌^◌, Bool, true, false, cond, if◌then◌else◌, ◌==◌, List, [], ◌∷◌, ◌++◌, length, take, Option, None, Some, refl, ap, subst, sym, ◌∙◌, arith, append-nil}
use Rattle.std.specs.Prelude.{IfSome}
use Rattle.std.specs.List.{flat_map}
use Rattle.std.specs.Option.{option_map}
use Rattle.std.proofs.lemmas.Bool.Decides.{nat_tests}
use Rattle.basics.proofs.Bools.{first_of_both, second_of_both}
use Rattle.spirv_model.specs.Operands.{text_end, text_words}
use Rattle.listing_model.specs.Listing.{byte_digits, bytes_of, string_text, word_digits}
use Rattle.listing_model.specs.Spelling.{digits_word, field_words, string_words}
use Rattle.listing_model.specs.Meaning.{are_words, is_word}
use Rattle.listing_model.proofs.Digits.{byte_back}

pub below_limit : (w : ℕ) → is_word w ≡ true → w < 2 ^ 32
below_limit w h = grind (arith, nat_tests, h)

sum : (p q r s a b c d : ℕ) → p ≡ a → q ≡ b → r ≡ c → s ≡ d → p + 256 * q + 65536 * r + 16777216 * s ≡ a + 256 * b + 65536 * c + 16777216 * d
sum p q r s a b c d e f g h = omega (arith, e, f, g, h)

-- the word of four bytes' digits, whatever follows them
four_back : (a b c d : ℕ) (more : List ℕ) → a < 256 → b < 256 → c < 256 → d < 256
    → digits_word (flat_map byte_digits (a ∷ b ∷ c ∷ d ∷ []) ++ more) ≡ a + 256 * b + 65536 * c + 16777216 * d
four_back a b c d more ha hb hc hd = sum _ _ _ _ a b c d (byte_back a ha) (byte_back b hb) (byte_back c hc) (byte_back d hd)

three_back : (a b c : ℕ) → a < 256 → b < 256 → c < 256 → digits_word (flat_map byte_digits (a ∷ b ∷ c ∷ [])) ≡ a + 256 * b + 65536 * c + 16777216 * 0
three_back a b c ha hb hc = sum _ _ _ 0 a b c 0 (byte_back a ha) (byte_back b hb) (byte_back c hc) refl

two_back : (a b : ℕ) → a < 256 → b < 256 → digits_word (flat_map byte_digits (a ∷ b ∷ [])) ≡ a + 256 * b + 65536 * 0 + 16777216 * 0
two_back a b ha hb = sum _ _ 0 0 a b 0 0 (byte_back a ha) (byte_back b hb) refl refl

one_back : (a : ℕ) → a < 256 → digits_word (flat_map byte_digits (a ∷ [])) ≡ a + 256 * 0 + 65536 * 0 + 16777216 * 0
one_back a ha = sum _ 0 0 0 a 0 0 0 (byte_back a ha) refl refl refl

is_zero : (n : ℕ) → (n == 0) ≡ true → n ≡ 0
is_zero n h = grind (arith, nat_tests, h)

true_of : (b : Bool) → ◌≡◌ {A = Option Bool} (Some b) (Some true) → b ≡ true
true_of b h = cc

-- the bytes before the first zero of a word that ends a text
abbrev ending : Bool → Bool → Bool → Bool → ℕ → ℕ → ℕ → ℕ → List ℕ
ending x y z t a b c d = cond x [] (a ∷ cond y [] (b ∷ cond z [] (c ∷ cond t [] (d ∷ []))))

ends_back : (x y z t : Bool) (w : ℕ) → (w / 16777216 == 0) ≡ t → w < 2 ^ 32
    → ◌≡◌ {A = Option Bool} (cond x (Some (w == 0)) (cond y (Some (w / 256 == 0)) (cond z (Some (w / 65536 == 0)) (cond t (Some true) None)))) (Some true)
    → (digits_word (flat_map byte_digits (ending x y z t (w % 256) (w / 256 % 256) (w / 65536 % 256) (w / 16777216))) ≡ w)
    × (length (flat_map byte_digits (ending x y z t (w % 256) (w / 256 % 256) (w / 65536 % 256) (w / 16777216))) < 8)
ends_back true y z t w last small h = (sym (is_zero w (true_of (w == 0) h)), omega arith)
ends_back false true z t w last small h =
    let e : w / 256 ≡ 0 = is_zero (w / 256) (true_of (w / 256 == 0) h) in
    (one_back (w % 256) (omega arith) ∙ omega (arith, e), omega arith)
ends_back false false true t w last small h =
    let e : w / 65536 ≡ 0 = is_zero (w / 65536) (true_of (w / 65536 == 0) h) in
    (two_back (w % 256) (w / 256 % 256) (omega arith) (omega arith) ∙ omega (arith, e), omega arith)
ends_back false false false true w last small h =
    let e : w / 16777216 ≡ 0 = is_zero (w / 16777216) last in
    (three_back (w % 256) (w / 256 % 256) (w / 65536 % 256) (omega arith) (omega arith) (omega arith) ∙ omega (arith, e), omega arith)
ends_back false false false false w last small h = cc

whole : (x y z t p q r : Bool) (a b c d : ℕ) → ◌≡◌ {A = Option Bool} (cond x (Some p) (cond y (Some q) (cond z (Some r) (cond t (Some true) None)))) None
    → ending x y z t a b c d ≡ a ∷ b ∷ c ∷ d ∷ []
whole true y z t p q r a b c d h = cc
whole false true z t p q r a b c d h = cc
whole false false true t p q r a b c d h = cc
whole false false false true p q r a b c d h = cc
whole false false false false p q r a b c d h = refl

-- the digits of these words give them back
abbrev Back : List ℕ → Type 0
Back ws = string_words (length (flat_map word_digits ws) / 8) (flat_map word_digits ws) ≡ ws

ends : (w : ℕ) → text_end w ≡ Some true → w < 2 ^ 32 → Back (w ∷ [])
ends w h small =
    let e = ends_back (w % 256 == 0) (w / 256 % 256 == 0) (w / 65536 % 256 == 0) (w / 16777216 == 0) w refl small h in
    let n : length (word_digits w) / 8 ≡ 0 = omega (arith, e.1) in
    subst (λ (ds : List ℕ). string_words (length ds / 8) ds ≡ w ∷ []) (sym (append-nil (word_digits w)))
    (ap (λ (k : ℕ). string_words k (word_digits w)) n ∙ ap (λ (v : ℕ). v ∷ []) e.0)

more_digits : (w : ℕ) (ds ws : List ℕ) → w < 2 ^ 32 → string_words (length ds / 8) ds ≡ ws
    → string_words (length (flat_map byte_digits (bytes_of w) ++ ds) / 8) (flat_map byte_digits (bytes_of w) ++ ds) ≡ w ∷ ws
more_digits w ds ws small h =
    let n : length (flat_map byte_digits (bytes_of w) ++ ds) / 8 ≡ suc (length ds / 8) = omega arith in
    let v : digits_word (flat_map byte_digits (bytes_of w) ++ ds) ≡ w =
    four_back (w % 256) (w / 256 % 256) (w / 65536 % 256) (w / 16777216) ds (omega arith) (omega arith) (omega arith) (omega (arith, small)) ∙ omega arith in
    ap (λ (k : ℕ). string_words k (flat_map byte_digits (bytes_of w) ++ ds)) n ∙ ap (λ (x : ℕ). x ∷ string_words (length ds / 8) ds) v ∙ ap (λ (xs : List ℕ). w ∷ xs) h

more : (w : ℕ) (ws : List ℕ) → text_end w ≡ None → w < 2 ^ 32 → Back ws → Back (w ∷ ws)
more w ws h small back =
    subst (λ (bs : List ℕ). string_words (length (flat_map byte_digits bs ++ flat_map word_digits ws) / 8) (flat_map byte_digits bs ++ flat_map word_digits ws) ≡ w ∷ ws)
    (sym (whole (w % 256 == 0) (w / 256 % 256 == 0) (w / 65536 % 256 == 0) (w / 16777216 == 0) (w == 0) (w / 256 == 0) (w / 65536 == 0) (w % 256) (w / 256 % 256) (w / 65536 % 256) (w / 16777216) h))
    (more_digits w (flat_map word_digits ws) ws small back)

goes_on : (o : Option ℕ) (w : ℕ) (ws : List ℕ) → text_end w ≡ None → w < 2 ^ 32 → IfSome o (λ n. Back (take n ws))
    → IfSome (option_map (λ n. suc n) o) (λ n. Back (take n (w ∷ ws)))
goes_on None w ws h small back = tt
goes_on (Some n) w ws h small back = more w (take n ws) h small back

by_end : (e : Option Bool) (w : ℕ) (ws : List ℕ) → text_end w ≡ e → w < 2 ^ 32 → IfSome (text_words ws) (λ n. Back (take n ws))
    → IfSome (elim e [ None ↦ option_map (λ n. suc n) (text_words ws) | Some padded ↦ if padded then Some 1 else None ]) (λ n. Back (take n (w ∷ ws)))
by_end None w ws h small back = goes_on (text_words ws) w ws h small back
by_end (Some true) w ws h small back = ends w h small
by_end (Some false) w ws h small back = tt

-- the text at the front of words
pub text_back : (ws : List ℕ) → are_words ws ≡ true → IfSome (text_words ws) (λ n. field_words (string_text (take n ws)) ≡ take n ws)
text_back [] all = tt
text_back (w ∷ ws) all =
    by_end (text_end w) w ws refl (below_limit w (first_of_both (is_word w) (are_words ws) all)) (text_back ws (second_of_both (is_word w) (are_words ws) all))
