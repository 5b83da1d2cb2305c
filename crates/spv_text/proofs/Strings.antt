-- Texts, digit by digit and word by word.
use Rattle.std.proofs.Common.{◌≡◌, ℕ, suc, ◌/◌, ◌<◌, ◌≤◌, List, [], ◌∷◌, ◌++◌, length, drop, ap, sym, ◌∙◌, arith, append_assoc, length-drop}
use Rattle.listing_model.specs.Spelling.{digits_word, string_words}

string_step : (digits : List ℕ) → 8 ≤ length digits
    → string_words (length digits / 8) digits ≡ digits_word digits ∷ string_words (length (drop 8 digits) / 8) (drop 8 digits)
string_step digits long =
    let n : length digits / 8 ≡ suc (length (drop 8 digits) / 8) = omega (arith, length-drop 8 digits) in
    ap (λ (k : ℕ). string_words k digits) n

-- one more word of eight digits
pub words_next : (words more whole rest after : List ℕ) (word : ℕ) → words ++ string_words (length rest / 8) rest ≡ whole → 8 ≤ length rest
    → word ≡ digits_word rest → after ≡ drop 8 rest → more ≡ words ++ word ∷ [] → more ++ string_words (length after / 8) after ≡ whole
words_next words more whole rest after word same long is left pushed =
    ap (λ (ws : List ℕ). ws ++ string_words (length after / 8) after) pushed
    ∙ append_assoc words (word ∷ []) (string_words (length after / 8) after)
    ∙ ap (λ (w : ℕ). words ++ w ∷ string_words (length after / 8) after) is
    ∙ ap (λ (ds : List ℕ). words ++ digits_word rest ∷ string_words (length ds / 8) ds) left
    ∙ ap (λ (ws : List ℕ). words ++ ws) (sym (string_step rest long)) ∙ same

-- the last one
pub words_last : (words more whole rest : List ℕ) (word : ℕ) → words ++ string_words (length rest / 8) rest ≡ whole → length rest < 8
    → word ≡ digits_word rest → more ≡ words ++ word ∷ [] → more ≡ whole
words_last words more whole rest word same short is pushed =
    let n : length rest / 8 ≡ 0 = omega arith in
    pushed ∙ ap (λ (w : ℕ). words ++ w ∷ []) is ∙ ap (λ (k : ℕ). words ++ string_words k rest) (sym n) ∙ same
