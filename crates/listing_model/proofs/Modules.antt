-- The listing of a module that is read is assembled to what is written of it.
use Rattle.std.proofs.Common.{◌≡◌, ℕ, zero, suc, ◌<◌, ◌≤◌, ◌^◌, Bool, true, false, ◌&&◌, cond, not, List, [], ◌∷◌, ◌++◌, drop, slice_index, refl, ap, sym, ◌∙◌, arith}
use Rattle.std.specs.Prelude.{Ok}
use Rattle.std.specs.List.{flat_map}
use Rattle.std.proofs.lemmas.Bool.Decides.{nat_tests}
use Rattle.std.proofs.lemmas.List.Folds.{list_all-append}
use Rattle.limits.specs.declared.TheConstants.{MAX_BOUND}
use Rattle.basics.proofs.Bools.{first_of_both, second_of_both}
use Rattle.spirv_model.specs.declared.module.Inst.{Inst}
use Rattle.spirv_model.specs.declared.module.Words.{Words}
use Rattle.spirv_model.specs.declared.module.TheConstants.{HEADER_WORDS}
use Rattle.spirv_model.specs.Module.{cut, has_header, is_skipped, list_of_cut, listed, module_of, module_words, words_of}
use Rattle.spirv_model.proofs.ReadModules.{header_is, list_read, read_writable}
use Rattle.listing_model.specs.Listing.{listing_of}
use Rattle.listing_model.specs.Assembly.{assembled}
use Rattle.listing_model.specs.Meaning.{are_words, is_word}
use Rattle.listing_model.proofs.Converse.{listing_assembled}

-- ---- the listed instructions

both_words : (xs ys : List ℕ) → are_words (xs ++ ys) ≡ true → (are_words xs ≡ true) × (are_words ys ≡ true)
both_words xs ys h =
    let both = sym (list_all-append is_word xs ys) ∙ h in (first_of_both (are_words xs) (are_words ys) both, second_of_both (are_words xs) (are_words ys) both)

keep_by : (b : Bool) (inst : Inst) (kept : List Inst) → are_words (words_of inst) ≡ true → are_words (flat_map words_of kept) ≡ true → are_words (flat_map words_of (cond b (inst ∷ kept) kept)) ≡ true
keep_by true inst kept one more = list_all-append is_word (words_of inst) (flat_map words_of kept) ∙ ap (λ (b : Bool). b && are_words (flat_map words_of kept)) one ∙ more
keep_by false inst kept one more = more

-- the kept instructions' words are words
listed_kept : (insts : List Inst) → are_words (flat_map words_of insts) ≡ true → are_words (flat_map words_of (listed insts)) ≡ true
listed_kept [] h = refl
listed_kept (inst ∷ insts) h =
    let b = both_words (words_of inst) (flat_map words_of insts) h in
    keep_by (not (is_skipped inst)) inst (listed insts) b.0 (listed_kept insts b.1)

-- ---- the module

words_behind : (n : ℕ) (words : List ℕ) → are_words words ≡ true → are_words (drop n words) ≡ true
words_behind zero words h = h
words_behind (suc n) [] h = refl
words_behind (suc n) (w ∷ words) h = words_behind n words (second_of_both (is_word w) (are_words words) h)

word_bound : (n : ℕ) → n ≤ MAX_BOUND → is_word n ≡ true
word_bound n h = let s : n < 2 ^ 32 = omega (arith, h) in grind (arith, nat_tests, s)

-- where words are read as a module, the module's listing is assembled to the words that are written of it
pub listing_of_read : (words : List ℕ) (m : Words) → module_of words ≡ Ok m → are_words words ≡ true → assembled (listing_of m) ≡ Ok (module_words m.insts m.bound)
listing_of_read words m is h =
    let header = header_is (has_header words) (slice_index words 3) (list_of_cut 0 (cut (drop HEADER_WORDS words))) m is in
    let l = list_read (drop HEADER_WORDS words) m.insts header.2 in
    let w = read_writable words m is in
    let kept = listed_kept (cut (drop HEADER_WORDS words)).insts (ap are_words l.1 ∙ words_behind HEADER_WORDS words h) in
    listing_assembled m.bound m.insts w.bound_least w.bound_most w.fit
    (ap (λ (b : Bool). b && are_words (flat_map words_of m.insts)) (word_bound m.bound w.bound_most) ∙ ap (λ (i : List Inst). are_words (flat_map words_of i)) (sym l.0) ∙ kept)
    w.few
