-- A listing is assembled to the words that it is of.
use Rattle.std.proofs.Common.{◌≡◌, ℕ, ◌+◌, ◌*◌, ◌<◌, ◌≤◌, ◌^◌, Bool, true, false, ◌&&◌, not, cond, nat_lt, nat_le, List, [], ◌∷◌, ◌++◌, length, map, codes, Option, None, Some, refl, ap, subst, sym, ◌∙◌, arith, rules, append_assoc, append-nil, length-append}
use Rattle.std.specs.Prelude.{Result, Ok, Err, bytes_eq}
use Rattle.std.specs.List.{flat_map, list_all}
use Rattle.std.specs.Fmt.{decimal}
use Rattle.std.proofs.lemmas.Bool.Decides.{nat_tests}
use Rattle.std.proofs.lemmas.List.Folds.{list_all-append}
use Rattle.std.proofs.lemmas.Slice.Eq.{bytes_eq-Decides}
use Rattle.limits.specs.declared.TheConstants.{MODULE_WORDS, MAX_BOUND}
use Rattle.basics.proofs.Bools.{first_of_both, second_of_both}
use Rattle.spirv_model.specs.declared.module.Inst.{Inst}
use Rattle.spirv_model.specs.Module.{first_word, fits_table, module_words, words_of}
use Rattle.listing_model.specs.declared.fault.TheConstants.{LISTING_BYTES}
use Rattle.listing_model.specs.declared.fault.TextCause.{TextCause}
use Rattle.listing_model.specs.declared.fault.TextCause.TheVariants.{NoHead, NoName, BadOperands, TooLong, TooManyWords}
use Rattle.listing_model.specs.declared.fault.TextFault.{TextFault}
use Rattle.listing_model.specs.Listing.{head_text, inst_line, inst_text, listing}
use Rattle.listing_model.specs.Spelling.{is_text_of}
use Rattle.listing_model.specs.Assembly.{Line, assembled, assembled_from, assembled_lines, head_bound, head_gives, is_head, line_gives, lines_of, operands_cause}
use Rattle.listing_model.specs.Meaning.{IsListing, are_words, is_word}
use Rattle.listing_model.proofs.Digits.{above, decimal_short, both_above, decimal_above, number_of_decimal}
use Rattle.listing_model.proofs.Cuts.{first_line, inst_lines, line_of, lower}
use Rattle.listing_model.proofs.Listings.{Told, told}

same_text : (xs : List ℕ) → bytes_eq xs xs ≡ true
same_text xs = search (rules, bytes_eq-Decides)

not_past : (n : ℕ) → n ≤ MODULE_WORDS → nat_lt MODULE_WORDS n ≡ false
not_past n h = grind (arith, nat_tests, h)

no_cause : (before : ℕ) (inst : Inst) → fits_table inst ≡ true → before + 1 + length inst.words ≤ MODULE_WORDS → operands_cause before inst (inst_text inst) ≡ None
no_cause before inst fit few =
    let t : is_text_of inst (inst_text inst) ≡ true = ap (λ (b : Bool). b && bytes_eq (inst_text inst) (inst_text inst)) fit ∙ same_text (inst_text inst) in
    ap (λ (b : Bool). cond {A = Option TextCause} (not b) (Some BadOperands) (cond (nat_lt MODULE_WORDS (before + 1 + length inst.words)) (Some TooManyWords) None)) t
    ∙ ap (λ (b : Bool). cond {A = Option TextCause} b (Some TooManyWords) None) (not_past (before + 1 + length inst.words) few)

line_given : (before : ℕ) (inst : Inst) → Told inst → fits_table inst ≡ true → before + 1 + length inst.words ≤ MODULE_WORDS → line_gives before (line_of inst) ≡ Ok inst
line_given before inst tells fit few =
    ap (λ (o : Option Inst). elim o as (λ _. Result Inst TextCause) [ None ↦ Err NoName | Some i ↦ elim (operands_cause before i (inst_text inst)) [ Some cause ↦ Err cause | None ↦ Ok i ] ]) tells.spoken
    ∙ ap (λ (o : Option TextCause). elim o as (λ _. Result Inst TextCause) [ Some cause ↦ Err cause | None ↦ Ok inst ]) (no_cause before inst fit few)

words_of_inst : (inst : Inst) (others : List ℕ) → are_words (words_of inst ++ others) ≡ true → (are_words inst.words ≡ true) × (are_words others ≡ true)
words_of_inst inst others h =
    let both = sym (list_all-append is_word inst.words others) ∙ second_of_both (is_word (first_word inst)) (are_words (inst.words ++ others)) h in
    (first_of_both (are_words inst.words) (are_words others) both, second_of_both (are_words inst.words) (are_words others) both)

abbrev clean_line : Inst → Bool
clean_line inst = above 10 (inst_text inst)

all_clean : (insts : List Inst) → list_all fits_table insts ≡ true → are_words (flat_map words_of insts) ≡ true → list_all clean_line insts ≡ true
all_clean [] fit h = refl
all_clean (inst ∷ insts) fit h =
    let w = words_of_inst inst (flat_map words_of insts) h in
    let t = told inst (first_of_both (fits_table inst) (list_all fits_table insts) fit) w.0 in
    ap (λ (b : Bool). b && list_all clean_line insts) t.clean ∙ all_clean insts (second_of_both (fits_table inst) (list_all fits_table insts) fit) w.1

from_lines : (number : ℕ) (words : List ℕ) (insts : List Inst) → list_all fits_table insts ≡ true → are_words (flat_map words_of insts) ≡ true
    → length words + length (flat_map words_of insts) ≤ MODULE_WORDS → assembled_from number words (map line_of insts) ≡ Ok (words ++ flat_map words_of insts)
from_lines number words [] fit h few = ap (λ (ws : List ℕ). Ok ws) (sym (append-nil words))
from_lines number words (inst ∷ insts) fit h few =
    let w = words_of_inst inst (flat_map words_of insts) h in
    let one = first_of_both (fits_table inst) (list_all fits_table insts) fit in
    let n = length-append (words_of inst) (flat_map words_of insts) in
    let g : line_gives (length words) (line_of inst) ≡ Ok inst = line_given (length words) inst (told inst one w.0) one (omega (arith, few, n)) in
    ap (λ (r : Result Inst TextCause). elim r as (λ _. Result (List ℕ) TextFault) [ Err cause ↦ Err (record { line = number; cause = cause }) | Ok i ↦ assembled_from (number + 1) (words ++ words_of i) (map line_of insts) ]) g
    ∙ from_lines (number + 1) (words ++ words_of inst) insts (second_of_both (fits_table inst) (list_all fits_table insts) fit) w.1 (omega (arith, few, n, length-append words (words_of inst)))
    ∙ ap (λ (ws : List ℕ). Ok ws) (append_assoc words (words_of inst) (flat_map words_of insts))

-- ---- the first line

above_zero : (n : ℕ) → 1 ≤ n → nat_lt 0 n ≡ true
above_zero n h = grind (arith, nat_tests, h)

within : (n : ℕ) → n ≤ MAX_BOUND → nat_le n MAX_BOUND ≡ true
within n h = grind (arith, nat_tests, h)

small_bound : (n : ℕ) → n ≤ MAX_BOUND → n < 2 ^ 32
small_bound n h = omega (arith, h)

head_is : (n bound : ℕ) → n ≡ bound → 1 ≤ bound → bound ≤ MAX_BOUND
    → (bytes_eq (head_text bound) (head_text n) && nat_lt 0 n && nat_le n MAX_BOUND) ≡ true
head_is n bound is least most =
    subst (λ (k : ℕ). (bytes_eq (head_text bound) (head_text k) && nat_lt 0 k && nat_le k MAX_BOUND) ≡ true) (sym is)
    (ap (λ (b : Bool). b && nat_lt 0 bound && nat_le bound MAX_BOUND) (same_text (head_text bound))
    ∙ ap (λ (b : Bool). b && nat_le bound MAX_BOUND) (above_zero bound least) ∙ within bound most)

abbrev head_line : ℕ → Line
head_line bound = record { text = head_text bound; ended = true }

head_given : (bound : ℕ) → 1 ≤ bound → bound ≤ MAX_BOUND → head_gives (head_line bound) ≡ Ok bound
unfolding head_gives
head_given bound least most =
    let n : head_bound (head_text bound) ≡ bound = number_of_decimal bound (small_bound bound most) in
    let i : is_head (head_text bound) ≡ true = head_is (head_bound (head_text bound)) bound n least most in
    ap (λ (b : Bool). cond {A = Result ℕ TextCause} (not b) (Err NoHead) (Ok (head_bound (head_text bound)))) i ∙ ap (λ (k : ℕ). Ok k) n

head_above : (bound : ℕ) → bound ≤ MAX_BOUND → above 10 (head_text bound) ≡ true
head_above bound most = both_above 10 (codes "spvt 1 ") (decimal bound) refl (lower (decimal bound) (decimal_above bound (small_bound bound most)))

-- ---- the whole

lines_are : (bound : ℕ) (insts : List Inst) → bound ≤ MAX_BOUND → list_all fits_table insts ≡ true → are_words (flat_map words_of insts) ≡ true
    → lines_of (listing bound insts) ≡ head_line bound ∷ map line_of insts
lines_are bound insts most fit h =
    first_line (head_text bound) (flat_map inst_line insts) (head_above bound most)
    ∙ ap (λ (ls : List Line). head_line bound ∷ ls) (inst_lines insts (all_clean insts fit h))

lines_given : (bound : ℕ) (insts : List Inst) → 1 ≤ bound → bound ≤ MAX_BOUND → list_all fits_table insts ≡ true → are_words (flat_map words_of insts) ≡ true
    → length (module_words insts bound) ≤ MODULE_WORDS → assembled_lines (head_line bound ∷ map line_of insts) ≡ Ok (module_words insts bound)
lines_given bound insts least most fit h few =
    ap (λ (r : Result ℕ TextCause). elim r as (λ _. Result (List ℕ) TextFault) [ Err cause ↦ Err (record { line = 1; cause = cause }) | Ok k ↦ assembled_from 2 (module_words [] k) (map line_of insts) ]) (head_given bound least most)
    ∙ from_lines 2 (module_words [] bound) insts fit h (omega (arith, few))

within_limit : (n : ℕ) → n ≤ LISTING_BYTES → nat_lt LISTING_BYTES n ≡ false
within_limit n h = grind (arith, nat_tests, h)

behind_header : (insts : List Inst) (bound : ℕ) → are_words (module_words insts bound) ≡ true → are_words (flat_map words_of insts) ≡ true
behind_header insts bound h = second_of_both (is_word bound) (are_words (flat_map words_of insts)) h

-- a line has at most 47 bytes for each word
insts_short : (insts : List Inst) → list_all fits_table insts ≡ true → are_words (flat_map words_of insts) ≡ true
    → length (flat_map inst_line insts) ≤ 47 * length (flat_map words_of insts)
insts_short [] fit h = omega arith
insts_short (inst ∷ insts) fit h =
    let w = words_of_inst inst (flat_map words_of insts) h in
    let t = told inst (first_of_both (fits_table inst) (list_all fits_table insts) fit) w.0 in
    omega (
      arith,
      t.short,
      insts_short insts (second_of_both (fits_table inst) (list_all fits_table insts) fit) w.1,
      length-append (inst_line inst) (flat_map inst_line insts),
      length-append (inst_text inst) (10 ∷ []),
      length-append (words_of inst) (flat_map words_of insts),
    )

listing_short : (bound : ℕ) (insts : List Inst) → bound ≤ MAX_BOUND → list_all fits_table insts ≡ true → are_words (flat_map words_of insts) ≡ true
    → length (module_words insts bound) ≤ MODULE_WORDS → length (listing bound insts) ≤ LISTING_BYTES
listing_short bound insts most fit h few =
    omega (
      arith,
      few,
      insts_short insts fit h,
      decimal_short bound (small_bound bound most),
      length-append (head_text bound) (10 ∷ flat_map inst_line insts),
      length-append (codes "spvt 1 ") (decimal bound),
    )

-- the listing of instructions that fit, within the limits
pub listing_assembled : (bound : ℕ) (insts : List Inst) → 1 ≤ bound → bound ≤ MAX_BOUND → list_all fits_table insts ≡ true → are_words (module_words insts bound) ≡ true
    → length (module_words insts bound) ≤ MODULE_WORDS → assembled (listing bound insts) ≡ Ok (module_words insts bound)
unfolding assembled
listing_assembled bound insts least most fit h few =
    let others = behind_header insts bound h in
    ap (λ (b : Bool). cond {A = Result (List ℕ) TextFault} b (Err (record { line = 0; cause = TooLong })) (assembled_lines (lines_of (listing bound insts))))
    (within_limit (length (listing bound insts)) (listing_short bound insts most fit others few))
    ∙ ap assembled_lines (lines_are bound insts most fit others) ∙ lines_given bound insts least most fit others few

-- a listing is assembled to the words that it is of
pub listing_gives : (bytes words : List ℕ) → IsListing bytes words → are_words words ≡ true → assembled bytes ≡ Ok words
listing_gives bytes words l h =
    let whole = listing_assembled l.bound l.insts l.bound_least l.bound_most l.fit (ap are_words (sym l.words_are) ∙ h) (omega (arith, l.few, ap length l.words_are)) in
    ap assembled l.bytes_are ∙ whole ∙ ap (λ (ws : List ℕ). Ok ws) (sym l.words_are)
