-- What a listing is assembled to, from its first line on.
use Rattle.std.proofs.Common.{◌≡◌, ℕ, ◌<◌, ◌≤◌, Bool, true, false, cond, nat_lt, MatchBool, List, [], length, drop, ap, sym, ◌∙◌, arith, Vec, Global}
use Rattle.std.specs.Prelude.{Result, Ok, Err, IfOk}
use Rattle.std.proofs.lemmas.Bool.Decides.{nat_tests}
use Rattle.spirv_model.specs.Module.{module_words}
use Rattle.listing_model.specs.declared.fault.TheConstants.{LISTING_BYTES}
use Rattle.listing_model.specs.declared.fault.TextCause.{TextCause}
use Rattle.listing_model.specs.declared.fault.TextCause.TheVariants.{TooLong}
use Rattle.listing_model.specs.declared.fault.TextFault.{TextFault}
use Rattle.listing_model.specs.Assembly.{Line, assembled, assembled_from, assembled_lines, first_gives, is_memory, lacks_memory, lines_in, lines_of}
use Rattle.listing_model.specs.Meaning.{IsListing}
use Rattle.listing_model.proofs.Assembled.{is_listing}
use Rattle.listing_model.proofs.Converse.{listing_gives}
use Rattle.spv_text.specs.Answers.{Gives, GivesListed}
use Rattle.spv_text.specs.Parts.{parts_of}

long_test : (bytes : List ℕ) → LISTING_BYTES < length bytes → nat_lt LISTING_BYTES (length bytes) ≡ true
long_test bytes h = grind (arith, nat_tests, h)

short_test : (bytes : List ℕ) → length bytes ≤ LISTING_BYTES → nat_lt LISTING_BYTES (length bytes) ≡ false
short_test bytes h = grind (arith, nat_tests, h)

pub too_long : (bytes : List ℕ) → LISTING_BYTES < length bytes → assembled bytes ≡ Err (record { line = 0; cause = TooLong })
unfolding assembled
too_long bytes h =
    ap (λ (b : Bool). cond {A = Result (List ℕ) TextFault} b (Err (record { line = 0; cause = TooLong })) (assembled_lines (lines_of bytes))) (long_test bytes h)

within : (bytes : List ℕ) → length bytes ≤ LISTING_BYTES → assembled bytes ≡ assembled_lines (lines_of bytes)
unfolding assembled
within bytes h =
    ap (λ (b : Bool). cond {A = Result (List ℕ) TextFault} b (Err (record { line = 0; cause = TooLong })) (assembled_lines (lines_of bytes))) (short_test bytes h)

abbrev after_head : List Line → Result ℕ TextCause → Result (List ℕ) TextFault
after_head lines gives = elim gives [ Err cause ↦ Err (record { line = 1; cause = cause }) | Ok bound ↦ assembled_from 2 (module_words [] bound) (drop 1 lines) ]

from_head : (bytes : List ℕ) (parts : List (List ℕ)) → length bytes ≤ LISTING_BYTES → parts ≡ parts_of 10 bytes
    → assembled bytes ≡ after_head (lines_in parts) (first_gives (lines_in parts))
from_head bytes parts short is = within bytes short ∙ ap (λ (ps : List (List ℕ)). after_head (lines_in ps) (first_gives (lines_in ps))) (sym is)

unless : (b : Bool) (P Q : Type 0) → (P → Q) → MatchBool b (Unit {0}) P → MatchBool b (Unit {0}) Q
unless true P Q f h = tt
unless false P Q f h = f h

pub head_fault : (bytes : List ℕ) (parts : List (List ℕ)) (cause : TextCause) → length bytes ≤ LISTING_BYTES → parts ≡ parts_of 10 bytes
    → MatchBool (is_memory cause) (Unit {0}) (first_gives (lines_in parts) ≡ Err cause)
    → MatchBool (is_memory cause) (Unit {0}) (assembled bytes ≡ Err (record { line = 1; cause = cause }))
head_fault bytes parts cause short is h =
    unless (is_memory cause) (first_gives (lines_in parts) ≡ Err cause) (assembled bytes ≡ Err (record { line = 1; cause = cause }))
    (λ e. from_head bytes parts short is ∙ ap (λ (g : Result ℕ TextCause). after_head (lines_in parts) g) e) h

pub assembled_on : (bytes : List ℕ) (parts left : List (List ℕ)) (bound : ℕ) (words : List ℕ) → length bytes ≤ LISTING_BYTES → parts ≡ parts_of 10 bytes
    → first_gives (lines_in parts) ≡ Ok bound → drop 1 (lines_in parts) ≡ lines_in left → words ≡ module_words [] bound
    → assembled bytes ≡ assembled_from 2 words (lines_in left)
assembled_on bytes parts left bound words short is gives after header =
    from_head bytes parts short is ∙ ap (λ (g : Result ℕ TextCause). after_head (lines_in parts) g) gives
    ∙ ap (λ (ls : List Line). assembled_from 2 (module_words [] bound) ls) after
    ∙ ap (λ (ws : List ℕ). assembled_from 2 ws (lines_in left)) (sym header)

-- what was answered is a listing's words
pub listing_answer : (bytes : List ℕ) (answer : Result (Vec ℕ Global) TextFault) → Gives {X = Vec ℕ Global} {Y = List ℕ} lacks_memory (λ words. words.items) (assembled bytes) answer
    → IfOk answer (λ words. IsListing bytes words.items)
listing_answer bytes (Ok words) h = is_listing bytes words.items h
listing_answer bytes (Err fault) h = tt

ok_same : (xs ys : List ℕ) → ◌≡◌ {A = Result (List ℕ) TextFault} (Ok xs) (Ok ys) → ys ≡ xs
ok_same xs ys h = cc

ok_err : (xs : List ℕ) (fault : TextFault) → ◌≡◌ {A = Result (List ℕ) TextFault} (Ok xs) (Err fault) → ⊥
ok_err xs fault h = cc

-- a listing's words are answered
pub listed_answer : (bytes : List ℕ) (answer : Result (Vec ℕ Global) TextFault) → Gives {X = Vec ℕ Global} {Y = List ℕ} lacks_memory (λ words. words.items) (assembled bytes) answer
    → GivesListed bytes answer
listed_answer bytes (Ok words) h = λ listed l w. ok_same listed words.items (sym (listing_gives bytes listed l w) ∙ h)
listed_answer bytes (Err fault) h = λ listed l w.
    unless (lacks_memory fault) (assembled bytes ≡ Err fault) ⊥ (λ e. ok_err listed fault (sym (listing_gives bytes listed l w) ∙ e)) h
