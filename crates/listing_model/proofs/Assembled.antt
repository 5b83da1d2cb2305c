-- What is assembled is a listing.
use Rattle.std.proofs.Common.{◌≡◌, ℕ, ◌+◌, ◌≤◌, Bool, true, false, ◌&&◌, not, cond, nat_lt, nat_le, ◌==◌, List, [], ◌∷◌, ◌++◌, length, Option, None, Some, is_some, refl, ap, subst, sym, ◌∙◌, arith, rules, append_assoc, append-nil, length-append}
use Rattle.std.specs.Prelude.{Result, Ok, Err, bytes_eq}
use Rattle.std.specs.List.{flat_map, list_all, slice_split, join_with_byte}
use Rattle.std.proofs.lemmas.List.Splits.{join_with_byte-slice_split}
use Rattle.std.proofs.lemmas.Bool.Decides.{nat_tests}
use Rattle.std.proofs.lemmas.Slice.Eq.{bytes_eq-Decides}
use Rattle.limits.specs.declared.TheConstants.{MODULE_WORDS, MAX_BOUND}
use Rattle.basics.proofs.Bools.{first_of_both, second_of_both}
use Rattle.spirv_model.specs.declared.module.Inst.{Inst}
use Rattle.spirv_model.specs.Module.{module_words, words_of}
use Rattle.spirv_model.specs.Operands.{kinds}
use Rattle.listing_model.specs.declared.fault.TheConstants.{LISTING_BYTES}
use Rattle.listing_model.specs.declared.fault.TextCause.{TextCause}
use Rattle.listing_model.specs.declared.fault.TextCause.TheVariants.{TooLong, NoEnd, NoHead, NoName, BadOperands, TooManyWords}
use Rattle.listing_model.specs.declared.fault.TextFault.{TextFault}
use Rattle.listing_model.specs.Listing.{head_text, inst_line, inst_text}
use Rattle.listing_model.specs.Spelling.{is_text_of}
use Rattle.listing_model.specs.Assembly.{Line, assembled, assembled_from, assembled_lines, head_bound, head_gives, is_head, line_gives, line_inst, lines_in, lines_of, operands_cause}
use Rattle.listing_model.specs.Meaning.{IsListing}

abbrev fitting : Inst → Bool
fitting inst = is_some (kinds inst)

-- a line that gives an instruction is that instruction's
pub record GivesInst (before : ℕ) (line : Line) (inst : Inst) : Type 0 where
  pub ended : line.ended ≡ true
  pub text : line.text ≡ inst_text inst
  pub fit : fitting inst ≡ true
  pub few : before + 1 + length inst.words ≤ MODULE_WORDS

same_bytes : (xs ys : List ℕ) → bytes_eq xs ys ≡ true → xs ≡ ys
same_bytes xs ys h = search (rules, bytes_eq-Decides)

by_operands : (t m : Bool) (found inst : Inst)
    → ◌≡◌ {A = Result Inst TextCause}
    (elim (cond {A = Option TextCause} (not t) (Some BadOperands) (cond m (Some TooManyWords) None)) [ Some cause ↦ Err cause | None ↦ Ok found ]) (Ok inst)
    → (t ≡ true) × (m ≡ false) × (found ≡ inst)
by_operands true true found inst h = cc
by_operands true false found inst h = (refl, refl, cc)
by_operands false m found inst h = cc

by_inst : (o : Option Inst) (before : ℕ) (text : List ℕ) (inst : Inst)
    → ◌≡◌ {A = Result Inst TextCause}
    (elim o [ None ↦ Err NoName | Some found ↦ elim (operands_cause before found text) [ Some cause ↦ Err cause | None ↦ Ok found ] ]) (Ok inst)
    → (is_text_of inst text ≡ true) × (nat_lt MODULE_WORDS (before + 1 + length inst.words) ≡ false)
by_inst None before text inst h = cc
by_inst (Some found) before text inst h =
    let b = by_operands (is_text_of found text) (nat_lt MODULE_WORDS (before + 1 + length found.words)) found inst h in
    (subst (λ (i : Inst). is_text_of i text ≡ true) b.2 b.0, subst (λ (i : Inst). nat_lt MODULE_WORDS (before + 1 + length i.words) ≡ false) b.2 b.1)

by_end : (e : Bool) (rest : Result Inst TextCause) (inst : Inst) → cond {A = Result Inst TextCause} (not e) (Err NoEnd) rest ≡ Ok inst → (e ≡ true) × (rest ≡ Ok inst)
by_end true rest inst h = (refl, h)
by_end false rest inst h = cc

not_past : (n : ℕ) → nat_lt MODULE_WORDS n ≡ false → n ≤ MODULE_WORDS
not_past n h = grind (arith, nat_tests, h)

gives_inst : (before : ℕ) (line : Line) (inst : Inst) → line_gives before line ≡ Ok inst → GivesInst before line inst
gives_inst before line inst h =
    let e = by_end line.ended _ inst h in
    let i = by_inst (line_inst line.text) before line.text inst e.1 in
    record {
      ended = e.0;
      text = same_bytes line.text (inst_text inst) (second_of_both (fitting inst) _ i.0);
      fit = first_of_both (fitting inst) _ i.0;
      few = not_past (before + 1 + length inst.words) i.1;
    }

-- the bytes of a line
abbrev line_bytes : Line → List ℕ
line_bytes line = line.text ++ cond line.ended (10 ∷ []) []

-- what comes of some lines
pub record GivesInsts (words : List ℕ) (lines : List Line) (out : List ℕ) : Type 0 where
  pub insts : List Inst
  pub bytes_are : flat_map line_bytes lines ≡ flat_map inst_line insts
  pub words_are : out ≡ words ++ flat_map words_of insts
  pub fit : list_all fitting insts ≡ true
  pub few : length out ≤ MODULE_WORDS

front : (line : Line) (inst : Inst) (before : ℕ) → GivesInst before line inst → line_bytes line ≡ inst_line inst
front line inst before g =
    ap (λ (e : Bool). line.text ++ cond e (10 ∷ []) []) g.ended ∙ ap (λ (t : List ℕ). t ++ 10 ∷ []) g.text

one_more : (words : List ℕ) (line : Line) (lines : List Line) (inst : Inst) (out : List ℕ) → GivesInst (length words) line inst
    → GivesInsts (words ++ words_of inst) lines out → GivesInsts words (line ∷ lines) out
one_more words line lines inst out g rest = record {
  insts = inst ∷ rest.insts;
  bytes_are = ap (λ (t : List ℕ). t ++ flat_map line_bytes lines) (front line inst (length words) g) ∙ ap (λ (t : List ℕ). inst_line inst ++ t) rest.bytes_are;
  words_are = rest.words_are ∙ append_assoc words (words_of inst) (flat_map words_of rest.insts);
  fit = ap (λ (b : Bool). b && list_all fitting rest.insts) g.fit ∙ rest.fit;
  few = rest.few;
}

from_line : (gives : Result Inst TextCause) (number : ℕ) (words : List ℕ) (line : Line) (lines : List Line) (out : List ℕ)
    → ((inst : Inst) → gives ≡ Ok inst → GivesInst (length words) line inst)
    → ((inst : Inst) → length (words ++ words_of inst) ≤ MODULE_WORDS → assembled_from (number + 1) (words ++ words_of inst) lines ≡ Ok out → GivesInsts (words ++ words_of inst) lines out)
    → ◌≡◌ {A = Result (List ℕ) TextFault} (elim gives [ Err cause ↦ Err (record { line = number; cause = cause }) | Ok inst ↦ assembled_from (number + 1) (words ++ words_of inst) lines ]) (Ok out)
    → GivesInsts words (line ∷ lines) out
from_line (Err cause) number words line lines out one more h = cc
from_line (Ok inst) number words line lines out one more h =
    let g = one inst refl in
    one_more words line lines inst out g (more inst (omega (arith, g.few, length-append words (words_of inst))) h)

gives_insts : (number : ℕ) (words : List ℕ) (lines : List Line) (out : List ℕ) → length words ≤ MODULE_WORDS → assembled_from number words lines ≡ Ok out → GivesInsts words lines out
gives_insts number words [] out few h =
    let e : words ≡ out = cc in
    record { insts = []; bytes_are = refl; words_are = sym e ∙ sym (append-nil words); fit = refl; few = omega (arith, few, ap length e) }
gives_insts number words (line ∷ lines) out few h =
    from_line (line_gives (length words) line) number words line lines out (gives_inst (length words) line)
    (λ inst small k. gives_insts (number + 1) (words ++ words_of inst) lines out small k) h

-- the bytes of all lines are the text
joined_last : (last : List ℕ) (b : Bool) → (length last == 0) ≡ b → last ≡ flat_map line_bytes (cond b [] (record { text = last; ended = false } ∷ []))
joined_last [] true h = refl
joined_last (x ∷ last) true h = absurd (grind (arith, nat_tests, h))
joined_last last false h = sym (append-nil last) ∙ sym (append-nil (last ++ []))

joined : (parts : List (List ℕ)) → join_with_byte 10 parts ≡ flat_map line_bytes (lines_in parts)
joined [] = refl
joined (last ∷ []) = joined_last last (length last == 0) refl
joined (text ∷ next ∷ parts) =
    ap (λ (t : List ℕ). text ++ 10 ∷ t) (joined (next ∷ parts)) ∙ sym (append_assoc text (10 ∷ []) (flat_map line_bytes (lines_in (next ∷ parts))))

pub all_bytes : (bytes : List ℕ) → bytes ≡ flat_map line_bytes (lines_of bytes)
all_bytes bytes = sym (join_with_byte-slice_split 10 bytes) ∙ joined (slice_split (λ b. b == 10) bytes)

-- the first line
pub record GivesHead (line : Line) (bound : ℕ) : Type 0 where
  pub ended : line.ended ≡ true
  pub text : line.text ≡ head_text bound
  pub least : 1 ≤ bound
  pub most : bound ≤ MAX_BOUND

by_head : (e i : Bool) (found bound : ℕ) → ◌≡◌ {A = Result ℕ TextCause} (cond (not e) (Err NoEnd) (cond (not i) (Err NoHead) (Ok found))) (Ok bound)
    → (e ≡ true) × (i ≡ true) × (found ≡ bound)
by_head true true found bound h = (refl, refl, cc)
by_head true false found bound h = cc
by_head false i found bound h = cc

above : (n : ℕ) → nat_lt 0 n ≡ true → 1 ≤ n
above n h = grind (arith, nat_tests, h)

below : (n : ℕ) → nat_le n MAX_BOUND ≡ true → n ≤ MAX_BOUND
below n h = grind (arith, nat_tests, h)

found_head : (line : Line) → line.ended ≡ true → is_head line.text ≡ true → GivesHead line (head_bound line.text)
found_head line e h =
    let first = first_of_both (bytes_eq line.text (head_text (head_bound line.text)) && nat_lt 0 (head_bound line.text)) _ h in
    record {
      ended = e;
      text = same_bytes line.text (head_text (head_bound line.text)) (first_of_both (bytes_eq line.text (head_text (head_bound line.text))) _ first);
      least = above (head_bound line.text) (second_of_both (bytes_eq line.text (head_text (head_bound line.text))) _ first);
      most = below (head_bound line.text) (second_of_both (bytes_eq line.text (head_text (head_bound line.text)) && nat_lt 0 (head_bound line.text)) _ h);
    }

gives_head : (line : Line) (bound : ℕ) → head_gives line ≡ Ok bound → GivesHead line bound
unfolding head_gives
gives_head line bound h =
    let b = by_head line.ended (is_head line.text) (head_bound line.text) bound h in subst (GivesHead line) b.2 (found_head line b.0 b.1)

put_together : (bytes out : List ℕ) (line : Line) (lines : List Line) (bound : ℕ) → bytes ≡ flat_map line_bytes (line ∷ lines) → GivesHead line bound
    → GivesInsts (module_words [] bound) lines out → IsListing bytes out
put_together bytes out line lines bound is head rest = record {
  bound = bound;
  insts = rest.insts;
  bytes_are =
      is ∙ ap (λ (e : Bool). (line.text ++ cond e (10 ∷ []) []) ++ flat_map line_bytes lines) head.ended
      ∙ ap (λ (t : List ℕ). (t ++ 10 ∷ []) ++ flat_map line_bytes lines) head.text
      ∙ ap (λ (t : List ℕ). (head_text bound ++ 10 ∷ []) ++ t) rest.bytes_are
      ∙ append_assoc (head_text bound) (10 ∷ []) (flat_map inst_line rest.insts);
  words_are = rest.words_are;
  bound_least = head.least;
  bound_most = head.most;
  few = rest.few;
  fit = rest.fit;
}

by_first : (gives : Result ℕ TextCause) (bytes out : List ℕ) (line : Line) (lines : List Line) → bytes ≡ flat_map line_bytes (line ∷ lines)
    → ((bound : ℕ) → gives ≡ Ok bound → GivesHead line bound)
    → ◌≡◌ {A = Result (List ℕ) TextFault} (elim gives [ Err cause ↦ Err (record { line = 1; cause = cause }) | Ok bound ↦ assembled_from 2 (module_words [] bound) lines ]) (Ok out)
    → IsListing bytes out
by_first (Err cause) bytes out line lines is head h = cc
by_first (Ok bound) bytes out line lines is head h =
    put_together bytes out line lines bound is (head bound refl) (gives_insts 2 (module_words [] bound) lines out (omega arith) h)

by_lines : (bytes out : List ℕ) (lines : List Line) → bytes ≡ flat_map line_bytes lines → assembled_lines lines ≡ Ok out → IsListing bytes out
by_lines bytes out [] is h = cc
by_lines bytes out (line ∷ lines) is h = by_first (head_gives line) bytes out line lines is (gives_head line) h

short_enough : (b : Bool) (rest : Result (List ℕ) TextFault) (out : List ℕ)
    → cond {A = Result (List ℕ) TextFault} b (Err (record { line = 0; cause = TooLong })) rest ≡ Ok out → rest ≡ Ok out
short_enough true rest out h = cc
short_enough false rest out h = h

-- what is assembled to words is the listing of a list and a bound whose written words these are
pub is_listing : (bytes out : List ℕ) → assembled bytes ≡ Ok out → IsListing bytes out
unfolding assembled
is_listing bytes out h =
    by_lines bytes out (lines_of bytes) (all_bytes bytes)
    (short_enough (nat_lt LISTING_BYTES (length bytes)) (assembled_lines (lines_of bytes)) out h)
