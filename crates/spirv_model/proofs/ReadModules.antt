-- What is read as a module can be written as one.
use Rattle.std.proofs.Common.{◌≡◌, ℕ, zero, suc, ◌+◌, ◌*◌, ◌/◌, ◌%◌, ◌≤◌, Bool, true, false, ◌&&◌, cond, not, nat_lt, nat_le, if◌then◌else◌, List, [], ◌∷◌, ◌++◌, length, drop, slice_index, Option, None, Some, is_some, is_none, ◌==◌, refl, ap, sym, ◌∙◌, arith, length-append, length-drop}
use Rattle.std.specs.Prelude.{MatchOption, Result, Ok, Err}
use Rattle.std.specs.List.{flat_map, list_all}
use Rattle.std.proofs.lemmas.Bool.Decides.{nat_tests}
use Rattle.limits.specs.declared.TheConstants.{MODULE_WORDS, MAX_BOUND}
use Rattle.spirv_model.specs.declared.module.Inst.{Inst}
use Rattle.spirv_model.specs.declared.module.Words.{Words}
use Rattle.spirv_model.specs.declared.module.WordsFault.{WordsFault}
use Rattle.spirv_model.specs.declared.module.WordsFault.TheVariants.{BadHeader, UnknownOp, BadShape, FloatType}
use Rattle.spirv_model.specs.declared.module.TheConstants.{HEADER_WORDS, MAGIC}
use Rattle.spirv_model.specs.declared.table.Operand.{Operand}
use Rattle.spirv_model.specs.declared.table.Entry.{Entry}
use Rattle.spirv_model.specs.declared.table.Entry.TheVariants.{Skipped, Float, Listed}
use Rattle.spirv_model.specs.Operands.{entry_of, kinds}
use Rattle.spirv_model.specs.Module.{Cut, Rest, begin, cut, fault_at, first_fault, fits_table, floats, has_header, instruction_before, is_skipped, is_version, list_of_cut, listed, lists, module_of, module_words, onto, rest_of, skips, with_bound, words_of, IsWritable}

-- ---- what is cut is the words

abbrev IsWhole : List ℕ → ℕ → Rest → Type 0
IsWhole words n rest = MatchOption rest.0 ⊥ (λ front. (front ++ flat_map words_of (rest.1).insts ≡ words) × (length front ≡ n))

onto_whole : (w n : ℕ) (words : List ℕ) (rest : Rest) → IsWhole words n rest → IsWhole (w ∷ words) (suc n) (onto w rest)
onto_whole w n words (None, after) h = h
onto_whole w n words (Some front, after) h = (ap (λ (ws : List ℕ). w ∷ ws) h.0, omega (arith, h.1))

before_whole : (w more op : ℕ) (words : List ℕ) (rest : Rest) → w ≡ (more + 1) * 65536 + op → ((rest.1).broken ≡ None → IsWhole words more rest)
    → (instruction_before op rest).broken ≡ None → flat_map words_of (instruction_before op rest).insts ≡ w ∷ words
before_whole w more op words (None, after) is whole h = absurd (whole h)
before_whole w more op words (Some front, after) is whole h =
    let p = whole h in
    let e : (length front + 1) * 65536 + op ≡ w = omega (arith, is, p.1) in
    ap (λ (k : ℕ). k ∷ front ++ flat_map words_of after.insts) e ∙ ap (λ (ws : List ℕ). w ∷ ws) p.0

begin_whole : (w count op : ℕ) (words : List ℕ) (rest : ℕ → Rest) → w ≡ count * 65536 + op → ((more : ℕ) → ((rest more).1).broken ≡ None → IsWhole words more (rest more))
    → (begin op count rest).broken ≡ None → flat_map words_of (begin op count rest).insts ≡ w ∷ words
begin_whole w zero op words rest is whole h = cc
begin_whole w (suc more) op words rest is whole h = before_whole w more op words (rest more) (omega (arith, is)) (whole more) h

rest_whole : (words : List ℕ) (n : ℕ) → ((rest_of words n).1).broken ≡ None → IsWhole words n (rest_of words n)
rest_whole [] zero h = (refl, refl)
rest_whole [] (suc n) h = cc
rest_whole (w ∷ words) zero h = (begin_whole w (w / 65536) (w % 65536) words (rest_of words) (omega arith) (rest_whole words) h, refl)
rest_whole (w ∷ words) (suc n) h = onto_whole w n words (rest_of words n) (rest_whole words n h)

whole_front : (words : List ℕ) (rest : Rest) → IsWhole words 0 rest → flat_map words_of (rest.1).insts ≡ words
whole_front words (None, after) h = absurd h
whole_front words (Some [], after) h = h.0
whole_front words (Some (w ∷ front), after) h = absurd (omega (arith, h.1))

pub cut_whole : (words : List ℕ) → (cut words).broken ≡ None → flat_map words_of (cut words).insts ≡ words
cut_whole words h = whole_front words (rest_of words 0) (rest_whole words 0 h)

-- ---- the listed instructions

keep_by : (b : Bool) (inst : Inst) (kept insts : List Inst) → length (flat_map words_of kept) ≤ length (flat_map words_of insts)
    → length (flat_map words_of (cond b (inst ∷ kept) kept)) ≤ length (flat_map words_of (inst ∷ insts))
keep_by true inst kept insts few = omega (arith, few, length-append (words_of inst) (flat_map words_of kept), length-append (words_of inst) (flat_map words_of insts))
keep_by false inst kept insts few = omega (arith, few, length-append (words_of inst) (flat_map words_of insts))

listed_few : (insts : List Inst) → length (flat_map words_of (listed insts)) ≤ length (flat_map words_of insts)
listed_few [] = omega arith
listed_few (inst ∷ insts) = keep_by (not (is_skipped inst)) inst (listed insts) insts (listed_few insts)

sound_entry : (e : Option Entry) (k : Option (List Operand)) (op place : ℕ)
    → (if is_none e then Some (UnknownOp op) else if lists e && is_none k then Some (BadShape place) else if floats e then Some FloatType else None) ≡ None
    → skips e ≡ false → is_some k ≡ true
sound_entry None k op place h s = cc
sound_entry (Some Skipped) k op place h s = cc
sound_entry (Some Float) k op place h s = cc
sound_entry (Some (Listed class operands)) None op place h s = cc
sound_entry (Some (Listed class operands)) (Some ks) op place h s = refl

cons_fits : (b : Bool) (inst : Inst) (kept : List Inst) → (b ≡ false → fits_table inst ≡ true) → list_all fits_table kept ≡ true
    → list_all fits_table (cond (not b) (inst ∷ kept) kept) ≡ true
cons_fits true inst kept one all = all
cons_fits false inst kept one all = ap (λ (x : Bool). x && list_all fits_table kept) (one refl) ∙ all

no_fault : (o next : Option WordsFault) → ◌≡◌ {A = Option WordsFault} (elim o [ None ↦ next | Some f ↦ Some f ]) None → (o ≡ None) × (next ≡ None)
no_fault None next h = (refl, h)
no_fault (Some f) next h = cc

listed_fit : (place : ℕ) (insts : List Inst) → first_fault place insts ≡ None → list_all fits_table (listed insts) ≡ true
listed_fit place [] h = refl
listed_fit place (inst ∷ insts) h =
    let n = no_fault (fault_at place inst) (first_fault (if is_skipped inst then place else place + 1) insts) h in
    cons_fits (is_skipped inst) inst (listed insts) (sound_entry (entry_of inst.op) (kinds inst) inst.op place n.0)
    (listed_fit (if is_skipped inst then place else place + 1) insts n.1)

-- ---- the module

answer_is : (fault broken : Option WordsFault) (own insts : List Inst)
    → ◌≡◌ {A = Result (List Inst) WordsFault} (elim fault [ Some f ↦ Err f | None ↦ elim broken [ Some f ↦ Err f | None ↦ Ok own ] ]) (Ok insts)
    → (fault ≡ None) × (broken ≡ None) × (own ≡ insts)
answer_is (Some f) broken own insts is = cc
answer_is None (Some f) own insts is = cc
answer_is None None own insts is = (refl, refl, cc)

-- what is listed of the words behind the header, and that it fits the table
pub list_read : (words : List ℕ) (insts : List Inst) → list_of_cut 0 (cut words) ≡ Ok insts
    → (listed (cut words).insts ≡ insts) × (flat_map words_of (cut words).insts ≡ words) × (list_all fits_table insts ≡ true)
unfolding list_of_cut
list_read words insts is =
    let a = answer_is (first_fault 0 (cut words).insts) (cut words).broken (listed (cut words).insts) insts is in
    (a.2, cut_whole words a.1, ap (list_all fits_table) (sym a.2) ∙ listed_fit 0 (cut words).insts a.0)

list_few : (words : List ℕ) (insts : List Inst) → list_of_cut 0 (cut words) ≡ Ok insts → length (flat_map words_of insts) ≤ length words
list_few words insts is =
    let l = list_read words insts is in
    omega (arith, listed_few (cut words).insts, ap (λ (i : List Inst). length (flat_map words_of i)) l.0, ap length l.1)

bound_is : (bound : ℕ) (read : Result (List Inst) WordsFault) (m : Words) → with_bound bound read ≡ Ok m → (bound ≡ m.bound) × (read ≡ Ok m.insts)
bound_is bound (Ok insts) m is = (cc, cc)
bound_is bound (Err fault) m is = cc

pub header_is : (header : Bool) (bound : ℕ) (read : Result (List Inst) WordsFault) (m : Words) → (if header then with_bound bound read else Err BadHeader) ≡ Ok m
    → (header ≡ true) × (bound ≡ m.bound) × (read ≡ Ok m.insts)
header_is true bound read m is = let b = bound_is bound read m is in (refl, b.0, b.1)
header_is false bound read m is = cc

limits : (a b c d e f g : Bool) → (a && b && c && d && e && f && g) ≡ true → (a ≡ true) × (b ≡ true) × (e ≡ true) × (f ≡ true)
limits true true true true true true true h = (refl, refl, refl, refl)
limits false b c d e f g h = cc
limits true false c d e f g h = cc
limits true true false d e f g h = cc
limits true true true false e f g h = cc
limits true true true true false f g h = cc
limits true true true true true false g h = cc
limits true true true true true true false h = cc

at_most : (n m : ℕ) → nat_le n m ≡ true → n ≤ m
at_most n m h = grind (arith, nat_tests, h)

positive : (n : ℕ) → nat_lt 0 n ≡ true → 1 ≤ n
positive n h = grind (arith, nat_tests, h)

insts_few : (insts : List Inst) → length insts ≤ length (flat_map words_of insts)
insts_few [] = omega arith
insts_few (inst ∷ insts) = omega (arith, insts_few insts, length-append (words_of inst) (flat_map words_of insts))

-- a module that can be written has no more instructions than it may have words
pub few_written : (m : Words) → IsWritable m → length m.insts ≤ MODULE_WORDS
few_written m w = omega (arith, insts_few m.insts, w.few)

-- where words are read as a module, it can be written
pub read_writable : (words : List ℕ) (m : Words) → module_of words ≡ Ok m → IsWritable m
read_writable words m is =
    let header = header_is (has_header words) (slice_index words 3) (list_of_cut 0 (cut (drop HEADER_WORDS words))) m is in
    let l = limits (nat_le HEADER_WORDS (length words)) (nat_le (length words) MODULE_WORDS) (slice_index words 0 == MAGIC) (is_version (slice_index words 1))
    (nat_lt 0 (slice_index words 3)) (nat_le (slice_index words 3) MAX_BOUND) (slice_index words 4 == 0) header.0 in
    record {
      fit = (list_read (drop HEADER_WORDS words) m.insts header.2).2;
      bound_least = omega (arith, positive (slice_index words 3) l.2, header.1);
      bound_most = omega (arith, at_most (slice_index words 3) MAX_BOUND l.3, header.1);
      few = omega (arith, list_few (drop HEADER_WORDS words) m.insts header.2, length-drop HEADER_WORDS words, at_most HEADER_WORDS (length words) l.0, at_most (length words) MODULE_WORDS l.1);
    }
