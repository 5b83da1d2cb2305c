-- A listing is assembled to the words that it is of.
use Rattle.std.proofs.Common.{◌≡◌, ℕ, Bool, true, false, ◌&&◌, not, cond, ◌==◌, List, [], ◌∷◌, ◌++◌, Option, None, Some, is_some, refl, ap, subst, sym, ◌∙◌, ◌≤◌, length, arith, length-append, ◌+◌, ◌*◌, codes, nat_le, ◌<◌, ◌^◌}
use Rattle.std.specs.Prelude.{IfSome, slice_index}
use Rattle.std.specs.List.{flat_map, list_all}
use Rattle.std.proofs.lemmas.Bool.Decides.{nat_tests}
use borrow.Author.Tests.{eqb-true}
use Rattle.basics.proofs.Bools.{first_of_both, second_of_both}
use Rattle.spirv_model.specs.declared.module.Inst.{Inst}
use Rattle.spirv_model.specs.declared.class.Class.{Class}
use Rattle.spirv_model.specs.declared.table.Operands.{Operands}
use Rattle.spirv_model.specs.declared.table.Entry.{Entry}
use Rattle.spirv_model.specs.declared.table.Entry.TheVariants.{Skipped, Float, Listed}
use Rattle.spirv_model.specs.declared.table.Row.{Row}
use Rattle.spirv_model.specs.declared.table.TheConstants.{ROWS}
use Rattle.spirv_model.specs.Operands.{entry_in, entry_of, kinds, kinds_in, listed_of, result, result_in}
use Rattle.spirv_model.specs.Module.{fits_table}
use Rattle.listing_model.specs.Names.{name_in, name_of, names, op_in, op_named}
use Rattle.listing_model.specs.Listing.{id_text, after_space, fields_from, fields_in, inst_text, name_text, result_text}
use Rattle.listing_model.specs.Spelling.{fields_of, first_number, first_op, named_fields, other_words, place_in, spoken_of, with_result}
use Rattle.listing_model.specs.Assembly.{line_inst}
use Rattle.listing_model.specs.Meaning.{are_words}
use Rattle.listing_model.proofs.Digits.{above, decimal_short}
use Rattle.listing_model.proofs.Cuts.{Spoken, line_above, line_spoken}
use Rattle.listing_model.proofs.Fields.{Shaped, has_shape, result_of, shaped}

-- ---- the tables

abbrev is_op : Option ℕ → ℕ → Bool
is_op None op = false
is_op (Some found) op = found == op

is-op : (o : Option ℕ) (op : ℕ) → is_op o op ≡ true → o ≡ Some op
is-op None op h = cc
is-op (Some found) op h = ap (λ (n : ℕ). Some n) (eqb-true found op h)

-- a name that leads back to its opcode, and can't be taken for an id or cut
abbrev is_good_name : ℕ → Option (List ℕ) → Bool
is_good_name op None = false
is_good_name op (Some name) = is_op (op_in names name) op && above 32 name && not (slice_index name 0 == 37) && nat_le (length name) 32

abbrev is_good_entry : ℕ → Entry → Bool
is_good_entry op (Listed class operands) = has_shape (listed_of operands) && is_good_name op (name_in names op)
is_good_entry op entry = true

abbrev is_good : Row → Bool
is_good row = is_good_entry row.op row.entry

all_good : list_all is_good ROWS ≡ true
all_good = refl

entry_by : (b : Bool) (row : Row) (rest : Option Entry) (op : ℕ) (entry : Entry) → (b ≡ true → row.op ≡ op) → is_good row ≡ true
    → (rest ≡ Some entry → is_good_entry op entry ≡ true) → cond b (Some row.entry) rest ≡ Some entry → is_good_entry op entry ≡ true
entry_by true row rest op entry same good others h =
    let e : row.entry ≡ entry = cc in
    subst (λ (k : ℕ). is_good_entry k entry ≡ true) (same refl) (subst (λ (k : Entry). is_good_entry row.op k ≡ true) e good)
entry_by false row rest op entry same good others h = others h

good_entry : (rows : List Row) (op : ℕ) (entry : Entry) → list_all is_good rows ≡ true → entry_in rows op ≡ Some entry → is_good_entry op entry ≡ true
good_entry [] op entry all h = cc
good_entry (row ∷ rows) op entry all h =
    entry_by (row.op == op) row (entry_in rows op) op entry (λ e. eqb-true row.op op e) (first_of_both (is_good row) (list_all is_good rows) all)
    (λ r. good_entry rows op entry (second_of_both (is_good row) (list_all is_good rows) all) r) h

-- what the tables say of a listed opcode
pub record Named (op : ℕ) (name : List ℕ) : Type 0 where
  pub is : name_in names op ≡ Some name
  pub leads_back : op_in names name ≡ Some op
  pub clean : above 32 name ≡ true
  pub letter : (slice_index name 0 == 37) ≡ false
  pub short : length name ≤ 32

not_true : (b : Bool) → not b ≡ true → b ≡ false
not_true true h = cc
not_true false h = refl

at_most : (n : ℕ) → nat_le n 32 ≡ true → n ≤ 32
at_most n h = grind (arith, nat_tests, h)

named_by : (o : Option (List ℕ)) (op : ℕ) → name_in names op ≡ o → is_good_name op o ≡ true → (name : List ℕ) × Named op name
named_by None op is h = cc
named_by (Some name) op is h =
    let front = first_of_both (is_op (op_in names name) op && above 32 name && not (slice_index name 0 == 37)) (nat_le (length name) 32) h in
    let first = first_of_both (is_op (op_in names name) op && above 32 name) (not (slice_index name 0 == 37)) front in (
      name,
      record {
        is = is;
        leads_back = is-op (op_in names name) op (first_of_both (is_op (op_in names name) op) (above 32 name) first);
        clean = second_of_both (is_op (op_in names name) op) (above 32 name) first;
        letter = not_true (slice_index name 0 == 37) (second_of_both (is_op (op_in names name) op && above 32 name) (not (slice_index name 0 == 37)) front);
        short = at_most (length name) (second_of_both (is_op (op_in names name) op && above 32 name && not (slice_index name 0 == 37)) (nat_le (length name) 32) h);
      },
    )

-- ---- one instruction

-- what an instruction's text says of it
pub record Told (inst : Inst) : Type 0 where
  pub clean : above 10 (inst_text inst) ≡ true
  pub spoken : line_inst (inst_text inst) ≡ Some inst
  pub short : length (inst_text inst) ≤ 12 * length inst.words + 46

spoken_by : (inst : Inst) (operands : Operands) (class : Class) (name : List ℕ) → entry_of inst.op ≡ Some (Listed class operands) → Named inst.op name
    → Shaped (listed_of operands) operands.rest inst.words
    → Spoken (result_of (listed_of operands) inst.words) name (fields_from (listed_of operands) operands.rest inst.words) (fields_of (inst_text inst))
    → line_inst (inst_text inst) ≡ Some inst
unfolding line_inst spoken_of op_named
spoken_by inst operands class name entry named shape spoken =
    let op : first_op (named_fields (fields_of (inst_text inst))) ≡ Some inst.op = ap first_op spoken.named ∙ named.leads_back in
    let words : with_result (place_in (entry_of inst.op)) (first_number (fields_of (inst_text inst))) (other_words (named_fields (fields_of (inst_text inst)))) ≡ inst.words =
    ap (λ (e : Option Entry). with_result (place_in e) (first_number (fields_of (inst_text inst))) (other_words (named_fields (fields_of (inst_text inst))))) entry
    ∙ ap (λ (fs : List (List ℕ)). with_result (place_in (Some (Listed class operands))) (first_number (fields_of (inst_text inst))) (other_words fs)) spoken.named
    ∙ shape.words_are (first_number (fields_of (inst_text inst))) spoken.number in
    ap (λ (o : Option ℕ). elim o [ None ↦ None | Some k ↦ Some (spoken_of k (fields_of (inst_text inst))) ]) op
    ∙ ap (λ (ws : List ℕ). Some (record { op = inst.op; words = ws })) words

text_is : (inst : Inst) (operands : Operands) (class : Class) (name : List ℕ) → entry_of inst.op ≡ Some (Listed class operands) → name_in names inst.op ≡ Some name
    → inst_text inst ≡ result_text (result_of (listed_of operands) inst.words) ++ name ++ flat_map after_space (fields_from (listed_of operands) operands.rest inst.words)
unfolding inst_text result name_of
text_is inst operands class name entry is =
    ap (λ (e : Option Entry). result_text (result_in e inst) ++ name_text (name_in names inst.op) ++ flat_map after_space (fields_in e inst.words)) entry
    ∙ ap (λ (o : Option (List ℕ)). result_text (result_of (listed_of operands) inst.words) ++ name_text o ++ flat_map after_space (fields_from (listed_of operands) operands.rest inst.words)) is

result_short : (o : Option ℕ) → IfSome o (λ id. id < 2 ^ 32) → length (result_text o) ≤ 14
result_short None small = omega arith
result_short (Some id) small = omega (arith, decimal_short id small, length-append (id_text id) (codes " = "))

text_short : (o : Option ℕ) (name : List ℕ) (others : List (List ℕ)) (n : ℕ) → IfSome o (λ id. id < 2 ^ 32) → length name ≤ 32
    → length (flat_map after_space others) ≤ 12 * n → length (result_text o ++ name ++ flat_map after_space others) ≤ 12 * n + 46
text_short o name others n small few short =
    omega (arith, result_short o small, few, short, length-append (result_text o ++ name) (flat_map after_space others), length-append (result_text o) name)

told_by : (inst : Inst) (operands : Operands) (class : Class) (name : List ℕ) → entry_of inst.op ≡ Some (Listed class operands) → Named inst.op name
    → Shaped (listed_of operands) operands.rest inst.words → Told inst
told_by inst operands class name entry named shape =
    let t = text_is inst operands class name entry named.is in
    let others = fields_from (listed_of operands) operands.rest inst.words in
    let found = result_of (listed_of operands) inst.words in
    record {
      clean = ap (above 10) t ∙ line_above found name others shape.small named.clean shape.clean;
      short = omega (arith, ap length t, text_short found name others (length inst.words) shape.small named.short shape.short);
      spoken = spoken_by inst operands class name entry named shape
          (subst (λ (text : List ℕ). Spoken found name others (fields_of text)) (sym t) (line_spoken found name others shape.small named.clean named.letter shape.clean));
    }

told_of : (inst : Inst) (e : Option Entry) → entry_of inst.op ≡ e → is_some (kinds_in e inst.words) ≡ true → are_words inst.words ≡ true
    → ((entry : Entry) → e ≡ Some entry → is_good_entry inst.op entry ≡ true) → Told inst
told_of inst None is k h good = cc
told_of inst (Some Skipped) is k h good = cc
told_of inst (Some Float) is k h good = cc
told_of inst (Some (Listed class operands)) is k h good =
    let g = good (Listed class operands) refl in
    let n = named_by (name_in names inst.op) inst.op refl (second_of_both (has_shape (listed_of operands)) (is_good_name inst.op (name_in names inst.op)) g) in
    told_by inst operands class n.0 is n.1
    (shaped (listed_of operands) operands.rest inst.words (first_of_both (has_shape (listed_of operands)) (is_good_name inst.op (name_in names inst.op)) g) k h)

pub told : (inst : Inst) → fits_table inst ≡ true → are_words inst.words ≡ true → Told inst
unfolding kinds entry_of
told inst k h = told_of inst (entry_of inst.op) refl k h (λ entry is. good_entry ROWS inst.op entry all_good is)
