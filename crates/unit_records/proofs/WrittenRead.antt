-- What was written of a module is read again.
use Rattle.std.proofs.Common.{◌≡◌, ℕ, suc, ◌+◌, ◌*◌, ◌/◌, ◌%◌, ◌<◌, ◌≤◌, ◌==◌, ◌&&◌, Bool, true, false, cond, not, nat_lt, nat_le, List, [], ◌∷◌, ◌++◌, length, take, drop, Option, None, Some, Ok, Err, refl, ap, ◌∙◌, subst, arith, length-append}
use Rattle.std.specs.Prelude.{is_some, is_none}
use Rattle.std.specs.List.{flat_map, list_all}
use Rattle.std.proofs.Math.Seq.{take-append_seam, drop-append_seam}
use Rattle.std.proofs.lemmas.Bool.Decides.{nat_tests}
use Rattle.basics.proofs.Bools.{first_of_both, second_of_both}
use Rattle.limits.specs.declared.TheConstants.{MODULE_WORDS, MAX_BOUND}
use Rattle.spirv_model.specs.declared.module.Inst.{Inst}
use Rattle.spirv_model.specs.declared.module.Words.{Words}
use Rattle.spirv_model.specs.declared.module.WordsFault.{WordsFault}
use Rattle.spirv_model.specs.declared.module.WordsFault.TheVariants.{BadHeader, UnknownOp, BadShape, FloatType}
use Rattle.spirv_model.specs.declared.module.TheConstants.{HEADER_WORDS}
use Rattle.spirv_model.specs.declared.table.Entry.{Entry}
use Rattle.spirv_model.specs.declared.table.Entry.TheVariants.{Skipped, Float, Listed}
use Rattle.spirv_model.specs.declared.table.Operand.{Operand}
use Rattle.spirv_model.specs.declared.table.Row.{Row}
use Rattle.spirv_model.specs.declared.table.TheConstants.{ROWS}
use Rattle.spirv_model.specs.Operands.{entry_in, entry_of, kinds_in, kinds}
use Rattle.spirv_model.specs.Module.{Cut, cut, first_word, fault_at, first_fault, fits_table, floats, lists, skips, has_header, is_skipped, list_of_cut, listed, module_of, module_words, with_bound, words_of as inst_words, IsWritable}
use Rattle.spv_words.proofs.WordCuts.{cut-whole, answer as list_by}
use Rattle.check_model.specs.Validity.{IsValid, IsValidList}
use Rattle.unit_model.specs.Fits.{words_of}

-- ---- instructions that fit the table

-- the rows' opcodes have 16 bits
is_narrow : Row → Bool
is_narrow row = nat_lt row.op 65536

are_narrow : list_all is_narrow ROWS ≡ true
unfolding is_narrow
are_narrow = refl

narrow_row : (row : Row) → is_narrow row ≡ true → row.op < 65536
unfolding is_narrow
narrow_row row is = grind (arith, nat_tests)

same_op : (a b : ℕ) → a == b ≡ true → a ≡ b
same_op a b is = grind (arith, nat_tests)

narrow_in : (rows : List Row) (opcode : ℕ) (entry : Entry) → list_all is_narrow rows ≡ true → entry_in rows opcode ≡ Some entry → opcode < 65536
narrow_in [] opcode entry all is = cc
narrow_in (row ∷ rows) opcode entry all is =
    by_test (row.op == opcode) refl is (λ rest. narrow_in rows opcode entry (second_of_both (is_narrow row) (list_all is_narrow rows) all) rest)
  where
    by_test : (b : Bool) → (row.op == opcode) ≡ b → cond b (Some row.entry) (entry_in rows opcode) ≡ Some entry → (entry_in rows opcode ≡ Some entry → opcode < 65536) → opcode < 65536
    by_test true is found more = subst (λ (n : ℕ). n < 65536) (same_op row.op opcode is) (narrow_row row (first_of_both (is_narrow row) (list_all is_narrow rows) all))
    by_test false isnt found more = more found

-- an instruction that fits the table: its opcode is listed
record Fits (inst : Inst) : Type 0 where
  narrow : inst.op < 65536
  kept : is_skipped inst ≡ false
  sound : (place : ℕ) → fault_at place inst ≡ None

known : (opcode : ℕ) (entry : Entry) → entry_of opcode ≡ Some entry → opcode < 65536
unfolding entry_of
known opcode entry is = narrow_in ROWS opcode entry are_narrow is

no_shape : (place : ℕ) (found : Option (List Operand)) → is_some found ≡ true → cond (is_none found) (Some (BadShape place)) None ≡ None
no_shape place None is = cc
no_shape place (Some kinds) is = refl

fits : (inst : Inst) → fits_table inst ≡ true → Fits inst
unfolding kinds
fits inst is = by_entry (entry_of inst.op) refl is
  where
    by_entry : (entry : Option Entry) → entry_of inst.op ≡ entry → is_some (kinds_in entry inst.words) ≡ true → Fits inst
    by_entry None at is = cc
    by_entry (Some Skipped) at is = cc
    by_entry (Some Float) at is = cc
    by_entry (Some (Listed class operands)) at is = record {
      narrow = known inst.op (Listed class operands) at;
      kept = ap skips at;
      sound = λ place.
          ap (λ (e : Option Entry). cond (is_none e) (Some (UnknownOp inst.op)) (cond (lists e && is_none (kinds_in e inst.words)) (Some (BadShape place)) (cond (floats e) (Some FloatType) None))) at
          ∙ no_shape place (kinds_in (Some (Listed class operands)) inst.words) is;
    }

-- ---- lists of instructions that fit the table

first_fits : (inst : Inst) (insts : List Inst) → list_all fits_table (inst ∷ insts) ≡ true → Fits inst
first_fits inst insts all = fits inst (first_of_both (fits_table inst) (list_all fits_table insts) all)

others_fit : (inst : Inst) (insts : List Inst) → list_all fits_table (inst ∷ insts) ≡ true → list_all fits_table insts ≡ true
others_fit inst insts all = second_of_both (fits_table inst) (list_all fits_table insts) all

none_faulty : (insts : List Inst) → list_all fits_table insts ≡ true → (place : ℕ) → first_fault place insts ≡ None
none_faulty [] all place = refl
none_faulty (inst ∷ insts) all place =
    let next : ℕ = cond (is_skipped inst) place (place + 1) in
    ap (λ (o : Option WordsFault). elim o [ None ↦ first_fault next insts | Some fault ↦ Some fault ]) ((first_fits inst insts all).sound place)
    ∙ none_faulty insts (others_fit inst insts all) next

all_listed : (insts : List Inst) → list_all fits_table insts ≡ true → listed insts ≡ insts
all_listed [] all = refl
all_listed (inst ∷ insts) all =
    ap (λ (b : Bool). cond (not b) (inst ∷ listed insts) (listed insts)) (first_fits inst insts all).kept
    ∙ ap (λ (l : List Inst). inst ∷ l) (all_listed insts (others_fit inst insts all))

word_count : (n opcode : ℕ) → opcode < 65536 → ((n + 1) * 65536 + opcode) / 65536 ≡ suc n
word_count n opcode narrow = omega arith

word_op : (n opcode : ℕ) → opcode < 65536 → ((n + 1) * 65536 + opcode) % 65536 ≡ opcode
word_op n opcode narrow = omega arith

abbrev whole : List Inst → Cut
whole insts = record { insts = insts; broken = None }

cut_again : (insts : List Inst) → list_all fits_table insts ≡ true → cut (flat_map inst_words insts) ≡ whole insts
cut_again [] all = refl
cut_again (inst ∷ insts) all =
    let more = flat_map inst_words insts in
    let narrow = (first_fits inst insts all).narrow in
    let behind : cut (drop (length inst.words) (inst.words ++ more)) ≡ whole insts = ap cut (drop-append_seam inst.words more) ∙ cut_again insts (others_fit inst insts all) in
    cut-whole (first_word inst) (length inst.words) (inst.words ++ more) (word_count (length inst.words) inst.op narrow) (omega (arith, length-append {A = ℕ}))
    ∙ ap (λ (c : Cut). record { insts = record { op = first_word inst % 65536; words = take (length inst.words) (inst.words ++ more) } ∷ c.insts; broken = c.broken }) behind
    ∙ ap (λ (ws : List ℕ). whole (record { op = first_word inst % 65536; words = ws } ∷ insts)) (take-append_seam inst.words more)
    ∙ ap (λ (opcode : ℕ). whole (record { op = opcode; words = inst.words } ∷ insts)) (word_op (length inst.words) inst.op narrow)

list_again : (insts : List Inst) → list_all fits_table insts ≡ true → list_of_cut 0 (cut (flat_map inst_words insts)) ≡ Ok insts
unfolding list_of_cut
list_again insts all =
    ap (λ (c : Cut). list_by (first_fault 0 c.insts) c.broken (listed c.insts)) (cut_again insts all)
    ∙ ap (λ (o : Option WordsFault). list_by o None (listed insts)) (none_faulty insts all 0)
    ∙ ap (λ (l : List Inst). Ok l) (all_listed insts all)

-- ---- modules

all_seven : {a b c d e f g : Bool} → a ≡ true → b ≡ true → c ≡ true → d ≡ true → e ≡ true → f ≡ true → g ≡ true
    → (a && b && c && d && e && f && g) ≡ (true && true && true && true && true && true && true)
all_seven p q r s t u v = cc

at_most : (a b : ℕ) → a ≤ b → nat_le a b ≡ true
at_most a b is = grind (arith, nat_tests)

is_less : (a b : ℕ) → a < b → nat_lt a b ≡ true
is_less a b is = grind (arith, nat_tests)

header_there : (words : Words) → IsWritable words → has_header (module_words words.insts words.bound) ≡ true
header_there words w =
    let few = w.few in let least = w.bound_least in
    all_seven (at_most HEADER_WORDS (length (module_words words.insts words.bound)) (omega arith)) (at_most (length (module_words words.insts words.bound)) MODULE_WORDS w.few)
    refl refl (is_less 0 words.bound (omega (arith, least))) (at_most words.bound MAX_BOUND w.bound_most) refl

-- the words that are written of a module are that module
pub written_read : (words : Words) → IsWritable words → module_of (module_words words.insts words.bound) ≡ Ok words
written_read words w =
    ap (λ (has : Bool). cond has (with_bound words.bound (list_of_cut 0 (cut (flat_map inst_words words.insts)))) (Err BadHeader)) (header_there words w)
    ∙ ap (with_bound words.bound) (list_again words.insts w.fit)

-- they are valid again
pub written_valid : (own : Words) → IsValidList own → IsValid (words_of own) own
written_valid own v = record { reads = written_read own v.writable; valid = v }
