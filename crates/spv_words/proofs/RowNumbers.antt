-- The numbers of rows by opcode are those of the table.
use Rattle.std.proofs.Common.{◌≡◌, ℕ, zero, suc, ◌+◌, ◌-◌, ◌<◌, ◌≤◌, Bool, true, false, ◌&&◌, ◌==◌, nat_lt, if◌then◌else◌, List, [], ◌∷◌, length, get_or, slice_get, slice_index, Option, None, Some, refl, sym, ◌∙◌, ap, arith, ⊎_elim}
use Rattle.std.proofs.lemmas.Bool.{cases_lt}
use Rattle.std.proofs.lemmas.Option.{slice_get-get_or}
use Rattle.std.proofs.lemmas.List.{get_or_past}
use Rattle.std.proofs.lemmas.Bool.Decides.{nat_tests}
use Rattle.std.specs.List.{list_all}
use Rattle.std.specs.Option.{option_map}
use Rattle.basics.proofs.Bools.{first_of_both, second_of_both}
use Rattle.spirv_model.specs.declared.table.Entry.{Entry}
use Rattle.spirv_model.specs.declared.table.Row.{Row}
use Rattle.spirv_model.specs.declared.table.TheConstants.{ROWS}
use Rattle.spirv_model.specs.Operands.{entry_in, entry_of}
use Rattle.spv_words.specs.declared.table.TheConstants.{ROW_NUMBERS}
use Rattle.spv_words.specs.Tables.{row_number, one_more}

-- ---- the entry by the number

abbrev entry_at : List Row → ℕ → Option Entry
entry_at rows zero = None
entry_at rows (suc place) = option_map (λ (row : Row). row.entry) (slice_get rows place)

one_on : (row : Row) (rows : List Row) (number : ℕ) → entry_at (row ∷ rows) (one_more number) ≡ entry_at rows number
one_on row rows zero = refl
one_on row rows (suc place) = refl

front : (b : Bool) (row : Row) (rows : List Row) (op : ℕ) → entry_in rows op ≡ entry_at rows (row_number rows op)
    → (if b then Some row.entry else entry_in rows op) ≡ entry_at (row ∷ rows) (if b then 1 else one_more (row_number rows op))
front true row rows op h = refl
front false row rows op h = h ∙ sym (one_on row rows (row_number rows op))

by_number : (rows : List Row) (op : ℕ) → entry_in rows op ≡ entry_at rows (row_number rows op)
unfolding row_number
by_number [] op = refl
by_number (row ∷ rows) op = front (row.op == op) row rows op (by_number rows op)

-- ---- the numbers

-- these are the numbers of the opcodes from one on
abbrev are_numbers : List Row → ℕ → List ℕ → Bool
are_numbers rows op [] = true
are_numbers rows op (number ∷ numbers) = (row_number rows op == number) && are_numbers rows (suc op) numbers

number_at : (rows : List Row) (op : ℕ) (numbers : List ℕ) (i : ℕ) → are_numbers rows op numbers ≡ true → i < length numbers → slice_index numbers i ≡ row_number rows (op + i)
number_at rows op [] i are within = absurd (omega arith)
number_at rows op (number ∷ numbers) zero are within =
    grind (arith, nat_tests, first_of_both (row_number rows op == number) (are_numbers rows (suc op) numbers) are)
number_at rows op (number ∷ numbers) (suc i) are within =
    number_at rows (suc op) numbers i (second_of_both (row_number rows op == number) (are_numbers rows (suc op) numbers) are) (omega arith)
    ∙ ap (row_number rows) {x = suc op + i} {y = op + suc i} (omega arith)

abbrev is_numbered : Row → Bool
is_numbered row = nat_lt row.op 331

-- an opcode past all rows has none
past_rows : (rows : List Row) (op : ℕ) → list_all is_numbered rows ≡ true → 331 ≤ op → row_number rows op ≡ 0
unfolding row_number
past_rows [] op short past = refl
past_rows (row ∷ rows) op short past =
    grind (arith, nat_tests, first_of_both (is_numbered row) (list_all is_numbered rows) short, past_rows rows op (second_of_both (is_numbered row) (list_all is_numbered rows) short) past)

numbers-computed : are_numbers ROWS 0 ROW_NUMBERS ≡ true
unfolding row_number
numbers-computed = refl

few_more : (b : Bool) (number limit : ℕ) → number ≤ limit → (if b then 1 else one_more number) ≤ suc limit
few_more true number limit few = omega arith
few_more false zero limit few = omega arith
few_more false (suc number) limit few = omega (arith, few)

pub number_past : (op : ℕ) → 331 ≤ op → row_number ROWS op ≡ 0
number_past op past = past_rows ROWS op refl past

pub numbers_are : (op : ℕ) → slice_index ROW_NUMBERS op ≡ row_number ROWS op
numbers_are op =
    ⊎_elim (λ within. number_at ROWS 0 ROW_NUMBERS op numbers-computed within ∙ ap (row_number ROWS) {x = 0 + op} {y = op} (omega arith))
    (λ past. get_or_past ROW_NUMBERS op 0 past ∙ sym (number_past op past)) (cases_lt op 331)

pub entry_by_number : (op number : ℕ) → number ≡ row_number ROWS op → entry_of op ≡ entry_at ROWS number
unfolding entry_of
entry_by_number op number is = by_number ROWS op ∙ ap (entry_at ROWS) (sym is)

few_numbers : (rows : List Row) (op : ℕ) → row_number rows op ≤ length rows
unfolding row_number
few_numbers [] op = omega arith
few_numbers (row ∷ rows) op = few_more (row.op == op) (row_number rows op) (length rows) (few_numbers rows op)

pub row_within : (op number : ℕ) → number ≡ row_number ROWS op → number ≤ 91
row_within op number is = omega (arith, is, few_numbers ROWS op)

pub entry_by_row : (op number : ℕ) (d : Row) → number ≡ row_number ROWS op → (number ≡ 0 → ⊥) → Some (get_or ROWS (number - 1) d).entry ≡ entry_of op
entry_by_row op zero d is isnt = absurd (isnt refl)
entry_by_row op (suc place) d is isnt =
    ap (λ (n : ℕ). Some (get_or ROWS n d).entry) {x = suc place - 1} {y = place} (omega arith)
    ∙ ap (option_map (λ (row : Row). row.entry)) (sym (slice_get-get_or ROWS place d (omega (arith, row_within op (suc place) is))))
    ∙ sym (entry_by_number op (suc place) is)
