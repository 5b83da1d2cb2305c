-- The tables of names are those of the definition.
use Rattle.std.proofs.Common.{◌≡◌, ℕ, zero, suc, ◌+◌, ◌-◌, ◌*◌, ◌<◌, ◌≤◌, min, Bool, true, false, ◌&&◌, ◌==◌, cond, nat_lt, if◌then◌else◌, List, [], ◌∷◌, length, take, drop, slice_index, Option, None, Some, refl, subst, sym, ◌∙◌, ap, arith, rules, inl, inr}
use Rattle.std.specs.Prelude.{bytes_eq}
use Rattle.std.proofs.lemmas.Bool.{cases_lt}
use Rattle.std.proofs.lemmas.Bool.Decides.{nat_tests}
use Rattle.std.proofs.lemmas.List.{get_or_past}
use Rattle.std.proofs.lemmas.Slice.Eq.{bytes_eq-Decides}
use Rattle.std.specs.Borrow.{Bor}
use Rattle.std.specs.List.{list_all}
use borrow.Author.Tests.{eqb-true}
use Rattle.basics.proofs.Bools.{first_of_both, second_of_both}
use Rattle.listing_model.specs.Names.{names, name_in, name_of, op_in, op_named}
use Rattle.spv_text.specs.declared.names.TheConstants.{NAMES, OPS_BY_HASH, ROW_NUMBERS}
use Rattle.spv_text.specs.Names.{name_hash, name_in_row, row_in, row_name, seen_name}

-- the name of a row, from what was cut of the table
pub row_is : (number length_is : ℕ) (from row name : List ℕ) → from ≡ drop (min (24 * number - 24) (length NAMES)) NAMES
    → row ≡ take (min (length from) 24) from → length_is ≡ slice_index row 23 → name ≡ take (min (length row) length_is) row → name ≡ row_name number
unfolding row_name
row_is number length_is from row name f r l n = n ∙ ap (λ (k : ℕ). take (min (length row) k) row) l ∙ ap name_in_row (r ∙ ap row_in f)

same_bytes : (xs ys : List ℕ) → bytes_eq xs ys ≡ true → xs ≡ ys
same_bytes xs ys h = search (rules, bytes_eq-Decides)

abbrev same_name : Option (List ℕ) → Option (List ℕ) → Bool
same_name None None = true
same_name None (Some y) = false
same_name (Some x) None = false
same_name (Some x) (Some y) = bytes_eq x y

same-name : (a b : Option (List ℕ)) → same_name a b ≡ true → a ≡ b
same-name None None h = refl
same-name None (Some y) h = cc
same-name (Some x) None h = cc
same-name (Some x) (Some y) h = ap (λ (n : List ℕ). Some n) (same_bytes x y h)

-- the name by the number of its row
abbrev pub numbered_name : ℕ → Option (List ℕ)
numbered_name number = if number == 0 then None else Some (row_name number)

abbrev are_names : ℕ → List ℕ → Bool
are_names op [] = true
are_names op (number ∷ numbers) = same_name (numbered_name number) (name_of op) && are_names (suc op) numbers

name_at : (op : ℕ) (numbers : List ℕ) (i : ℕ) → are_names op numbers ≡ true → i < length numbers → numbered_name (slice_index numbers i) ≡ name_of (op + i)
name_at op [] i are within = absurd (omega arith)
name_at op (number ∷ numbers) zero are within =
    same-name (numbered_name number) (name_of op) (first_of_both _ (are_names (suc op) numbers) are) ∙ ap name_of {x = op} {y = op + 0} (omega arith)
name_at op (number ∷ numbers) (suc i) are within =
    name_at (suc op) numbers i (second_of_both (same_name (numbered_name number) (name_of op)) (are_names (suc op) numbers) are) (omega arith)
    ∙ ap name_of {x = suc op + i} {y = op + suc i} (omega arith)

all_names : are_names 0 ROW_NUMBERS ≡ true
unfolding name_of row_name
all_names = refl

abbrev is_numbered : ℕ × List ℕ → Bool
is_numbered row = nat_lt row.0 256

past_rows : (rows : List (ℕ × List ℕ)) (op : ℕ) → list_all is_numbered rows ≡ true → 256 ≤ op → name_in rows op ≡ None
past_rows [] op short past = refl
past_rows (row ∷ rows) op short past =
    grind (arith, nat_tests, first_of_both (is_numbered row) (list_all is_numbered rows) short, past_rows rows op (second_of_both (is_numbered row) (list_all is_numbered rows) short) past)

past_names : (op : ℕ) → 256 ≤ op → name_of op ≡ None
unfolding name_of
past_names op past = past_rows names op refl past

past_numbers : (op : ℕ) → 256 ≤ op → slice_index ROW_NUMBERS op ≡ 0
past_numbers op past = get_or_past ROW_NUMBERS op 0 (omega (arith, past))

-- the name of each opcode
pub names_are : (op : ℕ) → numbered_name (slice_index ROW_NUMBERS op) ≡ name_of op
names_are op = elim (cases_lt op 256) [
  | inl within ↦ name_at 0 ROW_NUMBERS op all_names within ∙ ap name_of {x = 0 + op} {y = op} (omega arith)
  | inr past ↦ ap numbered_name (past_numbers op past) ∙ sym (past_names op past)
]

numbered_some : (number : ℕ) → (number ≡ 0 → ⊥) → numbered_name number ≡ Some (row_name number)
numbered_some number h =
    let e : (number == 0) ≡ false = grind (arith, nat_tests, h) in ap (λ (b : Bool). cond b None (Some (row_name number))) e

pub no_row : (op at number : ℕ) → at ≡ op → number ≡ slice_index ROW_NUMBERS at → number ≡ 0 → None ≡ name_of op
no_row op at number is found none = ap numbered_name (sym none ∙ found ∙ ap (slice_index ROW_NUMBERS) is) ∙ names_are op

pub the_row : (op at number : ℕ) (name : List ℕ) → at ≡ op → number ≡ slice_index ROW_NUMBERS at → (number ≡ 0 → ⊥) → name ≡ row_name number → Some name ≡ name_of op
the_row op at number name is found some named =
    ap (λ (n : List ℕ). Some n) named ∙ sym (numbered_some number some) ∙ ap numbered_name (found ∙ ap (slice_index ROW_NUMBERS) is) ∙ names_are op

-- ---- the opcode by the name

abbrev is_op : Option ℕ → ℕ → Bool
is_op None op = false
is_op (Some found) op = found == op

is-op : (o : Option ℕ) (op : ℕ) → is_op o op ≡ true → o ≡ Some op
is-op None op h = cc
is-op (Some found) op h = ap (λ (n : ℕ). Some n) (eqb-true found op h)

-- the row's name leads back to its opcode, in both tables
abbrev leads_back : ℕ × List ℕ → Bool
leads_back row = is_op (op_in names row.1) row.0 && (slice_index OPS_BY_HASH (name_hash row.1) == row.0) && same_name (name_in names row.0) (Some row.1)

all_lead_back : list_all leads_back names ≡ true
unfolding name_hash
all_lead_back = refl

-- what the row of an opcode and its name says
pub record LeadsBack (op : ℕ) (name : List ℕ) : Type 0 where
  pub named : op_in names name ≡ Some op
  pub found : slice_index OPS_BY_HASH (name_hash name) ≡ op
  pub name_is : name_in names op ≡ Some name

of_row : (row : ℕ × List ℕ) → leads_back row ≡ true → LeadsBack row.0 row.1
of_row row h =
    let first = first_of_both (is_op (op_in names row.1) row.0 && (slice_index OPS_BY_HASH (name_hash row.1) == row.0)) _ h in
    record {
      named = is-op (op_in names row.1) row.0 (first_of_both (is_op (op_in names row.1) row.0) _ first);
      found = eqb-true (slice_index OPS_BY_HASH (name_hash row.1)) row.0 (second_of_both (is_op (op_in names row.1) row.0) _ first);
      name_is = same-name (name_in names row.0) (Some row.1) (second_of_both (is_op (op_in names row.1) row.0 && (slice_index OPS_BY_HASH (name_hash row.1) == row.0)) _ h);
    }

by_op : (b : Bool) (row : ℕ × List ℕ) (rest : Option (List ℕ)) (op : ℕ) (name : List ℕ) → (b ≡ true → row.0 ≡ op) → LeadsBack row.0 row.1
    → (rest ≡ Some name → LeadsBack op name) → cond b (Some row.1) rest ≡ Some name → LeadsBack op name
by_op true row rest op name same first others h =
    let n : row.1 ≡ name = cc in
    subst (λ (k : ℕ). LeadsBack k name) (same refl) (subst (λ (k : List ℕ). LeadsBack row.0 k) n first)
by_op false row rest op name same first others h = others h

by_name : (b : Bool) (row : ℕ × List ℕ) (rest : Option ℕ) (op : ℕ) (name : List ℕ) → (b ≡ true → row.1 ≡ name) → LeadsBack row.0 row.1
    → (rest ≡ Some op → LeadsBack op name) → cond b (Some row.0) rest ≡ Some op → LeadsBack op name
by_name true row rest op name same first others h =
    let n : row.0 ≡ op = cc in
    subst (λ (k : ℕ). LeadsBack k name) n (subst (λ (k : List ℕ). LeadsBack row.0 k) (same refl) first)
by_name false row rest op name same first others h = others h

of_op : (rows : List (ℕ × List ℕ)) (op : ℕ) (name : List ℕ) → list_all leads_back rows ≡ true → name_in rows op ≡ Some name → LeadsBack op name
of_op [] op name all h = cc
of_op (row ∷ rows) op name all h =
    by_op (row.0 == op) row (name_in rows op) op name (λ e. eqb-true row.0 op e) (of_row row (first_of_both (leads_back row) (list_all leads_back rows) all))
    (λ r. of_op rows op name (second_of_both (leads_back row) (list_all leads_back rows) all) r) h

of_name : (rows : List (ℕ × List ℕ)) (op : ℕ) (name : List ℕ) → list_all leads_back rows ≡ true → op_in rows name ≡ Some op → LeadsBack op name
of_name [] op name all h = cc
of_name (row ∷ rows) op name all h =
    by_name (bytes_eq row.1 name) row (op_in rows name) op name (λ e. same_bytes row.1 name e) (of_row row (first_of_both (leads_back row) (list_all leads_back rows) all))
    (λ r. of_name rows op name (second_of_both (leads_back row) (list_all leads_back rows) all) r) h

pub op_of_name : (op : ℕ) (name : List ℕ) → name_of op ≡ Some name → op_named name ≡ Some op
unfolding name_of op_named
op_of_name op name h = (of_op names op name all_lead_back h).named

pub found_by_hash : (op : ℕ) (name : List ℕ) → op_named name ≡ Some op → (slice_index OPS_BY_HASH (name_hash name) ≡ op) × (name_of op ≡ Some name)
unfolding name_of op_named
found_by_hash op name h = let l = of_name names op name all_lead_back h in (l.found, l.name_is)

absent : (o : Option ℕ) (name : List ℕ) → ((op : ℕ) → o ≡ Some op → ⊥) → None ≡ o
absent None name h = refl
absent (Some op) name h = absurd (h op refl)

-- no opcode has the name where the one that was found hasn't
pub none_named : (op : ℕ) (name : List ℕ) → op ≡ slice_index OPS_BY_HASH (name_hash name) → (name_of op ≡ Some name → ⊥) → None ≡ op_named name
none_named op name found other =
    absent (op_named name) name (λ k h. let f = found_by_hash k name h in other (ap name_of (found ∙ f.0) ∙ f.1))

-- what the search answers: the opcode, or none because its name is another one or because it has none
pub named_op : (op : ℕ) (own name : List ℕ) (b : Bool) → Some own ≡ name_of op → b ≡ bytes_eq own name → b ≡ true → Some op ≡ op_named name
named_op op own name b h e same = sym (op_of_name op name (sym h ∙ ap (λ (n : List ℕ). Some n) (same_bytes own name (sym e ∙ same))))

equal_bytes : (xs ys : List ℕ) → xs ≡ ys → bytes_eq xs ys ≡ true
equal_bytes xs ys h = search (rules, bytes_eq-Decides)

some_same : (x y : List ℕ) → ◌≡◌ {A = Option (List ℕ)} (Some x) (Some y) → x ≡ y
some_same x y h = cc

true_false : (b : Bool) → b ≡ true → b ≡ false → ⊥
true_false b t f = let e : true ≡ false = sym t ∙ f in cc

pub other_name : (op : ℕ) (own name : List ℕ) (b : Bool) → Some own ≡ name_of op → b ≡ bytes_eq own name → b ≡ false → op ≡ slice_index OPS_BY_HASH (name_hash name)
    → None ≡ op_named name
other_name op own name b h e differ found =
    none_named op name found (λ n. true_false b (e ∙ equal_bytes own name (some_same own name (h ∙ n))) differ)

none_some : (x : List ℕ) → ◌≡◌ {A = Option (List ℕ)} None (Some x) → ⊥
none_some x h = cc

pub no_name : (op : ℕ) (name : List ℕ) (seen : Option (Bor (List ℕ))) → seen_name seen ≡ name_of op → seen ≡ None → op ≡ slice_index OPS_BY_HASH (name_hash name)
    → None ≡ op_named name
no_name op name seen h none found = none_named op name found (λ n. none_some name (sym (ap (λ (s : Option (Bor (List ℕ))). seen_name s) none) ∙ h ∙ n))
