-- Ids, types and constants are sound where constants stand for specialization constants.
use Rattle.std.proofs.Common.{◌≡◌, ℕ, zero, suc, ◌+◌, ◌<◌, ◌≤◌, ◌&&◌, ◌||◌, Bool, true, false, not, nat_lt, if◌then◌else◌, List, [], ◌∷◌, length, take, refl, ap, sym, ◌∙◌, subst, arith, Option, None, Some}
use Rattle.std.proofs.Math.Path.{fun_ext}
use Rattle.std.specs.Option.{option_map}
use Rattle.std.specs.List.{fold, find, list_any, list_all}
use Rattle.std.proofs.lemmas.Bool.Decides.{nat_tests}
use Rattle.std.proofs.lemmas.List.{take_more, get_or-take, length-take-le}
use Rattle.std.proofs.lemmas.List.Folds.{list_any-append}
use Rattle.spirv_model.specs.declared.module.Inst.{Inst}
use Rattle.spirv_model.specs.declared.module.Words.{Words}
use Rattle.spirv_model.specs.declared.op.TheConstants as op
use Rattle.spirv_model.specs.declared.table.TheConstants.{ROWS}
use Rattle.spirv_model.specs.declared.table.Entry.{Entry}
use Rattle.spirv_model.specs.declared.table.Entry.TheVariants.{Skipped, Float, Listed}
use Rattle.spirv_model.specs.Operands.{word_at, entry_of, class_in, class_of, listed_of}
use Rattle.valid_model.specs.declared.meaning.Meaning.{Meaning}
use Rattle.valid_model.specs.Definitions.{gives, inst_at, no_instruction, definition, is_earlier}
use Rattle.valid_model.specs.Knowledge.{Knowledge, means, meaning_in, nothing_known}
use Rattle.valid_model.specs.Types.{is_type, is_result_type, result_type_in, result_type, breaks_types, is_type_after, is_later_type, has_later_type}
use Rattle.valid_model.specs.Constants.{constant_fits, breaks_constants}
use Rattle.valid_model.specs.Meanings.{is_constant, known_after, known_by, known_before}
use Rattle.valid_model.specs.FirstFault.{bad_type, bad_constant}
use Rattle.typed_model.proofs.BlockParts.{another}
use Rattle.typed_model.proofs.ResultIds.{in_rows}
use Rattle.change_model.specs.Settling.{is_spec_class, is_plain_constant_class, StandsFor, same, settles, all_settled}
use Rattle.change_model.proofs.Settlings.{Settles, any_settled, find_settled, gives_same}
use Rattle.change_model.proofs.SettledMeanings.{KnowsAs, known_itself, type_same, known_settled, constant_is_no_type, allowed_type, spec_is_no_type}
use Rattle.change_model.proofs.SettledPlaces.{PlaceOf, earlier_is, gives_kept}

-- ---- what is known before a place

pub take_take : (n m : ℕ) (insts : List Inst) → n ≤ m → take n (take m insts) ≡ take n insts
take_take zero m insts less = refl
take_take (suc n) zero insts less = absurd (omega (arith, less))
take_take (suc n) (suc m) [] less = refl
take_take (suc n) (suc m) (inst ∷ insts) less = ap (λ (l : List Inst). inst ∷ l) (take_take n m insts (omega (arith, less)))

pub knows_before : (f : Inst → Inst) → Settles f → (words : Words) → (sound : (k : ℕ) → k < length words.insts → breaks_types (known_before words.insts k) (inst_at words.insts k) ≡ false)
    → (place : ℕ) → (p : PlaceOf f words.insts place) → KnowsAs (known_before (all_settled f words.insts) place) (known_before words.insts p.old)
unfolding known_by
knows_before f s words sound place p =
    let insts = words.insts in
    subst (λ (l : List Inst). KnowsAs (fold known_after nothing_known l) (fold known_after nothing_known (take p.old insts))) (sym p.front)
    (known_settled f s (take p.old insts) nothing_known nothing_known (λ id. known_itself None) (λ k within.
    let long = length-take-le p.old insts in let w = p.within in
    let less : k < p.old = omega (arith, within, long, w) in
    ap (λ (l : List Inst). breaks_types (fold known_after nothing_known l) (inst_at (take p.old insts) k)) (take_take k p.old insts (omega (arith, less)))
    ∙ ap (breaks_types (fold known_after nothing_known (take k insts))) (get_or-take p.old insts k no_instruction less)
    ∙ sound k (omega (arith, less, w))))

-- ---- types

no_constant_variable : is_plain_constant_class (class_of op.VARIABLE) ≡ false
unfolding class_of entry_of
no_constant_variable = refl

no_constant_function : is_plain_constant_class (class_of op.FUNCTION) ≡ false
unfolding class_of entry_of
no_constant_function = refl

allowed_constant : (known : Knowledge) (inst : Inst) → is_plain_constant_class (class_of inst.op) ≡ true → breaks_types known inst ≡ false
unfolding breaks_types
allowed_constant known inst is =
    rw (constant_is_no_type (class_of inst.op) is)
    (rw (another (λ o. is_plain_constant_class (class_of o)) op.VARIABLE no_constant_variable inst.op is)
    (rw (another (λ o. is_plain_constant_class (class_of o)) op.FUNCTION no_constant_function inst.op is) refl))

allowed_other : (new old : Knowledge) → KnowsAs new old → (inst : Inst) → is_type inst.op ≡ false → breaks_types new inst ≡ breaks_types old inst
unfolding breaks_types
allowed_other new old k inst isnt = rw isnt (rw (k (word_at 0 inst)).meaning (rw (k (word_at 3 inst)).meaning refl))

allowed_same : (new old : Knowledge) → KnowsAs new old → (inst : Inst) → breaks_types old inst ≡ false → is_type inst.op ≡ true → breaks_types new inst ≡ breaks_types old inst
unfolding breaks_types
allowed_same new old k inst allowed is = rw (type_same new old k inst (allowed_type old inst allowed is)) (rw is refl)

still_allowed : (new old : Knowledge) → KnowsAs new old → (inst : Inst) → breaks_types old inst ≡ false → breaks_types new inst ≡ false
still_allowed new old k inst allowed = by_test (is_type inst.op) refl
  where
    by_test : (b : Bool) → is_type inst.op ≡ b → breaks_types new inst ≡ false
    by_test true is = allowed_same new old k inst allowed is ∙ allowed
    by_test false isnt = allowed_other new old k inst isnt ∙ allowed

allowed_for : (new old : Knowledge) → KnowsAs new old → (inst for : Inst) → StandsFor inst for → breaks_types old for ≡ false → breaks_types new inst ≡ false
allowed_for new old k inst for (same is) allowed = ap (breaks_types new) is ∙ still_allowed new old k for allowed
allowed_for new old k inst for (settles spec constant type id) allowed = allowed_constant new inst constant

-- ---- types that are defined later

is_type_found : Option Inst → Bool
is_type_found None = false
is_type_found (Some inst) = is_type inst.op

pub found_at : (insts : List Inst) (id : ℕ) → find (gives id) insts ≡ option_map (inst_at insts) (definition insts id)
unfolding definition
found_at [] id = refl
found_at (inst ∷ insts) id = by_test (gives id inst) (found_at insts id)
  where
    later : (found : Option ℕ) → option_map (inst_at insts) found ≡ option_map (inst_at (inst ∷ insts)) (option_map (λ (n : ℕ). suc n) found)
    later None = refl
    later (Some at) = refl

    by_test : (b : Bool) → find (gives id) insts ≡ option_map (inst_at insts) (definition insts id)
        → (if b then Some inst else find (gives id) insts) ≡ option_map (inst_at (inst ∷ insts)) (if b then Some 0 else option_map (λ (n : ℕ). suc n) (definition insts id))
    by_test true rest = refl
    by_test false rest = rest ∙ later (definition insts id)

after_is : (insts : List Inst) (place : ℕ) (found : Option ℕ) → is_type_after insts place found ≡ (not (is_earlier found (place + 1)) && is_type_found (option_map (inst_at insts) found))
unfolding is_type_found
after_is insts place None = refl
after_is insts place (Some at) = ap (λ (b : Bool). b && is_type (inst_at insts at).op) (order place at)
  where
    order : (a b : ℕ) → nat_lt a b ≡ not (nat_lt b (a + 1))
    order a b = grind (arith, nat_tests)

type_after_is : (insts : List Inst) (place type : ℕ) → place < length insts
    → is_type_after insts place (definition insts type) ≡ (not (list_any (gives type) (take (place + 1) insts)) && is_type_found (find (gives type) insts))
type_after_is insts place type within =
    after_is insts place (definition insts type)
    ∙ ap (λ (b : Bool). not b && is_type_found (option_map (inst_at insts) (definition insts type))) (earlier_is insts type (place + 1) (omega (arith, within)))
    ∙ ap (λ (o : Option Inst). not (list_any (gives type) (take (place + 1) insts)) && is_type_found o) (sym (found_at insts type))

any_up_to : (p : Inst → Bool) (insts : List Inst) (place : ℕ) → place < length insts → list_any p (take (place + 1) insts) ≡ (list_any p (take place insts) || (p (inst_at insts place) || false))
any_up_to p insts place within = ap (list_any p) (take_more insts place no_instruction within) ∙ list_any-append p (take place insts) (inst_at insts place ∷ [])

type_of_op : (new old : Inst) → StandsFor new old → is_type new.op ≡ is_type old.op
type_of_op new old (same is) = ap (λ (i : Inst). is_type i.op) is
type_of_op new old (settles spec constant type id) = constant_is_no_type (class_of new.op) constant ∙ sym (spec_is_no_type (class_of old.op) spec)

found_type : (f : Inst → Inst) → Settles f → (found : Option Inst) → is_type_found (option_map f found) ≡ is_type_found found
unfolding is_type_found
found_type f s None = refl
found_type f s (Some inst) = type_of_op (f inst) inst (s inst)

type_after_same : (f : Inst → Inst) → Settles f → (insts : List Inst) (place : ℕ) → place < length (all_settled f insts) → (p : PlaceOf f insts place) → (type : ℕ)
    → is_type_after (all_settled f insts) place (definition (all_settled f insts) type) ≡ is_type_after insts p.old (definition insts type)
type_after_same f s insts place within p type =
    let new = all_settled f insts in
    let test = gives_kept f s type in
    let front : list_any (gives type) (take (place + 1) new) ≡ list_any (gives type) (take (p.old + 1) insts) =
    any_up_to (gives type) new place within
    ∙ ap (λ (b : Bool). b || (gives type (inst_at new place) || false)) (ap (list_any (gives type)) p.front ∙ any_settled f (gives type) (gives type) test (take p.old insts))
    ∙ ap (λ (i : Inst). list_any (gives type) (take p.old insts) || (gives type i || false)) p.inst
    ∙ ap (λ (b : Bool). list_any (gives type) (take p.old insts) || (b || false)) (gives_same type (f (inst_at insts p.old)) (inst_at insts p.old) (s (inst_at insts p.old)))
    ∙ sym (any_up_to (gives type) insts p.old p.within) in
    type_after_is new place type within
    ∙ ap (λ (b : Bool). not b && is_type_found (find (gives type) new)) front
    ∙ ap (λ (o : Option Inst). not (list_any (gives type) (take (p.old + 1) insts)) && is_type_found o) (find_settled f (gives type) (gives type) test insts)
    ∙ ap (λ (b : Bool). not (list_any (gives type) (take (p.old + 1) insts)) && b) (found_type f s (find (gives type) insts))
    ∙ sym (type_after_is insts p.old type p.within)

-- a constant and a specialization constant have a type, in their first word
abbrev implies : Bool → Bool → Bool
implies true b = b
implies false b = true

abbrev is_typed_row : ℕ → Option Entry → Bool
is_typed_row opcode (Some (Listed of operands)) = implies (is_spec_class (Some of) || is_plain_constant_class (Some of)) (is_result_type (listed_of operands))
is_typed_row opcode entry = true

all_typed : list_all (λ row. is_typed_row row.op (Some row.entry)) ROWS ≡ true
all_typed = refl

typed_row : (opcode : ℕ) → is_typed_row opcode (entry_of opcode) ≡ true
unfolding entry_of
typed_row opcode = in_rows is_typed_row (λ opcode. refl) ROWS opcode all_typed

implied : (a b : Bool) → a ≡ true → implies a b ≡ true → b ≡ true
implied true b is so = so
implied false b is so = cc

type_in_entry : (entry : Option Entry) (inst : Inst) → (is_spec_class (class_in entry) || is_plain_constant_class (class_in entry)) ≡ true → is_typed_row inst.op entry ≡ true → result_type_in entry inst ≡ Some (word_at 0 inst)
type_in_entry (Some (Listed of operands)) inst is so =
    ap (λ (b : Bool). if b then Some (word_at 0 inst) else None) (implied (is_spec_class (Some of) || is_plain_constant_class (Some of)) (is_result_type (listed_of operands)) is so)
type_in_entry (Some Skipped) inst is so = cc
type_in_entry (Some Float) inst is so = cc
type_in_entry None inst is so = cc

type_in_word : (inst : Inst) → (is_spec_class (class_of inst.op) || is_plain_constant_class (class_of inst.op)) ≡ true → result_type inst ≡ Some (word_at 0 inst)
unfolding result_type class_of
type_in_word inst is = type_in_entry (entry_of inst.op) inst is (typed_row inst.op)

or_left : (a b : Bool) → a ≡ true → (a || b) ≡ true
or_left true b is = refl
or_left false b is = cc

or_right : (a b : Bool) → b ≡ true → (a || b) ≡ true
or_right true b is = refl
or_right false b is = is

result_type_same : (new old : Inst) → StandsFor new old → result_type new ≡ result_type old
result_type_same new old (same is) = ap result_type is
result_type_same new old (settles spec constant type id) =
    type_in_word new (or_right (is_spec_class (class_of new.op)) (is_plain_constant_class (class_of new.op)) constant) ∙ ap (λ (n : ℕ). Some n) type
    ∙ sym (type_in_word old (or_left (is_spec_class (class_of old.op)) (is_plain_constant_class (class_of old.op)) spec))

later_same : (f : Inst → Inst) → Settles f → (insts : List Inst) (place : ℕ) → place < length (all_settled f insts) → (p : PlaceOf f insts place) → (type : Option ℕ)
    → is_later_type (all_settled f insts) place type ≡ is_later_type insts p.old type
later_same f s insts place within p None = refl
later_same f s insts place within p (Some type) = type_after_same f s insts place within p type

later_settled : (f : Inst → Inst) → Settles f → (insts : List Inst) (place : ℕ) → place < length (all_settled f insts) → (p : PlaceOf f insts place) → has_later_type (all_settled f insts) place ≡ has_later_type insts p.old
unfolding has_later_type
later_settled f s insts place within p =
    ap (λ (i : Inst). is_later_type (all_settled f insts) place (result_type i)) p.inst
    ∙ ap (is_later_type (all_settled f insts) place) (result_type_same (f (inst_at insts p.old)) (inst_at insts p.old) (s (inst_at insts p.old)))
    ∙ later_same f s insts place within p (result_type (inst_at insts p.old))

neither : (a b : Bool) → (a || b) ≡ false → (a ≡ false) × (b ≡ false)
neither true b is = cc
neither false b is = (refl, is)

both_false : (a b : Bool) → a ≡ false → b ≡ false → (a || b) ≡ false
both_false a b is also = rw is also

pub types_settled : (f : Inst → Inst) → Settles f → (words : Words) → ((k : ℕ) → k < length words.insts → bad_type words.insts k ≡ false)
    → (place : ℕ) → place < length (all_settled f words.insts) → (p : PlaceOf f words.insts place) → bad_type (all_settled f words.insts) place ≡ false
unfolding bad_type
types_settled f s words good place within p =
    let insts = words.insts in let new = all_settled f insts in
    let old_good = neither (breaks_types (known_before insts p.old) (inst_at insts p.old)) (has_later_type insts p.old) (good p.old p.within) in
    let k = knows_before f s words (λ k w. (neither (breaks_types (known_before insts k) (inst_at insts k)) (has_later_type insts k) (good k w)).0) place p in
    both_false (breaks_types (known_before new place) (inst_at new place)) (has_later_type new place)
    (ap (breaks_types (known_before new place)) p.inst
    ∙ allowed_for (known_before new place) (known_before insts p.old) k (f (inst_at insts p.old)) (inst_at insts p.old) (s (inst_at insts p.old)) old_good.0)
    (later_settled f s insts place within p ∙ old_good.1)

-- ---- constants

-- knowledge of meanings alone
known_meanings : (ℕ → Meaning) → Knowledge
known_meanings meaning = λ id. Some (means (meaning id))

fits_by_meanings : (known : Knowledge) (inst : Inst) → constant_fits known inst ≡ constant_fits (known_meanings (λ id. meaning_in (known id))) inst
unfolding constant_fits known_meanings
fits_by_meanings known inst = refl

pub constant_fits_same : (new old : Knowledge) → KnowsAs new old → (inst : Inst) → constant_fits new inst ≡ constant_fits old inst
constant_fits_same new old k inst =
    fits_by_meanings new inst ∙ ap (λ (m : ℕ → Meaning). constant_fits (known_meanings m) inst) (fun_ext (λ id. (k id).meaning)) ∙ sym (fits_by_meanings old inst)

pub constants_settled : (f : Inst → Inst) → Settles f → (words : Words) → ((k : ℕ) → k < length words.insts → bad_type words.insts k ≡ false)
    → (place : ℕ) → (p : PlaceOf f words.insts place) → breaks_constants (known_before words.insts p.old) (f (inst_at words.insts p.old)) ≡ false → bad_constant (all_settled f words.insts) place ≡ false
unfolding bad_constant bad_type
constants_settled f s words good place p fits =
    let insts = words.insts in let new = all_settled f insts in
    let k = knows_before f s words (λ k w. (neither (breaks_types (known_before insts k) (inst_at insts k)) (has_later_type insts k) (good k w)).0) place p in
    let y = f (inst_at insts p.old) in
    ap (breaks_constants (known_before new place)) p.inst
    ∙ ap (λ (b : Bool). is_constant y.op && not b) (constant_fits_same (known_before new place) (known_before insts p.old) k y) ∙ fits
