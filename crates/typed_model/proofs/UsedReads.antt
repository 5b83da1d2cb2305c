-- Phis aside, what an instruction reads is among what it uses, and has a type: so where its uses are visible, it reads values that suit.
use Rattle.std.proofs.Common.{◌≡◌, ℕ, ◌==◌, Bool, true, false, if◌then◌else◌, List, [], ◌∷◌, map, drop, slice_index, refl, ap, sym, subst, Option, None, Some, is_some}
use Rattle.std.specs.List.{list_all}
use Rattle.std.specs.Option.{option_map}
use Rattle.spirv_model.specs.declared.module.Inst.{Inst}
use Rattle.spirv_model.specs.declared.class.Class.{Class}
use Rattle.spirv_model.specs.declared.class.Class.TheVariants as class
use Rattle.spirv_model.specs.declared.class.ScalarClass.{ScalarClass}
use Rattle.spirv_model.specs.declared.op.TheConstants as op
use Rattle.spirv_model.specs.declared.table.TheConstants.{ROWS}
use Rattle.spirv_model.specs.declared.table.Entry.{Entry}
use Rattle.spirv_model.specs.declared.table.Entry.TheVariants.{Skipped, Float, Listed}
use Rattle.spirv_model.specs.declared.table.Operand.{Operand}
use Rattle.spirv_model.specs.declared.table.Operand.TheVariants.{IdResultType, IdResult, IdRef}
use Rattle.spirv_model.specs.declared.table.Rest.{Rest}
use Rattle.spirv_model.specs.declared.table.Rest.TheVariants.{Nothing}
use Rattle.spirv_model.specs.Operands.{entry_of, class_in, class_of, kinds, kinds_in, kinds_from, listed_of}
use Rattle.valid_model.specs.Knowledge.{is_bool, is_integer}
use Rattle.check_model.specs.Typing.{Typing, type_of}
use Rattle.check_model.specs.ScalarOperands.{scalar_operands_fit}
use Rattle.check_model.specs.CompositeOperands.{composite_operands_fit}
use Rattle.check_model.specs.MemoryOperands.{memory_operands_fit}
use Rattle.check_model.specs.Visibility.{uses_operands, used_among, used_by, used_ids}
use Rattle.stage_model.specs.Effect.{read_ids}
use Rattle.typed_model.proofs.ResultIds.{in_rows}
use Rattle.typed_model.proofs.EffectsRun.{instruction}
use Rattle.typed_model.proofs.PlainRuns.{at_op, scalar_reads}
use Rattle.typed_model.proofs.ReadTypes.{Each, IsTyped, AreNumbersTyped, load_typed, store_typed, chain_typed, parts_typed, extract_typed, insert_typed, shuffle_typed, reduction_typed, scalar_reads_typed, condition_typed, selector_typed}

-- an id that an instruction reads has the property of all that it uses, and a type
pub record IsRead (P : ℕ → Type 0) (typing : Typing) (id : ℕ) : Type 0 where
  pub used : P id
  pub typed : IsTyped typing id

-- where all that it uses have the property, what it reads has it, and has types
abbrev pub ReadsUses : (ℕ → Type 0) → Typing → ℕ → Bool → Inst → Type 0
ReadsUses P typing before fits inst = is_some (kinds inst) ≡ true → fits ≡ true → Each P (used_ids inst) → Each (IsRead P typing) (read_ids inst.op before inst.words)

each_read : (P : ℕ → Type 0) (typing : Typing) (ids : List ℕ) → Each P ids → Each (IsTyped typing) ids → Each (IsRead P typing) ids
each_read P typing [] used typed = tt
each_read P typing (id ∷ ids) used typed = (record { used = used.0; typed = typed.0 }, each_read P typing ids used.1 typed.1)

all_used : (P : ℕ → Type 0) (ids : List ℕ) → Each P (used_among (map (λ _. IdRef) ids) ids) → Each P ids
all_used P [] used = tt
all_used P (id ∷ ids) used = (used.0, all_used P ids used.1)

-- ---- memory

load_reads : (P : ℕ → Type 0) (typing : Typing) (before : ℕ) (words : List ℕ) → ReadsUses P typing before (memory_operands_fit typing (instruction op.LOAD words)) (instruction op.LOAD words)
unfolding kinds class_of entry_of memory_operands_fit read_ids used_ids
load_reads P typing before (type ∷ id ∷ pointer ∷ []) has fit used = (record { used = used.1.0; typed = load_typed typing type pointer fit }, tt)
load_reads P typing before (type ∷ id ∷ pointer ∷ more ∷ words) has fit used = cc
load_reads P typing before (type ∷ id ∷ []) has fit used = cc
load_reads P typing before (type ∷ []) has fit used = cc
load_reads P typing before [] has fit used = cc

store_reads : (P : ℕ → Type 0) (typing : Typing) (before : ℕ) (words : List ℕ) → ReadsUses P typing before (memory_operands_fit typing (instruction op.STORE words)) (instruction op.STORE words)
unfolding kinds class_of entry_of memory_operands_fit read_ids used_ids
store_reads P typing before (pointer ∷ object ∷ []) has fit used =
    let t = store_typed typing pointer object fit in (record { used = used.0; typed = t.0 }, (record { used = used.1.0; typed = t.1 }, tt))
store_reads P typing before (pointer ∷ object ∷ more ∷ words) has fit used = cc
store_reads P typing before (pointer ∷ []) has fit used = cc
store_reads P typing before [] has fit used = cc

chain_reads : (P : ℕ → Type 0) (typing : Typing) → AreNumbersTyped typing → (before : ℕ) (words : List ℕ) → ReadsUses P typing before (memory_operands_fit typing (instruction op.ACCESS_CHAIN words)) (instruction op.ACCESS_CHAIN words)
unfolding kinds class_of entry_of memory_operands_fit read_ids used_ids
chain_reads P typing numbers before (type ∷ id ∷ base ∷ index ∷ indices) has fit used =
    each_read P typing (base ∷ index ∷ indices) (used.1.0, (used.1.1.0, all_used P indices used.1.1.1)) (chain_typed typing numbers type base (index ∷ indices) fit)
chain_reads P typing numbers before (type ∷ id ∷ base ∷ []) has fit used = cc
chain_reads P typing numbers before (type ∷ id ∷ []) has fit used = cc
chain_reads P typing numbers before (type ∷ []) has fit used = cc
chain_reads P typing numbers before [] has fit used = cc

-- ---- composites

construct_reads : (P : ℕ → Type 0) (typing : Typing) (before : ℕ) (words : List ℕ) → ReadsUses P typing before (composite_operands_fit typing (instruction op.COMPOSITE_CONSTRUCT words)) (instruction op.COMPOSITE_CONSTRUCT words)
unfolding kinds class_of entry_of composite_operands_fit read_ids used_ids
construct_reads P typing before (type ∷ id ∷ parts) has fit used = each_read P typing parts (all_used P parts used.1) (parts_typed typing (typing.meaning type) parts fit)
construct_reads P typing before (type ∷ []) has fit used = cc
construct_reads P typing before [] has fit used = cc

extract_reads : (P : ℕ → Type 0) (typing : Typing) (before : ℕ) (words : List ℕ) → ReadsUses P typing before (composite_operands_fit typing (instruction op.COMPOSITE_EXTRACT words)) (instruction op.COMPOSITE_EXTRACT words)
unfolding kinds class_of entry_of composite_operands_fit read_ids used_ids
extract_reads P typing before (type ∷ id ∷ composite ∷ index ∷ indices) has fit used = (record { used = used.1.0; typed = extract_typed typing type composite (index ∷ indices) fit }, tt)
extract_reads P typing before (type ∷ id ∷ composite ∷ []) has fit used = cc
extract_reads P typing before (type ∷ id ∷ []) has fit used = cc
extract_reads P typing before (type ∷ []) has fit used = cc
extract_reads P typing before [] has fit used = cc

insert_reads : (P : ℕ → Type 0) (typing : Typing) (before : ℕ) (words : List ℕ) → ReadsUses P typing before (composite_operands_fit typing (instruction op.COMPOSITE_INSERT words)) (instruction op.COMPOSITE_INSERT words)
unfolding kinds class_of entry_of composite_operands_fit read_ids used_ids
insert_reads P typing before (type ∷ id ∷ object ∷ composite ∷ []) has fit used = cc
insert_reads P typing before (type ∷ id ∷ object ∷ composite ∷ index ∷ indices) has fit used =
    let t = insert_typed typing type object composite (index ∷ indices) fit in (record { used = used.1.0; typed = t.0 }, (record { used = used.1.1.0; typed = t.1 }, tt))
insert_reads P typing before (type ∷ id ∷ object ∷ []) has fit used = cc
insert_reads P typing before (type ∷ id ∷ []) has fit used = cc
insert_reads P typing before (type ∷ []) has fit used = cc
insert_reads P typing before [] has fit used = cc

shuffle_reads : (P : ℕ → Type 0) (typing : Typing) (before : ℕ) (words : List ℕ) → ReadsUses P typing before (composite_operands_fit typing (instruction op.VECTOR_SHUFFLE words)) (instruction op.VECTOR_SHUFFLE words)
unfolding kinds class_of entry_of composite_operands_fit read_ids used_ids
shuffle_reads P typing before (type ∷ id ∷ a ∷ b ∷ literals) has fit used =
    let t = shuffle_typed typing type a b literals fit in (record { used = used.1.0; typed = t.0 }, (record { used = used.1.1.0; typed = t.1 }, tt))
shuffle_reads P typing before (type ∷ id ∷ a ∷ []) has fit used = cc
shuffle_reads P typing before (type ∷ id ∷ []) has fit used = cc
shuffle_reads P typing before (type ∷ []) has fit used = cc
shuffle_reads P typing before [] has fit used = cc

any_reads : (P : ℕ → Type 0) (typing : Typing) (before : ℕ) (words : List ℕ) → ReadsUses P typing before (composite_operands_fit typing (instruction op.ANY words)) (instruction op.ANY words)
unfolding kinds class_of entry_of composite_operands_fit read_ids used_ids
any_reads P typing before (type ∷ id ∷ vector ∷ []) has fit used = (record { used = used.1.0; typed = reduction_typed typing type vector fit }, tt)
any_reads P typing before (type ∷ id ∷ vector ∷ more ∷ words) has fit used = cc
any_reads P typing before (type ∷ id ∷ []) has fit used = cc
any_reads P typing before (type ∷ []) has fit used = cc
any_reads P typing before [] has fit used = cc

all_reads : (P : ℕ → Type 0) (typing : Typing) (before : ℕ) (words : List ℕ) → ReadsUses P typing before (composite_operands_fit typing (instruction op.ALL words)) (instruction op.ALL words)
unfolding kinds class_of entry_of composite_operands_fit read_ids used_ids
all_reads P typing before (type ∷ id ∷ vector ∷ []) has fit used = (record { used = used.1.0; typed = reduction_typed typing type vector fit }, tt)
all_reads P typing before (type ∷ id ∷ vector ∷ more ∷ words) has fit used = cc
all_reads P typing before (type ∷ id ∷ []) has fit used = cc
all_reads P typing before (type ∷ []) has fit used = cc
all_reads P typing before [] has fit used = cc

-- ---- by the opcode

by_test : {Q : Type 0} (b x y : Bool) → (if b then x else y) ≡ true → (b ≡ true → Q) → (y ≡ true → Q) → Q
by_test true x y is here there = here refl
by_test false x y is here there = there is

pub memory_reads : (P : ℕ → Type 0) (typing : Typing) → AreNumbersTyped typing → (before : ℕ) (inst : Inst) → ReadsUses P typing before (memory_operands_fit typing inst) inst
unfolding memory_operands_fit
memory_reads P typing numbers before inst has fit used =
    let R : Inst → Type 0 = λ inst. ReadsUses P typing before (memory_operands_fit typing inst) inst in
    by_test (inst.op == op.LOAD) _ _ fit (λ is. at_op R inst op.LOAD is (load_reads P typing before inst.words) has fit used)
    (λ rest. by_test (inst.op == op.STORE) _ _ rest (λ is. at_op R inst op.STORE is (store_reads P typing before inst.words) has fit used)
    (λ rest. by_test (inst.op == op.ACCESS_CHAIN) _ _ rest (λ is. at_op R inst op.ACCESS_CHAIN is (chain_reads P typing numbers before inst.words) has fit used) (λ never. cc)))

pub composite_reads : (P : ℕ → Type 0) (typing : Typing) (before : ℕ) (inst : Inst) → ReadsUses P typing before (composite_operands_fit typing inst) inst
unfolding composite_operands_fit
composite_reads P typing before inst has fit used =
    let R : Inst → Type 0 = λ inst. ReadsUses P typing before (composite_operands_fit typing inst) inst in
    by_test (inst.op == op.COMPOSITE_CONSTRUCT) _ _ fit (λ is. at_op R inst op.COMPOSITE_CONSTRUCT is (construct_reads P typing before inst.words) has fit used)
    (λ rest. by_test (inst.op == op.COMPOSITE_EXTRACT) _ _ rest (λ is. at_op R inst op.COMPOSITE_EXTRACT is (extract_reads P typing before inst.words) has fit used)
    (λ rest. by_test (inst.op == op.COMPOSITE_INSERT) _ _ rest (λ is. at_op R inst op.COMPOSITE_INSERT is (insert_reads P typing before inst.words) has fit used)
    (λ rest. by_test (inst.op == op.VECTOR_SHUFFLE) _ _ rest (λ is. at_op R inst op.VECTOR_SHUFFLE is (shuffle_reads P typing before inst.words) has fit used)
    (λ rest. by_test (inst.op == op.ANY) _ _ rest (λ is. at_op R inst op.ANY is (any_reads P typing before inst.words) has fit used)
    (λ rest. by_test (inst.op == op.ALL) _ _ rest (λ is. at_op R inst op.ALL is (all_reads P typing before inst.words) has fit used) (λ never. cc))))))

-- ---- scalar operations

-- an operand that is an id, or none
abbrev is_value : Option Operand → Bool
is_value None = true
is_value (Some IdRef) = true
is_value operand = false

-- a result with a type, and ids
abbrev are_values : List (Option Operand) → Rest → Bool
are_values (Some IdResultType ∷ Some IdResult ∷ more) Nothing = list_all is_value more
are_values listed rest = false

abbrev has_values : Class → List (Option Operand) → Rest → Bool
has_values (class.Scalar operation) listed rest = are_values listed rest
has_values of listed rest = true

abbrev has_values_entry : ℕ → Option Entry → Bool
has_values_entry opcode (Some (Listed of operands)) = has_values of (listed_of operands) operands.rest
has_values_entry opcode entry = true

all_have_values : list_all (λ row. has_values_entry row.op (Some row.entry)) ROWS ≡ true
all_have_values = refl

values_of : (opcode : ℕ) → has_values_entry opcode (entry_of opcode) ≡ true
unfolding entry_of
values_of opcode = in_rows has_values_entry (λ opcode. refl) ROWS opcode all_have_values

more_used : (P : ℕ → Type 0) (listed : List (Option Operand)) (words : List ℕ) → list_all is_value listed ≡ true → is_some (kinds_from listed Nothing words) ≡ true → Each P (used_by (kinds_from listed Nothing words) words) → Each P words
more_used P [] [] all has used = tt
more_used P [] (word ∷ words) all has used = cc
more_used P (None ∷ listed) [] all has used = tt
more_used P (None ∷ listed) (word ∷ words) all has used = cc
more_used P (Some IdRef ∷ listed) [] all has used = cc
more_used P (Some IdRef ∷ listed) (word ∷ words) all has used =
    let f = front P word words (kinds_from listed Nothing words) has used in (f.0, more_used P listed words all f.1 f.2)
  where
    front : (P : ℕ → Type 0) (word : ℕ) (words : List ℕ) (found : Option (List Operand)) → is_some (option_map (λ kinds. IdRef ∷ kinds) found) ≡ true → Each P (used_by (option_map (λ kinds. IdRef ∷ kinds) found) (word ∷ words))
        → P word × (is_some found ≡ true) × Each P (used_by found words)
    front P word words None has used = cc
    front P word words (Some kinds) has used = (used.0, refl, used.1)
more_used P (Some other ∷ listed) words all has used = cc

values_used : (P : ℕ → Type 0) (listed : List (Option Operand)) (rest : Rest) (words : List ℕ) → are_values listed rest ≡ true → is_some (kinds_from listed rest words) ≡ true → Each P (used_by (kinds_from listed rest words) words) → Each P (drop 2 words)
values_used P (Some IdResultType ∷ Some IdResult ∷ more) Nothing (type ∷ id ∷ words) all has used =
    let f = front P type id words (kinds_from more Nothing words) has used in more_used P more words all f.0 f.1
  where
    front : (P : ℕ → Type 0) (type id : ℕ) (words : List ℕ) (found : Option (List Operand)) → is_some (option_map (λ kinds. IdResultType ∷ kinds) (option_map (λ kinds. IdResult ∷ kinds) found)) ≡ true
        → Each P (used_by (option_map (λ kinds. IdResultType ∷ kinds) (option_map (λ kinds. IdResult ∷ kinds) found)) (type ∷ id ∷ words)) → (is_some found ≡ true) × Each P (used_by found words)
    front P type id words None has used = cc
    front P type id words (Some kinds) has used = (refl, used.1)
values_used P (Some IdResultType ∷ Some IdResult ∷ more) Nothing (type ∷ []) all has used = cc
values_used P (Some IdResultType ∷ Some IdResult ∷ more) Nothing [] all has used = cc
values_used P listed rest words all has used = cc

by_entry : (P : ℕ → Type 0) (entry : Option Entry) (opcode : ℕ) (words : List ℕ) (operation : ScalarClass) → class_in entry ≡ Some (class.Scalar operation) → has_values_entry opcode entry ≡ true → is_some (kinds_in entry words) ≡ true
    → Each P (used_by (kinds_in entry words) words) → Each P (drop 2 words)
by_entry P (Some (Listed (class.Scalar own) operands)) opcode words operation is all has used = values_used P (listed_of operands) operands.rest words all has used
by_entry P (Some (Listed of operands)) opcode words operation is all has used = cc
by_entry P (Some Skipped) opcode words operation is all has used = cc
by_entry P (Some Float) opcode words operation is all has used = cc
by_entry P None opcode words operation is all has used = cc

scalar_used : (P : ℕ → Type 0) (inst : Inst) (operation : ScalarClass) → class_of inst.op ≡ Some (class.Scalar operation) → is_some (kinds inst) ≡ true → Each P (used_by (kinds inst) inst.words) → Each P (drop 2 inst.words)
unfolding kinds class_of
scalar_used P inst operation is has used = by_entry P (entry_of inst.op) inst.op inst.words operation is (values_of inst.op) has used

operands_used : (inst : Inst) → uses_operands (class_of inst.op) ≡ true → used_ids inst ≡ used_by (kinds inst) inst.words
unfolding used_ids
operands_used inst is = by_use _ _ (uses_operands (class_of inst.op)) is
  where
    by_use : (x y : List ℕ) (b : Bool) → b ≡ true → (if b then x else y) ≡ x
    by_use x y true is = refl
    by_use x y false is = cc

pub scalar_uses : (P : ℕ → Type 0) (typing : Typing) (before : ℕ) (inst : Inst) (operation : ScalarClass) → class_of inst.op ≡ Some (class.Scalar operation)
    → ReadsUses P typing before (scalar_operands_fit typing operation (slice_index inst.words 0) (drop 2 inst.words)) inst
scalar_uses P typing before inst operation is has fit used =
    let u = scalar_used P inst operation is has (subst (Each P) (operands_used inst (ap uses_operands is)) used) in
    subst (Each (IsRead P typing)) (sym (scalar_reads inst.op before inst.words operation is))
    (each_read P typing (drop 2 inst.words) u (scalar_reads_typed typing operation (slice_index inst.words 0) (drop 2 inst.words) fit))

-- ---- terminators that choose

conditional_words : (P : ℕ → Type 0) (typing : Typing) (before : ℕ) (words : List ℕ) → ReadsUses P typing before (is_bool (type_of typing (slice_index words 0))) (instruction op.BRANCH_CONDITIONAL words)
unfolding class_of entry_of read_ids used_ids
conditional_words P typing before words has fit used = (record { used = used.0; typed = condition_typed typing (slice_index words 0) fit }, tt)

switch_words : (P : ℕ → Type 0) (typing : Typing) (before : ℕ) (words : List ℕ) → ReadsUses P typing before (is_integer (type_of typing (slice_index words 0))) (instruction op.SWITCH words)
unfolding class_of entry_of read_ids used_ids
switch_words P typing before words has fit used = (record { used = used.0; typed = selector_typed typing (slice_index words 0) fit }, tt)

pub conditional_reads : (P : ℕ → Type 0) (typing : Typing) (before : ℕ) (inst : Inst) → inst.op == op.BRANCH_CONDITIONAL ≡ true → ReadsUses P typing before (is_bool (type_of typing (slice_index inst.words 0))) inst
conditional_reads P typing before inst is = at_op (λ inst. ReadsUses P typing before (is_bool (type_of typing (slice_index inst.words 0))) inst) inst op.BRANCH_CONDITIONAL is (conditional_words P typing before inst.words)

pub switch_reads : (P : ℕ → Type 0) (typing : Typing) (before : ℕ) (inst : Inst) → inst.op == op.SWITCH ≡ true → ReadsUses P typing before (is_integer (type_of typing (slice_index inst.words 0))) inst
switch_reads P typing before inst is = at_op (λ inst. ReadsUses P typing before (is_integer (type_of typing (slice_index inst.words 0))) inst) inst op.SWITCH is (switch_words P typing before inst.words)
