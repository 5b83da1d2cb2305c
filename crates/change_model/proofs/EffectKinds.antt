-- Which instructions write and which enter a block.
use Rattle.std.proofs.Common.{◌≡◌, ℕ, ◌==◌, ◌||◌, Bool, true, false, if◌then◌else◌, List, [], ◌∷◌, drop, slice_index, refl, ap, sym, ◌∙◌, subst, Option, None, Some}
use Rattle.std.specs.Option.{option_map, option_and_then}
use Rattle.spirv_model.specs.declared.module.Inst.{Inst}
use Rattle.spirv_model.specs.declared.op.TheConstants as op
use Rattle.spirv_model.specs.Operands.{word_at, entry_of, class_of, result}
use Rattle.body_model.specs.Classes.{is_terminator}
use Rattle.stage_model.specs.Value.{Value, Truth, Word, Composite, Pointer, Outside, words_of}
use Rattle.stage_model.specs.Program.{Program}
use Rattle.stage_model.specs.Start.{Values, Memory, all_values}
use Rattle.stage_model.specs.Effect.{Effect, Passes, Gives, Writes, Enters, Goes, Stops, read_ids, has_result_class, place_of, stored, stores, branches, picks, result_of, effect_of}
use Rattle.stage_model.proofs.Flows.{Suits, effect_suits}
use Rattle.typed_model.proofs.BlockParts.{clash}
use Rattle.typed_model.proofs.EffectsRun.{instruction}
use Rattle.typed_model.proofs.PlainRuns.{at_op}

-- merge instructions and OpStore do nothing at times, only OpStore writes, and only OpLabel enters a block
abbrev pub may_pass : ℕ → Bool
may_pass opcode = (opcode == op.SELECTION_MERGE) || ((opcode == op.LOOP_MERGE) || (opcode == op.STORE))

abbrev Comes : Inst → Option Effect → Type 0
Comes inst None = Unit {0}
Comes inst (Some (Writes variable place words)) = inst.op == op.STORE ≡ true
Comes inst (Some (Enters label)) = inst.op == op.LABEL ≡ true
Comes inst (Some Passes) = may_pass inst.op ≡ true
Comes inst (Some (Gives value)) = Unit {0}
Comes inst (Some (Goes label)) = Unit {0}
Comes inst (Some (Stops kind)) = Unit {0}

choose : (P : Option Effect → Type 0) {x y : Option Effect} (b : Bool) → (b ≡ true → P x) → (b ≡ false → P y) → P (if b then x else y)
choose P true f g = f refl
choose P false f g = g refl

written_comes : (inst : Inst) → inst.op == op.STORE ≡ true → (words : List ℕ) (variable : ℕ) (place : Option ℕ) → Comes inst (option_map (λ (place : ℕ). Writes variable place words) place)
written_comes inst is words variable None = tt
written_comes inst is words variable (Some place) = is

store_passes : (opcode : ℕ) → opcode == op.STORE ≡ true → may_pass opcode ≡ true
store_passes opcode is = by_tests (opcode == op.SELECTION_MERGE) (opcode == op.LOOP_MERGE) (opcode == op.STORE) is
  where
    by_tests : (a b c : Bool) → c ≡ true → (a || (b || c)) ≡ true
    by_tests true b c is = refl
    by_tests false true c is = refl
    by_tests false false c is = is

stored_comes : (program : Program) (inst : Inst) → inst.op == op.STORE ≡ true → (words : List ℕ) (pointer : Value) → Comes inst (stored program words pointer)
stored_comes program inst is words (Pointer variable indices) = written_comes inst is words variable (place_of program variable indices)
stored_comes program inst is words Outside = store_passes inst.op is
stored_comes program inst is words (Truth b) = tt
stored_comes program inst is words (Word word) = tt
stored_comes program inst is words (Composite parts) = tt

store_comes : (program : Program) (inst : Inst) → inst.op == op.STORE ≡ true → (pointer : Value) (words : Option (List ℕ)) → Comes inst (option_and_then (λ (words : List ℕ). stored program words pointer) words)
store_comes program inst is pointer None = tt
store_comes program inst is pointer (Some words) = stored_comes program inst is words pointer

stores_come : (program : Program) (inst : Inst) → inst.op == op.STORE ≡ true → (values : List Value) → Comes inst (stores program values)
stores_come program inst is [] = tt
stores_come program inst is (pointer ∷ []) = tt
stores_come program inst is (pointer ∷ object ∷ []) = store_comes program inst is pointer (words_of object)
stores_come program inst is (pointer ∷ object ∷ more ∷ values) = tt

branches_come : (inst : Inst) (values : List Value) (on_true on_false : ℕ) → Comes inst (branches values on_true on_false)
branches_come inst [] on_true on_false = tt
branches_come inst (Truth b ∷ []) on_true on_false = tt
branches_come inst (Word word ∷ []) on_true on_false = tt
branches_come inst (Composite parts ∷ []) on_true on_false = tt
branches_come inst (Pointer variable indices ∷ []) on_true on_false = tt
branches_come inst (Outside ∷ []) on_true on_false = tt
branches_come inst (Truth t ∷ b ∷ values) on_true on_false = tt
branches_come inst (Word word ∷ b ∷ values) on_true on_false = tt
branches_come inst (Composite parts ∷ b ∷ values) on_true on_false = tt
branches_come inst (Pointer variable indices ∷ b ∷ values) on_true on_false = tt
branches_come inst (Outside ∷ b ∷ values) on_true on_false = tt

picks_come : (inst : Inst) (values : List Value) (default : ℕ) (cases : List ℕ) → Comes inst (picks values default cases)
picks_come inst [] default cases = tt
picks_come inst (Truth b ∷ []) default cases = tt
picks_come inst (Word word ∷ []) default cases = tt
picks_come inst (Composite parts ∷ []) default cases = tt
picks_come inst (Pointer variable indices ∷ []) default cases = tt
picks_come inst (Outside ∷ []) default cases = tt
picks_come inst (Truth t ∷ b ∷ values) default cases = tt
picks_come inst (Word word ∷ b ∷ values) default cases = tt
picks_come inst (Composite parts ∷ b ∷ values) default cases = tt
picks_come inst (Pointer variable indices ∷ b ∷ values) default cases = tt
picks_come inst (Outside ∷ b ∷ values) default cases = tt

given_comes : (inst : Inst) (value : Option Value) → Comes inst (option_map Gives value)
given_comes inst None = tt
given_comes inst (Some value) = tt

selection_passes : (opcode : ℕ) → opcode == op.SELECTION_MERGE ≡ true → may_pass opcode ≡ true
selection_passes opcode is = by_test (opcode == op.SELECTION_MERGE) _ is
  where
    by_test : (a b : Bool) → a ≡ true → (a || b) ≡ true
    by_test true b is = refl
    by_test false b is = cc

loop_passes : (opcode : ℕ) → opcode == op.LOOP_MERGE ≡ true → may_pass opcode ≡ true
loop_passes opcode is = by_tests (opcode == op.SELECTION_MERGE) (opcode == op.LOOP_MERGE) _ is
  where
    by_tests : (a b c : Bool) → b ≡ true → (a || (b || c)) ≡ true
    by_tests true b c is = refl
    by_tests false true c is = refl
    by_tests false false c is = cc

effect_comes : (program : Program) (memory : Memory) (inst : Inst) (values : List Value) → Comes inst (effect_of program memory inst values)
unfolding effect_of
effect_comes program memory inst values =
    let P = Comes inst in
    choose P (inst.op == op.LABEL) (λ is. is) (λ _. choose P (inst.op == op.SELECTION_MERGE) (λ is. selection_passes inst.op is) (λ _. choose P (inst.op == op.LOOP_MERGE) (λ is. loop_passes inst.op is) (λ _. choose P (inst.op == op.VARIABLE) (λ _. tt)
    (λ _. choose P (inst.op == op.STORE) (λ is. stores_come program inst is values) (λ _. choose P (inst.op == op.BRANCH) (λ _. tt)
    (λ _. choose P (inst.op == op.BRANCH_CONDITIONAL) (λ _. branches_come inst values (slice_index inst.words 1) (slice_index inst.words 2))
    (λ _. choose P (inst.op == op.SWITCH) (λ _. picks_come inst values (slice_index inst.words 1) (drop 2 inst.words))
    (λ _. choose P (inst.op == op.RETURN) (λ _. tt) (λ _. choose P (inst.op == op.UNREACHABLE) (λ _. tt) (λ _. choose P (inst.op == op.KILL) (λ _. tt)
    (λ _. choose P (has_result_class (class_of inst.op)) (λ _. given_comes inst (result_of program memory inst.op (slice_index inst.words 0) (drop 2 inst.words) values)) (λ _. tt))))))))))))

-- only OpStore writes
pub writes_store : (program : Program) (memory : Memory) (inst : Inst) (values : List Value) (variable place : ℕ) (words : List ℕ) → effect_of program memory inst values ≡ Some (Writes variable place words) → inst.op == op.STORE ≡ true
writes_store program memory inst values variable place words is = subst (Comes inst) is (effect_comes program memory inst values)

-- ---- what an instruction does that is no label and no terminator

pub data DoesInner (inst : Inst) (effect : Effect) : Type 0 where
  passes : effect ≡ Passes → may_pass inst.op ≡ true → DoesInner inst effect
  gives : (value : Value) → effect ≡ Gives value → DoesInner inst effect
  writes : (variable place : ℕ) (words : List ℕ) → effect ≡ Writes variable place words → inst.op == op.STORE ≡ true → DoesInner inst effect

pub does_inner : (program : Program) (memory : Memory) (inst : Inst) (values : List Value) (effect : Effect) → effect_of program memory inst values ≡ Some effect → inst.op == op.LABEL ≡ false → is_terminator inst.op ≡ false → DoesInner inst effect
does_inner program memory inst values effect is no_label straight =
    by_effect effect (subst (Comes inst) is (effect_comes program memory inst values)) (subst (Suits inst) is (effect_suits program memory inst values))
  where
    by_effect : (effect : Effect) → Comes inst (Some effect) → Suits inst (Some effect) → DoesInner inst effect
    by_effect Passes comes suits = passes refl comes
    by_effect (Gives value) comes suits = gives value refl
    by_effect (Writes variable place words) comes suits = writes variable place words refl comes
    by_effect (Enters label) comes suits = absurd (clash (inst.op == op.LABEL) comes no_label)
    by_effect (Goes label) comes suits = absurd (clash (is_terminator inst.op) suits.0 straight)
    by_effect (Stops kind) comes suits = absurd (clash (is_terminator inst.op) suits straight)

-- ---- OpStore

store_has : (words : List ℕ) → result (instruction op.STORE words) ≡ None
unfolding result entry_of
store_has words = refl

pub store_result : (inst : Inst) → inst.op == op.STORE ≡ true → result inst ≡ None
store_result inst is = at_op (λ inst. result inst ≡ None) inst op.STORE is (store_has inst.words)

-- a pointer into this variable
pub record IsPointerInto (variable : ℕ) (value : Option Value) : Type 0 where
  pub indices : List ℕ
  pub is : value ≡ Some (Pointer variable indices)

stored_into : (program : Program) (words : List ℕ) (pointer : Value) (variable place : ℕ) (written : List ℕ) → stored program words pointer ≡ Some (Writes variable place written) → IsPointerInto variable (Some pointer)
stored_into program words (Pointer own indices) variable place written is = record { indices = indices; is = ap (λ (n : ℕ). Some (Pointer n indices)) (by_place (place_of program own indices) is) }
  where
    by_place : (found : Option ℕ) → option_map (λ (place : ℕ). Writes own place words) found ≡ Some (Writes variable place written) → own ≡ variable
    by_place None is = cc
    by_place (Some at) is = cc
stored_into program words Outside variable place written is = cc
stored_into program words (Truth b) variable place written is = cc
stored_into program words (Word word) variable place written is = cc
stored_into program words (Composite parts) variable place written is = cc

stores_into : (program : Program) (pointer : Value) (words : Option (List ℕ)) (variable place : ℕ) (written : List ℕ) → option_and_then (λ (words : List ℕ). stored program words pointer) words ≡ Some (Writes variable place written) → IsPointerInto variable (Some pointer)
stores_into program pointer None variable place written is = cc
stores_into program pointer (Some words) variable place written is = stored_into program words pointer variable place written is

IntoFirst : Program → Memory → Values → ℕ → Inst → Type 0
IntoFirst program memory values before inst = (read : List Value) (variable place : ℕ) (written : List ℕ) → all_values values (read_ids inst.op before inst.words) ≡ Some read → effect_of program memory inst read ≡ Some (Writes variable place written)
    → IsPointerInto variable (values (word_at 0 inst))

into_first : (program : Program) (memory : Memory) (values : Values) (before : ℕ) (words : List ℕ) → IntoFirst program memory values before (instruction op.STORE words)
unfolding read_ids effect_of IntoFirst
into_first program memory values before [] read variable place written are is = let e : ◌≡◌ {A = Option (List Value)} (Some []) (Some read) = are in by_read read (one _ _ e) is
  where
    one : (a b : List Value) → ◌≡◌ {A = Option (List Value)} (Some a) (Some b) → a ≡ b
    one a b is = cc

    by_read : (read : List Value) → [] ≡ read → stores program read ≡ Some (Writes variable place written) → IsPointerInto variable (values 0)
    by_read [] same is = cc
    by_read (value ∷ more) same is = cc
into_first program memory values before (a ∷ []) read variable place written are is = by_first (values a) refl are
  where
    by_read : (read : List Value) (value : Value) → value ∷ [] ≡ read → stores program read ≡ Some (Writes variable place written) → ⊥
    by_read read value same is = let e = ap (stores program) same in cc

    one : (a b : List Value) → ◌≡◌ {A = Option (List Value)} (Some a) (Some b) → a ≡ b
    one a b is = cc

    by_first : (found : Option Value) → values a ≡ found → option_and_then (λ (first : Value). option_map (λ (rest : List Value). first ∷ rest) (Some [])) found ≡ Some read → IsPointerInto variable (values a)
    by_first None known are = cc
    by_first (Some value) known are = absurd (by_read read value (one (value ∷ []) read are) is)
into_first program memory values before (a ∷ b ∷ words) read variable place written are is = by_values (values a) (values b) refl refl are
  where
    one : (a b : List Value) → ◌≡◌ {A = Option (List Value)} (Some a) (Some b) → a ≡ b
    one a b is = cc

    by_values : (first second : Option Value) → values a ≡ first → values b ≡ second
        → option_and_then (λ (first : Value). option_map (λ (rest : List Value). first ∷ rest) (option_and_then (λ (second : Value). option_map (λ (rest : List Value). second ∷ rest) (Some [])) second)) first ≡ Some read
        → IsPointerInto variable (values a)
    by_values None second known also are = cc
    by_values (Some pointer) None known also are = cc
    by_values (Some pointer) (Some object) known also are =
        subst (IsPointerInto variable) (sym known)
        (stores_into program pointer (words_of object) variable place written (ap (stores program) (one (pointer ∷ object ∷ []) read are) ∙ is))

-- what OpStore writes, it writes into the variable of its pointer
pub stored_pointer : (program : Program) (memory : Memory) (values : Values) (before : ℕ) (inst : Inst) (read : List Value) (variable place : ℕ) (written : List ℕ) → inst.op == op.STORE ≡ true
    → all_values values (read_ids inst.op before inst.words) ≡ Some read → effect_of program memory inst read ≡ Some (Writes variable place written) → IsPointerInto variable (values (word_at 0 inst))
unfolding IntoFirst
stored_pointer program memory values before inst read variable place written store are is =
    at_op (IntoFirst program memory values before) inst op.STORE store (into_first program memory values before inst.words) read variable place written are is
