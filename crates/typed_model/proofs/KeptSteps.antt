-- The judgement is kept by what an instruction of a block does that leads to the next one.
use Rattle.std.proofs.Common.{◌≡◌, ℕ, ◌+◌, ◌<◌, ◌==◌, Bool, true, false, if◌then◌else◌, List, [], ◌∷◌, length, drop, slice_index, refl, ap, sym, ◌∙◌, subst, Option, None, Some}
use Rattle.std.specs.Option.{option_map, option_and_then}
use Rattle.spirv_model.specs.declared.module.Inst.{Inst}
use Rattle.spirv_model.specs.declared.op.TheConstants as op
use Rattle.spirv_model.specs.Operands.{word_at, entry_of, class_of, result}
use Rattle.spirv_model.specs.declared.class.Class.{Class}
use Rattle.spirv_model.specs.declared.class.Class.TheVariants as class
use Rattle.body_model.specs.Classes.{is_plain_class, is_plain}
use Rattle.valid_model.specs.Definitions.{inst_at, id_twice}
use Rattle.valid_model.specs.Knowledge.{Knowledge}
use Rattle.valid_model.specs.Meanings.{known_of, known_before, meaning}
use Rattle.check_model.specs.Typing.{type_id}
use Rattle.typed_model.specs.Types.{HasTypes}
use Rattle.typed_model.proofs.ResultIds.{defines, defined_id}
use Rattle.typed_model.proofs.ModuleValues.{defined_at, meaning_at}
use Rattle.typed_model.proofs.ModuleSteps.{variable_suits}
use Rattle.typed_model.proofs.SilentSteps.{given_id}
use Rattle.check_model.specs.Intervals.{Interval}
use Rattle.stage_model.specs.Value.{Value, Truth, Word, Composite, Pointer, Outside, words_of}
use Rattle.stage_model.specs.Program.{Program, program_of}
use Rattle.stage_model.specs.Start.{Values, Memory, with_value}
use Rattle.stage_model.specs.Effect.{Effect, Passes, Gives, Writes, Enters, Goes, Stops, has_result_class, place_of, stored, stores, result_of, effect_of}
use Rattle.typed_model.specs.Effects.{IsTypedEffect, Runs}
use Rattle.typed_model.specs.Judgement.{AreTyped}
use Rattle.typed_model.proofs.EffectsRun.{instruction}
use Rattle.typed_model.proofs.PlainRuns.{at_op}
use Rattle.typed_model.proofs.TypedSteps.{not_none, typed_on, typed_with}
use Rattle.typed_model.proofs.BlockResults.{gives_value, other_opcode, label_gives, variable_gives, typed_behind}

-- the judgement at the next place, with the values behind an effect
abbrev pub AreKept : List Inst → List Interval → ℕ → Values → Effect → Type 0
AreKept insts intervals place values (Gives value) = AreTyped insts intervals (place + 1) (with_value (word_at 1 (inst_at insts place)) (Some value) values)
AreKept insts intervals place values effect = AreTyped insts intervals (place + 1) values

-- ---- instructions that give a value

record SilentOpcodes : Type 0 where
  selection : gives_value op.SELECTION_MERGE ≡ false
  loop_merge : gives_value op.LOOP_MERGE ≡ false
  branch : gives_value op.BRANCH ≡ false
  conditional : gives_value op.BRANCH_CONDITIONAL ≡ false
  switch : gives_value op.SWITCH ≡ false
  returns : gives_value op.RETURN ≡ false
  unreachable : gives_value op.UNREACHABLE ≡ false
  kill : gives_value op.KILL ≡ false

silent_opcodes : SilentOpcodes
unfolding class_of entry_of
silent_opcodes = record { selection = refl; loop_merge = refl; branch = refl; conditional = refl; switch = refl; returns = refl; unreachable = refl; kill = refl }

skip : {A : Type 0} (x : A) {y : A} (b : Bool) → b ≡ false → (if b then x else y) ≡ y
skip x true isnt = cc
skip x false isnt = refl

take_it : {A : Type 0} (y : A) {x : A} (b : Bool) → b ≡ true → (if b then x else y) ≡ x
take_it y true is = refl
take_it y false is = cc

value_effect : (program : Program) (memory : Memory) (inst : Inst) (values : List Value) → has_result_class (class_of inst.op) ≡ true → inst.op == op.STORE ≡ false
    → effect_of program memory inst values ≡ option_map Gives (result_of program memory inst.op (slice_index inst.words 0) (drop 2 inst.words) values)
unfolding effect_of
value_effect program memory inst values is isnt =
    let s = silent_opcodes in
    skip _ (inst.op == op.LABEL) (other_opcode op.LABEL inst.op label_gives is) ∙ (skip _ (inst.op == op.SELECTION_MERGE) (other_opcode op.SELECTION_MERGE inst.op s.selection is)
    ∙ (skip _ (inst.op == op.LOOP_MERGE) (other_opcode op.LOOP_MERGE inst.op s.loop_merge is) ∙ (skip _ (inst.op == op.VARIABLE) (other_opcode op.VARIABLE inst.op variable_gives is) ∙ (skip _ (inst.op == op.STORE) isnt
    ∙ (skip _ (inst.op == op.BRANCH) (other_opcode op.BRANCH inst.op s.branch is) ∙ (skip _ (inst.op == op.BRANCH_CONDITIONAL) (other_opcode op.BRANCH_CONDITIONAL inst.op s.conditional is)
    ∙ (skip _ (inst.op == op.SWITCH) (other_opcode op.SWITCH inst.op s.switch is) ∙ (skip _ (inst.op == op.RETURN) (other_opcode op.RETURN inst.op s.returns is) ∙ (skip _ (inst.op == op.UNREACHABLE) (other_opcode op.UNREACHABLE inst.op s.unreachable is)
    ∙ (skip _ (inst.op == op.KILL) (other_opcode op.KILL inst.op s.kill is) ∙ take_it _ (has_result_class (class_of inst.op)) is))))))))))

given_by : (found : Option Value) (effect : Effect) → option_map Gives found ≡ Some effect → (value : Value) × (effect ≡ Gives value)
given_by None effect is = cc
given_by (Some value) effect is = (value, cc)

-- an instruction that gives a value, OpPhi among them
pub value_kept : (insts : List Inst) (intervals : List Interval) (place : ℕ) (values : Values) (memory : Memory) (read : List Value) → place < length insts → id_twice insts place ≡ None
    → has_result_class (class_of (inst_at insts place).op) ≡ true → (inst_at insts place).op == op.STORE ≡ false → (r : Runs (program_of insts) memory (inst_at insts place) read)
    → AreTyped insts intervals place values → AreKept insts intervals place values r.effect
value_kept insts intervals place values memory read within once is isnt r typed =
    let inst = inst_at insts place in
    let g = given_by _ r.effect (sym (value_effect (program_of insts) memory inst read is isnt) ∙ r.is) in
    subst (AreKept insts intervals place values) (sym g.1)
    (typed_behind insts intervals place values g.0 within once is isnt (subst (IsTypedEffect (program_of insts) inst) g.1 r.typed) typed)

-- ---- OpStore

-- what a store does: it writes, or nothing
abbrev IsStored : Effect → Type 0
IsStored Passes = Unit {0}
IsStored (Writes variable at words) = Unit {0}
IsStored effect = ⊥

stored_by : (effect own : Effect) → IsStored own → Some own ≡ Some effect → IsStored effect
stored_by effect own is same = subst IsStored (same_effect own effect same) is
  where
    same_effect : (a b : Effect) → Some a ≡ Some b → a ≡ b
    same_effect a b is = cc

stored_is : (program : Program) (words : List ℕ) (pointer : Value) (effect : Effect) → stored program words pointer ≡ Some effect → IsStored effect
stored_is program words (Pointer variable indices) effect is = by_place (place_of program variable indices) is
  where
    by_place : (place : Option ℕ) → option_map (λ place. Writes variable place words) place ≡ Some effect → IsStored effect
    by_place None is = cc
    by_place (Some place) is = stored_by effect (Writes variable place words) tt is
stored_is program words Outside effect is = stored_by effect Passes tt is
stored_is program words (Truth b) effect is = cc
stored_is program words (Word word) effect is = cc
stored_is program words (Composite parts) effect is = cc

stores_is : (program : Program) (read : List Value) (effect : Effect) → stores program read ≡ Some effect → IsStored effect
stores_is program (pointer ∷ object ∷ []) effect is = by_words (words_of object) is
  where
    by_words : (words : Option (List ℕ)) → option_and_then (λ words. stored program words pointer) words ≡ Some effect → IsStored effect
    by_words None is = cc
    by_words (Some words) is = stored_is program words pointer effect is
stores_is program [] effect is = cc
stores_is program (pointer ∷ []) effect is = cc
stores_is program (pointer ∷ object ∷ more ∷ read) effect is = cc

abbrev StoresOnly : Program → Memory → List Value → Inst → Type 0
StoresOnly program memory read inst = ((effect : Effect) → effect_of program memory inst read ≡ Some effect → IsStored effect) × (result inst ≡ None)

store_words : (program : Program) (memory : Memory) (read : List Value) (words : List ℕ) → StoresOnly program memory read (instruction op.STORE words)
unfolding effect_of result entry_of
store_words program memory read words = (stores_is program read, refl)

by_effect : (insts : List Inst) (intervals : List Interval) (place : ℕ) (values : Values) (effect : Effect) → IsStored effect → AreTyped insts intervals (place + 1) values → AreKept insts intervals place values effect
by_effect insts intervals place values Passes is typed = typed
by_effect insts intervals place values (Writes variable at words) is typed = typed
by_effect insts intervals place values (Gives value) is typed = absurd is
by_effect insts intervals place values (Enters label) is typed = absurd is
by_effect insts intervals place values (Goes label) is typed = absurd is
by_effect insts intervals place values (Stops kind) is typed = absurd is

pub store_kept : (insts : List Inst) (intervals : List Interval) (place : ℕ) (values : Values) (memory : Memory) (read : List Value) → (inst_at insts place).op == op.STORE ≡ true → (r : Runs (program_of insts) memory (inst_at insts place) read)
    → AreTyped insts intervals place values → AreKept insts intervals place values r.effect
store_kept insts intervals place values memory read is r typed =
    let inst = inst_at insts place in
    let n = at_op (StoresOnly (program_of insts) memory read) inst op.STORE is (store_words (program_of insts) memory read inst.words) in
    by_effect insts intervals place values r.effect (n.0 r.effect r.is)
    (typed_on insts intervals place values (λ id type has of. not_none id (result inst) n.1 has) typed)

-- ---- plain instructions

plain_gives : (of : Option Class) → is_plain_class of ≡ true → has_result_class of ≡ true
plain_gives (Some class.Undef) is = refl
plain_gives (Some class.Memory) is = refl
plain_gives (Some class.Composite) is = refl
plain_gives (Some (class.Scalar operation)) is = refl
plain_gives of is = cc

pub plain_kept : (insts : List Inst) (intervals : List Interval) (place : ℕ) (values : Values) (memory : Memory) (read : List Value) → place < length insts → id_twice insts place ≡ None → is_plain (inst_at insts place).op ≡ true
    → (r : Runs (program_of insts) memory (inst_at insts place) read) → AreTyped insts intervals place values → AreKept insts intervals place values r.effect
plain_kept insts intervals place values memory read within once plain r typed = by_store ((inst_at insts place).op == op.STORE) refl
  where
    by_store : (b : Bool) → (inst_at insts place).op == op.STORE ≡ b → AreKept insts intervals place values r.effect
    by_store true is = store_kept insts intervals place values memory read is r typed
    by_store false isnt = value_kept insts intervals place values memory read within once (plain_gives (class_of (inst_at insts place).op) plain) isnt r typed

-- ---- what their effects are

-- an effect of an instruction that is no label and no terminator
abbrev pub IsInner : Effect → Type 0
IsInner Passes = Unit {0}
IsInner (Gives value) = Unit {0}
IsInner (Writes variable at words) = Unit {0}
IsInner effect = ⊥

stored_inner : (effect : Effect) → IsStored effect → IsInner effect
stored_inner Passes is = tt
stored_inner (Writes variable at words) is = tt
stored_inner (Gives value) is = tt
stored_inner (Enters label) is = is
stored_inner (Goes label) is = is
stored_inner (Stops kind) is = is

-- an instruction that gives a value, OpPhi among them
pub value_inner : (program : Program) (memory : Memory) (inst : Inst) (read : List Value) (effect : Effect) → has_result_class (class_of inst.op) ≡ true → inst.op == op.STORE ≡ false → effect_of program memory inst read ≡ Some effect → IsInner effect
value_inner program memory inst read effect gives isnt is = subst IsInner (sym (given_by _ effect (sym (value_effect program memory inst read gives isnt) ∙ is)).1) tt

pub plain_inner : (program : Program) (memory : Memory) (inst : Inst) (read : List Value) (effect : Effect) → is_plain inst.op ≡ true → effect_of program memory inst read ≡ Some effect → IsInner effect
plain_inner program memory inst read effect plain is = by_store (inst.op == op.STORE) refl
  where
    by_store : (b : Bool) → inst.op == op.STORE ≡ b → IsInner effect
    by_store true store = stored_inner effect ((at_op (StoresOnly program memory read) inst op.STORE store (store_words program memory read inst.words)).0 effect is)
    by_store false isnt = value_inner program memory inst read effect (plain_gives (class_of inst.op) plain) isnt is

-- ---- labels, merge instructions and variables

untyped_kept : (insts : List Inst) (intervals : List Interval) (place : ℕ) (values : Values) → place < length insts → id_twice insts place ≡ None
    → ((id : ℕ) → result (inst_at insts place) ≡ Some id → type_id (known_of (known_before insts place) (inst_at insts place)).meaning ≡ None) → AreTyped insts intervals place values → AreTyped insts intervals (place + 1) values
untyped_kept insts intervals place values within once none typed = typed_on insts intervals place values
    (λ id type is of.
    let has = given_id id (result (inst_at insts place)) is in
    let e : type_id (meaning insts id) ≡ None = ap type_id (meaning_at insts place id (defined_at insts place id within has once)) ∙ none id has in absurd (clash type (sym of ∙ e))) typed
  where
    clash : (type : ℕ) → ◌≡◌ {A = Option ℕ} (Some type) None → ⊥
    clash type is = cc

label_untyped : (known : Knowledge) (words : List ℕ) → type_id (known_of known (instruction op.LABEL words)).meaning ≡ None
unfolding known_of class_of entry_of
label_untyped known words = refl

pub label_kept : (insts : List Inst) (intervals : List Interval) (place : ℕ) (values : Values) → place < length insts → id_twice insts place ≡ None → (inst_at insts place).op == op.LABEL ≡ true
    → AreTyped insts intervals place values → AreTyped insts intervals (place + 1) values
label_kept insts intervals place values within once is typed =
    untyped_kept insts intervals place values within once
    (λ id has. at_op (λ inst. type_id (known_of (known_before insts place) inst).meaning ≡ None) (inst_at insts place) op.LABEL is (label_untyped (known_before insts place) (inst_at insts place).words)) typed

none_kept : (insts : List Inst) (intervals : List Interval) (place : ℕ) (values : Values) → result (inst_at insts place) ≡ None → AreTyped insts intervals place values → AreTyped insts intervals (place + 1) values
none_kept insts intervals place values none typed = typed_on insts intervals place values (λ id type has of. not_none id (result (inst_at insts place)) none has) typed

selection_result : (words : List ℕ) → result (instruction op.SELECTION_MERGE words) ≡ None
unfolding result entry_of
selection_result words = refl

loop_result : (words : List ℕ) → result (instruction op.LOOP_MERGE words) ≡ None
unfolding result entry_of
loop_result words = refl

pub selection_merge_kept : (insts : List Inst) (intervals : List Interval) (place : ℕ) (values : Values) → (inst_at insts place).op == op.SELECTION_MERGE ≡ true → AreTyped insts intervals place values → AreTyped insts intervals (place + 1) values
selection_merge_kept insts intervals place values is typed =
    none_kept insts intervals place values (at_op (λ inst. result inst ≡ None) (inst_at insts place) op.SELECTION_MERGE is (selection_result (inst_at insts place).words)) typed

pub loop_merge_kept : (insts : List Inst) (intervals : List Interval) (place : ℕ) (values : Values) → (inst_at insts place).op == op.LOOP_MERGE ≡ true → AreTyped insts intervals place values → AreTyped insts intervals (place + 1) values
loop_merge_kept insts intervals place values is typed =
    none_kept insts intervals place values (at_op (λ inst. result inst ≡ None) (inst_at insts place) op.LOOP_MERGE is (loop_result (inst_at insts place).words)) typed

pub variable_class : defines (class_of op.VARIABLE) ≡ true
unfolding class_of entry_of
variable_class = refl

-- OpVariable gives a pointer to the whole variable
pub variable_kept : (insts : List Inst) (intervals : List Interval) (place : ℕ) (values : Values) → HasTypes (program_of insts) → place < length insts → id_twice insts place ≡ None → (inst_at insts place).op == op.VARIABLE ≡ true
    → AreTyped insts intervals place values → AreKept insts intervals place values (Gives (Pointer (word_at 1 (inst_at insts place)) []))
variable_kept insts intervals place values types within once is typed =
    let defined = at_op (λ inst. defines (class_of inst.op) ≡ true) (inst_at insts place) op.VARIABLE is variable_class in
    typed_with insts intervals place (word_at 1 (inst_at insts place)) values (Pointer (word_at 1 (inst_at insts place)) []) (defined_id (inst_at insts place) defined) once (variable_suits insts place types within once is defined) typed
