-- The effects of instructions, by their opcodes.
use Rattle.std.proofs.Common.{◌≡◌, ℕ, ◌==◌, ◌||◌, ◌&&◌, not, Bool, true, false, if◌then◌else◌, List, [], ◌∷◌, drop, slice_index, refl, ap, sym, ◌∙◌, subst, arith, Option, None, Some}
use Rattle.std.specs.Option.{option_map, option_and_then}
use Rattle.std.proofs.lemmas.Bool.Decides.{nat_tests}
use Rattle.spirv_model.specs.declared.module.Inst.{Inst}
use Rattle.spirv_model.specs.declared.op.TheConstants as op
use Rattle.spirv_model.specs.Operands.{word_at, entry_of, class_of}
use Rattle.stage_model.specs.declared.outcome.Kind.TheVariants.{Done, Killed}
use Rattle.stage_model.specs.Value.{Value, Truth, Word, Composite, Pointer, Outside, words_of}
use Rattle.stage_model.specs.Program.{Program}
use Rattle.stage_model.specs.Start.{Values, Memory, all_values}
use Rattle.stage_model.specs.Effect.{Effect, Passes, Gives, Writes, Enters, Goes, Stops, paired_with, has_result_class, read_ids, one, result_of, place_of, stored, stores, branches, picks, target_for, effect_of}
use Rattle.typed_model.proofs.EffectsRun.{instruction}
use Rattle.typed_model.proofs.PlainRuns.{at_op}
use Rattle.spv_exec.specs.Opcodes.{gives_result}

-- the effect, where there is one, is this
abbrev Has : Program → Memory → List Value → (Inst → Effect) → Inst → Type 0
Has program memory read own inst = (effect : Effect) → effect_of program memory inst read ≡ Some effect → effect ≡ own inst

same_effect : (a b : Effect) → Some a ≡ Some b → b ≡ a
same_effect a b is = cc

label_words : (program : Program) (memory : Memory) (read : List Value) (words : List ℕ) → Has program memory read (λ inst. Enters (word_at 0 inst)) (instruction op.LABEL words)
unfolding effect_of
label_words program memory read words effect is = same_effect (Enters (slice_index words 0)) effect is

selection_words : (program : Program) (memory : Memory) (read : List Value) (words : List ℕ) → Has program memory read (λ inst. Passes) (instruction op.SELECTION_MERGE words)
unfolding effect_of
selection_words program memory read words effect is = same_effect Passes effect is

loop_words : (program : Program) (memory : Memory) (read : List Value) (words : List ℕ) → Has program memory read (λ inst. Passes) (instruction op.LOOP_MERGE words)
unfolding effect_of
loop_words program memory read words effect is = same_effect Passes effect is

return_words : (program : Program) (memory : Memory) (read : List Value) (words : List ℕ) → Has program memory read (λ inst. Stops Done) (instruction op.RETURN words)
unfolding effect_of
return_words program memory read words effect is = same_effect (Stops Done) effect is

unreachable_words : (program : Program) (memory : Memory) (read : List Value) (words : List ℕ) → Has program memory read (λ inst. Stops Done) (instruction op.UNREACHABLE words)
unfolding effect_of
unreachable_words program memory read words effect is = same_effect (Stops Done) effect is

kill_words : (program : Program) (memory : Memory) (read : List Value) (words : List ℕ) → Has program memory read (λ inst. Stops Killed) (instruction op.KILL words)
unfolding effect_of
kill_words program memory read words effect is = same_effect (Stops Killed) effect is

at_own : (program : Program) (memory : Memory) (read : List Value) (effect : Effect) (inst : Inst) (own : ℕ) (is : Inst → Effect) → inst.op == own ≡ true → Has program memory read is (instruction own inst.words) → effect_of program memory inst read ≡ Some effect
    → effect ≡ is inst
at_own program memory read effect inst own is at has known = at_op (Has program memory read is) inst own at has effect known

pub label_effect : (program : Program) (memory : Memory) (read : List Value) (effect : Effect) (inst : Inst) → inst.op == op.LABEL ≡ true → effect_of program memory inst read ≡ Some effect → effect ≡ Enters (word_at 0 inst)
label_effect program memory read effect inst at is = at_own program memory read effect inst op.LABEL (λ inst. Enters (word_at 0 inst)) at (label_words program memory read inst.words) is

pub selection_effect : (program : Program) (memory : Memory) (read : List Value) (effect : Effect) (inst : Inst) → inst.op == op.SELECTION_MERGE ≡ true → effect_of program memory inst read ≡ Some effect → effect ≡ Passes
selection_effect program memory read effect inst at is = at_own program memory read effect inst op.SELECTION_MERGE (λ inst. Passes) at (selection_words program memory read inst.words) is

pub loop_effect : (program : Program) (memory : Memory) (read : List Value) (effect : Effect) (inst : Inst) → inst.op == op.LOOP_MERGE ≡ true → effect_of program memory inst read ≡ Some effect → effect ≡ Passes
loop_effect program memory read effect inst at is = at_own program memory read effect inst op.LOOP_MERGE (λ inst. Passes) at (loop_words program memory read inst.words) is

pub return_effect : (program : Program) (memory : Memory) (read : List Value) (effect : Effect) (inst : Inst) → inst.op == op.RETURN ≡ true → effect_of program memory inst read ≡ Some effect → effect ≡ Stops Done
return_effect program memory read effect inst at is = at_own program memory read effect inst op.RETURN (λ inst. Stops Done) at (return_words program memory read inst.words) is

pub unreachable_effect : (program : Program) (memory : Memory) (read : List Value) (effect : Effect) (inst : Inst) → inst.op == op.UNREACHABLE ≡ true → effect_of program memory inst read ≡ Some effect → effect ≡ Stops Done
unreachable_effect program memory read effect inst at is = at_own program memory read effect inst op.UNREACHABLE (λ inst. Stops Done) at (unreachable_words program memory read inst.words) is

pub kill_effect : (program : Program) (memory : Memory) (read : List Value) (effect : Effect) (inst : Inst) → inst.op == op.KILL ≡ true → effect_of program memory inst read ≡ Some effect → effect ≡ Stops Killed
kill_effect program memory read effect inst at is = at_own program memory read effect inst op.KILL (λ inst. Stops Killed) at (kill_words program memory read inst.words) is

-- ---- branches

-- it goes to a label
pub record GoesTo (effect : Effect) : Type 0 where
  pub label : ℕ
  pub is : effect ≡ Goes label

abbrev Leads : Program → Memory → List Value → Inst → Type 0
Leads program memory read inst = (effect : Effect) → effect_of program memory inst read ≡ Some effect → GoesTo effect

branch_words : (program : Program) (memory : Memory) (read : List Value) (words : List ℕ) → Leads program memory read (instruction op.BRANCH words)
unfolding effect_of
branch_words program memory read words effect is = record { label = slice_index words 0; is = same_effect (Goes (slice_index words 0)) effect is }

branches_go : (values : List Value) (a b : ℕ) (effect : Effect) → branches values a b ≡ Some effect → GoesTo effect
branches_go [] a b effect is = cc
branches_go (Truth c ∷ []) a b effect is = record { label = if c then a else b; is = same_effect (Goes (if c then a else b)) effect is }
branches_go (Word word ∷ []) a b effect is = cc
branches_go (Composite parts ∷ []) a b effect is = cc
branches_go (Pointer variable indices ∷ []) a b effect is = cc
branches_go (Outside ∷ []) a b effect is = cc
branches_go (Truth c ∷ second ∷ values) a b effect is = cc
branches_go (Word word ∷ second ∷ values) a b effect is = cc
branches_go (Composite parts ∷ second ∷ values) a b effect is = cc
branches_go (Pointer variable indices ∷ second ∷ values) a b effect is = cc
branches_go (Outside ∷ second ∷ values) a b effect is = cc

picks_go : (values : List Value) (default : ℕ) (cases : List ℕ) (effect : Effect) → picks values default cases ≡ Some effect → GoesTo effect
picks_go [] default cases effect is = cc
picks_go (Word word ∷ []) default cases effect is = record { label = target_for word default cases; is = same_effect (Goes (target_for word default cases)) effect is }
picks_go (Truth c ∷ []) default cases effect is = cc
picks_go (Composite parts ∷ []) default cases effect is = cc
picks_go (Pointer variable indices ∷ []) default cases effect is = cc
picks_go (Outside ∷ []) default cases effect is = cc
picks_go (Truth c ∷ second ∷ values) default cases effect is = cc
picks_go (Word word ∷ second ∷ values) default cases effect is = cc
picks_go (Composite parts ∷ second ∷ values) default cases effect is = cc
picks_go (Pointer variable indices ∷ second ∷ values) default cases effect is = cc
picks_go (Outside ∷ second ∷ values) default cases effect is = cc

conditional_words : (program : Program) (memory : Memory) (read : List Value) (words : List ℕ) → Leads program memory read (instruction op.BRANCH_CONDITIONAL words)
unfolding effect_of
conditional_words program memory read words effect is = branches_go read (slice_index words 1) (slice_index words 2) effect is

switch_words : (program : Program) (memory : Memory) (read : List Value) (words : List ℕ) → Leads program memory read (instruction op.SWITCH words)
unfolding effect_of
switch_words program memory read words effect is = picks_go read (slice_index words 1) (drop 2 words) effect is

pub branch_effect : (program : Program) (memory : Memory) (read : List Value) (effect : Effect) (inst : Inst) → inst.op == op.BRANCH ≡ true → effect_of program memory inst read ≡ Some effect → GoesTo effect
branch_effect program memory read effect inst at is = at_op (Leads program memory read) inst op.BRANCH at (branch_words program memory read inst.words) effect is

pub conditional_effect : (program : Program) (memory : Memory) (read : List Value) (effect : Effect) (inst : Inst) → inst.op == op.BRANCH_CONDITIONAL ≡ true → effect_of program memory inst read ≡ Some effect → GoesTo effect
conditional_effect program memory read effect inst at is = at_op (Leads program memory read) inst op.BRANCH_CONDITIONAL at (conditional_words program memory read inst.words) effect is

pub switch_effect : (program : Program) (memory : Memory) (read : List Value) (effect : Effect) (inst : Inst) → inst.op == op.SWITCH ≡ true → effect_of program memory inst read ≡ Some effect → GoesTo effect
switch_effect program memory read effect inst at is = at_op (Leads program memory read) inst op.SWITCH at (switch_words program memory read inst.words) effect is

-- ---- stores

-- it writes words, or does nothing
abbrev pub IsStored : Effect → Type 0
IsStored Passes = Unit {0}
IsStored (Writes variable at words) = Unit {0}
IsStored effect = ⊥

stored_by : (effect own : Effect) → IsStored own → Some own ≡ Some effect → IsStored effect
stored_by effect own is same = subst IsStored (sym (same_effect own effect same)) is

stored_is : (program : Program) (words : List ℕ) (pointer : Value) (effect : Effect) → stored program words pointer ≡ Some effect → IsStored effect
stored_is program words (Pointer variable indices) effect is = by_place (place_of program variable indices) is
  where
    by_place : (place : Option ℕ) → option_map (λ place. Writes variable place words) place ≡ Some effect → IsStored effect
    by_place None is = cc
    by_place (Some place) is = stored_by effect (Writes variable place words) tt is
stored_is program words Outside effect is = stored_by effect Passes tt is
stored_is program words (Truth b) effect is = cc
stored_is program words (Word word) effect is = cc
stored_is program words (Composite parts) effect is = cc

stores_is : (program : Program) (read : List Value) (effect : Effect) → stores program read ≡ Some effect → IsStored effect
stores_is program (pointer ∷ object ∷ []) effect is = by_words (words_of object) is
  where
    by_words : (words : Option (List ℕ)) → option_and_then (λ words. stored program words pointer) words ≡ Some effect → IsStored effect
    by_words None is = cc
    by_words (Some words) is = stored_is program words pointer effect is
stores_is program [] effect is = cc
stores_is program (pointer ∷ []) effect is = cc
stores_is program (pointer ∷ object ∷ more ∷ read) effect is = cc

abbrev StoresOnly : Program → Memory → List Value → Inst → Type 0
StoresOnly program memory read inst = (effect : Effect) → effect_of program memory inst read ≡ Some effect → IsStored effect

store_words : (program : Program) (memory : Memory) (read : List Value) (words : List ℕ) → StoresOnly program memory read (instruction op.STORE words)
unfolding effect_of
store_words program memory read words = stores_is program read

pub store_effect : (program : Program) (memory : Memory) (read : List Value) (effect : Effect) (inst : Inst) → inst.op == op.STORE ≡ true → effect_of program memory inst read ≡ Some effect → IsStored effect
store_effect program memory read effect inst at is = at_op (StoresOnly program memory read) inst op.STORE at (store_words program memory read inst.words) effect is

-- ---- phis

-- a phi gives the one value that it reads
pub record GivesOne (read : List Value) (effect : Effect) : Type 0 where
  pub value : Value
  pub reads : read ≡ value ∷ []
  pub is : effect ≡ Gives value

ones_given : (read : List Value) (effect : Effect) → option_map Gives (one read) ≡ Some effect → GivesOne read effect
ones_given [] effect is = cc
ones_given (value ∷ []) effect is = record { value = value; reads = refl; is = same_effect (Gives value) effect is }
ones_given (value ∷ other ∷ more) effect is = cc

abbrev PhiGives : Program → Memory → List Value → Inst → Type 0
PhiGives program memory read inst = (effect : Effect) → effect_of program memory inst read ≡ Some effect → GivesOne read effect

phi_words : (program : Program) (memory : Memory) (read : List Value) (words : List ℕ) → PhiGives program memory read (instruction op.PHI words)
unfolding effect_of result_of class_of entry_of
phi_words program memory read words effect is = ones_given read effect is

pub phi_effect : (program : Program) (memory : Memory) (read : List Value) (effect : Effect) (inst : Inst) → inst.op == op.PHI ≡ true → effect_of program memory inst read ≡ Some effect → GivesOne read effect
phi_effect program memory read effect inst at is = at_op (PhiGives program memory read) inst op.PHI at (phi_words program memory read inst.words) effect is

phi_reads_words : (before : ℕ) (words : List ℕ) → read_ids op.PHI before words ≡ paired_with before (drop 2 words)
unfolding read_ids
phi_reads_words before words = refl

-- it reads the id that it pairs with the block before
pub phi_reads : (before : ℕ) (inst : Inst) → inst.op == op.PHI ≡ true → read_ids inst.op before inst.words ≡ paired_with before (drop 2 inst.words)
phi_reads before inst at = at_op (λ inst. read_ids inst.op before inst.words ≡ paired_with before (drop 2 inst.words)) inst op.PHI at (phi_reads_words before inst.words)

-- ---- all others

-- it gives its result a value
pub record GivesValue (inst : Inst) (effect : Effect) : Type 0 where
  pub value : Value
  pub is : effect ≡ Gives value
  pub gives : gives_result inst.op ≡ true

tested : {Q A : Type 0} (b : Bool) (x y z : A) → b ≡ false → (if b then x else y) ≡ z → (y ≡ z → Q) → Q
tested true x y z isnt is go = cc
tested false x y z isnt is go = go is

-- which instructions the code runs by itself
pub record IsOther (opcode : ℕ) : Type 0 where
  pub no_label : opcode == op.LABEL ≡ false
  pub no_phi : opcode == op.PHI ≡ false
  pub no_selection : opcode == op.SELECTION_MERGE ≡ false
  pub no_loop : opcode == op.LOOP_MERGE ≡ false
  pub no_store : opcode == op.STORE ≡ false
  pub no_branch : opcode == op.BRANCH ≡ false
  pub no_conditional : opcode == op.BRANCH_CONDITIONAL ≡ false
  pub no_switch : opcode == op.SWITCH ≡ false
  pub no_return : opcode == op.RETURN ≡ false
  pub no_unreachable : opcode == op.UNREACHABLE ≡ false
  pub no_kill : opcode == op.KILL ≡ false

one_gives : (found : Option Value) (effect : Effect) → option_map Gives found ≡ Some effect → (value : Value) × (effect ≡ Gives value)
one_gives None effect is = cc
one_gives (Some value) effect is = (value, same_effect (Gives value) effect is)

gives_by : (v h s p : Bool) → v ≡ true → (v || (h && not s && not p)) ≡ true
gives_by true h s p is = refl
gives_by false h s p is = cc

gives_class : (v h s p : Bool) → h ≡ true → s ≡ false → p ≡ false → (v || (h && not s && not p)) ≡ true
gives_class true h s p has no_store no_phi = refl
gives_class false true false false has no_store no_phi = refl
gives_class false true false true has no_store no_phi = cc
gives_class false true true p has no_store no_phi = cc
gives_class false false s p has no_store no_phi = cc

by_variable : (program : Program) (memory : Memory) (inst : Inst) (read : List Value) (effect : Effect) → IsOther inst.op → (v h : Bool) → inst.op == op.VARIABLE ≡ v → has_result_class (class_of inst.op) ≡ h
    → (w : Option Effect) → (v ≡ false → w ≡ (if h then option_map Gives (result_of program memory inst.op (slice_index inst.words 0) (drop 2 inst.words) read) else None))
    → (if v then Some (Gives (Pointer (slice_index inst.words 1) [])) else w) ≡ Some effect → GivesValue inst effect
unfolding gives_result
by_variable program memory inst read effect o true h is_v is_h w ws is =
    record { value = Pointer (slice_index inst.words 1) []; is = same_effect (Gives (Pointer (slice_index inst.words 1) [])) effect is; gives = gives_by (inst.op == op.VARIABLE) _ _ _ is_v }
by_variable program memory inst read effect o false true is_v is_h w ws is =
    let g = one_gives _ effect (sym (ws refl) ∙ is) in
    record { value = g.0; is = g.1; gives = gives_class (inst.op == op.VARIABLE) (has_result_class (class_of inst.op)) (inst.op == op.STORE) (inst.op == op.PHI) is_h o.no_store o.no_phi }
by_variable program memory inst read effect o false false is_v is_h w ws is = let e = sym (ws refl) ∙ is in cc

skip : {A : Type 0} (x y : A) (b : Bool) → b ≡ false → (if b then x else y) ≡ y
skip x y true isnt = cc
skip x y false isnt = refl

pub other_effect : (program : Program) (memory : Memory) (read : List Value) (effect : Effect) (inst : Inst) → IsOther inst.op → effect_of program memory inst read ≡ Some effect → GivesValue inst effect
unfolding effect_of
other_effect program memory read effect inst o is =
    tested (inst.op == op.LABEL) _ _ _ o.no_label is (λ e. tested (inst.op == op.SELECTION_MERGE) _ _ _ o.no_selection e (λ e. tested (inst.op == op.LOOP_MERGE) _ _ _ o.no_loop e
    (λ e. by_variable program memory inst read effect o (inst.op == op.VARIABLE) (has_result_class (class_of inst.op)) refl refl _
    (λ _. skip _ _ (inst.op == op.STORE) o.no_store ∙ (skip _ _ (inst.op == op.BRANCH) o.no_branch ∙ (skip _ _ (inst.op == op.BRANCH_CONDITIONAL) o.no_conditional ∙ (skip _ _ (inst.op == op.SWITCH) o.no_switch
    ∙ (skip _ _ (inst.op == op.RETURN) o.no_return ∙ (skip _ _ (inst.op == op.UNREACHABLE) o.no_unreachable ∙ skip _ _ (inst.op == op.KILL) o.no_kill)))))) e)))
