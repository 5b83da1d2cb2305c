-- What a scalar operation on constants gives is known: folded, the list does the same in fewer steps.
use Rattle.std.proofs.Common.{◌≡◌, ℕ, ◌+◌, ◌<◌, ◌≤◌, ◌==◌, ◌||◌, Bool, true, false, nat_le, if◌then◌else◌, List, [], ◌∷◌, length, drop, slice_index, refl, ap, sym, ◌∙◌, arith, Option, None, Some}
use Rattle.std.specs.Prelude.{slice_get}
use Rattle.std.specs.Option.{option_map, option_and_then}
use Rattle.std.proofs.lemmas.Bool.Decides.{nat_tests}
use Rattle.std.proofs.lemmas.Option.{slice_get_within, get_or_from_slice_get}
use Rattle.limits.specs.declared.TheConstants.{BACK_EDGES}
use Rattle.spirv_model.specs.declared.module.Inst.{Inst}
use Rattle.spirv_model.specs.declared.module.Words.{Words}
use Rattle.spirv_model.specs.declared.class.Class.{Class}
use Rattle.spirv_model.specs.declared.class.Class.TheVariants as class
use Rattle.spirv_model.specs.declared.op.TheConstants as op
use Rattle.spirv_model.specs.Operands.{word_at, words_from, entry_of, class_of, result}
use Rattle.body_model.specs.Switches.{is_among}
use Rattle.check_model.specs.Validity.{IsValidList}
use Rattle.valid_model.specs.Definitions.{has_result, gives, inst_at, no_instruction}
use Rattle.stage_model.specs.declared.outcome.Kind.TheVariants.{Lost}
use Rattle.stage_model.specs.Value.{Value}
use Rattle.stage_model.specs.Program.{Program, program_of}
use Rattle.stage_model.specs.Start.{Values, Memory, with_value, all_values}
use Rattle.stage_model.specs.Operations.{operation}
use Rattle.stage_model.specs.Effect.{Effect, Passes, Gives, Writes, Enters, Goes, Stops, has_result_class, is_operation_class, read_ids, result_of, effect_of}
use Rattle.stage_model.specs.Machine.{State, Flow, Next, To, Stopped, read_from, after_effect, Machine, Step, GoesOn, Ends, at, jump, led, step}
use Rattle.stage_model.specs.Leads.{machine}
use Rattle.typed_model.specs.Running.{IsRunning, Acts}
use Rattle.typed_model.proofs.BlockParts.{another}
use Rattle.typed_model.proofs.RunningDoes.{running_does}
use Rattle.change_model.proofs.Followed.{same_insts}
use Rattle.change_model.proofs.GivenResults.{gives_result}
use Rattle.change_model.proofs.KnownResults.{GivesOther}
use Rattle.change_model.proofs.KnownRuns.{GivesKnown}
use Rattle.change_model.proofs.MachineSteps.{step_is}

-- ---- the opcode of a scalar operation

abbrev pub is_scalar_class : Option Class → Bool
is_scalar_class (Some (class.Scalar operation)) = true
is_scalar_class other = false

abbrev pub is_scalar : ℕ → Bool
is_scalar opcode = is_scalar_class (class_of opcode)

-- none of these is one
pub record AreOthers : Type 0 where
  pub label : is_scalar op.LABEL ≡ false
  pub selection_merge : is_scalar op.SELECTION_MERGE ≡ false
  pub loop_merge : is_scalar op.LOOP_MERGE ≡ false
  pub variable : is_scalar op.VARIABLE ≡ false
  pub store : is_scalar op.STORE ≡ false
  pub branch : is_scalar op.BRANCH ≡ false
  pub branch_conditional : is_scalar op.BRANCH_CONDITIONAL ≡ false
  pub switch : is_scalar op.SWITCH ≡ false
  pub ending : is_scalar op.RETURN ≡ false
  pub unreachable : is_scalar op.UNREACHABLE ≡ false
  pub kill : is_scalar op.KILL ≡ false
  pub phi : is_scalar op.PHI ≡ false
  pub undef : is_scalar op.UNDEF ≡ false
  pub load : is_scalar op.LOAD ≡ false
  pub access_chain : is_scalar op.ACCESS_CHAIN ≡ false
  pub shuffle : is_scalar op.VECTOR_SHUFFLE ≡ false
  pub construct : is_scalar op.COMPOSITE_CONSTRUCT ≡ false
  pub extract : is_scalar op.COMPOSITE_EXTRACT ≡ false
  pub insert : is_scalar op.COMPOSITE_INSERT ≡ false

pub others : AreOthers
unfolding class_of entry_of
others = record {
  label = refl;
  selection_merge = refl;
  loop_merge = refl;
  variable = refl;
  store = refl;
  branch = refl;
  branch_conditional = refl;
  switch = refl;
  ending = refl;
  unreachable = refl;
  kill = refl;
  phi = refl;
  undef = refl;
  load = refl;
  access_chain = refl;
  shuffle = refl;
  construct = refl;
  extract = refl;
  insert = refl;
}

pub differs : (own opcode : ℕ) → is_scalar own ≡ false → is_scalar opcode ≡ true → opcode == own ≡ false
differs own opcode isnt is = another is_scalar own isnt opcode is

pub result_class : (of : Option Class) → is_scalar_class of ≡ true → has_result_class of ≡ true
result_class None is = cc
result_class (Some (class.Scalar operation)) is = refl
result_class (Some other) is = cc

is_operation : (of : Option Class) → is_scalar_class of ≡ true → is_operation_class of ≡ true
is_operation None is = cc
is_operation (Some (class.Scalar operation)) is = refl
is_operation (Some other) is = cc

operation_result : (program : Program) (memory : Memory) (opcode type : ℕ) (words : List ℕ) (values : List Value) → is_scalar opcode ≡ true → result_of program memory opcode type words values ≡ operation opcode values
unfolding result_of
operation_result program memory opcode type words values is =
    rw (differs op.PHI opcode others.phi is) (rw (differs op.UNDEF opcode others.undef is) (rw (differs op.LOAD opcode others.load is) (rw (differs op.ACCESS_CHAIN opcode others.access_chain is)
    (rw (differs op.VECTOR_SHUFFLE opcode others.shuffle is) (rw (differs op.COMPOSITE_CONSTRUCT opcode others.construct is) (rw (differs op.COMPOSITE_EXTRACT opcode others.extract is)
    (rw (differs op.COMPOSITE_INSERT opcode others.insert is) refl)))))))

pub operation_effect : (program : Program) (memory : Memory) (inst : Inst) (values : List Value) → is_scalar inst.op ≡ true → effect_of program memory inst values ≡ option_map Gives (operation inst.op values)
unfolding effect_of
operation_effect program memory inst values is =
    rw (differs op.LABEL inst.op others.label is) (rw (differs op.SELECTION_MERGE inst.op others.selection_merge is) (rw (differs op.LOOP_MERGE inst.op others.loop_merge is)
    (rw (differs op.VARIABLE inst.op others.variable is) (rw (differs op.STORE inst.op others.store is) (rw (differs op.BRANCH inst.op others.branch is)
    (rw (differs op.BRANCH_CONDITIONAL inst.op others.branch_conditional is) (rw (differs op.SWITCH inst.op others.switch is) (rw (differs op.RETURN inst.op others.ending is)
    (rw (differs op.UNREACHABLE inst.op others.unreachable is) (rw (differs op.KILL inst.op others.kill is) (rw (result_class (class_of inst.op) is)
    (ap (option_map Gives) (operation_result program memory inst.op (slice_index inst.words 0) (drop 2 inst.words) values is)))))))))))))

pub operation_reads : (inst : Inst) (state : State) → is_scalar inst.op ≡ true → all_values (read_from state inst.op) (read_ids inst.op state.before inst.words) ≡ all_values state.values (words_from 2 inst)
unfolding read_ids
operation_reads inst state is =
    rw (differs op.PHI inst.op others.phi is) (rw (differs op.LOAD inst.op others.load is) (rw (differs op.STORE inst.op others.store is) (rw (differs op.VECTOR_SHUFFLE inst.op others.shuffle is)
    (rw (differs op.COMPOSITE_EXTRACT inst.op others.extract is) (rw (differs op.COMPOSITE_INSERT inst.op others.insert is) (rw (differs op.BRANCH_CONDITIONAL inst.op others.branch_conditional is)
    (rw (differs op.SWITCH inst.op others.switch is) (rw (differs op.ACCESS_CHAIN inst.op others.access_chain is) (rw (is_operation (class_of inst.op) is) refl)))))))))

-- ---- ids that the function doesn't give a value keep theirs

-- what is read of ids that have the same values
pub same_reads : (new old : Values) (ids : List ℕ) → ((id : ℕ) → is_among id ids ≡ true → new id ≡ old id) → all_values new ids ≡ all_values old ids
same_reads new old [] same = refl
same_reads new old (id ∷ ids) same =
    ap (option_and_then (λ (a : Value). option_map (λ (l : List Value). a ∷ l) (all_values new ids))) (same id (ap (λ (b : Bool). b || is_among id ids) (self id)))
    ∙ ap (λ (o : Option (List Value)). option_and_then (λ (a : Value). option_map (λ (l : List Value). a ∷ l) o) (old id)) (same_reads new old ids (λ other among. same other (or_right (id == other) (is_among other ids) among)))
  where
    self : (a : ℕ) → a == a ≡ true
    self a = grind (arith, nat_tests)

    or_right : (a b : Bool) → b ≡ true → (a || b) ≡ true
    or_right true b is = refl
    or_right false b is = is

-- a step changes values by its effect alone
stepped : (from to : ℕ) (state : State) (next : Machine) (back full : Bool)
    → (if back then (if full then Ends (Lost) (record state { back_edges = state.back_edges + 1 }) else at to (record state { back_edges = state.back_edges + 1 })) else at to state) ≡ GoesOn next → next.state.values ≡ state.values
stepped from to state next true true is = cc
stepped from to state next true false is = ap (λ (m : Machine). m.state.values) (sym (same_machine _ next is))
  where
    same_machine : (a b : Machine) → GoesOn a ≡ GoesOn b → a ≡ b
    same_machine a b is = cc
stepped from to state next false full is = ap (λ (m : Machine). m.state.values) (sym (same_machine _ next is))
  where
    same_machine : (a b : Machine) → GoesOn a ≡ GoesOn b → a ≡ b
    same_machine a b is = cc

some_step : (a b : Step) → ◌≡◌ {A = Option Step} (Some a) (Some b) → a ≡ b
some_step a b is = cc

led_values : (program : Program) (place : ℕ) (flow : Flow) (state : State) (next : Machine) → led program place (flow, state) ≡ Some (GoesOn next) → next.state.values ≡ state.values
led_values program place Next state next is = ap (λ (m : Machine). m.state.values) (sym (one (some_step _ (GoesOn next) is)))
  where
    one : {a b : Machine} → GoesOn a ≡ GoesOn b → a ≡ b
    one is = cc
led_values program place (Stopped kind) state next is = cc
led_values program place (To label) state next is = by_place (program.label_place label) is
  where
    by_place : (to : Option ℕ) → option_map (λ (to : ℕ). jump place to state) to ≡ Some (GoesOn next) → next.state.values ≡ state.values
    by_place None is = cc
    by_place (Some to) is = stepped place to state next (nat_le to place) (nat_le BACK_EDGES (state.back_edges + 1)) (some_step _ (GoesOn next) is)

other_value : (own id : ℕ) (value : Option Value) (values : Values) → id == own ≡ false → with_value own value values id ≡ values id
other_value own id value values isnt = ap (λ (b : Bool). if b then value else values id) isnt

effect_values : (inst : Inst) (state : State) (effect : Effect) (id : ℕ) → id == word_at 1 inst ≡ false → (after_effect inst state effect).1.values id ≡ state.values id
effect_values inst state (Gives value) id isnt = other_value (word_at 1 inst) id (Some value) state.values isnt
effect_values inst state Passes id isnt = refl
effect_values inst state (Writes variable place words) id isnt = refl
effect_values inst state (Enters label) id isnt = refl
effect_values inst state (Goes label) id isnt = refl
effect_values inst state (Stops kind) id isnt = refl

flip : (a b : ℕ) → a == b ≡ false → b == a ≡ false
flip a b is = grind (arith, nat_tests)

kept_by_effect : (inst : Inst) (state : State) (effect : Effect) (id : ℕ) → GivesOther id inst effect → (after_effect inst state effect).1.values id ≡ state.values id
kept_by_effect inst state (Gives value) id other = effect_values inst state (Gives value) id (flip (word_at 1 inst) id other)
kept_by_effect inst state Passes id other = refl
kept_by_effect inst state (Writes variable place words) id other = refl
kept_by_effect inst state (Enters label) id other = refl
kept_by_effect inst state (Goes label) id other = refl
kept_by_effect inst state (Stops kind) id other = refl

-- ids have these values
abbrev pub OperandsAre : List ℕ → Values → State → Type 0
OperandsAre ids first state = (id : ℕ) → is_among id ids ≡ true → state.values id ≡ first id

-- no instruction of the function gives the id a value
abbrev pub IsOfLevel : (words : Words) → IsValidList words → ℕ → Type 0
IsOfLevel words v id = (k : ℕ) → v.derivation.before + 1 ≤ k → k < length words.insts → gives id (inst_at words.insts k) ≡ false

others_given : (words : Words) (v : IsValidList words) (id : ℕ) → IsOfLevel words v id → (n : Machine) → IsRunning words.insts v.derivation n → (a : Acts words.insts n) → GivesOther id a.inst a.runs.effect
others_given words v id level n r a = by_effect a.runs.effect a.runs.is
  where
    here : inst_at words.insts n.place ≡ a.inst
    here = get_or_from_slice_get words.insts n.place a.inst no_instruction a.at

    by_effect : (effect : Effect) → effect_of (program_of words.insts) n.state.memory a.inst a.read ≡ Some effect → GivesOther id a.inst effect
    by_effect (Gives value) is =
        sym (ap (has_result id) (gives_result (program_of words.insts) n.state.memory a.inst a.read value is))
        ∙ ap (gives id) (sym here) ∙ level n.place r.low (slice_get_within words.insts n.place a.inst a.at)
    by_effect Passes is = tt
    by_effect (Writes variable place written) is = tt
    by_effect (Enters label) is = tt
    by_effect (Goes label) is = tt
    by_effect (Stops kind) is = tt

stepped_by : (words : Words) (n : Machine) (a : Acts words.insts n) → step (program_of words.insts) n ≡ led (program_of words.insts) n.place (after_effect a.inst n.state a.runs.effect)
stepped_by words n a =
    step_is (program_of words.insts) n a.inst (after_effect a.inst n.state a.runs.effect) (ap (λ (i : List Inst). slice_get i n.place) (same_insts words.insts) ∙ a.at) a.is_done

operands_keep : (words : Words) (v : IsValidList words) (ids : List ℕ) (first : Values) → ((id : ℕ) → is_among id ids ≡ true → IsOfLevel words v id) → (n next : Machine) → IsRunning words.insts v.derivation n → OperandsAre ids first n.state
    → step (program_of words.insts) n ≡ Some (GoesOn next) → OperandsAre ids first next.state
operands_keep words v ids first level n next r are is = λ id among.
    let a = running_does words v n r in
    let after = after_effect a.inst n.state a.runs.effect in
    ap (λ (values : Values). values id) (led_values (program_of words.insts) n.place after.0 after.1 next (sym (stepped_by words n a) ∙ is))
    ∙ kept_by_effect a.inst n.state a.runs.effect id (others_given words v id (level id among) n r a) ∙ are id among

same_some : {A : Type 0} (found : Option A) (a b : A) → found ≡ Some a → found ≡ Some b → a ≡ b
same_some found a b is also = cc

operation_gives : (words : Words) (v : IsValidList words) (place : ℕ) (value : Value) (first : Values) (reads : List Value) → is_scalar (inst_at words.insts place).op ≡ true
    → all_values first (words_from 2 (inst_at words.insts place)) ≡ Some reads → operation (inst_at words.insts place).op reads ≡ Some value
    → (n : Machine) → IsRunning words.insts v.derivation n → OperandsAre (words_from 2 (inst_at words.insts place)) first n.state → n.place ≡ place
    → step (program_of words.insts) n ≡ Some (GoesOn (machine (place + 1) (after_effect (inst_at words.insts place) n.state (Gives value)).1))
operation_gives words v place value first reads scalar read is n r are there =
    let q = program_of words.insts in
    let x = inst_at words.insts place in
    let a = running_does words v n r in
    let here : a.inst ≡ x = sym (get_or_from_slice_get words.insts n.place a.inst no_instruction a.at) ∙ ap (λ (k : ℕ). inst_at words.insts k) there in
    let found : all_values n.state.values (words_from 2 x) ≡ Some a.read =
    sym (operation_reads x n.state scalar) ∙ ap (λ (i : Inst). all_values (read_from n.state i.op) (read_ids i.op n.state.before i.words)) (sym here) ∙ a.are in
    let one : a.read ≡ reads = same_some (all_values n.state.values (words_from 2 x)) a.read reads found (same_reads n.state.values first (words_from 2 x) are ∙ read) in
    let effect : a.runs.effect ≡ Gives value = same_some (effect_of q n.state.memory a.inst a.read) a.runs.effect (Gives value) a.runs.is
    (ap (λ (i : Inst). effect_of q n.state.memory i a.read) here ∙ ap (effect_of q n.state.memory x) one ∙ operation_effect q n.state.memory x reads scalar ∙ ap (option_map Gives) is) in
    stepped_by words n a
    ∙ ap (λ (i : Inst). led q n.place (after_effect i n.state a.runs.effect)) here
    ∙ ap (λ (e : Effect). led q n.place (after_effect x n.state e)) effect
    ∙ ap (λ (k : ℕ). Some (at (k + 1) (after_effect x n.state (Gives value)).1)) there

-- the result of a scalar operation on ids that the module's level gives their values is known
pub operation_known : (words : Words) (v : IsValidList words) (place own : ℕ) (value : Value) (first : Values) (reads : List Value) → place < length words.insts → result (inst_at words.insts place) ≡ Some own
    → word_at 1 (inst_at words.insts place) ≡ own → is_scalar (inst_at words.insts place).op ≡ true → all_values first (words_from 2 (inst_at words.insts place)) ≡ Some reads
    → operation (inst_at words.insts place).op reads ≡ Some value → ((id : ℕ) → is_among id (words_from 2 (inst_at words.insts place)) ≡ true → IsOfLevel words v id)
    → GivesKnown words v place own value (OperandsAre (words_from 2 (inst_at words.insts place)) first)
operation_known words v place own value first reads within result_is id scalar read is level = record {
  within = within;
  result_is = result_is;
  id = id;
  gives_it = operation_gives words v place value first reads scalar read is;
  keeps = operands_keep words v (words_from 2 (inst_at words.insts place)) first level;
}
