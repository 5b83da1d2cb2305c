-- Instructions of a block run where their operands fit: by their class, and the others by their opcode.
use Rattle.std.proofs.Common.{◌≡◌, ℕ, ◌==◌, Bool, true, false, ◌||◌, if◌then◌else◌, List, [], ◌∷◌, drop, slice_index, refl, ap, sym, ◌∙◌, subst, Option, None, Some, is_some}
use Rattle.std.specs.Option.{option_map, option_and_then}
use Rattle.spirv_model.specs.declared.module.Inst.{Inst}
use Rattle.spirv_model.specs.declared.class.Class.TheVariants as class
use Rattle.spirv_model.specs.declared.class.ScalarClass.{ScalarClass}
use Rattle.spirv_model.specs.declared.op.TheConstants as op
use Rattle.spirv_model.specs.Operands.{entry_of, class_of, kinds}
use Rattle.valid_model.specs.declared.meaning.Meaning.{Meaning}
use Rattle.valid_model.specs.declared.meaning.Meaning.TheVariants.{Shape as OfShape, Variable}
use Rattle.valid_model.specs.declared.meaning.Shape.TheVariants.{Bool as OneBool, Int, Pointer as PointerType}
use Rattle.valid_model.specs.Knowledge.{is_bool, is_integer, is_data}
use Rattle.check_model.specs.Typing.{type_id, type_of, meaning_of}
use Rattle.check_model.specs.ScalarOperands.{scalar_operands_fit}
use Rattle.check_model.specs.CompositeOperands.{composite_operands_fit}
use Rattle.check_model.specs.MemoryOperands.{memory_operands_fit}
use Rattle.stage_model.specs.Value.{Value, Truth, Word, Pointer, Layout, OneTruth, OneWord, zero_of}
use Rattle.stage_model.specs.Program.{Program, pointee, held, held_layout}
use Rattle.stage_model.specs.Start.{Memory}
use Rattle.stage_model.specs.Operations.{operation}
use Rattle.stage_model.specs.Effect.{Gives, Goes, is_operation_class, has_result_class, read_ids, result_of, branches, target_for, picks, effect_of}
use Rattle.typed_model.specs.Values.{IsOfMeaning, IsOfType}
use Rattle.typed_model.specs.Types.{HasTypes, typing_in, Suits, AllSuit}
use Rattle.typed_model.specs.Effects.{Runs}
use Rattle.typed_model.proofs.Rows.{has_own_result, has_own_effect, operation_by_class}
use Rattle.typed_model.proofs.Layouts.{truth_of, word_of}
use Rattle.typed_model.proofs.TypeLayouts.{same, typed_result, type_has_layout}
use Rattle.typed_model.proofs.MemoryValues.{value_has}
use Rattle.typed_model.proofs.ScalarTypes.{scalar_typed}
use Rattle.typed_model.proofs.EffectsRun.{instruction, gives_result, load_runs, store_runs, chain_runs, construct_runs, extract_runs, insert_runs, shuffle_runs, any_runs, all_run}

-- ---- by a test of the opcode

pub at_op : (P : Inst → Type 0) (inst : Inst) (opcode : ℕ) → inst.op == opcode ≡ true → P (instruction opcode inst.words) → P inst
at_op P inst opcode is holds = subst (λ (o : ℕ). P (instruction o inst.words)) (sym (same inst.op opcode is)) holds

by_test : {Q : Type 0} (b x y : Bool) → (if b then x else y) ≡ true → (b ≡ true → Q) → (y ≡ true → Q) → Q
by_test true x y is here there = here refl
by_test false x y is here there = there is

-- it runs, where its operands fit by this rule and have values that suit them
abbrev pub RunsWhere : Program → (ℕ → Option ℕ) → Memory → ℕ → List Value → Bool → Inst → Type 0
RunsWhere program constant memory before values fits inst =
    is_some (kinds inst) ≡ true → fits ≡ true → AllSuit program constant (read_ids inst.op before inst.words) values → Runs program memory inst values

pub memory_runs : (program : Program) → HasTypes program → (constant : ℕ → Option ℕ) (vertex : Bool) (memory : Memory) (before : ℕ) (inst : Inst) (values : List Value)
    → RunsWhere program constant memory before values (memory_operands_fit (typing_in program constant vertex) inst) inst
unfolding memory_operands_fit
memory_runs program types constant vertex memory before inst values has fit suit =
    let P : Inst → Type 0 = λ inst. RunsWhere program constant memory before values (memory_operands_fit (typing_in program constant vertex) inst) inst in
    by_test (inst.op == op.LOAD) _ _ fit (λ is. at_op P inst op.LOAD is (load_runs program types constant vertex memory before inst.words values) has fit suit)
    (λ rest. by_test (inst.op == op.STORE) _ _ rest (λ is. at_op P inst op.STORE is (store_runs program types constant vertex memory before inst.words values) has fit suit)
    (λ rest. by_test (inst.op == op.ACCESS_CHAIN) _ _ rest (λ is. at_op P inst op.ACCESS_CHAIN is (chain_runs program types constant vertex memory before inst.words values) has fit suit) (λ never. cc)))

pub composite_runs : (program : Program) → HasTypes program → (constant : ℕ → Option ℕ) (vertex : Bool) (memory : Memory) (before : ℕ) (inst : Inst) (values : List Value)
    → RunsWhere program constant memory before values (composite_operands_fit (typing_in program constant vertex) inst) inst
unfolding composite_operands_fit
composite_runs program types constant vertex memory before inst values has fit suit =
    let P : Inst → Type 0 = λ inst. RunsWhere program constant memory before values (composite_operands_fit (typing_in program constant vertex) inst) inst in
    by_test (inst.op == op.COMPOSITE_CONSTRUCT) _ _ fit (λ is. at_op P inst op.COMPOSITE_CONSTRUCT is (construct_runs program types constant vertex memory before inst.words values) has fit suit)
    (λ rest. by_test (inst.op == op.COMPOSITE_EXTRACT) _ _ rest (λ is. at_op P inst op.COMPOSITE_EXTRACT is (extract_runs program types constant vertex memory before inst.words values) has fit suit)
    (λ rest. by_test (inst.op == op.COMPOSITE_INSERT) _ _ rest (λ is. at_op P inst op.COMPOSITE_INSERT is (insert_runs program types constant vertex memory before inst.words values) has fit suit)
    (λ rest. by_test (inst.op == op.VECTOR_SHUFFLE) _ _ rest (λ is. at_op P inst op.VECTOR_SHUFFLE is (shuffle_runs program types constant vertex memory before inst.words values) has fit suit)
    (λ rest. by_test (inst.op == op.ANY) _ _ rest (λ is. at_op P inst op.ANY is (any_runs program types constant vertex memory before inst.words values) has fit suit)
    (λ rest. by_test (inst.op == op.ALL) _ _ rest (λ is. at_op P inst op.ALL is (all_run program types constant vertex memory before inst.words values) has fit suit) (λ never. cc))))))

-- ---- scalar operations

skip : {A : Type 0} (x : A) {y : A} (b : Bool) → b ≡ false → (if b then x else y) ≡ y
skip x true isnt = cc
skip x false isnt = refl

take_it : {A : Type 0} (y : A) {x : A} (b : Bool) → b ≡ true → (if b then x else y) ≡ x
take_it y true is = refl
take_it y false is = cc

split : (a b : Bool) → (a || b) ≡ false → (a ≡ false) × (b ≡ false)
split true b is = cc
split false b is = (refl, is)

-- the tests of an opcode that the machine names nowhere
record Unnamed (opcode : ℕ) : Type 0 where
  phi : opcode == op.PHI ≡ false
  undef : opcode == op.UNDEF ≡ false
  load : opcode == op.LOAD ≡ false
  chain : opcode == op.ACCESS_CHAIN ≡ false
  shuffle : opcode == op.VECTOR_SHUFFLE ≡ false
  construct : opcode == op.COMPOSITE_CONSTRUCT ≡ false
  extract : opcode == op.COMPOSITE_EXTRACT ≡ false
  insert : opcode == op.COMPOSITE_INSERT ≡ false
  any : opcode == op.ANY ≡ false
  all : opcode == op.ALL ≡ false
  label : opcode == op.LABEL ≡ false
  selection : opcode == op.SELECTION_MERGE ≡ false
  loop_merge : opcode == op.LOOP_MERGE ≡ false
  variable : opcode == op.VARIABLE ≡ false
  store : opcode == op.STORE ≡ false
  branch : opcode == op.BRANCH ≡ false
  conditional : opcode == op.BRANCH_CONDITIONAL ≡ false
  switch : opcode == op.SWITCH ≡ false
  returns : opcode == op.RETURN ≡ false
  unreachable : opcode == op.UNREACHABLE ≡ false
  kill : opcode == op.KILL ≡ false

unnamed : (opcode : ℕ) → has_own_result opcode ≡ false → has_own_effect opcode ≡ false → Unnamed opcode
unnamed opcode no_result no_effect =
    let a = split (opcode == op.PHI) _ no_result in let b = split (opcode == op.UNDEF) _ a.1 in let c = split (opcode == op.LOAD) _ b.1 in
    let d = split (opcode == op.ACCESS_CHAIN) _ c.1 in let e = split (opcode == op.VECTOR_SHUFFLE) _ d.1 in let f = split (opcode == op.COMPOSITE_CONSTRUCT) _ e.1 in
    let g = split (opcode == op.COMPOSITE_EXTRACT) _ f.1 in let h = split (opcode == op.COMPOSITE_INSERT) _ g.1 in let i = split (opcode == op.ANY) _ h.1 in
    let j = split (opcode == op.LABEL) _ no_effect in let k = split (opcode == op.SELECTION_MERGE) _ j.1 in let l = split (opcode == op.LOOP_MERGE) _ k.1 in
    let m = split (opcode == op.VARIABLE) _ l.1 in let n = split (opcode == op.STORE) _ m.1 in let o = split (opcode == op.BRANCH) _ n.1 in
    let p = split (opcode == op.BRANCH_CONDITIONAL) _ o.1 in let q = split (opcode == op.SWITCH) _ p.1 in let r = split (opcode == op.RETURN) _ q.1 in
    let s = split (opcode == op.UNREACHABLE) _ r.1 in
    record {
      phi = a.0;
      undef = b.0;
      load = c.0;
      chain = d.0;
      shuffle = e.0;
      construct = f.0;
      extract = g.0;
      insert = h.0;
      any = i.0;
      all = i.1;
      label = j.0;
      selection = k.0;
      loop_merge = l.0;
      variable = m.0;
      store = n.0;
      branch = o.0;
      conditional = p.0;
      switch = q.0;
      returns = r.0;
      unreachable = s.0;
      kill = s.1;
    }

operation_is : (program : Program) (memory : Memory) (opcode type : ℕ) (words : List ℕ) (values : List Value) → Unnamed opcode → result_of program memory opcode type words values ≡ operation opcode values
unfolding result_of
operation_is program memory opcode type words values u =
    skip _ (opcode == op.PHI) u.phi ∙ (skip _ (opcode == op.UNDEF) u.undef ∙ (skip _ (opcode == op.LOAD) u.load ∙ (skip _ (opcode == op.ACCESS_CHAIN) u.chain ∙ (skip _ (opcode == op.VECTOR_SHUFFLE) u.shuffle
    ∙ (skip _ (opcode == op.COMPOSITE_CONSTRUCT) u.construct ∙ (skip _ (opcode == op.COMPOSITE_EXTRACT) u.extract ∙ skip _ (opcode == op.COMPOSITE_INSERT) u.insert))))))

effect_is : (program : Program) (memory : Memory) (inst : Inst) (values : List Value) → Unnamed inst.op → has_result_class (class_of inst.op) ≡ true
    → effect_of program memory inst values ≡ option_map Gives (result_of program memory inst.op (slice_index inst.words 0) (drop 2 inst.words) values)
unfolding effect_of
effect_is program memory inst values u has =
    skip _ (inst.op == op.LABEL) u.label ∙ (skip _ (inst.op == op.SELECTION_MERGE) u.selection ∙ (skip _ (inst.op == op.LOOP_MERGE) u.loop_merge ∙ (skip _ (inst.op == op.VARIABLE) u.variable ∙ (skip _ (inst.op == op.STORE) u.store
    ∙ (skip _ (inst.op == op.BRANCH) u.branch ∙ (skip _ (inst.op == op.BRANCH_CONDITIONAL) u.conditional ∙ (skip _ (inst.op == op.SWITCH) u.switch ∙ (skip _ (inst.op == op.RETURN) u.returns ∙ (skip _ (inst.op == op.UNREACHABLE) u.unreachable
    ∙ (skip _ (inst.op == op.KILL) u.kill ∙ take_it _ (has_result_class (class_of inst.op)) has))))))))))

or_right : (a b : Bool) → b ≡ true → (a || b) ≡ true
or_right true b is = refl
or_right false b is = is

pub scalar_reads : (opcode before : ℕ) (words : List ℕ) (operation : ScalarClass) → class_of opcode ≡ Some (class.Scalar operation) → read_ids opcode before words ≡ drop 2 words
unfolding read_ids
scalar_reads opcode before words operation is =
    let o = operation_by_class operation opcode is in
    let u = unnamed opcode o.no_result o.no_effect in
    skip _ (opcode == op.PHI) u.phi ∙ (skip _ (opcode == op.LOAD) u.load ∙ (skip _ (opcode == op.STORE) u.store ∙ (skip _ (opcode == op.VECTOR_SHUFFLE) u.shuffle ∙ (skip _ (opcode == op.COMPOSITE_EXTRACT) u.extract ∙ (skip _ (opcode == op.COMPOSITE_INSERT) u.insert
    ∙ (skip _ (opcode == op.BRANCH_CONDITIONAL) u.conditional ∙ (skip _ (opcode == op.SWITCH) u.switch ∙ take_it _ ((opcode == op.ACCESS_CHAIN) || is_operation_class (class_of opcode)) (or_right (opcode == op.ACCESS_CHAIN) _ (ap is_operation_class is)))))))))

-- a scalar operation gives its result
pub scalar_effect : (program : Program) (memory : Memory) (inst : Inst) (values : List Value) (operation_class : ScalarClass) → class_of inst.op ≡ Some (class.Scalar operation_class)
    → effect_of program memory inst values ≡ option_map Gives (operation inst.op values)
scalar_effect program memory inst values operation_class is =
    let o = operation_by_class operation_class inst.op is in
    let u = unnamed inst.op o.no_result o.no_effect in
    effect_is program memory inst values u (ap has_result_class is) ∙ ap (option_map Gives) (operation_is program memory inst.op (slice_index inst.words 0) (drop 2 inst.words) values u)

-- and is no reduction
pub no_reduction : (opcode : ℕ) (operation_class : ScalarClass) → class_of opcode ≡ Some (class.Scalar operation_class) → (opcode == op.ANY ≡ false) × (opcode == op.ALL ≡ false)
no_reduction opcode operation_class is =
    let o = operation_by_class operation_class opcode is in
    let u = unnamed opcode o.no_result o.no_effect in
    (u.any, u.all)

pub scalar_runs : (program : Program) → HasTypes program → (constant : ℕ → Option ℕ) (vertex : Bool) (memory : Memory) (before : ℕ) (inst : Inst) (values : List Value) (operation : ScalarClass) → class_of inst.op ≡ Some (class.Scalar operation)
    → RunsWhere program constant memory before values (scalar_operands_fit (typing_in program constant vertex) operation (slice_index inst.words 0) (drop 2 inst.words)) inst
scalar_runs program types constant vertex memory before inst values operation is has fit suit =
    let o = operation_by_class operation inst.op is in
    let u = unnamed inst.op o.no_result o.no_effect in
    gives_result program memory inst values _ (effect_is program memory inst values u (ap has_result_class is) ∙ ap (option_map Gives) (operation_is program memory inst.op (slice_index inst.words 0) (drop 2 inst.words) values u))
    (scalar_typed program types constant vertex operation inst.op (slice_index inst.words 0) (drop 2 inst.words) values o.is u.any u.all fit (subst (λ ids. AllSuit program constant ids values) (scalar_reads inst.op before inst.words operation is) suit))

-- ---- OpUndef, OpPhi and OpVariable

undef_effect : (program : Program) (memory : Memory) (words : List ℕ) (values : List Value) → effect_of program memory (instruction op.UNDEF words) values ≡ option_map Gives (option_map zero_of (program.layout (slice_index words 0)))
unfolding class_of entry_of effect_of result_of
undef_effect program memory words values = refl

pub undef_runs : (program : Program) → HasTypes program → (memory : Memory) (words : List ℕ) (values : List Value) → is_data (program.meaning (slice_index words 0)) ≡ true → Runs program memory (instruction op.UNDEF words) values
undef_runs program types memory words values fit =
    let l = types.there (slice_index words 0) fit in
    gives_result program memory (instruction op.UNDEF words) values _ (undef_effect program memory words values)
    (typed_result program types (slice_index words 0) l.0 _ l.1 (record { value = zero_of l.0; is = ap (option_map zero_of) l.1; has = value_has l.0 [] }))

phi_effect : (program : Program) (memory : Memory) (words : List ℕ) (value : Value) → effect_of program memory (instruction op.PHI words) (value ∷ []) ≡ Some (Gives value)
unfolding class_of entry_of effect_of result_of
phi_effect program memory words value = refl

-- a phi that reads a value of its type
pub phi_runs : (program : Program) (memory : Memory) (words : List ℕ) (value : Value) → IsOfType program (slice_index words 0) value → Runs program memory (instruction op.PHI words) (value ∷ [])
phi_runs program memory words value is = record { effect = Gives value; is = phi_effect program memory words value; typed = is }

holds_whole : (program : Program) (id type class to : ℕ) (whole : Layout) → program.meaning id ≡ Variable type class → program.meaning type ≡ OfShape (PointerType class to) → program.layout to ≡ Some whole → held_layout program id ≡ Some whole
unfolding held_layout
holds_whole program id type class to whole is means known =
    ap (λ (m : Meaning). option_and_then program.layout (held program.meaning m)) is ∙ (ap (λ (m : Meaning). option_and_then program.layout (pointee m)) means ∙ known)

-- the pointer to a whole variable
pub whole_variable : (program : Program) → HasTypes program → (id type class : ℕ) → program.meaning id ≡ Variable type class → IsOfType program type (Pointer id [])
whole_variable program types id type class is =
    let v = types.variable id type class is in
    let l = types.there v.0 (types.pointee type class v.0 v.1) in
    subst (λ m. IsOfMeaning program type m (Pointer id [])) (sym v.1)
    (record { held = type; is_variable = is; whole = l.0; holds = holds_whole program id type class v.0 l.0 is v.1 l.1; place = 0; layout = l.0; found = refl; known = l.1 })

variable_effect : (program : Program) (memory : Memory) (words : List ℕ) (values : List Value) → effect_of program memory (instruction op.VARIABLE words) values ≡ Some (Gives (Pointer (slice_index words 1) []))
unfolding effect_of
variable_effect program memory words values = refl

pub variable_runs : (program : Program) → HasTypes program → (memory : Memory) (words : List ℕ) (values : List Value) (class : ℕ) → program.meaning (slice_index words 1) ≡ Variable (slice_index words 0) class
    → Runs program memory (instruction op.VARIABLE words) values
variable_runs program types memory words values class is = record {
  effect = Gives (Pointer (slice_index words 1) []);
  is = variable_effect program memory words values;
  typed = whole_variable program types (slice_index words 1) (slice_index words 0) class is;
}

-- ---- terminators that choose

bool_by : (m : Meaning) → is_bool m ≡ true → m ≡ OfShape OneBool
bool_by (OfShape OneBool) is = refl
bool_by m is = cc

condition_is : (program : Program) → HasTypes program → (constant : ℕ → Option ℕ) (vertex : Bool) (id : ℕ) (value : Value) (type : Option ℕ) → type_id (program.meaning id) ≡ type → is_bool (meaning_of (typing_in program constant vertex) type) ≡ true
    → Suits program constant id value → (b : Bool) × (value ≡ Truth b)
condition_is program types constant vertex id value None of is suits = cc
condition_is program types constant vertex id value (Some type) of is suits =
    truth_of value (type_has_layout program types type value OneTruth (types.shaped type OneBool (bool_by (program.meaning type) is)) (suits.of_type type of))

integer_by : (m : Meaning) → is_integer m ≡ true → (signed : Bool) × (m ≡ OfShape (Int signed))
integer_by (OfShape (Int signed)) is = (signed, refl)
integer_by m is = cc

selector_is : (program : Program) → HasTypes program → (constant : ℕ → Option ℕ) (vertex : Bool) (id : ℕ) (value : Value) (type : Option ℕ) → type_id (program.meaning id) ≡ type → is_integer (meaning_of (typing_in program constant vertex) type) ≡ true
    → Suits program constant id value → (word : ℕ) × (value ≡ Word word)
selector_is program types constant vertex id value None of is suits = cc
selector_is program types constant vertex id value (Some type) of is suits =
    let i = integer_by (program.meaning type) is in
    word_of value (type_has_layout program types type value OneWord (types.shaped type (Int i.0) i.1) (suits.of_type type of))

conditional_effect : (program : Program) (memory : Memory) (words : List ℕ) (values : List Value) → effect_of program memory (instruction op.BRANCH_CONDITIONAL words) values ≡ branches values (slice_index words 1) (slice_index words 2)
unfolding effect_of
conditional_effect program memory words values = refl

pub conditional_runs : (program : Program) → HasTypes program → (constant : ℕ → Option ℕ) (vertex : Bool) (memory : Memory) (words : List ℕ) (value : Value) → is_bool (type_of (typing_in program constant vertex) (slice_index words 0)) ≡ true
    → Suits program constant (slice_index words 0) value → Runs program memory (instruction op.BRANCH_CONDITIONAL words) (value ∷ [])
conditional_runs program types constant vertex memory words value fit suits =
    let c = condition_is program types constant vertex (slice_index words 0) value _ refl fit suits in
    record {
      effect = Goes (if c.0 then slice_index words 1 else slice_index words 2);
      is = conditional_effect program memory words (value ∷ []) ∙ ap (λ (v : Value). branches (v ∷ []) (slice_index words 1) (slice_index words 2)) c.1;
      typed = tt;
    }

switch_effect : (program : Program) (memory : Memory) (words : List ℕ) (values : List Value) → effect_of program memory (instruction op.SWITCH words) values ≡ picks values (slice_index words 1) (drop 2 words)
unfolding effect_of
switch_effect program memory words values = refl

pub switch_runs : (program : Program) → HasTypes program → (constant : ℕ → Option ℕ) (vertex : Bool) (memory : Memory) (words : List ℕ) (value : Value) → is_integer (type_of (typing_in program constant vertex) (slice_index words 0)) ≡ true
    → Suits program constant (slice_index words 0) value → Runs program memory (instruction op.SWITCH words) (value ∷ [])
switch_runs program types constant vertex memory words value fit suits =
    let c = selector_is program types constant vertex (slice_index words 0) value _ refl fit suits in
    record {
      effect = Goes (target_for c.0 (slice_index words 1) (drop 2 words));
      is = switch_effect program memory words (value ∷ []) ∙ ap (λ (v : Value). picks (v ∷ []) (slice_index words 1) (drop 2 words)) c.1;
      typed = tt;
    }
