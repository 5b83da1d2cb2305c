-- What the result of an instruction that defines a value on the module's level means.
use Rattle.std.proofs.Common.{◌≡◌, ℕ, ◌+◌, ◌<◌, ◌==◌, ◌&&◌, ◌||◌, Bool, true, false, not, if◌then◌else◌, nat_le, List, [], ◌∷◌, length, slice_index, refl, ap, sym, ◌∙◌, subst, arith, Option, None, Some}
use Rattle.std.specs.Option.{option_map, unwrap_or}
use Rattle.std.proofs.lemmas.Bool.Decides.{nat_tests}
use Rattle.basics.proofs.Bools.{first_of_both, second_of_both}
use Rattle.spirv_model.specs.declared.module.Inst.{Inst}
use Rattle.spirv_model.specs.declared.module.Words.{Words}
use Rattle.spirv_model.specs.declared.op.TheConstants as op
use Rattle.spirv_model.specs.Operands.{word_at, words_from, entry_of, class_of}
use Rattle.valid_model.specs.declared.meaning.IdFacts.{IdFacts}
use Rattle.valid_model.specs.declared.meaning.Meaning.{Meaning}
use Rattle.valid_model.specs.declared.meaning.Meaning.TheVariants.{Absent, Shape as OfShape, Variable, Value, Label, Other}
use Rattle.valid_model.specs.declared.meaning.Shape.{Shape}
use Rattle.valid_model.specs.declared.meaning.Shape.TheVariants.{Void, Bool as Truth, Int, BoolVector, IntVector, Array, Struct, Pointer, Function}
use Rattle.valid_model.specs.Definitions.{definition, inst_at}
use Rattle.valid_model.specs.Knowledge.{Knowledge, a_type, means, meaning_in, is_data, is_storage_class}
use Rattle.valid_model.specs.Types.{is_type, vector_shape, struct_size, type_of, is_pointer_of, breaks_types}
use Rattle.valid_model.specs.Meanings.{is_constant, constant_known, variable_meaning, known_of, known_before, meaning}
use Rattle.valid_model.proofs.KnownIds.{known_by_definition, known_stays, unknown_without_definition}
use Rattle.check_model.specs.Typing.{type_id}
use Rattle.check_model.specs.Validity.{IsValidList}
use Rattle.typed_model.proofs.PlainRuns.{at_op}
use Rattle.typed_model.proofs.EffectsRun.{instruction}
use Rattle.typed_model.proofs.ResultIds.{defines, defined_id}
use Rattle.typed_model.proofs.ValidTypes.{keeps_rules, stays_known}
use Rattle.typed_model.proofs.ModuleValues.{defined_at, meaning_at}
use Rattle.typed_model.proofs.ModuleSteps.{constant_known_by}
use Rattle.frame_model.proofs.ResultWords.{makes_variable}
use Rattle.spv_exec.specs.FirstFrames.{defines_value}

-- ---- pointer types name a storage class

record IsStored (type : Option IdFacts) : Type 0 where
  is : (class to : ℕ) → (unwrap_or type (means Other)).meaning ≡ OfShape (Pointer class to) → is_storage_class class ≡ true

choose_type : {x y : Option IdFacts} (b : Bool) → IsStored x → IsStored y → IsStored (if b then x else y)
choose_type true f g = f
choose_type false f g = g

no_type : IsStored None
no_type = record { is = λ class to is. absurd (never class to is) }
  where
    never : (class to : ℕ) → ◌≡◌ {A = Meaning} Other (OfShape (Pointer class to)) → ⊥
    never class to is = cc

abbrev is_pointer : Shape → Bool
is_pointer (Pointer class to) = true
is_pointer shape = false

a_shape : (shape : Shape) (size : ℕ) → is_pointer shape ≡ false → IsStored (Some (a_type shape size))
a_shape shape size isnt = record { is = λ class to is. absurd (never shape class to isnt is) }
  where
    same : (a b : Shape) → ◌≡◌ {A = Meaning} (OfShape a) (OfShape b) → a ≡ b
    same a b is = cc

    never : (shape : Shape) (class to : ℕ) → is_pointer shape ≡ false → ◌≡◌ {A = Meaning} (OfShape shape) (OfShape (Pointer class to)) → ⊥
    never shape class to isnt is = let e : is_pointer shape ≡ true = ap is_pointer (same shape (Pointer class to) is) in cc

vector_stored : (component : Meaning) (count : ℕ) → IsStored (option_map (λ shape. a_type shape count) (vector_shape component count))
vector_stored (OfShape Truth) count = a_shape (BoolVector count) count refl
vector_stored (OfShape (Int signed)) count = a_shape (IntVector count signed) count refl
vector_stored m count = no_type

size_stored : (shape : Shape) (size : Option ℕ) → is_pointer shape ≡ false → IsStored (option_map (λ size. a_type shape size) size)
size_stored shape None isnt = no_type
size_stored shape (Some size) isnt = a_shape shape size isnt

a_choice : (b : Bool) (shape : Shape) (size : ℕ) → is_pointer shape ≡ false → IsStored (if b then Some (a_type shape size) else None)
a_choice true shape size isnt = a_shape shape size isnt
a_choice false shape size isnt = no_type

pointer_stored : (class to : ℕ) (stored data_ok : Bool) → is_storage_class class ≡ stored → IsStored (if stored && data_ok then Some (a_type (Pointer class to) 0) else None)
pointer_stored class to true true is = record { is = λ other target e. ap is_storage_class (sym (same class to other target e)) ∙ is }
  where
    same : (a b c d : ℕ) → ◌≡◌ {A = Meaning} (OfShape (Pointer a b)) (OfShape (Pointer c d)) → a ≡ c
    same a b c d is = cc
pointer_stored class to true false is = no_type
pointer_stored class to false data_ok is = no_type

type_stored : (known : Knowledge) (inst : Inst) → IsStored (type_of known inst)
unfolding type_of
type_stored known inst =
    choose_type (inst.op == op.TYPE_VOID) (a_shape Void 0 refl) (choose_type (inst.op == op.TYPE_BOOL) (a_shape Truth 1 refl)
    (choose_type (inst.op == op.TYPE_INT) (a_choice _ (Int (word_at 2 inst == 1)) 1 refl)
    (choose_type (inst.op == op.TYPE_VECTOR) (choose_type (nat_le 2 (word_at 2 inst) && nat_le (word_at 2 inst) 4) (vector_stored (meaning_in (known (word_at 1 inst))) (word_at 2 inst)) no_type)
    (choose_type (inst.op == op.TYPE_ARRAY) (a_choice _ _ _ refl)
    (choose_type (inst.op == op.TYPE_STRUCT) (size_stored _ (struct_size known (words_from 1 inst)) refl)
    (choose_type (inst.op == op.TYPE_POINTER) (pointer_stored (word_at 1 inst) (word_at 2 inst) (is_storage_class (word_at 1 inst)) (is_data (meaning_in (known (word_at 2 inst)))) refl)
    (choose_type (inst.op == op.TYPE_FUNCTION) (a_choice _ _ _ refl) no_type)))))))

known_stored : (known : Knowledge) (inst : Inst) (class to : ℕ) → (known_of known inst).meaning ≡ OfShape (Pointer class to) → is_storage_class class ≡ true
unfolding known_of
known_stored known inst class to is =
    by_tests known inst class to (is_type inst.op) (is_constant inst.op) (inst.op == op.VARIABLE) (is_storage_class (word_at 2 inst)) (inst.op == op.LABEL) _ is
  where
    by_tests : (known : Knowledge) (inst : Inst) (class to : ℕ) (t c v s l o : Bool)
        → (if t then unwrap_or (type_of known inst) (means Other) else if c then constant_known known inst.op (word_at 0 inst) (word_at 2 inst)
        else if v then means (if s then Variable (word_at 0 inst) (word_at 2 inst) else Other) else means (if l then Label else if o then Other else Value (word_at 0 inst))).meaning ≡ OfShape (Pointer class to)
        → is_storage_class class ≡ true
    by_tests known inst class to true c v s l o is = (type_stored known inst).is class to is
    by_tests known inst class to false true v s l o is = cc
    by_tests known inst class to false false true true l o is = cc
    by_tests known inst class to false false true false l o is = cc
    by_tests known inst class to false false false s true o is = cc
    by_tests known inst class to false false false s false true is = cc
    by_tests known inst class to false false false s false false is = cc

meaning_stored : (insts : List Inst) (id class to : ℕ) (at : Option ℕ) → definition insts id ≡ at → meaning insts id ≡ OfShape (Pointer class to) → is_storage_class class ≡ true
meaning_stored insts id class to None at is = absurd (never class to (sym (ap meaning_in (unknown_without_definition insts id at)) ∙ is))
  where
    never : (class to : ℕ) → ◌≡◌ {A = Meaning} Absent (OfShape (Pointer class to)) → ⊥
    never class to is = cc
meaning_stored insts id class to (Some place) at is = known_stored (known_before insts place) (inst_at insts place) class to (sym (meaning_at insts place id at) ∙ is)

-- ---- a variable's class is one

pointer_by : (m : Meaning) (class : ℕ) → is_pointer_of class m ≡ true → (to : ℕ) × (m ≡ OfShape (Pointer class to))
pointer_by (OfShape (Pointer own to)) class is = (to, ap (λ (c : ℕ). OfShape (Pointer c to)) (same own class is))
  where
    same : (a b : ℕ) → a == b ≡ true → a ≡ b
    same a b is = grind (arith, nat_tests)
pointer_by m class is = cc

unbroken : (known : Knowledge) (words : List ℕ) → breaks_types known (instruction op.VARIABLE words) ≡ false → is_pointer_of (slice_index words 2) (meaning_in (known (slice_index words 0))) ≡ true
unfolding breaks_types class_of entry_of
unbroken known words is = by_test (is_pointer_of (slice_index words 2) (meaning_in (known (slice_index words 0)))) is
  where
    by_test : (b : Bool) → not b ≡ false → b ≡ true
    by_test true is = refl
    by_test false is = cc

variable_class : (words : Words) → IsValidList words → (place : ℕ) → place < length words.insts → (inst_at words.insts place).op == op.VARIABLE ≡ true → is_storage_class (word_at 2 (inst_at words.insts place)) ≡ true
variable_class words v place within is =
    let inst = inst_at words.insts place in
    let keeps = (keeps_rules words v.sound place within).types in
    let of_class = at_op (λ (i : Inst). breaks_types (known_before words.insts place) i ≡ false → is_pointer_of (slice_index i.words 2) (meaning_in (known_before words.insts place (slice_index i.words 0))) ≡ true) inst op.VARIABLE is
    (unbroken (known_before words.insts place) inst.words) keeps in
    let p = pointer_by (meaning_in (known_before words.insts place (word_at 0 inst))) (word_at 2 inst) of_class in
    meaning_stored words.insts (word_at 0 inst) (word_at 2 inst) p.0 (definition words.insts (word_at 0 inst)) refl (stays_known words.insts place (word_at 0 inst) (Pointer (word_at 2 inst) p.0) _ refl p.1)

-- ---- the result of what defines a value

pub record DefinesThere (insts : List Inst) (place : ℕ) : Type 0 where
  pub type : ℕ
  pub there : definition insts (word_at 1 (inst_at insts place)) ≡ Some place
  pub typed : type_id (meaning insts (word_at 1 (inst_at insts place))) ≡ Some type

of_constant : (words : Words) → IsValidList words → (place : ℕ) → place < length words.insts → is_constant (inst_at words.insts place).op ≡ true → defines (class_of (inst_at words.insts place).op) ≡ true → DefinesThere words.insts place
of_constant words v place within is defined =
    let inst = inst_at words.insts place in
    let at = defined_at words.insts place (word_at 1 inst) within (defined_id inst defined) (keeps_rules words v.sound place within).once in
    record { type = word_at 0 inst; there = at; typed = ap type_id (meaning_at words.insts place (word_at 1 inst) at ∙ constant_known_by (known_before words.insts place) inst is) }

undef_known : (known : Knowledge) (words : List ℕ) → (known_of known (instruction op.UNDEF words)).meaning ≡ Value (slice_index words 0)
unfolding known_of class_of entry_of
undef_known known words = refl

of_undef : (words : Words) → IsValidList words → (place : ℕ) → place < length words.insts → (inst_at words.insts place).op == op.UNDEF ≡ true → defines (class_of (inst_at words.insts place).op) ≡ true → DefinesThere words.insts place
of_undef words v place within is defined =
    let inst = inst_at words.insts place in
    let at = defined_at words.insts place (word_at 1 inst) within (defined_id inst defined) (keeps_rules words v.sound place within).once in
    record {
      type = word_at 0 inst;
      there = at;
      typed = ap type_id (meaning_at words.insts place (word_at 1 inst) at ∙ at_op (λ inst. (known_of (known_before words.insts place) inst).meaning ≡ Value (word_at 0 inst)) inst op.UNDEF is (undef_known (known_before words.insts place) inst.words));
    }

of_variable : (words : Words) → IsValidList words → (place : ℕ) → place < length words.insts → (inst_at words.insts place).op == op.VARIABLE ≡ true → DefinesThere words.insts place
of_variable words v place within is =
    let inst = inst_at words.insts place in
    let m = makes_variable words v place within is in
    record { type = word_at 0 inst; there = m.there; typed = ap type_id (m.means ∙ ap (λ (b : Bool). if b then Variable (word_at 0 inst) (word_at 2 inst) else Other) (variable_class words v place within is)) }

abbrev ConstantOp : ℕ → Type 0
ConstantOp opcode = (is_constant opcode ≡ true) × (defines (class_of opcode) ≡ true)

constant_op : (inst : Inst) (opcode : ℕ) → inst.op == opcode ≡ true → ConstantOp opcode → ConstantOp inst.op
constant_op inst opcode is of = at_op (λ (i : Inst). ConstantOp i.op) inst opcode is of

op_true : ConstantOp op.CONSTANT_TRUE
unfolding class_of entry_of
op_true = (refl, refl)

op_false : ConstantOp op.CONSTANT_FALSE
unfolding class_of entry_of
op_false = (refl, refl)

op_constant : ConstantOp op.CONSTANT
unfolding class_of entry_of
op_constant = (refl, refl)

op_spec_true : ConstantOp op.SPEC_CONSTANT_TRUE
unfolding class_of entry_of
op_spec_true = (refl, refl)

op_spec_false : ConstantOp op.SPEC_CONSTANT_FALSE
unfolding class_of entry_of
op_spec_false = (refl, refl)

op_spec_constant : ConstantOp op.SPEC_CONSTANT
unfolding class_of entry_of
op_spec_constant = (refl, refl)

op_spec_op : ConstantOp op.SPEC_CONSTANT_OP
unfolding class_of entry_of
op_spec_op = (refl, refl)

op_null : ConstantOp op.CONSTANT_NULL
unfolding class_of entry_of
op_null = (refl, refl)

op_composite : ConstantOp op.CONSTANT_COMPOSITE
unfolding class_of entry_of
op_composite = (refl, refl)

op_spec_composite : ConstantOp op.SPEC_CONSTANT_COMPOSITE
unfolding class_of entry_of
op_spec_composite = (refl, refl)

undef_defines : defines (class_of op.UNDEF) ≡ true
unfolding class_of entry_of
undef_defines = refl

never_true : ◌≡◌ {A = Bool} false true → ⊥
never_true is = cc

pub defines_there : (words : Words) → IsValidList words → (place : ℕ) → place < length words.insts → defines_value (inst_at words.insts place).op ≡ true → DefinesThere words.insts place
defines_there words v place within is =
    let inst = inst_at words.insts place in
    let constant : (opcode : ℕ) → inst.op == opcode ≡ true → ConstantOp opcode → DefinesThere words.insts place = λ opcode e of. (let c = constant_op inst opcode e of in of_constant words v place within c.0 c.1) in
    by_tests (inst.op == op.CONSTANT_TRUE) (inst.op == op.CONSTANT_FALSE) (inst.op == op.CONSTANT) (inst.op == op.SPEC_CONSTANT_TRUE) (inst.op == op.SPEC_CONSTANT_FALSE) (inst.op == op.SPEC_CONSTANT) (inst.op == op.SPEC_CONSTANT_OP) (inst.op == op.VARIABLE)
    (inst.op == op.CONSTANT_NULL) (inst.op == op.UNDEF) (inst.op == op.CONSTANT_COMPOSITE) (inst.op == op.SPEC_CONSTANT_COMPOSITE)
    (λ e. constant op.CONSTANT_TRUE e op_true) (λ e. constant op.CONSTANT_FALSE e op_false) (λ e. constant op.CONSTANT e op_constant) (λ e. constant op.SPEC_CONSTANT_TRUE e op_spec_true)
    (λ e. constant op.SPEC_CONSTANT_FALSE e op_spec_false) (λ e. constant op.SPEC_CONSTANT e op_spec_constant) (λ e. constant op.SPEC_CONSTANT_OP e op_spec_op) (λ e. of_variable words v place within e)
    (λ e. constant op.CONSTANT_NULL e op_null) (λ e. of_undef words v place within e (at_op (λ (i : Inst). defines (class_of i.op) ≡ true) inst op.UNDEF e undef_defines))
    (λ e. constant op.CONSTANT_COMPOSITE e op_composite) (λ e. constant op.SPEC_CONSTANT_COMPOSITE e op_spec_composite) is
  where
    by_tests : {Q : Type 0} (a b c d e f g h i j k l : Bool) → (a ≡ true → Q) → (b ≡ true → Q) → (c ≡ true → Q) → (d ≡ true → Q) → (e ≡ true → Q) → (f ≡ true → Q) → (g ≡ true → Q) → (h ≡ true → Q) → (i ≡ true → Q) → (j ≡ true → Q) → (k ≡ true → Q) → (l ≡ true → Q)
        → ((a || b || c || d || e || f || g || h) || (i || j) || (k || l)) ≡ true → Q
    by_tests true b c d e f g h i j k l qa qb qc qd qe qf qg qh qi qj qk ql is = qa refl
    by_tests false true c d e f g h i j k l qa qb qc qd qe qf qg qh qi qj qk ql is = qb refl
    by_tests false false true d e f g h i j k l qa qb qc qd qe qf qg qh qi qj qk ql is = qc refl
    by_tests false false false true e f g h i j k l qa qb qc qd qe qf qg qh qi qj qk ql is = qd refl
    by_tests false false false false true f g h i j k l qa qb qc qd qe qf qg qh qi qj qk ql is = qe refl
    by_tests false false false false false true g h i j k l qa qb qc qd qe qf qg qh qi qj qk ql is = qf refl
    by_tests false false false false false false true h i j k l qa qb qc qd qe qf qg qh qi qj qk ql is = qg refl
    by_tests false false false false false false false true i j k l qa qb qc qd qe qf qg qh qi qj qk ql is = qh refl
    by_tests false false false false false false false false true j k l qa qb qc qd qe qf qg qh qi qj qk ql is = qi refl
    by_tests false false false false false false false false false true k l qa qb qc qd qe qf qg qh qi qj qk ql is = qj refl
    by_tests false false false false false false false false false false true l qa qb qc qd qe qf qg qh qi qj qk ql is = qk refl
    by_tests false false false false false false false false false false false true qa qb qc qd qe qf qg qh qi qj qk ql is = ql refl
    by_tests false false false false false false false false false false false false qa qb qc qd qe qf qg qh qi qj qk ql is = absurd (never_true is)
