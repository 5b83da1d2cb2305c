-- An OpVariable of a valid module means a variable of its type and its class.
use Rattle.std.proofs.Common.{◌≡◌, ℕ, ◌<◌, ◌==◌, ◌&&◌, ◌||◌, Bool, true, false, if◌then◌else◌, List, length, refl, ap, sym, ◌∙◌, subst, nat_le, Option, None, Some}
use Rattle.std.specs.Option.{option_map, unwrap_or}
use Rattle.std.proofs.lemmas.Bool.{eq-eqb}
use Rattle.spirv_model.specs.declared.module.Inst.{Inst}
use Rattle.spirv_model.specs.declared.module.Words.{Words}
use Rattle.spirv_model.specs.declared.op.TheConstants as op
use Rattle.spirv_model.specs.Operands.{word_at, words_from, class_of, entry_of}
use Rattle.valid_model.specs.declared.meaning.IdFacts.{IdFacts}
use Rattle.valid_model.specs.declared.meaning.Meaning.{Meaning}
use Rattle.valid_model.specs.declared.meaning.Meaning.TheVariants.{Shape as OfShape, Variable, Value as OfValue, Label, Other}
use Rattle.valid_model.specs.declared.meaning.Shape.{Shape}
use Rattle.valid_model.specs.declared.meaning.Shape.TheVariants.{Bool as Truth, Int, Array, Pointer, Struct, Function}
use Rattle.valid_model.specs.Definitions.{definition, inst_at}
use Rattle.valid_model.specs.Knowledge.{Knowledge, a_type, means, meaning_in, length_in, is_storage_class, is_data}
use Rattle.valid_model.specs.Meanings.{is_constant, constant_known, known_before, known_of, meaning, variable_meaning}
use Rattle.valid_model.specs.Types.{is_type, type_of, vector_shape, struct_size, pointer_type}
use Rattle.valid_model.proofs.KnownIds.{unknown_without_definition}
use Rattle.check_model.specs.Validity.{IsValidList}
use Rattle.typed_model.proofs.ModuleSteps.{variable_known}
use Rattle.typed_model.proofs.ModuleValues.{meaning_at}
use Rattle.typed_model.proofs.PlainRuns.{at_op}
use Rattle.typed_model.proofs.ValidTypes.{keeps_rules, unbroken, stays_known, pointer_by, defined_within}

-- ---- a pointer's type is of a storage class

abbrev HasClass : Meaning → Type 0
HasClass (OfShape (Pointer class to)) = is_storage_class class ≡ true
HasClass m = Unit {0}

record IsClassed (type : Option IdFacts) : Type 0 where
  classed : HasClass (unwrap_or type (means Other)).meaning

choose_type : {x y : Option IdFacts} (b : Bool) → IsClassed x → IsClassed y → IsClassed (if b then x else y)
choose_type true f g = f
choose_type false f g = g

no_type : IsClassed None
no_type = record { classed = tt }

a_pointer : (pointee : Meaning) (class to : ℕ) → IsClassed (pointer_type pointee class to)
a_pointer pointee class to = by_tests (is_storage_class class) (is_data pointee) refl
  where
    by_tests : (a b : Bool) → is_storage_class class ≡ a → IsClassed (if a && b then Some (a_type (Pointer class to) 0) else None)
    by_tests true true is = record { classed = is }
    by_tests true false is = no_type
    by_tests false b is = no_type

a_choice : (b : Bool) (shape : Shape) (size : ℕ) → HasClass (OfShape shape) → IsClassed (if b then Some (a_type shape size) else None)
a_choice true shape size is = record { classed = is }
a_choice false shape size is = no_type

a_vector : (component : Meaning) (count : ℕ) → IsClassed (option_map (λ shape. a_type shape count) (vector_shape component count))
a_vector (OfShape Truth) count = record { classed = tt }
a_vector (OfShape (Int signed)) count = record { classed = tt }
a_vector component count = no_type

a_struct : (list : List ℕ) (size : Option ℕ) → IsClassed (option_map (λ size. a_type (Struct (record { list = list })) size) size)
a_struct list None = no_type
a_struct list (Some size) = record { classed = tt }

all_classed : (known : Knowledge) (inst : Inst) → IsClassed (type_of known inst)
unfolding type_of
all_classed known inst =
    choose_type (inst.op == op.TYPE_VOID) (record { classed = tt }) (choose_type (inst.op == op.TYPE_BOOL) (record { classed = tt })
    (choose_type (inst.op == op.TYPE_INT) (a_choice _ (Int (word_at 2 inst == 1)) 1 tt)
    (choose_type (inst.op == op.TYPE_VECTOR) (choose_type (nat_le 2 (word_at 2 inst) && nat_le (word_at 2 inst) 4) (a_vector (meaning_in (known (word_at 1 inst))) (word_at 2 inst)) no_type)
    (choose_type (inst.op == op.TYPE_ARRAY) (a_choice _ (Array (word_at 1 inst) (length_in (known (word_at 2 inst)))) _ tt)
    (choose_type (inst.op == op.TYPE_STRUCT) (a_struct (words_from 1 inst) (struct_size known (words_from 1 inst)))
    (choose_type (inst.op == op.TYPE_POINTER) (a_pointer (meaning_in (known (word_at 2 inst))) (word_at 1 inst) (word_at 2 inst))
    (choose_type (inst.op == op.TYPE_FUNCTION) (a_choice _ Function 0 tt) no_type)))))))

known_class : (known : Knowledge) (inst : Inst) → HasClass (known_of known inst).meaning
unfolding known_of
known_class known inst = by_tests (is_type inst.op) (is_constant inst.op) (inst.op == op.VARIABLE) (is_storage_class (word_at 2 inst)) (inst.op == op.LABEL) ((inst.op == op.FUNCTION) || (inst.op == op.EXT_INST_IMPORT))
  where
    by_tests : (t c v s l o : Bool)
        → HasClass (if t then unwrap_or (type_of known inst) (means Other) else if c then constant_known known inst.op (word_at 0 inst) (word_at 2 inst)
        else if v then means (if s then Variable (word_at 0 inst) (word_at 2 inst) else Other) else means (if l then Label else if o then Other else OfValue (word_at 0 inst))).meaning
    by_tests true c v s l o = (all_classed known inst).classed
    by_tests false true v s l o = tt
    by_tests false false true true l o = tt
    by_tests false false true false l o = tt
    by_tests false false false s true o = tt
    by_tests false false false s false true = tt
    by_tests false false false s false false = tt

-- of the ids of a module
meaning_class : (insts : List Inst) (id : ℕ) → HasClass (meaning insts id)
meaning_class insts id = by_definition (definition insts id) refl
  where
    by_definition : (found : Option ℕ) → definition insts id ≡ found → HasClass (meaning insts id)
    by_definition None defined = subst HasClass (sym (ap meaning_in (unknown_without_definition insts id defined))) tt
    by_definition (Some at) defined = subst HasClass (sym (meaning_at insts at id defined)) (known_class (known_before insts at) (inst_at insts at))

-- ---- variables

variable_no_type : is_type op.VARIABLE ≡ false
unfolding class_of entry_of
variable_no_type = refl

made : (type class : ℕ) → is_storage_class class ≡ true → variable_meaning type class ≡ Variable type class
made type class is = by_test (is_storage_class class) is
  where
    by_test : (b : Bool) → b ≡ true → (if b then Variable type class else Other) ≡ Variable type class
    by_test true is = refl
    by_test false is = cc

-- the class of an OpVariable is one of those
variable_classed : (words : Words) (v : IsValidList words) (at : ℕ) → at < length words.insts → (inst_at words.insts at).op ≡ op.VARIABLE → is_storage_class (word_at 2 (inst_at words.insts at)) ≡ true
variable_classed words v at within is =
    let insts = words.insts in
    let inst = inst_at insts at in
    let k = keeps_rules words v.sound at within in
    let p = pointer_by (meaning_in (known_before insts at (word_at 0 inst))) (word_at 2 inst)
    (unbroken (known_before insts at) inst k.types (ap is_type is ∙ variable_no_type) (eq-eqb inst.op op.VARIABLE is)) in
    subst HasClass (stays_known insts at (word_at 0 inst) (Pointer (word_at 2 inst) p.0) (known_before insts at (word_at 0 inst)) refl p.1) (meaning_class insts (word_at 0 inst))

pub variable_means : (words : Words) (v : IsValidList words) (at id : ℕ) → definition words.insts id ≡ Some at → (inst_at words.insts at).op ≡ op.VARIABLE
    → meaning words.insts id ≡ Variable (word_at 0 (inst_at words.insts at)) (word_at 2 (inst_at words.insts at))
variable_means words v at id defined is =
    let insts = words.insts in
    let inst = inst_at insts at in
    meaning_at insts at id defined
    ∙ at_op (λ (i : Inst). (known_of (known_before insts at) i).meaning ≡ variable_meaning (word_at 0 i) (word_at 2 i)) inst op.VARIABLE (eq-eqb inst.op op.VARIABLE is) (variable_known (known_before insts at) inst.words)
    ∙ made (word_at 0 inst) (word_at 2 inst) (variable_classed words v at (defined_within insts id at defined) is)
