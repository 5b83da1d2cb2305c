-- The types of a module whose ids are sound.
use Rattle.std.proofs.Common.{◌≡◌, ℕ, zero, suc, ◌<◌, ◌≤◌, ◌==◌, ◌&&◌, ◌||◌, inl, inr, Bool, true, false, not, nat_le, if◌then◌else◌, List, [], ◌∷◌, length, refl, ap, sym, ◌∙◌, subst, arith, Option, None, Some}
use Rattle.std.specs.Option.{option_map, option_or, unwrap_or}
use Rattle.std.proofs.lemmas.Bool.{cases_lt}
use Rattle.std.proofs.lemmas.Bool.Decides.{nat_tests}
use Rattle.std.proofs.lemmas.List.{take_all}
use Rattle.spirv_model.specs.declared.module.Inst.{Inst}
use Rattle.spirv_model.specs.declared.module.Words.{Words}
use Rattle.spirv_model.specs.declared.op.TheConstants as op
use Rattle.spirv_model.specs.Operands.{word_at, words_from}
use Rattle.valid_model.specs.declared.meaning.IdFacts.{IdFacts}
use Rattle.valid_model.specs.declared.meaning.Meaning.{Meaning}
use Rattle.valid_model.specs.declared.meaning.Meaning.TheVariants.{Absent, Shape as OfShape, Variable, Value, Label, Other}
use Rattle.valid_model.specs.declared.meaning.Shape.{Shape}
use Rattle.valid_model.specs.declared.meaning.Shape.TheVariants.{Void, Bool as Truth, Int, BoolVector, IntVector, Pointer}
use Rattle.valid_model.specs.declared.type_fault.TypeFault.{TypeFault}
use Rattle.valid_model.specs.declared.type_fault.TypeFault.TheVariants.{BadDecoration}
use Rattle.valid_model.specs.Decorations.{bad_decoration}
use Rattle.valid_model.specs.Definitions.{gives, definition, id_twice, id_out_of_bound, inst_at}
use Rattle.valid_model.specs.Knowledge.{Knowledge, a_type, means, meaning_in, is_storage_class}
use Rattle.valid_model.specs.Types.{is_type, vector_shape, struct_size, type_of, is_pointer_of, breaks_types, has_later_type}
use Rattle.valid_model.specs.Meanings.{is_constant, constant_known, known_of, known_by, known_before, meaning}
use Rattle.valid_model.specs.FirstFault.{bad_type, bad_constant, fault_of, rule_fault, type_fault_at, first_fault, type_fault}
use Rattle.valid_model.proofs.KnownIds.{known_stays, known_by_definition, unknown_without_definition}
use Rattle.check_model.specs.Typing.{type_id}
use Rattle.stage_model.specs.Program.{layouts_by, program_of}
use Rattle.typed_model.specs.Types.{HasTypes}
use Rattle.typed_model.proofs.ModuleTypes.{Fits, HaveLayout, all_fit}

-- ---- no fault at any place

pub none_of_both : (a b : Option TypeFault) → option_or a b ≡ None → (a ≡ None) × (b ≡ None)
none_of_both None b is = (refl, is)
none_of_both (Some fault) b is = cc

pub no_first : (fault_at : ℕ → Option TypeFault) (n place : ℕ) → first_fault fault_at n ≡ None → place < n → fault_at place ≡ None
no_first fault_at zero place none less = absurd (omega arith)
no_first fault_at (suc n) place none less =
    let e = none_of_both (first_fault fault_at n) (fault_at n) none in
    elim (cases_lt place n) [ inl early ↦ no_first fault_at n place e.0 early | inr late ↦ ap fault_at (omega arith) ∙ e.1 ]

-- the rules that no instruction breaks
pub record KeepsRules (words : Words) (place : ℕ) : Type 0 where
  pub once : id_twice words.insts place ≡ None
  pub types : breaks_types (known_before words.insts place) (inst_at words.insts place) ≡ false
  pub constants : bad_constant words.insts place ≡ false

no_rule : (place : ℕ) (twice : Option ℕ) (outside misdeclared unfit : Bool) → fault_of place twice outside misdeclared unfit ≡ None → (twice ≡ None) × (misdeclared ≡ false) × (unfit ≡ false)
no_rule place (Some id) outside misdeclared unfit is = cc
no_rule place None true misdeclared unfit is = cc
no_rule place None false true unfit is = cc
no_rule place None false false true is = cc
no_rule place None false false false is = (refl, refl, refl)

neither : (a b : Bool) → (a || b) ≡ false → a ≡ false
neither true b is = cc
neither false b is = refl

pub keeps_rules : (words : Words) → type_fault words ≡ None → (place : ℕ) → place < length words.insts → KeepsRules words place
unfolding type_fault rule_fault bad_type
keeps_rules words sound place within =
    let none = none_of_both (rule_fault words place) _ (no_first (type_fault_at words) (length words.insts) place sound within) in
    let r = no_rule place (id_twice words.insts place) (id_out_of_bound words.bound (inst_at words.insts place)) (bad_type words.insts place) (bad_constant words.insts place) none.0 in
    record { once = r.0; types = neither (breaks_types (known_before words.insts place) (inst_at words.insts place)) (has_later_type words.insts place) r.1; constants = r.2 }

no_decoration : (place : ℕ) (bad : Bool) → (if bad then Some (BadDecoration place) else None) ≡ None → bad ≡ false
no_decoration place true is = cc
no_decoration place false is = refl

-- no decoration and no variable is bad
pub keeps_decorations : (words : Words) → type_fault words ≡ None → (place : ℕ) → place < length words.insts → bad_decoration words.insts place ≡ false
unfolding type_fault
keeps_decorations words sound place within =
    no_decoration place (bad_decoration words.insts place) (none_of_both (rule_fault words place) _ (no_first (type_fault_at words) (length words.insts) place sound within)).1

-- ---- variables

same_some : (a b : ℕ) → ◌≡◌ {A = Option ℕ} (Some a) (Some b) → a ≡ b
same_some a b is = cc

-- a definition stands within the list
pub defined_within : (insts : List Inst) (id place : ℕ) → definition insts id ≡ Some place → place < length insts
unfolding definition
defined_within [] id place is = cc
defined_within (inst ∷ insts) id place is = by_first inst insts id place (gives id inst) (definition insts id) refl is (λ place e. defined_within insts id place e)
  where
    by_first : (inst : Inst) (insts : List Inst) (id place : ℕ) (b : Bool) (later : Option ℕ) → definition insts id ≡ later → (if b then Some 0 else option_map (λ (place : ℕ). suc place) later) ≡ Some place
        → ((place : ℕ) → definition insts id ≡ Some place → place < length insts) → place < length (inst ∷ insts)
    by_first inst insts id place true later known is go = let e : 0 ≡ place = same_some 0 place is in omega (arith, e)
    by_first inst insts id place false None known is go = cc
    by_first inst insts id place false (Some before) known is go = let e : suc before ≡ place = same_some (suc before) place is in let l = go before known in omega (arith, e, l)

-- a type has no type
pub record IsUntyped (type : Option IdFacts) : Type 0 where
  pub none : type_id (unwrap_or type (means Other)).meaning ≡ None

choose_type : {x y : Option IdFacts} (b : Bool) → IsUntyped x → IsUntyped y → IsUntyped (if b then x else y)
choose_type true f g = f
choose_type false f g = g

no_type : IsUntyped None
no_type = record { none = refl }

a_shape : (shape : Shape) (size : ℕ) → IsUntyped (Some (a_type shape size))
a_shape shape size = record { none = refl }

some_shape : (shape : Option Shape) (size : ℕ) → IsUntyped (option_map (λ shape. a_type shape size) shape)
some_shape None size = no_type
some_shape (Some shape) size = a_shape shape size

some_size : (shape : Shape) (size : Option ℕ) → IsUntyped (option_map (λ size. a_type shape size) size)
some_size shape None = no_type
some_size shape (Some size) = a_shape shape size

a_choice : (b : Bool) (shape : Shape) (size : ℕ) → IsUntyped (if b then Some (a_type shape size) else None)
a_choice true shape size = a_shape shape size
a_choice false shape size = no_type

pub untyped : (known : Knowledge) (inst : Inst) → IsUntyped (type_of known inst)
unfolding type_of
untyped known inst =
    choose_type (inst.op == op.TYPE_VOID) (a_shape Void 0) (choose_type (inst.op == op.TYPE_BOOL) (a_shape Truth 1)
    (choose_type (inst.op == op.TYPE_INT) (a_choice _ (Int (word_at 2 inst == 1)) 1)
    (choose_type (inst.op == op.TYPE_VECTOR) (choose_type (nat_le 2 (word_at 2 inst) && nat_le (word_at 2 inst) 4) (some_shape (vector_shape (meaning_in (known (word_at 1 inst))) (word_at 2 inst)) (word_at 2 inst)) no_type)
    (choose_type (inst.op == op.TYPE_ARRAY) (a_choice _ _ _)
    (choose_type (inst.op == op.TYPE_STRUCT) (some_size _ (struct_size known (words_from 1 inst)))
    (choose_type (inst.op == op.TYPE_POINTER) (a_choice _ _ _)
    (choose_type (inst.op == op.TYPE_FUNCTION) (a_choice _ _ _) no_type)))))))

-- OpVariable with this type and class
pub record MakesVariable (inst : Inst) (type class : ℕ) : Type 0 where
  pub no_type : is_type inst.op ≡ false
  pub is : inst.op == op.VARIABLE ≡ true
  pub of : word_at 0 inst ≡ type
  pub in_class : word_at 2 inst ≡ class

same_variable : (a b type class : ℕ) → ◌≡◌ {A = Meaning} (Variable a b) (Variable type class) → (a ≡ type) × (b ≡ class)
same_variable a b type class is = (cc, cc)

pub makes_variable : (known : Knowledge) (inst : Inst) (type class : ℕ) → (known_of known inst).meaning ≡ Variable type class → MakesVariable inst type class
unfolding known_of
makes_variable known inst type class is =
    by_tests known inst type class (is_type inst.op) (is_constant inst.op) (inst.op == op.VARIABLE) (is_storage_class (word_at 2 inst)) (inst.op == op.LABEL) _ refl refl is
  where
    by_tests : (known : Knowledge) (inst : Inst) (type class : ℕ) (t c v s l o : Bool) → is_type inst.op ≡ t → (inst.op == op.VARIABLE) ≡ v
        → (if t then unwrap_or (type_of known inst) (means Other) else if c then constant_known known inst.op (word_at 0 inst) (word_at 2 inst)
        else if v then means (if s then Variable (word_at 0 inst) (word_at 2 inst) else Other) else means (if l then Label else if o then Other else Value (word_at 0 inst))).meaning ≡ Variable type class
        → MakesVariable inst type class
    by_tests known inst type class true c v s l o of_type of_op is = (let e : type_id (Variable type class) ≡ None = ap type_id (sym is) ∙ (untyped known inst).none in cc)
    by_tests known inst type class false true v s l o of_type of_op is = cc
    by_tests known inst type class false false true true l o of_type of_op is =
        let e = same_variable (word_at 0 inst) (word_at 2 inst) type class is in record { no_type = of_type; is = of_op; of = e.0; in_class = e.1 }
    by_tests known inst type class false false true false l o of_type of_op is = cc
    by_tests known inst type class false false false s true o of_type of_op is = cc
    by_tests known inst type class false false false s false true of_type of_op is = cc
    by_tests known inst type class false false false s false false of_type of_op is = cc

pub pointer_by : (m : Meaning) (class : ℕ) → is_pointer_of class m ≡ true → (to : ℕ) × (m ≡ OfShape (Pointer class to))
pointer_by (OfShape (Pointer own to)) class is = (to, ap (λ (c : ℕ). OfShape (Pointer c to)) (same own class is))
  where
    same : (a b : ℕ) → a == b ≡ true → a ≡ b
    same a b is = grind (arith, nat_tests)
pointer_by m class is = cc

variable_test : (x y t v p : Bool) → t ≡ false → v ≡ true → (if t then x else if v then not p else y) ≡ false → p ≡ true
variable_test x y true v p isnt is unbroken = cc
variable_test x y false true true isnt is unbroken = refl
variable_test x y false true false isnt is unbroken = cc
variable_test x y false false p isnt is unbroken = cc

pub unbroken : (known : Knowledge) (inst : Inst) → breaks_types known inst ≡ false → is_type inst.op ≡ false → inst.op == op.VARIABLE ≡ true → is_pointer_of (word_at 2 inst) (meaning_in (known (word_at 0 inst))) ≡ true
unfolding breaks_types
unbroken known inst keeps isnt is = variable_test _ _ (is_type inst.op) (inst.op == op.VARIABLE) (is_pointer_of (word_at 2 inst) (meaning_in (known (word_at 0 inst)))) isnt is keeps

pub stays_known : (insts : List Inst) (place id : ℕ) (shape : Shape) (known : Option IdFacts) → known_before insts place id ≡ known → meaning_in known ≡ OfShape shape → meaning insts id ≡ OfShape shape
stays_known insts place id shape None known is = cc
stays_known insts place id shape (Some facts) known is = ap meaning_in (known_stays insts place id facts known) ∙ is

no_absent : (type class : ℕ) → ◌≡◌ {A = Meaning} Absent (Variable type class) → ⊥
no_absent type class is = cc

variable_type : (words : Words) → type_fault words ≡ None → (id type class : ℕ) (at : Option ℕ) → definition words.insts id ≡ at → meaning words.insts id ≡ Variable type class → (to : ℕ) × (meaning words.insts type ≡ OfShape (Pointer class to))
variable_type words sound id type class None at is = absurd (no_absent type class (sym (ap meaning_in (unknown_without_definition words.insts id at)) ∙ is))
variable_type words sound id type class (Some place) at is =
    let v = makes_variable (known_before words.insts place) (inst_at words.insts place) type class (sym (ap meaning_in (known_by_definition words.insts id place at)) ∙ is) in
    let k = keeps_rules words sound place (defined_within words.insts id place at) in
    let p = pointer_by _ (word_at 2 (inst_at words.insts place)) (unbroken (known_before words.insts place) (inst_at words.insts place) k.types v.no_type v.is) in (
      p.0,
      subst (λ t. meaning words.insts t ≡ OfShape (Pointer class p.0)) v.of
          (stays_known words.insts place (word_at 0 (inst_at words.insts place)) (Pointer class p.0) _ refl (p.1 ∙ ap (λ (c : ℕ). OfShape (Pointer c p.0)) v.in_class)),
    )

-- ---- all of them

not_one : (count : ℕ) → 2 ≤ count → count == 1 ≡ false
not_one count more = grind (arith, nat_tests)

all_at : (insts : List Inst) → Fits (known_by insts) (layouts_by (meaning insts) insts) × HaveLayout (known_by insts) (layouts_by (meaning insts) insts)
all_at insts =
    subst (λ (l : List Inst). Fits (known_by l) (layouts_by (meaning insts) l) × HaveLayout (known_by l) (layouts_by (meaning insts) l)) (take_all (length insts) insts (omega arith)) (all_fit insts (length insts) (omega arith))

-- the types of a module whose ids are sound
pub valid_types : (words : Words) → type_fault words ≡ None → HasTypes (program_of words.insts)
unfolding program_of
valid_types words sound =
    let fit = all_at words.insts in
    record {
      shaped = fit.0.shaped;
      there = fit.1;
      variable = λ id type class is. variable_type words sound id type class (definition words.insts id) refl is;
      pointee = λ id class to is. fit.0.sounds id (Pointer class to) is;
      truths = λ id count is. not_one count (fit.0.sounds id (BoolVector count) is);
      integers = λ id count signed is. not_one count (fit.0.sounds id (IntVector count signed) is);
    }
