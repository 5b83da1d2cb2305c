-- A structure's members are the words of the instruction that declares it.
use Rattle.std.proofs.Common.{◌≡◌, ℕ, ◌==◌, ◌&&◌, subst, Bool, true, false, nat_le, if◌then◌else◌, List, refl, ap, sym, ◌∙◌, Option, None, Some}
use Rattle.std.specs.Option.{option_map, unwrap_or}
use Rattle.spirv_model.specs.declared.module.Inst.{Inst}
use Rattle.spirv_model.specs.declared.op.TheConstants as op
use Rattle.spirv_model.specs.Operands.{word_at, words_from}
use Rattle.valid_model.specs.declared.meaning.IdFacts.{IdFacts}
use Rattle.valid_model.specs.declared.meaning.Meaning.{Meaning}
use Rattle.valid_model.specs.declared.meaning.Meaning.TheVariants.{Shape as OfShape, Variable, Value, Label, Other}
use Rattle.valid_model.specs.declared.meaning.Shape.TheVariants.{Bool as Truth, Int, Array, Struct, Pointer, Function}
use Rattle.valid_model.specs.declared.meaning.Members.{Members}
use Rattle.valid_model.specs.Definitions.{definition, inst_at}
use Rattle.valid_model.specs.Knowledge.{Knowledge, a_type, means, meaning_in, is_storage_class}
use Rattle.valid_model.specs.Types.{is_type, vector_shape, struct_size, type_of}
use Rattle.valid_model.specs.Meanings.{is_constant, known_of, known_before, meaning}
use Rattle.valid_model.proofs.KnownIds.{known_by_definition}

-- what is a structure is declared by OpTypeStruct with its members
abbrev IsDeclared : Knowledge → Inst → Meaning → Type 0
IsDeclared known inst (OfShape (Struct members)) = (inst.op == op.TYPE_STRUCT ≡ true) × (members.list ≡ words_from 1 inst)
IsDeclared known inst m = Unit {0}

record Declares (known : Knowledge) (inst : Inst) (facts : IdFacts) : Type 0 where
  is : IsDeclared known inst facts.meaning

record DeclaresType (known : Knowledge) (inst : Inst) (type : Option IdFacts) : Type 0 where
  of : Declares known inst (unwrap_or type (means Other))

choose : (P : IdFacts → Type 0) {x y : IdFacts} (b : Bool) → P x → P y → P (if b then x else y)
choose P true f g = f
choose P false f g = g

choose_type : {known : Knowledge} {inst : Inst} {x y : Option IdFacts} (b : Bool) → (b ≡ true → DeclaresType known inst x) → DeclaresType known inst y → DeclaresType known inst (if b then x else y)
choose_type true f g = f refl
choose_type false f g = g

no_type : (known : Knowledge) (inst : Inst) → DeclaresType known inst None
no_type known inst = record { of = record { is = tt } }

of_vector : (known : Knowledge) (inst : Inst) (component : Meaning) (count : ℕ) → DeclaresType known inst (option_map (λ shape. a_type shape count) (vector_shape component count))
of_vector known inst (OfShape Truth) count = record { of = record { is = tt } }
of_vector known inst (OfShape (Int signed)) count = record { of = record { is = tt } }
of_vector known inst component count = no_type known inst

of_struct : (known : Knowledge) (inst : Inst) (size : Option ℕ) → inst.op == op.TYPE_STRUCT ≡ true → DeclaresType known inst (option_map (λ size. a_type (Struct (record { list = words_from 1 inst })) size) size)
of_struct known inst None is = no_type known inst
of_struct known inst (Some size) is = record { of = record { is = (is, refl) } }

of_array : (known : Knowledge) (inst : Inst) (b : Bool) (id count size : ℕ) → DeclaresType known inst (if b then Some (a_type (Array id count) size) else None)
of_array known inst true id count size = record { of = record { is = tt } }
of_array known inst false id count size = no_type known inst

of_pointer : (known : Knowledge) (inst : Inst) (b : Bool) (class to : ℕ) → DeclaresType known inst (if b then Some (a_type (Pointer class to) 0) else None)
of_pointer known inst true class to = record { of = record { is = tt } }
of_pointer known inst false class to = no_type known inst

of_function : (known : Knowledge) (inst : Inst) (b : Bool) → DeclaresType known inst (if b then Some (a_type Function 0) else None)
of_function known inst true = record { of = record { is = tt } }
of_function known inst false = no_type known inst

declares_type : (known : Knowledge) (inst : Inst) → DeclaresType known inst (type_of known inst)
unfolding type_of
declares_type known inst =
    choose_type (inst.op == op.TYPE_VOID) (λ _. record { of = record { is = tt } }) (choose_type (inst.op == op.TYPE_BOOL) (λ _. record { of = record { is = tt } })
    (choose_type (inst.op == op.TYPE_INT) (λ _. choose_type ((word_at 1 inst == 32) && nat_le (word_at 2 inst) 1) (λ _. record { of = record { is = tt } }) (no_type known inst))
    (choose_type (inst.op == op.TYPE_VECTOR) (λ _. choose_type (nat_le 2 (word_at 2 inst) && nat_le (word_at 2 inst) 4) (λ _. of_vector known inst (meaning_in (known (word_at 1 inst))) (word_at 2 inst)) (no_type known inst))
    (choose_type (inst.op == op.TYPE_ARRAY) (λ _. of_array known inst _ _ _ _) (choose_type (inst.op == op.TYPE_STRUCT) (λ is. of_struct known inst (struct_size known (words_from 1 inst)) is)
    (choose_type (inst.op == op.TYPE_POINTER) (λ _. of_pointer known inst _ _ _) (choose_type (inst.op == op.TYPE_FUNCTION) (λ _. of_function known inst _) (no_type known inst))))))))

by_variable : (known : Knowledge) (inst : Inst) (type class : ℕ) (b : Bool) → Declares known inst (means (if b then Variable type class else Other))
by_variable known inst type class true = record { is = tt }
by_variable known inst type class false = record { is = tt }

by_other : (known : Knowledge) (inst : Inst) (type : ℕ) (a b : Bool) → Declares known inst (means (if a then Label else if b then Other else Value type))
by_other known inst type true b = record { is = tt }
by_other known inst type false true = record { is = tt }
by_other known inst type false false = record { is = tt }

declares : (known : Knowledge) (inst : Inst) → Declares known inst (known_of known inst)
unfolding known_of
declares known inst =
    choose (Declares known inst) (is_type inst.op) (declares_type known inst).of (choose (Declares known inst) (is_constant inst.op) (record { is = tt })
    (choose (Declares known inst) (inst.op == op.VARIABLE) (by_variable known inst (word_at 0 inst) (word_at 2 inst) (is_storage_class (word_at 2 inst))) (by_other known inst (word_at 0 inst) _ _)))

pub declared_struct : (insts : List Inst) (id place : ℕ) (members : Members) → definition insts id ≡ Some place → meaning insts id ≡ OfShape (Struct members)
    → ((inst_at insts place).op == op.TYPE_STRUCT ≡ true) × (members.list ≡ words_from 1 (inst_at insts place))
declared_struct insts id place members at is =
    let d = declares (known_before insts place) (inst_at insts place) in
    let e : (known_of (known_before insts place) (inst_at insts place)).meaning ≡ OfShape (Struct members) = sym (ap meaning_in (known_by_definition insts id place at)) ∙ is in
    subst (IsDeclared (known_before insts place) (inst_at insts place)) e d.is
