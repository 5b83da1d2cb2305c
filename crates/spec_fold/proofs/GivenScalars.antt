-- The scalar that an instruction gives its result is the scalar that its value is.
use Rattle.std.proofs.Common.{◌≡◌, ◌⊎◌, inl, inr, ℕ, ◌<◌, ◌==◌, ◌&&◌, Bool, true, false, is_none, if◌then◌else◌, List, [], ◌∷◌, length, map, slice_index, refl, ap, sym, ◌∙◌, subst, arith, Option, None, Some}
use Rattle.std.specs.Option.{option_map, option_and_then}
use Rattle.std.specs.List.{fold}
use Rattle.spirv_model.specs.declared.module.Inst.{Inst}
use Rattle.spirv_model.specs.declared.op.TheConstants as op
use Rattle.scalar_model.specs.declared.scalar_value.Scalar.{Scalar}
use Rattle.scalar_model.specs.declared.scalar_value.Scalar.TheVariants.{Bool as TruthOf, Word as WordOf}
use Rattle.scalar_model.specs.Scalars.{all_known, scalar_result}
use Rattle.state_model.specs.declared.parts.SpecValues.{SpecValues}
use Rattle.valid_model.specs.declared.meaning.Meaning.{Meaning}
use Rattle.valid_model.specs.declared.meaning.Meaning.TheVariants.{Shape as OfShape}
use Rattle.valid_model.specs.declared.meaning.Shape.TheVariants.{Void, Bool as TruthType, Int, BoolVector, IntVector, Array, Struct, Pointer, Function}
use Rattle.valid_model.specs.Definitions.{gives}
use Rattle.valid_model.specs.Meanings.{meaning}
use Rattle.stage_model.specs.Value.{Value, Truth, Word, Composite, Outside, Layout, Layouts, zero_of, parts_from}
use Rattle.stage_model.specs.Value as value
use Rattle.stage_model.specs.Program.{Program, layout_of, layouts_after, layouts_by, layouts_of, program_of}
use Rattle.stage_model.specs.Start.{Values, all_scalars, all_values, constant_of, of_scalar, rest_of, scalar_of, scalar_value}
use Rattle.typed_model.specs.Types.{HasTypes}
use Rattle.unit_model.specs.ConstantScalars.{null_scalar}
use Rattle.change_model.proofs.Settlings.{op_is}
use Rattle.id_table.specs.Tables.{at}
use Rattle.id_table.specs.declared.table.IdTable.{IdTable}
use Rattle.spec_fold.specs.Settles.{AreScalarsOf, operation_given, scalar_given}

-- ---- operations

scalar_back : (found : Option Scalar) → found ≡ option_and_then scalar_of (option_map of_scalar found)
scalar_back None = refl
scalar_back (Some (TruthOf b)) = refl
scalar_back (Some (WordOf word)) = refl

abbrev with_first : Option Value → Option (List Value) → Option (List Value)
with_first found rest = option_and_then (λ first. option_map (λ rest. first ∷ rest) rest) found

one_more : (found : Option Value) (rest : Option (List Value)) (known : List (Option Scalar)) → all_known known ≡ option_and_then all_scalars rest
    → all_known (option_and_then scalar_of found ∷ known) ≡ option_and_then all_scalars (with_first found rest)
one_more None rest known is = refl
one_more (Some (Truth b)) None known is = ap (option_map (λ (l : List Scalar). TruthOf b ∷ l)) is
one_more (Some (Truth b)) (Some rest) known is = ap (option_map (λ (l : List Scalar). TruthOf b ∷ l)) is
one_more (Some (Word word)) None known is = ap (option_map (λ (l : List Scalar). WordOf word ∷ l)) is
one_more (Some (Word word)) (Some rest) known is = ap (option_map (λ (l : List Scalar). WordOf word ∷ l)) is
one_more (Some (Composite parts)) None known is = refl
one_more (Some (Composite parts)) (Some rest) known is = refl
one_more (Some (value.Pointer variable indices)) None known is = refl
one_more (Some (value.Pointer variable indices)) (Some rest) known is = refl
one_more (Some Outside) None known is = refl
one_more (Some Outside) (Some rest) known is = refl

all_given : (values : Values) (table : IdTable Scalar) → AreScalarsOf values table → (ids : List ℕ) → all_known (map (at table) ids) ≡ option_and_then all_scalars (all_values values ids)
all_given values table are [] = refl
all_given values table are (id ∷ ids) =
    ap (λ (o : Option Scalar). all_known (o ∷ map (at table) ids)) (are id) ∙ one_more (values id) (all_values values ids) (map (at table) ids) (all_given values table are ids)

of_all : (opcode : ℕ) (found : Option (List Value)) → option_and_then (scalar_result opcode) (option_and_then all_scalars found) ≡ option_and_then scalar_of (option_and_then (scalar_value opcode) found)
of_all opcode None = refl
of_all opcode (Some values) = scalar_back (option_and_then (scalar_result opcode) (all_scalars values))

operation_is : (values : Values) (table : IdTable Scalar) → AreScalarsOf values table → (words : List ℕ)
    → operation_given (at table) words ≡ option_and_then scalar_of (option_and_then (scalar_value (slice_index words 0)) (all_values values (rest_of words)))
operation_is values table are words =
    ap (option_and_then (scalar_result (slice_index words 0))) (all_given values table are (rest_of words)) ∙ of_all (slice_index words 0) (all_values values (rest_of words))

-- ---- nulls

-- the scalar that the null of a layout is
abbrev null_in : Option Layout → Option Scalar
null_in layout = option_and_then scalar_of (option_map zero_of layout)

null_of_layout : (layout : ℕ → Option Layout) (m : Meaning) → null_in (layout_of layout m) ≡ null_scalar m
null_of_layout layout (OfShape Void) = refl
null_of_layout layout (OfShape TruthType) = refl
null_of_layout layout (OfShape (Int signed)) = refl
null_of_layout layout (OfShape (BoolVector count)) = refl
null_of_layout layout (OfShape (IntVector count signed)) = refl
null_of_layout layout (OfShape (Array element count)) = by_element (layout element)
  where
    by_element : (found : Option Layout) → null_in (option_map (λ of_element. value.Several (value.repeated count of_element)) found) ≡ None
    by_element None = refl
    by_element (Some found) = refl
null_of_layout layout (OfShape (Struct members)) = by_members (layouts_of layout members.list)
  where
    by_members : (found : Option Layouts) → null_in (option_map value.Several found) ≡ None
    by_members None = refl
    by_members (Some found) = refl
null_of_layout layout (OfShape (Pointer class to)) = refl
null_of_layout layout (OfShape Function) = refl
null_of_layout layout m = refl

-- a layout is of its id's meaning, if there is one
abbrev AreNulls : (ℕ → Meaning) → (ℕ → Option Layout) → Type 0
AreNulls means layout = (id : ℕ) → (layout id ≡ None) ⊎ (null_in (layout id) ≡ null_scalar (means id))

nulls_after : (means : ℕ → Meaning) (layout : ℕ → Option Layout) → AreNulls means layout → (inst : Inst) → AreNulls means (layouts_after means layout inst)
nulls_after means layout are inst = λ id. by_test id (gives id inst && is_none (layout id))
  where
    by_test : (id : ℕ) (b : Bool) → ((if b then layout_of layout (means id) else layout id) ≡ None) ⊎ (null_in (if b then layout_of layout (means id) else layout id) ≡ null_scalar (means id))
    by_test id true = inr (null_of_layout layout (means id))
    by_test id false = are id

nulls_by : (means : ℕ → Meaning) (insts : List Inst) (layout : ℕ → Option Layout) → AreNulls means layout → AreNulls means (fold (layouts_after means) layout insts)
nulls_by means [] layout are = are
nulls_by means (inst ∷ insts) layout are = nulls_by means insts (layouts_after means layout inst) (nulls_after means layout are inst)

are_nulls : (insts : List Inst) → AreNulls (meaning insts) (program_of insts).layout
unfolding program_of layouts_by
are_nulls insts = nulls_by (meaning insts) insts (λ _. None) (λ id. inl refl)

program_means : (insts : List Inst) (id : ℕ) → (program_of insts).meaning id ≡ meaning insts id
unfolding program_of
program_means insts id = refl

-- a scalar type has a layout
without_layout : (program : Program) → HasTypes program → (type : ℕ) (m : Meaning) → program.meaning type ≡ m → program.layout type ≡ None → None ≡ null_scalar m
without_layout program types type (OfShape TruthType) is none = let e = types.shaped type TruthType is in cc
without_layout program types type (OfShape (Int signed)) is none = let e = types.shaped type (Int signed) is in cc
without_layout program types type m is none = refl

pub null_given : (insts : List Inst) → HasTypes (program_of insts) → (type : ℕ) → null_scalar (meaning insts type) ≡ null_in ((program_of insts).layout type)
null_given insts types type = elim (are_nulls insts type) [
  | inl none ↦ sym (ap null_in none ∙ without_layout (program_of insts) types type (meaning insts type) (program_means insts type) none)
  | inr is ↦ sym is
]

-- ---- each opcode

abbrev IsGiven : List Inst → SpecValues → Values → IdTable Scalar → List ℕ → ℕ → Type 0
IsGiven insts entries values table words opcode = scalar_given insts entries (at table) opcode words ≡ option_and_then scalar_of (constant_of (program_of insts) entries values opcode words)

composite_isnt : (found : Option (List Value)) → None ≡ option_and_then scalar_of (option_map (λ parts. Composite (parts_from parts)) found)
composite_isnt None = refl
composite_isnt (Some found) = refl

record AllGiven (insts : List Inst) (entries : SpecValues) (values : Values) (table : IdTable Scalar) (words : List ℕ) : Type 0 where
  constant_true : IsGiven insts entries values table words op.CONSTANT_TRUE
  constant_false : IsGiven insts entries values table words op.CONSTANT_FALSE
  constant : IsGiven insts entries values table words op.CONSTANT
  null : IsGiven insts entries values table words op.CONSTANT_NULL
  composite : IsGiven insts entries values table words op.CONSTANT_COMPOSITE
  spec_composite : IsGiven insts entries values table words op.SPEC_CONSTANT_COMPOSITE
  spec_true : IsGiven insts entries values table words op.SPEC_CONSTANT_TRUE
  spec_false : IsGiven insts entries values table words op.SPEC_CONSTANT_FALSE
  spec : IsGiven insts entries values table words op.SPEC_CONSTANT
  spec_op : IsGiven insts entries values table words op.SPEC_CONSTANT_OP
  undef : IsGiven insts entries values table words op.UNDEF
  variable : IsGiven insts entries values table words op.VARIABLE

all_are : (insts : List Inst) (entries : SpecValues) (values : Values) (table : IdTable Scalar) → HasTypes (program_of insts) → AreScalarsOf values table → (type id : ℕ) (words : List ℕ)
    → AllGiven insts entries values table (type ∷ id ∷ words)
unfolding scalar_given constant_of
all_are insts entries values table types are type id words = record {
  constant_true = refl;
  constant_false = refl;
  constant = refl;
  null = null_given insts types type;
  composite = composite_isnt (all_values values words);
  spec_composite = composite_isnt (all_values values words);
  spec_true = refl;
  spec_false = refl;
  spec = refl;
  spec_op = operation_is values table are words;
  undef = null_given insts types type;
  variable = refl;
}

-- no other instruction gives its result a value
other_given : (insts : List Inst) (entries : SpecValues) (values : Values) (table : IdTable Scalar) (type id : ℕ) (words : List ℕ) (opcode : ℕ)
    → opcode == op.CONSTANT_TRUE ≡ false → opcode == op.CONSTANT_FALSE ≡ false → opcode == op.CONSTANT ≡ false → opcode == op.CONSTANT_NULL ≡ false
    → opcode == op.CONSTANT_COMPOSITE ≡ false → opcode == op.SPEC_CONSTANT_COMPOSITE ≡ false → opcode == op.SPEC_CONSTANT_TRUE ≡ false → opcode == op.SPEC_CONSTANT_FALSE ≡ false
    → opcode == op.SPEC_CONSTANT ≡ false → opcode == op.SPEC_CONSTANT_OP ≡ false → opcode == op.UNDEF ≡ false → opcode == op.VARIABLE ≡ false
    → IsGiven insts entries values table (type ∷ id ∷ words) opcode
unfolding scalar_given constant_of
other_given insts entries values table type id words opcode a b c d e f g h i j k l =
    rw a (rw b (rw c (rw d (rw e (rw f (rw g (rw h (rw i (rw j (rw k (rw l refl)))))))))))

few_given : (insts : List Inst) (entries : SpecValues) (values : Values) (table : IdTable Scalar) (words : List ℕ) (opcode : ℕ) → length words < 2 → IsGiven insts entries values table words opcode
unfolding scalar_given constant_of
few_given insts entries values table [] opcode few = refl
few_given insts entries values table (type ∷ []) opcode few = refl
few_given insts entries values table (type ∷ id ∷ words) opcode few = absurd (omega (arith, few))

pub given_is : (insts : List Inst) (entries : SpecValues) (values : Values) (table : IdTable Scalar) → HasTypes (program_of insts) → AreScalarsOf values table → (opcode : ℕ) (words : List ℕ)
    → IsGiven insts entries values table words opcode
given_is insts entries values table types are opcode [] = few_given insts entries values table [] opcode (omega arith)
given_is insts entries values table types are opcode (type ∷ []) = few_given insts entries values table (type ∷ []) opcode (omega arith)
given_is insts entries values table types are opcode (type ∷ id ∷ words) =
    by_tests (opcode == op.CONSTANT_TRUE) (opcode == op.CONSTANT_FALSE) (opcode == op.CONSTANT) (opcode == op.CONSTANT_NULL) (opcode == op.CONSTANT_COMPOSITE) (opcode == op.SPEC_CONSTANT_COMPOSITE)
    (opcode == op.SPEC_CONSTANT_TRUE) (opcode == op.SPEC_CONSTANT_FALSE) (opcode == op.SPEC_CONSTANT) (opcode == op.SPEC_CONSTANT_OP) (opcode == op.UNDEF) (opcode == op.VARIABLE)
    refl refl refl refl refl refl refl refl refl refl refl refl
  where
    all : AllGiven insts entries values table (type ∷ id ∷ words)
    all = all_are insts entries values table types are type id words

    with_op : (own : ℕ) → opcode == own ≡ true → IsGiven insts entries values table (type ∷ id ∷ words) own → IsGiven insts entries values table (type ∷ id ∷ words) opcode
    with_op own same given = subst (IsGiven insts entries values table (type ∷ id ∷ words)) (sym (op_is opcode own same)) given

    by_tests : (a b c d e f g h i j k l : Bool) → opcode == op.CONSTANT_TRUE ≡ a → opcode == op.CONSTANT_FALSE ≡ b → opcode == op.CONSTANT ≡ c → opcode == op.CONSTANT_NULL ≡ d
        → opcode == op.CONSTANT_COMPOSITE ≡ e → opcode == op.SPEC_CONSTANT_COMPOSITE ≡ f → opcode == op.SPEC_CONSTANT_TRUE ≡ g → opcode == op.SPEC_CONSTANT_FALSE ≡ h
        → opcode == op.SPEC_CONSTANT ≡ i → opcode == op.SPEC_CONSTANT_OP ≡ j → opcode == op.UNDEF ≡ k → opcode == op.VARIABLE ≡ l
        → IsGiven insts entries values table (type ∷ id ∷ words) opcode
    by_tests true b c d e f g h i j k l is _ _ _ _ _ _ _ _ _ _ _ = with_op op.CONSTANT_TRUE is all.constant_true
    by_tests false true c d e f g h i j k l _ is _ _ _ _ _ _ _ _ _ _ = with_op op.CONSTANT_FALSE is all.constant_false
    by_tests false false true d e f g h i j k l _ _ is _ _ _ _ _ _ _ _ _ = with_op op.CONSTANT is all.constant
    by_tests false false false true e f g h i j k l _ _ _ is _ _ _ _ _ _ _ _ = with_op op.CONSTANT_NULL is all.null
    by_tests false false false false true f g h i j k l _ _ _ _ is _ _ _ _ _ _ _ = with_op op.CONSTANT_COMPOSITE is all.composite
    by_tests false false false false false true g h i j k l _ _ _ _ _ is _ _ _ _ _ _ = with_op op.SPEC_CONSTANT_COMPOSITE is all.spec_composite
    by_tests false false false false false false true h i j k l _ _ _ _ _ _ is _ _ _ _ _ = with_op op.SPEC_CONSTANT_TRUE is all.spec_true
    by_tests false false false false false false false true i j k l _ _ _ _ _ _ _ is _ _ _ _ = with_op op.SPEC_CONSTANT_FALSE is all.spec_false
    by_tests false false false false false false false false true j k l _ _ _ _ _ _ _ _ is _ _ _ = with_op op.SPEC_CONSTANT is all.spec
    by_tests false false false false false false false false false true k l _ _ _ _ _ _ _ _ _ is _ _ = with_op op.SPEC_CONSTANT_OP is all.spec_op
    by_tests false false false false false false false false false false true l _ _ _ _ _ _ _ _ _ _ is _ = with_op op.UNDEF is all.undef
    by_tests false false false false false false false false false false false true _ _ _ _ _ _ _ _ _ _ _ is = with_op op.VARIABLE is all.variable
    by_tests false false false false false false false false false false false false a b c d e f g h i j k l = other_given insts entries values table type id words opcode a b c d e f g h i j k l
