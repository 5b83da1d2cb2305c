-- At the function's first label ids have the values on both sides that specialization gives them on the old one.
use Rattle.std.proofs.Common.{◌≡◌, ℕ, suc, ◌+◌, ◌<◌, ◌==◌, ◌||◌, Bool, true, false, if◌then◌else◌, List, [], ◌∷◌, length, take, drop, slice_index, refl, ap, sym, ◌∙◌, subst, arith, length-drop, take-append-drop, Option, None, Some}
use Rattle.std.specs.Option.{option_map, option_and_then, unwrap_or}
use Rattle.std.specs.List.{fold}
use Rattle.std.proofs.lemmas.Bool.Decides.{nat_tests}
use Rattle.std.proofs.lemmas.List.{get_or-drop, get_or-take, length-take-le}
use Rattle.std.proofs.lemmas.List.Sums.{fold-append}
use Rattle.spirv_model.specs.declared.module.Inst.{Inst}
use Rattle.spirv_model.specs.declared.module.Words.{Words}
use Rattle.spirv_model.specs.declared.op.TheConstants as op
use Rattle.spirv_model.specs.Operands.{word_at, entry_of, class_of, result}
use Rattle.scalar_model.specs.declared.scalar_value.Scalar.{Scalar}
use Rattle.scalar_model.specs.declared.scalar_value.Scalar.TheVariants.{Bool as TruthOf, Word as WordOf}
use Rattle.scalar_model.specs.Scalars.{scalar_result}
use Rattle.state_model.specs.declared.parts.SpecValues.{SpecValues}
use Rattle.valid_model.specs.Definitions.{has_result, gives, inst_at, no_instruction, definition}
use Rattle.valid_model.specs.FirstFault.{type_fault}
use Rattle.stage_model.specs.Value.{Value, Truth, Word, Composite, Pointer, Outside, Layout}
use Rattle.stage_model.specs.Program.{Program}
use Rattle.stage_model.specs.Start.{Values, no_values, with_value, all_values, of_scalar, all_scalars, scalar_value, constant_of, with_definition, defined_by, rest_of}
use Rattle.typed_model.proofs.BlockParts.{clash}
use Rattle.typed_model.proofs.ModuleValues.{defined_at, defined_next, with_one, with_none}
use Rattle.typed_model.proofs.ResultIds.{defines, defined_id}
use Rattle.typed_model.proofs.SilentSteps.{given_id}
use Rattle.typed_model.proofs.ValidTypes.{keeps_rules}
use Rattle.change_model.specs.Constants.{scalar_constant, is_spec_scalar, settled}
use Rattle.change_model.proofs.Settlings.{op_is}

-- ---- instructions that give no value

differs : (test : ℕ → Bool) (own : ℕ) → test own ≡ true → (opcode : ℕ) → test opcode ≡ false → opcode == own ≡ false
differs test own is opcode isnt = by_test (opcode == own) refl
  where
    by_test : (b : Bool) → opcode == own ≡ b → opcode == own ≡ false
    by_test false no_equal = no_equal
    by_test true equal = absurd (clash (test opcode) (ap test (op_is opcode own equal) ∙ is) isnt)

abbrev pub defines_op : ℕ → Bool
defines_op opcode = defines (class_of opcode)

-- these give a value
record AllDefine : Type 0 where
  constant_true : defines_op op.CONSTANT_TRUE ≡ true
  constant_false : defines_op op.CONSTANT_FALSE ≡ true
  constant : defines_op op.CONSTANT ≡ true
  null : defines_op op.CONSTANT_NULL ≡ true
  composite : defines_op op.CONSTANT_COMPOSITE ≡ true
  spec_composite : defines_op op.SPEC_CONSTANT_COMPOSITE ≡ true
  spec_true : defines_op op.SPEC_CONSTANT_TRUE ≡ true
  spec_false : defines_op op.SPEC_CONSTANT_FALSE ≡ true
  spec : defines_op op.SPEC_CONSTANT ≡ true
  spec_op : defines_op op.SPEC_CONSTANT_OP ≡ true
  undef : defines_op op.UNDEF ≡ true
  variable : defines_op op.VARIABLE ≡ true

all_define : AllDefine
unfolding class_of entry_of
all_define = record { constant_true = refl; constant_false = refl; constant = refl; null = refl; composite = refl; spec_composite = refl; spec_true = refl; spec_false = refl; spec = refl; spec_op = refl; undef = refl; variable = refl }

pub no_value : (program : Program) (entries : SpecValues) (values : Values) (opcode : ℕ) (words : List ℕ) → defines_op opcode ≡ false → constant_of program entries values opcode words ≡ None
unfolding constant_of
no_value program entries values opcode [] isnt = refl
no_value program entries values opcode (type ∷ []) isnt = refl
no_value program entries values opcode (type ∷ id ∷ words) isnt =
    let a = all_define in
    rw (differs defines_op op.CONSTANT_TRUE a.constant_true opcode isnt) (rw (differs defines_op op.CONSTANT_FALSE a.constant_false opcode isnt)
    (rw (differs defines_op op.CONSTANT a.constant opcode isnt) (rw (differs defines_op op.CONSTANT_NULL a.null opcode isnt)
    (rw (differs defines_op op.CONSTANT_COMPOSITE a.composite opcode isnt) (rw (differs defines_op op.SPEC_CONSTANT_COMPOSITE a.spec_composite opcode isnt)
    (rw (differs defines_op op.SPEC_CONSTANT_TRUE a.spec_true opcode isnt) (rw (differs defines_op op.SPEC_CONSTANT_FALSE a.spec_false opcode isnt)
    (rw (differs defines_op op.SPEC_CONSTANT a.spec opcode isnt) (rw (differs defines_op op.SPEC_CONSTANT_OP a.spec_op opcode isnt)
    (rw (differs defines_op op.UNDEF a.undef opcode isnt) (rw (differs defines_op op.VARIABLE a.variable opcode isnt) refl)))))))))))

-- an instruction gives its own id a value alone
other_id : (own id : ℕ) → own == id ≡ false → id == own ≡ false
other_id own id isnt = grind (arith, nat_tests)

other_value : (own id : ℕ) (value : Option Value) (values : Values) → own == id ≡ false → with_value own value values id ≡ values id
other_value own id value values isnt = ap (λ (b : Bool). if b then value else values id) (other_id own id isnt)

pub value_stays : (program : Program) (entries : SpecValues) (values : Values) (inst : Inst) (id : ℕ) → gives id inst ≡ false → with_definition program entries values inst id ≡ values id
value_stays program entries values inst id isnt = by_defines (defines_op inst.op) refl (constant_of program entries values inst.op inst.words) refl
  where
    by_defines : (b : Bool) → defines_op inst.op ≡ b → (value : Option Value) → constant_of program entries values inst.op inst.words ≡ value → with_definition program entries values inst id ≡ values id
    by_defines b is None none = ap (λ (v : Values). v id) (with_none program entries values inst none)
    by_defines true is (Some value) some =
        ap (λ (v : Values). v id) (with_one program entries values inst value some)
        ∙ other_value (word_at 1 inst) id (Some value) values (sym (ap (has_result id) (defined_id inst is)) ∙ isnt)
    by_defines false isnt_one (Some value) some = let e = sym (no_value program entries values inst.op inst.words isnt_one) ∙ some in cc

pub values_stay : (program : Program) (entries : SpecValues) (insts : List Inst) (values : Values) (id : ℕ) → ((k : ℕ) → k < length insts → gives id (inst_at insts k) ≡ false)
    → fold (with_definition program entries) values insts id ≡ values id
values_stay program entries [] values id none = refl
values_stay program entries (inst ∷ insts) values id none =
    values_stay program entries insts (with_definition program entries values inst) id (λ k within. none (suc k) (omega (arith, within)))
    ∙ value_stays program entries values inst id (none 0 (omega arith))

-- ---- what an id is at the end is what its instruction gives it

pub only_there : (words : Words) → type_fault words ≡ None → (n k id : ℕ) → n < length words.insts → k < length words.insts → result (inst_at words.insts n) ≡ Some id → (k ≡ n → ⊥) → gives id (inst_at words.insts k) ≡ false
only_there words sound n k id within within' is differ = by_test (gives id (inst_at words.insts k)) refl
  where
    same_place : (a b : ℕ) (found : Option ℕ) → found ≡ Some a → found ≡ Some b → a ≡ b
    same_place a b found one two = cc

    by_test : (b : Bool) → gives id (inst_at words.insts k) ≡ b → gives id (inst_at words.insts k) ≡ false
    by_test false isnt = isnt
    by_test true also = absurd (differ (same_place k n (definition words.insts id)
        (defined_at words.insts k id within' (given_id id (result (inst_at words.insts k)) also) (keeps_rules words sound k within').once)
        (defined_at words.insts n id within is (keeps_rules words sound n within).once)))

own_value : (program : Program) (entries : SpecValues) (values : Values) (inst : Inst) (found : Option Value) → constant_of program entries values inst.op inst.words ≡ found → values (word_at 1 inst) ≡ None
    → with_definition program entries values inst (word_at 1 inst) ≡ found
own_value program entries values inst None is none = ap (λ (v : Values). v (word_at 1 inst)) (with_none program entries values inst is) ∙ none
own_value program entries values inst (Some value) is none =
    ap (λ (v : Values). v (word_at 1 inst)) (with_one program entries values inst value is) ∙ ap (λ (b : Bool). if b then Some value else values (word_at 1 inst)) (self (word_at 1 inst))
  where
    self : (a : ℕ) → a == a ≡ true
    self a = grind (arith, nat_tests)

pub by_parts : (program : Program) (entries : SpecValues) (insts : List Inst) (n : ℕ) → defined_by program entries insts ≡ fold (with_definition program entries) (defined_by program entries (take n insts)) (drop n insts)
unfolding defined_by
by_parts program entries insts n =
    ap (fold (with_definition program entries) no_values) (sym (take-append-drop n insts)) ∙ fold-append (with_definition program entries) no_values (take n insts) (drop n insts)

pub none_before : (program : Program) (entries : SpecValues) (insts : List Inst) (id : ℕ) → ((k : ℕ) → k < length insts → gives id (inst_at insts k) ≡ false) → defined_by program entries insts id ≡ None
unfolding defined_by
none_before program entries insts id none = values_stay program entries insts no_values id none

pub value_at_end : (program : Program) (entries : SpecValues) (words : Words) → type_fault words ≡ None → (n : ℕ) → n < length words.insts → result (inst_at words.insts n) ≡ Some (word_at 1 (inst_at words.insts n))
    → defined_by program entries words.insts (word_at 1 (inst_at words.insts n))
    ≡ constant_of program entries (defined_by program entries (take n words.insts)) (inst_at words.insts n).op (inst_at words.insts n).words
value_at_end program entries words sound n within is =
    let insts = words.insts in let inst = inst_at words.insts n in let id = word_at 1 (inst_at words.insts n) in
    let before = defined_by program entries (take n insts) in
    ap (λ (v : Values). v id) (by_parts program entries insts (n + 1))
    ∙ values_stay program entries (drop (n + 1) insts) (defined_by program entries (take (n + 1) insts)) id (λ k less.
    ap (gives id) (get_or-drop (n + 1) insts k no_instruction)
    ∙ only_there words sound n (n + 1 + k) id within (let e = length-drop (n + 1) insts in omega (arith, less, e)) is (λ same. absurd (omega (arith, same))))
    ∙ ap (λ (v : Values). v id) (defined_next insts program entries n within)
    ∙ own_value program entries before inst (constant_of program entries before inst.op inst.words) refl
    (none_before program entries (take n insts) id (λ k less.
    let long = length-take-le n insts in
    let early : k < n = omega (arith, less, long, within) in
    ap (gives id) (get_or-take n insts k no_instruction early)
    ∙ only_there words sound n k id within (omega (arith, early, within)) is (λ same. absurd (omega (arith, same, early)))))

-- ---- the same value on both sides

-- a value that a scalar specialization constant has
abbrev IsScalarOrNone : Option Value → Type 0
IsScalarOrNone None = Unit {0}
IsScalarOrNone (Some (Truth b)) = Unit {0}
IsScalarOrNone (Some (Word word)) = Unit {0}
IsScalarOrNone (Some value) = ⊥

of_scalar_is : (scalar : Option Scalar) → IsScalarOrNone (option_map of_scalar scalar)
of_scalar_is None = tt
of_scalar_is (Some (TruthOf b)) = tt
of_scalar_is (Some (WordOf word)) = tt

operation_is : (opcode : ℕ) (values : Option (List Value)) → IsScalarOrNone (option_and_then (scalar_value opcode) values)
operation_is opcode None = tt
operation_is opcode (Some values) = of_scalar_is (option_and_then (scalar_result opcode) (all_scalars values))

-- what specialization says of a scalar, and whatever else is said, where it says nothing
record IsSpecScalar (program other : Program) (entries any : SpecValues) (values : Values) (opcode : ℕ) (words : List ℕ) : Type 0 where
  is : IsScalarOrNone (constant_of program entries values opcode words)
  none : constant_of program entries values opcode words ≡ None → constant_of other any values opcode words ≡ None

spec_true : (program other : Program) (entries any : SpecValues) (values : Values) (words : List ℕ) → IsSpecScalar program other entries any values op.SPEC_CONSTANT_TRUE words
unfolding constant_of
spec_true program other entries any values [] = record { is = tt; none = λ none. refl }
spec_true program other entries any values (type ∷ []) = record { is = tt; none = λ none. refl }
spec_true program other entries any values (type ∷ id ∷ words) = record { is = tt; none = λ none. cc }

spec_false : (program other : Program) (entries any : SpecValues) (values : Values) (words : List ℕ) → IsSpecScalar program other entries any values op.SPEC_CONSTANT_FALSE words
unfolding constant_of
spec_false program other entries any values [] = record { is = tt; none = λ none. refl }
spec_false program other entries any values (type ∷ []) = record { is = tt; none = λ none. refl }
spec_false program other entries any values (type ∷ id ∷ words) = record { is = tt; none = λ none. cc }

spec_number : (program other : Program) (entries any : SpecValues) (values : Values) (words : List ℕ) → IsSpecScalar program other entries any values op.SPEC_CONSTANT words
unfolding constant_of
spec_number program other entries any values [] = record { is = tt; none = λ none. refl }
spec_number program other entries any values (type ∷ []) = record { is = tt; none = λ none. refl }
spec_number program other entries any values (type ∷ id ∷ words) = record { is = tt; none = λ none. cc }

spec_operation : (program other : Program) (entries any : SpecValues) (values : Values) (words : List ℕ) → IsSpecScalar program other entries any values op.SPEC_CONSTANT_OP words
unfolding constant_of
spec_operation program other entries any values [] = record { is = tt; none = λ none. refl }
spec_operation program other entries any values (type ∷ []) = record { is = tt; none = λ none. refl }
spec_operation program other entries any values (type ∷ id ∷ words) = record { is = operation_is (slice_index words 0) (all_values values (rest_of words)); none = λ none. none }

spec_scalar : (program other : Program) (entries any : SpecValues) (values : Values) (opcode : ℕ) (words : List ℕ) → is_spec_scalar opcode ≡ true → IsSpecScalar program other entries any values opcode words
spec_scalar program other entries any values opcode words is =
    by_tests (opcode == op.SPEC_CONSTANT_TRUE) (opcode == op.SPEC_CONSTANT_FALSE) (opcode == op.SPEC_CONSTANT) (opcode == op.SPEC_CONSTANT_OP) refl refl refl refl is
  where
    at : (own : ℕ) → opcode == own ≡ true → IsSpecScalar program other entries any values own words → IsSpecScalar program other entries any values opcode words
    at own same s = subst (λ (o : ℕ). IsSpecScalar program other entries any values o words) (sym (op_is opcode own same)) s

    by_tests : (a b c d : Bool) → opcode == op.SPEC_CONSTANT_TRUE ≡ a → opcode == op.SPEC_CONSTANT_FALSE ≡ b → opcode == op.SPEC_CONSTANT ≡ c → opcode == op.SPEC_CONSTANT_OP ≡ d
        → (((a || b) || c) || d) ≡ true → IsSpecScalar program other entries any values opcode words
    by_tests true b c d is_true is_false is_number is_operation some = at op.SPEC_CONSTANT_TRUE is_true (spec_true program other entries any values words)
    by_tests false true c d is_true is_false is_number is_operation some = at op.SPEC_CONSTANT_FALSE is_false (spec_false program other entries any values words)
    by_tests false false true d is_true is_false is_number is_operation some = at op.SPEC_CONSTANT is_number (spec_number program other entries any values words)
    by_tests false false false true is_true is_false is_number is_operation some = at op.SPEC_CONSTANT_OP is_operation (spec_operation program other entries any values words)
    by_tests false false false false is_true is_false is_number is_operation some = cc

-- the instruction that stands for another one has its id, and its value on the other side
pub record ValuesAs (other program : Program) (any entries : SpecValues) (values : Values) (new old : Inst) : Type 0 where
  pub id : word_at 1 new ≡ word_at 1 old
  pub value : constant_of other any values new.op new.words ≡ constant_of program entries values old.op old.words

pub true_value : (program : Program) (entries : SpecValues) (values : Values) (type id : ℕ) → constant_of program entries values op.CONSTANT_TRUE (type ∷ id ∷ []) ≡ Some (Truth true)
unfolding constant_of
true_value program entries values type id = refl

pub false_value : (program : Program) (entries : SpecValues) (values : Values) (type id : ℕ) → constant_of program entries values op.CONSTANT_FALSE (type ∷ id ∷ []) ≡ Some (Truth false)
unfolding constant_of
false_value program entries values type id = refl

pub number_value : (program : Program) (entries : SpecValues) (values : Values) (type id word : ℕ) → constant_of program entries values op.CONSTANT (type ∷ id ∷ word ∷ []) ≡ Some (Word word)
unfolding constant_of
number_value program entries values type id word = refl

scalar_as : (other program : Program) (any entries : SpecValues) (values : Values) (inst : Inst) (found : Option Value) → constant_of program entries values inst.op inst.words ≡ found
    → IsScalarOrNone found → (found ≡ None → constant_of other any values inst.op inst.words ≡ None) → ValuesAs other program any entries values (unwrap_or (scalar_constant (word_at 0 inst) (word_at 1 inst) found) inst) inst
scalar_as other program any entries values inst None is scalar none = record { id = refl; value = none refl ∙ sym is }
scalar_as other program any entries values inst (Some (Truth true)) is scalar none = record { id = refl; value = true_value other any values (word_at 0 inst) (word_at 1 inst) ∙ sym is }
scalar_as other program any entries values inst (Some (Truth false)) is scalar none = record { id = refl; value = false_value other any values (word_at 0 inst) (word_at 1 inst) ∙ sym is }
scalar_as other program any entries values inst (Some (Word word)) is scalar none = record { id = refl; value = number_value other any values (word_at 0 inst) (word_at 1 inst) word ∙ sym is }
scalar_as other program any entries values inst (Some (Composite parts)) is scalar none = absurd scalar
scalar_as other program any entries values inst (Some (Pointer variable indices)) is scalar none = absurd scalar
scalar_as other program any entries values inst (Some Outside) is scalar none = absurd scalar

composite_words : (other program : Program) (any entries : SpecValues) (values : Values) (words : List ℕ)
    → constant_of other any values op.CONSTANT_COMPOSITE words ≡ constant_of program entries values op.SPEC_CONSTANT_COMPOSITE words
unfolding constant_of
composite_words other program any entries values [] = refl
composite_words other program any entries values (type ∷ []) = refl
composite_words other program any entries values (type ∷ id ∷ words) = refl

none_of : (a b c d : Bool) → (((a || b) || c) || d) ≡ false → (a ≡ false) × (b ≡ false) × (c ≡ false) × (d ≡ false)
none_of true b c d is = cc
none_of false true c d is = cc
none_of false false true d is = cc
none_of false false false true is = cc
none_of false false false false is = (refl, refl, refl, refl)

plain_as : (other program : Program) → other.layout ≡ program.layout → (any entries : SpecValues) (values : Values) (opcode : ℕ) (words : List ℕ) → is_spec_scalar opcode ≡ false
    → constant_of other any values opcode words ≡ constant_of program entries values opcode words
unfolding constant_of
plain_as other program layout any entries values opcode [] isnt = refl
plain_as other program layout any entries values opcode (type ∷ []) isnt = refl
plain_as other program layout any entries values opcode (type ∷ id ∷ words) isnt =
    let n = none_of (opcode == op.SPEC_CONSTANT_TRUE) (opcode == op.SPEC_CONSTANT_FALSE) (opcode == op.SPEC_CONSTANT) (opcode == op.SPEC_CONSTANT_OP) isnt in
    rw n.0 (rw n.1 (rw n.2 (rw n.3 (rw (ap (λ (l : ℕ → Option Layout). l type) layout) refl))))

pub settled_as : (other program : Program) → other.layout ≡ program.layout → (any entries : SpecValues) (at_end values : Values) (inst : Inst)
    → (is_spec_scalar inst.op ≡ true → at_end (word_at 1 inst) ≡ constant_of program entries values inst.op inst.words) → ValuesAs other program any entries values (settled at_end inst) inst
unfolding settled
settled_as other program layout any entries at_end values inst found = by_tests (inst.op == op.SPEC_CONSTANT_COMPOSITE) (is_spec_scalar inst.op) refl refl
  where
    by_tests : (composite scalar : Bool) → inst.op == op.SPEC_CONSTANT_COMPOSITE ≡ composite → is_spec_scalar inst.op ≡ scalar
        → ValuesAs other program any entries values
        (if composite then record inst { op = op.CONSTANT_COMPOSITE } else if scalar then unwrap_or (scalar_constant (word_at 0 inst) (word_at 1 inst) (at_end (word_at 1 inst))) inst else inst) inst
    by_tests true scalar is of = record { id = refl; value = composite_words other program any entries values inst.words ∙ ap (λ (o : ℕ). constant_of program entries values o inst.words) (sym (op_is inst.op op.SPEC_CONSTANT_COMPOSITE is)) }
    by_tests false true isnt is =
        let s = spec_scalar program other entries any values inst.op inst.words is in
        subst (λ (v : Option Value). ValuesAs other program any entries values (unwrap_or (scalar_constant (word_at 0 inst) (word_at 1 inst) v) inst) inst) (sym (found is))
        (scalar_as other program any entries values inst (constant_of program entries values inst.op inst.words) refl s.is s.none)
    by_tests false false isnt none = record { id = refl; value = plain_as other program layout any entries values inst.op inst.words none }
