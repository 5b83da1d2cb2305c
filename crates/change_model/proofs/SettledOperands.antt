-- Operands have the types that are asked, and nothing is stored where it may not be, where constants stand for specialization constants.
use Rattle.std.proofs.Common.{◌≡◌, ℕ, ◌==◌, ◌&&◌, Bool, true, false, not, if◌then◌else◌, List, [], ◌∷◌, take, refl, ap, sym, ◌∙◌, Option, None, Some}
use Rattle.std.specs.Option.{option_map, option_and_then}
use Rattle.std.specs.List.{find, list_any}
use Rattle.spirv_model.specs.declared.module.Inst.{Inst}
use Rattle.spirv_model.specs.declared.module.Words.{Words}
use Rattle.spirv_model.specs.declared.class.Class.{Class}
use Rattle.spirv_model.specs.declared.class.Class.TheVariants as class
use Rattle.spirv_model.specs.declared.op.TheConstants as op
use Rattle.spirv_model.specs.declared.execution_model.TheConstants.{VERTEX}
use Rattle.spirv_model.specs.Operands.{word_at, words_from, entry_of, class_of}
use Rattle.valid_model.specs.declared.meaning.Meaning.{Meaning}
use Rattle.valid_model.specs.declared.meaning.Meaning.TheVariants.{Absent, Shape as OfShape, Constant, Variable, Value, Label, Other}
use Rattle.valid_model.specs.declared.meaning.Shape.{Shape}
use Rattle.valid_model.specs.declared.meaning.Shape.TheVariants.{Void, Bool as OneBool, Int, BoolVector, IntVector, Array, Struct, Pointer, Function}
use Rattle.valid_model.specs.Definitions.{gives, definition, inst_at}
use Rattle.valid_model.specs.Meanings.{meaning}
use Rattle.valid_model.specs.ModuleFacts.{facts_of, is_word, model_of}
use Rattle.valid_model.specs.FirstFault.{type_fault}
use Rattle.valid_model.specs.Shapes.{pointee_id}
use Rattle.check_model.specs.declared.components.Part.{Part}
use Rattle.check_model.specs.declared.components.Part.TheVariants as part
use Rattle.check_model.specs.Typing.{Typing, constant_in, constant_word, typing_of}
use Rattle.check_model.specs.ScalarOperands.{scalar_operands_fit}
use Rattle.check_model.specs.CompositeOperands.{composite_operands_fit}
use Rattle.check_model.specs.MemoryOperands.{member_at, chain_part, chain_step, chain_along, is_pointer_to, chain_fits, memory_operands_fit}
use Rattle.check_model.specs.OperandTypes.{operands_fit_class, operands_fit}
use Rattle.check_model.specs.EntryPoints.{is_op_function}
use Rattle.check_model.specs.Storage.{is_in_function, is_wrong_storage}
use Rattle.check_model.specs.Validity.{has_bad_operands, has_wrong_storage}
use Rattle.typed_model.proofs.BlockParts.{another, clash}
use Rattle.change_model.specs.Settling.{is_spec_class, is_plain_constant_class, StandsFor, same, settles, all_settled}
use Rattle.change_model.proofs.Settlings.{Settles, IsOther, kept_by_op, any_settled, find_settled}
use Rattle.change_model.proofs.SettledDecorations.{model_settled}
use Rattle.change_model.proofs.SettledMeanings.{meaning_settled}
use Rattle.change_model.proofs.SettledPlaces.{PlaceOf, gives_kept}
use Rattle.change_model.proofs.SettledRules.{found_at}

-- ---- what is known of ids

typing_by : (ℕ → Meaning) → (ℕ → Option ℕ) → Bool → Typing
typing_by meaning constant vertex = record { meaning = meaning; constant = constant; vertex = vertex }

-- numbers that are known on the one side are known on the other one
KnowsMore : (ℕ → Option ℕ) → (ℕ → Option ℕ) → Type 0
KnowsMore more less = (id word : ℕ) → less id ≡ Some word → more id ≡ Some word

-- ---- chains

-- what one leads to, the other leads to
abbrev LeadsAs : Option Part → Option Part → Type 0
LeadsAs new old = (reached : Part) → old ≡ Some reached → new ≡ Some reached

member_as : (members : List ℕ) (more less : Option ℕ) → ((word : ℕ) → less ≡ Some word → more ≡ Some word) → LeadsAs (member_at members more) (member_at members less)
member_as members more None known reached is = cc
member_as members more (Some word) known reached is = ap (member_at members) (known word refl) ∙ is

shape_as : (means : ℕ → Meaning) (more less : ℕ → Option ℕ) (vertex : Bool) → KnowsMore more less → (shape : Shape) (index : ℕ)
    → LeadsAs (chain_part (typing_by means more vertex) (OfShape shape) index) (chain_part (typing_by means less vertex) (OfShape shape) index)
unfolding typing_by KnowsMore
shape_as means more less vertex known (Struct members) index reached is = member_as members.list (more index) (less index) (known index) reached is
shape_as means more less vertex known Void index reached is = is
shape_as means more less vertex known OneBool index reached is = is
shape_as means more less vertex known (Int signed) index reached is = is
shape_as means more less vertex known (BoolVector count) index reached is = is
shape_as means more less vertex known (IntVector count signed) index reached is = is
shape_as means more less vertex known (Array element count) index reached is = is
shape_as means more less vertex known (Pointer storage to) index reached is = is
shape_as means more less vertex known Function index reached is = is

part_as : (means : ℕ → Meaning) (more less : ℕ → Option ℕ) (vertex : Bool) → KnowsMore more less → (meaning : Meaning) (index : ℕ)
    → LeadsAs (chain_part (typing_by means more vertex) meaning index) (chain_part (typing_by means less vertex) meaning index)
part_as means more less vertex known (OfShape shape) index reached is = shape_as means more less vertex known shape index reached is
part_as means more less vertex known Absent index reached is = cc
part_as means more less vertex known (Constant type) index reached is = cc
part_as means more less vertex known (Variable type storage) index reached is = cc
part_as means more less vertex known (Value type) index reached is = cc
part_as means more less vertex known Label index reached is = cc
part_as means more less vertex known Other index reached is = cc

step_as : (means : ℕ → Meaning) (more less : ℕ → Option ℕ) (vertex : Bool) → KnowsMore more less → (index : ℕ) (at : Part)
    → LeadsAs (chain_step (typing_by means more vertex) index at) (chain_step (typing_by means less vertex) index at)
unfolding typing_by
step_as means more less vertex known index (part.Type type) reached is = part_as means more less vertex known (means type) index reached is
step_as means more less vertex known index (part.Component component) reached is = cc

then_as : (means : ℕ → Meaning) (more less : ℕ → Option ℕ) (vertex : Bool) → KnowsMore more less → (index : ℕ) (new old : Option Part) → LeadsAs new old
    → LeadsAs (option_and_then (chain_step (typing_by means more vertex) index) new) (option_and_then (chain_step (typing_by means less vertex) index) old)
then_as means more less vertex known index new None leads reached is = cc
then_as means more less vertex known index new (Some at) leads reached is =
    ap (option_and_then (chain_step (typing_by means more vertex) index)) (leads at refl) ∙ step_as means more less vertex known index at reached is

along_as : (means : ℕ → Meaning) (more less : ℕ → Option ℕ) (vertex : Bool) → KnowsMore more less → (indices : List ℕ) (new old : Option Part) → LeadsAs new old
    → LeadsAs (chain_along (typing_by means more vertex) new indices) (chain_along (typing_by means less vertex) old indices)
along_as means more less vertex known [] new old leads = leads
along_as means more less vertex known (index ∷ indices) new old leads =
    along_as means more less vertex known indices _ _ (then_as means more less vertex known index new old leads)

to_part : (means : ℕ → Meaning) (more less : ℕ → Option ℕ) (vertex : Bool) (class storage to : ℕ) (new old : Option Part) → LeadsAs new old
    → is_pointer_to (typing_by means less vertex) (OfShape (Pointer class to)) storage old ≡ true → is_pointer_to (typing_by means more vertex) (OfShape (Pointer class to)) storage new ≡ true
unfolding typing_by
to_part means more less vertex class storage to new None leads is = absurd (clash _ is (no_part (class == storage)))
  where
    no_part : (b : Bool) → (b && false) ≡ false
    no_part true = refl
    no_part false = refl
to_part means more less vertex class storage to new (Some (part.Type own)) leads is =
    ap (is_pointer_to (typing_by means more vertex) (OfShape (Pointer class to)) storage) (leads (part.Type own) refl) ∙ is
to_part means more less vertex class storage to new (Some (part.Component component)) leads is =
    ap (is_pointer_to (typing_by means more vertex) (OfShape (Pointer class to)) storage) (leads (part.Component component) refl) ∙ is

pointer_as : (means : ℕ → Meaning) (more less : ℕ → Option ℕ) (vertex : Bool) (type : Meaning) (storage : ℕ) (new old : Option Part) → LeadsAs new old
    → is_pointer_to (typing_by means less vertex) type storage old ≡ true → is_pointer_to (typing_by means more vertex) type storage new ≡ true
pointer_as means more less vertex (OfShape (Pointer class to)) storage new old leads is = to_part means more less vertex class storage to new old leads is
pointer_as means more less vertex (OfShape Void) storage new old leads is = cc
pointer_as means more less vertex (OfShape OneBool) storage new old leads is = cc
pointer_as means more less vertex (OfShape (Int signed)) storage new old leads is = cc
pointer_as means more less vertex (OfShape (BoolVector count)) storage new old leads is = cc
pointer_as means more less vertex (OfShape (IntVector count signed)) storage new old leads is = cc
pointer_as means more less vertex (OfShape (Array element count)) storage new old leads is = cc
pointer_as means more less vertex (OfShape (Struct members)) storage new old leads is = cc
pointer_as means more less vertex (OfShape Function) storage new old leads is = cc
pointer_as means more less vertex Absent storage new old leads is = cc
pointer_as means more less vertex (Constant type) storage new old leads is = cc
pointer_as means more less vertex (Variable type of) storage new old leads is = cc
pointer_as means more less vertex (Value type) storage new old leads is = cc
pointer_as means more less vertex Label storage new old leads is = cc
pointer_as means more less vertex Other storage new old leads is = cc

chain_as : (means : ℕ → Meaning) (more less : ℕ → Option ℕ) (vertex : Bool) → KnowsMore more less → (type : ℕ) (base : Meaning) (indices : List ℕ)
    → chain_fits (typing_by means less vertex) type base indices ≡ true → chain_fits (typing_by means more vertex) type base indices ≡ true
unfolding typing_by
chain_as means more less vertex known type (Variable held storage) indices is =
    pointer_as means more less vertex (means type) storage _ _
    (along_as means more less vertex known indices (option_map part.Type (pointee_id (means held))) (option_map part.Type (pointee_id (means held))) (λ reached is. is)) is
chain_as means more less vertex known type Absent indices is = cc
chain_as means more less vertex known type (OfShape shape) indices is = cc
chain_as means more less vertex known type (Constant of) indices is = cc
chain_as means more less vertex known type (Value of) indices is = cc
chain_as means more less vertex known type Label indices is = cc
chain_as means more less vertex known type Other indices is = cc

memory_as : (means : ℕ → Meaning) (more less : ℕ → Option ℕ) (vertex : Bool) → KnowsMore more less → (inst : Inst)
    → memory_operands_fit (typing_by means less vertex) inst ≡ true → memory_operands_fit (typing_by means more vertex) inst ≡ true
unfolding memory_operands_fit typing_by
memory_as means more less vertex known inst fits = by_tests (inst.op == op.LOAD) (inst.op == op.STORE) (inst.op == op.ACCESS_CHAIN) _ _ fits (chain_as means more less vertex known (word_at 0 inst) (means (word_at 2 inst)) (words_from 3 inst))
  where
    by_tests : (load store chain x y : Bool) {z w : Bool} → (if load then x else if store then y else if chain then z else false) ≡ true → (z ≡ true → w ≡ true) → (if load then x else if store then y else if chain then w else false) ≡ true
    by_tests true store chain x y is then_chain = is
    by_tests false true chain x y is then_chain = is
    by_tests false false true x y is then_chain = then_chain is
    by_tests false false false x y is then_chain = is

-- ---- all operands

class_as : (means : ℕ → Meaning) (more less : ℕ → Option ℕ) (vertex : Bool) → KnowsMore more less → (of : Option Class) (inst : Inst)
    → operands_fit_class (typing_by means less vertex) of inst ≡ true → operands_fit_class (typing_by means more vertex) of inst ≡ true
unfolding typing_by composite_operands_fit scalar_operands_fit
class_as means more less vertex known None inst fits = fits
class_as means more less vertex known (Some class.Memory) inst fits = memory_as means more less vertex known inst fits
class_as means more less vertex known (Some class.Undef) inst fits = fits
class_as means more less vertex known (Some class.Composite) inst fits = fits
class_as means more less vertex known (Some (class.Scalar operation)) inst fits = fits
class_as means more less vertex known (Some class.Phi) inst fits = fits
class_as means more less vertex known (Some class.Terminator) inst fits = fits
class_as means more less vertex known (Some other) inst fits = fits

more_fits : (means : ℕ → Meaning) (more less : ℕ → Option ℕ) (vertex : Bool) → KnowsMore more less → (inst : Inst)
    → operands_fit (typing_by means less vertex) inst ≡ true → operands_fit (typing_by means more vertex) inst ≡ true
unfolding operands_fit
more_fits means more less vertex known inst fits = class_as means more less vertex known (class_of inst.op) inst fits

constant_class : (typing : Typing) (of : Option Class) (inst : Inst) → is_plain_constant_class of ≡ true → operands_fit_class typing of inst ≡ true
constant_class typing None inst is = cc
constant_class typing (Some class.Constant) inst is = refl
constant_class typing (Some other) inst is = cc

pub constant_operands : (typing : Typing) (inst : Inst) → is_plain_constant_class (class_of inst.op) ≡ true → operands_fit typing inst ≡ true
unfolding operands_fit
constant_operands typing inst is = constant_class typing (class_of inst.op) inst is

-- ---- the numbers that are known

word_found : (insts : List Inst) (id : ℕ) → constant_word insts id ≡ option_and_then constant_in (find (gives id) insts)
unfolding constant_word
word_found insts id = from_place (definition insts id) ∙ ap (option_and_then constant_in) (sym (found_at insts id))
  where
    from_place : (found : Option ℕ) → option_and_then (λ (place : ℕ). constant_in (inst_at insts place)) found ≡ option_and_then constant_in (option_map (inst_at insts) found)
    from_place None = refl
    from_place (Some place) = refl

no_spec_constant : is_spec_class (class_of op.CONSTANT) ≡ false
unfolding class_of entry_of
no_spec_constant = refl

kept_number : (new old : Inst) → StandsFor new old → (word : ℕ) → constant_in old ≡ Some word → constant_in new ≡ Some word
kept_number new old (same is) word known = ap constant_in is ∙ known
kept_number new old (settles spec constant type id) word known =
    let e : constant_in old ≡ None = ap (λ (b : Bool). if b then Some (word_at 2 old) else None) (another (λ o. is_spec_class (class_of o)) op.CONSTANT no_spec_constant old.op spec) in cc

kept_numbers : (f : Inst → Inst) → Settles f → (found : Option Inst) (word : ℕ) → option_and_then constant_in found ≡ Some word → option_and_then constant_in (option_map f found) ≡ Some word
kept_numbers f s None word known = cc
kept_numbers f s (Some inst) word known = kept_number (f inst) inst (s inst) word known

knows_more : (f : Inst → Inst) → Settles f → (insts : List Inst) → KnowsMore (constant_word (all_settled f insts)) (constant_word insts)
unfolding KnowsMore
knows_more f s insts = λ id word known.
    word_found (all_settled f insts) id ∙ ap (option_and_then constant_in) (find_settled f (gives id) (gives id) (gives_kept f s id) insts)
    ∙ kept_numbers f s (find (gives id) insts) word (sym (word_found insts id) ∙ known)

-- ---- of both lists

-- the module is one of a vertex shader
is_word_vertex : Option ℕ → Bool
is_word_vertex model = is_word VERTEX model

typing_is : (insts : List Inst) → typing_of insts ≡ typing_by (meaning insts) (constant_word insts) (is_word_vertex (model_of insts))
unfolding typing_of typing_by facts_of is_word_vertex
typing_is insts = refl

typing_settled : (f : Inst → Inst) → Settles f → (words : Words) → type_fault words ≡ None
    → typing_of (all_settled f words.insts) ≡ typing_by (meaning words.insts) (constant_word (all_settled f words.insts)) (is_word_vertex (model_of words.insts))
typing_settled f s words sound =
    let new = all_settled f words.insts in
    typing_is new ∙ ap (λ (m : ℕ → Meaning). typing_by m (constant_word new) (is_word_vertex (model_of new))) (meaning_settled f s words sound)
    ∙ ap (λ (m : Option ℕ). typing_by (meaning words.insts) (constant_word new) (is_word_vertex m)) (model_settled f s words.insts)

fits_for : (f : Inst → Inst) → Settles f → (words : Words) → type_fault words ≡ None → (inst for : Inst) → StandsFor inst for → operands_fit (typing_of words.insts) for ≡ true
    → operands_fit (typing_of (all_settled f words.insts)) inst ≡ true
fits_for f s words sound inst for (settles spec constant type id) fits = constant_operands (typing_of (all_settled f words.insts)) inst constant
fits_for f s words sound inst for (same is) fits =
    let insts = words.insts in
    ap (operands_fit (typing_of (all_settled f insts))) is
    ∙ ap (λ (t : Typing). operands_fit t for) (typing_settled f s words sound)
    ∙ more_fits (meaning insts) (constant_word (all_settled f insts)) (constant_word insts) (is_word_vertex (model_of insts)) (knows_more f s insts) for
    (sym (ap (λ (t : Typing). operands_fit t for) (typing_is insts)) ∙ fits)

unfit : (b : Bool) → not b ≡ false → b ≡ true
unfit true is = refl
unfit false is = cc

pub operands_settled : (f : Inst → Inst) → Settles f → (words : Words) → type_fault words ≡ None → (place : ℕ) → (p : PlaceOf f words.insts place) → has_bad_operands words.insts p.old ≡ false
    → has_bad_operands (all_settled f words.insts) place ≡ false
unfolding has_bad_operands
operands_settled f s words sound place p good =
    let insts = words.insts in
    ap (λ (b : Bool). not b) (ap (operands_fit (typing_of (all_settled f insts))) p.inst
    ∙ fits_for f s words sound (f (inst_at insts p.old)) (inst_at insts p.old) (s (inst_at insts p.old)) (unfit (operands_fit (typing_of insts) (inst_at insts p.old)) good))

-- ---- storage

pub other_function : IsOther op.FUNCTION
unfolding class_of entry_of
other_function = record { no_spec = refl; no_constant = refl }

in_function_same : (f : Inst → Inst) → Settles f → (insts : List Inst) (place : ℕ) → (p : PlaceOf f insts place) → is_in_function (all_settled f insts) place ≡ is_in_function insts p.old
unfolding is_in_function
in_function_same f s insts place p =
    ap (list_any is_op_function) p.front ∙ any_settled f is_op_function is_op_function (kept_by_op f s op.FUNCTION other_function refl is_op_function (λ inst isnt. isnt)) (take p.old insts)

storage_by : (means : ℕ → Meaning) (more less : ℕ → Option ℕ) (vertex inside : Bool) (inst : Inst) → is_wrong_storage (typing_by means more vertex) inside inst ≡ is_wrong_storage (typing_by means less vertex) inside inst
unfolding is_wrong_storage typing_by
storage_by means more less vertex inside inst = refl

record NoConstants : Type 0 where
  store : is_plain_constant_class (class_of op.STORE) ≡ false
  variable : is_plain_constant_class (class_of op.VARIABLE) ≡ false

no_constants : NoConstants
unfolding class_of entry_of
no_constants = record { store = refl; variable = refl }

pub constant_storage : (typing : Typing) (inside : Bool) (inst : Inst) → is_plain_constant_class (class_of inst.op) ≡ true → is_wrong_storage typing inside inst ≡ false
unfolding is_wrong_storage
constant_storage typing inside inst is =
    rw (another (λ o. is_plain_constant_class (class_of o)) op.STORE no_constants.store inst.op is)
    (rw (another (λ o. is_plain_constant_class (class_of o)) op.VARIABLE no_constants.variable inst.op is) refl)

storage_for : (f : Inst → Inst) → Settles f → (words : Words) → type_fault words ≡ None → (inside : Bool) (inst for : Inst) → StandsFor inst for → is_wrong_storage (typing_of words.insts) inside for ≡ false
    → is_wrong_storage (typing_of (all_settled f words.insts)) inside inst ≡ false
storage_for f s words sound inside inst for (settles spec constant type id) good = constant_storage (typing_of (all_settled f words.insts)) inside inst constant
storage_for f s words sound inside inst for (same is) good =
    let insts = words.insts in
    ap (is_wrong_storage (typing_of (all_settled f insts)) inside) is
    ∙ ap (λ (t : Typing). is_wrong_storage t inside for) (typing_settled f s words sound)
    ∙ storage_by (meaning insts) (constant_word (all_settled f insts)) (constant_word insts) (is_word_vertex (model_of insts)) inside for
    ∙ (sym (ap (λ (t : Typing). is_wrong_storage t inside for) (typing_is insts)) ∙ good)

pub storage_settled : (f : Inst → Inst) → Settles f → (words : Words) → type_fault words ≡ None → (place : ℕ) → (p : PlaceOf f words.insts place) → has_wrong_storage words.insts p.old ≡ false
    → has_wrong_storage (all_settled f words.insts) place ≡ false
unfolding has_wrong_storage
storage_settled f s words sound place p good =
    let insts = words.insts in let new = all_settled f insts in
    ap (is_wrong_storage (typing_of new) (is_in_function new place)) p.inst
    ∙ ap (λ (b : Bool). is_wrong_storage (typing_of new) b (f (inst_at insts p.old))) (in_function_same f s insts place p)
    ∙ storage_for f s words sound (is_in_function insts p.old) (f (inst_at insts p.old)) (inst_at insts p.old) (s (inst_at insts p.old)) good
