-- Constants fit their types as before where variables and constants are dropped.
use Rattle.std.proofs.Common.{◌≡◌, ℕ, ◌==◌, ◌&&◌, ◌||◌, Bool, true, false, not, List, [], ◌∷◌, length, refl, ap, ◌∙◌, Option, None, Some}
use Rattle.std.specs.List.{list_any, list_all}
use Rattle.spirv_model.specs.declared.class.Class.{Class}
use Rattle.spirv_model.specs.declared.class.Class.TheVariants.{Scalar}
use Rattle.spirv_model.specs.declared.class.ScalarClass.TheVariants.{WordFromWord, WordFromWords, TruthFromWords, TruthFromTruth, TruthFromTruths}
use Rattle.spirv_model.specs.declared.module.Inst.{Inst}
use Rattle.spirv_model.specs.declared.module.Words.{Words}
use Rattle.spirv_model.specs.declared.op.TheConstants as op
use Rattle.spirv_model.specs.Operands.{word_at, words_from, entry_of, class_of}
use Rattle.valid_model.specs.declared.meaning.IdFacts.{IdFacts}
use Rattle.valid_model.specs.declared.meaning.Meaning.{Meaning}
use Rattle.valid_model.specs.declared.meaning.Meaning.TheVariants.{Absent, Shape as OfShape, Constant, Variable, Value as OfValue, Label, Other}
use Rattle.valid_model.specs.declared.meaning.Shape.{Shape}
use Rattle.valid_model.specs.declared.meaning.Shape.TheVariants.{Void, Bool as Truth, Int, BoolVector, IntVector, Array, Struct, Pointer, Function}
use Rattle.valid_model.specs.Constants.{is_integer_like, are_constants_of_each, are_parts, composite_fits, constant_fits, breaks_constants}
use Rattle.valid_model.specs.Definitions.{inst_at}
use Rattle.valid_model.specs.FirstFault.{bad_constant}
use Rattle.valid_model.specs.Knowledge.{Knowledge, is_bool, is_integer, is_data, is_constant_of, type_of_constant, constant_type, meaning_in}
use Rattle.valid_model.specs.Meanings.{is_constant, known_before}
use Rattle.valid_model.specs.Operations.{unary_fits, binary_fits, is_select, select_fits, operation_fits}
use Rattle.check_model.specs.Validity.{IsValidList}
use Rattle.change_model.specs.Dropping.{entry_without, dropped, MayDrop}
use Rattle.change_model.proofs.DroppedMeanings.{known_without, NoTypes, without_kept, without_told, tells_data, either_way, none_goes_before, names_stay, known_dropped_before}
use Rattle.change_model.proofs.DroppedPlaces.{DroppedPlace, entry_op, entry_same}
use Rattle.change_model.proofs.SameFacts.{TellsTypes}
use Rattle.change_model.proofs.Settlings.{op_is}
use Rattle.change_model.proofs.StayingWords.{Stays, composite_stays, operation_stays}

-- ---- constants that stay

tells_bool : TellsTypes is_bool
tells_bool = record { constant = λ type. refl; variable = λ type class. refl; value = λ type. refl; label = refl; other = refl }

tells_integer : TellsTypes is_integer
tells_integer = record { constant = λ type. refl; variable = λ type class. refl; value = λ type. refl; label = refl; other = refl }

tells_like : (signed : Bool) → TellsTypes (is_integer_like signed)
tells_like signed = record { constant = λ type. refl; variable = λ type class. refl; value = λ type. refl; label = refl; other = refl }

-- what is said of the type of a constant that stays
typed_same : {R : Type 0} (f : Meaning → R) → TellsTypes f → (gone : ℕ → Bool) (known : Knowledge) → NoTypes gone known → (id : ℕ) → gone id ≡ false
    → f (constant_type (known_without gone known) id) ≡ f (constant_type known id)
typed_same f t gone known none id stays = ap (λ (o : Option IdFacts). f (type_of_constant (known_without gone known) (meaning_in o))) (without_kept gone known id stays) ∙ by_meaning (meaning_in (known id))
  where
    by_meaning : (m : Meaning) → f (type_of_constant (known_without gone known) m) ≡ f (type_of_constant known m)
    by_meaning (Constant type) = without_told f t gone known none type
    by_meaning Absent = refl
    by_meaning (OfShape shape) = refl
    by_meaning (Variable type class) = refl
    by_meaning (OfValue type) = refl
    by_meaning Label = refl
    by_meaning Other = refl

of_same : (gone : ℕ → Bool) (known : Knowledge) (type id : ℕ) → gone id ≡ false → is_constant_of type (meaning_in (known_without gone known id)) ≡ is_constant_of type (meaning_in (known id))
of_same gone known type id stays = ap (λ (o : Option IdFacts). is_constant_of type (meaning_in o)) (without_kept gone known id stays)

stays_first : (a b : Bool) → (a || b) ≡ false → a ≡ false
stays_first true b is = cc
stays_first false b is = refl

stays_later : (a b : Bool) → (a || b) ≡ false → b ≡ false
stays_later true b is = cc
stays_later false b is = is

two : {a b a' b' : Bool} → a ≡ a' → b ≡ b' → (a && b) ≡ (a' && b')
two p q = cc

three : {a b c a' b' c' : Bool} → a ≡ a' → b ≡ b' → c ≡ c' → (a && b && c) ≡ (a' && b' && c')
three p q r = cc

four : {a b c d a' b' c' d' : Bool} → a ≡ a' → b ≡ b' → c ≡ c' → d ≡ d' → (a && b && c && d) ≡ (a' && b' && c' && d')
four p q r s = cc

-- of all parts
parts_same : (gone f g : ℕ → Bool) → ((id : ℕ) → gone id ≡ false → f id ≡ g id) → (parts : List ℕ) → list_any gone parts ≡ false → list_all f parts ≡ list_all g parts
parts_same gone f g same [] stay = refl
parts_same gone f g same (id ∷ parts) stay =
    two (same id (stays_first (gone id) (list_any gone parts) stay)) (parts_same gone f g same parts (stays_later (gone id) (list_any gone parts) stay))

each_same : (gone : ℕ → Bool) (known : Knowledge) (types parts : List ℕ) → list_any gone parts ≡ false → are_constants_of_each (known_without gone known) types parts ≡ are_constants_of_each known types parts
each_same gone known [] parts stay = refl
each_same gone known (type ∷ types) [] stay = refl
each_same gone known (type ∷ types) (id ∷ parts) stay =
    two (of_same gone known type id (stays_first (gone id) (list_any gone parts) stay)) (each_same gone known types parts (stays_later (gone id) (list_any gone parts) stay))

-- ---- composites

composite_by : (gone : ℕ → Bool) (known : Knowledge) → NoTypes gone known → (parts : List ℕ) → list_any gone parts ≡ false → (shape : Shape) → are_parts (known_without gone known) shape parts ≡ are_parts known shape parts
composite_by gone known none parts stay (BoolVector count) =
    ap (λ (b : Bool). (length parts == count) && b) (parts_same gone _ _ (λ id s. typed_same is_bool tells_bool gone known none id s) parts stay)
composite_by gone known none parts stay (IntVector count signed) =
    ap (λ (b : Bool). (length parts == count) && b) (parts_same gone _ _ (λ id s. typed_same (is_integer_like signed) (tells_like signed) gone known none id s) parts stay)
composite_by gone known none parts stay (Array element count) = ap (λ (b : Bool). (length parts == count) && b) (parts_same gone _ _ (λ id s. of_same gone known element id s) parts stay)
composite_by gone known none parts stay (Struct members) = ap (λ (b : Bool). (length parts == length members.list) && b) (each_same gone known members.list parts stay)
composite_by gone known none parts stay Void = refl
composite_by gone known none parts stay Truth = refl
composite_by gone known none parts stay (Int signed) = refl
composite_by gone known none parts stay (Pointer class to) = refl
composite_by gone known none parts stay Function = refl

composite_same : (gone : ℕ → Bool) (known : Knowledge) → NoTypes gone known → (type : ℕ) (parts : List ℕ) → list_any gone parts ≡ false
    → composite_fits (known_without gone known) (meaning_in (known_without gone known type)) parts ≡ composite_fits known (meaning_in (known type)) parts
composite_same gone known none type parts stay =
    without_told (λ m. composite_fits (known_without gone known) m parts) (record { constant = λ type. refl; variable = λ type class. refl; value = λ type. refl; label = refl; other = refl }) gone known none type
    ∙ by_meaning (meaning_in (known type))
  where
    by_meaning : (m : Meaning) → composite_fits (known_without gone known) m parts ≡ composite_fits known m parts
    by_meaning (OfShape shape) = composite_by gone known none parts stay shape
    by_meaning Absent = refl
    by_meaning (Constant type) = refl
    by_meaning (Variable type class) = refl
    by_meaning (OfValue type) = refl
    by_meaning Label = refl
    by_meaning Other = refl

-- ---- operations

-- both are integers, or truth values, alike
record AreAlike (new old : Meaning) : Type 0 where
  bool : is_bool new ≡ is_bool old
  integer : is_integer new ≡ is_integer old

unary_same : (of : Option Class) (type type' a a' : Meaning) → AreAlike type type' → AreAlike a a' → unary_fits of type a ≡ unary_fits of type' a'
unary_same None type type' a a' t p = refl
unary_same (Some (Scalar WordFromWord)) type type' a a' t p = two t.integer p.integer
unary_same (Some (Scalar TruthFromTruth)) type type' a a' t p = two t.bool p.bool
unary_same (Some other) type type' a a' t p = refl

binary_same : (of : Option Class) (type type' a a' b b' : Meaning) → AreAlike type type' → AreAlike a a' → AreAlike b b' → binary_fits of type a b ≡ binary_fits of type' a' b'
binary_same None type type' a a' b b' t p q = refl
binary_same (Some (Scalar WordFromWords)) type type' a a' b b' t p q = three t.integer p.integer q.integer
binary_same (Some (Scalar TruthFromWords)) type type' a a' b b' t p q = three t.bool p.integer q.integer
binary_same (Some (Scalar TruthFromTruths)) type type' a a' b b' t p q = three t.bool p.bool q.bool
binary_same (Some other) type type' a a' b b' t p q = refl

type_alike : (gone : ℕ → Bool) (known : Knowledge) → NoTypes gone known → (type : ℕ) → AreAlike (meaning_in (known_without gone known type)) (meaning_in (known type))
type_alike gone known none type = record { bool = without_told is_bool tells_bool gone known none type; integer = without_told is_integer tells_integer gone known none type }

operand_alike : (gone : ℕ → Bool) (known : Knowledge) → NoTypes gone known → (id : ℕ) → gone id ≡ false → AreAlike (constant_type (known_without gone known) id) (constant_type known id)
operand_alike gone known none id stays = record { bool = typed_same is_bool tells_bool gone known none id stays; integer = typed_same is_integer tells_integer gone known none id stays }

select_same : (gone : ℕ → Bool) (known : Knowledge) → NoTypes gone known → (type condition a b : ℕ) → gone condition ≡ false → gone a ≡ false → gone b ≡ false
    → select_fits (known_without gone known) type condition a b ≡ select_fits known type condition a b
select_same gone known none type condition a b p q r =
    four (typed_same is_bool tells_bool gone known none condition p) (either (without_told is_bool tells_bool gone known none type) (without_told is_integer tells_integer gone known none type))
    (of_same gone known type a q) (of_same gone known type b r)
  where
    either : {a b a' b' : Bool} → a ≡ a' → b ≡ b' → (a || b) ≡ (a' || b')
    either p q = cc

operation_same : (gone : ℕ → Bool) (known : Knowledge) → NoTypes gone known → (type opcode : ℕ) (operands : List ℕ) → list_any gone operands ≡ false
    → operation_fits (known_without gone known) type opcode operands ≡ operation_fits known type opcode operands
operation_same gone known none type opcode [] stay = refl
operation_same gone known none type opcode (a ∷ []) stay =
    unary_same (class_of opcode) _ _ _ _ (type_alike gone known none type) (operand_alike gone known none a (stays_first (gone a) false stay))
operation_same gone known none type opcode (a ∷ b ∷ []) stay =
    binary_same (class_of opcode) _ _ _ _ _ _ (type_alike gone known none type) (operand_alike gone known none a (stays_first (gone a) (gone b || false) stay))
    (operand_alike gone known none b (stays_first (gone b) false (stays_later (gone a) (gone b || false) stay)))
operation_same gone known none type opcode (condition ∷ a ∷ b ∷ []) stay =
    let later = stays_later (gone condition) (gone a || (gone b || false)) stay in
    ap (λ (s : Bool). is_select (class_of opcode) && s) (select_same gone known none type condition a b (stays_first (gone condition) (gone a || (gone b || false)) stay)
    (stays_first (gone a) (gone b || false) later) (stays_first (gone b) false (stays_later (gone a) (gone b || false) later)))
operation_same gone known none type opcode (condition ∷ a ∷ b ∷ c ∷ operands) stay = refl

-- ---- of an instruction

-- a constant that names no id that goes
pub fits_same : (gone : ℕ → Bool) (known : Knowledge) → NoTypes gone known → (inst : Inst) → Stays gone inst → constant_fits (known_without gone known) inst ≡ constant_fits known inst
unfolding constant_fits
fits_same gone known none inst s =
    either_way ((inst.op == op.CONSTANT) || (inst.op == op.SPEC_CONSTANT)) _ _ _ _ (λ is. without_told is_integer tells_integer gone known none (word_at 0 inst))
    (either_way ((inst.op == op.CONSTANT_COMPOSITE) || (inst.op == op.SPEC_CONSTANT_COMPOSITE)) _ _ _ _ (λ is. composite_same gone known none (word_at 0 inst) (words_from 2 inst) (composite_stays gone inst s is))
    (either_way (inst.op == op.CONSTANT_NULL) _ _ _ _ (λ is. without_told is_data tells_data gone known none (word_at 0 inst))
    (either_way (inst.op == op.SPEC_CONSTANT_OP) _ _ _ _ (λ is. operation_same gone known none (word_at 0 inst) (word_at 2 inst) (words_from 3 inst) (operation_stays gone inst s is))
    (without_told is_bool tells_bool gone known none (word_at 0 inst)))))

no_constant_entry : is_constant op.ENTRY_POINT ≡ false
unfolding class_of entry_of
no_constant_entry = refl

-- ---- at a place

pub constants_dropped : (words : Words) (v : IsValidList words) (gone : ℕ → Bool) → MayDrop words v gone → (place : ℕ) → (p : DroppedPlace gone words.insts place)
    → bad_constant words.insts p.old ≡ false → bad_constant (dropped gone words.insts) place ≡ false
unfolding bad_constant
constants_dropped words v gone m place p good =
    ap (λ (k : Knowledge). breaks_constants k (inst_at (dropped gone words.insts) place)) (known_dropped_before words v gone m place p)
    ∙ ap (breaks_constants known) p.inst ∙ by_test (inst.op == op.ENTRY_POINT) refl
  where
    known : Knowledge
    known = known_without gone (known_before words.insts p.old)

    inst : Inst
    inst = inst_at words.insts p.old

    by_test : (b : Bool) → inst.op == op.ENTRY_POINT ≡ b → breaks_constants known (entry_without gone inst) ≡ false
    by_test true is =
        ap (λ (b : Bool). b && not (constant_fits known (entry_without gone inst))) (ap is_constant (entry_op gone inst ∙ op_is inst.op op.ENTRY_POINT is) ∙ no_constant_entry)
    by_test false isnt =
        ap (breaks_constants known) (entry_same gone inst isnt)
        ∙ ap (λ (b : Bool). is_constant inst.op && not b) (fits_same gone (known_before words.insts p.old) (none_goes_before words v gone m p.old) inst (names_stay words v gone m p.old p.within p.stays isnt)) ∙ good
