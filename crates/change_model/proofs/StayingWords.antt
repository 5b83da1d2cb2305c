-- Words of an instruction that don't go, where none of its ids does.
use Rattle.std.proofs.Common.{◌≡◌, ℕ, ◌==◌, ◌||◌, Bool, true, false, List, [], ◌∷◌, map, drop, slice_index, refl, ap, sym, ◌∙◌}
use Rattle.std.specs.Prelude.{is_some}
use Rattle.std.specs.List.{list_any}
use Rattle.spirv_model.specs.declared.module.Inst.{Inst}
use Rattle.spirv_model.specs.declared.op.TheConstants as op
use Rattle.spirv_model.specs.declared.table.Operand.TheVariants.{IdRef}
use Rattle.spirv_model.specs.Operands.{word_at, words_from, entry_of, kinds, ids_among, ids}
use Rattle.change_model.proofs.Settlings.{op_is}

-- none of the instruction's ids goes
pub record Stays (gone : ℕ → Bool) (inst : Inst) : Type 0 where
  pub shaped : is_some (kinds inst) ≡ true
  pub none : list_any gone (ids inst) ≡ false

-- where all operands are ids, all words are
pub all_refs : (words : List ℕ) → ids_among (map (λ (_ : ℕ). IdRef) words) words ≡ words
all_refs [] = refl
all_refs (word ∷ words) = ap (λ (l : List ℕ). word ∷ l) (all_refs words)

second : (a b : Bool) → (a || b) ≡ false → b ≡ false
second true b is = cc
second false b is = is

first : (a b : Bool) → (a || b) ≡ false → a ≡ false
first true b is = cc
first false b is = refl

-- ---- of each kind

array_words : (gone : ℕ → Bool) (words : List ℕ) → is_some (kinds (record { op = op.TYPE_ARRAY; words = words })) ≡ true → list_any gone (ids (record { op = op.TYPE_ARRAY; words = words })) ≡ false
    → (gone (slice_index words 1) ≡ false) × (gone (slice_index words 2) ≡ false)
unfolding ids kinds entry_of
array_words gone [] fits none = cc
array_words gone (a ∷ []) fits none = cc
array_words gone (a ∷ b ∷ []) fits none = cc
array_words gone (a ∷ b ∷ c ∷ []) fits none =
    let rest = second (gone a) (gone b || (gone c || false)) none in
    (first (gone b) (gone c || false) rest, first (gone c) false (second (gone b) (gone c || false) rest))
array_words gone (a ∷ b ∷ c ∷ d ∷ words) fits none = cc

struct_words : (gone : ℕ → Bool) (words : List ℕ) → is_some (kinds (record { op = op.TYPE_STRUCT; words = words })) ≡ true → list_any gone (ids (record { op = op.TYPE_STRUCT; words = words })) ≡ false
    → list_any gone (drop 1 words) ≡ false
unfolding ids kinds entry_of
struct_words gone [] fits none = cc
struct_words gone (a ∷ words) fits none = ap (list_any gone) (sym (all_refs words)) ∙ second (gone a) (list_any gone (ids_among (map (λ (_ : ℕ). IdRef) words) words)) none

composite_words : (gone : ℕ → Bool) (words : List ℕ) → is_some (kinds (record { op = op.CONSTANT_COMPOSITE; words = words })) ≡ true → list_any gone (ids (record { op = op.CONSTANT_COMPOSITE; words = words })) ≡ false
    → list_any gone (drop 2 words) ≡ false
unfolding ids kinds entry_of
composite_words gone [] fits none = cc
composite_words gone (a ∷ []) fits none = cc
composite_words gone (a ∷ b ∷ words) fits none =
    ap (list_any gone) (sym (all_refs words))
    ∙ second (gone b) (list_any gone (ids_among (map (λ (_ : ℕ). IdRef) words) words)) (second (gone a) (gone b || list_any gone (ids_among (map (λ (_ : ℕ). IdRef) words) words)) none)

spec_composite_words : (gone : ℕ → Bool) (words : List ℕ) → is_some (kinds (record { op = op.SPEC_CONSTANT_COMPOSITE; words = words })) ≡ true → list_any gone (ids (record { op = op.SPEC_CONSTANT_COMPOSITE; words = words })) ≡ false
    → list_any gone (drop 2 words) ≡ false
unfolding ids kinds entry_of
spec_composite_words gone [] fits none = cc
spec_composite_words gone (a ∷ []) fits none = cc
spec_composite_words gone (a ∷ b ∷ words) fits none =
    ap (list_any gone) (sym (all_refs words))
    ∙ second (gone b) (list_any gone (ids_among (map (λ (_ : ℕ). IdRef) words) words)) (second (gone a) (gone b || list_any gone (ids_among (map (λ (_ : ℕ). IdRef) words) words)) none)

operation_words : (gone : ℕ → Bool) (words : List ℕ) → is_some (kinds (record { op = op.SPEC_CONSTANT_OP; words = words })) ≡ true → list_any gone (ids (record { op = op.SPEC_CONSTANT_OP; words = words })) ≡ false
    → list_any gone (drop 3 words) ≡ false
unfolding ids kinds entry_of
operation_words gone [] fits none = cc
operation_words gone (a ∷ []) fits none = cc
operation_words gone (a ∷ b ∷ []) fits none = cc
operation_words gone (a ∷ b ∷ c ∷ words) fits none =
    ap (list_any gone) (sym (all_refs words))
    ∙ second (gone b) (list_any gone (ids_among (map (λ (_ : ℕ). IdRef) words) words)) (second (gone a) (gone b || list_any gone (ids_among (map (λ (_ : ℕ). IdRef) words) words)) none)

-- ---- of an instruction

-- the element and the length of an array
pub array_stays : (gone : ℕ → Bool) (inst : Inst) → Stays gone inst → inst.op == op.TYPE_ARRAY ≡ true → (gone (word_at 1 inst) ≡ false) × (gone (word_at 2 inst) ≡ false)
array_stays gone inst s is =
    let e = op_is inst.op op.TYPE_ARRAY is in
    array_words gone inst.words (ap (λ (o : ℕ). is_some (kinds (record { op = o; words = inst.words }))) (sym e) ∙ s.shaped) (ap (λ (o : ℕ). list_any gone (ids (record { op = o; words = inst.words }))) (sym e) ∙ s.none)

-- the members of a structure
pub struct_stays : (gone : ℕ → Bool) (inst : Inst) → Stays gone inst → inst.op == op.TYPE_STRUCT ≡ true → list_any gone (words_from 1 inst) ≡ false
struct_stays gone inst s is =
    let e = op_is inst.op op.TYPE_STRUCT is in
    struct_words gone inst.words (ap (λ (o : ℕ). is_some (kinds (record { op = o; words = inst.words }))) (sym e) ∙ s.shaped) (ap (λ (o : ℕ). list_any gone (ids (record { op = o; words = inst.words }))) (sym e) ∙ s.none)

-- the parts of a composite
pub composite_stays : (gone : ℕ → Bool) (inst : Inst) → Stays gone inst → ((inst.op == op.CONSTANT_COMPOSITE) || (inst.op == op.SPEC_CONSTANT_COMPOSITE)) ≡ true → list_any gone (words_from 2 inst) ≡ false
composite_stays gone inst s is = by_test (inst.op == op.CONSTANT_COMPOSITE) refl is
  where
    by_test : (b : Bool) → inst.op == op.CONSTANT_COMPOSITE ≡ b → (b || (inst.op == op.SPEC_CONSTANT_COMPOSITE)) ≡ true → list_any gone (words_from 2 inst) ≡ false
    by_test true plain is =
        let e = op_is inst.op op.CONSTANT_COMPOSITE plain in
        composite_words gone inst.words (ap (λ (o : ℕ). is_some (kinds (record { op = o; words = inst.words }))) (sym e) ∙ s.shaped) (ap (λ (o : ℕ). list_any gone (ids (record { op = o; words = inst.words }))) (sym e) ∙ s.none)
    by_test false plain is =
        let e = op_is inst.op op.SPEC_CONSTANT_COMPOSITE is in
        spec_composite_words gone inst.words (ap (λ (o : ℕ). is_some (kinds (record { op = o; words = inst.words }))) (sym e) ∙ s.shaped) (ap (λ (o : ℕ). list_any gone (ids (record { op = o; words = inst.words }))) (sym e) ∙ s.none)

-- the operands of an operation
pub operation_stays : (gone : ℕ → Bool) (inst : Inst) → Stays gone inst → inst.op == op.SPEC_CONSTANT_OP ≡ true → list_any gone (words_from 3 inst) ≡ false
operation_stays gone inst s is =
    let e = op_is inst.op op.SPEC_CONSTANT_OP is in
    operation_words gone inst.words (ap (λ (o : ℕ). is_some (kinds (record { op = o; words = inst.words }))) (sym e) ∙ s.shaped) (ap (λ (o : ℕ). list_any gone (ids (record { op = o; words = inst.words }))) (sym e) ∙ s.none)
