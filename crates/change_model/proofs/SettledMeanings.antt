-- Ids mean the same, and types have the same layouts, where constants stand for specialization constants.
use Rattle.std.proofs.Common.{◌≡◌, ℕ, suc, ◌*◌, ◌<◌, ◌==◌, ◌&&◌, ◌⊎◌, inl, inr, Bool, true, false, nat_lt, nat_le, if◌then◌else◌, List, [], ◌∷◌, length, take, refl, ap, sym, ◌∙◌, subst, arith, Option, None, Some}
use Rattle.std.proofs.Math.Path.{fun_ext}
use Rattle.std.specs.Prelude.{is_none}
use Rattle.std.specs.Option.{option_map}
use Rattle.std.specs.List.{fold, list_all, sum_by}
use Rattle.limits.specs.declared.TheConstants.{TYPE_WORDS}
use Rattle.spirv_model.specs.declared.module.Inst.{Inst}
use Rattle.spirv_model.specs.declared.module.Words.{Words}
use Rattle.spirv_model.specs.declared.class.Class.{Class}
use Rattle.spirv_model.specs.declared.class.Class.TheVariants as class
use Rattle.spirv_model.specs.declared.op.TheConstants as op
use Rattle.spirv_model.specs.Operands.{word_at, words_from, entry_of, class_of}
use Rattle.valid_model.specs.declared.meaning.IdFacts.{IdFacts}
use Rattle.valid_model.specs.declared.meaning.Meaning.{Meaning}
use Rattle.valid_model.specs.declared.meaning.Meaning.TheVariants.{Constant}
use Rattle.valid_model.specs.declared.meaning.Shape.TheVariants.{Array, Struct}
use Rattle.valid_model.specs.Definitions.{gives, inst_at}
use Rattle.valid_model.specs.Knowledge.{Knowledge, a_type, is_data, meaning_in, size_in, length_in, means, nothing_known}
use Rattle.valid_model.specs.Types.{is_type_class, is_type, array_length, array_type, struct_type, type_of, breaks_types}
use Rattle.valid_model.specs.Meanings.{is_constant_class, is_constant, constant_known, known_of, known_after, known_by, meaning}
use Rattle.valid_model.specs.FirstFault.{type_fault}
use Rattle.stage_model.specs.Value.{Layout}
use Rattle.stage_model.specs.Program.{layout_of, layouts_after, layouts_by}
use Rattle.typed_model.proofs.BlockParts.{another, clash}
use Rattle.typed_model.proofs.ValidTypes.{keeps_rules}
use Rattle.change_model.specs.Constants.{is_spec_id}
use Rattle.change_model.specs.Settling.{is_spec_class, is_plain_constant_class, StandsFor, same, settles, all_settled}
use Rattle.change_model.proofs.Settlings.{Settles, gives_same, gone_gives, settled_cons, settled_gone, op_is}

-- ---- what is known

-- the same is known of an id, but for the number of elements of an array that it may be the length of, which is 0 on the old side
pub record IsKnownAs (new old : Option IdFacts) : Type 0 where
  pub there : is_none new ≡ is_none old
  pub meaning : meaning_in new ≡ meaning_in old
  pub size : size_in new ≡ size_in old
  pub length : (length_in old ≡ 0) ⊎ (length_in new ≡ length_in old)

abbrev pub KnowsAs : Knowledge → Knowledge → Type 0
KnowsAs new old = (id : ℕ) → IsKnownAs (new id) (old id)

pub known_itself : (known : Option IdFacts) → IsKnownAs known known
known_itself known = record { there = refl; meaning = refl; size = refl; length = inr refl }

-- ---- types

array_same : (new old : Option IdFacts) → IsKnownAs new old → (id n : ℕ) → array_type new id n ≡ array_type old id n
array_same new old k id n = rw k.meaning (rw k.size refl)

structs : (ℕ → Bool) → (ℕ → ℕ) → List ℕ → Option IdFacts
structs data_like size members =
    option_map (λ (size : ℕ). a_type (Struct (record { list = members })) size) (if list_all data_like members && nat_le (sum_by size members) TYPE_WORDS then Some (sum_by size members) else None)

structs_are : (known : Knowledge) (members : List ℕ) → struct_type known members ≡ structs (λ id. is_data (meaning_in (known id))) (λ id. size_in (known id)) members
unfolding structs
structs_are known members = refl

struct_same : (new old : Knowledge) → KnowsAs new old → (members : List ℕ) → struct_type new members ≡ struct_type old members
struct_same new old k members =
    structs_are new members
    ∙ ap (λ (p : ℕ → Bool). structs p (λ id. size_in (new id)) members) (fun_ext (λ id. ap is_data (k id).meaning))
    ∙ ap (λ (s : ℕ → ℕ). structs (λ id. is_data (meaning_in (old id))) s members) (fun_ext (λ id. (k id).size))
    ∙ sym (structs_are old members)

-- with equal numbers of elements
type_by_length : (new old : Knowledge) → KnowsAs new old → (inst : Inst) → length_in (new (word_at 2 inst)) ≡ length_in (old (word_at 2 inst)) → type_of new inst ≡ type_of old inst
unfolding type_of
type_by_length new old k inst equal =
    rw equal (rw (array_same (new (word_at 1 inst)) (old (word_at 1 inst)) (k (word_at 1 inst)) (word_at 1 inst) (length_in (old (word_at 2 inst))))
    (rw (struct_same new old k (words_from 1 inst)) (rw (k (word_at 1 inst)).meaning (rw (k (word_at 2 inst)).meaning refl))))

-- any type but an array
type_but_array : (new old : Knowledge) → KnowsAs new old → (inst : Inst) → inst.op == op.TYPE_ARRAY ≡ false → type_of new inst ≡ type_of old inst
unfolding type_of
type_but_array new old k inst isnt =
    rw isnt (rw (struct_same new old k (words_from 1 inst)) (rw (k (word_at 1 inst)).meaning (rw (k (word_at 2 inst)).meaning refl)))

instruction : ℕ → List ℕ → Inst
instruction opcode words = record { op = opcode; words = words }

none_of_length : (element : Option IdFacts) (id : ℕ) → array_type element id 0 ≡ None
none_of_length element id = by_data (is_data (meaning_in element))
  where
    by_data : (b : Bool) → (if b && nat_lt 0 0 && nat_le (0 * size_in element) TYPE_WORDS then Some (a_type (Array id 0) (0 * size_in element)) else None) ≡ None
    by_data true = refl
    by_data false = refl

no_empty_array : (known : Knowledge) (words : List ℕ) → length_in (known (word_at 2 (record { op = op.TYPE_ARRAY; words = words }))) ≡ 0 → is_none (type_of known (record { op = op.TYPE_ARRAY; words = words })) ≡ true
unfolding type_of
no_empty_array known words none = rw none (ap is_none (none_of_length (known (word_at 1 (record { op = op.TYPE_ARRAY; words = words }))) (word_at 1 (record { op = op.TYPE_ARRAY; words = words }))))

empty_array : (known : Knowledge) (inst : Inst) → inst.op == op.TYPE_ARRAY ≡ true → length_in (known (word_at 2 inst)) ≡ 0 → is_none (type_of known inst) ≡ true
empty_array known inst is none =
    let e = op_is inst.op op.TYPE_ARRAY is in
    ap (λ (o : ℕ). is_none (type_of known (record { op = o; words = inst.words }))) e ∙ no_empty_array known inst.words none

pub type_same : (new old : Knowledge) → KnowsAs new old → (inst : Inst) → is_none (type_of old inst) ≡ false → type_of new inst ≡ type_of old inst
type_same new old k inst there = by_array (inst.op == op.TYPE_ARRAY) refl (k (word_at 2 inst)).length
  where
    by_array : (b : Bool) → inst.op == op.TYPE_ARRAY ≡ b → (length_in (old (word_at 2 inst)) ≡ 0) ⊎ (length_in (new (word_at 2 inst)) ≡ length_in (old (word_at 2 inst))) → type_of new inst ≡ type_of old inst
    by_array false isnt lengths = type_but_array new old k inst isnt
    by_array true is (inl none) = absurd (clash (is_none (type_of old inst)) (empty_array old inst is none) there)
    by_array true is (inr equal) = type_by_length new old k inst equal

-- ---- results

pub spec_is_no_type : (of : Option Class) → is_spec_class of ≡ true → is_type_class of ≡ false
spec_is_no_type None is = cc
spec_is_no_type (Some class.SpecConstant) is = refl
spec_is_no_type (Some class.SpecConstantResult) is = refl
spec_is_no_type (Some other) is = cc

pub constant_is_no_type : (of : Option Class) → is_plain_constant_class of ≡ true → is_type_class of ≡ false
constant_is_no_type None is = cc
constant_is_no_type (Some class.Constant) is = refl
constant_is_no_type (Some other) is = cc

pub spec_is_constant : (of : Option Class) → is_spec_class of ≡ true → is_constant_class of ≡ true
spec_is_constant None is = cc
spec_is_constant (Some class.SpecConstant) is = refl
spec_is_constant (Some class.SpecConstantResult) is = refl
spec_is_constant (Some other) is = cc

pub constant_is_constant : (of : Option Class) → is_plain_constant_class of ≡ true → is_constant_class of ≡ true
constant_is_constant None is = cc
constant_is_constant (Some class.Constant) is = refl
constant_is_constant (Some other) is = cc

no_spec_constant : is_spec_class (class_of op.CONSTANT) ≡ false
unfolding class_of entry_of
no_spec_constant = refl

pub known_constant : (known : Knowledge) (inst : Inst) → is_type inst.op ≡ false → is_constant inst.op ≡ true → known_of known inst ≡ constant_known known inst.op (word_at 0 inst) (word_at 2 inst)
unfolding known_of
known_constant known inst no_type is = rw no_type (rw is refl)

no_length : (known : Knowledge) (inst : Inst) → is_spec_class (class_of inst.op) ≡ true → array_length inst.op (meaning_in (known (word_at 0 inst))) (word_at 2 inst) ≡ 0
no_length known inst is = rw (another (λ o. is_spec_class (class_of o)) op.CONSTANT no_spec_constant inst.op is) refl

taken : (b : Bool) (x y : Bool) → b ≡ true → (if b then x else y) ≡ false → x ≡ false
taken true x y is none = none
taken false x y is none = cc

pub allowed_type : (known : Knowledge) (inst : Inst) → breaks_types known inst ≡ false → is_type inst.op ≡ true → is_none (type_of known inst) ≡ false
unfolding breaks_types
allowed_type known inst allowed is = taken (is_type inst.op) (is_none (type_of known inst)) _ is allowed

type_known : (new old : Knowledge) → KnowsAs new old → (inst : Inst) → breaks_types old inst ≡ false → is_type inst.op ≡ true → known_of new inst ≡ known_of old inst
unfolding known_of
type_known new old k inst allowed is = rw (type_same new old k inst (allowed_type old inst allowed is)) (rw is refl)

other_known : (new old : Knowledge) (inst : Inst) → is_type inst.op ≡ false → is_constant inst.op ≡ false → known_of new inst ≡ known_of old inst
unfolding known_of
other_known new old inst no_type no_constant = rw no_type (rw no_constant refl)

-- the result of the same instruction
known_same : (new old : Knowledge) → KnowsAs new old → (inst : Inst) → breaks_types old inst ≡ false → IsKnownAs (Some (known_of new inst)) (Some (known_of old inst))
known_same new old k inst allowed = by_kind (is_type inst.op) (is_constant inst.op) refl refl
  where
    by_kind : (type constant : Bool) → is_type inst.op ≡ type → is_constant inst.op ≡ constant → IsKnownAs (Some (known_of new inst)) (Some (known_of old inst))
    by_kind true constant is of = subst (λ (f : IdFacts). IsKnownAs (Some (known_of new inst)) (Some f)) (type_known new old k inst allowed is) (known_itself (Some (known_of new inst)))
    by_kind false true isnt is =
        let a = known_constant new inst isnt is in
        let b = known_constant old inst isnt is in
        record {
          there = refl;
          meaning = ap (λ (f : IdFacts). f.meaning) a ∙ sym (ap (λ (f : IdFacts). f.meaning) b);
          size = ap (λ (f : IdFacts). f.size) a ∙ sym (ap (λ (f : IdFacts). f.size) b);
          length = inr (ap (λ (f : IdFacts). f.length) a ∙ ap (λ (m : Meaning). array_length inst.op m (word_at 2 inst)) (k (word_at 0 inst)).meaning ∙ sym (ap (λ (f : IdFacts). f.length) b));
        }
    by_kind false false isnt other = subst (λ (f : IdFacts). IsKnownAs (Some (known_of new inst)) (Some f)) (other_known new old inst isnt other) (known_itself (Some (known_of new inst)))

known_spec : (new old : Knowledge) (inst for : Inst) → is_spec_class (class_of for.op) ≡ true → is_plain_constant_class (class_of inst.op) ≡ true → word_at 0 inst ≡ word_at 0 for
    → IsKnownAs (Some (known_of new inst)) (Some (known_of old for))
known_spec new old inst for spec constant type =
    let a = known_constant new inst (constant_is_no_type (class_of inst.op) constant) (constant_is_constant (class_of inst.op) constant) in
    let b = known_constant old for (spec_is_no_type (class_of for.op) spec) (spec_is_constant (class_of for.op) spec) in
    record {
      there = refl;
      meaning = ap (λ (k : IdFacts). k.meaning) a ∙ ap Constant type ∙ sym (ap (λ (k : IdFacts). k.meaning) b);
      size = ap (λ (k : IdFacts). k.size) a ∙ sym (ap (λ (k : IdFacts). k.size) b);
      length = inl (ap (λ (k : IdFacts). k.length) b ∙ no_length old for spec);
    }

-- what stands for an instruction has a result of which the same is known
known_for : (new old : Knowledge) → KnowsAs new old → (inst for : Inst) → StandsFor inst for → breaks_types old for ≡ false → IsKnownAs (Some (known_of new inst)) (Some (known_of old for))
known_for new old k inst for (same is) allowed = subst (λ (i : Inst). IsKnownAs (Some (known_of new i)) (Some (known_of old for))) (sym is) (known_same new old k for allowed)
known_for new old k inst for (settles spec constant type id) allowed = known_spec new old inst for spec constant type

-- ---- behind more instructions

one_more : (here here' : Bool) (new old made made' : Option IdFacts) → here ≡ here' → IsKnownAs new old → IsKnownAs made made' → IsKnownAs (if here && is_none new then made else new) (if here' && is_none old then made' else old)
one_more here here' new old made made' is k m =
    subst (λ (b : Bool). IsKnownAs (if b then made else new) (if here' && is_none old then made' else old)) (sym (ap (λ (b : Bool). b && is_none new) is ∙ ap (λ (b : Bool). here' && b) k.there)) (by_test (here' && is_none old))
  where
    by_test : (b : Bool) → IsKnownAs (if b then made else new) (if b then made' else old)
    by_test true = m
    by_test false = k

more_known : (new old : Knowledge) → KnowsAs new old → (inst for : Inst) → StandsFor inst for → breaks_types old for ≡ false → KnowsAs (known_after new inst) (known_after old for)
unfolding known_after
more_known new old k inst for s allowed = λ id.
    one_more (gives id inst) (gives id for) (new id) (old id) (Some (known_of new inst)) (Some (known_of old for)) (gives_same id inst for s) (k id) (known_for new old k inst for s allowed)

none_known : (old : Knowledge) (inst : Inst) → is_spec_id inst ≡ true → (id : ℕ) → known_after old inst id ≡ old id
unfolding known_after
none_known old inst is id = rw (gone_gives id inst is) refl

as_before : (new old : Knowledge) → KnowsAs new old → (inst : Inst) → is_spec_id inst ≡ true → KnowsAs new (known_after old inst)
as_before new old k inst is = λ id. subst (IsKnownAs (new id)) (sym (none_known old inst is id)) (k id)

-- types are allowed at each place
abbrev pub Allowed : Knowledge → List Inst → Type 0
Allowed known insts = (place : ℕ) → place < length insts → breaks_types (fold known_after known (take place insts)) (inst_at insts place) ≡ false

pub known_settled : (f : Inst → Inst) → Settles f → (insts : List Inst) (new old : Knowledge) → KnowsAs new old → Allowed old insts → KnowsAs (fold known_after new (all_settled f insts)) (fold known_after old insts)
known_settled f s [] new old k allowed = k
known_settled f s (inst ∷ insts) new old k allowed = by_test (known_settled f s insts) (is_spec_id inst) refl
  where
    later : Allowed (known_after old inst) insts
    later = λ place within. allowed (suc place) (omega (arith, within))

    by_test : ((new old : Knowledge) → KnowsAs new old → Allowed old insts → KnowsAs (fold known_after new (all_settled f insts)) (fold known_after old insts))
        → (b : Bool) → is_spec_id inst ≡ b → KnowsAs (fold known_after new (all_settled f (inst ∷ insts))) (fold known_after (known_after old inst) insts)
    by_test rest true is =
        subst (λ (l : List Inst). KnowsAs (fold known_after new l) (fold known_after (known_after old inst) insts)) (sym (settled_gone f inst insts is))
        (rest new (known_after old inst) (as_before new old k inst is) later)
    by_test rest false isnt =
        subst (λ (l : List Inst). KnowsAs (fold known_after new l) (fold known_after (known_after old inst) insts)) (sym (settled_cons f inst insts isnt))
        (rest (known_after new (f inst)) (known_after old inst) (more_known new old k (f inst) inst (s inst) (allowed 0 (omega arith))) later)

pub all_allowed : (words : Words) → type_fault words ≡ None → Allowed nothing_known words.insts
unfolding known_by
all_allowed words sound = λ place within. (keeps_rules words sound place within).types

-- of each id
pub knows_settled : (f : Inst → Inst) → Settles f → (words : Words) → type_fault words ≡ None → KnowsAs (known_by (all_settled f words.insts)) (known_by words.insts)
unfolding known_by
knows_settled f s words sound = known_settled f s words.insts nothing_known nothing_known (λ id. known_itself None) (all_allowed words sound)

pub meaning_settled : (f : Inst → Inst) → Settles f → (words : Words) → type_fault words ≡ None → meaning (all_settled f words.insts) ≡ meaning words.insts
meaning_settled f s words sound = fun_ext (λ id. (knows_settled f s words sound id).meaning)

-- ---- layouts

pub fold_settled : {B : Type 0} (g : B → Inst → B) (f : Inst → Inst) → ((b : B) (inst : Inst) → g b (f inst) ≡ g b inst) → ((b : B) (inst : Inst) → is_spec_id inst ≡ true → g b inst ≡ b)
    → (insts : List Inst) (b : B) → fold g b (all_settled f insts) ≡ fold g b insts
fold_settled {B = B} g f kept gone [] b = refl
fold_settled {B = B} g f kept gone (inst ∷ insts) b = by_test (fold_settled g f kept gone insts) (is_spec_id inst) refl
  where
    by_test : ((c : B) → fold g c (all_settled f insts) ≡ fold g c insts) → (t : Bool) → is_spec_id inst ≡ t → fold g b (all_settled f (inst ∷ insts)) ≡ fold g (g b inst) insts
    by_test rest true is = ap (fold g b) (settled_gone f inst insts is) ∙ rest b ∙ ap (λ (c : B). fold g c insts) (sym (gone b inst is))
    by_test rest false isnt = ap (fold g b) (settled_cons f inst insts isnt) ∙ rest (g b (f inst)) ∙ ap (λ (c : B). fold g c insts) (kept b inst)

layout_same : (means : ℕ → Meaning) (layout : ℕ → Option Layout) (inst for : Inst) → StandsFor inst for → layouts_after means layout inst ≡ layouts_after means layout for
layout_same means layout inst for s = fun_ext (λ id. ap (λ (b : Bool). if b && is_none (layout id) then layout_of layout (means id) else layout id) (gives_same id inst for s))

layout_gone : (means : ℕ → Meaning) (layout : ℕ → Option Layout) (inst : Inst) → is_spec_id inst ≡ true → layouts_after means layout inst ≡ layout
layout_gone means layout inst is = fun_ext (λ id. ap (λ (b : Bool). if b && is_none (layout id) then layout_of layout (means id) else layout id) (gone_gives id inst is))

pub layouts_settled : (f : Inst → Inst) → Settles f → (means : ℕ → Meaning) (insts : List Inst) → layouts_by means (all_settled f insts) ≡ layouts_by means insts
unfolding layouts_by
layouts_settled f s means insts = fold_settled (layouts_after means) f (λ layout inst. layout_same means layout (f inst) inst (s inst)) (layout_gone means) insts (λ _. None)
