-- The types of a module: each has the layout of its shape.
use Rattle.std.proofs.Common.{◌≡◌, ℕ, zero, suc, ◌+◌, ◌*◌, ◌<◌, ◌≤◌, ◌==◌, ◌&&◌, ◌⊎◌, inl, inr, Bool, true, false, nat_le, nat_lt, if◌then◌else◌, List, [], ◌∷◌, length, take, refl, ap, sym, ◌∙◌, subst, arith, Option, None, Some}
use Rattle.std.specs.Prelude.{is_none}
use Rattle.std.specs.List.{list_all}
use Rattle.std.specs.Option.{option_map, option_and_then, unwrap_or}
use Rattle.std.proofs.lemmas.Bool.{leb-true}
use Rattle.std.proofs.lemmas.List.Sums.{fold_more}
use Rattle.limits.specs.declared.TheConstants.{TYPE_WORDS}
use Rattle.basics.proofs.Bools.{first_of_both, second_of_both}
use Rattle.spirv_model.specs.declared.module.Inst.{Inst}
use Rattle.spirv_model.specs.declared.op.TheConstants as op
use Rattle.spirv_model.specs.Operands.{word_at, words_from}
use Rattle.valid_model.specs.declared.meaning.IdFacts.{IdFacts}
use Rattle.valid_model.specs.declared.meaning.Meaning.{Meaning}
use Rattle.valid_model.specs.declared.meaning.Meaning.TheVariants.{Absent, Shape as OfShape, Variable, Value, Label, Other}
use Rattle.valid_model.specs.declared.meaning.Shape.{Shape}
use Rattle.valid_model.specs.declared.meaning.Shape.TheVariants.{Void, Bool as Truth, Int, BoolVector, IntVector, Array, Struct, Pointer, Function}
use Rattle.valid_model.specs.Definitions.{gives, inst_at, no_instruction}
use Rattle.valid_model.specs.Knowledge.{Knowledge, nothing_known, a_type, means, meaning_in, size_in, length_in, is_data, is_data_shape, is_storage_class, is_void}
use Rattle.valid_model.specs.Types.{is_type, vector_shape, vector_type, array_type, members_size, struct_type, pointer_type, type_of}
use Rattle.valid_model.specs.Meanings.{is_constant, known_of, known_after, known_by, known_before, meaning}
use Rattle.valid_model.proofs.KnownIds.{known_stays}
use Rattle.stage_model.specs.Value.{Layout, OneTruth, OneWord, Several, Layouts, NoLayouts, LayoutsOf, repeated}
use Rattle.stage_model.specs.Program.{layouts_of, layout_of_shape, layout_of, layouts_after, layouts_by}

-- ---- what a shape rests on

-- a vector has two components at least, and the types that a shape names are data that are known before
abbrev pub IsSoundShape : Knowledge → Shape → Type 0
IsSoundShape known (BoolVector count) = 2 ≤ count
IsSoundShape known (IntVector count signed) = 2 ≤ count
IsSoundShape known (Array element count) = is_data (meaning_in (known element)) ≡ true
IsSoundShape known (Struct members) = list_all (λ id. is_data (meaning_in (known id))) members.list ≡ true
IsSoundShape known (Pointer class to) = is_data (meaning_in (known to)) ≡ true
IsSoundShape known shape = Unit {0}

abbrev IsSoundMeaning : Knowledge → Meaning → Type 0
IsSoundMeaning known (OfShape shape) = IsSoundShape known shape
IsSoundMeaning known m = Unit {0}

record Sound (known : Knowledge) (facts : IdFacts) : Type 0 where
  is : IsSoundMeaning known facts.meaning

record SoundType (known : Knowledge) (type : Option IdFacts) : Type 0 where
  as_known : IsSoundMeaning known (unwrap_or type (means Other)).meaning

choose : (P : IdFacts → Type 0) {x y : IdFacts} (b : Bool) → P x → P y → P (if b then x else y)
choose P true f g = f
choose P false f g = g

choose_type : (known : Knowledge) {x y : Option IdFacts} (b : Bool) → (b ≡ true → SoundType known x) → SoundType known y → SoundType known (if b then x else y)
choose_type known true f g = f refl
choose_type known false f g = g

no_type : (known : Knowledge) → SoundType known None
no_type known = record { as_known = tt }

sound_vector : (known : Knowledge) (component : Meaning) (count : ℕ) → SoundType known (vector_type component count)
sound_vector known component count =
    choose_type known (nat_le 2 count && nat_le count 4) (λ is. by_component known component count (leb-true 2 count (first_of_both (nat_le 2 count) (nat_le count 4) is))) (no_type known)
  where
    by_component : (known : Knowledge) (component : Meaning) (count : ℕ) → 2 ≤ count → SoundType known (option_map (λ shape. a_type shape count) (vector_shape component count))
    by_component known (OfShape Truth) count more = record { as_known = more }
    by_component known (OfShape (Int signed)) count more = record { as_known = more }
    by_component known component count more = record { as_known = tt }

sound_array : (known : Knowledge) (id count : ℕ) → SoundType known (array_type (known id) id count)
sound_array known id count =
    let rest = nat_lt 0 count && nat_le (count * size_in (known id)) TYPE_WORDS in
    choose_type known (is_data (meaning_in (known id)) && nat_lt 0 count && nat_le (count * size_in (known id)) TYPE_WORDS)
    (λ is. record { as_known = first_of_three (is_data (meaning_in (known id))) (nat_lt 0 count) (nat_le (count * size_in (known id)) TYPE_WORDS) is }) (no_type known)
  where
    first_of_three : (a b c : Bool) → (a && b && c) ≡ true → a ≡ true
    first_of_three true b c is = refl
    first_of_three false b c is = cc

sound_struct : (known : Knowledge) (members : List ℕ) → SoundType known (struct_type known members)
sound_struct known members =
    by_test known members (list_all (λ id. is_data (meaning_in (known id))) members && nat_le (members_size known members) TYPE_WORDS)
    (λ is. first_of_both (list_all (λ id. is_data (meaning_in (known id))) members) (nat_le (members_size known members) TYPE_WORDS) is)
  where
    by_test : (known : Knowledge) (members : List ℕ) (b : Bool) → (b ≡ true → list_all (λ id. is_data (meaning_in (known id))) members ≡ true)
        → SoundType known (option_map (λ size. a_type (Struct (record { list = members })) size) (if b then Some (members_size known members) else None))
    by_test known members true f = record { as_known = f refl }
    by_test known members false f = record { as_known = tt }

sound_pointer : (known : Knowledge) (class to : ℕ) → SoundType known (pointer_type (meaning_in (known to)) class to)
sound_pointer known class to =
    choose_type known (is_storage_class class && is_data (meaning_in (known to))) (λ is. record { as_known = second_of_both (is_storage_class class) (is_data (meaning_in (known to))) is }) (no_type known)

sound_type : (known : Knowledge) (inst : Inst) → SoundType known (type_of known inst)
unfolding type_of
sound_type known inst =
    choose_type known (inst.op == op.TYPE_VOID) (λ _. record { as_known = tt }) (choose_type known (inst.op == op.TYPE_BOOL) (λ _. record { as_known = tt })
    (choose_type known (inst.op == op.TYPE_INT) (λ _. choose_type known ((word_at 1 inst == 32) && nat_le (word_at 2 inst) 1) (λ _. record { as_known = tt }) (no_type known))
    (choose_type known (inst.op == op.TYPE_VECTOR) (λ _. sound_vector known (meaning_in (known (word_at 1 inst))) (word_at 2 inst)) (choose_type known (inst.op == op.TYPE_ARRAY) (λ _. sound_array known (word_at 1 inst) (length_in (known (word_at 2 inst))))
    (choose_type known (inst.op == op.TYPE_STRUCT) (λ _. sound_struct known (words_from 1 inst)) (choose_type known (inst.op == op.TYPE_POINTER) (λ _. sound_pointer known (word_at 1 inst) (word_at 2 inst))
    (choose_type known (inst.op == op.TYPE_FUNCTION) (λ _. choose_type known (is_void (meaning_in (known (word_at 1 inst)))) (λ _. record { as_known = tt }) (no_type known)) (no_type known))))))))

sound_variable : (known : Knowledge) (type class : ℕ) (b : Bool) → IsSoundMeaning known (if b then Variable type class else Other)
sound_variable known type class true = tt
sound_variable known type class false = tt

sound_other : (known : Knowledge) (type : ℕ) (a b : Bool) → IsSoundMeaning known (if a then Label else if b then Other else Value type)
sound_other known type true b = tt
sound_other known type false true = tt
sound_other known type false false = tt

sound : (known : Knowledge) (inst : Inst) → Sound known (known_of known inst)
unfolding known_of
sound known inst =
    choose (Sound known) (is_type inst.op) (record { is = (sound_type known inst).as_known }) (choose (Sound known) (is_constant inst.op) (record { is = tt })
    (choose (Sound known) (inst.op == op.VARIABLE) (record { is = sound_variable known (word_at 0 inst) (word_at 2 inst) (is_storage_class (word_at 2 inst)) })
    (record { is = sound_other known (word_at 0 inst) _ _ })))

pub sound_shape : (known : Knowledge) (inst : Inst) (shape : Shape) → (known_of known inst).meaning ≡ OfShape shape → IsSoundShape known shape
sound_shape known inst shape is = subst (IsSoundMeaning known) is (sound known inst).is

-- ---- layouts of a shape

-- a layout that is there stays
abbrev Extends : (layout later : ℕ → Option Layout) → Type 0
Extends layout later = (id : ℕ) (known : Layout) → layout id ≡ Some known → later id ≡ Some known

-- data that are known have a layout
abbrev pub HaveLayout : Knowledge → (ℕ → Option Layout) → Type 0
HaveLayout known layout = (id : ℕ) → is_data (meaning_in (known id)) ≡ true → (own : Layout) × (layout id ≡ Some own)

abbrev with_front : Option Layout → Option Layouts → Option Layouts
with_front first rest = option_and_then (λ first. option_map (λ rest. LayoutsOf first rest) rest) first

members_stay : (known : Knowledge) (layout later : ℕ → Option Layout) → HaveLayout known layout → Extends layout later → (members : List ℕ) → list_all (λ id. is_data (meaning_in (known id))) members ≡ true
    → (all : Layouts) × (layouts_of layout members ≡ Some all) × (layouts_of later members ≡ Some all)
members_stay known layout later have extends [] all = (NoLayouts, refl, refl)
members_stay known layout later have extends (id ∷ ids) all =
    let own = have id (first_of_both (is_data (meaning_in (known id))) (list_all (λ id. is_data (meaning_in (known id))) ids) all) in
    let rest = members_stay known layout later have extends ids (second_of_both (is_data (meaning_in (known id))) (list_all (λ id. is_data (meaning_in (known id))) ids) all) in (
      LayoutsOf own.0 rest.0,
      ap (λ (o : Option Layout). with_front o (layouts_of layout ids)) own.1 ∙ ap (λ (o : Option Layouts). with_front (Some own.0) o) rest.1,
      ap (λ (o : Option Layout). with_front o (layouts_of later ids)) (extends id own.0 own.1) ∙ ap (λ (o : Option Layouts). with_front (Some own.0) o) rest.2,
    )

shape_stays : (known : Knowledge) (layout later : ℕ → Option Layout) → HaveLayout known layout → Extends layout later → (shape : Shape) → IsSoundShape known shape → layout_of_shape layout shape ≡ layout_of_shape later shape
shape_stays known layout later have extends (Array element count) is = let own = have element is in ap (option_map (λ l. Several (repeated count l))) (own.1 ∙ sym (extends element own.0 own.1))
shape_stays known layout later have extends (Struct members) is = let m = members_stay known layout later have extends members.list is in ap (option_map Several) (m.1 ∙ sym m.2)
shape_stays known layout later have extends shape is = refl

shape_there : (known : Knowledge) (layout : ℕ → Option Layout) → HaveLayout known layout → (shape : Shape) → IsSoundShape known shape → is_data_shape shape ≡ true → (own : Layout) × (layout_of_shape layout shape ≡ Some own)
shape_there known layout have Void is data_is = cc
shape_there known layout have Truth is data_is = (OneTruth, refl)
shape_there known layout have (Int signed) is data_is = (OneWord, refl)
shape_there known layout have (BoolVector count) is data_is = (_, refl)
shape_there known layout have (IntVector count signed) is data_is = (_, refl)
shape_there known layout have (Array element count) is data_is = let own = have element is in (_, ap (option_map (λ l. Several (repeated count l))) own.1)
shape_there known layout have (Struct members) is data_is = let m = members_stay known layout layout have (λ _ _ h. h) members.list is in (_, ap (option_map Several) m.1)
shape_there known layout have (Pointer class to) is data_is = cc
shape_there known layout have Function is data_is = cc

-- ---- after one more instruction

data_sound : (known later : Knowledge) → ((id : ℕ) → is_data (meaning_in (known id)) ≡ true → is_data (meaning_in (later id)) ≡ true) → (shape : Shape) → IsSoundShape known shape → IsSoundShape later shape
data_sound known later stays (BoolVector count) is = is
data_sound known later stays (IntVector count signed) is = is
data_sound known later stays (Array element count) is = stays element is
data_sound known later stays (Struct members) is = all_stay known later stays members.list is
  where
    both : (a b : Bool) → a ≡ true → b ≡ true → (a && b) ≡ true
    both true b is also = also
    both false b is also = cc

    all_stay : (known later : Knowledge) → ((id : ℕ) → is_data (meaning_in (known id)) ≡ true → is_data (meaning_in (later id)) ≡ true) → (ids : List ℕ)
        → list_all (λ id. is_data (meaning_in (known id))) ids ≡ true → list_all (λ id. is_data (meaning_in (later id))) ids ≡ true
    all_stay known later stays [] is = refl
    all_stay known later stays (id ∷ ids) is =
        both (is_data (meaning_in (later id))) (list_all (λ id. is_data (meaning_in (later id))) ids) (stays id (first_of_both (is_data (meaning_in (known id))) (list_all (λ id. is_data (meaning_in (known id))) ids) is))
        (all_stay known later stays ids (second_of_both (is_data (meaning_in (known id))) (list_all (λ id. is_data (meaning_in (known id))) ids) is))
data_sound known later stays (Pointer class to) is = stays to is
data_sound known later stays Void is = tt
data_sound known later stays Truth is = tt
data_sound known later stays (Int signed) is = tt
data_sound known later stays Function is = tt

-- what is known of ids, and the layouts of those that are types
pub record Fits (known : Knowledge) (layout : ℕ → Option Layout) : Type 0 where
  pub sounds : (id : ℕ) (shape : Shape) → meaning_in (known id) ≡ OfShape shape → IsSoundShape known shape
  pub shaped : (id : ℕ) (shape : Shape) → meaning_in (known id) ≡ OfShape shape → layout id ≡ layout_of_shape layout shape
  pub fresh : (id : ℕ) → known id ≡ None → layout id ≡ None

shape_by : (m : Meaning) → is_data m ≡ true → (shape : Shape) × (m ≡ OfShape shape) × (is_data_shape shape ≡ true)
shape_by (OfShape shape) is = (shape, refl, is)
shape_by m is = cc

no_meaning : (shape : Shape) → ◌≡◌ {A = Meaning} Absent (OfShape shape) → ⊥
no_meaning shape is = cc

new_or_old : (here : Bool) (before : Option IdFacts) (made : IdFacts) (m : Meaning) → meaning_in (if here && is_none before then Some made else before) ≡ m → (made.meaning ≡ m) ⊎ (meaning_in before ≡ m)
new_or_old true None made m is = inl is
new_or_old true (Some facts) made m is = inr is
new_or_old false before made m is = inr is

layout_case : (here : Bool) (before : Option IdFacts) (own : Option Layout) (made : IdFacts) (layout : ℕ → Option Layout) (m : Meaning) (shape : Shape) → (before ≡ None → own ≡ None) → (meaning_in before ≡ OfShape shape → own ≡ layout_of_shape layout shape) → m ≡ OfShape shape
    → meaning_in (if here && is_none before then Some made else before) ≡ OfShape shape → (if here && is_none own then layout_of layout m else own) ≡ layout_of_shape layout shape
layout_case false before own made layout m shape fresh shaped means is = shaped is
layout_case true before None made layout m shape fresh shaped means is = ap (layout_of layout) means
layout_case true None (Some own) made layout m shape fresh shaped means is = let e = fresh refl in cc
layout_case true (Some facts) (Some own) made layout m shape fresh shaped means is = shaped is

known_kept : (here : Bool) (before : Option IdFacts) (made : IdFacts) → is_data (meaning_in before) ≡ true → is_data (meaning_in (if here && is_none before then Some made else before)) ≡ true
known_kept true None made is = cc
known_kept true (Some facts) made is = is
known_kept false before made is = is

layout_kept : (here : Bool) (own : Option Layout) (new : Option Layout) (known : Layout) → own ≡ Some known → (if here && is_none own then new else own) ≡ Some known
layout_kept true None new known is = cc
layout_kept true (Some own) new known is = is
layout_kept false own new known is = is

still_fresh : (here : Bool) (before : Option IdFacts) (own new : Option Layout) (made : IdFacts) → (before ≡ None → own ≡ None) → (if here && is_none before then Some made else before) ≡ None → (if here && is_none own then new else own) ≡ None
still_fresh true None own new made fresh is = cc
still_fresh true (Some facts) own new made fresh is = cc
still_fresh false before own new made fresh is = fresh is

step : (meaning : ℕ → Meaning) (known : Knowledge) (layout : ℕ → Option Layout) (inst : Inst) → Fits known layout → HaveLayout known layout → ((id : ℕ) (shape : Shape) → meaning_in (known_after known inst id) ≡ OfShape shape → meaning id ≡ OfShape shape)
    → Fits (known_after known inst) (layouts_after meaning layout inst) × HaveLayout (known_after known inst) (layouts_after meaning layout inst)
unfolding known_after
step meaning known layout inst fits have agrees =
    let later : ℕ → Option Layout = layouts_after meaning layout inst in
    let extends : Extends layout later = λ id own is. layout_kept (gives id inst) (layout id) (layout_of layout (meaning id)) own is in
    let rests : (id : ℕ) (shape : Shape) → meaning_in (known_after known inst id) ≡ OfShape shape → IsSoundShape known shape =
    λ id shape is. elim (new_or_old (gives id inst) (known id) (known_of known inst) (OfShape shape) is) [ inl new ↦ sound_shape known inst shape new | inr old ↦ fits.sounds id shape old ] in
    let first : (id : ℕ) (shape : Shape) → meaning_in (known_after known inst id) ≡ OfShape shape → later id ≡ layout_of_shape layout shape =
    λ id shape is. layout_case (gives id inst) (known id) (layout id) (known_of known inst) layout (meaning id) shape (fits.fresh id) (fits.shaped id shape) (agrees id shape is) is in (
      record {
        sounds = λ id shape is. data_sound known (known_after known inst) (λ other. known_kept (gives other inst) (known other) (known_of known inst)) shape (rests id shape is);
        shaped = λ id shape is. first id shape is ∙ shape_stays known layout later have extends shape (rests id shape is);
        fresh = λ id none. still_fresh (gives id inst) (known id) (layout id) (layout_of layout (meaning id)) (known_of known inst) (fits.fresh id) none;
      },
      λ id is.
          let s = shape_by (meaning_in (known_after known inst id)) is in
          let own = shape_there known layout have s.0 (rests id s.0 s.1) s.2 in
          (own.0, first id s.0 s.1 ∙ own.1),
    )

-- ---- of a whole list

abbrev pub layouts_at : List Inst → ℕ → ℕ → Option Layout
layouts_at insts place = layouts_by (meaning insts) (take place insts)

known_next : (insts : List Inst) (place : ℕ) → place < length insts → known_before insts (place + 1) ≡ known_after (known_before insts place) (inst_at insts place)
unfolding known_by
known_next insts place within = fold_more known_after nothing_known insts place no_instruction within

layouts_next : (insts : List Inst) (place : ℕ) → place < length insts → layouts_at insts (place + 1) ≡ layouts_after (meaning insts) (layouts_at insts place) (inst_at insts place)
unfolding layouts_by
layouts_next insts place within = fold_more (layouts_after (meaning insts)) (λ _. None) insts place no_instruction within

known_first : (insts : List Inst) (id : ℕ) → known_before insts 0 id ≡ None
unfolding known_by
known_first insts id = refl

layouts_first : (insts : List Inst) (id : ℕ) → layouts_at insts 0 id ≡ None
unfolding layouts_by
layouts_first insts id = refl

agrees : (insts : List Inst) (place id : ℕ) (shape : Shape) → meaning_in (known_before insts place id) ≡ OfShape shape → meaning insts id ≡ OfShape shape
agrees insts place id shape is = by_known insts place id shape (known_before insts place id) refl is
  where
    by_known : (insts : List Inst) (place id : ℕ) (shape : Shape) (known : Option IdFacts) → known_before insts place id ≡ known → meaning_in known ≡ OfShape shape → meaning insts id ≡ OfShape shape
    by_known insts place id shape None known is = absurd (no_meaning shape is)
    by_known insts place id shape (Some facts) known is = ap meaning_in (known_stays insts place id facts known) ∙ is

abbrev pub FitAt : List Inst → ℕ → Type 0
FitAt insts place = Fits (known_before insts place) (layouts_at insts place) × HaveLayout (known_before insts place) (layouts_at insts place)

pub all_fit : (insts : List Inst) (place : ℕ) → place ≤ length insts → FitAt insts place
all_fit insts zero within = (
  record {
    sounds = λ id shape is. absurd (no_meaning shape (ap meaning_in (sym (known_first insts id)) ∙ is));
    shaped = λ id shape is. absurd (no_meaning shape (ap meaning_in (sym (known_first insts id)) ∙ is));
    fresh = λ id none. layouts_first insts id;
  },
  λ id is. let e : is_data (meaning_in (known_before insts 0 id)) ≡ false = ap (λ (k : Option IdFacts). is_data (meaning_in k)) (known_first insts id) in absurd (cc),
)
all_fit insts (suc place) within =
    let e : place + 1 ≡ suc place = omega arith in
    let before = all_fit insts place (omega arith) in
    let k = known_next insts place (omega arith) in let l = layouts_next insts place (omega arith) in
    let after = step (meaning insts) (known_before insts place) (layouts_at insts place) (inst_at insts place) before.0 before.1
    (λ id shape is. agrees insts (place + 1) id shape (ap (λ (known : Knowledge). meaning_in (known id)) k ∙ is)) in
    subst (FitAt insts) e
    (subst (λ (layout : ℕ → Option Layout). Fits (known_before insts (place + 1)) layout × HaveLayout (known_before insts (place + 1)) layout) (sym l)
    (subst (λ (known : Knowledge). Fits known (layouts_after (meaning insts) (layouts_at insts place) (inst_at insts place)) × HaveLayout known (layouts_after (meaning insts) (layouts_at insts place) (inst_at insts place))) (sym k) after))
