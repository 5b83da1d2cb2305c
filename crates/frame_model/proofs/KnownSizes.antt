-- The words that are known of a type are those of its layout, and few.
use Rattle.std.proofs.Common.{◌≡◌, ℕ, zero, suc, ◌+◌, ◌*◌, ◌<◌, ◌≤◌, ◌==◌, ◌&&◌, Bool, true, false, nat_le, nat_lt, if◌then◌else◌, List, [], ◌∷◌, length, take, refl, ap, sym, ◌∙◌, subst, arith, Option, None, Some}
use Rattle.std.specs.Prelude.{is_none}
use Rattle.std.specs.List.{list_all}
use Rattle.std.specs.Option.{option_map, option_and_then, unwrap_or}
use Rattle.std.proofs.lemmas.Bool.{leb-true}
use Rattle.std.proofs.lemmas.List.{take_all}
use Rattle.std.proofs.lemmas.List.Sums.{fold_more, sum_by-cons}
use Rattle.limits.specs.declared.TheConstants.{TYPE_WORDS}
use Rattle.basics.proofs.Bools.{first_of_both, second_of_both}
use Rattle.spirv_model.specs.declared.module.Inst.{Inst}
use Rattle.spirv_model.specs.declared.op.TheConstants as op
use Rattle.spirv_model.specs.Operands.{word_at, words_from}
use Rattle.valid_model.specs.declared.meaning.IdFacts.{IdFacts}
use Rattle.valid_model.specs.declared.meaning.Meaning.{Meaning}
use Rattle.valid_model.specs.declared.meaning.Meaning.TheVariants.{Shape as OfShape, Variable, Value, Label, Other}
use Rattle.valid_model.specs.declared.meaning.Shape.TheVariants.{Void, Bool as Truth, Int, Struct, Pointer, Function}
use Rattle.valid_model.specs.Definitions.{gives, inst_at, no_instruction}
use Rattle.valid_model.specs.Knowledge.{Knowledge, nothing_known, a_type, means, meaning_in, size_in, length_in, is_data, is_storage_class, is_void}
use Rattle.valid_model.specs.Types.{is_type, vector_shape, vector_type, array_type, members_size, struct_type, pointer_type, type_of}
use Rattle.valid_model.specs.Meanings.{is_constant, known_of, known_after, known_by, known_before, meaning}
use Rattle.valid_model.proofs.KnownIds.{known_stays}
use Rattle.stage_model.specs.Value.{Layout, OneTruth, OneWord, Several, Layouts, NoLayouts, LayoutsOf, repeated, size_of, sizes_of}
use Rattle.stage_model.specs.Program.{layouts_of, layout_of, layouts_after, layouts_by, program_of}
use Rattle.stage_model.specs.Stage.{size_in as size_of_layout}
use Rattle.typed_model.proofs.ModuleTypes.{HaveLayout, layouts_at, all_fit}

-- ---- what an instruction declares

pub repeated_size : (n : ℕ) (layout : Layout) → sizes_of (repeated n layout) ≡ n * size_of layout
repeated_size zero layout = omega arith
repeated_size (suc n) layout =
    let e = repeated_size n layout in
    ap (λ (rest : ℕ). size_of layout + rest) e ∙ more n (size_of layout)
  where
    more : (n size : ℕ) → size + n * size ≡ suc n * size
    more n size = grind arith

-- the sizes that are known are those of the layouts
abbrev AgreeSizes : Knowledge → (ℕ → Option Layout) → Type 0
AgreeSizes known layout = (id : ℕ) → size_in (known id) ≡ size_of_layout (layout id)

record HasSize (layout : ℕ → Option Layout) (facts : IdFacts) : Type 0 where
  is : facts.size ≡ size_of_layout (layout_of layout facts.meaning)
  few : facts.size ≤ TYPE_WORDS

record TypeHasSize (layout : ℕ → Option Layout) (type : Option IdFacts) : Type 0 where
  of : HasSize layout (unwrap_or type (means Other))

choose : (P : IdFacts → Type 0) {x y : IdFacts} (b : Bool) → P x → P y → P (if b then x else y)
choose P true f g = f
choose P false f g = g

choose_type : (layout : ℕ → Option Layout) {x y : Option IdFacts} (b : Bool) → (b ≡ true → TypeHasSize layout x) → TypeHasSize layout y → TypeHasSize layout (if b then x else y)
choose_type layout true f g = f refl
choose_type layout false f g = g

no_type : (layout : ℕ → Option Layout) → TypeHasSize layout None
no_type layout = record { of = record { is = refl; few = omega arith } }

sized_vector : (layout : ℕ → Option Layout) (component : Meaning) (count : ℕ) → TypeHasSize layout (vector_type component count)
sized_vector layout component count =
    choose_type layout (nat_le 2 count && nat_le count 4) (λ is. by_component layout component count (leb-true count 4 (second_of_both (nat_le 2 count) (nat_le count 4) is))) (no_type layout)
  where
    ones : (count size : ℕ) → size ≡ 1 → count ≡ count * size
    ones count size is = grind (arith, is)

    by_component : (layout : ℕ → Option Layout) (component : Meaning) (count : ℕ) → count ≤ 4 → TypeHasSize layout (option_map (λ shape. a_type shape count) (vector_shape component count))
    by_component layout (OfShape Truth) count few = record { of = record { is = ones count 1 refl ∙ sym (repeated_size count OneTruth); few = omega (arith, few) } }
    by_component layout (OfShape (Int signed)) count few = record { of = record { is = ones count 1 refl ∙ sym (repeated_size count OneWord); few = omega (arith, few) } }
    by_component layout component count few = no_type layout

sized_array : (known : Knowledge) (layout : ℕ → Option Layout) → HaveLayout known layout → AgreeSizes known layout → (id count : ℕ) → TypeHasSize layout (array_type (known id) id count)
sized_array known layout have agree id count =
    choose_type layout (is_data (meaning_in (known id)) && nat_lt 0 count && nat_le (count * size_in (known id)) TYPE_WORDS)
    (λ is.
    let own = have id (first_of_three (is_data (meaning_in (known id))) (nat_lt 0 count) (nat_le (count * size_in (known id)) TYPE_WORDS) is) in
    let few = leb-true (count * size_in (known id)) TYPE_WORDS (third_of_three (is_data (meaning_in (known id))) (nat_lt 0 count) (nat_le (count * size_in (known id)) TYPE_WORDS) is) in
    record {
      of = record {
        is = ap (λ (size : ℕ). count * size) (agree id ∙ ap size_of_layout own.1) ∙ (sym (repeated_size count own.0) ∙ sym (ap (λ (o : Option Layout). size_of_layout (option_map (λ l. Several (repeated count l)) o)) own.1));
        few = few;
      };
    }) (no_type layout)
  where
    first_of_three : (a b c : Bool) → (a && b && c) ≡ true → a ≡ true
    first_of_three true b c is = refl
    first_of_three false b c is = cc

    third_of_three : (a b c : Bool) → (a && b && c) ≡ true → c ≡ true
    third_of_three true true c is = is
    third_of_three true false c is = cc
    third_of_three false b c is = cc

-- the layouts of members, with their sizes
record MembersHave (known : Knowledge) (layout : ℕ → Option Layout) (members : List ℕ) : Type 0 where
  all : Layouts
  are : layouts_of layout members ≡ Some all
  size : members_size known members ≡ sizes_of all

with_front : Option Layout → Option Layouts → Option Layouts
with_front first rest = option_and_then (λ first. option_map (λ rest. LayoutsOf first rest) rest) first

members_have : (known : Knowledge) (layout : ℕ → Option Layout) → HaveLayout known layout → AgreeSizes known layout → (members : List ℕ) → list_all (λ id. is_data (meaning_in (known id))) members ≡ true → MembersHave known layout members
unfolding with_front
members_have known layout have agree [] are = record { all = NoLayouts; are = refl; size = refl }
members_have known layout have agree (id ∷ ids) are =
    let own = have id (first_of_both (is_data (meaning_in (known id))) (list_all (λ id. is_data (meaning_in (known id))) ids) are) in
    let rest = members_have known layout have agree ids (second_of_both (is_data (meaning_in (known id))) (list_all (λ id. is_data (meaning_in (known id))) ids) are) in
    record {
      all = LayoutsOf own.0 rest.all;
      are = ap (λ (o : Option Layout). with_front o (layouts_of layout ids)) own.1 ∙ ap (λ (o : Option Layouts). with_front (Some own.0) o) rest.are;
      size =
          sum_by-cons (λ (id : ℕ). size_in (known id)) id ids
          ∙ (ap (λ (n : ℕ). n + members_size known ids) (agree id ∙ ap size_of_layout own.1) ∙ ap (λ (n : ℕ). size_of own.0 + n) rest.size);
    }

sized_struct : (known : Knowledge) (layout : ℕ → Option Layout) → HaveLayout known layout → AgreeSizes known layout → (members : List ℕ) → TypeHasSize layout (struct_type known members)
sized_struct known layout have agree members =
    by_test known layout have agree members (list_all (λ id. is_data (meaning_in (known id))) members && nat_le (members_size known members) TYPE_WORDS)
    (λ is. first_of_both (list_all (λ id. is_data (meaning_in (known id))) members) (nat_le (members_size known members) TYPE_WORDS) is)
    (λ is. leb-true (members_size known members) TYPE_WORDS (second_of_both (list_all (λ id. is_data (meaning_in (known id))) members) (nat_le (members_size known members) TYPE_WORDS) is))
  where
    by_test : (known : Knowledge) (layout : ℕ → Option Layout) → HaveLayout known layout → AgreeSizes known layout → (members : List ℕ) (b : Bool) → (b ≡ true → list_all (λ id. is_data (meaning_in (known id))) members ≡ true) → (b ≡ true → members_size known members ≤ TYPE_WORDS)
        → TypeHasSize layout (option_map (λ size. a_type (Struct (record { list = members })) size) (if b then Some (members_size known members) else None))
    by_test known layout have agree members true f few =
        let m = members_have known layout have agree members (f refl) in
        record { of = record { is = m.size ∙ sym (ap (λ (o : Option Layouts). size_of_layout (option_map Several o)) m.are); few = few refl } }
    by_test known layout have agree members false f few = no_type layout

sized_pointer : (layout : ℕ → Option Layout) (pointee : Meaning) (class to : ℕ) → TypeHasSize layout (pointer_type pointee class to)
sized_pointer layout pointee class to = choose_type layout (is_storage_class class && is_data pointee) (λ is. record { of = record { is = refl; few = omega arith } }) (no_type layout)

sized_type : (known : Knowledge) (layout : ℕ → Option Layout) → HaveLayout known layout → AgreeSizes known layout → (inst : Inst) → TypeHasSize layout (type_of known inst)
unfolding type_of
sized_type known layout have agree inst =
    choose_type layout (inst.op == op.TYPE_VOID) (λ _. record { of = record { is = refl; few = omega arith } }) (choose_type layout (inst.op == op.TYPE_BOOL) (λ _. record { of = record { is = refl; few = omega arith } })
    (choose_type layout (inst.op == op.TYPE_INT) (λ _. choose_type layout ((word_at 1 inst == 32) && nat_le (word_at 2 inst) 1) (λ _. record { of = record { is = refl; few = omega arith } }) (no_type layout))
    (choose_type layout (inst.op == op.TYPE_VECTOR) (λ _. sized_vector layout (meaning_in (known (word_at 1 inst))) (word_at 2 inst)) (choose_type layout (inst.op == op.TYPE_ARRAY) (λ _. sized_array known layout have agree (word_at 1 inst) (length_in (known (word_at 2 inst))))
    (choose_type layout (inst.op == op.TYPE_STRUCT) (λ _. sized_struct known layout have agree (words_from 1 inst)) (choose_type layout (inst.op == op.TYPE_POINTER) (λ _. sized_pointer layout (meaning_in (known (word_at 2 inst))) (word_at 1 inst) (word_at 2 inst))
    (choose_type layout (inst.op == op.TYPE_FUNCTION) (λ _. choose_type layout (is_void (meaning_in (known (word_at 1 inst)))) (λ _. record { of = record { is = refl; few = omega arith } }) (no_type layout)) (no_type layout))))))))

sized_variable : (layout : ℕ → Option Layout) (type class : ℕ) (b : Bool) → HasSize layout (means (if b then Variable type class else Other))
sized_variable layout type class true = record { is = refl; few = omega arith }
sized_variable layout type class false = record { is = refl; few = omega arith }

sized_other : (layout : ℕ → Option Layout) (type : ℕ) (a b : Bool) → HasSize layout (means (if a then Label else if b then Other else Value type))
sized_other layout type true b = record { is = refl; few = omega arith }
sized_other layout type false true = record { is = refl; few = omega arith }
sized_other layout type false false = record { is = refl; few = omega arith }

sized : (known : Knowledge) (layout : ℕ → Option Layout) → HaveLayout known layout → AgreeSizes known layout → (inst : Inst) → HasSize layout (known_of known inst)
unfolding known_of
sized known layout have agree inst =
    choose (HasSize layout) (is_type inst.op) (sized_type known layout have agree inst).of (choose (HasSize layout) (is_constant inst.op) (record { is = refl; few = omega arith })
    (choose (HasSize layout) (inst.op == op.VARIABLE) (sized_variable layout (word_at 0 inst) (word_at 2 inst) (is_storage_class (word_at 2 inst)))
    (sized_other layout (word_at 0 inst) _ _)))

-- ---- after one more instruction

no_size : (layout : ℕ → Option Layout) (m : Meaning) → is_data m ≡ false → layout_of layout m ≡ None
no_size layout (OfShape Void) isnt = refl
no_size layout (OfShape (Pointer class to)) isnt = refl
no_size layout (OfShape Function) isnt = refl
no_size layout (OfShape shape) isnt = cc
no_size layout m isnt = refl

size_case : (here : Bool) (before : Option IdFacts) (own : Option Layout) (made : IdFacts) (layout : ℕ → Option Layout) (m : Meaning) → (before ≡ None → own ≡ None) → (is_data (meaning_in before) ≡ true → (l : Layout) × (own ≡ Some l))
    → size_in before ≡ size_of_layout own → (before ≡ None → here ≡ true → made.meaning ≡ m) → ((facts : IdFacts) → before ≡ Some facts → facts.meaning ≡ m) → made.size ≡ size_of_layout (layout_of layout made.meaning)
    → size_in (if here && is_none before then Some made else before) ≡ size_of_layout (if here && is_none own then layout_of layout m else own)
size_case false before own made layout m fresh have agree new old is = agree
size_case true None (Some l) made layout m fresh have agree new old is = let e = fresh refl in cc
size_case true None None made layout m fresh have agree new old is = is ∙ ap (λ (m : Meaning). size_of_layout (layout_of layout m)) (new refl refl)
size_case true (Some facts) (Some l) made layout m fresh have agree new old is = agree
size_case true (Some facts) None made layout m fresh have agree new old is = by_data facts layout m (is_data facts.meaning) refl have agree (old facts refl)
  where
    by_data : (facts : IdFacts) (layout : ℕ → Option Layout) (m : Meaning) (b : Bool) → is_data facts.meaning ≡ b → (is_data facts.meaning ≡ true → (l : Layout) × (◌≡◌ {A = Option Layout} None (Some l))) → facts.size ≡ 0 → facts.meaning ≡ m → facts.size ≡ size_of_layout (layout_of layout m)
    by_data facts layout m true is have none old = let l = have is in let e = l.1 in cc
    by_data facts layout m false is have none old = none ∙ sym (ap size_of_layout (ap (layout_of layout) (sym old) ∙ no_size layout facts.meaning is))

few_case : (here : Bool) (before : Option IdFacts) (made : IdFacts) → size_in before ≤ TYPE_WORDS → made.size ≤ TYPE_WORDS → size_in (if here && is_none before then Some made else before) ≤ TYPE_WORDS
few_case false before made less new = less
few_case true None made less new = new
few_case true (Some facts) made less new = less

known_next : (insts : List Inst) (place : ℕ) → place < length insts → known_before insts (suc place) ≡ known_after (known_before insts place) (inst_at insts place)
unfolding known_by
known_next insts place within =
    let e : suc place ≡ place + 1 = omega arith in
    ap (λ (n : ℕ). known_by (take n insts)) e ∙ fold_more known_after nothing_known insts place no_instruction within

layouts_next : (insts : List Inst) (place : ℕ) → place < length insts → layouts_at insts (suc place) ≡ layouts_after (meaning insts) (layouts_at insts place) (inst_at insts place)
unfolding layouts_by
layouts_next insts place within =
    let e : suc place ≡ place + 1 = omega arith in
    ap (λ (n : ℕ). layouts_at insts n) e ∙ fold_more (layouts_after (meaning insts)) (λ _. None) insts place no_instruction within

known_first : (insts : List Inst) (id : ℕ) → known_before insts 0 id ≡ None
unfolding known_by
known_first insts id = refl

layouts_first : (insts : List Inst) (id : ℕ) → layouts_at insts 0 id ≡ None
unfolding layouts_by
layouts_first insts id = refl

record SizesAt (insts : List Inst) (place : ℕ) : Type 0 where
  agree : AgreeSizes (known_before insts place) (layouts_at insts place)
  few : (id : ℕ) → size_in (known_before insts place id) ≤ TYPE_WORDS

here_known : (here : Bool) (before : Option IdFacts) (made : IdFacts) → before ≡ None → here ≡ true → (if here && is_none before then Some made else before) ≡ Some made
here_known true None made none is = refl
here_known true (Some facts) made none is = cc
here_known false before made none is = cc

sizes_next : (insts : List Inst) (place : ℕ) → place < length insts → SizesAt insts place → SizesAt insts (suc place)
unfolding known_after
sizes_next insts place within before =
    let known = known_before insts place in let layout = layouts_at insts place in let inst = inst_at insts place in
    let fit = all_fit insts place (omega arith) in
    let made = sized known layout fit.1 before.agree inst in
    let k = known_next insts place within in let l = layouts_next insts place within in
    record {
      agree = λ id.
          ap (λ (f : Knowledge). size_in (f id)) k
          ∙ (size_case (gives id inst) (known id) (layout id) (known_of known inst) layout (meaning insts id) (fit.0.fresh id) (fit.1 id) (before.agree id)
          (λ none is. sym (ap meaning_in (known_stays insts (suc place) id (known_of known inst) (ap (λ (f : Knowledge). f id) k ∙ here_known (gives id inst) (known id) (known_of known inst) none is))))
          (λ facts is. sym (ap meaning_in (known_stays insts place id facts is))) made.is
          ∙ sym (ap (λ (f : ℕ → Option Layout). size_of_layout (f id)) l));
      few = λ id. subst (λ (f : Knowledge). size_in (f id) ≤ TYPE_WORDS) (sym k) (few_case (gives id inst) (known id) (known_of known inst) (before.few id) made.few);
    }

sizes_at : (insts : List Inst) (place : ℕ) → place ≤ length insts → SizesAt insts place
sizes_at insts zero within = record {
  agree = λ id. ap size_in (known_first insts id) ∙ sym (ap size_of_layout (layouts_first insts id));
  few = λ id. subst (λ (k : Option IdFacts). size_in k ≤ TYPE_WORDS) (sym (known_first insts id)) (omega arith);
}
sizes_at insts (suc place) within = sizes_next insts place (omega arith) (sizes_at insts place (omega arith))

all_sizes : (insts : List Inst) → AgreeSizes (known_by insts) (layouts_by (meaning insts) insts) × ((id : ℕ) → size_in (known_by insts id) ≤ TYPE_WORDS)
all_sizes insts =
    let s = sizes_at insts (length insts) (omega arith) in
    let e : take (length insts) insts ≡ insts = take_all (length insts) insts (omega arith) in (
      subst (λ (l : List Inst). AgreeSizes (known_by l) (layouts_by (meaning insts) l)) e s.agree,
      subst (λ (l : List Inst). (id : ℕ) → size_in (known_by l id) ≤ TYPE_WORDS) e s.few,
    )

-- the words that are known of an id are those of its layout
pub known_size : (insts : List Inst) (id : ℕ) → size_in (known_by insts id) ≡ size_of_layout ((program_of insts).layout id)
unfolding program_of
known_size insts id = (all_sizes insts).0 id

-- a type has few words
pub known_few : (insts : List Inst) (id : ℕ) → size_in (known_by insts id) ≤ TYPE_WORDS
known_few insts id = (all_sizes insts).1 id
