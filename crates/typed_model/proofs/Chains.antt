-- OpAccessChain: a pointer of its type, where its operands fit.
use Rattle.std.proofs.Common.{◌≡◌, ℕ, zero, suc, ◌+◌, ◌-◌, ◌==◌, Bool, true, false, if◌then◌else◌, List, [], ◌∷◌, ◌++◌, refl, ap, sym, ◌∙◌, subst, arith, Option, None, Some}
use Rattle.std.specs.Prelude.{slice_get}
use Rattle.std.specs.Option.{option_map, option_and_then}
use Rattle.std.proofs.lemmas.Bool.Decides.{nat_tests}
use Rattle.basics.proofs.Bools.{first_of_both, second_of_both}
use Rattle.valid_model.specs.declared.meaning.Meaning.{Meaning}
use Rattle.valid_model.specs.declared.meaning.Meaning.TheVariants.{Shape as OfShape, Variable}
use Rattle.valid_model.specs.declared.meaning.Shape.TheVariants.{Int, BoolVector, IntVector, Array, Struct, Pointer as PointerType}
use Rattle.valid_model.specs.Knowledge.{is_integer}
use Rattle.valid_model.specs.Shapes.{pointee_id}
use Rattle.check_model.specs.declared.components.Part.{Part}
use Rattle.check_model.specs.declared.components.Part.TheVariants as part
use Rattle.check_model.specs.CompositeOperands.{is_of_type}
use Rattle.check_model.specs.MemoryOperands.{indexed, member_at, chain_part, chain_step, chain_along, is_pointer_to, chain_fits}
use Rattle.check_model.specs.Typing.{Typing, type_id, type_of, meaning_of}
use Rattle.stage_model.specs.Value.{Value, Truth, Word, Composite, Pointer, Outside, Layout, OneTruth, OneWord, Several, Layouts, NoLayouts, LayoutsOf, size_of, repeated, part_at, part_along}
use Rattle.stage_model.specs.Program.{Program, held_layout, layouts_of}
use Rattle.stage_model.specs.Effect.{place_of, all_words, pointer_along, chained, chain_of}
use Rattle.typed_model.specs.Values.{IsPointer, IsOfMeaning}
use Rattle.typed_model.specs.Types.{HasTypes, typing_in, part_layout, Suits, AllSuit, HasTypedResult}
use Rattle.typed_model.proofs.Layouts.{word_of}
use Rattle.typed_model.proofs.TypeLayouts.{same, part_of_type, type_has_layout}
use Rattle.typed_model.proofs.Parts.{layout_at, repeated_same, members_at, member_found}
use Rattle.typed_model.proofs.MemoryValues.{pointer_value}

-- ---- parts of layouts

second_or : Layout → Option (ℕ × Layout) → Layout
second_or layout None = layout
second_or layout (Some (place, found)) = found

same_second : (p q : ℕ) (l m : Layout) → ◌≡◌ {A = Option (ℕ × Layout)} (Some (p, l)) (Some (q, m)) → l ≡ m
unfolding second_or
same_second p q l m is = ap (second_or l) is

abbrev over : Layout → Option (ℕ × Layout) → Option (ℕ × Layout)
over layout found = option_map (λ (place, part). (size_of layout + place, part)) found

not_zero : (index : ℕ) → suc index == 0 ≡ false
not_zero index = grind (arith, nat_tests)

later_part : (layout : Layout) (all : Layouts) (index : ℕ) → part_at (LayoutsOf layout all) (suc index) ≡ over layout (part_at all index)
later_part layout all index =
    let e : suc index - 1 ≡ index = omega arith in
    ap (λ (b : Bool). if b then Some (0, layout) else over layout (part_at all (suc index - 1))) (not_zero index) ∙ ap (λ (n : ℕ). over layout (part_at all n)) e

over_found : (layout : Layout) (rest : Option (ℕ × Layout)) (place : ℕ) (found : Layout) → over layout rest ≡ Some (place, found) → (within : ℕ) × (rest ≡ Some (within, found))
over_found layout None place found is = cc
over_found layout (Some (within, part)) place found is = (within, ap (λ (l : Layout). Some (within, l)) (same_second _ _ part found is))

place_layout : (all : Layouts) (index place : ℕ) (found : Layout) → part_at all index ≡ Some (place, found) → layout_at all index ≡ Some found
place_layout NoLayouts index place found is = cc
place_layout (LayoutsOf layout all) zero place found is = ap Some (same_second 0 place layout found is)
place_layout (LayoutsOf layout all) (suc index) place found is =
    let rest = over_found layout (part_at all index) place found (sym (later_part layout all index) ∙ is) in place_layout all index rest.0 found rest.1

-- indices behind others
abbrev further : ℕ → Option (ℕ × Layout) → Option (ℕ × Layout)
further place found = option_map (λ (more, layout). (place + more, layout)) found

abbrev inside : List ℕ → Option (ℕ × Layout) → Option (ℕ × Layout)
inside indices reached = option_and_then (λ (place, part). further place (part_along part indices)) reached

further_found : (place to : ℕ) (found : Option (ℕ × Layout)) (layout : Layout) → further place found ≡ Some (to, layout) → (within : ℕ) × (found ≡ Some (within, layout))
further_found place to None layout is = cc
further_found place to (Some (within, own)) layout is = (within, ap (λ (l : Layout). Some (within, l)) (same_second _ _ own layout is))

inside_found : (indices : List ℕ) (reached : Option (ℕ × Layout)) (to : ℕ) (layout : Layout) → inside indices reached ≡ Some (to, layout)
    → (place : ℕ) × (part : Layout) × (reached ≡ Some (place, part)) × ((within : ℕ) × (part_along part indices ≡ Some (within, layout)))
inside_found indices None to layout is = cc
inside_found indices (Some (place, part)) to layout is = (place, part, refl, further_found place to (part_along part indices) layout is)

-- the part to which further indices lead
along_more : (indices more : List ℕ) (whole : Layout) (place : ℕ) (reached : Layout) (to : ℕ) (layout : Layout) → part_along whole indices ≡ Some (place, reached) → part_along whole (indices ++ more) ≡ Some (to, layout)
    → (within : ℕ) × (part_along reached more ≡ Some (within, layout))
along_more [] more whole place reached to layout is all = (to, subst (λ l. part_along l more ≡ Some (to, layout)) (same_second _ _ whole reached is) all)
along_more (index ∷ indices) more OneTruth place reached to layout is all = cc
along_more (index ∷ indices) more OneWord place reached to layout is all = cc
along_more (index ∷ indices) more (Several parts) place reached to layout is all =
    let a = inside_found indices (part_at parts index) place reached is in
    let b = inside_found (indices ++ more) (part_at parts index) to layout all in
    let e : a.1 ≡ b.1 = same_second a.0 b.0 a.1 b.1 (sym a.2 ∙ b.2) in
    along_more indices more a.1 a.3.0 reached b.3.0 layout a.3.1 (ap (λ l. part_along l (indices ++ more)) e ∙ b.3.1)

-- ---- one index

-- the index leads to this part, whatever its number is
pub record ChainStep (program : Program) (whole : Layout) (value : Value) (next : Part) : Type 0 where
  pub parts : Layouts
  pub is : whole ≡ Several parts
  pub word : ℕ
  pub is_word : value ≡ Word word
  pub layout : Layout
  pub known : part_layout program next ≡ Some layout
  pub same : (place : ℕ) (found : Layout) → part_at parts word ≡ Some (place, found) → found ≡ layout

same_some : {A : Type 0} (x y : A) → Some x ≡ Some y → x ≡ y
same_some x y is = cc

-- an index that is an integer
integer_suits : (program : Program) → HasTypes program → (constant : ℕ → Option ℕ) (vertex : Bool) (index : ℕ) (value : Value) (type : Option ℕ) → type_id (program.meaning index) ≡ type
    → is_integer (meaning_of (typing_in program constant vertex) type) ≡ true → Suits program constant index value → (word : ℕ) × (value ≡ Word word)
integer_suits program types constant vertex index value None of is suits = cc
integer_suits program types constant vertex index value (Some type) of is suits =
    let i = integer_by (program.meaning type) is in
    word_of value (type_has_layout program types type value OneWord (types.shaped type (Int i.0) i.1) (suits.of_type type of))
  where
    integer_by : (m : Meaning) → is_integer m ≡ true → (signed : Bool) × (m ≡ OfShape (Int signed))
    integer_by (OfShape (Int signed)) is = (signed, refl)
    integer_by m is = cc

indexed_is : (program : Program) → HasTypes program → (constant : ℕ → Option ℕ) (vertex : Bool) (index : ℕ) (value : Value) (reached next : Part) → indexed (typing_in program constant vertex) index reached ≡ Some next → Suits program constant index value
    → (reached ≡ next) × ((word : ℕ) × (value ≡ Word word))
indexed_is program types constant vertex index value reached next is suits =
    let b = by_test (is_integer (type_of (typing_in program constant vertex) index)) reached next is in
    (b.1, integer_suits program types constant vertex index value (type_id (program.meaning index)) refl b.0 suits)
  where
    by_test : (b : Bool) (reached next : Part) → (if b then Some reached else None) ≡ Some next → (b ≡ true) × (reached ≡ next)
    by_test true reached next is = (refl, same_some _ _ is)
    by_test false reached next is = cc

repeated_step : (program : Program) → HasTypes program → (constant : ℕ → Option ℕ) (vertex : Bool) (index : ℕ) (value : Value) (reached next : Part) (whole element : Layout) (count : ℕ) → whole ≡ Several (repeated count element)
    → part_layout program reached ≡ Some element → indexed (typing_in program constant vertex) index reached ≡ Some next → Suits program constant index value → ChainStep program whole value next
repeated_step program types constant vertex index value reached next whole element count is known so suits =
    let i = indexed_is program types constant vertex index value reached next so suits in
    record {
      parts = repeated count element;
      is = is;
      word = i.1.0;
      is_word = i.1.1;
      layout = element;
      known = ap (part_layout program) (sym i.0) ∙ known;
      same = λ place found at. repeated_same count i.1.0 element found (place_layout (repeated count element) i.1.0 place found at);
    }

array_step : (program : Program) → HasTypes program → (constant : ℕ → Option ℕ) (vertex : Bool) (index : ℕ) (value : Value) (element count : ℕ) (next : Part) (whole : Layout) (of_element : Option Layout) → program.layout element ≡ of_element
    → option_map (λ l. Several (repeated count l)) of_element ≡ Some whole → indexed (typing_in program constant vertex) index (part.Type element) ≡ Some next → Suits program constant index value → ChainStep program whole value next
array_step program types constant vertex index value element count next whole None of is so suits = cc
array_step program types constant vertex index value element count next whole (Some layout) of is so suits =
    repeated_step program types constant vertex index value (part.Type element) next whole layout count (sym (same_some _ _ is)) of so suits

number_found : (members : List ℕ) (number : Option ℕ) (member : ℕ) → option_and_then (slice_get members) number ≡ Some member → (word : ℕ) × (number ≡ Some word) × (slice_get members word ≡ Some member)
number_found members None member is = cc
number_found members (Some word) member is = (word, refl, is)

struct_step : (program : Program) (constant : ℕ → Option ℕ) (index : ℕ) (value : Value) (members : List ℕ) (next : Part) (whole : Layout) (all : Option Layouts) → layouts_of program.layout members ≡ all
    → option_map Several all ≡ Some whole → member_at members (constant index) ≡ Some next → Suits program constant index value → ChainStep program whole value next
struct_step program constant index value members next whole None of is so suits = cc
struct_step program constant index value members next whole (Some all) of is so suits =
    let m = member_found (option_and_then (slice_get members) (constant index)) next so in
    let n = number_found members (constant index) m.0 m.1 in
    let l = members_at program.layout members all n.0 m.0 of n.2 in
    record {
      parts = all;
      is = sym (same_some _ _ is);
      word = n.0;
      is_word = suits.number n.0 n.1;
      layout = l.0;
      known = ap (part_layout program) (sym m.2) ∙ l.1;
      same = λ place found at. same_some _ _ (sym (place_layout all n.0 place found at) ∙ l.2);
    }

step_by : (program : Program) → HasTypes program → (constant : ℕ → Option ℕ) (vertex : Bool) (type index : ℕ) (value : Value) (next : Part) (whole : Layout) (m : Meaning) → program.meaning type ≡ m → program.layout type ≡ Some whole
    → chain_part (typing_in program constant vertex) m index ≡ Some next → Suits program constant index value → ChainStep program whole value next
step_by program types constant vertex type index value next whole (OfShape (BoolVector count)) is known so suits =
    repeated_step program types constant vertex index value _ next whole OneTruth count (same_some _ _ (sym known ∙ types.shaped type (BoolVector count) is)) refl so suits
step_by program types constant vertex type index value next whole (OfShape (IntVector count signed)) is known so suits =
    repeated_step program types constant vertex index value _ next whole OneWord count (same_some _ _ (sym known ∙ types.shaped type (IntVector count signed) is)) refl so suits
step_by program types constant vertex type index value next whole (OfShape (Array element count)) is known so suits =
    array_step program types constant vertex index value element count next whole (program.layout element) refl (sym (types.shaped type (Array element count) is) ∙ known) so suits
step_by program types constant vertex type index value next whole (OfShape (Struct members)) is known so suits =
    struct_step program constant index value members.list next whole (layouts_of program.layout members.list) refl (sym (types.shaped type (Struct members) is) ∙ known) so suits
step_by program types constant vertex type index value next whole m is known so suits = cc

pub step_is : (program : Program) → HasTypes program → (constant : ℕ → Option ℕ) (vertex : Bool) (index : ℕ) (value : Value) (reached next : Part) (whole : Layout) → part_layout program reached ≡ Some whole
    → chain_step (typing_in program constant vertex) index reached ≡ Some next → Suits program constant index value → ChainStep program whole value next
step_is program types constant vertex index value (part.Type type) next whole known so suits = step_by program types constant vertex type index value next whole (program.meaning type) refl known so suits
step_is program types constant vertex index value (part.Component component) next whole known so suits = cc

-- ---- all indices

-- the indices are words, and lead to nothing else than this part
pub record ChainAlong (program : Program) (whole : Layout) (values : List Value) (reached : Part) : Type 0 where
  pub words : List ℕ
  pub are : all_words values ≡ Some words
  pub same : (place : ℕ) (found : Layout) → part_along whole words ≡ Some (place, found) → part_layout program reached ≡ Some found

pub nowhere : (typing : Typing) (indices : List ℕ) → chain_along typing None indices ≡ None
nowhere typing [] = refl
nowhere typing (index ∷ indices) = nowhere typing indices

step_along : (program : Program) (whole : Layout) (value : Value) (values : List Value) (next reached : Part) (s : ChainStep program whole value next) → ChainAlong program s.layout values reached → ChainAlong program whole (value ∷ values) reached
step_along program whole value values next reached s rest = record {
  words = s.word ∷ rest.words;
  are = ap (λ (v : Value). all_words (v ∷ values)) s.is_word ∙ ap (option_map (λ words. s.word ∷ words)) rest.are;
  same = λ place found at.
      let i = inside_found rest.words (part_at s.parts s.word) place found (ap (λ l. part_along l (s.word ∷ rest.words)) (sym s.is) ∙ at) in
      rest.same i.3.0 found (ap (λ l. part_along l rest.words) (sym (s.same i.0 i.1 i.2)) ∙ i.3.1);
}

pub along_is : (program : Program) → HasTypes program → (constant : ℕ → Option ℕ) (vertex : Bool) (ids : List ℕ) (values : List Value) (from to : Part) (whole : Layout) → part_layout program from ≡ Some whole
    → chain_along (typing_in program constant vertex) (Some from) ids ≡ Some to → AllSuit program constant ids values → ChainAlong program whole values to
along_is program types constant vertex [] [] from to whole known is suit = record {
  words = [];
  are = refl;
  same = λ place found at. ap (part_layout program) (sym (same_some _ _ is)) ∙ (known ∙ ap Some (same_second 0 place whole found at));
}
along_is program types constant vertex [] (value ∷ values) from to whole known is suit = absurd suit
along_is program types constant vertex (id ∷ ids) [] from to whole known is suit = absurd suit
along_is program types constant vertex (id ∷ ids) (value ∷ values) from to whole known is suit =
    by_next program types constant vertex id ids value values from to whole known (chain_step (typing_in program constant vertex) id from) refl is suit.0
    (λ next whole known is. along_is program types constant vertex ids values next to whole known is suit.1)
  where
    by_next : (program : Program) → HasTypes program → (constant : ℕ → Option ℕ) (vertex : Bool) (id : ℕ) (ids : List ℕ) (value : Value) (values : List Value) (from to : Part) (whole : Layout) → part_layout program from ≡ Some whole
        → (next : Option Part) → chain_step (typing_in program constant vertex) id from ≡ next → chain_along (typing_in program constant vertex) next ids ≡ Some to → Suits program constant id value
        → ((next : Part) (whole : Layout) → part_layout program next ≡ Some whole → chain_along (typing_in program constant vertex) (Some next) ids ≡ Some to → ChainAlong program whole values to)
        → ChainAlong program whole (value ∷ values) to
    by_next program types constant vertex id ids value values from to whole known None one is suits go = let e = nowhere (typing_in program constant vertex) ids in cc
    by_next program types constant vertex id ids value values from to whole known (Some next) one is suits go =
        let s = step_is program types constant vertex id value from next whole known one suits in
        step_along program whole value values next to s (go next s.layout s.known is)

-- ---- the pointer

-- one to the part of a variable, if there is such a part
pointer_has : (program : Program) (class to variable : ℕ) (indices : List ℕ) (held : ℕ) → program.meaning variable ≡ Variable held class → (whole : Layout) → held_layout program variable ≡ Some whole
    → ((place : ℕ) (found : Layout) → part_along whole indices ≡ Some (place, found) → program.layout to ≡ Some found) → IsPointer program class to (pointer_along (place_of program variable indices) variable indices)
pointer_has program class to variable indices held is whole holds known =
    subst (λ (o : Option Layout). IsPointer program class to (pointer_along (option_map (λ (place, layout). place) (option_and_then (λ layout. part_along layout indices) o)) variable indices)) (sym holds)
    (by_place program class to variable indices held is whole holds (part_along whole indices) refl known)
  where
    by_place : (program : Program) (class to variable : ℕ) (indices : List ℕ) (held : ℕ) → program.meaning variable ≡ Variable held class → (whole : Layout) → held_layout program variable ≡ Some whole
        → (reached : Option (ℕ × Layout)) → part_along whole indices ≡ reached → ((place : ℕ) (found : Layout) → part_along whole indices ≡ Some (place, found) → program.layout to ≡ Some found)
        → IsPointer program class to (pointer_along (option_map (λ (place, layout). place) reached) variable indices)
    by_place program class to variable indices held is whole holds None at known = tt
    by_place program class to variable indices held is whole holds (Some (place, layout)) at known =
        record { held = held; is_variable = is; whole = whole; holds = holds; place = place; layout = layout; found = at; known = known place layout at }

chained_has : (program : Program) (class from to : ℕ) (value : Value) (words : List ℕ) → IsPointer program class from value
    → ((whole : Layout) (place : ℕ) (found : Layout) → program.layout from ≡ Some whole → part_along whole words ≡ Some (place, found) → program.layout to ≡ Some found)
    → (made : Value) × (chained program value words ≡ Some made) × IsPointer program class to made
chained_has program class from to (Pointer variable indices) words is known = (
  _,
  refl,
  pointer_has program class to variable (indices ++ words) is.held is.is_variable is.whole is.holds
      (λ place found at. let m = along_more indices words is.whole is.place is.layout place found is.found at in known is.layout m.0 found is.known m.1),
)
chained_has program class from to Outside words is known = (Outside, refl, tt)
chained_has program class from to (Truth b) words is known = absurd is
chained_has program class from to (Word word) words is known = absurd is
chained_has program class from to (Composite parts) words is known = absurd is

-- what the rule asks
pub record ChainRule (program : Program) (constant : ℕ → Option ℕ) (vertex : Bool) (type base : ℕ) (indices : List ℕ) : Type 0 where
  pub held : ℕ
  pub class : ℕ
  pub from : ℕ
  pub to : ℕ
  pub is_variable : program.meaning base ≡ Variable held class
  pub holds : program.meaning held ≡ OfShape (PointerType class from)
  pub means : program.meaning type ≡ OfShape (PointerType class to)
  pub reached : Part
  pub leads : chain_along (typing_in program constant vertex) (Some (part.Type from)) indices ≡ Some reached
  pub known : program.layout to ≡ part_layout program reached

pointer_to : (program : Program) → HasTypes program → (constant : ℕ → Option ℕ) (vertex : Bool) (m : Meaning) (class : ℕ) (reached : Option Part) → is_pointer_to (typing_in program constant vertex) m class reached ≡ true
    → (to : ℕ) × (m ≡ OfShape (PointerType class to)) × ((p : Part) × (reached ≡ Some p) × (program.layout to ≡ part_layout program p))
pointer_to program types constant vertex (OfShape (PointerType own to)) class reached is = (
  to,
  ap (λ (c : ℕ). OfShape (PointerType c to)) (same own class (first_of_both (own == class) (is_of_type (typing_in program constant vertex) to reached) is)),
  part_of_type program types constant vertex to reached (second_of_both (own == class) (is_of_type (typing_in program constant vertex) to reached) is),
)
pointer_to program types constant vertex m class reached is = cc

pub rule_by : (program : Program) → HasTypes program → (constant : ℕ → Option ℕ) (vertex : Bool) (type base : ℕ) (indices : List ℕ) (m : Meaning) → program.meaning base ≡ m → chain_fits (typing_in program constant vertex) type m indices ≡ true
    → ChainRule program constant vertex type base indices
rule_by program types constant vertex type base indices (Variable held class) is fit =
    let v = types.variable base held class is in
    let p = pointer_to program types constant vertex (program.meaning type) class _ fit in
    record {
      held = held;
      class = class;
      from = v.0;
      to = p.0;
      is_variable = is;
      holds = v.1;
      means = p.1;
      reached = p.2.0;
      leads = ap (λ (m : Meaning). chain_along (typing_in program constant vertex) (option_map part.Type (pointee_id m)) indices) (sym v.1) ∙ p.2.1;
      known = p.2.2;
    }
rule_by program types constant vertex type base indices m is fit = cc

-- OpAccessChain from a variable
pub chain_result : (program : Program) → HasTypes program → (constant : ℕ → Option ℕ) (vertex : Bool) (type base : ℕ) (indices : List ℕ) (value : Value) (values : List Value) → chain_fits (typing_in program constant vertex) type (program.meaning base) indices ≡ true
    → Suits program constant base value → AllSuit program constant indices values → HasTypedResult program type (chain_of program (value ∷ values))
chain_result program types constant vertex type base indices value values fit suits suit =
    let r = rule_by program types constant vertex type base indices (program.meaning base) refl fit in
    let is = pointer_value program r.held r.class r.from value r.holds (suits.of_type r.held (ap type_id r.is_variable)) in
    let l = types.there r.from (types.pointee r.held r.class r.from r.holds) in
    let a = along_is program types constant vertex indices values (part.Type r.from) r.reached l.0 l.1 r.leads suit in
    let c = chained_has program r.class r.from r.to value a.words is
    (λ whole place found known at. r.known ∙ a.same place found (ap (λ w. part_along w a.words) (same_some _ _ (sym l.1 ∙ known)) ∙ at)) in
    record {
      value = c.0;
      is = ap (λ (words : Option (List ℕ)). option_and_then (chained program value) words) a.are ∙ c.1;
      has = subst (λ m. IsOfMeaning program type m c.0) (sym r.means) c.2;
    }
