-- Parts of composites and of their layouts.
use Rattle.std.proofs.Common.{◌≡◌, ℕ, zero, suc, ◌+◌, ◌<◌, Bool, true, false, nat_lt, if◌then◌else◌, List, [], ◌∷◌, ◌++◌, length, take, drop, refl, ap, sym, ◌∙◌, subst, arith, Option, None, Some}
use Rattle.std.specs.Prelude.{slice_get}
use Rattle.std.specs.Option.{option_map, option_and_then}
use Rattle.std.proofs.lemmas.Bool.{lt-ltb, ltb-true}
use Rattle.valid_model.specs.declared.meaning.Meaning.{Meaning}
use Rattle.valid_model.specs.declared.meaning.Meaning.TheVariants.{Shape as OfShape}
use Rattle.valid_model.specs.declared.meaning.Shape.TheVariants.{BoolVector, IntVector, Array, Struct}
use Rattle.check_model.specs.declared.components.Component.TheVariants as component
use Rattle.check_model.specs.declared.components.Part.{Part}
use Rattle.check_model.specs.declared.components.Part.TheVariants as part
use Rattle.check_model.specs.CompositeOperands.{member_part, part_at, part_of, part_along}
use Rattle.check_model.specs.Typing.{Typing}
use Rattle.stage_model.specs.Value.{Value, Composite, Parts, Layout, OneTruth, OneWord, Several, Layouts, NoLayouts, LayoutsOf, repeated, list_of, parts_from}
use Rattle.stage_model.specs.Program.{Program, layouts_of}
use Rattle.stage_model.specs.Operations.{composite, extracted, replaced, inserted}
use Rattle.typed_model.specs.Values.{layouts_in, HasLayout}
use Rattle.typed_model.specs.Results.{HasResult}
use Rattle.typed_model.specs.Types.{HasTypes, typing_in, part_layout}
use Rattle.typed_model.proofs.Layouts.{several_of, composite_has, front_of, both_have, HaveLayouts, same_parts}
use Rattle.typed_model.proofs.Scalars.{HaveResults}

-- ---- of layouts

abbrev pub layout_at : Layouts → ℕ → Option Layout
layout_at NoLayouts index = None
layout_at (LayoutsOf layout all) zero = Some layout
layout_at (LayoutsOf layout all) (suc index) = layout_at all index

pub repeated_at : (n index : ℕ) (layout : Layout) → index < n → layout_at (repeated n layout) index ≡ Some layout
repeated_at zero index layout less = absurd (omega arith)
repeated_at (suc n) zero layout less = refl
repeated_at (suc n) (suc index) layout less = repeated_at n index layout (omega arith)

-- a layout of a repeated one is this one
pub repeated_same : (n index : ℕ) (layout found : Layout) → layout_at (repeated n layout) index ≡ Some found → found ≡ layout
repeated_same zero index layout found is = cc
repeated_same (suc n) zero layout found is = cc
repeated_same (suc n) (suc index) layout found is = repeated_same n index layout found is

abbrev pub with_front : Option Layout → Option Layouts → Option Layouts
with_front first rest = option_and_then (λ first. option_map (λ rest. LayoutsOf first rest) rest) first

pub members_at : (layout : ℕ → Option Layout) (ids : List ℕ) (all : Layouts) (index id : ℕ) → layouts_of layout ids ≡ Some all → slice_get ids index ≡ Some id
    → (known : Layout) × (layout id ≡ Some known) × (layout_at all index ≡ Some known)
members_at layout [] all index id are is = cc
members_at layout (first ∷ ids) all zero id are is = by_both layout first all id (layout first) (layouts_of layout ids) refl are is
  where
    by_both : (layout : ℕ → Option Layout) (first : ℕ) (all : Layouts) (id : ℕ) (one : Option Layout) (rest : Option Layouts) → layout first ≡ one → with_front one rest ≡ Some all → ◌≡◌ {A = Option ℕ} (Some first) (Some id)
        → (known : Layout) × (layout id ≡ Some known) × (layout_at all 0 ≡ Some known)
    by_both layout first all id None rest is are same = cc
    by_both layout first all id (Some one) None is are same = cc
    by_both layout first all id (Some one) (Some rest) is are same =
        (one, (let e : id ≡ first = cc in ap layout e ∙ is), (let e : all ≡ LayoutsOf one rest = cc in ap (λ a. layout_at a 0) e))
members_at layout (first ∷ ids) all (suc index) id are is = by_both layout first ids all index id (layout first) (layouts_of layout ids) refl are is (λ rest e. members_at layout ids rest index id e is)
  where
    by_both : (layout : ℕ → Option Layout) (first : ℕ) (ids : List ℕ) (all : Layouts) (index id : ℕ) (one : Option Layout) (rest : Option Layouts) → layouts_of layout ids ≡ rest → with_front one rest ≡ Some all → slice_get ids index ≡ Some id
        → ((rest : Layouts) → layouts_of layout ids ≡ Some rest → (known : Layout) × (layout id ≡ Some known) × (layout_at rest index ≡ Some known))
        → (known : Layout) × (layout id ≡ Some known) × (layout_at all (suc index) ≡ Some known)
    by_both layout first ids all index id None rest known are is go = cc
    by_both layout first ids all index id (Some one) None known are is go = cc
    by_both layout first ids all index id (Some one) (Some rest) known are is go =
        let found = go rest known in
        (found.0, found.1, (let e : all ≡ LayoutsOf one rest = cc in ap (λ a. layout_at a (suc index)) e ∙ found.2))

-- ---- of types

-- the part with an index of a whole of this layout
pub record PartIs (program : Program) (whole : Layout) (index : ℕ) (p : Part) : Type 0 where
  pub parts : Layouts
  pub is : whole ≡ Several parts
  pub layout : Layout
  pub known : part_layout program p ≡ Some layout
  pub at : layout_at parts index ≡ Some layout

same_some : {A : Type 0} (x y : A) → Some x ≡ Some y → x ≡ y
same_some x y is = cc

test_of : (index count : ℕ) (found p : Part) (b : Bool) → b ≡ nat_lt index count → (if b then Some found else None) ≡ Some p → (index < count) × (found ≡ p)
test_of index count found p true is so = (ltb-true index count (sym is), same_some found p so)
test_of index count found p false is so = cc

repeated_part : (program : Program) (whole element : Layout) (index count : ℕ) (found p : Part) → whole ≡ Several (repeated count element) → part_layout program found ≡ Some element
    → (if nat_lt index count then Some found else None) ≡ Some p → PartIs program whole index p
repeated_part program whole element index count found p is known so =
    let t = test_of index count found p (nat_lt index count) refl so in
    record { parts = repeated count element; is = is; layout = element; known = ap (part_layout program) (sym t.1) ∙ known; at = repeated_at count index element t.0 }

array_part : (program : Program) (whole : Layout) (type index count : ℕ) (p : Part) (element : Option Layout) → program.layout type ≡ element → option_map (λ l. Several (repeated count l)) element ≡ Some whole
    → (if nat_lt index count then Some (part.Type type) else None) ≡ Some p → PartIs program whole index p
array_part program whole type index count p None known is so = cc
array_part program whole type index count p (Some element) known is so = repeated_part program whole element index count (part.Type type) p (cc) known so

pub member_found : (member : Option ℕ) (p : Part) → member_part member ≡ Some p → (id : ℕ) × (member ≡ Some id) × (part.Type id ≡ p)
member_found None p is = cc
member_found (Some id) p is = (id, refl, same_some _ _ is)

pub member_is : (program : Program) (whole : Layout) (ids : List ℕ) (index : ℕ) (p : Part) (all : Option Layouts) → layouts_of program.layout ids ≡ all → option_map Several all ≡ Some whole
    → member_part (slice_get ids index) ≡ Some p → PartIs program whole index p
member_is program whole ids index p None are is so = cc
member_is program whole ids index p (Some all) are is so =
    let m = member_found (slice_get ids index) p so in
    let found = members_at program.layout ids all index m.0 are m.1 in
    record { parts = all; is = cc; layout = found.0; known = ap (part_layout program) (sym m.2) ∙ found.1; at = found.2 }

type_part : (program : Program) → HasTypes program → (type index : ℕ) (whole : Layout) (p : Part) (m : Meaning) → program.meaning type ≡ m → program.layout type ≡ Some whole → part_at m index ≡ Some p → PartIs program whole index p
type_part program types type index whole p (OfShape (BoolVector count)) is known so =
    repeated_part program whole OneTruth index count (part.Component component.Truth) p (let e = types.shaped type (BoolVector count) is in cc) refl so
type_part program types type index whole p (OfShape (IntVector count signed)) is known so =
    repeated_part program whole OneWord index count (part.Component (component.Integer signed)) p (let e = types.shaped type (IntVector count signed) is in cc) refl so
type_part program types type index whole p (OfShape (Array element count)) is known so =
    array_part program whole element index count p (program.layout element) refl (sym (types.shaped type (Array element count) is) ∙ known) so
type_part program types type index whole p (OfShape (Struct members)) is known so =
    member_is program whole members.list index p (layouts_of program.layout members.list) refl (sym (types.shaped type (Struct members) is) ∙ known) so
type_part program types type index whole p m is known so = cc

pub part_is : (program : Program) → HasTypes program → (constant : ℕ → Option ℕ) (vertex : Bool) (whole p : Part) (index : ℕ) (layout : Layout) → part_layout program whole ≡ Some layout
    → part_of (typing_in program constant vertex) whole index ≡ Some p → PartIs program layout index p
part_is program types constant vertex (part.Type type) p index layout known so = type_part program types type index layout p (program.meaning type) refl known so
part_is program types constant vertex (part.Component component) p index layout known so = cc

-- ---- of values

pub value_at : (parts : Parts) (all : Layouts) (index : ℕ) (layout : Layout) → layouts_in parts ≡ Some all → layout_at all index ≡ Some layout → HasResult layout (slice_get (list_of parts) index)
value_at parts NoLayouts index layout have at = cc
value_at parts (LayoutsOf first more) zero layout have at =
    let f = front_of parts first more have in
    subst (λ p. HasResult layout (slice_get (list_of p) 0)) (sym f.is) (record { value = f.value; is = refl; has = f.has ∙ at })
value_at parts (LayoutsOf first more) (suc index) layout have at =
    let f = front_of parts first more have in
    subst (λ p. HasResult layout (slice_get (list_of p) (suc index))) (sym f.is) (value_at f.rest more index layout f.behind at)

-- with one part put for another
pub part_within : (parts : Parts) (all : Layouts) (index : ℕ) (layout : Layout) → layouts_in parts ≡ Some all → layout_at all index ≡ Some layout → index < length (list_of parts)
part_within parts NoLayouts index layout have at = cc
part_within parts (LayoutsOf first more) zero layout have at =
    let f = front_of parts first more have in subst (λ p. 0 < length (list_of p)) (sym f.is) (omega arith)
part_within parts (LayoutsOf first more) (suc index) layout have at =
    let f = front_of parts first more have in
    let less = part_within f.rest more index layout f.behind at in
    subst (λ p. suc index < length (list_of p)) (sym f.is) (omega (arith, less))

abbrev put : ℕ → Value → List Value → List Value
put index object values = take index values ++ object ∷ drop (index + 1) values

put_later : (index : ℕ) (object first : Value) (values : List Value) → put (suc index) object (first ∷ values) ≡ first ∷ put index object values
put_later index object first values = let e : suc index + 1 ≡ suc (index + 1) = omega arith in ap (λ (n : ℕ). first ∷ (take index values ++ object ∷ drop n (first ∷ values))) e

put_has : (parts : Parts) (all : Layouts) (index : ℕ) (layout : Layout) (object : Value) → layouts_in parts ≡ Some all → layout_at all index ≡ Some layout → HasLayout layout object → HaveLayouts all (put index object (list_of parts))
put_has parts NoLayouts index layout object have at has = cc
put_has parts (LayoutsOf first more) zero layout object have at has =
    let f = front_of parts first more have in
    subst (λ p. HaveLayouts (LayoutsOf first more) (put 0 object (list_of p))) (sym f.is)
    (both_have object (parts_from (list_of f.rest)) first more (has ∙ sym at) (ap layouts_in (same_parts f.rest) ∙ f.behind))
put_has parts (LayoutsOf first more) (suc index) layout object have at has =
    let f = front_of parts first more have in
    subst (λ p. HaveLayouts (LayoutsOf first more) (put (suc index) object (list_of p))) (sym f.is)
    (subst (HaveLayouts (LayoutsOf first more)) (sym (put_later index object f.value (list_of f.rest)))
    (both_have f.value (parts_from (put index object (list_of f.rest))) first more f.has (put_has f.rest more index layout object f.behind at has)))

replaced_has : (parts : Parts) (all : Layouts) (index : ℕ) (layout : Layout) (object : Option Value) → layouts_in parts ≡ Some all → layout_at all index ≡ Some layout → HasResult layout object
    → HaveResults all (replaced index object (list_of parts))
replaced_has parts all index layout object have at has = record {
  values = put index has.value (list_of parts);
  is = ap (λ (o : Option Value). replaced index o (list_of parts)) has.is
      ∙ ap (λ (b : Bool). if b then Some (put index has.value (list_of parts)) else None) (lt-ltb index (length (list_of parts)) (part_within parts all index layout have at));
  has = put_has parts all index layout has.value have at has.has;
}

-- ---- along indices

abbrev along : Typing → Part → List ℕ → Option Part
along typing whole indices = part_along typing (Some whole) indices

pub nowhere : (typing : Typing) (indices : List ℕ) → part_along typing None indices ≡ None
nowhere typing [] = refl
nowhere typing (index ∷ indices) = nowhere typing indices

-- the value that a part has
pub record PartResult (program : Program) (p : Part) (result : Option Value) : Type 0 where
  pub layout : Layout
  pub known : part_layout program p ≡ Some layout
  pub has : HasResult layout result

pub extracted_result : (program : Program) → HasTypes program → (constant : ℕ → Option ℕ) (vertex : Bool) (indices : List ℕ) (whole p : Part) (layout : Layout) (value : Value) → part_layout program whole ≡ Some layout → HasLayout layout value
    → along (typing_in program constant vertex) whole indices ≡ Some p → PartResult program p (extracted indices value)
extracted_result program types constant vertex [] whole p layout value known has is =
    record { layout = layout; known = ap (part_layout program) (sym (same_some whole p is)) ∙ known; has = record { value = value; is = refl; has = has } }
extracted_result program types constant vertex (index ∷ indices) whole p layout value known has is =
    by_part program types constant vertex index indices whole p layout value known has (part_of (typing_in program constant vertex) whole index) refl is
    (λ next l v k h e. extracted_result program types constant vertex indices next p l v k h e)
  where
    by_part : (program : Program) → HasTypes program → (constant : ℕ → Option ℕ) (vertex : Bool) (index : ℕ) (indices : List ℕ) (whole p : Part) (layout : Layout) (value : Value) → part_layout program whole ≡ Some layout → HasLayout layout value
        → (next : Option Part) → part_of (typing_in program constant vertex) whole index ≡ next → part_along (typing_in program constant vertex) next indices ≡ Some p
        → ((next : Part) (l : Layout) (v : Value) → part_layout program next ≡ Some l → HasLayout l v → along (typing_in program constant vertex) next indices ≡ Some p → PartResult program p (extracted indices v))
        → PartResult program p (extracted (index ∷ indices) value)
    by_part program types constant vertex index indices whole p layout value known has None one is go = let e = nowhere (typing_in program constant vertex) indices in cc
    by_part program types constant vertex index indices whole p layout value known has (Some next) one is go =
        let s = part_is program types constant vertex whole next index layout known one in
        let c = several_of value s.parts (has ∙ ap Some s.is) in
        let v = value_at c.0 s.parts index s.layout c.2 s.at in
        subst (λ x. PartResult program p (extracted (index ∷ indices) x)) (sym c.1)
        (subst (λ o. PartResult program p (option_and_then (extracted indices) o)) (sym v.is) (go next s.layout v.value s.known v.has is))

pub inserted_result : (program : Program) → HasTypes program → (constant : ℕ → Option ℕ) (vertex : Bool) (indices : List ℕ) (whole p : Part) (layout part_has : Layout) (object value : Value)
    → part_layout program whole ≡ Some layout → HasLayout layout value → along (typing_in program constant vertex) whole indices ≡ Some p → part_layout program p ≡ Some part_has → HasLayout part_has object
    → HasResult layout (inserted object indices value)
inserted_result program types constant vertex [] whole p layout part_has object value known has is of_part fits =
    record { value = object; is = refl; has = fits ∙ (sym of_part ∙ (ap (part_layout program) (sym (same_some whole p is)) ∙ known)) }
inserted_result program types constant vertex (index ∷ indices) whole p layout part_has object value known has is of_part fits =
    by_part program types constant vertex index indices whole p layout object value known has (part_of (typing_in program constant vertex) whole index) refl is
    (λ next l v k h e. inserted_result program types constant vertex indices next p l part_has object v k h e of_part fits)
  where
    by_part : (program : Program) → HasTypes program → (constant : ℕ → Option ℕ) (vertex : Bool) (index : ℕ) (indices : List ℕ) (whole p : Part) (layout : Layout) (object value : Value) → part_layout program whole ≡ Some layout → HasLayout layout value
        → (next : Option Part) → part_of (typing_in program constant vertex) whole index ≡ next → part_along (typing_in program constant vertex) next indices ≡ Some p
        → ((next : Part) (l : Layout) (v : Value) → part_layout program next ≡ Some l → HasLayout l v → along (typing_in program constant vertex) next indices ≡ Some p → HasResult l (inserted object indices v))
        → HasResult layout (inserted object (index ∷ indices) value)
    by_part program types constant vertex index indices whole p layout object value known has None one is go = let e = nowhere (typing_in program constant vertex) indices in cc
    by_part program types constant vertex index indices whole p layout object value known has (Some next) one is go =
        let s = part_is program types constant vertex whole next index layout known one in
        let c = several_of value s.parts (has ∙ ap Some s.is) in
        let v = value_at c.0 s.parts index s.layout c.2 s.at in
        let inner : HasResult s.layout (option_and_then (inserted object indices) (slice_get (list_of c.0) index)) = subst (λ o. HasResult s.layout (option_and_then (inserted object indices) o)) (sym v.is) (go next s.layout v.value s.known v.has is) in
        let r = replaced_has c.0 s.parts index s.layout _ c.2 s.at inner in
        subst (λ x. HasResult layout (inserted object (index ∷ indices) x)) (sym c.1)
        (subst (λ l. HasResult l (inserted object (index ∷ indices) (Composite c.0))) (sym s.is)
        (record { value = composite r.values; is = ap (option_map composite) r.is; has = composite_has (parts_from r.values) s.parts r.has }))
