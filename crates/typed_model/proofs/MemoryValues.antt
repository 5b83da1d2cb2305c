-- Loads, stores and chains: what they give and write, where their operands fit.
use Rattle.std.proofs.Common.{◌≡◌, ℕ, Bool, true, List, [], ◌∷◌, ◌++◌, drop, refl, ap, sym, ◌∙◌, subst, Option, None, Some}
use Rattle.std.specs.Option.{option_map, option_and_then}
use Rattle.valid_model.specs.declared.meaning.Meaning.{Meaning}
use Rattle.valid_model.specs.declared.meaning.Meaning.TheVariants.{Shape as OfShape}
use Rattle.valid_model.specs.declared.meaning.Shape.TheVariants.{Pointer as PointerType}
use Rattle.valid_model.specs.Shapes.{pointee_id}
use Rattle.check_model.specs.MemoryOperands.{load_fits, is_object_of, store_fits}
use Rattle.check_model.specs.Typing.{type_id, type_of, meaning_of}
use Rattle.stage_model.specs.Value.{Value, Truth, Word, Composite, Pointer, Outside, Parts, NoParts, PartsOf, Layout, OneTruth, OneWord, Several, Layouts, NoLayouts, LayoutsOf, size_of, words_with, words_of, words_of_parts, value_of, parts_of, zero_of, part_along}
use Rattle.stage_model.specs.Program.{Program}
use Rattle.stage_model.specs.Start.{Memory}
use Rattle.stage_model.specs.Effect.{Effect, Passes, Writes, words_from, place_of, loaded, stored, stores, one}
use Rattle.typed_model.specs.Values.{layouts_with, layout_in, layouts_in, HasLayout, PointsTo, IsPointer, IsOfMeaning, IsOfType}
use Rattle.typed_model.specs.Results.{HasResult}
use Rattle.typed_model.specs.Types.{HasTypes, typing_in, Suits, HasTypedResult}
use Rattle.typed_model.proofs.TypeLayouts.{word_is, typed_result, type_has_layout}

-- ---- values of words

mutual
  pub value_has : (layout : Layout) (words : List ℕ) → HasLayout layout (value_of layout words)
  value_has OneTruth words = refl
  value_has OneWord words = refl
  value_has (Several all) words = ap (option_map Several) (parts_have all words)

  parts_have : (all : Layouts) (words : List ℕ) → layouts_in (parts_of all words) ≡ Some all
  parts_have NoLayouts words = refl
  parts_have (LayoutsOf layout all) words =
      ap (λ l. layouts_with l (layouts_in (parts_of all (drop (size_of layout) words)))) (value_has layout words) ∙ ap (layouts_with (Some layout)) (parts_have all (drop (size_of layout) words))

-- data has words
pub record HaveWords (words : Option (List ℕ)) : Type 0 where
  pub list : List ℕ
  pub is : words ≡ Some list

both_words : (first second : Option (List ℕ)) → HaveWords first → HaveWords second → HaveWords (words_with first second)
both_words first second a b = record { list = a.list ++ b.list; is = ap (λ o. words_with o second) a.is ∙ ap (words_with (Some a.list)) b.is }

layouts_both : (layout : Option Layout) (others : Option Layouts) (all : Layouts) → layouts_with layout others ≡ Some all → (first : Layout) × (more : Layouts) × (layout ≡ Some first) × (others ≡ Some more)
layouts_both None others all is = cc
layouts_both (Some layout) None all is = cc
layouts_both (Some layout) (Some others) all is = (layout, others, refl, refl)

several_inside : (known : Option Layouts) (layout : Layout) → option_map Several known ≡ Some layout → (all : Layouts) × (known ≡ Some all)
several_inside None layout is = cc
several_inside (Some known) layout is = (known, refl)

mutual
  pub has_words : (value : Value) (layout : Layout) → HasLayout layout value → HaveWords (words_of value)
  has_words (Truth b) layout has = record { list = _; is = refl }
  has_words (Word word) layout has = record { list = _; is = refl }
  has_words (Composite parts) layout has = let s = several_inside (layouts_in parts) layout has in have_words parts s.0 s.1
  has_words (Pointer variable indices) layout has = cc
  has_words Outside layout has = cc

  have_words : (parts : Parts) (all : Layouts) → layouts_in parts ≡ Some all → HaveWords (words_of_parts parts)
  have_words NoParts all have = record { list = []; is = refl }
  have_words (PartsOf value parts) all have =
      let b = layouts_both (layout_in value) (layouts_in parts) all have in
      both_words (words_of value) (words_of_parts parts) (has_words value b.0 b.2) (have_words parts b.1 b.3)

-- ---- pointers

-- the type of an operand that is a pointer
pub record PointerOperand (program : Program) (id to : ℕ) : Type 0 where
  pub type : ℕ
  pub class : ℕ
  pub is : type_id (program.meaning id) ≡ Some type
  pub means : program.meaning type ≡ OfShape (PointerType class to)

pointer_by : (m : Meaning) (to : ℕ) → pointee_id m ≡ Some to → (class : ℕ) × (m ≡ OfShape (PointerType class to))
pointer_by (OfShape (PointerType class own)) to is = (class, (let e : own ≡ to = cc in ap (λ (t : ℕ). OfShape (PointerType class t)) e))
pointer_by m to is = cc

pub pointer_operand : (program : Program) (constant : ℕ → Option ℕ) (vertex : Bool) (id to : ℕ) → pointee_id (type_of (typing_in program constant vertex) id) ≡ Some to → PointerOperand program id to
pointer_operand program constant vertex id to is = by_type program constant vertex id to (type_id (program.meaning id)) refl is
  where
    by_type : (program : Program) (constant : ℕ → Option ℕ) (vertex : Bool) (id to : ℕ) (type : Option ℕ) → type_id (program.meaning id) ≡ type → pointee_id (meaning_of (typing_in program constant vertex) type) ≡ Some to → PointerOperand program id to
    by_type program constant vertex id to None of is = cc
    by_type program constant vertex id to (Some type) of is = let p = pointer_by (program.meaning type) to is in record { type = type; class = p.0; is = of; means = p.1 }

pub pointer_value : (program : Program) (type class to : ℕ) (value : Value) → program.meaning type ≡ OfShape (PointerType class to) → IsOfType program type value → IsPointer program class to value
pointer_value program type class to value means is = subst (λ m. IsOfMeaning program type m value) means is

-- where the part begins to which a pointer leads
place_is : (program : Program) (class to variable : ℕ) (indices : List ℕ) → (p : PointsTo program class to variable indices) → place_of program variable indices ≡ Some p.place
place_is program class to variable indices p =
    ap (λ (o : Option Layout). option_map (λ (place, layout). place) (option_and_then (λ layout. part_along layout indices) o)) p.holds
    ∙ ap (λ (o : Option (ℕ × Layout)). option_map (λ (place, layout). place) o) p.found

load_by : (program : Program) (memory : Memory) (class to : ℕ) (layout : Layout) (value : Value) → IsPointer program class to value → HasResult layout (loaded program memory layout value)
load_by program memory class to layout (Pointer variable indices) is = record {
  value = value_of layout (words_from memory variable is.place (size_of layout));
  is = ap (λ (o : Option ℕ). option_map (λ place. value_of layout (words_from memory variable place (size_of layout))) o) (place_is program class to variable indices is);
  has = value_has layout _;
}
load_by program memory class to layout Outside is = record { value = zero_of layout; is = refl; has = value_has layout [] }
load_by program memory class to layout (Truth b) is = absurd is
load_by program memory class to layout (Word word) is = absurd is
load_by program memory class to layout (Composite parts) is = absurd is

-- OpLoad through a pointer to the type
pub load_result : (program : Program) → HasTypes program → (constant : ℕ → Option ℕ) (vertex : Bool) (memory : Memory) (type pointer : ℕ) (value : Value) → load_fits (typing_in program constant vertex) type pointer ≡ true → Suits program constant pointer value
    → HasTypedResult program type (option_and_then (λ layout. option_and_then (loaded program memory layout) (one (value ∷ []))) (program.layout type))
load_result program types constant vertex memory type pointer value fit suits =
    let p = pointer_operand program constant vertex pointer type (word_is type _ fit) in
    let l = types.there type (types.pointee p.type p.class type p.means) in
    let r = load_by program memory p.class type l.0 value (pointer_value program p.type p.class type value p.means (suits.of_type p.type p.is)) in
    subst (λ (o : Option Layout). HasTypedResult program type (option_and_then (λ layout. loaded program memory layout value) o)) (sym l.1) (typed_result program types type l.0 _ l.1 r)

-- ---- OpStore

-- it writes, or does nothing outside of a variable
pub data IsStored : Option Effect → Type 0 where
  is_written : {found : Option Effect} (variable place : ℕ) (words : List ℕ) → found ≡ Some (Writes variable place words) → IsStored found
  is_outside : {found : Option Effect} → found ≡ Some Passes → IsStored found

store_by : (program : Program) (class to : ℕ) (words : List ℕ) (value : Value) → IsPointer program class to value → IsStored (stored program words value)
store_by program class to words (Pointer variable indices) is =
    is_written variable is.place words (ap (λ (o : Option ℕ). option_map (λ place. Writes variable place words) o) (place_is program class to variable indices is))
store_by program class to words Outside is = is_outside refl
store_by program class to words (Truth b) is = absurd is
store_by program class to words (Word word) is = absurd is
store_by program class to words (Composite parts) is = absurd is

pub object_by : (program : Program) (constant : ℕ → Option ℕ) (vertex : Bool) (to : Option ℕ) (object : ℕ) → is_object_of (typing_in program constant vertex) to object ≡ true → (type : ℕ) × (to ≡ Some type) × (type_id (program.meaning object) ≡ Some type)
object_by program constant vertex None object is = cc
object_by program constant vertex (Some type) object is = (type, refl, word_is type _ is)

pub store_result : (program : Program) → HasTypes program → (constant : ℕ → Option ℕ) (vertex : Bool) (pointer object : ℕ) (value new : Value) → store_fits (typing_in program constant vertex) pointer object ≡ true
    → Suits program constant pointer value → Suits program constant object new → IsStored (stores program (value ∷ new ∷ []))
store_result program types constant vertex pointer object value new fit suits also =
    let o = object_by program constant vertex _ object fit in
    let p = pointer_operand program constant vertex pointer o.0 o.1 in
    let l = types.there o.0 (types.pointee p.type p.class o.0 p.means) in
    let w = has_words new l.0 (type_has_layout program types o.0 new l.0 l.1 (also.of_type o.0 o.2)) in
    subst (λ (words : Option (List ℕ)). IsStored (option_and_then (λ words. stored program words value) words)) (sym w.is)
    (store_by program p.class o.0 w.list value (pointer_value program p.type p.class o.0 value p.means (suits.of_type p.type p.is)))
