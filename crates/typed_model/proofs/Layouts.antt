-- What values of a layout are.
use Rattle.std.proofs.Common.{◌≡◌, ℕ, Bool, List, refl, ap, ◌∙◌, Option, None, Some}
use Rattle.std.specs.Option.{option_map}
use Rattle.stage_model.specs.Value.{Value, Truth, Word, Composite, Pointer, Outside, Parts, NoParts, PartsOf, Layout, OneTruth, OneWord, Several, Layouts, NoLayouts, LayoutsOf, list_of, parts_from}
use Rattle.typed_model.specs.Values.{layouts_with, layout_in, layouts_in, HasLayout}

pub truth_of : (a : Value) → HasLayout OneTruth a → (b : Bool) × (a ≡ Truth b)
truth_of (Truth b) has = (b, refl)
truth_of (Word word) has = cc
truth_of (Composite parts) has = by_parts parts (layouts_in parts) has
  where
    by_parts : (parts : Parts) (all : Option Layouts) → option_map Several all ≡ Some OneTruth → (b : Bool) × (◌≡◌ {A = Value} (Composite parts) (Truth b))
    by_parts parts None has = cc
    by_parts parts (Some all) has = cc
truth_of (Pointer variable indices) has = cc
truth_of Outside has = cc

pub word_of : (a : Value) → HasLayout OneWord a → (word : ℕ) × (a ≡ Word word)
word_of (Truth b) has = cc
word_of (Word word) has = (word, refl)
word_of (Composite parts) has = by_parts parts (layouts_in parts) has
  where
    by_parts : (parts : Parts) (all : Option Layouts) → option_map Several all ≡ Some OneWord → (word : ℕ) × (◌≡◌ {A = Value} (Composite parts) (Word word))
    by_parts parts None has = cc
    by_parts parts (Some all) has = cc
word_of (Pointer variable indices) has = cc
word_of Outside has = cc

pub several_of : (a : Value) (all : Layouts) → HasLayout (Several all) a → (parts : Parts) × (a ≡ Composite parts) × (layouts_in parts ≡ Some all)
several_of (Truth b) all has = cc
several_of (Word word) all has = cc
several_of (Composite parts) all has = (parts, refl, by_parts (layouts_in parts) all has)
  where
    by_parts : (known : Option Layouts) (all : Layouts) → option_map Several known ≡ Some (Several all) → known ≡ Some all
    by_parts None all has = cc
    by_parts (Some known) all has = cc
several_of (Pointer variable indices) all has = cc
several_of Outside all has = cc

pub composite_has : (parts : Parts) (all : Layouts) → layouts_in parts ≡ Some all → HasLayout (Several all) (Composite parts)
composite_has parts all is = ap (option_map Several) is

-- the first part and the others
pub record Front (parts : Parts) (first : Layout) (more : Layouts) : Type 0 where
  pub value : Value
  pub rest : Parts
  pub is : parts ≡ PartsOf value rest
  pub has : HasLayout first value
  pub behind : layouts_in rest ≡ Some more

pub front_of : (parts : Parts) (first : Layout) (more : Layouts) → layouts_in parts ≡ Some (LayoutsOf first more) → Front parts first more
front_of NoParts first more has = cc
front_of (PartsOf value rest) first more has =
    let both = by_both (layout_in value) (layouts_in rest) first more has in
    record { value = value; rest = rest; is = refl; has = both.0; behind = both.1 }
  where
    by_both : (layout : Option Layout) (others : Option Layouts) (first : Layout) (more : Layouts) → layouts_with layout others ≡ Some (LayoutsOf first more) → (layout ≡ Some first) × (others ≡ Some more)
    by_both None others first more has = cc
    by_both (Some layout) None first more has = cc
    by_both (Some layout) (Some others) first more has = (cc, cc)

pub no_parts : (parts : Parts) → layouts_in parts ≡ Some NoLayouts → parts ≡ NoParts
no_parts NoParts has = refl
no_parts (PartsOf value rest) has = by_both value rest (layout_in value) (layouts_in rest) has
  where
    by_both : (value : Value) (rest : Parts) (layout : Option Layout) (all : Option Layouts) → layouts_with layout all ≡ Some NoLayouts → PartsOf value rest ≡ NoParts
    by_both value rest None all has = cc
    by_both value rest (Some layout) None has = cc
    by_both value rest (Some layout) (Some all) has = cc

pub both_have : (value : Value) (rest : Parts) (first : Layout) (more : Layouts) → HasLayout first value → layouts_in rest ≡ Some more → layouts_in (PartsOf value rest) ≡ Some (LayoutsOf first more)
both_have value rest first more has also = ap (λ l. layouts_with l (layouts_in rest)) has ∙ ap (layouts_with (Some first)) also

-- values of these all, one by one
abbrev pub HaveLayouts : Layouts → List Value → Type 0
HaveLayouts all values = layouts_in (parts_from values) ≡ Some all

pub same_parts : (parts : Parts) → parts_from (list_of parts) ≡ parts
same_parts NoParts = refl
same_parts (PartsOf value parts) = ap (PartsOf value) (same_parts parts)
