-- The words of a composite's parts: those of a part stand among the whole's where its layout says.
use Rattle.std.proofs.Common.{◌≡◌, ℕ, zero, suc, ◌+◌, ◌-◌, ◌≤◌, ◌==◌, Bool, true, false, nat_lt, if◌then◌else◌, List, [], ◌∷◌, ◌++◌, length, take, drop, refl, ap, sym, ◌∙◌, subst, arith, append_assoc, length-append, length-drop, Option, None, Some}
use Rattle.std.specs.Prelude.{slice_get}
use Rattle.std.specs.Option.{option_map, option_and_then, unwrap_or}
use Rattle.std.proofs.lemmas.Bool.Decides.{nat_tests}
use Rattle.std.proofs.lemmas.List.{append-nil, take_all, take-take, take_at, drop_at, drop-drop, drop-take, drop_all, take-append-drop, length-take-le}
use Rattle.stage_model.specs.Value.{Value, Truth, Word, Composite, Pointer, Outside, Parts, PartsOf, Layout, OneTruth, OneWord, Several, Layouts, NoLayouts, LayoutsOf, size_of, words_with, words_of, words_of_parts, part_at, part_along, list_of, parts_from}
use Rattle.stage_model.specs.Program.{Program}
use Rattle.stage_model.specs.Operations.{parts_in, composite, extracted, replaced, inserted}
use Rattle.typed_model.specs.Values.{layouts_in, HasLayout}
use Rattle.typed_model.proofs.Layouts.{truth_of, word_of, several_of, front_of, no_parts, same_parts}
use Rattle.frame_model.specs.Frame.{in_frame}
use Rattle.frame_model.specs.Shown.{words_at}
use Rattle.frame_model.proofs.FrameSizes.{layout_size}

same_some : {A : Type 0} (x y : A) → Some x ≡ Some y → x ≡ y
same_some x y is = cc

-- ---- in a frame

-- data stand in a frame as their words
pub in_frame_words : (program : Program) (value : Value) (words : List ℕ) → words_of value ≡ Some words → in_frame program value ≡ words
unfolding in_frame
in_frame_words program (Truth b) words is = ap (λ (o : Option (List ℕ)). unwrap_or o []) is
in_frame_words program (Word word) words is = same_some _ words is
in_frame_words program (Composite parts) words is = ap (λ (o : Option (List ℕ)). unwrap_or o []) is
in_frame_words program (Pointer variable indices) words is = cc
in_frame_words program Outside words is = cc

-- ---- two lists of words

-- both are there, and the words are theirs
pub record Both (first second : Option (List ℕ)) (words : List ℕ) : Type 0 where
  pub front : List ℕ
  pub back : List ℕ
  pub first_is : first ≡ Some front
  pub second_is : second ≡ Some back
  pub are : words ≡ front ++ back

pub both_there : (first second : Option (List ℕ)) (words : List ℕ) → words_with first second ≡ Some words → Both first second words
both_there None second words is = cc
both_there (Some front) None words is = cc
both_there (Some front) (Some back) words is = record { front = front; back = back; first_is = refl; second_is = refl; are = sym (same_some (front ++ back) words is) }

pub both_are : (first second : Option (List ℕ)) (front back : List ℕ) → first ≡ Some front → second ≡ Some back → words_with first second ≡ Some (front ++ back)
both_are first second front back a b = ap (λ (o : Option (List ℕ)). words_with o second) a ∙ ap (words_with (Some front)) b

-- a list with these words in place of so many
abbrev pub spliced : List ℕ → (place count : ℕ) → List ℕ → List ℕ
spliced words place count new = take place words ++ new ++ drop (place + count) words

pub words_within : (words : List ℕ) (place count inner size : ℕ) → inner + size ≤ count → words_at (words_at words place count) inner size ≡ words_at words (place + inner) size
words_within words place count inner size fits =
    let split : inner + (count - inner) ≡ count = omega (arith, fits) in
    ap (λ (n : ℕ). take size (drop inner (take n (drop place words)))) (sym split)
    ∙ (ap (take size) (drop-take inner (count - inner) (drop place words))
    ∙ (take-take size (count - inner) (drop inner (drop place words)) (omega (arith, fits)) ∙ ap (take size) (drop-drop inner place words)))

behind_front : (front back : List ℕ) (size place count : ℕ) → length front ≡ size → words_at (front ++ back) (size + place) count ≡ words_at back place count
behind_front front back size place count long = ap (take count) (sym (drop-drop place size (front ++ back)) ∙ ap (drop place) (drop_at front back size long))

-- ---- the first part

record Split (parts : Parts) (first : Layout) (more : Layouts) (words : List ℕ) : Type 0 where
  value : Value
  rest : Parts
  is : parts ≡ PartsOf value rest
  has : HasLayout first value
  behind : layouts_in rest ≡ Some more
  both : Both (words_of value) (words_of_parts rest) words
  long : length both.front ≡ size_of first

split_parts : (parts : Parts) (first : Layout) (more : Layouts) (words : List ℕ) → layouts_in parts ≡ Some (LayoutsOf first more) → words_of_parts parts ≡ Some words → Split parts first more words
split_parts parts first more words have are =
    let f = front_of parts first more have in
    let both = both_there (words_of f.value) (words_of_parts f.rest) words (sym (ap words_of_parts f.is) ∙ are) in
    let s = layout_size f.value first f.has in
    record { value = f.value; rest = f.rest; is = f.is; has = f.has; behind = f.behind; both = both; long = ap length (same_some both.front s.list (sym both.first_is ∙ s.is)) ∙ s.count }

-- ---- one part

abbrev later : Layout → Option (ℕ × Layout) → Option (ℕ × Layout)
later layout found = option_map (λ (place, part). (size_of layout + place, part)) found

later_part : (layout : Layout) (all : Layouts) (index : ℕ) → part_at (LayoutsOf layout all) (suc index) ≡ later layout (part_at all index)
later_part layout all index =
    let e : suc index - 1 ≡ index = omega arith in let isnt : suc index == 0 ≡ false = grind (arith, nat_tests) in
    ap (λ (b : Bool). if b then Some (0, layout) else later layout (part_at all (suc index - 1))) isnt ∙ ap (λ (n : ℕ). later layout (part_at all n)) e

-- the part with an index stands at a place among the words
pub record PartWords (all : Layouts) (index : ℕ) (value : Value) (words : List ℕ) : Type 0 where
  pub place : ℕ
  pub layout : Layout
  pub at : part_at all index ≡ Some (place, layout)
  pub has : HasLayout layout value
  pub within : place + size_of layout ≤ length words
  pub are : words_of value ≡ Some (words_at words place (size_of layout))

no_part : (index : ℕ) (value : Value) → slice_get [] index ≡ Some value → ⊥
no_part index value is = cc

pub part_words : (all : Layouts) (parts : Parts) (index : ℕ) (value : Value) (words : List ℕ) → layouts_in parts ≡ Some all → words_of_parts parts ≡ Some words → slice_get (list_of parts) index ≡ Some value → PartWords all index value words
part_words NoLayouts parts index value words have are is = absurd (no_part index value (sym (ap (λ (p : Parts). slice_get (list_of p) index) (no_parts parts have)) ∙ is))
part_words (LayoutsOf first more) parts zero value words have are is =
    let s = split_parts parts first more words have are in
    let same : s.value ≡ value = same_some s.value value (sym (ap (λ (p : Parts). slice_get (list_of p) 0) s.is) ∙ is) in
    let e : words_at words 0 (size_of first) ≡ s.both.front = ap (take (size_of first)) s.both.are ∙ take_at s.both.front s.both.back (size_of first) s.long in
    let l = ap length s.both.are ∙ length-append s.both.front s.both.back in
    let long = s.long in
    record {
      place = 0;
      layout = first;
      at = refl;
      has = subst (HasLayout first) same s.has;
      within = omega (arith, l, long);
      are = sym (ap words_of same) ∙ (s.both.first_is ∙ ap (λ (l : List ℕ). Some l) (sym e));
    }
part_words (LayoutsOf first more) parts (suc index) value words have are is =
    let s = split_parts parts first more words have are in
    let p = part_words more s.rest index value s.both.back s.behind s.both.second_is (sym (ap (λ (p : Parts). slice_get (list_of p) (suc index)) s.is) ∙ is) in
    let e : words_at words (size_of first + p.place) (size_of p.layout) ≡ words_at s.both.back p.place (size_of p.layout) =
    ap (λ (l : List ℕ). words_at l (size_of first + p.place) (size_of p.layout)) s.both.are ∙ behind_front s.both.front s.both.back (size_of first) p.place (size_of p.layout) s.long in
    let l = ap length s.both.are ∙ length-append s.both.front s.both.back in
    let long = s.long in let within = p.within in
    record {
      place = size_of first + p.place;
      layout = p.layout;
      at = later_part first more index ∙ ap (later first) p.at;
      has = p.has;
      within = omega (arith, l, long, within);
      are = p.are ∙ ap (λ (l : List ℕ). Some l) (sym e);
    }

-- ---- along indices

abbrev further : ℕ → Option (ℕ × Layout) → Option (ℕ × Layout)
further place found = option_map (λ (more, layout). (place + more, layout)) found

abbrev inside : List ℕ → Option (ℕ × Layout) → Option (ℕ × Layout)
inside indices reached = option_and_then (λ (place, part). further place (part_along part indices)) reached

along : (all : Layouts) (index : ℕ) (indices : List ℕ) (place to : ℕ) (part found : Layout) → part_at all index ≡ Some (place, part) → part_along part indices ≡ Some (to, found)
    → part_along (Several all) (index ∷ indices) ≡ Some (place + to, found)
along all index indices place to part found at rest = ap (inside indices) at ∙ ap (further place) rest

-- the value to which indices lead stands at a place among the words
pub record TakenWords (layout : Layout) (indices : List ℕ) (found : Value) (words : List ℕ) : Type 0 where
  pub place : ℕ
  pub part : Layout
  pub at : part_along layout indices ≡ Some (place, part)
  pub has : HasLayout part found
  pub within : place + size_of part ≤ length words
  pub are : words_of found ≡ Some (words_at words place (size_of part))

-- a value with parts is of several
pub record Whole (layout : Layout) (value : Value) (words : List ℕ) : Type 0 where
  pub all : Layouts
  pub is : layout ≡ Several all
  pub parts : Parts
  pub value_is : value ≡ Composite parts
  pub have : layouts_in parts ≡ Some all
  pub are : words_of_parts parts ≡ Some words

pub whole_of : (layout : Layout) (value : Value) (words : List ℕ) (index : ℕ) (part : Value) → HasLayout layout value → words_of value ≡ Some words → slice_get (parts_in value) index ≡ Some part → Whole layout value words
whole_of OneTruth value words index part has are is = absurd (no_part index part (sym (ap (λ (v : Value). slice_get (parts_in v) index) (truth_of value has).1) ∙ is))
whole_of OneWord value words index part has are is = absurd (no_part index part (sym (ap (λ (v : Value). slice_get (parts_in v) index) (word_of value has).1) ∙ is))
whole_of (Several all) value words index part has are is =
    let s = several_of value all has in
    record { all = all; is = refl; parts = s.0; value_is = s.1; have = s.2; are = sym (ap words_of s.1) ∙ are }

found_in : (indices : List ℕ) (part : Option Value) (found : Value) → option_and_then (extracted indices) part ≡ Some found → (value : Value) × (part ≡ Some value) × (extracted indices value ≡ Some found)
found_in indices None found is = cc
found_in indices (Some value) found is = (value, refl, is)

pub taken_words : (indices : List ℕ) (layout : Layout) (value found : Value) (words : List ℕ) → HasLayout layout value → words_of value ≡ Some words → extracted indices value ≡ Some found → TakenWords layout indices found words
taken_words [] layout value found words has are is =
    let same : value ≡ found = same_some value found is in
    let s = layout_size value layout has in
    let long : length words ≡ size_of layout = ap length (same_some words s.list (sym are ∙ s.is)) ∙ s.count in
    record {
      place = 0;
      part = layout;
      at = refl;
      has = subst (HasLayout layout) same has;
      within = omega (arith, long);
      are = sym (ap words_of same) ∙ (are ∙ ap (λ (l : List ℕ). Some l) (sym (take_all (size_of layout) words (omega (arith, long)))));
    }
taken_words (index ∷ indices) layout value found words has are is =
    let f = found_in indices (slice_get (parts_in value) index) found is in
    let w = whole_of layout value words index f.0 has are f.1 in
    let p = part_words w.all w.parts index f.0 words w.have w.are (sym (ap (λ (v : Value). slice_get (parts_in v) index) w.value_is) ∙ f.1) in
    let r = taken_words indices p.layout f.0 found (words_at words p.place (size_of p.layout)) p.has p.are f.2 in
    let within = p.within in let inner = r.within in
    let d = length-drop p.place words in
    let long : length (words_at words p.place (size_of p.layout)) ≡ size_of p.layout = length-take-le (size_of p.layout) (drop p.place words) (omega (arith, within, d)) in
    record {
      place = p.place + r.place;
      part = r.part;
      at = ap (λ (l : Layout). part_along l (index ∷ indices)) w.is ∙ along w.all index indices p.place r.place p.layout r.part p.at r.at;
      has = r.has;
      within = omega (arith, within, inner, long);
      are = r.are ∙ ap (λ (l : List ℕ). Some l) (words_within words p.place (size_of p.layout) r.place (size_of r.part) (omega (arith, inner, long)));
    }

-- ---- a part put for another

none_taken : (n : ℕ) → ◌≡◌ {A = List ℕ} (take n []) []
none_taken n = take_all n [] (omega arith)

-- one list of words put into a part of another
spliced_within : (words new : List ℕ) (place count inner size : ℕ) → inner + size ≤ count → place + count ≤ length words → spliced words place count (spliced (words_at words place count) inner size new) ≡ spliced words (place + inner) size new
spliced_within words new place count inner size fits room =
    let own : List ℕ = words_at words place count in
    let split : inner + size + (count - (inner + size)) ≡ count = omega (arith, fits) in
    let last : place + inner + size + (count - (inner + size)) ≡ place + count = omega (arith, fits) in
    let tail : List ℕ = drop (place + inner + size) words in
    -- what is kept of the part in front, and behind
    let kept : take inner own ≡ take inner (drop place words) = take-take inner count (drop place words) (omega (arith, fits)) in
    let rest : drop (inner + size) own ≡ take (count - (inner + size)) tail =
    ap (λ (n : ℕ). drop (inner + size) (take n (drop place words))) (sym split)
    ∙ (drop-take (inner + size) (count - (inner + size)) (drop place words)
    ∙ ap (take (count - (inner + size))) (drop-drop (inner + size) place words ∙ (let e : place + (inner + size) ≡ place + inner + size = omega arith in ap (λ (n : ℕ). drop n words) e))) in
    let back : drop (place + count) words ≡ drop (count - (inner + size)) tail = ap (λ (n : ℕ). drop n words) (sym last) ∙ sym (drop-drop (count - (inner + size)) (place + inner + size) words) in
    let front : take place words ++ take inner (drop place words) ≡ take (place + inner) words = taken_behind place inner words in
    append_assoc (take place words) (take inner own ++ new ++ drop (inner + size) own) (drop (place + count) words)
    ∙ (ap (λ (l : List ℕ). take place words ++ l) (append_assoc (take inner own ++ new) (drop (inner + size) own) (drop (place + count) words)
    ∙ (ap (λ (l : List ℕ). take inner own ++ new ++ l) (ap (λ (l : List ℕ). l ++ drop (place + count) words) rest ∙ (ap (λ (l : List ℕ). take (count - (inner + size)) tail ++ l) back ∙ take-append-drop (count - (inner + size)) tail))
    ∙ (ap (λ (l : List ℕ). l ++ new ++ tail) kept ∙ append_assoc (take inner (drop place words)) new tail)))
    ∙ (sym (append_assoc (take place words) (take inner (drop place words)) (new ++ tail)) ∙ (ap (λ (l : List ℕ). l ++ (new ++ tail)) front ∙ sym (append_assoc (take (place + inner) words) new tail))))
  where
    taken_behind : (place inner : ℕ) (words : List ℕ) → take place words ++ take inner (drop place words) ≡ take (place + inner) words
    taken_behind zero inner words = let e : zero + inner ≡ inner = omega arith in ap (λ (n : ℕ). take n words) (sym e)
    taken_behind (suc place) inner [] = none_taken inner ∙ sym (none_taken (suc place + inner))
    taken_behind (suc place) inner (word ∷ words) =
        let e : suc place + inner ≡ suc (place + inner) = omega arith in
        ap (λ (l : List ℕ). word ∷ l) (taken_behind place inner words) ∙ ap (λ (n : ℕ). take n (word ∷ words)) (sym e)

-- parts with one put for another
abbrev pub put : ℕ → Value → List Value → List Value
put index object values = take index values ++ object ∷ drop (index + 1) values

put_later : (index : ℕ) (object first : Value) (values : List Value) → put (suc index) object (first ∷ values) ≡ first ∷ put index object values
put_later index object first values = let e : suc index + 1 ≡ suc (index + 1) = omega arith in ap (λ (n : ℕ). first ∷ (take index values ++ object ∷ drop n (first ∷ values))) e

first_or : ℕ → Option (ℕ × Layout) → ℕ
first_or place None = place
first_or place (Some (found, layout)) = found

second_or : Layout → Option (ℕ × Layout) → Layout
second_or layout None = layout
second_or layout (Some (place, found)) = found

same_pair : (a b : ℕ) (l m : Layout) → ◌≡◌ {A = Option (ℕ × Layout)} (Some (a, l)) (Some (b, m)) → (a ≡ b) × (l ≡ m)
unfolding first_or second_or
same_pair a b l m is = (ap (first_or a) is, ap (second_or l) is)

found_later : (layout : Layout) (rest : Option (ℕ × Layout)) (place : ℕ) (found : Layout) → later layout rest ≡ Some (place, found) → (within : ℕ) × (rest ≡ Some (within, found)) × (place ≡ size_of layout + within)
found_later layout None place found is = cc
found_later layout (Some (within, part)) place found is =
    let p = same_pair (size_of layout + within) place part found is in (within, ap (λ (l : Layout). Some (within, l)) p.1, sym p.0)

first_place : (layout : Layout) (place : ℕ) (found : Layout) → ◌≡◌ {A = Option (ℕ × Layout)} (Some (0, layout)) (Some (place, found)) → (place ≡ 0) × (found ≡ layout)
first_place layout place found is = let p = same_pair 0 place layout found is in (sym p.0, sym p.1)

pub put_words : (all : Layouts) (parts : Parts) (index place : ℕ) (layout : Layout) (object : Value) (words new : List ℕ) → layouts_in parts ≡ Some all → words_of_parts parts ≡ Some words → part_at all index ≡ Some (place, layout)
    → words_of object ≡ Some new → words_of_parts (parts_from (put index object (list_of parts))) ≡ Some (spliced words place (size_of layout) new)
put_words NoLayouts parts index place layout object words new have are at is = cc
put_words (LayoutsOf first more) parts zero place layout object words new have are at is =
    let s = split_parts parts first more words have are in
    let z = first_place first place layout at in
    let dropped : drop (place + size_of layout) words ≡ s.both.back =
    ap (λ (n : ℕ). drop (n + size_of layout) words) z.0 ∙ (ap (λ (l : Layout). drop (0 + size_of l) words) z.1 ∙ (ap (drop (0 + size_of first)) s.both.are ∙ drop_at s.both.front s.both.back (0 + size_of first) (let long = s.long in omega (arith, long)))) in
    let made : spliced words place (size_of layout) new ≡ new ++ s.both.back = ap (λ (l : List ℕ). take place words ++ new ++ l) dropped ∙ ap (λ (n : ℕ). take n words ++ new ++ s.both.back) z.0 in
    ap (λ (p : Parts). words_of_parts (parts_from (put 0 object (list_of p)))) s.is
    ∙ (both_are (words_of object) (words_of_parts (parts_from (list_of s.rest))) new s.both.back is (ap words_of_parts (same_parts s.rest) ∙ s.both.second_is) ∙ ap (λ (l : List ℕ). Some l) (sym made))
put_words (LayoutsOf first more) parts (suc index) place layout object words new have are at is =
    let s = split_parts parts first more words have are in
    let l = found_later first (part_at more index) place layout (sym (later_part first more index) ∙ at) in
    let r = put_words more s.rest index l.0 layout object s.both.back new s.behind s.both.second_is l.1 is in
    let long = s.long in
    let made : spliced words place (size_of layout) new ≡ s.both.front ++ spliced s.both.back l.0 (size_of layout) new =
    ap (λ (n : ℕ). spliced words n (size_of layout) new) l.2 ∙ (ap (λ (w : List ℕ). spliced w (size_of first + l.0) (size_of layout) new) s.both.are ∙ spliced_behind s.both.front s.both.back new (size_of first) l.0 (size_of layout) long) in
    ap (λ (p : Parts). words_of_parts (parts_from (put (suc index) object (list_of p)))) s.is
    ∙ (ap (λ (values : List Value). words_of_parts (parts_from values)) (put_later index object s.value (list_of s.rest))
    ∙ (both_are (words_of s.value) (words_of_parts (parts_from (put index object (list_of s.rest)))) s.both.front (spliced s.both.back l.0 (size_of layout) new) s.both.first_is r ∙ ap (λ (l : List ℕ). Some l) (sym made)))
  where
    spliced_behind : (front back new : List ℕ) (size place count : ℕ) → length front ≡ size → spliced (front ++ back) (size + place) count new ≡ front ++ spliced back place count new
    spliced_behind front back new size place count long =
        let taken : take (size + place) (front ++ back) ≡ front ++ take place back = take_behind front back size place long in
        let dropped : drop (size + place + count) (front ++ back) ≡ drop (place + count) back =
        (let e : size + place + count ≡ size + (place + count) = omega arith in ap (λ (n : ℕ). drop n (front ++ back)) e)
        ∙ (sym (drop-drop (place + count) size (front ++ back)) ∙ ap (drop (place + count)) (drop_at front back size long)) in
        ap (λ (l : List ℕ). l ++ new ++ drop (size + place + count) (front ++ back)) taken
        ∙ (ap (λ (l : List ℕ). front ++ take place back ++ new ++ l) dropped
        ∙ (ap (λ (l : List ℕ). l ++ drop (place + count) back) (append_assoc front (take place back) new) ∙ append_assoc front (take place back ++ new) (drop (place + count) back)))
      where
        take_behind : (front back : List ℕ) (size place : ℕ) → length front ≡ size → take (size + place) (front ++ back) ≡ front ++ take place back
        take_behind [] back size place long = let e : size + place ≡ place = omega (arith, long) in ap (λ (n : ℕ). take n back) e
        take_behind (word ∷ front) back zero place long = absurd (omega (arith, long))
        take_behind (word ∷ front) back (suc size) place long =
            let e : suc size + place ≡ suc (size + place) = omega arith in
            ap (λ (n : ℕ). take n (word ∷ front ++ back)) e ∙ ap (λ (l : List ℕ). word ∷ l) (take_behind front back size place (omega (arith, long)))

-- the object is put for the part to which the indices lead
pub record PutWords (layout : Layout) (indices : List ℕ) (object new : Value) (words put : List ℕ) : Type 0 where
  pub place : ℕ
  pub part : Layout
  pub at : part_along layout indices ≡ Some (place, part)
  pub within : place + size_of part ≤ length words
  pub are : words_of new ≡ Some (spliced words place (size_of part) put)

-- the part that is replaced, and what is put there
pub record Replaced (object : Value) (index : ℕ) (indices : List ℕ) (value new : Value) : Type 0 where
  pub part : Value
  pub is : slice_get (parts_in value) index ≡ Some part
  pub inner : Value
  pub made : inserted object indices part ≡ Some inner
  pub result : new ≡ composite (put index inner (parts_in value))

pub replaced_by : (object : Value) (index : ℕ) (indices : List ℕ) (value new : Value) → inserted object (index ∷ indices) value ≡ Some new → Replaced object index indices value new
replaced_by object index indices value new is = by_part object index indices value new (slice_get (parts_in value) index) refl is
  where
    by_test : (object : Value) (index : ℕ) (indices : List ℕ) (value new part inner : Value) (b : Bool) → slice_get (parts_in value) index ≡ Some part → inserted object indices part ≡ Some inner
        → option_map composite (if b then Some (put index inner (parts_in value)) else None) ≡ Some new → Replaced object index indices value new
    by_test object index indices value new part inner true found made is = record { part = part; is = found; inner = inner; made = made; result = sym (same_some _ new is) }
    by_test object index indices value new part inner false found made is = cc

    by_inner : (object : Value) (index : ℕ) (indices : List ℕ) (value new part : Value) (inner : Option Value) → slice_get (parts_in value) index ≡ Some part → inserted object indices part ≡ inner
        → option_map composite (replaced index inner (parts_in value)) ≡ Some new → Replaced object index indices value new
    by_inner object index indices value new part None found made is = cc
    by_inner object index indices value new part (Some inner) found made is = by_test object index indices value new part inner (nat_lt index (length (parts_in value))) found made is

    by_part : (object : Value) (index : ℕ) (indices : List ℕ) (value new : Value) (part : Option Value) → slice_get (parts_in value) index ≡ part
        → option_map composite (replaced index (option_and_then (inserted object indices) part) (parts_in value)) ≡ Some new → Replaced object index indices value new
    by_part object index indices value new None found is = cc
    by_part object index indices value new (Some part) found is = by_inner object index indices value new part (inserted object indices part) found refl is

pub inserted_words : (indices : List ℕ) (layout : Layout) (object value new : Value) (words put : List ℕ) → HasLayout layout value → words_of value ≡ Some words → words_of object ≡ Some put → inserted object indices value ≡ Some new
    → PutWords layout indices object new words put
inserted_words [] layout object value new words put has are own is =
    let s = layout_size value layout has in
    let long : length words ≡ size_of layout = ap length (same_some words s.list (sym are ∙ s.is)) ∙ s.count in
    let all : spliced words 0 (size_of layout) put ≡ put = ap (λ (l : List ℕ). put ++ l) (drop_all (0 + size_of layout) words (omega (arith, long))) ∙ append-nil put in
    record {
      place = 0;
      part = layout;
      at = refl;
      within = omega (arith, long);
      are = sym (ap words_of (same_some object new is)) ∙ (own ∙ ap (λ (l : List ℕ). Some l) (sym all));
    }
inserted_words (index ∷ indices) layout object value new words put has are own is =
    let f = replaced_by object index indices value new is in
    let w = whole_of layout value words index f.part has are f.is in
    let p = part_words w.all w.parts index f.part words w.have w.are (sym (ap (λ (v : Value). slice_get (parts_in v) index) w.value_is) ∙ f.is) in
    let r = inserted_words indices p.layout object f.part f.inner (words_at words p.place (size_of p.layout)) put p.has p.are own f.made in
    let within = p.within in let inner = r.within in
    let d = length-drop p.place words in
    let long : length (words_at words p.place (size_of p.layout)) ≡ size_of p.layout = length-take-le (size_of p.layout) (drop p.place words) (omega (arith, within, d)) in
    let made = put_words w.all w.parts index p.place p.layout f.inner words (spliced (words_at words p.place (size_of p.layout)) r.place (size_of r.part) put) w.have w.are p.at r.are in
    record {
      place = p.place + r.place;
      part = r.part;
      at = ap (λ (l : Layout). part_along l (index ∷ indices)) w.is ∙ along w.all index indices p.place r.place p.layout r.part p.at r.at;
      within = omega (arith, within, inner, long);
      are = ap words_of f.result ∙ (ap (λ (v : Value). words_of_parts (parts_from (put_in index f.inner v))) w.value_is
          ∙ (made ∙ ap (λ (l : List ℕ). Some l) (spliced_within words put p.place (size_of p.layout) r.place (size_of r.part) (omega (arith, inner, long)) within)));
    }
  where
    put_in : ℕ → Value → Value → List Value
    put_in index object value = take index (parts_in value) ++ object ∷ drop (index + 1) (parts_in value)
