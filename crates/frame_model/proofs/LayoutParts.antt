-- Parts of layouts: they lie within the whole, indices behind others lead on from there, and truth values stand where they do in the whole.
use Rattle.std.proofs.Common.{◌≡◌, ℕ, zero, suc, ◌+◌, ◌-◌, ◌<◌, ◌≤◌, ◌==◌, Bool, true, false, nat_lt, if◌then◌else◌, List, [], ◌∷◌, ◌++◌, refl, ap, sym, ◌∙◌, subst, arith, Option, None, Some}
use Rattle.std.specs.Option.{option_map, option_and_then}
use Rattle.std.proofs.lemmas.Bool.Decides.{nat_tests}
use Rattle.stage_model.specs.Value.{Layout, OneTruth, OneWord, Several, Layouts, NoLayouts, LayoutsOf, size_of, sizes_of, part_at, part_along}
use Rattle.frame_model.specs.Truths.{is_truth_at, is_truth_in}

-- ---- found parts

first_or : ℕ → Option (ℕ × Layout) → ℕ
first_or place None = place
first_or place (Some (found, layout)) = found

second_or : Layout → Option (ℕ × Layout) → Layout
second_or layout None = layout
second_or layout (Some (place, found)) = found

pub same_part : (a b : ℕ) (l m : Layout) → ◌≡◌ {A = Option (ℕ × Layout)} (Some (a, l)) (Some (b, m)) → (a ≡ b) × (l ≡ m)
unfolding first_or second_or
same_part a b l m is = (ap (first_or a) is, ap (second_or l) is)

-- a part further on
abbrev pub further : ℕ → Option (ℕ × Layout) → Option (ℕ × Layout)
further place found = option_map (λ (more, layout). (place + more, layout)) found

pub further_found : (place to : ℕ) (found : Option (ℕ × Layout)) (layout : Layout) → further place found ≡ Some (to, layout) → (within : ℕ) × (found ≡ Some (within, layout)) × (to ≡ place + within)
further_found place to None layout is = cc
further_found place to (Some (within, own)) layout is =
    let p = same_part (place + within) to own layout is in (within, ap (λ (l : Layout). Some (within, l)) p.1, sym p.0)

further_both : (a b : ℕ) (found : Option (ℕ × Layout)) → further a (further b found) ≡ further (a + b) found
further_both a b None = refl
further_both a b (Some (within, layout)) = let e : a + (b + within) ≡ a + b + within = omega arith in ap (λ (n : ℕ). Some (n, layout)) e

further_none : (found : Option (ℕ × Layout)) → further 0 found ≡ found
further_none None = refl
further_none (Some (within, layout)) = let e : 0 + within ≡ within = omega arith in ap (λ (n : ℕ). Some (n, layout)) e

later_part : (layout : Layout) (all : Layouts) (index : ℕ) → part_at (LayoutsOf layout all) (suc index) ≡ further (size_of layout) (part_at all index)
later_part layout all index =
    let e : suc index - 1 ≡ index = omega arith in let isnt : suc index == 0 ≡ false = grind (arith, nat_tests) in
    ap (λ (b : Bool). if b then Some (0, layout) else further (size_of layout) (part_at all (suc index - 1))) isnt ∙ ap (λ (n : ℕ). further (size_of layout) (part_at all n)) e

-- from a part on
abbrev inside : List ℕ → Option (ℕ × Layout) → Option (ℕ × Layout)
inside indices reached = option_and_then (λ (place, part). further place (part_along part indices)) reached

-- ---- indices behind others

along_found : (indices more : List ℕ) (reached : Option (ℕ × Layout)) (place : ℕ) (part : Layout) → inside indices reached ≡ Some (place, part)
    → ((from : ℕ) (own : Layout) → reached ≡ Some (from, own) → (within : ℕ) → part_along own indices ≡ Some (within, part) → part_along own (indices ++ more) ≡ further within (part_along part more))
    → inside (indices ++ more) reached ≡ further place (part_along part more)
along_found indices more None place part is go = cc
along_found indices more (Some (from, own)) place part is go =
    let f = further_found from place (part_along own indices) part is in
    ap (further from) (go from own refl f.0 f.1) ∙ (further_both from f.0 (part_along part more) ∙ ap (λ (n : ℕ). further n (part_along part more)) (sym f.2))

-- they lead on from the part that the first ones lead to
pub along_more : (indices more : List ℕ) (whole : Layout) (place : ℕ) (part : Layout) → part_along whole indices ≡ Some (place, part) → part_along whole (indices ++ more) ≡ further place (part_along part more)
along_more [] more whole place part is =
    let p = same_part 0 place whole part is in
    sym (further_none (part_along whole more)) ∙ (ap (λ (n : ℕ). further n (part_along whole more)) p.0 ∙ ap (λ (l : Layout). further place (part_along l more)) p.1)
along_more (index ∷ indices) more OneTruth place part is = cc
along_more (index ∷ indices) more OneWord place part is = cc
along_more (index ∷ indices) more (Several parts) place part is =
    along_found indices more (part_at parts index) place part is (λ from own at within rest. along_more indices more own within part rest)

-- ---- within the whole

-- where a part lies, and what its words are
pub record LiesIn (whole : ℕ) (truths : ℕ → Bool) (place : ℕ) (part : Layout) : Type 0 where
  pub fits : place + size_of part ≤ whole
  pub same : (k : ℕ) → k < size_of part → truths (place + k) ≡ is_truth_at part k

no_lt : (a b : ℕ) → nat_lt (a + b) a ≡ false
no_lt a b = grind (arith, nat_tests)

is_lt : (a b : ℕ) → a < b → nat_lt a b ≡ true
is_lt a b less = grind (arith, nat_tests)

truth_first : (layout : Layout) (all : Layouts) (k : ℕ) → k < size_of layout → is_truth_in (LayoutsOf layout all) k ≡ is_truth_at layout k
truth_first layout all k less = ap (λ (b : Bool). if b then is_truth_at layout k else is_truth_in all (k - size_of layout)) (is_lt k (size_of layout) less)

truth_later : (layout : Layout) (all : Layouts) (k : ℕ) → is_truth_in (LayoutsOf layout all) (size_of layout + k) ≡ is_truth_in all k
truth_later layout all k =
    let e : size_of layout + k - size_of layout ≡ k = omega arith in
    ap (λ (b : Bool). if b then is_truth_at layout (size_of layout + k) else is_truth_in all (size_of layout + k - size_of layout)) (no_lt (size_of layout) k) ∙ ap (is_truth_in all) e

part_lies : (all : Layouts) (index place : ℕ) (part : Layout) → part_at all index ≡ Some (place, part) → LiesIn (sizes_of all) (is_truth_in all) place part
part_lies NoLayouts index place part is = cc
part_lies (LayoutsOf layout all) zero place part is =
    let p = same_part 0 place layout part is in
    subst (λ (n : ℕ). LiesIn (size_of layout + sizes_of all) (is_truth_in (LayoutsOf layout all)) n part) p.0
    (subst (λ (l : Layout). LiesIn (size_of layout + sizes_of all) (is_truth_in (LayoutsOf layout all)) 0 l) p.1
    (record { fits = omega arith; same = λ k less. let e : 0 + k ≡ k = omega arith in ap (is_truth_in (LayoutsOf layout all)) e ∙ truth_first layout all k less }))
part_lies (LayoutsOf layout all) (suc index) place part is =
    let f = further_found (size_of layout) place (part_at all index) part (sym (later_part layout all index) ∙ is) in
    let rest = part_lies all index f.0 part f.1 in
    let at = f.2 in let fits = rest.fits in
    record {
      fits = omega (arith, at, fits);
      same = λ k less.
          let e : place + k ≡ size_of layout + (f.0 + k) = omega (arith, at) in
          ap (is_truth_in (LayoutsOf layout all)) e ∙ (truth_later layout all (f.0 + k) ∙ rest.same k less);
    }

lies_inside : (whole : ℕ) (truths : ℕ → Bool) (indices : List ℕ) (reached : Option (ℕ × Layout)) (place : ℕ) (part : Layout) → inside indices reached ≡ Some (place, part)
    → ((from : ℕ) (own : Layout) → reached ≡ Some (from, own) → LiesIn whole truths from own) → ((own : Layout) (within : ℕ) → part_along own indices ≡ Some (within, part) → LiesIn (size_of own) (is_truth_at own) within part)
    → LiesIn whole truths place part
lies_inside whole truths indices None place part is first rest = cc
lies_inside whole truths indices (Some (from, own)) place part is first rest =
    let f = further_found from place (part_along own indices) part is in
    let outer = first from own refl in let inner = rest own f.0 f.1 in
    let at = f.2 in let outer_fits = outer.fits in let inner_fits = inner.fits in
    record {
      fits = omega (arith, at, outer_fits, inner_fits);
      same = λ k less.
          let e : place + k ≡ from + (f.0 + k) = omega (arith, at) in
          ap truths e ∙ (outer.same (f.0 + k) (omega (arith, less, inner_fits)) ∙ inner.same k less);
    }

pub lies_along : (indices : List ℕ) (whole : Layout) (place : ℕ) (part : Layout) → part_along whole indices ≡ Some (place, part) → LiesIn (size_of whole) (is_truth_at whole) place part
lies_along [] whole place part is =
    let p = same_part 0 place whole part is in
    subst (λ (n : ℕ). LiesIn (size_of whole) (is_truth_at whole) n part) p.0
    (subst (λ (l : Layout). LiesIn (size_of whole) (is_truth_at whole) 0 l) p.1
    (record { fits = omega arith; same = λ k less. let e : 0 + k ≡ k = omega arith in ap (is_truth_at whole) e }))
lies_along (index ∷ indices) OneTruth place part is = cc
lies_along (index ∷ indices) OneWord place part is = cc
lies_along (index ∷ indices) (Several parts) place part is =
    lies_inside (sizes_of parts) (is_truth_in parts) indices (part_at parts index) place part is (λ from own at. part_lies parts index from own at) (λ own within rest. lies_along indices own within part rest)
