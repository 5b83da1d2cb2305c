-- Where the parts of a layout begin.
use Rattle.std.proofs.Common.{◌≡◌, ℕ, zero, suc, ◌+◌, ◌*◌, ◌-◌, ◌<◌, ◌≤◌, ◌==◌, Bool, false, if◌then◌else◌, List, [], ◌∷◌, take, refl, ap, sym, ◌∙◌, arith, Option, None, Some}
use Rattle.std.specs.Prelude.{slice_get}
use Rattle.std.specs.List.{sum_by}
use Rattle.std.specs.Option.{option_map, option_and_then}
use Rattle.std.proofs.lemmas.Bool.Decides.{nat_tests}
use Rattle.std.proofs.lemmas.List.Sums.{sum_by-cons}
use Rattle.stage_model.specs.Value.{Layout, Several, Layouts, NoLayouts, LayoutsOf, size_of, repeated, part_at, part_along}
use Rattle.stage_model.specs.Program.{layouts_of}
use Rattle.stage_model.specs.Stage.{size_in}

-- ---- one index

abbrev behind : ℕ → Option (ℕ × Layout) → Option (ℕ × Layout)
behind size found = option_map (λ (place, part). (size + place, part)) found

not_zero : (index : ℕ) → suc index == 0 ≡ false
not_zero index = grind (arith, nat_tests)

later_part : (layout : Layout) (all : Layouts) (index : ℕ) → part_at (LayoutsOf layout all) (suc index) ≡ behind (size_of layout) (part_at all index)
later_part layout all index =
    let e : suc index - 1 ≡ index = omega arith in
    ap (λ (b : Bool). if b then Some (0, layout) else behind (size_of layout) (part_at all (suc index - 1))) (not_zero index) ∙ ap (λ (n : ℕ). behind (size_of layout) (part_at all n)) e

-- one index leads to the part with this index
pub along_one : (all : Layouts) (index place : ℕ) (layout : Layout) → part_at all index ≡ Some (place, layout) → part_along (Several all) (index ∷ []) ≡ Some (place, layout)
along_one all index place layout is =
    let e : place + 0 ≡ place = omega arith in
    ap (option_and_then (λ (place, part). option_map (λ (further, found). (place + further, found)) (Some (0, part)))) is ∙ ap (λ (n : ℕ). Some (n, layout)) e

pub along_none : (all : Layouts) (index : ℕ) → part_at all index ≡ None → part_along (Several all) (index ∷ []) ≡ None
along_none all index is = ap (option_and_then (λ (place, part). option_map (λ (further, found). (place + further, found)) (Some (0, part)))) is

-- ---- of vectors and arrays

pub part_of_repeated : (n index : ℕ) (layout : Layout) → index < n → part_at (repeated n layout) index ≡ Some (index * size_of layout, layout)
part_of_repeated zero index layout less = absurd (omega arith)
part_of_repeated (suc n) zero layout less = let e : 0 * size_of layout ≡ 0 = omega arith in ap (λ (p : ℕ). Some (p, layout)) (sym e)
part_of_repeated (suc n) (suc index) layout less =
    later_part layout (repeated n layout) index ∙ (ap (behind (size_of layout)) (part_of_repeated n index layout (omega arith)) ∙ ap (λ (p : ℕ). Some (p, layout)) (one_more index (size_of layout)))
  where
    one_more : (index size : ℕ) → size + index * size ≡ suc index * size
    one_more index size = grind arith

pub past_repeated : (n index : ℕ) (layout : Layout) → n ≤ index → part_at (repeated n layout) index ≡ None
past_repeated zero index layout more = refl
past_repeated (suc n) zero layout more = absurd (omega arith)
past_repeated (suc n) (suc index) layout more = later_part layout (repeated n layout) index ∙ ap (behind (size_of layout)) (past_repeated n index layout (omega arith))

-- ---- of structures

-- the words in front of a member
abbrev pub words_of_members : (ℕ → Option Layout) → List ℕ → ℕ
words_of_members layout members = sum_by (λ id. size_in (layout id)) members

abbrev with_front : Option Layout → Option Layouts → Option Layouts
with_front first rest = option_and_then (λ first. option_map (λ rest. LayoutsOf first rest) rest) first

-- the layouts of a first member and of the others
record Front (layout : ℕ → Option Layout) (first : ℕ) (more : List ℕ) (all : Layouts) : Type 0 where
  own : Layout
  rest : Layouts
  is : layout first ≡ Some own
  others : layouts_of layout more ≡ Some rest
  both : all ≡ LayoutsOf own rest

front : (layout : ℕ → Option Layout) (first : ℕ) (more : List ℕ) (all : Layouts) → layouts_of layout (first ∷ more) ≡ Some all → Front layout first more all
front layout first more all are = by_both layout first more all (layout first) (layouts_of layout more) refl refl are
  where
    by_both : (layout : ℕ → Option Layout) (first : ℕ) (more : List ℕ) (all : Layouts) (one : Option Layout) (rest : Option Layouts) → layout first ≡ one → layouts_of layout more ≡ rest → with_front one rest ≡ Some all → Front layout first more all
    by_both layout first more all None rest is others are = cc
    by_both layout first more all (Some one) None is others are = cc
    by_both layout first more all (Some one) (Some rest) is others are = record { own = one; rest = rest; is = is; others = others; both = cc }

pub part_of_members : (layout : ℕ → Option Layout) (members : List ℕ) (all : Layouts) (index id : ℕ) → layouts_of layout members ≡ Some all → slice_get members index ≡ Some id
    → (own : Layout) × (layout id ≡ Some own) × (part_at all index ≡ Some (words_of_members layout (take index members), own))
part_of_members layout [] all index id are is = cc
part_of_members layout (first ∷ members) all zero id are is =
    let f = front layout first members all are in
    let e : first ≡ id = same first id is in
    (f.own, ap layout (sym e) ∙ f.is, ap (λ (l : Layouts). part_at l 0) f.both)
  where
    same : (a b : ℕ) → ◌≡◌ {A = Option ℕ} (Some a) (Some b) → a ≡ b
    same a b is = cc
part_of_members layout (first ∷ members) all (suc index) id are is =
    let f = front layout first members all are in
    let rest = part_of_members layout members f.rest index id f.others is in
    let e : words_of_members layout (first ∷ take index members) ≡ size_of f.own + words_of_members layout (take index members) =
    sum_by-cons (λ (id : ℕ). size_in (layout id)) first (take index members) ∙ ap (λ (n : ℕ). n + words_of_members layout (take index members)) (ap size_in f.is) in (
      rest.0,
      rest.1,
      ap (λ (l : Layouts). part_at l (suc index)) f.both ∙ (later_part f.own f.rest index ∙ (ap (behind (size_of f.own)) rest.2 ∙ ap (λ (n : ℕ). Some (n, rest.0)) (sym e))),
    )

pub past_members : (layout : ℕ → Option Layout) (members : List ℕ) (all : Layouts) (index : ℕ) → layouts_of layout members ≡ Some all → slice_get members index ≡ None → part_at all index ≡ None
past_members layout [] all index are is = ap (λ (l : Layouts). part_at l index) (none all are)
  where
    none : (all : Layouts) → ◌≡◌ {A = Option Layouts} (Some NoLayouts) (Some all) → all ≡ NoLayouts
    none all is = cc
past_members layout (first ∷ members) all zero are is = cc
past_members layout (first ∷ members) all (suc index) are is =
    let f = front layout first members all are in
    ap (λ (l : Layouts). part_at l (suc index)) f.both ∙ (later_part f.own f.rest index ∙ ap (behind (size_of f.own)) (past_members layout members f.rest index f.others is))
