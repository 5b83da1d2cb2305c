-- Where the part begins to which literals lead, summed up along the types of parts.
use Rattle.std.proofs.Common.{◌≡◌, ℕ, ◌+◌, ◌%◌, ◌<◌, ◌^◌, ◌⊎◌, inl, inr, List, [], ◌∷◌, refl, ap, sym, ◌∙◌, subst, arith, Option, None, Some}
use Rattle.std.specs.Option.{option_map, option_and_then}
use Rattle.stage_model.specs.Value.{Layout, OneTruth, OneWord, Several, part_at, part_along}
use Rattle.stage_model.specs.Program.{Program}
use Rattle.spv_exec.specs.declared.module_frame.Part.{Part}
use Rattle.spv_exec.specs.ModuleFrames.{HasPartType, AnswersPart}

-- from a part of a type, so far from the start, the other literals lead to a part
pub data Reaches (program : Program) (whole : ℕ) (rest : List ℕ) (start : ℕ) (part : Layout) (so_far : ℕ) : Type 0 where
  leads : (layout : Layout) (further : ℕ) → program.layout whole ≡ Some layout → part_along layout rest ≡ Some (further, part) → so_far + further ≡ start → Reaches program whole rest start part so_far
  there : rest ≡ [] → so_far ≡ start → Reaches program whole rest start part so_far

first_or : ℕ → Option (ℕ × Layout) → ℕ
first_or place None = place
first_or place (Some (found, layout)) = found

second_or : Layout → Option (ℕ × Layout) → Layout
second_or layout None = layout
second_or layout (Some (place, found)) = found

same_pair : (a b : ℕ) (l m : Layout) → ◌≡◌ {A = Option (ℕ × Layout)} (Some (a, l)) (Some (b, m)) → (a ≡ b) × (l ≡ m)
unfolding first_or second_or
same_pair a b l m is = (ap (first_or a) is, ap (second_or l) is)

abbrev further_by : ℕ → Option (ℕ × Layout) → Option (ℕ × Layout)
further_by place found = option_map (λ (more, layout). (place + more, layout)) found

abbrev inside : List ℕ → Option (ℕ × Layout) → Option (ℕ × Layout)
inside indices reached = option_and_then (λ (place, part). further_by place (part_along part indices)) reached

-- a literal and the others
record Step (layout : Layout) (literal : ℕ) (rest : List ℕ) (further : ℕ) (part : Layout) : Type 0 where
  place : ℕ
  next : Layout
  one : part_along layout (literal ∷ []) ≡ Some (place, next)
  more : ℕ
  others : part_along next rest ≡ Some (more, part)
  sum : place + more ≡ further

found_more : (place further : ℕ) (part : Layout) (found : Option (ℕ × Layout)) → further_by place found ≡ Some (further, part) → (more : ℕ) × (found ≡ Some (more, part)) × (place + more ≡ further)
found_more place further part None is = cc
found_more place further part (Some (more, own)) is = let p = same_pair (place + more) further own part is in (more, ap (λ (l : Layout). Some (more, l)) p.1, p.0)

found_first : (rest : List ℕ) (further : ℕ) (part : Layout) (reached : Option (ℕ × Layout)) → inside rest reached ≡ Some (further, part) → (place : ℕ) × (next : Layout) × (reached ≡ Some (place, next)) × (further_by place (part_along next rest) ≡ Some (further, part))
found_first rest further part None is = cc
found_first rest further part (Some (place, next)) is = (place, next, refl, is)

step_of : (layout : Layout) (literal : ℕ) (rest : List ℕ) (further : ℕ) (part : Layout) → part_along layout (literal ∷ rest) ≡ Some (further, part) → Step layout literal rest further part
step_of OneTruth literal rest further part is = cc
step_of OneWord literal rest further part is = cc
step_of (Several all) literal rest further part is =
    let r = found_first rest further part (part_at all literal) is in
    let m = found_more r.0 further part (part_along r.1 rest) r.3 in
    let e : r.0 + 0 ≡ r.0 = omega arith in
    record { place = r.0; next = r.1; one = ap (inside []) r.2 ∙ ap (λ (n : ℕ). Some (n, r.1)) e; more = m.0; others = m.1; sum = m.2 }

no_list : (literal : ℕ) (rest : List ℕ) → literal ∷ rest ≡ [] → ⊥
no_list literal rest is = cc

no_pair : (pair : ℕ × Layout) → Some pair ≡ None → ⊥
no_pair pair is = cc

-- a literal that leads on names a part
pub part_there : (program : Program) (whole literal : ℕ) (rest : List ℕ) (start : ℕ) (part : Layout) (so_far : ℕ) → Reaches program whole (literal ∷ rest) start part so_far
    → ((layout : Layout) → program.layout whole ≡ Some layout → part_along layout (literal ∷ []) ≡ None) → ⊥
part_there program whole literal rest start part so_far (leads layout further known along sum) answer =
    let s = step_of layout literal rest further part along in no_pair (s.place, s.next) (sym s.one ∙ answer layout known)
part_there program whole literal rest start part so_far (there none is) answer = no_list literal rest none

-- a component has no parts
scalar_rest : (next : Layout) (rest : List ℕ) (more : ℕ) (part : Layout) → (next ≡ OneTruth) ⊎ (next ≡ OneWord) → part_along next rest ≡ Some (more, part) → (rest ≡ []) × (more ≡ 0)
scalar_rest next rest more part (inl is) along = truth rest more part (ap (λ (l : Layout). part_along l rest) (sym is) ∙ along)
  where
    truth : (rest : List ℕ) (more : ℕ) (part : Layout) → part_along OneTruth rest ≡ Some (more, part) → (rest ≡ []) × (more ≡ 0)
    truth [] more part along = (refl, sym (same_pair 0 more OneTruth part along).0)
    truth (literal ∷ rest) more part along = cc
scalar_rest next rest more part (inr is) along = word rest more part (ap (λ (l : Layout). part_along l rest) (sym is) ∙ along)
  where
    word : (rest : List ℕ) (more : ℕ) (part : Layout) → part_along OneWord rest ≡ Some (more, part) → (rest ≡ []) × (more ≡ 0)
    word [] more part along = (refl, sym (same_pair 0 more OneWord part along).0)
    word (literal ∷ rest) more part along = cc

-- a step along a literal
pub part_next : (program : Program) (whole literal : ℕ) (rest : List ℕ) (start : ℕ) (part : Layout) (so_far : ℕ) (answer : Part) (next : ℕ) → start < 2 ^ 64 → next ≡ (so_far + answer.start) % 2 ^ 64 → Reaches program whole (literal ∷ rest) start part so_far
    → ((layout : Layout) → program.layout whole ≡ Some layout → AnswersPart program layout literal (Some answer)) → Reaches program answer.ty rest start part next
part_next program whole literal rest start part so_far answer next less is (there none at) answers = absurd (no_list literal rest none)
part_next program whole literal rest start part so_far answer next less is (leads layout further known along sum) answers =
    let s = step_of layout literal rest further part along in
    let a = answers layout known in
    let p = same_pair s.place answer.start s.next a.0 (sym s.one ∙ a.1) in
    let s_sum = s.sum in
    let plain : next ≡ so_far + answer.start = is ∙ small (so_far + answer.start) (let same_place = p.0 in omega (arith, less, sum, s_sum, same_place)) in
    by_type s.next s.more (subst (HasPartType program answer.ty) (sym p.1) a.2) s.others (let same_place = p.0 in omega (arith, plain, sum, s_sum, same_place))
  where
    small : (n : ℕ) → n < 2 ^ 64 → n % 2 ^ 64 ≡ n
    small n less = omega (arith, less)

    by_type : (layout : Layout) (more : ℕ) → HasPartType program answer.ty layout → part_along layout rest ≡ Some (more, part) → next + more ≡ start → Reaches program answer.ty rest start part next
    by_type layout more (inl known) along sum = leads layout more known along sum
    by_type layout more (inr (none, scalar)) along sum =
        let e = scalar_rest layout rest more part scalar along in there e.0 (let zero = e.1 in omega (arith, sum, zero))

-- at the end the part is reached
pub part_end : (program : Program) (whole : ℕ) (rest : List ℕ) (start : ℕ) (part : Layout) (so_far : ℕ) → Reaches program whole rest start part so_far → rest ≡ [] → so_far ≡ start
part_end program whole rest start part so_far (leads layout further known along sum) none =
    let e : (ℕ → (0 ≡ further)) = λ _. (same_pair 0 further layout part (ap (part_along layout) (sym none) ∙ along)).0 in let z = e 0 in omega (arith, sum, z)
part_end program whole rest start part so_far (there none at) is = at
