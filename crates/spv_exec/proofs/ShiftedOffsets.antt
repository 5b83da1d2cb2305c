-- Offsets of a block's words, as loops add them.
use Rattle.std.proofs.Common.{◌≡◌, ℕ, zero, suc, ◌+◌, ◌*◌, ◌<◌, ◌≤◌, List, [], ◌∷◌, ◌++◌, length, map, drop, get_or, refl, ap, sym, ◌∙◌, arith, add_assoc}
use Rattle.std.specs.Prelude.{slice_index}
use Rattle.std.specs.List.{range_with_len, flat_map}
use Rattle.std.specs.Option.{unwrap_or}
use Rattle.std.proofs.lemmas.List.{map-append, append_assoc, append-nil, at_drop_more, at_drop_all}
use Rattle.std.proofs.lemmas.List.FromFn.{map-range_with_len_more}
use Rattle.std.proofs.lemmas.Grind.{flat_map-append}
use Rattle.valid_model.specs.declared.meaning.Meaning.{Meaning}
use Rattle.stage_model.specs.Program.{Program, component_offsets, member_offsets, members_offsets, shifted}
use Rattle.spv_exec.specs.BlockOffsets.{element_offsets}

pub range_more : (a n : ℕ) → range_with_len a (n + 1) ≡ range_with_len a n ++ (a + n) ∷ []
range_more a n = ap (range_with_len a) (next n) ∙ by_count a n
  where
    next : (n : ℕ) → n + 1 ≡ suc n
    next n = omega arith

    by_count : (a n : ℕ) → range_with_len a (suc n) ≡ range_with_len a n ++ (a + n) ∷ []
    by_count a zero = ap (λ (x : ℕ). x ∷ []) (omega arith)
    by_count a (suc n) = ap (λ (xs : List ℕ). a ∷ xs) (by_count (a + 1) n ∙ ap (λ (x : ℕ). range_with_len (a + 1) n ++ x ∷ []) (omega arith))

-- ---- components of a vector

pub one_more : (xs ys zs : List ℕ) (x : ℕ) → ys ≡ zs ++ x ∷ [] → (xs ++ zs) ++ x ∷ [] ≡ xs ++ ys
one_more xs ys zs x is = append_assoc xs zs (x ∷ []) ∙ ap (λ (l : List ℕ). xs ++ l) (sym is)

pub components_more : (by count : ℕ) → shifted by (map (λ i. 4 * i) (range_with_len 0 (count + 1))) ≡ shifted by (map (λ i. 4 * i) (range_with_len 0 count)) ++ (by + 4 * count) ∷ []
components_more by count =
    ap (shifted by) (map-range_with_len_more (λ (i : ℕ). 4 * i) 0 count count (omega arith))
    ∙ map-append (λ (offset : ℕ). by + offset) (map (λ (i : ℕ). 4 * i) (range_with_len 0 count)) ((4 * count) ∷ [])

-- ---- elements of an array

shifted_twice : (a b : ℕ) (xs : List ℕ) → shifted a (shifted b xs) ≡ shifted (a + b) xs
shifted_twice a b [] = refl
shifted_twice a b (x ∷ xs) = ap (λ (n : ℕ). n ∷ shifted a (shifted b xs)) (sym (add_assoc a b x)) ∙ ap (λ (l : List ℕ). (a + b + x) ∷ l) (shifted_twice a b xs)

abbrev element_at : Meaning → ℕ → ℕ → List ℕ
element_at element stride i = shifted (i * stride) (component_offsets element)

pub elements_more : (element : Meaning) (stride by count : ℕ)
    → shifted by (element_offsets element stride (count + 1)) ≡ shifted by (element_offsets element stride count) ++ shifted (by + count * stride) (component_offsets element)
elements_more element stride by count =
    ap (λ (l : List ℕ). shifted by (flat_map (element_at element stride) l)) (range_more 0 count ∙ ap (λ (n : ℕ). range_with_len 0 count ++ n ∷ []) (zero_left count))
    ∙ ap (shifted by) (flat_map-append (element_at element stride) (range_with_len 0 count) (count ∷ []))
    ∙ map-append (λ (offset : ℕ). by + offset) (flat_map (element_at element stride) (range_with_len 0 count)) (element_at element stride count ++ [])
    ∙ ap (λ (l : List ℕ). shifted by (element_offsets element stride count) ++ shifted by l) (append-nil (element_at element stride count))
    ∙ ap (λ (l : List ℕ). shifted by (element_offsets element stride count) ++ l) (shifted_twice by (count * stride) (component_offsets element))
  where
    zero_left : (n : ℕ) → 0 + n ≡ n
    zero_left n = omega arith

pub list_more : (xs ys zs more : List ℕ) → ys ≡ zs ++ more → (xs ++ zs) ++ more ≡ xs ++ ys
list_more xs ys zs more is = append_assoc xs zs more ∙ ap (λ (l : List ℕ). xs ++ l) (sym is)

-- ---- members of a structure

-- the offsets so far, and those of the members that are left, are those of all members
abbrev pub Joined : Program → (block : ℕ) → (members : List ℕ) → ℕ → List ℕ → Type 0
Joined program block members member offsets = offsets ++ members_offsets program block member (drop member members) ≡ members_offsets program block 0 members

pub joined_more : (program : Program) (block : ℕ) (members : List ℕ) (member by type : ℕ) (offsets new : List ℕ) → member < length members → type ≡ get_or members member 0 → by ≡ unwrap_or (program.offset block member) 0
    → new ≡ offsets ++ shifted by (member_offsets program type (program.meaning type)) → Joined program block members member offsets → Joined program block members (member + 1) new
joined_more program block members member by type offsets new within is at adds before =
    let here : ℕ → ℕ → List ℕ = λ b t. shifted b (member_offsets program t (program.meaning t)) in
    let rest = members_offsets program block (member + 1) (drop (member + 1) members) in
    ap (λ (l : List ℕ). l ++ rest) adds ∙ append_assoc offsets (here by type) rest
    ∙ ap (λ (b : ℕ). offsets ++ (here b type ++ rest)) at
    ∙ ap (λ (t : ℕ). offsets ++ (here (unwrap_or (program.offset block member) 0) t ++ rest)) is
    ∙ sym (at_drop_more (λ (l : List ℕ). offsets ++ members_offsets program block member l) members member 0 within)
    ∙ before

pub joined_all : (program : Program) (block : ℕ) (members : List ℕ) (member : ℕ) (offsets : List ℕ) → length members ≤ member → Joined program block members member offsets → offsets ≡ members_offsets program block 0 members
joined_all program block members member offsets past joined =
    sym (append-nil offsets) ∙ sym (at_drop_all (λ (l : List ℕ). offsets ++ members_offsets program block member l) members member past) ∙ joined

-- ---- steps of the loops

pub components_step : (by i x : ℕ) (old now new : List ℕ) → new ≡ now ++ x ∷ [] → x ≡ by + 4 * i → now ≡ old ++ shifted by (map (λ i. 4 * i) (range_with_len 0 i)) → new ≡ old ++ shifted by (map (λ i. 4 * i) (range_with_len 0 (i + 1)))
components_step by i x old now new adds is before =
    adds ∙ ap (λ (n : ℕ). now ++ n ∷ []) is ∙ ap (λ (l : List ℕ). l ++ (by + 4 * i) ∷ []) before ∙ one_more old _ _ (by + 4 * i) (components_more by i)

pub elements_step : (element : Meaning) (stride by i x : ℕ) (old now new : List ℕ) → new ≡ now ++ shifted x (component_offsets element) → x ≡ by + i * stride → now ≡ old ++ shifted by (element_offsets element stride i)
    → new ≡ old ++ shifted by (element_offsets element stride (i + 1))
elements_step element stride by i x old now new adds is before =
    adds ∙ ap (λ (n : ℕ). now ++ shifted n (component_offsets element)) is ∙ ap (λ (l : List ℕ). l ++ shifted (by + i * stride) (component_offsets element)) before
    ∙ list_more old _ _ (shifted (by + i * stride) (component_offsets element)) (elements_more element stride by i)

pub same_place : (a b c by i stride : ℕ) → a ≡ by → b ≡ i → c ≡ stride → a + b * c ≡ by + i * stride
same_place a b c by i stride is at apart = ap (λ (n : ℕ). n + b * c) is ∙ ap (λ (n : ℕ). by + n * c) at ∙ ap (λ (n : ℕ). by + i * n) apart
