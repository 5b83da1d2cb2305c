-- Where a listing joins, cutting it cuts.
use Rattle.std.proofs.Common.{◌≡◌, ℕ, zero, suc, ◌<◌, ◌≤◌, ◌^◌, Bool, true, false, ◌&&◌, cond, nat_lt, ◌==◌, List, [], ◌∷◌, ◌++◌, length, drop, map, codes, Option, None, Some, refl, ap, subst, sym, ◌∙◌, arith, append_assoc, append-nil}
use Rattle.std.specs.Prelude.{IfSome, slice_index}
use Rattle.std.specs.List.{All, flat_map, list_all, slice_split}
use Rattle.std.proofs.lemmas.Bool.Decides.{nat_tests}
use Rattle.std.proofs.lemmas.List.Splits.{length-slice_split, slice_split_at, slice_split_none}
use Rattle.basics.proofs.Bools.{first_of_both, second_of_both}
use Rattle.spirv_model.specs.declared.module.Inst.{Inst}
use Rattle.listing_model.specs.Listing.{after_space, id_text, inst_line, inst_text, result_text}
use Rattle.listing_model.specs.Spelling.{fields_of, first_number, named_fields}
use Rattle.listing_model.specs.Assembly.{Line, lines_in, lines_of}
use Rattle.listing_model.proofs.Digits.{above, both_above, id_above, number_of_decimal}

greater : (k c b : ℕ) → c ≤ k → nat_lt k b ≡ true → (b == c) ≡ false
greater k c b small h =
    let l : k < b = grind (arith, nat_tests, h) in grind (arith, nat_tests, l, small)

not_at : (k c : ℕ) (xs : List ℕ) → c ≤ k → above k xs ≡ true → All (λ x. (x == c) ≡ false) xs
not_at k c [] small h i d lt = absurd (omega (arith, lt))
not_at k c (x ∷ xs) small h zero d lt = greater k c x small (first_of_both (nat_lt k x) (above k xs) h)
not_at k c (x ∷ xs) small h (suc i) d lt = not_at k c xs small (second_of_both (nat_lt k x) (above k xs) h) i d (omega (arith, lt))

same_char : (c : ℕ) → (c == c) ≡ true
same_char c = grind (arith, nat_tests)

pub part_then : (k c : ℕ) (xs ys : List ℕ) → c ≤ k → above k xs ≡ true → slice_split (λ b. b == c) (xs ++ c ∷ ys) ≡ xs ∷ slice_split (λ b. b == c) ys
part_then k c xs ys small h = slice_split_at (λ b. b == c) xs c ys (not_at k c xs small h) (same_char c)

part_last : (k c : ℕ) (xs : List ℕ) → c ≤ k → above k xs ≡ true → slice_split (λ b. b == c) xs ≡ xs ∷ []
part_last k c xs small h = slice_split_none (λ b. b == c) xs (not_at k c xs small h)

-- no field has a space or a line feed
abbrev pub are_fields : List (List ℕ) → Bool
are_fields fields = list_all (above 32) fields

spaced_fields : (first : List ℕ) (fields : List (List ℕ)) → above 32 first ≡ true → are_fields fields ≡ true
    → fields_of (first ++ flat_map after_space fields) ≡ first ∷ fields
spaced_fields first [] h all = ap fields_of (append-nil first) ∙ part_last 32 32 first (omega arith) h
spaced_fields first (f ∷ fields) h all =
    part_then 32 32 first (f ++ flat_map after_space fields) (omega arith) h
    ∙ ap (λ (fs : List (List ℕ)). first ∷ fs) (spaced_fields f fields (first_of_both (above 32 f) (are_fields fields) all) (second_of_both (above 32 f) (are_fields fields) all))

-- the fields of a line with this result, name and other fields
pub record Spoken (result : Option ℕ) (name : List ℕ) (others fields : List (List ℕ)) : Type 0 where
  pub named : named_fields fields ≡ name ∷ others
  pub number : IfSome result (λ id. first_number fields ≡ id)

pub line_spoken : (result : Option ℕ) (name : List ℕ) (others : List (List ℕ)) → IfSome result (λ id. id < 2 ^ 32) → above 32 name ≡ true
    → (slice_index name 0 == 37) ≡ false → are_fields others ≡ true
    → Spoken result name others (fields_of (result_text result ++ name ++ flat_map after_space others))
line_spoken None name others small h letter all =
    subst (Spoken None name others) (sym (spaced_fields name others h all))
    (record { named = ap (λ (b : Bool). cond b (drop 1 others) (name ∷ others)) letter; number = tt })
line_spoken (Some id) name others small h letter all =
    let rest = name ++ flat_map after_space others in
    let cut : fields_of (id_text id ++ codes " = " ++ name ++ flat_map after_space others) ≡ id_text id ∷ (61 ∷ []) ∷ name ∷ others =
    ap fields_of (append_assoc (id_text id ++ codes " = ") name (flat_map after_space others) ∙ append_assoc (id_text id) (codes " = ") rest)
    ∙ part_then 32 32 (id_text id) (61 ∷ 32 ∷ rest) (omega arith) (id_above id small)
    ∙ ap (λ (fs : List (List ℕ)). id_text id ∷ fs) (part_then 32 32 (61 ∷ []) rest (omega arith) refl)
    ∙ ap (λ (fs : List (List ℕ)). id_text id ∷ (61 ∷ []) ∷ fs) (spaced_fields name others h all) in
    subst (Spoken (Some id) name others) (sym cut) (record { named = refl; number = number_of_decimal id small })

-- ---- lines

at_least : (b : ℕ) → nat_lt 32 b ≡ true → nat_lt 10 b ≡ true
at_least b h = let l : 32 < b = grind (arith, nat_tests, h) in grind (arith, nat_tests, l)

pub lower : (xs : List ℕ) → above 32 xs ≡ true → above 10 xs ≡ true
lower [] h = refl
lower (x ∷ xs) h = ap (λ (b : Bool). b && above 10 xs) (at_least x (first_of_both (nat_lt 32 x) (above 32 xs) h)) ∙ lower xs (second_of_both (nat_lt 32 x) (above 32 xs) h)

spaced_above : (fields : List (List ℕ)) → are_fields fields ≡ true → above 10 (flat_map after_space fields) ≡ true
spaced_above [] all = refl
spaced_above (f ∷ fields) all =
    both_above 10 f (flat_map after_space fields) (lower f (first_of_both (above 32 f) (are_fields fields) all)) (spaced_above fields (second_of_both (above 32 f) (are_fields fields) all))

result_above : (result : Option ℕ) → IfSome result (λ id. id < 2 ^ 32) → above 10 (result_text result) ≡ true
result_above None small = refl
result_above (Some id) small = both_above 10 (id_text id) (codes " = ") (lower (id_text id) (id_above id small)) refl

pub line_above : (result : Option ℕ) (name : List ℕ) (others : List (List ℕ)) → IfSome result (λ id. id < 2 ^ 32) → above 32 name ≡ true
    → are_fields others ≡ true → above 10 (result_text result ++ name ++ flat_map after_space others) ≡ true
line_above result name others small h all =
    both_above 10 (result_text result ++ name) (flat_map after_space others)
    (both_above 10 (result_text result) name (result_above result small) (lower name h)) (spaced_above others all)

line_then : (text : List ℕ) (parts : List (List ℕ)) → 1 ≤ length parts → lines_in (text ∷ parts) ≡ record { text = text; ended = true } ∷ lines_in parts
line_then text [] h = absurd (omega (arith, h))
line_then text (part ∷ parts) h = refl

-- a line before other text
pub first_line : (text rest : List ℕ) → above 10 text ≡ true → lines_of (text ++ 10 ∷ rest) ≡ record { text = text; ended = true } ∷ lines_of rest
first_line text rest h =
    ap lines_in (part_then 10 10 text rest (omega arith) h)
    ∙ line_then text (slice_split (λ b. b == 10) rest) (omega (arith, length-slice_split (λ b. b == 10) rest))

abbrev pub line_of : Inst → Line
line_of inst = record { text = inst_text inst; ended = true }

pub inst_lines : (insts : List Inst) → list_all (λ inst. above 10 (inst_text inst)) insts ≡ true → lines_of (flat_map inst_line insts) ≡ map line_of insts
inst_lines [] all = refl
inst_lines (inst ∷ insts) all =
    let clean : (i : Inst) → Bool = λ i. above 10 (inst_text i) in
    ap lines_of (append_assoc (inst_text inst) (10 ∷ []) (flat_map inst_line insts))
    ∙ first_line (inst_text inst) (flat_map inst_line insts) (first_of_both (clean inst) (list_all clean insts) all)
    ∙ ap (λ (ls : List Line). line_of inst ∷ ls) (inst_lines insts (second_of_both (clean inst) (list_all clean insts) all))
