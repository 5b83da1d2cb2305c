-- Operands that are passed from the front, one by one.
use Rattle.std.proofs.Common.{◌≡◌, ℕ, Bool, true, false, cond, List, [], ◌∷◌, ◌++◌, length, take, drop, replicate, Option, None, Some, is_some, refl, ap, sym, subst, ◌∙◌, arith}
use Rattle.std.specs.Prelude.{MatchOption, slice_get}
use Rattle.std.specs.Option.{option_map}
use Rattle.spirv_model.specs.declared.table.Operand.{Operand}
use Rattle.spirv_model.specs.declared.table.Operand.TheVariants.{IdResultType, IdResult, IdRef}
use Rattle.spirv_model.specs.declared.table.Rest.{Rest}
use Rattle.spirv_model.specs.declared.table.Operands.{Operands}
use Rattle.spirv_model.specs.Operands.{operand_words, kinds_from, listed_of, is_id}
use Rattle.spv_words.specs.Ids.{ids_left}

-- what stands behind the last listed operand says nothing
kinds-longer : (xs : List (Option Operand)) (rest : Rest) (words : List ℕ) → kinds_from (xs ++ (None ∷ [])) rest words ≡ kinds_from xs rest words
kinds-longer [] rest words = refl
kinds-longer (None ∷ xs) rest words = refl
kinds-longer (Some operand ∷ xs) rest words =
    elim (operand_words operand words)
    as (λ o. elim o [ None ↦ None | Some n ↦ option_map (λ kinds. replicate n operand ++ kinds) (kinds_from (xs ++ (None ∷ [])) rest (drop n words)) ]
    ≡ elim o [ None ↦ None | Some n ↦ option_map (λ kinds. replicate n operand ++ kinds) (kinds_from xs rest (drop n words)) ])
    [ None ↦ refl | Some n ↦ ap (λ o. option_map (λ kinds. replicate n operand ++ kinds) o) (kinds-longer xs rest (drop n words)) ]

still-some : {A B : Type 0} (f : A → B) (o : Option A) → is_some (option_map f o) ≡ is_some o
still-some f None = refl
still-some f (Some x) = refl

kinds-step : (xs ys : List (Option Operand)) (rest : Rest) (words : List ℕ) (operand : Operand) (count : Option ℕ) → Some operand ∷ ys ≡ xs ++ (None ∷ [])
    → operand_words operand words ≡ count
    → kinds_from xs rest words ≡ elim count [ None ↦ None | Some n ↦ option_map (λ kinds. replicate n operand ++ kinds) (kinds_from ys rest (drop n words)) ]
kinds-step xs ys rest words operand count front is =
    sym (kinds-longer xs rest words) ∙ ap (λ zs. kinds_from zs rest words) (sym front)
    ∙ ap (λ o. elim o [ None ↦ None | Some n ↦ option_map (λ kinds. replicate n operand ++ kinds) (kinds_from ys rest (drop n words)) ]) is

-- the operands without the first listed one
abbrev pub IsAfter : Operands → Operands → Operand → Type 0
IsAfter before after operand = (before.listed.0 ≡ Some operand) × (before.listed.0 ∷ listed_of after ≡ listed_of before ++ (None ∷ [])) × (after.rest ≡ before.rest)

kinds-after : (before after : Operands) (operand : Operand) (words : List ℕ) (count : Option ℕ) → IsAfter before after operand → operand_words operand words ≡ count
    → kinds_from (listed_of before) before.rest words
    ≡ elim count [ None ↦ None | Some n ↦ option_map (λ kinds. replicate n operand ++ kinds) (kinds_from (listed_of after) after.rest (drop n words)) ]
kinds-after before after operand words count (first, front, rest) is =
    subst (λ (r : Rest). kinds_from (listed_of before) before.rest words
    ≡ elim count [ None ↦ None | Some n ↦ option_map (λ kinds. replicate n operand ++ kinds) (kinds_from (listed_of after) r (drop n words)) ])
    (sym rest) (kinds-step (listed_of before) (listed_of after) before.rest words operand count (ap (λ o. o ∷ listed_of after) (sym first) ∙ front) is)

pub fit-step : (before after : Operands) (operand : Operand) (words left : List ℕ) (n : ℕ) (whole : Bool)
    → is_some (kinds_from (listed_of before) before.rest words) ≡ whole → IsAfter before after operand → operand_words operand words ≡ Some n → left ≡ drop n words
    → is_some (kinds_from (listed_of after) after.rest left) ≡ whole
fit-step before after operand words left n whole same next is left_is =
    rw left_is
    (sym (still-some _ (kinds_from (listed_of after) after.rest (drop n words))) ∙ ap (λ o. is_some o) (sym (kinds-after before after operand words (Some n) next is)) ∙ same)

-- the same of the ids that are left
ids-longer : (xs : List (Option Operand)) (rest : Rest) (words : List ℕ) → ids_left (xs ++ (None ∷ [])) rest words ≡ ids_left xs rest words
ids-longer [] rest words = refl
ids-longer (None ∷ xs) rest words = refl
ids-longer (Some operand ∷ xs) rest words =
    elim (operand_words operand words)
    as (λ o. elim o [ None ↦ [] | Some n ↦ cond (is_id operand) (take n words) [] ++ ids_left (xs ++ (None ∷ [])) rest (drop n words) ]
    ≡ elim o [ None ↦ [] | Some n ↦ cond (is_id operand) (take n words) [] ++ ids_left xs rest (drop n words) ])
    [ None ↦ refl | Some n ↦ ap (λ ids. cond (is_id operand) (take n words) [] ++ ids) (ids-longer xs rest (drop n words)) ]

ids-after : (before after : Operands) (operand : Operand) (words : List ℕ) (count : Option ℕ) → IsAfter before after operand → operand_words operand words ≡ count
    → ids_left (listed_of before) before.rest words
    ≡ elim count [ None ↦ [] | Some n ↦ cond (is_id operand) (take n words) [] ++ ids_left (listed_of after) after.rest (drop n words) ]
ids-after before after operand words count (first, front, rest) is =
    let same : ids_left (listed_of before) before.rest words ≡ ids_left (Some operand ∷ listed_of after) before.rest words =
    sym (ids-longer (listed_of before) before.rest words) ∙ ap (λ zs. ids_left zs before.rest words) (sym front)
    ∙ ap (λ o. ids_left (o ∷ listed_of after) before.rest words) first
    in
    subst (λ (r : Rest). ids_left (listed_of before) before.rest words
    ≡ elim count [ None ↦ [] | Some n ↦ cond (is_id operand) (take n words) [] ++ ids_left (listed_of after) r (drop n words) ])
    (sym rest)
    (same ∙ ap (λ o. elim o [ None ↦ [] | Some n ↦ cond (is_id operand) (take n words) [] ++ ids_left (listed_of after) before.rest (drop n words) ]) is)

-- an operand that is no id
pub ids-pass : (before after : Operands) (operand : Operand) (words left : List ℕ) (n : ℕ) (whole : List ℕ)
    → ids_left (listed_of before) before.rest words ≡ whole → IsAfter before after operand → operand_words operand words ≡ Some n → is_id operand ≡ false → left ≡ drop n words
    → ids_left (listed_of after) after.rest left ≡ whole
ids-pass before after operand words left n whole same next is other left_is =
    let step : ids_left (listed_of before) before.rest words ≡ cond (is_id operand) (take n words) [] ++ ids_left (listed_of after) after.rest (drop n words) =
    ids-after before after operand words (Some n) next is
    in
    ap (λ ws. ids_left (listed_of after) after.rest ws) left_is
    ∙ ap (λ b. cond b (take n words) [] ++ ids_left (listed_of after) after.rest (drop n words)) (sym other) ∙ sym step ∙ same

-- one that is
ids-meet : (before after : Operands) (operand : Operand) (words left own : List ℕ) (n : ℕ) (whole : List ℕ)
    → ids_left (listed_of before) before.rest words ≡ whole → IsAfter before after operand → operand_words operand words ≡ Some n → is_id operand ≡ true → left ≡ drop n words
    → own ≡ take n words → own ++ ids_left (listed_of after) after.rest left ≡ whole
ids-meet before after operand words left own n whole same next is other left_is own_is =
    let step : ids_left (listed_of before) before.rest words ≡ cond (is_id operand) (take n words) [] ++ ids_left (listed_of after) after.rest (drop n words) =
    ids-after before after operand words (Some n) next is
    in
    ap (λ ws. own ++ ids_left (listed_of after) after.rest ws) left_is ∙ ap (λ ws. ws ++ ids_left (listed_of after) after.rest (drop n words)) own_is
    ∙ ap (λ b. cond b (take n words) [] ++ ids_left (listed_of after) after.rest (drop n words)) (sym other) ∙ sym step ∙ same

-- an id is one word
one-word : (operand : Operand) (words : List ℕ) (n : ℕ) → is_id operand ≡ true → operand_words operand words ≡ Some n → n ≡ 1
one-word IdResultType [] n id is = cc
one-word IdResultType (word ∷ words) n id is = cc
one-word IdResult [] n id is = cc
one-word IdResult (word ∷ words) n id is = cc
one-word IdRef [] n id is = cc
one-word IdRef (word ∷ words) n id is = cc
one-word operand words n id is = cc

first-met : (own old new : List ℕ) (result : Option ℕ) → result ≡ slice_get own 0 → own ++ new ≡ old → length own ≡ 1
    → MatchOption result ((old ≡ []) × (new ≡ [])) (λ id. old ≡ id ∷ new)
first-met [] old new result is whole one = absurd (omega (arith, one))
first-met (word ∷ more ∷ own) old new result is whole one = absurd (omega (arith, one))
first-met (word ∷ []) old new result is whole one = subst (λ (r : Option ℕ). MatchOption r ((old ≡ []) × (new ≡ [])) (λ id. old ≡ id ∷ new)) (sym is) (sym whole)

pub id-met : (before after : Operands) (operand : Operand) (words left own : List ℕ) (n : ℕ) (whole : List ℕ) (result : Option ℕ)
    → ids_left (listed_of before) before.rest words ≡ whole → IsAfter before after operand → operand_words operand words ≡ Some n → is_id operand ≡ true → left ≡ drop n words
    → own ≡ take n words → length own ≡ n → result ≡ slice_get own 0
    → MatchOption result ((whole ≡ []) × (ids_left (listed_of after) after.rest left ≡ [])) (λ id. whole ≡ id ∷ ids_left (listed_of after) after.rest left)
id-met before after operand words left own n whole result same next is id left_is own_is long first =
    first-met own whole (ids_left (listed_of after) after.rest left) result first
    (ids-meet before after operand words left own n whole same next is id left_is own_is) (long ∙ one-word operand words n id is)
