-- Steps along indices from a place in the memory.
use Rattle.std.proofs.Common.{◌≡◌, ℕ, ◌+◌, ◌<◌, ◌^◌, ◌%◌, List, [], ◌∷◌, refl, ap, sym, ◌∙◌, subst, arith, inl, inr, Option, None, Some}
use Rattle.std.specs.Prelude.{slice_index}
use Rattle.std.specs.Option.{option_and_then}
use Rattle.std.proofs.Math.Nat.{mod-eq_of_lt}
use Rattle.valid_model.specs.Definitions.{definition}
use Rattle.stage_model.specs.Value.{Layout, OneTruth, OneWord, Several, part_at, part_along}
use Rattle.stage_model.specs.Program.{Program}
use Rattle.frame_model.specs.Along.{word_along, ShowsIndex, TakesIndices}
use Rattle.frame_model.specs.Frame.{OUTSIDE, frame_place}
use Rattle.frame_model.proofs.LayoutParts.{further, along_more, lies_along}
use Rattle.frame_model.proofs.MemoryAccesses.{further_word}
use Rattle.spv_exec.specs.Chains.{ComesTo}
use Rattle.spv_exec.specs.ModuleFrames.{AnswersPart, HasPartType}
use Rattle.spv_exec.specs.declared.module_frame.Part.{Part}

-- what is told of the part of a type with an index
abbrev pub PartTold : Program → ℕ → ℕ → Option Part → Type 0
PartTold program type index found = (layout : Layout) → program.layout type ≡ Some layout → AnswersPart program layout index found

-- what is read of an id in the frame
abbrev pub WordTold : Program → List ℕ → ℕ → ℕ → Type 0
WordTold program frame id word = (place : ℕ) → definition program.insts id ≡ Some place → word ≡ slice_index frame (frame_place program place)

no_truth : (layout : Layout) (index : ℕ) (indices : List ℕ) → layout ≡ OneTruth → TakesIndices layout (index ∷ indices) → ⊥
no_truth layout index indices is takes = subst (λ (l : Layout). TakesIndices l (index ∷ indices)) is takes

no_word : (layout : Layout) (index : ℕ) (indices : List ℕ) → layout ≡ OneWord → TakesIndices layout (index ∷ indices) → ⊥
no_word layout index indices is takes = subst (λ (l : Layout). TakesIndices l (index ∷ indices)) is takes

-- what takes an index has a type that is told
has_layout : (program : Program) (type : ℕ) (layout : Layout) (index : ℕ) (indices : List ℕ) → HasPartType program type layout → TakesIndices layout (index ∷ indices) → program.layout type ≡ Some layout
has_layout program type layout index indices (inl known) takes = known
has_layout program type layout index indices (inr (none, scalar)) takes = elim scalar [
  | inl truth ↦ absurd (no_truth layout index indices truth takes)
  | inr word ↦ absurd (no_word layout index indices word takes)
]

-- ---- no part

none_found : (indices : List ℕ) (found : Option (ℕ × Layout)) → option_and_then (λ (place, part). further place (part_along part [])) found ≡ None → option_and_then (λ (place, part). further place (part_along part indices)) found ≡ None
none_found indices None is = refl
none_found indices (Some (place, part)) is = cc

none_along : (layout : Layout) (index : ℕ) (indices : List ℕ) → part_along layout (index ∷ []) ≡ None → part_along layout (index ∷ indices) ≡ None
none_along OneTruth index indices is = refl
none_along OneWord index indices is = refl
none_along (Several parts) index indices is = none_found indices (part_at parts index) is

index_is : (program : Program) (frame : List ℕ) (id word index : ℕ) → WordTold program frame id word → ShowsIndex program frame id index → word ≡ index
index_is program frame id word index told shows = told shows.place shows.defined ∙ shows.is

pub comes_outside : (program : Program) (frame : List ℕ) (at type id : ℕ) (more : List ℕ) (word : ℕ) → WordTold program frame id word → PartTold program type word None → ComesTo program frame at type (id ∷ more) OUTSIDE
comes_outside program frame at type id more word told none layout [] a = absurd a.shows
comes_outside program frame at type id more word told none layout (index ∷ indices) a =
    let known = has_layout program type layout index indices a.typed a.takes in
    let is = index_is program frame id word index told a.shows.0 in
    ap (word_along at) (sym (none_along layout index indices (ap (λ (n : ℕ). part_along layout (n ∷ [])) (sym is) ∙ none layout known)))

-- ---- a part

-- what is left of the indices is taken by the part
takes_rest : (layout : Layout) (index : ℕ) (indices : List ℕ) (place : ℕ) (part : Layout) → part_along layout (index ∷ []) ≡ Some (place, part) → TakesIndices layout (index ∷ indices) → TakesIndices part indices
takes_rest OneTruth index indices place part found takes = absurd takes
takes_rest OneWord index indices place part found takes = absurd takes
takes_rest (Several parts) index indices place part found takes = takes place part found

pub comes_further : (program : Program) (frame : List ℕ) (at type id : ℕ) (more : List ℕ) (word start next own result : ℕ) → WordTold program frame id word
    → ((layout : Layout) → program.layout type ≡ Some layout → (part : Layout) × (part_along layout (word ∷ []) ≡ Some (start, part)) × HasPartType program own part) → next ≡ (at + start) % 2 ^ 32
    → ComesTo program frame next own more result → ComesTo program frame at type (id ∷ more) result
comes_further program frame at type id more word start next own result told answers is rest layout [] a = absurd a.shows
comes_further program frame at type id more word start next own result told answers is rest layout (index ∷ indices) a =
    let known = has_layout program type layout index indices a.typed a.takes in
    let same = index_is program frame id word index told a.shows.0 in
    let p = answers layout known in
    let found : part_along layout (index ∷ []) ≡ Some (start, p.0) = ap (λ (n : ℕ). part_along layout (n ∷ [])) (sym same) ∙ p.1 in
    let lies = lies_along (index ∷ []) layout start p.0 found in
    let inner = lies.fits in let outer = a.fits in
    let below : at + start < 2 ^ 32 = omega (arith, inner, outer) in
    let small : next ≡ at + start = is ∙ mod-eq_of_lt below in
    let onward = rest p.0 indices (record { typed = p.2; shows = a.shows.1; takes = takes_rest layout index indices start p.0 found a.takes; fits = omega (arith, small, inner, outer) }) in
    onward ∙ (ap (λ (n : ℕ). word_along n (part_along p.0 indices)) small
    ∙ (sym (further_word at start (part_along p.0 indices)) ∙ ap (word_along at) (sym (along_more (index ∷ []) indices layout start p.0 found))))

-- ---- no index left

pub comes_here : (program : Program) (frame : List ℕ) (at type : ℕ) → ComesTo program frame at type [] at
comes_here program frame at type layout [] a = omega arith
comes_here program frame at type layout (index ∷ indices) a = absurd a.shows
