-- Pointers in a frame: where the part that they point to lies in the memory, and what loads, stores and chains do there.
use Rattle.std.proofs.Common.{◌≡◌, ℕ, ◌+◌, ◌<◌, ◌≤◌, ◌^◌, ◌==◌, Bool, true, if◌then◌else◌, List, [], ◌∷◌, length, refl, ap, sym, ◌∙◌, arith, Option, None, Some}
use Rattle.std.specs.Option.{option_map, option_and_then, unwrap_or}
use Rattle.std.proofs.lemmas.Bool.Decides.{nat_tests}
use Rattle.spirv_model.specs.declared.module.Inst.{Inst}
use Rattle.spirv_model.specs.declared.module.Words.{Words}
use Rattle.spirv_model.specs.declared.op.TheConstants.{VARIABLE}
use Rattle.spirv_model.specs.Operands.{result}
use Rattle.valid_model.specs.declared.meaning.Meaning.{Meaning}
use Rattle.valid_model.specs.declared.meaning.Meaning.TheVariants.{Variable, Absent}
use Rattle.valid_model.specs.Definitions.{definition, inst_at}
use Rattle.valid_model.specs.Knowledge.{meaning_in}
use Rattle.valid_model.specs.Meanings.{known_before, meaning}
use Rattle.valid_model.proofs.KnownIds.{known_by_definition, unknown_without_definition}
use Rattle.check_model.specs.Validity.{IsValidList}
use Rattle.stage_model.specs.Value.{Pointer, Outside, Layout, size_of, part_along}
use Rattle.stage_model.specs.Program.{Program, held_layout, program_of}
use Rattle.stage_model.specs.Stage.{size_in}
use Rattle.stage_model.specs.Start.{Memory}
use Rattle.stage_model.specs.Effect.{place_of}
use Rattle.typed_model.specs.Values.{PointsTo}
use Rattle.typed_model.proofs.ValidTypes.{makes_variable, defined_within}
use Rattle.frame_model.specs.Frame.{OUTSIDE, variable_words, memory_place, in_frame}
use Rattle.frame_model.specs.Shown.{ShowsMemory}
use Rattle.frame_model.proofs.FrameLimits.{memory_few}
use Rattle.frame_model.proofs.FrameSizes.{memory_place_within}
use Rattle.frame_model.proofs.GivenResults.{own_result}
use Rattle.frame_model.proofs.LayoutParts.{lies_along}
use Rattle.typed_model.proofs.TypedSteps.{gives_at}

same : (a b : ℕ) → a == b ≡ true → a ≡ b
same a b is = grind (arith, nat_tests)

same_some : {A : Type 0} (x y : A) → Some x ≡ Some y → x ≡ y
same_some x y is = cc

-- ---- variables

-- where a variable is made, and how many words it has
pub record VariableLies (program : Program) (variable : ℕ) (whole : Layout) : Type 0 where
  pub place : ℕ
  pub defined : definition program.insts variable ≡ Some place
  pub within : place < length program.insts
  pub size : variable_words program (inst_at program.insts place) ≡ size_of whole

no_absent : (type class : ℕ) → ◌≡◌ {A = Meaning} Absent (Variable type class) → ⊥
no_absent type class is = cc

made_words : (program : Program) (inst : Inst) (id : ℕ) (whole : Layout) → inst.op == VARIABLE ≡ true → result inst ≡ Some id → held_layout program id ≡ Some whole → variable_words program inst ≡ size_of whole
unfolding variable_words
made_words program inst id whole is own holds =
    ap (λ (b : Bool). if b then size_in (elim (result inst) [ None ↦ None | Some id ↦ held_layout program id ]) else 0) is
    ∙ (ap (λ (o : Option ℕ). size_in (elim o [ None ↦ None | Some id ↦ held_layout program id ])) own ∙ ap size_in holds)

lies_by : (words : Words) (variable type class : ℕ) (whole : Layout) (at : Option ℕ) → definition words.insts variable ≡ at → meaning words.insts variable ≡ Variable type class → held_layout (program_of words.insts) variable ≡ Some whole
    → VariableLies (program_of words.insts) variable whole
unfolding program_of
lies_by words variable type class whole None at means holds = absurd (no_absent type class (sym (ap meaning_in (unknown_without_definition words.insts variable at)) ∙ means))
lies_by words variable type class whole (Some place) at means holds =
    let v = makes_variable (known_before words.insts place) (inst_at words.insts place) type class (sym (ap meaning_in (known_by_definition words.insts variable place at)) ∙ means) in
    record {
      place = place;
      defined = at;
      within = defined_within words.insts variable place at;
      size = made_words (program_of words.insts) (inst_at words.insts place) variable whole v.is (own_result variable (result (inst_at words.insts place)) (gives_at words.insts variable place at)) holds;
    }

pub variable_lies : (words : Words) (variable type class : ℕ) (whole : Layout) → (program_of words.insts).meaning variable ≡ Variable type class → held_layout (program_of words.insts) variable ≡ Some whole → VariableLies (program_of words.insts) variable whole
unfolding program_of
variable_lies words variable type class whole means holds = lies_by words variable type class whole (definition words.insts variable) refl means holds

-- ---- pointers

-- where the part begins to which indices lead
pub found_place : (program : Program) (variable : ℕ) (indices : List ℕ) (whole : Layout) → held_layout program variable ≡ Some whole → place_of program variable indices ≡ option_map (λ (place, layout). place) (part_along whole indices)
found_place program variable indices whole holds = ap (λ (o : Option Layout). option_map (λ (place, layout). place) (option_and_then (λ layout. part_along layout indices) o)) holds

-- where a pointer's part lies in its variable and in the memory
pub record PointerLies (program : Program) (variable : ℕ) (indices : List ℕ) (layout : Layout) : Type 0 where
  pub whole : Layout
  pub holds : held_layout program variable ≡ Some whole
  pub lies : VariableLies program variable whole
  pub place : ℕ
  pub found : part_along whole indices ≡ Some (place, layout)
  pub place_is : place_of program variable indices ≡ Some place
  pub fits : place + size_of layout ≤ variable_words program (inst_at program.insts lies.place)
  pub word : in_frame program (Pointer variable indices) ≡ (memory_place program lies.place + place) ∷ []

pub pointer_word : (program : Program) (variable : ℕ) (indices : List ℕ) (at place : ℕ) → definition program.insts variable ≡ Some at → place_of program variable indices ≡ Some place → in_frame program (Pointer variable indices) ≡ (memory_place program at + place) ∷ []
unfolding in_frame
pointer_word program variable indices at place defined is =
    ap (λ (o : Option ℕ). (memory_place program (unwrap_or o 0) + unwrap_or (place_of program variable indices) 0) ∷ []) defined ∙ ap (λ (o : Option ℕ). (memory_place program at + unwrap_or o 0) ∷ []) is

lies_at : (words : Words) (variable type class : ℕ) (indices : List ℕ) (whole : Layout) (place : ℕ) (layout : Layout) → (program_of words.insts).meaning variable ≡ Variable type class → held_layout (program_of words.insts) variable ≡ Some whole
    → part_along whole indices ≡ Some (place, layout) → PointerLies (program_of words.insts) variable indices layout
lies_at words variable type class indices whole place layout means holds found =
    let program = program_of words.insts in
    let lies = variable_lies words variable type class whole means holds in
    let place_is : place_of program variable indices ≡ Some place = found_place program variable indices whole holds ∙ ap (λ (o : Option (ℕ × Layout)). option_map (λ (place, layout). place) o) found in
    let part = lies_along indices whole place layout found in
    let size = lies.size in let fits = part.fits in
    record {
      whole = whole;
      holds = holds;
      lies = lies;
      place = place;
      found = found;
      place_is = place_is;
      fits = omega (arith, size, fits);
      word = pointer_word program variable indices lies.place place lies.defined place_is;
    }

pub pointer_lies : (words : Words) (class to variable : ℕ) (indices : List ℕ) (p : PointsTo (program_of words.insts) class to variable indices) → PointerLies (program_of words.insts) variable indices p.layout
pointer_lies words class to variable indices p = lies_at words variable p.held class indices p.whole p.place p.layout p.is_variable p.holds p.found

pub outside_word : (program : Program) → in_frame program Outside ≡ OUTSIDE ∷ []
unfolding in_frame
outside_word program = refl

-- its words lie in the memory, which is small
pub place_few : (words : Words) → IsValidList words → (variable : ℕ) (indices : List ℕ) (layout : Layout) (l : PointerLies (program_of words.insts) variable indices layout)
    → (memory_place (program_of words.insts) l.lies.place + l.place + size_of layout ≤ memory_place (program_of words.insts) (length words.insts)) × (memory_place (program_of words.insts) (length words.insts) ≤ 2 ^ 26)
unfolding program_of
place_few words v variable indices layout l =
    let room = memory_place_within (program_of words.insts) l.lies.place l.lies.within in
    let fits = l.fits in
    (omega (arith, room, fits), memory_few words v (length words.insts) (omega arith))

pub room_of : (words : Words) → IsValidList words → (memory : List ℕ) (held : Memory) → ShowsMemory (program_of words.insts) memory held → (variable : ℕ) (indices : List ℕ) (layout : Layout) (l : PointerLies (program_of words.insts) variable indices layout)
    → (memory_place (program_of words.insts) l.lies.place + l.place + size_of layout ≤ length memory) × (length memory ≤ 2 ^ 26)
unfolding program_of
room_of words v memory held shows variable indices layout l =
    let few = place_few words v variable indices layout l in
    let size = shows.size in let fits = few.0 in let small = few.1 in
    (omega (arith, size, fits), omega (arith, size, small))
