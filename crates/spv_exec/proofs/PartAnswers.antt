-- The parts of types of data are told as they lie.
use Rattle.std.proofs.Common.{◌≡◌, ℕ, nat_lt, if◌then◌else◌, slice_index, zero, suc, ◌+◌, ◌*◌, ◌^◌, ◌<◌, ◌≤◌, ◌&&◌, inl, inr, Bool, true, false, List, [], ◌∷◌, length, refl, ap, sym, ◌∙◌, subst, arith, Option, None, Some}
use Rattle.std.specs.Prelude.{◌⊎◌, slice_get, is_none}
use Rattle.std.specs.List.{fold}
use Rattle.std.specs.Option.{option_map}
use Rattle.std.proofs.lemmas.Bool.{ltb-true, ltb-false}
use Rattle.spirv_model.specs.declared.module.Inst.{Inst}
use Rattle.spirv_model.specs.declared.module.Words.{Words}
use Rattle.spirv_model.specs.Operands.{words_from}
use Rattle.valid_model.specs.declared.meaning.Meaning.{Meaning}
use Rattle.valid_model.specs.declared.meaning.Meaning.TheVariants.{Absent, Shape as OfShape}
use Rattle.valid_model.specs.declared.meaning.Members.{Members}
use Rattle.valid_model.specs.declared.meaning.Shape.{Shape}
use Rattle.valid_model.specs.declared.meaning.Shape.TheVariants.{Void, Bool as Truth, Int, BoolVector, IntVector, Array, Struct, Pointer, Function}
use Rattle.valid_model.specs.Definitions.{gives, definition, inst_at}
use Rattle.valid_model.specs.Knowledge.{meaning_in}
use Rattle.valid_model.specs.Meanings.{meaning}
use Rattle.valid_model.proofs.KnownIds.{unknown_without_definition}
use Rattle.check_model.specs.Validity.{IsValidList}
use Rattle.stage_model.specs.Value.{Layout, OneTruth, OneWord, Several, Layouts, size_of, repeated, part_along}
use Rattle.stage_model.specs.Program.{Program, layouts_of, layout_of_shape, layout_of, layouts_after, layouts_by, program_of}
use Rattle.stage_model.specs.Stage.{size_in}
use Rattle.typed_model.proofs.ValidTypes.{valid_types, defined_within}
use Rattle.frame_model.proofs.DeclaredStructs.{declared_struct}
use Rattle.frame_model.proofs.FrameLimits.{layout_few}
use Rattle.frame_model.proofs.KnownSizes.{repeated_size}
use Rattle.frame_model.proofs.PartPlaces.{along_one, along_none, part_of_repeated, past_repeated, part_of_members, past_members}
use Rattle.frame_model.proofs.ZeroId.{zero_without_layout}
use Rattle.spv_exec.specs.declared.module_frame.Part.{Part}
use Rattle.spv_exec.specs.ModuleFrames.{IsComponent, AnswersPart, IsStructOf, component_part, members_in, words_before, AreMemberStarts, HasStart}

-- ---- vectors

one_word : (one : Layout) → IsComponent one → size_of one ≡ 1
one_word one (inl is) = ap size_of is
one_word one (inr is) = ap size_of is

pub past_answers : (program : Program) (count index : ℕ) (one : Layout) → count ≤ index → AnswersPart program (Several (repeated count one)) index None
past_answers program count index one more = along_none (repeated count one) index (past_repeated count index one more)

component_answers : (words : Words) → IsValidList words → (count index : ℕ) (one : Layout) → IsComponent one → AnswersPart (program_of words.insts) (Several (repeated count one)) index (component_part count index)
component_answers words v count index one is = by_test words v count index one is (nat_lt index count) refl
  where
    by_test : (words : Words) → IsValidList words → (count index : ℕ) (one : Layout) → IsComponent one → (b : Bool) → nat_lt index count ≡ b → AnswersPart (program_of words.insts) (Several (repeated count one)) index (if b then Some (record { start = index; ty = 0 }) else None)
    by_test words v count index one is true test =
        let less = ltb-true index count test in
        let e : index * size_of one ≡ index = (let s = one_word one is in ap (λ (n : ℕ). index * n) s ∙ omega arith) in
        (one, along_one (repeated count one) index index one (part_of_repeated count index one less ∙ ap (λ (n : ℕ). Some (n, one)) e), inr (zero_without_layout words v, is))
    by_test words v count index one is false test = past_answers (program_of words.insts) count index one (ltb-false index count test)

-- ---- arrays

pub element_answers : (program : Program) (count index type start : ℕ) (of : Layout) → index < count → program.layout type ≡ Some of → start ≡ index * size_in (program.layout type) → AnswersPart program (Several (repeated count of)) index (Some (record { start = start; ty = type }))
element_answers program count index type start of less known is =
    let e : index * size_of of ≡ start = sym (is ∙ ap (λ (o : Option Layout). index * size_in o) known) in
    (of, along_one (repeated count of) index start of (part_of_repeated count index of less ∙ ap (λ (n : ℕ). Some (n, of)) e), inl known)

-- an array's elements have few words together
pub elements_few : (words : Words) → IsValidList words → (type element count : ℕ) → meaning words.insts type ≡ OfShape (Array element count) → count * size_in ((program_of words.insts).layout element) < 2 ^ 32
unfolding program_of
elements_few words v type element count is =
    by_layout words type count ((program_of words.insts).layout element) ((valid_types words v.sound).shaped type (Array element count) is)
  where
    by_layout : (words : Words) (type count : ℕ) (of : Option Layout) → (program_of words.insts).layout type ≡ option_map (λ of_element. Several (repeated count of_element)) of → count * size_in of < 2 ^ 32
    by_layout words type count None is = omega arith
    by_layout words type count (Some of) is =
        let few = layout_few words.insts type in
        let e : size_in ((program_of words.insts).layout type) ≡ count * size_of of = ap size_in is ∙ repeated_size count of in
        omega (arith, few, e)

-- ---- structures

slice_get_there : (members : List ℕ) (index : ℕ) → index < length members → slice_get members index ≡ Some (slice_index members index)
slice_get_there [] index less = absurd (omega (arith, less))
slice_get_there (id ∷ ids) zero less = refl
slice_get_there (id ∷ ids) (suc index) less = slice_get_there ids index (omega (arith, less))

slice_get_past : (members : List ℕ) (index : ℕ) → length members ≤ index → slice_get members index ≡ None
slice_get_past [] index more = refl
slice_get_past (id ∷ ids) zero more = absurd (omega (arith, more))
slice_get_past (id ∷ ids) (suc index) more = slice_get_past ids index (omega (arith, more))

struct_there : (words : Words) (type place : ℕ) (members : List ℕ) → definition words.insts type ≡ Some place → IsStructOf words type members → members_in (inst_at words.insts place) ≡ members
struct_there words type place members at is =
    let d = declared_struct words.insts type place (record { list = members }) at is in
    ap (λ (b : Bool). if b then words_from 1 (inst_at words.insts place) else []) d.0 ∙ sym d.1

no_absent : (shape : Shape) → ◌≡◌ {A = Meaning} Absent (OfShape shape) → ⊥
no_absent shape is = cc

pub struct_defined : (words : Words) (type : ℕ) (members : List ℕ) → IsStructOf words type members → definition words.insts type ≡ None → ⊥
struct_defined words type members is none = no_absent _ (sym (ap meaning_in (unknown_without_definition words.insts type none)) ∙ is)

pub start_there : (words : Words) (firsts starts : List ℕ) (type place index : ℕ) (members : List ℕ) → AreMemberStarts words.insts firsts starts → definition words.insts type ≡ Some place → IsStructOf words type members → index < length members → HasStart firsts starts place index
start_there words firsts starts type place index members are at is less =
    let within = defined_within words.insts type place at in
    let e : length (members_in (inst_at words.insts place)) ≡ length members = ap length (struct_there words type place members at is) in
    let w = are.within place within in
    record { first = (let c = are.count in omega (arith, c, within)); within = omega (arith, w, e, less) }

pub member_answers : (words : Words) (firsts starts : List ℕ) (type place index start id : ℕ) (members : List ℕ) (all : Layouts) → AreMemberStarts words.insts firsts starts → definition words.insts type ≡ Some place → IsStructOf words type members
    → id ≡ slice_index members index → index < length members → start ≡ slice_index starts (slice_index firsts place + index) → layouts_of (program_of words.insts).layout members ≡ Some all
    → AnswersPart (program_of words.insts) (Several all) index (Some (record { start = start; ty = id }))
member_answers words firsts starts type place index start id members all are at is there less started known =
    let own = struct_there words type place members at is in
    let within = defined_within words.insts type place at in
    let s = subst (λ (l : List ℕ). index < length l → slice_index starts (slice_index firsts place + index) ≡ words_before (program_of words.insts) l index) own (are.are place index within) in
    let p = part_of_members (program_of words.insts).layout members all index id known (slice_get_there members index less ∙ ap (λ (n : ℕ). Some n) (sym there)) in
    (p.0, along_one all index start p.0 (p.2 ∙ ap (λ (n : ℕ). Some (n, p.0)) (sym (started ∙ s less))), inl p.1)

pub no_member_answers : (program : Program) (members : List ℕ) (all : Layouts) (index : ℕ) → layouts_of program.layout members ≡ Some all → length members ≤ index → AnswersPart program (Several all) index None
no_member_answers program members all index known none = along_none all index (past_members program.layout members all index known (slice_get_past members index none))

-- ---- types

-- the part that is told of each layout of the type of this shape
abbrev pub Answers : Words → ℕ → ℕ → Option Part → Type 0
Answers words type index result = (layout : Layout) → (program_of words.insts).layout type ≡ Some layout → AnswersPart (program_of words.insts) layout index result

own_layout : (words : Words) → IsValidList words → (type : ℕ) (shape : Shape) → meaning words.insts type ≡ OfShape shape → (program_of words.insts).layout type ≡ layout_of_shape (program_of words.insts).layout shape
unfolding program_of
own_layout words v type shape is = (valid_types words v.sound).shaped type shape is

-- a type's layout by its shape
by_shape : (words : Words) → IsValidList words → (type index : ℕ) (shape own : Shape) (result : Option Part) → meaning words.insts type ≡ OfShape shape → shape ≡ own
    → ((layout : Layout) → layout_of_shape (program_of words.insts).layout own ≡ Some layout → AnswersPart (program_of words.insts) layout index result) → Answers words type index result
by_shape words v type index shape own result is same answers layout known = answers layout (sym (own_layout words v type own (is ∙ ap OfShape same)) ∙ known)

same_layout : (a b : Layout) → Some a ≡ Some b → a ≡ b
same_layout a b is = cc

pub truths_told : (words : Words) → IsValidList words → (type index count : ℕ) (shape : Shape) → meaning words.insts type ≡ OfShape shape → shape ≡ BoolVector count → Answers words type index (component_part count index)
truths_told words v type index count shape is same =
    by_shape words v type index shape (BoolVector count) (component_part count index) is same
    (λ layout known. subst (λ (l : Layout). AnswersPart (program_of words.insts) l index (component_part count index)) (same_layout _ layout known) (component_answers words v count index OneTruth (inl refl)))

pub words_told : (words : Words) → IsValidList words → (type index count : ℕ) (signed : Bool) (shape : Shape) → meaning words.insts type ≡ OfShape shape → shape ≡ IntVector count signed → Answers words type index (component_part count index)
words_told words v type index count signed shape is same =
    by_shape words v type index shape (IntVector count signed) (component_part count index) is same
    (λ layout known. subst (λ (l : Layout). AnswersPart (program_of words.insts) l index (component_part count index)) (same_layout _ layout known) (component_answers words v count index OneWord (inr refl)))

pub elements_told : (words : Words) → IsValidList words → (type index element count : ℕ) (shape : Shape) (result : Option Part) → meaning words.insts type ≡ OfShape shape → shape ≡ Array element count
    → ((of : Layout) → (program_of words.insts).layout element ≡ Some of → AnswersPart (program_of words.insts) (Several (repeated count of)) index result) → Answers words type index result
elements_told words v type index element count shape result is same answers =
    by_shape words v type index shape (Array element count) result is same
    (λ layout known. by_element (program_of words.insts) index count layout result ((program_of words.insts).layout element) known answers)
  where
    by_element : (program : Program) (index count : ℕ) (layout : Layout) (result : Option Part) (own : Option Layout) → option_map (λ of. Several (repeated count of)) own ≡ Some layout
        → ((of : Layout) → own ≡ Some of → AnswersPart program (Several (repeated count of)) index result) → AnswersPart program layout index result
    by_element program index count layout result None known answers = cc
    by_element program index count layout result (Some of) known answers = subst (λ (l : Layout). AnswersPart program l index result) (same_layout _ layout known) (answers of refl)

pub members_told : (words : Words) → IsValidList words → (type index : ℕ) (members : Members) (shape : Shape) (result : Option Part) → meaning words.insts type ≡ OfShape shape → shape ≡ Struct members
    → ((layouts : Layouts) → layouts_of (program_of words.insts).layout members.list ≡ Some layouts → AnswersPart (program_of words.insts) (Several layouts) index result) → Answers words type index result
members_told words v type index members shape result is same answers =
    by_shape words v type index shape (Struct members) result is same
    (λ layout known. by_members (program_of words.insts) index layout result (layouts_of (program_of words.insts).layout members.list) known answers)
  where
    by_members : (program : Program) (index : ℕ) (layout : Layout) (result : Option Part) (own : Option Layouts) → option_map Several own ≡ Some layout
        → ((layouts : Layouts) → own ≡ Some layouts → AnswersPart program (Several layouts) index result) → AnswersPart program layout index result
    by_members program index layout result None known answers = cc
    by_members program index layout result (Some layouts) known answers = subst (λ (l : Layout). AnswersPart program l index result) (same_layout _ layout known) (answers layouts refl)

-- a scalar has no parts, and what is no data no layout
abbrev pub has_no_parts : Shape → Bool
has_no_parts (BoolVector count) = false
has_no_parts (IntVector count signed) = false
has_no_parts (Array element count) = false
has_no_parts (Struct members) = false
has_no_parts shape = true

no_part : (program : Program) (index : ℕ) (own : Shape) → has_no_parts own ≡ true → (layout : Layout) → layout_of_shape program.layout own ≡ Some layout → part_along layout (index ∷ []) ≡ None
no_part program index Void none layout known = cc
no_part program index Truth none layout known = ap (λ (l : Layout). part_along l (index ∷ [])) (sym (same_layout OneTruth layout known))
no_part program index (Int signed) none layout known = ap (λ (l : Layout). part_along l (index ∷ [])) (sym (same_layout OneWord layout known))
no_part program index (Pointer class to) none layout known = cc
no_part program index Function none layout known = cc
no_part program index shape none layout known = cc

-- one of the shapes without parts
abbrev pub IsPlain : Shape → Type 0
IsPlain shape = (shape ≡ Void) ⊎ ((shape ≡ Truth) ⊎ (((signed : Bool) × (shape ≡ Int signed)) ⊎ (((class : ℕ) × (to : ℕ) × (shape ≡ Pointer class to)) ⊎ (shape ≡ Function))))

plain : (shape : Shape) → IsPlain shape → has_no_parts shape ≡ true
plain shape (inl is) = ap has_no_parts is
plain shape (inr (inl is)) = ap has_no_parts is
plain shape (inr (inr (inl (signed, is)))) = ap has_no_parts is
plain shape (inr (inr (inr (inl (class, to, is))))) = ap has_no_parts is
plain shape (inr (inr (inr (inr is)))) = ap has_no_parts is

pub nothing_told : (words : Words) → IsValidList words → (type index : ℕ) (shape : Shape) → meaning words.insts type ≡ OfShape shape → IsPlain shape → Answers words type index None
nothing_told words v type index shape is of = by_shape words v type index shape shape None is refl (no_part (program_of words.insts) index shape (plain shape of))

-- ---- what is no type

-- the layout of what is no type
abbrev NoLayout : (ℕ → Meaning) → ℕ → Type 0
NoLayout meaning id = (layout : ℕ → Option Layout) → layout_of layout (meaning id) ≡ None

none_after : (meaning : ℕ → Meaning) (insts : List Inst) (layout : ℕ → Option Layout) (id : ℕ) → NoLayout meaning id → layout id ≡ None → fold (layouts_after meaning) layout insts id ≡ None
none_after meaning [] layout id isnt none = none
none_after meaning (inst ∷ insts) layout id isnt none = none_after meaning insts (layouts_after meaning layout inst) id isnt (by_test (gives id inst && is_none (layout id)) (layout id) (layout_of layout (meaning id)) none (isnt layout))
  where
    by_test : (b : Bool) (own new : Option Layout) → own ≡ None → new ≡ None → (if b then new else own) ≡ None
    by_test true own new old made = made
    by_test false own new old made = old

by_meaning : (m : Meaning) → ((shape : Shape) → m ≡ OfShape shape → ⊥) → (layout : ℕ → Option Layout) → layout_of layout m ≡ None
by_meaning (OfShape shape) isnt layout = absurd (isnt shape refl)
by_meaning m isnt layout = refl

no_layout : (insts : List Inst) (id : ℕ) → ((shape : Shape) → meaning insts id ≡ OfShape shape → ⊥) → (program_of insts).layout id ≡ None
unfolding program_of layouts_by
no_layout insts id isnt = none_after (meaning insts) insts (λ _. None) id (by_meaning (meaning insts id) isnt) refl

pub no_type_told : (words : Words) (type index : ℕ) (m : Meaning) → m ≡ meaning words.insts type → ((shape : Shape) → m ≡ OfShape shape → ⊥) → Answers words type index None
no_type_told words type index m is isnt layout known =
    absurd (not_both layout (sym known ∙ no_layout words.insts type (λ shape same. isnt shape (is ∙ same))))
  where
    not_both : (layout : Layout) → Some layout ≡ None → ⊥
    not_both layout is = cc
