-- Programs that are alike begin with the same words of variables, and leave the same outcome from the same state.
use Rattle.std.proofs.Common.{◌≡◌, ℕ, ◌+◌, ◌==◌, false, List, [], ◌∷◌, map, refl, ap, ◌∙◌, Option, None, Some}
use Rattle.std.proofs.Math.Path.{fun_ext}
use Rattle.std.specs.List.{range_with_len}
use Rattle.limits.specs.declared.TheConstants.{LOCATIONS}
use Rattle.spirv_model.specs.declared.decoration.TheConstants.{SPEC_ID, ARRAY_STRIDE, BUILT_IN, LOCATION, BINDING, DESCRIPTOR_SET}
use Rattle.spirv_model.specs.declared.builtin.TheConstants as builtin
use Rattle.valid_model.specs.declared.meaning.Meaning.{Meaning}
use Rattle.valid_model.specs.declared.meaning.Meaning.TheVariants.{Shape as OfShape, Variable, Constant}
use Rattle.valid_model.specs.declared.meaning.Shape.{Shape}
use Rattle.valid_model.specs.declared.meaning.Shape.TheVariants.{Array, Struct}
use Rattle.state_model.specs.declared.buffers.Buffers.{Buffers}
use Rattle.stage_model.specs.declared.inputs.Inputs.{Inputs}
use Rattle.stage_model.specs.declared.outcome.Kind.{Kind}
use Rattle.stage_model.specs.Program.{Program, held_type, member_offsets, members_offsets, offsets_in, block_offsets, component_offsets}
use Rattle.stage_model.specs.Start.{Memory, class_word, variable_word, first_memory}
use Rattle.stage_model.specs.Machine.{State}
use Rattle.stage_model.specs.Stage.{output_with, components_left, position_left, slots_left, left_by, outcome_of}
use Rattle.change_model.specs.Programs.{plainly, MeanSame, AreProgramsAlike}
use Rattle.change_model.proofs.SameEffects.{by_plain, type_same, held_same}

-- ---- where the words of a block stand

component_plain : (meaning : Meaning) → component_offsets meaning ≡ component_offsets (plainly meaning)
component_plain (Constant type) = refl
component_plain meaning = refl

array_offsets_same : (p q : Program) → AreProgramsAlike p q → (type element count : ℕ) → member_offsets p type (OfShape (Array element count)) ≡ member_offsets q type (OfShape (Array element count))
array_offsets_same p q s type element count =
    rw (s.decoration type ARRAY_STRIDE refl) (rw (by_plain component_offsets component_plain (p.meaning element) (q.meaning element) (s.mean.meaning element)) refl)

shape_offsets_same : (p q : Program) → AreProgramsAlike p q → (type : ℕ) (shape : Shape) → member_offsets p type (OfShape shape) ≡ member_offsets q type (OfShape shape)
shape_offsets_same p q s type (Array element count) = array_offsets_same p q s type element count
shape_offsets_same p q s type other = refl

member_same : (p q : Program) → AreProgramsAlike p q → (type : ℕ) (meaning : Meaning) → member_offsets p type meaning ≡ member_offsets q type meaning
member_same p q s type (OfShape shape) = shape_offsets_same p q s type shape
member_same p q s type kind = refl

member_plain : (p : Program) (type : ℕ) (meaning : Meaning) → member_offsets p type meaning ≡ member_offsets p type (plainly meaning)
member_plain p type (Constant of) = refl
member_plain p type meaning = refl

members_same : (p q : Program) → AreProgramsAlike p q → (block member : ℕ) (types : List ℕ) → members_offsets p block member types ≡ members_offsets q block member types
members_same p q s block member [] = refl
members_same p q s block member (type ∷ types) =
    let offset : p.offset block member ≡ q.offset block member = ap (λ (o : ℕ → ℕ → Option ℕ). o block member) s.offset in
    let own : member_offsets p type (p.meaning type) ≡ member_offsets q type (q.meaning type) =
    by_plain (member_offsets p type) (member_plain p type) (p.meaning type) (q.meaning type) (s.mean.meaning type) ∙ member_same p q s type (q.meaning type) in
    rw (members_same p q s block (member + 1) types) (rw own (rw offset refl))

struct_offsets_same : (p q : Program) → AreProgramsAlike p q → (block : ℕ) (shape : Shape) → offsets_in p block (OfShape shape) ≡ offsets_in q block (OfShape shape)
struct_offsets_same p q s block (Struct members) = members_same p q s block 0 members.list
struct_offsets_same p q s block other = refl

offsets_same : (p q : Program) → AreProgramsAlike p q → (block : ℕ) (meaning : Meaning) → offsets_in p block meaning ≡ offsets_in q block meaning
offsets_same p q s block (OfShape shape) = struct_offsets_same p q s block shape
offsets_same p q s block kind = refl

offsets_plain : (p : Program) (block : ℕ) (meaning : Meaning) → offsets_in p block meaning ≡ offsets_in p block (plainly meaning)
offsets_plain p block (Constant of) = refl
offsets_plain p block meaning = refl

block_same : (p q : Program) → AreProgramsAlike p q → (block : Option ℕ) → block_offsets p block ≡ block_offsets q block
unfolding block_offsets
block_same p q s None = refl
block_same p q s (Some block) = by_plain (offsets_in p block) (offsets_plain p block) (p.meaning block) (q.meaning block) (s.mean.meaning block) ∙ offsets_same p q s block (q.meaning block)

-- ---- the first words of variables

class_same : (p q : Program) → AreProgramsAlike p q → (inputs : Inputs) (buffers : Buffers) (variable storage at : ℕ) → class_word p inputs buffers variable storage at ≡ class_word q inputs buffers variable storage at
class_same p q s inputs buffers variable storage at =
    let offsets : block_offsets p (held_type p variable) ≡ block_offsets q (held_type q variable) =
    ap (block_offsets p) (type_same p q s.mean variable) ∙ block_same p q s (held_type q variable) in
    rw offsets (rw (s.decoration variable BUILT_IN refl) (rw (s.decoration variable LOCATION refl)
    (rw (s.decoration variable DESCRIPTOR_SET refl) (rw (s.decoration variable BINDING refl) refl))))

word_same : (p q : Program) → AreProgramsAlike p q → (inputs : Inputs) (buffers : Buffers) (variable : ℕ) (meaning : Meaning) (at : ℕ) → variable_word p inputs buffers variable meaning at ≡ variable_word q inputs buffers variable meaning at
word_same p q s inputs buffers variable (Variable type storage) at = class_same p q s inputs buffers variable storage at
word_same p q s inputs buffers variable kind at = refl

word_plain : (p : Program) (inputs : Inputs) (buffers : Buffers) (variable at : ℕ) (meaning : Meaning) → variable_word p inputs buffers variable meaning at ≡ variable_word p inputs buffers variable (plainly meaning) at
word_plain p inputs buffers variable at (Constant of) = refl
word_plain p inputs buffers variable at meaning = refl

pub memory_same : (p q : Program) → AreProgramsAlike p q → (inputs : Inputs) (buffers : Buffers) → first_memory p inputs buffers ≡ first_memory q inputs buffers
unfolding first_memory
memory_same p q s inputs buffers = fun_ext (λ variable. fun_ext (λ at.
    by_plain (λ (m : Meaning). variable_word p inputs buffers variable m at) (word_plain p inputs buffers variable at) (p.meaning variable) (q.meaning variable) (s.mean.meaning variable) ∙ word_same p q s inputs buffers variable (q.meaning variable) at))

-- ---- outcomes

components_same : (p q : Program) → MeanSame p q → (memory : Memory) (variable : Option ℕ) → components_left p memory variable ≡ components_left q memory variable
components_same p q s memory None = refl
components_same p q s memory (Some variable) = rw (held_same p q s variable) refl

output_same : (p q : Program) → AreProgramsAlike p q → (memory : Memory) (decoration word : ℕ) → decoration == SPEC_ID ≡ false
    → components_left p memory (output_with p decoration word) ≡ components_left q memory (output_with q decoration word)
output_same p q s memory decoration word isnt = ap (components_left p memory) (s.output decoration word isnt) ∙ components_same p q s.mean memory (output_with q decoration word)

position_same : (p q : Program) → AreProgramsAlike p q → (memory : Memory) → position_left p memory ≡ position_left q memory
unfolding position_left
position_same p q s memory = output_same p q s memory BUILT_IN builtin.POSITION refl

slots_same : (p q : Program) → AreProgramsAlike p q → (memory : Memory) → slots_left p memory ≡ slots_left q memory
unfolding slots_left
slots_same p q s memory = ap (λ (f : ℕ → List ℕ). map f (range_with_len 0 LOCATIONS)) (fun_ext (λ location. output_same p q s memory LOCATION location refl))

-- what is left by the same state is the same
pub outcome_same : (p q : Program) → AreProgramsAlike p q → (kind : Kind) (state : State) → outcome_of p (kind, state) ≡ outcome_of q (kind, state)
outcome_same p q s kind state = rw (position_same p q s (left_by kind state.memory)) (rw (slots_same p q s (left_by kind state.memory)) refl)
