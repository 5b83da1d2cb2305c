-- The objects that OpSelect chooses from are of the type of its result.
use Rattle.std.proofs.Common.{◌≡◌, ℕ, ◌==◌, ◌&&◌, Bool, true, false, List, [], ◌∷◌, drop, slice_index, refl, ap, sym, ◌∙◌, subst, Option, None, Some}
use Rattle.basics.proofs.Bools.{first_of_both, second_of_both}
use Rattle.spirv_model.specs.declared.module.Inst.{Inst}
use Rattle.spirv_model.specs.declared.module.Words.{Words}
use Rattle.spirv_model.specs.declared.op.TheConstants as op
use Rattle.spirv_model.specs.declared.class.Class.TheVariants as class
use Rattle.spirv_model.specs.declared.class.ScalarClass.{ScalarClass}
use Rattle.spirv_model.specs.declared.class.ScalarClass.TheVariants.{Select}
use Rattle.spirv_model.specs.Operands.{class_of}
use Rattle.valid_model.specs.Definitions.{inst_at}
use Rattle.valid_model.specs.ModuleFacts.{is_vertex, facts_of}
use Rattle.check_model.specs.Validity.{IsValidList}
use Rattle.check_model.specs.Typing.{type_of, has_type, constant_word, components_in}
use Rattle.check_model.specs.declared.components.Components.{Components}
use Rattle.check_model.specs.ScalarOperands.{condition_fits, is_select, select_fits, scalar_operands_fit}
use Rattle.stage_model.specs.Value.{Value}
use Rattle.stage_model.specs.Program.{Program, program_of}
use Rattle.stage_model.specs.Start.{Memory}
use Rattle.typed_model.specs.Values.{IsOfType}
use Rattle.typed_model.specs.Types.{HasTypes, typing_in, Suits, AllSuit}
use Rattle.typed_model.specs.Results.{layout_of_components}
use Rattle.typed_model.proofs.Rows.{is_operation, operation_by_class}
use Rattle.typed_model.proofs.PlainRuns.{scalar_reads}
use Rattle.typed_model.proofs.ReadValues.{typing_here}
use Rattle.typed_model.proofs.TypeLayouts.{same, own_type, components_layout, type_has_layout}
use Rattle.typed_model.proofs.ValidModules.{valid_sound}
use Rattle.typed_model.proofs.ValidTypes.{valid_types}
use Rattle.frame_model.specs.Written.{GivesAt}
use Rattle.frame_model.proofs.FrameSizes.{value_size}
use Rattle.frame_model.proofs.OperandReads.{fit_here}
use Rattle.frame_model.proofs.ScalarWords.{AreAlike, layout_scalars}

three : (a b c : Bool) → (a && b && c) ≡ true → (a ≡ true) × (b ≡ true) × (c ≡ true)
three true true true is = (refl, refl, refl)
three true true false is = cc
three true false c is = cc
three false b c is = cc

-- the components of the result's type
result_components : (program : Program) (constant : ℕ → Option ℕ) (vertex : Bool) (condition type : ℕ) (found : Option Components) → components_in (program.meaning type) ≡ found
    → condition_fits (type_of (typing_in program constant vertex) condition) found ≡ true → (of : Components) × (components_in (program.meaning type) ≡ Some of)
result_components program constant vertex condition type None are fits = cc
result_components program constant vertex condition type (Some of) are fits = (of, are)

objects_alike : (program : Program) → HasTypes program → (constant : ℕ → Option ℕ) (vertex : Bool) (type condition a b : ℕ) (one other value : Value) → select_fits (typing_in program constant vertex) type condition a b ≡ true
    → Suits program constant a one → Suits program constant b other → IsOfType program type value → AreAlike program one other value
objects_alike program types constant vertex type condition a b one other value fit suit also typed =
    let typing = typing_in program constant vertex in
    let f = three (condition_fits (type_of typing condition) (components_in (program.meaning type))) (has_type typing type a) (has_type typing type b) fit in
    let of = result_components program constant vertex condition type (components_in (program.meaning type)) refl f.0 in
    let layout = components_layout program types type of.0 of.1 in
    let is_one = suit.of_type type (own_type program constant vertex type a f.1) in
    let is_other = also.of_type type (own_type program constant vertex type b f.2) in
    let size = sym (value_size program types type value typed) in
    record {
      first = layout_scalars of.0 one (type_has_layout program types type one (layout_of_components of.0) layout is_one);
      second = layout_scalars of.0 other (type_has_layout program types type other (layout_of_components of.0) layout is_other);
      long = value_size program types type one is_one ∙ size;
      long_too = value_size program types type other is_other ∙ size;
    }

-- the two objects of OpSelect
pub record Selects (insts : List Inst) (place : ℕ) (one other value : Value) : Type 0 where
  pub is : (inst_at insts place).op ≡ op.SELECT
  pub alike : AreAlike (program_of insts) one other value

by_class : (operation_class : ScalarClass) → is_select operation_class ≡ true → operation_class ≡ Select
by_class Select is = refl
by_class operation_class is = cc

select_fit : (insts : List Inst) (vertex : Bool) (operation_class : ScalarClass) (type condition a b : ℕ) (ids : List ℕ) → ids ≡ condition ∷ a ∷ b ∷ [] → scalar_operands_fit (typing_here insts vertex) operation_class type ids ≡ true
    → (is_select operation_class ≡ true) × (select_fits (typing_here insts vertex) type condition a b ≡ true)
unfolding scalar_operands_fit
select_fit insts vertex operation_class type condition a b ids are fit =
    let all : (is_select operation_class && select_fits (typing_here insts vertex) type condition a b) ≡ true = sym (ap (scalar_operands_fit (typing_here insts vertex) operation_class type) are) ∙ fit in
    (first_of_both (is_select operation_class) (select_fits (typing_here insts vertex) type condition a b) all, second_of_both (is_select operation_class) (select_fits (typing_here insts vertex) type condition a b) all)

pub selects : (words : Words) → IsValidList words → (frame : List ℕ) (held : Memory) (place : ℕ) (value : Value) (operation_class : ScalarClass) → class_of (inst_at words.insts place).op ≡ Some (class.Scalar operation_class)
    → (g : GivesAt (program_of words.insts) frame held place value) → (condition a b : ℕ) (chosen one other : Value) → drop 2 (inst_at words.insts place).words ≡ condition ∷ a ∷ b ∷ [] → g.read ≡ chosen ∷ one ∷ other ∷ []
    → Selects words.insts place one other value
unfolding program_of
selects words v frame held place value operation_class is g condition a b chosen one other ids are =
    let inst = inst_at words.insts place in
    let s = valid_sound words v in
    let fit = select_fit words.insts (is_vertex (facts_of words.insts)) operation_class (slice_index inst.words 0) condition a b (drop 2 inst.words) ids (fit_here words.insts inst _ (s.fit place g.within) is) in
    let o = operation_by_class operation_class inst.op is in
    let chooses : inst.op == op.SELECT ≡ true = by_select operation_class (by_class operation_class fit.0) inst.op o.is in
    let suit : AllSuit (program_of words.insts) (constant_word words.insts) (condition ∷ a ∷ b ∷ []) (chosen ∷ one ∷ other ∷ []) =
    subst (λ (r : List Value). AllSuit (program_of words.insts) (constant_word words.insts) (condition ∷ a ∷ b ∷ []) r) are
    (subst (λ (i : List ℕ). AllSuit (program_of words.insts) (constant_word words.insts) i g.read) (scalar_reads inst.op 0 inst.words operation_class is ∙ ids) g.suit) in
    record {
      is = same inst.op op.SELECT chooses;
      alike = objects_alike (program_of words.insts) (valid_types words v.sound) (constant_word words.insts) (is_vertex (facts_of words.insts)) (slice_index inst.words 0) condition a b one other value fit.1 suit.1.0 suit.1.1.0 g.typed;
    }
  where
    by_select : (operation_class : ScalarClass) → operation_class ≡ Select → (opcode : ℕ) → is_operation operation_class opcode ≡ true → opcode == op.SELECT ≡ true
    by_select operation_class e opcode is = subst (λ (c : ScalarClass). is_operation c opcode ≡ true) e is
