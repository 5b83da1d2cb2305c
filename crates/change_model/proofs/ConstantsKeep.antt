-- With constants for its specialization constants a module does what it does with the entries, and whatever entries are given then.
use Rattle.std.proofs.Common.{◌≡◌, ℕ, zero, suc, ◌+◌, ◌<◌, ◌≤◌, ◌==◌, ◌&&◌, Bool, true, false, List, [], ◌∷◌, ◌++◌, length, take, drop, slice_index, refl, ap, sym, ◌∙◌, arith, Option, None, Some}
use Rattle.std.proofs.Math.Path.{fun_ext}
use Rattle.std.proofs.Math.Seq.{take-append_seam}
use Rattle.std.specs.Option.{option_map}
use Rattle.std.specs.List.{find, fold}
use Rattle.std.proofs.lemmas.List.{take_more}
use Rattle.std.proofs.lemmas.List.Sums.{fold-append, fold_more}
use Rattle.spirv_model.specs.declared.module.Inst.{Inst}
use Rattle.spirv_model.specs.declared.module.Words.{Words}
use Rattle.spirv_model.specs.declared.op.TheConstants as op
use Rattle.spirv_model.specs.declared.storage_class.TheConstants as storage_class
use Rattle.spirv_model.specs.declared.decoration.TheConstants.{SPEC_ID}
use Rattle.spirv_model.specs.Operands.{word_at, entry_of, class_of, result}
use Rattle.body_model.specs.Grammar.{Derives}
use Rattle.state_model.specs.declared.parts.SpecValues.{SpecValues}
use Rattle.state_model.specs.declared.buffers.Buffers.{Buffers}
use Rattle.valid_model.specs.declared.meaning.Meaning.{Meaning}
use Rattle.valid_model.specs.Definitions.{inst_at, no_instruction}
use Rattle.valid_model.specs.Meanings.{meaning}
use Rattle.valid_model.specs.FirstFault.{type_fault}
use Rattle.check_model.specs.Validity.{IsValidList}
use Rattle.stage_model.specs.declared.inputs.Inputs.{Inputs}
use Rattle.stage_model.specs.Program.{Program, layouts_by, program_of}
use Rattle.stage_model.specs.Start.{Values, Memory, no_values, with_definition, defined_by, first_memory}
use Rattle.stage_model.specs.Machine.{State}
use Rattle.stage_model.specs.Stage.{Given, is_number, is_output_with, output_with, start_at, stage}
use Rattle.typed_model.proofs.ResultIds.{defined_id}
use Rattle.typed_model.proofs.RunningStart.{first_label_is}
use Rattle.change_model.specs.Constants.{is_spec_id, is_spec_scalar, settled, constants}
use Rattle.change_model.specs.Keeping.{given, KeepsOutcome}
use Rattle.change_model.specs.Programs.{plainly, MeanSame, AreProgramsAlike}
use Rattle.change_model.specs.Settling.{all_settled}
use Rattle.change_model.proofs.Followed.{same_insts}
use Rattle.change_model.proofs.SameFunction.{same_function_keeps}
use Rattle.change_model.proofs.SameStarts.{memory_same}
use Rattle.change_model.proofs.Settlings.{Settles, gone_op, settled_cons, settled_gone, decoration_settled, offset_settled, found_by_op, other_variable, spec_defines}
use Rattle.change_model.proofs.SettledFunction.{first_of, settled_first, settled_append, parts_settled, function_settled, first_label_settled}
use Rattle.change_model.proofs.SettledMeanings.{meaning_settled, layouts_settled}
use Rattle.change_model.proofs.SettledValues.{ValuesAs, value_at_end, settled_as, no_value, defines_op}
use Rattle.change_model.proofs.ConstantsStand.{settled_stands, scalar_is_spec}

-- ---- the programs

program_has : (insts : List Inst) → ((program_of insts).meaning ≡ meaning insts) × ((program_of insts).layout ≡ layouts_by (meaning insts) insts)
unfolding program_of
program_has insts = (refl, refl)

mean_same : (f : Inst → Inst) → Settles f → (words : Words) → type_fault words ≡ None → MeanSame (program_of (all_settled f words.insts)) (program_of words.insts)
mean_same f s words sound =
    let new = all_settled f words.insts in
    let a = program_has new in let b = program_has words.insts in
    let m = meaning_settled f s words sound in
    record {
      meaning = λ id. ap (λ (m : ℕ → Meaning). plainly (m id)) (a.0 ∙ m ∙ sym b.0);
      layout = a.1 ∙ ap (λ (m : ℕ → Meaning). layouts_by m new) m ∙ layouts_settled f s (meaning words.insts) words.insts ∙ sym b.1;
    }

decorations_same : (f : Inst → Inst) → Settles f → (insts : List Inst) (id decoration : ℕ) → decoration == SPEC_ID ≡ false
    → (program_of (all_settled f insts)).decoration id decoration ≡ (program_of insts).decoration id decoration
unfolding program_of
decorations_same f s insts id decoration isnt = decoration_settled f s insts id decoration isnt

offsets_are : (f : Inst → Inst) → Settles f → (insts : List Inst) → (program_of (all_settled f insts)).offset ≡ (program_of insts).offset
unfolding program_of
offsets_are f s insts = fun_ext (λ id. fun_ext (λ member. offset_settled f s insts id member))

no_variable : (program : Program) (decoration word : ℕ) (inst : Inst) → inst.op == op.VARIABLE ≡ false → is_output_with program decoration word inst ≡ false
no_variable program decoration word inst isnt = rw isnt refl

outputs_are : (f : Inst → Inst) → Settles f → (insts : List Inst) (decoration word : ℕ) → decoration == SPEC_ID ≡ false
    → output_with (program_of (all_settled f insts)) decoration word ≡ output_with (program_of insts) decoration word
outputs_are f s insts decoration word isnt =
    let p = program_of (all_settled f insts) in let q = program_of insts in
    let test : is_output_with p decoration word ≡ is_output_with q decoration word =
    fun_ext (λ inst. ap (λ (o : Option ℕ). (inst.op == op.VARIABLE) && (slice_index inst.words 2 == storage_class.OUTPUT) && is_number word o) (decorations_same f s insts (slice_index inst.words 1) decoration isnt)) in
    ap (λ (t : Inst → Bool). option_map (λ (inst : Inst). slice_index inst.words 1) (find t p.insts)) test
    ∙ ap (λ (l : List Inst). option_map (λ (inst : Inst). slice_index inst.words 1) (find (is_output_with q decoration word) l)) (same_insts (all_settled f insts))
    ∙ ap (option_map (λ (inst : Inst). slice_index inst.words 1)) (found_by_op f s op.VARIABLE other_variable refl (is_output_with q decoration word) (no_variable q decoration word) insts)
    ∙ ap (λ (l : List Inst). option_map (λ (inst : Inst). slice_index inst.words 1) (find (is_output_with q decoration word) l)) (sym (same_insts insts))

pub alike_settled : (f : Inst → Inst) → Settles f → (words : Words) → type_fault words ≡ None → AreProgramsAlike (program_of (all_settled f words.insts)) (program_of words.insts)
alike_settled f s words sound = record {
  mean = mean_same f s words sound;
  decoration = decorations_same f s words.insts;
  offset = offsets_are f s words.insts;
  output = outputs_are f s words.insts;
}

-- ---- the values

no_decorate_value : defines_op op.DECORATE ≡ false
unfolding class_of entry_of
no_decorate_value = refl

gone_value : (program : Program) (entries : SpecValues) (values : Values) (inst : Inst) → is_spec_id inst ≡ true → with_definition program entries values inst ≡ values
gone_value program entries values inst is =
    rw (no_value program entries values inst.op inst.words (ap defines_op (gone_op inst is) ∙ no_decorate_value)) refl

definition_as : (other program : Program) (any entries : SpecValues) (values : Values) (new old : Inst) → ValuesAs other program any entries values new old
    → with_definition other any values new ≡ with_definition program entries values old
definition_as other program any entries values new old v = rw v.value (rw v.id refl)

one_settled : (other program : Program) (any entries : SpecValues) (f : Inst → Inst) (values : Values) (inst : Inst) → ValuesAs other program any entries values (f inst) inst
    → fold (with_definition other any) values (all_settled f (inst ∷ [])) ≡ with_definition program entries values inst
one_settled other program any entries f values inst v = by_test (is_spec_id inst) refl
  where
    by_test : (b : Bool) → is_spec_id inst ≡ b → fold (with_definition other any) values (all_settled f (inst ∷ [])) ≡ with_definition program entries values inst
    by_test true is = ap (fold (with_definition other any) values) (settled_gone f inst [] is) ∙ sym (gone_value program entries values inst is)
    by_test false isnt = ap (fold (with_definition other any) values) (settled_cons f inst [] isnt) ∙ definition_as other program any entries values (f inst) inst v

pub own_result : (inst : Inst) → is_spec_scalar inst.op ≡ true → result inst ≡ Some (word_at 1 inst)
own_result inst is = defined_id inst (spec_defines (class_of inst.op) (scalar_is_spec inst.op is))

-- up to a place
values_settled : (other : Program) (words : Words) → type_fault words ≡ None → other.layout ≡ (program_of words.insts).layout → (entries any : SpecValues) (n : ℕ) → n ≤ length words.insts
    → defined_by other any (all_settled (settled (defined_by (program_of words.insts) entries words.insts)) (take n words.insts)) ≡ defined_by (program_of words.insts) entries (take n words.insts)
unfolding defined_by
values_settled other words sound layout entries any zero within = refl
values_settled other words sound layout entries any (suc n) within =
    let insts = words.insts in let program = program_of words.insts in
    let at_end : Values = fold (with_definition program entries) no_values insts in
    let f : Inst → Inst = settled at_end in
    let inst = inst_at insts n in
    let here : n < length insts = omega (arith, within) in
    let before : Values = fold (with_definition program entries) no_values (take n insts) in
    let more : take (suc n) insts ≡ take n insts ++ inst ∷ [] = ap (λ (k : ℕ). take k insts) {x = suc n} {y = n + 1} (omega arith) ∙ take_more insts n no_instruction here in
    let rest = values_settled other words sound layout entries any n (omega (arith, here)) in
    ap (λ (l : List Inst). fold (with_definition other any) no_values (all_settled f l)) more
    ∙ ap (fold (with_definition other any) no_values) (settled_append f (take n insts) (inst ∷ []))
    ∙ fold-append (with_definition other any) no_values (all_settled f (take n insts)) (all_settled f (inst ∷ []))
    ∙ ap (λ (v : Values). fold (with_definition other any) v (all_settled f (inst ∷ []))) rest
    ∙ one_settled other program any entries f before inst
    (settled_as other program layout any entries at_end before inst (λ is. value_at_end program entries words sound n here (own_result inst is)))
    ∙ sym (fold_more (with_definition program entries) no_values insts n no_instruction here)
    ∙ ap (λ (k : ℕ). fold (with_definition program entries) no_values (take k insts)) {x = n + 1} {y = suc n} (omega arith)

-- ---- the start

unfoldable pub first_state : Values → Memory → State
first_state values memory = record { label = 0; before = 0; values = values; values_at_entry = values; memory = memory; back_edges = 0; steps = 0 }

pub starts_in : (insts : List Inst) (given : Given) (first : ℕ)
    → (start_at (program_of insts) given first).state ≡ first_state (defined_by (program_of insts) given.entries (take first (program_of insts).insts)) (first_memory (program_of insts) given.inputs given.buffers)
unfolding start_at first_state
starts_in insts given first = refl

take_first : (f : Inst → Inst) → Settles f → (insts : List Inst) (d : Derives insts) → take (settled_first f insts d) (all_settled f insts) ≡ all_settled f (take (first_of insts d) insts)
take_first f s insts d =
    ap (take (settled_first f insts d)) (parts_settled f s insts d) ∙ take-append_seam (all_settled f (take (first_of insts d) insts)) (drop (first_of insts d) insts)

pub start_same : (words : Words) (v : IsValidList words) (entries any : SpecValues) (inputs : Inputs) (buffers : Buffers)
    → (start_at (program_of (constants entries words.insts)) (given any inputs buffers) (settled_first (settled (defined_by (program_of words.insts) entries words.insts)) words.insts v.derivation)).state
    ≡ (start_at (program_of words.insts) (given entries inputs buffers) (first_of words.insts v.derivation)).state
unfolding constants
start_same words v entries any inputs buffers =
    let insts = words.insts in let d = v.derivation in
    let q = program_of insts in
    let f : Inst → Inst = settled (defined_by q entries insts) in
    let s = settled_stands (defined_by q entries insts) in
    let new = all_settled f insts in let p = program_of new in
    let alike = alike_settled f s words v.sound in
    let first = first_of insts d in
    let values : defined_by p any (take (settled_first f insts d) p.insts) ≡ defined_by q entries (take first q.insts) =
    ap (λ (l : List Inst). defined_by p any (take (settled_first f insts d) l)) (same_insts new)
    ∙ ap (defined_by p any) (take_first f s insts d)
    ∙ values_settled p words v.sound alike.mean.layout entries any first (let w = (function_settled f s insts d).within' in w)
    ∙ ap (λ (l : List Inst). defined_by q entries (take first l)) (sym (same_insts insts)) in
    starts_in new (given any inputs buffers) (settled_first f insts d)
    ∙ ap (λ (v : Values). first_state v (first_memory p inputs buffers)) values
    ∙ ap (first_state (defined_by q entries (take first q.insts))) (memory_same p q alike inputs buffers)
    ∙ sym (starts_in insts (given entries inputs buffers) first)

-- the new list does what the old one does with its entries, whatever entries are given
pub constants_do : (words : Words) → IsValidList words → (entries any : SpecValues) (inputs : Inputs) (buffers : Buffers)
    → KeepsOutcome (stage (constants entries words.insts) (given any inputs buffers)) (stage words.insts (given entries inputs buffers))
unfolding constants
constants_do words v entries any inputs buffers =
    let insts = words.insts in let d = v.derivation in
    let at_end = defined_by (program_of insts) entries insts in
    let f : Inst → Inst = settled at_end in
    let s = settled_stands at_end in
    same_function_keeps (all_settled f insts) insts (given any inputs buffers) (given entries inputs buffers) (settled_first f insts d) (first_of insts d)
    (first_label_settled f s insts d) (first_label_is insts d) (function_settled f s insts d) (alike_settled f s words v.sound) (start_same words v entries any inputs buffers)
