-- With a scalar operation on constants folded a list does the same in fewer steps.
use Rattle.std.proofs.Common.{◌≡◌, ℕ, zero, suc, ◌+◌, ◌<◌, ◌==◌, ◌&&◌, inl, Bool, true, false, List, [], ◌∷◌, ◌++◌, length, take, drop, slice_index, refl, ap, sym, ◌∙◌, arith, Option, None, Some}
use Rattle.std.proofs.Math.Path.{fun_ext}
use Rattle.std.specs.Prelude.{slice_get}
use Rattle.std.specs.Option.{option_map, option_and_then}
use Rattle.std.specs.List.{find, fold}
use Rattle.std.proofs.lemmas.List.{take_more, get_or-take, length-take-le}
use Rattle.std.proofs.lemmas.List.Sums.{fold-append}
use Rattle.std.proofs.lemmas.Option.{get_or_from_slice_get}
use Rattle.spirv_model.specs.declared.module.Inst.{Inst}
use Rattle.spirv_model.specs.declared.module.Words.{Words}
use Rattle.spirv_model.specs.declared.op.TheConstants as op
use Rattle.spirv_model.specs.declared.storage_class.TheConstants as storage_class
use Rattle.spirv_model.specs.declared.decoration.TheConstants.{SPEC_ID}
use Rattle.spirv_model.specs.Operands.{word_at, words_from, entry_of, class_of, result}
use Rattle.body_model.specs.Switches.{is_among}
use Rattle.body_model.specs.Grammar.{IsOp, Derives}
use Rattle.body_model.proofs.ModuleLevels.{within_list}
use Rattle.state_model.specs.declared.parts.SpecValues.{SpecValues}
use Rattle.state_model.specs.declared.buffers.Buffers.{Buffers}
use Rattle.valid_model.specs.declared.meaning.Meaning.{Meaning}
use Rattle.valid_model.specs.Definitions.{gives, inst_at, no_instruction}
use Rattle.valid_model.specs.DecorationWords.{decorates, decoration_of, places_member, offset_of}
use Rattle.valid_model.specs.Meanings.{meaning}
use Rattle.check_model.specs.Validity.{IsValidList}
use Rattle.stage_model.specs.declared.inputs.Inputs.{Inputs}
use Rattle.stage_model.specs.Value.{Value, Layout}
use Rattle.stage_model.specs.Program.{Program, layouts_by, program_of}
use Rattle.stage_model.specs.Start.{Values, Memory, no_values, with_value, all_values, entry_word, specialized, constant_of, with_definition, defined_by, first_memory}
use Rattle.stage_model.specs.Operations.{operation}
use Rattle.stage_model.specs.Machine.{State}
use Rattle.stage_model.specs.Stage.{is_number, is_output_with, output_with, start_at, stage}
use Rattle.typed_model.proofs.BlockParts.{another}
use Rattle.typed_model.proofs.ModuleValues.{with_one, with_none}
use Rattle.change_model.specs.Keeping.{given, KeepsOutcome}
use Rattle.change_model.specs.Programs.{plainly, AreProgramsAlike}
use Rattle.change_model.specs.Folding.{moved_up}
use Rattle.change_model.proofs.ConstantsKeep.{first_state, starts_in}
use Rattle.change_model.proofs.FoldedMeanings.{IsMovedUp, meaning_moved_up, layouts_moved_up}
use Rattle.change_model.proofs.FoldedRuns.{is_scalar, OperandsAre, IsOfLevel, operation_known}
use Rattle.change_model.proofs.Followed.{same_insts}
use Rattle.change_model.proofs.KnownResults.{beside, without_one}
use Rattle.change_model.proofs.KnownRuns.{known_result_keeps}
use Rattle.change_model.proofs.MovedUp.{moved_up_is, find_moved_up, leaves_out_moved_up, first_label_moved_up}
use Rattle.change_model.proofs.SameStarts.{memory_same}
use Rattle.change_model.proofs.SettledValues.{defines_op, no_value, only_there, none_before}

-- ---- what is folded

-- a scalar operation of the function on ids of the module's level, and the constant that stands for it
pub record IsFolded (words : Words) (v : IsValidList words) (gone own type : ℕ) (constant : Inst) (value : Value) : Type 0 where
  pub moves : IsMovedUp words.insts v.derivation gone own type constant
  pub result_is : result (inst_at words.insts (v.derivation.before + 1 + gone)) ≡ Some own
  pub id : word_at 1 (inst_at words.insts (v.derivation.before + 1 + gone)) ≡ own
  pub scalar : is_scalar (inst_at words.insts (v.derivation.before + 1 + gone)).op ≡ true
  pub level : (id : ℕ) → is_among id (words_from 2 (inst_at words.insts (v.derivation.before + 1 + gone))) ≡ true → IsOfLevel words v id
  pub constant_id : word_at 1 constant ≡ own
  -- the constant is no decoration, no variable and no label
  pub no_decorate : constant.op == op.DECORATE ≡ false
  pub no_member : constant.op == op.MEMBER_DECORATE ≡ false
  pub no_variable : constant.op == op.VARIABLE ≡ false
  pub no_label : constant.op == op.LABEL ≡ false
  pub gives_value : (program : Program) (entries : SpecValues) (values : Values) → constant_of program entries values constant.op constant.words ≡ Some value

-- where its operands have values, it has this one
pub record ComputesTo (words : Words) (v : IsValidList words) (gone : ℕ) (value : Value) (entries : SpecValues) : Type 0 where
  pub reads : List Value
  pub are : all_values (defined_by (program_of words.insts) entries (take (v.derivation.before + 1) (program_of words.insts).insts)) (words_from 2 (inst_at words.insts (v.derivation.before + 1 + gone))) ≡ Some reads
  pub is : operation (inst_at words.insts (v.derivation.before + 1 + gone)).op reads ≡ Some value

pub record NoScalars : Type 0 where
  pub decorate : is_scalar op.DECORATE ≡ false
  pub member : is_scalar op.MEMBER_DECORATE ≡ false
  pub variable : is_scalar op.VARIABLE ≡ false
  pub label : is_scalar op.LABEL ≡ false

pub no_scalars : NoScalars
unfolding class_of entry_of
no_scalars = record { decorate = refl; member = refl; variable = refl; label = refl }

-- ---- the programs

pub module_found : (words : Words) (v : IsValidList words) (gone own type : ℕ) (constant : Inst) (value : Value) → IsFolded words v gone own type constant value → (opcode : ℕ) → is_scalar opcode ≡ false → constant.op == opcode ≡ false
    → (p : Inst → Bool) → ((inst : Inst) → inst.op == opcode ≡ false → p inst ≡ false) → find p (moved_up (v.derivation.before + 1 + gone) constant words.insts) ≡ find p words.insts
module_found words v gone own type constant value f opcode no_scalar isnt p none =
    find_moved_up p words.insts v.derivation gone constant (none constant isnt)
    (none (inst_at words.insts (v.derivation.before + 1 + gone)) (another is_scalar opcode no_scalar (inst_at words.insts (v.derivation.before + 1 + gone)).op f.scalar)) f.moves.within

pub decorations_are : (words : Words) (v : IsValidList words) (gone own type : ℕ) (constant : Inst) (value : Value) → IsFolded words v gone own type constant value
    → (program_of (moved_up (v.derivation.before + 1 + gone) constant words.insts)).decoration ≡ (program_of words.insts).decoration
unfolding program_of decoration_of
decorations_are words v gone own type constant value f = fun_ext (λ id. fun_ext (λ decoration.
    ap (option_map (word_at 2)) (module_found words v gone own type constant value f op.DECORATE no_scalars.decorate f.no_decorate (decorates id decoration) (λ inst isnt. rw isnt refl))))

offsets_are : (words : Words) (v : IsValidList words) (gone own type : ℕ) (constant : Inst) (value : Value) → IsFolded words v gone own type constant value
    → (program_of (moved_up (v.derivation.before + 1 + gone) constant words.insts)).offset ≡ (program_of words.insts).offset
unfolding program_of offset_of
offsets_are words v gone own type constant value f = fun_ext (λ id. fun_ext (λ member.
    ap (option_map (word_at 3)) (module_found words v gone own type constant value f op.MEMBER_DECORATE no_scalars.member f.no_member (places_member id member) (λ inst isnt. rw isnt refl))))

pub program_has : (insts : List Inst) → ((program_of insts).meaning ≡ meaning insts) × ((program_of insts).layout ≡ layouts_by (meaning insts) insts)
unfolding program_of
program_has insts = (refl, refl)

outputs_are : (words : Words) (v : IsValidList words) (gone own type : ℕ) (constant : Inst) (value : Value) → IsFolded words v gone own type constant value → (decoration word : ℕ)
    → output_with (program_of (moved_up (v.derivation.before + 1 + gone) constant words.insts)) decoration word ≡ output_with (program_of words.insts) decoration word
outputs_are words v gone own type constant value f decoration word =
    let new = moved_up (v.derivation.before + 1 + gone) constant words.insts in
    let p = program_of new in let q = program_of words.insts in
    let test : is_output_with p decoration word ≡ is_output_with q decoration word =
    ap (λ (d : ℕ → ℕ → Option ℕ). λ (inst : Inst). (inst.op == op.VARIABLE) && (slice_index inst.words 2 == storage_class.OUTPUT) && is_number word (d (slice_index inst.words 1) decoration)) (decorations_are words v gone own type constant value f) in
    ap (λ (t : Inst → Bool). option_map (λ (inst : Inst). slice_index inst.words 1) (find t p.insts)) test
    ∙ ap (λ (l : List Inst). option_map (λ (inst : Inst). slice_index inst.words 1) (find (is_output_with q decoration word) l)) (same_insts new)
    ∙ ap (option_map (λ (inst : Inst). slice_index inst.words 1)) (module_found words v gone own type constant value f op.VARIABLE no_scalars.variable f.no_variable (is_output_with q decoration word) (λ inst isnt. rw isnt refl))
    ∙ ap (λ (l : List Inst). option_map (λ (inst : Inst). slice_index inst.words 1) (find (is_output_with q decoration word) l)) (sym (same_insts words.insts))

pub alike_folded : (words : Words) (v : IsValidList words) (gone own type : ℕ) (constant : Inst) (value : Value) → IsFolded words v gone own type constant value
    → AreProgramsAlike (program_of (moved_up (v.derivation.before + 1 + gone) constant words.insts)) (program_of words.insts)
alike_folded words v gone own type constant value f =
    let insts = words.insts in let new = moved_up (v.derivation.before + 1 + gone) constant insts in
    let a = program_has new in let b = program_has insts in
    record {
      mean = record {
        meaning = λ id. ap (λ (m : ℕ → Meaning). plainly (m id)) a.0 ∙ meaning_moved_up insts v.derivation gone own type constant f.moves id ∙ sym (ap (λ (m : ℕ → Meaning). plainly (m id)) b.0);
        layout = a.1 ∙ layouts_moved_up insts v.derivation gone own type constant f.moves ∙ sym b.1;
      };
      decoration = λ id decoration isnt. ap (λ (d : ℕ → ℕ → Option ℕ). d id decoration) (decorations_are words v gone own type constant value f);
      offset = offsets_are words v gone own type constant value f;
      output = λ decoration word isnt. outputs_are words v gone own type constant value f decoration word;
    }

-- ---- the values

constant_same : (p q : Program) → p.layout ≡ q.layout → p.decoration ≡ q.decoration → (entries : SpecValues) (values : Values) (opcode : ℕ) (words : List ℕ) → constant_of p entries values opcode words ≡ constant_of q entries values opcode words
unfolding constant_of
constant_same p q layout decoration entries values opcode [] = refl
constant_same p q layout decoration entries values opcode (type ∷ []) = refl
constant_same p q layout decoration entries values opcode (type ∷ id ∷ words) =
    let s : specialized p entries id ≡ specialized q entries id = ap (λ (d : ℕ → ℕ → Option ℕ). option_and_then (entry_word entries.entries) (d id SPEC_ID)) decoration in
    rw s (rw (ap (λ (l : ℕ → Option Layout). l type) layout) refl)

definitions_same : (p q : Program) → p.layout ≡ q.layout → p.decoration ≡ q.decoration → (entries : SpecValues) → with_definition p entries ≡ with_definition q entries
definitions_same p q layout decoration entries = fun_ext (λ values. fun_ext (λ inst. rw (constant_same p q layout decoration entries values inst.op inst.words) refl))

no_function_value : defines_op op.FUNCTION ≡ false
unfolding class_of entry_of
no_function_value = refl

passes_function : (program : Program) (entries : SpecValues) (values : Values) (inst : Inst) → inst.op ≡ op.FUNCTION → with_definition program entries values inst ≡ values
passes_function program entries values inst is = with_none program entries values inst (no_value program entries values inst.op inst.words (ap defines_op is ∙ no_function_value))

take_front : (level rest : List Inst) (a b : Inst) (n : ℕ) → length level ≡ n → take (n + 2) (level ++ (a ∷ b ∷ rest)) ≡ level ++ (a ∷ b ∷ [])
take_front [] rest a b n is = ap (λ (k : ℕ). take k (a ∷ b ∷ rest)) {x = n + 2} {y = suc (suc zero)} (omega (arith, is))
take_front (x ∷ level) rest a b zero is = absurd (omega (arith, is))
take_front (x ∷ level) rest a b (suc n) is =
    ap (λ (k : ℕ). take k (x ∷ (level ++ (a ∷ b ∷ rest)))) {x = suc n + 2} {y = suc (n + 2)} (omega arith) ∙ ap (λ (l : List Inst). x ∷ l) (take_front level rest a b n (omega (arith, is)))

pub function_op : (insts : List Inst) (d : Derives insts) → (inst_at insts d.before).op ≡ op.FUNCTION
function_op insts d = by_found (slice_get insts d.before) refl d.begins.function
  where
    by_found : (found : Option Inst) → slice_get insts d.before ≡ found → IsOp op.FUNCTION found → (inst_at insts d.before).op ≡ op.FUNCTION
    by_found None at is = absurd is
    by_found (Some inst) at is = ap (λ (i : Inst). i.op) (get_or_from_slice_get insts d.before inst no_instruction at) ∙ is

-- behind the level the constant has its value, and all else is as before
values_folded : (words : Words) (v : IsValidList words) (gone own type : ℕ) (constant : Inst) (value : Value) → IsFolded words v gone own type constant value → (entries : SpecValues)
    → defined_by (program_of (moved_up (v.derivation.before + 1 + gone) constant words.insts)) entries (take (v.derivation.before + 2) (program_of (moved_up (v.derivation.before + 1 + gone) constant words.insts)).insts)
    ≡ with_value own (Some value) (defined_by (program_of words.insts) entries (take (v.derivation.before + 1) (program_of words.insts).insts))
unfolding defined_by
values_folded words v gone own type constant value f entries =
    let insts = words.insts in let d = v.derivation in
    let new = moved_up (d.before + 1 + gone) constant insts in
    let p = program_of new in let q = program_of insts in
    let alike = alike_folded words v gone own type constant value f in
    let level = take d.before insts in
    let fn = inst_at insts d.before in
    let within = within_list op.FUNCTION insts d.before d.begins.function in
    let g : Values → Inst → Values = with_definition q entries in
    let at_level : Values = fold g no_values level in
    let front : take (d.before + 2) p.insts ≡ level ++ (constant ∷ fn ∷ []) =
    ap (take (d.before + 2)) (same_insts new ∙ moved_up_is insts d gone constant) ∙ take_front level (without_one gone (drop (d.before + 1) insts)) constant fn d.before (length-take-le d.before insts (omega (arith, within))) in
    let old_front : take (d.before + 1) q.insts ≡ level ++ (fn ∷ []) = ap (take (d.before + 1)) (same_insts insts) ∙ take_more insts d.before no_instruction within in
    let own_is : with_definition q entries at_level constant ≡ with_value own (Some value) at_level =
    with_one q entries at_level constant value (f.gives_value q entries at_level) ∙ ap (λ (n : ℕ). with_value n (Some value) at_level) f.constant_id in
    ap (λ (h : Values → Inst → Values). fold h no_values (take (d.before + 2) p.insts)) (definitions_same p q alike.mean.layout (decorations_are words v gone own type constant value f) entries)
    ∙ ap (fold g no_values) front ∙ fold-append g no_values level (constant ∷ fn ∷ [])
    ∙ passes_function q entries (g at_level constant) fn (function_op insts d) ∙ own_is
    ∙ ap (with_value own (Some value)) (sym (ap (fold g no_values) old_front ∙ fold-append g no_values level (fn ∷ []) ∙ passes_function q entries at_level fn (function_op insts d)))

unknown_yet : (words : Words) (v : IsValidList words) (gone own type : ℕ) (constant : Inst) (value : Value) → IsFolded words v gone own type constant value → (entries : SpecValues)
    → defined_by (program_of words.insts) entries (take (v.derivation.before + 1) (program_of words.insts).insts) own ≡ None
unknown_yet words v gone own type constant value f entries =
    let insts = words.insts in
    let n = v.derivation.before + 1 in
    ap (λ (l : List Inst). defined_by (program_of insts) entries (take n l) own) (same_insts insts)
    ∙ none_before (program_of insts) entries (take n insts) own (λ k less.
    let w = f.moves.within in let long = length-take-le n insts in
    let early : k < n = omega (arith, less, long, w) in
    ap (gives own) (get_or-take n insts k no_instruction early)
    ∙ only_there words v.sound (n + gone) k own w (omega (arith, early, w)) f.result_is (λ same. absurd (omega (arith, same, early))))

start_beside : (own : ℕ) (value : Value) (values : Values) (memory : Memory) → first_state (with_value own (Some value) values) memory ≡ beside own value (first_state values memory) 0
unfolding first_state beside
start_beside own value values memory = refl

first_has : (values : Values) (memory : Memory) → ((first_state values memory).values ≡ values) × ((first_state values memory).values_at_entry ≡ values) × ((first_state values memory).steps ≡ 0)
unfolding first_state
first_has values memory = (refl, refl, refl)

-- With a scalar operation folded whose operands are of the module's level, the list does what it does, with the same entries.
pub folded_does : (words : Words) (v : IsValidList words) (gone own type : ℕ) (constant : Inst) (value : Value) → IsFolded words v gone own type constant value → (entries : SpecValues) → ComputesTo words v gone value entries
    → (inputs : Inputs) (buffers : Buffers)
    → KeepsOutcome (stage (moved_up (v.derivation.before + 1 + gone) constant words.insts) (given entries inputs buffers)) (stage words.insts (given entries inputs buffers))
folded_does words v gone own type constant value f entries c inputs buffers =
    let insts = words.insts in let d = v.derivation in
    let place = d.before + 1 + gone in
    let x = inst_at insts place in
    let new = moved_up place constant insts in
    let p = program_of new in let q = program_of insts in
    let alike = alike_folded words v gone own type constant value f in
    let values = defined_by q entries (take (d.before + 1) q.insts) in
    let memory = first_memory q inputs buffers in
    let no_label = another is_scalar op.LABEL no_scalars.label x.op f.scalar in
    let old : (start_at q (given entries inputs buffers) (d.before + 1)).state ≡ first_state values memory = starts_in insts (given entries inputs buffers) (d.before + 1) in
    let h = first_has values memory in
    let start : (start_at p (given entries inputs buffers) (d.before + 2)).state ≡ beside own value (start_at q (given entries inputs buffers) (d.before + 1)).state 0 =
    starts_in new (given entries inputs buffers) (d.before + 2)
    ∙ ap (λ (w : Values). first_state w (first_memory p inputs buffers)) (values_folded words v gone own type constant value f entries)
    ∙ ap (first_state (with_value own (Some value) values)) (memory_same p q alike inputs buffers)
    ∙ start_beside own value values memory ∙ ap (λ (s : State). beside own value s 0) (sym old) in
    let none = unknown_yet words v gone own type constant value f entries in
    known_result_keeps words v new alike (d.before + 2) gone own value (OperandsAre (words_from 2 x) values) (first_label_moved_up insts d gone constant f.no_label no_label f.moves.within)
    (leaves_out_moved_up insts d gone constant f.no_label no_label f.moves.within)
    (operation_known words v place own value values c.reads f.moves.within f.result_is f.id f.scalar c.are c.is f.level)
    (given entries inputs buffers) (given entries inputs buffers) start (ap (λ (s : State). s.steps) old ∙ h.2)
    (record {
      now = inl (ap (λ (s : State). s.values own) old ∙ ap (λ (w : Values). w own) h.0 ∙ none);
      entry = inl (ap (λ (s : State). s.values_at_entry own) old ∙ ap (λ (w : Values). w own) h.1 ∙ none);
    })
    (λ id among. ap (λ (s : State). s.values id) old ∙ ap (λ (w : Values). w id) h.0)
