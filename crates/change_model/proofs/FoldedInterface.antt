-- A scalar operation that is folded leaves the interface of its module, and what is asked of entry points and locations.
use Rattle.std.proofs.Common.{◌≡◌, ℕ, zero, suc, ◌+◌, ◌<◌, ◌==◌, ◌&&◌, ◌||◌, Bool, true, false, cond, if◌then◌else◌, List, [], ◌∷◌, ◌++◌, length, take, drop, map, refl, ap, sym, ◌∙◌, arith, length-drop, take-append-drop, Option, None, Some}
use Rattle.std.proofs.Math.Path.{fun_ext}
use Rattle.std.specs.Prelude.{not, nat_le, filter, is_some}
use Rattle.std.specs.Option.{option_map, option_and_then}
use Rattle.std.specs.List.{find, list_any, range_with_len}
use Rattle.std.proofs.lemmas.List.{drop_more, get_or-drop}
use Rattle.limits.specs.declared.TheConstants.{LOCATIONS}
use Rattle.spirv_model.specs.declared.module.Inst.{Inst}
use Rattle.spirv_model.specs.declared.module.Words.{Words}
use Rattle.spirv_model.specs.declared.op.TheConstants as op
use Rattle.spirv_model.specs.declared.decoration.TheConstants.{LOCATION, FLAT}
use Rattle.spirv_model.specs.declared.execution_model.TheConstants.{VERTEX}
use Rattle.spirv_model.specs.declared.storage_class.TheConstants as storage_class
use Rattle.spirv_model.specs.Operands.{word_at, entry_of, class_of}
use Rattle.body_model.specs.Grammar.{Derives}
use Rattle.body_model.proofs.ModuleLevels.{within_list}
use Rattle.state_model.specs.declared.iface.Slot.{Slot}
use Rattle.state_model.specs.declared.parts.SpecValues.{SpecValues}
use Rattle.valid_model.specs.declared.meaning.Meaning.{Meaning}
use Rattle.valid_model.specs.declared.meaning.Meaning.TheVariants.{Absent, Shape as OfShape, Constant, Variable, Value as OfValue, Label, Other}
use Rattle.valid_model.specs.Definitions.{inst_at, no_instruction}
use Rattle.valid_model.specs.EarlierFacts.{is_variable_of}
use Rattle.valid_model.specs.ModuleFacts.{ModuleFacts, facts_of, model_of, is_entry, is_vertex, is_word}
use Rattle.valid_model.specs.Shapes.{pointee_id, pointee, held_type}
use Rattle.check_model.specs.EntryPoints.{is_op_function, function_id, entry_points, is_one_entry, bad_entry_count}
use Rattle.check_model.specs.Interfaces.{is_variable_at, lowest_location, is_smooth, has_smooth_input, not_flat, are_two, location_twice, stage_of, slot_in, slot_of_variable, slot_at, inputs_of, outputs_of}
use Rattle.check_model.specs.Validity.{IsValidList}
use Rattle.stage_model.specs.Value.{Value}
use Rattle.stage_model.specs.Program.{Program, program_of}
use Rattle.stage_model.specs.Start.{no_values, constant_of}
use Rattle.typed_model.proofs.BlockParts.{another}
use Rattle.change_model.specs.Folding.{moved_up}
use Rattle.change_model.specs.Keeping.{HasInterfaceOf}
use Rattle.change_model.specs.Programs.{plainly}
use Rattle.change_model.proofs.FoldedKeeps.{IsFolded, no_scalars, module_found, decorations_are, alike_folded}
use Rattle.change_model.proofs.FoldedRuns.{is_scalar}
use Rattle.change_model.proofs.KnownResults.{without_one}
use Rattle.change_model.proofs.MovedUp.{moved_up_is}
use Rattle.change_model.proofs.SettledValues.{defines_op, no_value}
use Rattle.change_model.proofs.Settlings.{op_is}

-- ---- what passes a test

filter_behind : (p : Inst → Bool) (xs ys zs : List Inst) → filter p ys ≡ filter p zs → filter p (xs ++ ys) ≡ filter p (xs ++ zs)
filter_behind p [] ys zs is = is
filter_behind p (x ∷ xs) ys zs is = ap (λ (l : List Inst). cond (p x) (x ∷ l) l) (filter_behind p xs ys zs is)

filter_without : (p : Inst → Bool) (insts : List Inst) (gone : ℕ) → p (inst_at insts gone) ≡ false → gone < length insts → filter p (without_one gone insts) ≡ filter p insts
unfolding without_one
filter_without p [] gone isnt within = absurd (omega (arith, within))
filter_without p (inst ∷ insts) zero isnt within = sym (ap (λ (b : Bool). cond b (inst ∷ filter p insts) (filter p insts)) isnt)
filter_without p (inst ∷ insts) (suc gone) isnt within = ap (λ (l : List Inst). cond (p inst) (inst ∷ l) l) (filter_without p insts gone isnt (omega (arith, within)))

-- all instructions that pass a test are the same, where the constant and the instruction that is gone don't pass it
pub filter_moved_up : (p : Inst → Bool) (insts : List Inst) (d : Derives insts) (gone : ℕ) (constant : Inst) → p constant ≡ false → p (inst_at insts (d.before + 1 + gone)) ≡ false → d.before + 1 + gone < length insts
    → filter p (moved_up (d.before + 1 + gone) constant insts) ≡ filter p insts
filter_moved_up p insts d gone constant isnt also within =
    let here = within_list op.FUNCTION insts d.before d.begins.function in
    let rest = drop (d.before + 1) insts in
    let fn = inst_at insts d.before in
    let e = length-drop (d.before + 1) insts in
    ap (filter p) (moved_up_is insts d gone constant)
    ∙ filter_behind p (take d.before insts) (constant ∷ fn ∷ without_one gone rest) (fn ∷ rest)
    (ap (λ (b : Bool). cond b (constant ∷ filter p (fn ∷ without_one gone rest)) (filter p (fn ∷ without_one gone rest))) isnt
    ∙ ap (λ (l : List Inst). cond (p fn) (fn ∷ l) l) (filter_without p rest gone (ap p (get_or-drop (d.before + 1) insts gone no_instruction) ∙ also) (omega (arith, e, within))))
    ∙ ap (λ (l : List Inst). filter p (take d.before insts ++ l)) (sym (drop_more insts d.before no_instruction here)) ∙ ap (filter p) (take-append-drop d.before insts)

-- ---- the constant and the operation are neither entry points nor variables

abbrev no_entries : SpecValues
no_entries = record { entries = [] }

never : (found : Option Value) (value : Value) → found ≡ None → found ≡ Some value → ⊥
never found value none some = cc

constant_differs : (words : Words) (v : IsValidList words) (gone own type : ℕ) (constant : Inst) (value : Value) → IsFolded words v gone own type constant value → (opcode : ℕ) → defines_op opcode ≡ false → constant.op == opcode ≡ false
constant_differs words v gone own type constant value f opcode isnt = by_test (constant.op == opcode) refl
  where
    p : Program
    p = program_of words.insts

    by_test : (b : Bool) → constant.op == opcode ≡ b → b ≡ false
    by_test false other = refl
    by_test true same = absurd (never (constant_of p no_entries no_values constant.op constant.words) value
        (no_value p no_entries no_values constant.op constant.words (ap defines_op (op_is constant.op opcode same) ∙ isnt)) (f.gives_value p no_entries no_values))

record GivesNothing (opcode : ℕ) : Type 0 where
  scalar : is_scalar opcode ≡ false
  value : defines_op opcode ≡ false

entry_gives : GivesNothing op.ENTRY_POINT
unfolding class_of entry_of
entry_gives = record { scalar = refl; value = refl }

function_gives : GivesNothing op.FUNCTION
unfolding class_of entry_of
function_gives = record { scalar = refl; value = refl }

found_same : (words : Words) (v : IsValidList words) (gone own type : ℕ) (constant : Inst) (value : Value) → IsFolded words v gone own type constant value → (opcode : ℕ) → GivesNothing opcode
    → (p : Inst → Bool) → ((inst : Inst) → inst.op == opcode ≡ false → p inst ≡ false) → find p (moved_up (v.derivation.before + 1 + gone) constant words.insts) ≡ find p words.insts
found_same words v gone own type constant value f opcode g p none =
    module_found words v gone own type constant value f opcode g.scalar (constant_differs words v gone own type constant value f opcode g.value) p none

filtered_same : (words : Words) (v : IsValidList words) (gone own type : ℕ) (constant : Inst) (value : Value) → IsFolded words v gone own type constant value → (opcode : ℕ) → is_scalar opcode ≡ false → constant.op == opcode ≡ false
    → (p : Inst → Bool) → ((inst : Inst) → inst.op == opcode ≡ false → p inst ≡ false) → filter p (moved_up (v.derivation.before + 1 + gone) constant words.insts) ≡ filter p words.insts
filtered_same words v gone own type constant value f opcode no_scalar isnt p none =
    filter_moved_up p words.insts v.derivation gone constant (none constant isnt)
    (none (inst_at words.insts (v.derivation.before + 1 + gone)) (another is_scalar opcode no_scalar (inst_at words.insts (v.derivation.before + 1 + gone)).op f.scalar)) f.moves.within

-- ---- the entry point

pub entry_folded : (words : Words) (v : IsValidList words) (gone own type : ℕ) (constant : Inst) (value : Value) → IsFolded words v gone own type constant value
    → bad_entry_count (moved_up (v.derivation.before + 1 + gone) constant words.insts) ≡ bad_entry_count words.insts
unfolding bad_entry_count
entry_folded words v gone own type constant value f =
    let new = moved_up (v.derivation.before + 1 + gone) constant words.insts in
    ap (λ (l : List Inst). if is_one_entry (function_id new) l then None else Some (length l))
    (filtered_same words v gone own type constant value f op.ENTRY_POINT entry_gives.scalar (constant_differs words v gone own type constant value f op.ENTRY_POINT entry_gives.value) is_entry (λ inst isnt. isnt))
    ∙ ap (λ (o : Option Inst). if is_one_entry (option_map (word_at 1) o) (entry_points words.insts) then None else Some (length (entry_points words.insts)))
    (found_same words v gone own type constant value f op.FUNCTION function_gives is_op_function (λ inst isnt. isnt))

model_folded : (words : Words) (v : IsValidList words) (gone own type : ℕ) (constant : Inst) (value : Value) → IsFolded words v gone own type constant value
    → model_of (moved_up (v.derivation.before + 1 + gone) constant words.insts) ≡ model_of words.insts
unfolding model_of
model_folded words v gone own type constant value f = ap (option_map (word_at 0)) (found_same words v gone own type constant value f op.ENTRY_POINT entry_gives is_entry (λ inst isnt. isnt))

-- ---- the facts

-- constants aren't told from other values, and all else that an interface asks is the same
record SaySame (new old : ModuleFacts) : Type 0 where
  decoration : new.decoration ≡ old.decoration
  model : new.model ≡ old.model
  meaning : (id : ℕ) → plainly (new.meaning id) ≡ plainly (old.meaning id)

facts_are : (insts : List Inst) → ((facts_of insts).decoration ≡ (program_of insts).decoration) × ((facts_of insts).model ≡ model_of insts) × ((facts_of insts).meaning ≡ (program_of insts).meaning)
unfolding facts_of program_of
facts_are insts = (refl, refl, refl)

say_same : (words : Words) (v : IsValidList words) (gone own type : ℕ) (constant : Inst) (value : Value) → IsFolded words v gone own type constant value
    → SaySame (facts_of (moved_up (v.derivation.before + 1 + gone) constant words.insts)) (facts_of words.insts)
say_same words v gone own type constant value f =
    let new = moved_up (v.derivation.before + 1 + gone) constant words.insts in
    let a = facts_are new in let b = facts_are words.insts in
    record {
      decoration = a.0 ∙ decorations_are words v gone own type constant value f ∙ sym b.0;
      model = a.1 ∙ model_folded words v gone own type constant value f ∙ sym b.1;
      meaning = λ id. ap (λ (m : ℕ → Meaning). plainly (m id)) a.2 ∙ (alike_folded words v gone own type constant value f).mean.meaning id ∙ sym (ap (λ (m : ℕ → Meaning). plainly (m id)) b.2);
    }

variable_same : (new old : ModuleFacts) → SaySame new old → (storage location : ℕ) → is_variable_at new storage location ≡ is_variable_at old storage location
variable_same new old s storage location = ap (λ (d : ℕ → ℕ → Option ℕ). λ (inst : Inst). is_variable_of storage inst && is_word location (d (word_at 1 inst) LOCATION)) s.decoration

no_variable : (facts : ModuleFacts) (storage location : ℕ) (inst : Inst) → inst.op == op.VARIABLE ≡ false → is_variable_at facts storage location inst ≡ false
no_variable facts storage location inst isnt = rw isnt refl

-- ---- what variables hold

plain_slot : (m : Meaning) → slot_in (plainly m) ≡ slot_in m
plain_slot Absent = refl
plain_slot (OfShape shape) = refl
plain_slot (Constant type) = refl
plain_slot (Variable type storage) = refl
plain_slot (OfValue type) = refl
plain_slot Label = refl
plain_slot Other = refl

plain_pointee : (m : Meaning) → pointee_id (plainly m) ≡ pointee_id m
plain_pointee Absent = refl
plain_pointee (OfShape shape) = refl
plain_pointee (Constant type) = refl
plain_pointee (Variable type storage) = refl
plain_pointee (OfValue type) = refl
plain_pointee Label = refl
plain_pointee Other = refl

pointee_slot : (new old : ModuleFacts) → SaySame new old → (to : Option ℕ) → slot_in (pointee new to) ≡ slot_in (pointee old to)
pointee_slot new old s None = refl
pointee_slot new old s (Some to) = sym (plain_slot (new.meaning to)) ∙ ap slot_in (s.meaning to) ∙ plain_slot (old.meaning to)

held_slot : (new old : ModuleFacts) → SaySame new old → (type : ℕ) → slot_in (held_type new type) ≡ slot_in (held_type old type)
held_slot new old s type =
    ap (λ (to : Option ℕ). slot_in (pointee new to)) (sym (plain_pointee (new.meaning type)) ∙ ap pointee_id (s.meaning type) ∙ plain_pointee (old.meaning type))
    ∙ pointee_slot new old s (pointee_id (old.meaning type))

-- ---- the interface

slots_of : ModuleFacts → List Inst → ℕ → List (Option Slot)
slots_of facts insts storage = map (slot_at facts insts storage) (range_with_len 0 LOCATIONS)

slots_same : (words : Words) (v : IsValidList words) (gone own type : ℕ) (constant : Inst) (value : Value) → IsFolded words v gone own type constant value → (storage : ℕ)
    → slots_of (facts_of (moved_up (v.derivation.before + 1 + gone) constant words.insts)) (moved_up (v.derivation.before + 1 + gone) constant words.insts) storage ≡ slots_of (facts_of words.insts) words.insts storage
unfolding slots_of
slots_same words v gone own type constant value f storage =
    let new = moved_up (v.derivation.before + 1 + gone) constant words.insts in
    let n = facts_of new in let o = facts_of words.insts in
    let s = say_same words v gone own type constant value f in
    ap (λ (t : ℕ → Option Slot). map t (range_with_len 0 LOCATIONS)) (fun_ext (λ location.
    ap (λ (t : Inst → Bool). option_and_then (slot_of_variable n) (find t new)) (variable_same n o s storage location)
    ∙ ap (option_and_then (slot_of_variable n))
    (module_found words v gone own type constant value f op.VARIABLE no_scalars.variable f.no_variable (is_variable_at o storage location) (no_variable o storage location))
    ∙ ap (λ (t : Inst → Option Slot). option_and_then t (find (is_variable_at o storage location) words.insts)) (fun_ext (λ inst. held_slot n o s (word_at 0 inst)))))

inputs_are : (insts : List Inst) → inputs_of insts ≡ record { slots = slots_of (facts_of insts) insts storage_class.INPUT }
unfolding inputs_of slots_of
inputs_are insts = refl

outputs_are : (insts : List Inst) → outputs_of insts ≡ record { slots = slots_of (facts_of insts) insts storage_class.OUTPUT }
unfolding outputs_of slots_of
outputs_are insts = refl

vertex_same : (new old : ModuleFacts) → SaySame new old → is_vertex new ≡ is_vertex old
vertex_same new old s = ap (is_word VERTEX) s.model

stage_folded : (words : Words) (v : IsValidList words) (gone own type : ℕ) (constant : Inst) (value : Value) → IsFolded words v gone own type constant value
    → stage_of (moved_up (v.derivation.before + 1 + gone) constant words.insts) ≡ stage_of words.insts
unfolding stage_of
stage_folded words v gone own type constant value f =
    rw (vertex_same (facts_of (moved_up (v.derivation.before + 1 + gone) constant words.insts)) (facts_of words.insts) (say_same words v gone own type constant value f)) refl

-- stage, inputs and outputs are the same
pub interface_folded : (words : Words) (v : IsValidList words) (gone own type : ℕ) (constant : Inst) (value : Value) → IsFolded words v gone own type constant value
    → HasInterfaceOf (moved_up (v.derivation.before + 1 + gone) constant words.insts) words.insts
interface_folded words v gone own type constant value f =
    let new = moved_up (v.derivation.before + 1 + gone) constant words.insts in
    record {
      stage = stage_folded words v gone own type constant value f;
      inputs = inputs_are new ∙ ap (λ (l : List (Option Slot)). record { slots = l }) (slots_same words v gone own type constant value f storage_class.INPUT) ∙ sym (inputs_are words.insts);
      outputs = outputs_are new ∙ ap (λ (l : List (Option Slot)). record { slots = l }) (slots_same words v gone own type constant value f storage_class.OUTPUT) ∙ sym (outputs_are words.insts);
    }

-- ---- locations

variables_same : (words : Words) (v : IsValidList words) (gone own type : ℕ) (constant : Inst) (value : Value) → IsFolded words v gone own type constant value → (storage location : ℕ)
    → filter (is_variable_at (facts_of (moved_up (v.derivation.before + 1 + gone) constant words.insts)) storage location) (moved_up (v.derivation.before + 1 + gone) constant words.insts)
    ≡ filter (is_variable_at (facts_of words.insts) storage location) words.insts
variables_same words v gone own type constant value f storage location =
    let new = moved_up (v.derivation.before + 1 + gone) constant words.insts in
    let o = facts_of words.insts in
    ap (λ (t : Inst → Bool). filter t new) (variable_same (facts_of new) o (say_same words v gone own type constant value f) storage location)
    ∙ filtered_same words v gone own type constant value f op.VARIABLE no_scalars.variable f.no_variable (is_variable_at o storage location) (no_variable o storage location)

smooth_same : (new old : ModuleFacts) → SaySame new old → is_smooth new ≡ is_smooth old
smooth_same new old s = ap (λ (d : ℕ → ℕ → Option ℕ). λ (inst : Inst). not (is_some (d (word_at 1 inst) FLAT))) s.decoration

pub flat_folded : (words : Words) (v : IsValidList words) (gone own type : ℕ) (constant : Inst) (value : Value) → IsFolded words v gone own type constant value
    → not_flat (moved_up (v.derivation.before + 1 + gone) constant words.insts) ≡ not_flat words.insts
unfolding not_flat
flat_folded words v gone own type constant value f =
    let new = moved_up (v.derivation.before + 1 + gone) constant words.insts in
    let n = facts_of new in let o = facts_of words.insts in
    let s = say_same words v gone own type constant value f in
    ap (λ (b : Bool). if b then None else lowest_location (has_smooth_input n new)) (vertex_same n o s)
    ∙ ap (λ (t : ℕ → Bool). if is_vertex o then None else lowest_location t) (fun_ext (λ location.
    ap (λ (t : Inst → Bool). list_any t (filter (is_variable_at n storage_class.INPUT location) new)) (smooth_same n o s)
    ∙ ap (list_any (is_smooth o)) (variables_same words v gone own type constant value f storage_class.INPUT location)))

pub locations_folded : (words : Words) (v : IsValidList words) (gone own type : ℕ) (constant : Inst) (value : Value) → IsFolded words v gone own type constant value
    → location_twice (moved_up (v.derivation.before + 1 + gone) constant words.insts) ≡ location_twice words.insts
unfolding location_twice
locations_folded words v gone own type constant value f =
    let new = moved_up (v.derivation.before + 1 + gone) constant words.insts in
    let n = facts_of new in let o = facts_of words.insts in
    let two : (storage location : ℕ) → are_two n new storage location ≡ are_two o words.insts storage location = λ storage location.
    ap (λ (l : List Inst). nat_le 2 (length l)) (variables_same words v gone own type constant value f storage location) in
    ap lowest_location (fun_ext (λ location.
    ap (λ (b : Bool). b || are_two n new storage_class.OUTPUT location) (two storage_class.INPUT location)
    ∙ ap (λ (b : Bool). are_two o words.insts storage_class.INPUT location || b) (two storage_class.OUTPUT location)))
