-- Decorations and variables are allowed in the list that a plan makes.
use Rattle.std.proofs.Common.{◌≡◌, ℕ, ◌<◌, ◌≤◌, ◌==◌, ◌&&◌, ◌||◌, not, inl, inr, Bool, true, false, if◌then◌else◌, List, length, take, refl, ap, sym, ◌∙◌, arith, Option, None, Some}
use Rattle.std.specs.Option.{option_map}
use Rattle.std.specs.List.{list_any}
use Rattle.std.proofs.lemmas.Bool.{cases_lt}
use Rattle.spirv_model.specs.declared.module.Inst.{Inst}
use Rattle.spirv_model.specs.declared.class.Class.{Class}
use Rattle.spirv_model.specs.declared.class.Class.TheVariants as class
use Rattle.spirv_model.specs.declared.op.TheConstants as op
use Rattle.spirv_model.specs.declared.decoration.TheConstants.{SPEC_ID, BUILT_IN, BINDING, DESCRIPTOR_SET}
use Rattle.spirv_model.specs.declared.builtin.TheConstants as builtin
use Rattle.spirv_model.specs.declared.storage_class.TheConstants as storage_class
use Rattle.spirv_model.specs.Operands.{word_at, entry_of, class_of}
use Rattle.body_model.specs.Classes.{is_plain_class, is_terminator_class}
use Rattle.valid_model.specs.declared.meaning.IdFacts.{IdFacts}
use Rattle.valid_model.specs.declared.meaning.Meaning.{Meaning}
use Rattle.valid_model.specs.declared.meaning.Meaning.TheVariants.{Variable, Value as OfValue, Label, Other}
use Rattle.valid_model.specs.DecorationWords.{is_listed, decorates, places_member}
use Rattle.valid_model.specs.Decorations.{is_out_of_range, repeats, bad_decorate, bad_member_decorate, breaks_decorations, bad_decoration}
use Rattle.valid_model.specs.Definitions.{inst_at, definition}
use Rattle.valid_model.specs.EarlierFacts.{EarlierFacts, has_spec_id, is_variable_of, before_of}
use Rattle.valid_model.specs.Knowledge.{is_bool, is_integer, is_storage_class, meaning_in, means}
use Rattle.valid_model.specs.Meanings.{known_before, meaning}
use Rattle.valid_model.specs.ModuleFacts.{ModuleFacts, facts_of, opcode_at, opcode_of, is_vertex, is_word, is_spec_class, is_spec_op}
use Rattle.valid_model.specs.BuiltIns.{takes_built_in}
use Rattle.valid_model.specs.Shapes.{held_type, is_position_type}
use Rattle.valid_model.specs.Variables.{bad_variable}
use Rattle.valid_model.proofs.KnownIds.{unknown_without_definition}
use Rattle.typed_model.proofs.BlockParts.{clash}
use Rattle.typed_model.proofs.ModuleValues.{meaning_at}
use Rattle.typed_model.proofs.ValidTypes.{keeps_decorations, defined_within}
use Rattle.change_model.specs.Folding.{function_at}
use Rattle.change_model.specs.Plans.{changed}
use Rattle.change_model.proofs.BehindLevel.{FailsInFunction, fails_function}
use Rattle.change_model.proofs.ChangedDefinitions.{level_defined}
use Rattle.change_model.proofs.ChangedMeanings.{level_before, level_inst, level_known, alone_old}
use Rattle.change_model.proofs.ChangedPlaces.{function_within}
use Rattle.change_model.proofs.ChangedShapes.{SaySame, facts_changed}
use Rattle.change_model.proofs.ChangedVariables.{variable_old}
use Rattle.change_model.proofs.FunctionKnown.{function_facts, function_known}
use Rattle.change_model.proofs.Planned.{Planned}
use Rattle.change_model.proofs.SameFacts.{variable_judged, built_in_same}
use Rattle.change_model.proofs.Settlings.{op_is}

-- ---- what stands before

before_by : (ℕ → ℕ → Option ℕ) → List Inst → EarlierFacts
before_by decoration insts = record {
  decoration = λ id decoration. list_any (decorates id decoration) insts;
  offset = λ id member. list_any (places_member id member) insts;
  spec_id = λ number. list_any (has_spec_id number) insts;
  slot = λ set binding. list_any (λ (inst : Inst). is_variable_of storage_class.UNIFORM inst && is_word set (decoration (word_at 1 inst) DESCRIPTOR_SET) && is_word binding (decoration (word_at 1 inst) BINDING)) insts;
  push = list_any (is_variable_of storage_class.PUSH_CONSTANT) insts;
  position = list_any (λ (inst : Inst). (inst.op == op.VARIABLE) && is_word builtin.POSITION (decoration (word_at 1 inst) BUILT_IN)) insts;
}

before_is : (facts : ModuleFacts) (insts : List Inst) → before_of facts insts ≡ before_by facts.decoration insts
unfolding before_of before_by
before_is facts insts = refl

before_same : (new old : ModuleFacts) → SaySame new old → (insts : List Inst) → before_of new insts ≡ before_of old insts
before_same new old s insts = before_is new insts ∙ ap (λ (d : ℕ → ℕ → Option ℕ). before_by d insts) s.decoration ∙ sym (before_is old insts)

-- ---- specialization constants

spec_plain : (of : Option Class) → is_plain_class of ≡ true → is_spec_class of ≡ false
spec_plain None is = cc
spec_plain (Some class.SpecConstant) is = cc
spec_plain (Some other) is = refl

spec_terminator : (of : Option Class) → is_terminator_class of ≡ true → is_spec_class of ≡ false
spec_terminator None is = cc
spec_terminator (Some class.SpecConstant) is = cc
spec_terminator (Some other) is = refl

spec_fails : FailsInFunction is_spec_class
unfolding class_of entry_of
spec_fails = record { label = refl; phi = refl; variable = refl; selection_merge = refl; loop_merge = refl; function = refl; function_end = refl; plain = spec_plain; terminator = spec_terminator }

spec_stays : (g : Planned) (id : ℕ) → is_spec_op (opcode_of g.words.insts id) ≡ true → is_spec_op (opcode_of (changed g.plan g.words.insts) id) ≡ true
unfolding opcode_of
spec_stays g id is = by_found (definition g.words.insts id) refl is
  where
    list : List Inst
    list = changed g.plan g.words.insts

    by_found : (found : Option ℕ) → definition g.words.insts id ≡ found → is_spec_op (option_map (opcode_at g.words.insts) found) ≡ true → is_spec_op (option_map (opcode_at (changed g.plan g.words.insts)) (definition (changed g.plan g.words.insts) id)) ≡ true
    by_found None at is = cc
    by_found (Some q) at is = elim (cases_lt q (function_at g.words.insts)) [
      | inl low ↦ ap (λ (o : Option ℕ). is_spec_op (option_map (opcode_at list) o)) (level_defined g id q at low) ∙ ap (λ (i : Inst). is_spec_class (class_of i.op)) (level_inst g q low) ∙ is
      | inr late ↦ absurd (clash (is_spec_class (class_of (inst_at g.words.insts q).op)) is (fails_function g is_spec_class spec_fails q late (defined_within g.words.insts id q at)))
    ]

-- ---- built-ins

function_takes_none : (number : ℕ) (vertex : Bool) (type : ℕ) (facts : ModuleFacts) → takes_built_in facts number (Variable type storage_class.FUNCTION) ≡ false
function_takes_none number vertex type facts =
    by_tests (number == builtin.VERTEX_INDEX) (number == builtin.INSTANCE_INDEX) (number == builtin.POSITION) (number == builtin.FRAG_COORD) (number == builtin.FRONT_FACING) (is_vertex facts)
  where
    by_tests : (a b c d e v : Bool) → (if a || b then v && false && is_integer (held_type facts type) else if c then v && false && is_position_type (held_type facts type)
        else if d then not v && false && is_position_type (held_type facts type) else if e then not v && false && is_bool (held_type facts type) else false) ≡ false
    by_tests true b c d e true = refl
    by_tests true b c d e false = refl
    by_tests false true c d e true = refl
    by_tests false true c d e false = refl
    by_tests false false true d e true = refl
    by_tests false false true d e false = refl
    by_tests false false false true e true = refl
    by_tests false false false true e false = refl
    by_tests false false false false true true = refl
    by_tests false false false false true false = refl
    by_tests false false false false false v = refl

facts_take_none : (facts : ModuleFacts) (number : ℕ) (inst : Inst) → (inst.op == op.VARIABLE ≡ true → word_at 2 inst == storage_class.FUNCTION ≡ true) → takes_built_in facts number (function_facts inst).meaning ≡ false
facts_take_none facts number inst class = by_tests (inst.op == op.VARIABLE) (inst.op == op.LABEL) ((inst.op == op.FUNCTION) || (inst.op == op.EXT_INST_IMPORT)) class
  where
    by_class : word_at 2 inst ≡ storage_class.FUNCTION → takes_built_in facts number (if is_storage_class (word_at 2 inst) then Variable (word_at 0 inst) (word_at 2 inst) else Other) ≡ false
    by_class is =
        ap (λ (n : ℕ). takes_built_in facts number (if is_storage_class n then Variable (word_at 0 inst) n else Other)) is ∙ function_takes_none number true (word_at 0 inst) facts

    by_tests : (a b c : Bool) → (a ≡ true → word_at 2 inst == storage_class.FUNCTION ≡ true)
        → takes_built_in facts number (if a then means (if is_storage_class (word_at 2 inst) then Variable (word_at 0 inst) (word_at 2 inst) else Other) else means (if b then Label else if c then Other else OfValue (word_at 0 inst))).meaning ≡ false
    by_tests true b c class = by_class (op_is (word_at 2 inst) storage_class.FUNCTION (class refl))
    by_tests false true c class = refl
    by_tests false false true class = refl
    by_tests false false false class = refl

built_in_stays : (g : Planned) (facts : ModuleFacts) (number id : ℕ) → takes_built_in facts number (meaning g.words.insts id) ≡ true → takes_built_in facts number (meaning (changed g.plan g.words.insts) id) ≡ true
built_in_stays g facts number id is = by_found (definition insts id) refl
  where
    insts : List Inst
    insts = g.words.insts

    by_found : (found : Option ℕ) → definition insts id ≡ found → takes_built_in facts number (meaning (changed g.plan g.words.insts) id) ≡ true
    by_found None at = absurd (clash (takes_built_in facts number (meaning insts id)) is (ap (λ (o : Option IdFacts). takes_built_in facts number (meaning_in o)) (unknown_without_definition insts id at)))
    by_found (Some q) at = elim (cases_lt q (function_at insts)) [
      | inl low ↦ ap (λ (o : Option IdFacts). takes_built_in facts number (meaning_in o)) (level_known g id q at low) ∙ is
      | inr late ↦
          let within = defined_within insts id q at in
          let alone = alone_old g q late within in
          absurd (clash (takes_built_in facts number (meaning insts id)) is
          (ap (takes_built_in facts number) (meaning_at insts q id at ∙ ap (λ (f : IdFacts). f.meaning) (function_known (known_before insts q) (inst_at insts q) alone.0 alone.1))
          ∙ facts_take_none facts number (inst_at insts q) (variable_old g q late within)))
    ]

-- ---- decorations

either : (a b : Bool) → (a || b) ≡ false → (a ≡ false) × (b ≡ false)
either true b is = cc
either false b is = (refl, is)

none_of : (a b : Bool) → a ≡ false → b ≡ false → (a || b) ≡ false
none_of true b is also = cc
none_of false b is also = also

-- what isn't the case on the old side isn't on the new one, where a property is kept
kept_off : (test new old : Bool) → (old ≡ true → new ≡ true) → (test && not old) ≡ false → (test && not new) ≡ false
kept_off true new true keeps is = ap not (keeps refl)
kept_off true new false keeps is = cc
kept_off false new old keeps is = refl

-- OpDecorate that was allowed
decorate_allowed : (new old : ModuleFacts) (before : EarlierFacts) (id decoration word words : ℕ) → (is_spec_op (old.opcode id) ≡ true → is_spec_op (new.opcode id) ≡ true)
    → (takes_built_in old word (old.meaning id) ≡ true → takes_built_in new word (new.meaning id) ≡ true)
    → bad_decorate old before id decoration word words ≡ false → bad_decorate new before id decoration word words ≡ false
unfolding bad_decorate
decorate_allowed new old before id decoration word words spec built is =
    let a = either (not (is_listed decoration words) || repeats before id decoration word || is_out_of_range decoration word || ((decoration == SPEC_ID) && not (is_spec_op (old.opcode id))))
    ((decoration == BUILT_IN) && not (takes_built_in old word (old.meaning id))) is in
    let b = either (not (is_listed decoration words) || repeats before id decoration word || is_out_of_range decoration word) ((decoration == SPEC_ID) && not (is_spec_op (old.opcode id))) a.0 in
    none_of (not (is_listed decoration words) || repeats before id decoration word || is_out_of_range decoration word || ((decoration == SPEC_ID) && not (is_spec_op (new.opcode id))))
    ((decoration == BUILT_IN) && not (takes_built_in new word (new.meaning id)))
    (none_of (not (is_listed decoration words) || repeats before id decoration word || is_out_of_range decoration word) ((decoration == SPEC_ID) && not (is_spec_op (new.opcode id)))
    b.0 (kept_off (decoration == SPEC_ID) (is_spec_op (new.opcode id)) (is_spec_op (old.opcode id)) spec b.1))
    (kept_off (decoration == BUILT_IN) (takes_built_in new word (new.meaning id)) (takes_built_in old word (old.meaning id)) built a.1)

-- an instruction of the module's level that was allowed
level_allowed : (new old : ModuleFacts) → SaySame new old → (before : EarlierFacts) (inst : Inst) → (is_spec_op (old.opcode (word_at 0 inst)) ≡ true → is_spec_op (new.opcode (word_at 0 inst)) ≡ true)
    → (takes_built_in old (word_at 2 inst) (old.meaning (word_at 0 inst)) ≡ true → takes_built_in new (word_at 2 inst) (new.meaning (word_at 0 inst)) ≡ true)
    → breaks_decorations old before inst ≡ false → breaks_decorations new before inst ≡ false
unfolding breaks_decorations
level_allowed new old s before inst spec built is = by_tests (inst.op == op.DECORATE) (inst.op == op.MEMBER_DECORATE) (inst.op == op.VARIABLE) is
  where
    by_tests : (a b c : Bool) → (if a then bad_decorate old before (word_at 0 inst) (word_at 1 inst) (word_at 2 inst) (length inst.words)
        else if b then bad_member_decorate before (word_at 0 inst) (word_at 1 inst) (word_at 2 inst) (length inst.words)
        else if c then bad_variable old before (word_at 0 inst) (word_at 1 inst) (word_at 2 inst) else false) ≡ false
        → (if a then bad_decorate new before (word_at 0 inst) (word_at 1 inst) (word_at 2 inst) (length inst.words)
        else if b then bad_member_decorate before (word_at 0 inst) (word_at 1 inst) (word_at 2 inst) (length inst.words)
        else if c then bad_variable new before (word_at 0 inst) (word_at 1 inst) (word_at 2 inst) else false) ≡ false
    by_tests true b c is = decorate_allowed new old before (word_at 0 inst) (word_at 1 inst) (word_at 2 inst) (length inst.words) spec built is
    by_tests false true c is = is
    by_tests false false true is = variable_judged new old s before (word_at 0 inst) (word_at 1 inst) (word_at 2 inst) ∙ is
    by_tests false false false is = is

facts_have : (insts : List Inst) → ((facts_of insts).opcode ≡ opcode_of insts) × ((facts_of insts).meaning ≡ meaning insts)
unfolding facts_of
facts_have insts = (refl, refl)

pub decorations_of_level : (g : Planned) (k : ℕ) → k < function_at g.words.insts → bad_decoration (changed g.plan g.words.insts) k ≡ false
unfolding bad_decoration
decorations_of_level g k low =
    let insts = g.words.insts in
    let list = changed g.plan g.words.insts in
    let new = facts_of list in let old = facts_of insts in
    let s = facts_changed g in
    let inst = inst_at insts k in
    let most = function_within insts in
    let a = facts_have list in let b = facts_have insts in
    ap (λ (l : List Inst). breaks_decorations new (before_of new l) (inst_at list k)) (level_before g k (short_of k (function_at insts) low))
    ∙ ap (breaks_decorations new (before_of new (take k insts))) (level_inst g k low)
    ∙ ap (λ (e : EarlierFacts). breaks_decorations new e inst) (before_same new old s (take k insts))
    ∙ level_allowed new old s (before_of old (take k insts)) inst
    (λ is. ap (λ (o : ℕ → Option ℕ). is_spec_op (o (word_at 0 inst))) a.0 ∙ spec_stays g (word_at 0 inst) (ap (λ (o : ℕ → Option ℕ). is_spec_op (o (word_at 0 inst))) (sym b.0) ∙ is))
    (λ is. built_in_same new old s (word_at 2 inst) (new.meaning (word_at 0 inst))
    ∙ ap (λ (m : ℕ → Meaning). takes_built_in old (word_at 2 inst) (m (word_at 0 inst))) a.1
    ∙ built_in_stays g old (word_at 2 inst) (word_at 0 inst) (ap (λ (m : ℕ → Meaning). takes_built_in old (word_at 2 inst) (m (word_at 0 inst))) (sym b.1) ∙ is))
    (keeps_decorations g.words g.valid.sound k (omega (arith, low, most)))
  where
    short_of : (a b : ℕ) → a < b → a ≤ b
    short_of a b less = omega (arith, less)
