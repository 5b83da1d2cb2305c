-- Decorations and variables are allowed as before, where constants stand for specialization constants and these have no numbers.
use Rattle.std.proofs.Common.{◌≡◌, ℕ, ◌==◌, ◌&&◌, Bool, true, false, if◌then◌else◌, List, length, take, refl, ap, sym, ◌∙◌, Option, None}
use Rattle.std.proofs.Math.Path.{fun_ext}
use Rattle.std.specs.Option.{option_map}
use Rattle.std.specs.List.{list_any}
use Rattle.spirv_model.specs.declared.module.Inst.{Inst}
use Rattle.spirv_model.specs.declared.module.Words.{Words}
use Rattle.spirv_model.specs.declared.op.TheConstants as op
use Rattle.spirv_model.specs.declared.decoration.TheConstants.{SPEC_ID}
use Rattle.spirv_model.specs.declared.storage_class.TheConstants as storage_class
use Rattle.spirv_model.specs.Operands.{word_at, entry_of, class_of}
use Rattle.valid_model.specs.declared.meaning.Meaning.{Meaning}
use Rattle.valid_model.specs.Definitions.{inst_at}
use Rattle.valid_model.specs.Meanings.{meaning}
use Rattle.valid_model.specs.ModuleFacts.{ModuleFacts, facts_of, is_entry, model_of}
use Rattle.valid_model.specs.EarlierFacts.{EarlierFacts, before_of, is_variable_of, has_slot, is_position_variable}
use Rattle.valid_model.specs.DecorationWords.{decorates, decoration_of, places_member, offset_of}
use Rattle.valid_model.specs.Variables.{bad_variable}
use Rattle.valid_model.specs.Decorations.{bad_decorate, bad_member_decorate, breaks_decorations, bad_decoration}
use Rattle.valid_model.specs.FirstFault.{type_fault}
use Rattle.typed_model.proofs.BlockParts.{another}
use Rattle.change_model.specs.Constants.{is_spec_id}
use Rattle.change_model.specs.Settling.{is_plain_constant_class, StandsFor, same, settles, all_settled}
use Rattle.change_model.proofs.Settlings.{Settles, IsOther, any_settled, kept_by_op, found_by_op, decorates_kept, decoration_settled, offset_settled, other_variable, other_entry_point, other_member_decorate, no_offset}
use Rattle.change_model.proofs.SettledMeanings.{meaning_settled}
use Rattle.change_model.proofs.SettledPlaces.{PlaceOf}

-- ---- what the rules ask, numbers of specialization constants aside

unfoldable pub hidden : ModuleFacts → ModuleFacts
hidden facts = record {
  decoration = λ id decoration. if decoration == SPEC_ID then None else facts.decoration id decoration;
  offset = facts.offset;
  opcode = λ id. None;
  model = facts.model;
  meaning = facts.meaning;
}

unfoldable pub hidden_before : EarlierFacts → EarlierFacts
hidden_before before = record {
  decoration = λ id decoration. if decoration == SPEC_ID then false else before.decoration id decoration;
  offset = before.offset;
  spec_id = λ number. false;
  slot = before.slot;
  push = before.push;
  position = before.position;
}

variable_hidden : (facts : ModuleFacts) (before : EarlierFacts) (type id storage : ℕ) → bad_variable facts before type id storage ≡ bad_variable (hidden facts) (hidden_before before) type id storage
unfolding bad_variable hidden hidden_before
variable_hidden facts before type id storage = refl

decorate_hidden : (facts : ModuleFacts) (before : EarlierFacts) (id decoration word words : ℕ) → decoration == SPEC_ID ≡ false
    → bad_decorate facts before id decoration word words ≡ bad_decorate (hidden facts) (hidden_before before) id decoration word words
unfolding bad_decorate hidden hidden_before
decorate_hidden facts before id decoration word words isnt = rw isnt refl

member_hidden : (before : EarlierFacts) (id member decoration words : ℕ) → bad_member_decorate before id member decoration words ≡ bad_member_decorate (hidden_before before) id member decoration words
unfolding bad_member_decorate hidden_before
member_hidden before id member decoration words = refl

-- ---- the facts of both lists

decoration_hidden : (f : Inst → Inst) → Settles f → (insts : List Inst) (id decoration : ℕ) (number : Bool) → decoration == SPEC_ID ≡ number
    → (if number then None else decoration_of (all_settled f insts) id decoration) ≡ (if number then None else decoration_of insts id decoration)
decoration_hidden f s insts id decoration true is = refl
decoration_hidden f s insts id decoration false isnt = decoration_settled f s insts id decoration isnt

no_entry : (inst : Inst) → inst.op == op.ENTRY_POINT ≡ false → is_entry inst ≡ false
no_entry inst isnt = isnt

pub model_settled : (f : Inst → Inst) → Settles f → (insts : List Inst) → model_of (all_settled f insts) ≡ model_of insts
unfolding model_of
model_settled f s insts = ap (option_map (word_at 0)) (found_by_op f s op.ENTRY_POINT other_entry_point refl is_entry no_entry insts)

facts_as : (ℕ → ℕ → Option ℕ) → (ℕ → ℕ → Option ℕ) → Option ℕ → (ℕ → Meaning) → ModuleFacts
facts_as decoration offset model meaning = record { decoration = decoration; offset = offset; opcode = λ id. None; model = model; meaning = meaning }

facts_are : (insts : List Inst) → hidden (facts_of insts) ≡ facts_as (λ id decoration. if decoration == SPEC_ID then None else decoration_of insts id decoration) (offset_of insts) (model_of insts) (meaning insts)
unfolding facts_of hidden facts_as
facts_are insts = refl

pub facts_settled : (f : Inst → Inst) → Settles f → (words : Words) → type_fault words ≡ None → hidden (facts_of (all_settled f words.insts)) ≡ hidden (facts_of words.insts)
facts_settled f s words sound =
    let insts = words.insts in let new = all_settled f insts in
    let d : (λ (id : ℕ) (decoration : ℕ). if decoration == SPEC_ID then None else decoration_of new id decoration) ≡ (λ (id : ℕ) (decoration : ℕ). if decoration == SPEC_ID then None else decoration_of insts id decoration) =
    fun_ext (λ id. fun_ext (λ decoration. decoration_hidden f s insts id decoration (decoration == SPEC_ID) refl)) in
    let o : offset_of new ≡ offset_of insts = fun_ext (λ id. fun_ext (λ member. offset_settled f s insts id member)) in
    facts_are new
    ∙ ap (λ (d : ℕ → ℕ → Option ℕ). facts_as d (offset_of new) (model_of new) (meaning new)) d
    ∙ ap (λ (o : ℕ → ℕ → Option ℕ). facts_as (λ id decoration. if decoration == SPEC_ID then None else decoration_of insts id decoration) o (model_of new) (meaning new)) o
    ∙ ap (λ (m : Option ℕ). facts_as (λ id decoration. if decoration == SPEC_ID then None else decoration_of insts id decoration) (offset_of insts) m (meaning new)) (model_settled f s insts)
    ∙ ap (facts_as (λ id decoration. if decoration == SPEC_ID then None else decoration_of insts id decoration) (offset_of insts) (model_of insts)) (meaning_settled f s words sound)
    ∙ sym (facts_are insts)

-- ---- what stands before a place

before_as : (ℕ → ℕ → Bool) → (ℕ → ℕ → Bool) → (ℕ → ℕ → Bool) → Bool → Bool → EarlierFacts
before_as decoration offset slot push position = record { decoration = decoration; offset = offset; spec_id = λ number. false; slot = slot; push = push; position = position }

before_are : (facts : ModuleFacts) (insts : List Inst) → hidden_before (before_of facts insts)
    ≡ before_as (λ id decoration. if decoration == SPEC_ID then false else list_any (decorates id decoration) insts) (λ id member. list_any (places_member id member) insts)
    (λ set binding. list_any (has_slot (hidden facts) set binding) insts) (list_any (is_variable_of storage_class.PUSH_CONSTANT) insts) (list_any (is_position_variable (hidden facts)) insts)
unfolding before_of hidden hidden_before before_as
before_are facts insts = refl

any_decorates : (f : Inst → Inst) → Settles f → (insts : List Inst) (id decoration : ℕ) (number : Bool) → decoration == SPEC_ID ≡ number
    → (if number then false else list_any (decorates id decoration) (all_settled f insts)) ≡ (if number then false else list_any (decorates id decoration) insts)
any_decorates f s insts id decoration true is = refl
any_decorates f s insts id decoration false isnt = any_settled f (decorates id decoration) (decorates id decoration) (decorates_kept f s id decoration isnt) insts

any_by_op : (f : Inst → Inst) → Settles f → (own : ℕ) → IsOther own → op.DECORATE == own ≡ false → (p : Inst → Bool) → ((inst : Inst) → inst.op == own ≡ false → p inst ≡ false) → (insts : List Inst)
    → list_any p (all_settled f insts) ≡ list_any p insts
any_by_op f s own other isnt p none insts = any_settled f p p (kept_by_op f s own other isnt p none) insts

no_slot : (facts : ModuleFacts) (set binding : ℕ) (inst : Inst) → inst.op == op.VARIABLE ≡ false → has_slot facts set binding inst ≡ false
no_slot facts set binding inst isnt = rw isnt refl

no_variable_of : (storage : ℕ) (inst : Inst) → inst.op == op.VARIABLE ≡ false → is_variable_of storage inst ≡ false
no_variable_of storage inst isnt = rw isnt refl

no_position : (facts : ModuleFacts) (inst : Inst) → inst.op == op.VARIABLE ≡ false → is_position_variable facts inst ≡ false
no_position facts inst isnt = rw isnt refl

before_settled : (f : Inst → Inst) → Settles f → (facts : ModuleFacts) (insts : List Inst) → hidden_before (before_of facts (all_settled f insts)) ≡ hidden_before (before_of facts insts)
before_settled f s facts insts =
    let new = all_settled f insts in
    let h = hidden facts in
    let d : (λ (id : ℕ) (decoration : ℕ). if decoration == SPEC_ID then false else list_any (decorates id decoration) new) ≡ (λ (id : ℕ) (decoration : ℕ). if decoration == SPEC_ID then false else list_any (decorates id decoration) insts) =
    fun_ext (λ id. fun_ext (λ decoration. any_decorates f s insts id decoration (decoration == SPEC_ID) refl)) in
    let o : (λ (id : ℕ) (member : ℕ). list_any (places_member id member) new) ≡ (λ (id : ℕ) (member : ℕ). list_any (places_member id member) insts) =
    fun_ext (λ id. fun_ext (λ member. any_by_op f s op.MEMBER_DECORATE other_member_decorate refl (places_member id member) (no_offset id member) insts)) in
    let t : (λ (set : ℕ) (binding : ℕ). list_any (has_slot h set binding) new) ≡ (λ (set : ℕ) (binding : ℕ). list_any (has_slot h set binding) insts) =
    fun_ext (λ set. fun_ext (λ binding. any_by_op f s op.VARIABLE other_variable refl (has_slot h set binding) (no_slot h set binding) insts)) in
    let u = any_by_op f s op.VARIABLE other_variable refl (is_variable_of storage_class.PUSH_CONSTANT) (no_variable_of storage_class.PUSH_CONSTANT) insts in
    let v = any_by_op f s op.VARIABLE other_variable refl (is_position_variable h) (no_position h) insts in
    before_are facts new
    ∙ five before_as d o t u v
    ∙ sym (before_are facts insts)
  where
    five : {A B C D E R : Type 0} (g : A → B → C → D → E → R) {a a' : A} {b b' : B} {c c' : C} {d d' : D} {e e' : E} → a ≡ a' → b ≡ b' → c ≡ c' → d ≡ d' → e ≡ e' → g a b c d e ≡ g a' b' c' d' e'
    five g p q r s t = cc

-- facts that are the same, numbers aside, say the same of what stands before
before_by_facts : (new old : ModuleFacts) → hidden new ≡ hidden old → (insts : List Inst) → hidden_before (before_of new insts) ≡ hidden_before (before_of old insts)
before_by_facts new old is insts =
    before_are new insts
    ∙ ap (λ (h : ModuleFacts). before_as (λ id decoration. if decoration == SPEC_ID then false else list_any (decorates id decoration) insts) (λ id member. list_any (places_member id member) insts)
    (λ set binding. list_any (has_slot h set binding) insts) (list_any (is_variable_of storage_class.PUSH_CONSTANT) insts) (list_any (is_position_variable h) insts)) is
    ∙ sym (before_are old insts)

-- ---- at a place

-- an instruction that stays is judged by what is told of both lists
kept_decoration : (new old : ModuleFacts) (before before' : EarlierFacts) → hidden new ≡ hidden old → hidden_before before ≡ hidden_before before' → (inst : Inst) → is_spec_id inst ≡ false
    → breaks_decorations new before inst ≡ breaks_decorations old before' inst
unfolding breaks_decorations
kept_decoration new old before before' facts is inst stays = by_tests (inst.op == op.DECORATE) (word_at 1 inst == SPEC_ID) refl stays
  where
    member : bad_member_decorate before (word_at 0 inst) (word_at 1 inst) (word_at 2 inst) (length inst.words) ≡ bad_member_decorate before' (word_at 0 inst) (word_at 1 inst) (word_at 2 inst) (length inst.words)
    member = member_hidden before (word_at 0 inst) (word_at 1 inst) (word_at 2 inst) (length inst.words)
        ∙ ap (λ (b : EarlierFacts). bad_member_decorate b (word_at 0 inst) (word_at 1 inst) (word_at 2 inst) (length inst.words)) is
        ∙ sym (member_hidden before' (word_at 0 inst) (word_at 1 inst) (word_at 2 inst) (length inst.words))

    variable : bad_variable new before (word_at 0 inst) (word_at 1 inst) (word_at 2 inst) ≡ bad_variable old before' (word_at 0 inst) (word_at 1 inst) (word_at 2 inst)
    variable = variable_hidden new before (word_at 0 inst) (word_at 1 inst) (word_at 2 inst)
        ∙ ap (λ (h : ModuleFacts). bad_variable h (hidden_before before) (word_at 0 inst) (word_at 1 inst) (word_at 2 inst)) facts
        ∙ ap (λ (b : EarlierFacts). bad_variable (hidden old) b (word_at 0 inst) (word_at 1 inst) (word_at 2 inst)) is
        ∙ sym (variable_hidden old before' (word_at 0 inst) (word_at 1 inst) (word_at 2 inst))

    decorate : word_at 1 inst == SPEC_ID ≡ false → bad_decorate new before (word_at 0 inst) (word_at 1 inst) (word_at 2 inst) (length inst.words) ≡ bad_decorate old before' (word_at 0 inst) (word_at 1 inst) (word_at 2 inst) (length inst.words)
    decorate isnt = decorate_hidden new before (word_at 0 inst) (word_at 1 inst) (word_at 2 inst) (length inst.words) isnt
        ∙ ap (λ (h : ModuleFacts). bad_decorate h (hidden_before before) (word_at 0 inst) (word_at 1 inst) (word_at 2 inst) (length inst.words)) facts
        ∙ ap (λ (b : EarlierFacts). bad_decorate (hidden old) b (word_at 0 inst) (word_at 1 inst) (word_at 2 inst) (length inst.words)) is
        ∙ sym (decorate_hidden old before' (word_at 0 inst) (word_at 1 inst) (word_at 2 inst) (length inst.words) isnt)

    others : (if inst.op == op.MEMBER_DECORATE then bad_member_decorate before (word_at 0 inst) (word_at 1 inst) (word_at 2 inst) (length inst.words)
        else if inst.op == op.VARIABLE then bad_variable new before (word_at 0 inst) (word_at 1 inst) (word_at 2 inst) else false)
        ≡ (if inst.op == op.MEMBER_DECORATE then bad_member_decorate before' (word_at 0 inst) (word_at 1 inst) (word_at 2 inst) (length inst.words)
        else if inst.op == op.VARIABLE then bad_variable old before' (word_at 0 inst) (word_at 1 inst) (word_at 2 inst) else false)
    others = rw member (rw variable refl)

    by_tests : (decorates number : Bool) → word_at 1 inst == SPEC_ID ≡ number → (decorates && number) ≡ false
        → (if decorates then bad_decorate new before (word_at 0 inst) (word_at 1 inst) (word_at 2 inst) (length inst.words)
        else if inst.op == op.MEMBER_DECORATE then bad_member_decorate before (word_at 0 inst) (word_at 1 inst) (word_at 2 inst) (length inst.words)
        else if inst.op == op.VARIABLE then bad_variable new before (word_at 0 inst) (word_at 1 inst) (word_at 2 inst) else false)
        ≡ (if decorates then bad_decorate old before' (word_at 0 inst) (word_at 1 inst) (word_at 2 inst) (length inst.words)
        else if inst.op == op.MEMBER_DECORATE then bad_member_decorate before' (word_at 0 inst) (word_at 1 inst) (word_at 2 inst) (length inst.words)
        else if inst.op == op.VARIABLE then bad_variable old before' (word_at 0 inst) (word_at 1 inst) (word_at 2 inst) else false)
    by_tests true true number stays = cc
    by_tests true false isnt stays = decorate isnt
    by_tests false number isnt stays = others

record NoConstants : Type 0 where
  decorate : is_plain_constant_class (class_of op.DECORATE) ≡ false
  member : is_plain_constant_class (class_of op.MEMBER_DECORATE) ≡ false
  variable : is_plain_constant_class (class_of op.VARIABLE) ≡ false

no_constants : NoConstants
unfolding class_of entry_of
no_constants = record { decorate = refl; member = refl; variable = refl }

constant_decoration : (facts : ModuleFacts) (before : EarlierFacts) (inst : Inst) → is_plain_constant_class (class_of inst.op) ≡ true → breaks_decorations facts before inst ≡ false
unfolding breaks_decorations
constant_decoration facts before inst is =
    rw (another (λ o. is_plain_constant_class (class_of o)) op.DECORATE no_constants.decorate inst.op is)
    (rw (another (λ o. is_plain_constant_class (class_of o)) op.MEMBER_DECORATE no_constants.member inst.op is)
    (rw (another (λ o. is_plain_constant_class (class_of o)) op.VARIABLE no_constants.variable inst.op is) refl))

decoration_for : (new old : ModuleFacts) (before before' : EarlierFacts) → hidden new ≡ hidden old → hidden_before before ≡ hidden_before before' → (inst for : Inst) → StandsFor inst for → is_spec_id for ≡ false
    → breaks_decorations old before' for ≡ false → breaks_decorations new before inst ≡ false
decoration_for new old before before' facts is inst for (same equal) stays good = ap (breaks_decorations new before) equal ∙ kept_decoration new old before before' facts is for stays ∙ good
decoration_for new old before before' facts is inst for (settles spec constant type id) stays good = constant_decoration new before inst constant

pub decorations_settled : (f : Inst → Inst) → Settles f → (words : Words) → type_fault words ≡ None → (place : ℕ) → (p : PlaceOf f words.insts place) → bad_decoration words.insts p.old ≡ false
    → bad_decoration (all_settled f words.insts) place ≡ false
unfolding bad_decoration
decorations_settled f s words sound place p good =
    let insts = words.insts in let new = all_settled f insts in
    let facts = facts_settled f s words sound in
    let before : hidden_before (before_of (facts_of new) (take place new)) ≡ hidden_before (before_of (facts_of insts) (take p.old insts)) =
    ap (λ (l : List Inst). hidden_before (before_of (facts_of new) l)) p.front ∙ before_settled f s (facts_of new) (take p.old insts) ∙ before_by_facts (facts_of new) (facts_of insts) facts (take p.old insts) in
    ap (breaks_decorations (facts_of new) (before_of (facts_of new) (take place new))) p.inst
    ∙ decoration_for (facts_of new) (facts_of insts) (before_of (facts_of new) (take place new)) (before_of (facts_of insts) (take p.old insts)) facts before
    (f (inst_at insts p.old)) (inst_at insts p.old) (s (inst_at insts p.old)) p.stays good
