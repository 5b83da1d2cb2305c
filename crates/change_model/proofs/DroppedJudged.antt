-- Decorations and variables are allowed as before where variables and constants are dropped.
use Rattle.std.proofs.Common.{◌≡◌, ℕ, ◌==◌, ◌&&◌, ◌||◌, Bool, true, false, not, if◌then◌else◌, List, length, take, slice_index, refl, ap, sym, ◌∙◌, Option, None, Some}
use Rattle.spirv_model.specs.declared.module.Inst.{Inst}
use Rattle.spirv_model.specs.declared.module.Words.{Words}
use Rattle.spirv_model.specs.declared.decoration.TheConstants.{SPEC_ID, BUILT_IN, BINDING, DESCRIPTOR_SET, OFFSET}
use Rattle.spirv_model.specs.declared.builtin.TheConstants as builtin
use Rattle.spirv_model.specs.declared.op.TheConstants as op
use Rattle.spirv_model.specs.declared.storage_class.TheConstants as storage_class
use Rattle.spirv_model.specs.Operands.{word_at, entry_of, result}
use Rattle.valid_model.specs.declared.meaning.Meaning.{Meaning}
use Rattle.valid_model.specs.Blocks.{points_to_block}
use Rattle.valid_model.specs.BuiltIns.{takes_built_in}
use Rattle.valid_model.specs.DecorationWords.{is_listed}
use Rattle.valid_model.specs.Decorations.{is_out_of_range, repeats, bad_decorate, bad_member_decorate, breaks_decorations, bad_decoration}
use Rattle.valid_model.specs.Definitions.{inst_at}
use Rattle.valid_model.specs.EarlierFacts.{EarlierFacts, before_of, has_spec_id, is_variable_of, has_slot, is_position_variable}
use Rattle.valid_model.specs.Meanings.{meaning}
use Rattle.valid_model.specs.ModuleFacts.{ModuleFacts, facts_of, is_word, opcode_of, is_spec_op, has_position}
use Rattle.valid_model.specs.Variables.{bad_interface, bad_location, bad_slot, bad_uniform, bad_push, second_position, bad_variable}
use Rattle.check_model.specs.Validity.{IsValidList}
use Rattle.change_model.specs.Dropping.{is_gone, is_dropped, entry_without, dropped, MayDrop}
use Rattle.change_model.proofs.DroppedDecorations.{OnlyOp, passes_left, decorated_kept, placed_kept}
use Rattle.change_model.proofs.DroppedFacts.{facts_without, facts_dropped, no_types_go, variable_said, built_in_said, opcode_kept}
use Rattle.change_model.proofs.DroppedMeanings.{meaning_kept}
use Rattle.change_model.proofs.DroppedPlaces.{DroppedPlace, entry_op, entry_same, result_stays, target_stays}
use Rattle.change_model.proofs.SameFacts.{variable_judged, built_in_same}
use Rattle.change_model.proofs.Settlings.{op_is}
use Rattle.change_model.proofs.Sifted.{none_sifted}

-- ---- what both modules say of ids that stay

pub record SaysAlike (gone : ℕ → Bool) (new old : ModuleFacts) : Type 0 where
  pub decoration : (id decoration : ℕ) → gone id ≡ false → new.decoration id decoration ≡ old.decoration id decoration
  pub opcode : (id : ℕ) → gone id ≡ false → new.opcode id ≡ old.opcode id
  pub variable : (before : EarlierFacts) (type id class : ℕ) → gone id ≡ false → bad_variable new before type id class ≡ bad_variable old before type id class
  pub built_in : (word id : ℕ) → gone id ≡ false → takes_built_in new word (new.meaning id) ≡ takes_built_in old word (old.meaning id)

opcode_is : (insts : List Inst) → (facts_of insts).opcode ≡ opcode_of insts
unfolding facts_of
opcode_is insts = refl

meaning_is : (insts : List Inst) → (facts_of insts).meaning ≡ meaning insts
unfolding facts_of
meaning_is insts = refl

pub says_alike : (words : Words) (v : IsValidList words) (gone : ℕ → Bool) → MayDrop words v gone → SaysAlike gone (facts_of (dropped gone words.insts)) (facts_of words.insts)
says_alike words v gone m =
    let new = facts_of (dropped gone words.insts) in
    let old = facts_of words.insts in
    let s = facts_dropped words v gone m in
    record {
      decoration = λ id decoration stays. ap (λ (d : ℕ → ℕ → Option ℕ). d id decoration) s.decoration ∙ ap (λ (b : Bool). if b then None else old.decoration id decoration) stays;
      opcode = λ id stays. ap (λ (o : ℕ → Option ℕ). o id) (opcode_is (dropped gone words.insts)) ∙ opcode_kept gone words.insts id stays ∙ sym (ap (λ (o : ℕ → Option ℕ). o id) (opcode_is words.insts));
      variable = λ before type id class stays. variable_judged new (facts_without gone old) s before type id class ∙ variable_said gone old (no_types_go words v gone m) before type id class stays;
      built_in = λ word id stays.
          ap (takes_built_in new word) (ap (λ (f : ℕ → Meaning). f id) (meaning_is (dropped gone words.insts)) ∙ meaning_kept words v gone m id stays ∙ sym (ap (λ (f : ℕ → Meaning). f id) (meaning_is words.insts)))
          ∙ built_in_same new (facts_without gone old) s word (old.meaning id) ∙ built_in_said gone old word (old.meaning id);
    }

-- ---- what stands before

-- the same of ids that stay, and no more of others
pub record IsFewer (gone : ℕ → Bool) (new old : EarlierFacts) : Type 0 where
  pub decoration : (id decoration : ℕ) → gone id ≡ false → new.decoration id decoration ≡ old.decoration id decoration
  pub offset : (id member : ℕ) → gone id ≡ false → new.offset id member ≡ old.offset id member
  pub spec_id : (number : ℕ) → old.spec_id number ≡ false → new.spec_id number ≡ false
  pub slot : (set binding : ℕ) → old.slot set binding ≡ false → new.slot set binding ≡ false
  pub push : old.push ≡ false → new.push ≡ false
  pub position : old.position ≡ false → new.position ≡ false

only_spec_id : (number : ℕ) → OnlyOp op.DECORATE (has_spec_id number)
only_spec_id number inst isnt = rw isnt refl

only_variable_of : (storage : ℕ) → OnlyOp op.VARIABLE (is_variable_of storage)
only_variable_of storage inst isnt = rw isnt refl

only_slot : (facts : ModuleFacts) (set binding : ℕ) → OnlyOp op.VARIABLE (has_slot facts set binding)
only_slot facts set binding inst isnt = rw isnt refl

only_position : (facts : ModuleFacts) → OnlyOp op.VARIABLE (is_position_variable facts)
only_position facts inst isnt = rw isnt refl

variable_other : op.VARIABLE == op.ENTRY_POINT ≡ false
variable_other = refl

decorate_other : op.DECORATE == op.ENTRY_POINT ≡ false
decorate_other = refl

variable_result : (words : List ℕ) → result (record { op = op.VARIABLE; words = words }) ≡ Some (slice_index words 1)
unfolding result entry_of
variable_result words = refl

-- a variable that isn't dropped
pub variable_stays : (gone : ℕ → Bool) (inst : Inst) → is_dropped gone inst ≡ false → inst.op == op.VARIABLE ≡ true → gone (word_at 1 inst) ≡ false
variable_stays gone inst stays is =
    sym (ap (is_gone gone) (ap (λ (o : ℕ). result (record { op = o; words = inst.words })) (op_is inst.op op.VARIABLE is) ∙ variable_result inst.words)) ∙ result_stays gone inst stays

-- a test of variables that says the same of those that stay
pub by_variable : (gone : ℕ → Bool) (p q : Inst → Bool) → OnlyOp op.VARIABLE p → OnlyOp op.VARIABLE q → ((inst : Inst) → gone (word_at 1 inst) ≡ false → q inst ≡ p inst)
    → (inst : Inst) → is_dropped gone inst ≡ false → p inst ≡ false → q (entry_without gone inst) ≡ false
by_variable gone p q only also same inst stays fails = passes_left gone op.VARIABLE variable_other q also inst ∙ by_test (inst.op == op.VARIABLE) refl
  where
    by_test : (b : Bool) → inst.op == op.VARIABLE ≡ b → q inst ≡ false
    by_test true is = same inst (variable_stays gone inst stays is) ∙ fails
    by_test false isnt = also inst isnt

slot_same : (gone : ℕ → Bool) (new old : ModuleFacts) → SaysAlike gone new old → (set binding : ℕ) (inst : Inst) → gone (word_at 1 inst) ≡ false → has_slot new set binding inst ≡ has_slot old set binding inst
slot_same gone new old s set binding inst stays =
    three (is_variable_of storage_class.UNIFORM inst) (ap (is_word set) (s.decoration (word_at 1 inst) DESCRIPTOR_SET stays)) (ap (is_word binding) (s.decoration (word_at 1 inst) BINDING stays))
  where
    three : (a : Bool) {b c b' c' : Bool} → b ≡ b' → c ≡ c' → (a && b && c) ≡ (a && b' && c')
    three a p q = cc

position_same : (gone : ℕ → Bool) (new old : ModuleFacts) → SaysAlike gone new old → (inst : Inst) → gone (word_at 1 inst) ≡ false → is_position_variable new inst ≡ is_position_variable old inst
position_same gone new old s inst stays = ap (λ (o : Option ℕ). (inst.op == op.VARIABLE) && is_word builtin.POSITION o) (s.decoration (word_at 1 inst) BUILT_IN stays)

pub fewer_before : (gone : ℕ → Bool) (new old : ModuleFacts) → SaysAlike gone new old → (insts : List Inst) → IsFewer gone (before_of new (dropped gone insts)) (before_of old insts)
unfolding before_of dropped
fewer_before gone new old s insts = record {
  decoration = λ id decoration stays. decorated_kept gone insts id decoration stays;
  offset = λ id member stays. placed_kept gone insts id member stays;
  spec_id = λ number. none_sifted (is_dropped gone) (entry_without gone) (has_spec_id number) (has_spec_id number)
      (λ inst stays fails. passes_left gone op.DECORATE decorate_other (has_spec_id number) (only_spec_id number) inst ∙ fails) insts;
  slot = λ set binding. none_sifted (is_dropped gone) (entry_without gone) (has_slot old set binding) (has_slot new set binding)
      (by_variable gone (has_slot old set binding) (has_slot new set binding) (only_slot old set binding) (only_slot new set binding) (slot_same gone new old s set binding)) insts;
  push = none_sifted (is_dropped gone) (entry_without gone) (is_variable_of storage_class.PUSH_CONSTANT) (is_variable_of storage_class.PUSH_CONSTANT)
      (λ inst stays fails. passes_left gone op.VARIABLE variable_other (is_variable_of storage_class.PUSH_CONSTANT) (only_variable_of storage_class.PUSH_CONSTANT) inst ∙ fails) insts;
  position = none_sifted (is_dropped gone) (entry_without gone) (is_position_variable old) (is_position_variable new)
      (by_variable gone (is_position_variable old) (is_position_variable new) (only_position old) (only_position new) (position_same gone new old s)) insts;
}

-- ---- what is judged by less

less_five : (a b c d e c' d' e' : Bool) → (a || b || c || d || e) ≡ false → (c ≡ false → c' ≡ false) → (d ≡ false → d' ≡ false) → (e ≡ false → e' ≡ false) → (a || b || c' || d' || e') ≡ false
less_five true b c d e c' d' e' good p q r = cc
less_five false true c d e c' d' e' good p q r = cc
less_five false false true d e c' d' e' good p q r = cc
less_five false false false true e c' d' e' good p q r = cc
less_five false false false false true c' d' e' good p q r = cc
less_five false false false false false c' d' e' good p q r = rw (p refl) (rw (q refl) (r refl))

less_both : (x s n s' : Bool) → (x && (s || n)) ≡ false → (s ≡ false → s' ≡ false) → (x && (s' || n)) ≡ false
less_both false s n s' good less = refl
less_both true true n s' good less = cc
less_both true false n s' good less = ap (λ (b : Bool). b || n) (less refl) ∙ good

less_and : (x s s' : Bool) → (x && s) ≡ false → (s ≡ false → s' ≡ false) → (x && s') ≡ false
less_and false s s' good less = refl
less_and true s s' good less = less good

less_slot : (gone : ℕ → Bool) (new old : EarlierFacts) → IsFewer gone new old → (set binding : Option ℕ) → bad_slot old set binding ≡ false → bad_slot new set binding ≡ false
less_slot gone new old f (Some set) (Some binding) good = f.slot set binding good
less_slot gone new old f None binding good = cc
less_slot gone new old f (Some set) None good = cc

pub less_variable : (gone : ℕ → Bool) (facts : ModuleFacts) (new old : EarlierFacts) → IsFewer gone new old → (type id class : ℕ) → bad_variable facts old type id class ≡ false → bad_variable facts new type id class ≡ false
unfolding bad_variable
less_variable gone facts new old f type id class good =
    less_five (bad_interface facts id class) (bad_location facts id type) (bad_uniform facts old type id class) (bad_push facts old type class) (second_position facts old id)
    (bad_uniform facts new type id class) (bad_push facts new type class) (second_position facts new id) good
    (λ uniform. less_both (class == storage_class.UNIFORM) (bad_slot old (facts.decoration id DESCRIPTOR_SET) (facts.decoration id BINDING)) (not (points_to_block facts type)) (bad_slot new (facts.decoration id DESCRIPTOR_SET) (facts.decoration id BINDING)) uniform
    (less_slot gone new old f (facts.decoration id DESCRIPTOR_SET) (facts.decoration id BINDING)))
    (λ push. less_both (class == storage_class.PUSH_CONSTANT) old.push (not (points_to_block facts type)) new.push push f.push)
    (λ position. less_and (has_position facts id) old.position new.position position f.position)

less_decorate_by : (a b c d e b' d' e' : Bool) → (a || b || c || d || e) ≡ false → (b ≡ false → b' ≡ false) → d' ≡ d → e' ≡ e → (a || b' || c || d' || e') ≡ false
less_decorate_by true b c d e b' d' e' good p q r = cc
less_decorate_by false true c d e b' d' e' good p q r = cc
less_decorate_by false false true d e b' d' e' good p q r = cc
less_decorate_by false false false d e b' d' e' good p q r = rw (p refl) (rw q (rw r good))

less_repeats : (a b c b' : Bool) → (a || (b && c)) ≡ false → (c ≡ false → b' ≡ false) → (a || (b && b')) ≡ false
less_repeats true b c b' good less = cc
less_repeats false b c b' good less = less_and b c b' good less

pub less_decorate : (gone : ℕ → Bool) (new old : ModuleFacts) (before earlier : EarlierFacts) → SaysAlike gone new old → IsFewer gone before earlier → (id decoration word words : ℕ) → gone id ≡ false
    → bad_decorate old earlier id decoration word words ≡ false → bad_decorate new before id decoration word words ≡ false
unfolding bad_decorate
less_decorate gone new old before earlier s f id decoration word words stays good =
    less_decorate_by (not (is_listed decoration words)) (repeats earlier id decoration word) (is_out_of_range decoration word) ((decoration == SPEC_ID) && not (is_spec_op (old.opcode id)))
    ((decoration == BUILT_IN) && not (takes_built_in old word (old.meaning id))) (repeats before id decoration word) ((decoration == SPEC_ID) && not (is_spec_op (new.opcode id)))
    ((decoration == BUILT_IN) && not (takes_built_in new word (new.meaning id))) good
    (λ none. ap (λ (b : Bool). b || ((decoration == SPEC_ID) && before.spec_id word)) (f.decoration id decoration stays)
    ∙ less_repeats (earlier.decoration id decoration) (decoration == SPEC_ID) (earlier.spec_id word) (before.spec_id word) none (f.spec_id word))
    (ap (λ (o : Option ℕ). (decoration == SPEC_ID) && not (is_spec_op o)) (s.opcode id stays))
    (ap (λ (b : Bool). (decoration == BUILT_IN) && not b) (s.built_in word id stays))

pub member_judged : (gone : ℕ → Bool) (before earlier : EarlierFacts) → IsFewer gone before earlier → (id member decoration words : ℕ) → gone id ≡ false
    → bad_member_decorate before id member decoration words ≡ bad_member_decorate earlier id member decoration words
unfolding bad_member_decorate
member_judged gone before earlier f id member decoration words stays = ap (λ (b : Bool). not ((decoration == OFFSET) && (words == 4)) || b) (f.offset id member stays)

-- ---- at a place

-- in each way
less_either : (b : Bool) (x x' y y' : Bool) → (if b then x else y) ≡ false → (b ≡ true → x ≡ false → x' ≡ false) → (y ≡ false → y' ≡ false) → (if b then x' else y') ≡ false
less_either true x x' y y' good here there = here refl good
less_either false x x' y y' good here there = there good

judged_left : (gone : ℕ → Bool) (new old : ModuleFacts) (before earlier : EarlierFacts) → SaysAlike gone new old → IsFewer gone before earlier → (inst : Inst) → is_dropped gone inst ≡ false
    → breaks_decorations old earlier inst ≡ false → breaks_decorations new before inst ≡ false
unfolding breaks_decorations
judged_left gone new old before earlier s f inst stays good =
    less_either (inst.op == op.DECORATE) _ _ _ _ good
    (λ is. less_decorate gone new old before earlier s f (word_at 0 inst) (word_at 1 inst) (word_at 2 inst) (length inst.words) (target_stays gone inst stays (ap (λ (b : Bool). b || (inst.op == op.MEMBER_DECORATE)) is)))
    (λ others. less_either (inst.op == op.MEMBER_DECORATE) _ _ _ _ others
    (λ is fine. member_judged gone before earlier f (word_at 0 inst) (word_at 1 inst) (word_at 2 inst) (length inst.words) (target_stays gone inst stays (either (inst.op == op.DECORATE) (inst.op == op.MEMBER_DECORATE) is)) ∙ fine)
    (λ rest. less_either (inst.op == op.VARIABLE) _ _ _ _ rest
    (λ is fine. s.variable before (word_at 0 inst) (word_at 1 inst) (word_at 2 inst) (variable_stays gone inst stays is) ∙ less_variable gone old before earlier f (word_at 0 inst) (word_at 1 inst) (word_at 2 inst) fine)
    (λ none. none)))
  where
    either : (a b : Bool) → b ≡ true → (a || b) ≡ true
    either true b is = refl
    either false b is = is

entry_judged : (facts : ModuleFacts) (before : EarlierFacts) (words : List ℕ) → breaks_decorations facts before (record { op = op.ENTRY_POINT; words = words }) ≡ false
unfolding breaks_decorations
entry_judged facts before words = refl

pub decorations_dropped : (words : Words) (v : IsValidList words) (gone : ℕ → Bool) → MayDrop words v gone → (place : ℕ) → (p : DroppedPlace gone words.insts place)
    → bad_decoration words.insts p.old ≡ false → bad_decoration (dropped gone words.insts) place ≡ false
unfolding bad_decoration
decorations_dropped words v gone m place p good =
    ap (λ (l : List Inst). breaks_decorations new (before_of new l) (inst_at (dropped gone words.insts) place)) p.front
    ∙ ap (breaks_decorations new before) p.inst ∙ by_test (inst.op == op.ENTRY_POINT) refl
  where
    new : ModuleFacts
    new = facts_of (dropped gone words.insts)

    old : ModuleFacts
    old = facts_of words.insts

    before : EarlierFacts
    before = before_of new (dropped gone (take p.old words.insts))

    inst : Inst
    inst = inst_at words.insts p.old

    s : SaysAlike gone new old
    s = says_alike words v gone m

    by_test : (b : Bool) → inst.op == op.ENTRY_POINT ≡ b → breaks_decorations new before (entry_without gone inst) ≡ false
    by_test true is =
        let left = entry_without gone inst in
        ap (λ (o : ℕ). breaks_decorations new before (record { op = o; words = left.words })) (entry_op gone inst ∙ op_is inst.op op.ENTRY_POINT is) ∙ entry_judged new before left.words
    by_test false isnt =
        ap (breaks_decorations new before) (entry_same gone inst isnt)
        ∙ judged_left gone new old before (before_of old (take p.old words.insts)) s (fewer_before gone new old s (take p.old words.insts)) inst p.stays good
