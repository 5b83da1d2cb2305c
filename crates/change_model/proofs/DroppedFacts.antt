-- What the rules of variables and decorations ask of a module is the same where variables and constants are dropped, but for ids that go.
use Rattle.std.proofs.Common.{◌≡◌, ℕ, ◌+◌, ◌==◌, ◌&&◌, ◌||◌, Bool, true, false, not, if◌then◌else◌, List, [], ◌∷◌, slice_index, refl, ap, sym, ◌∙◌, Option, None, Some}
use Rattle.std.proofs.Math.Path.{fun_ext}
use Rattle.std.specs.Prelude.{is_some}
use Rattle.std.specs.Option.{option_map}
use Rattle.std.specs.List.{find}
use Rattle.spirv_model.specs.declared.module.Inst.{Inst}
use Rattle.spirv_model.specs.declared.module.Words.{Words}
use Rattle.spirv_model.specs.declared.decoration.TheConstants.{BLOCK, ARRAY_STRIDE, BUILT_IN, LOCATION, BINDING, DESCRIPTOR_SET}
use Rattle.spirv_model.specs.declared.op.TheConstants as op
use Rattle.spirv_model.specs.declared.builtin.TheConstants as builtin
use Rattle.spirv_model.specs.declared.storage_class.TheConstants as storage_class
use Rattle.spirv_model.specs.declared.table.Operand.{Operand}
use Rattle.spirv_model.specs.declared.table.Operand.TheVariants.{IdRef, LiteralInteger, LiteralString}
use Rattle.spirv_model.specs.declared.table.Rest.TheVariants.{IdRefs}
use Rattle.spirv_model.specs.Operands.{word_at, entry_of, kinds, kinds_from}
use Rattle.valid_model.specs.declared.meaning.Meaning.{Meaning}
use Rattle.valid_model.specs.declared.meaning.Meaning.TheVariants.{Absent, Shape as OfShape, Constant, Variable, Value as OfValue, Label, Other}
use Rattle.valid_model.specs.declared.meaning.Shape.{Shape}
use Rattle.valid_model.specs.declared.meaning.Shape.TheVariants.{Array, Struct}
use Rattle.valid_model.specs.Blocks.{is_block_member, is_multiple_of_four, is_stride, is_laid_out, are_laid_out, is_block_type, is_block, points_to_block}
use Rattle.valid_model.specs.BuiltIns.{takes_built_in}
use Rattle.valid_model.specs.DecorationWords.{decoration_of, offset_of}
use Rattle.valid_model.specs.Definitions.{definition, inst_at}
use Rattle.valid_model.specs.EarlierFacts.{EarlierFacts}
use Rattle.valid_model.specs.Meanings.{meaning}
use Rattle.valid_model.specs.ModuleFacts.{ModuleFacts, facts_of, is_entry, is_word, model_of, opcode_at, opcode_of, is_decorated}
use Rattle.valid_model.specs.Shapes.{is_array, is_integers, pointee_id, held_type}
use Rattle.valid_model.specs.Variables.{lacks_place, bad_interface, bad_location, bad_slot, bad_uniform, bad_push, second_position, bad_variable}
use Rattle.check_model.specs.Validity.{IsValidList}
use Rattle.typed_model.proofs.BlockParts.{clash}
use Rattle.typed_model.proofs.ValidTypes.{defined_within}
use Rattle.change_model.specs.Dropping.{is_gone, is_decoration, is_dropped, words_left, entry_without, dropped, MayDrop}
use Rattle.change_model.proofs.ChangedShapes.{shape_in, SaySame}
use Rattle.change_model.proofs.DroppedDecorations.{decoration_kept, decoration_gone, offset_kept, offset_gone}
use Rattle.change_model.proofs.DroppedDefinitions.{definition_kept, definition_stays}
use Rattle.change_model.proofs.DroppedMeanings.{shapes_dropped, none_goes}
use Rattle.change_model.proofs.DroppedPlaces.{dropped_left, kept_place, entry_op, entry_same, entry_silent}
use Rattle.change_model.proofs.SameFacts.{TellsTypes, same_told}
use Rattle.change_model.proofs.Settlings.{op_is}
use Rattle.change_model.proofs.Sifted.{find_sifted}

-- ---- entry points

-- an entry point isn't dropped
pub entry_stays : (gone : ℕ → Bool) (inst : Inst) → is_dropped gone inst ≡ true → inst.op == op.ENTRY_POINT ≡ false
entry_stays gone inst is = by_test (inst.op == op.ENTRY_POINT) refl
  where
    no_decoration : (opcode : ℕ) → opcode ≡ op.ENTRY_POINT → is_decoration opcode ≡ false
    no_decoration opcode is = ap is_decoration is

    by_test : (b : Bool) → inst.op == op.ENTRY_POINT ≡ b → b ≡ false
    by_test false isnt = refl
    by_test true entry =
        absurd (clash (is_dropped gone inst) is
        (ap (λ (o : Option ℕ). is_gone gone o || (is_decoration inst.op && gone (word_at 0 inst))) (entry_silent inst entry)
        ∙ ap (λ (b : Bool). b && gone (word_at 0 inst)) (no_decoration inst.op (op_is inst.op op.ENTRY_POINT entry))))

first_word : (gone : ℕ → Bool) (words : List ℕ) → slice_index (words_left gone (kinds (record { op = op.ENTRY_POINT; words = words })) words) 0 ≡ slice_index words 0
unfolding kinds entry_of
first_word gone [] = refl
first_word gone (word ∷ words) = by_found (kinds_from (Some IdRef ∷ Some LiteralString ∷ None ∷ None ∷ []) IdRefs words)
  where
    by_found : (found : Option (List Operand)) → slice_index (words_left gone (option_map (λ (k : List Operand). LiteralInteger ∷ k) found) (word ∷ words)) 0 ≡ word
    by_found None = refl
    by_found (Some k) = refl

-- the stage is the first word
pub stage_left : (gone : ℕ → Bool) (inst : Inst) → word_at 0 (entry_without gone inst) ≡ word_at 0 inst
stage_left gone inst = by_test (inst.op == op.ENTRY_POINT) refl
  where
    of_entry : (opcode : ℕ) → opcode ≡ op.ENTRY_POINT → slice_index (words_left gone (kinds (record { op = opcode; words = inst.words })) inst.words) 0 ≡ slice_index inst.words 0
    of_entry opcode is = ap (λ (o : ℕ). slice_index (words_left gone (kinds (record { op = o; words = inst.words })) inst.words) 0) is ∙ first_word gone inst.words

    by_test : (b : Bool) → inst.op == op.ENTRY_POINT ≡ b → word_at 0 (entry_without gone inst) ≡ word_at 0 inst
    by_test true is =
        ap (λ (b : Bool). word_at 0 (if b then record inst { words = words_left gone (kinds inst) inst.words } else inst)) is ∙ of_entry inst.op (op_is inst.op op.ENTRY_POINT is)
    by_test false isnt = ap (word_at 0) (entry_same gone inst isnt)

pub entry_found : (gone : ℕ → Bool) (insts : List Inst) → find is_entry (dropped gone insts) ≡ option_map (entry_without gone) (find is_entry insts)
unfolding dropped
entry_found gone insts =
    find_sifted (is_dropped gone) (entry_without gone) is_entry is_entry (record { kept = λ inst stays. ap (λ (o : ℕ). o == op.ENTRY_POINT) (entry_op gone inst); gone = entry_stays gone }) insts

pub model_dropped : (gone : ℕ → Bool) (insts : List Inst) → model_of (dropped gone insts) ≡ model_of insts
unfolding model_of
model_dropped gone insts = ap (option_map (word_at 0)) (entry_found gone insts) ∙ by_found (find is_entry insts)
  where
    by_found : (found : Option Inst) → option_map (word_at 0) (option_map (entry_without gone) found) ≡ option_map (word_at 0) found
    by_found None = refl
    by_found (Some inst) = ap (λ (n : ℕ). Some n) (stage_left gone inst)

-- ---- facts

-- what a module says, ids that go aside
abbrev pub facts_without : (ℕ → Bool) → ModuleFacts → ModuleFacts
facts_without gone facts = record {
  decoration = λ id decoration. if gone id then None else facts.decoration id decoration;
  offset = λ id member. if gone id then None else facts.offset id member;
  opcode = λ id. if gone id then None else facts.opcode id;
  model = facts.model;
  meaning = facts.meaning;
}

facts_have : (insts : List Inst)
    → ((facts_of insts).decoration ≡ decoration_of insts) × ((facts_of insts).offset ≡ offset_of insts) × ((facts_of insts).opcode ≡ opcode_of insts) × ((facts_of insts).model ≡ model_of insts) × ((facts_of insts).meaning ≡ meaning insts)
unfolding facts_of
facts_have insts = (refl, refl, refl, refl, refl)

none_or : {T : Type 0} (b : Bool) (new old : Option T) → (b ≡ true → new ≡ None) → (b ≡ false → new ≡ old) → new ≡ (if b then None else old)
none_or true new old gone kept = gone refl
none_or false new old gone kept = kept refl

pub facts_dropped : (words : Words) (v : IsValidList words) (gone : ℕ → Bool) → MayDrop words v gone → SaySame (facts_of (dropped gone words.insts)) (facts_without gone (facts_of words.insts))
facts_dropped words v gone m =
    let insts = words.insts in
    let new = dropped gone insts in
    let a = facts_have new in let b = facts_have insts in
    record {
      decoration = a.0 ∙ fun_ext (λ id. fun_ext (λ decoration. none_or (gone id) (decoration_of new id decoration) (decoration_of insts id decoration) (decoration_gone gone insts id decoration) (decoration_kept gone insts id decoration)))
          ∙ ap (λ (d : ℕ → ℕ → Option ℕ). λ (id : ℕ) (decoration : ℕ). if gone id then None else d id decoration) (sym b.0);
      offset = a.1 ∙ fun_ext (λ id. fun_ext (λ member. none_or (gone id) (offset_of new id member) (offset_of insts id member) (offset_gone gone insts id member) (offset_kept gone insts id member)))
          ∙ ap (λ (o : ℕ → ℕ → Option ℕ). λ (id : ℕ) (member : ℕ). if gone id then None else o id member) (sym b.1);
      model = a.3 ∙ model_dropped gone insts ∙ sym b.3;
      shape = λ id. ap (λ (m : ℕ → Meaning). shape_in (m id)) a.4 ∙ shapes_dropped words v gone m id ∙ sym (ap (λ (m : ℕ → Meaning). shape_in (m id)) b.4);
    }

-- what goes is no type
pub no_types_go : (words : Words) (v : IsValidList words) (gone : ℕ → Bool) → MayDrop words v gone → (id : ℕ) → gone id ≡ true → shape_in ((facts_of words.insts).meaning id) ≡ None
no_types_go words v gone m id is = ap (λ (m : ℕ → Meaning). shape_in (m id)) (facts_have words.insts).4 ∙ none_goes words v gone m id is

-- ---- what is said of ids that stay

abbrev pub NoTypesGo : (ℕ → Bool) → ModuleFacts → Type 0
NoTypesGo gone facts = (id : ℕ) → gone id ≡ true → shape_in (facts.meaning id) ≡ None

decoration_said : (gone : ℕ → Bool) (facts : ModuleFacts) (id decoration : ℕ) → gone id ≡ false → (facts_without gone facts).decoration id decoration ≡ facts.decoration id decoration
decoration_said gone facts id decoration stays = ap (λ (b : Bool). if b then None else facts.decoration id decoration) stays

offset_said : (gone : ℕ → Bool) (facts : ModuleFacts) (id member : ℕ) → gone id ≡ false → (facts_without gone facts).offset id member ≡ facts.offset id member
offset_said gone facts id member stays = ap (λ (b : Bool). if b then None else facts.offset id member) stays

member_said : (gone : ℕ → Bool) (facts : ModuleFacts) (m : Meaning) → is_block_member (facts_without gone facts) m ≡ is_block_member facts m
member_said gone facts (OfShape (Array element length)) = refl
member_said gone facts m = refl

tells_array : TellsTypes is_array
tells_array = record { constant = λ type. refl; variable = λ type class. refl; value = λ type. refl; label = refl; other = refl }

-- the stride of an array, which doesn't go
stride_said : (gone : ℕ → Bool) (facts : ModuleFacts) → NoTypesGo gone facts → (type : ℕ)
    → (not (is_array (facts.meaning type)) || is_stride ((facts_without gone facts).decoration type ARRAY_STRIDE)) ≡ (not (is_array (facts.meaning type)) || is_stride (facts.decoration type ARRAY_STRIDE))
stride_said gone facts none type = by_test (gone type) refl
  where
    by_test : (b : Bool) → gone type ≡ b
        → (not (is_array (facts.meaning type)) || is_stride ((facts_without gone facts).decoration type ARRAY_STRIDE)) ≡ (not (is_array (facts.meaning type)) || is_stride (facts.decoration type ARRAY_STRIDE))
    by_test true is =
        let e = same_told is_array tells_array (facts.meaning type) Absent (none type is) in
        ap (λ (b : Bool). not b || is_stride ((facts_without gone facts).decoration type ARRAY_STRIDE)) e ∙ sym (ap (λ (b : Bool). not b || is_stride (facts.decoration type ARRAY_STRIDE)) e)
    by_test false stays = ap (λ (o : Option ℕ). not (is_array (facts.meaning type)) || is_stride o) (decoration_said gone facts type ARRAY_STRIDE stays)

laid_out_said : (gone : ℕ → Bool) (facts : ModuleFacts) → NoTypesGo gone facts → (id member type : ℕ) → gone id ≡ false → is_laid_out (facts_without gone facts) id member type ≡ is_laid_out facts id member type
laid_out_said gone facts none id member type stays =
    three (member_said gone facts (facts.meaning type)) (ap is_multiple_of_four (offset_said gone facts id member stays)) (stride_said gone facts none type)
  where
    three : {a b c a' b' c' : Bool} → a ≡ a' → b ≡ b' → c ≡ c' → (a && b && c) ≡ (a' && b' && c')
    three p q r = cc

all_laid_out_said : (gone : ℕ → Bool) (facts : ModuleFacts) → NoTypesGo gone facts → (id member : ℕ) (types : List ℕ) → gone id ≡ false → are_laid_out (facts_without gone facts) id member types ≡ are_laid_out facts id member types
all_laid_out_said gone facts none id member [] stays = refl
all_laid_out_said gone facts none id member (type ∷ types) stays =
    ap (λ (b : Bool). b && are_laid_out (facts_without gone facts) id (member + 1) types) (laid_out_said gone facts none id member type stays)
    ∙ ap (λ (b : Bool). is_laid_out facts id member type && b) (all_laid_out_said gone facts none id (member + 1) types stays)

type_stays : (gone : ℕ → Bool) (facts : ModuleFacts) → NoTypesGo gone facts → (id : ℕ) (shape : Shape) → facts.meaning id ≡ OfShape shape → gone id ≡ false
type_stays gone facts none id shape is = by_test (gone id) refl
  where
    never : (found : Option Shape) → found ≡ None → found ≡ Some shape → ⊥
    never None is so = cc
    never (Some other) is so = cc

    by_test : (b : Bool) → gone id ≡ b → b ≡ false
    by_test false isnt = refl
    by_test true goes = absurd (never (shape_in (facts.meaning id)) (none id goes) (ap shape_in is))

block_said : (gone : ℕ → Bool) (facts : ModuleFacts) → NoTypesGo gone facts → (to : Option ℕ) → is_block (facts_without gone facts) to ≡ is_block facts to
block_said gone facts none None = refl
block_said gone facts none (Some id) = by_meaning (facts.meaning id) refl
  where
    by_meaning : (m : Meaning) → facts.meaning id ≡ m → is_block_type (facts_without gone facts) id m ≡ is_block_type facts id m
    by_meaning (OfShape (Struct members)) is =
        let stays = type_stays gone facts none id (Struct members) is in
        ap (λ (o : Option ℕ). is_some o && are_laid_out (facts_without gone facts) id 0 members.list) (decoration_said gone facts id BLOCK stays)
        ∙ ap (λ (b : Bool). is_decorated facts id BLOCK && b) (all_laid_out_said gone facts none id 0 members.list stays)
    by_meaning m is = refl

pub points_said : (gone : ℕ → Bool) (facts : ModuleFacts) → NoTypesGo gone facts → (type : ℕ) → points_to_block (facts_without gone facts) type ≡ points_to_block facts type
points_said gone facts none type = block_said gone facts none (pointee_id (facts.meaning type))

-- a variable that stays is judged as before
pub variable_said : (gone : ℕ → Bool) (facts : ModuleFacts) → NoTypesGo gone facts → (before : EarlierFacts) (type id class : ℕ) → gone id ≡ false
    → bad_variable (facts_without gone facts) before type id class ≡ bad_variable facts before type id class
unfolding bad_variable
variable_said gone facts none before type id class stays = five interface location uniform push position
  where
    five : {a b c d e a' b' c' d' e' : Bool} → a ≡ a' → b ≡ b' → c ≡ c' → d ≡ d' → e ≡ e' → (a || b || c || d || e) ≡ (a' || b' || c' || d' || e')
    five p q r s t = cc

    decorated : (decoration : ℕ) → is_decorated (facts_without gone facts) id decoration ≡ is_decorated facts id decoration
    decorated decoration = ap is_some (decoration_said gone facts id decoration stays)

    interface : bad_interface (facts_without gone facts) id class ≡ bad_interface facts id class
    interface =
        ap (λ (b : Bool). ((class == storage_class.INPUT) || (class == storage_class.OUTPUT)) && lacks_place b (is_decorated (facts_without gone facts) id BUILT_IN)) (decorated LOCATION)
        ∙ ap (λ (b : Bool). ((class == storage_class.INPUT) || (class == storage_class.OUTPUT)) && lacks_place (is_decorated facts id LOCATION) b) (decorated BUILT_IN)

    location : bad_location (facts_without gone facts) id type ≡ bad_location facts id type
    location = ap (λ (b : Bool). b && not (is_integers (held_type facts type))) (decorated LOCATION)

    uniform : bad_uniform (facts_without gone facts) before type id class ≡ bad_uniform facts before type id class
    uniform =
        ap (λ (o : Option ℕ). (class == storage_class.UNIFORM) && (bad_slot before o ((facts_without gone facts).decoration id BINDING) || not (points_to_block (facts_without gone facts) type))) (decoration_said gone facts id DESCRIPTOR_SET stays)
        ∙ ap (λ (o : Option ℕ). (class == storage_class.UNIFORM) && (bad_slot before (facts.decoration id DESCRIPTOR_SET) o || not (points_to_block (facts_without gone facts) type))) (decoration_said gone facts id BINDING stays)
        ∙ ap (λ (b : Bool). (class == storage_class.UNIFORM) && (bad_slot before (facts.decoration id DESCRIPTOR_SET) (facts.decoration id BINDING) || not b)) (points_said gone facts none type)

    push : bad_push (facts_without gone facts) before type class ≡ bad_push facts before type class
    push = ap (λ (b : Bool). (class == storage_class.PUSH_CONSTANT) && (before.push || not b)) (points_said gone facts none type)

    position : second_position (facts_without gone facts) before id ≡ second_position facts before id
    position = ap (λ (o : Option ℕ). is_word builtin.POSITION o && before.position) (decoration_said gone facts id BUILT_IN stays)

pub built_in_said : (gone : ℕ → Bool) (facts : ModuleFacts) (number : ℕ) (m : Meaning) → takes_built_in (facts_without gone facts) number m ≡ takes_built_in facts number m
built_in_said gone facts number (Variable type class) = refl
built_in_said gone facts number Absent = refl
built_in_said gone facts number (OfShape shape) = refl
built_in_said gone facts number (Constant type) = refl
built_in_said gone facts number (OfValue type) = refl
built_in_said gone facts number Label = refl
built_in_said gone facts number Other = refl

-- the opcode of an id's definition
pub opcode_kept : (gone : ℕ → Bool) (insts : List Inst) (id : ℕ) → gone id ≡ false → opcode_of (dropped gone insts) id ≡ opcode_of insts id
unfolding opcode_of
opcode_kept gone insts id stays = ap (option_map (opcode_at (dropped gone insts))) (definition_kept gone insts id stays) ∙ by_found (definition insts id) refl
  where
    by_found : (found : Option ℕ) → definition insts id ≡ found → option_map (opcode_at (dropped gone insts)) (option_map (dropped_left gone insts) found) ≡ option_map (opcode_at insts) found
    by_found None at = refl
    by_found (Some place) at =
        let k = kept_place gone insts place (defined_within insts id place at) (definition_stays gone insts id place stays at) in
        ap (λ (n : ℕ). Some n) (ap (λ (i : Inst). i.op) k.inst ∙ entry_op gone (inst_at insts place))
