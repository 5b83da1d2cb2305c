-- The words of the result of an instruction of a valid module are those of its type.
use Rattle.std.proofs.Common.{◌≡◌, ℕ, ◌<◌, ◌==◌, Bool, true, false, if◌then◌else◌, List, [], ◌∷◌, length, refl, ap, sym, ◌∙◌, subst, slice_index, Option, None, Some}
use Rattle.std.specs.Option.{option_map, option_and_then}
use Rattle.std.proofs.Common.{drop}
use Rattle.spirv_model.specs.declared.module.Inst.{Inst}
use Rattle.spirv_model.specs.declared.module.Words.{Words}
use Rattle.spirv_model.specs.declared.op.TheConstants as op
use Rattle.spirv_model.specs.declared.class.Class.{Class}
use Rattle.spirv_model.specs.declared.class.Class.TheVariants as class
use Rattle.spirv_model.specs.Operands.{word_at, class_of, entry_of, result}
use Rattle.valid_model.specs.declared.meaning.Meaning.{Meaning}
use Rattle.valid_model.specs.declared.meaning.Meaning.TheVariants.{Shape as OfShape, Variable, Other}
use Rattle.valid_model.specs.declared.meaning.Shape.TheVariants.{Pointer as PointerType}
use Rattle.valid_model.specs.Definitions.{definition, inst_at}
use Rattle.valid_model.specs.Knowledge.{is_storage_class}
use Rattle.valid_model.specs.Meanings.{is_constant_class, is_constant, variable_meaning, known_of, known_before, meaning}
use Rattle.check_model.specs.Typing.{type_id, constant_word}
use Rattle.check_model.specs.Validity.{IsValidList}
use Rattle.stage_model.specs.Value.{Value, Pointer, Outside, Truth, Word, Composite, words_of}
use Rattle.stage_model.specs.Program.{Program, program_of}
use Rattle.stage_model.specs.Start.{Memory}
use Rattle.stage_model.specs.Effect.{Effect, Gives, Writes, stored, stores, branches, picks, has_result_class, result_of, effect_of, place_of}
use Rattle.typed_model.specs.Values.{IsData, PointsTo, IsOfMeaning, IsOfType}
use Rattle.typed_model.proofs.ValidTypes.{keeps_rules, valid_types}
use Rattle.typed_model.proofs.ResultIds.{defines, defined_id, typed_result_id}
use Rattle.typed_model.proofs.ModuleValues.{defined_at, meaning_at}
use Rattle.typed_model.proofs.ModuleSteps.{constant_known_by, variable_known}
use Rattle.typed_model.proofs.PlainRuns.{at_op}
use Rattle.typed_model.proofs.BlockResults.{value_known}
use Rattle.frame_model.specs.Frame.{type_words, id_words, words_of_type, frame_words, in_frame}
use Rattle.frame_model.specs.Written.{GivesAt}
use Rattle.typed_model.specs.Types.{Suits}
use Rattle.frame_model.proofs.FrameSizes.{value_size}
use Rattle.frame_model.proofs.ZeroId.{definition_result}

-- ---- by what the result means

by_type : (insts : List Inst) (inst : Inst) (id type : ℕ) → result inst ≡ Some id → type_id (meaning insts id) ≡ Some type → frame_words (program_of insts) inst ≡ type_words (program_of insts) type (meaning insts type)
unfolding frame_words program_of
by_type insts inst id type is of = ap (id_words (program_of insts)) is ∙ ap (words_of_type (program_of insts)) of

-- an instruction that gives its result a value; it is defined there
pub defines_there : (words : Words) → IsValidList words → (place : ℕ) → place < length words.insts → has_result_class (class_of (inst_at words.insts place).op) ≡ true → (inst_at words.insts place).op == op.STORE ≡ false
    → definition words.insts (word_at 1 (inst_at words.insts place)) ≡ Some place
defines_there words v place within gives isnt = defined_at words.insts place _ within (typed_result_id (inst_at words.insts place) gives isnt) (keeps_rules words v.sound place within).once

pub result_words : (words : Words) → IsValidList words → (place : ℕ) → place < length words.insts → has_result_class (class_of (inst_at words.insts place).op) ≡ true → (inst_at words.insts place).op == op.STORE ≡ false
    → frame_words (program_of words.insts) (inst_at words.insts place) ≡ type_words (program_of words.insts) (word_at 0 (inst_at words.insts place)) (meaning words.insts (word_at 0 (inst_at words.insts place)))
result_words words v place within gives isnt =
    let inst = inst_at words.insts place in
    by_type words.insts inst (word_at 1 inst) (word_at 0 inst) (typed_result_id inst gives isnt)
    (ap type_id (meaning_at words.insts place (word_at 1 inst) (defines_there words v place within gives isnt) ∙ value_known (known_before words.insts place) inst gives))

-- ---- constants

class_defines : (of : Option Class) → is_constant_class of ≡ true → defines of ≡ true
class_defines (Some class.Constant) is = refl
class_defines (Some class.SpecConstant) is = refl
class_defines (Some class.SpecConstantResult) is = refl
class_defines of is = cc

pub constant_words : (words : Words) → IsValidList words → (place : ℕ) → place < length words.insts → is_constant (inst_at words.insts place).op ≡ true
    → frame_words (program_of words.insts) (inst_at words.insts place) ≡ type_words (program_of words.insts) (word_at 0 (inst_at words.insts place)) (meaning words.insts (word_at 0 (inst_at words.insts place)))
constant_words words v place within is =
    let inst = inst_at words.insts place in
    let own = defined_id inst (class_defines (class_of inst.op) is) in
    by_type words.insts inst (word_at 1 inst) (word_at 0 inst) own
    (ap type_id (meaning_at words.insts place (word_at 1 inst) (defined_at words.insts place (word_at 1 inst) within own (keeps_rules words v.sound place within).once) ∙ constant_known_by (known_before words.insts place) inst is))

-- ---- what gives a result its value

-- a variable gives a pointer to the whole of it; any other instruction that gives a value does by its class
pub data Gave (program : Program) (held : Memory) (inst : Inst) (read : List Value) (value : Value) : Type 0 where
  by_variable : inst.op == op.VARIABLE ≡ true → value ≡ Pointer (slice_index inst.words 1) [] → Gave program held inst read value
  by_class : has_result_class (class_of inst.op) ≡ true → inst.op == op.STORE ≡ false → result_of program held inst.op (slice_index inst.words 0) (drop 2 inst.words) read ≡ Some value → Gave program held inst read value

which : {P : Type 0} {x y : Option Effect} {value : Value} (b : Bool) → (if b then x else y) ≡ Some (Gives value) → (b ≡ true → x ≡ Some (Gives value) → P) → (b ≡ false → y ≡ Some (Gives value) → P) → P
which true is f g = f refl is
which false is f g = g refl is

no_store : (program : Program) (read : List Value) (value : Value) → stores program read ≡ Some (Gives value) → ⊥
no_store program [] value is = cc
no_store program (pointer ∷ []) value is = cc
no_store program (pointer ∷ object ∷ []) value is = by_words program pointer value (words_of object) is
  where
    by_place : (place : Option ℕ) (variable : ℕ) (words : List ℕ) (value : Value) → option_map (λ place. Writes variable place words) place ≡ Some (Gives value) → ⊥
    by_place None variable words value is = cc
    by_place (Some place) variable words value is = cc

    by_pointer : (program : Program) (words : List ℕ) (pointer value : Value) → stored program words pointer ≡ Some (Gives value) → ⊥
    by_pointer program words (Pointer variable indices) value is = by_place (place_of program variable indices) variable words value is
    by_pointer program words Outside value is = cc
    by_pointer program words (Truth b) value is = cc
    by_pointer program words (Word word) value is = cc
    by_pointer program words (Composite parts) value is = cc

    by_words : (program : Program) (pointer value : Value) (words : Option (List ℕ)) → option_and_then (λ words. stored program words pointer) words ≡ Some (Gives value) → ⊥
    by_words program pointer value None is = cc
    by_words program pointer value (Some words) is = by_pointer program words pointer value is
no_store program (pointer ∷ object ∷ more ∷ values) value is = cc

no_branch : (read : List Value) (on_true on_false : ℕ) (value : Value) → branches read on_true on_false ≡ Some (Gives value) → ⊥
no_branch [] on_true on_false value is = cc
no_branch (Truth condition ∷ []) on_true on_false value is = cc
no_branch (Truth condition ∷ more ∷ values) on_true on_false value is = cc
no_branch (first ∷ values) on_true on_false value is = cc

no_switch : (read : List Value) (default : ℕ) (cases : List ℕ) (value : Value) → picks read default cases ≡ Some (Gives value) → ⊥
no_switch [] default cases value is = cc
no_switch (Word selector ∷ []) default cases value is = cc
no_switch (Word selector ∷ more ∷ values) default cases value is = cc
no_switch (first ∷ values) default cases value is = cc

of_result : (found : Option Value) (value : Value) → option_map Gives found ≡ Some (Gives value) → found ≡ Some value
of_result None value is = cc
of_result (Some own) value is = cc

pub gave : (program : Program) (held : Memory) (inst : Inst) (read : List Value) (value : Value) → effect_of program held inst read ≡ Some (Gives value) → Gave program held inst read value
unfolding effect_of
gave program held inst read value is =
    which (inst.op == op.LABEL) is (λ _ e. cc) (λ _ is. which (inst.op == op.SELECTION_MERGE) is (λ _ e. cc) (λ _ is. which (inst.op == op.LOOP_MERGE) is (λ _ e. cc)
    (λ _ is. which (inst.op == op.VARIABLE) is (λ b e. by_variable b (cc)) (λ _ is. which (inst.op == op.STORE) is (λ _ e. absurd (no_store program read value e))
    (λ isnt is. which (inst.op == op.BRANCH) is (λ _ e. cc) (λ _ is. which (inst.op == op.BRANCH_CONDITIONAL) is (λ _ e. absurd (no_branch read _ _ value e))
    (λ _ is. which (inst.op == op.SWITCH) is (λ _ e. absurd (no_switch read _ _ value e)) (λ _ is. which (inst.op == op.RETURN) is (λ _ e. cc) (λ _ is. which (inst.op == op.UNREACHABLE) is (λ _ e. cc)
    (λ _ is. which (inst.op == op.KILL) is (λ _ e. cc)
    (λ _ is. which (has_result_class (class_of inst.op)) is (λ c e. by_class c isnt (of_result _ value e)) (λ _ e. cc))))))))))))

-- ---- variables

no_pointer_data : (program : Program) (type variable : ℕ) → IsData program type (Pointer variable []) → ⊥
no_pointer_data program type variable is = let e = is.has in cc

pointed : (program : Program) (type variable : ℕ) (m : Meaning) → IsOfMeaning program type m (Pointer variable []) → (class : ℕ) × (to : ℕ) × (m ≡ OfShape (PointerType class to)) × PointsTo program class to variable []
pointed program type variable (OfShape (PointerType class to)) is = (class, to, refl, is)
pointed program type variable m is = absurd (no_pointer_data program type variable is)

variable_defines : defines (class_of op.VARIABLE) ≡ true
unfolding class_of entry_of
variable_defines = refl

-- a variable is defined where it is made, and means what its words say
pub record MakesVariable (insts : List Inst) (place : ℕ) : Type 0 where
  pub own : result (inst_at insts place) ≡ Some (word_at 1 (inst_at insts place))
  pub there : definition insts (word_at 1 (inst_at insts place)) ≡ Some place
  pub means : meaning insts (word_at 1 (inst_at insts place)) ≡ variable_meaning (word_at 0 (inst_at insts place)) (word_at 2 (inst_at insts place))

pub makes_variable : (words : Words) → IsValidList words → (place : ℕ) → place < length words.insts → (inst_at words.insts place).op == op.VARIABLE ≡ true → MakesVariable words.insts place
makes_variable words v place within is =
    let inst = inst_at words.insts place in
    let own = defined_id inst (at_op (λ (i : Inst). defines (class_of i.op) ≡ true) inst op.VARIABLE is variable_defines) in
    let at = defined_at words.insts place (word_at 1 inst) within own (keeps_rules words v.sound place within).once in
    record {
      own = own;
      there = at;
      means =
          meaning_at words.insts place (word_at 1 inst) at
          ∙ at_op (λ inst. (known_of (known_before words.insts place) inst).meaning ≡ variable_meaning (word_at 0 inst) (word_at 2 inst)) inst op.VARIABLE is (variable_known (known_before words.insts place) inst.words);
    }

same_type : (b : Bool) (type own class held : ℕ) → (if b then Variable type own else Other) ≡ Variable held class → held ≡ type
same_type true type own class held is = cc
same_type false type own class held is = cc

variable_words : (words : Words) → IsValidList words → (place : ℕ) → place < length words.insts → (inst_at words.insts place).op == op.VARIABLE ≡ true
    → IsOfType (program_of words.insts) (word_at 0 (inst_at words.insts place)) (Pointer (word_at 1 (inst_at words.insts place)) [])
    → frame_words (program_of words.insts) (inst_at words.insts place) ≡ type_words (program_of words.insts) (word_at 0 (inst_at words.insts place)) (meaning words.insts (word_at 0 (inst_at words.insts place)))
unfolding program_of
variable_words words v place within is typed =
    let inst = inst_at words.insts place in
    let m = makes_variable words v place within is in
    let p = pointed (program_of words.insts) (word_at 0 inst) (word_at 1 inst) (meaning words.insts (word_at 0 inst)) typed in
    let points = p.3 in
    let held = same_type (is_storage_class (word_at 2 inst)) (word_at 0 inst) (word_at 2 inst) p.0 points.held (sym m.means ∙ points.is_variable) in
    by_type words.insts inst (word_at 1 inst) points.held m.own (ap type_id points.is_variable) ∙ ap (λ (t : ℕ). type_words (program_of words.insts) t (meaning words.insts t)) held

-- ---- a result and its value

-- the result of an instruction that gives it a value is as long as the value
pub gives_words : (words : Words) → IsValidList words → (frame : List ℕ) (held : Memory) (place : ℕ) (value : Value) → GivesAt (program_of words.insts) frame held place value
    → length (in_frame (program_of words.insts) value) ≡ frame_words (program_of words.insts) (inst_at words.insts place)
unfolding program_of
gives_words words v frame held place value g =
    let program = program_of words.insts in
    let inst = inst_at words.insts place in
    let size = value_size program (valid_types words v.sound) (word_at 0 inst) value g.typed in
    elim (gave program held inst g.read value g.effect) [
      | by_class gives isnt found ↦ size ∙ sym (result_words words v place g.within gives isnt)
      | by_variable is whole ↦ size ∙ sym (variable_words words v place g.within is (subst (IsOfType program (word_at 0 inst)) whole g.typed))
    ]

-- a value that suits an id is as long as the result that defines it
pub suits_words : (words : Words) → IsValidList words → (id place type : ℕ) (value : Value) → definition words.insts id ≡ Some place → type_id (meaning words.insts id) ≡ Some type → Suits (program_of words.insts) (constant_word words.insts) id value
    → length (in_frame (program_of words.insts) value) ≡ frame_words (program_of words.insts) (inst_at words.insts place)
unfolding program_of
suits_words words v id place type value at of suits =
    value_size (program_of words.insts) (valid_types words v.sound) type value (suits.of_type type of) ∙ sym (by_type words.insts (inst_at words.insts place) id type (definition_result words.insts id place at) of)
