-- What an instruction of a valid module gives its result suits the result, and takes its place in the frame.
use Rattle.std.proofs.Common.{◌≡◌, ℕ, ◌<◌, ◌==◌, true, false, List, [], length, ap, sym, ◌∙◌, subst, arith, Option, None, Some}
use Rattle.std.proofs.lemmas.Bool.Decides.{nat_tests}
use Rattle.spirv_model.specs.declared.module.Words.{Words}
use Rattle.spirv_model.specs.declared.op.TheConstants as op
use Rattle.spirv_model.specs.Operands.{word_at, class_of, result}
use Rattle.valid_model.specs.declared.meaning.Meaning.{Meaning}
use Rattle.valid_model.specs.declared.meaning.Meaning.TheVariants.{Shape as OfShape, Variable}
use Rattle.valid_model.specs.declared.meaning.Shape.TheVariants.{Pointer as PointerType}
use Rattle.valid_model.specs.Definitions.{has_result, definition, inst_at}
use Rattle.valid_model.specs.Meanings.{known_before, meaning}
use Rattle.check_model.specs.Typing.{type_id, constant_word}
use Rattle.check_model.specs.Validity.{IsValidList}
use Rattle.stage_model.specs.Value.{Value, Pointer}
use Rattle.stage_model.specs.Program.{Program, program_of}
use Rattle.stage_model.specs.Start.{Memory, with_value}
use Rattle.stage_model.specs.Effect.{Gives, has_result_class, effect_of}
use Rattle.typed_model.specs.Values.{IsData, IsOfMeaning, IsOfType}
use Rattle.typed_model.specs.Types.{HasTypes, Suits}
use Rattle.typed_model.proofs.BlockResults.{value_known, result_suits}
use Rattle.typed_model.proofs.KeptSteps.{variable_class}
use Rattle.typed_model.proofs.ModuleSteps.{variable_suits}
use Rattle.typed_model.proofs.ModuleValues.{defined_at, meaning_at}
use Rattle.typed_model.proofs.PlainRuns.{at_op}
use Rattle.typed_model.proofs.ResultIds.{typed_result_id, defines, defined_id}
use Rattle.typed_model.proofs.TypedSteps.{gives_at}
use Rattle.typed_model.proofs.ValidTypes.{keeps_rules, valid_types}
use Rattle.frame_model.specs.Frame.{words_of_type, id_words, frame_words, frame_place, in_frame}
use Rattle.frame_model.specs.Shown.{IsFrame, Shows}
use Rattle.frame_model.specs.Written.{GivesAt, written}
use Rattle.frame_model.proofs.FrameSizes.{value_size}
use Rattle.frame_model.proofs.FrameWrites.{Result, shows_written, is_frame_written}
use Rattle.frame_model.proofs.ResultWords.{Gave, by_variable, by_class, gave}

same : (a b : ℕ) → a == b ≡ true → a ≡ b
same a b is = grind (arith, nat_tests)

-- ---- a value that suits an id

pub own_result : (id : ℕ) (found : Option ℕ) → has_result id found ≡ true → found ≡ Some id
own_result id None is = cc
own_result id (Some own) is = ap (λ (n : ℕ). Some n) (same own id is)

-- the words of an id with a type
pub words_of_id : (program : Program) (id place type : ℕ) → definition program.insts id ≡ Some place → type_id (program.meaning id) ≡ Some type → frame_words program (inst_at program.insts place) ≡ words_of_type program (Some type)
unfolding frame_words
words_of_id program id place type defined typed =
    ap (id_words program) (own_result id (result (inst_at program.insts place)) (gives_at program.insts id place defined)) ∙ ap (words_of_type program) typed

pub suited_result : (program : Program) → HasTypes program → (place id type : ℕ) (value : Value) → definition program.insts id ≡ Some place → type_id (program.meaning id) ≡ Some type → Suits program (constant_word program.insts) id value
    → Result program place id value
suited_result program types place id type value defined typed suits =
    record { defined = defined; size = value_size program types type value (suits.of_type type typed) ∙ sym (words_of_id program id place type defined typed); suits = suits }

-- ---- its result

-- of a class with results
class_result : (words : Words) → IsValidList words → (place : ℕ) (value : Value) → place < length words.insts → has_result_class (class_of (inst_at words.insts place).op) ≡ true → (inst_at words.insts place).op == op.STORE ≡ false
    → IsOfType (program_of words.insts) (word_at 0 (inst_at words.insts place)) value → Result (program_of words.insts) place (word_at 1 (inst_at words.insts place)) value
unfolding program_of
class_result words v place value within has isnt typed =
    let inst = inst_at words.insts place in
    let once = (keeps_rules words v.sound place within).once in
    let at = defined_at words.insts place (word_at 1 inst) within (typed_result_id inst has isnt) once in
    let means = meaning_at words.insts place (word_at 1 inst) at ∙ value_known (known_before words.insts place) inst has in
    suited_result (program_of words.insts) (valid_types words v.sound) place (word_at 1 inst) (word_at 0 inst) value at (ap type_id means) (result_suits words.insts place value within once has isnt typed)

-- a pointer's type is the one that its variable means
pointer_by : (program : Program) (type variable : ℕ) (indices : List ℕ) (m : Meaning) → IsOfMeaning program type m (Pointer variable indices) → (held : ℕ) × (class : ℕ) × (program.meaning variable ≡ Variable held class)
pointer_by program type variable indices (OfShape (PointerType class to)) is = (is.held, class, is.is_variable)
pointer_by program type variable indices m is = no_data program type variable indices is
  where
    no_layout : {A : Type 0} (x : A) → ◌≡◌ {A = Option A} None (Some x) → ⊥
    no_layout x is = cc

    no_data : (program : Program) (type variable : ℕ) (indices : List ℕ) → IsData program type (Pointer variable indices) → (held : ℕ) × (class : ℕ) × (program.meaning variable ≡ Variable held class)
    no_data program type variable indices is = absurd (no_layout is.layout is.has)

-- of OpVariable
variable_result : (words : Words) → IsValidList words → (place : ℕ) → place < length words.insts → (inst_at words.insts place).op == op.VARIABLE ≡ true
    → IsOfType (program_of words.insts) (word_at 0 (inst_at words.insts place)) (Pointer (word_at 1 (inst_at words.insts place)) [])
    → Result (program_of words.insts) place (word_at 1 (inst_at words.insts place)) (Pointer (word_at 1 (inst_at words.insts place)) [])
unfolding program_of
variable_result words v place within is typed =
    let inst = inst_at words.insts place in
    let once = (keeps_rules words v.sound place within).once in
    let defined = at_op (λ inst. defines (class_of inst.op) ≡ true) inst op.VARIABLE is variable_class in
    let at = defined_at words.insts place (word_at 1 inst) within (defined_id inst defined) once in
    let p = pointer_by (program_of words.insts) (word_at 0 inst) (word_at 1 inst) [] (meaning words.insts (word_at 0 inst)) typed in
    suited_result (program_of words.insts) (valid_types words v.sound) place (word_at 1 inst) p.0 (Pointer (word_at 1 inst) []) at (ap type_id p.2)
    (variable_suits words.insts place (valid_types words v.sound) within once is defined)

-- what an instruction gives its result suits it
pub effect_result : (words : Words) → IsValidList words → (place : ℕ) (memory : Memory) (read : List Value) (value : Value) → place < length words.insts → effect_of (program_of words.insts) memory (inst_at words.insts place) read ≡ Some (Gives value)
    → IsOfType (program_of words.insts) (word_at 0 (inst_at words.insts place)) value → Result (program_of words.insts) place (word_at 1 (inst_at words.insts place)) value
effect_result words v place memory read value within is typed =
    let inst = inst_at words.insts place in
    by_kind (gave (program_of words.insts) memory inst read value is)
  where
    by_kind : Gave (program_of words.insts) memory (inst_at words.insts place) read value → Result (program_of words.insts) place (word_at 1 (inst_at words.insts place)) value
    by_kind (by_variable at whole) =
        let of = subst (λ (x : Value). IsOfType (program_of words.insts) (word_at 0 (inst_at words.insts place)) x) whole typed in
        subst (λ (x : Value). Result (program_of words.insts) place (word_at 1 (inst_at words.insts place)) x) (sym whole) (variable_result words v place within at of)
    by_kind (by_class has isnt made) = class_result words v place value within has isnt typed

pub given_result : (words : Words) → IsValidList words → (frame : List ℕ) (held : Memory) (place : ℕ) (value : Value) → GivesAt (program_of words.insts) frame held place value → Result (program_of words.insts) place (word_at 1 (inst_at words.insts place)) value
unfolding program_of
given_result words v frame held place value g = effect_result words v place held g.read value g.within g.effect g.typed

-- the frame with the result in it shows the values with it
pub shows_given : (words : Words) → IsValidList words → (frame : List ℕ) (held : Memory) (place : ℕ) (value : Value) (g : GivesAt (program_of words.insts) frame held place value)
    → Shows (program_of words.insts) (written frame (frame_place (program_of words.insts) place) (in_frame (program_of words.insts) value)) (with_value (word_at 1 (inst_at words.insts place)) (Some value) g.values)
shows_given words v frame held place value g =
    shows_written (program_of words.insts) frame g.values place (word_at 1 (inst_at words.insts place)) value g.size g.shows (given_result words v frame held place value g)

pub is_frame_given : (words : Words) → IsValidList words → (frame : List ℕ) (held : Memory) (place : ℕ) (value : Value) → GivesAt (program_of words.insts) frame held place value
    → IsFrame (program_of words.insts) (written frame (frame_place (program_of words.insts) place) (in_frame (program_of words.insts) value))
is_frame_given words v frame held place value g = is_frame_written (program_of words.insts) frame place value g.size g.within (given_result words v frame held place value g).size
