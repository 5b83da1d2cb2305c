-- What an instruction of a valid module that makes a composite or takes one apart gives its result, in words of the frame.
use Rattle.std.proofs.Common.{◌≡◌, ℕ, ◌+◌, ◌≤◌, ◌==◌, true, List, length, replicate, refl, ap, ◌∙◌, arith, Some, is_some}
use Rattle.spirv_model.specs.declared.module.Inst.{Inst}
use Rattle.spirv_model.specs.declared.module.Words.{Words}
use Rattle.spirv_model.specs.declared.op.TheConstants as op
use Rattle.spirv_model.specs.declared.class.Class.TheVariants as class
use Rattle.spirv_model.specs.Operands.{word_at, class_of, entry_of, kinds}
use Rattle.valid_model.specs.Definitions.{inst_at}
use Rattle.valid_model.specs.ModuleFacts.{is_vertex, facts_of}
use Rattle.check_model.specs.CompositeOperands.{composite_operands_fit}
use Rattle.check_model.specs.Typing.{constant_word}
use Rattle.check_model.specs.Validity.{IsValidList}
use Rattle.stage_model.specs.Value.{Value}
use Rattle.stage_model.specs.Program.{program_of}
use Rattle.stage_model.specs.Start.{Memory}
use Rattle.stage_model.specs.Effect.{Gives, read_ids, effect_of}
use Rattle.typed_model.specs.Values.{IsOfType}
use Rattle.typed_model.specs.Types.{AllSuit}
use Rattle.typed_model.proofs.EffectsRun.{instruction}
use Rattle.typed_model.proofs.PlainRuns.{at_op}
use Rattle.typed_model.proofs.ReadValues.{typing_here}
use Rattle.typed_model.proofs.ValidTypes.{valid_types}
use Rattle.frame_model.specs.Frame.{frame_place, frame_words, in_frame}
use Rattle.frame_model.specs.Written.{GivesAt}
use Rattle.frame_model.proofs.FrameWrites.{frame_room}
use Rattle.frame_model.proofs.CompositeResults.{ExtractAt, extract_words, InsertAt, insert_words, ConstructAt, construct_words, ShuffleAt, shuffle_words, undef_words}
use Rattle.frame_model.proofs.ReadOperands.{OperandsAt, shaped_here, composite_fit, composite_operands}
use Rattle.frame_model.proofs.ResultWords.{gives_words}

-- ---- classes

extract_class : class_of op.COMPOSITE_EXTRACT ≡ Some class.Composite
unfolding class_of entry_of
extract_class = refl

insert_class : class_of op.COMPOSITE_INSERT ≡ Some class.Composite
unfolding class_of entry_of
insert_class = refl

construct_class : class_of op.COMPOSITE_CONSTRUCT ≡ Some class.Composite
unfolding class_of entry_of
construct_class = refl

shuffle_class : class_of op.VECTOR_SHUFFLE ≡ Some class.Composite
unfolding class_of entry_of
shuffle_class = refl

-- ---- the room of a result

-- the frame has room for the result, which takes it
pub record Room (insts : List Inst) (frame : List ℕ) (place : ℕ) (value : Value) : Type 0 where
  pub fits : frame_place (program_of insts) place + frame_words (program_of insts) (inst_at insts place) ≤ length frame
  pub size : length (in_frame (program_of insts) value) ≡ frame_words (program_of insts) (inst_at insts place)

pub given_room : (words : Words) → IsValidList words → (frame : List ℕ) (held : Memory) (place : ℕ) (value : Value) → GivesAt (program_of words.insts) frame held place value → Room words.insts frame place value
unfolding program_of
given_room words v frame held place value g =
    let room = frame_room (program_of words.insts) place g.within in let long = g.size in
    record { fits = omega (arith, room, long); size = gives_words words v frame held place value g }

-- ---- by the instruction

abbrev Given : (words : Words) → (List ℕ) → Memory → ℕ → Value → Type 0
Given words frame held place value = GivesAt (program_of words.insts) frame held place value

-- what is known where the operands are read
abbrev Made : (words : Words) → (frame : List ℕ) → Memory → ℕ → List Value → Value → (Inst → Type 0) → Inst → Type 0
Made words frame held place read value P inst =
    is_some (kinds inst) ≡ true → composite_operands_fit (typing_here words.insts (is_vertex (facts_of words.insts))) inst ≡ true → OperandsAt words.insts frame place (read_ids inst.op 0 inst.words) read
    → AllSuit (program_of words.insts) (constant_word words.insts) (read_ids inst.op 0 inst.words) read → effect_of (program_of words.insts) held inst read ≡ Some (Gives value) → IsOfType (program_of words.insts) (word_at 0 inst) value → P inst

made_by : (words : Words) → IsValidList words → (frame : List ℕ) (held : Memory) (place : ℕ) (value : Value) (g : Given words frame held place value) (P : Inst → Type 0) (opcode : ℕ) → (inst_at words.insts place).op == opcode ≡ true
    → class_of opcode ≡ Some class.Composite → Made words frame held place g.read value P (instruction opcode (inst_at words.insts place).words) → P (inst_at words.insts place)
unfolding program_of
made_by words v frame held place value g P opcode is of make =
    let inst = inst_at words.insts place in
    let composite : class_of inst.op ≡ Some class.Composite = at_op (λ inst. class_of inst.op ≡ Some class.Composite) inst opcode is of in
    at_op (Made words frame held place g.read value P) inst opcode is make
    (shaped_here words v place g.within) (composite_fit words v place g.within composite) (composite_operands words v frame held place value g composite) g.suit g.effect g.typed

pub extract_given : (words : Words) → IsValidList words → (frame : List ℕ) (held : Memory) (place : ℕ) (value : Value) → GivesAt (program_of words.insts) frame held place value → (inst_at words.insts place).op == op.COMPOSITE_EXTRACT ≡ true
    → ExtractAt words.insts frame place value (inst_at words.insts place)
extract_given words v frame held place value g is =
    made_by words v frame held place value g (ExtractAt words.insts frame place value) op.COMPOSITE_EXTRACT is extract_class
    (λ shaped fit operands suit effect typed. extract_words words.insts frame held place (inst_at words.insts place).words g.read value shaped operands effect)

pub insert_given : (words : Words) → IsValidList words → (frame : List ℕ) (held : Memory) (place : ℕ) (value : Value) → GivesAt (program_of words.insts) frame held place value → (inst_at words.insts place).op == op.COMPOSITE_INSERT ≡ true
    → InsertAt words.insts frame place value (inst_at words.insts place)
insert_given words v frame held place value g is =
    made_by words v frame held place value g (InsertAt words.insts frame place value) op.COMPOSITE_INSERT is insert_class
    (λ shaped fit operands suit effect typed.
    insert_words words.insts (constant_word words.insts) (is_vertex (facts_of words.insts)) frame held place (inst_at words.insts place).words g.read value shaped fit operands effect typed)

pub construct_given : (words : Words) → IsValidList words → (frame : List ℕ) (held : Memory) (place : ℕ) (value : Value) → GivesAt (program_of words.insts) frame held place value → (inst_at words.insts place).op == op.COMPOSITE_CONSTRUCT ≡ true
    → ConstructAt words.insts frame place value (inst_at words.insts place)
construct_given words v frame held place value g is =
    made_by words v frame held place value g (ConstructAt words.insts frame place value) op.COMPOSITE_CONSTRUCT is construct_class
    (λ shaped fit operands suit effect typed. construct_words words.insts frame held place (inst_at words.insts place).words g.read value shaped operands effect typed)

pub shuffle_given : (words : Words) → IsValidList words → (frame : List ℕ) (held : Memory) (place : ℕ) (value : Value) → GivesAt (program_of words.insts) frame held place value → (inst_at words.insts place).op == op.VECTOR_SHUFFLE ≡ true
    → ShuffleAt words.insts frame place value (inst_at words.insts place)
shuffle_given words v frame held place value g is =
    made_by words v frame held place value g (ShuffleAt words.insts frame place value) op.VECTOR_SHUFFLE is shuffle_class
    (λ shaped fit operands suit effect typed.
    shuffle_words words.insts (valid_types words v.sound) (constant_word words.insts) (is_vertex (facts_of words.insts)) frame held place (inst_at words.insts place).words g.read value shaped fit operands suit effect)

pub undef_given : (words : Words) → IsValidList words → (frame : List ℕ) (held : Memory) (place : ℕ) (value : Value) → GivesAt (program_of words.insts) frame held place value → (inst_at words.insts place).op == op.UNDEF ≡ true
    → in_frame (program_of words.insts) value ≡ replicate (frame_words (program_of words.insts) (inst_at words.insts place)) 0
unfolding program_of
undef_given words v frame held place value g is =
    let program = program_of words.insts in
    let inst = inst_at words.insts place in
    at_op (λ inst. effect_of program held inst g.read ≡ Some (Gives value) → in_frame program value ≡ replicate (length (in_frame program value)) 0) inst op.UNDEF is (undef_words program held inst.words g.read value) g.effect
    ∙ ap (λ (n : ℕ). replicate n 0) (gives_words words v frame held place value g)
