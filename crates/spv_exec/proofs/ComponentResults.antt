-- What an operation on components reads and gives, in words of the frame.
use Rattle.std.proofs.Common.{◌≡◌, ℕ, suc, ◌+◌, ◌<◌, ◌≤◌, ◌==◌, inl, inr, ◌⊎◌, Bool, true, false, ◌||◌, if◌then◌else◌, List, [], ◌∷◌, length, map, drop, slice_index, refl, ap, sym, ◌∙◌, subst, arith, Option, None, Some}
use Rattle.std.specs.Option.{option_map, option_and_then}
use Rattle.std.specs.List.{list_any, list_all}
use Rattle.std.proofs.lemmas.List.{length-map}
use Rattle.spirv_model.specs.declared.module.Inst.{Inst}
use Rattle.spirv_model.specs.declared.module.Words.{Words}
use Rattle.spirv_model.specs.declared.op.TheConstants as op
use Rattle.spirv_model.specs.declared.class.Class.{Class}
use Rattle.spirv_model.specs.declared.class.Class.TheVariants as class
use Rattle.spirv_model.specs.declared.class.ScalarClass.{ScalarClass}
use Rattle.spirv_model.specs.Operands.{class_of}
use Rattle.scalar_model.specs.declared.scalar_value.Scalar.{Scalar}
use Rattle.scalar_model.specs.declared.scalar_value.Scalar.TheVariants.{Bool as TruthOf, Word as WordOf}
use Rattle.scalar_model.specs.Scalars.{scalar_result}
use Rattle.valid_model.specs.Definitions.{definition, inst_at}
use Rattle.check_model.specs.Validity.{IsValidList}
use Rattle.stage_model.specs.Value.{Value, Truth, Word, Composite, Pointer, Outside, word_of_truth}
use Rattle.stage_model.specs.Program.{program_of}
use Rattle.stage_model.specs.Start.{Memory, scalar_of, of_scalar, all_scalars, scalar_value}
use Rattle.stage_model.specs.Operations.{operation}
use Rattle.typed_model.proofs.TypeLayouts.{same}
use Rattle.spv_ops.specs.ScalarWords.{scalar_word, word_of_one, word_of_two}
use Rattle.spv_ops.proofs.ScalarWords.{is_word_of_one, is_word_of_two}
use Rattle.frame_model.specs.Frame.{frame_words, frame_place, in_frame}
use Rattle.frame_model.specs.Shown.{words_at}
use Rattle.frame_model.specs.Written.{GivesAt, written}
use Rattle.frame_model.specs.Componentwise.{on_both, is_true_word, chosen_words}
use Rattle.frame_model.proofs.WrittenWords.{words_at_index}
use Rattle.frame_model.proofs.ScalarWords.{value_word, word_first, ComputesOne, ComputesTwo, unary_words, binary_words, any_result_words, all_result_words, select_words}
use Rattle.frame_model.proofs.OperandReads.{Operand, AreOperands, IsOperation, Operates, operates, scalar_operation, any_operation, all_operation}
use Rattle.frame_model.proofs.SelectReads.{selects}
use Rattle.spv_exec.proofs.ComponentLoops.{length_both}
use Rattle.spv_exec.specs.Opcodes.{is_scalar_class, is_on_components}

-- ---- operations on components

either : {Q : Type 0} (a b : Bool) → (a || b) ≡ true → (a ≡ true → Q) → (b ≡ true → Q) → Q
either true b is here there = here refl
either false b is here there = there is

scalar_class : (found : Option Class) → is_scalar_class found ≡ true → (operation_class : ScalarClass) × (found ≡ Some (class.Scalar operation_class))
scalar_class (Some (class.Scalar operation_class)) is = (operation_class, refl)
scalar_class found is = cc

operation_here : (words : Words) → IsValidList words → (place : ℕ) → place < length words.insts → is_on_components (inst_at words.insts place).op ≡ true → IsOperation words.insts (inst_at words.insts place)
unfolding is_on_components
operation_here words v place within is =
    let opcode = (inst_at words.insts place).op in
    either ((opcode == op.ANY) || (opcode == op.ALL)) (is_scalar_class (class_of opcode)) is
    (λ reduces. either (opcode == op.ANY) (opcode == op.ALL) reduces (any_operation words v place within) (all_operation words v place within))
    (λ scalar. let s = scalar_class (class_of opcode) scalar in scalar_operation words v place s.0 within s.1)

pub operates_here : (words : Words) → IsValidList words → (frame : List ℕ) (held : Memory) (place : ℕ) (value : Value) → is_on_components (inst_at words.insts place).op ≡ true → (g : GivesAt (program_of words.insts) frame held place value)
    → Operates words.insts frame place g.read value
unfolding program_of
operates_here words v frame held place value is g = operates words v frame held place value (operation_here words v place g.within is) g

-- it reads one value, two or three
no_value : (value : Value) → ◌≡◌ {A = Option Value} None (Some value) → ⊥
no_value value is = cc

of_none : (opcode : ℕ) (value : Value) → operation opcode [] ≡ Some value → ⊥
unfolding operation scalar_result
of_none opcode value is = no_value value is

of_four : (opcode : ℕ) (first second third fourth : Scalar) (more : List Scalar) → scalar_result opcode (first ∷ second ∷ third ∷ fourth ∷ more) ≡ None
unfolding scalar_result
of_four opcode (WordOf a) (WordOf b) third fourth more = refl
of_four opcode (WordOf a) (TruthOf b) third fourth more = refl
of_four opcode (TruthOf a) (WordOf b) third fourth more = refl
of_four opcode (TruthOf a) (TruthOf b) third fourth more = refl

abbrev begun : Option Scalar → Option (List Scalar) → Option (List Scalar)
begun first rest = option_and_then (λ first. option_map (λ rest. first ∷ rest) rest) first

many_scalars : (opcode : ℕ) (value : Value) (first second third fourth : Option Scalar) (rest : Option (List Scalar))
    → option_map of_scalar (option_and_then (scalar_result opcode) (begun first (begun second (begun third (begun fourth rest))))) ≡ Some value → ⊥
many_scalars opcode value None second third fourth rest is = no_value value is
many_scalars opcode value (Some a) None third fourth rest is = no_value value is
many_scalars opcode value (Some a) (Some b) None fourth rest is = no_value value is
many_scalars opcode value (Some a) (Some b) (Some c) None rest is = no_value value is
many_scalars opcode value (Some a) (Some b) (Some c) (Some d) None is = no_value value is
many_scalars opcode value (Some a) (Some b) (Some c) (Some d) (Some more) is = no_value value (sym (ap (option_map of_scalar) (of_four opcode a b c d more)) ∙ is)

many_values : (opcode : ℕ) (a b c d : Value) (more : List Value) → operation opcode (a ∷ b ∷ c ∷ d ∷ more) ≡ scalar_value opcode (a ∷ b ∷ c ∷ d ∷ more)
unfolding operation
many_values opcode (Truth a) b c d more = refl
many_values opcode (Word a) b c d more = refl
many_values opcode (Pointer v i) b c d more = refl
many_values opcode Outside b c d more = refl
many_values opcode (Composite a) (Truth b) c d more = refl
many_values opcode (Composite a) (Word b) c d more = refl
many_values opcode (Composite a) (Pointer v i) c d more = refl
many_values opcode (Composite a) Outside c d more = refl
many_values opcode (Composite a) (Composite b) (Truth c) d more = refl
many_values opcode (Composite a) (Composite b) (Word c) d more = refl
many_values opcode (Composite a) (Composite b) (Pointer v i) d more = refl
many_values opcode (Composite a) (Composite b) Outside d more = refl
many_values opcode (Composite a) (Composite b) (Composite c) d more = refl

of_many : (opcode : ℕ) (a b c d : Value) (more : List Value) (value : Value) → operation opcode (a ∷ b ∷ c ∷ d ∷ more) ≡ Some value → ⊥
of_many opcode a b c d more value is = many_scalars opcode value (scalar_of a) (scalar_of b) (scalar_of c) (scalar_of d) (all_scalars more) (sym (many_values opcode a b c d more) ∙ is)

few_read : (opcode : ℕ) (read : List Value) (value : Value) → operation opcode read ≡ Some value → (1 ≤ length read) × (length read ≤ 3)
few_read opcode [] value is = absurd (of_none opcode value is)
few_read opcode (a ∷ []) value is = (omega arith, omega arith)
few_read opcode (a ∷ b ∷ []) value is = (omega arith, omega arith)
few_read opcode (a ∷ b ∷ c ∷ []) value is = (omega arith, omega arith)
few_read opcode (a ∷ b ∷ c ∷ d ∷ more) value is = absurd (of_many opcode a b c d more value is)

as_many : (insts : List Inst) (frame : List ℕ) (place : ℕ) (ids : List ℕ) (read : List Value) → AreOperands insts frame place ids read → length ids ≡ length read
as_many insts frame place [] [] are = refl
as_many insts frame place [] (value ∷ values) are = absurd are
as_many insts frame place (id ∷ ids) [] are = absurd are
as_many insts frame place (id ∷ ids) (value ∷ values) are = ap (λ (n : ℕ). suc n) (as_many insts frame place ids values are.1)

pub few_operands : (words : Words) → IsValidList words → (frame : List ℕ) (held : Memory) (place : ℕ) (value : Value) → is_on_components (inst_at words.insts place).op ≡ true → GivesAt (program_of words.insts) frame held place value
    → (1 ≤ length (drop 2 (inst_at words.insts place).words)) × (length (drop 2 (inst_at words.insts place).words) ≤ 3)
few_operands words v frame held place value is g =
    let o = operates_here words v frame held place value is g in
    let n = as_many words.insts frame place (drop 2 (inst_at words.insts place).words) g.read o.operands in
    let f = few_read (inst_at words.insts place).op g.read value o.gives in
    let low = f.0 in let high = f.1 in
    (omega (arith, n, low), omega (arith, n, high))

-- ---- one operand

-- the one that is read
pub record ReadsOne (insts : List Inst) (frame : List ℕ) (place id : ℕ) (read : List Value) : Type 0 where
  pub a : Value
  pub is : read ≡ a ∷ []
  pub operand : Operand insts frame place id a

reads_one : (insts : List Inst) (frame : List ℕ) (place id : ℕ) (ids : List ℕ) (read : List Value) → ids ≡ id ∷ [] → AreOperands insts frame place ids read → ReadsOne insts frame place id read
reads_one insts frame place id ids read is are = by_read read (subst (λ (i : List ℕ). AreOperands insts frame place i read) is are)
  where
    by_read : (read : List Value) → AreOperands insts frame place (id ∷ []) read → ReadsOne insts frame place id read
    by_read [] are = absurd are
    by_read (a ∷ []) are = record { a = a; is = refl; operand = are.0 }
    by_read (a ∷ b ∷ more) are = absurd are.1

-- the words of a result lie in the frame
pub record Room (insts : List Inst) (frame : List ℕ) (place : ℕ) : Type 0 where
  pub within : place < length insts
  pub room : frame_place (program_of insts) place + frame_words (program_of insts) (inst_at insts place) ≤ length frame

pub room_here : (words : Words) → IsValidList words → (frame : List ℕ) (held : Memory) (place : ℕ) (value : Value) → is_on_components (inst_at words.insts place).op ≡ true → GivesAt (program_of words.insts) frame held place value → Room words.insts frame place
unfolding program_of
room_here words v frame held place value is g = record { within = g.within; room = (operates_here words v frame held place value is g).room }

-- words of an operand that is so long
pub record HasWords (insts : List Inst) (frame : List ℕ) (place id count : ℕ) (words : List ℕ) : Type 0 where
  pub at : ℕ
  pub defined : definition insts id ≡ Some at
  pub within : frame_place (program_of insts) at + count ≤ length frame
  pub apart : (frame_place (program_of insts) at + count ≤ frame_place (program_of insts) place) ⊎ (frame_place (program_of insts) place ≤ frame_place (program_of insts) at)
  pub are : words_at frame (frame_place (program_of insts) at) count ≡ words
  pub long : frame_words (program_of insts) (inst_at insts at) ≡ count
  pub before_end : at < length insts

has_words : (insts : List Inst) (frame : List ℕ) (place id count : ℕ) (value : Value) → Operand insts frame place id value → length (in_frame (program_of insts) value) ≡ count → HasWords insts frame place id count (in_frame (program_of insts) value)
unfolding program_of
has_words insts frame place id count value o is =
    let size = o.words.size in let fits = o.words.fits in
    record {
      at = o.at;
      defined = o.defined;
      within = omega (arith, fits, is);
      apart = subst (λ (n : ℕ). (frame_place (program_of insts) o.at + n ≤ frame_place (program_of insts) place) ⊎ (frame_place (program_of insts) place ≤ frame_place (program_of insts) o.at)) is o.apart;
      are = subst (λ (n : ℕ). words_at frame (frame_place (program_of insts) o.at) n ≡ in_frame (program_of insts) value) (sym size ∙ is) o.words.stands;
      long = sym size ∙ is;
      before_end = o.words.within;
    }

same_word : (s : Scalar) → value_word (of_scalar s) ≡ scalar_word s
same_word (TruthOf true) = refl
same_word (TruthOf false) = refl
same_word (WordOf word) = refl

computes_one : (opcode : ℕ) → ComputesOne opcode (word_of_one opcode)
computes_one opcode first value is = same_word value ∙ sym (is_word_of_one opcode (value_word (of_scalar first)) first value is (same_word first))

computes_two : (opcode : ℕ) → ComputesTwo opcode (word_of_two opcode)
computes_two opcode first second value is =
    same_word value ∙ sym (is_word_of_two opcode (value_word (of_scalar first)) (value_word (of_scalar second)) first second value is (same_word first) (same_word second))

-- the words of a result are those of an operation on an operand's
pub record UnaryRun (insts : List Inst) (frame : List ℕ) (place id : ℕ) (value : Value) : Type 0 where
  pub words : List ℕ
  pub operand : HasWords insts frame place id (frame_words (program_of insts) (inst_at insts place)) words
  pub new : in_frame (program_of insts) value ≡ map (word_of_one (inst_at insts place).op) words

pub unary_run : (words : Words) → IsValidList words → (frame : List ℕ) (held : Memory) (place id : ℕ) (value : Value) → is_on_components (inst_at words.insts place).op ≡ true → drop 2 (inst_at words.insts place).words ≡ id ∷ []
    → (inst_at words.insts place).op == op.ANY ≡ false → (inst_at words.insts place).op == op.ALL ≡ false → GivesAt (program_of words.insts) frame held place value → UnaryRun words.insts frame place id value
unary_run words v frame held place id value is ids isnt also g =
    let o = operates_here words v frame held place value is g in
    let r = reads_one words.insts frame place id (drop 2 (inst_at words.insts place).words) g.read ids o.operands in
    let opcode = (inst_at words.insts place).op in
    let w = unary_words (program_of words.insts) opcode (word_of_one opcode) (computes_one opcode) isnt also r.a value (ap (operation opcode) (sym r.is) ∙ o.gives) in
    record {
      words = in_frame (program_of words.insts) r.a;
      operand = has_words words.insts frame place id (frame_words (program_of words.insts) (inst_at words.insts place)) r.a r.operand
          (sym (length-map (in_frame (program_of words.insts) r.a) (word_of_one opcode)) ∙ (sym (ap length w) ∙ o.size));
      new = w;
    }

-- OpAny and OpAll: one word, by the operand's
pub record ReduceRun (insts : List Inst) (frame : List ℕ) (place id : ℕ) (value : Value) (reduce : List ℕ → Bool) : Type 0 where
  pub count : ℕ
  pub words : List ℕ
  pub operand : HasWords insts frame place id count words
  pub one : frame_words (program_of insts) (inst_at insts place) ≡ 1
  pub new : in_frame (program_of insts) value ≡ word_of_truth (reduce words) ∷ []

reduce_run : (words : Words) → IsValidList words → (frame : List ℕ) (held : Memory) (place id : ℕ) (value : Value) (reduce : List ℕ → Bool) → is_on_components (inst_at words.insts place).op ≡ true → drop 2 (inst_at words.insts place).words ≡ id ∷ []
    → ((a : Value) → operation (inst_at words.insts place).op (a ∷ []) ≡ Some value → in_frame (program_of words.insts) value ≡ word_of_truth (reduce (in_frame (program_of words.insts) a)) ∷ [])
    → GivesAt (program_of words.insts) frame held place value → ReduceRun words.insts frame place id value reduce
reduce_run words v frame held place id value reduce is ids reduces g =
    let o = operates_here words v frame held place value is g in
    let r = reads_one words.insts frame place id (drop 2 (inst_at words.insts place).words) g.read ids o.operands in
    let w = reduces r.a (ap (operation (inst_at words.insts place).op) (sym r.is) ∙ o.gives) in
    record {
      count = length (in_frame (program_of words.insts) r.a);
      words = in_frame (program_of words.insts) r.a;
      operand = has_words words.insts frame place id (length (in_frame (program_of words.insts) r.a)) r.a r.operand refl;
      one = sym o.size ∙ ap length w;
      new = w;
    }

pub any_run : (words : Words) → IsValidList words → (frame : List ℕ) (held : Memory) (place id : ℕ) (value : Value) → is_on_components (inst_at words.insts place).op ≡ true → drop 2 (inst_at words.insts place).words ≡ id ∷ []
    → (inst_at words.insts place).op ≡ op.ANY → GivesAt (program_of words.insts) frame held place value → ReduceRun words.insts frame place id value (list_any is_true_word)
any_run words v frame held place id value is ids any g =
    reduce_run words v frame held place id value (list_any is_true_word) is ids (λ a gives. any_result_words (program_of words.insts) a value (ap (λ (o : ℕ). operation o (a ∷ [])) (sym any) ∙ gives)) g

pub all_run : (words : Words) → IsValidList words → (frame : List ℕ) (held : Memory) (place id : ℕ) (value : Value) → is_on_components (inst_at words.insts place).op ≡ true → drop 2 (inst_at words.insts place).words ≡ id ∷ []
    → (inst_at words.insts place).op ≡ op.ALL → GivesAt (program_of words.insts) frame held place value → ReduceRun words.insts frame place id value (list_all is_true_word)
all_run words v frame held place id value is ids all g =
    reduce_run words v frame held place id value (list_all is_true_word) is ids (λ a gives. all_result_words (program_of words.insts) a value (ap (λ (o : ℕ). operation o (a ∷ [])) (sym all) ∙ gives)) g

-- ---- two operands

record ReadsTwo (insts : List Inst) (frame : List ℕ) (place left right : ℕ) (read : List Value) : Type 0 where
  a : Value
  b : Value
  is : read ≡ a ∷ b ∷ []
  first : Operand insts frame place left a
  second : Operand insts frame place right b

reads_two : (insts : List Inst) (frame : List ℕ) (place left right : ℕ) (ids : List ℕ) (read : List Value) → ids ≡ left ∷ right ∷ [] → AreOperands insts frame place ids read → ReadsTwo insts frame place left right read
reads_two insts frame place left right ids read is are = by_read read (subst (λ (i : List ℕ). AreOperands insts frame place i read) is are)
  where
    by_read : (read : List Value) → AreOperands insts frame place (left ∷ right ∷ []) read → ReadsTwo insts frame place left right read
    by_read [] are = absurd are
    by_read (a ∷ []) are = absurd are.1
    by_read (a ∷ b ∷ []) are = record { a = a; b = b; is = refl; first = are.0; second = are.1.0 }
    by_read (a ∷ b ∷ c ∷ more) are = absurd are.1.1

pub record BinaryRun (insts : List Inst) (frame : List ℕ) (place left right : ℕ) (value : Value) : Type 0 where
  pub words : List ℕ
  pub others : List ℕ
  pub first : HasWords insts frame place left (frame_words (program_of insts) (inst_at insts place)) words
  pub second : HasWords insts frame place right (frame_words (program_of insts) (inst_at insts place)) others
  pub new : in_frame (program_of insts) value ≡ on_both (word_of_two (inst_at insts place).op) words others

pub binary_run : (words : Words) → IsValidList words → (frame : List ℕ) (held : Memory) (place left right : ℕ) (value : Value) → is_on_components (inst_at words.insts place).op ≡ true
    → drop 2 (inst_at words.insts place).words ≡ left ∷ right ∷ [] → GivesAt (program_of words.insts) frame held place value → BinaryRun words.insts frame place left right value
binary_run words v frame held place left right value is ids g =
    let o = operates_here words v frame held place value is g in
    let r = reads_two words.insts frame place left right (drop 2 (inst_at words.insts place).words) g.read ids o.operands in
    let opcode = (inst_at words.insts place).op in
    let w = binary_words (program_of words.insts) opcode (word_of_two opcode) (computes_two opcode) r.a r.b value (ap (operation opcode) (sym r.is) ∙ o.gives) in
    let long : length (in_frame (program_of words.insts) r.a) ≡ frame_words (program_of words.insts) (inst_at words.insts place) =
    sym (length_both (word_of_two opcode) (in_frame (program_of words.insts) r.a) (in_frame (program_of words.insts) r.b) w.long) ∙ (sym (ap length w.words) ∙ o.size) in
    record {
      words = in_frame (program_of words.insts) r.a;
      others = in_frame (program_of words.insts) r.b;
      first = has_words words.insts frame place left (frame_words (program_of words.insts) (inst_at words.insts place)) r.a r.first long;
      second = has_words words.insts frame place right (frame_words (program_of words.insts) (inst_at words.insts place)) r.b r.second (sym w.long ∙ long);
      new = w.words;
    }

-- ---- OpSelect

record ReadsThree (insts : List Inst) (frame : List ℕ) (place condition left right : ℕ) (read : List Value) : Type 0 where
  c : Value
  a : Value
  b : Value
  is : read ≡ c ∷ a ∷ b ∷ []
  chooses : Operand insts frame place condition c
  first : Operand insts frame place left a
  second : Operand insts frame place right b

reads_three : (insts : List Inst) (frame : List ℕ) (place condition left right : ℕ) (ids : List ℕ) (read : List Value) → ids ≡ condition ∷ left ∷ right ∷ [] → AreOperands insts frame place ids read → ReadsThree insts frame place condition left right read
reads_three insts frame place condition left right ids read is are = by_read read (subst (λ (i : List ℕ). AreOperands insts frame place i read) is are)
  where
    by_read : (read : List Value) → AreOperands insts frame place (condition ∷ left ∷ right ∷ []) read → ReadsThree insts frame place condition left right read
    by_read [] are = absurd are
    by_read (a ∷ []) are = absurd are.1
    by_read (a ∷ b ∷ []) are = absurd are.1.1
    by_read (c ∷ a ∷ b ∷ []) are = record { c = c; a = a; b = b; is = refl; chooses = are.0; first = are.1.0; second = are.1.1.0 }
    by_read (a ∷ b ∷ c ∷ d ∷ more) are = absurd are.1.1.1

pub record SelectRun (insts : List Inst) (frame : List ℕ) (place condition left right : ℕ) (value : Value) : Type 0 where
  pub count : ℕ
  pub conditions : List ℕ
  pub words : List ℕ
  pub others : List ℕ
  pub chooses : HasWords insts frame place condition count conditions
  pub first : HasWords insts frame place left (frame_words (program_of insts) (inst_at insts place)) words
  pub second : HasWords insts frame place right (frame_words (program_of insts) (inst_at insts place)) others
  pub each : count ≡ frame_words (program_of insts) (inst_at insts place) → in_frame (program_of insts) value ≡ chosen_words conditions words others
  pub one : (count ≡ frame_words (program_of insts) (inst_at insts place) → ⊥) → count ≡ 1
  pub whole : (count ≡ frame_words (program_of insts) (inst_at insts place) → ⊥) → in_frame (program_of insts) value ≡ (if is_true_word (slice_index conditions 0) then words else others)

-- three operands are those of OpSelect
no_choice : (b : Bool) (found : Option Value) (value : Value) → b ≡ false → (if b then found else None) ≡ Some value → ⊥
no_choice true found value isnt is = cc
no_choice false found value isnt is = no_value value is

no_three : (opcode : ℕ) → opcode == op.SELECT ≡ false → (a b c value : Value) → operation opcode (a ∷ b ∷ c ∷ []) ≡ Some value → ⊥
unfolding operation
no_three opcode isnt (Truth a) b c value is = no_choice (opcode == op.SELECT) _ value isnt is
no_three opcode isnt (Composite a) (Composite b) (Composite c) value is = no_choice (opcode == op.SELECT) _ value isnt is
no_three opcode isnt (Composite a) (Composite b) (Truth c) value is = no_value value is
no_three opcode isnt (Composite a) (Composite b) (Word c) value is = no_value value is
no_three opcode isnt (Composite a) (Composite b) (Pointer v i) value is = no_value value is
no_three opcode isnt (Composite a) (Composite b) Outside value is = no_value value is
no_three opcode isnt (Composite a) (Truth b) c value is = no_value value is
no_three opcode isnt (Composite a) (Word b) c value is = no_value value is
no_three opcode isnt (Composite a) (Pointer v i) c value is = no_value value is
no_three opcode isnt (Composite a) Outside c value is = no_value value is
no_three opcode isnt (Word word) b c value is = word_first opcode word (scalar_of b) (scalar_of c) value is
no_three opcode isnt (Pointer v i) b c value is = no_value value is
no_three opcode isnt Outside b c value is = no_value value is

three_class : (opcode : ℕ) (a b c value : Value) → is_on_components opcode ≡ true → operation opcode (a ∷ b ∷ c ∷ []) ≡ Some value → (operation_class : ScalarClass) × (class_of opcode ≡ Some (class.Scalar operation_class))
unfolding is_on_components
three_class opcode a b c value is gives =
    either ((opcode == op.ANY) || (opcode == op.ALL)) (is_scalar_class (class_of opcode)) is
    (λ reduces. either (opcode == op.ANY) (opcode == op.ALL) reduces
    (λ any. absurd (no_three opcode (ap (λ (o : ℕ). o == op.SELECT) (same opcode op.ANY any)) a b c value gives))
    (λ all. absurd (no_three opcode (ap (λ (o : ℕ). o == op.SELECT) (same opcode op.ALL all)) a b c value gives)))
    (λ scalar. scalar_class (class_of opcode) scalar)

pub select_run : (words : Words) → IsValidList words → (frame : List ℕ) (held : Memory) (place condition left right : ℕ) (value : Value) → is_on_components (inst_at words.insts place).op ≡ true
    → drop 2 (inst_at words.insts place).words ≡ condition ∷ left ∷ right ∷ [] → GivesAt (program_of words.insts) frame held place value → SelectRun words.insts frame place condition left right value
select_run words v frame held place condition left right value is ids g =
    let program = program_of words.insts in
    let o = operates_here words v frame held place value is g in
    let r = reads_three words.insts frame place condition left right (drop 2 (inst_at words.insts place).words) g.read ids o.operands in
    let opcode = (inst_at words.insts place).op in
    let gives : operation opcode (r.c ∷ r.a ∷ r.b ∷ []) ≡ Some value = ap (operation opcode) (sym r.is) ∙ o.gives in
    let c = three_class opcode r.c r.a r.b value is gives in
    let s = selects words v frame held place value c.0 c.1 g condition left right r.c r.a r.b ids r.is in
    let w = select_words program r.c r.a r.b value s.alike (ap (λ (o : ℕ). operation o (r.c ∷ r.a ∷ r.b ∷ [])) (sym s.is) ∙ gives) in
    let count = frame_words program (inst_at words.insts place) in
    record {
      count = length (in_frame program r.c);
      conditions = in_frame program r.c;
      words = in_frame program r.a;
      others = in_frame program r.b;
      chooses = has_words words.insts frame place condition (length (in_frame program r.c)) r.c r.chooses refl;
      first = has_words words.insts frame place left count r.a r.first (s.alike.long ∙ o.size);
      second = has_words words.insts frame place right count r.b r.second (s.alike.long_too ∙ o.size);
      each = λ long. w.each (long ∙ sym o.size);
      one = λ short. w.one (λ long. short (long ∙ o.size));
      whole = λ short. w.whole (λ long. short (long ∙ o.size));
    }

-- ---- as the code finds them

-- where the words of an id begin
abbrev pub Begins : List Inst → (id start : ℕ) → Type 0
Begins insts id start = (at : ℕ) → definition insts id ≡ Some at → start ≡ frame_place (program_of insts) at

pub start_within : (insts : List Inst) (frame : List ℕ) (place id n : ℕ) (words : List ℕ) → HasWords insts frame place id n words → (start count : ℕ) → Begins insts id start → count ≡ n → start + count ≤ length frame
start_within insts frame place id n words h start count begins same = let e = begins h.at h.defined in let w = h.within in omega (arith, e, w, same)

pub start_apart : (insts : List Inst) (frame : List ℕ) (place id n : ℕ) (words : List ℕ) → HasWords insts frame place id n words → (start count to : ℕ) → Begins insts id start → count ≡ n → to ≡ frame_place (program_of insts) place
    → (start + count ≤ to) ⊎ (to ≤ start)
start_apart insts frame place id n words h start count to begins same here =
    let e = begins h.at h.defined in
    elim h.apart [
      | inl early ↦ inl (omega (arith, e, early, same, here))
      | inr late ↦ inr (omega (arith, e, late, here))
    ]

pub start_words : (insts : List Inst) (frame : List ℕ) (place id n : ℕ) (words : List ℕ) → HasWords insts frame place id n words → (start count : ℕ) → Begins insts id start → count ≡ n → words_at frame start count ≡ words
start_words insts frame place id n words h start count begins same =
    ap (λ (k : ℕ). words_at frame k count) (begins h.at h.defined) ∙ (ap (λ (k : ℕ). words_at frame (frame_place (program_of insts) h.at) k) same ∙ h.are)

pub start_room : (insts : List Inst) (frame : List ℕ) (place : ℕ) → Room insts frame place → (to count : ℕ) → to ≡ frame_place (program_of insts) place → count ≡ frame_words (program_of insts) (inst_at insts place) → to + count ≤ length frame
start_room insts frame place r to count here same = let room = r.room in omega (arith, room, here, same)

pub same_written : (frame : List ℕ) (to own : ℕ) (new words : List ℕ) → to ≡ own → new ≡ words → written frame to new ≡ written frame own words
same_written frame to own new words here are = ap (λ (k : ℕ). written frame k new) here ∙ ap (λ (l : List ℕ). written frame own l) are

-- the first word of an operand
pub first_word : (frame words : List ℕ) (start count : ℕ) → words_at frame start count ≡ words → count ≡ 1 → slice_index frame start ≡ slice_index words 0
first_word frame words start count are one =
    let less : 0 < count = omega (arith, one) in let e : start + 0 ≡ start = omega arith in
    sym (ap (λ (l : List ℕ). slice_index l 0) (sym are) ∙ (words_at_index frame start count 0 less ∙ ap (λ (k : ℕ). slice_index frame k) e))

-- ---- lists by their length

pub list_one : (xs : List ℕ) → length xs ≡ 1 → xs ≡ slice_index xs 0 ∷ []
list_one [] is = cc
list_one (a ∷ []) is = refl
list_one (a ∷ b ∷ xs) is = absurd (omega (arith, is))

pub list_two : (xs : List ℕ) → length xs ≡ 2 → xs ≡ slice_index xs 0 ∷ slice_index xs 1 ∷ []
list_two [] is = cc
list_two (a ∷ []) is = absurd (omega (arith, is))
list_two (a ∷ b ∷ []) is = refl
list_two (a ∷ b ∷ c ∷ xs) is = absurd (omega (arith, is))

pub list_three : (xs : List ℕ) → length xs ≡ 3 → xs ≡ slice_index xs 0 ∷ slice_index xs 1 ∷ slice_index xs 2 ∷ []
list_three [] is = cc
list_three (a ∷ []) is = absurd (omega (arith, is))
list_three (a ∷ b ∷ []) is = absurd (omega (arith, is))
list_three (a ∷ b ∷ c ∷ []) is = refl
list_three (a ∷ b ∷ c ∷ d ∷ xs) is = absurd (omega (arith, is))
