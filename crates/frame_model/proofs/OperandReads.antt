-- What an operation on components reads in the frame, and what it gives.
use Rattle.std.proofs.Common.{◌≡◌, ℕ, ◌+◌, ◌<◌, ◌≤◌, ◌==◌, inl, inr, ◌⊎◌, Bool, true, List, [], ◌∷◌, length, drop, refl, ap, sym, ◌∙◌, subst, arith, Option, None, Some}
use Rattle.std.specs.Option.{option_map, option_and_then}
use Rattle.std.proofs.lemmas.Bool.{cases_lt}
use Rattle.spirv_model.specs.declared.module.Inst.{Inst}
use Rattle.spirv_model.specs.declared.module.Words.{Words}
use Rattle.spirv_model.specs.declared.op.TheConstants as op
use Rattle.spirv_model.specs.declared.class.Class.{Class}
use Rattle.spirv_model.specs.declared.class.Class.TheVariants as class
use Rattle.spirv_model.specs.declared.class.ScalarClass.{ScalarClass}
use Rattle.spirv_model.specs.Operands.{entry_of, class_of}
use Rattle.valid_model.specs.Definitions.{definition, inst_at}
use Rattle.valid_model.specs.declared.meaning.IdFacts.{IdFacts}
use Rattle.valid_model.specs.Knowledge.{meaning_in}
use Rattle.valid_model.specs.Meanings.{meaning}
use Rattle.valid_model.specs.ModuleFacts.{is_vertex, facts_of}
use Rattle.valid_model.proofs.KnownIds.{unknown_without_definition}
use Rattle.check_model.specs.Validity.{IsValidList}
use Rattle.check_model.specs.Typing.{Typing, typing_of, type_id}
use Rattle.check_model.specs.OperandTypes.{operands_fit_class, operands_fit}
use Rattle.check_model.specs.Visibility.{used_ids}
use Rattle.stage_model.specs.Value.{Value}
use Rattle.stage_model.specs.Program.{Program, program_of}
use Rattle.stage_model.specs.Start.{Values, Memory, all_values}
use Rattle.stage_model.specs.Effect.{Gives, read_ids, result_of, effect_of}
use Rattle.stage_model.specs.Operations.{operation}
use Rattle.typed_model.proofs.EffectsRun.{instruction}
use Rattle.typed_model.proofs.PlainRuns.{at_op, scalar_reads, scalar_effect}
use Rattle.typed_model.proofs.ReadTypes.{Each, IsTyped}
use Rattle.typed_model.proofs.UsedReads.{IsRead, composite_reads, scalar_uses}
use Rattle.typed_model.proofs.ReadValues.{typing_here}
use Rattle.typed_model.proofs.ValidModules.{valid_sound}
use Rattle.frame_model.specs.Frame.{frame_words, frame_place, in_frame}
use Rattle.frame_model.specs.Shown.{IsFrame, Shows}
use Rattle.frame_model.specs.Written.{GivesAt}
use Rattle.frame_model.proofs.FrameWrites.{OperandWords, operand_words, frame_apart, frame_room}
use Rattle.frame_model.proofs.GivenResults.{given_result}

-- ---- operands

-- an operand with a value, whose words lie in front of the result or not before it
pub record Operand (insts : List Inst) (frame : List ℕ) (place id : ℕ) (value : Value) : Type 0 where
  pub at : ℕ
  pub defined : definition insts id ≡ Some at
  pub words : OperandWords (program_of insts) frame at value
  pub apart : (frame_place (program_of insts) at + length (in_frame (program_of insts) value) ≤ frame_place (program_of insts) place) ⊎ (frame_place (program_of insts) place ≤ frame_place (program_of insts) at)

abbrev pub AreOperands : List Inst → List ℕ → ℕ → List ℕ → List Value → Type 0
AreOperands insts frame place [] [] = Unit {0}
AreOperands insts frame place (id ∷ ids) (value ∷ values) = Operand insts frame place id value × AreOperands insts frame place ids values
AreOperands insts frame place ids values = ⊥

-- an id with a type is defined
defined_by : (insts : List Inst) (id type : ℕ) (found : Option ℕ) → definition insts id ≡ found → type_id (meaning insts id) ≡ Some type → (at : ℕ) × (definition insts id ≡ Some at)
defined_by insts id type (Some at) is typed = (at, is)
defined_by insts id type None is typed = absurd (never type (sym (ap (λ (f : Option IdFacts). type_id (meaning_in f)) (unknown_without_definition insts id is)) ∙ typed))
  where
    never : (type : ℕ) → ◌≡◌ {A = Option ℕ} None (Some type) → ⊥
    never type is = cc

pub typed_defined : (insts : List Inst) (id type : ℕ) → type_id (meaning insts id) ≡ Some type → (at : ℕ) × (definition insts id ≡ Some at)
typed_defined insts id type typed = defined_by insts id type (definition insts id) refl typed

results_apart : (program : Program) (at place size : ℕ) → place < length program.insts → at < length program.insts → size ≡ frame_words program (inst_at program.insts at)
    → (frame_place program at + size ≤ frame_place program place) ⊎ (frame_place program place ≤ frame_place program at)
results_apart program at place size within also is =
    elim (cases_lt at place) [
      | inl early ↦ inl (let a = frame_apart program at place early (omega (arith, within)) in omega (arith, a, is))
      | inr late ↦ inr (elim (cases_lt place at) [
        | inl behind ↦ (let a = frame_apart program place at behind (omega (arith, also)) in omega (arith, a))
        | inr same ↦ (let e : at ≡ place = omega (arith, late, same) in let f = ap (frame_place program) e in omega (arith, f))
      ])
    ]

-- an id that has a type and a value is an operand
pub operand_of : (insts : List Inst) (frame : List ℕ) (values : Values) (place id type : ℕ) (value : Value) → place < length insts → IsFrame (program_of insts) frame → Shows (program_of insts) frame values
    → type_id (meaning insts id) ≡ Some type → values id ≡ Some value → Operand insts frame place id value
unfolding program_of
operand_of insts frame values place id type value within size shows typed has =
    let d = typed_defined insts id type typed in
    let o = operand_words (program_of insts) frame values size shows id d.0 value d.1 has in
    record { at = d.0; defined = d.1; words = o; apart = results_apart (program_of insts) d.0 place (length (in_frame (program_of insts) value)) within o.within o.size }

-- a list of values begins with one
record Begun (first : Option Value) (rest : Option (List Value)) (results : List Value) : Type 0 where
  value : Value
  values : List Value
  is : first ≡ Some value
  are : rest ≡ Some values
  all : results ≡ value ∷ values

begun : (first : Option Value) (rest : Option (List Value)) (results : List Value) → option_and_then (λ first. option_map (λ rest. first ∷ rest) rest) first ≡ Some results → Begun first rest results
begun None rest results is = cc
begun (Some value) None results is = cc
begun (Some value) (Some values) results is = record { value = value; values = values; is = refl; are = refl; all = cc }

pub operands_of : (insts : List Inst) (vertex : Bool) (frame : List ℕ) (values : Values) (place : ℕ) → place < length insts → IsFrame (program_of insts) frame → Shows (program_of insts) frame values
    → (ids : List ℕ) (read : List Value) → Each (IsTyped (typing_here insts vertex)) ids → all_values values ids ≡ Some read → AreOperands insts frame place ids read
unfolding program_of
operands_of insts vertex frame values place within size shows [] read typed are = subst (λ (r : List Value). AreOperands insts frame place [] r) (same_some [] read are) tt
  where
    same_some : (x y : List Value) → Some x ≡ Some y → x ≡ y
    same_some x y is = cc
operands_of insts vertex frame values place within size shows (id ∷ ids) read typed are =
    let s = begun (values id) (all_values values ids) read are in
    subst (λ (r : List Value). AreOperands insts frame place (id ∷ ids) r) (sym s.all)
    (operand_of insts frame values place id typed.0.type s.value within size shows typed.0.of s.is, operands_of insts vertex frame values place within size shows ids s.values typed.1 s.are)

-- ---- operations

-- what an operation on components gives, and its operands
pub record Operates (insts : List Inst) (frame : List ℕ) (place : ℕ) (read : List Value) (value : Value) : Type 0 where
  pub gives : operation (inst_at insts place).op read ≡ Some value
  pub operands : AreOperands insts frame place (drop 2 (inst_at insts place).words) read
  pub size : length (in_frame (program_of insts) value) ≡ frame_words (program_of insts) (inst_at insts place)
  pub room : frame_place (program_of insts) place + frame_words (program_of insts) (inst_at insts place) ≤ length frame

-- an instruction that reads its operands and gives the result of the operation on them
pub record IsOperation (insts : List Inst) (inst : Inst) : Type 0 where
  pub effect : (memory : Memory) (read : List Value) → effect_of (program_of insts) memory inst read ≡ option_map Gives (operation inst.op read)
  pub reads : read_ids inst.op 0 inst.words ≡ drop 2 inst.words
  pub typed : Each (IsTyped (typing_here insts (is_vertex (facts_of insts)))) (drop 2 inst.words)

result_is : (found : Option Value) (value : Value) → option_map Gives found ≡ Some (Gives value) → found ≡ Some value
result_is None value is = cc
result_is (Some own) value is = cc

pub operates : (words : Words) → IsValidList words → (frame : List ℕ) (held : Memory) (place : ℕ) (value : Value) → IsOperation words.insts (inst_at words.insts place) → (g : GivesAt (program_of words.insts) frame held place value)
    → Operates words.insts frame place g.read value
unfolding program_of
operates words v frame held place value o g =
    let r = given_result words v frame held place value g in
    record {
      gives = result_is (operation (inst_at words.insts place).op g.read) value (sym (o.effect held g.read) ∙ g.effect);
      operands = operands_of words.insts (is_vertex (facts_of words.insts)) frame g.values place g.within g.size g.shows (drop 2 (inst_at words.insts place).words) g.read o.typed (ap (all_values g.values) (sym o.reads) ∙ g.are);
      size = r.size;
      room = (let f = frame_room (program_of words.insts) place g.within in let s = g.size in omega (arith, f, s));
    }

-- ---- of each class

pub fit_here : (insts : List Inst) (inst : Inst) (of : Option Class) → operands_fit (typing_of insts) inst ≡ true → class_of inst.op ≡ of → operands_fit_class (typing_here insts (is_vertex (facts_of insts))) of inst ≡ true
unfolding operands_fit typing_of program_of
fit_here insts inst of fit is = sym (ap (λ (of : Option Class). operands_fit_class (typing_of insts) of inst) is) ∙ fit

each_typed : (P : ℕ → Type 0) (typing : Typing) (ids : List ℕ) → Each (IsRead P typing) ids → Each (IsTyped typing) ids
each_typed P typing [] each = tt
each_typed P typing (id ∷ ids) each = (each.0.typed, each_typed P typing ids each.1)

abbrev Anything : ℕ → Type 0
Anything id = Unit {0}

anything : (ids : List ℕ) → Each Anything ids
anything [] = tt
anything (id ∷ ids) = (tt, anything ids)

-- a scalar operation
pub scalar_operation : (words : Words) → IsValidList words → (place : ℕ) (operation_class : ScalarClass) → place < length words.insts → class_of (inst_at words.insts place).op ≡ Some (class.Scalar operation_class)
    → IsOperation words.insts (inst_at words.insts place)
scalar_operation words v place operation_class within is =
    let inst = inst_at words.insts place in
    let s = valid_sound words v in
    let typing = typing_here words.insts (is_vertex (facts_of words.insts)) in
    let fit = fit_here words.insts inst _ (s.fit place within) is in
    let reads = scalar_reads inst.op 0 inst.words operation_class is in
    record {
      effect = λ memory read. scalar_effect (program_of words.insts) memory inst read operation_class is;
      reads = reads;
      typed = each_typed Anything typing (drop 2 inst.words) (subst (Each (IsRead Anything typing)) reads (scalar_uses Anything typing 0 inst operation_class is (s.shaped place within) fit (anything (used_ids inst))));
    }

any_effect : (program : Program) (memory : Memory) (words : List ℕ) (read : List Value) → effect_of program memory (instruction op.ANY words) read ≡ option_map Gives (operation op.ANY read)
unfolding class_of entry_of effect_of result_of
any_effect program memory words read = refl

all_effect : (program : Program) (memory : Memory) (words : List ℕ) (read : List Value) → effect_of program memory (instruction op.ALL words) read ≡ option_map Gives (operation op.ALL read)
unfolding class_of entry_of effect_of result_of
all_effect program memory words read = refl

any_reads : (words : List ℕ) → (read_ids op.ANY 0 words ≡ drop 2 words) × (class_of op.ANY ≡ Some class.Composite)
unfolding read_ids class_of entry_of
any_reads words = (refl, refl)

all_reads : (words : List ℕ) → (read_ids op.ALL 0 words ≡ drop 2 words) × (class_of op.ALL ≡ Some class.Composite)
unfolding read_ids class_of entry_of
all_reads words = (refl, refl)

composite_operation : (words : Words) → IsValidList words → (place : ℕ) → place < length words.insts → class_of (inst_at words.insts place).op ≡ Some class.Composite
    → ((memory : Memory) (read : List Value) → effect_of (program_of words.insts) memory (inst_at words.insts place) read ≡ option_map Gives (operation (inst_at words.insts place).op read))
    → read_ids (inst_at words.insts place).op 0 (inst_at words.insts place).words ≡ drop 2 (inst_at words.insts place).words → IsOperation words.insts (inst_at words.insts place)
composite_operation words v place within is effect reads =
    let inst = inst_at words.insts place in
    let s = valid_sound words v in
    let typing = typing_here words.insts (is_vertex (facts_of words.insts)) in
    let fit = fit_here words.insts inst _ (s.fit place within) is in
    record {
      effect = effect;
      reads = reads;
      typed = each_typed Anything typing (drop 2 inst.words) (subst (Each (IsRead Anything typing)) reads (composite_reads Anything typing 0 inst (s.shaped place within) fit (anything (used_ids inst))));
    }

-- OpAny and OpAll
pub any_operation : (words : Words) → IsValidList words → (place : ℕ) → place < length words.insts → (inst_at words.insts place).op == op.ANY ≡ true → IsOperation words.insts (inst_at words.insts place)
any_operation words v place within is =
    let inst = inst_at words.insts place in
    let r = at_op (λ inst. (read_ids inst.op 0 inst.words ≡ drop 2 inst.words) × (class_of inst.op ≡ Some class.Composite)) inst op.ANY is (any_reads inst.words) in
    composite_operation words v place within r.1
    (λ memory read. at_op (λ inst. effect_of (program_of words.insts) memory inst read ≡ option_map Gives (operation inst.op read)) inst op.ANY is (any_effect (program_of words.insts) memory inst.words read)) r.0

pub all_operation : (words : Words) → IsValidList words → (place : ℕ) → place < length words.insts → (inst_at words.insts place).op == op.ALL ≡ true → IsOperation words.insts (inst_at words.insts place)
all_operation words v place within is =
    let inst = inst_at words.insts place in
    let r = at_op (λ inst. (read_ids inst.op 0 inst.words ≡ drop 2 inst.words) × (class_of inst.op ≡ Some class.Composite)) inst op.ALL is (all_reads inst.words) in
    composite_operation words v place within r.1
    (λ memory read. at_op (λ inst. effect_of (program_of words.insts) memory inst read ≡ option_map Gives (operation inst.op read)) inst op.ALL is (all_effect (program_of words.insts) memory inst.words read)) r.0
