-- The word of an OpSpecConstantOp.
use Rattle.std.proofs.Common.{◌≡◌, ℕ, zero, suc, ◌+◌, ◌<◌, ◌≤◌, ◌==◌, true, List, [], ◌∷◌, length, take, drop, get_or, slice_index, refl, ap, sym, ◌∙◌, subst, arith, Option, None, Some}
use Rattle.std.specs.Option.{option_map, option_and_then}
use Rattle.std.proofs.lemmas.Bool.Decides.{nat_tests}
use Rattle.spirv_model.specs.declared.module.Inst.{Inst}
use Rattle.spirv_model.specs.declared.op.TheConstants as op
use Rattle.spirv_model.specs.Operands.{word_at, words_from}
use Rattle.scalar_model.specs.declared.scalar_value.Scalar.{Scalar}
use Rattle.scalar_model.specs.declared.scalar_value.Scalar.TheVariants.{Bool as TruthOf, Word as WordOf}
use Rattle.scalar_model.specs.Scalars.{scalar_result}
use Rattle.state_model.specs.declared.parts.SpecValues.{SpecValues}
use Rattle.valid_model.specs.Definitions.{definition, inst_at}
use Rattle.stage_model.specs.Value.{Value, Truth, Word, Composite, Pointer, Outside, word_of_truth, words_of}
use Rattle.stage_model.specs.Program.{Program, program_of}
use Rattle.stage_model.specs.Start.{Values, all_values, scalar_of, of_scalar, all_scalars, scalar_value, rest_of, constant_of, defined_by}
use Rattle.typed_model.proofs.PlainRuns.{at_op}
use Rattle.typed_model.proofs.EffectsRun.{instruction}
use Rattle.frame_model.specs.Frame.{frame_place, frame_words, in_frame}
use Rattle.frame_model.specs.Shown.{words_at}
use Rattle.frame_model.proofs.PartWords.{in_frame_words}
use Rattle.frame_model.proofs.WrittenWords.{words_at_index}
use Rattle.spv_exec.specs.FirstFrames.{IsDefined, IsShownWord, AreShownWords, DefinesWord}

same_some : {A : Type 0} (x y : A) → Some x ≡ Some y → x ≡ y
same_some x y is = cc

never_none : {A : Type 0} (x : A) → ◌≡◌ {A = Option A} None (Some x) → ⊥
never_none x is = cc

-- ---- operations have one to three operands

none_other : (opcode : ℕ) (scalars : List Scalar) → (length scalars ≡ 1 → ⊥) → (length scalars ≡ 2 → ⊥) → (length scalars ≡ 3 → ⊥) → scalar_result opcode scalars ≡ None
unfolding scalar_result
none_other opcode [] one two three = refl
none_other opcode (a ∷ []) one two three = absurd (one refl)
none_other opcode (a ∷ b ∷ []) one two three = absurd (two refl)
none_other opcode (a ∷ b ∷ c ∷ []) one two three = absurd (three refl)
none_other opcode (TruthOf a ∷ TruthOf b ∷ c ∷ d ∷ more) one two three = refl
none_other opcode (TruthOf a ∷ WordOf b ∷ c ∷ d ∷ more) one two three = refl
none_other opcode (WordOf a ∷ TruthOf b ∷ c ∷ d ∷ more) one two three = refl
none_other opcode (WordOf a ∷ WordOf b ∷ c ∷ d ∷ more) one two three = refl

scalars_long : (read : List Value) (scalars : List Scalar) → all_scalars read ≡ Some scalars → length scalars ≡ length read
scalars_long [] scalars is = sym (ap length (same_some [] scalars is))
scalars_long (value ∷ values) scalars is = by_parts (scalar_of value) (all_scalars values) values scalars is (λ rest e. scalars_long values rest e)
  where
    by_parts : (first : Option Scalar) (rest : Option (List Scalar)) (values : List Value) (scalars : List Scalar) → option_and_then (λ (first : Scalar). option_map (λ (rest : List Scalar). first ∷ rest) rest) first ≡ Some scalars
        → ((more : List Scalar) → rest ≡ Some more → length more ≡ length values) → length scalars ≡ suc (length values)
    by_parts None rest values scalars is go = absurd (never_none scalars is)
    by_parts (Some first) None values scalars is go = absurd (never_none scalars is)
    by_parts (Some first) (Some rest) values scalars is go = sym (ap length (same_some (first ∷ rest) scalars is)) ∙ ap (λ (n : ℕ). suc n) (go rest refl)

shown_long : (insts : List Inst) (frame ids : List ℕ) (read : List Value) → AreShownWords insts frame ids read → length read ≡ length ids
shown_long insts frame [] [] are = refl
shown_long insts frame [] (value ∷ values) are = absurd are
shown_long insts frame (id ∷ ids) [] are = absurd are
shown_long insts frame (id ∷ ids) (value ∷ values) are = ap (λ (n : ℕ). suc n) (shown_long insts frame ids values are.1)

pub other_count : (insts : List Inst) (frame ids : List ℕ) (read : List Value) (opcode : ℕ) (value : Value) → (length ids ≡ 1 → ⊥) → (length ids ≡ 2 → ⊥) → (length ids ≡ 3 → ⊥) → AreShownWords insts frame ids read → scalar_value opcode read ≡ Some value → ⊥
other_count insts frame ids read opcode value one two three are is = by_scalars (all_scalars read) refl is
  where
    by_scalars : (found : Option (List Scalar)) → all_scalars read ≡ found → option_map of_scalar (option_and_then (scalar_result opcode) found) ≡ Some value → ⊥
    by_scalars None found is = never_none value is
    by_scalars (Some scalars) found is =
        let long : length scalars ≡ length ids = scalars_long read scalars found ∙ shown_long insts frame ids read are in
        never_none value (sym (ap (option_map of_scalar) (none_other opcode scalars (λ e. one (sym long ∙ e)) (λ e. two (sym long ∙ e)) (λ e. three (sym long ∙ e)))) ∙ is)

-- ---- what the frame shows of the operands

record IsOneWord (program : Program) (value : Value) : Type 0 where
  word : ℕ
  words : words_of value ≡ Some (word ∷ [])
  shown : in_frame program value ≡ word ∷ []

one_word : (program : Program) (value : Value) (scalar : Scalar) → scalar_of value ≡ Some scalar → IsOneWord program value
one_word program (Truth b) scalar is = record { word = word_of_truth b; words = refl; shown = in_frame_words program (Truth b) (word_of_truth b ∷ []) refl }
one_word program (Word word) scalar is = record { word = word; words = refl; shown = in_frame_words program (Word word) (word ∷ []) refl }
one_word program (Composite parts) scalar is = absurd (never_none scalar is)
one_word program (Pointer variable indices) scalar is = absurd (never_none scalar is)
one_word program Outside scalar is = absurd (never_none scalar is)

shown_here : (insts : List Inst) (entries : SpecValues) (frame : List ℕ) (place : ℕ) → IsDefined insts entries place frame → (id : ℕ) (value : Value) (scalar : Scalar) → defined_by (program_of insts) entries (take place insts) id ≡ Some value → scalar_of value ≡ Some scalar
    → IsShownWord insts frame id value
unfolding program_of
shown_here insts entries frame place defined id value scalar has is =
    let e = defined.early id value has in
    let s = defined.is.shows.stands id e.0 value e.1 has in
    let o = one_word (program_of insts) value scalar is in
    let count : 1 ≡ frame_words (program_of insts) (inst_at insts e.0) = sym (ap length o.shown) ∙ s.size in
    let word : o.word ≡ slice_index frame (frame_place (program_of insts) e.0) =
    ap (λ (l : List ℕ). get_or l 0 0) (sym (s.stands ∙ o.shown)) ∙ words_at_index frame (frame_place (program_of insts) e.0) (frame_words (program_of insts) (inst_at insts e.0)) 0 (omega (arith, count))
    ∙ ap (slice_index frame) (omega arith) in
    record { place = e.0; defined = e.1; word = o.words ∙ ap (λ (n : ℕ). Some (n ∷ [])) word }

shown_words : (insts : List Inst) (entries : SpecValues) (frame : List ℕ) (place : ℕ) → IsDefined insts entries place frame → (ids : List ℕ) (read : List Value) (scalars : List Scalar) → all_values (defined_by (program_of insts) entries (take place insts)) ids ≡ Some read
    → all_scalars read ≡ Some scalars → AreShownWords insts frame ids read
shown_words insts entries frame place defined [] read scalars are is = subst (AreShownWords insts frame []) (same_some [] read are) tt
shown_words insts entries frame place defined (id ∷ ids) read scalars are is =
    by_values (defined_by (program_of insts) entries (take place insts) id) (all_values (defined_by (program_of insts) entries (take place insts)) ids) refl refl are
    (λ values rest more e. shown_words insts entries frame place defined ids values rest more e)
  where
    by_scalars : (value : Value) (values : List Value) (first : Option Scalar) (rest : Option (List Scalar)) → scalar_of value ≡ first → all_scalars values ≡ rest → option_and_then (λ (first : Scalar). option_map (λ (rest : List Scalar). first ∷ rest) rest) first ≡ Some scalars
        → defined_by (program_of insts) entries (take place insts) id ≡ Some value → all_values (defined_by (program_of insts) entries (take place insts)) ids ≡ Some values → ((values : List Value) (rest : List Scalar) → all_values (defined_by (program_of insts) entries (take place insts)) ids ≡ Some values → all_scalars values ≡ Some rest → AreShownWords insts frame ids values) → AreShownWords insts frame (id ∷ ids) (value ∷ values)
    by_scalars value values None rest first_is rest_is is has more go = absurd (never_none scalars is)
    by_scalars value values (Some first) None first_is rest_is is has more go = absurd (never_none scalars is)
    by_scalars value values (Some first) (Some rest) first_is rest_is is has more go = (shown_here insts entries frame place defined id value first has first_is, go values rest more rest_is)

    by_values : (first : Option Value) (rest : Option (List Value)) → defined_by (program_of insts) entries (take place insts) id ≡ first → all_values (defined_by (program_of insts) entries (take place insts)) ids ≡ rest
        → option_and_then (λ (first : Value). option_map (λ (rest : List Value). first ∷ rest) rest) first ≡ Some read → ((values : List Value) (rest : List Scalar) → all_values (defined_by (program_of insts) entries (take place insts)) ids ≡ Some values → all_scalars values ≡ Some rest → AreShownWords insts frame ids values) → AreShownWords insts frame (id ∷ ids) read
    by_values None rest first_is rest_is e go = absurd (never_none read e)
    by_values (Some value) None first_is rest_is e go = absurd (never_none read e)
    by_values (Some value) (Some values) first_is rest_is e go =
        let made = same_some (value ∷ values) read e in
        subst (AreShownWords insts frame (id ∷ ids)) made (by_scalars value values (scalar_of value) (all_scalars values) refl refl (ap all_scalars made ∙ is) first_is rest_is go)

-- ---- at a place

abbrev Works : List Inst → List ℕ → ℕ → Inst → Type 0
Works insts frame word inst = (read : List Value) (value : Value) → AreShownWords insts frame (words_from 3 inst) read → scalar_value (word_at 2 inst) read ≡ Some value → words_of value ≡ Some (word ∷ [])

abbrev MakesOne : List Inst → SpecValues → ℕ → List ℕ → ℕ → Inst → Type 0
MakesOne insts entries place frame word inst =
    (value : Value) → constant_of (program_of insts) entries (defined_by (program_of insts) entries (take place insts)) inst.op inst.words ≡ Some value → Works insts frame word inst → in_frame (program_of insts) value ≡ word ∷ []

from_read : (insts : List Inst) (entries : SpecValues) (place : ℕ) (frame : List ℕ) (word opcode : ℕ) (ids : List ℕ) (value : Value) → IsDefined insts entries place frame → (read : Option (List Value)) → all_values (defined_by (program_of insts) entries (take place insts)) ids ≡ read
    → option_and_then (scalar_value opcode) read ≡ Some value → ((read : List Value) (value : Value) → AreShownWords insts frame ids read → scalar_value opcode read ≡ Some value → words_of value ≡ Some (word ∷ [])) → in_frame (program_of insts) value ≡ word ∷ []
from_read insts entries place frame word opcode ids value defined None are is works = absurd (never_none value is)
from_read insts entries place frame word opcode ids value defined (Some read) are is works = by_scalars (all_scalars read) refl is
  where
    by_scalars : (found : Option (List Scalar)) → all_scalars read ≡ found → option_map of_scalar (option_and_then (scalar_result opcode) found) ≡ Some value → in_frame (program_of insts) value ≡ word ∷ []
    by_scalars None found made = absurd (never_none value made)
    by_scalars (Some scalars) found made = in_frame_words (program_of insts) value (word ∷ []) (works read value (shown_words insts entries frame place defined ids read scalars are found) is)

operation_made : (insts : List Inst) (entries : SpecValues) (place : ℕ) (frame : List ℕ) (word : ℕ) → IsDefined insts entries place frame → (words : List ℕ) → MakesOne insts entries place frame word (instruction op.SPEC_CONSTANT_OP words)
unfolding constant_of
operation_made insts entries place frame word defined (type ∷ id ∷ opcode ∷ ids) = λ value is works. from_read insts entries place frame word opcode ids value defined (all_values (defined_by (program_of insts) entries (take place insts)) ids) refl is works
operation_made insts entries place frame word defined (type ∷ id ∷ []) = λ value is works. from_read insts entries place frame word 0 [] value defined (Some []) refl is works
operation_made insts entries place frame word defined (type ∷ []) = λ value is works. absurd (never_none value is)
operation_made insts entries place frame word defined [] = λ value is works. absurd (never_none value is)

equal : (a b : ℕ) → a ≡ b → a == b ≡ true
equal a b is = grind (arith, nat_tests)

pub operation_here : (insts : List Inst) (entries : SpecValues) (place : ℕ) (frame : List ℕ) (word : ℕ) (inst : Inst) → inst ≡ inst_at insts place → inst.op ≡ op.SPEC_CONSTANT_OP → IsDefined insts entries place frame → Works insts frame word inst → DefinesWord insts entries place word
operation_here insts entries place frame word inst at is defined works = λ value made.
    at_op (MakesOne insts entries place frame word) (inst_at insts place) op.SPEC_CONSTANT_OP (sym (ap (λ (i : Inst). i.op == op.SPEC_CONSTANT_OP) at) ∙ equal inst.op op.SPEC_CONSTANT_OP is)
    (operation_made insts entries place frame word defined (inst_at insts place).words) value made (subst (Works insts frame word) at works)
