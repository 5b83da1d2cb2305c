-- The operands of an instruction that makes a composite or takes one apart: each is defined in front of it, where the frame shows its value.
use Rattle.std.proofs.Common.{◌≡◌, ℕ, ◌+◌, ◌<◌, ◌≤◌, ◌==◌, Bool, true, false, List, [], ◌∷◌, length, nat_lt, refl, ap, sym, ◌∙◌, subst, arith, Option, None, Some, is_some}
use Rattle.std.specs.Option.{option_map, option_and_then}
use Rattle.std.proofs.lemmas.Bool.{ltb-true}
use Rattle.basics.proofs.Bools.{first_of_both}
use Rattle.spirv_model.specs.declared.module.Inst.{Inst}
use Rattle.spirv_model.specs.declared.module.Words.{Words}
use Rattle.spirv_model.specs.declared.op.TheConstants as op
use Rattle.spirv_model.specs.declared.class.Class.{Class}
use Rattle.spirv_model.specs.declared.class.Class.TheVariants as class
use Rattle.spirv_model.specs.Operands.{class_of, entry_of, kinds}
use Rattle.valid_model.specs.Definitions.{definition, inst_at}
use Rattle.valid_model.specs.Meanings.{meaning}
use Rattle.valid_model.specs.ModuleFacts.{is_vertex, facts_of}
use Rattle.check_model.specs.CompositeOperands.{composite_operands_fit}
use Rattle.check_model.specs.Intervals.{Interval, intervals_of, is_visible}
use Rattle.check_model.specs.OperandTypes.{operands_fit, operands_fit_class}
use Rattle.check_model.specs.Typing.{type_id, typing_of}
use Rattle.check_model.specs.Validity.{IsValidList}
use Rattle.check_model.specs.Visibility.{is_defined_for}
use Rattle.stage_model.specs.Value.{Value}
use Rattle.stage_model.specs.Program.{program_of}
use Rattle.stage_model.specs.Start.{Values, Memory, all_values}
use Rattle.stage_model.specs.Effect.{read_ids}
use Rattle.typed_model.specs.Values.{IsOfType}
use Rattle.typed_model.proofs.BlockParts.{another}
use Rattle.typed_model.proofs.ReadTypes.{Each}
use Rattle.typed_model.proofs.ReadValues.{IsSeen, uses_seen, typing_here}
use Rattle.typed_model.proofs.UsedReads.{IsRead, composite_reads}
use Rattle.typed_model.proofs.ValidModules.{valid_sound, valid_seen}
use Rattle.frame_model.specs.Frame.{frame_place, frame_words, in_frame}
use Rattle.frame_model.specs.Shown.{words_at, Shows}
use Rattle.frame_model.specs.Written.{GivesAt}
use Rattle.frame_model.proofs.FrameWrites.{frame_apart}

-- the value of an id that is read stands in front of the result of the instruction at a place
pub record OperandAt (insts : List Inst) (frame : List ℕ) (place id : ℕ) (value : Value) : Type 0 where
  pub at : ℕ
  pub defined : definition insts id ≡ Some at
  pub before : frame_place (program_of insts) at + frame_words (program_of insts) (inst_at insts at) ≤ frame_place (program_of insts) place
  pub size : length (in_frame (program_of insts) value) ≡ frame_words (program_of insts) (inst_at insts at)
  pub stands : words_at frame (frame_place (program_of insts) at) (frame_words (program_of insts) (inst_at insts at)) ≡ in_frame (program_of insts) value
  pub type : ℕ
  pub typed : type_id (meaning insts id) ≡ Some type
  pub is : IsOfType (program_of insts) type value

abbrev pub OperandsAt : List Inst → (frame : List ℕ) → (place : ℕ) → List ℕ → List Value → Type 0
OperandsAt insts frame place [] [] = Unit {0}
OperandsAt insts frame place (id ∷ ids) (value ∷ values) = OperandAt insts frame place id value × OperandsAt insts frame place ids values
OperandsAt insts frame place ids values = ⊥

-- ---- an id that is seen at a place

visible_before : (intervals : List Interval) (at place : ℕ) → is_visible intervals at place ≡ true → at < place
unfolding is_visible
visible_before intervals at place is = ltb-true at place (first_of_both (nat_lt at place) _ is)

-- it is defined earlier
defined_before : (intervals : List Interval) (place : ℕ) (found : Option ℕ) → is_defined_for intervals place found ≡ true → (at : ℕ) × (found ≡ Some at) × (at < place)
defined_before intervals place None is = cc
defined_before intervals place (Some at) is = (at, refl, visible_before intervals at place is)

-- ---- the values that are read

-- what is known of an id that is read: it is seen, and has a type
abbrev IsReadAt : List Inst → List Interval → ℕ → ℕ → Type 0
IsReadAt insts intervals place id = IsRead (IsSeen intervals insts place) (typing_here insts (is_vertex (facts_of insts))) id

operand_at : (insts : List Inst) (intervals : List Interval) (frame : List ℕ) (values : Values) (place id : ℕ) (value : Value) → place < length insts → Shows (program_of insts) frame values → IsReadAt insts intervals place id → values id ≡ Some value
    → OperandAt insts frame place id value
unfolding program_of
operand_at insts intervals frame values place id value within shows read has =
    let d = defined_before intervals place (definition insts id) read.used in
    let s = shows.stands id d.0 value d.1 has in
    record {
      at = d.0;
      defined = d.1;
      before = frame_apart (program_of insts) d.0 place d.2 (omega (arith, within));
      size = s.size;
      stands = s.stands;
      type = read.typed.type;
      typed = read.typed.of;
      is = (shows.suits id value has).of_type read.typed.type read.typed.of;
    }

all_there : (values : Values) (id : ℕ) (ids : List ℕ) (first : Option Value) (rest : Option (List Value)) (read : List Value) → values id ≡ first → all_values values ids ≡ rest → option_and_then (λ first. option_map (λ rest. first ∷ rest) rest) first ≡ Some read
    → (value : Value) × (others : List Value) × (values id ≡ Some value) × (all_values values ids ≡ Some others) × (read ≡ value ∷ others)
all_there values id ids None rest read is are all = cc
all_there values id ids (Some value) None read is are all = cc
all_there values id ids (Some value) (Some others) read is are all = (value, others, is, are, cc)

operands_at : (insts : List Inst) (intervals : List Interval) (frame : List ℕ) (values : Values) (place : ℕ) (ids : List ℕ) (read : List Value) → place < length insts → Shows (program_of insts) frame values → Each (IsReadAt insts intervals place) ids
    → all_values values ids ≡ Some read → OperandsAt insts frame place ids read
operands_at insts intervals frame values place [] read within shows reads are = subst (λ (l : List Value). OperandsAt insts frame place [] l) (same_list [] read are) tt
  where
    same_list : (a b : List Value) → Some a ≡ Some b → a ≡ b
    same_list a b is = cc
operands_at insts intervals frame values place (id ∷ ids) read within shows reads are =
    let t = all_there values id ids (values id) (all_values values ids) read refl refl are in
    subst (λ (l : List Value). OperandsAt insts frame place (id ∷ ids) l) (sym t.4)
    (operand_at insts intervals frame values place id t.0 within shows reads.0 t.2, operands_at insts intervals frame values place ids t.1 within shows reads.1 t.3)

-- ---- instructions that make composites or take them apart

is_composite_class : Option Class → Bool
is_composite_class (Some class.Composite) = true
is_composite_class of = false

phi_none : is_composite_class (class_of op.PHI) ≡ false
unfolding class_of entry_of is_composite_class
phi_none = refl

composite_class : (of : Option Class) → of ≡ Some class.Composite → is_composite_class of ≡ true
unfolding is_composite_class
composite_class of is = ap is_composite_class is

no_phi : (opcode : ℕ) → class_of opcode ≡ Some class.Composite → opcode == op.PHI ≡ false
no_phi opcode is = another (λ opcode. is_composite_class (class_of opcode)) op.PHI phi_none opcode (composite_class (class_of opcode) is)

pub shaped_here : (words : Words) → IsValidList words → (place : ℕ) → place < length words.insts → is_some (kinds (inst_at words.insts place)) ≡ true
shaped_here words v place within = (valid_sound words v).shaped place within

pub composite_fit : (words : Words) → IsValidList words → (place : ℕ) → place < length words.insts → class_of (inst_at words.insts place).op ≡ Some class.Composite
    → composite_operands_fit (typing_here words.insts (is_vertex (facts_of words.insts))) (inst_at words.insts place) ≡ true
unfolding operands_fit typing_of program_of
composite_fit words v place within is =
    let inst = inst_at words.insts place in
    sym (ap (λ (of : Option Class). operands_fit_class (typing_of words.insts) of inst) is) ∙ (valid_sound words v).fit place within

pub composite_operands : (words : Words) → IsValidList words → (frame : List ℕ) (held : Memory) (place : ℕ) (value : Value) (g : GivesAt (program_of words.insts) frame held place value) → class_of (inst_at words.insts place).op ≡ Some class.Composite
    → OperandsAt words.insts frame place (read_ids (inst_at words.insts place).op 0 (inst_at words.insts place).words) g.read
unfolding program_of
composite_operands words v frame held place value g is =
    let inst = inst_at words.insts place in
    let intervals = intervals_of v.derivation in
    let seen = uses_seen intervals words.insts place (valid_seen words v place g.within) (no_phi inst.op is) in
    operands_at words.insts intervals frame g.values place (read_ids inst.op 0 inst.words) g.read g.within g.shows
    (composite_reads (IsSeen intervals words.insts place) (typing_here words.insts (is_vertex (facts_of words.insts))) 0 inst (shaped_here words v place g.within) (composite_fit words v place g.within is) seen) g.are
