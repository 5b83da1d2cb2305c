-- Which ids are visible where they are used, and the fault NotVisible (SPIR-V specification, section 2.16.1 "Universal
-- Validation Rules": uses are dominated by definitions; the rule here is narrower).
use Rattle.std.specs.Prelude.{ℕ, ◌==◌, Bool, true, false, not, ◌&&◌, ◌||◌, if◌then◌else◌, List, [], ◌∷◌, map, take, Option, None, Some}
use Rattle.std.specs.List.{find, list_all}
use Rattle.std.specs.Option.{option_map, unwrap_or}
use Rattle.spirv_model.specs.declared.module.Inst.{Inst}
use Rattle.spirv_model.specs.declared.op.TheConstants as op
use Rattle.spirv_model.specs.declared.class.Class.{Class}
use Rattle.spirv_model.specs.declared.class.Class.TheVariants as class
use Rattle.spirv_model.specs.declared.table.Operand.{Operand}
use Rattle.spirv_model.specs.declared.table.Operand.TheVariants.{IdResultType, IdRef}
use Rattle.spirv_model.specs.Operands.{word_at, words_from, kinds, class_of}
use Rattle.body_model.specs.Switches.{is_among, repeat}
use Rattle.valid_model.specs.Definitions.{definition, inst_at}
use Rattle.check_model.specs.Intervals.{Interval, is_visible}
use Rattle.check_model.specs.Branches.{predecessors, block_end_of, label_behind}

-- an id that is used, and the place where it has to be visible
pub record Use : Type 0 where
  pub id : ℕ
  pub place : ℕ

abbrev pub use_at : ℕ → ℕ → Use
use_at place id = record { id = id; place = place }

-- ---- which ids an instruction uses, phis aside

-- an operand that is an id, and not the result
abbrev pub is_used : Operand → Bool
is_used IdResultType = true
is_used IdRef = true
is_used operand = false

abbrev pub used_among : List Operand → List ℕ → List ℕ
used_among [] words = []
used_among (kind ∷ kinds) [] = []
used_among (kind ∷ kinds) (word ∷ words) = if is_used kind then word ∷ used_among kinds words else used_among kinds words

abbrev pub used_by : Option (List Operand) → List ℕ → List ℕ
used_by None words = []
used_by (Some kinds) words = used_among kinds words

-- an instruction that uses all ids that it names beside its result: one of a block, or OpUndef or OpVariable
abbrev pub uses_operands : Option Class → Bool
uses_operands (Some class.Undef) = true
uses_operands (Some class.Variable) = true
uses_operands (Some class.Memory) = true
uses_operands (Some class.Composite) = true
uses_operands (Some (class.Scalar operation)) = true
uses_operands other = false

-- a terminator that uses a condition or a selector
abbrev pub is_choice : ℕ → Bool
is_choice opcode = (opcode == op.BRANCH_CONDITIONAL) || (opcode == op.SWITCH)

-- the ids that it uses, in the order of its words; labels where it leads aren't among them
unfoldable pub used_ids : Inst → List ℕ
used_ids inst =
    if uses_operands (class_of inst.op) then used_by (kinds inst) inst.words
    else if is_choice inst.op then word_at 0 inst ∷ []
    else []

-- ---- phis (SPIR-V specification, section 3.49.17 "Control-Flow Instructions", OpPhi)

-- a value and the label of the block that it comes from
pub record Incoming : Type 0 where
  pub value : ℕ
  pub block : ℕ

abbrev pub incoming_in : List ℕ → List Incoming
incoming_in [] = []
incoming_in (value ∷ []) = []
incoming_in (value ∷ block ∷ words) = record { value = value; block = block } ∷ incoming_in words

-- the pairs of a phi
abbrev pub incoming : Inst → List Incoming
incoming inst = incoming_in (words_from 2 inst)

abbrev pub incoming_blocks : Inst → List ℕ
incoming_blocks inst = map (λ (pair : Incoming). pair.block) (incoming inst)

-- the labels are those of the others, in any order, each once
abbrev pub are_those : List ℕ → List ℕ → Bool
are_those named labels =
    not (repeat named) && list_all (λ label. is_among label labels) named && list_all (λ label. is_among label named) labels

-- the phi at a place names the blocks that branch to its block, each once
unfoldable pub names_predecessors : List Inst → ℕ → Bool
names_predecessors insts place =
    are_those (incoming_blocks (inst_at insts place)) (predecessors insts (label_behind 0 (take place insts)))

-- a phi uses its type where it stands, and each value at the end of the block that it comes from
abbrev pub incoming_use : List Inst → ℕ → Incoming → Use
incoming_use insts place pair = use_at (unwrap_or (block_end_of insts pair.block) place) pair.value

abbrev pub phi_uses : List Inst → ℕ → Inst → List Use
phi_uses insts place inst = use_at place (word_at 0 inst) ∷ map (incoming_use insts place) (incoming inst)

-- ---- the fault

unfoldable pub uses_at : List Inst → ℕ → Inst → List Use
uses_at insts place inst = if inst.op == op.PHI then phi_uses insts place inst else map (use_at place) (used_ids inst)

-- an id that is defined at a place, if at all, is visible at another one
abbrev pub is_defined_for : List Interval → ℕ → Option ℕ → Bool
is_defined_for intervals at None = false
is_defined_for intervals at (Some definition) = is_visible intervals definition at

abbrev pub is_visible_use : List Interval → List Inst → Use → Bool
is_visible_use intervals insts used = is_defined_for intervals used.place (definition insts used.id)

-- the first id that the instruction at a place uses and that isn't visible; before it a phi that doesn't name its predecessors
unfoldable pub not_visible : List Interval → List Inst → ℕ → Option ℕ
not_visible intervals insts place =
    if ((inst_at insts place).op == op.PHI) && not (names_predecessors insts place) then Some (word_at 1 (inst_at insts place))
    else option_map (λ (used : Use). used.id) (find (λ used. not (is_visible_use intervals insts used)) (uses_at insts place (inst_at insts place)))
