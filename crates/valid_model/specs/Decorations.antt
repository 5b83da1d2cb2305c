-- Which decorations are allowed (SPIR-V specification, section 3.20 "Decoration"), and the fault BadDecoration: a condition
-- on the list of instructions and a place in it, which is that of a decoration or of a variable.
use Rattle.std.specs.Prelude.{ℕ, Bool, false, ◌&&◌, ◌||◌, ◌==◌, nat_le, if◌then◌else◌, List, not, length, take}
use Rattle.limits.specs.declared.TheConstants.{LOCATIONS, DESCRIPTOR_SETS, DESCRIPTOR_BINDINGS}
use Rattle.spirv_model.specs.declared.decoration.TheConstants.{SPEC_ID, BUILT_IN, LOCATION, BINDING, DESCRIPTOR_SET, OFFSET}
use Rattle.spirv_model.specs.declared.module.Inst.{Inst}
use Rattle.spirv_model.specs.Operands.{word_at}
use Rattle.valid_model.specs.BuiltIns.{takes_built_in}
use Rattle.valid_model.specs.DecorationWords.{is_listed}
use Rattle.valid_model.specs.Definitions.{inst_at}
use Rattle.valid_model.specs.EarlierFacts.{EarlierFacts, before_of}
use Rattle.valid_model.specs.ModuleFacts.{ModuleFacts, facts_of, is_spec_op}
use Rattle.valid_model.specs.Variables.{bad_variable}
use Rattle.spirv_model.specs.declared.op.TheConstants as op

-- ---- a decoration by itself

-- a location, a set or a binding that is out of its range
abbrev pub is_out_of_range : ℕ → ℕ → Bool
is_out_of_range decoration word =
    ((decoration == LOCATION) && nat_le LOCATIONS word) || ((decoration == DESCRIPTOR_SET) && nat_le DESCRIPTOR_SETS word)
    || ((decoration == BINDING) && nat_le DESCRIPTOR_BINDINGS word)

-- the id has the decoration before, or another id has the SpecId before
abbrev pub repeats : EarlierFacts → ℕ → ℕ → ℕ → Bool
repeats before id decoration word = before.decoration id decoration || ((decoration == SPEC_ID) && before.spec_id word)

-- OpDecorate that gives the id this decoration with this word, in so many words
unfoldable pub bad_decorate : ModuleFacts → EarlierFacts → ℕ → ℕ → ℕ → ℕ → Bool
bad_decorate facts before id decoration word words =
    not (is_listed decoration words) || repeats before id decoration word || is_out_of_range decoration word
    || ((decoration == SPEC_ID) && not (is_spec_op (facts.opcode id)))
    || ((decoration == BUILT_IN) && not (takes_built_in facts word (facts.meaning id)))

-- OpMemberDecorate that gives the member this decoration, in so many words: only Offset with one word is listed, once for
-- a member
unfoldable pub bad_member_decorate : EarlierFacts → ℕ → ℕ → ℕ → ℕ → Bool
bad_member_decorate before id member decoration words = not ((decoration == OFFSET) && (words == 4)) || before.offset id member

-- ---- the decoration at a place, or the variable there, isn't allowed

unfoldable pub breaks_decorations : ModuleFacts → EarlierFacts → Inst → Bool
breaks_decorations facts before inst =
    if inst.op == op.DECORATE then bad_decorate facts before (word_at 0 inst) (word_at 1 inst) (word_at 2 inst) (length inst.words)
    else if inst.op == op.MEMBER_DECORATE then bad_member_decorate before (word_at 0 inst) (word_at 1 inst) (word_at 2 inst) (length inst.words)
    else if inst.op == op.VARIABLE then bad_variable facts before (word_at 0 inst) (word_at 1 inst) (word_at 2 inst)
    else false

unfoldable pub bad_decoration : List Inst → ℕ → Bool
bad_decoration insts place =
    breaks_decorations (facts_of insts) (before_of (facts_of insts) (take place insts)) (inst_at insts place)
