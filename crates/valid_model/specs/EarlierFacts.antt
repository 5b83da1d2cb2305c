-- What stands before a place, as far as the rules of decorations ask.
use Rattle.std.specs.Prelude.{ℕ, Bool, ◌&&◌, ◌==◌, List}
use Rattle.std.specs.List.{list_any}
use Rattle.spirv_model.specs.declared.decoration.TheConstants.{SPEC_ID, BINDING, DESCRIPTOR_SET}
use Rattle.spirv_model.specs.declared.module.Inst.{Inst}
use Rattle.spirv_model.specs.Operands.{word_at}
use Rattle.valid_model.specs.DecorationWords.{decorates, places_member}
use Rattle.valid_model.specs.ModuleFacts.{ModuleFacts, has_position, is_word}
use Rattle.spirv_model.specs.declared.storage_class.TheConstants as storage_class
use Rattle.spirv_model.specs.declared.op.TheConstants as op

-- the instruction gives some id this SpecId
abbrev pub has_spec_id : ℕ → Inst → Bool
has_spec_id number inst = (inst.op == op.DECORATE) && (word_at 1 inst == SPEC_ID) && (word_at 2 inst == number)

-- the instruction is a variable of this class
abbrev pub is_variable_of : ℕ → Inst → Bool
is_variable_of storage inst = (inst.op == op.VARIABLE) && (word_at 2 inst == storage)

-- the instruction is a Uniform variable with this set and binding
abbrev pub has_slot : ModuleFacts → ℕ → ℕ → Inst → Bool
has_slot facts set binding inst =
    is_variable_of storage_class.UNIFORM inst && is_word set (facts.decoration (word_at 1 inst) DESCRIPTOR_SET)
    && is_word binding (facts.decoration (word_at 1 inst) BINDING)

abbrev pub is_position_variable : ModuleFacts → Inst → Bool
is_position_variable facts inst = (inst.op == op.VARIABLE) && has_position facts (word_at 1 inst)

-- what is there before a place: decorations of ids, offsets of members, SpecIds, and variables
pub record EarlierFacts : Type 0 where
  pub decoration : ℕ → ℕ → Bool
  pub offset : ℕ → ℕ → Bool
  pub spec_id : ℕ → Bool
  pub slot : ℕ → ℕ → Bool
  pub push : Bool
  pub position : Bool

unfoldable pub before_of : ModuleFacts → List Inst → EarlierFacts
before_of facts insts = record {
  decoration = λ id decoration. list_any (decorates id decoration) insts;
  offset = λ id member. list_any (places_member id member) insts;
  spec_id = λ number. list_any (has_spec_id number) insts;
  slot = λ set binding. list_any (has_slot facts set binding) insts;
  push = list_any (is_variable_of storage_class.PUSH_CONSTANT) insts;
  position = list_any (is_position_variable facts) insts;
}
