-- Variables and constants of a module's level that nothing names go, with their decorations and their places in entry points (SPIR-V
-- specification, section 2.4 "Logical Layout of a Module", and OpEntryPoint in section 3.49.4).
use Rattle.std.specs.Prelude.{◌≡◌, ℕ, ◌<◌, ◌==◌, Bool, true, false, not, ◌&&◌, ◌||◌, if◌then◌else◌, List, [], ◌∷◌, map, filter, Option, None, Some}
use Rattle.std.specs.List.{list_any}
use Rattle.spirv_model.specs.declared.module.Inst.{Inst}
use Rattle.spirv_model.specs.declared.module.Words.{Words}
use Rattle.spirv_model.specs.declared.table.Operand.{Operand}
use Rattle.spirv_model.specs.declared.table.Operand.TheVariants.{IdRef}
use Rattle.spirv_model.specs.declared.op.TheConstants as op
use Rattle.spirv_model.specs.Operands.{word_at, ids, kinds, result}
use Rattle.valid_model.specs.Definitions.{definition, inst_at}
use Rattle.valid_model.specs.Meanings.{meaning}
use Rattle.check_model.specs.Validity.{IsValidList}
use Rattle.change_model.specs.PlanRules.{is_shape}

-- ---- the list

abbrev pub is_gone : (ℕ → Bool) → Option ℕ → Bool
is_gone gone None = false
is_gone gone (Some id) = gone id

abbrev pub is_decoration : ℕ → Bool
is_decoration opcode = (opcode == op.DECORATE) || (opcode == op.MEMBER_DECORATE)

-- the definition of an id that goes, or a decoration of it
abbrev pub is_dropped : (ℕ → Bool) → Inst → Bool
is_dropped gone inst = is_gone gone (result inst) || (is_decoration inst.op && gone (word_at 0 inst))

-- the operands that are left where ids among them go
abbrev pub words_without : (ℕ → Bool) → List Operand → List ℕ → List ℕ
words_without gone [] words = words
words_without gone (kind ∷ kinds) [] = []
words_without gone (IdRef ∷ kinds) (word ∷ words) = if gone word then words_without gone kinds words else word ∷ words_without gone kinds words
words_without gone (kind ∷ kinds) (word ∷ words) = word ∷ words_without gone kinds words

abbrev pub words_left : (ℕ → Bool) → Option (List Operand) → List ℕ → List ℕ
words_left gone None words = words
words_left gone (Some kinds) words = words_without gone kinds words

-- an entry point without the ids of its interface that go; any other instruction as it is
abbrev pub entry_without : (ℕ → Bool) → Inst → Inst
entry_without gone inst = if inst.op == op.ENTRY_POINT then record inst { words = words_left gone (kinds inst) inst.words } else inst

unfoldable pub dropped : (ℕ → Bool) → List Inst → List Inst
dropped gone insts = map (entry_without gone) (filter (λ inst. not (is_dropped gone inst)) insts)

abbrev pub dropped_words : (ℕ → Bool) → Words → Words
dropped_words gone words = record { bound = words.bound; insts = dropped gone words.insts }

-- ---- what may go

-- the id is defined at the module's level, and is no type
pub record IsOfLevel (words : Words) (v : IsValidList words) (id : ℕ) : Type 0 where
  pub place : ℕ
  pub is : definition words.insts id ≡ Some place
  pub early : place < v.derivation.before
  pub no_type : is_shape (meaning words.insts id) ≡ false

-- the ids are variables and constants, and no instruction that is left names one, but for an entry point
pub record MayDrop (words : Words) (v : IsValidList words) (gone : ℕ → Bool) : Type 0 where
  pub level : (id : ℕ) → gone id ≡ true → IsOfLevel words v id
  pub unused : (place : ℕ) → is_dropped gone (inst_at words.insts place) ≡ false → (inst_at words.insts place).op == op.ENTRY_POINT ≡ false
      → list_any gone (ids (inst_at words.insts place)) ≡ false
