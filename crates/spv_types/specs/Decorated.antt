-- What the tables of a module's decorations say.
use Rattle.std.specs.Prelude.{◌≡◌, ℕ, List}
use Rattle.std.specs.Option.{option_or}
use Rattle.std.specs.BTreeMap.{BTreeMap}
use Rattle.spirv_model.specs.declared.module.Inst.{Inst}
use Rattle.spirv_model.specs.Operands.{word_at}
use Rattle.valid_model.specs.DecorationWords.{decorates, decoration_of, offset_of, places_member}
use Rattle.spv_types.specs.declared.decoration_words.Decorations.{Decorations}
use Rattle.spv_types.specs.Pairs.{at_pair, word_if}

-- the words of ids' decorations
abbrev pub HasWords : List Inst → BTreeMap (ℕ × ℕ) ℕ → Type 0
HasWords insts words = (id decoration : ℕ) → at_pair words id decoration ≡ decoration_of insts id decoration

-- the offsets of members
abbrev pub HasOffsets : List Inst → BTreeMap (ℕ × ℕ) ℕ → Type 0
HasOffsets insts offsets = (id member : ℕ) → at_pair offsets id member ≡ offset_of insts id member

-- the word of one more instruction's decoration is kept, where the id has none before
abbrev pub KeepsWord : Inst → BTreeMap (ℕ × ℕ) ℕ → BTreeMap (ℕ × ℕ) ℕ → Type 0
KeepsWord inst old new = (id decoration : ℕ)
    → at_pair new id decoration ≡ option_or (at_pair old id decoration) (word_if (decorates id decoration inst) (word_at 2 inst))

-- the offset that one more instruction gives is kept, where the member has none before
abbrev pub KeepsOffset : Inst → BTreeMap (ℕ × ℕ) ℕ → BTreeMap (ℕ × ℕ) ℕ → Type 0
KeepsOffset inst old new = (id member : ℕ)
    → at_pair new id member ≡ option_or (at_pair old id member) (word_if (places_member id member inst) (word_at 3 inst))

-- they are the decorations of ids and the offsets of members
pub record AreDecorationsOf (insts : List Inst) (decorations : Decorations) : Type 0 where
  pub words : HasWords insts decorations.words
  pub offsets : HasOffsets insts decorations.offsets
