-- What OpStore reads, and what it leaves as it was.
use Rattle.std.proofs.Common.{◌≡◌, ℕ, ◌+◌, ◌-◌, ◌==◌, ◌&&◌, nat_le, nat_lt, Bool, true, false, if◌then◌else◌, List, [], ◌∷◌, length, slice_index, refl, arith, is_some}
use Rattle.std.proofs.lemmas.Bool.Decides.{nat_tests}
use Rattle.spirv_model.specs.declared.module.Inst.{Inst}
use Rattle.spirv_model.specs.declared.op.TheConstants as op
use Rattle.spirv_model.specs.Operands.{word_at, entry_of, class_of, kinds}
use Rattle.body_model.specs.Classes.{is_plain}
use Rattle.stage_model.specs.Start.{Memory}
use Rattle.stage_model.specs.Effect.{read_ids, with_words}
use Rattle.typed_model.proofs.EffectsRun.{instruction}
use Rattle.typed_model.proofs.PlainRuns.{at_op}
use Rattle.typed_model.proofs.ReadTypes.{Each}

pub store_plain : is_plain op.STORE ≡ true
unfolding class_of entry_of
store_plain = refl

-- the pointer of OpStore is among what it reads
FirstOf : (ℕ → Type 0) → ℕ → Inst → Type 0
FirstOf P before inst = is_some (kinds inst) ≡ true → Each P (read_ids inst.op before inst.words) → P (word_at 0 inst)

store_first : (P : ℕ → Type 0) (before : ℕ) (words : List ℕ) → FirstOf P before (instruction op.STORE words)
unfolding FirstOf kinds entry_of read_ids
store_first P before [] has each = cc
store_first P before (pointer ∷ []) has each = cc
store_first P before (pointer ∷ object ∷ words) has each = each.0

pub first_of : (P : ℕ → Type 0) (before : ℕ) (inst : Inst) → inst.op == op.STORE ≡ true → is_some (kinds inst) ≡ true → Each P (read_ids inst.op before inst.words) → P (word_at 0 inst)
unfolding FirstOf
first_of P before inst is has each = at_op (FirstOf P before) inst op.STORE is (store_first P before inst.words) has each

-- another variable holds what it held
pub elsewhere : (variable place : ℕ) (written : List ℕ) (memory : Memory) (other at : ℕ) → (other ≡ variable → ⊥) → with_words variable place written memory other at ≡ memory other at
elsewhere variable place written memory other at isnt = by_test (other == variable) refl
  where
    same_id : (a b : ℕ) → a == b ≡ true → a ≡ b
    same_id a b is = grind (arith, nat_tests)

    by_test : (b : Bool) → (other == variable) ≡ b → (if b && nat_le place at && nat_lt at (place + length written) then slice_index written (at - place) else memory other at) ≡ memory other at
    by_test true is = absurd (isnt (same_id other variable is))
    by_test false is = refl
