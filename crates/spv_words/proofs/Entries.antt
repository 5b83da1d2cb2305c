-- What the table's entry of an opcode says of an instruction.
use Rattle.std.proofs.Common.{◌≡◌, ℕ, Bool, true, false, None, Some, is_some, refl, sym, ◌∙◌}
use Rattle.spirv_model.specs.declared.module.Inst.{Inst}
use Rattle.spirv_model.specs.declared.module.WordsFault.TheVariants.{UnknownOp, BadShape, FloatType}
use Rattle.spirv_model.specs.declared.class.Class.{Class}
use Rattle.spirv_model.specs.declared.table.Operands.{Operands}
use Rattle.spirv_model.specs.declared.table.Entry.TheVariants.{Skipped, Float, Listed}
use Rattle.spirv_model.specs.Operands.{entry_of, kinds, kinds_from, listed_of}
use Rattle.spirv_model.specs.Module.{fault_at, is_skipped}

pub unknown : (place : ℕ) (inst : Inst) → entry_of inst.op ≡ None → fault_at place inst ≡ Some (UnknownOp inst.op)
unknown place inst h = rw h refl

pub skipped : (place : ℕ) (inst : Inst) → entry_of inst.op ≡ Some Skipped → (fault_at place inst ≡ None) × (is_skipped inst ≡ true)
skipped place inst h = rw h (refl, refl)

pub float : (place : ℕ) (inst : Inst) → entry_of inst.op ≡ Some Float → fault_at place inst ≡ Some FloatType
float place inst h = rw h refl

pub misfit : (place : ℕ) (inst : Inst) (class : Class) (operands : Operands) (b : Bool) → entry_of inst.op ≡ Some (Listed class operands) → b ≡ is_some (kinds_from (listed_of operands) operands.rest inst.words)
    → b ≡ false → fault_at place inst ≡ Some (BadShape place)
unfolding kinds
misfit place inst class operands b h is unfit = let e : is_some (kinds_from (listed_of operands) operands.rest inst.words) ≡ false = sym is ∙ unfit in rw (h, e) refl

pub fitting : (place : ℕ) (inst : Inst) (class : Class) (operands : Operands) (b : Bool) → entry_of inst.op ≡ Some (Listed class operands) → b ≡ is_some (kinds_from (listed_of operands) operands.rest inst.words)
    → b ≡ true → (fault_at place inst ≡ None) × (is_skipped inst ≡ false)
unfolding kinds
fitting place inst class operands b h is fits = let e : is_some (kinds_from (listed_of operands) operands.rest inst.words) ≡ true = sym is ∙ fits in rw (h, e) (refl, refl)
