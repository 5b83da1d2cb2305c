-- Instructions whose operands fit: what they do suits the type of their result.
use Rattle.std.specs.Prelude.{◌≡◌, List, slice_index, Some}
use Rattle.spirv_model.specs.declared.module.Inst.{Inst}
use Rattle.stage_model.specs.Value.{Value}
use Rattle.stage_model.specs.Program.{Program}
use Rattle.stage_model.specs.Start.{Memory}
use Rattle.stage_model.specs.Effect.{Effect, Gives, effect_of}
use Rattle.typed_model.specs.Values.{IsOfType}

-- a result is of the type that the instruction names
abbrev pub IsTypedEffect : Program → Inst → Effect → Type 0
IsTypedEffect program inst (Gives value) = IsOfType program (slice_index inst.words 0) value
IsTypedEffect program inst effect = Unit {0}

-- with these operands' values the instruction has an effect, and a result of its type
pub record Runs (program : Program) (memory : Memory) (inst : Inst) (values : List Value) : Type 0 where
  pub effect : Effect
  pub is : effect_of program memory inst values ≡ Some effect
  pub typed : IsTypedEffect program inst effect
