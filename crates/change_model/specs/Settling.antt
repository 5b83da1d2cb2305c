-- Lists that differ in nothing but how constants are made, and in decorations that are gone.
use Rattle.std.specs.Prelude.{◌≡◌, Bool, true, false, not, List, map, filter, Option, Some}
use Rattle.spirv_model.specs.declared.module.Inst.{Inst}
use Rattle.spirv_model.specs.declared.class.Class.{Class}
use Rattle.spirv_model.specs.declared.class.Class.TheVariants as class
use Rattle.spirv_model.specs.Operands.{word_at, class_of}
use Rattle.change_model.specs.Constants.{is_spec_id}

abbrev pub is_spec_class : Option Class → Bool
is_spec_class (Some class.SpecConstant) = true
is_spec_class (Some class.SpecConstantResult) = true
is_spec_class other = false

abbrev pub is_plain_constant_class : Option Class → Bool
is_plain_constant_class (Some class.Constant) = true
is_plain_constant_class other = false

-- an instruction stands for another one: it is the same, or a constant of the same type and id for a specialization constant
pub data StandsFor (new old : Inst) : Type 0 where
  same : new ≡ old → StandsFor new old
  settles : is_spec_class (class_of old.op) ≡ true → is_plain_constant_class (class_of new.op) ≡ true
      → word_at 0 new ≡ word_at 0 old → word_at 1 new ≡ word_at 1 old → StandsFor new old

-- each instruction that isn't the number of a specialization constant, as f gives it
abbrev pub all_settled : (Inst → Inst) → List Inst → List Inst
all_settled f insts = map f (filter (λ inst. not (is_spec_id inst)) insts)
