-- What is asked of a module that is specialized: nothing that was known before it runs is left in it.
use Rattle.std.specs.Prelude.{◌≡◌, Bool, ℕ, true, not, List}
use Rattle.std.specs.List.{list_all}
use Rattle.spirv_model.specs.declared.module.Inst.{Inst}
use Rattle.spirv_model.specs.declared.module.Words.{Words}
use Rattle.spirv_model.specs.Operands.{ids}
use Rattle.body_model.specs.Grammar.{Derives}
use Rattle.valid_model.specs.Definitions.{inst_at}
use Rattle.check_model.specs.Intervals.{intervals_of}
use Rattle.state_model.specs.declared.parts.SpecValues.{SpecValues}
use Rattle.unit_model.specs.ConstantScalars.{function_places, is_specialized, is_folded, is_straightened}
use Rattle.change_model.specs.Keeping.{Keeps, HasInterfaceOf, IsChange}
use Rattle.change_model.specs.PlanRules.{is_zero_input}

-- the function names no input at these locations
abbrev pub names_no_zeros : List ℕ → List Inst → Bool
names_no_zeros zeros insts = list_all (λ place. list_all (λ id. not (is_zero_input insts zeros id)) (ids (inst_at insts place))) (function_places insts)

-- a module without specialization constants that came of another one by changes, whatever entries it is given
pub record CameOf (zeros : List ℕ) (entries : SpecValues) (new old : Words) : Type 0 where
  pub changes : (any : SpecValues) → IsChange zeros new any old entries
  pub specialized : is_specialized new.insts ≡ true

-- Whatever entries it is given, the new module does what the old one does with its own ones, on inputs that are zeros at these locations, in
-- no more steps and no more words, with the same interface; and no specialization constant is left in it, no operation on constants, no branch
-- that always leads to one label, and no use of an input that is zero.
pub record IsSpecialised (zeros : List ℕ) (entries : SpecValues) (new old : Words) : Type 0 where
  pub keeps : (any : SpecValues) → Keeps zeros new any old entries
  pub interface : HasInterfaceOf new.insts old.insts
  pub specialized : is_specialized new.insts ≡ true
  pub folded : is_folded new.insts ≡ true
  pub straightened : (derivation : Derives new.insts) → is_straightened (intervals_of derivation) new.insts ≡ true
  pub unnamed : names_no_zeros zeros new.insts ≡ true
