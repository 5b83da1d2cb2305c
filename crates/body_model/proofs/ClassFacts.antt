-- The classes of opcodes that the grammar names, by the table.
use Rattle.std.proofs.Common.{◌≡◌, ℕ, Bool, true, false, refl, Option, None, Some}
use Rattle.spirv_model.specs.declared.class.Class.{Class}
use Rattle.spirv_model.specs.declared.class.Class.TheVariants as class
use Rattle.spirv_model.specs.declared.op.TheConstants.{FUNCTION, FUNCTION_END, LABEL, PHI, VARIABLE, STORE, LOOP_MERGE, SELECTION_MERGE, BRANCH, BRANCH_CONDITIONAL, SWITCH, KILL, RETURN, UNREACHABLE}
use Rattle.spirv_model.specs.Operands.{entry_of, class_of}
use Rattle.body_model.specs.Classes.{is_module_level, is_plain_class, is_plain, is_terminator_class, is_terminator}

pub ends_branch : is_terminator BRANCH ≡ true
unfolding class_of entry_of
ends_branch = refl

pub ends_branch_conditional : is_terminator BRANCH_CONDITIONAL ≡ true
unfolding class_of entry_of
ends_branch_conditional = refl

pub ends_switch : is_terminator SWITCH ≡ true
unfolding class_of entry_of
ends_switch = refl

pub ends_return : is_terminator RETURN ≡ true
unfolding class_of entry_of
ends_return = refl

pub ends_unreachable : is_terminator UNREACHABLE ≡ true
unfolding class_of entry_of
ends_unreachable = refl

pub ends_kill : is_terminator KILL ≡ true
unfolding class_of entry_of
ends_kill = refl

pub straight_label : is_terminator LABEL ≡ false
unfolding class_of entry_of
straight_label = refl

pub straight_phi : is_terminator PHI ≡ false
unfolding class_of entry_of
straight_phi = refl

pub straight_variable : is_terminator VARIABLE ≡ false
unfolding class_of entry_of
straight_variable = refl

pub straight_store : is_terminator STORE ≡ false
unfolding class_of entry_of
straight_store = refl

pub straight_selection_merge : is_terminator SELECTION_MERGE ≡ false
unfolding class_of entry_of
straight_selection_merge = refl

pub straight_loop_merge : is_terminator LOOP_MERGE ≡ false
unfolding class_of entry_of
straight_loop_merge = refl

by_class : (of : Option Class) → is_plain_class of ≡ true → is_terminator_class of ≡ false
by_class None is = cc
by_class (Some class.Setting) is = cc
by_class (Some class.TypeDeclaration) is = cc
by_class (Some class.Constant) is = cc
by_class (Some class.SpecConstant) is = cc
by_class (Some class.SpecConstantResult) is = cc
by_class (Some class.Undef) is = refl
by_class (Some class.Variable) is = cc
by_class (Some class.Function) is = cc
by_class (Some class.Memory) is = refl
by_class (Some class.Composite) is = refl
by_class (Some (class.Scalar operation)) is = refl
by_class (Some class.Phi) is = cc
by_class (Some class.Merge) is = cc
by_class (Some class.Label) is = cc
by_class (Some class.Terminator) is = cc

pub plain_is_straight : (op : ℕ) → is_plain op ≡ true → is_terminator op ≡ false
plain_is_straight op is = by_class (class_of op) is

pub no_level_function : is_module_level FUNCTION ≡ false
unfolding class_of entry_of
no_level_function = refl

pub no_level_label : is_module_level LABEL ≡ false
unfolding class_of entry_of
no_level_label = refl
