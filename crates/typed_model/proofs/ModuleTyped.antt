-- Behind the module's level each id that it defines has a value of its type.
use Rattle.std.proofs.Common.{◌≡◌, ℕ, zero, suc, ◌+◌, ◌<◌, ◌==◌, ◌&&◌, ◌||◌, Bool, true, false, not, List, [], length, take, refl, ap, sym, ◌∙◌, subst, arith, Option, Some}
use Rattle.std.proofs.lemmas.Bool.Decides.{nat_tests}
use Rattle.spirv_model.specs.declared.module.Inst.{Inst}
use Rattle.spirv_model.specs.declared.module.Words.{Words}
use Rattle.spirv_model.specs.declared.op.TheConstants as op
use Rattle.spirv_model.specs.declared.class.Class.{Class}
use Rattle.spirv_model.specs.declared.class.Class.TheVariants as class
use Rattle.spirv_model.specs.Operands.{word_at, entry_of, class_of}
use Rattle.body_model.specs.Classes.{is_module_level_class, is_module_level}
use Rattle.valid_model.specs.Definitions.{inst_at}
use Rattle.valid_model.specs.Knowledge.{is_data}
use Rattle.valid_model.specs.Types.{is_type_class}
use Rattle.valid_model.specs.Constants.{constant_fits}
use Rattle.valid_model.specs.Meanings.{is_constant_class, is_constant, known_before}
use Rattle.valid_model.specs.FirstFault.{bad_constant}
use Rattle.check_model.specs.Intervals.{Interval}
use Rattle.check_model.specs.Typing.{typing_of}
use Rattle.check_model.specs.OperandTypes.{operands_fit_class, operands_fit}
use Rattle.stage_model.specs.Program.{program_of}
use Rattle.stage_model.specs.Start.{Values, with_definition, defined_by}
use Rattle.state_model.specs.declared.parts.SpecValues.{SpecValues}
use Rattle.typed_model.specs.Judgement.{AreTyped}
use Rattle.typed_model.specs.Modules.{IsSound, IsFront}
use Rattle.typed_model.proofs.ResultIds.{defines, is_named, named}
use Rattle.typed_model.proofs.TypedSteps.{seen, visible_by}
use Rattle.typed_model.proofs.ValidTypes.{keeps_rules, valid_types}
use Rattle.typed_model.proofs.ModuleValues.{defined_next}
use Rattle.typed_model.proofs.ModuleConstants.{constant_typed, undef_typed, variable_typed_here}
use Rattle.typed_model.proofs.SilentSteps.{setting_typed, type_typed, function_typed}

constant_fit : (insts : List Inst) (place : ℕ) → bad_constant insts place ≡ false → is_constant (inst_at insts place).op ≡ true → constant_fits (known_before insts place) (inst_at insts place) ≡ true
unfolding bad_constant
constant_fit insts place isnt is = by_tests (is_constant (inst_at insts place).op) (constant_fits (known_before insts place) (inst_at insts place)) is isnt
  where
    by_tests : (c f : Bool) → c ≡ true → (c && not f) ≡ false → f ≡ true
    by_tests true true is isnt = refl
    by_tests true false is isnt = cc
    by_tests false f is isnt = cc

undef_fit : (insts : List Inst) (inst : Inst) → operands_fit (typing_of insts) inst ≡ true → class_of inst.op ≡ Some class.Undef → is_data ((program_of insts).meaning (word_at 0 inst)) ≡ true
unfolding operands_fit typing_of program_of
undef_fit insts inst fit is = sym (ap (λ (of : Option Class). operands_fit_class (typing_of insts) of inst) is) ∙ fit

-- the judgement at the next place
abbrev Next : Words → SpecValues → ℕ → Values → Type 0
Next words entries place values = AreTyped words.insts [] (place + 1) (with_definition (program_of words.insts) entries values (inst_at words.insts place))

function_class : class_of op.FUNCTION ≡ Some class.Function
unfolding class_of entry_of
function_class = refl

op_is : (a b : ℕ) → a == b ≡ true → a ≡ b
op_is a b is = grind (arith, nat_tests)

by_class : (words : Words) (entries : SpecValues) (place : ℕ) (values : Values) (s : IsSound words) (within : place < length words.insts) (of : Option Class) → class_of (inst_at words.insts place).op ≡ of → is_module_level_class of ≡ true
    → AreTyped words.insts [] place values → Next words entries place values
by_class words entries place values s within (Some class.Setting) is level typed = setting_typed words.insts entries place values within (keeps_rules words s.sound place within).once is typed
by_class words entries place values s within (Some class.TypeDeclaration) is level typed = type_typed words.insts entries place values within (keeps_rules words s.sound place within).once is (ap is_type_class is) typed
by_class words entries place values s within (Some class.Constant) is level typed =
    let k = keeps_rules words s.sound place within in
    constant_typed words.insts entries place values (valid_types words s.sound) within k.once (ap is_constant_class is) (ap defines is) (s.shaped place within) (constant_fit words.insts place k.constants (ap is_constant_class is)) typed
by_class words entries place values s within (Some class.SpecConstant) is level typed =
    let k = keeps_rules words s.sound place within in
    constant_typed words.insts entries place values (valid_types words s.sound) within k.once (ap is_constant_class is) (ap defines is) (s.shaped place within) (constant_fit words.insts place k.constants (ap is_constant_class is)) typed
by_class words entries place values s within (Some class.SpecConstantResult) is level typed =
    let k = keeps_rules words s.sound place within in
    constant_typed words.insts entries place values (valid_types words s.sound) within k.once (ap is_constant_class is) (ap defines is) (s.shaped place within) (constant_fit words.insts place k.constants (ap is_constant_class is)) typed
by_class words entries place values s within (Some class.Undef) is level typed =
    undef_typed words.insts entries place values (valid_types words s.sound) within (keeps_rules words s.sound place within).once (sym (ap (λ (of : Option Class). is_named of (inst_at words.insts place).op) is) ∙ named (inst_at words.insts place).op) (ap defines is) (s.shaped place within)
    (undef_fit words.insts (inst_at words.insts place) (s.fit place within) is) typed
by_class words entries place values s within (Some class.Variable) is level typed =
    variable_typed_here words.insts entries place values (valid_types words s.sound) within (keeps_rules words s.sound place within).once (sym (ap (λ (of : Option Class). is_named of (inst_at words.insts place).op) is) ∙ named (inst_at words.insts place).op) (ap defines is) (s.shaped place within) typed
by_class words entries place values s within of is level typed = cc

next : (words : Words) (entries : SpecValues) (place : ℕ) (values : Values) (s : IsSound words) (within : place < length words.insts) (level : Bool) → is_module_level (inst_at words.insts place).op ≡ level → (level || ((inst_at words.insts place).op == op.FUNCTION)) ≡ true
    → AreTyped words.insts [] place values → Next words entries place values
next words entries place values s within true is either typed = by_class words entries place values s within (class_of (inst_at words.insts place).op) refl is typed
next words entries place values s within false is either typed =
    function_typed words.insts entries place values within (keeps_rules words s.sound place within).once (ap class_of (op_is (inst_at words.insts place).op op.FUNCTION either) ∙ function_class) either typed

front_typed : (words : Words) (entries : SpecValues) (s : IsSound words) (place : ℕ) → IsFront words place → AreTyped words.insts [] place (defined_by (program_of words.insts) entries (take place words.insts))
front_typed words entries s zero front = λ id at type defined visible of. absurd (let less = (seen [] at 0 visible).0 in omega (arith, less))
front_typed words entries s (suc place) front =
    let within : place < length words.insts = (let w = front.within in omega (arith, w)) in
    let before = front_typed words entries s place (record { within = omega (arith, within); level = λ earlier less. front.level earlier (omega (arith, less)) }) in
    let e : place + 1 ≡ suc place = omega arith in
    subst (λ n. AreTyped words.insts [] n (defined_by (program_of words.insts) entries (take n words.insts))) e
    (subst (AreTyped words.insts [] (place + 1)) (sym (defined_next words.insts (program_of words.insts) entries place within))
    (next words entries place _ s within (is_module_level (inst_at words.insts place).op) refl (front.level place (omega arith)) before))

-- each id that the module's level defines has a value that suits it
pub module_typed : (words : Words) (entries : SpecValues) (intervals : List Interval) → IsSound words → (place : ℕ) → IsFront words place → AreTyped words.insts intervals place (defined_by (program_of words.insts) entries (take place words.insts))
module_typed words entries intervals s place front = λ id at type defined visible of.
    front_typed words entries s place front id at type defined (visible_by [] at place (seen intervals at place visible).0 refl) of
