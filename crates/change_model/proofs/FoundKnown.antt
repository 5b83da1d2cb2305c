-- What is known before a place is known of the whole plan; so are the scalars of constants.
use Rattle.std.specs.Option.{option_map, option_and_then}
use Rattle.std.proofs.Common.{◌≡◌, ℕ, Bool, true, false, ◌==◌, nat_lt, if◌then◌else◌, List, [], ◌∷◌, refl, ap, ◌∙◌, Option, None, Some}
use Rattle.std.proofs.lemmas.Bool.{eq-eqb}
use Rattle.spirv_model.specs.declared.module.Inst.{Inst}
use Rattle.spirv_model.specs.declared.op.TheConstants as op
use Rattle.spirv_model.specs.Operands.{word_at}
use Rattle.scalar_model.specs.declared.scalar_value.Scalar.{Scalar}
use Rattle.valid_model.specs.Definitions.{definition, inst_at}
use Rattle.unit_model.specs.ConstantScalars.{chosen_target}
use Rattle.change_model.specs.Folding.{all_constants}
use Rattle.change_model.specs.Plans.{Plan}
use Rattle.change_model.specs.PlanRules.{scalar_as, scalar_of, scalar_left, switched_target, only_target}
use Rattle.change_model.specs.Passes.{scalar_before, known_before, chosen_way, switched_way}

-- ---- before a place

before_left : (plan : Plan) (insts : List Inst) (place : ℕ) (known : Scalar) (found : Option ℕ) → scalar_before plan insts place found ≡ Some known → scalar_of plan insts found ≡ Some known
before_left plan insts place known None is = cc
before_left plan insts place known (Some at) is = by_test (nat_lt at place) is
  where
    by_test : (b : Bool) → (if b then scalar_as insts (inst_at insts at) (plan.fate at) else None) ≡ Some known → scalar_as insts (inst_at insts at) (plan.fate at) ≡ Some known
    by_test true is = is
    by_test false is = cc

pub known_left : (plan : Plan) (insts : List Inst) (place id : ℕ) (known : Scalar) → known_before plan insts place id ≡ Some known → scalar_left plan insts id ≡ Some known
unfolding known_before scalar_left
known_left plan insts place id known is = before_left plan insts place known (definition insts (plan.name id)) is

-- ---- what follows from known scalars

-- whatever the first knows the second does
abbrev pub Knows : (ℕ → Option Scalar) → (ℕ → Option Scalar) → Type 0
Knows first second = (id : ℕ) (known : Scalar) → first id ≡ Some known → second id ≡ Some known

pub all_known : (first second : ℕ → Option Scalar) → Knows first second → (ids : List ℕ) (scalars : List Scalar) → all_constants first ids ≡ Some scalars → all_constants second ids ≡ Some scalars
all_known first second more [] scalars is = is
all_known first second more (id ∷ ids) scalars is = by_one (first id) refl (all_constants first ids) (λ values rest_is. all_known first second more ids values rest_is) is
  where
    by_one : (one : Option Scalar) → first id ≡ one → (rest : Option (List Scalar)) → ((values : List Scalar) → rest ≡ Some values → all_constants second ids ≡ Some values)
        → option_and_then (λ (value : Scalar). option_map (λ (values : List Scalar). value ∷ values) rest) one ≡ Some scalars → all_constants second (id ∷ ids) ≡ Some scalars
    by_one None one_is rest others is = cc
    by_one (Some value) one_is None others is = cc
    by_one (Some value) one_is (Some values) others is = rw (more id value one_is) (rw (others values refl) is)

pub result_known : (first second : ℕ → Option Scalar) → Knows first second → (ids : List ℕ) (of : List Scalar → Option Scalar) (known : Scalar)
    → option_and_then of (all_constants first ids) ≡ Some known → option_and_then of (all_constants second ids) ≡ Some known
result_known first second more ids of known is = by_all (all_constants first ids) refl is
  where
    by_all : (all : Option (List Scalar)) → all_constants first ids ≡ all → option_and_then of all ≡ Some known → option_and_then of (all_constants second ids) ≡ Some known
    by_all None all_is is = cc
    by_all (Some scalars) all_is is = ap (option_and_then of) (all_known first second more ids scalars all_is) ∙ is

pub chosen_known : (first second : Option Scalar) (inst : Inst) (label : ℕ) → ((known : Scalar) → first ≡ Some known → second ≡ Some known) → chosen_target first inst ≡ Some label → chosen_target second inst ≡ Some label
chosen_known None second inst label more is = cc
chosen_known (Some known) second inst label more is = ap (λ (k : Option Scalar). chosen_target k inst) (more known refl) ∙ is

pub switched_known : (first second : Option Scalar) (inst : Inst) (label : ℕ) → ((known : Scalar) → first ≡ Some known → second ≡ Some known) → switched_target first inst ≡ Some label → switched_target second inst ≡ Some label
switched_known None second inst label more is = cc
switched_known (Some known) second inst label more is = ap (λ (k : Option Scalar). switched_target k inst) (more known refl) ∙ is

-- ---- where a branch always leads

pub only_choice : (plan : Plan) (insts : List Inst) (inst : Inst) (label : ℕ) → inst.op ≡ op.BRANCH_CONDITIONAL → chosen_target (scalar_left plan insts (word_at 0 inst)) inst ≡ Some label → only_target plan insts inst ≡ Some label
only_choice plan insts inst label is target =
    ap (λ (b : Bool). if b then chosen_target (scalar_left plan insts (word_at 0 inst)) inst else if inst.op == op.SWITCH then switched_target (scalar_left plan insts (word_at 0 inst)) inst else None) (eq-eqb inst.op op.BRANCH_CONDITIONAL is)
    ∙ target

pub only_switch : (plan : Plan) (insts : List Inst) (inst : Inst) (label : ℕ) → inst.op ≡ op.SWITCH → switched_target (scalar_left plan insts (word_at 0 inst)) inst ≡ Some label → only_target plan insts inst ≡ Some label
only_switch plan insts inst label is target =
    ap (λ (b : Bool). if b then chosen_target (scalar_left plan insts (word_at 0 inst)) inst else if inst.op == op.SWITCH then switched_target (scalar_left plan insts (word_at 0 inst)) inst else None)
    (ap (λ (n : ℕ). n == op.BRANCH_CONDITIONAL) is)
    ∙ ap (λ (b : Bool). if b then switched_target (scalar_left plan insts (word_at 0 inst)) inst else None) (eq-eqb inst.op op.SWITCH is) ∙ target

pub only_chosen : (plan : Plan) (insts : List Inst) (place label : ℕ) → (inst_at insts place).op ≡ op.BRANCH_CONDITIONAL → chosen_way plan insts place ≡ Some label → only_target plan insts (inst_at insts place) ≡ Some label
only_chosen plan insts place label is way =
    let inst = inst_at insts place in
    only_choice plan insts inst label is
    (chosen_known (known_before plan insts place (word_at 0 inst)) (scalar_left plan insts (word_at 0 inst)) inst label (λ known knows. known_left plan insts place (word_at 0 inst) known knows) way)

pub only_switched : (plan : Plan) (insts : List Inst) (place label : ℕ) → (inst_at insts place).op ≡ op.SWITCH → switched_way plan insts place ≡ Some label → only_target plan insts (inst_at insts place) ≡ Some label
only_switched plan insts place label is way =
    let inst = inst_at insts place in
    only_switch plan insts inst label is
    (switched_known (known_before plan insts place (word_at 0 inst)) (scalar_left plan insts (word_at 0 inst)) inst label (λ known knows. known_left plan insts place (word_at 0 inst) known knows) way)
