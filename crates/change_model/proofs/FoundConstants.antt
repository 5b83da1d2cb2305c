-- Constants of the module are the same scalars under the plan that one pass finds.
use Rattle.std.specs.Option.{option_and_then}
use Rattle.std.proofs.Common.{◌≡◌, ℕ, ◌<◌, inl, inr, Bool, true, false, ◌==◌, if◌then◌else◌, List, refl, ap, sym, ◌∙◌, Option, None, Some}
use Rattle.std.proofs.lemmas.Bool.{cases_lt, eqb-true}
use Rattle.spirv_model.specs.declared.module.Inst.{Inst}
use Rattle.spirv_model.specs.declared.op.TheConstants as op
use Rattle.spirv_model.specs.Operands.{entry_of, class_of, word_at}
use Rattle.scalar_model.specs.declared.scalar_value.Scalar.{Scalar}
use Rattle.scalar_model.specs.declared.scalar_value.Scalar.TheVariants as scalar
use Rattle.valid_model.specs.Definitions.{definition, inst_at}
use Rattle.valid_model.specs.Meanings.{meaning}
use Rattle.typed_model.proofs.FunctionRuns.{function_within}
use Rattle.typed_model.proofs.ModuleValues.{defined_at}
use Rattle.typed_model.proofs.ValidTypes.{keeps_rules}
use Rattle.unit_model.specs.ConstantScalars.{null_scalar, scalar_by, constant_scalar, is_scalar_class}
use Rattle.change_model.specs.declared.fate.Fate.{Fate}
use Rattle.change_model.specs.declared.fate.Fate.TheVariants as fate
use Rattle.change_model.specs.PlanRules.{scalar_as, scalar_of, scalar_left}
use Rattle.change_model.proofs.FoundPlans.{Found}
use Rattle.change_model.proofs.FoundOrigins.{Origin, goes_away, stays, by_phi, by_load, by_chain, by_untyped, by_selection, by_loop, by_end, by_branch, by_switch, by_picks, by_folds, origin}
use Rattle.change_model.proofs.PlanRunsNames.{phi_result}

-- the opcode of a constant
data IsConstant (opcode : ℕ) : Type 0 where
  number : opcode ≡ op.CONSTANT → IsConstant opcode
  truth : opcode ≡ op.CONSTANT_TRUE → IsConstant opcode
  falsehood : opcode ≡ op.CONSTANT_FALSE → IsConstant opcode
  nothing : opcode ≡ op.CONSTANT_NULL → IsConstant opcode

constant_op : (insts : List Inst) (inst : Inst) (known : Scalar) → scalar_by insts inst ≡ Some known → IsConstant inst.op
constant_op insts inst known is = by_tests (inst.op == op.CONSTANT) (inst.op == op.CONSTANT_TRUE) (inst.op == op.CONSTANT_FALSE) (inst.op == op.CONSTANT_NULL) refl refl refl refl is
  where
    by_tests : (a b c d : Bool) → inst.op == op.CONSTANT ≡ a → inst.op == op.CONSTANT_TRUE ≡ b → inst.op == op.CONSTANT_FALSE ≡ c → inst.op == op.CONSTANT_NULL ≡ d
        → (if a then Some (scalar.Word (word_at 2 inst)) else if b then Some (scalar.Bool true) else if c then Some (scalar.Bool false) else if d then null_scalar (meaning insts (word_at 0 inst)) else None) ≡ Some known
        → IsConstant inst.op
    by_tests true b c d p q r s is = number (eqb-true inst.op op.CONSTANT p)
    by_tests false true c d p q r s is = truth (eqb-true inst.op op.CONSTANT_TRUE q)
    by_tests false false true d p q r s is = falsehood (eqb-true inst.op op.CONSTANT_FALSE r)
    by_tests false false false true p q r s is = nothing (eqb-true inst.op op.CONSTANT_NULL s)
    by_tests false false false false p q r s is = cc

-- another opcode than that of a constant
other_op : (opcode known : ℕ) → IsConstant opcode → op.CONSTANT == known ≡ false → op.CONSTANT_TRUE == known ≡ false → op.CONSTANT_FALSE == known ≡ false → op.CONSTANT_NULL == known ≡ false → opcode == known ≡ false
other_op opcode known (number is) a b c d = ap (λ (n : ℕ). n == known) is ∙ a
other_op opcode known (truth is) a b c d = ap (λ (n : ℕ). n == known) is ∙ b
other_op opcode known (falsehood is) a b c d = ap (λ (n : ℕ). n == known) is ∙ c
other_op opcode known (nothing is) a b c d = ap (λ (n : ℕ). n == known) is ∙ d

record NotScalar : Type 0 where
  number : is_scalar_class (class_of op.CONSTANT) ≡ false
  truth : is_scalar_class (class_of op.CONSTANT_TRUE) ≡ false
  falsehood : is_scalar_class (class_of op.CONSTANT_FALSE) ≡ false
  nothing : is_scalar_class (class_of op.CONSTANT_NULL) ≡ false

not_scalar : NotScalar
unfolding class_of entry_of
not_scalar = record { number = refl; truth = refl; falsehood = refl; nothing = refl }

no_scalar : (opcode : ℕ) → IsConstant opcode → is_scalar_class (class_of opcode) ≡ false
no_scalar opcode (number is) = ap (λ (n : ℕ). is_scalar_class (class_of n)) is ∙ not_scalar.number
no_scalar opcode (truth is) = ap (λ (n : ℕ). is_scalar_class (class_of n)) is ∙ not_scalar.truth
no_scalar opcode (falsehood is) = ap (λ (n : ℕ). is_scalar_class (class_of n)) is ∙ not_scalar.falsehood
no_scalar opcode (nothing is) = ap (λ (n : ℕ). is_scalar_class (class_of n)) is ∙ not_scalar.nothing

clash : {Q : Type 0} (b : Bool) → b ≡ true → b ≡ false → Q
clash true is isnt = cc
clash false is isnt = cc

isnt_op : {Q : Type 0} (opcode known : ℕ) → opcode ≡ known → known == known ≡ true → opcode == known ≡ false → Q
isnt_op opcode known is self isnt = clash (opcode == known) (ap (λ (n : ℕ). n == known) is ∙ self) isnt

one_place : (a b : ℕ) (found : Option ℕ) → found ≡ Some a → found ≡ Some b → a ≡ b
one_place a b found first second = cc

never : {Q : Type 0} (what : Fate) → what ≡ fate.Stays → what ≡ fate.Resolves → Q
never what is also = by_both (sym is ∙ also)
  where
    by_both : {Q : Type 0} → fate.Stays ≡ fate.Resolves → Q
    by_both same = cc

module _ (f : Found) where
  -- a phi that goes stands in the function
  pub record ResolvedAt (place : ℕ) : Type 0 where
    pub behind : f.valid.derivation.before < place
    pub within : place < f.valid.derivation.after
    pub is_phi : (inst_at f.words.insts place).op ≡ op.PHI

  phi_by : (place : ℕ) (what : Fate) → Origin f place what → what ≡ fate.Resolves → (inst_at f.words.insts place).op ≡ op.PHI
  phi_by place what (by_phi is) same = is
  phi_by place what goes_away same = cc
  phi_by place what stays same = cc
  phi_by place what (by_load is empty) same = cc
  phi_by place what (by_chain is empty) same = cc
  phi_by place what (by_untyped is untyped) same = cc
  phi_by place what (by_selection label is free way) same = cc
  phi_by place what (by_loop is opened) same = cc
  phi_by place what (by_end label is unselected held known) same = cc
  phi_by place what (by_branch label is selected skipped way) same = cc
  phi_by place what (by_switch label is skipped way) same = cc
  phi_by place what (by_picks label is free way) same = cc
  phi_by place what (by_folds known is comes) same = cc

  pub resolved_at : (place : ℕ) → f.plan.fate place ≡ fate.Resolves → ResolvedAt place
  resolved_at place resolves = elim (cases_lt f.valid.derivation.before place) [
    | inl behind ↦ elim (cases_lt place f.valid.derivation.after) [
      | inl within ↦ record { behind = behind; within = within; is_phi = phi_by place (f.plan.fate place) (origin f place) resolves }
      | inr past ↦ never (f.plan.fate place) (f.is.outside place (inr past)) resolves
    ]
    | inr front ↦ never (f.plan.fate place) (f.is.outside place (inl front)) resolves
  ]

  -- a constant keeps its name
  constant_named : (id place : ℕ) → definition f.words.insts id ≡ Some place → IsConstant (inst_at f.words.insts place).op → f.plan.name id ≡ id
  constant_named id place at constant = elim (f.is.names id) [
    | inl same ↦ same
    | inr resolved ↦
        let insts = f.words.insts in
        let r = resolved_at resolved.place resolved.resolves in
        let within = function_within insts f.valid.derivation resolved.place r.within in
        let there = defined_at insts resolved.place id within (phi_result (inst_at insts resolved.place) r.is_phi ∙ ap (λ (n : ℕ). Some n) resolved.own) (keeps_rules f.words f.valid.sound resolved.place within).once in
        let same : place ≡ resolved.place = one_place place resolved.place (definition insts id) at there in
        isnt_op (inst_at insts place).op op.PHI (ap (λ (n : ℕ). (inst_at insts n).op) same ∙ r.is_phi) refl (other_op (inst_at insts place).op op.PHI constant refl refl refl refl)
  ]

  scalar_by_origin : (place : ℕ) (what : Fate) → Origin f place what → IsConstant (inst_at f.words.insts place).op → scalar_as f.words.insts (inst_at f.words.insts place) what ≡ scalar_by f.words.insts (inst_at f.words.insts place)
  scalar_by_origin place what goes_away constant = refl
  scalar_by_origin place what stays constant = refl
  scalar_by_origin place what (by_phi is) constant = refl
  scalar_by_origin place what (by_load is empty) constant = isnt_op (inst_at f.words.insts place).op op.LOAD is refl (other_op (inst_at f.words.insts place).op op.LOAD constant refl refl refl refl)
  scalar_by_origin place what (by_chain is empty) constant = refl
  scalar_by_origin place what (by_untyped is untyped) constant = refl
  scalar_by_origin place what (by_selection label is free way) constant = refl
  scalar_by_origin place what (by_loop is opened) constant = refl
  scalar_by_origin place what (by_end label is unselected held known) constant = refl
  scalar_by_origin place what (by_branch label is selected skipped way) constant = refl
  scalar_by_origin place what (by_switch label is skipped way) constant = refl
  scalar_by_origin place what (by_picks label is free way) constant = refl
  scalar_by_origin place what (by_folds known is comes) constant = clash (is_scalar_class (class_of (inst_at f.words.insts place).op)) is (no_scalar (inst_at f.words.insts place).op constant)

  by_definition : (id : ℕ) (known : Scalar) (found : Option ℕ) → definition f.words.insts id ≡ found → option_and_then (λ (place : ℕ). scalar_by f.words.insts (inst_at f.words.insts place)) found ≡ Some known
      → scalar_of f.plan f.words.insts (definition f.words.insts (f.plan.name id)) ≡ Some known
  by_definition id known None at is = cc
  by_definition id known (Some place) at is =
      let insts = f.words.insts in
      let constant = constant_op insts (inst_at insts place) known is in
      ap (λ (n : ℕ). scalar_of f.plan insts (definition insts n)) (constant_named id place at constant) ∙ ap (scalar_of f.plan insts) at
      ∙ scalar_by_origin place (f.plan.fate place) (origin f place) constant ∙ is

  pub constant_left : (id : ℕ) (known : Scalar) → constant_scalar f.words.insts id ≡ Some known → scalar_left f.plan f.words.insts id ≡ Some known
  unfolding constant_scalar scalar_left
  constant_left id known is = by_definition id known (definition f.words.insts id) refl is
