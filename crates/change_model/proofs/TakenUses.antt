-- What an instruction of a valid module uses: types, constants and variables, values of types that are no pointers, and what loads and
-- stores point to.
use Rattle.std.proofs.Common.{◌≡◌, ℕ, ◌<◌, ◌==◌, ◌||◌, ◌⊎◌, inl, inr, Bool, true, false, if◌then◌else◌, List, [], ◌∷◌, length, map, drop, slice_index, refl, ap, sym, ◌∙◌, subst, Option, None, Some, is_some}
use Rattle.std.specs.Option.{option_and_then}
use Rattle.std.proofs.lemmas.Bool.{eqb-true}
use Rattle.spirv_model.specs.declared.module.Inst.{Inst}
use Rattle.spirv_model.specs.declared.module.Words.{Words}
use Rattle.spirv_model.specs.declared.class.Class.{Class}
use Rattle.spirv_model.specs.declared.class.Class.TheVariants as class
use Rattle.spirv_model.specs.declared.class.ScalarClass.{ScalarClass}
use Rattle.spirv_model.specs.declared.op.TheConstants as op
use Rattle.spirv_model.specs.declared.table.Operand.{Operand}
use Rattle.spirv_model.specs.declared.table.Operand.TheVariants.{IdResultType, IdResult, IdRef, LiteralInteger}
use Rattle.spirv_model.specs.Operands.{word_at, words_from, entry_of, class_of, kinds}
use Rattle.body_model.specs.Switches.{is_among}
use Rattle.valid_model.specs.Definitions.{definition, inst_at}
use Rattle.valid_model.specs.Meanings.{is_constant, known_before, meaning}
use Rattle.check_model.specs.CompositeOperands.{composite_operands_fit}
use Rattle.check_model.specs.MemoryOperands.{memory_operands_fit}
use Rattle.check_model.specs.OperandTypes.{terminator_operands_fit, operands_fit_class}
use Rattle.check_model.specs.ScalarOperands.{scalar_operands_fit}
use Rattle.check_model.specs.Typing.{Typing, typing_of, type_of, constant_in, constant_word}
use Rattle.check_model.specs.Validity.{IsValidList}
use Rattle.check_model.specs.Visibility.{uses_operands, used_among, used_by, is_choice, used_ids}
use Rattle.unit_model.specs.ConstantScalars.{is_scalar_class}
use Rattle.typed_model.proofs.BlockParts.{another}
use Rattle.typed_model.proofs.EffectsRun.{instruction}
use Rattle.typed_model.proofs.ModuleSteps.{constant_known_by, number_of, number_at}
use Rattle.typed_model.proofs.ModuleValues.{meaning_at}
use Rattle.typed_model.proofs.PlainRuns.{at_op}
use Rattle.typed_model.proofs.ReadTypes.{Each}
use Rattle.typed_model.proofs.ResultIds.{is_named, named}
use Rattle.typed_model.proofs.ValidModules.{valid_sound}
use Rattle.change_model.specs.PlanRules.{is_shape}
use Rattle.change_model.proofs.PlanRunsRenamed.{all_used, scalar_ids, operands_used}
use Rattle.change_model.proofs.TakenOperands.{clash, is_taken_type, is_object, IsTaken, type_taken, scalar_taken, truth_taken, number_taken}
use Rattle.change_model.proofs.TakenParts.{AreNumbersConstant, parts_taken, extract_taken, insert_taken, shuffle_taken, reduction_taken, object_taken, chain_taken}
use Rattle.change_model.proofs.TypesNamed.{AreSound, sound_types, means, fit_class, first_shaped}

-- what a load reads from, a store writes to, or a chain leads into
pub data IsPointedTo (inst : Inst) (id : ℕ) : Type 0 where
  loaded : inst.op ≡ op.LOAD → word_at 2 inst ≡ id → IsPointedTo inst id
  stored : inst.op ≡ op.STORE → word_at 0 inst ≡ id → IsPointedTo inst id
  based : inst.op ≡ op.ACCESS_CHAIN → word_at 2 inst ≡ id → IsPointedTo inst id

-- one that an instruction may use
abbrev pub IsUsable : Typing → Inst → ℕ → Type 0
IsUsable typing inst id = IsTaken typing id ⊎ IsPointedTo inst id

all_usable : (typing : Typing) (inst : Inst) (ids : List ℕ) → Each (IsTaken typing) ids → Each (IsUsable typing inst) ids
all_usable typing inst [] taken = tt
all_usable typing inst (id ∷ ids) taken = (inl taken.0, all_usable typing inst ids taken.1)

-- what an instruction uses, by a rule that its operands fit
abbrev Uses : Typing → Bool → Inst → Type 0
Uses typing fits inst = is_some (kinds inst) ≡ true → (uses_operands (class_of inst.op) ≡ true → inst.op == op.STORE ≡ false → is_shape (typing.meaning (word_at 0 inst)) ≡ true) → fits ≡ true → Each (IsUsable typing inst) (used_ids inst)

-- literals aren't used
no_literals : (P : ℕ → Type 0) (words : List ℕ) → Each P (used_among (map (λ _. LiteralInteger) words) words)
no_literals P [] = tt
no_literals P (word ∷ words) = no_literals P words

by_test : {Q : Type 0} (b x y : Bool) → (if b then x else y) ≡ true → (b ≡ true → Q) → (y ≡ true → Q) → Q
by_test true x y fits here further = here refl
by_test false x y fits here further = further fits

module _ (typing : Typing) (s : AreSound typing) (numbers : AreNumbersConstant typing) where
  -- ---- memory

  load_uses : (words : List ℕ) → Uses typing (memory_operands_fit typing (instruction op.LOAD words)) (instruction op.LOAD words)
  unfolding kinds class_of entry_of memory_operands_fit used_ids
  load_uses (type ∷ id ∷ pointer ∷ []) has shaped fit = (inl (type_taken typing type (shaped refl refl)), (inr (loaded refl refl), tt))
  load_uses (type ∷ id ∷ pointer ∷ more ∷ words) has shaped fit = cc
  load_uses (type ∷ id ∷ []) has shaped fit = cc
  load_uses (type ∷ []) has shaped fit = cc
  load_uses [] has shaped fit = cc

  store_uses : (words : List ℕ) → Uses typing (memory_operands_fit typing (instruction op.STORE words)) (instruction op.STORE words)
  unfolding kinds class_of entry_of memory_operands_fit used_ids
  store_uses (pointer ∷ object ∷ []) has shaped fit = (inr (stored refl refl), (inl (object_taken typing s pointer object fit), tt))
  store_uses (pointer ∷ object ∷ more ∷ words) has shaped fit = cc
  store_uses (pointer ∷ []) has shaped fit = cc
  store_uses [] has shaped fit = cc

  chain_uses : (words : List ℕ) → Uses typing (memory_operands_fit typing (instruction op.ACCESS_CHAIN words)) (instruction op.ACCESS_CHAIN words)
  unfolding kinds class_of entry_of memory_operands_fit used_ids
  chain_uses (type ∷ id ∷ base ∷ index ∷ indices) has shaped fit =
      let inst = instruction op.ACCESS_CHAIN (type ∷ id ∷ base ∷ index ∷ indices) in
      let t = chain_taken typing s numbers type base (index ∷ indices) fit in (
        inl (type_taken typing type (shaped refl refl)),
        (inr (based refl refl), (inl t.0, subst (Each (IsUsable typing inst)) (sym (all_used indices)) (all_usable typing inst indices t.1))),
      )
  chain_uses (type ∷ id ∷ base ∷ []) has shaped fit = cc
  chain_uses (type ∷ id ∷ []) has shaped fit = cc
  chain_uses (type ∷ []) has shaped fit = cc
  chain_uses [] has shaped fit = cc

  memory_uses : (inst : Inst) → Uses typing (memory_operands_fit typing inst) inst
  unfolding memory_operands_fit
  memory_uses inst has shaped fit =
      let U : Inst → Type 0 = λ inst. Uses typing (memory_operands_fit typing inst) inst in
      by_test (inst.op == op.LOAD) _ _ fit (λ is. at_op U inst op.LOAD is (load_uses inst.words) has shaped fit)
      (λ rest. by_test (inst.op == op.STORE) _ _ rest (λ is. at_op U inst op.STORE is (store_uses inst.words) has shaped fit)
      (λ rest. by_test (inst.op == op.ACCESS_CHAIN) _ _ rest (λ is. at_op U inst op.ACCESS_CHAIN is (chain_uses inst.words) has shaped fit) (λ never. cc)))

  -- ---- composites

  construct_uses : (words : List ℕ) → Uses typing (composite_operands_fit typing (instruction op.COMPOSITE_CONSTRUCT words)) (instruction op.COMPOSITE_CONSTRUCT words)
  unfolding kinds class_of entry_of composite_operands_fit used_ids
  construct_uses (type ∷ id ∷ parts) has shaped fit =
      let inst = instruction op.COMPOSITE_CONSTRUCT (type ∷ id ∷ parts) in
      (inl (type_taken typing type (shaped refl refl)), subst (Each (IsUsable typing inst)) (sym (all_used parts)) (all_usable typing inst parts (parts_taken typing s type parts fit)))
  construct_uses (type ∷ []) has shaped fit = cc
  construct_uses [] has shaped fit = cc

  extract_uses : (words : List ℕ) → Uses typing (composite_operands_fit typing (instruction op.COMPOSITE_EXTRACT words)) (instruction op.COMPOSITE_EXTRACT words)
  unfolding kinds class_of entry_of composite_operands_fit used_ids
  extract_uses (type ∷ id ∷ composite ∷ index ∷ indices) has shaped fit =
      (inl (type_taken typing type (shaped refl refl)), (inl (extract_taken typing s type composite index indices fit), no_literals (IsUsable typing (instruction op.COMPOSITE_EXTRACT (type ∷ id ∷ composite ∷ index ∷ indices))) indices))
  extract_uses (type ∷ id ∷ composite ∷ []) has shaped fit = cc
  extract_uses (type ∷ id ∷ []) has shaped fit = cc
  extract_uses (type ∷ []) has shaped fit = cc
  extract_uses [] has shaped fit = cc

  insert_uses : (words : List ℕ) → Uses typing (composite_operands_fit typing (instruction op.COMPOSITE_INSERT words)) (instruction op.COMPOSITE_INSERT words)
  unfolding kinds class_of entry_of composite_operands_fit used_ids
  insert_uses (type ∷ id ∷ object ∷ composite ∷ index ∷ indices) has shaped fit =
      let t = insert_taken typing s type object composite index indices fit in
      (inl (type_taken typing type (shaped refl refl)), (inl t.0, (inl t.1, no_literals (IsUsable typing (instruction op.COMPOSITE_INSERT (type ∷ id ∷ object ∷ composite ∷ index ∷ indices))) indices)))
  insert_uses (type ∷ id ∷ object ∷ composite ∷ []) has shaped fit = cc
  insert_uses (type ∷ id ∷ object ∷ []) has shaped fit = cc
  insert_uses (type ∷ id ∷ []) has shaped fit = cc
  insert_uses (type ∷ []) has shaped fit = cc
  insert_uses [] has shaped fit = cc

  shuffle_uses : (words : List ℕ) → Uses typing (composite_operands_fit typing (instruction op.VECTOR_SHUFFLE words)) (instruction op.VECTOR_SHUFFLE words)
  unfolding kinds class_of entry_of composite_operands_fit used_ids
  shuffle_uses (type ∷ id ∷ a ∷ b ∷ literals) has shaped fit =
      let t = shuffle_taken typing s type a b literals fit in
      (inl (type_taken typing type (shaped refl refl)), (inl t.0, (inl t.1, no_literals (IsUsable typing (instruction op.VECTOR_SHUFFLE (type ∷ id ∷ a ∷ b ∷ literals))) literals)))
  shuffle_uses (type ∷ id ∷ a ∷ []) has shaped fit = cc
  shuffle_uses (type ∷ id ∷ []) has shaped fit = cc
  shuffle_uses (type ∷ []) has shaped fit = cc
  shuffle_uses [] has shaped fit = cc

  any_uses : (words : List ℕ) → Uses typing (composite_operands_fit typing (instruction op.ANY words)) (instruction op.ANY words)
  unfolding kinds class_of entry_of composite_operands_fit used_ids
  any_uses (type ∷ id ∷ vector ∷ []) has shaped fit = (inl (type_taken typing type (shaped refl refl)), (inl (reduction_taken typing s type vector fit), tt))
  any_uses (type ∷ id ∷ vector ∷ more ∷ words) has shaped fit = cc
  any_uses (type ∷ id ∷ []) has shaped fit = cc
  any_uses (type ∷ []) has shaped fit = cc
  any_uses [] has shaped fit = cc

  all_uses : (words : List ℕ) → Uses typing (composite_operands_fit typing (instruction op.ALL words)) (instruction op.ALL words)
  unfolding kinds class_of entry_of composite_operands_fit used_ids
  all_uses (type ∷ id ∷ vector ∷ []) has shaped fit = (inl (type_taken typing type (shaped refl refl)), (inl (reduction_taken typing s type vector fit), tt))
  all_uses (type ∷ id ∷ vector ∷ more ∷ words) has shaped fit = cc
  all_uses (type ∷ id ∷ []) has shaped fit = cc
  all_uses (type ∷ []) has shaped fit = cc
  all_uses [] has shaped fit = cc

  composite_uses : (inst : Inst) → Uses typing (composite_operands_fit typing inst) inst
  unfolding composite_operands_fit
  composite_uses inst has shaped fit =
      let U : Inst → Type 0 = λ inst. Uses typing (composite_operands_fit typing inst) inst in
      by_test (inst.op == op.COMPOSITE_CONSTRUCT) _ _ fit (λ is. at_op U inst op.COMPOSITE_CONSTRUCT is (construct_uses inst.words) has shaped fit)
      (λ rest. by_test (inst.op == op.COMPOSITE_EXTRACT) _ _ rest (λ is. at_op U inst op.COMPOSITE_EXTRACT is (extract_uses inst.words) has shaped fit)
      (λ rest. by_test (inst.op == op.COMPOSITE_INSERT) _ _ rest (λ is. at_op U inst op.COMPOSITE_INSERT is (insert_uses inst.words) has shaped fit)
      (λ rest. by_test (inst.op == op.VECTOR_SHUFFLE) _ _ rest (λ is. at_op U inst op.VECTOR_SHUFFLE is (shuffle_uses inst.words) has shaped fit)
      (λ rest. by_test (inst.op == op.ANY) _ _ rest (λ is. at_op U inst op.ANY is (any_uses inst.words) has shaped fit)
      (λ rest. by_test (inst.op == op.ALL) _ _ rest (λ is. at_op U inst op.ALL is (all_uses inst.words) has shaped fit) (λ never. cc))))))

  -- ---- scalar operations, OpUndef and OpVariable

  store_is_none : is_scalar_class (class_of op.STORE) ≡ false
  unfolding class_of entry_of
  store_is_none = refl

  scalar_uses : (inst : Inst) (operation : ScalarClass) → class_of inst.op ≡ Some (class.Scalar operation) → Uses typing (scalar_operands_fit typing operation (word_at 0 inst) (words_from 2 inst)) inst
  scalar_uses inst operation is has shaped fit =
      let i = scalar_ids inst operation is has in
      let used : used_ids inst ≡ i.type ∷ used_among (map (λ _. IdRef) i.more) i.more =
      operands_used inst (ap uses_operands is) ∙ ap (λ (o : Option (List Operand)). used_by o inst.words) i.kinds_are ∙ ap (used_by (Some (IdResultType ∷ IdResult ∷ map (λ _. IdRef) i.more))) i.words_are in
      let no_store : inst.op == op.STORE ≡ false = another (λ (o : ℕ). is_scalar_class (class_of o)) op.STORE store_is_none inst.op (ap is_scalar_class is) in
      let first : is_shape (typing.meaning i.type) ≡ true = ap (λ (l : List ℕ). is_shape (typing.meaning (slice_index l 0))) (sym i.words_are) ∙ shaped (ap uses_operands is) no_store in
      let taken = scalar_taken typing operation (word_at 0 inst) i.more (ap (λ (l : List ℕ). scalar_operands_fit typing operation (word_at 0 inst) (drop 2 l)) (sym i.words_are) ∙ fit) in
      subst (Each (IsUsable typing inst)) (sym used)
      (inl (type_taken typing i.type first), subst (Each (IsUsable typing inst)) (sym (all_used i.more)) (all_usable typing inst i.more taken))

  undef_uses : (words : List ℕ) → Uses typing true (instruction op.UNDEF words)
  unfolding kinds class_of entry_of used_ids
  undef_uses (type ∷ id ∷ []) has shaped fit = (inl (type_taken typing type (shaped refl refl)), tt)
  undef_uses (type ∷ id ∷ more ∷ words) has shaped fit = cc
  undef_uses (type ∷ []) has shaped fit = cc
  undef_uses [] has shaped fit = cc

  variable_uses : (words : List ℕ) → Uses typing true (instruction op.VARIABLE words)
  unfolding kinds class_of entry_of used_ids
  variable_uses (type ∷ id ∷ storage ∷ []) has shaped fit = (inl (type_taken typing type (shaped refl refl)), tt)
  variable_uses (type ∷ id ∷ storage ∷ more ∷ words) has shaped fit = cc
  variable_uses (type ∷ id ∷ []) has shaped fit = cc
  variable_uses (type ∷ []) has shaped fit = cc
  variable_uses [] has shaped fit = cc

  -- ---- branches

  conditional_uses : (words : List ℕ) → Uses typing (terminator_operands_fit typing (instruction op.BRANCH_CONDITIONAL words)) (instruction op.BRANCH_CONDITIONAL words)
  unfolding class_of entry_of used_ids
  conditional_uses words has shaped fit = (inl (truth_taken typing (slice_index words 0) fit), tt)

  switch_uses : (words : List ℕ) → Uses typing (terminator_operands_fit typing (instruction op.SWITCH words)) (instruction op.SWITCH words)
  unfolding class_of entry_of used_ids
  switch_uses words has shaped fit = (inl (number_taken typing (slice_index words 0) fit), tt)

  as_conditional : (words : List ℕ) → Uses typing (operands_fit_class typing (class_of op.BRANCH_CONDITIONAL) (instruction op.BRANCH_CONDITIONAL words)) (instruction op.BRANCH_CONDITIONAL words)
  unfolding class_of entry_of
  as_conditional words has shaped fit = conditional_uses words has shaped fit

  as_switch : (words : List ℕ) → Uses typing (operands_fit_class typing (class_of op.SWITCH) (instruction op.SWITCH words)) (instruction op.SWITCH words)
  unfolding class_of entry_of
  as_switch words has shaped fit = switch_uses words has shaped fit

  nothing_used : (inst : Inst) → uses_operands (class_of inst.op) ≡ false → is_choice inst.op ≡ false → used_ids inst ≡ []
  unfolding used_ids
  nothing_used inst none neither = rw none (rw neither refl)

  -- what uses no operands but a branch's condition or selector
  others_use : (inst : Inst) → uses_operands (class_of inst.op) ≡ false → operands_fit_class typing (class_of inst.op) inst ≡ true → is_some (kinds inst) ≡ true
      → (uses_operands (class_of inst.op) ≡ true → inst.op == op.STORE ≡ false → is_shape (typing.meaning (word_at 0 inst)) ≡ true) → Each (IsUsable typing inst) (used_ids inst)
  others_use inst none fit has shaped = by_tests (inst.op == op.BRANCH_CONDITIONAL) (inst.op == op.SWITCH) refl refl
    where
      by_tests : (a b : Bool) → inst.op == op.BRANCH_CONDITIONAL ≡ a → inst.op == op.SWITCH ≡ b → Each (IsUsable typing inst) (used_ids inst)
      by_tests true b is _ = at_op (λ inst. Uses typing (operands_fit_class typing (class_of inst.op) inst) inst) inst op.BRANCH_CONDITIONAL is (as_conditional inst.words) has shaped fit
      by_tests false true _ is = at_op (λ inst. Uses typing (operands_fit_class typing (class_of inst.op) inst) inst) inst op.SWITCH is (as_switch inst.words) has shaped fit
      by_tests false false isnt neither = subst (Each (IsUsable typing inst)) (sym (nothing_used inst none (ap (λ (b : Bool). b || (inst.op == op.SWITCH)) isnt ∙ neither))) tt

  pub class_uses : (inst : Inst) (of : Option Class) → class_of inst.op ≡ of → Uses typing (operands_fit_class typing of inst) inst
  class_uses inst (Some class.Undef) is has shaped fit = at_op (Uses typing true) inst op.UNDEF (sym (ap (λ (of : Option Class). is_named of inst.op) is) ∙ named inst.op) (undef_uses inst.words) has shaped refl
  class_uses inst (Some class.Variable) is has shaped fit = at_op (Uses typing true) inst op.VARIABLE (sym (ap (λ (of : Option Class). is_named of inst.op) is) ∙ named inst.op) (variable_uses inst.words) has shaped refl
  class_uses inst (Some class.Memory) is has shaped fit = memory_uses inst has shaped fit
  class_uses inst (Some class.Composite) is has shaped fit = composite_uses inst has shaped fit
  class_uses inst (Some (class.Scalar operation)) is has shaped fit = scalar_uses inst operation is has shaped fit
  class_uses inst of is has shaped fit = others_use inst (ap uses_operands is) (ap (λ (of : Option Class). operands_fit_class typing of inst) is ∙ fit) has shaped

-- ---- in a module

constant_class : is_constant op.CONSTANT ≡ true
unfolding class_of entry_of
constant_class = refl

number_by : (insts : List Inst) (id word : ℕ) (defined : Option ℕ) → definition insts id ≡ defined → constant_word insts id ≡ Some word → is_object (meaning insts id) ≡ false
unfolding constant_word
number_by insts id word None at known = let e = sym (ap (option_and_then (λ place. constant_in (inst_at insts place))) at) ∙ known in cc
number_by insts id word (Some place) at known =
    let n = number_of (inst_at insts place) word (number_at insts place id word at known) in
    ap is_object (meaning_at insts place id at ∙ constant_known_by (known_before insts place) (inst_at insts place) (ap is_constant (eqb-true (inst_at insts place).op op.CONSTANT n.0) ∙ constant_class))

numbers_constant : (insts : List Inst) → AreNumbersConstant (typing_of insts)
unfolding typing_of
numbers_constant insts id word known = number_by insts id word (definition insts id) refl known

pub all_uses_right : (words : Words) (v : IsValidList words) (place : ℕ) → place < length words.insts → Each (IsUsable (typing_of words.insts) (inst_at words.insts place)) (used_ids (inst_at words.insts place))
all_uses_right words v place within =
    let insts = words.insts in
    let inst = inst_at insts place in
    let s = valid_sound words v in
    class_uses (typing_of insts) (sound_types insts) (numbers_constant insts) inst (class_of inst.op) refl (s.shaped place within)
    (λ uses no_store. ap is_shape (means insts (word_at 0 inst)) ∙ first_shaped words v place within uses no_store) (fit_class (typing_of insts) inst (s.fit place within))

-- ---- a result of a type that no instruction takes

pub record IsMisfit (insts : List Inst) (id : ℕ) : Type 0 where
  pub value : is_object (meaning insts id) ≡ true
  pub apart : is_taken_type (type_of (typing_of insts) id) ≡ false

pub each_of : (P : ℕ → Type 0) (id : ℕ) (ids : List ℕ) → is_among id ids ≡ true → Each P ids → P id
each_of P id [] among each = cc
each_of P id (own ∷ ids) among each = by_test (own == id) refl among (λ rest. each_of P id ids rest each.1)
  where
    by_test : (b : Bool) → own == id ≡ b → (b || is_among id ids) ≡ true → (is_among id ids ≡ true → P id) → P id
    by_test true same _ further = subst P (eqb-true own id same) each.0
    by_test false other rest further = further rest

-- only a load, a store and a chain use it
pub misfit_used : (words : Words) (v : IsValidList words) (place id : ℕ) → place < length words.insts → IsMisfit words.insts id → is_among id (used_ids (inst_at words.insts place)) ≡ true → IsPointedTo (inst_at words.insts place) id
misfit_used words v place id within m among = elim (each_of (IsUsable (typing_of words.insts) (inst_at words.insts place)) id (used_ids (inst_at words.insts place)) among (all_uses_right words v place within)) [
  | inl taken ↦ clash (is_taken_type (type_of (typing_of words.insts) id)) (taken (ap is_object (means words.insts id) ∙ m.value)) m.apart
  | inr pointed ↦ pointed
]
