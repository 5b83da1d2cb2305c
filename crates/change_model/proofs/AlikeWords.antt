-- A plain instruction with other names for its operands, which are alike in both modules, fits in the one as in the other.
use Rattle.std.proofs.Common.{◌≡◌, ℕ, ◌==◌, Bool, true, false, if◌then◌else◌, List, [], ◌∷◌, length, drop, map, slice_index, refl, ap, sym, ◌∙◌, subst, arith, Option, Some, is_some}
use Rattle.spirv_model.specs.declared.module.Inst.{Inst}
use Rattle.spirv_model.specs.declared.op.TheConstants as op
use Rattle.spirv_model.specs.declared.class.Class.{Class}
use Rattle.spirv_model.specs.declared.class.Class.TheVariants as class
use Rattle.spirv_model.specs.declared.class.ScalarClass.{ScalarClass}
use Rattle.spirv_model.specs.declared.table.Operand.{Operand}
use Rattle.spirv_model.specs.declared.table.Operand.TheVariants.{IdResultType, IdResult, IdRef}
use Rattle.spirv_model.specs.Operands.{word_at, words_from, entry_of, class_of, kinds}
use Rattle.body_model.specs.Classes.{is_plain_class}
use Rattle.valid_model.specs.Knowledge.{is_data}
use Rattle.check_model.specs.CompositeOperands.{composite_operands_fit}
use Rattle.check_model.specs.MemoryOperands.{memory_operands_fit}
use Rattle.check_model.specs.OperandTypes.{operands_fit_class}
use Rattle.check_model.specs.ScalarOperands.{scalar_operands_fit}
use Rattle.check_model.specs.Typing.{Typing}
use Rattle.check_model.specs.Visibility.{uses_operands, used_among, used_by, used_ids}
use Rattle.typed_model.proofs.EffectsRun.{instruction}
use Rattle.typed_model.proofs.PlainRuns.{at_op}
use Rattle.typed_model.proofs.ReadTypes.{Each}
use Rattle.typed_model.proofs.ResultIds.{is_named, named}
use Rattle.change_model.specs.Plans.{renamed_words, renamed_by}
use Rattle.change_model.proofs.AlikeTypes.{AreAlike, IsAlike, data_by, type_says}
use Rattle.change_model.proofs.AlikeMemory.{load_alike, store_alike, chain_alike}
use Rattle.change_model.proofs.AlikeComposites.{construct_alike, extract_alike, insert_alike, shuffle_alike, reduction_alike}
use Rattle.change_model.proofs.AlikeScalars.{scalar_alike}
use Rattle.change_model.proofs.BehindLevel.{is_setting_class}
use Rattle.change_model.proofs.PlanRunsRenamed.{renamed, literals_stay, ids_renamed, all_used, scalar_ids, operands_used, kinds_same, named_long}

-- ids that are used and have the property are alike
module _ (new old : Typing) (name : ℕ → ℕ) (a : AreAlike new old) (P : ℕ → Type 0) (alike : (id : ℕ) → P (name id) → IsAlike new old (name id) id) where
  -- with other names its operands fit as before
  abbrev KeepsFit : (Typing → Inst → Bool) → Inst → Type 0
  KeepsFit fits inst = is_some (kinds inst) ≡ true → Each P (used_ids (renamed name inst)) → fits old inst ≡ true → fits new (renamed name inst) ≡ true

  each_alike : (ids : List ℕ) → Each P (map name ids) → Each (λ id. IsAlike new old (name id) id) ids
  each_alike [] each = tt
  each_alike (id ∷ ids) each = (alike id each.0, each_alike ids each.1)

  each_used : (ids : List ℕ) → Each P (used_among (map (λ _. IdRef) ids) (map name ids)) → Each (λ id. IsAlike new old (name id) id) ids
  each_used [] each = tt
  each_used (id ∷ ids) each = (alike id each.0, each_used ids each.1)

  -- ---- memory

  load_words : (words : List ℕ) → KeepsFit memory_operands_fit (instruction op.LOAD words)
  unfolding kinds class_of entry_of memory_operands_fit used_ids
  load_words (type ∷ id ∷ pointer ∷ []) has used fits = load_alike new old name a type pointer (alike pointer used.1.0) ∙ fits
  load_words (type ∷ id ∷ pointer ∷ more ∷ words) has used fits = cc
  load_words (type ∷ id ∷ []) has used fits = cc
  load_words (type ∷ []) has used fits = cc
  load_words [] has used fits = cc

  store_words : (words : List ℕ) → KeepsFit memory_operands_fit (instruction op.STORE words)
  unfolding kinds class_of entry_of memory_operands_fit used_ids
  store_words (pointer ∷ object ∷ []) has used fits = store_alike new old name a pointer object (alike pointer used.0) (alike object used.1.0) ∙ fits
  store_words (pointer ∷ object ∷ more ∷ words) has used fits = cc
  store_words (pointer ∷ []) has used fits = cc
  store_words [] has used fits = cc

  -- ids that stand last
  last_used : (opcode : ℕ) (front : List ℕ → List ℕ) (used : List ℕ → List ℕ) → ((ids : List ℕ) → used_ids (instruction opcode (front ids)) ≡ used ids) → (ids : List ℕ)
      → Each P (used_ids (instruction opcode (front (renamed_words name (map (λ _. IdRef) ids) ids)))) → Each P (used (map name ids))
  last_used opcode front used are ids each = subst (Each P) (ap (λ (l : List ℕ). used_ids (instruction opcode (front l))) (ids_renamed name ids) ∙ are (map name ids)) each

  chain_words : (words : List ℕ) → KeepsFit memory_operands_fit (instruction op.ACCESS_CHAIN words)
  unfolding kinds class_of entry_of memory_operands_fit used_ids
  chain_words (type ∷ id ∷ base ∷ index ∷ indices) has used fits =
      let u = last_used op.ACCESS_CHAIN (λ l. type ∷ id ∷ name base ∷ name index ∷ l) (λ l. type ∷ name base ∷ name index ∷ l) (λ l. ap (λ (l : List ℕ). type ∷ name base ∷ name index ∷ l) (all_used l)) indices used in
      ap (λ (l : List ℕ). memory_operands_fit new (instruction op.ACCESS_CHAIN (type ∷ id ∷ name base ∷ name index ∷ l))) (ids_renamed name indices)
      ∙ chain_alike new old name a type base (index ∷ indices) (alike base u.1.0) (alike index u.1.1.0, each_alike indices u.1.1.1) fits
  chain_words (type ∷ id ∷ base ∷ []) has used fits = cc
  chain_words (type ∷ id ∷ []) has used fits = cc
  chain_words (type ∷ []) has used fits = cc
  chain_words [] has used fits = cc

  -- the rule of one opcode after another
  by_test : {Q : Type 0} (b x y : Bool) → (if b then x else y) ≡ true → (b ≡ true → Q) → (y ≡ true → Q) → Q
  by_test true x y fits here further = here refl
  by_test false x y fits here further = further fits

  memory_fit : (inst : Inst) → KeepsFit memory_operands_fit inst
  unfolding memory_operands_fit
  memory_fit inst has used fits =
      let K : Inst → Type 0 = KeepsFit memory_operands_fit in
      by_test (inst.op == op.LOAD) _ _ fits (λ is. at_op K inst op.LOAD is (load_words inst.words) has used fits)
      (λ rest. by_test (inst.op == op.STORE) _ _ rest (λ is. at_op K inst op.STORE is (store_words inst.words) has used fits)
      (λ rest. by_test (inst.op == op.ACCESS_CHAIN) _ _ rest (λ is. at_op K inst op.ACCESS_CHAIN is (chain_words inst.words) has used fits) (λ never. cc)))

  -- ---- composites

  construct_words : (words : List ℕ) → KeepsFit composite_operands_fit (instruction op.COMPOSITE_CONSTRUCT words)
  unfolding kinds class_of entry_of composite_operands_fit used_ids
  construct_words (type ∷ id ∷ parts) has used fits =
      let u = last_used op.COMPOSITE_CONSTRUCT (λ l. type ∷ id ∷ l) (λ l. type ∷ l) (λ l. ap (λ (l : List ℕ). type ∷ l) (all_used l)) parts used in
      ap (λ (l : List ℕ). composite_operands_fit new (instruction op.COMPOSITE_CONSTRUCT (type ∷ id ∷ l))) (ids_renamed name parts)
      ∙ construct_alike new old name a type parts (each_alike parts u.1) ∙ fits
  construct_words (type ∷ []) has used fits = cc
  construct_words [] has used fits = cc

  extract_words : (words : List ℕ) → KeepsFit composite_operands_fit (instruction op.COMPOSITE_EXTRACT words)
  unfolding kinds class_of entry_of composite_operands_fit used_ids
  extract_words (type ∷ id ∷ composite ∷ index ∷ indices) has used fits =
      ap (λ (l : List ℕ). composite_operands_fit new (instruction op.COMPOSITE_EXTRACT (type ∷ id ∷ name composite ∷ index ∷ l))) (literals_stay name indices)
      ∙ extract_alike new old name a type composite (index ∷ indices) (alike composite used.1.0) ∙ fits
  extract_words (type ∷ id ∷ composite ∷ []) has used fits = cc
  extract_words (type ∷ id ∷ []) has used fits = cc
  extract_words (type ∷ []) has used fits = cc
  extract_words [] has used fits = cc

  insert_words : (words : List ℕ) → KeepsFit composite_operands_fit (instruction op.COMPOSITE_INSERT words)
  unfolding kinds class_of entry_of composite_operands_fit used_ids
  insert_words (type ∷ id ∷ object ∷ composite ∷ index ∷ indices) has used fits =
      ap (λ (l : List ℕ). composite_operands_fit new (instruction op.COMPOSITE_INSERT (type ∷ id ∷ name object ∷ name composite ∷ index ∷ l))) (literals_stay name indices)
      ∙ insert_alike new old name a type object composite (index ∷ indices) (alike object used.1.0) (alike composite used.1.1.0) ∙ fits
  insert_words (type ∷ id ∷ object ∷ composite ∷ []) has used fits = cc
  insert_words (type ∷ id ∷ object ∷ []) has used fits = cc
  insert_words (type ∷ id ∷ []) has used fits = cc
  insert_words (type ∷ []) has used fits = cc
  insert_words [] has used fits = cc

  shuffle_words : (words : List ℕ) → KeepsFit composite_operands_fit (instruction op.VECTOR_SHUFFLE words)
  unfolding kinds class_of entry_of composite_operands_fit used_ids
  shuffle_words (type ∷ id ∷ first ∷ second ∷ literals) has used fits =
      ap (λ (l : List ℕ). composite_operands_fit new (instruction op.VECTOR_SHUFFLE (type ∷ id ∷ name first ∷ name second ∷ l))) (literals_stay name literals)
      ∙ shuffle_alike new old name a type first second literals (alike first used.1.0) (alike second used.1.1.0) ∙ fits
  shuffle_words (type ∷ id ∷ first ∷ []) has used fits = cc
  shuffle_words (type ∷ id ∷ []) has used fits = cc
  shuffle_words (type ∷ []) has used fits = cc
  shuffle_words [] has used fits = cc

  any_words : (words : List ℕ) → KeepsFit composite_operands_fit (instruction op.ANY words)
  unfolding kinds class_of entry_of composite_operands_fit used_ids
  any_words (type ∷ id ∷ vector ∷ []) has used fits = reduction_alike new old name a type vector (alike vector used.1.0) ∙ fits
  any_words (type ∷ id ∷ vector ∷ more ∷ words) has used fits = cc
  any_words (type ∷ id ∷ []) has used fits = cc
  any_words (type ∷ []) has used fits = cc
  any_words [] has used fits = cc

  every_words : (words : List ℕ) → KeepsFit composite_operands_fit (instruction op.ALL words)
  unfolding kinds class_of entry_of composite_operands_fit used_ids
  every_words (type ∷ id ∷ vector ∷ []) has used fits = reduction_alike new old name a type vector (alike vector used.1.0) ∙ fits
  every_words (type ∷ id ∷ vector ∷ more ∷ words) has used fits = cc
  every_words (type ∷ id ∷ []) has used fits = cc
  every_words (type ∷ []) has used fits = cc
  every_words [] has used fits = cc

  composite_fit : (inst : Inst) → KeepsFit composite_operands_fit inst
  unfolding composite_operands_fit
  composite_fit inst has used fits =
      let K : Inst → Type 0 = KeepsFit composite_operands_fit in
      by_test (inst.op == op.COMPOSITE_CONSTRUCT) _ _ fits (λ is. at_op K inst op.COMPOSITE_CONSTRUCT is (construct_words inst.words) has used fits)
      (λ rest. by_test (inst.op == op.COMPOSITE_EXTRACT) _ _ rest (λ is. at_op K inst op.COMPOSITE_EXTRACT is (extract_words inst.words) has used fits)
      (λ rest. by_test (inst.op == op.COMPOSITE_INSERT) _ _ rest (λ is. at_op K inst op.COMPOSITE_INSERT is (insert_words inst.words) has used fits)
      (λ rest. by_test (inst.op == op.VECTOR_SHUFFLE) _ _ rest (λ is. at_op K inst op.VECTOR_SHUFFLE is (shuffle_words inst.words) has used fits)
      (λ rest. by_test (inst.op == op.ANY) _ _ rest (λ is. at_op K inst op.ANY is (any_words inst.words) has used fits)
      (λ rest. by_test (inst.op == op.ALL) _ _ rest (λ is. at_op K inst op.ALL is (every_words inst.words) has used fits) (λ never. cc))))))

  -- ---- scalar operations and OpUndef

  -- the rule of a scalar operation
  abbrev scalar_rule : ScalarClass → Typing → Inst → Bool
  scalar_rule operation typing inst = scalar_operands_fit typing operation (word_at 0 inst) (words_from 2 inst)

  scalar_fit : (inst : Inst) (operation : ScalarClass) → class_of inst.op ≡ Some (class.Scalar operation) → KeepsFit (scalar_rule operation) inst
  scalar_fit inst operation is has used fits =
      let i = scalar_ids inst operation is has in
      let words : List ℕ = i.type ∷ i.id ∷ map name i.more in
      let inst' : Inst = record inst { words = words } in
      let words_to : renamed_by name (kinds inst) inst.words ≡ words =
      ap (λ (o : Option (List Operand)). renamed_by name o inst.words) i.kinds_are ∙ ap (renamed_by name (Some (IdResultType ∷ IdResult ∷ map (λ _. IdRef) i.more))) i.words_are
      ∙ ap (λ (l : List ℕ). i.type ∷ i.id ∷ l) (ids_renamed name i.more) in
      let long : length words ≡ length inst.words = (let e = named_long name i.more in let f = ap length i.words_are in omega (arith, e, f)) in
      let used_are : used_ids inst' ≡ i.type ∷ used_among (map (λ _. IdRef) i.more) (map name i.more) =
      operands_used inst' (ap uses_operands is) ∙ ap (λ (o : Option (List Operand)). used_by o words) (kinds_same inst words (ap is_setting_class is) long ∙ i.kinds_are) in
      let u : Each P (i.type ∷ used_among (map (λ _. IdRef) i.more) (map name i.more)) = subst (Each P) (ap (λ (l : List ℕ). used_ids (record inst { words = l })) words_to ∙ used_are) used in
      ap (λ (l : List ℕ). scalar_operands_fit new operation (slice_index l 0) (drop 2 l)) words_to
      ∙ scalar_alike new old name a operation i.type i.more (each_used i.more u.1)
      ∙ ap (λ (l : List ℕ). scalar_operands_fit old operation (slice_index l 0) (drop 2 l)) (sym i.words_are) ∙ fits

  -- the rule of OpUndef
  abbrev undef_rule : Typing → Inst → Bool
  undef_rule typing inst = is_data (typing.meaning (word_at 0 inst))

  undef_words : (words : List ℕ) → KeepsFit undef_rule (instruction op.UNDEF words)
  unfolding kinds class_of entry_of used_ids
  undef_words (type ∷ id ∷ []) has used fits = type_says is_data data_by new old a type ∙ fits
  undef_words (type ∷ id ∷ more ∷ words) has used fits = cc
  undef_words (type ∷ []) has used fits = cc
  undef_words [] has used fits = cc

  -- ---- all of them

  pub plain_fit : (inst : Inst) (of : Option Class) → class_of inst.op ≡ of → is_plain_class of ≡ true → KeepsFit (λ typing inst. operands_fit_class typing of inst) inst
  plain_fit inst (Some class.Undef) is plain has used fits =
      at_op (KeepsFit undef_rule) inst op.UNDEF (sym (ap (λ (of : Option Class). is_named of inst.op) is) ∙ named inst.op) (undef_words inst.words) has used fits
  plain_fit inst (Some class.Memory) is plain has used fits = memory_fit inst has used fits
  plain_fit inst (Some class.Composite) is plain has used fits = composite_fit inst has used fits
  plain_fit inst (Some (class.Scalar operation)) is plain has used fits = scalar_fit inst operation is has used fits
  plain_fit inst of is plain has used fits = cc
