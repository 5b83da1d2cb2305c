-- Phis and terminators whose operands are alike fit in the one module as they do in the other.
use Rattle.std.proofs.Common.{◌≡◌, ℕ, ◌==◌, ◌%◌, ◌&&◌, Bool, true, false, not, if◌then◌else◌, List, [], ◌∷◌, ◌++◌, length, take, drop, map, slice_index, refl, ap, sym, ◌∙◌, subst, Option, None, Some, is_some}
use Rattle.std.specs.List.{list_all}
use Rattle.std.specs.Option.{option_map}
use Rattle.basics.proofs.Bools.{first_of_both, second_of_both}
use Rattle.spirv_model.specs.declared.module.Inst.{Inst}
use Rattle.spirv_model.specs.declared.op.TheConstants as op
use Rattle.spirv_model.specs.declared.table.Operand.{Operand}
use Rattle.spirv_model.specs.declared.table.Operand.TheVariants.{IdRef}
use Rattle.spirv_model.specs.Operands.{word_at, words_from, entry_of, class_of, kinds, literal_and_id}
use Rattle.body_model.specs.Switches.{is_among}
use Rattle.valid_model.specs.Knowledge.{is_bool, is_integer}
use Rattle.check_model.specs.OperandTypes.{incoming_fits, terminator_operands_fit}
use Rattle.check_model.specs.Typing.{Typing, type_of}
use Rattle.check_model.specs.Visibility.{Incoming, incoming_in, incoming, used_ids}
use Rattle.typed_model.proofs.EffectsRun.{instruction}
use Rattle.typed_model.proofs.PlainRuns.{at_op}
use Rattle.typed_model.proofs.ReadTypes.{Each}
use Rattle.change_model.specs.Plans.{renamed_by, pairs_left, phi_left, switch_to}
use Rattle.change_model.proofs.AlikeTypes.{AreAlike, IsAlike, bool_by, integer_by, says_alike}
use Rattle.change_model.proofs.AlikeScalars.{incoming_alike}
use Rattle.change_model.proofs.PlanRunsRenamed.{renamed}

-- the values of pairs
abbrev pub values_in : List Incoming → List ℕ
values_in pairs = map (λ (pair : Incoming). pair.value) pairs

both : (a b : Bool) → a ≡ true → b ≡ true → (a && b) ≡ true
both true b is also = also
both false b is also = cc

-- behind the type and the id stand the pairs that are left
pub left_behind : (name : ℕ → ℕ) (blocks words : List ℕ) → drop 2 (take 2 words ++ pairs_left name blocks (drop 2 words)) ≡ pairs_left name blocks (drop 2 words)
left_behind name blocks [] = refl
left_behind name blocks (a ∷ []) = refl
left_behind name blocks (a ∷ b ∷ words) = refl

type_before : (name : ℕ → ℕ) (blocks words : List ℕ) → slice_index (take 2 words ++ pairs_left name blocks (drop 2 words)) 0 ≡ slice_index words 0
type_before name blocks [] = refl
type_before name blocks (a ∷ []) = refl
type_before name blocks (a ∷ b ∷ words) = refl

module _ (new old : Typing) (name : ℕ → ℕ) (a : AreAlike new old) (P : ℕ → Type 0) (alike : (id : ℕ) → P (name id) → IsAlike new old (name id) id) where
  -- ---- phis

  pairs_fit : (type : ℕ) (blocks words : List ℕ) → Each P (values_in (incoming_in (pairs_left name blocks words))) → list_all (incoming_fits old type) (incoming_in words) ≡ true
      → list_all (incoming_fits new type) (incoming_in (pairs_left name blocks words)) ≡ true
  pairs_fit type blocks [] each fits = refl
  pairs_fit type blocks (value ∷ []) each fits = refl
  pairs_fit type blocks (value ∷ block ∷ words) each fits =
      by_test (is_among block blocks) each (first_of_both (incoming_fits old type pair) (list_all (incoming_fits old type) (incoming_in words)) fits)
      (λ each. pairs_fit type blocks words each (second_of_both (incoming_fits old type pair) (list_all (incoming_fits old type) (incoming_in words)) fits))
    where
      pair : Incoming
      pair = record { value = value; block = block }

      by_test : (b : Bool) → Each P (values_in (incoming_in (if b then name value ∷ block ∷ pairs_left name blocks words else pairs_left name blocks words))) → incoming_fits old type pair ≡ true
          → (Each P (values_in (incoming_in (pairs_left name blocks words))) → list_all (incoming_fits new type) (incoming_in (pairs_left name blocks words)) ≡ true)
          → list_all (incoming_fits new type) (incoming_in (if b then name value ∷ block ∷ pairs_left name blocks words else pairs_left name blocks words)) ≡ true
      by_test true each fits further =
          both (incoming_fits new type (record { value = name value; block = block })) (list_all (incoming_fits new type) (incoming_in (pairs_left name blocks words)))
          (incoming_alike new old name a type value block block (alike value each.0) ∙ fits) (further each.1)
      by_test false each fits further = further each

  pub phi_fit : (blocks : List ℕ) (inst : Inst) → Each P (values_in (incoming (phi_left name blocks inst))) → list_all (incoming_fits old (word_at 0 inst)) (incoming inst) ≡ true
      → list_all (incoming_fits new (word_at 0 (phi_left name blocks inst))) (incoming (phi_left name blocks inst)) ≡ true
  phi_fit blocks inst each fits =
      let e = left_behind name blocks inst.words in
      ap (λ (l : List ℕ). list_all (incoming_fits new (word_at 0 (phi_left name blocks inst))) (incoming_in l)) e
      ∙ ap (λ (type : ℕ). list_all (incoming_fits new type) (incoming_in (pairs_left name blocks (words_from 2 inst)))) (type_before name blocks inst.words)
      ∙ pairs_fit (word_at 0 inst) blocks (words_from 2 inst) (subst (λ (l : List ℕ). Each P (values_in (incoming_in l))) e each) fits

  -- ---- terminators

  abbrev KeepsEnd : Inst → Type 0
  KeepsEnd inst = is_some (kinds inst) ≡ true → Each P (used_ids (renamed name inst)) → terminator_operands_fit old inst ≡ true → terminator_operands_fit new (renamed name inst) ≡ true

  conditional_words : (words : List ℕ) → KeepsEnd (instruction op.BRANCH_CONDITIONAL words)
  unfolding kinds class_of entry_of used_ids
  conditional_words (condition ∷ first ∷ second ∷ []) has used fits = says_alike is_bool bool_by new old a (name condition) condition (alike condition used.0) ∙ fits
  conditional_words (condition ∷ first ∷ second ∷ more ∷ words) has used fits = cc
  conditional_words (condition ∷ first ∷ []) has used fits = cc
  conditional_words (condition ∷ []) has used fits = cc
  conditional_words [] has used fits = cc

  -- behind the selector and the default stand pairs
  abbrev switch_kinds : List ℕ → Bool → Option (List Operand)
  switch_kinds cases even = option_map (λ (k : List Operand). IdRef ∷ k) (option_map (λ (k : List Operand). IdRef ∷ k) (if even then Some (literal_and_id cases) else None))

  selector_by : (selector default : ℕ) (cases : List ℕ) (even : Bool) → is_some (switch_kinds cases even) ≡ true → P (slice_index (renamed_by name (switch_kinds cases even) (selector ∷ default ∷ cases)) 0)
      → is_integer (type_of new (slice_index (renamed_by name (switch_kinds cases even) (selector ∷ default ∷ cases)) 0)) ≡ is_integer (type_of old selector)
  selector_by selector default cases true has used = says_alike is_integer integer_by new old a (name selector) selector (alike selector used)
  selector_by selector default cases false has used = cc

  switch_words : (words : List ℕ) → KeepsEnd (instruction op.SWITCH words)
  unfolding kinds class_of entry_of used_ids
  switch_words (selector ∷ default ∷ cases) has used fits = selector_by selector default cases (length cases % 2 == 0) has used.0 ∙ fits
  switch_words (selector ∷ []) has used fits = cc
  switch_words [] has used fits = cc

  pub end_fit : (inst : Inst) → KeepsEnd inst
  end_fit inst has used fits = by_tests (inst.op == op.BRANCH_CONDITIONAL) refl (inst.op == op.SWITCH) refl (inst.op == op.KILL) fits
    where
      by_tests : (b : Bool) → inst.op == op.BRANCH_CONDITIONAL ≡ b → (c : Bool) → inst.op == op.SWITCH ≡ c → (d : Bool)
          → (if b then is_bool (type_of old (word_at 0 inst)) else if c then is_integer (type_of old (word_at 0 inst)) else if d then not old.vertex else true) ≡ true
          → (if b then is_bool (type_of new (word_at 0 (renamed name inst))) else if c then is_integer (type_of new (word_at 0 (renamed name inst))) else if d then not new.vertex else true) ≡ true
      by_tests true is c _ d so =
          sym (ap (λ (b : Bool). if b then is_bool (type_of new (word_at 0 (renamed name inst))) else if inst.op == op.SWITCH then is_integer (type_of new (word_at 0 (renamed name inst))) else if inst.op == op.KILL then not new.vertex else true) is)
          ∙ at_op KeepsEnd inst op.BRANCH_CONDITIONAL is (conditional_words inst.words) has used fits
      by_tests false isnt true is d so =
          sym (ap (λ (b : Bool). if b then is_bool (type_of new (word_at 0 (renamed name inst))) else if inst.op == op.SWITCH then is_integer (type_of new (word_at 0 (renamed name inst))) else if inst.op == op.KILL then not new.vertex else true) isnt
          ∙ ap (λ (b : Bool). if b then is_integer (type_of new (word_at 0 (renamed name inst))) else if inst.op == op.KILL then not new.vertex else true) is)
          ∙ at_op KeepsEnd inst op.SWITCH is (switch_words inst.words) has used fits
      by_tests false _ false _ true so = ap not a.vertex ∙ so
      by_tests false _ false _ false so = refl

  -- an OpSwitch without literals
  pub switch_fit : (inst : Inst) (label : ℕ) → inst.op ≡ op.SWITCH → Each P (used_ids (switch_to (name (word_at 0 inst)) label)) → terminator_operands_fit old inst ≡ true
      → terminator_operands_fit new (switch_to (name (word_at 0 inst)) label) ≡ true
  unfolding class_of entry_of used_ids
  switch_fit inst label is used fits =
      says_alike is_integer integer_by new old a (name (word_at 0 inst)) (word_at 0 inst) (alike (word_at 0 inst) used.0)
      ∙ sym (ap (λ (o : ℕ). if o == op.BRANCH_CONDITIONAL then is_bool (type_of old (word_at 0 inst)) else if o == op.SWITCH then is_integer (type_of old (word_at 0 inst)) else if o == op.KILL then not old.vertex else true) is) ∙ fits
