-- What an instruction with other names uses, and the values of a phi that is left; which opcodes stand in the function alone.
use Rattle.std.proofs.Common.{◌≡◌, ℕ, ◌<◌, ◌⊎◌, inl, inr, Bool, true, false, ◌==◌, ◌||◌, if◌then◌else◌, List, [], ◌∷◌, refl, ap, sym, ◌∙◌, arith, Option, None, Some, is_some}
use Rattle.std.specs.List.{list_any}
use Rattle.std.proofs.lemmas.Bool.{cases_lt, eqb-true, eq-eqb}
use Rattle.std.proofs.lemmas.List.{get_or_past}
use Rattle.spirv_model.specs.declared.module.Inst.{Inst}
use Rattle.spirv_model.specs.declared.module.Words.{Words}
use Rattle.spirv_model.specs.declared.class.Class.{Class}
use Rattle.spirv_model.specs.declared.class.Class.TheVariants as class
use Rattle.spirv_model.specs.declared.op.TheConstants as op
use Rattle.spirv_model.specs.declared.table.Operand.{Operand}
use Rattle.spirv_model.specs.declared.table.Operand.TheVariants.{IdResultType, IdResult, IdRef, LiteralInteger, Fixed, LiteralString}
use Rattle.spirv_model.specs.Operands.{word_at, entry_of, class_of, kinds}
use Rattle.body_model.specs.Classes.{is_module_level}
use Rattle.body_model.specs.Switches.{is_among}
use Rattle.valid_model.specs.Definitions.{inst_at, no_instruction}
use Rattle.check_model.specs.Validity.{IsValidList}
use Rattle.check_model.specs.Visibility.{Incoming, incoming_in, uses_operands, used_among, used_by, is_choice, used_ids}
use Rattle.typed_model.proofs.ValidFunctions.{front_of}
use Rattle.change_model.specs.Plans.{renamed_words, renamed_by, pairs_left}
use Rattle.change_model.proofs.BehindLevel.{is_setting_class, end_op}
use Rattle.change_model.proofs.PhiPairsLeft.{In}
use Rattle.change_model.proofs.PlanRunsRenamed.{renamed}
use Rattle.change_model.proofs.TakenOperands.{clash}
use Rattle.change_model.proofs.UsedLeft.{kinds_same, choice_word}

-- ---- uses under other names

-- an id that is used, by itself or under its other name
pub record IsUsedAs (name : ℕ → ℕ) (used : List ℕ) (id : ℕ) : Type 0 where
  pub from : ℕ
  pub among : is_among from used ≡ true
  pub named : (from ≡ id) ⊎ (name from ≡ id)

pub either : {Q : Type 0} (a b : Bool) → (a || b) ≡ true → (a ≡ true → Q) → (b ≡ true → Q) → Q
either true b is here there = here refl
either false b is here there = there is

or_left : (a b : Bool) → a ≡ true → (a || b) ≡ true
or_left true b is = refl
or_left false b is = cc

or_right : (a b : Bool) → b ≡ true → (a || b) ≡ true
or_right true b is = refl
or_right false b is = is

self : (a : ℕ) → a == a ≡ true
self a = eq-eqb a a refl

here : (name : ℕ → ℕ) (word id : ℕ) (used : List ℕ) → (word ≡ id) ⊎ (name word ≡ id) → IsUsedAs name (word ∷ used) id
here name word id used is = record { from = word; among = or_left (word == word) (is_among word used) (self word); named = is }

behind : (name : ℕ → ℕ) (word id : ℕ) (used : List ℕ) → IsUsedAs name used id → IsUsedAs name (word ∷ used) id
behind name word id used u = record { from = u.from; among = or_right (word == u.from) (is_among u.from used) u.among; named = u.named }

used_as : (name : ℕ → ℕ) (id : ℕ) (found : List Operand) (words : List ℕ) → is_among id (used_among found (renamed_words name found words)) ≡ true → IsUsedAs name (used_among found words) id
used_as name id [] words is = cc
used_as name id (kind ∷ found) [] is = cc
used_as name id (IdRef ∷ found) (word ∷ words) is =
    either (name word == id) (is_among id (used_among found (renamed_words name found words))) is (λ same. here name word id (used_among found words) (inr (eqb-true (name word) id same)))
    (λ rest. behind name word id (used_among found words) (used_as name id found words rest))
used_as name id (IdResultType ∷ found) (word ∷ words) is =
    either (word == id) (is_among id (used_among found (renamed_words name found words))) is (λ same. here name word id (used_among found words) (inl (eqb-true word id same)))
    (λ rest. behind name word id (used_among found words) (used_as name id found words rest))
used_as name id (IdResult ∷ found) (word ∷ words) is = used_as name id found words is
used_as name id (LiteralInteger ∷ found) (word ∷ words) is = used_as name id found words is
used_as name id (Fixed expected ∷ found) (word ∷ words) is = used_as name id found words is
used_as name id (LiteralString ∷ found) (word ∷ words) is = used_as name id found words is

used_as_by : (name : ℕ → ℕ) (id : ℕ) (found : Option (List Operand)) (words : List ℕ) → is_among id (used_by found (renamed_by name found words)) ≡ true → IsUsedAs name (used_by found words) id
used_as_by name id None words is = cc
used_as_by name id (Some found) words is = used_as name id found words is

no_setting : (of : Option Class) → uses_operands of ≡ true → is_setting_class of ≡ false
no_setting None uses = cc
no_setting (Some class.Setting) uses = cc
no_setting (Some other) uses = refl

-- what an instruction with other names uses
pub renamed_as : (name : ℕ → ℕ) (id : ℕ) (inst : Inst) → is_some (kinds inst) ≡ true → is_among id (used_ids (renamed name inst)) ≡ true → IsUsedAs name (used_ids inst) id
unfolding used_ids
renamed_as name id inst has is =
    by_tests (uses_operands (class_of inst.op)) (is_choice inst.op)
    (λ uses among. used_as_by name id (kinds inst) inst.words (ap (λ (k : Option (List Operand)). is_among id (used_by k (renamed name inst).words)) (sym (kinds_same name inst (no_setting (class_of inst.op) uses))) ∙ among))
    (λ choice among. either (word_at 0 (renamed name inst) == id) false among (λ same. here name (word_at 0 inst) id [] (inr (sym (choice_word name inst choice has) ∙ eqb-true (word_at 0 (renamed name inst)) id same))) (λ never. cc)) is
  where
    by_tests : (a b : Bool) → (a ≡ true → is_among id (used_by (kinds (renamed name inst)) (renamed name inst).words) ≡ true → IsUsedAs name (used_by (kinds inst) inst.words) id)
        → (b ≡ true → is_among id (word_at 0 (renamed name inst) ∷ []) ≡ true → IsUsedAs name (word_at 0 inst ∷ []) id)
        → is_among id (if a then used_by (kinds (renamed name inst)) (renamed name inst).words else if b then word_at 0 (renamed name inst) ∷ [] else []) ≡ true
        → IsUsedAs name (if a then used_by (kinds inst) inst.words else if b then word_at 0 inst ∷ [] else []) id
    by_tests true b operands choice is = operands refl is
    by_tests false true operands choice is = choice refl is
    by_tests false false operands choice is = cc

-- ---- values of phis

-- a pair whose value has the name
pub record IsPairOf (name : ℕ → ℕ) (pairs : List Incoming) (id : ℕ) : Type 0 where
  pub pair : Incoming
  pub has : In pair pairs
  pub named : name pair.value ≡ id

abbrev pub comes_from : ℕ → List Incoming → Bool
comes_from id pairs = list_any (λ (pair : Incoming). pair.value == id) pairs

pub pair_of : (name : ℕ → ℕ) (id : ℕ) (blocks words : List ℕ) → comes_from id (incoming_in (pairs_left name blocks words)) ≡ true → IsPairOf name (incoming_in words) id
pair_of name id blocks [] is = cc
pair_of name id blocks (value ∷ []) is = cc
pair_of name id blocks (value ∷ block ∷ words) is = by_test (is_among block blocks) is (λ rest. pair_of name id blocks words rest)
  where
    own : Incoming
    own = record { value = value; block = block }

    further : IsPairOf name (incoming_in words) id → IsPairOf name (own ∷ incoming_in words) id
    further p = record { pair = p.pair; has = inr p.has; named = p.named }

    by_test : (b : Bool) → comes_from id (incoming_in (if b then name value ∷ block ∷ pairs_left name blocks words else pairs_left name blocks words)) ≡ true
        → (comes_from id (incoming_in (pairs_left name blocks words)) ≡ true → IsPairOf name (incoming_in words) id) → IsPairOf name (own ∷ incoming_in words) id
    by_test true is more =
        either (name value == id) (comes_from id (incoming_in (pairs_left name blocks words))) is (λ same. record { pair = own; has = inl refl; named = eqb-true (name value) id same }) (λ rest. further (more rest))
    by_test false is more = further (more is)

-- ---- places of a function's instructions

-- an opcode that stands in functions alone
pub record StandsInside (opcode : ℕ) : Type 0 where
  pub no_level : is_module_level opcode ≡ false
  pub no_function : opcode == op.FUNCTION ≡ false
  pub no_end : op.FUNCTION_END == opcode ≡ false
  pub no_nothing : op.NOP == opcode ≡ false

pub phi_inside : StandsInside op.PHI
unfolding class_of entry_of
phi_inside = record { no_level = refl; no_function = refl; no_end = refl; no_nothing = refl }

pub load_inside : StandsInside op.LOAD
unfolding class_of entry_of
load_inside = record { no_level = refl; no_function = refl; no_end = refl; no_nothing = refl }

pub store_inside : StandsInside op.STORE
unfolding class_of entry_of
store_inside = record { no_level = refl; no_function = refl; no_end = refl; no_nothing = refl }

pub chain_inside : StandsInside op.ACCESS_CHAIN
unfolding class_of entry_of
chain_inside = record { no_level = refl; no_function = refl; no_end = refl; no_nothing = refl }

pub label_inside : StandsInside op.LABEL
unfolding class_of entry_of
label_inside = record { no_level = refl; no_function = refl; no_end = refl; no_nothing = refl }

pub switch_inside : StandsInside op.SWITCH
unfolding class_of entry_of
switch_inside = record { no_level = refl; no_function = refl; no_end = refl; no_nothing = refl }

pub stands_inside : (words : Words) (v : IsValidList words) (place opcode : ℕ) → StandsInside opcode → (inst_at words.insts place).op ≡ opcode → (v.derivation.before < place) × (place < v.derivation.after)
stands_inside words v place opcode s is = (
  elim (cases_lt v.derivation.before place) [
    | inl low ↦ low
    | inr front ↦ absurd (neither (is_module_level (inst_at words.insts place).op) ((inst_at words.insts place).op == op.FUNCTION) (ap is_module_level is ∙ s.no_level) (ap (λ (o : ℕ). o == op.FUNCTION) is ∙ s.no_function)
        ((front_of words v.derivation).level place (omega (arith, front))))
  ],
  elim (cases_lt place v.derivation.after) [
    | inl high ↦ high
    | inr past ↦ elim (cases_lt v.derivation.after place) [
      | inl behind ↦ let last = v.derivation.last in
          clash (op.NOP == opcode) (ap (λ (o : ℕ). o == opcode) (sym (ap (λ (i : Inst). i.op) (get_or_past words.insts place no_instruction (omega (arith, last, behind)))) ∙ is) ∙ self opcode) s.no_nothing
      | inr there ↦ clash (op.FUNCTION_END == opcode)
          (ap (λ (o : ℕ). o == opcode) (sym (ap (λ (n : ℕ). (inst_at words.insts n).op) {x = place} {y = v.derivation.after} (omega (arith, there, past)) ∙ end_op words.insts v.derivation) ∙ is) ∙ self opcode) s.no_end
    ]
  ],
)
  where
    neither : (a b : Bool) → a ≡ false → b ≡ false → (a || b) ≡ true → ⊥
    neither true b no_a no_b is = cc
    neither false b no_a no_b is = clash b is no_b
