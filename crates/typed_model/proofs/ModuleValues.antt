-- The module's level gives each constant, OpUndef and variable a value of its type.
use Rattle.std.proofs.Common.{◌≡◌, ℕ, zero, suc, ◌+◌, ◌<◌, ◌≤◌, ◌==◌, inl, inr, Bool, true, false, if◌then◌else◌, List, [], ◌∷◌, length, take, slice_index, refl, ap, sym, ◌∙◌, arith, Option, None, Some, is_some}
use Rattle.std.specs.Option.{option_map}
use Rattle.std.proofs.lemmas.Bool.{cases_lt, lt-ltb}
use Rattle.std.proofs.lemmas.Bool.Decides.{nat_tests}
use Rattle.std.proofs.lemmas.List.Sums.{fold_more}
use Rattle.spirv_model.specs.declared.module.Inst.{Inst}
use Rattle.spirv_model.specs.Operands.{result}
use Rattle.valid_model.specs.Definitions.{has_result, gives, definition, inst_at, no_instruction, is_earlier, twice_by, id_twice}
use Rattle.valid_model.specs.Knowledge.{meaning_in}
use Rattle.valid_model.specs.Meanings.{known_of, known_before, meaning}
use Rattle.valid_model.proofs.KnownIds.{known_by_definition}
use Rattle.stage_model.specs.Value.{Value}
use Rattle.stage_model.specs.Program.{Program}
use Rattle.state_model.specs.declared.parts.SpecValues.{SpecValues}
use Rattle.stage_model.specs.Start.{Values, no_values, with_value, constant_of, with_definition, defined_by}

-- ---- the definition of a result

own_of : (id : ℕ) (found : Option ℕ) → found ≡ Some id → has_result id found ≡ true
own_of id None is = cc
own_of id (Some own) is = let e : own ≡ id = same_number own id is in self own id e
  where
    same_number : (a b : ℕ) → ◌≡◌ {A = Option ℕ} (Some a) (Some b) → a ≡ b
    same_number a b is = cc

    self : (a b : ℕ) → a ≡ b → a == b ≡ true
    self a b is = grind (arith, nat_tests)

-- an id that an instruction gives is defined there or earlier
defined_by_then : (insts : List Inst) (place id : ℕ) → place < length insts → gives id (inst_at insts place) ≡ true → (at : ℕ) × (definition insts id ≡ Some at) × (at ≤ place)
unfolding definition
defined_by_then [] place id within is = absurd (omega arith)
defined_by_then (inst ∷ insts) zero id within is = (0, ap (λ (b : Bool). if b then Some 0 else option_map (λ (n : ℕ). suc n) (definition insts id)) is, omega arith)
defined_by_then (inst ∷ insts) (suc place) id within is =
    let rest = defined_by_then insts place id (omega arith) is in
    by_first inst insts id place (gives id inst) rest.0 rest.1 rest.2
  where
    by_first : (inst : Inst) (insts : List Inst) (id place : ℕ) (b : Bool) (at : ℕ) → definition insts id ≡ Some at → at ≤ place
        → (found : ℕ) × ((if b then Some 0 else option_map (λ (n : ℕ). suc n) (definition insts id)) ≡ Some found) × (found ≤ suc place)
    by_first inst insts id place true at is low = (0, refl, omega arith)
    by_first inst insts id place false at is low = (suc at, ap (option_map (λ (n : ℕ). suc n)) is, omega (arith, low))

-- and there, where no earlier instruction gives it
pub defined_at : (insts : List Inst) (place id : ℕ) → place < length insts → result (inst_at insts place) ≡ Some id → id_twice insts place ≡ None → definition insts id ≡ Some place
unfolding id_twice
defined_at insts place id within is once =
    let d = defined_by_then insts place id within (own_of id (result (inst_at insts place)) is) in
    elim (cases_lt d.0 place) [
      | inl early ↦ absurd (never (is_earlier (definition insts id) place) id (sym (ap (twice_by insts place) is) ∙ once) (ap (λ (at : Option ℕ). is_earlier at place) d.1 ∙ lt-ltb d.0 place early))
      | inr late ↦ d.1 ∙ ap (λ (n : ℕ). Some n) {x = d.0} {y = place} (let low = d.2 in omega (arith, low))
    ]
  where
    never : (b : Bool) (id : ℕ) → (if b then Some id else None) ≡ None → b ≡ true → ⊥
    never true id once is = cc
    never false id once is = cc

-- what it means is what its instruction makes of it
pub meaning_at : (insts : List Inst) (place id : ℕ) → definition insts id ≡ Some place → meaning insts id ≡ (known_of (known_before insts place) (inst_at insts place)).meaning
meaning_at insts place id is = ap meaning_in (known_by_definition insts id place is)

-- ---- the values after one more instruction

pub defined_next : (insts : List Inst) (program : Program) (entries : SpecValues) (place : ℕ) → place < length insts
    → defined_by program entries (take (place + 1) insts) ≡ with_definition program entries (defined_by program entries (take place insts)) (inst_at insts place)
unfolding defined_by
defined_next insts program entries place within = fold_more (with_definition program entries) no_values insts place no_instruction within

-- an instruction with a value
pub with_one : (program : Program) (entries : SpecValues) (values : Values) (inst : Inst) (value : Value) → constant_of program entries values inst.op inst.words ≡ Some value → with_definition program entries values inst ≡ with_value (slice_index inst.words 1) (Some value) values
with_one program entries values inst value is = ap (λ (o : Option Value). if is_some o then with_value (slice_index inst.words 1) o values else values) is

pub with_none : (program : Program) (entries : SpecValues) (values : Values) (inst : Inst) → constant_of program entries values inst.op inst.words ≡ None → with_definition program entries values inst ≡ values
with_none program entries values inst is = ap (λ (o : Option Value). if is_some o then with_value (slice_index inst.words 1) o values else values) is
