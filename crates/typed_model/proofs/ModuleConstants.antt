-- An instruction of the module's level that defines a value keeps the judgement.
use Rattle.std.proofs.Common.{◌≡◌, ℕ, zero, suc, ◌+◌, ◌<◌, ◌==◌, Bool, true, false, if◌then◌else◌, List, [], ◌∷◌, length, take, refl, ap, sym, ◌∙◌, subst, arith, Option, None, Some, is_some}
use Rattle.std.specs.Option.{option_map}
use Rattle.spirv_model.specs.declared.module.Inst.{Inst}
use Rattle.spirv_model.specs.declared.op.TheConstants as op
use Rattle.spirv_model.specs.Operands.{word_at, entry_of, class_of, kinds}
use Rattle.valid_model.specs.declared.meaning.IdFacts.{IdFacts}
use Rattle.valid_model.specs.declared.meaning.Meaning.TheVariants.{Absent, Constant}
use Rattle.valid_model.specs.Definitions.{gives, definition, inst_at, id_twice}
use Rattle.valid_model.specs.Knowledge.{meaning_in, is_data}
use Rattle.valid_model.specs.Constants.{constant_fits}
use Rattle.valid_model.specs.Meanings.{is_constant, known_before, meaning}
use Rattle.valid_model.proofs.KnownIds.{known_stays, unknown_without_definition}
use Rattle.check_model.specs.Typing.{type_id, constant_word}
use Rattle.stage_model.specs.Value.{Value, Pointer, zero_of}
use Rattle.stage_model.specs.Program.{Program, program_of}
use Rattle.stage_model.specs.Start.{Values, constant_of, with_definition}
use Rattle.state_model.specs.declared.parts.SpecValues.{SpecValues}
use Rattle.typed_model.specs.Types.{HasTypes, Suits, HasTypedResult}
use Rattle.typed_model.specs.Judgement.{AreTyped}
use Rattle.typed_model.proofs.TypeLayouts.{typed_result}
use Rattle.typed_model.proofs.MemoryValues.{value_has}
use Rattle.typed_model.proofs.PlainRuns.{at_op}
use Rattle.typed_model.proofs.EffectsRun.{instruction}
use Rattle.typed_model.proofs.ResultIds.{defines, defined_id}
use Rattle.typed_model.proofs.TypedSteps.{visible_by, typed_with}
use Rattle.typed_model.proofs.ValidTypes.{stays_known}
use Rattle.typed_model.proofs.Constants.{Before}
use Rattle.typed_model.proofs.ConstantValues.{constant_value}
use Rattle.typed_model.proofs.ModuleValues.{with_one}
use Rattle.typed_model.proofs.ModuleSteps.{constant_suits, undef_suits, variable_suits}

-- ---- what is known is defined before

front_definition : (insts : List Inst) (place id at : ℕ) → definition (take place insts) id ≡ Some at → (definition insts id ≡ Some at) × (at < place)
unfolding definition
front_definition [] zero id at is = cc
front_definition [] (suc place) id at is = cc
front_definition (inst ∷ insts) zero id at is = cc
front_definition (inst ∷ insts) (suc place) id at is = by_first inst insts place id at (gives id inst) (definition (take place insts) id) is (λ at e. front_definition insts place id at (refl ∙ e))
  where
    same_some : (a b : ℕ) → ◌≡◌ {A = Option ℕ} (Some a) (Some b) → a ≡ b
    same_some a b is = cc

    by_first : (inst : Inst) (insts : List Inst) (place id at : ℕ) (b : Bool) (later : Option ℕ) → (if b then Some 0 else option_map (λ (n : ℕ). suc n) later) ≡ Some at → ((at : ℕ) → later ≡ Some at → (definition insts id ≡ Some at) × (at < place))
        → ((if b then Some 0 else option_map (λ (n : ℕ). suc n) (definition insts id)) ≡ Some at) × (at < suc place)
    by_first inst insts place id at true later is go = (is, (let e = same_some 0 at is in omega (arith, e)))
    by_first inst insts place id at false None is go = cc
    by_first inst insts place id at false (Some before) is go =
        let e = same_some (suc before) at is in let r = go before refl in
        (ap (option_map (λ (n : ℕ). suc n)) r.0 ∙ ap (λ (n : ℕ). Some n) {x = suc before} {y = at} e, (let l = r.1 in omega (arith, e, l)))

constant_defined : (insts : List Inst) (place id type : ℕ) (at : Option ℕ) → definition (take place insts) id ≡ at → meaning_in (known_before insts place id) ≡ Constant type → (found : ℕ) × (definition insts id ≡ Some found) × (found < place)
constant_defined insts place id type None at is = let e : meaning_in (known_before insts place id) ≡ Absent = ap meaning_in (unknown_without_definition (take place insts) id at) in cc
constant_defined insts place id type (Some found) at is = let f = front_definition insts place id found at in (found, f.0, f.1)

constant_stays : (insts : List Inst) (place id type : ℕ) (known : Option IdFacts) → known_before insts place id ≡ known → meaning_in known ≡ Constant type → meaning insts id ≡ Constant type
constant_stays insts place id type None known is = cc
constant_stays insts place id type (Some facts) known is = ap meaning_in (known_stays insts place id facts known) ∙ is

-- what is typed at a place serves the constants there
pub before_of : (insts : List Inst) (place : ℕ) (values : Values) → AreTyped insts [] place values → Before (program_of insts) (known_before insts place) values
unfolding program_of
before_of insts place values typed = record {
  shapes = λ id shape is. stays_known insts place id shape (known_before insts place id) refl is;
  constants = λ id type is.
      let d = constant_defined insts place id type (definition (take place insts) id) refl is in
      let of = ap type_id (constant_stays insts place id type (known_before insts place id) refl is) in
      let h = typed id d.0 type d.1 (visible_by [] d.0 place d.2 refl) of in
      record { value = h.value; is = h.is; has = h.suits.of_type type of };
}

-- ---- one instruction

with_value_typed : (insts : List Inst) (entries : SpecValues) (place : ℕ) (values : Values) (value : Value) → id_twice insts place ≡ None → defines (class_of (inst_at insts place).op) ≡ true
    → constant_of (program_of insts) entries values (inst_at insts place).op (inst_at insts place).words ≡ Some value → Suits (program_of insts) (constant_word insts) (word_at 1 (inst_at insts place)) value
    → AreTyped insts [] place values → AreTyped insts [] (place + 1) (with_definition (program_of insts) entries values (inst_at insts place))
with_value_typed insts entries place values value once defined made suits typed =
    subst (AreTyped insts [] (place + 1)) (sym (with_one (program_of insts) entries values (inst_at insts place) value made))
    (typed_with insts [] place (word_at 1 (inst_at insts place)) values value (defined_id (inst_at insts place) defined) once suits typed)

-- a constant that fits
pub constant_typed : (insts : List Inst) (entries : SpecValues) (place : ℕ) (values : Values) → HasTypes (program_of insts) → place < length insts → id_twice insts place ≡ None → is_constant (inst_at insts place).op ≡ true → defines (class_of (inst_at insts place).op) ≡ true
    → is_some (kinds (inst_at insts place)) ≡ true → constant_fits (known_before insts place) (inst_at insts place) ≡ true
    → AreTyped insts [] place values → AreTyped insts [] (place + 1) (with_definition (program_of insts) entries values (inst_at insts place))
constant_typed insts entries place values types within once is defined has fit typed =
    let r = constant_value (program_of insts) entries (known_before insts place) values types (before_of insts place values typed) (inst_at insts place) is has fit in
    with_value_typed insts entries place values r.value once defined r.is (constant_suits insts entries values place r.value within once is has r.is r.has) typed

-- OpUndef of data
abbrev HasUndef : Program → SpecValues → Values → Inst → Type 0
HasUndef program entries values inst = is_some (kinds inst) ≡ true → is_data (program.meaning (word_at 0 inst)) ≡ true → HasTypedResult program (word_at 0 inst) (constant_of program entries values inst.op inst.words)

undef_value : (program : Program) (entries : SpecValues) (values : Values) → HasTypes program → (words : List ℕ) → HasUndef program entries values (instruction op.UNDEF words)
unfolding kinds class_of entry_of constant_of
undef_value program entries values types (type ∷ id ∷ words) has fit =
    let l = types.there type fit in typed_result program types type l.0 _ l.1 (record { value = zero_of l.0; is = ap (option_map zero_of) l.1; has = value_has l.0 [] })
undef_value program entries values types (type ∷ []) has fit = cc
undef_value program entries values types [] has fit = cc

pub undef_typed : (insts : List Inst) (entries : SpecValues) (place : ℕ) (values : Values) → HasTypes (program_of insts) → place < length insts → id_twice insts place ≡ None → (inst_at insts place).op == op.UNDEF ≡ true → defines (class_of (inst_at insts place).op) ≡ true
    → is_some (kinds (inst_at insts place)) ≡ true → is_data ((program_of insts).meaning (word_at 0 (inst_at insts place))) ≡ true
    → AreTyped insts [] place values → AreTyped insts [] (place + 1) (with_definition (program_of insts) entries values (inst_at insts place))
undef_typed insts entries place values types within once is defined has fit typed =
    let r = at_op (HasUndef (program_of insts) entries values) (inst_at insts place) op.UNDEF is (undef_value (program_of insts) entries values types (inst_at insts place).words) has fit in
    with_value_typed insts entries place values r.value once defined r.is (undef_suits insts place r.value within once is defined r.has) typed

-- OpVariable
abbrev HasPointer : Program → SpecValues → Values → Inst → Type 0
HasPointer program entries values inst = is_some (kinds inst) ≡ true → constant_of program entries values inst.op inst.words ≡ Some (Pointer (word_at 1 inst) [])

pointer_value : (program : Program) (entries : SpecValues) (values : Values) (words : List ℕ) → HasPointer program entries values (instruction op.VARIABLE words)
unfolding kinds class_of entry_of constant_of
pointer_value program entries values (type ∷ id ∷ words) has = refl
pointer_value program entries values (type ∷ []) has = cc
pointer_value program entries values [] has = cc

pub variable_typed_here : (insts : List Inst) (entries : SpecValues) (place : ℕ) (values : Values) → HasTypes (program_of insts) → place < length insts → id_twice insts place ≡ None → (inst_at insts place).op == op.VARIABLE ≡ true
    → defines (class_of (inst_at insts place).op) ≡ true → is_some (kinds (inst_at insts place)) ≡ true
    → AreTyped insts [] place values → AreTyped insts [] (place + 1) (with_definition (program_of insts) entries values (inst_at insts place))
variable_typed_here insts entries place values types within once is defined has typed =
    with_value_typed insts entries place values _ once defined (at_op (HasPointer (program_of insts) entries values) (inst_at insts place) op.VARIABLE is (pointer_value (program_of insts) entries values (inst_at insts place).words) has)
    (variable_suits insts place types within once is defined) typed
