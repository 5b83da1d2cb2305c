-- In the list that a plan makes an id's other name is of the type of the id in the old list, and the same variable or number.
use Rattle.std.proofs.Common.{◌≡◌, ℕ, ◌==◌, ◌⊎◌, inl, inr, true, List, refl, ap, sym, ◌∙◌, Option, None, Some}
use Rattle.std.specs.Option.{option_and_then}
use Rattle.std.proofs.lemmas.Bool.{cases_lt}
use Rattle.spirv_model.specs.declared.module.Inst.{Inst}
use Rattle.spirv_model.specs.declared.execution_model.TheConstants.{VERTEX}
use Rattle.spirv_model.specs.declared.op.TheConstants as op
use Rattle.spirv_model.specs.Operands.{word_at, entry_of, class_of}
use Rattle.valid_model.specs.declared.meaning.Meaning.{Meaning}
use Rattle.valid_model.specs.declared.meaning.Meaning.TheVariants.{Absent, Shape as OfShape, Constant, Variable, Value as OfValue, Label, Other}
use Rattle.valid_model.specs.Definitions.{definition, inst_at}
use Rattle.valid_model.specs.Meanings.{is_constant, meaning}
use Rattle.valid_model.specs.ModuleFacts.{is_word, is_vertex, facts_of}
use Rattle.check_model.specs.Intervals.{Interval}
use Rattle.check_model.specs.Typing.{typing_of, type_id, constant_in, constant_word}
use Rattle.check_model.specs.Visibility.{is_defined_for}
use Rattle.typed_model.proofs.BlockParts.{clash}
use Rattle.typed_model.proofs.ModuleSteps.{number_at, number_of}
use Rattle.typed_model.proofs.ValidTypes.{defined_within}
use Rattle.change_model.specs.Folding.{function_at}
use Rattle.change_model.specs.Plans.{changed}
use Rattle.change_model.specs.PlanRules.{IsResolvedId}
use Rattle.change_model.specs.Programs.{plainly}
use Rattle.change_model.proofs.AlikeTypes.{AreAlike, IsAlike}
use Rattle.change_model.proofs.ChangedDefinitions.{level_defined}
use Rattle.change_model.proofs.ChangedMeanings.{level_inst, alone_old, still_means}
use Rattle.change_model.proofs.ChangedNames.{IsPhiThatGoes, phi_that_goes}
use Rattle.change_model.proofs.ChangedShapes.{shape_in, shapes_changed, facts_changed}
use Rattle.change_model.proofs.NamedTypes.{phi_means, typing_means, named_type}
use Rattle.change_model.proofs.Planned.{Planned}
use Rattle.change_model.proofs.Settlings.{op_is}

-- ---- what both modules know

pub typing_numbers : (insts : List Inst) → ((typing_of insts).constant ≡ constant_word insts) × ((typing_of insts).vertex ≡ is_vertex (facts_of insts))
unfolding typing_of
typing_numbers insts = (refl, refl)

pub are_alike : (g : Planned) → AreAlike (typing_of (changed g.plan g.words.insts)) (typing_of g.words.insts)
are_alike g =
    let list = changed g.plan g.words.insts in
    record {
      shape = λ id. ap (λ (m : ℕ → Meaning). shape_in (m id)) (typing_means list) ∙ shapes_changed g id ∙ sym (ap (λ (m : ℕ → Meaning). shape_in (m id)) (typing_means g.words.insts));
      vertex = (typing_numbers list).1 ∙ ap (is_word VERTEX) (facts_changed g).model ∙ sym (typing_numbers g.words.insts).1;
    }

-- ---- meanings

plain_type : (m : Meaning) → type_id (plainly m) ≡ type_id m
plain_type (Constant type) = refl
plain_type m = refl

still_type : (a b : Meaning) → plainly a ≡ plainly b → type_id a ≡ type_id b
still_type a b same = sym (plain_type a) ∙ ap type_id same ∙ plain_type b

plain_variable : (m : Meaning) (type class : ℕ) → plainly m ≡ Variable type class → m ≡ Variable type class
plain_variable (Constant of) type class is = cc
plain_variable Absent type class is = is
plain_variable (OfShape shape) type class is = is
plain_variable (Variable of own) type class is = is
plain_variable (OfValue of) type class is = is
plain_variable Label type class is = is
plain_variable Other type class is = is

no_variable : (of type class : ℕ) → OfValue of ≡ Variable type class → ⊥
no_variable of type class is = cc

-- ---- numbers

constant_op : is_constant op.CONSTANT ≡ true
unfolding class_of entry_of
constant_op = refl

-- a number stays at the module's level
number_stays : (g : Planned) (id word : ℕ) (found : Option ℕ) → definition g.words.insts id ≡ found → constant_word g.words.insts id ≡ Some word → constant_word (changed g.plan g.words.insts) id ≡ Some word
unfolding constant_word
number_stays g id word None at known = let e = sym (ap (option_and_then (λ (place : ℕ). constant_in (inst_at g.words.insts place))) at) ∙ known in cc
number_stays g id word (Some k) at known =
    let insts = g.words.insts in let list = changed g.plan insts in
    let is = number_at insts k id word at known in
    elim (cases_lt k (function_at insts)) [
      | inl low ↦ ap (option_and_then (λ (place : ℕ). constant_in (inst_at list place))) (level_defined g id k at low) ∙ ap constant_in (level_inst g k low) ∙ is
      | inr late ↦ absurd (clash (is_constant (inst_at insts k).op) (ap is_constant (op_is (inst_at insts k).op op.CONSTANT (number_of (inst_at insts k) word is).0) ∙ constant_op)
          (alone_old g k late (defined_within insts id k at)).1)
    ]

same_some : (found : Option ℕ) (a b : ℕ) → found ≡ Some a → found ≡ Some b → a ≡ b
same_some found a b is also = cc

-- a phi is no number
phi_number : (g : Planned) (id word : ℕ) → IsPhiThatGoes g id → constant_word g.words.insts id ≡ Some word → ⊥
phi_number g id word p known =
    let inst = inst_at g.words.insts p.place in
    clash (inst.op == op.CONSTANT) (number_of inst word (number_at g.words.insts p.place id word p.defined known)).0 (ap (λ (o : ℕ). o == op.CONSTANT) p.rule.is_phi)

-- ---- names

named_means : (g : Planned) (id q : ℕ) → definition (changed g.plan g.words.insts) (g.plan.name id) ≡ Some q
    → (type_id (meaning (changed g.plan g.words.insts) (g.plan.name id)) ≡ type_id (meaning g.words.insts id))
    × ((type class : ℕ) → meaning g.words.insts id ≡ Variable type class → meaning (changed g.plan g.words.insts) (g.plan.name id) ≡ Variable type class)
    × ((word : ℕ) → constant_word g.words.insts id ≡ Some word → constant_word (changed g.plan g.words.insts) (g.plan.name id) ≡ Some word)
named_means g id q there = by_name (g.is.names id)
  where
    insts : List Inst
    insts = g.words.insts

    list : List Inst
    list = changed g.plan g.words.insts

    to : ℕ
    to = g.plan.name id

    still : plainly (meaning (changed g.plan g.words.insts) (g.plan.name id)) ≡ plainly (meaning g.words.insts (g.plan.name id))
    still = still_means g (g.plan.name id) q there

    by_name : (g.plan.name id ≡ id) ⊎ IsResolvedId g.plan g.words.insts id
        → (type_id (meaning list to) ≡ type_id (meaning insts id)) × ((type class : ℕ) → meaning insts id ≡ Variable type class → meaning list to ≡ Variable type class)
        × ((word : ℕ) → constant_word insts id ≡ Some word → constant_word list to ≡ Some word)
    by_name (inl same) = (
      still_type (meaning list to) (meaning insts to) still ∙ ap (λ (n : ℕ). type_id (meaning insts n)) same,
      λ type class is. plain_variable (meaning list to) type class (still ∙ ap (λ (n : ℕ). plainly (meaning insts n)) same ∙ ap plainly is),
      λ word known. number_stays g to word (definition insts to) refl (ap (constant_word insts) same ∙ known),
    )
    by_name (inr r) =
        let p = phi_that_goes g id r in
        let n = named_type g id p.place (word_at 0 (inst_at insts p.place)) p.defined (ap type_id (phi_means g id p)) in (
          still_type (meaning list to) (meaning insts to) still ∙ n.type_is ∙ sym (ap type_id (phi_means g id p)),
          λ type class is. absurd (no_variable (word_at 0 (inst_at insts p.place)) type class (sym (phi_means g id p) ∙ is)),
          λ word known. absurd (phi_number g id word p known),
        )

-- an id's name that the new list defines
pub named_alike : (g : Planned) (id q : ℕ) → definition (changed g.plan g.words.insts) (g.plan.name id) ≡ Some q → IsAlike (typing_of (changed g.plan g.words.insts)) (typing_of g.words.insts) (g.plan.name id) id
named_alike g id q there =
    let insts = g.words.insts in let list = changed g.plan insts in
    let to = g.plan.name id in
    let m = named_means g id q there in
    record {
      type = ap (λ (m : ℕ → Meaning). type_id (m to)) (typing_means list) ∙ m.0 ∙ sym (ap (λ (m : ℕ → Meaning). type_id (m id)) (typing_means insts));
      variable = λ type class is. ap (λ (m : ℕ → Meaning). m to) (typing_means list) ∙ m.1 type class (sym (ap (λ (m : ℕ → Meaning). m id) (typing_means insts)) ∙ is);
      number = λ word known. ap (λ (c : ℕ → Option ℕ). c to) (typing_numbers list).0 ∙ m.2 word (sym (ap (λ (c : ℕ → Option ℕ). c id) (typing_numbers insts).0) ∙ known);
    }

-- so is one that is visible there
pub seen_alike : (g : Planned) (intervals : List Interval) (place id : ℕ) → is_defined_for intervals place (definition (changed g.plan g.words.insts) (g.plan.name id)) ≡ true
    → IsAlike (typing_of (changed g.plan g.words.insts)) (typing_of g.words.insts) (g.plan.name id) id
seen_alike g intervals place id seen = by_found (definition (changed g.plan g.words.insts) (g.plan.name id)) refl seen
  where
    by_found : (found : Option ℕ) → definition (changed g.plan g.words.insts) (g.plan.name id) ≡ found → is_defined_for intervals place found ≡ true
        → IsAlike (typing_of (changed g.plan g.words.insts)) (typing_of g.words.insts) (g.plan.name id) id
    by_found None at seen = cc
    by_found (Some q) at seen = named_alike g id q at
