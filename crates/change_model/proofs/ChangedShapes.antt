-- Which ids are types, and of which shape, is the same in the list that a plan makes, as are the facts that the rules of decorations ask.
use Rattle.std.proofs.Common.{◌≡◌, ℕ, ◌≤◌, ◌==◌, ◌||◌, inl, inr, Bool, true, false, if◌then◌else◌, List, refl, ap, sym, ◌∙◌, Option, None, Some}
use Rattle.std.specs.Option.{option_map}
use Rattle.std.proofs.lemmas.Bool.{cases_lt}
use Rattle.spirv_model.specs.declared.module.Inst.{Inst}
use Rattle.spirv_model.specs.declared.op.TheConstants as op
use Rattle.spirv_model.specs.Operands.{word_at}
use Rattle.valid_model.specs.declared.meaning.IdFacts.{IdFacts}
use Rattle.valid_model.specs.declared.meaning.Shape.{Shape}
use Rattle.valid_model.specs.declared.meaning.Meaning.{Meaning}
use Rattle.valid_model.specs.declared.meaning.Meaning.TheVariants.{Shape as OfShape, Variable, Value as OfValue, Label, Other}
use Rattle.valid_model.specs.DecorationWords.{decoration_of, offset_of}
use Rattle.valid_model.specs.Definitions.{inst_at, definition}
use Rattle.valid_model.specs.Knowledge.{is_storage_class, meaning_in, means}
use Rattle.valid_model.specs.Meanings.{known_before, meaning}
use Rattle.valid_model.specs.ModuleFacts.{ModuleFacts, facts_of, model_of, is_entry}
use Rattle.valid_model.proofs.KnownIds.{unknown_without_definition}
use Rattle.typed_model.proofs.ModuleValues.{meaning_at}
use Rattle.typed_model.proofs.ValidTypes.{defined_within}
use Rattle.change_model.specs.Folding.{function_at}
use Rattle.change_model.specs.Plans.{changed}
use Rattle.change_model.specs.PlanRules.{is_constant_fate}
use Rattle.change_model.proofs.BehindLevel.{setting_found, no_setting, are_settings}
use Rattle.change_model.proofs.ChangedDefinitions.{is_left, constant_comes, written_comes, gone_defined, never_defined}
use Rattle.change_model.proofs.ChangedMeanings.{level_known, alone_old, written_known, folded_meaning, constant_meaning, gone_means}
use Rattle.change_model.proofs.ChangedPrograms.{decorations_changed, offsets_changed}
use Rattle.change_model.proofs.FunctionKnown.{function_facts, function_known}
use Rattle.change_model.proofs.Planned.{Planned}

-- ---- types

-- the shape of a type
abbrev pub shape_in : Meaning → Option Shape
shape_in (OfShape shape) = Some shape
shape_in meaning = None

no_shape : (inst : Inst) → shape_in (function_facts inst).meaning ≡ None
no_shape inst = by_tests (inst.op == op.VARIABLE) (is_storage_class (word_at 2 inst)) (inst.op == op.LABEL) ((inst.op == op.FUNCTION) || (inst.op == op.EXT_INST_IMPORT))
  where
    by_tests : (a b c d : Bool) → shape_in (if a then means (if b then Variable (word_at 0 inst) (word_at 2 inst) else Other) else means (if c then Label else if d then Other else OfValue (word_at 0 inst))).meaning ≡ None
    by_tests true true c d = refl
    by_tests true false c d = refl
    by_tests false b true d = refl
    by_tests false b false true = refl
    by_tests false b false false = refl

-- the function defines no type
pub function_shapeless : (g : Planned) (id k : ℕ) → definition g.words.insts id ≡ Some k → function_at g.words.insts ≤ k → shape_in (meaning g.words.insts id) ≡ None
function_shapeless g id k at low =
    let alone = alone_old g k low (defined_within g.words.insts id k at) in
    ap shape_in (meaning_at g.words.insts k id at ∙ ap (λ (f : IdFacts). f.meaning) (function_known (known_before g.words.insts k) (inst_at g.words.insts k) alone.0 alone.1))
    ∙ no_shape (inst_at g.words.insts k)

-- of each id
pub shapes_changed : (g : Planned) (id : ℕ) → shape_in (meaning (changed g.plan g.words.insts) id) ≡ shape_in (meaning g.words.insts id)
shapes_changed g id = by_old (definition insts id) refl
  where
    insts : List Inst
    insts = g.words.insts

    list : List Inst
    list = changed g.plan g.words.insts

    by_kind : (k : ℕ) → definition insts id ≡ Some k → function_at insts ≤ k → (a b : Bool) → is_left (g.plan.fate k) ≡ a → is_constant_fate (g.plan.fate k) ≡ b → shape_in (meaning list id) ≡ shape_in (meaning insts id)
    by_kind k at low false b gone kind = ap shape_in (gone_means g id (gone_defined g id k at gone)) ∙ sym (function_shapeless g id k at low)
    by_kind k at low true true left kind =
        let c = constant_comes g.plan insts k kind in
        ap shape_in (constant_meaning g id k c.0 at c.1 low) ∙ sym (ap shape_in (folded_meaning g id k c.0 at c.1 low))
    by_kind k at low true false left kind =
        let w = written_comes g.plan insts k left kind in
        ap (λ (o : Option IdFacts). shape_in (meaning_in o)) (written_known g id k w.0 at w.1 low)

    by_old : (found : Option ℕ) → definition insts id ≡ found → shape_in (meaning list id) ≡ shape_in (meaning insts id)
    by_old None at = ap shape_in (gone_means g id (never_defined g id at)) ∙ sym (ap (λ (o : Option IdFacts). shape_in (meaning_in o)) (unknown_without_definition insts id at))
    by_old (Some k) at = elim (cases_lt k (function_at insts)) [
      | inl low ↦ ap (λ (o : Option IdFacts). shape_in (meaning_in o)) (level_known g id k at low)
      | inr late ↦ by_kind k at late (is_left (g.plan.fate k)) (is_constant_fate (g.plan.fate k)) refl refl
    ]

-- ---- facts

pub model_changed : (g : Planned) → model_of (changed g.plan g.words.insts) ≡ model_of g.words.insts
unfolding model_of
model_changed g = ap (option_map (word_at 0)) (setting_found g is_entry (λ inst isnt. no_setting op.ENTRY_POINT inst.op are_settings.entry isnt))

-- both modules say the same of decorations, of the execution model and of types
pub record SaySame (new old : ModuleFacts) : Type 0 where
  pub decoration : new.decoration ≡ old.decoration
  pub offset : new.offset ≡ old.offset
  pub model : new.model ≡ old.model
  pub shape : (id : ℕ) → shape_in (new.meaning id) ≡ shape_in (old.meaning id)

facts_have : (insts : List Inst) → ((facts_of insts).decoration ≡ decoration_of insts) × ((facts_of insts).offset ≡ offset_of insts) × ((facts_of insts).model ≡ model_of insts) × ((facts_of insts).meaning ≡ meaning insts)
unfolding facts_of
facts_have insts = (refl, refl, refl, refl)

pub facts_changed : (g : Planned) → SaySame (facts_of (changed g.plan g.words.insts)) (facts_of g.words.insts)
facts_changed g =
    let a = facts_have (changed g.plan g.words.insts) in let b = facts_have g.words.insts in
    record {
      decoration = a.0 ∙ decorations_changed g ∙ sym b.0;
      offset = a.1 ∙ offsets_changed g ∙ sym b.1;
      model = a.2 ∙ model_changed g ∙ sym b.2;
      shape = λ id. ap (λ (m : ℕ → Meaning). shape_in (m id)) a.3 ∙ shapes_changed g id ∙ sym (ap (λ (m : ℕ → Meaning). shape_in (m id)) b.3);
    }
