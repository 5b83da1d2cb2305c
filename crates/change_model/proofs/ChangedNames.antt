-- Which ids have other names: phis that go, and no types.
use Rattle.std.proofs.Common.{◌≡◌, ℕ, ◌<◌, ◌≤◌, ◌==◌, ◌⊎◌, inl, inr, true, false, length, refl, ap, sym, ◌∙◌, arith, Option, None, Some}
use Rattle.spirv_model.specs.declared.op.TheConstants as op
use Rattle.spirv_model.specs.Operands.{word_at, entry_of, class_of}
use Rattle.valid_model.specs.declared.meaning.Shape.{Shape}
use Rattle.valid_model.specs.declared.meaning.Meaning.TheVariants.{Shape as OfShape}
use Rattle.valid_model.specs.Definitions.{inst_at, definition}
use Rattle.valid_model.specs.Meanings.{meaning}
use Rattle.check_model.specs.Intervals.{intervals_of}
use Rattle.stage_model.specs.Effect.{has_result_class}
use Rattle.typed_model.proofs.ResultIds.{typed_result_id}
use Rattle.change_model.specs.declared.fate.Fate.TheVariants.{Resolves}
use Rattle.change_model.specs.Folding.{function_at}
use Rattle.change_model.specs.PlanRules.{IsResolved, IsResolvedId}
use Rattle.change_model.proofs.ChangedDefinitions.{old_defined}
use Rattle.change_model.proofs.ChangedShapes.{shape_in, function_shapeless}
use Rattle.change_model.proofs.MovedUp.{function_is}
use Rattle.change_model.proofs.Planned.{Planned, inside, fits_there}

-- an id with another name is the result of a phi that goes
pub record IsPhiThatGoes (g : Planned) (id : ℕ) : Type 0 where
  pub place : ℕ
  pub resolves : g.plan.fate place ≡ Resolves
  pub low : function_at g.words.insts < place
  pub high : place < g.valid.derivation.after
  pub within : place < length g.words.insts
  pub defined : definition g.words.insts id ≡ Some place
  pub own : word_at 1 (inst_at g.words.insts place) ≡ id
  pub rule : IsResolved g.plan g.words.insts (intervals_of g.valid.derivation) place

phi_gives : (has_result_class (class_of op.PHI) ≡ true) × (op.PHI == op.STORE ≡ false)
unfolding class_of entry_of
phi_gives = (refl, refl)

pub phi_that_goes : (g : Planned) (id : ℕ) → IsResolvedId g.plan g.words.insts id → IsPhiThatGoes g id
phi_that_goes g id r =
    let i = inside g r.place Resolves r.resolves refl in
    let rule = fits_there g r.place Resolves r.resolves i in
    let low = i.low in let high = i.high in
    let last = g.valid.derivation.last in
    let first = function_is g.words.insts g.valid.derivation in
    let within : r.place < length g.words.insts = omega (arith, high, last) in
    let old = inst_at g.words.insts r.place in
    let gives = typed_result_id old (ap (λ (o : ℕ). has_result_class (class_of o)) rule.is_phi ∙ phi_gives.0) (ap (λ (o : ℕ). o == op.STORE) rule.is_phi ∙ phi_gives.1) in
    record {
      place = r.place;
      resolves = r.resolves;
      low = omega (arith, low, first);
      high = high;
      within = within;
      defined = old_defined g r.place id within (gives ∙ ap (λ (n : ℕ). Some n) r.own);
      own = r.own;
      rule = rule;
    }

none_is : (shape : Shape) → ◌≡◌ {A = Option Shape} None (Some shape) → ⊥
none_is shape is = cc

below : (a b : ℕ) → a < b → a ≤ b
below a b less = omega (arith, less)

-- a type keeps its name
pub name_of_type : (g : Planned) (id : ℕ) (shape : Shape) → meaning g.words.insts id ≡ OfShape shape → g.plan.name id ≡ id
name_of_type g id shape is = by_name (g.is.names id)
  where
    by_name : (g.plan.name id ≡ id) ⊎ IsResolvedId g.plan g.words.insts id → g.plan.name id ≡ id
    by_name (inl same) = same
    by_name (inr r) =
        let p = phi_that_goes g id r in
        absurd (none_is shape (sym (function_shapeless g id p.place p.defined (below (function_at g.words.insts) p.place p.low)) ∙ ap shape_in is))
