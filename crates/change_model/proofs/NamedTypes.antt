-- An id's other name is defined no later than the id, and is of the same type.
use Rattle.std.proofs.Common.{◌≡◌, ℕ, zero, suc, ◌<◌, ◌≤◌, ◌⊎◌, inl, inr, Bool, true, false, not, if◌then◌else◌, List, [], ◌∷◌, refl, ap, sym, ◌∙◌, arith, Option, Some}
use Rattle.std.specs.Prelude.{filter}
use Rattle.std.specs.List.{list_all}
use Rattle.basics.proofs.Bools.{first_of_both, second_of_both}
use Rattle.spirv_model.specs.declared.module.Inst.{Inst}
use Rattle.spirv_model.specs.declared.class.Class.{Class}
use Rattle.spirv_model.specs.declared.class.Class.TheVariants as class
use Rattle.spirv_model.specs.declared.op.TheConstants as op
use Rattle.spirv_model.specs.Operands.{word_at, entry_of, class_of}
use Rattle.body_model.specs.Switches.{is_among}
use Rattle.valid_model.specs.declared.meaning.IdFacts.{IdFacts}
use Rattle.valid_model.specs.declared.meaning.Meaning.{Meaning}
use Rattle.valid_model.specs.declared.meaning.Meaning.TheVariants.{Value as OfValue}
use Rattle.valid_model.specs.Definitions.{definition, inst_at}
use Rattle.valid_model.specs.Meanings.{known_before, meaning}
use Rattle.check_model.specs.OperandTypes.{is_pointer, incoming_fits, operands_fit_class, operands_fit}
use Rattle.check_model.specs.Typing.{Typing, typing_of, type_id, has_type}
use Rattle.check_model.specs.Visibility.{Incoming, incoming}
use Rattle.typed_model.proofs.ModuleValues.{meaning_at}
use Rattle.typed_model.proofs.TypeLayouts.{word_is}
use Rattle.typed_model.proofs.ValidModules.{valid_sound}
use Rattle.change_model.specs.Folding.{function_at}
use Rattle.change_model.specs.Plans.{predecessors_left, block_at}
use Rattle.change_model.specs.PlanRules.{IsResolvedId}
use Rattle.change_model.proofs.ChangedMeanings.{alone_old}
use Rattle.change_model.proofs.ChangedNames.{IsPhiThatGoes, phi_that_goes}
use Rattle.change_model.proofs.FunctionKnown.{function_known, phi_facts}
use Rattle.change_model.proofs.Planned.{Planned}

-- ---- what a phi means, and the types of its values

below : (a b : ℕ) → a < b → a ≤ b
below a b less = omega (arith, less)

-- a phi that goes is a value of its type
pub phi_means : (g : Planned) (id : ℕ) (p : IsPhiThatGoes g id) → meaning g.words.insts id ≡ OfValue (word_at 0 (inst_at g.words.insts p.place))
phi_means g id p =
    let insts = g.words.insts in
    let alone = alone_old g p.place (below (function_at g.words.insts) p.place p.low) p.within in
    meaning_at insts p.place id p.defined
    ∙ ap (λ (f : IdFacts). f.meaning) (function_known (known_before insts p.place) (inst_at insts p.place) alone.0 alone.1 ∙ phi_facts (inst_at insts p.place) p.rule.is_phi)

-- the rule of operands by the instruction's class
pub fit_as : (typing : Typing) (inst : Inst) (of : Option Class) → class_of inst.op ≡ of → operands_fit typing inst ≡ operands_fit_class typing of inst
unfolding operands_fit
fit_as typing inst of is = ap (λ (of : Option Class). operands_fit_class typing of inst) is

pub phi_class : class_of op.PHI ≡ Some class.Phi
unfolding class_of entry_of
phi_class = refl

first_passes : (test keep : Incoming → Bool) (pairs rest : List Incoming) (pair : Incoming) → filter keep pairs ≡ pair ∷ rest → list_all test pairs ≡ true → test pair ≡ true
first_passes test keep [] rest pair are all = cc
first_passes test keep (first ∷ pairs) rest pair are all =
    by_test (keep first) are (first_of_both (test first) (list_all test pairs) all) (λ more. first_passes test keep pairs rest pair more (second_of_both (test first) (list_all test pairs) all))
  where
    one : (a b : Incoming) (more less : List Incoming) → a ∷ more ≡ b ∷ less → a ≡ b
    one a b more less same = cc

    by_test : (b : Bool) → (if b then first ∷ filter keep pairs else filter keep pairs) ≡ pair ∷ rest → test first ≡ true → (filter keep pairs ≡ pair ∷ rest → test pair ≡ true) → test pair ≡ true
    by_test true are passes further = ap test (sym (one first pair (filter keep pairs) rest are)) ∙ passes
    by_test false are passes further = further are

pub typing_means : (insts : List Inst) → (typing_of insts).meaning ≡ meaning insts
unfolding typing_of
typing_means insts = refl

-- the value that stands for a phi has its type
value_type : (g : Planned) (id : ℕ) (p : IsPhiThatGoes g id) → type_id (meaning g.words.insts p.rule.pair.value) ≡ Some (word_at 0 (inst_at g.words.insts p.place))
value_type g id p =
    let insts = g.words.insts in
    let phi = inst_at insts p.place in
    let type = word_at 0 phi in
    let value = p.rule.pair.value in
    let typing = typing_of insts in
    let fit : list_all (incoming_fits typing type) (incoming phi) ≡ true =
    sym (fit_as typing phi (Some class.Phi) (ap class_of p.rule.is_phi ∙ phi_class)) ∙ (valid_sound g.words g.valid).fit p.place p.within in
    let one = first_passes (incoming_fits typing type) (λ (pair : Incoming). is_among pair.block (predecessors_left g.plan insts (block_at insts p.place))) (incoming phi) [] p.rule.pair p.rule.only fit in
    let has = first_of_both (has_type typing type value) (not (is_pointer (typing.meaning type))) one in
    ap (λ (m : ℕ → Meaning). type_id (m value)) (sym (typing_means insts)) ∙ word_is type (type_id (typing.meaning value)) has

-- ---- an id's other name

pub record NamedAt (g : Planned) (id at type : ℕ) : Type 0 where
  pub place : ℕ
  pub defined : definition g.words.insts (g.plan.name id) ≡ Some place
  pub least : place ≤ at
  pub type_is : type_id (meaning g.words.insts (g.plan.name id)) ≡ Some type

same_some : (found : Option ℕ) (a b : ℕ) → found ≡ Some a → found ≡ Some b → a ≡ b
same_some found a b is also = cc

one_type : (a b : ℕ) → ◌≡◌ {A = Option ℕ} (Some a) (Some b) → a ≡ b
one_type a b is = cc

named_within : (g : Planned) (n id at type : ℕ) → at < n → definition g.words.insts id ≡ Some at → type_id (meaning g.words.insts id) ≡ Some type → NamedAt g id at type
named_within g zero id at type less defined of = absurd (omega (arith, less))
named_within g (suc n) id at type less defined of = by_name (g.is.names id) (λ value origin before given of. named_within g n value origin type (omega (arith, before, less)) given of)
  where
    by_name : (g.plan.name id ≡ id) ⊎ IsResolvedId g.plan g.words.insts id
        → ((value origin : ℕ) → origin < at → definition g.words.insts value ≡ Some origin → type_id (meaning g.words.insts value) ≡ Some type → NamedAt g value origin type) → NamedAt g id at type
    by_name (inl same) further = record {
      place = at;
      defined = ap (definition g.words.insts) same ∙ defined;
      least = omega arith;
      type_is = ap (λ (n : ℕ). type_id (meaning g.words.insts n)) same ∙ of;
    }
    by_name (inr r) further =
        let p = phi_that_goes g id r in
        let here : p.place ≡ at = same_some (definition g.words.insts id) p.place at p.defined defined in
        let earlier = p.rule.earlier in
        let own : word_at 0 (inst_at g.words.insts p.place) ≡ type = one_type _ type (sym (ap type_id (phi_means g id p)) ∙ of) in
        let named : g.plan.name id ≡ g.plan.name p.rule.pair.value = ap g.plan.name (sym p.own) ∙ p.rule.stands in
        let v = further p.rule.pair.value p.rule.origin (omega (arith, earlier, here)) p.rule.given (value_type g id p ∙ ap (λ (n : ℕ). Some n) own) in
        let least = v.least in
        record {
          place = v.place;
          defined = ap (definition g.words.insts) named ∙ v.defined;
          least = omega (arith, least, earlier, here);
          type_is = ap (λ (n : ℕ). type_id (meaning g.words.insts n)) named ∙ v.type_is;
        }

-- an id with a type and its other name
pub named_type : (g : Planned) (id at type : ℕ) → definition g.words.insts id ≡ Some at → type_id (meaning g.words.insts id) ≡ Some type → NamedAt g id at type
named_type g id at type defined of = named_within g (suc at) id at type (omega arith) defined of
