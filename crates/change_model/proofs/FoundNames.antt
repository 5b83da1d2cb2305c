-- What stands for a phi that goes in the plan that one pass finds: a value that is visible before it, of a type that is no pointer.
use Rattle.std.proofs.Common.{◌≡◌, ℕ, zero, suc, ◌-◌, ◌<◌, ◌⊎◌, inl, inr, Bool, true, false, not, ◌==◌, ◌&&◌, nat_lt, if◌then◌else◌, List, [], ◌∷◌, map, refl, ap, sym, ◌∙◌, subst, arith, Option, None, Some}
use Rattle.std.specs.List.{list_all}
use Rattle.std.specs.Option.{unwrap_or}
use Rattle.std.proofs.lemmas.Bool.{cases_lt, eq-eqb, ltb-true}
use Rattle.basics.proofs.Bools.{first_of_both, second_of_both}
use Rattle.spirv_model.specs.declared.module.Inst.{Inst}
use Rattle.spirv_model.specs.declared.class.Class.TheVariants as class
use Rattle.spirv_model.specs.declared.op.TheConstants as op
use Rattle.spirv_model.specs.Operands.{word_at, entry_of, class_of}
use Rattle.valid_model.specs.declared.meaning.IdFacts.{IdFacts}
use Rattle.valid_model.specs.declared.meaning.Meaning.{Meaning}
use Rattle.valid_model.specs.declared.meaning.Meaning.TheVariants.{Value as OfValue}
use Rattle.valid_model.specs.Definitions.{definition, inst_at}
use Rattle.valid_model.specs.Meanings.{is_constant, known_before, meaning}
use Rattle.valid_model.specs.Types.{is_type}
use Rattle.check_model.specs.Branches.{block_end_of}
use Rattle.check_model.specs.Intervals.{intervals_of, is_visible}
use Rattle.check_model.specs.OperandTypes.{is_pointer}
use Rattle.check_model.specs.Typing.{typing_of, type_id, meaning_of, type_of}
use Rattle.check_model.specs.Visibility.{Incoming, incoming, incoming_use, use_at, is_defined_for, is_visible_use}
use Rattle.typed_model.proofs.FunctionRuns.{function_within}
use Rattle.typed_model.proofs.ModuleValues.{meaning_at}
use Rattle.typed_model.proofs.TypedSteps.{seen}
use Rattle.typed_model.proofs.ValidModules.{valid_seen}
use Rattle.change_model.specs.declared.fate.Fate.{Fate}
use Rattle.change_model.specs.declared.fate.Fate.TheVariants as fate
use Rattle.change_model.specs.Plans.{is_dead, leads_from, block_at}
use Rattle.change_model.specs.PlanRules.{is_shape, IsResolvedId}
use Rattle.change_model.specs.Passes.{heads_loop, keeps_phis, stands_at, is_pair_left, is_end_left, pairs_found, phi_fate_of, IsNamedAfter}
use Rattle.change_model.proofs.FoundPlans.{Found}
use Rattle.change_model.proofs.FoundOrigins.{Origin, goes_away, by_phi, by_load, by_chain, by_untyped, by_selection, by_loop, by_end, by_branch, by_switch, by_picks, by_folds, origin, alive_fate, alive_phi, dead_fate}
use Rattle.change_model.proofs.FoundOrigins as source
use Rattle.change_model.proofs.FunctionKnown.{function_known, phi_facts}
use Rattle.change_model.proofs.LeftScopes.{is_label_at}
use Rattle.change_model.proofs.NamedTypes.{phi_class}
use Rattle.change_model.proofs.PairTypes.{pair_typed}
use Rattle.change_model.proofs.PhiPairsLeft.{In, in_all, in_filtered}
use Rattle.change_model.proofs.PlanRunsNames.{phi_result}
use Rattle.change_model.proofs.PlanRunsValues.{own_defined}
use Rattle.change_model.proofs.TakenOperands.{clash, is_taken_type}
use Rattle.change_model.proofs.TakenUses.{IsMisfit}
use Rattle.change_model.proofs.TypesNamed.{means}
use Rattle.change_model.proofs.VisibleUses.{all_mapped, phi_seen}

-- ---- fates

abbrev pub resolves : Fate → Bool
resolves fate.Resolves = true
resolves fate = false

no_dead : fate.Dead ≡ fate.Resolves → ⊥
no_dead is = cc

-- a place with another fate than to stay is in the function
pub moved_within : (f : Found) (place : ℕ) → (f.plan.fate place ≡ fate.Stays → ⊥) → (f.valid.derivation.before < place) × (place < f.valid.derivation.after)
moved_within f place moves = (
  elim (cases_lt f.valid.derivation.before place) [ inl more ↦ more | inr upto ↦ absurd (moves (f.is.outside place (inl upto))) ],
  elim (cases_lt place f.valid.derivation.after) [ inl less ↦ less | inr past ↦ absurd (moves (f.is.outside place (inr past))) ],
)

-- ---- phis

no_phi_type : (is_type op.PHI ≡ false) × (is_constant op.PHI ≡ false)
unfolding class_of entry_of
no_phi_type = (refl, refl)

module _ (f : Found) (place : ℕ) (high : place < f.valid.derivation.after) (is : (inst_at f.words.insts place).op ≡ op.PHI) where
  pub phi_defined : definition f.words.insts (word_at 1 (inst_at f.words.insts place)) ≡ Some place
  phi_defined = own_defined f.words f.valid place (word_at 1 (inst_at f.words.insts place)) (function_within f.words.insts f.valid.derivation place high) (phi_result (inst_at f.words.insts place) is)

  pub phi_meaning : meaning f.words.insts (word_at 1 (inst_at f.words.insts place)) ≡ OfValue (word_at 0 (inst_at f.words.insts place))
  phi_meaning =
      let inst = inst_at f.words.insts place in
      meaning_at f.words.insts place (word_at 1 inst) phi_defined
      ∙ ap (λ (k : IdFacts). k.meaning) (function_known (known_before f.words.insts place) inst (ap is_type is ∙ no_phi_type.0) (ap is_constant is ∙ no_phi_type.1) ∙ phi_facts inst is)

-- ---- a phi that goes

pub record ResolvedPhi (f : Found) (place : ℕ) : Type 0 where
  pub low : f.valid.derivation.before < place
  pub high : place < f.valid.derivation.after
  pub is_phi : (inst_at f.words.insts place).op ≡ op.PHI
  pub typed : is_shape (meaning f.words.insts (word_at 0 (inst_at f.words.insts place))) ≡ true
  pub heads_none : heads_loop f.words.insts (block_at f.words.insts place) ≡ false
  pub pair : Incoming
  pub only : pairs_found f.plan f.words.insts place ≡ pair ∷ []
  pub free : (keeps_phis f.plan f.words.insts place && not (stands_at (intervals_of f.valid.derivation) f.words.insts f.plan place pair.value)) ≡ false
  pub has : In pair (incoming (inst_at f.words.insts place))
  pub end : ℕ
  pub end_is : block_end_of f.words.insts pair.block ≡ Some end
  pub before : end < place
  pub leads : leads_from f.plan f.words.insts (block_at f.words.insts place) end ≡ true
  pub origin : ℕ
  pub given : definition f.words.insts pair.value ≡ Some origin
  pub seen : is_visible (intervals_of f.valid.derivation) origin end ≡ true
  pub stands : f.plan.name (word_at 1 (inst_at f.words.insts place)) ≡ f.plan.name pair.value

-- what the rule of phis tells where it says that one goes
record Chosen (f : Found) (place : ℕ) : Type 0 where
  typed : is_shape (meaning f.words.insts (word_at 0 (inst_at f.words.insts place))) ≡ true
  heads_none : heads_loop f.words.insts (block_at f.words.insts place) ≡ false
  pair : Incoming
  only : pairs_found f.plan f.words.insts place ≡ pair ∷ []
  free : (keeps_phis f.plan f.words.insts place && not (stands_at (intervals_of f.valid.derivation) f.words.insts f.plan place pair.value)) ≡ false

module _ (f : Found) (place : ℕ) where
  chosen_by : (a b : Bool) (pairs : List Incoming) → is_shape (meaning f.words.insts (word_at 0 (inst_at f.words.insts place))) ≡ a → heads_loop f.words.insts (block_at f.words.insts place) ≡ b → pairs_found f.plan f.words.insts place ≡ pairs
      → (if not a then fate.Unused else if b then fate.Stays else phi_fate_of (intervals_of f.valid.derivation) f.words.insts f.plan place pairs) ≡ fate.Resolves → Chosen f place
  chosen_by false b pairs typed heads only goes = cc
  chosen_by true true pairs typed heads only goes = cc
  chosen_by true false [] typed heads only goes = cc
  chosen_by true false (pair ∷ []) typed heads only goes =
      by_test (keeps_phis f.plan f.words.insts place && not (stands_at (intervals_of f.valid.derivation) f.words.insts f.plan place pair.value)) refl goes
    where
      by_test : (c : Bool) → (keeps_phis f.plan f.words.insts place && not (stands_at (intervals_of f.valid.derivation) f.words.insts f.plan place pair.value)) ≡ c → (if c then fate.Stays else fate.Resolves) ≡ fate.Resolves → Chosen f place
      by_test true keeps goes = cc
      by_test false free goes = record { typed = typed; heads_none = heads; pair = pair; only = only; free = free }
  chosen_by true false (pair ∷ other ∷ pairs) typed heads only goes = cc

  chosen : (inst_at f.words.insts place).op ≡ op.PHI → f.valid.derivation.before < place → place < f.valid.derivation.after → f.plan.fate place ≡ fate.Resolves → Chosen f place
  chosen is low high goes = by_block (is_dead (f.plan.fate (place - 1))) refl
    where
      no_label : is_label_at f.words.insts place ≡ false
      no_label = ap (λ (n : ℕ). n == op.LABEL) is

      by_block : (b : Bool) → is_dead (f.plan.fate (place - 1)) ≡ b → Chosen f place
      by_block true dead = absurd (no_dead (sym (dead_fate f place low high no_label dead) ∙ goes))
      by_block false alive =
          chosen_by (is_shape (meaning f.words.insts (word_at 0 (inst_at f.words.insts place)))) (heads_loop f.words.insts (block_at f.words.insts place)) (pairs_found f.plan f.words.insts place) refl refl refl
          (sym (alive_fate f place low high no_label alive ∙ alive_phi f place is) ∙ goes)

  -- the block that a pair comes from ends before the phi, and still leads to it
  end_by : (pair : Incoming) (found : Option ℕ) → block_end_of f.words.insts pair.block ≡ found → is_end_left f.plan f.words.insts place found ≡ true
      → (end : ℕ) × (block_end_of f.words.insts pair.block ≡ Some end) × (end < place) × (leads_from f.plan f.words.insts (block_at f.words.insts place) end ≡ true)
  end_by pair None is left = cc
  end_by pair (Some end) is left =
      let leads = leads_from f.plan f.words.insts (block_at f.words.insts place) end in
      (end, is, ltb-true end place (first_of_both (nat_lt end place) leads left), second_of_both (nat_lt end place) leads left)

  pub pair_seen : (pair : Incoming) (end : ℕ) → place < f.valid.derivation.after → (inst_at f.words.insts place).op ≡ op.PHI → In pair (incoming (inst_at f.words.insts place)) → block_end_of f.words.insts pair.block ≡ Some end
      → is_defined_for (intervals_of f.valid.derivation) end (definition f.words.insts pair.value) ≡ true
  pair_seen pair end high is has end_is =
      let insts = f.words.insts in
      let intervals = intervals_of f.valid.derivation in
      let s = (phi_seen intervals insts place (valid_seen f.words f.valid place (function_within insts f.valid.derivation place high)) (eq-eqb (inst_at insts place).op op.PHI is)).1 in
      let all = sym (all_mapped (is_visible_use intervals insts) (incoming_use insts place) (incoming (inst_at insts place)))
      ∙ second_of_both (is_visible_use intervals insts (use_at place (word_at 0 (inst_at insts place)))) (list_all (is_visible_use intervals insts) (map (incoming_use insts place) (incoming (inst_at insts place)))) s in
      ap (λ (o : Option ℕ). is_defined_for intervals (unwrap_or o place) (definition insts pair.value)) (sym end_is)
      ∙ in_all (λ pair. is_visible_use intervals insts (incoming_use insts place pair)) pair (incoming (inst_at insts place)) has all

  seen_by : (value end : ℕ) (found : Option ℕ) → definition f.words.insts value ≡ found → is_defined_for (intervals_of f.valid.derivation) end found ≡ true
      → (at : ℕ) × (definition f.words.insts value ≡ Some at) × (is_visible (intervals_of f.valid.derivation) at end ≡ true)
  seen_by value end None is visible = cc
  seen_by value end (Some at) is visible = (at, is, visible)

  phi_of : (what : Fate) → Origin f place what → resolves what ≡ true → (inst_at f.words.insts place).op ≡ op.PHI
  phi_of what (by_phi is) goes = is
  phi_of what goes_away goes = cc
  phi_of what source.stays goes = cc
  phi_of what (by_load is empty) goes = cc
  phi_of what (by_chain is empty) goes = cc
  phi_of what (by_untyped is untyped) goes = cc
  phi_of what (by_selection label is free way) goes = cc
  phi_of what (by_loop is opened) goes = cc
  phi_of what (by_end label is unselected held leaves) goes = cc
  phi_of what (by_branch label is selected skipped way) goes = cc
  phi_of what (by_switch label is skipped way) goes = cc
  phi_of what (by_picks label is free way) goes = cc
  phi_of what (by_folds scalar is comes) goes = cc

  named_one : f.plan.fate place ≡ fate.Resolves → (pair : Incoming) → pairs_found f.plan f.words.insts place ≡ pair ∷ [] → f.plan.name (word_at 1 (inst_at f.words.insts place)) ≡ f.plan.name pair.value
  named_one goes pair only = subst (IsNamedAfter f.plan f.words.insts place) only (f.is.named place goes)

  stays_not : f.plan.fate place ≡ fate.Resolves → f.plan.fate place ≡ fate.Stays → ⊥
  stays_not goes stays = clash (resolves (f.plan.fate place)) (ap resolves goes) (ap resolves stays)

  found_pair : (pair : Incoming) → pairs_found f.plan f.words.insts place ≡ pair ∷ [] → In pair (incoming (inst_at f.words.insts place)) × (is_pair_left f.plan f.words.insts place pair ≡ true)
  unfolding pairs_found
  found_pair pair only = in_filtered (is_pair_left f.plan f.words.insts place) (incoming (inst_at f.words.insts place)) pair [] only

  pub resolved : f.plan.fate place ≡ fate.Resolves → ResolvedPhi f place
  resolved goes =
      let insts = f.words.insts in
      let w = moved_within f place (stays_not goes) in
      let is = phi_of (f.plan.fate place) (origin f place) (ap resolves goes) in
      let c = chosen is w.0 w.1 goes in
      let p = found_pair c.pair c.only in
      let e = end_by c.pair (block_end_of insts c.pair.block) refl p.1 in
      let s = seen_by c.pair.value e.0 (definition insts c.pair.value) refl (pair_seen c.pair e.0 w.1 is p.0 e.1) in
      record {
        low = w.0;
        high = w.1;
        is_phi = is;
        typed = c.typed;
        heads_none = c.heads_none;
        pair = c.pair;
        only = c.only;
        free = c.free;
        has = p.0;
        end = e.0;
        end_is = e.1;
        before = e.2;
        leads = e.3;
        origin = s.0;
        given = s.1;
        seen = s.2;
        stands = named_one goes c.pair c.only;
      }

-- ---- names

some_same : (a b : ℕ) → ◌≡◌ {A = Option ℕ} (Some a) (Some b) → a ≡ b
some_same a b is = cc

phi_class_at : (f : Found) (place : ℕ) → (inst_at f.words.insts place).op ≡ op.PHI → class_of (inst_at f.words.insts place).op ≡ Some class.Phi
phi_class_at f place is = ap class_of is ∙ phi_class

-- a value of a phi has the phi's type, which is no pointer
pub pair_fits : (f : Found) (place : ℕ) → place < f.valid.derivation.after → (inst_at f.words.insts place).op ≡ op.PHI → (pair : Incoming) → In pair (incoming (inst_at f.words.insts place))
    → (type_id (meaning f.words.insts pair.value) ≡ Some (word_at 0 (inst_at f.words.insts place))) × (is_pointer (meaning f.words.insts (word_at 0 (inst_at f.words.insts place))) ≡ false)
pair_fits f place high is pair has = pair_typed f.words f.valid place high is pair has

pub taken_by : (m : Meaning) → is_shape m ≡ true → is_pointer m ≡ false → is_taken_type m ≡ true
taken_by m shape pointer = rw shape (rw pointer refl)

-- an id of a type that is no pointer
abbrev HasTakenType : Found → ℕ → Type 0
HasTakenType f id = (type : ℕ) × (type_id (meaning f.words.insts id) ≡ Some type) × (is_taken_type (meaning f.words.insts type) ≡ true)

-- what stands for a phi has such a type
pub name_taken : (f : Found) (n place : ℕ) → place < n → f.plan.fate place ≡ fate.Resolves → HasTakenType f (f.plan.name (word_at 1 (inst_at f.words.insts place)))
name_taken f zero place less goes = absurd (omega (arith, less))
name_taken f (suc n) place less goes = by_name (f.is.names r.pair.value) (λ other lower also. name_taken f n other lower also)
  where
    insts : List Inst
    insts = f.words.insts

    r : ResolvedPhi f place
    r = resolved f place goes

    by_name : (f.plan.name r.pair.value ≡ r.pair.value) ⊎ IsResolvedId f.plan f.words.insts r.pair.value
        → ((other : ℕ) → other < n → f.plan.fate other ≡ fate.Resolves → HasTakenType f (f.plan.name (word_at 1 (inst_at f.words.insts other)))) → HasTakenType f (f.plan.name (word_at 1 (inst_at f.words.insts place)))
    by_name (inl same) further =
        let p = pair_fits f place r.high r.is_phi r.pair r.has in
        (word_at 0 (inst_at insts place), ap (λ (n : ℕ). type_id (meaning insts n)) (r.stands ∙ same) ∙ p.0, taken_by (meaning insts (word_at 0 (inst_at insts place))) r.typed p.1)
    by_name (inr q) further =
        let also = resolved f q.place q.resolves in
        let there : q.place ≡ r.origin = some_same q.place r.origin (sym (phi_defined f q.place also.high also.is_phi) ∙ ap (definition insts) q.own ∙ r.given) in
        let early = (seen (intervals_of f.valid.derivation) r.origin r.end r.seen).0 in
        let before = r.before in
        subst (HasTakenType f) (ap f.plan.name q.own ∙ sym r.stands) (further q.place (omega (arith, less, there, early, before)) q.resolves)

-- so no value of another type has another id's name
pub misfit_name : (f : Found) (id : ℕ) → IsMisfit f.words.insts id → (other : ℕ) → f.plan.name other ≡ id → other ≡ id
misfit_name f id m other is = by_name (f.is.names other)
  where
    by_name : (f.plan.name other ≡ other) ⊎ IsResolvedId f.plan f.words.insts other → other ≡ id
    by_name (inl same) = sym same ∙ is
    by_name (inr q) =
        let t = subst (HasTakenType f) (ap f.plan.name q.own ∙ is) (name_taken f (suc q.place) q.place (omega arith) q.resolves) in
        clash (is_taken_type (type_of (typing_of f.words.insts) id))
        (ap (λ (o : Option ℕ). is_taken_type (meaning_of (typing_of f.words.insts) o)) (ap type_id (means f.words.insts id) ∙ t.1) ∙ ap is_taken_type (means f.words.insts t.0) ∙ t.2) m.apart
