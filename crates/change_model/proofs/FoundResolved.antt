-- What stands for a phi that goes is defined before it, visible there by the intervals that are left, and not given in its block.
use Rattle.std.proofs.Common.{◌≡◌, ℕ, zero, suc, ◌<◌, ◌≤◌, ◌⊎◌, inl, inr, Bool, true, false, not, ◌==◌, ◌||◌, ◌&&◌, nat_lt, List, [], ◌∷◌, length, refl, ap, sym, ◌∙◌, subst, arith, Option, Some}
use Rattle.std.proofs.lemmas.Bool.{ne_eqb}
use Rattle.basics.proofs.Bools.{second_of_both}
use Rattle.spirv_model.specs.declared.module.Inst.{Inst}
use Rattle.spirv_model.specs.declared.op.TheConstants as op
use Rattle.spirv_model.specs.Operands.{word_at, entry_of, class_of, result}
use Rattle.spirv_model.specs.declared.class.Class.{Class}
use Rattle.spirv_model.specs.declared.class.Class.TheVariants as class
use Rattle.body_model.specs.Classes.{is_plain_class, is_terminator_class, is_terminator}
use Rattle.valid_model.specs.Definitions.{definition, inst_at}
use Rattle.check_model.specs.Intervals.{Interval, intervals_of, is_visible}
use Rattle.check_model.specs.Visibility.{Incoming, incoming}
use Rattle.typed_model.proofs.EffectsRun.{instruction}
use Rattle.typed_model.proofs.PlainRuns.{at_op}
use Rattle.typed_model.proofs.BlockParts.{another}
use Rattle.typed_model.proofs.FunctionRuns.{function_within}
use Rattle.typed_model.proofs.TypedSteps.{seen}
use Rattle.change_model.specs.declared.fate.Fate.TheVariants as fate
use Rattle.change_model.specs.Plans.{predecessors_left, block_at}
use Rattle.change_model.specs.PlanRules.{intervals_left, is_constant_fate, pairs_in, IsResolved, IsResolvedId}
use Rattle.change_model.specs.Passes.{keeps_phis, is_there, stands_at, pairs_found}
use Rattle.change_model.proofs.BlockBefore as behind
use Rattle.change_model.proofs.FoundGoes.{still_leads}
use Rattle.change_model.proofs.FoundNames.{ResolvedPhi, resolved, phi_defined}
use Rattle.change_model.proofs.FoundPlans.{Found}
use Rattle.change_model.proofs.FoundValues.{phi_block, phi_label, joined_visible}
use Rattle.change_model.proofs.LeftBlocks.{is_inner}
use Rattle.change_model.proofs.LeftLeaves.{named_terminator}
use Rattle.change_model.proofs.LeftPlacedWhole.{labels_once}
use Rattle.change_model.proofs.LeftScopes.{is_label_at, label_at}
use Rattle.change_model.proofs.NamesStand.{visible_fewer, visible_through}
use Rattle.change_model.proofs.TakenOperands.{clash}

some_same : (a b : ℕ) → ◌≡◌ {A = Option ℕ} (Some a) (Some b) → a ≡ b
some_same a b is = cc

label_words : (words : List ℕ) → result (instruction op.LABEL words) ≡ Some (word_at 0 (instruction op.LABEL words))
unfolding result entry_of
label_words words = refl

pub label_result : (inst : Inst) → inst.op == op.LABEL ≡ true → result inst ≡ Some (word_at 0 inst)
label_result inst is = at_op (λ (i : Inst). result i ≡ Some (word_at 0 i)) inst op.LABEL is (label_words inst.words)

-- a terminator stands last in its block
outer_plain : (of : Option Class) → is_terminator_class of ≡ true → is_plain_class of ≡ false
outer_plain (Some class.Terminator) is = refl
outer_plain of is = cc

ends_no_front : (is_terminator op.PHI ≡ false) × (is_terminator op.VARIABLE ≡ false)
unfolding class_of entry_of
ends_no_front = (refl, refl)

ends_outer : (opcode : ℕ) → is_terminator opcode ≡ true → is_inner opcode ≡ false
ends_outer opcode is = rw (another is_terminator op.PHI ends_no_front.0 opcode is) (rw (another is_terminator op.VARIABLE ends_no_front.1 opcode is) (outer_plain (class_of opcode) is))

module _ (f : Found) where
  abbrev insts : List Inst
  insts = f.words.insts

  abbrev left : List Interval
  left = intervals_left f.plan f.words.insts (intervals_of f.valid.derivation)

  -- ---- names

  -- what stands for an id that is defined at a place: a constant by then, or visible there
  pub record StandsFor (id own : ℕ) : Type 0 where
    pub at : ℕ
    pub defined : definition f.words.insts (f.plan.name id) ≡ Some at
    pub most : at ≤ own
    pub seen : (is_constant_fate (f.plan.fate at) ≡ true) ⊎ ((at ≡ own) ⊎ (is_visible left at own ≡ true))

  -- it is so where the id is visible
  seen_from : (id own place : ℕ) (s : StandsFor id own) → is_visible left own place ≡ true → (is_constant_fate (f.plan.fate s.at) ≡ true) ⊎ (is_visible left s.at place ≡ true)
  seen_from id own place s visible = elim s.seen [
    | inl constant ↦ inl constant
    | inr other ↦ elim other [
      | inl same ↦ inr (ap (λ (n : ℕ). is_visible left n place) same ∙ visible)
      | inr there ↦ inr (visible_through left s.at own place there visible)
    ]
  ]

  by_there : (place at : ℕ) → is_there (intervals_of f.valid.derivation) f.plan place (Some at) ≡ true → (is_constant_fate (f.plan.fate at) ≡ true) ⊎ (is_visible left at place ≡ true)
  by_there place at is = by_tests (is_constant_fate (f.plan.fate at)) (is_visible (intervals_of f.valid.derivation) at place) refl refl (second_of_both (nat_lt at place) (is_constant_fate (f.plan.fate at) || is_visible (intervals_of f.valid.derivation) at place) is)
    where
      by_tests : (a b : Bool) → is_constant_fate (f.plan.fate at) ≡ a → is_visible (intervals_of f.valid.derivation) at place ≡ b → (a || b) ≡ true → (is_constant_fate (f.plan.fate at) ≡ true) ⊎ (is_visible left at place ≡ true)
      by_tests true b constant visible either = inl constant
      by_tests false true constant visible either = inr (visible_fewer f.plan insts (intervals_of f.valid.derivation) at place visible)
      by_tests false false constant visible either = cc

  -- what stands for the value of a phi that goes
  value_seen : (place : ℕ) (r : ResolvedPhi f place) (s : StandsFor r.pair.value r.origin) → (is_constant_fate (f.plan.fate s.at) ≡ true) ⊎ (is_visible left s.at place ≡ true)
  value_seen place r s = by_phis (keeps_phis f.plan insts place) refl r.free
    where
      stood : Bool
      stood = stands_at (intervals_of f.valid.derivation) f.words.insts f.plan place r.pair.value

      open_test : (b : Bool) → not b ≡ false → b ≡ true
      open_test true is = refl
      open_test false is = cc

      by_phis : (b : Bool) → keeps_phis f.plan f.words.insts place ≡ b → (b && not stood) ≡ false → (is_constant_fate (f.plan.fate s.at) ≡ true) ⊎ (is_visible left s.at place ≡ true)
      by_phis true keeps free = by_there place s.at (ap (is_there (intervals_of f.valid.derivation) f.plan place) (sym s.defined) ∙ open_test stood free)
      by_phis false none free = elim (seen_from r.pair.value r.origin r.end s (visible_fewer f.plan insts (intervals_of f.valid.derivation) r.origin r.end r.seen)) [
        | inl constant ↦ inl constant
        | inr visible ↦ inr (joined_visible f place r none s.at visible)
      ]

  stands_by : (n id own : ℕ) → own < n → definition f.words.insts id ≡ Some own → StandsFor id own
  stands_by zero id own less defined = absurd (omega (arith, less))
  stands_by (suc n) id own less defined = by_name (f.is.names id) (λ other at lower given. stands_by n other at lower given)
    where
      by_name : (f.plan.name id ≡ id) ⊎ IsResolvedId f.plan f.words.insts id → ((other at : ℕ) → at < n → definition f.words.insts other ≡ Some at → StandsFor other at) → StandsFor id own
      by_name (inl same) further = record { at = own; defined = ap (definition insts) same ∙ defined; most = omega arith; seen = inr (inl refl) }
      by_name (inr q) further =
          let r = resolved f q.place q.resolves in
          let there : q.place ≡ own = some_same q.place own (sym (phi_defined f q.place r.high r.is_phi) ∙ ap (definition insts) q.own ∙ defined) in
          let early = (seen (intervals_of f.valid.derivation) r.origin r.end r.seen).0 in
          let before = r.before in
          let s = further r.pair.value r.origin (omega (arith, early, before, there, less)) r.given in
          let most = s.most in
          record {
            at = s.at;
            defined = ap (definition insts) (ap f.plan.name (sym q.own) ∙ r.stands) ∙ s.defined;
            most = omega (arith, most, early, before, there);
            seen = elim (value_seen q.place r s) [ inl constant ↦ inl constant | inr visible ↦ inr (inr (ap (is_visible left s.at) (sym there) ∙ visible)) ];
          }

  -- an id that is defined
  pub stands_for : (id own : ℕ) → definition f.words.insts id ≡ Some own → StandsFor id own
  stands_for id own defined = stands_by (suc own) id own (omega arith) defined

  -- ---- blocks

  -- the label of the block that a place is in stands before it
  pub block_before : (at : ℕ) → at ≤ length f.words.insts → (block_at f.words.insts at ≡ 0) ⊎ ((l : ℕ) × (l < at) × (is_label_at f.words.insts l ≡ true) × (label_at f.words.insts l ≡ block_at f.words.insts at))
  block_before at most = behind.block_before f.words.insts at most

  -- no id that is given is zero
  pub given_some : (place id : ℕ) → place < length f.words.insts → result (inst_at f.words.insts place) ≡ Some id → id ≡ 0 → ⊥
  given_some place id within gives none = behind.given_some f.words f.valid place id within gives none

  label_some : (l : ℕ) → l < length f.words.insts → is_label_at f.words.insts l ≡ true → label_at f.words.insts l ≡ 0 → ⊥
  label_some l within is none = given_some l (label_at insts l) within (label_result (inst_at insts l) is) none

  -- what stands before the end of the pair's block isn't in the block of the phi
  block_apart : (place : ℕ) (r : ResolvedPhi f place) → (at : ℕ) → at < r.end → block_at f.words.insts at ≡ block_at f.words.insts place → ⊥
  block_apart place r at less same =
      let b = phi_block f place r in
      let before = r.before in
      let within = function_within insts f.valid.derivation place r.high in
      let behind = b.behind in
      elim (block_before at (omega (arith, less, before, within))) [
        | inl none ↦ label_some b.at (omega (arith, behind, within)) b.is_label (sym (phi_label f place r) ∙ sym same ∙ none)
        | inr l ↦
            let e = labels_once f.words f.valid l.0 b.at l.2 b.is_label (l.3 ∙ same ∙ phi_label f place r) in
            let low = l.1 in
            no_inner (b.front r.end (omega (arith, e, low, less)) (omega (arith, before)))
      ]
    where
      no_inner : is_inner (inst_at f.words.insts r.end).op ≡ true → ⊥
      no_inner inner =
          let t = named_terminator (inst_at insts r.end) (block_at insts place) (still_leads f r.end (block_at insts place) r.leads) in
          clash (is_inner (inst_at insts r.end).op) inner (ends_outer (inst_at insts r.end).op t)

  -- ---- all of it

  -- what is asked of the value that stands for a phi
  pub record ResolvedValue (place : ℕ) (pair : Incoming) : Type 0 where
    pub origin : ℕ
    pub given : definition f.words.insts pair.value ≡ Some origin
    pub earlier : origin < place
    pub stands : f.plan.name (word_at 1 (inst_at f.words.insts place)) ≡ f.plan.name pair.value
    pub at : ℕ
    pub defined : definition f.words.insts (f.plan.name pair.value) ≡ Some at
    pub visible : is_constant_fate (f.plan.fate at) || is_visible (intervals_left f.plan f.words.insts (intervals_of f.valid.derivation)) at place ≡ true
    pub apart : is_constant_fate (f.plan.fate at) || not (block_at f.words.insts at == block_at f.words.insts place) ≡ true

  value_of : (place : ℕ) (r : ResolvedPhi f place) → ResolvedValue place r.pair
  value_of place r =
      let s = stands_for r.pair.value r.origin r.given in
      let early = (seen (intervals_of f.valid.derivation) r.origin r.end r.seen).0 in
      let before = r.before in
      let most = s.most in
      record {
        origin = r.origin;
        given = r.given;
        earlier = omega (arith, early, before);
        stands = r.stands;
        at = s.at;
        defined = s.defined;
        visible = elim (value_seen place r s) [ inl constant ↦ by_first (is_constant_fate (f.plan.fate s.at)) _ constant | inr visible ↦ by_second (is_constant_fate (f.plan.fate s.at)) _ visible ];
        apart = by_second (is_constant_fate (f.plan.fate s.at)) _ (ap not (ne_eqb (block_at insts s.at) (block_at insts place) (λ same. block_apart place r s.at (omega (arith, most, early)) same)));
      }
    where
      by_first : (a b : Bool) → a ≡ true → (a || b) ≡ true
      by_first true b is = refl
      by_first false b is = cc

      by_second : (a b : Bool) → b ≡ true → (a || b) ≡ true
      by_second true b is = refl
      by_second false b is = is

  one_pair : (a b : Incoming) → a ∷ [] ≡ b ∷ [] → a ≡ b
  one_pair a b is = cc

  -- of the one pair that is found where a phi goes
  pub resolved_value : (place : ℕ) (pair : Incoming) → f.plan.fate place ≡ fate.Resolves → pairs_found f.plan f.words.insts place ≡ pair ∷ [] → ResolvedValue place pair
  resolved_value place pair goes only = let r = resolved f place goes in subst (ResolvedValue place) (one_pair r.pair pair (sym r.only ∙ only)) (value_of place r)

  -- where this is the one pair that is left
  pub is_resolved : (place : ℕ) (pair : Incoming) → f.plan.fate place ≡ fate.Resolves → pairs_found f.plan f.words.insts place ≡ pair ∷ []
      → pairs_in (predecessors_left f.plan f.words.insts (block_at f.words.insts place)) (incoming (inst_at f.words.insts place)) ≡ pair ∷ [] → IsResolved f.plan f.words.insts (intervals_of f.valid.derivation) place
  is_resolved place pair goes found only =
      let v = resolved_value place pair goes found in
      record {
        pair = pair;
        is_phi = (resolved f place goes).is_phi;
        only = only;
        origin = v.origin;
        given = v.given;
        earlier = v.earlier;
        stands = v.stands;
        at = v.at;
        defined = v.defined;
        visible = v.visible;
        apart = v.apart;
      }
