-- A phi that goes has one pair whose block is left, and one pass finds that pair.
use Rattle.std.proofs.Common.{◌≡◌, ℕ, ◌-◌, ◌<◌, ◌≤◌, ◌==◌, ◌&&◌, ◌⊎◌, inl, inr, Bool, true, false, not, nat_lt, if◌then◌else◌, List, [], ◌∷◌, refl, ap, sym, ◌∙◌}
use Rattle.std.specs.Prelude.{filter}
use Rattle.std.proofs.lemmas.Bool.{cases_lt, lt-ltb}
use Rattle.spirv_model.specs.declared.module.Inst.{Inst}
use Rattle.spirv_model.specs.declared.op.TheConstants as op
use Rattle.spirv_model.specs.Operands.{word_at}
use Rattle.body_model.specs.Switches.{is_among}
use Rattle.valid_model.specs.Definitions.{inst_at}
use Rattle.valid_model.specs.Meanings.{meaning}
use Rattle.check_model.specs.Intervals.{intervals_of}
use Rattle.check_model.specs.Visibility.{Incoming, incoming}
use Rattle.change_model.specs.declared.fate.Fate.{Fate}
use Rattle.change_model.specs.declared.fate.Fate.TheVariants as fate
use Rattle.change_model.specs.Plans.{is_dead, leads_from, predecessors_left, block_at}
use Rattle.change_model.specs.PlanRules.{is_shape, pairs_in}
use Rattle.change_model.specs.Passes.{heads_loop, is_pair_left, pairs_found, phi_fate_of}
use Rattle.change_model.proofs.FoundBack.{none_behind}
use Rattle.change_model.proofs.FoundOrigins.{Origin, goes_away, by_phi, by_load, by_chain, by_untyped, by_selection, by_loop, by_end, by_branch, by_switch, by_picks, by_folds, origin, dead_fate, alive_fate, alive_phi}
use Rattle.change_model.proofs.FoundOrigins as source
use Rattle.change_model.proofs.FoundPairs.{pair_end, pair_left}
use Rattle.change_model.proofs.FoundPlans.{Found}
use Rattle.change_model.proofs.LeftScopes.{is_label_at}
use Rattle.change_model.proofs.PhiPairsLeft.{In}

clash : {Q : Type 0} (b : Bool) → b ≡ true → b ≡ false → Q
clash true is isnt = cc
clash false is isnt = cc

-- ---- two tests of a list

filters_same : (first second : Incoming → Bool) (pairs : List Incoming) → ((pair : Incoming) → In pair pairs → first pair ≡ second pair) → filter first pairs ≡ filter second pairs
filters_same first second [] same = refl
filters_same first second (pair ∷ pairs) same =
    ap (λ (b : Bool). if b then pair ∷ filter first pairs else filter first pairs) (same pair (inl refl))
    ∙ ap (λ (rest : List Incoming). if second pair then pair ∷ rest else rest) (filters_same first second pairs (λ other has. same other (inr has)))

module _ (f : Found) (place : ℕ) (low : f.valid.derivation.before < place) (high : place < f.valid.derivation.after) where
  abbrev insts : List Inst
  insts = f.words.insts

  -- a phi that goes
  pub record ResolvedPhi : Type 0 where
    pub is_phi : (inst_at insts place).op ≡ op.PHI
    pub alive : is_dead (f.plan.fate place) ≡ false
    pub heads_none : heads_loop insts (block_at insts place) ≡ false
    pub pair : Incoming
    pub found : pairs_found f.plan insts place ≡ pair ∷ []

  phi_there : (what : Fate) → Origin f place what → what ≡ fate.Resolves → (inst_at insts place).op ≡ op.PHI
  phi_there what (by_phi is) same = is
  phi_there what goes_away same = cc
  phi_there what source.stays same = cc
  phi_there what (by_load is empty) same = cc
  phi_there what (by_chain is empty) same = cc
  phi_there what (by_untyped is untyped) same = cc
  phi_there what (by_selection label is free way) same = cc
  phi_there what (by_loop is opened) same = cc
  phi_there what (by_end label is unselected held leaves) same = cc
  phi_there what (by_branch label is selected skipped way) same = cc
  phi_there what (by_switch label is skipped way) same = cc
  phi_there what (by_picks label is free way) same = cc
  phi_there what (by_folds known is comes) same = cc

  dead_resolves : {Q : Type 0} → fate.Dead ≡ fate.Resolves → Q
  dead_resolves same = cc

  by_pairs : (pairs : List Incoming) → phi_fate_of (intervals_of f.valid.derivation) insts f.plan place pairs ≡ fate.Resolves → (pair : Incoming) × (pairs ≡ pair ∷ [])
  by_pairs [] same = cc
  by_pairs (pair ∷ []) same = (pair, refl)
  by_pairs (pair ∷ other ∷ rest) same = cc

  by_tests : (shape heads : Bool) (pairs : List Incoming) → (if not shape then fate.Unused else if heads then fate.Stays else phi_fate_of (intervals_of f.valid.derivation) insts f.plan place pairs) ≡ fate.Resolves
      → (heads ≡ false) × ((pair : Incoming) × (pairs ≡ pair ∷ []))
  by_tests true false pairs same = (refl, by_pairs pairs same)
  by_tests true true pairs same = cc
  by_tests false heads pairs same = cc

  pub resolved_phi : f.plan.fate place ≡ fate.Resolves → ResolvedPhi
  resolved_phi resolves = by_block (is_dead (f.plan.fate (place - 1))) refl
    where
      is : (inst_at insts place).op ≡ op.PHI
      is = phi_there (f.plan.fate place) (origin f place) resolves

      no_label : is_label_at insts place ≡ false
      no_label = ap (λ (n : ℕ). n == op.LABEL) is

      by_block : (b : Bool) → is_dead (f.plan.fate (place - 1)) ≡ b → ResolvedPhi
      by_block true dead = dead_resolves (sym (dead_fate f place low high no_label dead) ∙ resolves)
      by_block false living =
          let tests = by_tests (is_shape (meaning insts (word_at 0 (inst_at insts place)))) (heads_loop insts (block_at insts place)) (pairs_found f.plan insts place)
          (sym (alive_fate f place low high no_label living ∙ alive_phi f place is) ∙ resolves) in
          record { is_phi = is; alive = ap is_dead resolves; heads_none = tests.0; pair = tests.1.0; found = tests.1.1 }

  -- ---- the blocks that are left are those that one pass sees

  pairs_same : (r : ResolvedPhi) → pairs_in (predecessors_left f.plan insts (block_at insts place)) (incoming (inst_at insts place)) ≡ pairs_found f.plan insts place
  unfolding pairs_found
  pairs_same r =
      filters_same (λ (pair : Incoming). is_among pair.block (predecessors_left f.plan insts (block_at insts place))) (is_pair_left f.plan insts place) (incoming (inst_at insts place))
      (λ pair has.
      let e = pair_end f place low high r.is_phi pair has in
      e.left ∙ before e.end (cases_lt e.end place) ∙ sym (pair_left f place low high r.is_phi pair e))
    where
      both : (a b : Bool) → a ≡ true → b ≡ (a && b)
      both true b first = refl
      both false b first = cc

      neither : (a b : Bool) → b ≡ false → b ≡ (a && b)
      neither true b second = refl
      neither false b second = second

      before : (end : ℕ) → (end < place) ⊎ (place ≤ end) → leads_from f.plan insts (block_at insts place) end ≡ (nat_lt end place && leads_from f.plan insts (block_at insts place) end)
      before end (inl less) = both (nat_lt end place) (leads_from f.plan insts (block_at insts place) end) (lt-ltb end place less)
      before end (inr least) = neither (nat_lt end place) (leads_from f.plan insts (block_at insts place) end) (none_behind f place low high r.is_phi r.alive r.heads_none end least)

  pub only_pair : f.plan.fate place ≡ fate.Resolves → (pair : Incoming) → pairs_found f.plan insts place ≡ pair ∷ [] → pairs_in (predecessors_left f.plan insts (block_at insts place)) (incoming (inst_at insts place)) ≡ pair ∷ []
  only_pair resolves pair found = pairs_same (resolved_phi resolves) ∙ found
