-- The value that stands for a phi that goes is visible at the phi by the intervals that are left.
use Rattle.std.proofs.Common.{◌≡◌, ℕ, zero, suc, ◌+◌, ◌-◌, ◌<◌, ◌≤◌, Bool, true, false, not, ◌||◌, nat_lt, nat_le, if◌then◌else◌, List, [], ◌∷◌, refl, ap, sym, ◌∙◌, arith}
use Rattle.std.specs.Prelude.{filter}
use Rattle.std.proofs.lemmas.Bool.{and_parts, and_from, ltb-true, lt-ltb, leb-true, le-leb}
use Rattle.std.proofs.lemmas.Option.{slice_get-get_or}
use Rattle.spirv_model.specs.declared.module.Inst.{Inst}
use Rattle.spirv_model.specs.declared.op.TheConstants as op
use Rattle.body_model.specs.Switches.{is_among}
use Rattle.valid_model.specs.Definitions.{inst_at, no_instruction}
use Rattle.check_model.specs.Intervals.{Interval, has_place, intervals_of, is_visible}
use Rattle.typed_model.specs.Jumps.{keeps}
use Rattle.typed_model.proofs.FunctionRuns.{function_within}
use Rattle.typed_model.proofs.LabelsBefore.{ends_in_function, stands_there, own_label_behind, same_label_behind}
use Rattle.typed_model.proofs.TypedSteps.{seen, visible_by}
use Rattle.change_model.specs.Plans.{leads_from, block_at}
use Rattle.change_model.specs.PlanRules.{merge_labels, remains, intervals_left}
use Rattle.change_model.specs.Passes.{keeps_merge, keeps_phis}
use Rattle.change_model.proofs.BlockEntries.{Entry, by_one, by_selection, by_switch}
use Rattle.change_model.proofs.FoundCrossings.{Into, Holds}
use Rattle.change_model.proofs.FoundEntries.{holds}
use Rattle.change_model.proofs.FoundGoes.{still_leads}
use Rattle.change_model.proofs.FoundNames.{ResolvedPhi}
use Rattle.change_model.proofs.FoundPlans.{Found}
use Rattle.change_model.proofs.LeftBlockNames.{inner_isnt}
use Rattle.change_model.proofs.LeftChosen.{any_of_range}
use Rattle.change_model.proofs.LeftFates.{inners}
use Rattle.change_model.proofs.LeftLeaves.{named_terminator}
use Rattle.change_model.proofs.LeftPlacedWhole.{placed_whole}
use Rattle.change_model.proofs.LeftScopes.{label_at}
use Rattle.change_model.proofs.PhiEntries.{PhiIn, phi_in}
use Rattle.change_model.proofs.TakenOperands.{clash}

refuted : (b : Bool) → (b ≡ true → ⊥) → b ≡ false
refuted true isnt = absurd (isnt refl)
refuted false isnt = refl

module _ (f : Found) where
  abbrev insts : List Inst
  insts = f.words.insts

  abbrev left : List Interval
  left = intervals_left f.plan f.words.insts (intervals_of f.valid.derivation)

  -- ---- the block of a phi

  pub phi_block : (place : ℕ) → ResolvedPhi f place → PhiIn f.words.insts f.valid.derivation place
  phi_block place r = let low = r.low in phi_in f.words f.valid place (omega (arith, low)) r.high r.is_phi

  block_label : (place : ℕ) → place < f.valid.derivation.after → (p : PhiIn f.words.insts f.valid.derivation place) → (n : ℕ) → p.at + 1 + n ≤ place → block_at f.words.insts (p.at + 1 + n) ≡ label_at f.words.insts p.at
  block_label place high p zero most =
      let low = p.low in
      ap (block_at insts) {x = p.at + 1 + 0} {y = p.at + 1} (omega arith) ∙ own_label_behind insts p.at (stands_there insts f.valid.derivation p.at (omega (arith, low)) (omega (arith, most, high))) p.is_label
  block_label place high p (suc n) most =
      let low = p.low in
      let q = p.at + 1 + n in
      let inner = p.front q (omega arith) (omega (arith, most)) in
      ap (block_at insts) {x = p.at + 1 + suc n} {y = q + 1} (omega arith)
      ∙ same_label_behind insts q (stands_there insts f.valid.derivation q (omega (arith, low)) (omega (arith, most, high))) (inner_isnt (inst_at insts q).op op.LABEL inner inners.label)
      ∙ block_label place high p n (omega (arith, most))

  pub phi_label : (place : ℕ) (r : ResolvedPhi f place) → block_at f.words.insts place ≡ label_at f.words.insts (phi_block place r).at
  phi_label place r =
      let p = phi_block place r in
      let behind = p.behind in
      ap (block_at insts) {x = place} {y = p.at + 1 + (place - (p.at + 1))} (omega (arith, behind)) ∙ block_label place r.high p (place - (p.at + 1)) (omega (arith, behind))

  unlooped_by : (at : ℕ) → Entry f.words.insts f.valid.derivation at → (m : ℕ) → m < at → (inst_at f.words.insts m).op ≡ op.LOOP_MERGE → is_among (label_at f.words.insts at) (merge_labels (inst_at f.words.insts m)) ≡ true → ⊥
  unlooped_by at (by_one after b) m less is among = b.merges m less among
  unlooped_by at (by_selection s none) m less is among = none m less is among
  unlooped_by at (by_switch s none) m less is among = none m less is among

  into : (place : ℕ) (r : ResolvedPhi f place) → keeps_phis f.plan f.words.insts place ≡ false → Into f place r.end
  into place r none =
      let p = phi_block place r in
      let same = phi_label place r in
      record {
        at = p.at;
        label = p.is_label;
        behind = p.behind;
        front = p.front;
        phi = r.is_phi;
        high = r.high;
        before = r.before;
        leads = ap (λ (n : ℕ). leads_from f.plan insts n r.end) (sym same) ∙ r.leads;
        unkept = λ m less. refuted (keeps_merge f.plan insts (label_at insts p.at) m)
            (λ keeps. clash (keeps_phis f.plan insts place) (any_of_range (keeps_merge f.plan insts (block_at insts place)) place 0 m (omega arith) (omega (arith, less)) (ap (λ (n : ℕ). keeps_merge f.plan insts n m) same ∙ keeps)) none);
        unlooped = unlooped_by p.at p.entry;
      }

  -- the block that the pair comes from ends in the function
  pub end_within : (place : ℕ) (r : ResolvedPhi f place) → (f.valid.derivation.before + 1 ≤ r.end) × (r.end < f.valid.derivation.after)
  end_within place r =
      let before = r.before in
      let high = r.high in
      ends_in_function f.words f.valid.derivation r.end (inst_at insts r.end) (slice_get-get_or insts r.end no_instruction (function_within insts f.valid.derivation r.end (omega (arith, before, high))))
      (named_terminator (inst_at insts r.end) (block_at insts place) (still_leads f r.end (block_at insts place) r.leads))

  all_hold : (place : ℕ) (r : ResolvedPhi f place) (w : Into f place r.end) → Holds f place r.end w (intervals_of f.valid.derivation)
  all_hold place r w = let e = end_within place r in (λ _ _ _. r.high, holds f place r.end w f.valid.derivation.sequence (placed_whole f.words f.valid) e.0 e.1 r.high)

  -- ---- what is visible at the end of the block is visible at the phi

  has_of : (i : Interval) (at : ℕ) → has_place at i ≡ true → (i.from ≤ at) × (at < i.to)
  has_of i at is = let parts = and_parts (nat_le i.from at) (nat_lt at i.to) is in (leb-true i.from at parts.0, ltb-true at i.to parts.1)

  has_at : (i : Interval) (at : ℕ) → i.from ≤ at → at < i.to → has_place at i ≡ true
  has_at i at low high = and_from (nat_le i.from at) (nat_lt at i.to) (le-leb i.from at low) (lt-ltb at i.to high)

  one_kept : (place end : ℕ) → end < place → (i : Interval) → (i.from ≤ end → end < i.to → place < i.to) → (a : ℕ) → (not (has_place a i) || has_place end i) ≡ true → (not (has_place a i) || has_place place i) ≡ true
  one_kept place end less i goes a kept = by_tests (has_place a i) (has_place end i) refl kept
    where
      by_tests : (x y : Bool) → has_place end i ≡ y → (not x || y) ≡ true → (not x || has_place place i) ≡ true
      by_tests true true there either = let h = has_of i end there in let l = h.0 in has_at i place (omega (arith, l, less)) (goes h.0 h.1)
      by_tests true false there either = cc
      by_tests false y there either = refl

  all_kept : (place end : ℕ) (w : Into f place end) (is : List Interval) → Holds f place end w is → (a : ℕ) → keeps (filter (remains f.plan f.words.insts) is) a end ≡ true → keeps (filter (remains f.plan f.words.insts) is) a place ≡ true
  all_kept place end w [] hold a kept = refl
  all_kept place end w (i ∷ is) hold a kept = by_test (remains f.plan insts i) refl kept (all_kept place end w is hold.1 a)
    where
      by_test : (b : Bool) → remains f.plan f.words.insts i ≡ b → keeps (if b then i ∷ filter (remains f.plan f.words.insts) is else filter (remains f.plan f.words.insts) is) a end ≡ true
          → (keeps (filter (remains f.plan f.words.insts) is) a end ≡ true → keeps (filter (remains f.plan f.words.insts) is) a place ≡ true)
          → keeps (if b then i ∷ filter (remains f.plan f.words.insts) is else filter (remains f.plan f.words.insts) is) a place ≡ true
      by_test true stay kept more =
          let parts = and_parts (not (has_place a i) || has_place end i) (keeps (filter (remains f.plan insts) is) a end) kept in
          and_from (not (has_place a i) || has_place place i) (keeps (filter (remains f.plan insts) is) a place) (one_kept place end w.before i (hold.0 stay) a parts.0) (more parts.1)
      by_test false goes kept more = more kept

  pub joined_visible : (place : ℕ) (r : ResolvedPhi f place) → keeps_phis f.plan f.words.insts place ≡ false → (a : ℕ) → is_visible left a r.end ≡ true → is_visible left a place ≡ true
  unfolding intervals_left
  joined_visible place r none a visible =
      let s = seen left a r.end visible in
      let w = into place r none in
      let before = r.before in
      let less = s.0 in
      visible_by left a place (omega (arith, less, before)) (all_kept place r.end w (intervals_of f.valid.derivation) (all_hold place r w) a s.1)
