-- The pairs of a phi that are left, as the program finds them.
use Rattle.std.proofs.Common.{◌≡◌, ℕ, ◌<◌, ◌==◌, ◌&&◌, inl, inr, Bool, true, nat_lt, if◌then◌else◌, List, [], ◌∷◌, length, filter, refl, ap, sym, ◌∙◌, Some}
use Rattle.std.proofs.lemmas.Option.{slice_get-get_or}
use Rattle.spirv_model.specs.declared.op.TheConstants as op
use Rattle.id_table.specs.Tables.{at}
use Rattle.valid_model.specs.Definitions.{inst_at, no_instruction}
use Rattle.check_model.specs.Visibility.{Incoming, incoming}
use Rattle.typed_model.proofs.LabelsBefore.{block_end_is, ends_in_function}
use Rattle.change_model.specs.Plans.{block_at, fate_in}
use Rattle.change_model.specs.Passes.{is_end_left, is_pair_left, pairs_found}
use Rattle.change_model.proofs.PhiPairsLeft.{In, in_blocks}
use Rattle.change_model.proofs.PredecessorsLeft.{phi_names}
use Rattle.spv_rewrite.specs.PhiPairs.{still_leads}
use Rattle.spv_rewrite.proofs.Pairs.{leads_still}
use Rattle.spec_fold.specs.Facts.{AreFacts}
use Rattle.spec_fold.specs.PhiPairs.{pairs_there, still_leads_from}
use Rattle.spec_fold.specs.Walks.{plan_in}
use Rattle.spec_fold.specs.declared.facts.Facts.{Facts}
use Rattle.spec_fold.specs.declared.walk.Walk.{Walk}

filter_same : (p q : Incoming → Bool) (pairs : List Incoming) → ((pair : Incoming) → In pair pairs → p pair ≡ q pair) → filter p pairs ≡ filter q pairs
filter_same p q [] same = refl
filter_same p q (pair ∷ pairs) same =
    ap (λ (b : Bool). if b then pair ∷ filter p pairs else filter p pairs) (same pair (inl refl))
    ∙ ap (λ (rest : List Incoming). if q pair then pair ∷ rest else rest) (filter_same p q pairs (λ other has. same other (inr has)))

is_op : (opcode known : ℕ) → opcode ≡ known → known == known ≡ true → opcode == known ≡ true
is_op opcode known is same = ap (λ (n : ℕ). n == known) is ∙ same

module _ (facts : Facts) (are : AreFacts facts) (walk : Walk) (place : ℕ) (within : place < length facts.of.now.insts) (is : (inst_at facts.of.now.insts place).op ≡ op.PHI)
    (so : walk.label ≡ block_at facts.of.now.insts place) where
  pair_same : (pair : Incoming) → In pair (incoming (inst_at facts.of.now.insts place))
      → still_leads_from walk walk.label place (at facts.ends pair.block) ≡ is_pair_left (plan_in walk) facts.of.now.insts place pair
  pair_same pair has =
      let insts = facts.of.now.insts in
      let v = are.valid in
      let n = phi_names (plan_in walk) facts.of.now v place pair.block within (is_op (inst_at insts place).op op.PHI is refl) (in_blocks pair (incoming (inst_at insts place)) has) in
      let i = ends_in_function facts.of.now v.derivation n.end (inst_at insts n.end) (slice_get-get_or insts n.end no_instruction n.within) n.ends in
      let found : at facts.ends pair.block ≡ Some n.end = ap (at facts.ends) (sym n.labelled) ∙ are.ends n.end n.within n.ends in
      ap (still_leads_from walk walk.label place) found
      ∙ ap (λ (b : Bool). nat_lt n.end place && b)
      (ap (λ (l : ℕ). still_leads l (fate_in walk.fates.items n.end)) so ∙ sym (leads_still (block_at insts place) (fate_in walk.fates.items n.end) (inst_at insts n.end) n.leads))
      ∙ ap (is_end_left (plan_in walk) insts place) (sym (block_end_is facts.of.now v n.end pair.block i.0 i.1 n.ends n.labelled))

  pub pairs_same : pairs_there facts walk place (incoming (inst_at facts.of.now.insts place)) ≡ pairs_found (plan_in walk) facts.of.now.insts place
  unfolding pairs_found
  pairs_same =
      let insts = facts.of.now.insts in
      filter_same (λ (pair : Incoming). still_leads_from walk walk.label place (at facts.ends pair.block)) (is_pair_left (plan_in walk) insts place) (incoming (inst_at insts place)) pair_same
