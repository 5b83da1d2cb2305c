-- The pairs of a phi in the plan that one pass finds: where the block of each ends, and whether that is left.
use Rattle.std.proofs.Common.{◌≡◌, ℕ, ◌<◌, ◌==◌, ◌||◌, ◌&&◌, inl, inr, Bool, true, false, not, nat_lt, List, [], ◌∷◌, map, length, refl, ap, arith, Some}
use Rattle.std.specs.List.{list_all}
use Rattle.std.proofs.lemmas.Bool.{eqb-true, eq-eqb}
use Rattle.std.proofs.lemmas.Option.{slice_get-get_or}
use Rattle.spirv_model.specs.declared.module.Inst.{Inst}
use Rattle.spirv_model.specs.declared.op.TheConstants as op
use Rattle.body_model.specs.Classes.{is_terminator}
use Rattle.body_model.specs.Switches.{is_among, repeat}
use Rattle.body_model.specs.Targets.{targets}
use Rattle.valid_model.specs.Definitions.{inst_at, no_instruction}
use Rattle.check_model.specs.Branches.{blocks_of, predecessors, block_end_of}
use Rattle.check_model.specs.Intervals.{intervals_of}
use Rattle.check_model.specs.Visibility.{Incoming, incoming, incoming_blocks, names_predecessors}
use Rattle.typed_model.proofs.BlockLists.{block_to, blocks_have, among_predecessors}
use Rattle.typed_model.proofs.FunctionRuns.{function_within}
use Rattle.typed_model.proofs.LabelsBefore.{ends_in_function, block_end_is}
use Rattle.typed_model.proofs.ValidModules.{valid_seen}
use Rattle.change_model.specs.Plans.{leads_from, predecessors_left, block_at}
use Rattle.change_model.specs.Passes.{is_end_left, is_pair_left}
use Rattle.change_model.proofs.ChangedPhis.{one_of_all, three_of, not_true}
use Rattle.change_model.proofs.FoundPlans.{Found}
use Rattle.change_model.proofs.LeftLeaves.{named_terminator}
use Rattle.change_model.proofs.PhiPairsLeft.{In, in_blocks}
use Rattle.change_model.proofs.PredecessorsLeft.{phi_names}
use Rattle.change_model.proofs.VisibleUses.{phi_seen}

-- a pair with a block that is named
pub record PairOf (pairs : List Incoming) (block : ℕ) : Type 0 where
  pub pair : Incoming
  pub has : In pair pairs
  pub own : pair.block ≡ block

pair_among : (pairs : List Incoming) (block : ℕ) → is_among block (map (λ (p : Incoming). p.block) pairs) ≡ true → PairOf pairs block
pair_among [] block among = cc
pair_among (first ∷ pairs) block among = by_test (first.block == block) refl among (λ more. pair_among pairs block more)
  where
    by_test : (b : Bool) → first.block == block ≡ b → (b || is_among block (map (λ (p : Incoming). p.block) pairs)) ≡ true → (is_among block (map (λ (p : Incoming). p.block) pairs) ≡ true → PairOf pairs block) → PairOf (first ∷ pairs) block
    by_test true same some more = record { pair = first; has = inl refl; own = eqb-true first.block block same }
    by_test false differ some more = let r = more some in record { pair = r.pair; has = inr r.has; own = r.own }

named_once : (insts : List Inst) (place : ℕ) → names_predecessors insts place ≡ true → repeat (incoming_blocks (inst_at insts place)) ≡ false
unfolding names_predecessors
named_once insts place names = not_true (repeat (incoming_blocks (inst_at insts place))) (three_of (not (repeat (incoming_blocks (inst_at insts place)))) _ _ names).0

-- a block that leads to that of the phi is named
named_block : (insts : List Inst) (place from : ℕ) → names_predecessors insts place ≡ true → from < length insts → is_among (block_at insts place) (targets (inst_at insts from)) ≡ true → is_among (block_at insts from) (incoming_blocks (inst_at insts place)) ≡ true
unfolding names_predecessors predecessors blocks_of
named_block insts place from names within leads =
    one_of_all (λ (label : ℕ). is_among label (incoming_blocks (inst_at insts place))) (predecessors insts (block_at insts place)) (block_at insts from)
    (three_of (not (repeat (incoming_blocks (inst_at insts place)))) (list_all (λ (label : ℕ). is_among label (predecessors insts (block_at insts place))) (incoming_blocks (inst_at insts place)))
    (list_all (λ (label : ℕ). is_among label (incoming_blocks (inst_at insts place))) (predecessors insts (block_at insts place))) names).2
    (among_predecessors (block_at insts place) (blocks_of insts) (block_to 0 0 insts from (inst_at insts from))
    (blocks_have 0 0 insts from (inst_at insts from) (slice_get-get_or insts from no_instruction within) (named_terminator (inst_at insts from) (block_at insts place) leads)) leads)

module _ (f : Found) (place : ℕ) (low : f.valid.derivation.before < place) (high : place < f.valid.derivation.after) (is : (inst_at f.words.insts place).op ≡ op.PHI) where
  abbrev insts : List Inst
  insts = f.words.insts

  abbrev label : ℕ
  label = block_at f.words.insts place

  abbrev pairs : List Incoming
  pairs = incoming (inst_at f.words.insts place)

  is_phi : (inst_at insts place).op == op.PHI ≡ true
  is_phi = eq-eqb (inst_at insts place).op op.PHI is

  named : names_predecessors insts place ≡ true
  named = (phi_seen (intervals_of f.valid.derivation) insts place (valid_seen f.words f.valid place (function_within insts f.valid.derivation place high)) is_phi).0

  pub pairs_once : repeat (incoming_blocks (inst_at insts place)) ≡ false
  pairs_once = named_once insts place named

  pub leading_pair : (from : ℕ) → from < place → is_among label (targets (inst_at insts from)) ≡ true → PairOf pairs (block_at insts from)
  leading_pair from less leads =
      let w = function_within insts f.valid.derivation place high in
      pair_among pairs (block_at insts from) (named_block insts place from named (omega (arith, w, less)) leads)

  -- where the block of a pair ends
  pub record PairEnd (pair : Incoming) : Type 0 where
    pub end : ℕ
    pub within : end < length insts
    pub own : block_at insts end ≡ pair.block
    pub ends : is_terminator (inst_at insts end).op ≡ true
    pub there : block_end_of insts pair.block ≡ Some end
    pub left : is_among pair.block (predecessors_left f.plan insts label) ≡ leads_from f.plan insts label end

  pub pair_end : (pair : Incoming) → In pair pairs → PairEnd pair
  pair_end pair has =
      let n = phi_names f.plan f.words f.valid place pair.block (function_within insts f.valid.derivation place high) is_phi (in_blocks pair pairs has) in
      let i = ends_in_function f.words f.valid.derivation n.end (inst_at insts n.end) (slice_get-get_or insts n.end no_instruction n.within) n.ends in
      record { end = n.end; within = n.within; own = n.labelled; ends = n.ends; there = block_end_is f.words f.valid n.end pair.block i.0 i.1 n.ends n.labelled; left = n.same }

  -- what the pass sees of it
  pub pair_left : (pair : Incoming) (e : PairEnd pair) → is_pair_left f.plan insts place pair ≡ (nat_lt e.end place && leads_from f.plan insts label e.end)
  pair_left pair e = ap (is_end_left f.plan insts place) e.there
