-- The pairs of a phi of a valid module that are left.
use Rattle.std.proofs.Common.{◌≡◌, ℕ, ◌==◌, ◌||◌, Bool, true, false, if◌then◌else◌, List, [], ◌∷◌, ◌++◌, length, map, take, refl, ap, sym, ◌∙◌, Some, ◌<◌}
use Rattle.std.proofs.lemmas.Bool.{eq-eqb}
use Rattle.spirv_model.specs.declared.module.Inst.{Inst}
use Rattle.spirv_model.specs.declared.op.TheConstants as op
use Rattle.spirv_model.specs.Operands.{words_from}
use Rattle.body_model.specs.Switches.{is_among}
use Rattle.body_model.specs.Targets.{targets}
use Rattle.valid_model.specs.Definitions.{inst_at}
use Rattle.check_model.specs.Visibility.{Incoming, incoming_in, incoming_blocks}
use Rattle.change_model.specs.declared.fate.Fate.{Fate}
use Rattle.change_model.specs.declared.fate.Fate.TheVariants.{Dead, Goes, Picks}
use Rattle.change_model.specs.Plans.{targets_left, predecessors_left, pairs_left, phi_left, block_at, fate_in, name_in}
use Rattle.change_model.proofs.PredecessorsLeft.{phi_names}
use Rattle.id_table.specs.Tables.{at}
use Rattle.spv_rewrite.specs.declared.change.Change.{Change}
use Rattle.spv_rewrite.specs.Changes.{plan_in, IsOfModule}
use Rattle.spv_rewrite.specs.PhiPairs.{still_leads, is_left, pairs_by}

or_false : (b : Bool) → (b || false) ≡ b
or_false true = refl
or_false false = refl

-- a terminator that leads to a label
pub leads_still : (label : ℕ) (fate : Fate) (inst : Inst) → is_among label (targets inst) ≡ true → is_among label (targets_left fate inst) ≡ still_leads label fate
leads_still label Dead inst leads = refl
leads_still label (Goes target) inst leads = or_false (target == label)
leads_still label (Picks target) inst leads = or_false (target == label)
leads_still label fate inst leads = leads

-- a block that the phi at a place names
block_left : (change : Change) (known : IsOfModule change) (place block : ℕ) → place < length change.insts.now → (inst_at change.insts.now place).op == op.PHI ≡ true
    → is_among block (incoming_blocks (inst_at change.insts.now place)) ≡ true
    → is_among block (predecessors_left (plan_in change) change.insts.now (block_at change.insts.now place)) ≡ is_left change.fates.now (block_at change.insts.now place) (at change.ends block)
block_left change known place block within is among =
    let n = phi_names (plan_in change) (record { bound = known.bound; insts = change.insts.now }) known.valid place block within is among in
    let found : at change.ends block ≡ Some n.end = ap (at change.ends) (sym n.labelled) ∙ known.ends n.end n.within n.ends in
    n.same ∙ leads_still (block_at change.insts.now place) (fate_in change.fates.now n.end) (inst_at change.insts.now n.end) n.leads
    ∙ sym (ap (is_left change.fates.now (block_at change.insts.now place)) found)

or_left : (a b : Bool) → a ≡ true → (a || b) ≡ true
or_left true b is = refl
or_left false b is = cc

or_right : (a b : Bool) → b ≡ true → (a || b) ≡ true
or_right true b is = refl
or_right false b is = is

abbrev blocks_in : List ℕ → List ℕ
blocks_in words = map (λ (pair : Incoming). pair.block) (incoming_in words)

pairs_same : (name : ℕ → ℕ) (blocks : List ℕ) (stays : ℕ → Bool) (words : List ℕ) → ((block : ℕ) → is_among block (blocks_in words) ≡ true → is_among block blocks ≡ stays block)
    → pairs_left name blocks words ≡ pairs_by name stays words
pairs_same name blocks stays [] all = refl
pairs_same name blocks stays (value ∷ []) all = refl
pairs_same name blocks stays (value ∷ block ∷ words) all =
    let rest = pairs_same name blocks stays words (λ other among. all other (or_right (block == other) (is_among other (blocks_in words)) among)) in
    ap (λ (b : Bool). if b then name value ∷ block ∷ pairs_left name blocks words else pairs_left name blocks words) (all block (or_left (block == block) (is_among block (blocks_in words)) (eq-eqb block block refl)))
    ∙ ap (λ (l : List ℕ). if stays block then name value ∷ block ∷ l else l) rest

-- the phi at a place, where it stays
pub phi_same : (change : Change) (known : IsOfModule change) (place label : ℕ) → place < length change.insts.now → (inst_at change.insts.now place).op == op.PHI ≡ true → label ≡ block_at change.insts.now place
    → (phi_left (name_in change.names.now) (predecessors_left (plan_in change) change.insts.now (block_at change.insts.now place)) (inst_at change.insts.now place)).words
    ≡ take 2 (inst_at change.insts.now place).words ++ pairs_by (name_in change.names.now) (λ block. is_left change.fates.now label (at change.ends block)) (words_from 2 (inst_at change.insts.now place))
phi_same change known place label within is so =
    ap (λ (l : List ℕ). take 2 (inst_at change.insts.now place).words ++ l)
    (pairs_same (name_in change.names.now) _ (λ block. is_left change.fates.now label (at change.ends block)) (words_from 2 (inst_at change.insts.now place))
    (λ block among. block_left change known place block within is among ∙ ap (λ (l : ℕ). is_left change.fates.now l (at change.ends block)) (sym so)))
