-- Of the blocks that a phi names, those that still branch to its own.
use Rattle.std.proofs.Common.{◌≡◌, ℕ, ◌+◌, ◌<◌, ◌==◌, ◌&&◌, ◌||◌, inl, inr, Bool, true, false, not, if◌then◌else◌, List, [], ◌∷◌, length, map, take, refl, ap, sym, ◌∙◌, arith, Option, None, Some}
use Rattle.std.specs.Prelude.{filter}
use Rattle.std.specs.List.{find, list_all}
use Rattle.std.specs.Option.{option_map}
use Rattle.std.proofs.lemmas.Bool.{eqb-true, eq-eqb}
use Rattle.std.proofs.lemmas.Option.{slice_get_within}
use Rattle.basics.proofs.Bools.{first_of_both, second_of_both}
use Rattle.spirv_model.specs.declared.module.Inst.{Inst}
use Rattle.spirv_model.specs.declared.module.Words.{Words}
use Rattle.spirv_model.specs.declared.op.TheConstants as op
use Rattle.spirv_model.specs.Operands.{word_at}
use Rattle.body_model.specs.Classes.{is_terminator}
use Rattle.body_model.specs.Switches.{is_among, repeat}
use Rattle.body_model.specs.Targets.{targets}
use Rattle.valid_model.specs.Definitions.{inst_at}
use Rattle.check_model.specs.Branches.{Block, blocks_of, leads_to, predecessors, label_behind}
use Rattle.check_model.specs.Intervals.{Interval, intervals_of}
use Rattle.check_model.specs.Validity.{IsValidList}
use Rattle.check_model.specs.Visibility.{Use, incoming_blocks, names_predecessors, uses_at, is_visible_use, not_visible}
use Rattle.typed_model.proofs.BlockLists.{Has, EndsAt, block_ends}
use Rattle.typed_model.proofs.FirstBlocks.{found_at}
use Rattle.typed_model.proofs.LabelsBefore.{one_end, ends_in_function}
use Rattle.typed_model.proofs.ValidModules.{valid_seen}
use Rattle.change_model.specs.Plans.{Plan, leads_from, is_led_by, predecessors_left, block_at}

-- ---- blocks with a property

record Picked (p : Block → Bool) (blocks : List Block) (label : ℕ) : Type 0 where
  block : Block
  has : Has blocks block
  is : p block ≡ true
  labelled : block.label ≡ label

picked : (p : Block → Bool) (blocks : List Block) (label : ℕ) → is_among label (map (λ (block : Block). block.label) (filter p blocks)) ≡ true → Picked p blocks label
picked p [] label among = cc
picked p (own ∷ blocks) label among = by_test (p own) refl among (picked p blocks label)
  where
    further : Picked p blocks label → Picked p (own ∷ blocks) label
    further k = record { block = k.block; has = inr k.has; is = k.is; labelled = k.labelled }

    by_label : (b : Bool) → own.label == label ≡ b → p own ≡ true → (b || is_among label (map (λ (block : Block). block.label) (filter p blocks))) ≡ true
        → (is_among label (map (λ (block : Block). block.label) (filter p blocks)) ≡ true → Picked p blocks label) → Picked p (own ∷ blocks) label
    by_label true same is among more = record { block = own; has = inl refl; is = is; labelled = eqb-true own.label label same }
    by_label false isnt is among more = further (more among)

    by_test : (b : Bool) → p own ≡ b → is_among label (map (λ (block : Block). block.label) (if b then own ∷ filter p blocks else filter p blocks)) ≡ true
        → (is_among label (map (λ (block : Block). block.label) (filter p blocks)) ≡ true → Picked p blocks label) → Picked p (own ∷ blocks) label
    by_test true is among more = by_label (own.label == label) refl is among more
    by_test false isnt among more = further (more among)

or_left : (a b : Bool) → a ≡ true → (a || b) ≡ true
or_left true b is = refl
or_left false b is = cc

or_right : (a b : Bool) → b ≡ true → (a || b) ≡ true
or_right true b is = refl
or_right false b is = is

among_picked : (p : Block → Bool) (blocks : List Block) (block : Block) → Has blocks block → p block ≡ true → is_among block.label (map (λ (b : Block). b.label) (filter p blocks)) ≡ true
among_picked p [] block has is = absurd has
among_picked p (own ∷ blocks) block (inl same) is =
    ap (λ (b : Block). is_among b.label (map (λ (b : Block). b.label) (filter p (own ∷ blocks)))) (sym same) ∙ by_test (p own) (ap p same ∙ is)
  where
    by_test : (b : Bool) → b ≡ true → is_among own.label (map (λ (b : Block). b.label) (if b then own ∷ filter p blocks else filter p blocks)) ≡ true
    by_test true is = or_left (own.label == own.label) _ (eq-eqb own.label own.label refl)
    by_test false is = cc
among_picked p (own ∷ blocks) block (inr has) is = by_test (p own) (among_picked p blocks block has is)
  where
    by_test : (b : Bool) → is_among block.label (map (λ (b : Block). b.label) (filter p blocks)) ≡ true
        → is_among block.label (map (λ (b : Block). b.label) (if b then own ∷ filter p blocks else filter p blocks)) ≡ true
    by_test true is = or_right (own.label == block.label) _ is
    by_test false is = is

-- ---- the phi names blocks that branch to its own

names : (intervals : List Interval) (insts : List Inst) (place : ℕ) → not_visible intervals insts place ≡ None → (inst_at insts place).op == op.PHI ≡ true → names_predecessors insts place ≡ true
unfolding not_visible
names intervals insts place none is =
    by_tests ((inst_at insts place).op == op.PHI) (names_predecessors insts place)
    (option_map (λ (used : Use). used.id) (find (λ used. not (is_visible_use intervals insts used)) (uses_at insts place (inst_at insts place)))) is refl none
  where
    by_tests : (b named : Bool) (other : Option ℕ) → b ≡ true → names_predecessors insts place ≡ named → (if b && not named then Some (word_at 1 (inst_at insts place)) else other) ≡ None → names_predecessors insts place ≡ true
    by_tests true true other is all none = all
    by_tests true false other is all none = cc
    by_tests false named other is all none = cc

second_of : (a b c : Bool) → (a && b && c) ≡ true → b ≡ true
second_of true true c is = refl
second_of true false c is = cc
second_of false b c is = cc

all_among : (named labels : List ℕ) (label : ℕ) → list_all (λ label. is_among label labels) named ≡ true → is_among label named ≡ true → is_among label labels ≡ true
all_among [] labels label all among = cc
all_among (own ∷ named) labels label all among =
    by_test (own == label) refl among (all_among named labels label (second_of_both (is_among own labels) (list_all (λ label. is_among label labels) named) all))
  where
    by_test : (b : Bool) → own == label ≡ b → (b || is_among label named) ≡ true → (is_among label named ≡ true → is_among label labels ≡ true) → is_among label labels ≡ true
    by_test true same among more = ap (λ (l : ℕ). is_among l labels) (sym (eqb-true own label same)) ∙ first_of_both (is_among own labels) (list_all (λ label. is_among label labels) named) all
    by_test false isnt among more = more among

named_block : (insts : List Inst) (place block : ℕ) → names_predecessors insts place ≡ true → is_among block (incoming_blocks (inst_at insts place)) ≡ true
    → is_among block (predecessors insts (block_at insts place)) ≡ true
unfolding names_predecessors
named_block insts place block names among =
    all_among (incoming_blocks (inst_at insts place)) (predecessors insts (block_at insts place)) block (second_of (not (repeat (incoming_blocks (inst_at insts place)))) _ _ names) among

-- ---- it is left where its terminator still leads there

same_tests : (a b : Bool) → (a ≡ true → b ≡ true) → (b ≡ true → a ≡ true) → a ≡ b
same_tests true b to from = sym (to refl)
same_tests false true to from = from refl
same_tests false false to from = refl

-- where the block with a label, which branches to that of a place, ends, and whether it is among those that are left
pub record IsNamed (plan : Plan) (insts : List Inst) (place block : ℕ) : Type 0 where
  pub end : ℕ
  pub within : end < length insts
  pub ends : is_terminator (inst_at insts end).op ≡ true
  pub labelled : label_behind 0 (take end insts) ≡ block
  pub leads : is_among (block_at insts place) (targets (inst_at insts end)) ≡ true
  pub same : is_among block (predecessors_left plan insts (block_at insts place)) ≡ leads_from plan insts (block_at insts place) end

zero_plus : (n : ℕ) → 0 + n ≡ n
zero_plus n = omega arith

-- the terminator of a block
terminates : (insts : List Inst) (block : Block) (e : EndsAt 0 0 insts block) → is_terminator (inst_at insts e.index).op ≡ true
terminates insts block e = ap (λ (i : Inst). is_terminator i.op) (found_at insts e.index e.inst e.at) ∙ e.ends

ends_there : (insts : List Inst) (block : Block) (e : EndsAt 0 0 insts block) → block.end ≡ e.index
ends_there insts block e = ap (λ (b : Block). b.end) e.is ∙ zero_plus e.index

label_there : (insts : List Inst) (block : Block) (e : EndsAt 0 0 insts block) → label_behind 0 (take e.index insts) ≡ block.label
label_there insts block e = sym (ap (λ (b : Block). b.label) e.is)

same_end : (words : Words) (v : IsValidList words) (a b : Block) (e : EndsAt 0 0 words.insts a) (f : EndsAt 0 0 words.insts b) → a.label ≡ b.label → e.index ≡ f.index
same_end words v a b e f same =
    let i = ends_in_function words v.derivation e.index e.inst e.at e.ends in
    let j = ends_in_function words v.derivation f.index f.inst f.at f.ends in
    one_end words v e.index f.index i.0 i.1 j.0 j.1 (terminates words.insts a e) (terminates words.insts b f) (label_there words.insts a e ∙ (same ∙ sym (label_there words.insts b f)))

left_same : (plan : Plan) (words : Words) (v : IsValidList words) (label block : ℕ) (own : Block) → Has (blocks_of words.insts) own → own.label ≡ block → (e : EndsAt 0 0 words.insts own)
    → is_among block (predecessors_left plan words.insts label) ≡ leads_from plan words.insts label e.index
unfolding predecessors_left blocks_of
left_same plan words v label block own has labelled e =
    same_tests (is_among block (map (λ (block : Block). block.label) (filter (is_led_by plan words.insts label) (blocks_of words.insts)))) (leads_from plan words.insts label e.index)
    (λ among.
    let q = picked (is_led_by plan words.insts label) (blocks_of words.insts) block among in
    let f = block_ends 0 0 words.insts q.block q.has in
    ap (leads_from plan words.insts label) (same_end words v own q.block e f (labelled ∙ sym q.labelled) ∙ sym (ends_there words.insts q.block f)) ∙ q.is)
    (λ leads.
    ap (λ (l : ℕ). is_among l (map (λ (block : Block). block.label) (filter (is_led_by plan words.insts label) (blocks_of words.insts)))) (sym labelled)
    ∙ among_picked (is_led_by plan words.insts label) (blocks_of words.insts) own has (ap (leads_from plan words.insts label) (ends_there words.insts own e) ∙ leads))

-- a block that a phi names
pub phi_names : (plan : Plan) (words : Words) (v : IsValidList words) (place block : ℕ) → place < length words.insts → (inst_at words.insts place).op == op.PHI ≡ true
    → is_among block (incoming_blocks (inst_at words.insts place)) ≡ true → IsNamed plan words.insts place block
unfolding predecessors blocks_of
phi_names plan words v place block within is among =
    let insts = words.insts in
    let n = names (intervals_of v.derivation) insts place (valid_seen words v place within) is in
    let p = picked (leads_to (block_at insts place)) (blocks_of insts) block (named_block insts place block n among) in
    let e = block_ends 0 0 insts p.block p.has in
    record {
      end = e.index;
      within = slice_get_within insts e.index e.inst e.at;
      ends = terminates insts p.block e;
      labelled = label_there insts p.block e ∙ p.labelled;
      leads = ap (λ (t : List ℕ). is_among (block_at insts place) t) (ap targets (found_at insts e.index e.inst e.at) ∙ sym (ap (λ (b : Block). b.targets) e.is)) ∙ p.is;
      same = left_same plan words v (block_at insts place) block p.block p.has p.labelled e;
    }
