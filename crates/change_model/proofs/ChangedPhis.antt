-- The phis of the list that a plan makes: each has the pairs that are left, and names the blocks that branch to its own.
use Rattle.std.proofs.Common.{◌≡◌, ℕ, ◌+◌, ◌<◌, ◌≤◌, ◌==◌, ◌&&◌, ◌||◌, inl, inr, Bool, true, false, not, if◌then◌else◌, List, [], ◌∷◌, ◌++◌, map, take, drop, slice_index, refl, ap, sym, ◌∙◌, arith}
use Rattle.std.specs.Prelude.{filter, is_some}
use Rattle.std.specs.List.{list_all}
use Rattle.std.proofs.lemmas.Bool.{eqb-true, eq-eqb}
use Rattle.basics.proofs.Bools.{first_of_both, second_of_both}
use Rattle.spirv_model.specs.declared.module.Inst.{Inst}
use Rattle.spirv_model.specs.declared.op.TheConstants as op
use Rattle.spirv_model.specs.Operands.{word_at, words_from, entry_of, kinds_in, kinds}
use Rattle.body_model.specs.Switches.{is_among, repeat}
use Rattle.body_model.specs.Targets.{targets}
use Rattle.valid_model.specs.Definitions.{inst_at}
use Rattle.check_model.specs.Branches.{Block, blocks_of, leads_to, predecessors}
use Rattle.check_model.specs.Visibility.{Incoming, incoming_in, incoming, incoming_blocks, are_those, names_predecessors}
use Rattle.typed_model.proofs.BlockLists.{Has, block_ends}
use Rattle.typed_model.proofs.FirstBlocks.{found_at}
use Rattle.change_model.specs.declared.fate.Fate.{Fate}
use Rattle.change_model.specs.declared.fate.Fate.TheVariants as fate
use Rattle.change_model.specs.Plans.{is_dead, targets_left, leads_from, is_led_by, predecessors_left, pairs_left, phi_left, block_at, changed}
use Rattle.change_model.specs.PlanRules.{pairs_in}
use Rattle.change_model.proofs.ChangedBlocks.{predecessors_changed, label_changed}
use Rattle.change_model.proofs.ChangedPlaces.{place_left}
use Rattle.change_model.proofs.LeftAlive.{only_among}
use Rattle.change_model.proofs.LeftRemains.{goes_among}
use Rattle.change_model.proofs.Planned.{Planned, inside, fits_there}

-- ---- pairs

abbrev pub renamed_pair : (ℕ → ℕ) → Incoming → Incoming
renamed_pair name pair = record { value = name pair.value; block = pair.block }

incoming_left : (name : ℕ → ℕ) (blocks words : List ℕ) → incoming_in (pairs_left name blocks words) ≡ map (renamed_pair name) (pairs_in blocks (incoming_in words))
incoming_left name blocks [] = refl
incoming_left name blocks (value ∷ []) = refl
incoming_left name blocks (value ∷ block ∷ words) = by_test (is_among block blocks) (incoming_left name blocks words)
  where
    by_test : (b : Bool) → incoming_in (pairs_left name blocks words) ≡ map (renamed_pair name) (pairs_in blocks (incoming_in words))
        → incoming_in (if b then name value ∷ block ∷ pairs_left name blocks words else pairs_left name blocks words)
        ≡ map (renamed_pair name) (if b then record { value = value; block = block } ∷ pairs_in blocks (incoming_in words) else pairs_in blocks (incoming_in words))
    by_test true same = ap (λ (l : List Incoming). record { value = name value; block = block } ∷ l) same
    by_test false same = same

-- the words of a phi behind the first two are its pairs
phi_words : (name : ℕ → ℕ) (blocks words : List ℕ) → is_some (kinds_in (entry_of op.PHI) words) ≡ true
    → (drop 2 (take 2 words ++ pairs_left name blocks (drop 2 words)) ≡ pairs_left name blocks (drop 2 words)) × (slice_index (take 2 words ++ pairs_left name blocks (drop 2 words)) 0 ≡ slice_index words 0)
unfolding entry_of
phi_words name blocks [] has = cc
phi_words name blocks (type ∷ []) has = cc
phi_words name blocks (type ∷ own ∷ words) has = (refl, refl)

phi_front : (name : ℕ → ℕ) (blocks : List ℕ) (inst : Inst) → inst.op == op.PHI ≡ true → is_some (kinds inst) ≡ true
    → (words_from 2 (phi_left name blocks inst) ≡ pairs_left name blocks (words_from 2 inst)) × (word_at 0 (phi_left name blocks inst) ≡ word_at 0 inst)
unfolding kinds
phi_front name blocks inst is has = phi_words name blocks inst.words (ap (λ (o : ℕ). is_some (kinds_in (entry_of o) inst.words)) (sym (eqb-true inst.op op.PHI is)) ∙ has)

-- the pairs of a phi that stays, and its type
pub phi_pairs : (name : ℕ → ℕ) (blocks : List ℕ) (inst : Inst) → inst.op == op.PHI ≡ true → is_some (kinds inst) ≡ true
    → (incoming (phi_left name blocks inst) ≡ map (renamed_pair name) (pairs_in blocks (incoming inst))) × (word_at 0 (phi_left name blocks inst) ≡ word_at 0 inst)
phi_pairs name blocks inst is has = let f = phi_front name blocks inst is has in (ap incoming_in f.0 ∙ incoming_left name blocks (words_from 2 inst), f.1)

-- ---- their blocks

abbrev blocks_in : List Incoming → List ℕ
blocks_in pairs = map (λ (pair : Incoming). pair.block) pairs

blocks_same : (name : ℕ → ℕ) (pairs : List Incoming) → blocks_in (map (renamed_pair name) pairs) ≡ blocks_in pairs
blocks_same name [] = refl
blocks_same name (pair ∷ pairs) = ap (λ (l : List ℕ). pair.block ∷ l) (blocks_same name pairs)

either_none : (a b : Bool) → (a || b) ≡ false → (a ≡ false) × (b ≡ false)
either_none true b none = cc
either_none false b none = (refl, none)

or_none : (a b : Bool) → a ≡ false → b ≡ false → (a || b) ≡ false
or_none a b first second = rw first second

or_right : (a b : Bool) → b ≡ true → (a || b) ≡ true
or_right true b is = refl
or_right false b is = is

or_left : (a b : Bool) → a ≡ true → (a || b) ≡ true
or_left true b is = refl
or_left false b is = cc

none_left : (blocks : List ℕ) (label : ℕ) (pairs : List Incoming) → is_among label (blocks_in pairs) ≡ false → is_among label (blocks_in (pairs_in blocks pairs)) ≡ false
none_left blocks label [] none = refl
none_left blocks label (pair ∷ pairs) none =
    let e = either_none (pair.block == label) (is_among label (blocks_in pairs)) none in
    by_test (is_among pair.block blocks) e.0 (none_left blocks label pairs e.1)
  where
    by_test : (b : Bool) → pair.block == label ≡ false → is_among label (blocks_in (pairs_in blocks pairs)) ≡ false → is_among label (blocks_in (if b then pair ∷ pairs_in blocks pairs else pairs_in blocks pairs)) ≡ false
    by_test true own rest = or_none (pair.block == label) (is_among label (blocks_in (pairs_in blocks pairs))) own rest
    by_test false own rest = rest

no_repeat : (blocks : List ℕ) (pairs : List Incoming) → repeat (blocks_in pairs) ≡ false → repeat (blocks_in (pairs_in blocks pairs)) ≡ false
no_repeat blocks [] none = refl
no_repeat blocks (pair ∷ pairs) none =
    let e = either_none (is_among pair.block (blocks_in pairs)) (repeat (blocks_in pairs)) none in
    by_test (is_among pair.block blocks) (none_left blocks pair.block pairs e.0) (no_repeat blocks pairs e.1)
  where
    by_test : (b : Bool) → is_among pair.block (blocks_in (pairs_in blocks pairs)) ≡ false → repeat (blocks_in (pairs_in blocks pairs)) ≡ false → repeat (blocks_in (if b then pair ∷ pairs_in blocks pairs else pairs_in blocks pairs)) ≡ false
    by_test true own rest = or_none (is_among pair.block (blocks_in (pairs_in blocks pairs))) (repeat (blocks_in (pairs_in blocks pairs))) own rest
    by_test false own rest = rest

both : (a b : Bool) → a ≡ true → b ≡ true → (a && b) ≡ true
both true b is also = also
both false b is also = cc

all_left : (blocks : List ℕ) (pairs : List Incoming) → list_all (λ (label : ℕ). is_among label blocks) (blocks_in (pairs_in blocks pairs)) ≡ true
all_left blocks [] = refl
all_left blocks (pair ∷ pairs) = by_test (is_among pair.block blocks) refl (all_left blocks pairs)
  where
    by_test : (b : Bool) → is_among pair.block blocks ≡ b → list_all (λ (label : ℕ). is_among label blocks) (blocks_in (pairs_in blocks pairs)) ≡ true
        → list_all (λ (label : ℕ). is_among label blocks) (blocks_in (if b then pair ∷ pairs_in blocks pairs else pairs_in blocks pairs)) ≡ true
    by_test true own rest = both (is_among pair.block blocks) (list_all (λ (label : ℕ). is_among label blocks) (blocks_in (pairs_in blocks pairs))) own rest
    by_test false own rest = rest

among_left : (blocks : List ℕ) (label : ℕ) (pairs : List Incoming) → is_among label (blocks_in pairs) ≡ true → is_among label blocks ≡ true → is_among label (blocks_in (pairs_in blocks pairs)) ≡ true
among_left blocks label [] among left = cc
among_left blocks label (pair ∷ pairs) among left = by_tests (pair.block == label) (is_among pair.block blocks) refl refl among (λ more. among_left blocks label pairs more left)
  where
    clash : {Q : Type 0} (b : Bool) → b ≡ true → b ≡ false → Q
    clash true is isnt = cc
    clash false is isnt = cc

    by_tests : (a b : Bool) → pair.block == label ≡ a → is_among pair.block blocks ≡ b → (a || is_among label (blocks_in pairs)) ≡ true
        → (is_among label (blocks_in pairs) ≡ true → is_among label (blocks_in (pairs_in blocks pairs)) ≡ true)
        → is_among label (blocks_in (if b then pair ∷ pairs_in blocks pairs else pairs_in blocks pairs)) ≡ true
    by_tests true true own stays among more = or_left (pair.block == label) _ own
    by_tests true false own goes among more = clash (is_among label blocks) left (ap (λ (l : ℕ). is_among l blocks) (sym (eqb-true pair.block label own)) ∙ goes)
    by_tests false true own stays among more = or_right (pair.block == label) _ (more among)
    by_tests false false own goes among more = more among

-- ---- tests of lists

all_by : (test : ℕ → Bool) (list : List ℕ) → ((label : ℕ) → is_among label list ≡ true → test label ≡ true) → list_all test list ≡ true
all_by test [] each = refl
all_by test (label ∷ list) each =
    both (test label) (list_all test list) (each label (or_left (label == label) (is_among label list) (eq-eqb label label refl))) (all_by test list (λ other among. each other (or_right (label == other) (is_among other list) among)))

pub one_of_all : (test : ℕ → Bool) (list : List ℕ) (label : ℕ) → list_all test list ≡ true → is_among label list ≡ true → test label ≡ true
one_of_all test [] label all among = cc
one_of_all test (own ∷ list) label all among = by_test (own == label) refl among (one_of_all test list label (second_of_both (test own) (list_all test list) all))
  where
    by_test : (b : Bool) → own == label ≡ b → (b || is_among label list) ≡ true → (is_among label list ≡ true → test label ≡ true) → test label ≡ true
    by_test true same among more = ap test (sym (eqb-true own label same)) ∙ first_of_both (test own) (list_all test list) all
    by_test false isnt among more = more among

pub three_of : (a b c : Bool) → (a && b && c) ≡ true → (a ≡ true) × (b ≡ true) × (c ≡ true)
three_of true true true is = (refl, refl, refl)
three_of true true false is = cc
three_of true false c is = cc
three_of false b c is = cc

pub not_true : (b : Bool) → not b ≡ true → b ≡ false
not_true true is = cc
not_true false is = refl

three : (a b c : Bool) → a ≡ true → b ≡ true → c ≡ true → (a && b && c) ≡ true
three a b c first second third = rw first (rw second third)

those_left : (pairs : List Incoming) (labels blocks : List ℕ) → are_those (blocks_in pairs) labels ≡ true → ((label : ℕ) → is_among label blocks ≡ true → is_among label labels ≡ true) → are_those (blocks_in (pairs_in blocks pairs)) blocks ≡ true
those_left pairs labels blocks are fewer =
    let p = three_of (not (repeat (blocks_in pairs))) (list_all (λ (label : ℕ). is_among label labels) (blocks_in pairs)) (list_all (λ (label : ℕ). is_among label (blocks_in pairs)) labels) are in
    three (not (repeat (blocks_in (pairs_in blocks pairs)))) (list_all (λ (label : ℕ). is_among label blocks) (blocks_in (pairs_in blocks pairs))) (list_all (λ (label : ℕ). is_among label (blocks_in (pairs_in blocks pairs))) blocks)
    (ap not (no_repeat blocks pairs (not_true (repeat (blocks_in pairs)) p.0)))
    (all_left blocks pairs)
    (all_by (λ (label : ℕ). is_among label (blocks_in (pairs_in blocks pairs))) blocks
    (λ label among. among_left blocks label pairs (one_of_all (λ (label : ℕ). is_among label (blocks_in pairs)) labels label p.2 (fewer label among)) among))

-- ---- predecessors

filtered_more : (p q : Block → Bool) (label : ℕ) (blocks : List Block) → ((block : Block) → Has blocks block → p block ≡ true → q block ≡ true)
    → is_among label (map (λ (b : Block). b.label) (filter p blocks)) ≡ true → is_among label (map (λ (b : Block). b.label) (filter q blocks)) ≡ true
filtered_more p q label [] each among = among
filtered_more p q label (block ∷ blocks) each among =
    by_tests (p block) (q block) refl refl among (filtered_more p q label blocks (λ other has. each other (inr has)))
  where
    clash : {Q : Type 0} (b : Bool) → b ≡ true → b ≡ false → Q
    clash true is isnt = cc
    clash false is isnt = cc

    by_label : (b : Bool) → (b || is_among label (map (λ (b : Block). b.label) (filter p blocks))) ≡ true
        → (is_among label (map (λ (b : Block). b.label) (filter p blocks)) ≡ true → is_among label (map (λ (b : Block). b.label) (filter q blocks)) ≡ true)
        → (b || is_among label (map (λ (b : Block). b.label) (filter q blocks))) ≡ true
    by_label true among more = refl
    by_label false among more = more among

    by_tests : (a b : Bool) → p block ≡ a → q block ≡ b → is_among label (map (λ (b : Block). b.label) (if a then block ∷ filter p blocks else filter p blocks)) ≡ true
        → (is_among label (map (λ (b : Block). b.label) (filter p blocks)) ≡ true → is_among label (map (λ (b : Block). b.label) (filter q blocks)) ≡ true)
        → is_among label (map (λ (b : Block). b.label) (if b then block ∷ filter q blocks else filter q blocks)) ≡ true
    by_tests true true own other among more = by_label (block.label == label) among more
    by_tests true false own other among more = clash (q block) (each block (inl refl) own) other
    by_tests false true own other among more = or_right (block.label == label) _ (more among)
    by_tests false false own other among more = more among

-- what still leads to a label led there
leads_among : (g : Planned) (label place : ℕ) → leads_from g.plan g.words.insts label place ≡ true → is_among label (targets (inst_at g.words.insts place)) ≡ true
leads_among g label place leads = by_fate (g.plan.fate place) refl leads
  where
    one : (to : ℕ) → is_among to (targets (inst_at g.words.insts place)) ≡ true → (b : Bool) → to == label ≡ b → (b || false) ≡ true → is_among label (targets (inst_at g.words.insts place)) ≡ true
    one to among true same is = ap (λ (l : ℕ). is_among l (targets (inst_at g.words.insts place))) (sym (eqb-true to label same)) ∙ among
    one to among false same is = cc

    by_fate : (what : Fate) → g.plan.fate place ≡ what → is_among label (targets_left what (inst_at g.words.insts place)) ≡ true → is_among label (targets (inst_at g.words.insts place)) ≡ true
    by_fate fate.Dead same leads = cc
    by_fate fate.Stays same leads = leads
    by_fate (fate.Goes to) same leads = one to (goes_among g.words g.valid g.zeros g.plan g.is place to same) (to == label) refl leads
    by_fate (fate.Picks to) same leads =
        let may = fits_there g place (fate.Picks to) same (inside g place (fate.Picks to) same refl) in
        one to (only_among g.plan g.words.insts (inst_at g.words.insts place) to may.only) (to == label) refl leads
    by_fate (fate.Folds scalar) same leads = leads
    by_fate fate.Nulls same leads = leads
    by_fate fate.Resolves same leads = leads
    by_fate fate.Skips same leads = leads
    by_fate fate.Unused same leads = leads

zero_plus : (n : ℕ) → 0 + n ≡ n
zero_plus n = omega arith

fewer_predecessors : (g : Planned) (label own : ℕ) → is_among own (predecessors_left g.plan g.words.insts label) ≡ true → is_among own (predecessors g.words.insts label) ≡ true
unfolding predecessors_left predecessors blocks_of
fewer_predecessors g label own among =
    filtered_more (is_led_by g.plan g.words.insts label) (leads_to label) own (blocks_of g.words.insts)
    (λ block has led.
    let e = block_ends 0 0 g.words.insts block has in
    let end : block.end ≡ e.index = ap (λ (b : Block). b.end) e.is ∙ zero_plus e.index in
    ap (is_among label) (ap (λ (b : Block). b.targets) e.is ∙ sym (ap targets (found_at g.words.insts e.index e.inst e.at)))
    ∙ leads_among g label e.index (ap (leads_from g.plan g.words.insts label) (sym end) ∙ led)) among

-- ---- a phi that stays

those_named : (insts : List Inst) (place : ℕ) → names_predecessors insts place ≡ true → are_those (incoming_blocks (inst_at insts place)) (predecessors insts (block_at insts place)) ≡ true
unfolding names_predecessors
those_named insts place names = names

names_by : (insts : List Inst) (place label : ℕ) (inst : Inst) (blocks : List ℕ) → inst_at insts place ≡ inst → block_at insts place ≡ label → predecessors insts label ≡ blocks → are_those (incoming_blocks inst) blocks ≡ true → names_predecessors insts place ≡ true
unfolding names_predecessors
names_by insts place label inst blocks at own are those =
    ap (λ (i : Inst). are_those (incoming_blocks i) (predecessors insts (block_at insts place))) at ∙ ap (λ (l : ℕ). are_those (incoming_blocks inst) (predecessors insts l)) own
    ∙ ap (are_those (incoming_blocks inst)) are ∙ those

-- it names the blocks that branch to its own in the new list
pub phi_changed : (g : Planned) (place : ℕ) → g.valid.derivation.before + 1 ≤ place → place < g.valid.derivation.after → (inst_at g.words.insts place).op == op.PHI ≡ true → is_some (kinds (inst_at g.words.insts place)) ≡ true
    → is_dead (g.plan.fate place) ≡ false → names_predecessors g.words.insts place ≡ true
    → inst_at (changed g.plan g.words.insts) (place_left g.plan g.words.insts place) ≡ phi_left g.plan.name (predecessors_left g.plan g.words.insts (block_at g.words.insts place)) (inst_at g.words.insts place)
    → names_predecessors (changed g.plan g.words.insts) (place_left g.plan g.words.insts place) ≡ true
phi_changed g place low high is has alive names at =
    let insts = g.words.insts in
    let inst = inst_at insts place in
    let own = block_at insts place in
    let blocks = predecessors_left g.plan insts own in
    let pairs = phi_pairs g.plan.name blocks inst is has in
    let isnt : inst.op == op.LABEL ≡ false = ap (λ (o : ℕ). o == op.LABEL) (eqb-true inst.op op.PHI is) in
    names_by (changed g.plan insts) (place_left g.plan insts place) own (phi_left g.plan.name blocks inst) blocks at (label_changed g place low high isnt alive) (predecessors_changed g own)
    (ap (λ (l : List ℕ). are_those l blocks) (ap blocks_in pairs.0 ∙ blocks_same g.plan.name (pairs_in blocks (incoming inst)))
    ∙ those_left (incoming inst) (predecessors insts own) blocks (those_named insts place names) (λ label among. fewer_predecessors g own label among))
