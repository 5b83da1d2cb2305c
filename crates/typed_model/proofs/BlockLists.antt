-- The blocks of a list: each terminator ends one, and each one ends at a terminator.
use Rattle.std.proofs.Common.{◌≡◌, ℕ, zero, suc, ◌+◌, ◌==◌, ◌||◌, ◌⊎◌, inl, inr, Bool, true, false, if◌then◌else◌, List, [], ◌∷◌, take, refl, ap, sym, ◌∙◌, subst, arith, Option, Some}
use Rattle.std.specs.Prelude.{map, filter, slice_get}
use Rattle.std.specs.List.{find}
use Rattle.std.proofs.lemmas.Bool.Decides.{nat_tests}
use Rattle.spirv_model.specs.declared.module.Inst.{Inst}
use Rattle.spirv_model.specs.declared.op.TheConstants.{LABEL}
use Rattle.spirv_model.specs.Operands.{word_at}
use Rattle.body_model.specs.Classes.{is_terminator}
use Rattle.body_model.specs.Switches.{is_among}
use Rattle.body_model.specs.Targets.{targets}
use Rattle.body_model.proofs.ClassFacts.{straight_label}
use Rattle.check_model.specs.Branches.{Block, blocks_from, leads_to, is_labelled, label_behind}
use Rattle.typed_model.proofs.BlockParts.{another}

-- the label behind one more instruction
abbrev pub next_label : Inst → ℕ → ℕ
next_label inst label = if inst.op == LABEL then word_at 0 inst else label

same_inst : (a b : Inst) → ◌≡◌ {A = Option Inst} (Some a) (Some b) → a ≡ b
same_inst a b is = cc

pub label_behind_next : (label : ℕ) (insts : List Inst) (place : ℕ) (inst : Inst) → slice_get insts place ≡ Some inst → label_behind label (take (suc place) insts) ≡ next_label inst (label_behind label (take place insts))
label_behind_next label [] place inst at = cc
label_behind_next label (first ∷ insts) zero inst at = ap (λ (i : Inst). next_label i label) (same_inst first inst at)
label_behind_next label (first ∷ insts) (suc place) inst at = label_behind_next (next_label first label) insts place inst at

-- ---- which blocks there are

abbrev pub Has : List Block → Block → Type 0
Has [] block = ⊥
Has (own ∷ blocks) block = (own ≡ block) ⊎ Has blocks block

-- the block that ends at a place
abbrev pub block_to : ℕ → ℕ → List Inst → ℕ → Inst → Block
block_to label place insts index inst = record { label = label_behind label (take index insts); end = place + index; targets = targets inst }

abbrev more_blocks : Bool → Bool → Inst → ℕ → ℕ → List Inst → List Block
more_blocks is_label ends inst label place insts =
    if is_label then blocks_from (word_at 0 inst) (place + 1) insts
    else if ends then record { label = label; end = place; targets = targets inst } ∷ blocks_from label (place + 1) insts
    else blocks_from label (place + 1) insts

abbrev label_by : Bool → Inst → ℕ → ℕ
label_by is_label inst label = if is_label then word_at 0 inst else label

in_more : (is_label ends : Bool) (inst : Inst) (label place : ℕ) (insts : List Inst) (block : Block) → Has (blocks_from (label_by is_label inst label) (place + 1) insts) block → Has (more_blocks is_label ends inst label place insts) block
in_more true ends inst label place insts block has = has
in_more false true inst label place insts block has = inr has
in_more false false inst label place insts block has = has

first_block : (is_label ends : Bool) (inst : Inst) (label place : ℕ) (insts : List Inst) → is_label ≡ false → ends ≡ true → Has (more_blocks is_label ends inst label place insts) (record { label = label; end = place; targets = targets inst })
first_block true ends inst label place insts isnt is = cc
first_block false true inst label place insts isnt is = inl refl
first_block false false inst label place insts isnt is = cc

moved : (label end other : ℕ) (named : List ℕ) → end ≡ other → ◌≡◌ {A = Block} (record { label = label; end = end; targets = named }) (record { label = label; end = other; targets = named })
moved label end other named is = ap (λ (n : ℕ). record { label = label; end = n; targets = named }) is

has_same : (blocks : List Block) (a b : Block) → a ≡ b → Has blocks a → Has blocks b
has_same [] a b is has = has
has_same (own ∷ blocks) a b is (inl first) = inl (first ∙ is)
has_same (own ∷ blocks) a b is (inr more) = inr (has_same blocks a b is more)

-- a terminator ends a block
pub blocks_have : (label place : ℕ) (insts : List Inst) (index : ℕ) (inst : Inst) → slice_get insts index ≡ Some inst → is_terminator inst.op ≡ true → Has (blocks_from label place insts) (block_to label place insts index inst)
blocks_have label place [] index inst at is = cc
blocks_have label place (first ∷ insts) zero inst at is =
    let e = same_inst first inst at in
    let ends : is_terminator first.op ≡ true = ap (λ (i : Inst). is_terminator i.op) e ∙ is in
    has_same (blocks_from label place (first ∷ insts)) _ _ (ap (λ (i : Inst). record { label = label; end = place; targets = targets i }) e ∙ moved label place (place + 0) (targets inst) (omega arith))
    (first_block (first.op == LABEL) (is_terminator first.op) first label place insts (another is_terminator LABEL straight_label first.op ends) ends)
blocks_have label place (first ∷ insts) (suc index) inst at is =
    has_same (blocks_from label place (first ∷ insts)) _ _ (moved _ (place + 1 + index) (place + suc index) (targets inst) (omega arith))
    (in_more (first.op == LABEL) (is_terminator first.op) first label place insts _ (blocks_have (next_label first label) (place + 1) insts index inst at is))

-- the terminator that ends a block
pub record EndsAt (label place : ℕ) (insts : List Inst) (block : Block) : Type 0 where
  pub index : ℕ
  pub inst : Inst
  pub at : slice_get insts index ≡ Some inst
  pub ends : is_terminator inst.op ≡ true
  pub is : block ≡ block_to label place insts index inst

further : (first : Inst) (label place : ℕ) (insts : List Inst) (block : Block) → EndsAt (next_label first label) (place + 1) insts block → EndsAt label place (first ∷ insts) block
further first label place insts block e = record { index = suc e.index; inst = e.inst; at = e.at; ends = e.ends; is = e.is ∙ moved _ (place + 1 + e.index) (place + suc e.index) (targets e.inst) (omega arith) }

pub block_ends : (label place : ℕ) (insts : List Inst) (block : Block) → Has (blocks_from label place insts) block → EndsAt label place insts block
block_ends label place [] block has = absurd has
block_ends label place (first ∷ insts) block has =
    by_tests (first.op == LABEL) (is_terminator first.op) refl refl has (λ l more. block_ends l (place + 1) insts block more)
  where
    by_tests : (is_label ends : Bool) → first.op == LABEL ≡ is_label → is_terminator first.op ≡ ends → Has (more_blocks is_label ends first label place insts) block
        → ((l : ℕ) → Has (blocks_from l (place + 1) insts) block → EndsAt l (place + 1) insts block) → EndsAt label place (first ∷ insts) block
    by_tests true ends of_label of_end has more = further first label place insts block (subst (λ l. EndsAt l (place + 1) insts block) (sym (ap (λ (b : Bool). label_by b first label) of_label)) (more (word_at 0 first) has))
    by_tests false true of_label of_end (inl is) more = record { index = 0; inst = first; at = refl; ends = of_end; is = sym is ∙ moved label place (place + 0) (targets first) (omega arith) }
    by_tests false true of_label of_end (inr has) more = further first label place insts block (subst (λ l. EndsAt l (place + 1) insts block) (sym (ap (λ (b : Bool). label_by b first label) of_label)) (more label has))
    by_tests false false of_label of_end has more = further first label place insts block (subst (λ l. EndsAt l (place + 1) insts block) (sym (ap (λ (b : Bool). label_by b first label) of_label)) (more label has))

-- ---- what is found among them

or_right : (a b : Bool) → b ≡ true → (a || b) ≡ true
or_right true b is = refl
or_right false b is = is

or_left : (a b : Bool) → a ≡ true → (a || b) ≡ true
or_left true b is = refl
or_left false b is = cc

self : (a : ℕ) → a == a ≡ true
self a = grind (arith, nat_tests)

equal : (a b : ℕ) → a == b ≡ true → a ≡ b
equal a b is = grind (arith, nat_tests)

-- a block that branches to a label is among the label's predecessors
pub among_predecessors : (label : ℕ) (blocks : List Block) (block : Block) → Has blocks block → leads_to label block ≡ true → is_among block.label (map (λ (b : Block). b.label) (filter (leads_to label) blocks)) ≡ true
among_predecessors label [] block has leads = absurd has
among_predecessors label (own ∷ blocks) block (inl is) leads =
    ap (λ (b : Block). is_among b.label (map (λ (b : Block). b.label) (filter (leads_to label) (own ∷ blocks)))) (sym is) ∙ by_test (leads_to label own) (ap (leads_to label) is ∙ leads)
  where
    by_test : (b : Bool) → b ≡ true → is_among own.label (map (λ (b : Block). b.label) (if b then own ∷ filter (leads_to label) blocks else filter (leads_to label) blocks)) ≡ true
    by_test true is = or_left (own.label == own.label) _ (self own.label)
    by_test false is = cc
among_predecessors label (own ∷ blocks) block (inr has) leads = by_test (leads_to label own) (among_predecessors label blocks block has leads)
  where
    by_test : (b : Bool) → is_among block.label (map (λ (b : Block). b.label) (filter (leads_to label) blocks)) ≡ true
        → is_among block.label (map (λ (b : Block). b.label) (if b then own ∷ filter (leads_to label) blocks else filter (leads_to label) blocks)) ≡ true
    by_test true is = or_right (own.label == block.label) _ is
    by_test false is = is

-- where a block has the label, the first with it is found
pub record Found (label : ℕ) (blocks : List Block) : Type 0 where
  pub block : Block
  pub is : find (is_labelled label) blocks ≡ Some block
  pub has : Has blocks block
  pub labelled : block.label ≡ label

pub block_found : (label : ℕ) (blocks : List Block) (block : Block) → Has blocks block → block.label ≡ label → Found label blocks
block_found label [] block has named = absurd has
block_found label (own ∷ blocks) block has named = by_test (is_labelled label own) refl has (λ more. block_found label blocks block more named)
  where
    first : (b : Bool) → b ≡ true → (if b then Some own else find (is_labelled label) blocks) ≡ Some own
    first true is = refl
    first false is = cc

    later : (b : Bool) → b ≡ false → (if b then Some own else find (is_labelled label) blocks) ≡ find (is_labelled label) blocks
    later true is = cc
    later false is = refl

    clash : is_labelled label own ≡ false → own ≡ block → ⊥
    clash isnt is = let e : own.label ≡ label = ap (λ (b : Block). b.label) is ∙ named in let f : own.label == own.label ≡ false = ap (λ (l : ℕ). own.label == l) e ∙ isnt in let g = self own.label in cc

    by_test : (b : Bool) → is_labelled label own ≡ b → Has (own ∷ blocks) block → (Has blocks block → Found label blocks) → Found label (own ∷ blocks)
    by_test true is has more = record { block = own; is = first (is_labelled label own) is; has = inl refl; labelled = equal own.label label is }
    by_test false is (inl here) more = absurd (clash is here)
    by_test false is (inr rest) more = let f = more rest in record { block = f.block; is = later (is_labelled label own) is ∙ f.is; has = inr f.has; labelled = f.labelled }
