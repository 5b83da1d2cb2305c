-- The pairs of a phi that are left: each comes from a block that isn't dead, at whose end its value is visible.
use Rattle.std.proofs.Common.{◌≡◌, ℕ, ◌+◌, ◌<◌, ◌≤◌, ◌==◌, ◌||◌, ◌⊎◌, inl, inr, Bool, true, false, if◌then◌else◌, List, [], ◌∷◌, length, map, refl, ap, sym, ◌∙◌, Option, Some}
use Rattle.std.specs.Prelude.{filter}
use Rattle.std.specs.List.{list_all}
use Rattle.std.specs.Option.{unwrap_or}
use Rattle.std.proofs.lemmas.Bool.{eq-eqb}
use Rattle.std.proofs.lemmas.Option.{slice_get-get_or}
use Rattle.basics.proofs.Bools.{first_of_both, second_of_both}
use Rattle.spirv_model.specs.declared.module.Inst.{Inst}
use Rattle.spirv_model.specs.declared.op.TheConstants as op
use Rattle.spirv_model.specs.Operands.{word_at}
use Rattle.body_model.specs.Classes.{is_terminator}
use Rattle.body_model.specs.Switches.{is_among}
use Rattle.valid_model.specs.Definitions.{definition, inst_at, no_instruction}
use Rattle.check_model.specs.Branches.{block_end_of}
use Rattle.check_model.specs.Intervals.{intervals_of}
use Rattle.check_model.specs.Visibility.{use_at, Incoming, incoming, incoming_use, is_defined_for, is_visible_use}
use Rattle.typed_model.proofs.LabelsBefore.{ends_in_function, block_end_is}
use Rattle.typed_model.proofs.ValidModules.{valid_seen}
use Rattle.change_model.specs.declared.fate.Fate.{Fate}
use Rattle.change_model.specs.declared.fate.Fate.TheVariants as fate
use Rattle.change_model.specs.Plans.{Plan, is_dead, targets_left, leads_from, predecessors_left, block_at}
use Rattle.change_model.proofs.Planned.{Planned}
use Rattle.change_model.proofs.PredecessorsLeft.{phi_names}
use Rattle.change_model.proofs.VisibleUses.{all_mapped, phi_seen}

-- ---- pairs in a list

abbrev pub In : Incoming → List Incoming → Type 0
In pair [] = ⊥
In pair (own ∷ pairs) = (own ≡ pair) ⊎ In pair pairs

pub in_all : (test : Incoming → Bool) (pair : Incoming) (pairs : List Incoming) → In pair pairs → list_all test pairs ≡ true → test pair ≡ true
in_all test pair [] has all = absurd has
in_all test pair (own ∷ pairs) (inl same) all = ap test (sym same) ∙ first_of_both (test own) (list_all test pairs) all
in_all test pair (own ∷ pairs) (inr more) all = in_all test pair pairs more (second_of_both (test own) (list_all test pairs) all)

or_left : (a b : Bool) → a ≡ true → (a || b) ≡ true
or_left true b is = refl
or_left false b is = cc

or_right : (a b : Bool) → b ≡ true → (a || b) ≡ true
or_right true b is = refl
or_right false b is = is

pub in_blocks : (pair : Incoming) (pairs : List Incoming) → In pair pairs → is_among pair.block (map (λ (p : Incoming). p.block) pairs) ≡ true
in_blocks pair [] has = absurd has
in_blocks pair (own ∷ pairs) (inl same) = or_left (own.block == pair.block) _ (eq-eqb own.block pair.block (ap (λ (p : Incoming). p.block) same))
in_blocks pair (own ∷ pairs) (inr more) = or_right (own.block == pair.block) _ (in_blocks pair pairs more)

pub in_filtered : (test : Incoming → Bool) (pairs : List Incoming) (pair : Incoming) (rest : List Incoming) → filter test pairs ≡ pair ∷ rest → In pair pairs × (test pair ≡ true)
in_filtered test [] pair rest is = cc
in_filtered test (own ∷ pairs) pair rest is = by_test (test own) refl is (λ more. in_filtered test pairs pair rest more)
  where
    one : (a b : Incoming) (xs ys : List Incoming) → a ∷ xs ≡ b ∷ ys → a ≡ b
    one a b xs ys is = cc

    by_test : (b : Bool) → test own ≡ b → (if b then own ∷ filter test pairs else filter test pairs) ≡ pair ∷ rest → (filter test pairs ≡ pair ∷ rest → In pair pairs × (test pair ≡ true))
        → In pair (own ∷ pairs) × (test pair ≡ true)
    by_test true passes is more = let e = one own pair (filter test pairs) rest is in (inl e, ap test (sym e) ∙ passes)
    by_test false fails is more = let r = more is in (inr r.0, r.1)

-- ---- a pair that is left

pub record PairLeft (g : Planned) (pair : Incoming) : Type 0 where
  pub end : ℕ
  pub low : g.valid.derivation.before + 1 ≤ end
  pub high : end < g.valid.derivation.after
  pub ends : is_terminator (inst_at g.words.insts end).op ≡ true
  pub alive : is_dead (g.plan.fate end) ≡ false
  pub block_end : block_end_of g.words.insts pair.block ≡ Some end
  pub seen : is_defined_for (intervals_of g.valid.derivation) end (definition g.words.insts pair.value) ≡ true

-- what still leads somewhere isn't dead
pub leads_alive : (plan : Plan) (insts : List Inst) (label place : ℕ) → leads_from plan insts label place ≡ true → is_dead (plan.fate place) ≡ false
leads_alive plan insts label place leads = by_fate (plan.fate place) leads
  where
    by_fate : (what : Fate) → is_among label (targets_left what (inst_at insts place)) ≡ true → is_dead what ≡ false
    by_fate fate.Dead leads = cc
    by_fate fate.Stays leads = refl
    by_fate (fate.Goes to) leads = refl
    by_fate (fate.Picks to) leads = refl
    by_fate (fate.Folds scalar) leads = refl
    by_fate fate.Nulls leads = refl
    by_fate fate.Resolves leads = refl
    by_fate fate.Skips leads = refl
    by_fate fate.Unused leads = refl

pub pair_left : (g : Planned) (place : ℕ) (pair : Incoming) → place < length g.words.insts → (inst_at g.words.insts place).op == op.PHI ≡ true → In pair (incoming (inst_at g.words.insts place))
    → is_among pair.block (predecessors_left g.plan g.words.insts (block_at g.words.insts place)) ≡ true → PairLeft g pair
pair_left g place pair within is has left =
    let insts = g.words.insts in
    let intervals = intervals_of g.valid.derivation in
    let n = phi_names g.plan g.words g.valid place pair.block within is (in_blocks pair (incoming (inst_at insts place)) has) in
    let at = slice_get-get_or insts n.end no_instruction n.within in
    let i = ends_in_function g.words g.valid.derivation n.end (inst_at insts n.end) at n.ends in
    let end_is = block_end_is g.words g.valid n.end pair.block i.0 i.1 n.ends n.labelled in
    let f = (phi_seen intervals insts place (valid_seen g.words g.valid place within) is).1 in
    let all = sym (all_mapped (is_visible_use intervals insts) (incoming_use insts place) (incoming (inst_at insts place)))
    ∙ second_of_both (is_visible_use intervals insts (use_at place (word_at 0 (inst_at insts place)))) (list_all (is_visible_use intervals insts) (map (incoming_use insts place) (incoming (inst_at insts place)))) f in
    record {
      end = n.end;
      low = i.0;
      high = i.1;
      ends = n.ends;
      alive = leads_alive g.plan insts (block_at insts place) n.end (sym n.same ∙ left);
      block_end = end_is;
      seen = ap (λ (o : Option ℕ). is_defined_for intervals (unwrap_or o place) (definition insts pair.value)) (sym end_is) ∙ in_all (λ pair. is_visible_use intervals insts (incoming_use insts place pair)) pair (incoming (inst_at insts place)) has all;
    }
