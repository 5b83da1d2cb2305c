-- How a block ends in the head of a selection or an OpSwitch, by its last two instructions.
use Rattle.std.proofs.Common.{◌≡◌, ℕ, ◌+◌, false, not, ◌==◌, ◌&&◌, nat_le, List, ◌∷◌, refl}
use Rattle.limits.specs.declared.TheConstants.{NESTING}
use Rattle.spirv_model.specs.declared.module.Inst.{Inst}
use Rattle.spirv_model.specs.declared.op.TheConstants as op
use Rattle.spirv_model.specs.Operands.{word_at}
use Rattle.body_model.specs.declared.block_end.BlockEnd.{BlockEnd}
use Rattle.body_model.specs.declared.block_end.BlockEnd.TheVariants as kind
use Rattle.body_model.specs.declared.block_end.SelectionHead.{SelectionHead}
use Rattle.body_model.specs.declared.block_end.SwitchHead.{SwitchHead}
use Rattle.body_model.specs.Scope.{Scope}
use Rattle.body_model.specs.Switches.{repeat, literals_of}
use Rattle.change_model.proofs.LeftEnds.{Way, exits, tests_true, tests_false, returns, kills, goes, selects, picks, loops}

pub record SelectsWay (old : Scope) (inst : Inst) (behind : List Inst) (place : ℕ) (head : SelectionHead) : Type 0 where
  pub last : Inst
  pub rest : List Inst
  pub is : inst.op ≡ op.SELECTION_MERGE
  pub at : behind ≡ last ∷ rest
  pub branch : last.op ≡ op.BRANCH_CONDITIONAL
  pub few : nat_le NESTING old.depth ≡ false
  pub differ : ((word_at 1 last == word_at 2 last) && not (word_at 1 last == word_at 0 inst)) ≡ false
  pub merge : head.merge ≡ word_at 0 inst
  pub on_true : head.on_true ≡ word_at 1 last
  pub on_false : head.on_false ≡ word_at 2 last
  pub after : head.after ≡ place + 2

pub record PicksWay (old : Scope) (inst : Inst) (behind : List Inst) (place : ℕ) (head : SwitchHead) : Type 0 where
  pub last : Inst
  pub rest : List Inst
  pub is : inst.op ≡ op.SELECTION_MERGE
  pub at : behind ≡ last ∷ rest
  pub switch : last.op ≡ op.SWITCH
  pub few : nat_le NESTING old.depth ≡ false
  pub once : repeat (literals_of last.words) ≡ false
  pub merge : head.merge ≡ word_at 0 inst
  pub default : head.default ≡ word_at 1 last
  pub after : head.after ≡ place + 2

abbrev pub HeadWay : Scope → Inst → List Inst → ℕ → BlockEnd → Type 0
HeadWay old inst behind place (kind.Selects head) = SelectsWay old inst behind place head
HeadWay old inst behind place (kind.Picks head) = PicksWay old inst behind place head
HeadWay old inst behind place other = Unit {0}

pub head_way : (old : Scope) (header : ℕ) (inst : Inst) (behind : List Inst) (place : ℕ) (end : BlockEnd) → Way old header inst behind place end → HeadWay old inst behind place end
head_way old header inst behind place end (selects {last} {rest} is at branch few differ) =
    record { last = last; rest = rest; is = is; at = at; branch = branch; few = few; differ = differ; merge = refl; on_true = refl; on_false = refl; after = refl }
head_way old header inst behind place end (picks {last} {rest} is at switch few once) =
    record { last = last; rest = rest; is = is; at = at; switch = switch; few = few; once = once; merge = refl; default = refl; after = refl }
head_way old header inst behind place end (exits is free to) = tt
head_way old header inst behind place end (tests_true is test apart) = tt
head_way old header inst behind place end (tests_false is test apart) = tt
head_way old header inst behind place end (returns is may) = tt
head_way old header inst behind place end (kills is may) = tt
head_way old header inst behind place end (goes is free to begins) = tt
head_way old header inst behind place end (loops is may at branch few free) = tt
