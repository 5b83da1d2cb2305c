use Rattle.std.proofs.Common.{◌≡◌, ◌&&◌, length}
use Rattle.std.specs.Prelude.{nat_lt}
use Rattle.std.specs.List.{list_all}
use Rattle.spirv_model.specs.Operands.{ids}
use Rattle.spv_words.proofs.operands.ids_are_below.Given as goal

-- all ids are below the bound where those that are left are
abbrev pub invariant-loop-id : goal.invariant-loop-id
invariant-loop-id l = list_all (λ id. nat_lt 0 id && nat_lt id l.bound) l.left ≡ list_all (λ id. nat_lt 0 id && nat_lt id l.bound) (ids l.inst)

abbrev pub decreases-loop-id : goal.decreases-loop-id
decreases-loop-id l = length l.left
