use Rattle.std.proofs.Common.{◌≡◌, ◌+◌, true, take}
use Rattle.std.specs.List.{list_all, sum_by}
use Rattle.check_model.specs.CompositeOperands.{components_of, count_in, is_made_of}
use Rattle.spv_check.specs.TypingIn.{typing_in}
use Rattle.spv_check.proofs.composite_operands.vector_parts_fit.Given as goal

abbrev pub invariant-loop-id : goal.invariant-loop-id
invariant-loop-id l = record {
  made : list_all (λ id. is_made_of l.component (components_of (typing_in l.typing) id)) (take l.id-index l.parts) ≡ true;
  sum : l.left + sum_by (λ id. count_in (components_of (typing_in l.typing) id)) (take l.id-index l.parts) ≡ l.count;
}
