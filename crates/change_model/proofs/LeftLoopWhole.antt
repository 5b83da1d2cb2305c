-- What is made of a sequence whose first block ends in a loop.
use Rattle.std.proofs.Common.{◌≡◌, ℕ, false, List, ◌++◌, Option, None, Some}
use Rattle.spirv_model.specs.declared.module.Words.{Words}
use Rattle.body_model.specs.declared.block_end.BlockEnd.TheVariants as kind
use Rattle.body_model.specs.declared.block_end.LoopHead.{LoopHead}
use Rattle.body_model.specs.Blocks.{block_end}
use Rattle.body_model.specs.Due.{IsDue}
use Rattle.body_model.specs.Scope.{Scope, condition, body, continuing, behind_loop}
use Rattle.body_model.specs.Grammar.{Sequence}
use Rattle.check_model.specs.Intervals.{around, inside}
use Rattle.check_model.specs.Validity.{IsValidList}
use Rattle.change_model.specs.Plans.{Plan, is_dead}
use Rattle.change_model.specs.PlanRules.{IsPlan}
use Rattle.change_model.proofs.LeftCases.{Makes}
use Rattle.change_model.proofs.LeftLoopCases.{loops_case}
use Rattle.change_model.proofs.LeftLoopParts.{loop_at}
use Rattle.change_model.proofs.LeftScopes.{Placed}

module _ (words : Words) (v : IsValidList words) (zeros : List ℕ) (plan : Plan) (p : IsPlan words v zeros plan) (old : Scope) (wanted next : Option ℕ) (from to : ℕ) (head : LoopHead) (inner first second third : ℕ) (here : IsDue words.insts wanted from)
    (is : block_end words.insts old from ≡ kind.Loops head) (tested : Sequence words.insts (condition old head.merge) (Some head.test) head.after first (Some inner))
    (within : Sequence words.insts (body old head.merge head.next) (Some inner) first second None) (step : Sequence words.insts (continuing old head.header) (Some head.next) second third None)
    (rest : Sequence words.insts (behind_loop old) (Some head.merge) third to next)
    (placed : Placed words.insts v.derivation old next from to (around head.after first (inside tested) ++ (around first second (inside within) ++ (around second third (inside step) ++ inside rest)))) where
  pub loops_makes : is_dead (plan.fate from) ≡ false → (is_dead (plan.fate head.after) ≡ false → Makes words v plan (condition old head.merge) (Some inner) head.after first (inside tested))
      → (is_dead (plan.fate first) ≡ false → Makes words v plan (body old head.merge head.next) None first second (inside within))
      → (is_dead (plan.fate second) ≡ false → Makes words v plan (continuing old head.header) None second third (inside step))
      → (is_dead (plan.fate third) ≡ false → Makes words v plan (behind_loop old) next third to (inside rest))
      → Makes words v plan old next from to (around head.after first (inside tested) ++ (around first second (inside within) ++ (around second third (inside step) ++ inside rest)))
  loops_makes alive makes_tested makes_within makes_step makes_rest =
      loops_case words v zeros plan p old next from to head inner first second third (inside tested) (inside within) (inside step) (inside rest)
      (loop_at words v zeros plan p old wanted next from to head inner first second third here is tested within step rest placed makes_tested makes_within makes_step makes_rest) alive
