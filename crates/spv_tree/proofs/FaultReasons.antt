-- A fault of a part is one of the whole; and what is known of a block that is due.
use Rattle.std.proofs.Common.{◌≡◌, ℕ, Bool, true, false, List, Option, sym}
use Rattle.std.specs.Prelude.{MatchBool}
use Rattle.spirv_model.specs.declared.module.Inst.{Inst}
use Rattle.body_model.specs.declared.block_end.BlockEnd.{BlockEnd}
use Rattle.body_model.specs.declared.block_end.BlockEnd.TheVariants.{Broken, Ends, GoesOn, Selects, Picks, Loops}
use Rattle.body_model.specs.declared.fault.TreeFault.{TreeFault}
use Rattle.body_model.specs.Scope.{Scope}
use Rattle.body_model.specs.Blocks.{block_end}
use Rattle.body_model.specs.Due.{IsDue}
use Rattle.body_model.specs.Faults.{HasFault}
use Rattle.body_model.proofs.Forward.{sound_at}
use Rattle.spv_tree.specs.Answers.{is_memory}
use Rattle.spv_tree.specs.Parts.{FaultIf, IsBlock}
use Rattle.spv_tree.proofs.SwitchEnds.{last_switch}

by_memory : (A B H : Type 0) (b : Bool) → (A → B) → MatchBool b (Unit {0}) (B → H) → MatchBool b (Unit {0}) (A → H)
by_memory A B H true go is = tt
by_memory A B H false go is = λ a. is (go a)

-- what gives the reason of a fault is a reason itself
pub reason : (A B : Type 0) (insts : List Inst) (fault : TreeFault) → (A → B) → FaultIf B insts fault → FaultIf A insts fault
reason A B insts fault go is = by_memory A B (HasFault insts fault) (is_memory fault) go is

at_once : (A H : Type 0) (b : Bool) → (A → H) → MatchBool b (Unit {0}) (A → H)
at_once A H true is = tt
at_once A H false is = is

pub reason_for : (A : Type 0) (insts : List Inst) (fault : TreeFault) → (A → HasFault insts fault) → FaultIf A insts fault
reason_for A insts fault is = at_once A (HasFault insts fault) (is_memory fault) is

block_is : (insts : List Inst) (scope : Scope) (wanted : Option ℕ) (place : ℕ) (end : BlockEnd) → IsDue insts wanted place → block_end insts scope place ≡ end → IsBlock insts scope wanted place end
block_is insts scope wanted place (Broken fault) here is = record { here = here; is = is }
block_is insts scope wanted place (Ends last) here is =
    let b = (sound_at insts scope place (Ends last) is).0 in record { here = here; is = is; forward = b.forward; within = b.within }
block_is insts scope wanted place (GoesOn after) here is =
    let b = sound_at insts scope place (GoesOn after) is in record { here = here; is = is; forward = b.forward; within = b.within }
block_is insts scope wanted place (Selects head) here is =
    let b = sound_at insts scope place (Selects head) is in
    record { stands = record { here = here; is = is; forward = b.0.forward; within = b.0.within }; depth = b.1 }
block_is insts scope wanted place (Picks head) here is =
    let b = sound_at insts scope place (Picks head) is in
    record { opens = record { stands = record { here = here; is = is; forward = b.0.forward; within = b.0.within }; depth = b.1 }; last = last_switch insts scope place head is }
block_is insts scope wanted place (Loops head) here is =
    let b = sound_at insts scope place (Loops head) is in
    record { stands = record { here = here; is = is; forward = b.0.forward; within = b.0.within }; depth = b.1 }

pub block_found : (insts : List Inst) (scope : Scope) (wanted : Option ℕ) (place : ℕ) (end : BlockEnd) → end ≡ block_end insts scope place → IsDue insts wanted place → IsBlock insts scope wanted place end
block_found insts scope wanted place end is here = block_is insts scope wanted place end here (sym is)
