-- Answers that may be want of memory.
use Rattle.std.proofs.Common.{Bool, true, false, MatchBool}

-- a property that the fault has, whatever is said of want of memory
pub unless_memory : (b : Bool) (P : Type 0) → P → MatchBool b (Unit {0}) P
unless_memory true P h = tt
unless_memory false P h = h
