use Rattle.std.proofs.Common.{ℕ, drop}
use Rattle.stage_model.specs.Program.{program_of}
use Rattle.spv_exec.specs.Chains.{ComesTo}
use Rattle.spv_exec.proofs.accesses.along.Given as goal

abbrev pub invariant-loop-id : goal.invariant-loop-id
invariant-loop-id l =
    (word : ℕ) → ComesTo (program_of l.of.insts) l.frame l.at l.held (drop l.id-index l.ids) word → ComesTo (program_of l.of.insts) l.frame l.begin l.ty l.ids word
