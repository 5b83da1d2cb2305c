use Rattle.spv_exec.proofs.GatheredWords.{AreGathered}
use Rattle.spv_exec.proofs.composites.gather_words.Given as goal

-- the words of the first ids are written
abbrev pub invariant-loop-id : goal.invariant-loop-id
invariant-loop-id l = AreGathered l.of.insts l.front l.ids l.initial.to l.id-index l.at l.to
