use Rattle.std.proofs.Common.{◌≡◌, length}
use Rattle.spirv_model.specs.Operands.{listed_of}
use Rattle.spv_words.specs.Ids.{ids_left}
use Rattle.spv_words.proofs.operands.OperandIds.next_id.Given as goal

-- no id was passed
abbrev pub invariant-loop-self : goal.invariant-loop-self
invariant-loop-self l =
    ids_left (listed_of l.self-inside.operands) l.self-inside.operands.rest l.self-inside.words.now ≡ ids_left (listed_of l.initial.self-inside.operands) l.initial.self-inside.operands.rest l.initial.self-inside.words.now

abbrev pub decreases-loop-self : goal.decreases-loop-self
decreases-loop-self l = length l.self-inside.words.now
