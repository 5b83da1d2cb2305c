use Rattle.std.proofs.Common.{◌≡◌, ◌+◌, ◌≤◌, length}
use Rattle.spirv_model.specs.Module.{cut, list_of_cut}
use Rattle.spv_words.specs.Pieces.{with_front}
use Rattle.spv_words.specs.Writing.{AreShort}
use Rattle.spv_words.proofs.read.list.Given as goal

-- what was listed and what is left are the whole, and no word is listed twice
abbrev pub invariant-loop-first : goal.invariant-loop-first
invariant-loop-first l =
    record {
      whole : with_front l.insts (list_of_cut (length l.insts) (cut l.rest)) ≡ list_of_cut 0 (cut l.fn.words);
      few : length l.insts + length l.rest ≤ length l.fn.words;
      short : AreShort l.insts;
    }

abbrev pub decreases-loop-first : goal.decreases-loop-first
decreases-loop-first l = length l.rest
