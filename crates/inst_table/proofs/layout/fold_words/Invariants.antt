use Rattle.std.proofs.Common.{◌≡◌, fold, take}
use Rattle.std.specs.Int.RustNames.{bit_xor}
use Rattle.inst_table.proofs.layout.fold_words.Given as goal

abbrev pub invariant-loop-word : goal.invariant-loop-word
invariant-loop-word l = l.all ≡ fold bit_xor 0 (take l.word-index l.words)
