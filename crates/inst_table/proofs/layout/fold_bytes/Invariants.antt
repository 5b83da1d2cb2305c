use Rattle.std.proofs.Common.{◌≡◌, fold, take}
use Rattle.std.specs.Int.RustNames.{bit_xor}
use Rattle.inst_table.proofs.layout.fold_bytes.Given as goal

abbrev pub invariant-loop-byte : goal.invariant-loop-byte
invariant-loop-byte l = l.all ≡ fold bit_xor 0 (take l.byte-index l.byte-items)
