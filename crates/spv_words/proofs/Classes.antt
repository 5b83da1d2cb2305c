-- No opcode has more than 16 bits.
use Rattle.std.proofs.Common.{◌≡◌, ℕ, ◌≤◌, None, sym, ap, arith}
use Rattle.spirv_model.specs.Operands.{class_in, class_of}
use Rattle.spv_words.proofs.RowNumbers.{entry_by_number, number_past}

pub class_past_opcodes : (op : ℕ) → 65536 ≤ op → class_of op ≡ None
unfolding class_of
class_past_opcodes op past = ap class_in (entry_by_number op 0 (sym (number_past op (omega (arith, past)))))
