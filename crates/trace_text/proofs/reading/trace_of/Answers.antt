use Rattle.std.proofs.Common.{ℕ, ◌==◌, ◌≤◌, ◌+◌, List, length, subst, sym, arith}
use Rattle.std.proofs.lemmas.List.Splits.{length-slice_split}
use Rattle.std.proofs.lemmas.List.Sums.{count_by-le-length}
use Rattle.trace_text.specs.Answers.{parts_of}
use Rattle.trace_text.proofs.reading.trace_of.Goals as goal

-- there is one part more than separators
few_parts : (separator : ℕ) (bytes : List ℕ) → length (parts_of separator bytes) ≤ length bytes + 1
few_parts separator bytes = omega (arith, length-slice_split (λ b. b == separator) bytes, count_by-le-length (λ b. b == separator) bytes)

pub trace_of_texts-requires : goal.trace_of_texts-requires
trace_of_texts-requires c =
    let few : length (parts_of 10 c.args.bytes.now) ≤ length c.args.bytes.now + 1 = few_parts 10 c.args.bytes.now in
    subst (λ (texts : List (List ℕ)). length texts ≤ 16777217) (sym c.new-lines.ensures) (omega (arith, few))
