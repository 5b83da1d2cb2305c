use Rattle.std.proofs.Common.{◌≡◌, true, Some, None, sym}
use Rattle.trace_text.specs.Numbers.{capped_onto, is_numeral}
use Rattle.trace_text.proofs.CappedNumbers.{no_digits, the_number}
use Rattle.trace_text.proofs.number.Number.read.Goals as goal

pub returns-in_err-low : goal.returns-in_err-low
returns-in_err-low c =
    let numeral : is_numeral c.args.field.now ≡ true = cc in
    let none : capped_onto 0 c.args.field.now ≡ None = cc in
    let no = no_digits c.args.field.now numeral none in
    cc

pub invariant_of-result : goal.invariant_of-result
invariant_of-result c =
    let numeral : is_numeral c.args.field.now ≡ true = cc in
    let some : capped_onto 0 c.args.field.now ≡ Some c.in_ok-low.low = cc in
    (the_number c.args.field.now c.in_ok-low.low numeral some).1

pub returns : goal.returns
returns c =
    let numeral : is_numeral c.args.field.now ≡ true = cc in
    let some : capped_onto 0 c.args.field.now ≡ Some c.in_ok-low.low = cc in
    sym (the_number c.args.field.now c.in_ok-low.low numeral some).0
