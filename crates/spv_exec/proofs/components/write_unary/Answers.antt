use Rattle.std.proofs.Common.{◌≡◌, ℕ, ◌+◌, ◌<◌, ◌≤◌, List, length, get_or, map, sym, ap, ◌∙◌, arith}
use Rattle.spv_ops.specs.ScalarWords.{word_of_one}
use Rattle.frame_model.specs.Shown.{words_at}
use Rattle.spv_exec.proofs.ComponentLoops.{kept, next_word, length_mapped, mapped_word}
use Rattle.spv_exec.proofs.components.write_unary.Goals as goal

pub loop-k-preserved : goal.loop-k-preserved
loop-k-preserved c =
    let xs : List ℕ = c.args.frame.now in
    let k = c.loop-k.k in
    let new : List ℕ = map (word_of_one c.args.op) (words_at xs c.args.from c.args.count) in
    let long = length_mapped (word_of_one c.args.op) xs c.args.from c.args.count c.requires.within in
    let room : c.args.at + length new ≤ length xs = (let r = c.requires.room in omega (arith, r, long)) in
    let less : k < c.args.count = c.loop-k-test.true in
    let read : get_or c.loop-k.frame (c.args.from + k) 0 ≡ get_or xs (c.args.from + k) 0 =
    ap (λ (l : List ℕ). get_or l (c.args.from + k) 0) c.loop-k.invariant ∙ kept xs new c.args.at k c.args.count c.args.from room long less c.requires.apart in
    next_word xs c.loop-k.frame new c.args.at k c.unary_word.result c.loop-k.invariant room (omega (arith, less, long))
    (c.unary_word.ensures.is ∙ (ap (word_of_one c.args.op) read ∙ sym (mapped_word (word_of_one c.args.op) xs c.args.from c.args.count k c.requires.within less)))
