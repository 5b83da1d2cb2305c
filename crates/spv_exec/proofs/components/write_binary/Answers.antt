use Rattle.std.proofs.Common.{◌≡◌, ℕ, ◌+◌, ◌<◌, ◌≤◌, List, length, get_or, sym, ap, ◌∙◌, arith}
use Rattle.spv_ops.specs.ScalarWords.{word_of_two}
use Rattle.frame_model.specs.Shown.{words_at}
use Rattle.frame_model.specs.Componentwise.{on_both}
use Rattle.spv_exec.proofs.ComponentLoops.{kept, next_word, all_written, length_on_both, on_both_word}
use Rattle.spv_exec.proofs.components.write_binary.Goals as goal

pub loop-k-preserved : goal.loop-k-preserved
loop-k-preserved c =
    let xs : List ℕ = c.args.frame.now in
    let k = c.loop-k.k in
    let f : ℕ → ℕ → ℕ = word_of_two c.args.op in
    let new : List ℕ = on_both f (words_at xs c.args.left c.args.count) (words_at xs c.args.right c.args.count) in
    let long = length_on_both f xs c.args.left c.args.right c.args.count c.requires.left_within c.requires.right_within in
    let room : c.args.at + length new ≤ length xs = (let r = c.requires.room in omega (arith, r, long)) in
    let less : k < c.args.count = c.loop-k-test.true in
    let of_left : get_or c.loop-k.frame (c.args.left + k) 0 ≡ get_or xs (c.args.left + k) 0 =
    ap (λ (l : List ℕ). get_or l (c.args.left + k) 0) c.loop-k.invariant ∙ kept xs new c.args.at k c.args.count c.args.left room long less c.requires.left_apart in
    let of_right : get_or c.loop-k.frame (c.args.right + k) 0 ≡ get_or xs (c.args.right + k) 0 =
    ap (λ (l : List ℕ). get_or l (c.args.right + k) 0) c.loop-k.invariant ∙ kept xs new c.args.at k c.args.count c.args.right room long less c.requires.right_apart in
    next_word xs c.loop-k.frame new c.args.at k c.binary_word.result c.loop-k.invariant room (omega (arith, less, long))
    (c.binary_word.ensures.is ∙ (ap (λ (w : ℕ). f w (get_or c.loop-k.frame (c.args.right + k) 0)) of_left ∙ (ap (f (get_or xs (c.args.left + k) 0)) of_right
    ∙ sym (on_both_word f xs c.args.left c.args.right c.args.count k c.requires.left_within c.requires.right_within less))))

pub returns : goal.returns
returns c =
    let xs : List ℕ = c.args.frame.now in
    let f : ℕ → ℕ → ℕ = word_of_two c.args.op in
    let long = length_on_both f xs c.args.left c.args.right c.args.count c.requires.left_within c.requires.right_within in
    let past = c.loop-k-test.false in
    all_written xs c.loop-k.frame (on_both f (words_at xs c.args.left c.args.count) (words_at xs c.args.right c.args.count)) c.args.at c.loop-k.k c.loop-k.invariant (omega (arith, long, past))
