use Rattle.std.proofs.Common.{◌<◌, ◌≤◌, ◌+◌, ℕ, List, length, sym, ap, ◌∙◌, arith}
use Rattle.std.specs.Prelude.{slice_set, slice_index}
use Rattle.int_device.proofs.WordLists.{words_set_more, words_set_past}
use Rattle.int_device.proofs.target_samples.write_words.Goals as goal
use Rattle.int_device.proofs.target_samples.write_words.Goals.{then-place-i, else-place-i}

pub loop-i-preserved : goal.loop-i-preserved
loop-i-preserved c =
    let h : c.loop-i.i < length c.args.new.now = omega arith in
    elim c.if-place-i.branch [
      | then-place-i w ↦
          w.words-is ∙ w.set.ensures
          ∙ ap (λ (ws : List ℕ). slice_set ws (c.args.place + c.loop-i.i) (slice_index c.args.new.now c.loop-i.i)) c.loop-i.invariant
          ∙ sym (words_set_more c.args.place c.args.new.now c.args.words.now c.loop-i.i h)
      | else-place-i w ↦
          let past : length c.loop-i.words ≤ c.args.place + c.loop-i.i = omega (arith, c.len.ensures) in
          w.words-is ∙ words_set_past c.args.place c.args.new.now c.args.words.now c.loop-i.words c.loop-i.i h c.loop-i.invariant past
    ]
