use Rattle.std.proofs.Common.{◌≡◌, ◌<◌, ◌≤◌, ◌+◌, ℕ, List, length, take, drop, sym, ap, ◌∙◌, arith}
use Rattle.std.specs.Prelude.{slice_set, slice_index}
use Rattle.draw_model.specs.Pixel.{stored_pixel}
use Rattle.int_device.specs.SampleRules.{four}
use Rattle.int_device.proofs.WordLists.{words_set_more, words_set_past}
use Rattle.int_device.proofs.SampleLaws.{component_stored, stored_length}
use Rattle.int_device.proofs.target_samples.write_components.Goals as goal
use Rattle.int_device.proofs.target_samples.write_components.Goals.{then-place-i, else-place-i}

pub loop-i-preserved : goal.loop-i-preserved
loop-i-preserved c =
    let a = c.args in
    let pixel = stored_pixel a.logic a.mask a.new (four (take a.size (drop a.place a.words.now))) in
    let h : c.loop-i.i < length pixel = stored_length a.logic a.mask a.new (four (take a.size (drop a.place a.words.now))) c.loop-i.i (omega arith) in
    let word : c.store_component-word.result ≡ slice_index pixel c.loop-i.i =
    component_stored a.logic a.mask a.new a.words.now c.loop-i.words a.place a.size c.loop-i.i c.word_at-old.result c.store_component-word.result (omega arith) (omega arith)
    c.loop-i.invariant (c.word_at-old.ensures ∙ ap (λ (ws : List ℕ). slice_index ws (a.place + c.loop-i.i)) c.as_slice.ensures) c.store_component-word.ensures in
    elim c.if-place-i.branch [
      | then-place-i w ↦
          w.words-is ∙ w.set.ensures
          ∙ ap (λ (n : ℕ). slice_set c.loop-i.words (a.place + c.loop-i.i) n) word
          ∙ ap (λ (ws : List ℕ). slice_set ws (a.place + c.loop-i.i) (slice_index pixel c.loop-i.i)) c.loop-i.invariant
          ∙ sym (words_set_more a.place pixel a.words.now c.loop-i.i h)
      | else-place-i w ↦
          let past : length c.loop-i.words ≤ a.place + c.loop-i.i = omega (arith, c.len.ensures) in
          w.words-is ∙ words_set_past a.place pixel a.words.now c.loop-i.words c.loop-i.i h c.loop-i.invariant past
    ]
