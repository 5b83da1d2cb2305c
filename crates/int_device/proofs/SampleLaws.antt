-- What the rules of a draw make of a sample is what the definitions make of it.
use Rattle.std.proofs.Common.{◌≡◌, ℕ, zero, suc, ◌+◌, ◌<◌, Bool, true, if◌then◌else◌, List, length, take, drop, refl, ap, sym, ◌∙◌, arith}
use Rattle.std.specs.Prelude.{Option, slice_index}
use Rattle.state_model.specs.declared.parts.Attachment.{Attachment}
use Rattle.draw_model.specs.declared.framebuffer.Target.{Target}
use Rattle.draw_model.specs.Pixel.{has_bit, stored_component, stored_pixel, written_component}
use Rattle.draw_model.specs.Invocation.{Fragment}
use Rattle.draw_model.specs.TargetWords.{sample_words, with_sample, suits, words_set}
use Rattle.int_device.specs.SampleRules.{four, with_write_in}
use Rattle.int_device.proofs.WordLists.{component_within, length_take_at_most, words_set_front}

-- only four words of what was there count
four_stored : (logic : Option ℕ) (mask : ℕ) (words old : List ℕ) → stored_pixel logic mask words (four old) ≡ stored_pixel logic mask words old
unfolding stored_pixel
four_stored logic mask words old = refl

pub written : (attachment : Attachment) (logic : Option ℕ) (samples : ℕ) (f : Fragment) (words : List ℕ) (sample : ℕ) (t : Target) → suits attachment.format samples f t ≡ true →
    with_sample t f sample (stored_pixel logic attachment.write_mask words (four (sample_words t f sample))) ≡ with_write_in attachment logic samples f words sample t
written attachment logic samples f words sample t h =
    rw h (ap (with_sample t f sample) (four_stored logic attachment.write_mask words (sample_words t f sample)))

-- ---- component by component

pub stored_length : (logic : Option ℕ) (mask : ℕ) (words old : List ℕ) (i : ℕ) → i < 4 → i < length (stored_pixel logic mask words old)
unfolding stored_pixel
stored_length logic mask words old i h = h

stored_at : (logic : Option ℕ) (mask : ℕ) (words old : List ℕ) (i : ℕ) → i < 4 → stored_component logic mask words old i ≡ slice_index (stored_pixel logic mask words (four old)) i
unfolding stored_pixel
stored_at logic mask words old zero h = refl
stored_at logic mask words old (suc zero) h = refl
stored_at logic mask words old (suc (suc zero)) h = refl
stored_at logic mask words old (suc (suc (suc zero))) h = refl
stored_at logic mask words old (suc (suc (suc (suc i)))) h = absurd (omega (arith, h))

-- a component over the word that stands there, once those before it are stored
pub component_stored : (logic : Option ℕ) (mask : ℕ) (words old now : List ℕ) (place size i read word : ℕ) → i < size → i < 4
    → now ≡ words_set place (take i (stored_pixel logic mask words (four (take size (drop place old))))) old → read ≡ slice_index now (place + i)
    → word ≡ (if has_bit mask i then written_component logic (slice_index words i) read else read)
    → word ≡ slice_index (stored_pixel logic mask words (four (take size (drop place old)))) i
component_stored logic mask words old now place size i read word within few is was new =
    let pixel = stored_pixel logic mask words (four (take size (drop place old))) in
    let front = length_take_at_most i pixel in
    let there : read ≡ slice_index (take size (drop place old)) i =
    was ∙ ap (λ (ws : List ℕ). slice_index ws (place + i)) is ∙ words_set_front (take i pixel) old place (place + i) (omega (arith, front)) ∙ component_within old place size i within in
    new ∙ ap (λ (n : ℕ). if has_bit mask i then written_component logic (slice_index words i) n else n) there ∙ stored_at logic mask words (take size (drop place old)) i few
