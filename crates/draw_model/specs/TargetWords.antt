-- Where a sample stands in a target's words, and what is read and written there (Vulkan specification, "The Framebuffer").
use Rattle.std.specs.Prelude.{ℕ, ◌+◌, ◌*◌, ◌==◌, Bool, ◌&&◌, nat_lt, if◌then◌else◌, List, [], ◌∷◌, take, drop, slice_get, slice_set, Option, None, Some}
use Rattle.std.specs.Option.{option_and_then}
use Rattle.state_model.specs.Lawful.{format_components}
use Rattle.draw_model.specs.declared.framebuffer.Target.{Target}
use Rattle.draw_model.specs.declared.framebuffer.Targets.{Targets}
use Rattle.draw_model.specs.Invocation.{Fragment}

-- the words of a sample; a depth is one word, as the formula also says
abbrev pub sample_size : Target → ℕ
sample_size target = format_components target.format

-- the pixel's number in the target: layer by layer, row by row
abbrev pub pixel_number : Target → (layer x y : ℕ) → ℕ
pixel_number target layer x y = (layer * target.height + y) * target.width + x

-- where the words of a sample begin
unfoldable pub sample_place : Target → (layer x y sample : ℕ) → ℕ
sample_place target layer x y sample = (pixel_number target layer x y * target.samples + sample) * sample_size target

-- the words of a target
abbrev pub target_size : Target → ℕ
target_size target = target.layers * target.height * target.width * target.samples * sample_size target

unfoldable pub sample_words : Target → Fragment → ℕ → List ℕ
sample_words target f sample = take (sample_size target) (drop (sample_place target f.layer f.x f.y sample) target.words)

-- words with these put in from a place on
abbrev pub words_set : ℕ → List ℕ → List ℕ → List ℕ
words_set place [] words = words
words_set place (word ∷ new) words = words_set (place + 1) new (slice_set words place word)

unfoldable pub with_sample : Target → Fragment → ℕ → List ℕ → Target
with_sample target f sample new =
    record target { words = words_set (sample_place target f.layer f.x f.y sample) (take (sample_size target) new) target.words }

unfoldable pub with_target : ℕ → Target → Targets → Targets
with_target number target targets = record { list = slice_set targets.list number target }

-- ---- which targets a fragment can be written to

abbrev pub has_pixel : Target → Fragment → Bool
has_pixel target f = nat_lt f.x target.width && nat_lt f.y target.height && nat_lt f.layer target.layers

abbrev pub suits : (format samples : ℕ) → Fragment → Target → Bool
suits format samples f target = (target.format == format) && (target.samples == samples) && has_pixel target f

abbrev pub if_suits : (format samples : ℕ) → Fragment → Target → Option Target
if_suits format samples f target = if suits format samples f target then Some target else None

-- the target with a number, where it has this format and sample count and the fragment's pixel and layer
unfoldable pub usable : Targets → (format samples : ℕ) → Fragment → ℕ → Option Target
usable targets format samples f number = option_and_then (if_suits format samples f) (slice_get targets.list number)
