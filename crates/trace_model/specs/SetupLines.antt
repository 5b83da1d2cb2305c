-- The forms of the lines that make objects other than libraries, by their fields after the first.
use Rattle.std.specs.Prelude.{ℕ, List, [], ◌∷◌, replicate, Option, None, Some}
use Rattle.limits.specs.declared.TheConstants.{PUSH_WORDS, DESCRIPTOR_SETS, DESCRIPTOR_BINDINGS, MAX_SIDE}
use Rattle.draw_model.specs.declared.framebuffer.TheConstants.{MAX_LAYERS}
use Rattle.draw_model.specs.declared.framebuffer.Target.{Target}
use Rattle.draw_model.specs.TargetWords.{target_size}
use Rattle.trace_model.specs.declared.limit.TheConstants.{BUFFER_WORDS, PIPE_LIBRARIES, RECORDERS}
use Rattle.trace_model.specs.Text.{◌>>=◌, word_value}
use Rattle.trace_model.specs.Fields.{each, exactly, at_most, some_of, number_value, range_value, below, flag_value, optional, samples_value, mask_value, format_value}
use Rattle.trace_model.specs.Lines.{Line, data_line, code_line, layout_line, pipe_line, target_line}

-- `data W*`
unfoldable pub data_form : List (List ℕ) → Option Line
data_form fields = at_most BUFFER_WORDS word_value fields >>= λ words. Some (data_line words)

-- `code W*`
unfoldable pub code_form : List (List ℕ) → Option Line
code_form fields = each word_value fields >>= λ words. Some (code_line words)

-- `layout I P S S S S`: independent, push words, and of each set the mask of its bindings or `-`
unfoldable pub layout_form : List (List ℕ) → Option Line
layout_form (independent ∷ push_words ∷ sets) =
    flag_value independent >>= λ independent.
    range_value 0 PUSH_WORDS push_words >>= λ push_words.
    exactly DESCRIPTOR_SETS (optional (mask_value DESCRIPTOR_BINDINGS)) sets >>= λ sets.
    Some (layout_line (record { independent = independent; push_words = push_words; sets = sets }))
layout_form fields = None

-- `pipe l+`
unfoldable pub pipe_form : List (List ℕ) → Option Line
pipe_form fields = some_of PIPE_LIBRARIES number_value fields >>= λ libraries. Some (pipe_line libraries)

-- a target whose words are all this one
abbrev pub cleared : Target → ℕ → Target
cleared target word = record target { words = replicate (target_size target) word }

-- `target r F W H Y N W`: recorder, format, width, height, layers, samples, and the word that clears each component
unfoldable pub target_form : List (List ℕ) → Option Line
target_form (recorder ∷ format ∷ width ∷ height ∷ layers ∷ samples ∷ clear ∷ []) =
    below RECORDERS recorder >>= λ recorder.
    format_value format >>= λ format.
    range_value 1 MAX_SIDE width >>= λ width.
    range_value 1 MAX_SIDE height >>= λ height.
    range_value 1 MAX_LAYERS layers >>= λ layers.
    samples_value samples >>= λ samples.
    word_value clear >>= λ clear.
    Some (target_line recorder (cleared (record {
      format = format;
      width = width;
      height = height;
      layers = layers;
      samples = samples;
      words = [];
    }) clear))
target_form fields = None
