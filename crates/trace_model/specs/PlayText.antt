-- What is printed of a trace: its targets and refused draws (`play`), its modules (`check`) and its pipes (`links`).
use Rattle.std.specs.Prelude.{ℕ, zero, suc, ◌-◌, ◌*◌, false, true, List, [], ◌∷◌, ◌++◌, length, take, drop, codes, slice_index_or, is_some, Option, None, Some}
use Rattle.std.specs.List.{flat_map, count_by, enumerate_from, join_by, range_with_len}
use Rattle.std.specs.Fmt.{decimal}
use Rattle.spirv_model.specs.declared.module.Words.{Words}
use Rattle.spirv_model.specs.Module.{module_words}
use Rattle.state_model.specs.declared.iface.Iface.{Iface}
use Rattle.state_model.specs.declared.rule.Rule.{Rule}
use Rattle.state_model.specs.declared.rule.Rule.TheVariants.{L1, L2, L3, L4, L5, L6, L7, L8, L9, L10}
use Rattle.state_model.specs.Link.{failed_rule}
use Rattle.check_model.specs.declared.stage.Stage.{Stage}
use Rattle.check_model.specs.declared.stage.Stage.TheVariants.{Vertex, Fragment}
use Rattle.check_model.specs.Interfaces.{stage_of, inputs_of, outputs_of}
use Rattle.draw_model.specs.declared.framebuffer.Target.{Target}
use Rattle.draw_model.specs.TargetWords.{sample_size}
use Rattle.trace_model.specs.declared.whole.Trace.{Trace}
use Rattle.trace_model.specs.Text.{word_text}
use Rattle.trace_model.specs.Fields.{format_names}
use Rattle.trace_model.specs.SpecIds.{spec_ids_of}
use Rattle.trace_model.specs.Pipes.{pipe_libraries}
use Rattle.trace_model.specs.Playing.{final_targets, refused_draws}

-- texts with a space between them, and a line feed behind
abbrev pub line_text : List (List ℕ) → List ℕ
line_text fields = join_by (λ field. field) (codes " ") fields ++ codes "\n"

-- ---- targets

-- so many pieces of a list, each of the same length
abbrev pub pieces : (count size : ℕ) → List ℕ → List (List ℕ)
pieces zero size words = []
pieces (suc count) size words = take size words ∷ pieces count size (drop size words)

-- the words of a sample, separated by commas
abbrev pub sample_text : List ℕ → List ℕ
sample_text words = join_by word_text (codes ",") words

abbrev pub samples_size : Target → ℕ
samples_size target = target.samples * sample_size target

-- the samples of a pixel, separated by slashes
abbrev pub pixel_text : Target → List ℕ → List ℕ
pixel_text target words = join_by sample_text (codes "/") (pieces target.samples (sample_size target) words)

-- the pixels of a row, separated by spaces
abbrev pub row_text : Target → List ℕ → List ℕ
row_text target words = join_by (pixel_text target) (codes " ") (pieces target.width (samples_size target) words) ++ codes "\n"

abbrev pub format_text : ℕ → List ℕ
format_text format = slice_index_or format_names (format - 1) []

-- the line that names a target, by its number
abbrev pub heading_text : ℕ → Target → List ℕ
heading_text number target = line_text
    (codes "target" ∷ decimal number ∷ format_text target.format ∷ decimal target.width ∷ decimal target.height
    ∷ decimal target.layers ∷ decimal target.samples ∷ [])

-- the rows of all layers, one after the other
abbrev pub rows_text : Target → List ℕ
rows_text target =
    flat_map (row_text target) (pieces (target.layers * target.height) (target.width * samples_size target) target.words)

abbrev pub target_text : (ℕ × Target) → List ℕ
target_text (number, target) = heading_text number target ++ rows_text target

unfoldable pub targets_text : List Target → List ℕ
targets_text targets = flat_map target_text (enumerate_from 0 targets)

-- ---- rules

abbrev pub rule_text : Rule → List ℕ
rule_text L1 = codes "L1"
rule_text L2 = codes "L2"
rule_text L3 = codes "L3"
rule_text L4 = codes "L4"
rule_text L5 = codes "L5"
rule_text L6 = codes "L6"
rule_text L7 = codes "L7"
rule_text (L8 location) = codes "L8@" ++ decimal location
rule_text (L9 location) = codes "L9@" ++ decimal location
rule_text L10 = codes "L10"

abbrev pub refused_text : (ℕ × Rule) → List ℕ
refused_text (draw, rule) = line_text (codes "refused" ∷ decimal draw ∷ rule_text rule ∷ [])

-- ---- `play`

-- these targets and refused draws
abbrev pub result_text : List Target → List (ℕ × Rule) → List ℕ
result_text targets refused = targets_text targets ++ flat_map refused_text refused

unfoldable pub play_text : Trace → List ℕ
play_text trace = result_text (final_targets trace).list (refused_draws trace)

-- ---- `links`

abbrev pub link_text : Option Rule → List ℕ
link_text None = codes "ok"
link_text (Some rule) = rule_text rule

-- a pipe as it is linked fast, and as it is linked optimised
abbrev pub pipe_text : Trace → ℕ → List ℕ
pipe_text trace pipe = line_text
    (codes "pipe" ∷ decimal pipe ∷ link_text (failed_rule (pipe_libraries trace pipe) false)
    ∷ link_text (failed_rule (pipe_libraries trace pipe) true) ∷ [])

unfoldable pub links_text : Trace → List ℕ
links_text trace = flat_map (pipe_text trace) (range_with_len 0 (length trace.pipes))

-- ---- `check`

abbrev pub stage_text : Stage → List ℕ
stage_text Vertex = codes "vertex"
stage_text Fragment = codes "fragment"

-- how many locations an interface has
abbrev pub location_count : Iface → ℕ
location_count interface = count_by is_some interface.slots

-- a module: its stage, the numbers of its inputs, outputs and specialization ids, and of its words as they are written
abbrev pub module_text : (ℕ × Words) → List ℕ
module_text (number, read) = line_text
    (codes "code" ∷ decimal number ∷ stage_text (stage_of read.insts) ∷ decimal (location_count (inputs_of read.insts))
    ∷ decimal (location_count (outputs_of read.insts)) ∷ decimal (length (spec_ids_of read.insts))
    ∷ decimal (length (module_words read.insts read.bound)) ∷ [])

unfoldable pub check_text : Trace → List ℕ
check_text trace = flat_map module_text (enumerate_from 0 trace.modules)
