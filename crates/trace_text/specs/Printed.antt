-- What is printed, as far as it has come.
use Rattle.std.specs.Prelude.{ℕ, zero, suc, false, true, List, [], ◌∷◌, ◌++◌, length, map, codes, Option}
use Rattle.std.specs.List.{flat_map, enumerate_from, join_by, range_with_len}
use Rattle.std.specs.Fmt.{decimal}
use Rattle.spirv_model.specs.declared.module.Words.{Words}
use Rattle.state_model.specs.declared.rule.Rule.{Rule}
use Rattle.state_model.specs.Link.{failed_rule}
use Rattle.trace_model.specs.declared.whole.Trace.{Trace}
use Rattle.trace_model.specs.Pipes.{pipe_libraries}
use Rattle.trace_model.specs.PlayText.{line_text, link_text, module_text}

-- ---- pieces with a separator between them

-- what stands in front of a piece that so many others precede
abbrev pub between : (separator before : ℕ) → List ℕ
between separator zero = []
between separator (suc before) = separator ∷ []

-- pieces that so many others precede
abbrev pub joined : {X : Type 0} → (X → List ℕ) → (separator before : ℕ) → List X → List ℕ
joined text separator zero pieces = join_by text (separator ∷ []) pieces
joined text separator (suc before) pieces = flat_map (λ piece. (separator ∷ []) ++ text piece) pieces

-- a field behind another
abbrev pub field_text : List ℕ → List ℕ
field_text field = 32 ∷ field

-- ---- pipes

-- why the fast link and the optimised link of each pipe fail
abbrev pub pipe_rules : Trace → List (Option Rule × Option Rule)
pipe_rules trace =
    map (λ pipe. (failed_rule (pipe_libraries trace pipe) false, failed_rule (pipe_libraries trace pipe) true))
    (range_with_len 0 (length trace.pipes))

abbrev pub pipe_line : (ℕ × (Option Rule × Option Rule)) → List ℕ
pipe_line (pipe, links) = line_text (codes "pipe" ∷ decimal pipe ∷ link_text links.0 ∷ link_text links.1 ∷ [])

abbrev pub pipe_lines : List (Option Rule × Option Rule) → List ℕ
pipe_lines links = flat_map pipe_line (enumerate_from 0 links)

-- ---- modules

abbrev pub module_lines : List Words → List ℕ
module_lines modules = flat_map module_text (enumerate_from 0 modules)
