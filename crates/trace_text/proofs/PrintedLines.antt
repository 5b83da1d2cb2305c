-- Lines, printed field by field, and one after another.
use Rattle.std.proofs.Common.{◌≡◌, ℕ, zero, suc, ◌+◌, false, true, List, [], ◌∷◌, ◌++◌, length, map, refl, ap, sym, ◌∙◌, append_assoc}
use Rattle.std.specs.Prelude.{codes, Option}
use Rattle.std.specs.Fmt.{decimal}
use Rattle.std.specs.List.{flat_map, enumerate_from, range_with_len}
use Rattle.std.proofs.lemmas.List.{append-nil, flat_map_more}
use Rattle.state_model.specs.declared.rule.Rule.{Rule}
use Rattle.state_model.specs.Link.{failed_rule}
use Rattle.trace_model.specs.declared.whole.Trace.{Trace}
use Rattle.trace_model.specs.Pipes.{pipe_libraries}
use Rattle.trace_model.specs.PlayText.{line_text, links_text, pipe_text}
use Rattle.trace_text.specs.Printed.{field_text, pipe_line, pipe_lines, pipe_rules}

-- ---- one line

-- its fields behind the first
abbrev fields_text : List (List ℕ) → List ℕ
fields_text fields = flat_map (λ field. codes " " ++ field) fields

-- one more field
field_next : (old first field text new : List ℕ) (fields : List (List ℕ)) → text ≡ old ++ (first ++ fields_text fields)
    → new ≡ text ++ field_text field → new ≡ old ++ (first ++ fields_text (fields ++ field ∷ []))
field_next old first field text new fields text_is new_is =
    new_is ∙ ap (λ (t : List ℕ). t ++ field_text field) text_is
    ∙ append_assoc old (first ++ fields_text fields) (field_text field)
    ∙ ap (λ (t : List ℕ). old ++ t) (flat_map_more (λ (f : List ℕ). codes " " ++ f) first fields field)

-- a line of a word and six fields
pub six_fields : (old first a b c d e f t0 t1 t2 t3 t4 t5 t6 new : List ℕ) → t0 ≡ old ++ first
    → t1 ≡ t0 ++ field_text a → t2 ≡ t1 ++ field_text b → t3 ≡ t2 ++ field_text c → t4 ≡ t3 ++ field_text d
    → t5 ≡ t4 ++ field_text e → t6 ≡ t5 ++ field_text f → new ≡ t6 ++ codes "\n"
    → new ≡ old ++ line_text (first ∷ a ∷ b ∷ c ∷ d ∷ e ∷ f ∷ [])
six_fields old first a b c d e f t0 t1 t2 t3 t4 t5 t6 new p0 p1 p2 p3 p4 p5 p6 ended =
    let q0 : t0 ≡ old ++ (first ++ []) = p0 ∙ ap (λ (t : List ℕ). old ++ t) (sym (append-nil first)) in
    let q1 = field_next old first a t0 t1 [] q0 p1 in
    let q2 = field_next old first b t1 t2 (a ∷ []) q1 p2 in
    let q3 = field_next old first c t2 t3 (a ∷ b ∷ []) q2 p3 in
    let q4 = field_next old first d t3 t4 (a ∷ b ∷ c ∷ []) q3 p4 in
    let q5 = field_next old first e t4 t5 (a ∷ b ∷ c ∷ d ∷ []) q4 p5 in
    let q6 = field_next old first f t5 t6 (a ∷ b ∷ c ∷ d ∷ e ∷ []) q5 p6 in
    ended ∙ ap (λ (t : List ℕ). t ++ codes "\n") q6
    ∙ append_assoc old (first ++ fields_text (a ∷ b ∷ c ∷ d ∷ e ∷ f ∷ [])) (codes "\n")

-- a field by an equal text, and by an equal number
pub named : (old : List ℕ) {new first second : List ℕ} → new ≡ old ++ field_text first → first ≡ second → new ≡ old ++ field_text second
named old is same = is ∙ ap (λ (field : List ℕ). old ++ field_text field) same

pub numbered : (old : List ℕ) {new : List ℕ} {m n : ℕ} → new ≡ old ++ field_text (decimal m) → m ≡ n → new ≡ old ++ field_text (decimal n)
numbered old is same = is ∙ ap (λ (number : ℕ). old ++ field_text (decimal number)) same

-- ---- numbered lines

-- the pipes from a number on
links_from : (trace : Trace) (from count : ℕ)
    → flat_map pipe_line (enumerate_from from (map (λ pipe. (failed_rule (pipe_libraries trace pipe) false, failed_rule (pipe_libraries trace pipe) true)) (range_with_len from count)))
    ≡ flat_map (pipe_text trace) (range_with_len from count)
links_from trace from zero = refl
links_from trace from (suc count) = ap (λ (t : List ℕ). pipe_text trace from ++ t) (links_from trace (from + 1) count)

pub links_of_rules : (trace : Trace) (links : List (Option Rule × Option Rule)) → links ≡ pipe_rules trace → pipe_lines links ≡ links_text trace
unfolding links_text
links_of_rules trace links is = ap (λ (xs : List (Option Rule × Option Rule)). pipe_lines xs) is ∙ links_from trace 0 (length trace.pipes)
