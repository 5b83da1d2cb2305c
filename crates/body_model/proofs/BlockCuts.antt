-- A block of a list, cut out of it: its label, its end and its last instruction's words.
use Rattle.std.proofs.Common.{◌≡◌, ℕ, zero, suc, ◌+◌, ◌-◌, ◌<◌, ◌≤◌, true, ◌==◌, List, [], ◌∷◌, ◌++◌, length, take, drop, slice_index, Option, None, Some, refl, ap, ◌∙◌, arith}
use Rattle.std.specs.Prelude.{IsTrue}
use Rattle.std.proofs.lemmas.Bool.{and_from, eq-eqb}
use Rattle.spirv_model.specs.declared.module.Inst.{Inst}
use Rattle.spirv_model.specs.declared.op.TheConstants.{LABEL}
use Rattle.body_model.specs.declared.block_end.BlockEnd.{BlockEnd}
use Rattle.body_model.specs.declared.block_end.SwitchHead.{SwitchHead}
use Rattle.body_model.specs.Scope.{Scope}
use Rattle.body_model.specs.Switches.{words_at, arm_labels, switch_words, labels_of}
use Rattle.body_model.specs.Blocks.{begins_with, block_from, block_end}
use Rattle.body_model.specs.Due.{only, IsDue}
use Rattle.body_model.specs.Code.{slice}
use Rattle.body_model.specs.Fitting.{HasLabel, last_words}
use Rattle.body_model.proofs.Cuts.{Begun, Alike, ends_alike}
use Rattle.body_model.proofs.Dues.{DueFront, stands_at, among_one}
use Rattle.body_model.proofs.Slices.{slice_long, slice_and_rest, slice_last}

-- what stands in front of a list, stands in front of a slice of it
begins_in : (insts : List Inst) (label n : ℕ) (other : List Inst) → 0 < n → begins_with label insts ≡ true → begins_with label (take n insts ++ other) ≡ true
begins_in insts label zero other some is = absurd (omega arith)
begins_in [] label (suc n) other some is = cc
begins_in (inst ∷ insts) label (suc n) other some is = is

pub begun_slice : (insts : List Inst) (from to : ℕ) (other : List Inst) → from < to → Begun (drop from insts) (slice insts from to ++ other)
begun_slice insts from to other forward label begins = begins_in (drop from insts) label (to - from) other (omega arith) begins

front_slice : (rest : List Inst) (inst : Inst) (more : List Inst) (n : ℕ) → 0 < n → rest ≡ inst ∷ more → (label : ℕ) → inst.op == LABEL ≡ true → slice_index inst.words 0 ≡ label → IsTrue (begins_with label (take n rest))
front_slice rest inst more zero some front label is_label is = absurd (omega arith)
front_slice rest inst more (suc n) some front label is_label is =
    ap (λ (l : List Inst). begins_with label (take (suc n) l)) front ∙ and_from (inst.op == LABEL) (slice_index inst.words 0 == label) is_label (eq-eqb (slice_index inst.words 0) label is)

label_by : (wanted : Option ℕ) (before rest : List Inst) (n : ℕ) → 0 < n → DueFront before (only wanted) rest → HasLabel wanted (take n rest)
label_by None before rest n some s = (slice_index s.inst.words 0, front_slice rest s.inst s.more n some s.front (slice_index s.inst.words 0) s.label refl)
label_by (Some label) before rest n some s = front_slice rest s.inst s.more n some s.front label s.label (among_one (slice_index s.inst.words 0) label s.among)

-- the block that is due has the label that is wanted
pub has_label : (insts : List Inst) (wanted : Option ℕ) (from to : ℕ) → IsDue insts wanted from → from < to → HasLabel wanted (slice insts from to)
has_label insts wanted from to here forward = label_by wanted (take from insts) (drop from insts) (to - from) (omega arith) (stands_at insts (only wanted) from here)

-- the block ends alike wherever it stands
pub end_of_cut : (insts : List Inst) (scope : Scope) (from to : ℕ) (end : BlockEnd) → block_end insts scope from ≡ end → from < to → to ≤ length insts → (other : List Inst) (q : ℕ)
    → Alike from q (length (slice insts from to)) (drop to insts) other end (block_from scope (slice insts from to ++ other) q)
unfolding block_end
end_of_cut insts scope from to end is forward within other q =
    let some : 0 < length (slice insts from to) = omega (arith, slice_long insts from to within) in
    ends_alike scope (slice insts from to) (drop to insts) other from q end some (ap (λ (l : List Inst). block_from scope l from) (slice_and_rest insts from to (omega arith)) ∙ is)

pub whole_length : (insts : List Inst) (from to : ℕ) → from < to → to ≤ length insts → to ≡ from + length (slice insts from to)
whole_length insts from to forward within = omega (arith, slice_long insts from to within)

-- the words of the OpSwitch that ends it
pub last_words_of : (insts : List Inst) (from : ℕ) (head : SwitchHead) → from < head.after → head.after ≤ length insts → last_words (slice insts from head.after) ≡ switch_words insts head
unfolding switch_words
last_words_of insts from head forward within = ap words_at (slice_last insts from head.after forward within)

pub last_labels_of : (insts : List Inst) (from : ℕ) (head : SwitchHead) → from < head.after → head.after ≤ length insts → arm_labels head.merge (last_words (slice insts from head.after)) ≡ labels_of insts head
unfolding labels_of
last_labels_of insts from head forward within = ap (arm_labels head.merge) (last_words_of insts from head forward within)
