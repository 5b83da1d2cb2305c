-- A block that is due stands at its label's first place.
use Rattle.std.proofs.Common.{◌≡◌, ℕ, zero, suc, ◌<◌, Bool, false, ◌==◌, ◌&&◌, if◌then◌else◌, List, [], ◌∷◌, length, take, get_or, slice_index, None, Some, ap, sym, ◌∙◌, arith}
use Rattle.std.specs.Prelude.{position, nat_lt}
use Rattle.std.specs.List.{position_or_len}
use Rattle.std.proofs.lemmas.Bool.{or_parts, and_from, eq-eqb, lt-ltb}
use Rattle.std.proofs.lemmas.List.{get_or-take, length-take-le}
use Rattle.std.proofs.lemmas.List.Sums.{position_or_len_is}
use Rattle.std.proofs.lemmas.Option.{get_or_from_slice_get}
use Rattle.spirv_model.specs.declared.module.Inst.{Inst}
use Rattle.spirv_model.specs.declared.op.TheConstants.{LABEL}
use Rattle.body_model.specs.Due.{has_label, only, IsDue}
use Rattle.body_model.proofs.Dues.{stands_at, among_one}
use Rattle.body_model.proofs.Fronts.{front}

abbrev pub is_label_of : ℕ → Inst → Bool
is_label_of label inst = (inst.op == LABEL) && (slice_index inst.words 0 == label)

none_before : (xs : List Inst) (label k : ℕ) (d : Inst) → has_label xs label ≡ false → k < length xs → is_label_of label (get_or xs k d) ≡ false
none_before [] label k d none less = absurd (omega arith)
none_before (x ∷ xs) label zero d none less = (or_parts (is_label_of label x) (has_label xs label) none).0
none_before (x ∷ xs) label (suc k) d none less = none_before xs label k d (or_parts (is_label_of label x) (has_label xs label) none).1 (omega arith)

found : (p : Inst → Bool) (xs : List Inst) (place : ℕ) → position_or_len p xs ≡ place → place < length xs → position p xs ≡ Some place
found p xs place is within = ap (λ (n : ℕ). if nat_lt n (length xs) then Some n else None) is ∙ ap (λ (b : Bool). if b then Some place else None) (lt-ltb place (length xs) within)

pub label_first : (insts : List Inst) (label place : ℕ) → IsDue insts (Some label) place → position (is_label_of label) insts ≡ Some place
label_first insts label place here =
    let s = stands_at insts (only (Some label)) place here in
    let at = front insts place s.inst s.more s.front in
    let is : slice_index s.inst.words 0 ≡ label = among_one (slice_index s.inst.words 0) label s.among in
    let within : place < length insts = omega (arith, at.long) in
    let none : has_label (take place insts) label ≡ false = ap (has_label (take place insts)) (sym is) ∙ s.new in
    found (is_label_of label) insts place
    (position_or_len_is (is_label_of label) insts place s.inst (omega arith)
    (λ k less. ap (is_label_of label) (sym (get_or-take place insts k s.inst less)) ∙ none_before (take place insts) label k s.inst none (omega (arith, length-take-le place insts)))
    (λ more. ap (is_label_of label) (get_or_from_slice_get insts place s.inst s.inst at.index) ∙ and_from (s.inst.op == LABEL) (slice_index s.inst.words 0 == label) s.label (eq-eqb (slice_index s.inst.words 0) label is))) within
