-- Where no label stands twice, each stands at one place.
use Rattle.std.proofs.Common.{◌≡◌, ℕ, Bool, true, false, ◌==◌, ◌||◌, ◌&&◌, if◌then◌else◌, List, [], ◌∷◌, ◌++◌, slice_index, take, drop, refl, ap, sym, ◌∙◌}
use Rattle.std.specs.Prelude.{map, filter}
use Rattle.std.proofs.lemmas.Bool.{eqb-true, eq-eqb, or_parts, or_right}
use Rattle.std.proofs.lemmas.List.{take-append-drop}
use Rattle.spirv_model.specs.declared.module.Inst.{Inst}
use Rattle.spirv_model.specs.declared.op.TheConstants.{LABEL}
use Rattle.body_model.specs.Switches.{is_among, repeat}
use Rattle.body_model.specs.Due.{has_label}
use Rattle.body_model.specs.Fitting.{labels}

abbrev with_label : Bool → ℕ → List ℕ → List ℕ
with_label is label rest = if is then label ∷ rest else rest

more_labels : (is : Bool) (inst : Inst) (rest : List Inst)
    → map (λ (i : Inst). slice_index i.words 0) (if is then inst ∷ filter (λ (i : Inst). i.op == LABEL) rest else filter (λ (i : Inst). i.op == LABEL) rest) ≡ with_label is (slice_index inst.words 0) (labels rest)
more_labels true inst rest = refl
more_labels false inst rest = refl

labels_more : (inst : Inst) (rest : List Inst) → labels (inst ∷ rest) ≡ with_label (inst.op == LABEL) (slice_index inst.words 0) (labels rest)
labels_more inst rest = more_labels (inst.op == LABEL) inst rest

among_first : (is : Bool) (label : ℕ) (rest : List ℕ) → is ≡ true → is_among label (with_label is label rest) ≡ true
among_first true label rest is = ap (λ (b : Bool). b || is_among label rest) (eq-eqb label label refl)
among_first false label rest is = cc

among_more : (is : Bool) (first label : ℕ) (rest : List ℕ) → is_among label rest ≡ true → is_among label (with_label is first rest) ≡ true
among_more true first label rest among = or_right (first == label) (is_among label rest) among
among_more false first label rest among = among

among_labels : (xs : List Inst) (inst : Inst) (rest : List Inst) → inst.op == LABEL ≡ true → is_among (slice_index inst.words 0) (labels (xs ++ inst ∷ rest)) ≡ true
among_labels [] inst rest is = ap (is_among (slice_index inst.words 0)) (labels_more inst rest) ∙ among_first (inst.op == LABEL) (slice_index inst.words 0) (labels rest) is
among_labels (x ∷ xs) inst rest is =
    ap (is_among (slice_index inst.words 0)) (labels_more x (xs ++ inst ∷ rest))
    ∙ among_more (x.op == LABEL) (slice_index x.words 0) (slice_index inst.words 0) (labels (xs ++ inst ∷ rest)) (among_labels xs inst rest is)

other_label : (same : Bool) (first label : ℕ) (rest : List ℕ) → first == label ≡ same → is_among label rest ≡ true → is_among first rest ≡ false → same ≡ false
other_label true first label rest same among none = let e : first ≡ label = eqb-true first label same in let b : is_among first rest ≡ is_among label rest = ap (λ (n : ℕ). is_among n rest) e in cc
other_label false first label rest same among none = refl

by_first : (is : Bool) (first label : ℕ) (rest : List ℕ) (known : Bool) → is_among label rest ≡ true → repeat (with_label is first rest) ≡ false → (repeat rest ≡ false → known ≡ false)
    → ((is && (first == label)) || known) ≡ false
by_first true first label rest known among differ new =
    let parts = or_parts (is_among first rest) (repeat rest) differ in
    ap (λ (b : Bool). b || known) (other_label (first == label) first label rest refl among parts.0) ∙ new parts.1
by_first false first label rest known among differ new = new differ

new_label : (xs : List Inst) (inst : Inst) (rest : List Inst) → inst.op == LABEL ≡ true → repeat (labels (xs ++ inst ∷ rest)) ≡ false → has_label xs (slice_index inst.words 0) ≡ false
new_label [] inst rest is differ = refl
new_label (x ∷ xs) inst rest is differ =
    by_first (x.op == LABEL) (slice_index x.words 0) (slice_index inst.words 0) (labels (xs ++ inst ∷ rest)) (has_label xs (slice_index inst.words 0)) (among_labels xs inst rest is)
    (sym (ap repeat (labels_more x (xs ++ inst ∷ rest))) ∙ differ) (new_label xs inst rest is)

-- an OpLabel that stands at a place stands nowhere before
pub new_at : (insts : List Inst) (place : ℕ) (inst : Inst) (rest : List Inst) → repeat (labels insts) ≡ false → drop place insts ≡ inst ∷ rest → inst.op == LABEL ≡ true
    → has_label (take place insts) (slice_index inst.words 0) ≡ false
new_at insts place inst rest differ front is =
    new_label (take place insts) inst rest is (ap (λ (l : List Inst). repeat (labels (take place insts ++ l))) (sym front) ∙ ap (λ (l : List Inst). repeat (labels l)) (take-append-drop place insts) ∙ differ)
