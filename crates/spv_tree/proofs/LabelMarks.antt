-- The marks of labels that stand twice.
use Rattle.std.proofs.Common.{◌≡◌, ℕ, ◌+◌, ◌<◌, ◌==◌, ◌&&◌, ◌||◌, Bool, true, false, if◌then◌else◌, List, [], ◌∷◌, ◌++◌, length, get_or, drop, take, Option, None, Some, refl, ap, subst, sym, ◌∙◌, arith, below_more}
use Rattle.std.specs.Ordering.{nat_cmp}
use Rattle.std.specs.BTreeSet.{BTreeSet, contains}
use Rattle.std.proofs.lemmas.Bool.Decides.{nat_tests}
use Rattle.std.proofs.lemmas.List.{drop_more, take_more}
use Rattle.std.proofs.Math.ListN.{get_or-append}
use Rattle.std.proofs.Math.Seq.{get_or-append_seam}
use Rattle.std.proofs.lemmas.Option.{slice_get_read}
use Rattle.spirv_model.specs.declared.module.Inst.{Inst}
use Rattle.spirv_model.specs.Operands.{word_at}
use Rattle.spirv_model.specs.declared.op.TheConstants.{LABEL, FUNCTION_END}
use Rattle.body_model.specs.declared.fault.TreeFault.{TreeFault}
use Rattle.body_model.specs.declared.fault.TreeFault.TheVariants.{BadBlock, BadMerge}
use Rattle.body_model.specs.Due.{has_label, is_wanted, ends_early, missing, misses_label, only}
use Rattle.body_model.specs.Reading.{label_at}
use Rattle.body_model.proofs.Dues.{due_one}
use Rattle.spv_tree.specs.Parts.{MarksLabels, repeats, misses, FindsArm}

-- the mark matters at a label alone
marked : (is_label repeated : Bool) (x y z : Option TreeFault) → (if is_label then (if is_label && repeated then x else y) else z) ≡ (if is_label then (if repeated then x else y) else z)
marked true repeated x y z = refl
marked false repeated x y z = refl

label_repeats : (insts : List Inst) (place : ℕ) (inst : Inst) → place < length insts → inst ≡ get_or insts place inst
    → repeats insts place ≡ ((inst.op == LABEL) && has_label (take place insts) (word_at 0 inst))
label_repeats insts place inst within is =
    ap (λ (found : Option Inst). elim found [ None ↦ false | Some i ↦ (i.op == LABEL) && has_label (take place insts) (word_at 0 i) ])
    (slice_get_read insts (length insts) place inst refl within is)

pub missing_at : (insts : List Inst) (marks : List Bool) (wanted : Option (List ℕ)) (wants : Bool) (at_end : TreeFault) (place : ℕ) (inst : Inst) → MarksLabels insts marks → place < length insts
    → inst ≡ get_or insts place inst → wants ≡ is_wanted wanted (word_at 0 inst) → at_end ≡ ends_early wanted place → misses inst (get_or marks place false) wants at_end place ≡ missing insts wanted place
unfolding missing
missing_at insts marks wanted wants at_end place inst marked_so within is wants_is end_is =
    let before = has_label (take place insts) (word_at 0 inst) in
    let front : drop place insts ≡ inst ∷ drop (place + 1) insts = drop_more insts place inst within ∙ ap (λ (i : Inst). i ∷ drop (place + 1) insts) (sym is) in
    ap (λ (b : Bool). misses inst b wants at_end place) (marked_so.each place within ∙ label_repeats insts place inst within is)
    ∙ marked (inst.op == LABEL) before _ _ _
    ∙ ap (λ (b : Bool). if inst.op == LABEL then (if before then Some (BadBlock place) else if b then None else Some (BadMerge place)) else if inst.op == FUNCTION_END then Some at_end else Some (BadBlock place)) wants_is
    ∙ ap (λ (f : TreeFault). if inst.op == LABEL then (if before then Some (BadBlock place) else if is_wanted wanted (word_at 0 inst) then None else Some (BadMerge place)) else if inst.op == FUNCTION_END then Some f else Some (BadBlock place)) end_is
    ∙ ap (λ (rest : List Inst). misses_label (take place insts) wanted rest place) (sym front)

-- the arm whose label stands at a place
pub arm_found : (insts : List Inst) (labels : List ℕ) (place label : ℕ) (inst : Inst) → place < length insts → inst ≡ get_or insts place inst → label ≡ word_at 0 inst
    → missing insts (Some labels) place ≡ None → FindsArm insts labels place label
arm_found insts labels place label inst within is label_is here =
    let found = due_one insts labels place here in
    let same : label_at (drop place insts) ≡ label = ap label_at (drop_more insts place inst within ∙ ap (λ (i : Inst). i ∷ drop (place + 1) insts) (sym is)) ∙ sym label_is in
    subst (FindsArm insts labels place) same (record { among = found.0; here = found.1 })

turned : (a b : ℕ) → (a == b) ≡ (b == a)
turned a b = grind (arith, nat_tests)

alone : (b : Bool) → b ≡ (b || false)
alone true = refl
alone false = refl

pub one_wanted : (word label : ℕ) → (word == label) ≡ is_wanted (only (Some label)) word
one_wanted word label = turned word label ∙ alone (label == word)

swap : (a b c : Bool) → (a || (b || c)) ≡ (b || (a || c))
swap true true c = refl
swap true false c = refl
swap false b c = refl

has_label-push : (before : List Inst) (inst : Inst) (label : ℕ)
    → has_label (before ++ inst ∷ []) label ≡ (((inst.op == LABEL) && (word_at 0 inst == label)) || has_label before label)
has_label-push [] inst label = refl
has_label-push (first ∷ before) inst label =
    ap (λ (b : Bool). ((first.op == LABEL) && (word_at 0 first == label)) || b) (has_label-push before inst label)
    ∙ swap ((first.op == LABEL) && (word_at 0 first == label)) ((inst.op == LABEL) && (word_at 0 inst == label)) (has_label before label)

-- the labels that were seen, with one instruction more
pub seen_more : (insts : List Inst) (index : ℕ) (inst : Inst) (before after : BTreeSet ℕ) → index < length insts → inst ≡ get_or insts index inst
    → ((label : ℕ) → contains nat_cmp before label ≡ has_label (take index insts) label)
    → ((label : ℕ) → contains nat_cmp after label ≡ (((inst.op == LABEL) && (word_at 0 inst == label)) || contains nat_cmp before label))
    → (label : ℕ) → contains nat_cmp after label ≡ has_label (take (index + 1) insts) label
seen_more insts index inst before after within is seen now label =
    let front : take (index + 1) insts ≡ take index insts ++ inst ∷ [] = take_more insts index inst within ∙ ap (λ (i : Inst). take index insts ++ i ∷ []) (sym is) in
    now label
    ∙ ap (λ (b : Bool). ((inst.op == LABEL) && (word_at 0 inst == label)) || b) (seen label)
    ∙ sym (has_label-push (take index insts) inst label)
    ∙ ap (λ (l : List Inst). has_label l label) (sym front)

-- the marks, with one more
pub marks_more : (insts : List Inst) (marks : List Bool) (index : ℕ) (inst : Inst) (mark : Bool) (before : BTreeSet ℕ) → length marks ≡ index → index < length insts → inst ≡ get_or insts index inst
    → ((place : ℕ) → place < index → get_or marks place false ≡ repeats insts place)
    → ((label : ℕ) → contains nat_cmp before label ≡ has_label (take index insts) label)
    → mark ≡ ((inst.op == LABEL) && contains nat_cmp before (word_at 0 inst))
    → (place : ℕ) → place < index + 1 → get_or (marks ++ mark ∷ []) place false ≡ repeats insts place
marks_more insts marks index inst mark before lengths within is each seen marked_so =
    below_more (λ (place : ℕ). get_or (marks ++ mark ∷ []) place false ≡ repeats insts place) index
    (λ place below. get_or-append marks (mark ∷ []) false place (omega arith) ∙ each place below)
    (ap (λ (n : ℕ). get_or (marks ++ mark ∷ []) n false) (sym lengths) ∙ get_or-append_seam marks mark [] false
    ∙ marked_so ∙ ap (λ (b : Bool). (inst.op == LABEL) && b) (seen (word_at 0 inst)) ∙ sym (label_repeats insts index inst within is))
