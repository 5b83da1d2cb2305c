-- What is used is visible where constants stand for specialization constants.
use Rattle.std.proofs.Common.{◌≡◌, ℕ, zero, suc, ◌+◌, ◌<◌, ◌≤◌, ◌==◌, Bool, true, false, cond, if◌then◌else◌, List, [], ◌∷◌, ◌++◌, length, take, drop, map, refl, ap, sym, ◌∙◌, subst, arith, length-drop, take-append-drop, Option, None, Some}
use Rattle.std.specs.Prelude.{filter}
use Rattle.std.specs.Option.{option_map}
use Rattle.std.specs.List.{find}
use Rattle.std.proofs.lemmas.List.{get_or-take, get_or-drop, get_or_append_left, get_or-append-add, take-append-le, length-take-le}
use Rattle.std.proofs.Math.Seq.{take-append-add}
use Rattle.spirv_model.specs.declared.module.Inst.{Inst}
use Rattle.spirv_model.specs.declared.op.TheConstants as op
use Rattle.spirv_model.specs.Operands.{word_at}
use Rattle.body_model.specs.Classes.{is_terminator}
use Rattle.body_model.specs.Targets.{targets}
use Rattle.body_model.specs.Grammar.{Derives}
use Rattle.valid_model.specs.Definitions.{inst_at, no_instruction}
use Rattle.check_model.specs.Branches.{Block, blocks_from, leads_to, is_labelled}
use Rattle.change_model.specs.Constants.{is_spec_id}
use Rattle.change_model.specs.Settling.{all_settled}
use Rattle.change_model.proofs.LaterIntervals.{later}
use Rattle.change_model.proofs.Settlings.{Settles}
use Rattle.change_model.proofs.SettledFunction.{Stays, first_of, settled_first, settled_append, parts_settled, unchanged, function_stays, stays_same, stays_kept, function_settled}
use Rattle.change_model.proofs.SettledPlaces.{PlaceOf, place_of}
use Rattle.change_model.proofs.SettledRules.{take_take}

-- ---- places before the function, and in it

-- a place before the function's first label
pub level_place : (f : Inst → Inst) → Settles f → (insts : List Inst) (d : Derives insts) (place : ℕ) → place < settled_first f insts d → (p : PlaceOf f insts place) × (p.old < first_of insts d)
level_place f s insts d place within =
    let level = take (first_of insts d) insts in
    let rest = drop (first_of insts d) insts in
    let q = place_of f level place within in
    let long = length-take-le (first_of insts d) insts in
    let w = (function_settled f s insts d).within' in
    let less : q.old < first_of insts d = (let a = q.within in omega (arith, a, long, w)) in (
      record {
        old = q.old;
        within = omega (arith, less, w);
        stays = ap is_spec_id (sym (get_or-take (first_of insts d) insts q.old no_instruction less)) ∙ q.stays;
        front = ap (take place) (parts_settled f s insts d) ∙ take-append-le place (all_settled f level) rest (omega (arith, within)) ∙ q.front
            ∙ ap (all_settled f) (take_take q.old (first_of insts d) insts (omega (arith, less)));
        inst = ap (λ (l : List Inst). inst_at l place) (parts_settled f s insts d) ∙ get_or_append_left (all_settled f level) rest no_instruction place within ∙ q.inst
            ∙ ap f (get_or-take (first_of insts d) insts q.old no_instruction less);
      },
      less,
    )

take_rest : (insts : List Inst) (n far : ℕ) → n ≤ length insts → take (n + far) insts ≡ take n insts ++ take far (drop n insts)
take_rest insts n far within =
    let long : length (take n insts) ≡ n = length-take-le n insts within in
    ap (take (n + far)) (sym (take-append-drop n insts)) ∙ ap (λ (k : ℕ). take (k + far) (take n insts ++ drop n insts)) (sym long)
    ∙ take-append-add (take n insts) (drop n insts) far

-- a place in the function
pub function_place : (f : Inst → Inst) → Settles f → (insts : List Inst) (d : Derives insts) (far : ℕ) → first_of insts d + far < length insts → (p : PlaceOf f insts (settled_first f insts d + far)) × (p.old ≡ first_of insts d + far)
function_place f s insts d far within =
    let first = first_of insts d in
    let rest = drop first insts in
    let level = all_settled f (take first insts) in
    let here = function_stays insts d (first + far) (omega arith) within in
    let inst = inst_at insts (first + far) in
    let e = length-drop first insts in
    let front_rest : all_settled f (take far rest) ≡ take far rest = unchanged f s (take far rest) (λ k less.
    let long = length-take-le far rest in
    let early : k < far = omega (arith, less, long, e, within) in
    subst (λ (i : Inst). Stays i.op) (sym (get_or-take far rest k no_instruction early ∙ get_or-drop first insts k no_instruction)) (function_stays insts d (first + k) (omega arith) (omega (arith, early, within)))) in (
      record {
        old = first + far;
        within = within;
        stays = stays_kept inst here;
        front = ap (take (settled_first f insts d + far)) (parts_settled f s insts d) ∙ take-append-add level rest far
            ∙ ap (λ (l : List Inst). level ++ l) (sym front_rest) ∙ sym (settled_append f (take first insts) (take far rest))
            ∙ ap (all_settled f) (sym (take_rest insts first far (omega (arith, within))));
        inst = ap (λ (l : List Inst). inst_at l (settled_first f insts d + far)) (parts_settled f s insts d) ∙ get_or-append-add level rest far no_instruction
            ∙ get_or-drop first insts far no_instruction ∙ sym (stays_same (f inst) inst (s inst) here);
      },
      refl,
    )

-- ---- blocks

pub block_later : ℕ → Block → Block
block_later k block = record block { end = block.end + k }

pub blocks_later : (k label n m : ℕ) (insts : List Inst) → m ≡ n + k → blocks_from label m insts ≡ map (block_later k) (blocks_from label n insts)
unfolding block_later
blocks_later k label n m [] here = refl
blocks_later k label n m (inst ∷ insts) here = by_tests (inst.op == op.LABEL) (is_terminator inst.op) (blocks_later k (word_at 0 inst) (n + 1) (m + 1) insts (omega (arith, here))) (blocks_later k label (n + 1) (m + 1) insts (omega (arith, here)))
  where
    by_tests : (is_label ends : Bool) → blocks_from (word_at 0 inst) (m + 1) insts ≡ map (block_later k) (blocks_from (word_at 0 inst) (n + 1) insts)
        → blocks_from label (m + 1) insts ≡ map (block_later k) (blocks_from label (n + 1) insts)
        → (if is_label then blocks_from (word_at 0 inst) (m + 1) insts else if ends then record { label = label; end = m; targets = targets inst } ∷ blocks_from label (m + 1) insts else blocks_from label (m + 1) insts)
        ≡ map (block_later k) (if is_label then blocks_from (word_at 0 inst) (n + 1) insts else if ends then record { label = label; end = n; targets = targets inst } ∷ blocks_from label (n + 1) insts else blocks_from label (n + 1) insts)
    by_tests true ends labelled rest = labelled
    by_tests false true labelled rest =
        ap (λ (e : ℕ). record { label = label; end = e; targets = targets inst } ∷ blocks_from label (m + 1) insts) here
        ∙ ap (λ (l : List Block). record { label = label; end = n + k; targets = targets inst } ∷ l) rest
    by_tests false false labelled rest = rest

-- instructions without labels and terminators make no block
pub blocks_behind : (insts : List Inst) (n label place : ℕ) → n ≤ length insts → ((k : ℕ) → k < n → ((inst_at insts k).op == op.LABEL ≡ false) × (is_terminator (inst_at insts k).op ≡ false))
    → blocks_from label place insts ≡ blocks_from label (place + n) (drop n insts)
blocks_behind insts zero label place within none = ap (λ (m : ℕ). blocks_from label m insts) {x = place} {y = place + 0} (omega arith)
blocks_behind [] (suc n) label place within none = absurd (omega (arith, within))
blocks_behind (inst ∷ insts) (suc n) label place within none =
    let here = none 0 (omega arith) in
    ap (λ (b : Bool). if b then blocks_from (word_at 0 inst) (place + 1) insts else if is_terminator inst.op then record { label = label; end = place; targets = targets inst } ∷ blocks_from label (place + 1) insts else blocks_from label (place + 1) insts) here.0
    ∙ ap (λ (b : Bool). if b then record { label = label; end = place; targets = targets inst } ∷ blocks_from label (place + 1) insts else blocks_from label (place + 1) insts) here.1
    ∙ blocks_behind insts n label (place + 1) (omega (arith, within)) (λ k less. none (suc k) (omega (arith, less)))
    ∙ ap (λ (m : ℕ). blocks_from label m (drop n insts)) {x = place + 1 + n} {y = place + suc n} (omega arith)

pub filter_later : (k label : ℕ) (blocks : List Block) → map (λ (b : Block). b.label) (filter (leads_to label) (map (block_later k) blocks)) ≡ map (λ (b : Block). b.label) (filter (leads_to label) blocks)
unfolding block_later
filter_later k label [] = refl
filter_later k label (block ∷ blocks) = by_test (leads_to label block) (filter_later k label blocks)
  where
    by_test : (b : Bool) → map (λ (b : Block). b.label) (filter (leads_to label) (map (block_later k) blocks)) ≡ map (λ (b : Block). b.label) (filter (leads_to label) blocks)
        → map (λ (b : Block). b.label) (cond b (block_later k block ∷ filter (leads_to label) (map (block_later k) blocks)) (filter (leads_to label) (map (block_later k) blocks)))
        ≡ map (λ (b : Block). b.label) (cond b (block ∷ filter (leads_to label) blocks) (filter (leads_to label) blocks))
    by_test true rest = ap (λ (l : List ℕ). block.label ∷ l) rest
    by_test false rest = rest

pub find_later : (k label : ℕ) (blocks : List Block) → option_map (λ (b : Block). b.end) (find (is_labelled label) (map (block_later k) blocks)) ≡ option_map (λ (n : ℕ). n + k) (option_map (λ (b : Block). b.end) (find (is_labelled label) blocks))
unfolding block_later
find_later k label [] = refl
find_later k label (block ∷ blocks) = by_test (is_labelled label block) (find_later k label blocks)
  where
    by_test : (b : Bool) → option_map (λ (b : Block). b.end) (find (is_labelled label) (map (block_later k) blocks)) ≡ option_map (λ (n : ℕ). n + k) (option_map (λ (b : Block). b.end) (find (is_labelled label) blocks))
        → option_map (λ (b : Block). b.end) (cond b (Some (block_later k block)) (find (is_labelled label) (map (block_later k) blocks)))
        ≡ option_map (λ (n : ℕ). n + k) (option_map (λ (b : Block). b.end) (cond b (Some block) (find (is_labelled label) blocks)))
    by_test true rest = refl
    by_test false rest = rest

-- a block's end stands no earlier than the first instruction
abbrev pub NoEarlier : ℕ → Option ℕ → Type 0
NoEarlier n found = (end : ℕ) → found ≡ Some end → n ≤ end

wider : (n : ℕ) (found : Option ℕ) → NoEarlier (n + 1) found → NoEarlier n found
wider n found later = λ end is. (let l = later end is in omega (arith, l))

first_or_later : (n : ℕ) (named : Bool) (block : Block) (found : Option Block) → block.end ≡ n → NoEarlier n (option_map (λ (b : Block). b.end) found) → NoEarlier n (option_map (λ (b : Block). b.end) (cond named (Some block) found))
first_or_later n true block found is rest = λ end equal. one n block.end end is equal
  where
    one : (n a b : ℕ) → a ≡ n → ◌≡◌ {A = Option ℕ} (Some a) (Some b) → n ≤ b
    one n a b is equal = let e : a ≡ b = cc in omega (arith, e, is)
first_or_later n false block found is rest = rest

never : (n : ℕ) → NoEarlier n None
never n = λ end is. cc

pub ends_behind : (n label own : ℕ) (insts : List Inst) → NoEarlier n (option_map (λ (b : Block). b.end) (find (is_labelled own) (blocks_from label n insts)))
ends_behind n label own [] = never n
ends_behind n label own (inst ∷ insts) =
    by_tests (inst.op == op.LABEL) (is_terminator inst.op) (wider n _ (ends_behind (n + 1) (word_at 0 inst) own insts)) (wider n _ (ends_behind (n + 1) label own insts))
  where
    block : Block
    block = record { label = label; end = n; targets = targets inst }

    by_tests : (is_label ends : Bool) → NoEarlier n (option_map (λ (b : Block). b.end) (find (is_labelled own) (blocks_from (word_at 0 inst) (n + 1) insts)))
        → NoEarlier n (option_map (λ (b : Block). b.end) (find (is_labelled own) (blocks_from label (n + 1) insts)))
        → NoEarlier n (option_map (λ (b : Block). b.end) (find (is_labelled own)
        (if is_label then blocks_from (word_at 0 inst) (n + 1) insts else if ends then record { label = label; end = n; targets = targets inst } ∷ blocks_from label (n + 1) insts else blocks_from label (n + 1) insts)))
    by_tests true ends labelled rest = labelled
    by_tests false true labelled rest = first_or_later n (label == own) block (find (is_labelled own) (blocks_from label (n + 1) insts)) refl rest
    by_tests false false labelled rest = rest
