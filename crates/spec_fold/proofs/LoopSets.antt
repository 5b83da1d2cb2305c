-- Sets that are gathered place by place.
use Rattle.std.proofs.Common.{◌≡◌, ℕ, zero, suc, ◌+◌, ◌<◌, ◌≤◌, ◌==◌, ◌&&◌, ◌||◌, not, Bool, true, false, List, [], ◌∷◌, ◌++◌, length, take, refl, ap, sym, ◌∙◌, arith, Option}
use Rattle.std.specs.List.{list_any, range_with_len}
use Rattle.std.proofs.lemmas.List.Folds.{list_any-append, list_any_more}
use Rattle.spirv_model.specs.declared.module.Inst.{Inst}
use Rattle.spirv_model.specs.declared.op.TheConstants.{LOOP_MERGE}
use Rattle.spirv_model.specs.Operands.{word_at}
use Rattle.valid_model.specs.Definitions.{inst_at, no_instruction}
use Rattle.change_model.specs.Passes.{heads_loop, is_header_merge, is_label, is_left_loop, leaving_to}
use Rattle.change_model.specs.Plans.{block_at}
use Rattle.spec_fold.specs.Loops.{heads_to, merges_to}
use Rattle.spec_fold.specs.Sets.{has, AddsThose, AreThose}
use Rattle.spec_fold.specs.declared.marks.Marks.{Marks}

range_more : (a n : ℕ) → range_with_len a (suc n) ≡ range_with_len a n ++ (a + n) ∷ []
range_more a zero = ap (λ (k : ℕ). k ∷ []) {x = a} {y = a + 0} (omega arith)
range_more a (suc n) = ap (λ (l : List ℕ). a ∷ l) (range_more (a + 1) n ∙ ap (λ (k : ℕ). range_with_len (a + 1) n ++ k ∷ []) {x = a + 1 + n} {y = a + suc n} (omega arith))

or_false : (b : Bool) → (b || false) ≡ b
or_false true = refl
or_false false = refl

-- one more number
pub any_next : (test : ℕ → Bool) (n : ℕ) → list_any test (range_with_len 0 (n + 1)) ≡ (list_any test (range_with_len 0 n) || test n)
any_next test n =
    ap (λ (k : ℕ). list_any test (range_with_len 0 k)) {x = n + 1} {y = suc n} (omega arith)
    ∙ ap (list_any test) (range_more 0 n)
    ∙ list_any-append test (range_with_len 0 n) ((0 + n) ∷ [])
    ∙ ap (λ (k : ℕ). list_any test (range_with_len 0 n) || (test k || false)) {x = 0 + n} {y = n} (omega arith)
    ∙ ap (λ (b : Bool). list_any test (range_with_len 0 n) || b) (or_false (test n))

or_both : (a b c d : Bool) → a ≡ c → b ≡ d → (a || b) ≡ (c || d)
or_both a b c d first second = cc

-- the set has what one more place adds
pub gathers_next : (property : ℕ → ℕ → Bool) (own : ℕ → Bool) (n : ℕ) (old new : Marks) → ((id : ℕ) → own id ≡ property id n)
    → AreThose (λ id. list_any (property id) (range_with_len 0 n)) old → AddsThose own old new → AreThose (λ id. list_any (property id) (range_with_len 0 (n + 1))) new
gathers_next property own n old new same had adds id =
    adds id ∙ or_both (has old id) (own id) (list_any (property id) (range_with_len 0 n)) (property id n) (had id) (same id) ∙ sym (any_next (property id) n)

pub merges_next : (insts : List Inst) (inst : Inst) (place : ℕ) (old new : Marks) → place < length insts → inst ≡ inst_at insts place
    → AreThose (λ id. list_any (λ (i : Inst). merges_to i id) (take place insts)) old → AddsThose (merges_to inst) old new
    → AreThose (λ id. list_any (λ (i : Inst). merges_to i id) (take (place + 1) insts)) new
merges_next insts inst place old new within is had adds id =
    adds id
    ∙ or_both (has old id) (merges_to inst id) (list_any (λ (i : Inst). merges_to i id) (take place insts)) (merges_to (inst_at insts place) id) (had id) (ap (λ (i : Inst). merges_to i id) is)
    ∙ sym (list_any_more (λ (i : Inst). merges_to i id) insts place no_instruction within)

pub lefts_next : (insts : List Inst) (leaves : Option ℕ) (place : ℕ) (old new : Marks) → leaves ≡ leaving_to insts place
    → AreThose (λ id. list_any (λ (k : ℕ). is_label id (leaving_to insts k)) (range_with_len 0 place)) old → AddsThose (λ id. is_label id leaves) old new
    → AreThose (λ id. list_any (λ (k : ℕ). is_label id (leaving_to insts k)) (range_with_len 0 (place + 1))) new
lefts_next insts leaves place old new is had adds =
    gathers_next (λ id k. is_label id (leaving_to insts k)) (λ id. is_label id leaves) place old new (λ id. ap (is_label id) is) had adds

pub heads_next : (insts known : List Inst) (left : Marks) (label : ℕ) (inst : Inst) (place : ℕ) (old new : Marks) → insts ≡ known → inst ≡ inst_at insts place → label ≡ block_at insts place → AreThose (is_left_loop known) left
    → AreThose (λ id. list_any (is_header_merge insts id) (range_with_len 0 place)) old → AddsThose (heads_to left label inst) old new
    → AreThose (λ id. list_any (is_header_merge insts id) (range_with_len 0 (place + 1))) new
heads_next insts known left label inst place old new same is own lefts had adds =
    gathers_next (is_header_merge insts) (heads_to left label inst) place old new
    (λ id. ap (λ (i : Inst). heads_to left label i id) is ∙ ap (λ (l : ℕ). heads_to left l (inst_at insts place) id) own
    ∙ ap (λ (b : Bool). ((inst_at insts place).op == LOOP_MERGE) && (block_at insts place == id) && not b)
    (lefts (word_at 0 (inst_at insts place)) ∙ ap (λ (l : List Inst). is_left_loop l (word_at 0 (inst_at insts place))) (sym same))) had adds

pub heads_are : (insts known : List Inst) (place : ℕ) (heads : Marks) → insts ≡ known → place ≤ length insts → length insts ≤ place
    → AreThose (λ id. list_any (is_header_merge insts id) (range_with_len 0 place)) heads → AreThose (heads_loop known) heads
unfolding heads_loop
heads_are insts known place heads same most least are id =
    are id ∙ ap (λ (n : ℕ). list_any (is_header_merge insts id) (range_with_len 0 n)) {x = place} {y = length insts} (omega (arith, most, least))
    ∙ ap (λ (l : List Inst). list_any (is_header_merge l id) (range_with_len 0 (length l))) same

pub lefts_are : (insts : List Inst) (place count : ℕ) (left : Marks) → length insts ≡ count → place ≤ count → count ≤ place
    → AreThose (λ id. list_any (λ (k : ℕ). is_label id (leaving_to insts k)) (range_with_len 0 place)) left → AreThose (is_left_loop insts) left
unfolding is_left_loop
lefts_are insts place count left same most least are id =
    are id ∙ ap (λ (n : ℕ). list_any (λ (k : ℕ). is_label id (leaving_to insts k)) (range_with_len 0 n)) {x = place} {y = length insts} (omega (arith, most, least, same))
