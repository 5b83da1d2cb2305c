-- How a block ends depends neither on the place where it stands nor on what stands behind it, but for the label that it goes on to.
use Rattle.std.proofs.Common.{◌≡◌, ℕ, suc, ◌+◌, ◌<◌, ◌≤◌, Bool, true, false, not, nat_le, ◌==◌, ◌||◌, ◌&&◌, if◌then◌else◌, List, [], ◌∷◌, ◌++◌, length, slice_index, Option, None, Some, refl, ap, subst, ◌∙◌, arith}
use Rattle.limits.specs.declared.TheConstants.{NESTING}
use Rattle.spirv_model.specs.declared.module.Inst.{Inst}
use Rattle.spirv_model.specs.declared.op.TheConstants.{PHI, VARIABLE, LOOP_MERGE, SELECTION_MERGE, BRANCH, BRANCH_CONDITIONAL, SWITCH, KILL, RETURN, UNREACHABLE}
use Rattle.body_model.specs.declared.scope.End.{End}
use Rattle.body_model.specs.declared.block_end.BlockEnd.{BlockEnd}
use Rattle.body_model.specs.declared.block_end.BlockEnd.TheVariants.{Broken, Ends, GoesOn, Selects, Picks, Loops}
use Rattle.body_model.specs.declared.fault.TreeFault.{TreeFault}
use Rattle.body_model.specs.Classes.{is_plain, is_terminator}
use Rattle.body_model.specs.Scope.{Scope}
use Rattle.body_model.specs.Switches.{is_among, repeat, literals_of}
use Rattle.body_model.specs.Blocks.{begins_with, leads_to_loop, may_have_phis, exit_to, last_block, branch_end, test_end, invocation_end, terminator_end, unmerged, selection_end, loop_branch, last_part, rest_of_block, block_from}
use Rattle.body_model.proofs.Ends.{IsSound, sound_earlier, sound_if, broken, sound_selection, sound_loop, sound_rest, nothing_said}

-- the second instructions begin with each label that the first begin with
abbrev pub Begun : List Inst → List Inst → Type 0
Begun tail other = (label : ℕ) → begins_with label tail ≡ true → begins_with label other ≡ true

-- if the block that ends so takes so many places from p on, it ends alike from q on, with something else behind it
abbrev pub Alike : (p q size : ℕ) → List Inst → List Inst → BlockEnd → BlockEnd → Type 0
Alike p q size tail other (Broken fault) y = Unit {0}
Alike p q size tail other (Ends last) y = last.after ≡ p + size → y ≡ Ends (record last { after = q + size })
Alike p q size tail other (GoesOn after) y = after ≡ p + size → Begun tail other → y ≡ GoesOn (q + size)
Alike p q size tail other (Selects head) y = head.after ≡ p + size → y ≡ Selects (record head { after = q + size })
Alike p q size tail other (Picks head) y = head.after ≡ p + size → y ≡ Picks (record head { after = q + size })
Alike p q size tail other (Loops head) y = head.after ≡ p + size → y ≡ Loops (record head { after = q + size })

pub record IsAlike (p q size : ℕ) (tail other : List Inst) (x y : BlockEnd) : Type 0 where
  pub is : Alike p q size tail other x y

-- ---- whatever ends farther on

never : (p size at after : ℕ) → p + size ≤ at → at < after → after ≡ p + size → ⊥
never p size at after far forward is = omega arith

by_far : (p q size at past : ℕ) (tail other : List Inst) (scope : Scope) (x y : BlockEnd) → p + size ≤ at → IsSound (λ label. Unit {0}) scope at past x → Alike p q size tail other x y
by_far p q size at past tail other scope (Broken fault) y far sound = tt
by_far p q size at past tail other scope (Ends last) y far sound = λ is. absurd (never p size at last.after far sound.is.0.forward is)
by_far p q size at past tail other scope (GoesOn after) y far sound = λ is begun. absurd (never p size at after far sound.is.forward is)
by_far p q size at past tail other scope (Selects head) y far sound = λ is. absurd (never p size at head.after far sound.is.0.forward is)
by_far p q size at past tail other scope (Picks head) y far sound = λ is. absurd (never p size at head.after far sound.is.0.forward is)
by_far p q size at past tail other scope (Loops head) y far sound = λ is. absurd (never p size at head.after far sound.is.0.forward is)

farther : {p q size : ℕ} {tail other : List Inst} {x y : BlockEnd} (scope : Scope) (at past : ℕ) → p + size ≤ at → IsSound (λ label. Unit {0}) scope at past x → IsAlike p q size tail other x y
farther {p} {q} {size} {tail} {other} {x} {y} scope at past far sound = record { is = by_far p q size at past tail other scope x y far sound }

-- ---- one instruction later

by_later : (p q size : ℕ) (tail other : List Inst) (x y : BlockEnd) → Alike (p + 1) (q + 1) size tail other x y → Alike p q (suc size) tail other x y
by_later p q size tail other (Broken fault) y alike = tt
by_later p q size tail other (Ends last) y alike = λ is. alike (omega arith) ∙ ap (λ (n : ℕ). Ends (record last { after = n })) {x = q + 1 + size} {y = q + suc size} (omega arith)
by_later p q size tail other (GoesOn after) y alike = λ is begun. alike (omega arith) begun ∙ ap GoesOn {x = q + 1 + size} {y = q + suc size} (omega arith)
by_later p q size tail other (Selects head) y alike = λ is. alike (omega arith) ∙ ap (λ (n : ℕ). Selects (record head { after = n })) {x = q + 1 + size} {y = q + suc size} (omega arith)
by_later p q size tail other (Picks head) y alike = λ is. alike (omega arith) ∙ ap (λ (n : ℕ). Picks (record head { after = n })) {x = q + 1 + size} {y = q + suc size} (omega arith)
by_later p q size tail other (Loops head) y alike = λ is. alike (omega arith) ∙ ap (λ (n : ℕ). Loops (record head { after = n })) {x = q + 1 + size} {y = q + suc size} (omega arith)

later : {p q size : ℕ} {tail other : List Inst} {x y : BlockEnd} → IsAlike (p + 1) (q + 1) size tail other x y → IsAlike p q (suc size) tail other x y
later {p} {q} {size} {tail} {other} {x} {y} alike = record { is = by_later p q size tail other x y alike.is }

-- ---- the last instructions

alike_if : {p q size : ℕ} {tail other : List Inst} {x x' y y' : BlockEnd} (b : Bool) → IsAlike p q size tail other x x' → IsAlike p q size tail other y y'
    → IsAlike p q size tail other (if b then x else y) (if b then x' else y')
alike_if true is isnt = is
alike_if false is isnt = isnt

both_broken : {p q size : ℕ} {tail other : List Inst} {y : BlockEnd} {fault : TreeFault} → IsAlike p q size tail other (Broken fault) y
both_broken = record { is = tt }

same_after : (p q k size : ℕ) → p + k ≡ p + size → q + k ≡ q + size
same_after p q k size is = omega arith

both_end : {p q size : ℕ} {tail other : List Inst} (end : End) (next : Option ℕ) → IsAlike p q size tail other (last_block end next p) (last_block end next q)
both_end {p} {q} {size} end next = record { is = λ is. ap (λ (n : ℕ). Ends (record { end = end; next = next; after = n })) (same_after p q 1 size is) }

alike_exit : {p q size : ℕ} {tail other : List Inst} (exit : Option End) (stands stands' : Bool) → (p + 1 ≡ p + size → Begun tail other → stands ≡ true → stands' ≡ true)
    → IsAlike p q size tail other (branch_end exit stands p) (branch_end exit stands' q)
alike_exit (Some end) stands stands' begins = both_end end None
alike_exit {p} {q} {size} None true stands' begins = record { is = λ is begun. ap (λ (b : Bool). branch_end None b q) (begins is begun refl) ∙ ap GoesOn (same_after p q 1 size is) }
alike_exit None false stands' begins = both_broken

-- the label that an OpBranch goes on to stands right behind the block
begun_more : (p : ℕ) (more tail other : List Inst) (label : ℕ) → p + 1 ≡ p + suc (length more) → Begun tail other → begins_with label (more ++ tail) ≡ true → begins_with label (more ++ other) ≡ true
begun_more p [] tail other label is begun begins = begun label begins
begun_more p (inst ∷ more) tail other label is begun begins = absurd (omega arith)

alike_test : {p q size : ℕ} {tail other : List Inst} (test : Option ℕ) (cond on_true on_false : ℕ) → IsAlike p q size tail other (test_end test cond on_true on_false p) (test_end test cond on_true on_false q)
alike_test None cond on_true on_false = both_broken
alike_test (Some merge) cond on_true on_false =
    alike_if (on_true == on_false) both_broken (alike_if (on_false == merge) (both_end _ _) (alike_if (on_true == merge) (both_end _ _) both_broken))

alike_end : {p q size : ℕ} {tail other : List Inst} (may_end : Bool) (end : End) → IsAlike p q size tail other (invocation_end may_end end p) (invocation_end may_end end q)
alike_end true end = both_end end None
alike_end false end = both_broken

alike_terminator : (scope : Scope) (inst : Inst) (more tail other : List Inst) (p q : ℕ)
    → IsAlike p q (suc (length more)) tail other (terminator_end scope inst (more ++ tail) p) (terminator_end scope inst (more ++ other) q)
alike_terminator scope inst more tail other p q =
    alike_if (inst.op == BRANCH)
    (alike_if (is_among (slice_index inst.words 0) scope.barred) both_broken (alike_exit (exit_to scope (slice_index inst.words 0)) _ _ (begun_more p more tail other (slice_index inst.words 0))))
    (alike_if (inst.op == BRANCH_CONDITIONAL) (alike_test scope.test _ _ _)
    (alike_if (inst.op == SWITCH) both_broken
    (alike_if ((inst.op == RETURN) || (inst.op == UNREACHABLE)) (alike_end scope.may_end _) (alike_if (inst.op == KILL) (alike_end scope.may_end _) both_broken))))

alike_unmerged : {p q size : ℕ} {tail other : List Inst} (scope : Scope) (inst : Inst) (rest rest' : List Inst)
    → IsAlike p q size tail other (unmerged scope (inst ∷ rest) p) (unmerged scope (inst ∷ rest') q)
alike_unmerged scope inst rest rest' = alike_if (is_terminator inst.op) both_broken (alike_if (nat_le NESTING scope.depth) both_broken both_broken)

both_select : {p q size : ℕ} {tail other : List Inst} (cond merge on_true on_false : ℕ) → IsAlike p q size tail other
    (Selects (record { cond = cond; merge = merge; on_true = on_true; on_false = on_false; after = p + 2 })) (Selects (record { cond = cond; merge = merge; on_true = on_true; on_false = on_false; after = q + 2 }))
both_select {p} {q} {size} cond merge on_true on_false =
    record { is = λ is. ap (λ (n : ℕ). Selects (record { cond = cond; merge = merge; on_true = on_true; on_false = on_false; after = n })) (same_after p q 2 size is) }

both_pick : {p q size : ℕ} {tail other : List Inst} (selector merge default : ℕ) → IsAlike p q size tail other
    (Picks (record { selector = selector; merge = merge; default = default; after = p + 2 })) (Picks (record { selector = selector; merge = merge; default = default; after = q + 2 }))
both_pick {p} {q} {size} selector merge default =
    record { is = λ is. ap (λ (n : ℕ). Picks (record { selector = selector; merge = merge; default = default; after = n })) (same_after p q 2 size is) }

both_loop : {p q size : ℕ} {tail other : List Inst} (header merge next test : ℕ) → IsAlike p q size tail other
    (Loops (record { header = header; merge = merge; next = next; test = test; after = p + 2 })) (Loops (record { header = header; merge = merge; next = next; test = test; after = q + 2 }))
both_loop {p} {q} {size} header merge next test =
    record { is = λ is. ap (λ (n : ℕ). Loops (record { header = header; merge = merge; next = next; test = test; after = n })) (same_after p q 2 size is) }

alike_selection : (scope : Scope) (merge : ℕ) (more tail other : List Inst) (p q : ℕ)
    → IsAlike p q (suc (length more)) tail other (selection_end scope merge (more ++ tail) p) (selection_end scope merge (more ++ other) q)
alike_selection scope merge [] tail other p q =
    farther scope (p + 1) (p + 1 + length tail) (omega arith) (sound_selection (λ label. Unit {0}) scope merge tail p (p + 1 + length tail) (omega arith))
alike_selection scope merge (inst ∷ more) tail other p q =
    alike_if (inst.op == BRANCH_CONDITIONAL)
    (alike_if (nat_le NESTING scope.depth) both_broken
    (alike_if ((slice_index inst.words 1 == slice_index inst.words 2) && not (slice_index inst.words 1 == merge)) both_broken
    (both_select _ merge _ _)))
    (alike_if (inst.op == SWITCH)
    (alike_if (nat_le NESTING scope.depth) both_broken
    (alike_if (repeat (literals_of inst.words)) both_broken
    (both_pick _ merge _)))
    (alike_unmerged scope inst (more ++ tail) (more ++ other)))

alike_loop : (scope : Scope) (header : ℕ) (words : List ℕ) (more tail other : List Inst) (p q : ℕ)
    → IsAlike p q (suc (length more)) tail other (loop_branch scope header words (more ++ tail) p) (loop_branch scope header words (more ++ other) q)
alike_loop scope header words [] tail other p q =
    farther scope (p + 1) (p + 1 + length tail) (omega arith) (sound_loop (λ label. Unit {0}) scope header words tail p (p + 1 + length tail) (omega arith))
alike_loop scope header words (inst ∷ more) tail other p q =
    alike_if (inst.op == BRANCH)
    (alike_if (nat_le NESTING scope.depth) both_broken
    (alike_if (is_among (slice_index inst.words 0) scope.barred) both_broken
    (both_loop header _ _ _)))
    (alike_unmerged scope inst (more ++ tail) (more ++ other))

alike_last : (scope : Scope) (label : ℕ) (inst : Inst) (more tail other : List Inst) (p q : ℕ)
    → IsAlike p q (suc (length more)) tail other (last_part scope label inst (more ++ tail) p) (last_part scope label inst (more ++ other) q)
unfolding last_part
alike_last scope label inst more tail other p q =
    alike_if (inst.op == SELECTION_MERGE) (alike_selection scope _ more tail other p q)
    (alike_if (inst.op == LOOP_MERGE) (alike_if scope.may_loop (alike_loop scope label inst.words more tail other p q) both_broken)
    (alike_terminator scope inst more tail other p q))

alike_rest : (scope : Scope) (label : ℕ) (phis variables : Bool) (block tail other : List Inst) (p q : ℕ)
    → IsAlike p q (length block) tail other (rest_of_block scope label phis variables (block ++ tail) p) (rest_of_block scope label phis variables (block ++ other) q)
alike_rest scope label phis variables [] tail other p q =
    farther scope p (p + length tail) (omega arith) (sound_rest (λ label. Unit {0}) scope label phis variables tail p (p + length tail) (nothing_said scope) refl)
alike_rest scope label phis variables (inst ∷ block) tail other p q =
    let go = λ (phis variables : Bool). later (alike_rest scope label phis variables block tail other (p + 1) (q + 1)) in
    alike_if (inst.op == PHI) (alike_if phis (go phis false) both_broken)
    (alike_if (inst.op == VARIABLE) (alike_if variables (go false variables) both_broken)
    (alike_if (is_plain inst.op) (go false false) (alike_last scope label inst block tail other p q)))

-- ---- the block's head

-- one of these instructions is none that may stand within a block
abbrev has_last : List Inst → Bool
has_last [] = false
has_last (inst ∷ block) = if (inst.op == PHI) || (inst.op == VARIABLE) || is_plain inst.op then has_last block else true

same_if : (b x y z : Bool) → (x ≡ true → y ≡ z) → (if b then x else true) ≡ true → (w : Bool) → (if b then y else w) ≡ (if b then z else w)
same_if true x y z same is w = same is
same_if false x y z same is w = refl

same_lead : (block tail other : List Inst) → has_last block ≡ true → leads_to_loop (block ++ tail) ≡ leads_to_loop (block ++ other)
same_lead [] tail other is = cc
same_lead (inst ∷ block) tail other is =
    same_if ((inst.op == PHI) || (inst.op == VARIABLE) || is_plain inst.op) (has_last block) _ _ (same_lead block tail other) is (inst.op == LOOP_MERGE)

-- a block that has no last instruction yet ends behind these
record Inner (a b c more : Bool) : Type 0 where
  inner : (a || b || c) ≡ true
  rest : more ≡ false

inner_of : (a b c more : Bool) → (if a || b || c then more else true) ≡ false → Inner a b c more
inner_of true b c more is = record { inner = refl; rest = is }
inner_of false true c more is = record { inner = refl; rest = is }
inner_of false false true more is = record { inner = refl; rest = is }
inner_of false false false more is = cc

one_of : {scope : Scope} {place past : ℕ} {x y z : BlockEnd} (w : BlockEnd) (a b c : Bool) → (a || b || c) ≡ true → IsSound (λ label. Unit {0}) scope place past x → IsSound (λ label. Unit {0}) scope place past y
    → IsSound (λ label. Unit {0}) scope place past z → IsSound (λ label. Unit {0}) scope place past (if a then x else if b then y else if c then z else w)
one_of w true b c is x y z = x
one_of w false true c is x y z = y
one_of w false false true is x y z = z
one_of w false false false is x y z = cc

sound_inner : (scope : Scope) (label : ℕ) (phis variables : Bool) (block tail : List Inst) (place past : ℕ) → has_last block ≡ false → place + length block + length tail ≡ past
    → IsSound (λ label. Unit {0}) scope (place + length block) past (rest_of_block scope label phis variables (block ++ tail) place)
sound_inner scope label phis variables [] tail place past none is =
    sound_earlier (λ label. Unit {0}) scope (place + 0) place past _ (omega arith) (sound_rest (λ label. Unit {0}) scope label phis variables tail place past (nothing_said scope) (omega arith))
sound_inner scope label phis variables (inst ∷ block) tail place past none is =
    let parts = inner_of (inst.op == PHI) (inst.op == VARIABLE) (is_plain inst.op) (has_last block) none in
    let go = λ (phis variables : Bool). sound_earlier (λ label. Unit {0}) scope (place + suc (length block)) (place + 1 + length block) past (rest_of_block scope label phis variables (block ++ tail) (place + 1)) (omega arith)
    (sound_inner scope label phis variables block tail (place + 1) past parts.rest (omega arith)) in
    one_of (last_part scope label inst (block ++ tail) place) (inst.op == PHI) (inst.op == VARIABLE) (is_plain inst.op) parts.inner (sound_if phis (go phis false) broken) (sound_if variables (go false variables) broken) (go false false)

alike_head : (scope : Scope) (label : ℕ) (block tail other : List Inst) (p q : ℕ) (last : Bool) → has_last block ≡ last
    → IsAlike p q (length block) tail other (rest_of_block scope label (may_have_phis scope.phis (leads_to_loop (block ++ tail))) scope.first (block ++ tail) p)
    (rest_of_block scope label (may_have_phis scope.phis (leads_to_loop (block ++ other))) scope.first (block ++ other) q)
alike_head scope label block tail other p q true is =
    subst (λ (b : Bool). IsAlike p q (length block) tail other (rest_of_block scope label (may_have_phis scope.phis (leads_to_loop (block ++ tail))) scope.first (block ++ tail) p)
    (rest_of_block scope label (may_have_phis scope.phis b) scope.first (block ++ other) q)) (same_lead block tail other is)
    (alike_rest scope label (may_have_phis scope.phis (leads_to_loop (block ++ tail))) scope.first block tail other p q)
alike_head scope label block tail other p q false is =
    farther scope (p + length block) (p + length block + length tail) (omega arith) (sound_inner scope label _ scope.first block tail p (p + length block + length tail) is refl)

alike_from : (scope : Scope) (block tail other : List Inst) (p q : ℕ) → 0 < length block → IsAlike p q (length block) tail other (block_from scope (block ++ tail) p) (block_from scope (block ++ other) q)
alike_from scope [] tail other p q some = absurd (omega arith)
alike_from scope (inst ∷ block) tail other p q some = later (alike_head scope (slice_index inst.words 0) block tail other (p + 1) (q + 1) (has_last block) refl)

-- a block that ends so at one place, with something behind it, ends alike at another, with something else behind it
pub ends_alike : (scope : Scope) (block tail other : List Inst) (p q : ℕ) (end : BlockEnd) → 0 < length block → block_from scope (block ++ tail) p ≡ end
    → Alike p q (length block) tail other end (block_from scope (block ++ other) q)
ends_alike scope block tail other p q end some is =
    subst (λ (x : BlockEnd). Alike p q (length block) tail other x (block_from scope (block ++ other) q)) is (alike_from scope block tail other p q some).is
