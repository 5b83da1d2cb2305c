-- What is made of a sequence whose first block ends in a selection.
use Rattle.std.proofs.Common.{◌≡◌, ℕ, ◌+◌, ◌≤◌, inl, inr, false, List, ◌++◌, subst, arith, Option}
use Rattle.spirv_model.specs.declared.module.Words.{Words}
use Rattle.spirv_model.specs.Operands.{word_at}
use Rattle.body_model.specs.declared.block_end.BlockEnd.TheVariants as kind
use Rattle.body_model.specs.declared.block_end.SelectionHead.{SelectionHead}
use Rattle.body_model.specs.Scope.{Scope}
use Rattle.check_model.specs.Intervals.{Interval}
use Rattle.check_model.specs.Validity.{IsValidList}
use Rattle.change_model.specs.Plans.{Plan, is_dead}
use Rattle.change_model.specs.PlanRules.{IsPlan}
use Rattle.change_model.proofs.LeftArmParts.{RestAt}
use Rattle.change_model.proofs.LeftCases.{Makes, head_of}
use Rattle.change_model.proofs.LeftFronts.{OldBlock}
use Rattle.change_model.proofs.LeftHeadWays.{SelectsWay}
use Rattle.change_model.proofs.LeftMergeFates.{merge_fate}
use Rattle.change_model.proofs.LeftSelectCases.{WayAt, selection_stays}
use Rattle.change_model.proofs.LeftSelectCuts.{selection_goes}

pub selects_case : (words : Words) (v : IsValidList words) (zeros : List ℕ) (plan : Plan) → IsPlan words v zeros plan → (old : Scope) (from : ℕ) (head : SelectionHead) (o : OldBlock words.insts old from (kind.Selects head))
    → SelectsWay old o.inst o.behind o.place head → v.derivation.before + 1 ≤ from → is_dead (plan.fate from) ≡ false → (second join to : ℕ) (next : Option ℕ) (in_true in_false in_rest : List Interval)
    → WayAt words v plan old head.merge (o.place + 1) head.on_true head.after second in_true → WayAt words v plan old head.merge (o.place + 1) head.on_false second join in_false
    → RestAt words v plan old next head.merge o.place join to in_rest → head.after ≤ second → second ≤ join → Makes words v plan old next from to (in_true ++ (in_false ++ in_rest))
selects_case words v zeros plan p old from head o w low alive second join to next in_true in_false in_rest on_true on_false rest first most new goal onward known_next phis suits apart cont =
    let a = w.after in
    let f = rest.forward in
    let t = rest.placed.high in
    let h = head_of words v zeros plan p old new from to (kind.Selects head) onward o low (omega (arith, a, f, t, first, most)) alive phis suits in
    let m = w.merge in
    let true_way = subst (λ (n : ℕ). WayAt words v plan old (word_at 0 o.inst) (o.place + 1) (word_at 1 w.last) n second in_true) a
    (subst (λ (n : ℕ). WayAt words v plan old (word_at 0 o.inst) (o.place + 1) n head.after second in_true) w.on_true (subst (λ (n : ℕ). WayAt words v plan old n (o.place + 1) head.on_true head.after second in_true) m on_true)) in
    let false_way = subst (λ (n : ℕ). WayAt words v plan old (word_at 0 o.inst) (o.place + 1) n second join in_false) w.on_false (subst (λ (n : ℕ). WayAt words v plan old n (o.place + 1) head.on_false second join in_false) m on_false) in
    let behind = subst (λ (n : ℕ). RestAt words v plan old next n o.place join to in_rest) m rest in
    elim (merge_fate words v zeros plan p old new from (kind.Selects head) h w.last w.rest w.at w.is (omega (arith, a, f, t, first, most))) [
      | inl stay ↦ selection_stays words v zeros plan p old new from head h w second join to next in_true in_false in_rest true_way false_way behind (omega (arith, a, first)) most goal onward known_next suits apart cont stay
      | inr skip ↦ selection_goes words v zeros plan p old new from head h w second join to next in_true in_false in_rest true_way false_way behind (omega (arith, a, first)) most goal onward known_next suits apart cont skip
    ]
