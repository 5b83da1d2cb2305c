-- What is made of a sequence whose first block ends in a selection that goes.
use Rattle.std.proofs.Common.{◌≡◌, ℕ, ◌+◌, ◌<◌, ◌≤◌, ◌⊎◌, inl, inr, ◌==◌, ◌&&◌, ◌||◌, not, Bool, true, false, List, [], ◌∷◌, ◌++◌, refl, ap, sym, ◌∙◌, subst, arith, Option}
use Rattle.std.proofs.lemmas.Bool.{cases_lt, eqb-true, eq-eqb}
use Rattle.spirv_model.specs.declared.module.Inst.{Inst}
use Rattle.spirv_model.specs.declared.module.Words.{Words}
use Rattle.spirv_model.specs.declared.op.TheConstants as op
use Rattle.spirv_model.specs.Operands.{word_at}
use Rattle.body_model.specs.declared.block_end.BlockEnd.TheVariants as kind
use Rattle.body_model.specs.declared.block_end.SelectionHead.{SelectionHead}
use Rattle.body_model.specs.Scope.{Scope, arm}
use Rattle.body_model.specs.Switches.{is_among}
use Rattle.body_model.specs.Targets.{targets}
use Rattle.valid_model.specs.Definitions.{inst_at}
use Rattle.check_model.specs.Intervals.{Interval, around, intervals_of}
use Rattle.check_model.specs.Validity.{IsValidList}
use Rattle.change_model.specs.declared.fate.Fate.TheVariants as fate
use Rattle.change_model.specs.Plans.{Plan, is_dead, leads_from}
use Rattle.change_model.specs.PlanRules.{IsPlan, intervals_left, merge_labels}
use Rattle.change_model.proofs.LeftAlive.{only_among}
use Rattle.change_model.proofs.LeftArmParts.{ArmAt, RestAt, begins_own, arm_dead, either_place}
use Rattle.change_model.proofs.LeftArms.{suits_joined}
use Rattle.change_model.proofs.LeftCases.{Knows}
use Rattle.change_model.proofs.LeftChosen.{chosen_leads, chosen_merge, chosen_arm}
use Rattle.change_model.proofs.LeftEndings.{differ}
use Rattle.change_model.proofs.LeftHeadWays.{SelectsWay}
use Rattle.change_model.proofs.LeftLasts.{Head, none_left}
use Rattle.change_model.proofs.LeftMergeFates.{branch_here, GoesOneWay, skipped_fate}
use Rattle.change_model.proofs.LeftRemains.{left_both, none_left_of}
use Rattle.change_model.proofs.LeftScopes.{Onward, Suits, Apart, Continues, Made}
use Rattle.change_model.proofs.LeftSelectCases.{WayAt, straight_on, by_arm}
use Rattle.change_model.proofs.LeftTests.{choice_targets}

two_of : (one two label : ℕ) → is_among label (one ∷ two ∷ []) ≡ true → (one ≡ label) ⊎ (two ≡ label)
two_of one two label among = by_tests (one == label) (two == label) refl refl among
  where
    by_tests : (a b : Bool) → one == label ≡ a → two == label ≡ b → (a || (b || false)) ≡ true → (one ≡ label) ⊎ (two ≡ label)
    by_tests true b first second some = inl (eqb-true one label first)
    by_tests false true first second some = inr (eqb-true two label second)
    by_tests false false first second some = cc

-- targets that aren't both the merge block differ
apart_ways : (one two merge : ℕ) → ((one == two) && not (one == merge)) ≡ false → (one ≡ merge → ⊥) → one ≡ two → ⊥
apart_ways one two merge none isnt same = by_tests (one == two) (one == merge) (eq-eqb one two same) (differ one merge isnt) none
  where
    by_tests : (a b : Bool) → a ≡ true → b ≡ false → (a && not b) ≡ false → ⊥
    by_tests true false first second some = cc
    by_tests true true first second some = cc
    by_tests false b first second some = cc

no_merge_labels : (inst : Inst) (label : ℕ) → inst.op ≡ op.BRANCH_CONDITIONAL → is_among label (merge_labels inst) ≡ false
no_merge_labels inst label is = rw is refl

module _ (words : Words) (v : IsValidList words) (zeros : List ℕ) (plan : Plan) (p : IsPlan words v zeros plan) (old new : Scope) (from : ℕ) (head : SelectionHead) (h : Head words v plan old new from (kind.Selects head))
    (w : SelectsWay old h.o.inst h.o.behind h.o.place head) (second join to : ℕ) (next : Option ℕ) (in_true in_false in_rest : List Interval)
    (on_true : WayAt words v plan old (word_at 0 h.o.inst) (h.o.place + 1) (word_at 1 w.last) (h.o.place + 2) second in_true)
    (on_false : WayAt words v plan old (word_at 0 h.o.inst) (h.o.place + 1) (word_at 2 w.last) second join in_false)
    (rest : RestAt words v plan old next (word_at 0 h.o.inst) h.o.place join to in_rest) (low_second : h.o.place + 2 ≤ second) (low_join : second ≤ join)
    (goal : Option ℕ) (onward : Onward) (known_next : Knows plan words.insts old onward next goal) (suits : Suits plan words.insts from to old new onward) (apart : Apart words.insts from to new)
    (cont : Continues plan words.insts (intervals_of v.derivation) from to new goal onward) (skip : plan.fate h.o.place ≡ fate.Skips) where
  abbrev insts : List Inst
  insts = words.insts

  abbrev intervals : List Interval
  intervals = intervals_of v.derivation

  abbrev merge : ℕ
  merge = word_at 0 h.o.inst

  abbrev branch : ℕ
  branch = h.o.place + 1

  low : v.derivation.before + 1 ≤ branch
  low = let e = h.o.place_is in let l = h.low in omega (arith, e, l)

  high : branch < v.derivation.after
  high = let r = rest.placed.high in let f = rest.forward in omega (arith, r, f, low_second, low_join)

  one_way : GoesOneWay words v zeros plan p old new from (kind.Selects head) h w.last w.rest w.at w.is high
  one_way = skipped_fate words v zeros plan p old new from (kind.Selects head) h w.last w.rest w.at w.is high skip

  abbrev label : ℕ
  label = one_way.label

  branch_is : inst_at insts branch ≡ w.last
  branch_is = branch_here words v zeros plan p old new from (kind.Selects head) h w.last w.rest w.at w.is high

  among : is_among label (word_at 1 w.last ∷ word_at 2 w.last ∷ []) ≡ true
  among = ap (is_among label) (sym (ap targets branch_is ∙ choice_targets w.last w.branch)) ∙ only_among plan insts (inst_at insts branch) label one_way.may.only

  leads : (other : ℕ) → leads_from plan insts other branch ≡ (label == other)
  leads = chosen_leads words v zeros plan p old new from (kind.Selects head) h w.last w.rest w.at w.is merge join to next in_rest (in_true ++ (in_false ++ in_rest)) rest goal onward known_next suits apart cont skip label one_way.is_there

  -- ---- a way that control doesn't take

  way_dead : (target a b : ℕ) (inside : List Interval) → WayAt words v plan old merge branch target a b inside → (label ≡ target → ⊥) → (place : ℕ) → a ≤ place → place < b → is_dead (plan.fate place) ≡ true
  way_dead target a b inside (straight_on same none nothing) isnt = λ place least less. absurd (omega (arith, none, least, less))
  way_dead target a b inside (by_arm inner other is x quiet) isnt =
      arm_dead words v zeros plan p (arm old merge) merge branch target a b inner x low (leads target ∙ differ label target isnt) (no_merge_labels (inst_at insts branch) target (ap (λ (i : Inst). i.op) branch_is ∙ w.branch))

  way_left : (target a b : ℕ) (inside : List Interval) → WayAt words v plan old merge branch target a b inside → (label ≡ target → ⊥) → intervals_left plan insts inside ≡ []
  way_left target a b inside (straight_on same none nothing) isnt = ap (intervals_left plan insts) nothing ∙ none_left plan insts
  way_left target a b inside (by_arm inner other is x quiet) isnt =
      ap (intervals_left plan insts) is ∙ none_left_of plan insts a b (way_dead target a b inside (by_arm inner other is x quiet) isnt) (around a b inner) (begins_own a b inner x.forward x.starts)

  -- where control goes to the merge block, a way is empty or isn't taken
  unused_dead : merge ≡ label → (target a b : ℕ) (inside : List Interval) → WayAt words v plan old merge branch target a b inside → (place : ℕ) → a ≤ place → place < b → is_dead (plan.fate place) ≡ true
  unused_dead same target a b inside (straight_on is none nothing) = λ place least less. absurd (omega (arith, none, least, less))
  unused_dead same target a b inside (by_arm inner other is x quiet) = way_dead target a b inside (by_arm inner other is x quiet) (λ equal. other (sym equal ∙ sym same))

  unused_left : merge ≡ label → (target a b : ℕ) (inside : List Interval) → WayAt words v plan old merge branch target a b inside → intervals_left plan insts inside ≡ []
  unused_left same target a b inside (straight_on is none nothing) = ap (intervals_left plan insts) nothing ∙ none_left plan insts
  unused_left same target a b inside (by_arm inner other is x quiet) = way_left target a b inside (by_arm inner other is x quiet) (λ equal. other (sym equal ∙ sym same))

  left_all : intervals_left plan insts (in_true ++ (in_false ++ in_rest)) ≡ intervals_left plan insts in_true ++ (intervals_left plan insts in_false ++ intervals_left plan insts in_rest)
  left_all = left_both plan insts in_true (in_false ++ in_rest) ∙ ap (λ (l : List Interval). intervals_left plan insts in_true ++ l) (left_both plan insts in_false in_rest)

  abbrev Result : Type 0
  Result = Made plan insts intervals new goal onward from to (in_true ++ (in_false ++ in_rest))

  -- ---- by the way that it takes

  to_merge : merge ≡ label → Result
  to_merge same =
      chosen_merge words v zeros plan p old new from (kind.Selects head) h w.last w.rest w.at w.is merge join to next in_rest (in_true ++ (in_false ++ in_rest)) rest goal onward known_next suits apart cont skip label one_way.is_there same
      (λ place least less. elim (cases_lt place second) [
        | inl early ↦ unused_dead same (word_at 1 w.last) (h.o.place + 2) second in_true on_true place least early
        | inr late ↦ unused_dead same (word_at 2 w.last) second join in_false on_false place late less
      ])
      (left_all ∙ ap (λ (l : List Interval). l ++ (intervals_left plan insts in_false ++ intervals_left plan insts in_rest)) (unused_left same (word_at 1 w.last) (h.o.place + 2) second in_true on_true)
      ∙ ap (λ (l : List Interval). l ++ intervals_left plan insts in_rest) (unused_left same (word_at 2 w.last) second join in_false on_false))

  to_way : (merge ≡ label → ⊥) → (target a b : ℕ) (inside : List Interval) → h.o.place + 2 ≤ a → b ≤ join → target ≡ label → WayAt words v plan old merge branch target a b inside
      → ((place : ℕ) → h.o.place + 2 ≤ place → place < a → is_dead (plan.fate place) ≡ true) → ((place : ℕ) → b ≤ place → place < join → is_dead (plan.fate place) ≡ true)
      → intervals_left plan insts (in_true ++ (in_false ++ in_rest)) ≡ intervals_left plan insts inside ++ intervals_left plan insts in_rest → Result
  to_way isnt target a b inside first most same (straight_on is none nothing) before between left = absurd (isnt (sym is ∙ same))
  to_way isnt target a b inside first most same (by_arm inner other is x quiet) before between left =
      let x' = subst (λ (n : ℕ). ArmAt words v plan (arm old merge) merge branch n a b inner) same x in
      let e = h.o.place_is in
      let f = rest.forward in
      chosen_arm words v zeros plan p old new from (kind.Selects head) h w.last w.rest w.at w.is merge join to next in_rest (in_true ++ (in_false ++ in_rest)) rest goal onward known_next suits apart cont skip label one_way.is_there isnt
      (arm old merge) a b inner x' most quiet (λ further more merges. suits_joined plan insts from a b to merge old new onward (omega (arith, e, first)) (omega (arith, f, most)) suits further more merges) before between
      (left ∙ ap (λ (l : List Interval). intervals_left plan insts l ++ intervals_left plan insts in_rest) is)

  to_arm : (merge ≡ label → ⊥) → (word_at 1 w.last ≡ label) ⊎ (word_at 2 w.last ≡ label) → Result
  to_arm isnt (inl same) =
      let not_two : label ≡ word_at 2 w.last → ⊥ = λ equal. apart_ways (word_at 1 w.last) (word_at 2 w.last) merge w.differ (λ is. isnt (sym is ∙ same)) (same ∙ equal) in
      to_way isnt (word_at 1 w.last) (h.o.place + 2) second in_true (omega arith) low_join same on_true (λ place least less. absurd (omega (arith, least, less)))
      (way_dead (word_at 2 w.last) second join in_false on_false not_two)
      (left_all ∙ ap (λ (l : List Interval). intervals_left plan insts in_true ++ (l ++ intervals_left plan insts in_rest)) (way_left (word_at 2 w.last) second join in_false on_false not_two))
  to_arm isnt (inr same) =
      let not_one : label ≡ word_at 1 w.last → ⊥ = λ equal. apart_ways (word_at 1 w.last) (word_at 2 w.last) merge w.differ (λ is. isnt (sym is ∙ sym equal)) (sym equal ∙ sym same) in
      to_way isnt (word_at 2 w.last) second join in_false low_second (omega arith) same on_false (way_dead (word_at 1 w.last) (h.o.place + 2) second in_true on_true not_one) (λ place least less. absurd (omega (arith, least, less)))
      (left_all ∙ ap (λ (l : List Interval). l ++ (intervals_left plan insts in_false ++ intervals_left plan insts in_rest)) (way_left (word_at 1 w.last) (h.o.place + 2) second in_true on_true not_one))

  pub selection_goes : Result
  selection_goes = either_place merge label to_merge (λ isnt. to_arm isnt (two_of (word_at 1 w.last) (word_at 2 w.last) label among))
