-- The arms of an OpSwitch from one place stand in one way: their number, what they leave and the place behind them.
use Rattle.std.proofs.Common.{◌≡◌, ℕ, suc, ◌≤◌, List, [], length, drop, None, Some, Result, Ok, ap, sym, ◌∙◌, ⊎_elim, arith}
use Rattle.std.specs.Prelude.{IsTrue}
use Rattle.std.proofs.lemmas.Bool.{cases_lt}
use Rattle.spirv_model.specs.declared.module.Inst.{Inst}
use Rattle.body_model.specs.declared.fault.TreeFault.{TreeFault}
use Rattle.body_model.specs.Scope.{Scope, switch_arm}
use Rattle.body_model.specs.Switches.{is_among, without}
use Rattle.body_model.specs.Grammar.{Sequence, Arms, no_arm, arm_behind}
use Rattle.body_model.specs.Reading.{Read, label_at, read_blocks}
use Rattle.body_model.proofs.Dues.{label_is}
use Rattle.body_model.proofs.WholeReads.{due_of, whole}

abbrev pub count : {insts : List Inst} {scope : Scope} {merge : ℕ} {all due left : List ℕ} {from to : ℕ} → Arms insts scope merge all due from left to → ℕ
count (no_arm is none) = 0
count (arm_behind label between before arms among is sequence) = suc (count arms)

-- the label of the arm that stands at a place
pub same_label : (insts : List Inst) {scope scope' : Scope} {label label' between between' to to' : ℕ} → between ≡ between' → Sequence insts scope (Some label) between to None → Sequence insts scope' (Some label') between' to' None → label ≡ label'
same_label insts {label = label} {label' = label'} {between = between} {between' = between'} here d d' =
    sym (label_is insts label between (due_of insts d)) ∙ ap (λ (n : ℕ). label_at (drop n insts)) here ∙ label_is insts label' between' (due_of insts d')

same_to : (insts : List Inst) (n : ℕ) (scope : Scope) (merge : ℕ) (all : List ℕ) (label label' between between' to to' : ℕ) → label ≡ label' → between ≡ between'
    → read_blocks n insts (switch_arm scope merge (without label all)) (Some label) between ≡ Ok (record { after = to; next = None })
    → read_blocks n insts (switch_arm scope merge (without label' all)) (Some label') between' ≡ Ok (record { after = to'; next = None }) → to ≡ to'
same_to insts n scope merge all label label' between between' to to' same here a b =
    after_of to to' (sym a ∙ ap (λ (l : ℕ). read_blocks n insts (switch_arm scope merge (without l all)) (Some l) between) same
    ∙ ap (read_blocks n insts (switch_arm scope merge (without label' all)) (Some label')) here ∙ b)
  where
    after_of : (x y : ℕ) → ◌≡◌ {A = Result Read TreeFault} (Ok (record { after = x; next = None })) (Ok (record { after = y; next = None })) → x ≡ y
    after_of x y is = ap (λ (r : Read). r.after) (read_of (record { after = x; next = None }) (record { after = y; next = None }) is)
      where
        read_of : (x y : Read) → ◌≡◌ {A = Result Read TreeFault} (Ok x) (Ok y) → x ≡ y
        read_of x y is = cc

same_left : (label label' : ℕ) (before before' left left' : List ℕ) → label ≡ label' → before ≡ before' → without label before ≡ left → without label' before' ≡ left' → left ≡ left'
same_left label label' before before' left left' same is a b = cc

-- as many arms from one place
pub arms_end : (insts : List Inst) {scope : Scope} {merge : ℕ} {all due left left' : List ℕ} {from from' to to' : ℕ} (d : Arms insts scope merge all due from left to) (d' : Arms insts scope merge all due from' left' to')
    → from ≡ from' → count d ≡ count d' → (left ≡ left') × (to ≡ to')
arms_end insts (no_arm is none) (no_arm is' none') here same = (sym is ∙ is', sym none ∙ here ∙ none')
arms_end insts (no_arm is none) (arm_behind label' between' before' arms' among' is' sequence') here same = absurd (omega arith)
arms_end insts (arm_behind label between before arms among is sequence) (no_arm is' none') here same = absurd (omega arith)
arms_end insts {scope = scope} {merge = merge} {all = all} {left = left} {left' = left'} {to = to} {to' = to'} (arm_behind label between before arms among is sequence) (arm_behind label' between' before' arms' among' is' sequence') here same =
    let both = arms_end insts arms arms' here (omega arith) in
    let labels = same_label insts both.1 sequence sequence' in (
      same_left label label' before before' left left' labels both.0 is is',
      same_to insts (length insts) scope merge all label label' between between' to to' labels both.1 (whole insts sequence (length insts) (omega arith)) (whole insts sequence' (length insts) (omega arith)),
    )

nothing_left : (label : ℕ) (left : List ℕ) → [] ≡ left → IsTrue (is_among label left) → ⊥
nothing_left label left none among = let e : is_among label left ≡ is_among label [] = ap (is_among label) (sym none) in cc

-- where no arm is left, no more can stand
no_more : (insts : List Inst) {scope : Scope} {merge : ℕ} {all due left' : List ℕ} {from from' to to' : ℕ} (d : Arms insts scope merge all due from [] to) (d' : Arms insts scope merge all due from' left' to')
    → from ≡ from' → count d' ≤ count d
no_more insts d (no_arm is' none') here = omega arith
no_more insts d (arm_behind label' between' before' arms' among' is' sequence') here =
    let most = no_more insts d arms' here in
    ⊎_elim (λ fewer. fewer) (λ all. absurd (nothing_left label' before' (arms_end insts d arms' here (omega arith)).0 among')) (cases_lt (count arms') (count d))

pub same_count : (insts : List Inst) {scope : Scope} {merge : ℕ} {all due : List ℕ} {from from' to to' : ℕ} (d : Arms insts scope merge all due from [] to) (d' : Arms insts scope merge all due from' [] to')
    → from ≡ from' → count d ≡ count d'
same_count insts d d' here = omega (arith, no_more insts d d' here, no_more insts d' d (sym here))
