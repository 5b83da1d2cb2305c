-- The targets of OpSwitches by their places, and the labels that arms bar.
use Rattle.std.proofs.Common.{◌≡◌, ℕ, ◌+◌, ◌<◌, ◌≤◌, Bool, true, false, cond, not, nat_lt, ◌&&◌, ◌||◌, ◌==◌, List, [], ◌∷◌, ◌++◌, length, map, drop, get_or, Option, None, Some, refl, ap, sym, ◌∙◌, arith}
use Rattle.std.specs.Prelude.{slice_get, slice_index, Result, OnOk}
use Rattle.std.proofs.lemmas.Result.{on_ok_weaker}
use Rattle.std.specs.declared.cmp.Ordering.{Ordering}
use Rattle.std.specs.declared.cmp.Ordering.TheVariants.{Less, Equal, Greater}
use Rattle.std.specs.Ordering.{nat_cmp, ordering_then, is_eq}
use Rattle.std.specs.BTreeMap.{is_at}
use Rattle.std.specs.BTreeSet.{BTreeSet, IsEmpty}
use Rattle.std.specs.List.{list_any}
use Rattle.std.proofs.lemmas.Bool.Decides.{nat_tests}
use Rattle.std.proofs.lemmas.Bool.{eqb-true, eq-eqb, ne_eqb}
use Rattle.std.proofs.lemmas.List.{drop_more}
use Rattle.std.proofs.lemmas.List.Elements.{All-head, All-tail}
use Rattle.std.proofs.lemmas.Option.{slice_get_past, slice_get_read}
use Rattle.spirv_model.specs.declared.module.Inst.{Inst}
use Rattle.spirv_model.specs.declared.op.TheConstants.{SWITCH}
use Rattle.body_model.specs.Grammar.{IsOp}
use Rattle.body_model.specs.Switches.{Case, cases_of, is_among, targets_of, without, words_at}
use Rattle.spv_tree.specs.declared.barred.OpenArm.{OpenArm}
use Rattle.spv_tree.specs.declared.cases.SwitchCase.{SwitchCase}
use Rattle.spv_tree.specs.Barred.{as_cases, targets, pair_cmp, has_pair, leads_to, leads_there, KnowsTargets, bars, is_barred, labels_beside, barred_by, AreBarred}
use Rattle.spv_tree.specs.Parts.{AreSwitches}
use Rattle.spv_tree.proofs.Among.{or_assoc, among_push, among_without}

-- ---- pairs as keys

both_equal : (o p : Ordering) → is_eq (ordering_then o p) ≡ (is_eq o && is_eq p)
both_equal Less p = refl
both_equal Equal p = refl
both_equal Greater p = refl

equal_numbers : (a b : ℕ) → is_eq (nat_cmp a b) ≡ (a == b)
equal_numbers a b = grind (arith, nat_tests)

same_pair : (a b c d : ℕ) → is_eq (pair_cmp (a, b) (c, d)) ≡ ((a == c) && (b == d))
same_pair a b c d = both_equal (nat_cmp a c) (nat_cmp b d) ∙ ap (λ t. t && is_eq (nat_cmp b d)) (equal_numbers a c) ∙ ap (λ t. (a == c) && t) (equal_numbers b d)

or_test : (t b : Bool) → cond t true b ≡ (b || t)
or_test true true = refl
or_test true false = refl
or_test false true = refl
or_test false false = refl

pub added : (a b c d : ℕ) (old now : Bool) → now ≡ cond (is_eq (pair_cmp (a, b) (c, d))) true old → now ≡ (old || ((a == c) && (b == d)))
added a b c d old now is = is ∙ ap (λ t. cond t true old) (same_pair a b c d) ∙ or_test ((a == c) && (b == d)) old

-- ---- the targets of one instruction

-- with these targets at a place, the one set has the pairs of the other
abbrev pub HasMore : BTreeSet (ℕ × ℕ) → BTreeSet (ℕ × ℕ) → ℕ → (ℕ → Bool) → Type 0
HasMore now old place leads = (a b : ℕ) → has_pair now a b ≡ (has_pair old a b || ((place == a) && leads b))

none_more : (old here : Bool) → old ≡ (old || (here && false))
none_more true here = refl
none_more false true = refl
none_more false false = refl

one_more : (old here these one : Bool) → ((old || (here && these)) || (here && one)) ≡ (old || (here && (these || one)))
one_more true here these one = refl
one_more false true these one = refl
one_more false false these one = refl

pub no_case : (old : BTreeSet (ℕ × ℕ)) (place : ℕ) → HasMore old old place (λ label. is_among label (targets []))
no_case old place = λ a b. none_more (has_pair old a b) (place == a)

pub case_more : (start old now : BTreeSet (ℕ × ℕ)) (place : ℕ) (before after : List SwitchCase) (case : SwitchCase) → HasMore old start place (λ label. is_among label (targets before))
    → HasMore now old place (λ label. case.target == label) → after ≡ before ++ case ∷ [] → HasMore now start place (λ label. is_among label (targets after))
case_more start old now place before after case has more is = λ a b.
    more a b ∙ ap (λ (t : Bool). t || ((place == a) && (case.target == b))) (has a b)
    ∙ one_more (has_pair start a b) (place == a) (is_among b (targets before)) (case.target == b)
    ∙ ap (λ (t : Bool). has_pair start a b || ((place == a) && t)) (sym (among_push b case.target (targets before)) ∙ ap (is_among b) (sym (pushed before)) ∙ ap (λ (l : List SwitchCase). is_among b (targets l)) (sym is))
  where
    pushed : (xs : List SwitchCase) → targets (xs ++ case ∷ []) ≡ targets xs ++ case.target ∷ []
    pushed [] = refl
    pushed (x ∷ xs) = ap (λ (l : List ℕ). x.target ∷ l) (pushed xs)

pub targets_are : (cases : List SwitchCase) → map (λ (case : Case). case.target) (as_cases cases) ≡ targets cases
targets_are [] = refl
targets_are (case ∷ cases) = ap (λ (l : List ℕ). case.target ∷ l) (targets_are cases)

other_op : (old here : Bool) (inst : Inst) (label : ℕ) → (inst.op ≡ SWITCH → ⊥) → old ≡ (old || (here && leads_to inst label))
other_op old here inst label isnt = none_more old here ∙ ap (λ (b : Bool). old || (here && (b && is_among label (targets_of inst.words)))) (sym (ne_eqb inst.op SWITCH isnt))

pub no_switch : (old : BTreeSet (ℕ × ℕ)) (place : ℕ) (inst : Inst) → (inst.op ≡ SWITCH → ⊥) → HasMore old old place (leads_to inst)
no_switch old place inst isnt = λ a b. other_op (has_pair old a b) (place == a) inst b isnt

pub switch_more : (start old now : BTreeSet (ℕ × ℕ)) (place first : ℕ) (inst : Inst) (cases : List SwitchCase) → inst.op ≡ SWITCH → first ≡ slice_index inst.words 1 → as_cases cases ≡ cases_of inst.words
    → HasMore old start place (λ label. first == label) → HasMore now old place (λ label. is_among label (targets cases)) → HasMore now start place (leads_to inst)
switch_more start old now place first inst cases is first_is cases_are one more = λ a b.
    more a b ∙ ap (λ (t : Bool). t || ((place == a) && is_among b (targets cases))) (one a b)
    ∙ one_more (has_pair start a b) (place == a) (first == b) (is_among b (targets cases))
    ∙ ap (λ (l : List ℕ). has_pair start a b || ((place == a) && is_among b (first ∷ l))) (sym (targets_are cases) ∙ ap (map (λ (case : Case). case.target)) cases_are)
    ∙ ap (λ (n : ℕ). has_pair start a b || ((place == a) && is_among b (n ∷ map (λ (case : Case). case.target) (cases_of inst.words)))) first_is
    ∙ ap (λ (t : Bool). has_pair start a b || ((place == a) && (t && is_among b (targets_of inst.words)))) (sym (eq-eqb inst.op SWITCH is))

pub switch_told : {E : Type 0} (result : Result (Unit {0}) E) (start old now : BTreeSet (ℕ × ℕ)) (place first : ℕ) (inst : Inst) (cases same : List SwitchCase) → inst.op ≡ SWITCH → first ≡ slice_index inst.words 1
    → same ≡ cases → as_cases cases ≡ cases_of inst.words
    → HasMore old start place (λ label. first == label) → OnOk result (HasMore now old place (λ label. is_among label (targets same))) → OnOk result (HasMore now start place (leads_to inst))
switch_told result start old now place first inst cases same is first_is same_is cases_are one =
    on_ok_weaker result (switch_more start old now place first inst same is first_is (ap as_cases same_is ∙ cases_are) one)

-- ---- the targets of a whole list

abbrev pub KnowsFirst : List Inst → ℕ → BTreeSet (ℕ × ℕ) → Type 0
KnowsFirst insts index pairs = (a b : ℕ) → has_pair pairs a b ≡ (nat_lt a index && leads_there (slice_get insts a) b)

none_less : (a : ℕ) → nat_lt a 0 ≡ false
none_less a = grind (arith, nat_tests)

pub none_known : (insts : List Inst) (pairs : BTreeSet (ℕ × ℕ)) → IsEmpty pairs → KnowsFirst insts 0 pairs
none_known insts pairs none = λ a b.
    ap (λ (keys : List (ℕ × ℕ)). list_any (is_at (pair_cmp (a, b))) keys) none ∙ ap (λ (t : Bool). t && leads_there (slice_get insts a) b) {x = false} {y = nat_lt a 0} (sym (none_less a))

by_place : (less here all one : Bool) → (here ≡ true → all ≡ one) → ((less && all) || (here && one)) ≡ ((less || here) && all)
by_place true true all one h = let e = h refl in first all one e
  where
    first : (x y : Bool) → x ≡ y → (x || y) ≡ x
    first true y e = refl
    first false y e = sym e
by_place true false true one h = refl
by_place true false false one h = refl
by_place false true all one h = sym (h refl)
by_place false false all one h = refl

less_more : (a index : ℕ) → (nat_lt a index || (index == a)) ≡ nat_lt a (index + 1)
less_more a index = grind (arith, nat_tests)

pub known_more : (insts : List Inst) (index place : ℕ) (inst : Inst) (old now : BTreeSet (ℕ × ℕ)) → index < length insts → inst ≡ get_or insts index inst → place ≡ index
    → KnowsFirst insts index old → HasMore now old place (leads_to inst) → KnowsFirst insts (index + 1) now
known_more insts index place inst old now within is at known more = λ a b.
    more a b ∙ ap (λ (n : ℕ). has_pair old a b || ((n == a) && leads_to inst b)) at ∙ ap (λ (t : Bool). t || ((index == a) && leads_to inst b)) (known a b)
    ∙ by_place (nat_lt a index) (index == a) (leads_there (slice_get insts a) b) (leads_to inst b)
    (λ same. ap (λ (n : ℕ). leads_there (slice_get insts n) b) (sym (eqb-true index a same)) ∙ ap (λ (found : Option Inst). leads_there found b) (slice_get_read insts (length insts) index inst refl within is))
    ∙ ap (λ (t : Bool). t && leads_there (slice_get insts a) b) (less_more a index)

past : (insts : List Inst) (index a b : ℕ) (less : Bool) → nat_lt a index ≡ less → length insts ≤ index → (less && leads_there (slice_get insts a) b) ≡ leads_there (slice_get insts a) b
past insts index a b true is all = refl
past insts index a b false is all =
    let far : length insts ≤ a = grind (arith, nat_tests) in
    sym (ap (λ (found : Option Inst). leads_there found b) (slice_get_past insts a far))

pub all_known : (insts : List Inst) (index : ℕ) (pairs : BTreeSet (ℕ × ℕ)) → length insts ≤ index → KnowsFirst insts index pairs → KnowsTargets insts pairs
all_known insts index pairs all known = λ a b. known a b ∙ past insts index a b (nat_lt a index) refl all

-- ---- barred labels

and_assoc : (a b c : Bool) → ((a && b) && c) ≡ (a && (b && c))
and_assoc true b c = refl
and_assoc false b c = refl

of_switch : (found : Option Inst) (label : ℕ) → IsOp SWITCH found → leads_there found label ≡ is_among label (targets_of (words_at found))
of_switch None label is = absurd is
of_switch (Some inst) label is = ap (λ (b : Bool). b && is_among label (targets_of inst.words)) (eq-eqb inst.op SWITCH is)

arm_bars : (insts : List Inst) (pairs : BTreeSet (ℕ × ℕ)) (arm : OpenArm) (label : ℕ) → KnowsTargets insts pairs → IsOp SWITCH (slice_get insts arm.place)
    → bars pairs arm label ≡ is_among label (without arm.label (labels_beside insts arm))
arm_bars insts pairs arm label known is =
    ap (λ (b : Bool). (not (label == arm.label) && not (label == arm.merge)) && b) (known arm.place label ∙ of_switch (slice_get insts arm.place) label is)
    ∙ and_assoc (not (label == arm.label)) (not (label == arm.merge)) _
    ∙ ap (λ (b : Bool). not (label == arm.label) && b) (sym (among_without label arm.merge (targets_of (words_at (slice_get insts arm.place)))))
    ∙ sym (among_without label arm.label (labels_beside insts arm))

among_both : (x : ℕ) (xs ys : List ℕ) → is_among x (xs ++ ys) ≡ (is_among x xs || is_among x ys)
among_both x [] ys = refl
among_both x (z ∷ zs) ys = ap (λ (b : Bool). (z == x) || b) (among_both x zs ys) ∙ or_assoc (z == x) (is_among x zs) (is_among x ys)

-- the labels that arms bar are those of the grammar
pub barred : (insts : List Inst) (pairs : BTreeSet (ℕ × ℕ)) (arms : List OpenArm) → KnowsTargets insts pairs → AreSwitches insts arms → AreBarred pairs arms (barred_by insts arms)
barred insts pairs [] known are = λ label. refl
barred insts pairs (arm ∷ arms) known are = λ label.
    ap (λ (b : Bool). b || is_barred pairs arms label) (arm_bars insts pairs arm label known (All-head (λ (arm : OpenArm). IsOp SWITCH (slice_get insts arm.place)) arm arms are))
    ∙ ap (λ (b : Bool). is_among label (without arm.label (labels_beside insts arm)) || b) (barred insts pairs arms known (All-tail (λ (arm : OpenArm). IsOp SWITCH (slice_get insts arm.place)) arm arms are) label)
    ∙ sym (among_both label (without arm.label (labels_beside insts arm)) (barred_by insts arms))

-- one arm after the other
other_arm : (pairs : BTreeSet (ℕ × ℕ)) (arm : OpenArm) (label : ℕ) → (label ≡ arm.label → ⊥) → (label ≡ arm.merge → ⊥) → has_pair pairs arm.place label ≡ true → bars pairs arm label ≡ true
other_arm pairs arm label own merge is =
    ap (λ (b : Bool). (not b && not (label == arm.merge)) && has_pair pairs arm.place label) (ne_eqb label arm.label own)
    ∙ ap (λ (b : Bool). not b && has_pair pairs arm.place label) (ne_eqb label arm.merge merge) ∙ is

pub arm_met : (pairs : BTreeSet (ℕ × ℕ)) (arms : List OpenArm) (index label : ℕ) (any : OpenArm) → index < length arms → (label ≡ (get_or arms index any).label → ⊥) → (label ≡ (get_or arms index any).merge → ⊥)
    → has_pair pairs (get_or arms index any).place label ≡ true → is_barred pairs arms label ≡ is_barred pairs (drop index arms) label → true ≡ is_barred pairs arms label
arm_met pairs arms index label any within own merge is so =
    sym (so ∙ ap (λ (l : List OpenArm). is_barred pairs l label) (drop_more arms index any within)
    ∙ ap (λ (b : Bool). b || is_barred pairs (drop (index + 1) arms) label) (other_arm pairs (get_or arms index any) label own merge is))
