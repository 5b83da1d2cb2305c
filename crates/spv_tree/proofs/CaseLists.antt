-- The cases of an OpSwitch, one after another.
use Rattle.std.proofs.Common.{◌≡◌, ℕ, Bool, true, false, not, ◌&&◌, ◌||◌, ◌==◌, ◌+◌, ◌<◌, List, [], ◌∷◌, ◌++◌, length, map, drop, refl, ap, sym, ◌∙◌, get_or}
use Rattle.std.specs.Ordering.{nat_cmp}
use Rattle.std.specs.BTreeSet.{BTreeSet, contains, IsEmpty}
use Rattle.std.specs.BTreeMap.{is_at}
use Rattle.std.specs.List.{list_any}
use Rattle.std.proofs.lemmas.List.{drop_more}
use Rattle.body_model.specs.Switches.{Case, cases_of, literals_of, is_among, repeat, without}
use Rattle.spv_tree.specs.declared.cases.SwitchCase.{SwitchCase}
use Rattle.spv_tree.specs.Barred.{as_cases, literals, targets, HasLabels}
use Rattle.spv_tree.proofs.Among.{without_push}

map_push : {X Y : Type 0} (f : X → Y) (xs : List X) (x : X) → map f (xs ++ x ∷ []) ≡ map f xs ++ f x ∷ []
map_push f [] x = refl
map_push f (y ∷ ys) x = ap (λ (l : List _). f y ∷ l) (map_push f ys x)

-- ---- equal literals

-- some of these literals was seen
abbrev pub meets : BTreeSet ℕ → List ℕ → Bool
meets seen [] = false
meets seen (x ∷ xs) = contains nat_cmp seen x || meets seen xs

or_swap : (a b c d : Bool) → ((a || b) || (c || d)) ≡ ((a || c) || (b || d))
or_swap true b c d = refl
or_swap false true true d = refl
or_swap false true false d = refl
or_swap false false true d = refl
or_swap false false false d = refl

meets_more : (x : ℕ) (before after : BTreeSet ℕ) (xs : List ℕ) → ((y : ℕ) → contains nat_cmp after y ≡ ((y == x) || contains nat_cmp before y)) → meets after xs ≡ (is_among x xs || meets before xs)
meets_more x before after [] now = refl
meets_more x before after (y ∷ ys) now =
    ap (λ (b : Bool). b || meets after ys) (now y) ∙ ap (λ (b : Bool). ((y == x) || contains nat_cmp before y) || b) (meets_more x before after ys now)
    ∙ or_swap (y == x) (contains nat_cmp before y) (is_among x ys) (meets before ys)

turned : (a b c : Bool) → (a || (b || c)) ≡ ((b || a) || c)
turned true true c = refl
turned true false c = refl
turned false true c = refl
turned false false c = refl

-- whether literals from a case on were seen, or repeat
abbrev pub Repeats : List SwitchCase → ℕ → BTreeSet ℕ → Type 0
Repeats cases index seen = repeat (literals cases) ≡ (meets seen (literals (drop index cases)) || repeat (literals (drop index cases)))

none_seen : (seen : BTreeSet ℕ) (xs : List ℕ) → IsEmpty seen → meets seen xs ≡ false
none_seen seen [] none = refl
none_seen seen (x ∷ xs) none = ap (λ (keys : List ℕ). list_any (is_at (nat_cmp x)) keys || meets seen xs) none ∙ none_seen seen xs none

pub none_yet : (cases : List SwitchCase) (seen : BTreeSet ℕ) → IsEmpty seen → Repeats cases 0 seen
none_yet cases seen none = ap (λ (b : Bool). b || repeat (literals cases)) (sym (none_seen seen (literals cases) none))

is_seen : (is_new has : Bool) → is_new ≡ not has → is_new ≡ false → has ≡ true
is_seen is_new true is none = refl
is_seen is_new false is none = (let e : true ≡ false = sym is ∙ none in cc)

is_unseen : (is_new has : Bool) → is_new ≡ not has → is_new ≡ true → has ≡ false
is_unseen is_new true is some = (let e : false ≡ true = sym is ∙ some in cc)
is_unseen is_new false is some = refl

-- the case at a place, at the front of those from there on
front_is : (cases : List SwitchCase) (index : ℕ) (seen : BTreeSet ℕ) (any : SwitchCase) → index < length cases → Repeats cases index seen
    → repeat (literals cases) ≡ (meets seen (literals (get_or cases index any ∷ drop (index + 1) cases)) || repeat (literals (get_or cases index any ∷ drop (index + 1) cases)))
front_is cases index seen any within so =
    so ∙ ap (λ (l : List SwitchCase). meets seen (literals l) || repeat (literals l)) (drop_more cases index any within)

pub literal_seen : (cases : List SwitchCase) (index : ℕ) (seen : BTreeSet ℕ) (any : SwitchCase) (is_new : Bool) → index < length cases → Repeats cases index seen
    → is_new ≡ not (contains nat_cmp seen (get_or cases index any).literal) → is_new ≡ false → true ≡ repeat (literals cases)
literal_seen cases index seen any is_new within so is old =
    let rest = drop (index + 1) cases in
    let case = get_or cases index any in
    sym (front_is cases index seen any within so
    ∙ ap (λ (b : Bool). (b || meets seen (literals rest)) || repeat (literals (case ∷ rest))) (is_seen is_new (contains nat_cmp seen case.literal) is old))

pub literal_new : (cases : List SwitchCase) (index : ℕ) (seen now : BTreeSet ℕ) (any : SwitchCase) (is_new : Bool) → index < length cases → Repeats cases index seen
    → is_new ≡ not (contains nat_cmp seen (get_or cases index any).literal) → is_new ≡ true
    → ((y : ℕ) → contains nat_cmp now y ≡ ((y == (get_or cases index any).literal) || contains nat_cmp seen y)) → Repeats cases (index + 1) now
literal_new cases index seen now any is_new within so is fresh more =
    let rest = drop (index + 1) cases in
    let case = get_or cases index any in
    front_is cases index seen any within so
    ∙ ap (λ (b : Bool). (b || meets seen (literals rest)) || repeat (literals (case ∷ rest))) (is_unseen is_new (contains nat_cmp seen case.literal) is fresh)
    ∙ turned (meets seen (literals rest)) (is_among case.literal (literals rest)) (repeat (literals rest))
    ∙ ap (λ (b : Bool). b || repeat (literals rest)) (sym (meets_more case.literal seen now (literals rest) more))

literals_are : (cases : List SwitchCase) → map (λ (case : Case). case.literal) (as_cases cases) ≡ literals cases
literals_are [] = refl
literals_are (case ∷ cases) = ap (λ (l : List ℕ). case.literal ∷ l) (literals_are cases)

pub literals_told : (cases same : List SwitchCase) (words : List ℕ) (told : Bool) → same ≡ cases → as_cases cases ≡ cases_of words → told ≡ repeat (literals same) → told ≡ repeat (literals_of words)
literals_told cases same words told same_is cases_are is =
    is ∙ ap (λ (l : List SwitchCase). repeat (literals l)) same_is ∙ ap repeat (sym (literals_are cases) ∙ ap (map (λ (case : Case). case.literal)) cases_are)

-- ---- labels

pub label_more : (labels now : BTreeSet ℕ) (merge default : ℕ) (before after : List SwitchCase) (case : SwitchCase) → HasLabels labels (without merge (default ∷ targets before))
    → ((label : ℕ) → contains nat_cmp now label ≡ ((not (case.target == merge) && (case.target == label)) || contains nat_cmp labels label))
    → after ≡ before ++ case ∷ [] → HasLabels now (without merge (default ∷ targets after))
label_more labels now merge default before after case has more is = λ label.
    more label ∙ ap (λ (b : Bool). (not (case.target == merge) && (case.target == label)) || b) (has label)
    ∙ sym (without_push label case.target merge (default ∷ targets before))
    ∙ ap (λ (l : List ℕ). is_among label (without merge (default ∷ l))) (sym (map_push (λ (case : SwitchCase). case.target) before case))
    ∙ ap (λ (l : List SwitchCase). is_among label (without merge (default ∷ targets l))) (sym is)
