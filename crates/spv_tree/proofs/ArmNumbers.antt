-- The arms of an OpSwitch that were read so far, and their numbers.
use Rattle.std.proofs.Common.{◌≡◌, ◌≢◌, ℕ, suc, ◌+◌, ◌≤◌, Bool, true, false, not, ◌&&◌, ◌||◌, ◌==◌, if◌then◌else◌, List, [], ◌∷◌, ◌++◌, length, Option, None, Some, length-append, refl, ap, subst, sym, ◌∙◌, arith}
use Rattle.std.specs.Prelude.{IsTrue, ◌↔◌}
use Rattle.std.specs.Map.{lookup}
use Rattle.std.specs.Option.{option_map}
use Rattle.std.specs.Ordering.{nat_cmp, is_eq}
use Rattle.std.specs.BTreeMap.{BTreeMap, IsEmpty, get, is_at}
use Rattle.std.specs.BTreeSet.{BTreeSet, contains}
use Rattle.std.specs.List.{list_any}
use Rattle.std.proofs.lemmas.Bool.{eqb-true, eq-eqb}
use Rattle.std.proofs.lemmas.Bool.Decides.{nat_tests}
use Rattle.spirv_model.specs.declared.module.Inst.{Inst}
use Rattle.body_model.specs.declared.block_end.SwitchHead.{SwitchHead}
use Rattle.body_model.specs.Scope.{Scope, switch_arm}
use Rattle.body_model.specs.Switches.{is_among, without, labels_of}
use Rattle.body_model.specs.Grammar.{Sequence, no_arm, arm_behind, ArmsUpTo}
use Rattle.body_model.proofs.Forward.{forward}
use Rattle.spv_tree.specs.declared.tree.Run.{Run}
use Rattle.spv_tree.specs.Barred.{HasLabels}
use Rattle.spv_tree.specs.Parts.{Numbers, AreArms}
use Rattle.spv_tree.specs.Trees.{arm_number, labels_in, runs_of, run_of}
use Rattle.spv_tree.proofs.Among.{among_without, nothing_left}

-- ---- numbers

not_first : (y l : ℕ) (ys : List ℕ) (is : Bool) → y == l ≡ is → arm_number (y ∷ ys) l ≡ None → is ≡ false
not_first y l ys true is none = (let e : ◌≡◌ {A = Option ℕ} (Some 0) None = ap (λ (b : Bool). if b then Some 0 else option_map (λ number. number + 1) (arm_number ys l)) (sym is) ∙ none in cc)
not_first y l ys false is none = refl

none_mapped : (o : Option ℕ) → option_map (λ number. number + 1) o ≡ None → o ≡ None
none_mapped None is = refl
none_mapped (Some n) is = cc

not_later : (y l : ℕ) (ys : List ℕ) → arm_number (y ∷ ys) l ≡ None → arm_number ys l ≡ None
not_later y l ys none =
    none_mapped (arm_number ys l) (ap (λ (b : Bool). if b then Some 0 else option_map (λ number. number + 1) (arm_number ys l)) (sym (not_first y l ys (y == l) refl none)) ∙ none)

moved : (first last : Bool) (n : ℕ) (o : Option ℕ) → (first ≡ true → last ≡ true → ⊥)
    → (if first then Some 0 else option_map (λ number. number + 1) (if last then Some n else o)) ≡ (if last then Some (suc n) else if first then Some 0 else option_map (λ number. number + 1) o)
moved true true n o apart = absurd (apart refl refl)
moved true false n o apart = refl
moved false true n o apart = ap (λ (m : ℕ). Some m) {x = n + 1} {y = suc n} (omega arith)
moved false false n o apart = refl

number_push : (labels : List ℕ) (l x : ℕ) → arm_number labels l ≡ None → arm_number (labels ++ l ∷ []) x ≡ (if l == x then Some (length labels) else arm_number labels x)
number_push [] l x none = refl
number_push (y ∷ ys) l x none =
    ap (λ (o : Option ℕ). if y == x then Some 0 else option_map (λ number. number + 1) o) (number_push ys l x (not_later y l ys none))
    ∙ moved (y == x) (l == x) (length ys) (arm_number ys x)
    (λ first last. let e : y == l ≡ true = eq-eqb y l (eqb-true y x first ∙ sym (eqb-true l x last)) in let f = not_first y l ys (y == l) refl none in cc)

-- ---- what is left

-- what was read of an OpSwitch's arms, up to a place
pub record ArmsSoFar (insts : List Inst) (scope : Scope) (head : SwitchHead) (set : BTreeSet ℕ) (runs : List Run) (numbers : BTreeMap ℕ ℕ) (place : ℕ) : Type 0 where
  pub left : List ℕ
  pub arms : ArmsUpTo insts scope head left place
  pub left_are : HasLabels set left
  pub runs_are : runs ≡ runs_of arms
  pub numbers_are : Numbers numbers (labels_in arms)
  pub unread : (label : ℕ) → is_among label left ≡ true → arm_number (labels_in arms) label ≡ None
  pub counted : length runs ≡ length (labels_in arms)
  pub room : length runs ≤ place

pub no_arms : (insts : List Inst) (scope : Scope) (head : SwitchHead) (set : BTreeSet ℕ) (runs : List Run) (numbers : BTreeMap ℕ ℕ) → HasLabels set (labels_of insts head) → runs ≡ [] → ((label : ℕ) → get nat_cmp numbers label ≡ None)
    → ArmsSoFar insts scope head set runs numbers head.after
no_arms insts scope head set runs numbers has none empty = record {
  left = labels_of insts head;
  arms = no_arm refl refl;
  left_are = has;
  runs_are = none;
  numbers_are = empty;
  unread = λ label among. refl;
  counted = ap length none;
  room = let none_long : length runs ≡ 0 = ap length none in omega arith;
}

length_push : {X : Type 0} (xs : List X) (x : X) → length (xs ++ x ∷ []) ≡ length xs + 1
length_push {X = X} xs x = omega (arith, length-append {A = X})

among_others : (x label : ℕ) (left : List ℕ) → is_among x (without label left) ≡ true → (x == label ≡ false) × (is_among x left ≡ true)
among_others x label left among = parts (x == label) (is_among x left) (sym (among_without x label left) ∙ among)
  where
    parts : (a b : Bool) → (not a && b) ≡ true → (a ≡ false) × (b ≡ true)
    parts true b is = cc
    parts false b is = (refl, is)

turned : (a b : ℕ) → (a == b) ≡ (b == a)
turned a b = grind (arith, nat_tests)

-- one arm more
pub one_more : (insts : List Inst) (scope : Scope) (head : SwitchHead) (set now : BTreeSet ℕ) (runs pushed : List Run) (numbers raised : BTreeMap ℕ ℕ) (place to label : ℕ) (built : Run)
    → (so : ArmsSoFar insts scope head set runs numbers place) → IsTrue (is_among label so.left)
    → (d : Sequence insts (switch_arm scope head.merge (without label (labels_of insts head))) (Some label) place to None) → built ≡ run_of d
    → ((x : ℕ) → contains nat_cmp now x ≡ (not (x == label) && contains nat_cmp set x)) → ((x : ℕ) → get nat_cmp raised x ≡ (if label == x then Some (length runs) else get nat_cmp numbers x))
    → pushed ≡ runs ++ built ∷ [] → ArmsSoFar insts scope head now pushed raised to
one_more insts scope head set now runs pushed numbers raised place to label built so among d built_is removed raised_are pushed_is =
    let unread = so.unread label among in
    record {
      left = without label so.left;
      arms = arm_behind label place so.left so.arms among refl d;
      left_are = λ x. removed x ∙ ap (λ (b : Bool). not (x == label) && b) (so.left_are x) ∙ sym (among_without x label so.left);
      runs_are = pushed_is ∙ ap (λ (rs : List Run). rs ++ built ∷ []) so.runs_are ∙ ap (λ (r : Run). runs_of so.arms ++ r ∷ []) built_is;
      numbers_are = λ x. raised_are x ∙ ap (λ (n : ℕ). if label == x then Some n else get nat_cmp numbers x) so.counted ∙ ap (λ (o : Option ℕ). if label == x then Some (length (labels_in so.arms)) else o) (so.numbers_are x)
          ∙ sym (number_push (labels_in so.arms) label x unread);
      unread = λ x others.
          let p = among_others x label so.left others in
          number_push (labels_in so.arms) label x unread ∙ ap (λ (b : Bool). if b then Some (length (labels_in so.arms)) else arm_number (labels_in so.arms) x) (turned label x ∙ p.0) ∙ so.unread x p.1;
      counted = ap length pushed_is ∙ length_push runs built ∙ ap (λ (n : ℕ). n + 1) so.counted ∙ sym (length_push (labels_in so.arms) label);
      room = (let long = ap length pushed_is in let push = length_push runs built in let more = forward insts d in omega (arith, so.room, more.forward));
    }

-- ---- the set of labels

no_key : (keys : List ℕ) → length keys ≡ 0 → keys ≡ []
no_key [] none = refl
no_key (key ∷ keys) none = absurd (omega arith)

pub none_left : (set : BTreeSet ℕ) (left : List ℕ) → HasLabels set left → length set.keys ≡ 0 → left ≡ []
none_left set left has none = nothing_left left (λ label. sym (has label) ∙ ap (λ (keys : List ℕ). list_any (is_at (nat_cmp label)) keys) (no_key set.keys none))

equal_numbers : (a : ℕ) → is_eq (nat_cmp a a) ≡ true
equal_numbers a = grind (arith, nat_tests)

some_key : (left keys : List ℕ) → ((label : ℕ) → list_any (is_at (nat_cmp label)) keys ≡ is_among label left) → (length keys ≡ 0 → ⊥) → left ≢ []
some_key left [] has some = absurd (some refl)
some_key left (key ∷ keys) has some = λ none.
    let e : is_among key left ≡ is_among key [] = ap (is_among key) none in
    let f = ap (λ (b : Bool). b || list_any (is_at (nat_cmp key)) keys) (equal_numbers key) in
    let g = has key in
    cc

pub some_left : (set : BTreeSet ℕ) (left : List ℕ) → HasLabels set left → (length set.keys ≡ 0 → ⊥) → left ≢ []
some_left set left has some = some_key left set.keys has some

pub none_numbered : (numbers : BTreeMap ℕ ℕ) → IsEmpty numbers → (label : ℕ) → get nat_cmp numbers label ≡ None
none_numbered numbers none label = ap (λ (entries : List (ℕ × ℕ)). lookup (is_at (nat_cmp label)) entries) none

pub is_none : (is_empty : Bool) (P : Type 0) → IsTrue is_empty ↔ P → is_empty ≡ true → P
is_none is_empty P same is = same.0 is

pub is_some : (is_empty : Bool) (P : Type 0) → IsTrue is_empty ↔ P → is_empty ≡ false → P → ⊥
is_some is_empty P same is holds = (let e : true ≡ false = sym (same.1 holds) ∙ is in cc)

-- ---- all arms

-- arms that leave these labels, with their runs and numbers
abbrev ReadArms : List Inst → Scope → SwitchHead → List Run → BTreeMap ℕ ℕ → ℕ → List ℕ → Type 0
ReadArms insts scope head runs numbers place left = (arms : ArmsUpTo insts scope head left place) × (runs ≡ runs_of arms) × Numbers numbers (labels_in arms)

pub all_read : (insts : List Inst) (scope : Scope) (head : SwitchHead) (set : BTreeSet ℕ) (runs : List Run) (numbers : BTreeMap ℕ ℕ) (place : ℕ) → ArmsSoFar insts scope head set runs numbers place → length set.keys ≡ 0
    → AreArms insts scope head (record { runs = runs; numbers = numbers; place = place })
all_read insts scope head set runs numbers place so none =
    let read = subst (ReadArms insts scope head runs numbers place) (none_left set so.left so.left_are none) (so.arms, so.runs_are, so.numbers_are) in
    record { arms = read.0; runs_are = read.1; numbers_are = read.2 }
