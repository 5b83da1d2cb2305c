-- The judgement is kept: by an instruction that has no result, by one whose result suits, and along a branch.
use Rattle.std.proofs.Common.{◌≡◌, ℕ, zero, suc, ◌+◌, ◌<◌, ◌==◌, ◌&&◌, ◌||◌, ◌⊎◌, inl, inr, Bool, true, false, not, nat_le, nat_lt, if◌then◌else◌, List, [], ◌∷◌, refl, ap, sym, ◌∙◌, subst, arith, Option, None, Some}
use Rattle.std.specs.Option.{option_map}
use Rattle.std.proofs.lemmas.Bool.{cases_lt, lt-ltb, ltb-true, le-leb, leb-true}
use Rattle.std.proofs.lemmas.Bool.Decides.{nat_tests}
use Rattle.basics.proofs.Bools.{first_of_both, second_of_both}
use Rattle.spirv_model.specs.declared.module.Inst.{Inst}
use Rattle.spirv_model.specs.Operands.{result}
use Rattle.body_model.specs.Classes.{is_terminator}
use Rattle.valid_model.specs.Definitions.{has_result, gives, definition, inst_at, is_earlier, twice_by, id_twice}
use Rattle.valid_model.specs.Meanings.{meaning}
use Rattle.check_model.specs.Intervals.{Interval, has_place, is_visible}
use Rattle.check_model.specs.Typing.{type_id, constant_word}
use Rattle.stage_model.specs.Value.{Value}
use Rattle.stage_model.specs.Program.{program_of}
use Rattle.stage_model.specs.Start.{Values, with_value}
use Rattle.typed_model.specs.Types.{Suits}
use Rattle.typed_model.specs.Jumps.{keeps, Jump}
use Rattle.typed_model.specs.Judgement.{AreTyped}
use Rattle.typed_model.proofs.ResultIds.{terminator_result}

-- ---- what is visible

both : (a b : Bool) → a ≡ true → b ≡ true → (a && b) ≡ true
both true b is also = also
both false b is also = cc

pub visible_by : (intervals : List Interval) (a b : ℕ) → a < b → keeps intervals a b ≡ true → is_visible intervals a b ≡ true
unfolding is_visible
visible_by intervals a b less kept = both (nat_lt a b) (keeps intervals a b) (lt-ltb a b less) kept

pub seen : (intervals : List Interval) (a b : ℕ) → is_visible intervals a b ≡ true → (a < b) × (keeps intervals a b ≡ true)
unfolding is_visible
seen intervals a b is = (ltb-true a b (first_of_both (nat_lt a b) (keeps intervals a b) is), second_of_both (nat_lt a b) (keeps intervals a b) is)

nearer : (from to a b : ℕ) → a < b → ((not (nat_le from a && nat_lt a to)) || (nat_le from (b + 1) && nat_lt (b + 1) to)) ≡ true → ((not (nat_le from a && nat_lt a to)) || (nat_le from b && nat_lt b to)) ≡ true
nearer from to a b less is = by_test from to a b less (nat_le from a && nat_lt a to) refl is
  where
    there : (from to a b : ℕ) → a < b → (nat_le from a && nat_lt a to) ≡ true → (nat_le from (b + 1) && nat_lt (b + 1) to) ≡ true → (nat_le from b && nat_lt b to) ≡ true
    there from to a b less here next =
        let low = leb-true from a (first_of_both (nat_le from a) (nat_lt a to) here) in
        let high = ltb-true (b + 1) to (second_of_both (nat_le from (b + 1)) (nat_lt (b + 1) to) next) in
        both (nat_le from b) (nat_lt b to) (le-leb from b (omega (arith, low))) (lt-ltb b to (omega (arith, high)))

    by_test : (from to a b : ℕ) → a < b → (h : Bool) → (nat_le from a && nat_lt a to) ≡ h → (not h || (nat_le from (b + 1) && nat_lt (b + 1) to)) ≡ true → (not h || (nat_le from b && nat_lt b to)) ≡ true
    by_test from to a b less true here is = there from to a b less here is
    by_test from to a b less false here is = refl

kept_nearer : (intervals : List Interval) (a b : ℕ) → a < b → keeps intervals a (b + 1) ≡ true → keeps intervals a b ≡ true
kept_nearer [] a b less kept = refl
kept_nearer (i ∷ intervals) a b less kept =
    both (not (has_place a i) || has_place b i) (keeps intervals a b) (nearer i.from i.to a b less (first_of_both (not (has_place a i) || has_place (b + 1) i) (keeps intervals a (b + 1)) kept))
    (kept_nearer intervals a b less (second_of_both (not (has_place a i) || has_place (b + 1) i) (keeps intervals a (b + 1)) kept))

-- at the next place nothing more is visible than what is defined here
pub visible_before : (intervals : List Interval) (a b : ℕ) → is_visible intervals a (b + 1) ≡ true → (a ≡ b) ⊎ (is_visible intervals a b ≡ true)
visible_before intervals a b is =
    let s = seen intervals a (b + 1) is in
    elim (cases_lt a b) [ inl less ↦ inr (visible_by intervals a b less (kept_nearer intervals a b less s.1)) | inr past ↦ inl (omega (arith, s.0)) ]

-- where a branch leads nothing more is visible than at the branch
pub visible_jump : (intervals : List Interval) (terminator label a : ℕ) → Jump intervals terminator label → is_visible intervals a label ≡ true → (a ≡ terminator) ⊎ (is_visible intervals a terminator ≡ true)
visible_jump intervals terminator label a jump is =
    let s = seen intervals a label is in let low = jump.before a s.0 s.1 in
    elim (cases_lt a terminator) [ inl less ↦ inr (visible_by intervals a terminator less (jump.kept a s.0 s.1)) | inr past ↦ inl (omega (arith, low)) ]

-- ---- definitions

pub not_none : (id : ℕ) (own : Option ℕ) → own ≡ None → has_result id own ≡ true → ⊥
not_none id None none is = cc
not_none id (Some own) none is = cc

defined_here : (here : Bool) (later : Option ℕ) (place : ℕ) → (if here then Some 0 else option_map (λ (n : ℕ). suc n) later) ≡ Some place
    → ((here ≡ true) × (place ≡ 0)) ⊎ ((before : ℕ) × (later ≡ Some before) × (place ≡ suc before))
defined_here true later place is = inl (refl, cc)
defined_here false None place is = cc
defined_here false (Some before) place is = inr (before, refl, cc)

-- the instruction at an id's definition gives it
pub gives_at : (insts : List Inst) (id place : ℕ) → definition insts id ≡ Some place → gives id (inst_at insts place) ≡ true
unfolding definition
gives_at [] id place is = cc
gives_at (inst ∷ insts) id zero is = elim (defined_here (gives id inst) (definition insts id) 0 is) [ inl here ↦ here.0 | inr later ↦ absurd (let e = later.2 in omega (arith, e)) ]
gives_at (inst ∷ insts) id (suc place) is =
    elim (defined_here (gives id inst) (definition insts id) (suc place) is) [
      | inl here ↦ absurd (let e = here.1 in omega (arith, e))
      | inr later ↦ let e = later.2 in gives_at insts id place (later.1 ∙ ap (λ (n : ℕ). Some n) {x = later.0} {y = place} (omega (arith, e)))
    ]

-- ---- the judgement

-- an instruction that gives no id with a type
pub typed_on : (insts : List Inst) (intervals : List Interval) (place : ℕ) (values : Values) → ((id type : ℕ) → gives id (inst_at insts place) ≡ true → type_id (meaning insts id) ≡ Some type → ⊥)
    → AreTyped insts intervals place values → AreTyped insts intervals (place + 1) values
typed_on insts intervals place values none typed id at type defined visible of =
    elim (visible_before intervals at place visible) [
      | inl here ↦ absurd (none id type (ap (λ (n : ℕ). gives id (inst_at insts n)) (sym here) ∙ gives_at insts id at defined) of)
      | inr before ↦ typed id at type defined before of
    ]

-- along a branch
pub typed_along : (insts : List Inst) (intervals : List Interval) (terminator label : ℕ) (values : Values) → is_terminator (inst_at insts terminator).op ≡ true → Jump intervals terminator label
    → AreTyped insts intervals terminator values → AreTyped insts intervals label values
typed_along insts intervals terminator label values is jump typed id at type defined visible of =
    elim (visible_jump intervals terminator label at jump visible) [
      | inl here ↦ absurd (not_none id (result (inst_at insts terminator)) (terminator_result (inst_at insts terminator) is) (ap (λ (n : ℕ). gives id (inst_at insts n)) (sym here) ∙ gives_at insts id at defined))
      | inr before ↦ typed id at type defined before of
    ]

-- ---- with a result

same : (a b : ℕ) → a == b ≡ true → a ≡ b
same a b is = grind (arith, nat_tests)

differ : (a b : ℕ) → a == b ≡ false → a ≡ b → ⊥
differ a b isnt is = grind (arith, nat_tests)

same_number : (a b : ℕ) → ◌≡◌ {A = Option ℕ} (Some a) (Some b) → a ≡ b
same_number a b is = cc

own_id : (id own : ℕ) (found : Option ℕ) → found ≡ Some own → has_result id found ≡ true → own ≡ id
own_id id own None is has = cc
own_id id own (Some other) is has = let e : other ≡ own = cc in sym e ∙ same other id has

no_earlier : (insts : List Inst) (place own at : ℕ) (found defined : Option ℕ) → found ≡ Some own → definition insts own ≡ defined → twice_by insts place found ≡ None → defined ≡ Some at → at < place → ⊥
no_earlier insts place own at found defined is known once at_is less = by_test (is_earlier (definition insts own) place) own once_own (ap (λ (d : Option ℕ). is_earlier d place) (known ∙ at_is) ∙ lt-ltb at place less)
  where
    once_own : (if is_earlier (definition insts own) place then Some own else None) ≡ None
    once_own = sym (ap (twice_by insts place) is) ∙ once

    by_test : (b : Bool) (own : ℕ) → (if b then Some own else None) ≡ None → b ≡ true → ⊥
    by_test true own once is = cc
    by_test false own once is = cc

with_own : (id own : ℕ) (value : Value) (values : Values) → id ≡ own → with_value own (Some value) values id ≡ Some value
with_own id own value values is = by_test (id == own) (self id own is)
  where
    self : (a b : ℕ) → a ≡ b → a == b ≡ true
    self a b is = grind (arith, nat_tests)

    by_test : (b : Bool) → b ≡ true → (if b then Some value else values id) ≡ Some value
    by_test true is = refl
    by_test false is = cc

with_other : (id own : ℕ) (value : Value) (values : Values) → (id ≡ own → ⊥) → with_value own (Some value) values id ≡ values id
with_other id own value values isnt = by_test (id == own) refl
  where
    by_test : (b : Bool) → (id == own) ≡ b → (if b then Some value else values id) ≡ values id
    by_test true is = absurd (isnt (same id own is))
    by_test false is = refl

-- an instruction whose result gets a value that suits it
pub typed_with : (insts : List Inst) (intervals : List Interval) (place own : ℕ) (values : Values) (value : Value) → result (inst_at insts place) ≡ Some own → id_twice insts place ≡ None
    → Suits (program_of insts) (constant_word insts) own value → AreTyped insts intervals place values → AreTyped insts intervals (place + 1) (with_value own (Some value) values)
unfolding id_twice
typed_with insts intervals place own values value is once suits typed id at type defined visible of =
    elim (visible_before intervals at place visible) [
      | inl here ↦
          let e : own ≡ id = own_id id own (result (inst_at insts place)) is (ap (λ (n : ℕ). gives id (inst_at insts n)) (sym here) ∙ gives_at insts id at defined) in
          record { value = value; is = with_own id own value values (sym e); suits = subst (λ i. Suits (program_of insts) (constant_word insts) i value) e suits }
      | inr before ↦
          let h = typed id at type defined before of in
          record { value = h.value; is = with_other id own value values (λ e. no_earlier insts place own at (result (inst_at insts place)) (definition insts own) is refl once (ap (definition insts) (sym e) ∙ defined) (seen intervals at place before).0) ∙ h.is; suits = h.suits }
    ]
