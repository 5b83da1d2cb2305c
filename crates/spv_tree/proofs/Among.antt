-- Labels among labels.
use Rattle.std.proofs.Common.{◌≡◌, ℕ, Bool, true, false, not, ◌&&◌, ◌||◌, ◌==◌, if◌then◌else◌, List, [], ◌∷◌, ◌++◌, refl, ap, sym, ◌∙◌}
use Rattle.std.proofs.lemmas.Bool.{eqb-true, eq-eqb}
use Rattle.body_model.specs.Switches.{is_among, without}

or_comm : (a b : Bool) → (a || b) ≡ (b || a)
or_comm true true = refl
or_comm true false = refl
or_comm false true = refl
or_comm false false = refl

pub or_assoc : (a b c : Bool) → (a || (b || c)) ≡ ((a || b) || c)
or_assoc true b c = refl
or_assoc false b c = refl

pub among_push : (x y : ℕ) (xs : List ℕ) → is_among x (xs ++ y ∷ []) ≡ (is_among x xs || (y == x))
among_push x y [] = or_comm (y == x) false
among_push x y (z ∷ zs) = ap (λ (b : Bool). (z == x) || b) (among_push x y zs) ∙ or_assoc (z == x) (is_among x zs) (y == x)

picked : (same : Bool) (x y : ℕ) (zs : List ℕ) → is_among x (if not same then y ∷ zs else zs) ≡ ((not same && (y == x)) || is_among x zs)
picked true x y zs = refl
picked false x y zs = refl

-- a label and others, without the one
folded : (same is other rest : Bool) → (is ≡ true → same ≡ other) → ((not same && is) || (not other && rest)) ≡ (not other && (is || rest))
folded true false other rest h = refl
folded false false other rest h = refl
folded true true true rest h = refl
folded false true false rest h = refl
folded true true false rest h = (let e = h refl in cc)
folded false true true rest h = (let e = h refl in cc)

with_label : (x y label : ℕ) (rest : Bool) → ((not (y == label) && (y == x)) || (not (x == label) && rest)) ≡ (not (x == label) && ((y == x) || rest))
with_label x y label rest = folded (y == label) (y == x) (x == label) rest (λ is. ap (λ (n : ℕ). n == label) (eqb-true y x is))

none_among : (b : Bool) → false ≡ (not b && false)
none_among true = refl
none_among false = refl

pub among_without : (x label : ℕ) (ys : List ℕ) → is_among x (without label ys) ≡ (not (x == label) && is_among x ys)
among_without x label [] = none_among (x == label)
among_without x label (y ∷ ys) =
    picked (y == label) x y (without label ys) ∙ ap (λ (b : Bool). (not (y == label) && (y == x)) || b) (among_without x label ys) ∙ with_label x y label (is_among x ys)

-- one label more, unless it is the one
pub without_push : (x y label : ℕ) (ys : List ℕ) → is_among x (without label (ys ++ y ∷ [])) ≡ ((not (y == label) && (y == x)) || is_among x (without label ys))
without_push x y label ys =
    among_without x label (ys ++ y ∷ [])
    ∙ ap (λ (b : Bool). not (x == label) && b) (among_push x y ys ∙ or_comm (is_among x ys) (y == x))
    ∙ sym (with_label x y label (is_among x ys))
    ∙ ap (λ (b : Bool). (not (y == label) && (y == x)) || b) (sym (among_without x label ys))

pub nothing_left : (labels : List ℕ) → ((label : ℕ) → is_among label labels ≡ false) → labels ≡ []
nothing_left [] none = refl
nothing_left (label ∷ labels) none = (let e = none label in let f = first_among label labels in cc)
  where
    first_among : (x : ℕ) (xs : List ℕ) → is_among x (x ∷ xs) ≡ true
    first_among x xs = ap (λ (b : Bool). b || is_among x xs) (eq-eqb x x refl)
