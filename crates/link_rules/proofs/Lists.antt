-- Lists of one element, and look-ups over them.
use Rattle.std.proofs.Common.{◌≡◌, ℕ, ◌≤◌, Bool, true, false, ◌||◌, not, nat_lt, ◌<◌, map, List, [], ◌∷◌, length, get_or, Option, Some, None, refl, arith}
use Rattle.std.proofs.lemmas.List.{length-map}
use Rattle.state_model.specs.Link.{is_given, is_given_twice}
use Rattle.std.proofs.lemmas.Bool.Decides.{nat_tests}
use Rattle.std.specs.List.{find, slice_get}
use Rattle.std.specs.Option.{option_map, option_to_list}

pub or_false : (b : Bool) → (b || false) || false ≡ b
or_false true = refl
or_false false = refl

-- over two lists of one element the test is that of the two
pub find-pair : {X : Type 0} (test : X → Bool) (xs : List X) → find (λ x. (test x || false) || false) xs ≡ find test xs
find-pair test [] = refl
find-pair test (x ∷ xs) = rw (or_false, find-pair test xs)

pub find-never : {X : Type 0} (xs : List X) → find (λ _. false) xs ≡ None
find-never [] = refl
find-never (x ∷ xs) = find-never xs

pub option_map_same : {X : Type 0} (o : Option X) → option_map (λ x. x) o ≡ o
option_map_same None = refl
option_map_same (Some x) = refl

-- a list of at most one element is that of its first
pub short_list : {X : Type 0} (xs : List X) (o : Option X) → length xs ≤ 1 → o ≡ slice_get xs 0 → xs ≡ option_to_list o
short_list [] None h e = refl
short_list [] (Some y) h e = cc
short_list (x ∷ []) None h e = cc
short_list (x ∷ []) (Some y) h e = cc
short_list (x ∷ z ∷ xs) o h e = absurd (omega arith)

pub sole : {X : Type 0} (xs : List X) (x : X) → length xs ≡ 1 → x ≡ get_or xs 0 x → xs ≡ x ∷ []
sole [] x h e = absurd (omega arith)
sole (y ∷ []) x h e = cc
sole (y ∷ z ∷ xs) x h e = absurd (omega arith)

pub or_parts : (a b : Bool) → a || b ≡ false → (a ≡ false) × (b ≡ false)
or_parts true b e = cc
or_parts false b e = (refl, e)

-- what a subset's tests say of its list
pub some_given : {X Y : Type 0} (f : X → Y) (xs : List X) → not (is_given (map f xs)) ≡ false → 0 < length xs
some_given f [] e = cc
some_given f (x ∷ xs) e = omega arith

at_most_one : (n : ℕ) → nat_lt 1 n ≡ false → n ≤ 1
at_most_one n e = grind (arith, nat_tests)

pub given_once : {X Y : Type 0} (f : X → Y) (xs : List X) → is_given_twice (map f xs) ≡ false → length xs ≤ 1
given_once f xs e = at_most_one (length xs) (rw length-map at e)
