-- Two lists whose elements are related one by one.
use Rattle.std.proofs.Common.{◌≡◌, List, [], ◌∷◌, ◌++◌, map, refl, ap, ◌∙◌}
use Rattle.std.specs.List.{fold, flat_map}

abbrev pub Pairs : {A B : Type 0} → (A → B → Type 0) → List A → List B → Type 0
Pairs R [] [] = Unit {0}
Pairs R [] (y ∷ ys) = ⊥
Pairs R (x ∷ xs) [] = ⊥
Pairs R (x ∷ xs) (y ∷ ys) = R x y × Pairs R xs ys

pub pairs_map : {X A B : Type 0} (R : A → B → Type 0) (f : X → A) (g : X → B) (xs : List X) → ((x : X) → R (f x) (g x)) → Pairs R (map f xs) (map g xs)
pairs_map R f g [] h = tt
pairs_map R f g (x ∷ xs) h = (h x, pairs_map R f g xs h)

pub pairs_append : {A B : Type 0} (R : A → B → Type 0) (xs : List A) (ys : List B) (us : List A) (vs : List B) → Pairs R xs ys → Pairs R us vs → Pairs R (xs ++ us) (ys ++ vs)
pairs_append R [] [] us vs h k = k
pairs_append R [] (y ∷ ys) us vs h k = absurd h
pairs_append R (x ∷ xs) [] us vs h k = absurd h
pairs_append R (x ∷ xs) (y ∷ ys) us vs h k = (h.0, pairs_append R xs ys us vs h.1 k)

pub pairs_each : {X A B : Type 0} (R : A → B → Type 0) (f : X → List A) (g : X → List B) (xs : List X) → ((x : X) → Pairs R (f x) (g x)) → Pairs R (flat_map f xs) (flat_map g xs)
pairs_each R f g [] h = tt
pairs_each R f g (x ∷ xs) h = pairs_append R (f x) (g x) (flat_map f xs) (flat_map g xs) (h x) (pairs_each R f g xs h)

pub pairs_flat : {A B C D : Type 0} (S : A → B → Type 0) (R : C → D → Type 0) (f : A → List C) (g : B → List D) (xs : List A) (ys : List B) →
    Pairs S xs ys → ((a : A) (b : B) → S a b → Pairs R (f a) (g b)) → Pairs R (flat_map f xs) (flat_map g ys)
pairs_flat S R f g [] [] h k = tt
pairs_flat S R f g [] (y ∷ ys) h k = absurd h
pairs_flat S R f g (x ∷ xs) [] h k = absurd h
pairs_flat S R f g (x ∷ xs) (y ∷ ys) h k =
    pairs_append R (f x) (g y) (flat_map f xs) (flat_map g ys) (k x y h.0) (pairs_flat S R f g xs ys h.1 k)

pub pairs_fold : {T A B : Type 0} (R : A → B → Type 0) (f : T → A → T) (g : T → B → T) (xs : List A) (ys : List B) (t : T) →
    Pairs R xs ys → ((t : T) (a : A) (b : B) → R a b → f t a ≡ g t b) → fold f t xs ≡ fold g t ys
pairs_fold R f g [] [] t h k = refl
pairs_fold R f g [] (y ∷ ys) t h k = absurd h
pairs_fold R f g (x ∷ xs) [] t h k = absurd h
pairs_fold {T = T} R f g (x ∷ xs) (y ∷ ys) t h k = ap (λ (now : T). fold f now xs) (k t x y h.0) ∙ pairs_fold R f g xs ys (g t y) h.1 k
