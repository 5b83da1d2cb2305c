-- The newest row of a bucket.
use Rattle.std.proofs.Common.{◌≡◌, ℕ, zero, suc, ◌+◌, ◌<◌, ◌≤◌, ◌≢◌, Bool, true, false, List, length, cond, eqb, sym, refl, ap, ◌∙◌, subst, arith, eq-eqb, ne_eqb}
use mathlib.Core.Logic.{dite}
use native.Mathlib.Decide.{dec_le, ℕ_discrete}
use Rattle.inst_table.specs.Chain.{newest, key_at, bucket_at}
use Rattle.inst_table.specs.Bucket.{bucket_of}
use Rattle.inst_table.specs.Lawful.{StandsIn, NoneBetween}

pub newest-same : (f g : ℕ → ℕ) (b n : ℕ) → ((row : ℕ) → row < n → f row ≡ g row) → newest f b n ≡ newest g b n
newest-same f g b zero same = refl
newest-same f g b (suc n) same =
    let here : f n ≡ g n = same n (omega arith) in
    let below : newest f b n ≡ newest g b n = newest-same f g b n (λ row h. same row (omega arith)) in
    λ i. cond (eqb (here i) b) (suc n) (below i)

step : (f : ℕ → ℕ) (b n : ℕ) (t : Bool) → eqb (f n) b ≡ t → newest f b (suc n) ≡ cond t (suc n) (newest f b n)
step f b n t e = ap (λ (x : Bool). cond x (suc n) (newest f b n)) e

pub newest-here : (f : ℕ → ℕ) (b n : ℕ) → f n ≡ b → newest f b (suc n) ≡ suc n
newest-here f b n e = step f b n true (eq-eqb (f n) b e)

pub newest-other : (f : ℕ → ℕ) (b n : ℕ) → f n ≢ b → newest f b (suc n) ≡ newest f b n
newest-other f b n ne = step f b n false (ne_eqb (f n) b ne)

pub newest-le : (f : ℕ → ℕ) (b n : ℕ) → newest f b n ≤ n
newest-le f b zero = omega arith
newest-le f b (suc n) = let under = newest-le f b n in
    elim (eqb (f n) b) as (λ t. cond t (suc n) (newest f b n) ≤ suc n) [ true ↦ omega arith | false ↦ omega arith ]

-- it is a row of the bucket
pub newest-in : (f : ℕ → ℕ) (b n row : ℕ) → newest f b n ≡ row + 1 → f row ≡ b
newest-in f b zero row e = absurd (omega arith)
newest-in f b (suc n) row e = dite (ℕ_discrete (f n) b)
    (λ here. let top = newest-here f b n here in let same : n ≡ row = omega arith in subst (λ (x : ℕ). f x ≡ b) same here)
    (λ ne. newest-in f b n row (sym (newest-other f b n ne) ∙ e))

-- and no row from it on is one
pub newest-none : (f : ℕ → ℕ) (b n row : ℕ) → newest f b n ≤ row → row < n → f row ≢ b
newest-none f b zero row low high = absurd (omega arith)
newest-none f b (suc n) row low high = λ is. dite (ℕ_discrete (f n) b)
    (λ here. let top = newest-here f b n here in absurd (omega arith))
    (λ ne. dite (ℕ_discrete row n) (λ e. ne (subst (λ (x : ℕ). f x ≡ b) e is))
    (λ d. let top = newest-other f b n ne in newest-none f b n row (omega arith) (omega arith) is))

-- Where a look-up in all rows stands: those from there on don't have the key.
pub record OnChain (rows : List (List ℕ)) (key : List ℕ) (place : ℕ) : Type 0 where
  pub low : place ≤ length rows
  pub stands : (row : ℕ) → place ≡ row + 1 → StandsIn rows (bucket_of key) row
  pub passed : NoneBetween rows key place (length rows)

pub on_head : (rows : List (List ℕ)) (key : List ℕ) (place bucket : ℕ) → bucket ≡ bucket_of key → place ≡ newest (bucket_at rows) bucket (length rows) → OnChain rows key place
on_head rows key place bucket same is =
    let e : place ≡ newest (bucket_at rows) (bucket_of key) (length rows) = is ∙ ap (λ (b : ℕ). newest (bucket_at rows) b (length rows)) same in
    let top = newest-le (bucket_at rows) (bucket_of key) (length rows) in record {
      low = omega arith;
      stands = λ row h. (omega arith, newest-in (bucket_at rows) (bucket_of key) (length rows) row (sym e ∙ h));
      passed = λ row low high h. newest-none (bucket_at rows) (bucket_of key) (length rows) row (omega arith) high (ap bucket_of h);
    }

pub next_low : (rows : List (List ℕ)) (row place : ℕ) → place ≡ newest (bucket_at rows) (bucket_at rows row) row → place ≤ row
next_low rows row place is = let top = newest-le (bucket_at rows) (bucket_at rows row) row in omega arith

pub on_next : (rows : List (List ℕ)) (key : List ℕ) (row place : ℕ) → OnChain rows key (row + 1) → key_at rows row ≢ key → place ≡ newest (bucket_at rows) (bucket_at rows row) row → OnChain rows key place
on_next rows key row place on differs is =
    let st : StandsIn rows (bucket_of key) row = on.stands row refl in
    let near : row < length rows = st.0 in
    let e : place ≡ newest (bucket_at rows) (bucket_of key) row = is ∙ ap (λ (b : ℕ). newest (bucket_at rows) b row) st.1 in
    let top = newest-le (bucket_at rows) (bucket_of key) row in record {
      low = omega arith;
      stands = λ k h. (omega arith, newest-in (bucket_at rows) (bucket_of key) row k (sym e ∙ h));
      passed = λ k low high. dite (dec_le (suc k) row) (λ under h. newest-none (bucket_at rows) (bucket_of key) row k (omega arith) under (ap bucket_of h))
          (λ over. dite (ℕ_discrete k row) (λ same h. differs (subst (λ (x : ℕ). key_at rows x ≡ key) same h)) (λ there. on.passed k (omega arith) high));
    }
