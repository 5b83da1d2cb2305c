-- Pieces of a text, printed one by one.
use Rattle.std.proofs.Common.{◌≡◌, ℕ, zero, suc, ◌+◌, ◌-◌, ◌<◌, ◌≤◌, List, [], ◌∷◌, ◌++◌, take, drop, refl, ap, sym, ◌∙◌, arith, append_assoc}
use Rattle.std.specs.Prelude.{codes}
use Rattle.std.specs.List.{flat_map}
use Rattle.std.proofs.lemmas.List.{append-nil}
use Rattle.trace_model.specs.PlayText.{pieces}
use Rattle.trace_text.specs.Printed.{between, joined}

-- a piece and its separator, and the pieces after it
joined_next : {X : Type 0} (text : X → List ℕ) (separator before : ℕ) (piece : X) (more : List X)
    → joined text separator before (piece ∷ more) ≡ between separator before ++ (text piece ++ joined text separator (suc before) more)
joined_next text separator zero piece more = refl
joined_next text separator (suc before) piece more = append_assoc (separator ∷ []) (text piece) _

joined_none : {X : Type 0} (text : X → List ℕ) (separator before : ℕ) → joined text separator before [] ≡ []
joined_none text separator zero = refl
joined_none text separator (suc before) = refl

-- three texts put behind one
behind : (old a b c begun new : List ℕ) → begun ≡ old ++ a → new ≡ begun ++ b → new ++ c ≡ old ++ (a ++ (b ++ c))
behind old a b c begun new p q =
    ap (λ (t : List ℕ). t ++ c) (q ∙ ap (λ (t : List ℕ). t ++ b) p) ∙ append_assoc (old ++ a) b c ∙ append_assoc old a (b ++ c)

-- one more piece of equal pieces, behind its separator
pub piece_next : (text : List ℕ → List ℕ) (separator i count size : ℕ) (rest piece after old begun new : List ℕ) → i < count
    → piece ≡ take size rest → after ≡ drop size rest → begun ≡ old ++ between separator i → new ≡ begun ++ text piece
    → new ++ joined text separator (i + 1) (pieces (count - (i + 1)) size after) ≡ old ++ joined text separator i (pieces (count - i) size rest)
piece_next text separator i count size rest piece after old begun new within piece_is after_is begun_is new_is =
    let n : count - i ≡ suc (count - (i + 1)) = omega arith in
    let s : i + 1 ≡ suc i = omega arith in
    behind old (between separator i) (text piece) _ begun new begun_is new_is
    ∙ ap (λ (m : ℕ). old ++ (between separator i ++ (text piece ++ joined text separator m (pieces (count - (i + 1)) size after)))) s
    ∙ ap (λ (w : List ℕ). old ++ (between separator i ++ (text w ++ joined text separator (suc i) (pieces (count - (i + 1)) size after)))) piece_is
    ∙ ap (λ (w : List ℕ). old ++ (between separator i ++ (text (take size rest) ++ joined text separator (suc i) (pieces (count - (i + 1)) size w)))) after_is
    ∙ ap (λ (t : List ℕ). old ++ t) (sym (joined_next text separator i (take size rest) (pieces (count - (i + 1)) size (drop size rest))))
    ∙ ap (λ (m : ℕ). old ++ joined text separator i (pieces m size rest)) (sym n)

-- the line feed behind the last one
pub line_done : (text : List ℕ → List ℕ) (separator i count size : ℕ) (rest words old printed new : List ℕ) → count ≤ i
    → printed ++ joined text separator i (pieces (count - i) size rest) ≡ old ++ joined text separator 0 (pieces count size words)
    → new ≡ printed ++ codes "\n" → new ≡ old ++ (joined text separator 0 (pieces count size words) ++ codes "\n")
line_done text separator i count size rest words old printed new all is new_is =
    let n : count - i ≡ 0 = omega arith in
    let e : printed ≡ printed ++ joined text separator i (pieces (count - i) size rest) =
    sym (ap (λ (m : ℕ). printed ++ joined text separator i (pieces m size rest)) n ∙ ap (λ (t : List ℕ). printed ++ t) (joined_none text separator i)
    ∙ append-nil printed) in
    new_is ∙ ap (λ (t : List ℕ). t ++ codes "\n") (e ∙ is) ∙ append_assoc old (joined text separator 0 (pieces count size words)) (codes "\n")

-- the same where no separator stands between
pub row_of_pieces : (text : List ℕ → List ℕ) (i count size : ℕ) (rest piece after old new : List ℕ) → i < count
    → piece ≡ take size rest → after ≡ drop size rest → new ≡ old ++ text piece
    → new ++ flat_map text (pieces (count - (i + 1)) size after) ≡ old ++ flat_map text (pieces (count - i) size rest)
row_of_pieces text i count size rest piece after old new within piece_is after_is new_is =
    let n : count - i ≡ suc (count - (i + 1)) = omega arith in
    ap (λ (t : List ℕ). t ++ flat_map text (pieces (count - (i + 1)) size after)) new_is
    ∙ append_assoc old (text piece) _
    ∙ ap (λ (w : List ℕ). old ++ (text w ++ flat_map text (pieces (count - (i + 1)) size after))) piece_is
    ∙ ap (λ (w : List ℕ). old ++ (text (take size rest) ++ flat_map text (pieces (count - (i + 1)) size w))) after_is
    ∙ ap (λ (m : ℕ). old ++ flat_map text (pieces m size rest)) (sym n)
