-- What the creator's look-up and its answers say of the list of keys.
use Rattle.std.proofs.Common.{◌≡◌, ℕ, ◌+◌, ◌-◌, ◌<◌, ◌≤◌, ◌≢◌, Bool, true, false, cond, List, [], ◌∷◌, ◌++◌, length, Contains, Decides, bytes_eq, get_or, sym, refl, ap, ◌∙◌, subst, arith}
use Rattle.std.proofs.lemmas.List.Folds.{list_any_none, list_any_at}
use Rattle.std.proofs.lemmas.List.Elements.{All-push}
use Rattle.std.proofs.lemmas.List.{get_or_default}
use Rattle.std.proofs.lemmas.Slice.Eq.{bytes_eq-Decides}
use Rattle.atomic_table.specs.Table.{Me}
use Rattle.inst_table.specs.Bucket.{key_words}
use Rattle.inst_table.specs.Views.{row_note, with_row}
use Rattle.inst_table.specs.Passes.{KnowsRow}
use Rattle.inst_table.proofs.Appends.{note_knows}
use Rattle.inst_table.specs.Layout.{next_place}
use Rattle.inst_table.specs.Chain.{key_at}
use Rattle.inst_table.specs.Creations.{add}
use Rattle.inst_table.specs.Lawful.{NoneBetween}
use Rattle.inst_table.specs.Plays.{IsOfRows, AreSound}
use Rattle.inst_table.specs.declared.view.View.{View}
use Rattle.inst_table.proofs.Chains.{OnChain, next_low, on_next}
use Rattle.inst_table.proofs.Lists.{at_push, length-push, AreDistinct-push}
use Rattle.inst_table.proofs.Within.{shorter}

-- the creator goes on along the chain
pub next_own : (x y z : Me ℕ View) (key : List ℕ) (place next word : ℕ) → y ≡ x → z ≡ y → place ≢ 0 → OnChain x.0.rows.linked key place → key_at y.0.rows.linked (place - 1) ≢ key
    → IsOfRows z.0.rows word next → word ≡ next_place (place - 1) → OnChain x.0.rows.linked key next × (next < place)
next_own x y z key place next word e₁ e₂ there on differs is at =
    let row : ℕ = place - 1 in
    let e : row + 1 ≡ place = omega arith in
    let here : OnChain x.0.rows.linked key (row + 1) = subst (λ (p : ℕ). OnChain x.0.rows.linked key p) (sym e) on in
    let of : IsOfRows x.0.rows word next = subst (λ (m : Me ℕ View). IsOfRows m.0.rows word next) (e₂ ∙ e₁) is in
    let low = on.low in
    let found = of.nexts row (omega arith) at in
    let next_on : OnChain x.0.rows.linked key next = on_next x.0.rows.linked key row next here (subst (λ (m : Me ℕ View). key_at m.0.rows.linked row ≢ key) e₁ differs) found in
    let under = next_low x.0.rows.linked row next found in (next_on, omega arith)

eq_true : (b : Bool) (P : Type 0) → Decides b P → P → b ≡ true
eq_true b P d p = d.1 p

eq_false : (b : Bool) (P : Type 0) → Decides b P → (P → ⊥) → b ≡ false
eq_false true P d n = absurd (n (d.0 refl))
eq_false false P d n = refl

pub add-new : (rows : List (List ℕ)) (key : List ℕ) (n : ℕ) → n ≡ length rows → NoneBetween rows key 0 n → add rows key ≡ rows ++ key ∷ []
add-new rows key n long free = ap (λ (b : Bool). cond b rows (rows ++ key ∷ [])) (list_any_none (bytes_eq key) rows
    (λ k d h. eq_false (bytes_eq key (get_or rows k d)) (key ≡ get_or rows k d) (bytes_eq-Decides key (get_or rows k d)) (λ e. free k (omega arith) (omega arith) (get_or_default rows k [] d h ∙ sym e))))

pub add-old : (rows : List (List ℕ)) (key : List ℕ) (row : ℕ) → row < length rows → key_at rows row ≡ key → add rows key ≡ rows
add-old rows key row near is = ap (λ (b : Bool). cond b rows (rows ++ key ∷ [])) (list_any_at (bytes_eq key) rows row [] near
    (eq_true (bytes_eq key (key_at rows row)) (key ≡ key_at rows row) (bytes_eq-Decides key (key_at rows row)) (sym is)))

pub not_among : (rows : List (List ℕ)) (key : List ℕ) (n : ℕ) → n ≡ length rows → NoneBetween rows key 0 n → ¬ Contains rows key
not_among rows key n long free c = let near = c.1 in free c.0 (omega arith) (omega arith) (get_or_default rows c.0 [] key c.1 ∙ c.2)

-- no room for another row means that some other key was asked
pub full_never : (asked rows : List (List ℕ)) (key : List ℕ) (room n : ℕ) → AreSound asked room rows → Contains asked key → length asked ≤ room → NoneBetween rows key 0 n → n ≡ length rows → n ≡ room → ⊥
full_never asked rows key room n sound may fit free long full =
    let more = length-push rows key in
    let h : length (rows ++ key ∷ []) ≤ length asked = shorter (rows ++ key ∷ []) asked [] (AreDistinct-push rows key [] (λ k near. free k (omega arith) (omega arith)) sound.distinct)
    (All-push (Contains asked) rows key sound.asked_for may) in omega arith

-- the pass that comes with a row knows it
pub note_of_old : (x y : Me ℕ View) (u : View) (row count : ℕ) (key : List ℕ) → y ≡ x → u ≡ row_note y.0 → length x.0.rows.linked ≡ count → row < count → key_at x.0.rows.linked row ≡ key → length key ≡ key_words → KnowsRow u row key
note_of_old x y u row count key same is full near has long = note_knows x.0 u row key (is ∙ ap (λ (m : Me ℕ View). row_note m.0) same) (omega arith) has long

pub note_of_new : (w x y : Me ℕ View) (u : View) (count : ℕ) (key : List ℕ) → x ≡ w → y ≡ (with_row key x.0, x.1) → u ≡ row_note y.0 → length w.0.rows.linked ≡ count → length key ≡ key_words → KnowsRow u count key
note_of_new w x y u count key same more is full long =
    let v : View = with_row key w.0 in
    let is' : u ≡ row_note v = is ∙ ap (λ (m : Me ℕ View). row_note m.0) more ∙ ap (λ (m : Me ℕ View). row_note (with_row key m.0)) same in
    let e = length-push w.0.rows.linked key in
    note_knows v u count key is' (omega arith) (subst (λ (k : ℕ). key_at (w.0.rows.linked ++ key ∷ []) k ≡ key) full (at_push w.0.rows.linked key [])) long
