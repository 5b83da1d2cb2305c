-- Addresses, as units are built.
use Rattle.std.proofs.Common.{◌≡◌, ℕ, zero, suc, ◌+◌, ◌-◌, ◌<◌, ◌≤◌, ◌≢◌, Bool, cond, List, [], ◌∷◌, ◌++◌, length, Contains, get_or, sym, refl, ap, ◌∙◌, arith, append_assoc, append-nil, length-append, eq-eqb, ne_eqb}
use mathlib.Core.Logic.{dite}
use native.Mathlib.Decide.{ℕ_discrete}
use Rattle.inst_table.specs.Units.{heap_of, address_from, address_of}
use Rattle.inst_table.specs.Lawful.{numbers_of}
use Rattle.inst_table.specs.declared.view.Unit.{Unit}
use Rattle.inst_table.proofs.Follows.{contains-here, contains-there}
use Rattle.inst_table.proofs.Lists.{at_left, at_right}

pub heap_of-push : (us : List Unit) (u : Unit) → heap_of (us ++ u ∷ []) ≡ heap_of us ++ u.words
heap_of-push [] u = append-nil u.words
heap_of-push (x ∷ us) u = ap (λ (ws : List ℕ). x.words ++ ws) (heap_of-push us u) ∙ sym (append_assoc x.words (heap_of us) u.words)

pub numbers_of-push : (us : List Unit) (u : Unit) → numbers_of (us ++ u ∷ []) ≡ numbers_of us ++ u.number ∷ []
numbers_of-push [] u = refl
numbers_of-push (x ∷ us) u = ap (λ (ns : List ℕ). x.number ∷ ns) (numbers_of-push us u)

pub address-first : (place : ℕ) (x : Unit) (us : List Unit) (n : ℕ) → x.number ≡ n → address_from place (x ∷ us) n ≡ suc place
address-first place x us n e = ap (λ (b : Bool). cond b (suc place) (address_from (place + length x.words) us n)) (eq-eqb x.number n e)

pub address-later : (place : ℕ) (x : Unit) (us : List Unit) (n : ℕ) → x.number ≢ n → address_from place (x ∷ us) n ≡ address_from (place + length x.words) us n
address-later place x us n ne = ap (λ (b : Bool). cond b (suc place) (address_from (place + length x.words) us n)) (ne_eqb x.number n ne)

pub address-other : (place : ℕ) (us : List Unit) (u : Unit) (n : ℕ) → u.number ≢ n → address_from place (us ++ u ∷ []) n ≡ address_from place us n
address-other place [] u n ne = address-later place u [] n ne
address-other place (x ∷ us) u n ne = dite (ℕ_discrete x.number n)
    (λ e. address-first place x (us ++ u ∷ []) n e ∙ sym (address-first place x us n e))
    (λ d. address-later place x (us ++ u ∷ []) n d ∙ address-other (place + length x.words) us u n ne ∙ sym (address-later place x us n d))

pub address-new : (place : ℕ) (us : List Unit) (u : Unit) (n : ℕ) → address_from place us n ≡ 0 → u.number ≡ n → address_from place (us ++ u ∷ []) n ≡ suc (place + length (heap_of us))
address-new place [] u n none is = address-first place u [] n is ∙ (let e : suc place ≡ suc (place + 0) = omega arith in e)
address-new place (x ∷ us) u n none is = dite (ℕ_discrete x.number n)
    (λ e. let f = address-first place x us n e in absurd (omega arith))
    (λ d. address-later place x (us ++ u ∷ []) n d ∙ address-new (place + length x.words) us u n (sym (address-later place x us n d) ∙ none) is
    ∙ (let long = length-append x.words (heap_of us) in let e : suc (place + length x.words + length (heap_of us)) ≡ suc (place + length (x.words ++ heap_of us)) = omega arith in e))

pub address-keeps : (place : ℕ) (us : List Unit) (u : Unit) (n : ℕ) → address_from place us n ≢ 0 → address_from place (us ++ u ∷ []) n ≡ address_from place us n
address-keeps place [] u n there = absurd (there refl)
address-keeps place (x ∷ us) u n there = dite (ℕ_discrete x.number n)
    (λ e. address-first place x (us ++ u ∷ []) n e ∙ sym (address-first place x us n e))
    (λ d. address-later place x (us ++ u ∷ []) n d ∙ address-keeps (place + length x.words) us u n (λ z. there (address-later place x us n d ∙ z)) ∙ sym (address-later place x us n d))

-- a unit without an address isn't among those that are built
pub address-none : (place : ℕ) (us : List Unit) (n : ℕ) → address_from place us n ≡ 0 → (i : ℕ) → i < length (numbers_of us) → get_or {A = ℕ} (numbers_of us) i 0 ≢ n
address-none place [] n none i h = absurd (omega arith)
address-none place (x ∷ us) n none zero h = λ e. let f = address-first place x us n e in omega arith
address-none place (x ∷ us) n none (suc i) h = dite (ℕ_discrete x.number n)
    (λ e. let f = address-first place x us n e in absurd (omega arith))
    (λ d. address-none (place + length x.words) us n (sym (address-later place x us n d) ∙ none) i (omega arith))

-- The record at an address word.
pub record RecordAt (us : List Unit) (n place : ℕ) : Type 0 where
  pub unit : Unit
  pub is_built : Contains us unit
  pub number : unit.number ≡ n
  pub inside : place + length unit.words ≤ length (heap_of us)
  pub words : (at : ℕ) → at < length unit.words → get_or {A = ℕ} (heap_of us) (place + at) 0 ≡ get_or unit.words at 0

address-low : (start : ℕ) (us : List Unit) (n : ℕ) → address_from start us n ≢ 0 → start < address_from start us n
address-low start [] n there = absurd (there refl)
address-low start (x ∷ us) n there = dite (ℕ_discrete x.number n)
    (λ e. let f = address-first start x us n e in omega arith)
    (λ d. let f = address-later start x us n d in let low = address-low (start + length x.words) us n (λ z. there (f ∙ z)) in omega arith)

record_from : (start place : ℕ) (us : List Unit) (n : ℕ) → address_from start us n ≡ suc (start + place) → RecordAt us n place
record_from start place [] n e = absurd (omega arith)
record_from start place (x ∷ us) n e = dite (ℕ_discrete x.number n)
    (λ this. let f = address-first start x us n this in let zero' : place ≡ 0 = omega arith in let long = length-append x.words (heap_of us) in record {
      unit = x;
      is_built = contains-here us x;
      number = this;
      inside = omega arith;
      words = λ at h. let g : place + at ≡ at = omega arith in ap (λ (k : ℕ). get_or {A = ℕ} (x.words ++ heap_of us) k 0) g ∙ at_left x.words (heap_of us) at 0 h;
    })
    (λ other. let far = address-later start x us n other in
    let low = address-low (start + length x.words) us n (λ z. omega arith) in
    let long = length-append x.words (heap_of us) in
    let k : ℕ = place - length x.words in
    let r : RecordAt us n k = record_from (start + length x.words) k us n (omega arith) in
    let room = r.inside in record {
      unit = r.unit;
      is_built = contains-there us x r.unit r.is_built;
      number = r.number;
      inside = omega arith;
      words = λ at h. let g : place + at ≡ length x.words + (k + at) = omega arith in ap (λ (j : ℕ). get_or {A = ℕ} (x.words ++ heap_of us) j 0) g ∙ at_right x.words (heap_of us) (k + at) 0 ∙ r.words at h;
    })

pub record_at : (us : List Unit) (n word : ℕ) → word ≢ 0 → address_of us n ≡ word → RecordAt us n (word - 1)
record_at us n word there e = record_from 0 (word - 1) us n (omega arith)

-- a unit that isn't among those that are built has no address
pub address-absent : (place : ℕ) (us : List Unit) (n : ℕ) → ((i : ℕ) → i < length (numbers_of us) → get_or {A = ℕ} (numbers_of us) i 0 ≢ n) → address_from place us n ≡ 0
address-absent place [] n other = refl
address-absent place (x ∷ us) n other = address-later place x us n (other 0 (omega arith)) ∙ address-absent (place + length x.words) us n (λ i h. other (suc i) (omega arith))
