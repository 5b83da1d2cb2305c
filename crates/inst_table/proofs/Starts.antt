-- A table of zeros, with no row and no code.
use Rattle.std.proofs.Common.{◌≡◌, ℕ, zero, suc, ◌^◌, ◌<◌, true, List, [], ◌∷◌, length, Contains, get_or, replicate, sym, refl, ◌∙◌, subst, arith}
use mathlib.Core.Option.{some, some-injective, some-ne-none}
use lib.ListN.{get_elem?}
use Rattle.std.proofs.lemmas.List.Elements.{All-nil}
use Rattle.std.proofs.lemmas.List.{length-replicate}
use Rattle.atomic_table.specs.Table.{opening}
use Rattle.inst_table.specs.Bucket.{key_words}
use Rattle.inst_table.specs.Subject.{Subject}
use Rattle.inst_table.specs.Layout.{width, head_place, address_place}
use Rattle.inst_table.specs.Views.{blank, beginning, no_rows, no_units}
use Rattle.inst_table.specs.Lawful.{Content, Claims, IsBuilt, Lawful}
use Rattle.inst_table.specs.declared.setup.Numbers.{Numbers}
use Rattle.inst_table.specs.declared.view.View.{View}
use Rattle.inst_table.proofs.Seats.{IsAlone}
use Rattle.inst_table.proofs.Sharing.{Claims-blank}

zeros : (n i : ℕ) → get_or {A = ℕ} (replicate n 0) i 0 ≡ 0
zeros zero i = refl
zeros (suc n) zero = refl
zeros (suc n) (suc i) = zeros n i

alone : (P : View → Type 0) (v : View) → IsAlone P (v ∷ [])
alone P v zero zero x y ex ey px py = refl
alone P v zero (suc j) x y ex ey px py = absurd (some-ne-none y (sym ey))
alone P v (suc i) j x y ex ey px py = absurd (some-ne-none x (sym ex))

Claims-beginning : (c : Content) → c.rows ≡ no_rows → c.units ≡ no_units → Claims c beginning
Claims-beginning c rows units = let b : Claims c blank = Claims-blank c in record {
  seen = b.seen;
  known = b.known;
  absent = b.absent;
  walk = b.walk;
  walked = b.walked;
  loads = b.loads;
  one_way = b.one_way;
  creates = λ y. sym rows;
  publishes = λ y. sym units;
}

only : (P : View → Type 0) (v w : View) (id : ℕ) → get_elem? (v ∷ []) id ≡ some w → P v → P w
only P v w zero e p = subst P (some-injective v w e) p
only P v w (suc id) e p = absurd (some-ne-none w (sym e))

module _ (asked : List (List ℕ)) (fits : Subject → List ℕ → Type 0) (z : Numbers) where
  of_zeros : (n : ℕ) → n ≡ width z → Lawful asked fits z (opening (replicate n 0) [] beginning)
  of_zeros n wide =
      let c : Content = record { rows = no_rows; units = no_units } in record {
        content = c;
        wide = length-replicate n 0 ∙ wide;
        stands_for_rows = record {
          count = zeros n 0;
          heads = λ b h. zeros n (head_place b);
          keys = λ row at h. absurd (omega arith);
          nexts = λ row h. absurd (omega arith);
          draft = λ at h. absurd (omega arith);
          joined = λ y. cc;
        };
        stands_for_units = record { addresses = λ unit h. zeros n (address_place z unit); heap = λ at h. absurd (omega arith) };
        rows = record {
          behind = omega arith;
          ahead = omega arith;
          room = omega arith;
          short = omega arith;
          begun = λ h. absurd (omega arith);
          whole = λ y. cc;
          wide = All-nil (λ key. length key ≡ key_words);
          asked_for = All-nil (Contains asked);
          distinct = λ i j a b. absurd (omega arith);
        };
        units = record { built = All-nil (IsBuilt fits z no_rows); once = λ i j a b. absurd (omega arith); room = omega arith; small = All-nil (λ w. w < 2 ^ 32) };
        claims = λ id v e. only (Claims c) beginning v id e (Claims-beginning c refl refl);
        writers = record { creator = alone (λ v. v.creates ≡ true) beginning; publisher = alone (λ v. v.publishes ≡ true) beginning };
      }

  pub starts : (words : List ℕ) (n : ℕ) → words ≡ replicate n 0 → n ≡ width z → Lawful asked fits z (opening words [] beginning)
  starts words n are wide = subst (λ (ws : List ℕ). Lawful asked fits z (opening ws [] beginning)) (sym are) (of_zeros n wide)
