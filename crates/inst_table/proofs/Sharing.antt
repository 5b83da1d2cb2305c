-- What a new seat knows is so, and what a seat knows that has taken in another.
use Rattle.std.proofs.Common.{◌≡◌, ℕ, ◌<◌, ◌≤◌, ◌≢◌, max, List, All, sym, refl, subst, arith}
use Rattle.std.proofs.lemmas.List.Elements.{All-nil, All-append, Contains-append_left, Contains-append_right}
use Rattle.atomic_table.specs.Table.{Me, Splits, Joins}
use Rattle.inst_table.specs.Passes.{KnowsAtLeast}
use Rattle.inst_table.specs.Subject.{Subject}
use Rattle.inst_table.specs.Views.{blank, split_view, without_creation, creation_alone, joint_view}
use Rattle.inst_table.specs.Units.{address_of}
use Rattle.inst_table.specs.Lawful.{Content, Claims, IsRight, NoneBetween, Lawful}
use Rattle.inst_table.specs.declared.setup.Numbers.{Numbers}
use Rattle.inst_table.specs.declared.view.View.{View}
use Rattle.inst_table.specs.declared.view.KnownWord.{KnownWord}
use Rattle.inst_table.proofs.LookSteps.{Claims-seen}
use Rattle.inst_table.proofs.Steps.{Rule, splits, hands_over, joins}

one_way_none : (i j : ℕ) → i < j → j < 0 → ⊥
one_way_none i j a b = omega arith

-- a view with no right to write, no place of a look-up and no load of an address
pub Claims-fresh : (c : Content) (v : View) (seen : ℕ) (known : List KnownWord) → seen ≤ c.rows.count → v.seen ≤ seen → All (IsRight c seen) known → Claims c v
    → Claims c (record blank { seen = seen; known = known; absent = v.absent; walked = v.walked })
Claims-fresh c v seen known high low right t = record {
  seen = high;
  known = right;
  absent = (Claims-seen c v seen v.looks low high t).absent;
  walk = tt;
  walked = t.walked;
  loads = All-nil (λ (m : ℕ × ℕ). m.1 ≢ 0 → address_of c.units.built m.0 ≡ m.1);
  one_way = λ i j a b. absurd (one_way_none i j a b);
  creates = λ y. cc;
  publishes = λ y. cc;
}

pub Claims-blank : (c : Content) → Claims c blank
Claims-blank c = record {
  seen = omega arith;
  known = All-nil (IsRight c 0);
  absent = All-nil (λ (a : List ℕ × ℕ). (a.1 ≤ 0) × NoneBetween c.rows.linked a.0 0 a.1);
  walk = tt;
  walked = All-nil (λ (p : ℕ × ℕ). Rattle.inst_table.specs.Lawful.StandsIn c.rows.linked p.1 p.0);
  loads = All-nil (λ (m : ℕ × ℕ). m.1 ≢ 0 → address_of c.units.built m.0 ≡ m.1);
  one_way = λ i j a b. absurd (one_way_none i j a b);
  creates = λ y. cc;
  publishes = λ y. cc;
}

pub Claims-without_creation : (c : Content) (v : View) → Claims c v → Claims c (without_creation v)
Claims-without_creation c v t = record {
  seen = t.seen;
  known = t.known;
  absent = t.absent;
  walk = t.walk;
  walked = t.walked;
  loads = t.loads;
  one_way = t.one_way;
  creates = λ y. cc;
  publishes = t.publishes;
}

Claims-creation_alone : (c : Content) (v : View) → Claims c v → Claims c (creation_alone v)
Claims-creation_alone c v t = let b : Claims c blank = Claims-blank c in record {
  seen = b.seen;
  known = b.known;
  absent = b.absent;
  walk = b.walk;
  walked = b.walked;
  loads = b.loads;
  one_way = b.one_way;
  creates = t.creates;
  publishes = λ y. cc;
}

Claims-joined : (c : Content) (v w : View) → Claims c v → Claims c w → Claims c (joint_view v w)
Claims-joined c v w t u =
    let a = t.seen in let b = u.seen in
    let top : ℕ = max v.seen w.seen in
    let l = Claims-seen c v top v.looks (omega arith) (omega arith) t in
    let r = Claims-seen c w top w.looks (omega arith) (omega arith) u in record {
      seen = l.seen;
      known = All-append (IsRight c top) v.known w.known l.known r.known;
      absent = All-append (λ (x : List ℕ × ℕ). (x.1 ≤ top) × NoneBetween c.rows.linked x.0 0 x.1) v.absent w.absent l.absent r.absent;
      walk = l.walk;
      walked = t.walked;
      loads = t.loads;
      one_way = t.one_way;
      creates = t.creates;
      publishes = t.publishes;
    }

module _ (asked : List (List ℕ)) (fits : Subject → List ℕ → Type 0) (z : Numbers) where
  pub tells : (id : ℕ) (v : View) → Splits (Rule asked fits z) id v v (split_view v)
  tells id v = splits asked fits z id v (split_view v) refl refl (λ c x y t. Claims-fresh c v v.seen v.known t.seen (omega arith) t.known t)

  pub gives_creation : (id : ℕ) (v : View) → Splits (Rule asked fits z) id v (without_creation v) (creation_alone v)
  gives_creation id v = hands_over asked fits z id v (without_creation v) (creation_alone v) refl refl refl refl (λ c t. (Claims-without_creation c v t, Claims-creation_alone c v t))

  pub takes_in : (id : ℕ) (v : View) (other : ℕ) (w : View) → Joins (Rule asked fits z) id v other w (joint_view v w) blank
  takes_in id v other w = joins asked fits z id v other w (joint_view v w) blank refl refl refl refl (λ c t u. (Claims-joined c v w t u, Claims-blank c))

pub knows_both : (x y : Me ℕ View) (w : View) → y ≡ (joint_view x.0 w, x.1) → KnowsAtLeast x.0 y.0 × KnowsAtLeast w y.0
knows_both x y w is =
    let P : View → Type 0 = λ u. KnowsAtLeast x.0 u × KnowsAtLeast w u in
    let both : P (joint_view x.0 w) = (
      record { seen = omega arith; words = λ word h. Contains-append_left x.0.known w.known word h; absences = λ a h. Contains-append_left x.0.absent w.absent a h },
      record { seen = omega arith; words = λ word h. Contains-append_right x.0.known w.known word h; absences = λ a h. Contains-append_right x.0.absent w.absent a h },
    ) in
    subst (λ (m : Me ℕ View). P m.0) (sym is) both
