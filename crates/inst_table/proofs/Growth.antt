-- What a seat knows stays so as the content grows.
use Rattle.std.proofs.Common.{◌≡◌, ℕ, ◌<◌, ◌≤◌, ◌≢◌, true, List, length, IfSome, Option, Some, None, get_or, sym, refl, ap, ◌∙◌, arith}
use Rattle.std.proofs.lemmas.List.Elements.{All-weaker}
use Rattle.inst_table.specs.Bucket.{bucket_of}
use Rattle.inst_table.specs.Chain.{key_at}
use Rattle.inst_table.specs.Units.{heap_of, address_of}
use Rattle.inst_table.specs.Lawful.{Content, Claims, IsRight, NoneBetween, StandsIn, IsOnTheWay}
use Rattle.inst_table.specs.declared.view.View.{View}
use Rattle.inst_table.specs.declared.view.Walk.{Walk}
use Rattle.inst_table.specs.declared.view.KnownWord.{KnownWord}
use Rattle.inst_table.specs.declared.view.KnownWord.TheVariants.{KeyWord, AddressWord, HeapWord}

pub record Grows (c d : Content) : Type 0 where
  pub count : c.rows.count ≤ d.rows.count
  pub long : length c.rows.linked ≤ length d.rows.linked
  pub rows : (row : ℕ) → row < length c.rows.linked → key_at d.rows.linked row ≡ key_at c.rows.linked row
  pub addresses : (unit : ℕ) → address_of c.units.built unit ≢ 0 → address_of d.units.built unit ≡ address_of c.units.built unit
  pub heap : (at : ℕ) → at < length (heap_of c.units.built) → (at < length (heap_of d.units.built)) × (get_or (heap_of d.units.built) at 0 ≡ get_or (heap_of c.units.built) at 0)

IsRight-grow : (c d : Content) → Grows c d → c.rows.count ≤ length c.rows.linked → (seen : ℕ) → seen ≤ c.rows.count → (word : KnownWord) → IsRight c seen word → IsRight d seen word
IsRight-grow c d g behind seen low (KeyWord row at word) r = (r.0, r.1, r.2 ∙ ap (λ (key : List ℕ). get_or key at 0) (sym (g.rows row (omega (arith, r.0)))))
IsRight-grow c d g behind seen low (AddressWord unit word) r = let there : address_of c.units.built unit ≢ 0 = λ z. r.0 (sym r.1 ∙ z) in (r.0, g.addresses unit there ∙ r.1)
IsRight-grow c d g behind seen low (HeapWord at word) r = let h = g.heap at r.0 in (h.0, r.1 ∙ sym h.1)

NoneBetween-grow : (c d : Content) → Grows c d → (key : List ℕ) (low n : ℕ) → n ≤ length c.rows.linked → NoneBetween c.rows.linked key low n → NoneBetween d.rows.linked key low n
NoneBetween-grow c d g key low n short none row above below e = none row above below (sym (g.rows row (omega arith)) ∙ e)

StandsIn-grow : (c d : Content) → Grows c d → (b row : ℕ) → StandsIn c.rows.linked b row → StandsIn d.rows.linked b row
StandsIn-grow c d g b row st = let long = g.long in let near = st.0 in (omega arith, ap bucket_of (g.rows row st.0) ∙ st.1)

IsOnTheWay-grow : (c d : Content) → Grows c d → c.rows.count ≤ length c.rows.linked → (seen : ℕ) → seen ≤ c.rows.count → (w : Option Walk) → IfSome w (IsOnTheWay c.rows seen) → IfSome w (IsOnTheWay d.rows seen)
IsOnTheWay-grow c d g behind seen low None t = tt
IsOnTheWay-grow c d g behind seen low (Some w) t = record {
  below = t.below;
  stands = λ row e. StandsIn-grow c d g (bucket_of w.key) row (t.stands row e);
  passed = let b = t.below in NoneBetween-grow c d g w.key w.place w.below (omega arith) t.passed;
}

pub Claims-grow : (c d : Content) → Grows c d → c.rows.count ≤ length c.rows.linked → (v : View) → Claims c v
    → (v.creates ≡ true → v.rows ≡ d.rows) → (v.publishes ≡ true → v.units ≡ d.units) → Claims d v
Claims-grow c d g behind v t creates publishes = record {
  seen = let a = t.seen in let b = g.count in omega arith;
  known = All-weaker (IsRight c v.seen) (IsRight d v.seen) (IsRight-grow c d g behind v.seen t.seen) v.known t.known;
  absent = let low = t.seen in All-weaker (λ (a : List ℕ × ℕ). (a.1 ≤ v.seen) × NoneBetween c.rows.linked a.0 0 a.1) (λ (a : List ℕ × ℕ). (a.1 ≤ v.seen) × NoneBetween d.rows.linked a.0 0 a.1)
      (λ a h. (h.0, let near = h.0 in NoneBetween-grow c d g a.0 0 a.1 (omega arith) h.1)) v.absent t.absent;
  walk = IsOnTheWay-grow c d g behind v.seen t.seen v.walk t.walk;
  walked = All-weaker (λ (p : ℕ × ℕ). StandsIn c.rows.linked p.1 p.0) (λ (p : ℕ × ℕ). StandsIn d.rows.linked p.1 p.0) (λ p h. StandsIn-grow c d g p.1 p.0 h) v.walked t.walked;
  loads = All-weaker (λ (m : ℕ × ℕ). m.1 ≢ 0 → address_of c.units.built m.0 ≡ m.1) (λ (m : ℕ × ℕ). m.1 ≢ 0 → address_of d.units.built m.0 ≡ m.1) (λ m h there. let was = h there in g.addresses m.0 (λ z. there (sym was ∙ z)) ∙ was) v.address_loads t.loads;
  one_way = t.one_way;
  creates = creates;
  publishes = publishes;
}

pub Grows-same : (c : Content) → Grows c c
Grows-same c = record { count = omega arith; long = omega arith; rows = λ row h. refl; addresses = λ unit h. refl; heap = λ at h. (h, refl) }
