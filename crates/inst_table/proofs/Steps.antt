-- Each step keeps the rule, if what it stores stands for a content that has grown, and the seat knows no more than is so.
use Rattle.std.proofs.Common.{◌≡◌, ℕ, ◌⊎◌, true, false, List, get_or, set, sym, ◌∙◌, subst, ⊎_elim, length-set}
use mathlib.Core.Option.{some}
use lib.ListN.{get_elem?}
use lib.Seq.{set-get_or}
use Rattle.atomic_table.specs.Table.{State, Me, keeps, Allows, Splits, Joins}
use Rattle.atomic_table.proofs.Lists.{at_set}
use Rattle.inst_table.specs.Subject.{Subject}
use Rattle.inst_table.specs.Lawful.{Content, Claims, Lawful, StandsForRows, StandsForUnits, RowsAreSound, UnitsAreSound, HasOneWriterEach}
use Rattle.inst_table.specs.declared.setup.Numbers.{Numbers}
use Rattle.inst_table.specs.declared.view.View.{View}
use Rattle.inst_table.proofs.Seats.{at_end, IsAlone-set, IsAlone-push, IsAlone-over}
use Rattle.inst_table.proofs.Growth.{Grows, Claims-grow}

abbrev Creates : View → Type 0
Creates v = v.creates ≡ true

abbrev Publishes : View → Type 0
Publishes v = v.publishes ≡ true

writers_set : (views : List View) (id : ℕ) (v w : View) → get_elem? views id ≡ some v → (Creates w → Creates v) → (Publishes w → Publishes v) → HasOneWriterEach views → HasOneWriterEach (set views id w)
writers_set views id v w at creates publishes one = record {
  creator = IsAlone-set Creates views id v w at creates one.creator;
  publisher = IsAlone-set Publishes views id v w at publishes one.publisher;
}

module _ (asked : List (List ℕ)) (fits : Subject → List ℕ → Type 0) (z : Numbers) where
  abbrev pub Rule : State ℕ View → Type 0
  Rule = Lawful asked fits z

  -- What a load owes, once it found r and the seat knows w
  pub record Loaded (c : Content) (m : Me ℕ View) (w : View) (then : Type 0) : Type 0 where
    pub claims : Claims c w
    pub creates : w.creates ≡ m.0.creates
    pub publishes : w.publishes ≡ m.0.publishes
    pub tells : then

  pub loads : (n id : ℕ) (m : Me ℕ View) (i : ℕ) (f : ℕ → View) (then : ℕ → Me ℕ View → Type 0)
      → ((s : State ℕ View) (l : Rule s) → Claims l.content m.0 → Loaded l.content m (f (get_or s.words i 0)) (then (get_or s.words i 0) (f (get_or s.words i 0), m.1)))
      → Allows Rule n id m i (λ r. r) then
  loads n id m i f then owed s l wide at small =
      let c : Content = l.content in
      let o : Loaded c m (f (get_or s.words i 0)) (then (get_or s.words i 0) (f (get_or s.words i 0), m.1)) = owed s l (l.claims id m.0 at) in
      let w : View = f (get_or s.words i 0) in
      let kept : Rule (record { words = s.words; homes = s.homes; views = set s.views id w }) = record {
        content = c;
        wide = l.wide;
        stands_for_rows = l.stands_for_rows;
        stands_for_units = l.stands_for_units;
        rows = l.rows;
        units = l.units;
        claims = λ j v e. ⊎_elim (λ t. subst (Claims c) t.1 o.claims) (λ t. l.claims j v t.1) (at_set s.views id j w v e);
        writers = writers_set s.views id m.0 w at (λ y. sym o.creates ∙ y) (λ y. sym o.publishes ∙ y) l.writers;
      } in
      (w, keeps, tt, subst (λ (ws : List ℕ). Rule (record { words = ws; homes = s.homes; views = set s.views id w })) (sym (set-get_or s.words i 0)) kept, o.tells)

  -- What a store owes: a content to which the other one has grown, and whose writer the seat is where it differs
  pub record Stored (s : State ℕ View) (c : Content) (m : Me ℕ View) (i new : ℕ) (w : View) (then : Type 0) : Type 0 where
    pub content : Content
    pub grows : Grows c content
    pub stands_for_rows : StandsForRows (set s.words i new) content.rows
    pub stands_for_units : StandsForUnits z (set s.words i new) content.units
    pub rows : RowsAreSound asked z content.rows
    pub units : UnitsAreSound fits z content.rows content.units
    pub claims : Claims content w
    pub creates : w.creates ≡ m.0.creates
    pub publishes : w.publishes ≡ m.0.publishes
    pub by_creator : (c.rows ≡ content.rows) ⊎ (m.0.creates ≡ true)
    pub by_publisher : (c.units ≡ content.units) ⊎ (m.0.publishes ≡ true)
    pub tells : then

  pub stores : (n id : ℕ) (m : Me ℕ View) (i new : ℕ) (w : View) (then : Me ℕ View → Type 0)
      → ((s : State ℕ View) (l : Rule s) → Claims l.content m.0 → Stored s l.content m i new w (then (w, m.1)))
      → Allows Rule n id m i (λ _. new) (λ _. then)
  stores n id m i new w then owed s l wide at small =
      let c : Content = l.content in
      let o : Stored s c m i new w (then (w, m.1)) = owed s l (l.claims id m.0 at) in
      let d : Content = o.content in (
        w,
        keeps,
        tt,
        record {
          content = d;
          wide = length-set s.words i new ∙ l.wide;
          stands_for_rows = o.stands_for_rows;
          stands_for_units = o.stands_for_units;
          rows = o.rows;
          units = o.units;
          claims = λ j v e. ⊎_elim (λ t. subst (Claims d) t.1 o.claims)
              (λ t. let k : Claims c v = l.claims j v t.1 in Claims-grow c d o.grows l.rows.behind v k
              (λ y. ⊎_elim (λ same. k.creates y ∙ same) (λ mine. absurd (t.0 (l.writers.creator j id v m.0 t.1 at y mine))) o.by_creator)
              (λ y. ⊎_elim (λ same. k.publishes y ∙ same) (λ mine. absurd (t.0 (l.writers.publisher j id v m.0 t.1 at y mine))) o.by_publisher))
              (at_set s.views id j w v e);
          writers = writers_set s.views id m.0 w at (λ y. sym o.creates ∙ y) (λ y. sym o.publishes ∙ y) l.writers;
        },
        o.tells,
      )

  -- a new seat knows no more than is so, and has no right to write
  pub splits : (id : ℕ) (v right : View) → right.creates ≡ false → right.publishes ≡ false
      → ((c : Content) → RowsAreSound asked z c.rows → UnitsAreSound fits z c.rows c.units → Claims c v → Claims c right) → Splits Rule id v v right
  splits id v right no_creator no_publisher owed s l at =
      let c : Content = l.content in
      record {
        content = c;
        wide = l.wide;
        stands_for_rows = l.stands_for_rows;
        stands_for_units = l.stands_for_units;
        rows = l.rows;
        units = l.units;
        claims = λ j u e. ⊎_elim (λ t. ⊎_elim (λ q. subst (Claims c) q.1 (l.claims id v at)) (λ q. l.claims j u q.1) (at_set s.views id j v u t))
            (λ t. subst (Claims c) t.1 (owed c l.rows l.units (l.claims id v at))) (at_end (set s.views id v) right u j e);
        writers = record {
          creator = IsAlone-push Creates (set s.views id v) right (λ y. cc) (IsAlone-set Creates s.views id v v at (λ y. y) l.writers.creator);
          publisher = IsAlone-push Publishes (set s.views id v) right (λ y. cc) (IsAlone-set Publishes s.views id v v at (λ y. y) l.writers.publisher);
        };
      }

  -- a new seat takes over the right to create
  pub hands_over : (id : ℕ) (v left right : View) → left.creates ≡ false → left.publishes ≡ v.publishes → right.creates ≡ v.creates → right.publishes ≡ false
      → ((c : Content) → Claims c v → Claims c left × Claims c right) → Splits Rule id v left right
  hands_over id v left right no_creator publisher creator no_publisher owed s l at =
      let c : Content = l.content in
      let o : Claims c left × Claims c right = owed c (l.claims id v at) in
      record {
        content = c;
        wide = l.wide;
        stands_for_rows = l.stands_for_rows;
        stands_for_units = l.stands_for_units;
        rows = l.rows;
        units = l.units;
        claims = λ j u e. ⊎_elim (λ t. ⊎_elim (λ q. subst (Claims c) q.1 o.0) (λ q. l.claims j u q.1) (at_set s.views id j left u t))
            (λ t. subst (Claims c) t.1 o.1) (at_end (set s.views id left) right u j e);
        writers = record {
          creator = IsAlone-over Creates s.views id v left right at (λ y. cc) (λ y. sym creator ∙ y) l.writers.creator;
          publisher = IsAlone-push Publishes (set s.views id left) right (λ y. cc) (IsAlone-set Publishes s.views id v left at (λ y. sym publisher ∙ y) l.writers.publisher);
        };
      }

  -- a seat takes in another one, which then claims nothing
  pub joins : (id : ℕ) (v : View) (other : ℕ) (w both spent : View) → both.creates ≡ v.creates → both.publishes ≡ v.publishes → spent.creates ≡ false → spent.publishes ≡ false
      → ((c : Content) → Claims c v → Claims c w → Claims c both × Claims c spent) → Joins Rule id v other w both spent
  joins id v other w both spent creates publishes no_creator no_publisher owed s l at apart there =
      let c : Content = l.content in
      let known : Claims c w = ⊎_elim (λ t. absurd (apart t.0)) (λ t. l.claims other w t.1) (at_set s.views id other both w there) in
      let o : Claims c both × Claims c spent = owed c (l.claims id v at) known in
      record {
        content = c;
        wide = l.wide;
        stands_for_rows = l.stands_for_rows;
        stands_for_units = l.stands_for_units;
        rows = l.rows;
        units = l.units;
        claims = λ j u e. ⊎_elim (λ t. subst (Claims c) t.1 o.1)
            (λ t. ⊎_elim (λ q. subst (Claims c) q.1 o.0) (λ q. l.claims j u q.1) (at_set s.views id j both u t.1))
            (at_set (set s.views id both) other j spent u e);
        writers = writers_set (set s.views id both) other w spent there (λ y. cc) (λ y. cc)
            (writers_set s.views id v both at (λ y. sym creates ∙ y) (λ y. sym publishes ∙ y) l.writers);
      }
