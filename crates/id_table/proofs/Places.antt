-- What a table holds below the number of its places, and from there on.
use Rattle.std.proofs.Common.{◌≡◌, ◌≢◌, ◌⊎◌, ℕ, ◌<◌, ◌≤◌, Bool, true, false, if◌then◌else◌, cond, zero, suc, ◌==◌, List, [], ◌∷◌, ◌++◌, length, refl, sym, ◌∙◌, ap, arith, inl, inr}
use Rattle.std.specs.Prelude.{nat_lt, Option, None, Some, Result, Ok, Err, OnErr, slice_index_or, slice_set, vec_len}
use Rattle.std.specs.Ordering.{nat_cmp, is_eq}
use Rattle.std.specs.BTreeMap.{BTreeMap, get, is_at, IsEmpty, IsUnchanged}
use Rattle.std.specs.Map.{lookup}
use Rattle.std.specs.Vec.{with_item}
use Rattle.std.proofs.lemmas.Bool.{cases_lt, lt-ltb, le-ltb}
use Rattle.std.proofs.lemmas.Bool.Decides.{eqb_tells, nat_tests}
use Rattle.std.proofs.lemmas.Grind.{get_or-set_at}
use Rattle.std.proofs.lemmas.List.{get_or-set_other}
use Rattle.id_table.specs.declared.table.IdTable.{IdTable}
use Rattle.id_table.specs.Tables.{at, HasNone, IsSame, Sets}

equal_numbers : (a b : ℕ) → is_eq (nat_cmp a b) ≡ (a == b)
equal_numbers a b = grind (arith, nat_tests)

module _ {T : Type 0} where
  pub near_at : (table : IdTable T) (id : ℕ) → id < vec_len table.near → at table id ≡ slice_index_or table.near.items id None
  unfolding at
  near_at table id near =
      ap (λ (b : Bool). if b then slice_index_or table.near.items id None else get nat_cmp table.far id) (lt-ltb id (vec_len table.near) near)

  pub far_at : (table : IdTable T) (id : ℕ) → vec_len table.near ≤ id → at table id ≡ get nat_cmp table.far id
  unfolding at
  far_at table id far =
      ap (λ (b : Bool). if b then slice_index_or table.near.items id None else get nat_cmp table.far id) (le-ltb id (vec_len table.near) far)

  if_at : (table : IdTable T) (id other : ℕ) (value : T) (b : Bool) (now : Option T) → (id == other) ≡ b
      → now ≡ (if b then Some value else at table other) → now ≡ (if id == other then Some value else at table other)
  if_at table id other value b now is here = here ∙ ap (λ (t : Bool). if t then Some value else at table other) (sym is)

  -- a value in one of the places
  pub sets_near : (table : IdTable T) (id : ℕ) (value : T) → id < vec_len table.near
      → Sets id value table (record { near = with_item table.near id (Some value); far = table.far })
  unfolding at
  sets_near table id value near other =
      elim (eqb_tells id other) [
        | inl same ↦
            if_at table id other value true _ same.0
            (near_at (record { near = with_item table.near id (Some value); far = table.far }) other (omega (arith, near, same.1))
            ∙ get_or-set_at table.near.items id other (Some value) None (sym same.1) (omega (arith, near, table.near.ok.0)))
        | inr differ ↦
            if_at table id other value false _ differ.0
            (ap (λ (o : Option T). if nat_lt other (vec_len table.near) then o else get nat_cmp table.far other)
            (get_or-set_other table.near.items id other (Some value) None (λ is. differ.1 (sym is))))
      ]

  -- a value in the map
  pub sets_far : (table : IdTable T) (far : BTreeMap ℕ T) (id : ℕ) (value : T) → vec_len table.near ≤ id
      → ((other : ℕ) → get nat_cmp far other ≡ cond (is_eq (nat_cmp id other)) (Some value) (get nat_cmp table.far other))
      → Sets id value table (record { near = table.near; far = far })
  sets_far table far id value past updates other =
      let new : IdTable T = record { near = table.near; far = far } in
      elim (cases_lt other (vec_len table.near)) [
        | inl near ↦
            if_at table id other value false _ (grind (arith, nat_tests, past, near)) (near_at new other near ∙ sym (near_at table other near))
        | inr beyond ↦
            far_at new other beyond ∙ updates other ∙ ap (λ (t : Bool). cond t (Some value) (get nat_cmp table.far other)) (equal_numbers id other)
            ∙ ap (λ (o : Option T). cond (id == other) (Some value) o) (sym (far_at table other beyond))
      ]

  same_far : (table : IdTable T) (far : BTreeMap ℕ T) → IsUnchanged table.far far → IsSame table (record { near = table.near; far = far })
  unfolding at
  same_far table far is id =
      ap (λ (o : Option T). if nat_lt id (vec_len table.near) then slice_index_or table.near.items id None else o) (ap (λ (entries : List (ℕ × T)). lookup (is_at (nat_cmp id)) entries) is)

  -- where a call failed
  pub stays : {E : Type 0} (result : Result (Unit {0}) E) (table : IdTable T) (far : BTreeMap ℕ T) → IsUnchanged table.far far
      → OnErr result (IsSame table (record { near = table.near; far = far }))
  stays (Ok done) table far is = record {}
  stays (Err error) table far is = same_far table far is

-- one more place without a value
pub none_more : {T : Type 0} (places : List (Option T)) (id : ℕ) → slice_index_or places id None ≡ None → slice_index_or (places ++ None ∷ []) id None ≡ None
none_more [] zero none = refl
none_more [] (suc id) none = refl
none_more (place ∷ places) zero none = none
none_more (place ∷ places) (suc id) none = none_more places id none

neither : {T : Type 0} (b : Bool) (first second : Option T) → first ≡ None → second ≡ None → (if b then first else second) ≡ None
neither true first second none also = none
neither false first second none also = also

pub starts_empty : {T : Type 0} (table : IdTable T) → ((id : ℕ) → slice_index_or table.near.items id None ≡ None) → IsEmpty table.far → HasNone table
unfolding at
starts_empty table none empty id =
    neither (nat_lt id (vec_len table.near)) (slice_index_or table.near.items id None) (get nat_cmp table.far id) (none id)
    (ap (λ entries. lookup (is_at (nat_cmp id)) entries) empty)
