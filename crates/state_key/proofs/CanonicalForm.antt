-- The canonical form has the properties that define it.
use Rattle.std.proofs.Common.{◌≡◌, ◌==◌, ℕ, zero, suc, ◌<◌, ◌≤◌, Bool, true, false, List, [], ◌∷◌, Option, Some, None, IfSome, IsSome, is_some, map, length, get_or, refl, sym, ap, ◌∙◌, subst, inl, inr, ◌⊎◌, arith, if◌then◌else◌}
use Rattle.std.specs.List.{Contains, range_with_len}
use Rattle.std.specs.Option.{option_map_or}
use Rattle.std.proofs.lemmas.Bool.{cases_lt}
use Rattle.std.proofs.lemmas.List.Elements.{Contains-get_or}
use Rattle.std.proofs.lemmas.List.FromFn.{length-map-range_with_len, get_or-map-range_with_len}
use Rattle.state_model.specs.Lawful.{present_at, AllPresent, IsVertexBinding, IsVertexPart}
use Rattle.state_model.specs.Canonical.{is_named, IsCanonicalVertex, canonical_vertex}
use Rattle.limits.specs.declared.TheConstants.{VERTEX_BINDINGS}
use Rattle.state_model.specs.declared.parts.VertexBinding.{VertexBinding}
use Rattle.state_model.specs.declared.parts.Attribute.{Attribute}
use Rattle.state_model.specs.declared.parts.VertexPart.{VertexPart}
use Rattle.state_key.proofs.EntryOrder.{either}
use Rattle.state_key.proofs.KeptEntries.{same_number, true_or}

-- what is there at a place

pub present_at-get_or : {X : Type 0} (xs : List (Option X)) (n : ℕ) (d : Option X) → n < length xs → present_at xs n ≡ get_or xs n d
present_at-get_or [] n d within = absurd (omega arith)
present_at-get_or (x ∷ xs) zero d within = refl
present_at-get_or (x ∷ xs) (suc n) d within = present_at-get_or xs n d (omega arith)

present_past : {X : Type 0} (xs : List (Option X)) (n : ℕ) → length xs ≤ n → present_at xs n ≡ None
present_past [] n past = refl
present_past (x ∷ xs) zero past = absurd (omega arith)
present_past (x ∷ xs) (suc n) past = present_past xs n (omega arith)

-- the bindings

named_here : (x : Option Attribute) (a : Attribute) → x ≡ Some a → option_map_or (λ (z : Attribute). z.binding == a.binding) x false ≡ true
named_here x a e = ap (λ o. option_map_or (λ (z : Attribute). z.binding == a.binding) o false) e ∙ same_number a.binding a.binding refl

names_either : (a : Attribute) (x : Option Attribute) (xs : List (Option Attribute)) → (Contains xs (Some a) → is_named xs a.binding ≡ true) → (x ≡ Some a) ⊎ Contains xs (Some a) → is_named (x ∷ xs) a.binding ≡ true
names_either a x xs rest (inl e) = true_or _ (is_named xs a.binding) (inl (named_here x a e))
names_either a x xs rest (inr c) = true_or (option_map_or (λ (z : Attribute). z.binding == a.binding) x false) (is_named xs a.binding) (inr (rest c))

-- an attribute names its binding
names : (a : Attribute) (xs : List (Option Attribute)) → Contains xs (Some a) → is_named xs a.binding ≡ true
names a [] c = let within = c.1 in absurd (omega arith)
names a (x ∷ xs) c = names_either a x xs (λ d. names a xs d) (either x (Some a) xs c)

module _ (v : VertexPart) (lawful : IsVertexPart v) where
  abbrev pub kept : ℕ → Option VertexBinding
  kept number = if is_named v.attributes number then present_at v.bindings number else None

  abbrev pub kept_bindings : List (Option VertexBinding)
  kept_bindings = map kept (range_with_len 0 VERTEX_BINDINGS)

  kept_length : length kept_bindings ≡ VERTEX_BINDINGS
  kept_length = length-map-range_with_len kept 0 VERTEX_BINDINGS

  kept_at : (n : ℕ) → n < VERTEX_BINDINGS → present_at kept_bindings n ≡ kept n
  kept_at n within = present_at-get_or kept_bindings n None (omega (arith, kept_length)) ∙ get_or-map-range_with_len kept 0 VERTEX_BINDINGS n n None within (omega arith)

  -- past the bindings there is none before and after
  pub kept_everywhere : (n : ℕ) → present_at kept_bindings n ≡ kept n
  kept_everywhere n = by_cases (cases_lt n VERTEX_BINDINGS)
    where
      none : (b : Bool) → present_at v.bindings n ≡ None → None ≡ (if b then present_at v.bindings n else None)
      none true e = sym e
      none false e = refl

      by_cases : (n < VERTEX_BINDINGS) ⊎ (VERTEX_BINDINGS ≤ n) → present_at kept_bindings n ≡ kept n
      by_cases (inl p) = kept_at n p
      by_cases (inr q) =
          present_past kept_bindings n (omega (arith, kept_length)) ∙ none (is_named v.attributes n) (present_past v.bindings n (omega (arith, lawful.binding_count)))

  named_kept : (n : ℕ) → is_named v.attributes n ≡ true → present_at kept_bindings n ≡ present_at v.bindings n
  named_kept n e = kept_everywhere n ∙ ap (λ b. if b then present_at v.bindings n else None) e

  unnamed_dropped : (n : ℕ) → is_named v.attributes n ≡ false → present_at kept_bindings n ≡ None
  unnamed_dropped n e = kept_everywhere n ∙ ap (λ b. if b then present_at v.bindings n else None) e

  pub canonical_vertex_is : IsCanonicalVertex v (canonical_vertex v)
  canonical_vertex_is = record {
    bindings = record {
      named = named_kept;
      unnamed = λ n e. ap (λ o. is_some o) (unnamed_dropped n e);
      same_count = kept_length ∙ sym lawful.binding_count;
    };
    rest = refl;
  }

  stride_kept : (b : Bool) (o : Option VertexBinding) → IfSome o IsVertexBinding → IfSome (if b then o else None) IsVertexBinding
  stride_kept true o h = h
  stride_kept false o h = tt

  lawful_bindings : AllPresent IsVertexBinding kept_bindings
  lawful_bindings k d within =
      let inside : k < VERTEX_BINDINGS = omega (arith, kept_length) in
      subst (λ o. IfSome o IsVertexBinding) (sym (get_or-map-range_with_len kept 0 VERTEX_BINDINGS k k d inside (omega arith)))
      (stride_kept (is_named v.attributes k) (present_at v.bindings k)
      (subst (λ o. IfSome o IsVertexBinding) (sym (present_at-get_or v.bindings k d (omega (arith, lawful.binding_count)))) (lawful.bindings k d (omega (arith, lawful.binding_count)))))

  pub lawful_vertex : IsVertexPart (canonical_vertex v)
  lawful_vertex = record {
    binding_count = kept_length;
    bindings = lawful_bindings;
    attribute_count = lawful.attribute_count;
    attributes = lawful.attributes;
    bound = λ k d within. still_bound (get_or v.attributes k d) (Contains-get_or v.attributes k d within) (lawful.bound k d within);
  }
    where
      still_bound : (o : Option Attribute) → Contains v.attributes o → IfSome o (λ a. IsSome (present_at v.bindings a.binding)) → IfSome o (λ a. IsSome (present_at kept_bindings a.binding))
      still_bound None c h = tt
      still_bound (Some a) c h = subst (λ o. IsSome o) (sym (named_kept a.binding (names a v.attributes c))) h
