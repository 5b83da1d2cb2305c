-- The canonical state: its form, and that it is lawful and tidy, and what a tidy state's is.
use Rattle.std.proofs.Common.{◌≡◌, ◌≢◌, ◌==◌, ℕ, ◌<◌, ◌≤◌, Bool, true, false, List, Option, Some, None, IfSome, IsSome, IsNone, IsTrue, is_some, map, get_or, refl, sym, ap, ◌∙◌, subst, inl, inr, ◌⊎◌, arith, if◌then◌else◌}
use Rattle.std.specs.List.{Contains}
use Rattle.std.specs.List.Sorted.{IsNonDecreasingBy, IsPermutation}
use Rattle.std.specs.Option.{option_map}
use Rattle.std.proofs.lemmas.Bool.{cases_lt}
use Rattle.std.proofs.lemmas.List.Elements.{All-contains, Contains-get_or}
use Rattle.std.proofs.lemmas.List.FromFn.{fill_by_all}
use Rattle.std.proofs.lemmas.List.Sorted.{IsPermutation-refl}
use Rattle.state_model.specs.Lawful.{present_at, AllPresent, HaveDifferentIds, IsEntry, IsSpecValues, IsVertexPart, IsPrerastPart, IsFragmentPart, IsOutputPart, IsLawful}
use Rattle.state_model.specs.Canonical.{Precedes, AreInOrder, is_named, IsCanonicalPrerast, IsCanonicalFragment, IsCanonicalOutput, IsCanonicalOf, BothOrNeither, IsTidy, if_declared, in_order, entry_rank, canonical_entries, canonical_prerast, canonical_fragment, canonical_output, without_copy, canonical}
use Rattle.limits.specs.declared.TheConstants.{VERTEX_BINDINGS}
use Rattle.state_model.specs.declared.vulkan.TheConstants.{LOGIC_OP_COPY}
use Rattle.state_model.specs.declared.parts.Topology.{Topology}
use Rattle.state_model.specs.declared.parts.Topology.TheVariants.{Points, Triangles}
use Rattle.state_model.specs.declared.parts.VertexBinding.{VertexBinding}
use Rattle.state_model.specs.declared.parts.Entry.{Entry}
use Rattle.state_model.specs.declared.parts.SpecValues.{SpecValues}
use Rattle.state_model.specs.declared.parts.VertexPart.{VertexPart}
use Rattle.state_model.specs.declared.parts.PrerastPart.{PrerastPart}
use Rattle.state_model.specs.declared.parts.FragmentPart.{FragmentPart}
use Rattle.state_model.specs.declared.parts.OutputPart.{OutputPart}
use Rattle.state_model.specs.declared.parts.State.{State}
use Rattle.state_key.specs.AllDeclared.{DeclaresAll}
use Rattle.state_key.proofs.CanonicalForm.{canonical_vertex_is, lawful_vertex, kept, kept_bindings, kept_everywhere, present_at-get_or}
use Rattle.state_key.proofs.EntryOrder.{map_from_each}
use Rattle.state_key.proofs.KeyBack.{same_vertex, same_prerast, same_fragment, same_output, same_state}
use Rattle.state_key.proofs.KeptEntries.{keeps_declared, sorted_is_in_order, declared_to, number_same, same_number}

-- the parts, in the form

canonical_prerast_is : (ids : List ℕ) (topology : Topology) (p : PrerastPart) → IsPrerastPart p → IsCanonicalPrerast ids topology p (canonical_prerast ids topology p)
canonical_prerast_is ids Points p h = record {
  entries = keeps_declared ids p.entries h.entries;
  points = λ _. (refl, refl);
  triangles = λ e. cc;
  rest = refl;
}
canonical_prerast_is ids Triangles p h = record {
  entries = keeps_declared ids p.entries h.entries;
  points = λ e. cc;
  triangles = λ _. (refl, refl);
  rest = refl;
}

canonical_fragment_is : (ids : List ℕ) (f : FragmentPart) → IsFragmentPart f → IsCanonicalFragment ids f (canonical_fragment ids f)
canonical_fragment_is ids f h = record { entries = keeps_declared ids f.entries h.entries; multisample = refl; rest = refl }

copy_gone : (logic : Option ℕ) → logic ≡ Some LOGIC_OP_COPY → IsNone (without_copy logic)
copy_gone None e = refl
copy_gone (Some op) e = by_test (op == LOGIC_OP_COPY) (same_number op LOGIC_OP_COPY (number_in op LOGIC_OP_COPY e))
  where
    number_in : (a b : ℕ) → ◌≡◌ {A = Option ℕ} (Some a) (Some b) → a ≡ b
    number_in a b e = cc

    by_test : (b : Bool) → b ≡ true → IsNone (if b then None else Some op)
    by_test true e = refl
    by_test false e = cc

others_stay : (logic : Option ℕ) → logic ≢ Some LOGIC_OP_COPY → without_copy logic ≡ logic
others_stay None h = refl
others_stay (Some op) h = by_test (op == LOGIC_OP_COPY) refl
  where
    by_test : (b : Bool) → (op == LOGIC_OP_COPY) ≡ b → (if b then None else Some op) ≡ Some op
    by_test true e = absurd (h (ap (λ n. Some n) (number_same op LOGIC_OP_COPY e)))
    by_test false e = refl

canonical_output_is : (o : OutputPart) → IsCanonicalOutput o (canonical_output o)
canonical_output_is o = record { copy = copy_gone o.logic; others = others_stay o.logic; rest = refl }

both_mapped : {X : Type 0} (R : X → X → Type 0) (f : X → X) (P : X → Type 0) → ((x : X) → P x → R x (f x)) → (o : Option X) → IfSome o P → BothOrNeither R o (option_map f o)
both_mapped R f P each None h = refl
both_mapped R f P each (Some x) h = each x h

pub IsCanonicalOf-canonical : (vs fs : List ℕ) (s : State) → IsLawful s → IsCanonicalOf vs fs s (canonical vs fs s)
unfolding canonical
IsCanonicalOf-canonical vs fs s h = record {
  vertex = canonical_vertex_is s.vertex h.vertex;
  prerast = canonical_prerast_is vs s.vertex.topology s.prerast h.prerast;
  fragment = both_mapped (IsCanonicalFragment fs) (canonical_fragment fs) IsFragmentPart (canonical_fragment_is fs) s.fragment h.fragment;
  output = both_mapped IsCanonicalOutput canonical_output IsOutputPart (λ o _. canonical_output_is o) s.output h.output;
}

-- it is lawful

apart : (a b : Option Entry) → Precedes a b → HaveDifferentIds a b
apart None b p = tt
apart (Some e) None p = tt
apart (Some e) (Some f) p = λ same. omega (arith, same, p)

lawful_entries : (ids : List ℕ) (v : SpecValues) → IsSpecValues v → IsSpecValues (canonical_entries ids v)
lawful_entries ids v h =
    let keeps = keeps_declared ids v h in
    record {
      count = keeps.same_count ∙ h.count;
      words = λ k d within. word (get_or (canonical_entries ids v).entries k d) (Contains-get_or (canonical_entries ids v).entries k d within);
      distinct = λ i j d before within. apart (get_or (canonical_entries ids v).entries i d) (get_or (canonical_entries ids v).entries j d) (keeps.in_order i j d before within);
    }
  where
    word : (o : Option Entry) → Contains (canonical_entries ids v).entries o → IfSome o IsEntry
    word None c = tt
    word (Some e) c = All-contains (λ o. IfSome o IsEntry) v.entries (Some e) h.words (((keeps_declared ids v h).kept e).0 c).0

lawful_prerast : (ids : List ℕ) (topology : Topology) (p : PrerastPart) → IsPrerastPart p → IsPrerastPart (canonical_prerast ids topology p)
lawful_prerast ids Points p h = record { module_number = h.module_number; layout = h.layout; view_mask = h.view_mask; cull = omega arith; entries = lawful_entries ids p.entries h.entries }
lawful_prerast ids Triangles p h = record { module_number = h.module_number; layout = h.layout; view_mask = h.view_mask; cull = h.cull; entries = lawful_entries ids p.entries h.entries }

lawful_fragment : (ids : List ℕ) (f : Option FragmentPart) → IfSome f IsFragmentPart → IfSome (option_map (canonical_fragment ids) f) IsFragmentPart
lawful_fragment ids None h = tt
lawful_fragment ids (Some f) h = record { module_number = h.module_number; layout = h.layout; view_mask = h.view_mask; depth = h.depth; multisample = tt; entries = lawful_entries ids f.entries h.entries }

lawful_logic : (logic : Option ℕ) → IfSome logic (λ op. op ≤ 15) → IfSome (without_copy logic) (λ op. op ≤ 15)
lawful_logic None h = tt
lawful_logic (Some op) h = by_test (op == LOGIC_OP_COPY)
  where
    by_test : (b : Bool) → IfSome (if b then None else Some op) (λ op. op ≤ 15)
    by_test true = tt
    by_test false = h

lawful_output : (o : Option OutputPart) → IfSome o IsOutputPart → IfSome (option_map canonical_output o) IsOutputPart
lawful_output None h = tt
lawful_output (Some o) h = record { view_mask = h.view_mask; multisample = h.multisample; logic = lawful_logic o.logic h.logic; attachment_count = h.attachment_count; attachments = h.attachments }

same_discard : (ids : List ℕ) (topology : Topology) (p : PrerastPart) → (canonical_prerast ids topology p).discard ≡ p.discard
same_discard ids Points p = refl
same_discard ids Triangles p = refl

same_views : (ids : List ℕ) (topology : Topology) (p : PrerastPart) → (canonical_prerast ids topology p).view_mask ≡ p.view_mask
same_views ids Points p = refl
same_views ids Triangles p = refl

still_some : {X : Type 0} (f : X → X) (o : Option X) → is_some (option_map f o) ≡ is_some o
still_some f None = refl
still_some f (Some x) = refl

mapped : {X : Type 0} (f : X → X) (P : X → Type 0) (o : Option X) → IfSome o (λ x. P (f x)) → IfSome (option_map f o) P
mapped f P None h = tt
mapped f P (Some x) h = h

no_samples : (ids : List ℕ) (f : Option FragmentPart) (o : Option OutputPart) → IfSome (option_map (canonical_fragment ids) f) (λ f. IfSome f.multisample (λ m. IfSome o (λ o. m ≡ o.multisample)))
no_samples ids None o = tt
no_samples ids (Some f) o = tt

pub IsLawful-canonical : (vs fs : List ℕ) (s : State) → IsLawful s → IsLawful (canonical vs fs s)
unfolding canonical
IsLawful-canonical vs fs s h =
    let discard = same_discard vs s.vertex.topology s.prerast in
    let views = same_views vs s.vertex.topology s.prerast in
    let fragment = still_some (canonical_fragment fs) s.fragment in
    let output = still_some canonical_output s.output in
    record {
      vertex = lawful_vertex s.vertex h.vertex;
      prerast = lawful_prerast vs s.vertex.topology s.prerast h.prerast;
      fragment = lawful_fragment fs s.fragment h.fragment;
      output = lawful_output s.output h.output;
      accord = record {
        fragment_there = (λ e. fragment ∙ h.accord.fragment_there.0 (sym discard ∙ e), λ e. discard ∙ h.accord.fragment_there.1 (sym fragment ∙ e));
        output_there = (λ e. output ∙ h.accord.output_there.0 (sym discard ∙ e), λ e. discard ∙ h.accord.output_there.1 (sym output ∙ e));
        fragment_views = mapped (canonical_fragment fs) (λ f. f.view_mask ≡ (canonical_prerast vs s.vertex.topology s.prerast).view_mask) s.fragment (subst (λ m. IfSome s.fragment (λ f. f.view_mask ≡ m)) (sym views) h.accord.fragment_views);
        output_views = mapped canonical_output (λ o. o.view_mask ≡ (canonical_prerast vs s.vertex.topology s.prerast).view_mask) s.output (subst (λ m. IfSome s.output (λ o. o.view_mask ≡ m)) (sym views) h.accord.output_views);
        multisample = no_samples fs s.fragment (option_map canonical_output s.output);
      };
    }

-- it is tidy

ordered_entries : (ids : List ℕ) (topology : Topology) (p : PrerastPart) → IsPrerastPart p → AreInOrder (canonical_prerast ids topology p).entries.entries
ordered_entries ids Points p h = (keeps_declared ids p.entries h.entries).in_order
ordered_entries ids Triangles p h = (keeps_declared ids p.entries h.entries).in_order

ordered_fragment : (ids : List ℕ) (f : Option FragmentPart) → IfSome f IsFragmentPart → IfSome (option_map (canonical_fragment ids) f) (λ f. AreInOrder f.entries.entries)
ordered_fragment ids None h = tt
ordered_fragment ids (Some f) h = (keeps_declared ids f.entries h.entries).in_order

faceless : (ids : List ℕ) (topology : Topology) (p : PrerastPart) → topology ≡ Points → ((canonical_prerast ids topology p).cull ≡ 0) × ((canonical_prerast ids topology p).ccw ≡ false)
faceless ids Points p e = (refl, refl)
faceless ids Triangles p e = cc

sampleless : (ids : List ℕ) (f : Option FragmentPart) → IfSome (option_map (canonical_fragment ids) f) (λ f. IsNone f.multisample)
sampleless ids None = tt
sampleless ids (Some f) = refl

no_copy : (logic : Option ℕ) → without_copy logic ≢ Some LOGIC_OP_COPY
no_copy None e = cc
no_copy (Some op) e = by_test (op == LOGIC_OP_COPY) refl e
  where
    number_in : (a b : ℕ) → ◌≡◌ {A = Option ℕ} (Some a) (Some b) → a ≡ b
    number_in a b e = cc

    absurd_test : (a : Bool) → a ≡ true → a ≡ false → ⊥
    absurd_test a p q = cc

    by_test : (b : Bool) → (op == LOGIC_OP_COPY) ≡ b → (if b then None else Some op) ≡ Some LOGIC_OP_COPY → ⊥
    by_test true t e = cc
    by_test false t e = absurd_test (op == LOGIC_OP_COPY) (same_number op LOGIC_OP_COPY (number_in op LOGIC_OP_COPY e)) t

copyless : (o : Option OutputPart) → IfSome (option_map canonical_output o) (λ o. o.logic ≢ Some LOGIC_OP_COPY)
copyless None = tt
copyless (Some o) = no_copy o.logic

named_there : (b : Bool) (o : Option VertexBinding) → IsSome (if b then o else None) → b ≡ true
named_there true o h = refl
named_there false o h = cc

pub IsTidy-canonical : (vs fs : List ℕ) (s : State) → IsLawful s → IsTidy (canonical vs fs s)
unfolding canonical
IsTidy-canonical vs fs s h = record {
  vertex_entries = ordered_entries vs s.vertex.topology s.prerast h.prerast;
  fragment_entries = ordered_fragment fs s.fragment h.fragment;
  bindings = λ n there. named_there (is_named s.vertex.attributes n) (present_at s.vertex.bindings n) (subst (λ o. IsSome o) (kept_everywhere s.vertex h.vertex n) there);
  points = faceless vs s.vertex.topology s.prerast;
  multisample = sampleless fs s.fragment;
  logic = copyless s.output;
}

-- a tidy state with declared entries stays

all_declared : (ids : List ℕ) (o : Option Entry) → IfSome o (λ e. Contains ids e.id) → if_declared ids o ≡ o
all_declared ids None h = refl
all_declared ids (Some e) h = ap (λ b. if b then Some e else None) (declared_to ids e.id h)

rank_in_order : (a b : Option Entry) → IfSome a IsEntry → Precedes a b → entry_rank a ≤ entry_rank b
rank_in_order a None h p = none_above a h
  where
    none_above : (a : Option Entry) → IfSome a IsEntry → entry_rank a ≤ entry_rank None
    none_above None h = omega arith
    none_above (Some e) h = omega (arith, h.id)
rank_in_order None (Some f) h p = absurd p
rank_in_order (Some e) (Some f) h p = omega (arith, p)

ranks_ascend : (entries : List (Option Entry)) → AllPresent IsEntry entries → AreInOrder entries → IsNonDecreasingBy entry_rank entries
ranks_ascend entries words order i j d le within = by_cases (cases_lt i j)
  where
    by_cases : (i < j) ⊎ (j ≤ i) → entry_rank (get_or entries i d) ≤ entry_rank (get_or entries j d)
    by_cases (inl p) = rank_in_order (get_or entries i d) (get_or entries j d) (words i d (omega arith)) (order i j d p within)
    by_cases (inr q) = let same : i ≡ j = omega arith in rw same (omega arith)

abbrev made : List (Option Entry) → SpecValues
made entries = record { entries = entries }

pub same_entries : (ids : List ℕ) (v : SpecValues) → IsSpecValues v → AreInOrder v.entries → AllPresent (λ e. Contains ids e.id) v.entries → canonical_entries ids v ≡ v
unfolding canonical_entries
same_entries ids v h order declared = ap made (sym sorted)
  where
    whole : v.entries ≡ map (if_declared ids) v.entries
    whole = map_from_each (if_declared ids) v.entries v.entries None refl (λ k within. sym (all_declared ids (get_or v.entries k None) (declared k None within)))

    sorted : v.entries ≡ in_order (map (if_declared ids) v.entries)
    sorted = sorted_is_in_order ids v h v.entries (subst (λ xs. IsPermutation xs v.entries) whole (IsPermutation-refl v.entries)) (ranks_ascend v.entries h.words order)

same_bindings : (v : VertexPart) (lawful : IsVertexPart v) → ((number : ℕ) → IsSome (present_at v.bindings number) → IsTrue (is_named v.attributes number)) → kept_bindings v lawful ≡ v.bindings
same_bindings v lawful named = sym (fill_by_all (kept v lawful) v.bindings VERTEX_BINDINGS None lawful.binding_count (λ k within. stays k within))
  where
    by_test : (k : ℕ) (b : Bool) (o : Option VertexBinding) → (IsSome o → b ≡ true) → o ≡ (if b then o else None)
    by_test k true o h = refl
    by_test k false None h = refl
    by_test k false (Some x) h = absurd (false_true (h refl))
      where
        false_true : false ≡ true → ⊥
        false_true e = cc

    stays : (k : ℕ) → k < VERTEX_BINDINGS → get_or v.bindings k None ≡ kept v lawful k
    stays k within = sym (present_at-get_or v.bindings k None (omega (arith, lawful.binding_count))) ∙ by_test k (is_named v.attributes k) (present_at v.bindings k) (named k)

same_prerast_part : (ids : List ℕ) (topology : Topology) (p : PrerastPart) → canonical_entries ids p.entries ≡ p.entries → (topology ≡ Points → (p.cull ≡ 0) × (p.ccw ≡ false)) → canonical_prerast ids topology p ≡ p
same_prerast_part ids Points p e h = let facing = h refl in same_prerast refl refl refl refl refl (sym facing.0) (sym facing.1) e
same_prerast_part ids Triangles p e h = same_prerast refl refl refl refl refl refl refl e

none_is : {X : Type 0} (o : Option X) → IsNone o → None ≡ o
none_is None h = refl
none_is (Some x) h = cc

same_fragment_part : (ids : List ℕ) (f : Option FragmentPart) → IfSome f IsFragmentPart → IfSome f (λ f. AreInOrder f.entries.entries) → IfSome f (λ f. IsNone f.multisample) → IfSome f (λ f. AllPresent (λ e. Contains ids e.id) f.entries.entries) → option_map (canonical_fragment ids) f ≡ f
same_fragment_part ids None h order samples declared = refl
same_fragment_part ids (Some f) h order samples declared =
    ap (λ x. Some x) (same_fragment refl refl refl refl refl (none_is f.multisample samples) (same_entries ids f.entries h.entries order declared))

same_output_part : (o : Option OutputPart) → IfSome o (λ o. o.logic ≢ Some LOGIC_OP_COPY) → option_map canonical_output o ≡ o
same_output_part None h = refl
same_output_part (Some o) h = ap (λ x. Some x) (same_output refl refl refl (others_stay o.logic h) refl)

pub canonical_of_tidy : (vs fs : List ℕ) (s : State) → IsLawful s → IsTidy s → DeclaresAll vs fs s → canonical vs fs s ≡ s
unfolding canonical
canonical_of_tidy vs fs s h tidy declared = same_state
    (same_vertex refl refl (same_bindings s.vertex h.vertex tidy.bindings) refl)
    (same_prerast_part vs s.vertex.topology s.prerast (same_entries vs s.prerast.entries h.prerast.entries tidy.vertex_entries declared.vertex) tidy.points)
    (same_fragment_part fs s.fragment h.fragment tidy.fragment_entries tidy.multisample declared.fragment)
    (same_output_part s.output tidy.logic)
