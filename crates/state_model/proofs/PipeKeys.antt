-- The key of libraries that link tells whether they are all retained.
use Rattle.std.proofs.Common.{◌≡◌, ℕ, ◌+◌, ◌*◌, ◌/◌, ◌%◌, ◌^◌, ◌≤◌, ◌==◌, Bool, true, false, not, ◌&&◌, ◌||◌, List, [], ◌∷◌, Option, None, Some, length, refl, ap, subst, sym, ◌∙◌, arith}
use Rattle.std.specs.Prelude.{nat_lt}
use Rattle.std.specs.Option.{option_map, option_map_or}
use Rattle.std.proofs.lemmas.Bool.Decides.{nat_tests}
use Rattle.state_model.specs.declared.parts.Topology.{Topology}
use Rattle.state_model.specs.declared.parts.Topology.TheVariants.{Points, Triangles}
use Rattle.state_model.specs.declared.parts.FragmentPart.{FragmentPart}
use Rattle.state_model.specs.declared.parts.OutputPart.{OutputPart}
use Rattle.state_model.specs.declared.parts.State.{State}
use Rattle.state_model.specs.declared.parts.VertexPart.{VertexPart}
use Rattle.state_model.specs.declared.parts.PrerastPart.{PrerastPart}
use Rattle.state_model.specs.declared.rule.Rule.{Rule}
use Rattle.state_model.specs.declared.rule.Rule.TheVariants.{L1, L2, L3}
use Rattle.state_model.specs.Canonical.{canonical, canonical_prerast, canonical_fragment, canonical_output}
use Rattle.state_model.specs.Link.{Libraries, PrerastLibrary, FragmentLibrary, is_given_twice, lacks_subset, repeats_subset, has_unused_subset, lacks_retained, rule_if, failed_content_rule, failed_rule, linked_state}
use Rattle.state_model.specs.Key.{bit, topology_bit, key}
use Rattle.state_model.specs.PipeKey.{flag_of, is_retained, state_if_linked, key_if_linked}

-- ---- the first word

at_most_one : (b : Bool) → bit b ≤ 1
at_most_one true = omega arith
at_most_one false = omega arith

is_one : (b : Bool) → (bit b == 1) ≡ b
is_one true = refl
is_one false = refl

-- seven flags and the cull mode
abbrev word_of : (triangles discard cull ccw vertex prerast fragment output : ℕ) → ℕ
word_of triangles discard cull ccw vertex prerast fragment output =
    triangles + 2 * discard + 2 ^ 2 * cull + 2 ^ 4 * ccw + 2 ^ 8 * vertex + 2 ^ 9 * prerast + 2 ^ 10 * fragment + 2 ^ 11 * output

flags : (t d c w v p f o : ℕ) → t ≤ 1 → d ≤ 1 → c ≤ 3 → w ≤ 1 → v ≤ 1 → p ≤ 1 → f ≤ 1 → o ≤ 1
    → (word_of t d c w v p f o / 2 ^ 1 % 2 ≡ d) × (word_of t d c w v p f o / 2 ^ 8 % 2 ≡ v) × (word_of t d c w v p f o / 2 ^ 9 % 2 ≡ p)
    × (word_of t d c w v p f o / 2 ^ 10 % 2 ≡ f) × (word_of t d c w v p f o / 2 ^ 11 % 2 ≡ o)
flags t d c w v p f o ht hd hc hw hv hp hf ho = (omega arith, omega arith, omega arith, omega arith, omega arith)

by_flags : (k : List ℕ) (d v p f o : Bool) → flag_of 1 k ≡ d → flag_of 8 k ≡ v → flag_of 9 k ≡ p → flag_of 10 k ≡ f → flag_of 11 k ≡ o
    → is_retained k ≡ (v && p && (d || (f && o)))
unfolding is_retained
by_flags k d v p f o hd hv hp hf ho = rw (hd, hv, hp, hf, ho) refl

-- the same of a word of such flags
by_word : (rest : List ℕ) (t : ℕ) (d : Bool) (c : ℕ) (w v p f o : Bool) → t ≤ 1 → c ≤ 3
    → is_retained (word_of t (bit d) c (bit w) (bit v) (bit p) (bit f) (bit o) ∷ rest) ≡ (v && p && (d || (f && o)))
by_word rest t d c w v p f o ht hc =
    let each = flags t (bit d) c (bit w) (bit v) (bit p) (bit f) (bit o) ht (at_most_one d) hc (at_most_one w) (at_most_one v) (at_most_one p) (at_most_one f) (at_most_one o) in
    by_flags (word_of t (bit d) c (bit w) (bit v) (bit p) (bit f) (bit o) ∷ rest) d v p f o
    (ap (λ (n : ℕ). n == 1) each.0 ∙ is_one d) (ap (λ (n : ℕ). n == 1) each.1 ∙ is_one v) (ap (λ (n : ℕ). n == 1) each.2 ∙ is_one p)
    (ap (λ (n : ℕ). n == 1) each.3 ∙ is_one f) (ap (λ (n : ℕ). n == 1) each.4 ∙ is_one o)

topology_within : (topology : Topology) → topology_bit topology ≤ 1
topology_within Points = omega arith
topology_within Triangles = omega arith

-- ---- the key of a state

-- its parts, where there are two and where there are four
abbrev retained_parts : State → Bool
retained_parts s =
    s.vertex.retain && s.prerast.retain
    && (s.prerast.discard || (option_map_or (λ (f : FragmentPart). f.retain) s.fragment false && option_map_or (λ (o : OutputPart). o.retain) s.output false))

state_key : (s : State) → s.prerast.cull ≤ 3 → is_retained (key s) ≡ retained_parts s
unfolding key
state_key s low = by_parts s.fragment s.output
  where
    by_parts : (f : Option FragmentPart) (o : Option OutputPart) → is_retained (key (record s { fragment = f; output = o })) ≡ retained_parts (record s { fragment = f; output = o })
    by_parts None None = by_word _ (topology_bit s.vertex.topology) s.prerast.discard s.prerast.cull s.prerast.ccw s.vertex.retain s.prerast.retain false false (topology_within s.vertex.topology) low
    by_parts None (Some o) = by_word _ (topology_bit s.vertex.topology) s.prerast.discard s.prerast.cull s.prerast.ccw s.vertex.retain s.prerast.retain false o.retain (topology_within s.vertex.topology) low
    by_parts (Some f) None = by_word _ (topology_bit s.vertex.topology) s.prerast.discard s.prerast.cull s.prerast.ccw s.vertex.retain s.prerast.retain f.retain false (topology_within s.vertex.topology) low
    by_parts (Some f) (Some o) = by_word _ (topology_bit s.vertex.topology) s.prerast.discard s.prerast.cull s.prerast.ccw s.vertex.retain s.prerast.retain f.retain o.retain (topology_within s.vertex.topology) low

-- the canonical form retains what the state retains

same_prerast : (ids : List ℕ) (topology : Topology) (p : PrerastPart) → p.cull ≤ 3
    → ((canonical_prerast ids topology p).retain ≡ p.retain) × ((canonical_prerast ids topology p).discard ≡ p.discard) × ((canonical_prerast ids topology p).cull ≤ 3)
same_prerast ids Points p low = (refl, refl, omega arith)
same_prerast ids Triangles p low = (refl, refl, low)

canonical_parts : (vs_ids fs_ids : List ℕ) (s : State) → s.prerast.cull ≤ 3 → retained_parts (canonical vs_ids fs_ids s) ≡ retained_parts s
unfolding canonical
canonical_parts vs_ids fs_ids s low =
    let same = same_prerast vs_ids s.vertex.topology s.prerast low in
    by_parts (canonical_prerast vs_ids s.vertex.topology s.prerast) same.0 same.1 s.fragment s.output
  where
    by_parts : (p : PrerastPart) → p.retain ≡ s.prerast.retain → p.discard ≡ s.prerast.discard → (f : Option FragmentPart) (o : Option OutputPart)
        → (s.vertex.retain && p.retain
        && (p.discard || (option_map_or (λ (f : FragmentPart). f.retain) (option_map (canonical_fragment fs_ids) f) false
        && option_map_or (λ (o : OutputPart). o.retain) (option_map canonical_output o) false)))
        ≡ (s.vertex.retain && s.prerast.retain
        && (s.prerast.discard || (option_map_or (λ (f : FragmentPart). f.retain) f false && option_map_or (λ (o : OutputPart). o.retain) o false)))
    by_parts p retained discarded None None = rw (retained, discarded) refl
    by_parts p retained discarded None (Some o) = rw (retained, discarded) refl
    by_parts p retained discarded (Some f) None = rw (retained, discarded) refl
    by_parts p retained discarded (Some f) (Some o) = rw (retained, discarded) refl

low_cull : (vs_ids fs_ids : List ℕ) (s : State) → s.prerast.cull ≤ 3 → (canonical vs_ids fs_ids s).prerast.cull ≤ 3
unfolding canonical
low_cull vs_ids fs_ids s low = (same_prerast vs_ids s.vertex.topology s.prerast low).2

canonical_key : (vs_ids fs_ids : List ℕ) (s : State) → s.prerast.cull ≤ 3 → is_retained (key (canonical vs_ids fs_ids s)) ≡ retained_parts s
canonical_key vs_ids fs_ids s low = state_key (canonical vs_ids fs_ids s) (low_cull vs_ids fs_ids s low) ∙ canonical_parts vs_ids fs_ids s low

-- ---- libraries that link

passes : (b : Bool) (rule : Rule) (later : Option Rule) → rule_if b rule later ≡ None → (b ≡ false) × (later ≡ None)
unfolding rule_if
passes true rule later h = cc
passes false rule later h = (refl, h)

neither : (a b : Bool) → (a || b) ≡ false → (a ≡ false) × (b ≡ false)
neither true b h = cc
neither false b h = (refl, h)

once : {X : Type 0} (x y : X) (xs : List X) → is_given_twice (x ∷ y ∷ xs) ≡ false → ⊥
once x y xs h = twice (nat_lt 1 (length (x ∷ y ∷ xs))) (grind (arith, nat_tests)) h
  where
    twice : (b : Bool) → b ≡ true → b ≡ false → ⊥
    twice b yes_it no_it = cc

abbrev libs_of : List VertexPart → List PrerastLibrary → List FragmentLibrary → List OutputPart → Libraries
libs_of vs ps fs os = record { vertex = vs; prerast = ps; fragment = fs; output = os }

-- none is lacking, none stands twice, and none is there in vain
abbrev Stands : Libraries → Type 0
Stands libs = (lacks_subset libs ≡ false) × (repeats_subset libs ≡ false) × (has_unused_subset libs ≡ false)

stands : (libs : Libraries) → failed_rule libs false ≡ None → Stands libs
unfolding failed_rule failed_content_rule
stands libs h =
    let given = passes (lacks_subset libs) L1 _ h in
    let sole = passes (repeats_subset libs) L2 _ given.1 in
    (given.0, sole.0, (passes (has_unused_subset libs) L3 _ sole.1).0)

abbrev Agrees : Libraries → State → Type 0
Agrees libs s = retained_parts s ≡ not (lacks_retained libs)

not_false : (b : Bool) → b ≡ true → b ≡ false → ⊥
not_false b yes_it no_it = cc

-- one library of each of the first two subsets, and none or one of each other

none_behind : (a b d : Bool) → d ≡ true → (a && b && (d || (false && false))) ≡ not (((not a || false) || (not b || false)) || false || false)
none_behind true true d is = rw is refl
none_behind true false d is = refl
none_behind false b d is = refl

agree_none : (v : VertexPart) (p : PrerastLibrary) → p.part.discard ≡ true
    → Agrees (libs_of (v ∷ []) (p ∷ []) [] []) (record { vertex = v; prerast = p.part; fragment = None; output = None })
unfolding lacks_retained
agree_none v p is = none_behind v.retain p.part.retain p.part.discard is

all_there : (a b d f o : Bool) → d ≡ false
    → (a && b && (d || (f && o))) ≡ not (((not a || false) || (not b || false)) || (not f || false) || (not o || false))
all_there true true d true true is = rw is refl
all_there true true d true false is = rw is refl
all_there true true d false o is = rw is refl
all_there true false d f o is = refl
all_there false b d f o is = refl

agree_all : (v : VertexPart) (p : PrerastLibrary) (f : FragmentLibrary) (o : OutputPart) → p.part.discard ≡ false
    → Agrees (libs_of (v ∷ []) (p ∷ []) (f ∷ []) (o ∷ [])) (record { vertex = v; prerast = p.part; fragment = Some f.part; output = Some o })
unfolding lacks_retained
agree_all v p f o is = all_there v.retain p.part.retain p.part.discard f.part.retain o.retain is

-- what isn't lacking, repeated or in vain, by the flags

abbrev Sole : Libraries → Type 0
Sole libs = (is_given_twice libs.vertex ≡ false) × (is_given_twice libs.prerast ≡ false) × (is_given_twice libs.fragment ≡ false) × (is_given_twice libs.output ≡ false)

sole : (libs : Libraries) → repeats_subset libs ≡ false → Sole libs
unfolding repeats_subset
sole libs h =
    let last = neither _ (is_given_twice libs.output) h in
    let third = neither _ (is_given_twice libs.fragment) last.0 in
    let first = neither (is_given_twice libs.vertex) (is_given_twice libs.prerast) third.0 in
    (first.0, first.1, third.1, last.1)

same_some : (made s : State) (libs : Libraries) → Some made ≡ Some s → Agrees libs made → Agrees libs s
same_some made s libs h agree = let equal : made ≡ s = cc h in subst (Agrees libs) equal agree

-- one vertex input and one pre-rasterization library
by_rest : (v : VertexPart) (p : PrerastLibrary) (fs : List FragmentLibrary) (os : List OutputPart) → Stands (libs_of (v ∷ []) (p ∷ []) fs os)
    → Sole (libs_of (v ∷ []) (p ∷ []) fs os) → (s : State) → linked_state (libs_of (v ∷ []) (p ∷ []) fs os) ≡ Some s → Agrees (libs_of (v ∷ []) (p ∷ []) fs os) s
unfolding lacks_subset has_unused_subset
by_rest v p [] [] st one s h = same_some _ s (libs_of (v ∷ []) (p ∷ []) [] []) h (agree_none v p (discards p.part.discard st.0))
  where
    discards : (d : Bool) → ((false || false) || (not d && (true || true))) ≡ false → d ≡ true
    discards true h = refl
    discards false h = cc
by_rest v p [] (o ∷ os) st one s h = absurd (both p.part.discard st.0 st.2)
  where
    both : (d : Bool) → ((false || false) || (not d && (true || false))) ≡ false → ((d || false) && (false || true)) ≡ false → ⊥
    both true given unused = cc
    both false given unused = cc
by_rest v p (f ∷ fs) [] st one s h = absurd (both p.part.discard st.0 st.2)
  where
    both : (d : Bool) → ((false || false) || (not d && (false || true))) ≡ false → ((d || false) && (true || false)) ≡ false → ⊥
    both true given unused = cc
    both false given unused = cc
by_rest v p (f ∷ f' ∷ fs) (o ∷ os) st one s h = absurd (once f f' fs one.2)
by_rest v p (f ∷ []) (o ∷ o' ∷ os) st one s h = absurd (once o o' os one.3)
by_rest v p (f ∷ []) (o ∷ []) st one s h = same_some _ s (libs_of (v ∷ []) (p ∷ []) (f ∷ []) (o ∷ [])) h (agree_all v p f o (rasterizes p.part.discard st.2))
  where
    rasterizes : (d : Bool) → ((d || false) && (true || true)) ≡ false → d ≡ false
    rasterizes true h = cc
    rasterizes false h = refl

by_lists : (vs : List VertexPart) (ps : List PrerastLibrary) (fs : List FragmentLibrary) (os : List OutputPart) → Stands (libs_of vs ps fs os)
    → Sole (libs_of vs ps fs os) → (s : State) → linked_state (libs_of vs ps fs os) ≡ Some s → Agrees (libs_of vs ps fs os) s
by_lists [] ps fs os st one s h = cc
by_lists (v ∷ v' ∷ vs) ps fs os st one s h = absurd (once v v' vs one.0)
by_lists (v ∷ []) [] fs os st one s h = cc
by_lists (v ∷ []) (p ∷ p' ∷ ps) fs os st one s h = absurd (once p p' ps one.1)
by_lists (v ∷ []) (p ∷ []) fs os st one s h = by_rest v p fs os st one s h

-- where libraries link, their state's key tells whether they are all retained
pub retained-is : (libs : Libraries) (vs_ids fs_ids key : List ℕ) → ((s : State) → state_if_linked libs ≡ Some s → s.prerast.cull ≤ 3)
    → key_if_linked vs_ids fs_ids libs ≡ Some key → is_retained key ≡ not (lacks_retained libs)
unfolding state_if_linked key_if_linked
retained-is libs vs_ids fs_ids k low h = by_rule (failed_rule libs false) refl low h
  where
    by_state : failed_rule libs false ≡ None → (m : Option State) → linked_state libs ≡ m → ((s : State) → m ≡ Some s → s.prerast.cull ≤ 3)
        → option_map (λ s. key (canonical vs_ids fs_ids s)) m ≡ Some k → is_retained k ≡ not (lacks_retained libs)
    by_state links None is low h = cc
    by_state links (Some s) is low h =
        let standing = stands libs links in
        let equal : key (canonical vs_ids fs_ids s) ≡ k = cc h in
        ap is_retained (sym equal) ∙ canonical_key vs_ids fs_ids s (low s refl)
        ∙ by_lists libs.vertex libs.prerast libs.fragment libs.output standing (sole libs standing.1) s is

    by_rule : (rule : Option Rule) → failed_rule libs false ≡ rule → ((s : State) → elim rule [ Some rule ↦ None | None ↦ linked_state libs ] ≡ Some s → s.prerast.cull ≤ 3)
        → option_map (λ s. key (canonical vs_ids fs_ids s)) (elim rule [ Some rule ↦ None | None ↦ linked_state libs ]) ≡ Some k → is_retained k ≡ not (lacks_retained libs)
    by_rule (Some rule) is low h = cc
    by_rule None is low h = by_state is (linked_state libs) refl low h
