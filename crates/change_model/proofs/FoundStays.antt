-- A phi that stays may: its block is the header of a loop that stays, or the merge block of a selection or an OpSwitch that does.
use Rattle.std.proofs.Common.{◌≡◌, ℕ, ◌-◌, ◌<◌, ◌==◌, ◌||◌, ◌&&◌, inl, inr, Bool, true, false, not, nat_lt, if◌then◌else◌, List, [], ◌∷◌, length, map, refl, ap, sym, ◌∙◌, arith}
use Rattle.std.specs.Prelude.{filter}
use Rattle.std.proofs.lemmas.Bool.{eqb-true, eq-eqb, lt-ltb, ltb-true}
use Rattle.std.proofs.lemmas.Option.{slice_get-get_or}
use Rattle.spirv_model.specs.declared.module.Inst.{Inst}
use Rattle.spirv_model.specs.declared.op.TheConstants as op
use Rattle.spirv_model.specs.Operands.{word_at}
use Rattle.body_model.specs.Switches.{is_among, repeat}
use Rattle.body_model.specs.Targets.{targets}
use Rattle.valid_model.specs.Definitions.{inst_at, no_instruction}
use Rattle.valid_model.specs.Meanings.{meaning}
use Rattle.check_model.specs.Intervals.{intervals_of}
use Rattle.check_model.specs.Visibility.{Incoming, incoming}
use Rattle.typed_model.proofs.FunctionRuns.{function_within}
use Rattle.typed_model.proofs.LabelsBefore.{one_end, ends_in_function}
use Rattle.change_model.specs.declared.fate.Fate.TheVariants as fate
use Rattle.change_model.specs.Plans.{is_dead, leads_from, block_at}
use Rattle.change_model.specs.PlanRules.{is_shape, stays, lets_phis, may_keep_phis}
use Rattle.change_model.specs.Passes.{is_left_loop, is_header_merge, heads_loop, keeps_merge, keeps_phis, is_pair_left, pairs_found, stands_at, phi_fate_of}
use Rattle.change_model.proofs.FoundBack.{header_own, header_life}
use Rattle.change_model.proofs.FoundEntered.{some_leads, one_leads, leads_before}
use Rattle.change_model.proofs.FoundGoes.{still_leads}
use Rattle.change_model.proofs.FoundHeld.{loop_within, loop_at}
use Rattle.change_model.proofs.FoundMerges.{place_of}
use Rattle.change_model.proofs.FoundOrigins.{dead_fate, alive_fate, alive_phi, alive_loop}
use Rattle.change_model.proofs.FoundPairs.{PairEnd, pair_end, pair_left, pairs_once, leading_pair}
use Rattle.change_model.proofs.FoundPhis.{phi_block, phi_own, phi_life}
use Rattle.change_model.proofs.FoundPlans.{Found}
use Rattle.change_model.proofs.LeftChosen.{any_of_range}
use Rattle.change_model.proofs.LeftLeaves.{named_terminator}
use Rattle.change_model.proofs.LeftPlaced.{due_label}
use Rattle.change_model.proofs.LeftPlacedWhole.{labels_once}
use Rattle.change_model.proofs.LeftScopes.{is_label_at, label_at}
use Rattle.change_model.proofs.PhiPairsLeft.{In, in_blocks}

clash : {Q : Type 0} (b : Bool) → b ≡ true → b ≡ false → Q
clash true is isnt = cc
clash false is isnt = cc

refuted : (b : Bool) → (b ≡ true → ⊥) → b ≡ false
refuted true isnt = absurd (isnt refl)
refuted false isnt = refl

-- ---- one of a list passes a test

either_none : (a b : Bool) → (a || b) ≡ false → (a ≡ false) × (b ≡ false)
either_none true b none = cc
either_none false b none = (refl, none)

none_kept : (test : Incoming → Bool) (pairs : List Incoming) → ((pair : Incoming) → In pair pairs → test pair ≡ false) → filter test pairs ≡ []
none_kept test [] fails = refl
none_kept test (pair ∷ pairs) fails = ap (λ (b : Bool). if b then pair ∷ filter test pairs else filter test pairs) (fails pair (inl refl)) ∙ none_kept test pairs (λ other has. fails other (inr has))

-- some pair passes, and those that do have one block, which no two have
one_kept : (test : Incoming → Bool) (pairs : List Incoming) → repeat (map (λ (p : Incoming). p.block) pairs) ≡ false → ((pair other : Incoming) → In pair pairs → In other pairs → test pair ≡ true → test other ≡ true → pair.block ≡ other.block)
    → (some : Incoming) → In some pairs → test some ≡ true → (pair : Incoming) × (filter test pairs ≡ pair ∷ [])
one_kept test [] once same some has passes = absurd has
one_kept test (pair ∷ pairs) once same some has passes = by_test (test pair) refl has (λ more. one_kept test pairs parts.1 (λ a b in_a in_b. same a b (inr in_a) (inr in_b)) some more passes)
  where
    parts : (is_among pair.block (map (λ (p : Incoming). p.block) pairs) ≡ false) × (repeat (map (λ (p : Incoming). p.block) pairs) ≡ false)
    parts = either_none (is_among pair.block (map (λ (p : Incoming). p.block) pairs)) (repeat (map (λ (p : Incoming). p.block) pairs)) once

    by_test : (b : Bool) → test pair ≡ b → In some (pair ∷ pairs) → (In some pairs → (one : Incoming) × (filter test pairs ≡ one ∷ [])) → (one : Incoming) × ((if b then pair ∷ filter test pairs else filter test pairs) ≡ one ∷ [])
    by_test true first has more = (
      pair,
      ap (λ (rest : List Incoming). pair ∷ rest) (none_kept test pairs (λ other in_other. refuted (test other) (λ also.
          clash (is_among pair.block (map (λ (p : Incoming). p.block) pairs))
          (ap (λ (n : ℕ). is_among n (map (λ (p : Incoming). p.block) pairs)) (same pair other (inl refl) (inr in_other) first also) ∙ in_blocks other pairs in_other) parts.0))),
    )
    by_test false first (inl own) more = clash (test some) passes (ap test (sym own) ∙ first)
    by_test false first (inr has) more = more has

module _ (f : Found) (place : ℕ) (low : f.valid.derivation.before < place) (high : place < f.valid.derivation.after) (is : (inst_at f.words.insts place).op ≡ op.PHI) where
  abbrev insts : List Inst
  insts = f.words.insts

  abbrev label : ℕ
  label = block_at f.words.insts place

  no_label : is_label_at insts place ≡ false
  no_label = ap (λ (n : ℕ). n == op.LABEL) is

  -- ---- where nothing else lets it stay, one pair is found

  module _ (alive : is_dead (f.plan.fate place) ≡ false) (none : keeps_phis f.plan insts place ≡ false) where
    left_by : (pair : Incoming) (e : PairEnd f place low high is pair) → is_pair_left f.plan insts place pair ≡ true → (e.end < (phi_block f place low high is).at) × (leads_from f.plan insts label e.end ≡ true)
    left_by pair e passes = by_tests (nat_lt e.end place) (leads_from f.plan insts label e.end) refl refl (sym (pair_left f place low high is pair e) ∙ passes)
      where
        by_tests : (a b : Bool) → nat_lt e.end place ≡ a → leads_from f.plan insts label e.end ≡ b → (a && b) ≡ true → (e.end < (phi_block f place low high is).at) × (leads_from f.plan insts label e.end ≡ true)
        by_tests true true first second both = (leads_before f place low high is alive none e.end (ltb-true e.end place first) second, second)
        by_tests true false first second both = cc
        by_tests false b first second both = cc

    own_leads : (from : ℕ) → leads_from f.plan insts label from ≡ true → leads_from f.plan insts (label_at insts (phi_block f place low high is).at) from ≡ true
    own_leads from leads = ap (λ (n : ℕ). leads_from f.plan insts n from) (sym (phi_own f place low high is)) ∙ leads

    same_block : (pair other : Incoming) → In pair (incoming (inst_at insts place)) → In other (incoming (inst_at insts place)) → is_pair_left f.plan insts place pair ≡ true → is_pair_left f.plan insts place other ≡ true → pair.block ≡ other.block
    same_block pair other has also passes passes' =
        let e = pair_end f place low high is pair has in
        let e' = pair_end f place low high is other also in
        let l = left_by pair e passes in
        let l' = left_by other e' passes' in
        sym e.own ∙ ap (block_at insts) (one_leads f place low high is alive none e.end e'.end l.0 l'.0 (own_leads e.end l.1) (own_leads e'.end l'.1)) ∙ e'.own

    one_pair : (pair : Incoming) × (pairs_found f.plan insts place ≡ pair ∷ [])
    unfolding pairs_found
    one_pair =
        let s = some_leads f place low high is alive none in
        let b = (phi_block f place low high is).behind in
        let before = s.before in
        let less : s.from < place = omega (arith, b, before) in
        let leads = ap (λ (n : ℕ). leads_from f.plan insts n s.from) (phi_own f place low high is) ∙ s.leads in
        let p = leading_pair f place low high is s.from less (still_leads f s.from label leads) in
        let e = pair_end f place low high is p.pair p.has in
        one_kept (is_pair_left f.plan insts place) (incoming (inst_at insts place)) (pairs_once f place low high is) same_block p.pair p.has
        (pair_left f place low high is p.pair e ∙ passes e.end (same_end p.pair e s.from less (still_leads f s.from label leads) (e.own ∙ p.own)) (lt-ltb s.from place less) leads)
      where
        passes : (end : ℕ) {from : ℕ} → end ≡ from → nat_lt from place ≡ true → leads_from f.plan insts label from ≡ true → (nat_lt end place && leads_from f.plan insts label end) ≡ true
        passes end {from} same first second = ap (λ (n : ℕ). nat_lt n place && leads_from f.plan insts label n) same ∙ (rw first second)

        same_end : (pair : Incoming) (e : PairEnd f place low high is pair) (from : ℕ) → from < place → is_among label (targets (inst_at insts from)) ≡ true → block_at insts e.end ≡ block_at insts from → e.end ≡ from
        same_end pair e from less among same =
            let w = function_within insts f.valid.derivation place high in
            let ends = named_terminator (inst_at insts from) label among in
            let i = ends_in_function f.words f.valid.derivation from (inst_at insts from) (slice_get-get_or insts from no_instruction (omega (arith, w, less))) ends in
            let j = ends_in_function f.words f.valid.derivation e.end (inst_at insts e.end) (slice_get-get_or insts e.end no_instruction e.within) e.ends in
            one_end f.words f.valid e.end from j.0 j.1 i.0 i.1 e.ends ends same

  -- ---- what lets it stay

  abbrev May : Type 0
  May = may_keep_phis f.plan insts label ≡ true

  lets : (at : ℕ) → at < f.valid.derivation.after → lets_phis f.plan insts label at ≡ true → May
  lets at less may = let w = function_within insts f.valid.derivation at less in any_of_range (lets_phis f.plan insts label) (length insts) 0 at (omega arith) (omega (arith, w)) may

  by_merge : keeps_phis f.plan insts place ≡ true → May
  by_merge keeps =
      let p = place_of (keeps_merge f.plan insts label) place 0 keeps in
      let h = p.high in
      lets p.at (omega (arith, h, high))
      (first_of (stays (f.plan.fate p.at)) ((inst_at insts p.at).op == op.SELECTION_MERGE) (word_at 0 (inst_at insts p.at) == label) (((inst_at insts p.at).op == op.LOOP_MERGE) && (block_at insts p.at == label)) p.is)
    where
      first_of : (a b c e : Bool) → (a && b && c) ≡ true → (a && (b && c || e)) ≡ true
      first_of true true true e all = refl
      first_of true true false e all = cc
      first_of true false c e all = cc
      first_of false b c e all = cc

  -- the OpLoopMerge at a place is that of its block
  record Heads (at : ℕ) : Type 0 where
    loop : (inst_at insts at).op ≡ op.LOOP_MERGE
    own : block_at insts at ≡ label
    stays_loop : is_left_loop insts (word_at 0 (inst_at insts at)) ≡ false

  heads_by : (at : ℕ) → is_header_merge insts label at ≡ true → Heads at
  heads_by at is = by_tests ((inst_at insts at).op == op.LOOP_MERGE) (block_at insts at == label) (is_left_loop insts (word_at 0 (inst_at insts at))) refl refl refl is
    where
      by_tests : (a b c : Bool) → (inst_at insts at).op == op.LOOP_MERGE ≡ a → block_at insts at == label ≡ b → is_left_loop insts (word_at 0 (inst_at insts at)) ≡ c → (a && b && not c) ≡ true → Heads at
      by_tests true true false p q r all = record { loop = eqb-true (inst_at insts at).op op.LOOP_MERGE p; own = eqb-true (block_at insts at) label q; stays_loop = r }
      by_tests true true true p q r all = cc
      by_tests true false c p q r all = cc
      by_tests false b c p q r all = cc

  module _ (stay : f.plan.fate place ≡ fate.Stays) where
    alive : is_dead (f.plan.fate place) ≡ false
    alive = ap is_dead stay

    loop_alive : (at : ℕ) → Heads at → is_dead (f.plan.fate at) ≡ false
    loop_alive at h =
        let l = loop_at f at h.loop in
        let b = phi_block f place low high is in
        let same : l.from ≡ b.at = labels_once f.words f.valid l.from b.at (due_label insts l.wanted l.from l.here) b.is_label (sym (header_own f at l) ∙ h.own ∙ phi_own f place low high is) in
        header_life f at l ∙ ap (λ (n : ℕ). is_dead (f.plan.fate n)) same ∙ sym (phi_life f place low high is) ∙ alive

    loop_stays : (at : ℕ) → Heads at → f.plan.fate at ≡ fate.Stays
    loop_stays at h = by_block (is_dead (f.plan.fate (at - 1))) refl
      where
        not_label : is_label_at insts at ≡ false
        not_label = ap (λ (n : ℕ). n == op.LABEL) h.loop

        shut : (a b : Bool) → b ≡ false → (if a && b then fate.Skips else fate.Stays) ≡ fate.Stays
        shut true b isnt = rw isnt refl
        shut false b isnt = refl

        by_block : (b : Bool) → is_dead (f.plan.fate (at - 1)) ≡ b → f.plan.fate at ≡ fate.Stays
        by_block true dead = let w = loop_within f at h.loop in let l = w.low in clash (is_dead (f.plan.fate at)) (ap is_dead (dead_fate f at (omega (arith, l)) w.high not_label dead)) (loop_alive at h)
        by_block false living =
            let w = loop_within f at h.loop in
            let l = w.low in
            alive_fate f at (omega (arith, l)) w.high not_label living ∙ alive_loop f at h.loop ∙ shut ((inst_at insts at).op == op.LOOP_MERGE) (is_left_loop insts (word_at 0 (inst_at insts at))) h.stays_loop

    by_header : heads_loop insts label ≡ true → May
    unfolding heads_loop
    by_header heads =
        let p = place_of (is_header_merge insts label) (length insts) 0 heads in
        let h = heads_by p.at p.is in
        lets p.at (loop_within f p.at h.loop).high
        (second_of (stays (f.plan.fate p.at)) (((inst_at insts p.at).op == op.SELECTION_MERGE) && (word_at 0 (inst_at insts p.at) == label)) ((inst_at insts p.at).op == op.LOOP_MERGE) (block_at insts p.at == label)
        (ap stays (loop_stays p.at h)) (eq-eqb (inst_at insts p.at).op op.LOOP_MERGE h.loop) (eq-eqb (block_at insts p.at) label h.own))
      where
        second_of : (a e b c : Bool) → a ≡ true → b ≡ true → c ≡ true → (a && (e || b && c)) ≡ true
        second_of a true b c first second third = rw first refl
        second_of a false b c first second third = rw first (rw second third)

    dead_stays : {Q : Type 0} → fate.Dead ≡ fate.Stays → Q
    dead_stays same = cc

    never_stays : (shape heads keeps stand : Bool) → (if not shape then fate.Unused else if heads then fate.Stays else if keeps && not stand then fate.Stays else fate.Resolves) ≡ fate.Stays → heads ≡ false → keeps ≡ false → ⊥
    never_stays true false false stand same no_heads no_keeps = cc
    never_stays false heads keeps stand same no_heads no_keeps = cc
    never_stays true true keeps stand same no_heads no_keeps = cc
    never_stays true false true stand same no_heads no_keeps = cc

    -- with one pair it would go
    goes_with : heads_loop insts label ≡ false → keeps_phis f.plan insts place ≡ false → ((pair : Incoming) × (pairs_found f.plan insts place ≡ pair ∷ [])) → May
    goes_with no_heads no_keeps one = by_block (is_dead (f.plan.fate (place - 1))) refl
      where
        by_block : (b : Bool) → is_dead (f.plan.fate (place - 1)) ≡ b → May
        by_block true dead = dead_stays (sym (dead_fate f place low high no_label dead) ∙ stay)
        by_block false living =
            absurd (never_stays (is_shape (meaning insts (word_at 0 (inst_at insts place)))) (heads_loop insts label) (keeps_phis f.plan insts place)
            (stands_at (intervals_of f.valid.derivation) insts f.plan place one.0.value)
            (sym (alive_fate f place low high no_label living ∙ alive_phi f place is
            ∙ ap (λ (pairs : List Incoming). if not (is_shape (meaning insts (word_at 0 (inst_at insts place)))) then fate.Unused else if heads_loop insts label then fate.Stays else phi_fate_of (intervals_of f.valid.derivation) insts f.plan place pairs) one.1)
            ∙ stay) no_heads no_keeps)

    by_tests : (a b : Bool) → keeps_phis f.plan insts place ≡ a → heads_loop insts label ≡ b → May
    by_tests true b keeps heads = by_merge keeps
    by_tests false true keeps heads = by_header heads
    by_tests false false keeps heads = goes_with heads keeps (one_pair alive keeps)

    pub phi_stays : may_keep_phis f.plan insts (block_at insts place) ≡ true
    phi_stays = by_tests (keeps_phis f.plan insts place) (heads_loop insts label) refl refl
