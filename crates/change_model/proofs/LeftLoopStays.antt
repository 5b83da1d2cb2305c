-- What is made of a sequence that begins with a loop that stays, of what is made of the loop's parts.
use Rattle.std.proofs.Common.{◌≡◌, ℕ, ◌+◌, ◌-◌, ◌<◌, ◌≤◌, ◌⊎◌, inl, inr, Bool, true, false, ◌==◌, ◌||◌, ◌&&◌, List, [], ◌∷◌, ◌++◌, slice_index, refl, ap, sym, ◌∙◌, subst, arith, Option, None, Some}
use Rattle.std.specs.List.{list_any}
use Rattle.std.proofs.lemmas.Bool.{eq-eqb}
use Rattle.spirv_model.specs.declared.module.Inst.{Inst}
use Rattle.spirv_model.specs.declared.module.Words.{Words}
use Rattle.spirv_model.specs.declared.op.TheConstants as op
use Rattle.spirv_model.specs.Operands.{word_at}
use Rattle.body_model.specs.declared.block_end.BlockEnd.TheVariants as kind
use Rattle.body_model.specs.declared.block_end.LoopHead.{LoopHead}
use Rattle.body_model.specs.declared.scope.Phis.TheVariants.{Nowhere}
use Rattle.body_model.specs.Scope.{Scope, behind_loop, condition, body, continuing}
use Rattle.body_model.specs.Switches.{is_among}
use Rattle.valid_model.specs.Definitions.{inst_at}
use Rattle.check_model.specs.Intervals.{Interval, interval, around, intervals_of}
use Rattle.check_model.specs.Validity.{IsValidList}
use Rattle.typed_model.proofs.FunctionRuns.{function_within}
use Rattle.change_model.specs.declared.fate.Fate.{Fate}
use Rattle.change_model.specs.declared.fate.Fate.TheVariants as fate
use Rattle.change_model.specs.Plans.{Plan, is_dead, leads_from}
use Rattle.change_model.specs.PlanRules.{FateFits, MayStay, IsPlan, merge_labels, stays, goes, still_names, is_test_of, is_skipped, remains, intervals_left}
use Rattle.change_model.proofs.LeftAlive.{named_alive}
use Rattle.change_model.proofs.LeftApart.{apart_test, apart_body, apart_step}
use Rattle.change_model.proofs.LeftArms.{suits_rest, free_rest, continues_rest, continues_nowhere}
use Rattle.change_model.proofs.LeftBlockNames.{inst_there}
use Rattle.change_model.proofs.LeftCases.{Knows, KeepsPhis}
use Rattle.change_model.proofs.LeftDerivations.{nowhere}
use Rattle.change_model.proofs.LeftEndings.{differ, at_one}
use Rattle.change_model.proofs.LeftGoes.{unled_both, stands_less, quiet_less}
use Rattle.change_model.proofs.LeftHeads.{fits_in}
use Rattle.change_model.proofs.LeftLasts.{Head, front_unled}
use Rattle.change_model.proofs.LeftLeads.{LeadsNowhere}
use Rattle.change_model.proofs.LeftLeads as leads
use Rattle.change_model.proofs.LeftLoopParts.{LoopAt}
use Rattle.change_model.proofs.LeftClosed.{prints_alone}
use Rattle.change_model.proofs.LeftLoops.{four_parts, leads_in, loops_made}
use Rattle.change_model.proofs.LeftNames.{label_named}
use Rattle.change_model.proofs.LeftParts.{any_right}
use Rattle.change_model.proofs.LeftPhis.{keeps_nowhere}
use Rattle.change_model.proofs.LeftPlacedWhole.{labels_once}
use Rattle.change_model.proofs.LeftRemains.{remains_so, unentered, no_test_behind, no_test_kept, left_both, left_more, remains_among}
use Rattle.change_model.proofs.LeftScopes.{is_label_at, label_at, StandsNot, has_bounds, Unled, Quiet, Onward, tested, Suits, Apart, Continues, Elsewhere, Made}
use Rattle.change_model.proofs.LeftTargets.{Stands}
use Rattle.change_model.proofs.LeftTested.{IsKnown, code_known, test_scope, code_tested, LedAt, written_tested}

or_first : (a b : Bool) → a ≡ true → (a || b) ≡ true
or_first true b is = refl
or_first false b is = cc

or_second : (a b : Bool) → b ≡ true → (a || b) ≡ true
or_second true b is = refl
or_second false b is = is

same_some : (a b : ℕ) → ◌≡◌ {A = Option ℕ} (Some a) (Some b) → a ≡ b
same_some a b same = cc

none_some : {X : Type 0} {x : X} → ◌≡◌ {A = Option X} None (Some x) → ⊥
none_some same = cc

module _ (words : Words) (v : IsValidList words) (zeros : List ℕ) (plan : Plan) (p : IsPlan words v zeros plan) (old new : Scope) (next : Option ℕ) (from to : ℕ) (head : LoopHead) (inner first second third : ℕ) (in_test in_body in_step in_rest : List Interval)
    (x : LoopAt words v plan old next from to head inner first second third in_test in_body in_step in_rest) (alive : is_dead (plan.fate from) ≡ false) (phis : KeepsPhis plan words.insts from old new)
    (goal : Option ℕ) (onward : Onward) (known_next : Knows plan words.insts old onward next goal) (suits : Suits plan words.insts from to old new onward) (apart : Apart words.insts from to new)
    (cont : Continues plan words.insts (intervals_of v.derivation) from to new goal onward) (stay : plan.fate x.o.place ≡ fate.Stays) where
  abbrev insts : List Inst
  insts = words.insts

  abbrev intervals : List Interval
  intervals = intervals_of v.derivation

  abbrev merging : ℕ
  merging = x.o.place

  low : v.derivation.before + 1 ≤ from
  low = x.placed.low

  high : to ≤ v.derivation.after
  high = x.placed.high

  behind_from : from < merging
  behind_from = let e = x.o.place_is in omega (arith, e)

  past_merging : head.after ≡ merging + 2
  past_merging = x.w.after

  within : (place : ℕ) → place < to → place < v.derivation.after
  within place less = let t = high in omega (arith, t, less)

  is_loop : (inst_at insts merging).op ≡ op.LOOP_MERGE
  is_loop = ap (λ (i : Inst). i.op) (inst_there insts old from (kind.Loops head) x.o) ∙ x.w.is

  own_word : (k : ℕ) → word_at k (inst_at insts merging) ≡ slice_index x.o.inst.words k
  own_word k = ap (λ (i : Inst). word_at k i) (inst_there insts old from (kind.Loops head) x.o)

  fits : MayStay plan insts merging
  fits =
      let b = behind_from in
      let l = low in
      let a = past_merging in
      let t = x.past_test in
      let q = x.past_body in
      let r = x.past_step in
      let f = x.past_rest in
      subst (FateFits plan insts intervals zeros merging) stay (fits_in words v zeros plan p merging (omega (arith, b, l)) (within merging (omega (arith, a, t, q, r, f))))

  tests_stay : (label place : ℕ) → head.merge ≡ label → is_test_of insts label place ≡ true → goes (plan.fate place) ≡ false
  tests_stay label place same test = fits.loop is_loop place (ap (λ (n : ℕ). is_test_of insts n place) (own_word 0 ∙ x.w.merge ∙ same) ∙ test)

  -- ---- what is alive

  alive_at : (place at : ℕ) → from < place → place < to → is_label_at insts place ≡ true → still_names plan insts (label_at insts place) at ≡ true → is_dead (plan.fate place) ≡ false
  alive_at place at behind before is still = let l = low in named_alive words v zeros plan p place at (omega (arith, behind, l)) (within place before) is still

  -- the merge instruction names the merge block and the continue sequence
  merge_names : (k label : ℕ) → is_among label (word_at 0 (inst_at insts merging) ∷ word_at 1 (inst_at insts merging) ∷ []) ≡ true → still_names plan insts label merging ≡ true
  merge_names k label among =
      or_second (leads_from plan insts label merging) (stays (plan.fate merging) && is_among label (merge_labels (inst_at insts merging)))
      (ap (λ (what : Fate). stays what && is_among label (merge_labels (inst_at insts merging))) stay ∙ by_op (inst_at insts merging) is_loop among)
    where
      by_op : (inst : Inst) → inst.op ≡ op.LOOP_MERGE → is_among label (word_at 0 inst ∷ word_at 1 inst ∷ []) ≡ true → is_among label (merge_labels inst) ≡ true
      by_op inst is among = rw is among

  alive_rest : is_dead (plan.fate third) ≡ false
  alive_rest =
      let h' = x.past_header in
      let t = x.past_test in
      let q = x.past_body in
      let r = x.past_step in
      alive_at third merging (omega (arith, h', t, q, r)) x.past_rest x.at_merge.is_label
      (merge_names 0 (label_at insts third)
      (or_first (word_at 0 (inst_at insts merging) == label_at insts third) (is_among (label_at insts third) (word_at 1 (inst_at insts merging) ∷ [])) (eq-eqb (word_at 0 (inst_at insts merging)) (label_at insts third) (own_word 0 ∙ x.w.merge ∙ sym x.at_merge.own))))

  alive_step : is_dead (plan.fate second) ≡ false
  alive_step =
      let h' = x.past_header in
      let t = x.past_test in
      let q = x.past_body in
      let r = x.past_step in
      let f = x.past_rest in
      alive_at second merging (omega (arith, h', t, q)) (omega (arith, r, f)) x.at_next.is_label
      (merge_names 1 (label_at insts second)
      (or_second (word_at 0 (inst_at insts merging) == label_at insts second) (is_among (label_at insts second) (word_at 1 (inst_at insts merging) ∷ []))
      (or_first (word_at 1 (inst_at insts merging) == label_at insts second) false (eq-eqb (word_at 1 (inst_at insts merging)) (label_at insts second) (own_word 1 ∙ x.w.next ∙ sym x.at_next.own)))))

  -- ---- the block

  past_all : merging + 1 < to
  past_all =
      let a = past_merging in
      let t = x.past_test in
      let q = x.past_body in
      let r = x.past_step in
      let f = x.past_rest in
      omega (arith, a, t, q, r, f)

  abbrev h : Head words v plan old new from (kind.Loops head)
  h = record { o = x.o; low = low; high = let a = past_all in within merging (omega (arith, a)); alive = alive; first = suits.first; phis = phis (kind.Loops head) x.o }

  m_high : merging + 1 < v.derivation.after
  m_high = within (merging + 1) past_all

  free : is_among head.test new.barred ≡ false
  free = suits.barred head.test x.w.free

  named : (place label : ℕ) → place < to → Stands insts label place → plan.name label ≡ label
  named place label less s = subst (λ (n : ℕ). plan.name n ≡ n) s.own (label_named words v zeros plan p place (function_within insts v.derivation place (within place less)) s.is_label)

  named_merge : plan.name head.merge ≡ head.merge
  named_merge = named third head.merge x.past_rest x.at_merge

  named_next : plan.name head.next ≡ head.next
  named_next = let r = x.past_step in let f = x.past_rest in named second head.next (omega (arith, r, f)) x.at_next

  leads_to : (label : ℕ) → leads_from plan insts label (merging + 1) ≡ (head.test == label)
  leads_to = leads_in words v zeros plan p old new from head h x.w m_high stay (suits.may_loop x.w.may) suits.depth free named_merge named_next

  -- ---- the condition sequence

  alive_test : is_dead (plan.fate head.after) ≡ false
  alive_test =
      let t = x.past_test in
      let q = x.past_body in
      let r = x.past_step in
      let f = x.past_rest in
      alive_at head.after (merging + 1) x.past_header (omega (arith, t, q, r, f)) x.at_test.is_label
      (or_first (leads_from plan insts (label_at insts head.after) (merging + 1)) (stays (plan.fate (merging + 1)) && is_among (label_at insts head.after) (merge_labels (inst_at insts (merging + 1))))
      (leads_to (label_at insts head.after) ∙ eq-eqb head.test (label_at insts head.after) (sym x.at_test.own)))

  another : (place other label : ℕ) → is_label_at insts place ≡ true → Stands insts label other → (place ≡ other → ⊥) → ◌≡◌ {A = Option ℕ} (Some label) (Some (label_at insts place)) → ⊥
  another place other label is s isnt same = isnt (labels_once words v place other is s.is_label (sym (s.own ∙ same_some label (label_at insts place) same)))

  suits_test : Suits plan insts head.after first (condition old head.merge) (condition new head.merge) nowhere
  suits_test = record {
    first = λ is. cc;
    merge = λ label is. absurd (none_some is);
    leave = λ label is. absurd (none_some is);
    exits = λ exits is. absurd (none_some is);
    header = λ label is. absurd (none_some is);
    test = λ label is. tested is (λ place test. tests_stay label place (same_some head.merge label is) test);
    may_loop = λ is. cc;
    may_end = λ is. cc;
    depth = let d = suits.depth in omega (arith, d);
    barred = suits.barred;
  }

  c : Made plan insts intervals (condition new head.merge) (Some inner) nowhere head.after first in_test
  c =
      let h' = x.past_header in
      let q = x.past_body in
      let r = x.past_step in
      let f = x.past_rest in
      x.makes_test alive_test (condition new head.merge) (Some inner) nowhere (inr (inl refl)) (x.phis_test (condition new head.merge) refl) suits_test
      (apart_test insts v.derivation old new from to head.after first (omega (arith, h')) (omega (arith, q, r, f)) apart in_test head.merge)
      (continues_nowhere plan insts intervals head.after first (condition new head.merge) (Some inner)
      (λ place behind before is. (another place third head.merge is x.at_merge (λ same. omega (arith, same, before, q, r)), another place first inner is x.at_inner (λ same. omega (arith, same, before)))))

  known : c.fits.next ≡ Some inner
  known = by_next c.fits.next c.fits.next_is (code_known c.fits.fits (test_scope new head.merge))
    where
      by_next : (next : Option ℕ) → (next ≡ None) ⊎ (next ≡ Some inner) → IsKnown next → next ≡ Some inner
      by_next next (inr is) k = is
      by_next next (inl none) k = absurd (none_some (sym none ∙ k.1))

  -- it leads to the body
  led : LedAt plan insts head.after first inner
  led =
      let h' = x.past_header in
      let l = low in
      let t = high in
      let p' = x.past_test in
      let q = x.past_body in
      let r = x.past_step in
      let f = x.past_rest in
      written_tested words v zeros plan p inner head.after first (omega (arith, p')) (omega (arith, h', l)) (omega (arith, t, q, r, f))
      (ap (list_any _) (sym (prints_alone plan insts intervals (condition new head.merge) (Some inner) head.after first in_test c)) ∙ code_tested inner c.fits.fits known)

  alive_body : is_dead (plan.fate first) ≡ false
  alive_body =
      let h' = x.past_header in
      let t = x.past_test in
      let q = x.past_body in
      let r = x.past_step in
      let f = x.past_rest in
      let l = led in
      alive_at first l.at (omega (arith, h', t)) (omega (arith, q, r, f)) x.at_inner.is_label
      (or_first (leads_from plan insts (label_at insts first) l.at) (stays (plan.fate l.at) && is_among (label_at insts first) (merge_labels (inst_at insts l.at)))
      (ap (λ (n : ℕ). leads_from plan insts n l.at) x.at_inner.own ∙ l.leads))

  -- ---- the body and the continue sequence

  suits_body : Suits plan insts first second (body old head.merge head.next) (body new head.merge head.next) nowhere
  suits_body = record {
    first = λ is. cc;
    merge = λ label is. absurd (none_some is);
    leave = λ label is. absurd (none_some is);
    exits = λ exits is. is;
    header = λ label is. absurd (none_some is);
    test = λ label is. absurd (none_some is);
    may_loop = suits.may_loop;
    may_end = suits.may_end;
    depth = let d = suits.depth in omega (arith, d);
    barred = suits.barred;
  }

  b : Made plan insts intervals (body new head.merge head.next) None nowhere first second in_body
  b =
      let h' = x.past_header in
      let t = x.past_test in
      let r = x.past_step in
      let f = x.past_rest in
      x.makes_body alive_body (body new head.merge head.next) None nowhere (inl refl) (keeps_nowhere plan insts first (body old head.merge head.next) (body new head.merge head.next) refl) suits_body
      (apart_body insts v.derivation old new from to first second (omega (arith, h', t)) (omega (arith, r, f)) apart in_body head.merge head.next x.placed_body)
      (continues_nowhere plan insts intervals first second (body new head.merge head.next) None (λ place behind before is. (λ same. none_some same, λ same. none_some same)))

  suits_step : Suits plan insts second third (continuing old head.header) (continuing new head.header) nowhere
  suits_step = record {
    first = λ is. cc;
    merge = λ label is. absurd (none_some is);
    leave = λ label is. absurd (none_some is);
    exits = λ exits is. absurd (none_some is);
    header = λ label is. is;
    test = λ label is. absurd (none_some is);
    may_loop = suits.may_loop;
    may_end = λ is. cc;
    depth = let d = suits.depth in omega (arith, d);
    barred = suits.barred;
  }

  s : Made plan insts intervals (continuing new head.header) None nowhere second third in_step
  s =
      let h' = x.past_header in
      let t = x.past_test in
      let q = x.past_body in
      let f = x.past_rest in
      x.makes_step alive_step (continuing new head.header) None nowhere (inl refl) (keeps_nowhere plan insts second (continuing old head.header) (continuing new head.header) refl) suits_step
      (apart_step insts v.derivation old new from to second third (omega (arith, h', t, q)) (omega (arith, f)) apart in_step head.header x.placed_step)
      (continues_nowhere plan insts intervals second third (continuing new head.header) None (λ place behind before is. (λ same. none_some same, λ same. none_some same)))

  -- ---- what stands behind

  behind_third : from < third
  behind_third = let h' = x.past_header in let t = x.past_test in let q = x.past_body in let r = x.past_step in omega (arith, h', t, q, r)

  r : Made plan insts intervals (behind_loop new) goal onward third to in_rest
  r =
      let l = behind_third in
      x.makes_rest alive_rest (behind_loop new) goal onward known_next (keeps_nowhere plan insts third (behind_loop old) (behind_loop new) refl) (suits_rest plan insts from third to old new onward Nowhere Nowhere (omega (arith, l)) suits)
      (λ place after before is. free_rest new (label_at insts place) Nowhere (apart place (omega (arith, l, after)) before is)) (continues_rest plan insts intervals from third to new goal onward Nowhere (omega (arith, l)) cont)

  -- ---- intervals

  abbrev all : List Interval
  all = around head.after first in_test ++ (around first second in_body ++ (around second third in_step ++ in_rest))

  remains_test : remains plan insts (interval head.after first) ≡ true
  remains_test =
      let a = past_merging in
      let same : head.after - 2 ≡ merging = omega (arith, a) in
      remains_so plan insts head.after first alive_test (unentered words v zeros plan p head.after x.branch_test) (no_test_kept plan insts head.after first (ap (λ (n : ℕ). is_skipped (plan.fate n)) same ∙ ap is_skipped stay))

  remains_body : remains plan insts (interval first second) ≡ true
  remains_body = remains_so plan insts first second alive_body (unentered words v zeros plan p first x.branch_body) (no_test_behind plan insts first second x.before_body)

  remains_step : remains plan insts (interval second third) ≡ true
  remains_step = remains_so plan insts second third alive_step (unentered words v zeros plan p second x.branch_step) (no_test_behind plan insts second third x.before_step)

  abbrev left : List Interval → List Interval
  left = intervals_left plan insts

  left_all : left all ≡ four_parts head.after first second third (left in_test) (left in_body) (left in_step) (left in_rest)
  left_all =
      left_both plan insts (around head.after first in_test) (around first second in_body ++ (around second third in_step ++ in_rest))
      ∙ ap (λ (l : List Interval). l ++ left (around first second in_body ++ (around second third in_step ++ in_rest))) (left_more plan insts (interval head.after first) in_test remains_test)
      ∙ ap (λ (l : List Interval). around head.after first (left in_test) ++ l)
      (left_both plan insts (around first second in_body) (around second third in_step ++ in_rest)
      ∙ ap (λ (l : List Interval). l ++ left (around second third in_step ++ in_rest)) (left_more plan insts (interval first second) in_body remains_body)
      ∙ ap (λ (l : List Interval). around first second (left in_body) ++ l)
      (left_both plan insts (around second third in_step) in_rest ∙ ap (λ (l : List Interval). l ++ left in_rest) (left_more plan insts (interval second third) in_step remains_step)))

  -- ---- where it leads

  -- an interval that remains and stands first of these
  abbrev is_left_at : ℕ → ℕ → Interval → Bool
  is_left_at low high i = remains plan insts i && has_bounds low high i

  member : (low high : ℕ) (mine more : List Interval) → remains plan insts (interval low high) ≡ true → list_any (is_left_at low high) (around low high mine ++ more) ≡ true
  member low high mine more own = rw own (rw (eq-eqb low low refl) (rw (eq-eqb high high refl) refl))

  part_unled : (low high other : ℕ) → from < low → high ≤ to → Quiet plan insts intervals from to other → list_any (is_left_at low high) all ≡ true → Unled plan insts low high other
  part_unled low high other behind most quiet is = quiet low high behind most (remains_among plan insts intervals all x.placed.intervals low high is)

  test_unled : (other : ℕ) → Quiet plan insts intervals from to other → Unled plan insts head.after first other
  test_unled other quiet =
      let q = x.past_body in
      let r' = x.past_step in
      let f = x.past_rest in
      part_unled head.after first other x.past_header (omega (arith, q, r', f)) quiet (member head.after first in_test (around first second in_body ++ (around second third in_step ++ in_rest)) remains_test)

  body_unled : (other : ℕ) → Quiet plan insts intervals from to other → Unled plan insts first second other
  body_unled other quiet =
      let h' = x.past_header in
      let t = x.past_test in
      let r' = x.past_step in
      let f = x.past_rest in
      part_unled first second other (omega (arith, h', t)) (omega (arith, r', f)) quiet
      (any_right (is_left_at first second) (around head.after first in_test) (around first second in_body ++ (around second third in_step ++ in_rest)) (member first second in_body (around second third in_step ++ in_rest) remains_body))

  step_unled : (other : ℕ) → Quiet plan insts intervals from to other → Unled plan insts second third other
  step_unled other quiet =
      let h' = x.past_header in
      let t = x.past_test in
      let q = x.past_body in
      let f = x.past_rest in
      part_unled second third other (omega (arith, h', t, q)) (omega (arith, f)) quiet
      (any_right (is_left_at second third) (around head.after first in_test) (around first second in_body ++ (around second third in_step ++ in_rest))
      (any_right (is_left_at second third) (around first second in_body) (around second third in_step ++ in_rest) (member second third in_step in_rest remains_step)))

  silent : LeadsNowhere (inst_at insts merging).op
  silent = subst LeadsNowhere (sym is_loop) (record { no_branch = refl; no_choice = refl; no_switch = refl })

  only : (other : ℕ) → StandsNot insts from to other → Quiet plan insts intervals from to other → Elsewhere new goal r.end other → Unled plan insts from to other
  only other none quiet differs =
      let b' = behind_from in
      let l = low in
      let l' = behind_third in
      let a = past_merging in
      let t = x.past_test in
      let q = x.past_body in
      let r' = x.past_step in
      let f = x.past_rest in
      let one : merging + 2 ≡ merging + 1 + 1 = omega arith in
      let isnt : head.test ≡ other → ⊥ = λ same. none head.after (let h' = x.past_header in omega (arith, h')) (omega (arith, t, q, r', f)) x.at_test.is_label (x.at_test.own ∙ same) in
      unled_both plan insts from merging to other (front_unled words v zeros plan p old new from (kind.Loops head) h other)
      (unled_both plan insts merging (merging + 1) to other (at_one plan insts merging other (leads.nowhere plan insts intervals zeros merging (fits_in words v zeros plan p merging (omega (arith, b', l)) (let m = past_all in within merging (omega (arith, m)))) silent other))
      (unled_both plan insts (merging + 1) head.after to other
      (subst (λ (n : ℕ). Unled plan insts (merging + 1) n other) (sym (a ∙ one)) (at_one plan insts (merging + 1) other (leads_to other ∙ differ head.test other isnt)))
      (unled_both plan insts head.after first to other (test_unled other quiet)
      (unled_both plan insts first second to other (body_unled other quiet)
      (unled_both plan insts second third to other (step_unled other quiet)
      (r.only other (stands_less insts from third to to other (omega (arith, l')) (omega arith) none) (quiet_less plan insts intervals from third to to other (omega (arith, l')) (omega arith) quiet) differs))))))

  pub loop_stays : Made plan insts intervals new goal onward from to all
  loop_stays =
      let t = x.past_test in
      let q = x.past_body in
      let r' = x.past_step in
      let f = x.past_rest in
      loops_made words v zeros plan p old new from head h x.w m_high stay (suits.may_loop x.w.may) suits.depth free named_merge named_next inner first second third to goal onward all in_test in_body in_step in_rest
      (omega (arith, t)) (omega (arith, q)) (omega (arith, r')) (omega (arith, f)) x.at_test.own x.at_inner.own x.at_next.own x.at_merge.own left_all c known b s r only
