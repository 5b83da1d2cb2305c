-- Where branches stay as they are: in the condition sequence of a loop that is left at once, up to the branch that leaves it.
use Rattle.std.specs.List.{list_any, range_with_len}
use Rattle.std.proofs.Common.{◌≡◌, ℕ, zero, suc, ◌+◌, ◌<◌, ◌≤◌, inl, inr, Bool, true, false, ◌==◌, ◌||◌, ◌&&◌, if◌then◌else◌, List, length, refl, ap, sym, ◌∙◌, subst, arith, Option, None, Some}
use Rattle.std.proofs.lemmas.Bool.{cases_lt, eqb-true}
use Rattle.spirv_model.specs.declared.module.Inst.{Inst}
use Rattle.spirv_model.specs.declared.op.TheConstants as op
use Rattle.spirv_model.specs.Operands.{word_at}
use Rattle.valid_model.specs.Definitions.{inst_at}
use Rattle.change_model.specs.PlanRules.{is_test_of}
use Rattle.change_model.specs.Passes.{is_label, leaving_to, is_left_loop, opens, next_held, held_at}
use Rattle.change_model.proofs.FoundPlans.{Found}
use Rattle.change_model.proofs.FoundGoes.{leaves_to, leaves_only}
use Rattle.change_model.proofs.LeftAlive.{only_among}
use Rattle.change_model.proofs.LeftBlockNames.{Silent}
use Rattle.change_model.proofs.LeftPlacedWhole.{outside_silent, labels_once}
use Rattle.change_model.proofs.LoopNames.{LoopAt, known}
use Rattle.change_model.proofs.LoopTests.{is_test, condition_at, past_test, merge_is, branch_behind, no_inner_loop, only_test}

clash : {Q : Type 0} (b : Bool) → b ≡ true → b ≡ false → Q
clash true is isnt = cc
clash false is isnt = cc

both : (a b : Bool) → (a && b) ≡ true → (a ≡ true) × (b ≡ true)
both true true is = (refl, refl)
both true false is = cc
both false b is = cc

some_label : (a b : ℕ) → ◌≡◌ {A = Option ℕ} (Some a) (Some b) → a ≡ b
some_label a b same = cc

-- some place of a range passes the test
place_of_any : (test : ℕ → Bool) (n from : ℕ) → list_any test (range_with_len from n) ≡ true → (at : ℕ) × (test at ≡ true)
place_of_any test zero from some = cc
place_of_any test (suc n) from some = by_first (test from) refl (λ later. place_of_any test n (from + 1) later) some
  where
    by_first : (b : Bool) → test from ≡ b → (list_any test (range_with_len (from + 1) n) ≡ true → (at : ℕ) × (test at ≡ true)) → (b || list_any test (range_with_len (from + 1) n)) ≡ true → (at : ℕ) × (test at ≡ true)
    by_first true is more some = (from, is)
    by_first false is more some = more some

module _ (f : Found) where
  abbrev insts : List Inst
  insts = f.words.insts

  pub record InFunction (place : ℕ) : Type 0 where
    pub low : f.valid.derivation.before + 1 ≤ place
    pub high : place < f.valid.derivation.after

  -- an OpLoopMerge stands in the function
  pub loop_within : (place : ℕ) → (inst_at insts place).op ≡ op.LOOP_MERGE → InFunction place
  loop_within place is = elim (cases_lt place (f.valid.derivation.before + 1)) [
    | inl front ↦ absurd (silent (outside_silent f.words f.valid place (inl front)))
    | inr low ↦ elim (cases_lt place f.valid.derivation.after) [
      | inl high ↦ record { low = low; high = high }
      | inr past ↦ absurd (silent (outside_silent f.words f.valid place (inr past)))
    ]
  ]
    where
      silent : Silent (inst_at insts place).op → ⊥
      silent s = clash ((inst_at insts place).op == op.LOOP_MERGE) (ap (λ (n : ℕ). n == op.LOOP_MERGE) is) s.no_loop

  pub loop_at : (place : ℕ) → (inst_at insts place).op ≡ op.LOOP_MERGE → LoopAt insts f.valid.derivation place
  loop_at place is = let w = loop_within place is in (known f.words f.valid place w.low w.high).loop is

  -- ---- the branch that leaves a loop

  -- what leaves a loop is the end of its condition sequence
  pub leaves_test : (at merge : ℕ) → is_label merge (leaving_to insts at) ≡ true → is_test_of insts merge at ≡ true
  leaves_test at merge leaves =
      let l = leaves_to insts at merge leaves in
      is_test insts merge at (record { is = l.is; unselected = l.unselected; among = only_among f.plan insts (inst_at insts at) merge (leaves_only f at merge leaves) })

  pub test_place : (place at : ℕ) (l : LoopAt insts f.valid.derivation place) → is_test_of insts (word_at 0 (inst_at insts place)) at ≡ true → at + 1 ≡ l.first
  test_place place at l test =
      only_test insts (labels_once f.words f.valid) f.valid.derivation place l at
      (subst (λ (n : ℕ). is_test_of insts n at ≡ true) (merge_is insts (labels_once f.words f.valid) f.valid.derivation place l) test)

  -- a loop that is left at once is left there
  pub left_there : (place : ℕ) (l : LoopAt insts f.valid.derivation place) → is_left_loop insts (word_at 0 (inst_at insts place)) ≡ true → (at : ℕ) → at + 1 ≡ l.first → is_label (word_at 0 (inst_at insts place)) (leaving_to insts at) ≡ true
  unfolding is_left_loop
  left_there place l left at last =
      let merge = word_at 0 (inst_at insts place) in
      let found = place_of_any (λ (n : ℕ). is_label merge (leaving_to insts n)) (length insts) 0 left in
      let e = test_place place found.0 l (leaves_test found.0 merge found.1) in
      ap (λ (n : ℕ). is_label merge (leaving_to insts n)) {x = at} {y = found.0} (omega (arith, e, last)) ∙ found.1

  -- ---- what holds a place

  -- the loop in whose condition sequence it stands, or behind whose OpLoopMerge
  pub record HeldBy (place merge : ℕ) : Type 0 where
    pub at : ℕ
    pub is : (inst_at insts at).op ≡ op.LOOP_MERGE
    pub opened : opens insts at ≡ true
    pub own : word_at 0 (inst_at insts at) ≡ merge
    pub low : at < place
    pub high : place < (loop_at at is).first

  pub opened_op : (place : ℕ) → opens insts place ≡ true → (inst_at insts place).op ≡ op.LOOP_MERGE
  opened_op place opened = eqb-true (inst_at insts place).op op.LOOP_MERGE (both ((inst_at insts place).op == op.LOOP_MERGE) (is_left_loop insts (word_at 0 (inst_at insts place))) opened).0

  pub opened_left : (place : ℕ) → opens insts place ≡ true → is_left_loop insts (word_at 0 (inst_at insts place)) ≡ true
  opened_left place opened = (both ((inst_at insts place).op == op.LOOP_MERGE) (is_left_loop insts (word_at 0 (inst_at insts place))) opened).1

  behind_merge : (place : ℕ) (l : LoopAt insts f.valid.derivation place) → place + 2 < l.first
  behind_merge place l =
      let c = condition_at insts (labels_once f.words f.valid) f.valid.derivation place l in
      let p = past_test insts (labels_once f.words f.valid) f.valid.derivation place l in
      omega (arith, c, p)

  held_first : (place merge : ℕ) (b : Bool) → opens insts place ≡ b → (if b then Some (word_at 0 (inst_at insts place)) else None) ≡ Some merge → HeldBy (suc place) merge
  held_first place merge true opened held =
      let is = opened_op place opened in
      let h = behind_merge place (loop_at place is) in
      record { at = place; is = is; opened = opened; own = some_label (word_at 0 (inst_at insts place)) merge held; low = omega arith; high = omega (arith, h) }
  held_first place merge false opened held = cc

  held_next : (place other merge : ℕ) (b : Bool) → is_label other (leaving_to insts place) ≡ b → HeldBy place other → (if b then None else Some other) ≡ Some merge → HeldBy (suc place) merge
  held_next place other merge true leaves h held = cc
  held_next place other merge false leaves h held =
      let low = h.low in
      record {
        at = h.at;
        is = h.is;
        opened = h.opened;
        own = h.own ∙ some_label other merge held;
        low = omega (arith, low);
        high = elim (cases_lt (suc place) (loop_at h.at h.is).first) [
          | inl less ↦ less
          | inr most ↦
              let high = h.high in
              clash (is_label other (leaving_to insts place)) (subst (λ (n : ℕ). is_label n (leaving_to insts place) ≡ true) h.own (left_there h.at (loop_at h.at h.is) (opened_left h.at h.opened) place (omega (arith, most, high)))) leaves
        ];
      }

  pub held_by : (place merge : ℕ) → held_at insts place ≡ Some merge → HeldBy place merge
  held_by zero merge held = cc
  held_by (suc place) merge held = by_before (held_at insts place) (λ other is. held_by place other is) held
    where
      by_before : (before : Option ℕ) → ((other : ℕ) → before ≡ Some other → HeldBy place other) → next_held insts place before ≡ Some merge → HeldBy (suc place) merge
      by_before None earlier held = held_first place merge (opens insts place) refl held
      by_before (Some other) earlier held = held_next place other merge (is_label other (leaving_to insts place)) refl (earlier other refl) held

  -- no OpLoopMerge stands behind another up to the end of its condition sequence
  no_loop_behind : (place : ℕ) (is : (inst_at insts place).op ≡ op.LOOP_MERGE) (at : ℕ) → place < at → at < (loop_at place is).first → (inst_at insts at).op ≡ op.LOOP_MERGE → ⊥
  no_loop_behind place is at low high also =
      let once = labels_once f.words f.valid in
      let l = loop_at place is in
      let c = condition_at insts once f.valid.derivation place l in
      elim (cases_lt (place + 1) at) [
        | inl behind ↦ no_inner_loop insts once f.valid.derivation place l at (omega (arith, c, behind)) high also
        | inr most ↦ two_ops (sym (branch_behind insts once f.valid.derivation place l) ∙ ap (λ (n : ℕ). (inst_at insts n).op) {x = place + 1} {y = at} (omega (arith, most, low)) ∙ also)
      ]
    where
      two_ops : op.BRANCH ≡ op.LOOP_MERGE → ⊥
      two_ops same = omega (arith, same)

  -- an OpLoopMerge is never held
  pub loop_free : (place : ℕ) → (inst_at insts place).op ≡ op.LOOP_MERGE → held_at insts place ≡ None
  loop_free place is = by_held (held_at insts place) refl
    where
      none : (merge : ℕ) → HeldBy place merge → ⊥
      none merge h = no_loop_behind h.at h.is place h.low h.high is

      by_held : (held : Option ℕ) → held_at insts place ≡ held → held ≡ None
      by_held None same = refl
      by_held (Some merge) same = absurd (none merge (held_by place merge same))

  -- from behind its OpLoopMerge on the condition sequence is held
  pub held_on : (place : ℕ) (is : (inst_at insts place).op ≡ op.LOOP_MERGE) → opens insts place ≡ true → (at : ℕ) → place < at → at < (loop_at place is).first → held_at insts at ≡ Some (word_at 0 (inst_at insts place))
  held_on place is opened zero low high = absurd (omega (arith, low))
  held_on place is opened (suc at) low high = elim (cases_lt place at) [
    | inl behind ↦ ap (next_held insts at) (held_on place is opened at behind (omega (arith, high))) ∙ by_test (is_label (word_at 0 (inst_at insts place)) (leaving_to insts at)) refl
    | inr most ↦
        let same : at ≡ place = omega (arith, most, low) in
        ap (next_held insts at) (ap (held_at insts) same ∙ loop_free place is)
        ∙ ap (λ (n : ℕ). if opens insts n then Some (word_at 0 (inst_at insts n)) else None) same ∙ ap (λ (b : Bool). if b then Some (word_at 0 (inst_at insts place)) else None) opened
  ]
    where
      by_test : (b : Bool) → is_label (word_at 0 (inst_at insts place)) (leaving_to insts at) ≡ b → (if b then None else Some (word_at 0 (inst_at insts place))) ≡ Some (word_at 0 (inst_at insts place))
      by_test false leaves = refl
      by_test true leaves =
          let e = test_place place at (loop_at place is) (leaves_test at (word_at 0 (inst_at insts place)) leaves) in
          absurd (omega (arith, e, high))

  -- one condition sequence belongs to one loop
  pub one_loop : (a b : ℕ) (first : (inst_at insts a).op ≡ op.LOOP_MERGE) (second : (inst_at insts b).op ≡ op.LOOP_MERGE) → (loop_at a first).first ≡ (loop_at b second).first → a ≡ b
  one_loop a b first second same = elim (cases_lt a b) [
    | inl less ↦ absurd (apart a b first second same less)
    | inr most ↦ elim (cases_lt b a) [ inl less ↦ absurd (apart b a second first (sym same) less) | inr least ↦ omega (arith, most, least) ]
  ]
    where
      apart : (a b : ℕ) (first : (inst_at insts a).op ≡ op.LOOP_MERGE) (second : (inst_at insts b).op ≡ op.LOOP_MERGE) → (loop_at a first).first ≡ (loop_at b second).first → a < b → ⊥
      apart a b first second same less =
          let h = behind_merge b (loop_at b second) in
          no_loop_behind a first b less (omega (arith, h, same)) second
