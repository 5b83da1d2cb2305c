-- What is made of a sequence whose first block ends in a selection or an OpSwitch that goes: by the label to which its branch leads.
use Rattle.std.proofs.Common.{◌≡◌, ◌≢◌, ℕ, zero, suc, ◌+◌, ◌-◌, ◌<◌, ◌≤◌, ◌⊎◌, inl, inr, ◌==◌, ◌&&◌, ◌||◌, nat_lt, Bool, true, false, not, List, [], ◌∷◌, ◌++◌, refl, ap, sym, ◌∙◌, subst, arith, Option, None}
use Rattle.std.specs.List.{list_any, range_with_len}
use Rattle.std.proofs.lemmas.Bool.{cases_lt, eq-eqb, and_from, lt-ltb}
use Rattle.spirv_model.specs.declared.module.Inst.{Inst}
use Rattle.spirv_model.specs.declared.module.Words.{Words}
use Rattle.spirv_model.specs.declared.op.TheConstants as op
use Rattle.spirv_model.specs.Operands.{word_at}
use Rattle.body_model.specs.declared.block_end.BlockEnd.{BlockEnd}
use Rattle.body_model.specs.declared.scope.Phis.TheVariants.{Anywhere}
use Rattle.body_model.specs.Scope.{Scope, behind_block}
use Rattle.body_model.specs.Switches.{is_among}
use Rattle.valid_model.specs.Definitions.{inst_at}
use Rattle.check_model.specs.Intervals.{Interval, interval, around, intervals_of}
use Rattle.check_model.specs.Validity.{IsValidList}
use Rattle.unit_model.specs.ConstantScalars.{is_behind}
use Rattle.change_model.specs.declared.fate.Fate.{Fate}
use Rattle.change_model.specs.declared.fate.Fate.TheVariants as fate
use Rattle.change_model.specs.Plans.{Plan, is_dead, targets_left, leads_from}
use Rattle.change_model.specs.PlanRules.{IsPlan, goes_to_begin, is_arm_of, is_condition_left, is_joined, intervals_left, merge_labels, stays, still_names}
use Rattle.change_model.proofs.LeftAlive.{still_named, dead_names, named_alive, unnamed_dead, all_dead}
use Rattle.change_model.proofs.LeftArmJoins.{straight_made, arm_made}
use Rattle.change_model.proofs.LeftArmParts.{ArmAt, RestAt, either_place, arm_lives}
use Rattle.change_model.proofs.LeftCases.{Knows}
use Rattle.change_model.proofs.LeftEndings.{Branches, differ}
use Rattle.change_model.proofs.LeftGone.{gone_branch}
use Rattle.change_model.proofs.LeftHeads.{fits_in}
use Rattle.change_model.proofs.LeftLasts.{Head, clash, and_no, last_here, refuted}
use Rattle.change_model.proofs.LeftLeads.{LeadsNowhere, nowhere}
use Rattle.change_model.proofs.LeftRemains.{left_less, none_left_of}
use Rattle.change_model.proofs.LeftScopes.{is_label_at, label_at, Quiet, Unled, Onward, Suits, Apart, Continues, Made}

-- a test that holds at one place of a range
pub any_of_range : (test : ℕ → Bool) (n from at : ℕ) → from ≤ at → at < from + n → test at ≡ true → list_any test (range_with_len from n) ≡ true
any_of_range test zero from at least less is = absurd (omega (arith, least, less))
any_of_range test (suc n) from at least less is = by_order (λ more. any_of_range test n (from + 1) at (omega (arith, more)) (omega (arith, less)) is) (cases_lt from at)
  where
    or_left : (a b : Bool) → a ≡ true → (a || b) ≡ true
    or_left true b is = refl
    or_left false b is = cc

    or_right : (a b : Bool) → b ≡ true → (a || b) ≡ true
    or_right true b is = refl
    or_right false b is = is

    by_order : (from < at → list_any test (range_with_len (from + 1) n) ≡ true) → (from < at) ⊎ (at ≤ from) → list_any test (range_with_len from (suc n)) ≡ true
    by_order further (inl more) = or_right (test from) (list_any test (range_with_len (from + 1) n)) (further more)
    by_order further (inr most) = let same : from ≡ at = omega (arith, least, most) in or_left (test from) (list_any test (range_with_len (from + 1) n)) (ap test same ∙ is)

joined_goes : (dead joined : Bool) → joined ≡ true → (not dead && not joined) ≡ false
joined_goes true joined is = refl
joined_goes false joined is = rw is refl

or_first : (a b : Bool) → a ≡ true → (a || b) ≡ true
or_first true b is = refl
or_first false b is = cc

or_none : (a b : Bool) → a ≡ false → b ≡ false → (a || b) ≡ false
or_none a b first second = rw first second

or_false : (b : Bool) → (b || false) ≡ b
or_false true = refl
or_false false = refl

module _ (words : Words) (v : IsValidList words) (zeros : List ℕ) (plan : Plan) (p : IsPlan words v zeros plan) (old new : Scope) (from : ℕ) (end : BlockEnd) (h : Head words v plan old new from end)
    (last : Inst) (tail : List Inst) (at : h.o.behind ≡ last ∷ tail) (is : h.o.inst.op ≡ op.SELECTION_MERGE) (merge join to : ℕ) (next : Option ℕ) (in_rest all : List Interval)
    (rest : RestAt words v plan old next merge h.o.place join to in_rest) (goal : Option ℕ) (onward : Onward) (known_next : Knows plan words.insts old onward next goal)
    (suits : Suits plan words.insts from to old new onward) (apart : Apart words.insts from to new) (cont : Continues plan words.insts (intervals_of v.derivation) from to new goal onward)
    (skip : plan.fate h.o.place ≡ fate.Skips) (label : ℕ) (there : plan.fate (h.o.place + 1) ≡ fate.Goes label) where
  abbrev insts : List Inst
  insts = words.insts

  abbrev intervals : List Interval
  intervals = intervals_of v.derivation

  abbrev branch : ℕ
  branch = h.o.place + 1

  low : v.derivation.before + 1 ≤ h.o.place
  low = let e = h.o.place_is in let l = h.low in omega (arith, e, l)

  high : branch < v.derivation.after
  high = let r = rest.placed.high in let f = rest.forward in let b = rest.behind in omega (arith, r, f, b)

  merge_silent : LeadsNowhere h.o.inst.op
  merge_silent = subst LeadsNowhere (sym is) (record { no_branch = refl; no_choice = refl; no_switch = refl })

  k : Branches plan insts h.o.place (h.o.place + 2) label
  k = gone_branch words v zeros plan p old new from end h last tail at merge_silent high skip label there

  -- the branch leads to the label alone
  pub chosen_leads : (other : ℕ) → leads_from plan insts other branch ≡ (label == other)
  chosen_leads other = ap (λ (what : Fate). is_among other (targets_left what (inst_at insts branch))) there ∙ or_false (label == other)

  lives : (place at : ℕ) → v.derivation.before + 1 < at → at < v.derivation.after → is_label_at insts at ≡ true → leads_from plan insts (label_at insts at) place ≡ true → is_dead (plan.fate at) ≡ false
  lives place at first second is_label leads =
      named_alive words v zeros plan p at place first second is_label (or_first (leads_from plan insts (label_at insts at) place) (stays (plan.fate place) && is_among (label_at insts at) (merge_labels (inst_at insts place))) leads)

  join_low : v.derivation.before + 1 < join
  join_low = let l = low in let b = rest.behind in omega (arith, l, b)

  join_high : join < v.derivation.after
  join_high = let f = rest.forward in let t = rest.placed.high in omega (arith, f, t)

  join_lives : (place : ℕ) → leads_from plan insts merge place ≡ true → is_dead (plan.fate join) ≡ false
  join_lives place leads = lives place join join_low join_high rest.is_label (ap (λ (n : ℕ). leads_from plan insts n place) rest.own ∙ leads)

  -- straight to the merge block
  pub chosen_merge : merge ≡ label → ((place : ℕ) → h.o.place + 2 ≤ place → place < join → is_dead (plan.fate place) ≡ true) → intervals_left plan insts all ≡ intervals_left plan insts in_rest
      → Made plan insts intervals new goal onward from to all
  chosen_merge same dead left =
      straight_made words v zeros plan p old new from end h label merge join to k goal next onward all in_rest known_next suits apart cont rest.behind rest.forward rest.is_label rest.own
      Anywhere (rest.phis skip (behind_block new) refl) rest.makes same dead (join_lives branch (chosen_leads merge ∙ eq-eqb label merge (sym same))) left

  -- to an arm
  module _ (isnt : merge ≡ label → ⊥) (S : Scope) (a b : ℕ) (inner : List Interval) (x : ArmAt words v plan S merge branch label a b inner) (most : b ≤ join) (quiet : Quiet plan insts intervals a b merge)
      (suits_arm : (further : Onward) → ((label : ℕ) → onward label ≢ None → further label ≢ None) → (further merge ≢ None) ⊎ Unled plan insts a b merge → Suits plan insts a b S (behind_block new) further)
      (before : (place : ℕ) → h.o.place + 2 ≤ place → place < a → is_dead (plan.fate place) ≡ true) (between : (place : ℕ) → b ≤ place → place < join → is_dead (plan.fate place) ≡ true)
      (left : intervals_left plan insts all ≡ intervals_left plan insts (around a b inner) ++ intervals_left plan insts in_rest) where
    alive : is_dead (plan.fate a) ≡ false
    alive = let l = low in arm_lives words v zeros plan p S merge branch label a b inner x (omega (arith, l)) (chosen_leads label ∙ eq-eqb label label refl)

    first : h.o.place + 2 ≤ a
    first = let b' = x.behind in omega (arith, b')

    -- its interval isn't left
    arm_of : is_arm_of plan insts (interval a b) branch ≡ true
    arm_of = and_from (is_behind op.SELECTION_MERGE insts branch) (goes_to_begin insts (interval a b) (plan.fate branch)) behind_merge
        (ap (goes_to_begin insts (interval a b)) there ∙ and_from ((inst_at insts a).op == op.LABEL) (word_at 0 (inst_at insts a) == label) x.is_label (eq-eqb (word_at 0 (inst_at insts a)) label x.own))
      where
        behind_merge : is_behind op.SELECTION_MERGE insts branch ≡ true
        behind_merge =
            let same : branch - 1 ≡ h.o.place = omega arith in
            and_from (nat_lt 0 branch) ((inst_at insts (branch - 1)).op == op.SELECTION_MERGE) (lt-ltb 0 branch (omega arith))
            (ap (λ (n : ℕ). (inst_at insts n).op == op.SELECTION_MERGE) same ∙ ap (λ (i : Inst). i.op == op.SELECTION_MERGE) (last_here words v zeros plan p old new from end h) ∙ ap (λ (o : ℕ). o == op.SELECTION_MERGE) is)

    joins : is_joined plan insts (interval a b) ≡ true
    unfolding is_joined
    joins = let b' = x.behind in or_first (list_any (is_arm_of plan insts (interval a b)) (range_with_len 0 a)) (is_condition_left plan insts (interval a b)) (any_of_range (is_arm_of plan insts (interval a b)) a 0 branch (omega arith) (omega (arith, b')) arm_of)

    left_arm : intervals_left plan insts (around a b inner) ≡ intervals_left plan insts inner
    left_arm = left_less plan insts (interval a b) inner (joined_goes (is_dead (plan.fate a)) (is_joined plan insts (interval a b)) joins)

    -- the merge block is dead where nothing in the arm leads there
    join_dead : Unled plan insts a b merge → is_dead (plan.fate join) ≡ true
    join_dead unled = unnamed_dead words v zeros plan p join join_low join_high rest.is_label (λ place less. ap (λ (n : ℕ). still_names plan insts n place) rest.own ∙ by_place place less)
      where
        at_merge : still_names plan insts merge h.o.place ≡ false
        at_merge =
            or_none (leads_from plan insts merge h.o.place) (stays (plan.fate h.o.place) && is_among merge (merge_labels (inst_at insts h.o.place)))
            (nowhere plan insts intervals zeros h.o.place (fits_in words v zeros plan p h.o.place low h.high) (subst LeadsNowhere (sym (ap (λ (i : Inst). i.op) (last_here words v zeros plan p old new from end h))) merge_silent) merge)
            (ap (λ (what : Fate). stays what && is_among merge (merge_labels (inst_at insts h.o.place))) skip)

        at_branch : still_names plan insts merge branch ≡ false
        at_branch =
            or_none (leads_from plan insts merge branch) (stays (plan.fate branch) && is_among merge (merge_labels (inst_at insts branch))) (chosen_leads merge ∙ differ label merge (λ same. isnt (sym same)))
            (ap (λ (what : Fate). stays what && is_among merge (merge_labels (inst_at insts branch))) there)

        in_arm : (place : ℕ) → a ≤ place → place < b → still_names plan insts merge place ≡ false
        in_arm place least less =
            or_none (leads_from plan insts merge place) (stays (plan.fate place) && is_among merge (merge_labels (inst_at insts place))) (unled place least less)
            (and_no (stays (plan.fate place)) (is_among merge (merge_labels (inst_at insts place))) (x.merges place least less))

        behind_branch : (place : ℕ) → branch < place → place < join → still_names plan insts merge place ≡ false
        behind_branch place more less = elim (cases_lt place a) [
          | inl early ↦ dead_names words v zeros plan p place merge (before place (omega (arith, more)) early)
          | inr past ↦ elim (cases_lt place b) [
            | inl within ↦ in_arm place past within
            | inr further ↦ dead_names words v zeros plan p place merge (between place further less)
          ]
        ]

        by_place : (place : ℕ) → place < join → still_names plan insts merge place ≡ false
        by_place place less = elim (cases_lt place h.o.place) [
          | inl early ↦ still_named words v zeros plan p place merge (rest.before place early)
          | inr there_on ↦ elim (cases_lt branch place) [
            | inl more ↦ behind_branch place more less
            | inr most ↦ either_place place h.o.place (λ same. ap (still_names plan insts merge) same ∙ at_merge)
                (λ other. elim (cases_lt h.o.place place) [
                  | inl more ↦ (let same : place ≡ branch = omega (arith, more, most) in ap (still_names plan insts merge) same ∙ at_branch)
                  | inr equal ↦ (let same : place ≡ h.o.place = omega (arith, equal, there_on) in absurd (other same))
                ])
          ]
        ]

    no_lead : is_dead (plan.fate join) ≡ true → Unled plan insts a b merge
    no_lead dead place least less = refuted (leads_from plan insts merge place) (λ leads. clash (is_dead (plan.fate join)) dead (join_lives place leads))

    dead_rest : is_dead (plan.fate join) ≡ true → (place : ℕ) → join ≤ place → place < to → is_dead (plan.fate place) ≡ true
    dead_rest dead = all_dead words v zeros plan p join to rest.placed.low rest.placed.high (λ place at less behind_it inside is_label. rest.placed.entered place at (inl less) behind_it inside is_label) dead

    append_none : (xs : List Interval) → xs ++ [] ≡ xs
    append_none [] = refl
    append_none (i ∷ xs) = ap (λ (l : List Interval). i ∷ l) (append_none xs)

    same : intervals_left plan insts all ≡ intervals_left plan insts inner ++ intervals_left plan insts in_rest
    same = left ∙ ap (λ (l : List Interval). l ++ intervals_left plan insts in_rest) left_arm

    same_dead : is_dead (plan.fate join) ≡ true → intervals_left plan insts all ≡ intervals_left plan insts inner
    same_dead dead = same ∙ ap (λ (l : List Interval). intervals_left plan insts inner ++ l) (none_left_of plan insts join to (dead_rest dead) in_rest rest.starts) ∙ append_none (intervals_left plan insts inner)

    pub chosen_arm : Made plan insts intervals new goal onward from to all
    chosen_arm =
        arm_made words v zeros plan p old new from end h label merge join to k goal next onward all in_rest known_next suits apart cont rest.behind rest.forward rest.is_label rest.own
        Anywhere (rest.phis skip (behind_block new) refl) rest.makes S a b inner first x.forward most x.is_label x.own (x.phis (behind_block new) refl) None (x.makes alive) (λ further merges. inl refl) suits_arm x.apart quiet
        (λ alive_join unled. clash (is_dead (plan.fate join)) (join_dead unled) alive_join) before between no_lead dead_rest same_dead same
