-- The code that is made of a sequence whose first block is the header of a loop that stays.
use Rattle.std.proofs.Common.{◌≡◌, ℕ, suc, ◌+◌, ◌<◌, ◌≤◌, ◌⊎◌, inl, inr, true, false, ◌==◌, ◌&&◌, List, [], ◌∷◌, ◌++◌, length, map, slice_index, append_assoc, ap, sym, ◌∙◌, subst, arith, Option, None, Some}
use Rattle.std.proofs.lemmas.List.{map-append}
use Rattle.spirv_model.specs.declared.module.Inst.{Inst}
use Rattle.spirv_model.specs.declared.module.Words.{Words}
use Rattle.spirv_model.specs.declared.op.TheConstants as op
use Rattle.spirv_model.specs.Operands.{word_at}
use Rattle.body_model.specs.declared.block_end.BlockEnd.TheVariants as kind
use Rattle.body_model.specs.declared.block_end.LoopHead.{LoopHead}
use Rattle.body_model.specs.Classes.{is_terminator}
use Rattle.body_model.specs.Code.{Code, Loops, printed}
use Rattle.body_model.specs.Fitting.{EndsAs, Fits, loops}
use Rattle.body_model.specs.Scope.{Scope, behind_loop, condition, body, continuing}
use Rattle.body_model.specs.Switches.{is_among}
use Rattle.body_model.specs.Targets.{targets}
use Rattle.body_model.proofs.ClassFacts.{ends_branch}
use Rattle.valid_model.specs.Definitions.{inst_at}
use Rattle.check_model.specs.Intervals.{Interval, around, intervals_of}
use Rattle.check_model.specs.Validity.{IsValidList}
use Rattle.check_model.proofs.CodeIntervals.{inside_code}
use Rattle.change_model.specs.declared.fate.Fate.{Fate}
use Rattle.change_model.specs.declared.fate.Fate.TheVariants as fate
use Rattle.change_model.specs.Folding.{function_at}
use Rattle.change_model.specs.Plans.{Plan, is_dead, leads_from, kept_at}
use Rattle.change_model.specs.PlanRules.{IsPlan, intervals_left, stays}
use Rattle.change_model.proofs.ChangedPlaces.{place_left}
use Rattle.change_model.proofs.LeftBlocks.{is_inner}
use Rattle.change_model.proofs.LeftBlockNames.{first_there, inst_there, second_there}
use Rattle.change_model.proofs.LeftClosed.{prints_alone, inner_alone}
use Rattle.change_model.proofs.LeftDerivations.{nowhere}
use Rattle.change_model.proofs.LeftEndings.{branch_targets, among_itself}
use Rattle.change_model.proofs.LeftEnds.{loops_so}
use Rattle.change_model.proofs.LeftFates.{inners, IsFixed, fixed_branch, written_stays, kept_op}
use Rattle.change_model.proofs.LeftHeads.{stays_in}
use Rattle.change_model.proofs.LeftIntervals.{moved}
use Rattle.change_model.proofs.LeftLasts.{Head, last_alive, ends_by, long_by, begins_alone}
use Rattle.change_model.proofs.LeftLeads.{branch_leads}
use Rattle.change_model.proofs.LeftNames.{kept_word}
use Rattle.change_model.proofs.LeftScopes.{is_label_at, label_at, written, StandsNot, Quiet, Onward, Unled, Elsewhere, printed_behind, inside_behind, code_behind, keeps_loop, Made}
use Rattle.change_model.proofs.LeftTargets.{target_named}
use Rattle.change_model.proofs.LeftWays.{LoopWay}
use Rattle.change_model.proofs.LeftWritten.{written_more, written_one, written_split, written_places}
use Rattle.change_model.proofs.MovedUp.{function_is}

-- ---- the intervals of a loop

abbrev pub four_parts : (a b c d : ℕ) (xs ys zs rest : List Interval) → List Interval
four_parts a b c d xs ys zs rest = around a b xs ++ (around b c ys ++ (around c d zs ++ rest))

same_parts : (a b c d a' b' c' d' : ℕ) (xs ys zs rest xs' ys' zs' rest' : List Interval) → a ≡ a' → b ≡ b' → c ≡ c' → d ≡ d' → xs ≡ xs' → ys ≡ ys' → zs ≡ zs' → rest ≡ rest' → four_parts a b c d xs ys zs rest ≡ four_parts a' b' c' d' xs' ys' zs' rest'
same_parts a b c d a' b' c' d' xs ys zs rest xs' ys' zs' rest' p q r s t u v w = cc

parts_behind : (a b c d : ℕ) (xs ys zs rest more : List Interval) → four_parts a b c d xs ys zs (rest ++ more) ≡ four_parts a b c d xs ys zs rest ++ more
parts_behind a b c d xs ys zs rest more =
    ap (λ (l : List Interval). around a b xs ++ (around b c ys ++ l)) (sym (append_assoc (around c d zs) rest more))
    ∙ ap (λ (l : List Interval). around a b xs ++ l) (sym (append_assoc (around b c ys) (around c d zs ++ rest) more))
    ∙ sym (append_assoc (around a b xs) (around b c ys ++ (around c d zs ++ rest)) more)

moved_parts : (plan : Plan) (insts : List Inst) (a b c d : ℕ) (xs ys zs rest : List Interval) → map (moved plan insts) (four_parts a b c d xs ys zs rest)
    ≡ four_parts (place_left plan insts a) (place_left plan insts b) (place_left plan insts c) (place_left plan insts d) (map (moved plan insts) xs) (map (moved plan insts) ys) (map (moved plan insts) zs) (map (moved plan insts) rest)
moved_parts plan insts a b c d xs ys zs rest =
    let M = moved plan insts in
    map-append M (around a b xs) (around b c ys ++ (around c d zs ++ rest))
    ∙ ap (λ (l : List Interval). map M (around a b xs) ++ l) (map-append M (around b c ys) (around c d zs ++ rest) ∙ ap (λ (l : List Interval). map M (around b c ys) ++ l) (map-append M (around c d zs) rest))

module _ (words : Words) (v : IsValidList words) (zeros : List ℕ) (plan : Plan) (p : IsPlan words v zeros plan) (old new : Scope) (from : ℕ) (head : LoopHead) (h : Head words v plan old new from (kind.Loops head))
    (w : LoopWay old (slice_index h.o.label.words 0) h.o.inst h.o.behind h.o.place head) (high : h.o.place + 1 < v.derivation.after) (stay : plan.fate h.o.place ≡ fate.Stays) (may : new.may_loop ≡ true) (less : new.depth ≤ old.depth)
    (free : is_among head.test new.barred ≡ false) (named_merge : plan.name head.merge ≡ head.merge) (named_next : plan.name head.next ≡ head.next) where
  abbrev insts : List Inst
  insts = words.insts

  abbrev first_inst : Inst
  first_inst = kept_at plan insts h.o.place (inst_at insts h.o.place)

  abbrev second_inst : Inst
  second_inst = kept_at plan insts (h.o.place + 1) (inst_at insts (h.o.place + 1))

  abbrev block : List Inst
  block = written plan insts from head.after

  merge_here : inst_at insts h.o.place ≡ h.o.inst
  merge_here = inst_there insts old from (kind.Loops head) h.o

  branch_here : inst_at insts (h.o.place + 1) ≡ w.last
  branch_here = second_there insts old from (kind.Loops head) h.o w.last w.rest w.at

  header_is : label_at insts from ≡ head.header
  header_is = ap (λ (i : Inst). word_at 0 i) (first_there insts old from (kind.Loops head) h.o) ∙ w.own

  low : v.derivation.before + 1 ≤ h.o.place + 1
  low = let e = h.o.place_is in let l = h.low in omega (arith, e, l)

  is_loop : (inst_at insts h.o.place).op ≡ op.LOOP_MERGE
  is_loop = ap (λ (i : Inst). i.op) merge_here ∙ w.is

  is_branch : (inst_at insts (h.o.place + 1)).op ≡ op.BRANCH
  is_branch = ap (λ (i : Inst). i.op) branch_here ∙ w.branch

  first_op : first_inst.op ≡ op.LOOP_MERGE
  first_op = kept_op plan insts (intervals_of v.derivation) zeros h.o.place ∙ is_loop

  second_op : second_inst.op ≡ op.BRANCH
  second_op = kept_op plan insts (intervals_of v.derivation) zeros (h.o.place + 1) ∙ is_branch

  -- the branch stays too
  pub stay_too : plan.fate (h.o.place + 1) ≡ fate.Stays
  stay_too =
      let e = h.o.place_is in
      let l = h.low in
      let one : suc h.o.place ≡ h.o.place + 1 = omega arith in
      let plain : is_label_at insts h.o.place ≡ false = ap (λ (o : ℕ). o == op.LABEL) is_loop in
      let alive : is_dead (plan.fate (h.o.place + 1)) ≡ false = ap (λ (n : ℕ). is_dead (plan.fate n)) (sym one)
      ∙ p.blocks h.o.place (omega (arith, e, l)) (omega (arith, high)) (ap (is_label_at insts) one ∙ ap (λ (o : ℕ). o == op.LABEL) is_branch) ∙ last_alive words v zeros plan p old new from (kind.Loops head) h plain in
      stays_in words v zeros plan p (h.o.place + 1) low high (subst IsFixed (sym is_branch) fixed_branch) alive

  test_is : word_at 0 (inst_at insts (h.o.place + 1)) ≡ head.test
  test_is = ap (λ (i : Inst). word_at 0 i) branch_here ∙ w.test

  -- and leads to the condition sequence alone
  pub leads_in : (label : ℕ) → leads_from plan insts label (h.o.place + 1) ≡ (head.test == label)
  leads_in label = branch_leads plan insts (h.o.place + 1) label is_branch stay_too ∙ ap (λ (n : ℕ). n == label) test_is

  first_word : (k label : ℕ) → slice_index h.o.inst.words k ≡ label → plan.name label ≡ label → slice_index first_inst.words k ≡ label
  first_word k label is named =
      let own : word_at k (inst_at insts h.o.place) ≡ label = ap (λ (i : Inst). word_at k i) merge_here ∙ is in
      kept_word plan insts h.o.place k (inst_at insts h.o.place) (ap (λ (o : ℕ). o == op.PHI) is_loop) (ap plan.name own ∙ named ∙ sym own) ∙ own

  second_word : slice_index second_inst.words 0 ≡ head.test
  second_word =
      let to = branch_targets (inst_at insts (h.o.place + 1)) is_branch ∙ ap (λ (n : ℕ). n ∷ []) test_is in
      let named = target_named words v zeros plan p (h.o.place + 1) head.test low high (ap is_terminator is_branch ∙ ends_branch) (among_itself head.test (targets (inst_at insts (h.o.place + 1))) to) in
      kept_word plan insts (h.o.place + 1) 0 (inst_at insts (h.o.place + 1)) (ap (λ (o : ℕ). o == op.PHI) is_branch) (ap plan.name test_is ∙ named ∙ sym test_is) ∙ test_is

  up_to : h.o.place ≤ head.after
  up_to = let a = w.after in omega (arith, a)

  wrote : written plan insts h.o.place head.after ≡ first_inst ∷ second_inst ∷ []
  wrote =
      let end_is : h.o.place + 2 ≡ h.o.place + 1 + 1 = omega arith in
      ap (written plan insts h.o.place) w.after
      ∙ written_more plan insts h.o.place (h.o.place + 2) (omega arith)
      ∙ ap (λ (l : List Inst). l ++ written plan insts (h.o.place + 1) (h.o.place + 2)) (written_stays plan insts h.o.place stay)
      ∙ ap (λ (l : List Inst). first_inst ∷ l)
      (ap (λ (n : ℕ). written plan insts (h.o.place + 1) n) end_is ∙ written_one plan insts (h.o.place + 1) ∙ ap (λ (l : List Inst). l ++ []) (written_stays plan insts (h.o.place + 1) stay_too))

  keeps : keeps_loop plan insts h.o.place ≡ true
  keeps = ap (λ (what : Fate). stays what && ((inst_at insts h.o.place).op == op.LOOP_MERGE)) stay ∙ ap (λ (o : ℕ). o == op.LOOP_MERGE) is_loop

  -- the block ends in the loop
  pub loops_block : (behind : List Inst) → EndsAs new block behind (kind.Loops (record { header = head.header; merge = head.merge; next = head.next; test = head.test; after = length block }))
  loops_block behind =
      ends_by words v zeros plan p old new from (kind.Loops head) h head.after first_inst (second_inst ∷ []) behind up_to wrote (ap is_inner first_op ∙ inners.loop_merge) (ap (λ (o : ℕ). o == op.LOOP_MERGE) first_op ∙ sym keeps)
      ∙ loops_so new (label_at insts from) first_inst second_inst behind (length (written plan insts from h.o.place)) old.depth head.merge head.next head.test first_op (first_word 0 head.merge w.merge named_merge)
      (first_word 1 head.next w.next named_next) second_op second_word may less w.few free
      ∙ ap (λ (n : ℕ). kind.Loops (record { header = label_at insts from; merge = head.merge; next = head.next; test = head.test; after = n })) (long_by words v zeros plan p old new from (kind.Loops head) h head.after (first_inst ∷ second_inst ∷ []) up_to wrote)
      ∙ ap (λ (n : ℕ). kind.Loops (record { header = n; merge = head.merge; next = head.next; test = head.test; after = length block })) header_is

  -- with its parts and what stands behind them
  module _ (inner first second third to : ℕ) (goal : Option ℕ) (onward : Onward) (all in_test in_body in_step in_rest : List Interval) (past_test : head.after ≤ first) (past_body : first ≤ second) (past_step : second ≤ third) (past_rest : third ≤ to)
      (at_test : label_at insts head.after ≡ head.test) (at_inner : label_at insts first ≡ inner) (at_next : label_at insts second ≡ head.next) (at_merge : label_at insts third ≡ head.merge)
      (same : intervals_left plan insts all ≡ four_parts head.after first second third (intervals_left plan insts in_test) (intervals_left plan insts in_body) (intervals_left plan insts in_step) (intervals_left plan insts in_rest))
      (c : Made plan insts (intervals_of v.derivation) (condition new head.merge) (Some inner) nowhere head.after first in_test) (known : c.fits.next ≡ Some inner)
      (b : Made plan insts (intervals_of v.derivation) (body new head.merge head.next) None nowhere first second in_body) (s : Made plan insts (intervals_of v.derivation) (continuing new head.header) None nowhere second third in_step)
      (r : Made plan insts (intervals_of v.derivation) (behind_loop new) goal onward third to in_rest)
      (only : (other : ℕ) → StandsNot insts from to other → Quiet plan insts (intervals_of v.derivation) from to other → Elsewhere new goal r.end other → Unled plan insts from to other) where
    least : from ≤ head.after
    least = let e = h.o.place_is in let u = up_to in omega (arith, e, u)

    function_low : (place : ℕ) → from ≤ place → function_at insts ≤ place
    function_low place most = let f = function_is insts v.derivation in let l = h.low in omega (arith, f, l, most)

    test_prints : printed c.code ≡ written plan insts head.after first
    test_prints = prints_alone plan insts (intervals_of v.derivation) (condition new head.merge) (Some inner) head.after first in_test c

    body_prints : printed b.code ≡ written plan insts first second
    body_prints = prints_alone plan insts (intervals_of v.derivation) (body new head.merge head.next) None first second in_body b

    step_prints : printed s.code ≡ written plan insts second third
    step_prints = prints_alone plan insts (intervals_of v.derivation) (continuing new head.header) None second third in_step s

    at_first : place_left plan insts from + length block ≡ place_left plan insts head.after
    at_first = written_places plan insts from head.after least (function_low from (omega arith))

    place_by : (low high : ℕ) (code : Code) → from ≤ low → low ≤ high → printed code ≡ written plan insts low high → place_left plan insts low + length (printed code) ≡ place_left plan insts high
    place_by low high code up most is = ap (λ (l : List Inst). place_left plan insts low + length l) is ∙ written_places plan insts low high most (function_low low up)

    abbrev new_code : Code
    new_code = Loops block head.merge head.next head.test c.code b.code s.code r.code

    split_at : (low middle high : ℕ) → low ≤ middle → middle ≤ high → (more : List Inst) → written plan insts low middle ++ (written plan insts middle high ++ more) ≡ written plan insts low high ++ more
    split_at low middle high one two more =
        sym (append_assoc (written plan insts low middle) (written plan insts middle high) more) ∙ ap (λ (l : List Inst). l ++ more) (sym (written_split plan insts low middle high one two))

    prints_all : printed new_code ≡ written plan insts from to ++ printed_behind (code_behind onward r.end)
    prints_all =
        let B = printed_behind (code_behind onward r.end) in
        let W = written plan insts in
        let l = least in
        ap (λ (x : List Inst). block ++ (x ++ (printed b.code ++ (printed s.code ++ printed r.code)))) test_prints
        ∙ ap (λ (x : List Inst). block ++ (W head.after first ++ (x ++ (printed s.code ++ printed r.code)))) body_prints
        ∙ ap (λ (x : List Inst). block ++ (W head.after first ++ (W first second ++ (x ++ printed r.code)))) step_prints
        ∙ ap (λ (x : List Inst). block ++ (W head.after first ++ (W first second ++ (W second third ++ x)))) r.prints
        ∙ ap (λ (x : List Inst). block ++ (W head.after first ++ (W first second ++ x))) (split_at second third to past_step past_rest B)
        ∙ ap (λ (x : List Inst). block ++ (W head.after first ++ x)) (split_at first second to past_body (omega (arith, past_step, past_rest)) B)
        ∙ ap (λ (x : List Inst). block ++ x) (split_at head.after first to past_test (omega (arith, past_body, past_step, past_rest)) B)
        ∙ split_at from head.after to l (omega (arith, past_test, past_body, past_step, past_rest)) B

    inner_all : inside_code new_code (place_left plan insts from) ≡ map (moved plan insts) (intervals_left plan insts all) ++ inside_behind (code_behind onward r.end) (place_left plan insts to)
    inner_all =
        let PL = place_left plan insts in
        let M = map (moved plan insts) in
        let L = intervals_left plan insts in
        let E = inside_behind (code_behind onward r.end) (PL to) in
        let l = least in
        let one = at_first in
        let a = place_by head.after first c.code l past_test test_prints in
        let a' = place_by first second b.code (omega (arith, l, past_test)) past_body body_prints in
        let a'' = place_by second third s.code (omega (arith, l, past_test, past_body)) past_step step_prints in
        let two : PL from + length block + length (printed c.code) ≡ PL first = omega (arith, one, a) in
        let three : PL from + length block + length (printed c.code) + length (printed b.code) ≡ PL second = omega (arith, two, a') in
        let four : PL from + length block + length (printed c.code) + length (printed b.code) + length (printed s.code) ≡ PL third = omega (arith, three, a'') in
        same_parts (PL from + length block) (PL from + length block + length (printed c.code)) (PL from + length block + length (printed c.code) + length (printed b.code))
        (PL from + length block + length (printed c.code) + length (printed b.code) + length (printed s.code)) (PL head.after) (PL first) (PL second) (PL third)
        (inside_code c.code (PL from + length block)) (inside_code b.code (PL from + length block + length (printed c.code))) (inside_code s.code (PL from + length block + length (printed c.code) + length (printed b.code)))
        (inside_code r.code (PL from + length block + length (printed c.code) + length (printed b.code) + length (printed s.code))) (M (L in_test)) (M (L in_body)) (M (L in_step)) (M (L in_rest) ++ E) one two three four
        (ap (inside_code c.code) one ∙ inner_alone plan insts (intervals_of v.derivation) (condition new head.merge) (Some inner) head.after first in_test c)
        (ap (inside_code b.code) two ∙ inner_alone plan insts (intervals_of v.derivation) (body new head.merge head.next) None first second in_body b)
        (ap (inside_code s.code) three ∙ inner_alone plan insts (intervals_of v.derivation) (continuing new head.header) None second third in_step s)
        (ap (inside_code r.code) four ∙ r.inner)
        ∙ parts_behind (PL head.after) (PL first) (PL second) (PL third) (M (L in_test)) (M (L in_body)) (M (L in_step)) (M (L in_rest)) E
        ∙ ap (λ (l : List Interval). l ++ E) (sym (moved_parts plan insts head.after first second third (L in_test) (L in_body) (L in_step) (L in_rest)) ∙ ap M (sym same))

    no_next : (next : Option ℕ) → (next ≡ None) ⊎ (next ≡ None) → next ≡ None
    no_next next (inl is) = is
    no_next next (inr is) = is

    pub loops_made : Made plan insts (intervals_of v.derivation) new goal onward from to all
    loops_made = record {
      code = new_code;
      fits = record {
        next = r.fits.next;
        fits = loops (begins_alone words v zeros plan p old new from (kind.Loops head) h head.after up_to) loops_block
            (subst (λ (next : Option ℕ). Fits (condition new head.merge) (Some head.test) c.code next) known (subst (λ (n : ℕ). Fits (condition new head.merge) (Some n) c.code c.fits.next) at_test c.fits.fits))
            (subst (λ (next : Option ℕ). Fits (body new head.merge head.next) (Some inner) b.code next) (no_next b.fits.next b.fits.next_is) (subst (λ (n : ℕ). Fits (body new head.merge head.next) (Some n) b.code b.fits.next) at_inner b.fits.fits))
            (subst (λ (next : Option ℕ). Fits (continuing new head.header) (Some head.next) s.code next) (no_next s.fits.next s.fits.next_is) (subst (λ (n : ℕ). Fits (continuing new head.header) (Some n) s.code s.fits.next) at_next s.fits.fits))
            (subst (λ (n : ℕ). Fits (behind_loop new) (Some n) r.code r.fits.next) at_merge r.fits.fits);
        next_is = r.fits.next_is;
      };
      end = r.end;
      prints = prints_all;
      inner = inner_all;
      only = only;
    }
