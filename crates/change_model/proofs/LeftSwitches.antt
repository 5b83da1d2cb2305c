-- The code that is made of a sequence whose first block ends in an OpSwitch with a merge instruction that stays.
use Rattle.std.proofs.Common.{◌≡◌, ℕ, suc, ◌+◌, ◌-◌, ◌<◌, ◌≤◌, nat_le, false, ◌==◌, List, [], ◌∷◌, ◌++◌, length, length-append, map, slice_index, append_assoc, refl, ap, sym, ◌∙◌, subst, arith, Option, Some}
use Rattle.std.specs.Prelude.{slice_get}
use Rattle.std.proofs.lemmas.Bool.Decides.{nat_tests}
use Rattle.std.proofs.lemmas.List.{map-append}
use Rattle.limits.specs.declared.TheConstants.{NESTING}
use Rattle.spirv_model.specs.declared.module.Inst.{Inst}
use Rattle.spirv_model.specs.declared.module.Words.{Words}
use Rattle.spirv_model.specs.declared.op.TheConstants as op
use Rattle.spirv_model.specs.Operands.{word_at}
use Rattle.body_model.specs.declared.block_end.BlockEnd.{BlockEnd}
use Rattle.body_model.specs.declared.block_end.BlockEnd.TheVariants as kind
use Rattle.body_model.specs.Blocks.{last_part}
use Rattle.body_model.specs.Scope.{Scope, behind_selection}
use Rattle.body_model.specs.Switches.{words_at, repeat, literals_of, arm_labels, cases_of}
use Rattle.body_model.specs.Code.{Code, CodeArms, Picks, printed, printed_arms}
use Rattle.body_model.specs.Fitting.{EndsAs, Fits, FitsArms, last_words, picks}
use Rattle.valid_model.specs.Definitions.{inst_at}
use Rattle.check_model.specs.Intervals.{Interval, intervals_of}
use Rattle.check_model.specs.Validity.{IsValidList}
use Rattle.check_model.proofs.CodeIntervals.{inside_code, inside_arms, past}
use Rattle.change_model.specs.Folding.{function_at}
use Rattle.change_model.specs.declared.fate.Fate.TheVariants as fate
use Rattle.change_model.specs.Plans.{Plan, kept_at, written_at}
use Rattle.change_model.specs.PlanRules.{IsPlan, intervals_left, stays}
use Rattle.change_model.proofs.ChangedPlaces.{place_left}
use Rattle.change_model.proofs.LeftBlocks.{is_inner}
use Rattle.change_model.proofs.LeftFates.{inners, written_stays, kept_op}
use Rattle.change_model.proofs.LeftIntervals.{moved}
use Rattle.change_model.proofs.LeftLasts.{Head, and_no, last_here, ends_by, long_by, begins_alone}
use Rattle.change_model.proofs.LeftNames.{kept_word}
use Rattle.change_model.proofs.LeftScopes.{label_at, written, StandsNot, Quiet, Onward, Unled, Elsewhere, printed_behind, inside_behind, code_behind, Made}
use Rattle.change_model.proofs.LeftWritten.{written_more, written_one, written_split, written_places}
use Rattle.change_model.proofs.MovedUp.{function_is}

-- the code that is made of the arms of an OpSwitch
pub record MadeArms (plan : Plan) (insts : List Inst) (new : Scope) (merge : ℕ) (all due left : List ℕ) (from to : ℕ) (inside : List Interval) : Type 0 where
  pub code : CodeArms
  pub fits : FitsArms new merge all due code left
  pub prints : printed_arms code ≡ written plan insts from to
  pub inner : inside_arms code (place_left plan insts from) ≡ map (moved plan insts) (intervals_left plan insts inside)

deep_enough : (old new : ℕ) → new ≤ old → nat_le NESTING old ≡ false → nat_le NESTING new ≡ false
deep_enough old new less few = grind (arith, nat_tests)

picks_so : (scope : Scope) (header : ℕ) (inst last : Inst) (rest : List Inst) (place depth merge : ℕ) → inst.op ≡ op.SELECTION_MERGE → slice_index inst.words 0 ≡ merge → last.op ≡ op.SWITCH → scope.depth ≤ depth → nat_le NESTING depth ≡ false
    → repeat (literals_of last.words) ≡ false
    → last_part scope header inst (last ∷ rest) place ≡ kind.Picks (record { selector = slice_index last.words 0; merge = merge; default = slice_index last.words 1; after = place + 2 })
unfolding last_part
picks_so scope header inst last rest place depth merge is names switch less few once = rw is (rw names (rw switch (rw (deep_enough depth scope.depth less few) (rw once refl))))

-- the last of these
last_of_two : (xs : List Inst) (a b : Inst) → slice_get (xs ++ a ∷ b ∷ []) (suc (length xs)) ≡ Some b
last_of_two [] a b = refl
last_of_two (x ∷ xs) a b = last_of_two xs a b

pub last_words_of : (xs : List Inst) (a b : Inst) → last_words (xs ++ a ∷ b ∷ []) ≡ b.words
last_words_of xs a b =
    let long = length-append xs (a ∷ b ∷ []) in
    let same : length (xs ++ a ∷ b ∷ []) - 1 ≡ suc (length xs) = omega (arith, long) in
    ap (λ (n : ℕ). words_at (slice_get (xs ++ a ∷ b ∷ []) n)) same ∙ ap words_at (last_of_two xs a b)

module _ (words : Words) (v : IsValidList words) (zeros : List ℕ) (plan : Plan) (p : IsPlan words v zeros plan) (old new : Scope) (from : ℕ) (end : BlockEnd) (h : Head words v plan old new from end)
    (is : h.o.inst.op ≡ op.SELECTION_MERGE) (stay : plan.fate h.o.place ≡ fate.Stays) (second : Inst) (wrote_second : written_at plan words.insts (h.o.place + 1) ≡ second ∷ []) (switch : second.op ≡ op.SWITCH)
    (once : repeat (literals_of second.words) ≡ false) (named : plan.name (word_at 0 h.o.inst) ≡ word_at 0 h.o.inst) (less : new.depth ≤ old.depth) (few : nat_le NESTING old.depth ≡ false) where
  abbrev ending : ℕ
  ending = h.o.place + 2

  abbrev merge : ℕ
  merge = word_at 0 h.o.inst

  abbrev first : Inst
  first = kept_at plan words.insts h.o.place (inst_at words.insts h.o.place)

  abbrev block : List Inst
  block = written plan words.insts from ending

  merge_here : inst_at words.insts h.o.place ≡ h.o.inst
  merge_here = last_here words v zeros plan p old new from end h

  first_op : first.op ≡ op.SELECTION_MERGE
  first_op = kept_op plan words.insts (intervals_of v.derivation) zeros h.o.place ∙ ap (λ (i : Inst). i.op) merge_here ∙ is

  first_word : slice_index first.words 0 ≡ merge
  first_word =
      let own = ap (λ (i : Inst). word_at 0 i) merge_here in
      kept_word plan words.insts h.o.place 0 (inst_at words.insts h.o.place) (ap (λ (i : Inst). i.op == op.PHI) merge_here ∙ ap (λ (o : ℕ). o == op.PHI) is) (ap plan.name own ∙ named ∙ sym own) ∙ own

  wrote : written plan words.insts h.o.place ending ≡ first ∷ second ∷ []
  wrote =
      let end_is : ending ≡ h.o.place + 1 + 1 = omega arith in
      written_more plan words.insts h.o.place ending (omega arith)
      ∙ ap (λ (l : List Inst). l ++ written plan words.insts (h.o.place + 1) ending) (written_stays plan words.insts h.o.place stay)
      ∙ ap (λ (l : List Inst). first ∷ l) (ap (λ (n : ℕ). written plan words.insts (h.o.place + 1) n) end_is ∙ written_one plan words.insts (h.o.place + 1) ∙ ap (λ (l : List Inst). l ++ []) wrote_second)

  block_is : block ≡ written plan words.insts from h.o.place ++ first ∷ second ∷ []
  block_is = (let e = h.o.place_is in written_split plan words.insts from h.o.place ending (omega (arith, e)) (omega arith)) ∙ ap (λ (l : List Inst). written plan words.insts from h.o.place ++ l) wrote

  last_is : last_words block ≡ second.words
  last_is = ap last_words block_is ∙ last_words_of (written plan words.insts from h.o.place) first second

  -- the block ends in the OpSwitch
  picks_block : (behind : List Inst) → EndsAs new block behind (kind.Picks (record { selector = slice_index second.words 0; merge = merge; default = slice_index second.words 1; after = length block }))
  picks_block behind =
      ends_by words v zeros plan p old new from end h ending first (second ∷ []) behind (omega arith) wrote (ap is_inner first_op ∙ inners.selection_merge)
      (ap (λ (o : ℕ). o == op.LOOP_MERGE) first_op
      ∙ sym (and_no (stays (plan.fate h.o.place)) ((inst_at words.insts h.o.place).op == op.LOOP_MERGE) (ap (λ (i : Inst). i.op == op.LOOP_MERGE) merge_here ∙ ap (λ (o : ℕ). o == op.LOOP_MERGE) is)))
      ∙ picks_so new (label_at words.insts from) first second behind (length (written plan words.insts from h.o.place)) old.depth merge first_op first_word switch less few once
      ∙ ap (λ (n : ℕ). kind.Picks (record { selector = slice_index second.words 0; merge = merge; default = slice_index second.words 1; after = n }))
      (long_by words v zeros plan p old new from end h ending (first ∷ second ∷ []) (omega arith) wrote)

  -- with the arms and what stands behind them
  module _ (join to : ℕ) (goal : Option ℕ) (onward : Onward) (all in_arms in_rest : List Interval) (low : ending ≤ join) (further : join < to) (at_join : label_at words.insts join ≡ merge)
      (same : intervals_left plan words.insts all ≡ intervals_left plan words.insts in_arms ++ intervals_left plan words.insts in_rest)
      (a : MadeArms plan words.insts new merge (arm_labels merge second.words) (arm_labels merge second.words) [] ending join in_arms)
      (r : Made plan words.insts (intervals_of v.derivation) (behind_selection new) goal onward join to in_rest)
      (only : (other : ℕ) → StandsNot words.insts from to other → Quiet plan words.insts (intervals_of v.derivation) from to other → Elsewhere new goal r.end other → Unled plan words.insts from to other) where
    least : from ≤ ending
    least = let e = h.o.place_is in omega (arith, e)

    function_low : (place : ℕ) → from ≤ place → function_at words.insts ≤ place
    function_low place most = let f = function_is words.insts v.derivation in let l = h.low in omega (arith, f, l, most)

    at_first : place_left plan words.insts from + length block ≡ place_left plan words.insts ending
    at_first = written_places plan words.insts from ending least (function_low from (omega arith))

    at_end : place_left plan words.insts ending + length (printed_arms a.code) ≡ place_left plan words.insts join
    at_end = ap (λ (l : List Inst). place_left plan words.insts ending + length l) a.prints ∙ written_places plan words.insts ending join low (function_low ending least)

    abbrev new_code : Code
    new_code = Picks block (slice_index second.words 0) merge (slice_index second.words 1) (cases_of (last_words block)) a.code r.code

    arms_fit : FitsArms new merge (arm_labels merge (last_words block)) (arm_labels merge (last_words block)) a.code []
    arms_fit = subst (λ (ws : List ℕ). FitsArms new merge (arm_labels merge ws) (arm_labels merge ws) a.code []) (sym last_is) a.fits

    prints_all : printed new_code ≡ written plan words.insts from to ++ printed_behind (code_behind onward r.end)
    prints_all =
        let B = printed_behind (code_behind onward r.end) in
        let W = written plan words.insts in
        let m = least in
        let f = further in
        ap (λ (l : List Inst). block ++ l) (ap (λ (l : List Inst). l ++ printed r.code) a.prints ∙ ap (λ (l : List Inst). W ending join ++ l) r.prints
        ∙ sym (append_assoc (W ending join) (W join to) B) ∙ ap (λ (l : List Inst). l ++ B) (sym (written_split plan words.insts ending join to low (omega (arith, f)))))
        ∙ sym (append_assoc block (W ending to) B) ∙ ap (λ (l : List Inst). l ++ B) (sym (written_split plan words.insts from ending to m (omega (arith, f, low))))

    inner_all : inside_code new_code (place_left plan words.insts from) ≡ map (moved plan words.insts) (intervals_left plan words.insts all) ++ inside_behind (code_behind onward r.end) (place_left plan words.insts to)
    inner_all =
        let M = map (moved plan words.insts) in
        let L = intervals_left plan words.insts in
        let E = inside_behind (code_behind onward r.end) (place_left plan words.insts to) in
        ap (λ (n : ℕ). inside_arms a.code n ++ inside_code r.code (past n (printed_arms a.code))) at_first
        ∙ ap (λ (l : List Interval). l ++ inside_code r.code (past (place_left plan words.insts ending) (printed_arms a.code))) a.inner
        ∙ ap (λ (n : ℕ). M (L in_arms) ++ inside_code r.code n) at_end
        ∙ ap (λ (l : List Interval). M (L in_arms) ++ l) r.inner
        ∙ sym (append_assoc (M (L in_arms)) (M (L in_rest)) E)
        ∙ ap (λ (l : List Interval). l ++ E) (sym (map-append (moved plan words.insts) (L in_arms) (L in_rest)) ∙ ap M (sym same))

    pub picks_made : Made plan words.insts (intervals_of v.derivation) new goal onward from to all
    picks_made = record {
      code = new_code;
      fits = record {
        next = r.fits.next;
        fits = picks (begins_alone words v zeros plan p old new from end h ending (omega arith)) picks_block refl arms_fit
            (subst (λ (n : ℕ). Fits (behind_selection new) (Some n) r.code r.fits.next) at_join r.fits.fits);
        next_is = r.fits.next_is;
      };
      end = r.end;
      prints = prints_all;
      inner = inner_all;
      only = only;
    }
