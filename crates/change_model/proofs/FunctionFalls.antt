-- What one pass finds leaves the function fewer words, unless all stays.
use Rattle.std.proofs.Common.{◌≡◌, ℕ, zero, suc, ◌+◌, ◌-◌, ◌<◌, ◌≤◌, ◌==◌, ◌&&◌, inl, inr, Bool, true, false, not, if◌then◌else◌, List, [], ◌∷◌, ◌++◌, length, take, drop, refl, ap, sym, ◌∙◌, subst, arith, Option, None, Some}
use Rattle.std.proofs.lemmas.Bool.{cases_lt, eq-eqb}
use Rattle.std.proofs.lemmas.List.{drop_more}
use Rattle.std.proofs.Math.Seq.{drop-append-add}
use Rattle.std.specs.List.{flat_map, range_with_len}
use Rattle.typed_model.proofs.BlockParts.{clash}
use Rattle.spirv_model.specs.declared.module.Inst.{Inst}
use Rattle.spirv_model.specs.declared.op.TheConstants as op
use Rattle.spirv_model.specs.Operands.{word_at}
use Rattle.valid_model.specs.Definitions.{inst_at, no_instruction}
use Rattle.typed_model.proofs.ValidModules.{valid_sound}
use Rattle.change_model.specs.declared.fate.Fate.{Fate}
use Rattle.change_model.specs.declared.fate.Fate.TheVariants as fate
use Rattle.change_model.specs.Folding.{function_at}
use Rattle.change_model.specs.Plans.{branch_to, changed, constant_at, is_dead, later_places, switch_to, written_as, written_at}
use Rattle.change_model.specs.PlanRules.{IsPlan, is_skipped, stays}
use Rattle.change_model.specs.Passes.{goes_to, has_one_way, is_free, picks_one, switched_way}
use Rattle.change_model.proofs.ChangedPlaces.{function_within, level_long, new_constants, place_behind, place_left, written_before}
use Rattle.change_model.proofs.ChangedWords.{choice_long}
use Rattle.change_model.proofs.ChangedWritable.{one_smaller}
use Rattle.change_model.proofs.FoldedWords.{size, size_both, size_more}
use Rattle.change_model.proofs.FoundOrigins.{alive_fate, alive_switch, dead_fate}
use Rattle.change_model.proofs.FoundPlans.{Found}
use Rattle.change_model.proofs.LeftFunction.{plan_derives}
use Rattle.change_model.proofs.MovedUp.{function_is}
use Rattle.change_model.proofs.Pieces.{pieces}
use Rattle.change_model.proofs.Planned.{Planned, choice_of, fits_there, inside}

-- the words of a list from OpFunction on
abbrev pub function_size : List Inst → ℕ
function_size insts = size (drop (function_at insts) insts)

-- ---- one instruction

none_size : size [] ≡ 0
none_size = refl

module _ (f : Found) (is : IsPlan f.words f.valid f.zeros f.plan) where
  abbrev g : Planned
  g = record { words = f.words; valid = f.valid; zeros = f.zeros; plan = f.plan; is = is }

  abbrev insts : List Inst
  insts = f.words.insts

  no_longer : (place : ℕ) → function_at f.words.insts ≤ place → place < length f.words.insts → size (written_at f.plan f.words.insts place) ≤ length (inst_at f.words.insts place).words + 1
  no_longer place low within = let e = one_smaller g place low within in omega (arith, e)

  -- an OpSwitch keeps one way only where it had several
  picks_several : (place label : ℕ) → f.plan.fate place ≡ fate.Picks label → has_one_way (inst_at f.words.insts place) ≡ false
  picks_several place label picks = by_way (has_one_way (inst_at insts place)) refl
    where
      skip_picks : (way : Option ℕ) → goes_to way ≡ fate.Picks label → ⊥
      skip_picks None is = cc
      skip_picks (Some to) is = cc

      by_tests : (a b : Bool) (first second : Option ℕ) → (if a then goes_to first else if b && false then picks_one second else fate.Stays) ≡ fate.Picks label → ⊥
      by_tests true b first second is = skip_picks first is
      by_tests false true first second is = cc
      by_tests false false first second is = cc

      dead_picks : fate.Dead ≡ fate.Picks label → ⊥
      dead_picks is = cc

      by_way : (b : Bool) → has_one_way (inst_at f.words.insts place) ≡ b → has_one_way (inst_at f.words.insts place) ≡ false
      by_way false one = one
      by_way true one =
          let i = inside g place (fate.Picks label) picks refl in
          let own = (fits_there g place (fate.Picks label) picks i).is_switch in
          let isnt = ap (λ (o : ℕ). o == op.LABEL) own in
          by_life (is_dead (f.plan.fate (place - 1))) refl i.low i.high own isnt
        where
          by_life : (b : Bool) → is_dead (f.plan.fate (place - 1)) ≡ b → f.valid.derivation.before < place → place < f.valid.derivation.after → (inst_at f.words.insts place).op ≡ op.SWITCH
              → (inst_at f.words.insts place).op == op.LABEL ≡ false → has_one_way (inst_at f.words.insts place) ≡ false
          by_life true dead low high own isnt = absurd (dead_picks (sym (dead_fate f place low high isnt dead) ∙ picks))
          by_life false alive low high own isnt =
              absurd (by_tests (is_skipped (f.plan.fate (place - 1))) (is_free insts place) (switched_way f.plan insts place) (switched_way f.plan insts place)
              (ap (λ (one : Bool). if is_skipped (f.plan.fate (place - 1)) then goes_to (switched_way f.plan insts place) else if is_free insts place && not one then picks_one (switched_way f.plan insts place) else fate.Stays) (sym one)
              ∙ sym (alive_fate f place low high isnt alive ∙ alive_switch f place own) ∙ picks))

  several_long : (inst : Inst) → has_one_way inst ≡ false → 2 ≤ length inst.words → 3 ≤ length inst.words
  several_long inst several least = elim (cases_lt 2 (length inst.words)) [
    | inl more ↦ omega (arith, more)
    | inr most ↦ let e : length inst.words ≡ 2 = omega (arith, least, most) in absurd (clash (length inst.words == 2) (eq-eqb (length inst.words) 2 e) several)
  ]

  two_words : (label : ℕ) → size (branch_to label ∷ []) ≡ 2
  two_words label = refl

  three_words : (selector label : ℕ) → size (switch_to selector label ∷ []) ≡ 3
  three_words selector label = refl

  shorter : (place : ℕ) → f.valid.derivation.before < place → place < length f.words.insts → (what : Fate) → f.plan.fate place ≡ what → stays what ≡ false
      → size (written_as f.plan f.words.insts place (inst_at f.words.insts place) what) < length (inst_at f.words.insts place).words + 1
  shorter place low within (fate.Goes label) same isnt =
      let i = inside g place (fate.Goes label) same refl in
      let long = choice_long (inst_at insts place) (choice_of f.plan insts (inst_at insts place) label (fits_there g place (fate.Goes label) same i).only) ((valid_sound f.words f.valid).shaped place within) in
      omega (arith, long, two_words label)
  shorter place low within (fate.Picks label) same isnt =
      let i = inside g place (fate.Picks label) same refl in
      let long = choice_long (inst_at insts place) (choice_of f.plan insts (inst_at insts place) label (fits_there g place (fate.Picks label) same i).only) ((valid_sound f.words f.valid).shaped place within) in
      let more = several_long (inst_at insts place) (picks_several place label same) long in
      let three = three_words (f.plan.name (word_at 0 (inst_at insts place))) label in
      omega (arith, more, three)
  shorter place low within fate.Stays same isnt = cc
  shorter place low within fate.Dead same isnt = omega arith
  shorter place low within (fate.Folds scalar) same isnt = omega arith
  shorter place low within fate.Nulls same isnt = omega arith
  shorter place low within fate.Resolves same isnt = omega arith
  shorter place low within fate.Skips same isnt = omega arith
  shorter place low within fate.Unused same isnt = omega arith

  -- ---- all of them

  sums : (a b c n s t : ℕ) → a ≡ b + c → n ≡ s + t → b ≤ s → c ≤ t → a ≤ n
  sums a b c n s t p q x y = omega (arith, p, q, x, y)

  less_first : (a b c n s t : ℕ) → a ≡ b + c → n ≡ s + t → b < s → c ≤ t → a < n
  less_first a b c n s t p q x y = omega (arith, p, q, x, y)

  less_second : (a b c n s t : ℕ) → a ≡ b + c → n ≡ s + t → b ≤ s → c < t → a < n
  less_second a b c n s t p q x y = omega (arith, p, q, x, y)

  old_more : (from : ℕ) → from < length f.words.insts → size (drop from f.words.insts) ≡ length (inst_at f.words.insts from).words + 1 + size (drop (from + 1) f.words.insts)
  old_more from within = ap size (drop_more insts from no_instruction within) ∙ size_more (inst_at insts from) (drop (from + 1) insts)

  all_no_longer : (n from : ℕ) → function_at f.words.insts ≤ from → from + n ≡ length f.words.insts → size (pieces (written_at f.plan f.words.insts) from n) ≤ size (drop from f.words.insts)
  all_no_longer zero from low long = omega arith
  all_no_longer (suc n) from low long =
      let w = written_at f.plan insts in
      let within : from < length insts = omega (arith, long) in
      sums (size (w from ++ pieces w (from + 1) n)) (size (w from)) (size (pieces w (from + 1) n)) (size (drop from insts)) (length (inst_at insts from).words + 1) (size (drop (from + 1) insts))
      (size_both (w from) (pieces w (from + 1) n)) (old_more from within) (no_longer from low within) (all_no_longer n (from + 1) (omega (arith, low)) (omega (arith, long)))

  one_shorter : (at : ℕ) → stays (f.plan.fate at) ≡ false → (n from : ℕ) → function_at f.words.insts ≤ from → from + n ≡ length f.words.insts → from ≤ at → at < from + n
      → size (pieces (written_at f.plan f.words.insts) from n) < size (drop from f.words.insts)
  unfolding written_at
  one_shorter at changes zero from low long least less = absurd (omega (arith, least, less))
  one_shorter at changes (suc n) from low long least less = elim (cases_lt from at) [
    | inl behind ↦
        let w = written_at f.plan insts in
        let within : from < length insts = omega (arith, long) in
        less_second (size (w from ++ pieces w (from + 1) n)) (size (w from)) (size (pieces w (from + 1) n)) (size (drop from insts)) (length (inst_at insts from).words + 1) (size (drop (from + 1) insts))
        (size_both (w from) (pieces w (from + 1) n)) (old_more from within) (no_longer from low within)
        (one_shorter at changes n (from + 1) (omega (arith, low)) (omega (arith, long)) (omega (arith, behind)) (omega (arith, less)))
    | inr here ↦
        let w = written_at f.plan insts in
        let within : from < length insts = omega (arith, long) in
        let e : at ≡ from = omega (arith, least, here) in
        let goes = ap (λ (n : ℕ). stays (f.plan.fate n)) (sym e) ∙ changes in
        let i = inside g from (f.plan.fate from) refl goes in
        less_first (size (w from ++ pieces w (from + 1) n)) (size (w from)) (size (pieces w (from + 1) n)) (size (drop from insts)) (length (inst_at insts from).words + 1) (size (drop (from + 1) insts))
        (size_both (w from) (pieces w (from + 1) n)) (old_more from within) (shorter from i.low within (f.plan.fate from) refl goes)
        (all_no_longer n (from + 1) (omega (arith, low)) (omega (arith, long)))
  ]

  -- ---- the function of the new list

  new_function : drop (function_at (changed f.plan f.words.insts)) (changed f.plan f.words.insts)
      ≡ pieces (written_at f.plan f.words.insts) (function_at f.words.insts) (length f.words.insts - function_at f.words.insts)
  unfolding changed new_constants written_before
  new_function =
      let first = function_at insts in
      let l = plan_derives f.words f.valid f.zeros f.plan is in
      let level = take first insts in
      let constants = flat_map (constant_at f.plan insts) (later_places insts) in
      let written = flat_map (written_at f.plan insts) (later_places insts) in
      let place : function_at (changed f.plan insts) ≡ first + (length constants + 0) =
      function_is (changed f.plan insts) l.derivation ∙ l.before ∙ ap (place_left f.plan insts) (sym (function_is insts f.valid.derivation)) ∙ place_behind f.plan insts first (omega arith)
      ∙ ap (λ (n : ℕ). first + (length constants + length (flat_map (written_at f.plan insts) (range_with_len first n)))) {x = first - first} {y = 0} (omega arith) in
      let long = level_long insts in
      ap (λ (n : ℕ). drop n (level ++ (constants ++ written))) (place ∙ ap (λ (n : ℕ). n + (length constants + 0)) (sym long))
      ∙ drop-append-add level (constants ++ written) (length constants + 0) ∙ drop-append-add constants written 0

  -- where anything goes, the function has fewer words
  pub function_falls : (at : ℕ) → stays (f.plan.fate at) ≡ false → function_size (changed f.plan f.words.insts) < function_size f.words.insts
  function_falls at changes =
      let i = inside g at (f.plan.fate at) refl changes in
      let low = i.low in let high = i.high in let last = f.valid.derivation.last in
      let first = function_is insts f.valid.derivation in
      let most = function_within insts in
      let less = one_shorter at changes (length insts - function_at insts) (function_at insts) (omega arith) (omega (arith, most)) (omega (arith, low, first)) (omega (arith, high, last, most)) in
      subst (λ (l : List Inst). size l < function_size insts) (sym new_function) less
