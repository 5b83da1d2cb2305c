-- The blocks of the list that a plan makes: those that aren't dead, each with its end where that comes to stand.
use Rattle.std.proofs.Common.{◌≡◌, ℕ, zero, suc, ◌+◌, ◌-◌, ◌<◌, ◌≤◌, ◌==◌, ◌||◌, ◌⊎◌, inl, inr, Bool, true, false, if◌then◌else◌, List, [], ◌∷◌, ◌++◌, length, take, drop, drop-cons, map, append_assoc, length-append, refl, ap, sym, ◌∙◌, subst, arith, Option, Some}
use Rattle.std.specs.Prelude.{filter}
use Rattle.std.specs.List.{find}
use Rattle.std.specs.Option.{option_map}
use Rattle.std.proofs.lemmas.Bool.{eqb-true}
use Rattle.std.proofs.lemmas.List.{drop_at, take_at, length-take-le}
use Rattle.std.proofs.lemmas.Option.{slice_get-get_or}
use Rattle.spirv_model.specs.declared.module.Inst.{Inst}
use Rattle.spirv_model.specs.declared.module.Words.{Words}
use Rattle.spirv_model.specs.declared.op.TheConstants as op
use Rattle.spirv_model.specs.Operands.{word_at, entry_of, class_of}
use Rattle.body_model.specs.Classes.{is_terminator, is_module_level}
use Rattle.body_model.specs.Grammar.{Derives}
use Rattle.body_model.specs.Switches.{is_among}
use Rattle.body_model.specs.Targets.{targets}
use Rattle.body_model.proofs.ClassFacts.{straight_label}
use Rattle.body_model.proofs.Forward.{forward}
use Rattle.valid_model.specs.Definitions.{inst_at, no_instruction}
use Rattle.check_model.specs.Branches.{Block, blocks_from, blocks_of, leads_to, is_labelled, predecessors, block_end_of, label_behind}
use Rattle.typed_model.proofs.BlockLists.{next_label, label_behind_next}
use Rattle.check_model.specs.Intervals.{intervals_of}
use Rattle.typed_model.proofs.BlockParts.{another}
use Rattle.typed_model.proofs.FirstBlocks.{found_at}
use Rattle.typed_model.proofs.FunctionParts.{function_starts}
use Rattle.typed_model.proofs.LabelsBefore.{stands_there, ends_in_function}
use Rattle.typed_model.proofs.ValidFunctions.{front_of}
use Rattle.change_model.specs.declared.fate.Fate.{Fate}
use Rattle.change_model.specs.declared.fate.Fate.TheVariants as fate
use Rattle.change_model.specs.Folding.{function_at}
use Rattle.change_model.specs.Plans.{Plan, is_dead, targets_left, leads_from, is_led_by, predecessors_left, block_at, kept_at, written_at, changed}
use Rattle.change_model.proofs.BehindLevel.{end_op}
use Rattle.change_model.proofs.ChangedPlaces.{new_constants, written_before, place_left, place_behind, function_within, next_left}
use Rattle.change_model.proofs.LeftDerivations.{LeftDerivation}
use Rattle.change_model.proofs.LeftFates.{IsFixed, fixed_label, kept_op, written_stays}
use Rattle.change_model.proofs.LeftFunction.{plan_derives}
use Rattle.change_model.proofs.LeftHeads.{same_life, stays_in}
use Rattle.change_model.proofs.LeftScopes.{is_label_at, written}
use Rattle.change_model.proofs.LeftWritten.{written_more, written_split, written_one, dead_at}
use Rattle.change_model.proofs.MovedUp.{function_is}
use Rattle.change_model.proofs.Planned.{Planned}
use Rattle.change_model.proofs.PlanRunsStaysLabel.{kept_label}
use Rattle.change_model.proofs.SettledUses.{blocks_behind}
use Rattle.change_model.proofs.TerminatorsLeft.{ends_left, one_left}

-- ---- two lists of blocks

-- the second blocks are the first ones that aren't dead, each with its end where that comes to stand, and leading where it still leads
pub data AreLeft (plan : Plan) (insts : List Inst) : List Block → List Block → Type 0 where
  no_blocks : AreLeft plan insts [] []
  left_out : {block : Block} {old new : List Block} → is_dead (plan.fate block.end) ≡ true → AreLeft plan insts old new → AreLeft plan insts (block ∷ old) new
  left_in : {block block' : Block} {old new : List Block} → is_dead (plan.fate block.end) ≡ false → block'.label ≡ block.label → block'.end ≡ place_left plan insts block.end
      → ((label : ℕ) → leads_to label block' ≡ is_led_by plan insts label block) → AreLeft plan insts old new → AreLeft plan insts (block ∷ old) (block' ∷ new)

abbrev labels_of : List Block → List ℕ
labels_of blocks = map (λ (block : Block). block.label) blocks

led_none : (plan : Plan) (insts : List Inst) (label place : ℕ) → is_dead (plan.fate place) ≡ true → leads_from plan insts label place ≡ false
led_none plan insts label place is = by_fate (plan.fate place) is
  where
    by_fate : (what : Fate) → is_dead what ≡ true → is_among label (targets_left what (inst_at insts place)) ≡ false
    by_fate fate.Dead is = refl
    by_fate other is = cc

-- the same ones lead to a block
same_predecessors : (plan : Plan) (insts : List Inst) (label : ℕ) {old new : List Block} → AreLeft plan insts old new
    → labels_of (filter (leads_to label) new) ≡ labels_of (filter (is_led_by plan insts label) old)
same_predecessors plan insts label no_blocks = refl
same_predecessors plan insts label (left_out {block = block} {old = old} {new = new} dead rest) =
    same_predecessors plan insts label rest
    ∙ ap (λ (b : Bool). labels_of (if b then block ∷ filter (is_led_by plan insts label) old else filter (is_led_by plan insts label) old)) (sym (led_none plan insts label block.end dead))
same_predecessors plan insts label (left_in {block = block} {block' = block'} {old = old} {new = new} alive named ends leads rest) =
    ap (λ (b : Bool). labels_of (if b then block' ∷ filter (leads_to label) new else filter (leads_to label) new)) (leads label)
    ∙ by_test (is_led_by plan insts label block) (same_predecessors plan insts label rest)
  where
    by_test : (b : Bool) → labels_of (filter (leads_to label) new) ≡ labels_of (filter (is_led_by plan insts label) old)
        → labels_of (if b then block' ∷ filter (leads_to label) new else filter (leads_to label) new)
        ≡ labels_of (if b then block ∷ filter (is_led_by plan insts label) old else filter (is_led_by plan insts label) old)
    by_test true same = ap (λ (l : ℕ). l ∷ labels_of (filter (leads_to label) new)) named ∙ ap (λ (l : List ℕ). block.label ∷ l) same
    by_test false same = same

abbrev end_in : ℕ → List Block → Option ℕ
end_in label blocks = option_map (λ (block : Block). block.end) (find (is_labelled label) blocks)

clash : {Q : Type 0} (b : Bool) → b ≡ true → b ≡ false → Q
clash true is isnt = cc
clash false is isnt = cc

-- a block that isn't dead ends where its end comes to stand
same_end : (plan : Plan) (insts : List Inst) (label end : ℕ) {old new : List Block} → AreLeft plan insts old new → end_in label old ≡ Some end → is_dead (plan.fate end) ≡ false → end_in label new ≡ Some (place_left plan insts end)
same_end plan insts label end no_blocks at alive = cc
same_end plan insts label end (left_out {block = block} {old = old} {new = new} dead rest) at alive = by_test (is_labelled label block) at (λ at. same_end plan insts label end rest at alive)
  where
    one : (a b : ℕ) → ◌≡◌ {A = Option ℕ} (Some a) (Some b) → a ≡ b
    one a b is = cc

    by_test : (b : Bool) → option_map (λ (block : Block). block.end) (if b then Some block else find (is_labelled label) old) ≡ Some end
        → (end_in label old ≡ Some end → end_in label new ≡ Some (place_left plan insts end)) → end_in label new ≡ Some (place_left plan insts end)
    by_test true at more = clash (is_dead (plan.fate block.end)) dead (ap (λ (n : ℕ). is_dead (plan.fate n)) (one block.end end at) ∙ alive)
    by_test false at more = more at
same_end plan insts label end (left_in {block = block} {block' = block'} {old = old} {new = new} lives named ends leads rest) at alive =
    ap (λ (b : Bool). option_map (λ (block : Block). block.end) (if b then Some block' else find (is_labelled label) new)) (ap (λ (l : ℕ). l == label) named)
    ∙ by_test (is_labelled label block) at (λ at. same_end plan insts label end rest at alive)
  where
    one : (a b : ℕ) → ◌≡◌ {A = Option ℕ} (Some a) (Some b) → a ≡ b
    one a b is = cc

    by_test : (b : Bool) → option_map (λ (block : Block). block.end) (if b then Some block else find (is_labelled label) old) ≡ Some end
        → (end_in label old ≡ Some end → end_in label new ≡ Some (place_left plan insts end))
        → option_map (λ (block : Block). block.end) (if b then Some block' else find (is_labelled label) new) ≡ Some (place_left plan insts end)
    by_test true at more = ap (λ (n : ℕ). Some n) (ends ∙ ap (place_left plan insts) (one block.end end at))
    by_test false at more = more at

-- ---- one instruction more

passed : (label place : ℕ) (inst : Inst) (rest : List Inst) → is_terminator inst.op ≡ false → blocks_from label place (inst ∷ rest) ≡ blocks_from (next_label inst label) (place + 1) rest
passed label place inst rest isnt = by_test (inst.op == op.LABEL)
  where
    by_test : (b : Bool) → (if b then blocks_from (word_at 0 inst) (place + 1) rest else if is_terminator inst.op then record { label = label; end = place; targets = targets inst } ∷ blocks_from label (place + 1) rest else blocks_from label (place + 1) rest)
        ≡ blocks_from (if b then word_at 0 inst else label) (place + 1) rest
    by_test true = refl
    by_test false = ap (λ (b : Bool). if b then record { label = label; end = place; targets = targets inst } ∷ blocks_from label (place + 1) rest else blocks_from label (place + 1) rest) isnt

ended : (label place : ℕ) (inst : Inst) (rest : List Inst) → is_terminator inst.op ≡ true → blocks_from label place (inst ∷ rest) ≡ record { label = label; end = place; targets = targets inst } ∷ blocks_from label (place + 1) rest
ended label place inst rest is =
    ap (λ (b : Bool). if b then blocks_from (word_at 0 inst) (place + 1) rest else if is_terminator inst.op then record { label = label; end = place; targets = targets inst } ∷ blocks_from label (place + 1) rest else blocks_from label (place + 1) rest)
    (another is_terminator op.LABEL straight_label inst.op is)
    ∙ ap (λ (b : Bool). if b then record { label = label; end = place; targets = targets inst } ∷ blocks_from label (place + 1) rest else blocks_from label (place + 1) rest) is

ended_label : (label : ℕ) (inst : Inst) → inst.op == op.LABEL ≡ false → next_label inst label ≡ label
ended_label label inst isnt = ap (λ (b : Bool). if b then word_at 0 inst else label) isnt

label_behind_both : (label : ℕ) (xs ys : List Inst) → label_behind label (xs ++ ys) ≡ label_behind (label_behind label xs) ys
label_behind_both label [] ys = refl
label_behind_both label (x ∷ xs) ys = label_behind_both (next_label x label) xs ys

drop_end : (xs : List Inst) → drop (length xs) xs ≡ []
drop_end [] = refl
drop_end (x ∷ xs) = drop_end xs

append_none : (xs : List Inst) → xs ++ [] ≡ xs
append_none [] = refl
append_none (x ∷ xs) = ap (λ (l : List Inst). x ∷ l) (append_none xs)

are_same : (plan : Plan) (insts : List Inst) (a a' b b' : List Block) → a ≡ a' → b ≡ b' → AreLeft plan insts a' b' → AreLeft plan insts a b
are_same plan insts a a' b b' first second are = subst (λ (l : List Block). AreLeft plan insts l b) (sym first) (subst (λ (l : List Block). AreLeft plan insts a' l) (sym second) are)

end_straight : is_terminator op.FUNCTION_END ≡ false
unfolding class_of entry_of
end_straight = refl

-- ---- before the function

no_level_function : is_module_level op.LABEL || (op.LABEL == op.FUNCTION) ≡ false
unfolding class_of entry_of
no_level_function = refl

level_label : (opcode : ℕ) → (is_module_level opcode || (opcode == op.FUNCTION)) ≡ true → opcode == op.LABEL ≡ false
level_label opcode level = another (λ (o : ℕ). is_module_level o || (o == op.FUNCTION)) op.LABEL no_level_function opcode level

no_end : (insts : List Inst) (d : Derives insts) (k : ℕ) → k < d.before + 1 → (b : Bool) → is_terminator (inst_at insts k).op ≡ b → b ≡ false
no_end insts d k less false straight = refl
no_end insts d k less true ends =
    let words : Words = record { insts = insts; bound = 0 } in
    let f = front_of words d in
    let w = f.within in
    let i = ends_in_function words d k (inst_at insts k) (slice_get-get_or insts k no_instruction (omega (arith, less, w))) ends in
    let low = i.0 in
    absurd (omega (arith, low, less))

-- the blocks of a list are those behind OpFunction
level_blocks : (insts : List Inst) (d : Derives insts) → blocks_of insts ≡ blocks_from 0 (d.before + 1) (drop (d.before + 1) insts)
unfolding blocks_of
level_blocks insts d =
    let f = front_of (record { insts = insts; bound = 0 }) d in
    blocks_behind insts (d.before + 1) 0 0 f.within (λ k less. (level_label (inst_at insts k).op (f.level k less), no_end insts d k less (is_terminator (inst_at insts k).op) refl))
    ∙ ap (λ (n : ℕ). blocks_from 0 n (drop (d.before + 1) insts)) {x = 0 + (d.before + 1)} {y = d.before + 1} (omega arith)

-- ---- the new list

module _ (g : Planned) where
  abbrev insts : List Inst
  insts = g.words.insts

  abbrev plan : Plan
  plan = g.plan

  abbrev d : Derives g.words.insts
  d = g.valid.derivation

  function_low : function_at insts ≡ d.before
  function_low = function_is insts d

  -- what stands up to the place of an old instruction
  abbrev front : ℕ → List Inst
  front place = take (function_at insts) insts ++ (new_constants plan insts ++ written plan insts (function_at insts) place)

  parts : changed plan insts ≡ take (function_at insts) insts ++ (new_constants plan insts ++ written plan insts (function_at insts) (length insts))
  unfolding changed new_constants written
  parts = refl

  two_parts : (place : ℕ) → function_at insts ≤ place → place ≤ length insts → changed plan insts ≡ front place ++ written plan insts place (length insts)
  two_parts place low high =
      let F = take (function_at insts) insts in
      let C = new_constants plan insts in
      let W = written plan insts (function_at insts) place in
      let R = written plan insts place (length insts) in
      parts ∙ ap (λ (l : List Inst). F ++ (C ++ l)) (written_split plan insts (function_at insts) place (length insts) low high)
      ∙ ap (λ (l : List Inst). F ++ l) (sym (append_assoc C W R)) ∙ sym (append_assoc F (C ++ W) R)

  written_is : (place : ℕ) → written plan insts (function_at insts) place ≡ written_before plan insts place
  unfolding written written_before
  written_is place = refl

  front_long : (place : ℕ) → function_at insts ≤ place → length (front place) ≡ place_left plan insts place
  front_long place low =
      let a = length-append (take (function_at insts) insts) (new_constants plan insts ++ written plan insts (function_at insts) place) in
      let b = length-append (new_constants plan insts) (written plan insts (function_at insts) place) in
      let c = length-take-le (function_at insts) insts (function_within insts) in
      let e = ap length (written_is place) in
      let f = place_behind plan insts place low in
      omega (arith, a, b, c, e, f)

  pub front_is : (place : ℕ) → function_at insts ≤ place → place ≤ length insts → take (place_left plan insts place) (changed plan insts) ≡ front place
  front_is place low high =
      let l = front_long place low in
      ap (take (place_left plan insts place)) (two_parts place low high) ∙ take_at (front place) (written plan insts place (length insts)) (place_left plan insts place) (omega (arith, l))

  rest_is : (place : ℕ) → function_at insts ≤ place → place ≤ length insts → drop (place_left plan insts place) (changed plan insts) ≡ written plan insts place (length insts)
  rest_is place low high =
      let l = front_long place low in
      ap (drop (place_left plan insts place)) (two_parts place low high) ∙ drop_at (front place) (written plan insts place (length insts)) (place_left plan insts place) (omega (arith, l))

  front_next : (place : ℕ) → function_at insts ≤ place → front (place + 1) ≡ front place ++ written_at plan insts place
  front_next place low =
      let F = take (function_at insts) insts in
      let C = new_constants plan insts in
      let W = written plan insts (function_at insts) place in
      let own = written_at plan insts place in
      ap (λ (l : List Inst). F ++ (C ++ l)) (written_split plan insts (function_at insts) place (place + 1) low (omega arith) ∙ ap (λ (l : List Inst). W ++ l) (written_one plan insts place ∙ append_none own))
      ∙ ap (λ (l : List Inst). F ++ l) (sym (append_assoc C W own)) ∙ sym (append_assoc F (C ++ W) own)

  -- ---- labels

  -- at a place that isn't dead, and no OpLabel, the label is the same
  abbrev Agrees : (place old new : ℕ) → Type 0
  Agrees place old new = place < d.after → is_label_at insts place ≡ false → is_dead (plan.fate place) ≡ false → new ≡ old

  label_written : (place : ℕ) → d.before + 1 ≤ place → place < d.after → is_label_at insts place ≡ true → is_dead (plan.fate place) ≡ false → written_at plan insts place ≡ inst_at insts place ∷ []
  label_written place low high is alive =
      written_stays plan insts place (stays_in g.words g.valid g.zeros plan g.is place low high (subst IsFixed (sym (eqb-true (inst_at insts place).op op.LABEL is)) fixed_label) alive)
      ∙ ap (λ (i : Inst). i ∷ []) (kept_label plan insts place (inst_at insts place) is)

  -- anything else that isn't dead leaves no label
  no_label : (place : ℕ) → d.before + 1 ≤ place → place < d.after → is_label_at insts place ≡ false → is_dead (plan.fate place) ≡ false → (label : ℕ) → label_behind label (written_at plan insts place) ≡ label
  no_label place low high isnt alive label = by_kind (is_terminator (inst_at insts place).op) refl
    where
      one : (inst : Inst) → written_at plan insts place ≡ inst ∷ [] → inst.op == op.LABEL ≡ false → label_behind label (written_at plan insts place) ≡ label
      one inst is plain = ap (label_behind label) is ∙ ended_label label inst plain

      by_left : (written_at plan insts place ≡ []) ⊎ ((inst : Inst) × (written_at plan insts place ≡ inst ∷ []) × (inst.op ≡ (inst_at insts place).op)) → label_behind label (written_at plan insts place) ≡ label
      by_left (inl none) = ap (label_behind label) none
      by_left (inr some) = one some.0 some.1 (ap (λ (o : ℕ). o == op.LABEL) some.2 ∙ isnt)

      by_kind : (b : Bool) → is_terminator (inst_at insts place).op ≡ b → label_behind label (written_at plan insts place) ≡ label
      by_kind true ends = let e = ends_left g.words g.valid g.zeros plan g.is place low high ends alive in one e.inst e.written e.no_label
      by_kind false straight = by_left (one_left g.words g.valid g.zeros plan g.is place straight)

  agrees_next : (place old new : ℕ) → d.before + 1 ≤ place → place < d.after → Agrees place old new → Agrees (place + 1) (next_label (inst_at insts place) old) (label_behind new (written_at plan insts place))
  agrees_next place old new low high agrees within plain alive = by_kind (is_label_at insts place) refl
    where
      here : is_dead (plan.fate place) ≡ false
      here =
          sym (same_life g.words g.valid g.zeros plan g.is place (place + 1) (omega arith) low within (λ at more upto. ap (is_label_at insts) {x = at} {y = place + 1} (omega (arith, more, upto)) ∙ plain))
          ∙ alive

      by_kind : (b : Bool) → is_label_at insts place ≡ b → label_behind new (written_at plan insts place) ≡ next_label (inst_at insts place) old
      by_kind true is =
          ap (label_behind new) (label_written place low high is here) ∙ ap (λ (b : Bool). if b then word_at 0 (inst_at insts place) else new) is
          ∙ sym (ap (λ (b : Bool). if b then word_at 0 (inst_at insts place) else old) is)
      by_kind false isnt = no_label place low high isnt here new ∙ agrees high isnt here ∙ sym (ended_label old (inst_at insts place) isnt)

  -- ---- blocks

  place_next : (place : ℕ) → d.before + 1 ≤ place → place_left plan insts (place + 1) ≡ place_left plan insts place + length (written_at plan insts place)
  place_next place low = let f = function_low in ap (place_left plan insts) {x = place + 1} {y = suc place} (omega arith) ∙ next_left plan insts place (omega (arith, f, low))

  -- what is written for an instruction that isn't a terminator ends no block
  written_passed : (place new q : ℕ) (more : List Inst) → is_terminator (inst_at insts place).op ≡ false
      → blocks_from new q (written_at plan insts place ++ more) ≡ blocks_from (label_behind new (written_at plan insts place)) (q + length (written_at plan insts place)) more
  written_passed place new q more straight = by_left (one_left g.words g.valid g.zeros plan g.is place straight)
    where
      by_list : (list : List Inst) → (list ≡ []) ⊎ ((inst : Inst) × (list ≡ inst ∷ []) × (is_terminator inst.op ≡ false)) → blocks_from new q (list ++ more) ≡ blocks_from (label_behind new list) (q + length list) more
      by_list list (inl none) = subst (λ (l : List Inst). blocks_from new q (l ++ more) ≡ blocks_from (label_behind new l) (q + length l) more) (sym none) (ap (λ (n : ℕ). blocks_from new n more) {x = q} {y = q + 0} (omega arith))
      by_list list (inr some) = subst (λ (l : List Inst). blocks_from new q (l ++ more) ≡ blocks_from (label_behind new l) (q + length l) more) (sym some.1) (passed new q some.0 more some.2)

      by_left : (written_at plan insts place ≡ []) ⊎ ((inst : Inst) × (written_at plan insts place ≡ inst ∷ []) × (inst.op ≡ (inst_at insts place).op))
          → blocks_from new q (written_at plan insts place ++ more) ≡ blocks_from (label_behind new (written_at plan insts place)) (q + length (written_at plan insts place)) more
      by_left (inl none) = by_list (written_at plan insts place) (inl none)
      by_left (inr some) = by_list (written_at plan insts place) (inr (some.0, some.1, ap is_terminator some.2 ∙ straight))

  old_more : (place : ℕ) → place < d.after → drop place insts ≡ inst_at insts place ∷ drop (place + 1) insts
  old_more place high =
      let last = d.last in
      drop-cons insts place no_instruction (omega (arith, high, last)) ∙ ap (λ (n : ℕ). inst_at insts place ∷ drop n insts) {x = suc place} {y = place + 1} (omega arith)

  new_more : (place : ℕ) → place < d.after → written plan insts place (length insts) ≡ written_at plan insts place ++ written plan insts (place + 1) (length insts)
  new_more place high = let last = d.last in written_more plan insts place (length insts) (omega (arith, high, last))

  at_end_old : (label : ℕ) → blocks_from label d.after (drop d.after insts) ≡ []
  at_end_old label =
      let last = d.last in
      ap (blocks_from label d.after) (drop-cons insts d.after no_instruction (omega (arith, last)) ∙ ap (λ (l : List Inst). inst_at insts d.after ∷ l) (ap (λ (n : ℕ). drop n insts) {x = suc d.after} {y = length insts} (omega (arith, last)) ∙ drop_end insts))
      ∙ passed label d.after (inst_at insts d.after) [] (ap is_terminator (end_op insts d) ∙ end_straight)

  at_end_new : (label q : ℕ) → blocks_from label q (written plan insts d.after (length insts)) ≡ []
  at_end_new label q =
      let last = d.last in
      let stays = g.is.outside d.after (inr (omega arith)) in
      let kept = kept_at plan insts d.after (inst_at insts d.after) in
      ap (λ (n : ℕ). blocks_from label q (written plan insts d.after n)) {x = length insts} {y = d.after + 1} (omega (arith, last))
      ∙ ap (blocks_from label q) (written_one plan insts d.after ∙ append_none (written_at plan insts d.after) ∙ written_stays plan insts d.after stays)
      ∙ passed label q kept [] (ap is_terminator (kept_op plan insts (intervals_of d) g.zeros d.after ∙ end_op insts d) ∙ end_straight)

  -- one instruction more
  step_left : (place old new : ℕ) → d.before + 1 ≤ place → place < d.after → Agrees place old new
      → AreLeft plan insts (blocks_from (next_label (inst_at insts place) old) (place + 1) (drop (place + 1) insts)) (blocks_from (label_behind new (written_at plan insts place)) (place_left plan insts (place + 1)) (written plan insts (place + 1) (length insts)))
      → AreLeft plan insts (blocks_from old place (drop place insts)) (blocks_from new (place_left plan insts place) (written plan insts place (length insts)))
  step_left place old new low high agrees rest = by_kind (is_terminator inst.op) refl
    where
      inst : Inst
      inst = inst_at insts place

      own : List Inst
      own = written_at plan insts place

      q : ℕ
      q = place_left plan insts place

      more : List Inst
      more = written plan insts (place + 1) (length insts)

      old_block : Block
      old_block = record { label = old; end = place; targets = targets inst }

      ends_old : is_terminator inst.op ≡ true → blocks_from old place (drop place insts) ≡ old_block ∷ blocks_from (next_label inst old) (place + 1) (drop (place + 1) insts)
      ends_old ends =
          ap (blocks_from old place) (old_more place high) ∙ ended old place inst (drop (place + 1) insts) ends
          ∙ ap (λ (l : ℕ). old_block ∷ blocks_from l (place + 1) (drop (place + 1) insts)) (sym (ended_label old inst (another is_terminator op.LABEL straight_label inst.op ends)))

      by_life : is_terminator inst.op ≡ true → (b : Bool) → is_dead (plan.fate place) ≡ b → AreLeft plan insts (blocks_from old place (drop place insts)) (blocks_from new q (written plan insts place (length insts)))
      by_life ends true dead =
          let nothing = dead_at plan insts place dead in
          let next = place_next place low in
          let none_long : length (written_at plan insts place) ≡ 0 = ap length nothing in
          let same : place_left plan insts place ≡ place_left plan insts (place + 1) = omega (arith, next, none_long) in
          are_same plan insts (blocks_from old place (drop place insts)) (old_block ∷ blocks_from (next_label inst old) (place + 1) (drop (place + 1) insts)) (blocks_from new q (written plan insts place (length insts)))
          (blocks_from (label_behind new own) (place_left plan insts (place + 1)) more) (ends_old ends)
          (ap (blocks_from new q) (new_more place high ∙ ap (λ (l : List Inst). l ++ more) nothing) ∙ ap (λ (n : ℕ). blocks_from new n more) same ∙ ap (λ (l : List Inst). blocks_from (label_behind new l) (place_left plan insts (place + 1)) more) (sym nothing))
          (left_out dead rest)
      by_life ends false alive =
          let e = ends_left g.words g.valid g.zeros plan g.is place low high ends alive in
          let plain = another is_terminator op.LABEL straight_label inst.op ends in
          let next = place_next place low in
          let one_long : length (written_at plan insts place) ≡ 1 = ap length e.written in
          let same : place_left plan insts place + 1 ≡ place_left plan insts (place + 1) = omega (arith, next, one_long) in
          let label_same = ap (label_behind new) e.written ∙ ended_label new e.inst e.no_label in
          are_same plan insts (blocks_from old place (drop place insts)) (old_block ∷ blocks_from (next_label inst old) (place + 1) (drop (place + 1) insts)) (blocks_from new q (written plan insts place (length insts)))
          (record { label = new; end = q; targets = targets e.inst } ∷ blocks_from (label_behind new own) (place_left plan insts (place + 1)) more) (ends_old ends)
          (ap (blocks_from new q) (new_more place high ∙ ap (λ (l : List Inst). l ++ more) e.written) ∙ ended new q e.inst more e.ends
          ∙ ap (λ (n : ℕ). record { label = new; end = q; targets = targets e.inst } ∷ blocks_from new n more) same
          ∙ ap (λ (l : ℕ). record { label = new; end = q; targets = targets e.inst } ∷ blocks_from l (place_left plan insts (place + 1)) more) (sym label_same))
          (left_in alive (agrees high plain alive) refl (λ label. e.leads label) rest)

      by_kind : (b : Bool) → is_terminator inst.op ≡ b → AreLeft plan insts (blocks_from old place (drop place insts)) (blocks_from new q (written plan insts place (length insts)))
      by_kind true ends = by_life ends (is_dead (plan.fate place)) refl
      by_kind false straight =
          are_same plan insts (blocks_from old place (drop place insts)) (blocks_from (next_label inst old) (place + 1) (drop (place + 1) insts)) (blocks_from new q (written plan insts place (length insts)))
          (blocks_from (label_behind new own) (place_left plan insts (place + 1)) more)
          (ap (blocks_from old place) (old_more place high) ∙ passed old place inst (drop (place + 1) insts) straight)
          (ap (blocks_from new q) (new_more place high) ∙ written_passed place new q more straight ∙ ap (λ (n : ℕ). blocks_from (label_behind new own) n more) (sym (place_next place low))) rest

  blocks_left : (n place old new : ℕ) → place + n ≡ d.after → d.before + 1 ≤ place → Agrees place old new
      → AreLeft plan insts (blocks_from old place (drop place insts)) (blocks_from new (place_left plan insts place) (written plan insts place (length insts)))
  blocks_left zero place old new is low agrees =
      let e : place ≡ d.after = omega (arith, is) in
      are_same plan insts (blocks_from old place (drop place insts)) [] (blocks_from new (place_left plan insts place) (written plan insts place (length insts))) []
      (ap (λ (n : ℕ). blocks_from old n (drop n insts)) e ∙ at_end_old old)
      (ap (λ (n : ℕ). blocks_from new (place_left plan insts place) (written plan insts n (length insts))) e ∙ at_end_new new (place_left plan insts place)) no_blocks
  blocks_left (suc n) place old new is low agrees =
      let high : place < d.after = omega (arith, is) in
      step_left place old new low high agrees
      (blocks_left n (place + 1) (next_label (inst_at insts place) old) (label_behind new (written_at plan insts place)) (omega (arith, is)) (omega (arith, low)) (agrees_next place old new low high agrees))

  -- ---- the whole list

  l : LeftDerivation plan insts d
  l = plan_derives g.words g.valid g.zeros plan g.is

  ordered : d.before + 1 ≤ d.after
  ordered = let f = (forward insts d.sequence).forward in omega (arith, f)

  first_is : place_left plan insts (d.before + 1) ≡ place_left plan insts d.before + 1
  first_is =
      let f = function_low in
      let n = next_left plan insts d.before (omega (arith, f)) in
      let one = ap length (written_stays plan insts d.before (g.is.outside d.before (inl (omega arith)))) in
      let e : place_left plan insts (suc d.before) ≡ place_left plan insts (d.before + 1) = ap (place_left plan insts) {x = suc d.before} {y = d.before + 1} (omega arith) in
      omega (arith, n, one, e)

  never_label : is_label_at insts (d.before + 1) ≡ false → ⊥
  never_label isnt = let s = function_starts insts d in clash (is_label_at insts (d.before + 1)) (ap (λ (i : Inst). i.op == op.LABEL) (found_at insts (d.before + 1) s.inst s.at) ∙ s.is) isnt

  new_list : blocks_of (changed plan insts) ≡ blocks_from 0 (place_left plan insts (d.before + 1)) (written plan insts (d.before + 1) (length insts))
  new_list =
      let f = function_low in
      let o = ordered in
      let last = d.last in
      let e : l.derivation.before + 1 ≡ place_left plan insts (d.before + 1) = (let b = l.before in let s = first_is in omega (arith, b, s)) in
      level_blocks (changed plan insts) l.derivation ∙ ap (λ (n : ℕ). blocks_from 0 n (drop n (changed plan insts))) e
      ∙ ap (blocks_from 0 (place_left plan insts (d.before + 1))) (rest_is (d.before + 1) (omega (arith, f)) (omega (arith, o, last)))

  pub blocks_changed : AreLeft plan insts (blocks_of insts) (blocks_of (changed plan insts))
  blocks_changed =
      let o = ordered in
      are_same plan insts (blocks_of insts) (blocks_from 0 (d.before + 1) (drop (d.before + 1) insts)) (blocks_of (changed plan insts))
      (blocks_from 0 (place_left plan insts (d.before + 1)) (written plan insts (d.before + 1) (length insts))) (level_blocks insts d) new_list
      (blocks_left (d.after - (d.before + 1)) (d.before + 1) 0 0 (omega (arith, o)) (omega arith) (λ within isnt alive. refl))

  -- the blocks that still branch to one branch to it in the new list
  pub predecessors_changed : (label : ℕ) → predecessors (changed plan insts) label ≡ predecessors_left plan insts label
  unfolding predecessors predecessors_left
  predecessors_changed label = same_predecessors plan insts label blocks_changed

  -- a block that isn't dead ends where its end comes to stand
  pub block_end_changed : (label end : ℕ) → block_end_of insts label ≡ Some end → is_dead (plan.fate end) ≡ false → block_end_of (changed plan insts) label ≡ Some (place_left plan insts end)
  unfolding block_end_of
  block_end_changed label end at alive = same_end plan insts label end blocks_changed at alive

  -- ---- the label of a place

  label_from : (n : ℕ) → d.before + 1 + n < d.after → Agrees (d.before + 1 + n) (block_at insts (d.before + 1 + n)) (label_behind 0 (front (d.before + 1 + n)))
  label_from zero within = λ high isnt alive. absurd (never_label (ap (is_label_at insts) {x = d.before + 1} {y = d.before + 1 + 0} (omega arith) ∙ isnt))
  label_from (suc n) within =
      let place = d.before + 1 + n in
      let f = function_low in
      let here : place < d.after = omega (arith, within) in
      let a = agrees_next place (block_at insts place) (label_behind 0 (front place)) (omega arith) here (label_from n here) in
      let e : place + 1 ≡ d.before + 1 + suc n = omega arith in
      let own : next_label (inst_at insts place) (block_at insts place) ≡ block_at insts (place + 1) =
      sym (label_behind_next 0 insts place (inst_at insts place) (stands_there insts d place (omega arith) here)) ∙ ap (block_at insts) {x = suc place} {y = place + 1} (omega arith) in
      let new : label_behind (label_behind 0 (front place)) (written_at plan insts place) ≡ label_behind 0 (front (place + 1)) =
      sym (label_behind_both 0 (front place) (written_at plan insts place)) ∙ ap (label_behind 0) (sym (front_next place (omega (arith, f)))) in
      subst (λ (p : ℕ). Agrees p (block_at insts p) (label_behind 0 (front p))) e
      (λ high isnt alive. sym new ∙ a high isnt alive ∙ own)

  -- an instruction that isn't dead is in the same block
  pub label_changed : (place : ℕ) → d.before + 1 ≤ place → place < d.after → is_label_at insts place ≡ false → is_dead (plan.fate place) ≡ false → block_at (changed plan insts) (place_left plan insts place) ≡ block_at insts place
  label_changed place low high isnt alive =
      let f = function_low in
      let last = d.last in
      let e : d.before + 1 + (place - (d.before + 1)) ≡ place = omega (arith, low) in
      let a : Agrees place (block_at insts place) (label_behind 0 (front place)) =
      subst (λ (p : ℕ). Agrees p (block_at insts p) (label_behind 0 (front p))) e (label_from (place - (d.before + 1)) (omega (arith, e, high))) in
      ap (label_behind 0) (front_is place (omega (arith, f, low)) (omega (arith, high, last))) ∙ a high isnt alive
