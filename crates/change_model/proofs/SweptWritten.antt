-- What is swept writes the instructions that stay as they are, and no constants.
use Rattle.std.proofs.Common.{◌≡◌, ℕ, zero, suc, ◌+◌, ◌-◌, ◌<◌, ◌==◌, ◌%◌, ◌||◌, ◌⊎◌, inl, inr, Bool, true, false, if◌then◌else◌, List, [], ◌∷◌, ◌++◌, length, map, filter, take, drop, refl, ap, sym, ◌∙◌, arith, Option, None, Some, is_some}
use Rattle.std.specs.List.{flat_map, range_with_len}
use Rattle.std.specs.Option.{option_map}
use Rattle.std.proofs.lemmas.Bool.{eq-eqb, eqb-true}
use Rattle.spirv_model.specs.declared.module.Inst.{Inst}
use Rattle.spirv_model.specs.declared.module.Words.{Words}
use Rattle.spirv_model.specs.declared.op.TheConstants as op
use Rattle.spirv_model.specs.declared.table.Operand.{Operand}
use Rattle.spirv_model.specs.declared.table.Operand.TheVariants.{IdResultType, IdResult, IdRef, LiteralInteger, Fixed, LiteralString}
use Rattle.spirv_model.specs.Operands.{words_from, kinds, entry_of}
use Rattle.body_model.specs.Switches.{is_among}
use Rattle.body_model.specs.Targets.{targets}
use Rattle.valid_model.specs.Definitions.{inst_at}
use Rattle.check_model.specs.Validity.{IsValidList}
use Rattle.check_model.specs.Visibility.{Incoming, incoming_in, incoming_blocks}
use Rattle.typed_model.proofs.EffectsRun.{instruction}
use Rattle.typed_model.proofs.PlainRuns.{at_op}
use Rattle.typed_model.proofs.ValidModules.{valid_sound}
use Rattle.change_model.specs.declared.fate.Fate.{Fate}
use Rattle.change_model.specs.declared.fate.Fate.TheVariants.{Stays, Unused}
use Rattle.change_model.specs.Folding.{function_at}
use Rattle.change_model.specs.Plans.{Plan, targets_left, leads_from, predecessors_left, block_at, renamed_words, renamed_by, pairs_left, phi_left, kept_at, written_at, constant_as, constant_at, later_places, changed}
use Rattle.change_model.specs.PlanRules.{stays}
use Rattle.change_model.specs.Sweeping.{IsSwept}
use Rattle.change_model.proofs.ChangedPlaces.{function_within}
use Rattle.change_model.proofs.PlanRunsNames.{written_by}
use Rattle.change_model.proofs.PlanRunsRenamed.{renamed}
use Rattle.change_model.proofs.PlanRunsRoots.{kept_plain}
use Rattle.change_model.proofs.PredecessorsLeft.{phi_names}

-- ---- ids under their own names

own_words : (name : ℕ → ℕ) → ((id : ℕ) → name id ≡ id) → (found : List Operand) (words : List ℕ) → renamed_words name found words ≡ words
own_words name own [] words = refl
own_words name own (kind ∷ found) [] = refl
own_words name own (IdRef ∷ found) (word ∷ words) = ap (λ (w : ℕ). w ∷ renamed_words name found words) (own word) ∙ ap (λ (l : List ℕ). word ∷ l) (own_words name own found words)
own_words name own (IdResultType ∷ found) (word ∷ words) = ap (λ (l : List ℕ). word ∷ l) (own_words name own found words)
own_words name own (IdResult ∷ found) (word ∷ words) = ap (λ (l : List ℕ). word ∷ l) (own_words name own found words)
own_words name own (LiteralInteger ∷ found) (word ∷ words) = ap (λ (l : List ℕ). word ∷ l) (own_words name own found words)
own_words name own (Fixed expected ∷ found) (word ∷ words) = ap (λ (l : List ℕ). word ∷ l) (own_words name own found words)
own_words name own (LiteralString ∷ found) (word ∷ words) = ap (λ (l : List ℕ). word ∷ l) (own_words name own found words)

own_by : (name : ℕ → ℕ) → ((id : ℕ) → name id ≡ id) → (found : Option (List Operand)) (words : List ℕ) → renamed_by name found words ≡ words
own_by name own None words = refl
own_by name own (Some found) words = own_words name own found words

-- ---- pairs

even_less : (n : ℕ) → suc (suc n) % 2 == 0 ≡ true → n % 2 == 0 ≡ true
even_less n is = let e : suc (suc n) % 2 ≡ 0 = eqb-true (suc (suc n) % 2) 0 is in eq-eqb (n % 2) 0 (omega (arith, e))

or_left : (a b : Bool) → a ≡ true → (a || b) ≡ true
or_left true b is = refl
or_left false b is = cc

or_right : (a b : Bool) → b ≡ true → (a || b) ≡ true
or_right true b is = refl
or_right false b is = is

abbrev blocks_in : List ℕ → List ℕ
blocks_in words = map (λ (pair : Incoming). pair.block) (incoming_in words)

all_pairs : (name : ℕ → ℕ) → ((id : ℕ) → name id ≡ id) → (blocks words : List ℕ) → length words % 2 == 0 ≡ true
    → ((block : ℕ) → is_among block (blocks_in words) ≡ true → is_among block blocks ≡ true) → pairs_left name blocks words ≡ words
all_pairs name own blocks [] even left = refl
all_pairs name own blocks (value ∷ []) even left = cc
all_pairs name own blocks (value ∷ block ∷ words) even left =
    rw (left block (or_left (block == block) (is_among block (blocks_in words)) (eq-eqb block block refl)))
    (ap (λ (v : ℕ). v ∷ block ∷ pairs_left name blocks words) (own value)
    ∙ ap (λ (l : List ℕ). value ∷ block ∷ l) (all_pairs name own blocks words (even_less (length words) even) (λ other among. left other (or_right (block == other) (is_among other (blocks_in words)) among))))

-- the words of a phi are those of pairs, behind its type and its result
abbrev HasPairs : Inst → Type 0
HasPairs inst = is_some (kinds inst) ≡ true → (take 2 inst.words ++ drop 2 inst.words ≡ inst.words) × (length (drop 2 inst.words) % 2 == 0 ≡ true)

has_pairs : (words : List ℕ) → HasPairs (instruction op.PHI words)
unfolding kinds entry_of
has_pairs [] has = cc
has_pairs (a ∷ []) has = cc
has_pairs (a ∷ b ∷ words) has = (refl, by_even (length words % 2 == 0) has)
  where
    by_even : (even : Bool) → is_some (option_map (λ (k : List Operand). IdResultType ∷ k) (option_map (λ (k : List Operand). IdResult ∷ k) (if even then Some (map (λ (_ : ℕ). IdRef) words) else None))) ≡ true → even ≡ true
    by_even true has = refl
    by_even false has = cc

-- ---- a swept function

swept_targets : (fate : Fate) (inst : Inst) → (fate ≡ Stays) ⊎ (fate ≡ Unused) → targets_left fate inst ≡ targets inst
swept_targets fate inst (inl is) = rw is refl
swept_targets fate inst (inr is) = rw is refl

module _ (is_unread : ℕ → Bool) (words : Words) (v : IsValidList words) (plan : Plan) (s : IsSwept is_unread words v plan) where
  abbrev insts : List Inst
  insts = words.insts

  swept_leads : (label place : ℕ) → leads_from plan words.insts label place ≡ is_among label (targets (inst_at words.insts place))
  swept_leads label place = ap (is_among label) (swept_targets (plan.fate place) (inst_at insts place) (s.fates place))

  -- each block that a phi names still branches to its own
  named_left : (place block : ℕ) → place < length words.insts → (inst_at words.insts place).op == op.PHI ≡ true → is_among block (incoming_blocks (inst_at words.insts place)) ≡ true
      → is_among block (predecessors_left plan words.insts (block_at words.insts place)) ≡ true
  named_left place block within is among =
      let n = phi_names plan words v place block within is among in
      n.same ∙ swept_leads (block_at insts place) n.end ∙ n.leads

  same_words : (inst : Inst) (new : List ℕ) → new ≡ inst.words → record inst { words = new } ≡ inst
  same_words inst new same = ap (λ (l : List ℕ). record inst { words = l }) same

  phi_same : (place : ℕ) → place < length words.insts → (inst_at words.insts place).op == op.PHI ≡ true
      → phi_left plan.name (predecessors_left plan words.insts (block_at words.insts place)) (inst_at words.insts place) ≡ inst_at words.insts place
  phi_same place within is =
      let inst = inst_at insts place in
      let blocks = predecessors_left plan insts (block_at insts place) in
      let pairs = at_op HasPairs inst op.PHI is (has_pairs inst.words) ((valid_sound words v).shaped place within) in
      same_words inst (take 2 inst.words ++ pairs_left plan.name blocks (words_from 2 inst))
      (ap (λ (l : List ℕ). take 2 inst.words ++ l) (all_pairs plan.name s.names blocks (drop 2 inst.words) pairs.1 (λ block among. named_left place block within is among)) ∙ pairs.0)

  -- an instruction is written as it is
  pub swept_kept : (place : ℕ) → place < length words.insts → kept_at plan words.insts place (inst_at words.insts place) ≡ inst_at words.insts place
  swept_kept place within = by_phi ((inst_at insts place).op == op.PHI) refl
    where
      by_phi : (b : Bool) → (inst_at words.insts place).op == op.PHI ≡ b → kept_at plan words.insts place (inst_at words.insts place) ≡ inst_at words.insts place
      by_phi true is =
          let inst = inst_at insts place in
          let blocks = predecessors_left plan insts (block_at insts place) in
          ap (λ (b : Bool). if b then phi_left plan.name blocks inst else renamed plan.name inst) is ∙ phi_same place within is
      by_phi false isnt =
          let inst = inst_at insts place in
          kept_plain plan insts place inst isnt ∙ same_words inst (renamed_by plan.name (kinds inst) inst.words) (own_by plan.name s.names (kinds inst) inst.words)

  -- what is written for a place
  pub swept_written : (place : ℕ) → place < length words.insts → written_at plan words.insts place ≡ (if stays (plan.fate place) then inst_at words.insts place ∷ [] else [])
  swept_written place within = by_fate (s.fates place)
    where
      by_fate : (plan.fate place ≡ Stays) ⊎ (plan.fate place ≡ Unused) → written_at plan words.insts place ≡ (if stays (plan.fate place) then inst_at words.insts place ∷ [] else [])
      by_fate (inl is) = written_by plan insts place Stays is ∙ ap (λ (i : Inst). i ∷ []) (swept_kept place within) ∙ ap (λ (f : Fate). if stays f then inst_at insts place ∷ [] else []) (sym is)
      by_fate (inr is) = written_by plan insts place Unused is ∙ ap (λ (f : Fate). if stays f then inst_at insts place ∷ [] else []) (sym is)

  pub swept_constants : (place : ℕ) → constant_at plan words.insts place ≡ []
  unfolding constant_at
  swept_constants place = by_fate (s.fates place)
    where
      by_fate : (plan.fate place ≡ Stays) ⊎ (plan.fate place ≡ Unused) → constant_as (inst_at words.insts place) (plan.fate place) ≡ []
      by_fate (inl is) = ap (constant_as (inst_at insts place)) is
      by_fate (inr is) = ap (constant_as (inst_at insts place)) is

-- ---- the list

pub no_pieces : {X : Type 0} (f : ℕ → List X) → ((place : ℕ) → f place ≡ []) → (places : List ℕ) → flat_map f places ≡ []
no_pieces f none [] = refl
no_pieces f none (place ∷ places) = ap (λ l. l ++ flat_map f places) (none place) ∙ no_pieces f none places

picked_pieces : {X : Type 0} (f : ℕ → List X) (test : ℕ → Bool) (g : ℕ → X) (from n : ℕ) → ((place : ℕ) → place < from + n → f place ≡ (if test place then g place ∷ [] else []))
    → flat_map f (range_with_len from n) ≡ map g (filter test (range_with_len from n))
picked_pieces f test g from zero same = refl
picked_pieces {X = X} f test g from (suc n) same =
    ap (λ l. l ++ flat_map f (range_with_len (from + 1) n)) (same from (omega arith))
    ∙ ap (λ l. (if test from then g from ∷ [] else []) ++ l) (picked_pieces f test g (from + 1) n (λ place less. same place (omega (arith, less))))
    ∙ by_test (test from) (filter test (range_with_len (from + 1) n))
  where
    by_test : (b : Bool) (rest : List ℕ) → (if b then g from ∷ [] else []) ++ map g rest ≡ map g (if b then from ∷ rest else rest)
    by_test true rest = refl
    by_test false rest = refl

pub swept_list : (is_unread : ℕ → Bool) (words : Words) (v : IsValidList words) (plan : Plan) → IsSwept is_unread words v plan
    → changed plan words.insts ≡ take (function_at words.insts) words.insts ++ map (inst_at words.insts) (filter (λ place. stays (plan.fate place)) (later_places words.insts))
unfolding changed
swept_list is_unread words v plan s =
    let insts = words.insts in
    let level = take (function_at insts) insts in
    let most = function_within insts in
    ap (λ (l : List Inst). level ++ (l ++ flat_map (written_at plan insts) (later_places insts))) (no_pieces (constant_at plan insts) (swept_constants is_unread words v plan s) (later_places insts))
    ∙ ap (λ (l : List Inst). level ++ l)
    (picked_pieces (written_at plan insts) (λ place. stays (plan.fate place)) (inst_at insts) (function_at insts) (length insts - function_at insts)
    (λ place less. swept_written is_unread words v plan s place (omega (arith, less, most))))
