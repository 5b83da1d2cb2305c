-- A phi of a valid module runs where its block was entered by a branch: it reads the value that it pairs with the block before.
use Rattle.std.proofs.Common.{◌≡◌, ℕ, ◌+◌, ◌<◌, ◌≤◌, ◌==◌, ◌&&◌, ◌||◌, Bool, true, false, not, if◌then◌else◌, List, [], ◌∷◌, drop, take, refl, ap, sym, ◌∙◌, subst, arith, Option, None, Some}
use Rattle.std.specs.Prelude.{map, slice_get}
use Rattle.std.specs.List.{find, list_all}
use Rattle.std.specs.Option.{option_map, option_and_then, unwrap_or}
use Rattle.std.proofs.lemmas.Bool.Decides.{nat_tests}
use Rattle.basics.proofs.Bools.{first_of_both, second_of_both}
use Rattle.spirv_model.specs.declared.module.Inst.{Inst}
use Rattle.spirv_model.specs.declared.module.Words.{Words}
use Rattle.spirv_model.specs.declared.op.TheConstants as op
use Rattle.spirv_model.specs.Operands.{word_at, entry_of, class_of}
use Rattle.body_model.specs.Classes.{is_terminator}
use Rattle.body_model.specs.Switches.{is_among, repeat}
use Rattle.body_model.specs.Targets.{targets}
use Rattle.valid_model.specs.Definitions.{definition, inst_at}
use Rattle.valid_model.specs.Meanings.{meaning}
use Rattle.valid_model.specs.ModuleFacts.{is_word}
use Rattle.check_model.specs.Branches.{blocks_of, predecessors, block_end_of, label_behind}
use Rattle.check_model.specs.Intervals.{Interval, intervals_of}
use Rattle.check_model.specs.Typing.{type_id, typing_of, constant_word}
use Rattle.check_model.specs.OperandTypes.{incoming_fits, is_pointer, operands_fit}
use Rattle.check_model.specs.Visibility.{Use, Incoming, incoming_in, incoming, incoming_blocks, names_predecessors, use_at, incoming_use, phi_uses, is_defined_for, is_visible_use, uses_at, not_visible}
use Rattle.check_model.specs.Validity.{IsValidList}
use Rattle.stage_model.specs.Program.{program_of}
use Rattle.stage_model.specs.Start.{Values, Memory, all_values}
use Rattle.stage_model.specs.Effect.{Gives, paired_with, read_ids, result_of, effect_of}
use Rattle.typed_model.specs.Types.{AllSuit}
use Rattle.typed_model.specs.Judgement.{HasValue, AreTyped}
use Rattle.typed_model.specs.Running.{Came}
use Rattle.typed_model.proofs.EffectsRun.{instruction}
use Rattle.typed_model.proofs.PlainRuns.{at_op}
use Rattle.typed_model.proofs.InstructionsRun.{Does}
use Rattle.typed_model.proofs.ValidModules.{valid_sound, valid_seen}
use Rattle.typed_model.proofs.FunctionRuns.{function_within}
use Rattle.typed_model.proofs.BlockLists.{block_to, blocks_have, among_predecessors}
use Rattle.typed_model.proofs.LabelsBefore.{stands_there, block_end_is}

-- ---- the pairs of a phi

abbrev AllPairs : (Incoming → Type 0) → List Incoming → Type 0
AllPairs P [] = Unit {0}
AllPairs P (pair ∷ pairs) = P pair × AllPairs P pairs

record IsPaired (P : Incoming → Type 0) (before : ℕ) (words : List ℕ) : Type 0 where
  value : ℕ
  is : paired_with before words ≡ value ∷ []
  has : P (record { value = value; block = before })

same : (a b : ℕ) → a == b ≡ true → a ≡ b
same a b is = grind (arith, nat_tests)

-- the value that is paired with a block which the phi names
paired : (P : Incoming → Type 0) (before : ℕ) (words : List ℕ) → is_among before (map (λ (pair : Incoming). pair.block) (incoming_in words)) ≡ true → AllPairs P (incoming_in words) → IsPaired P before words
paired P before [] among all = cc
paired P before (value ∷ []) among all = cc
paired P before (value ∷ block ∷ words) among all = by_test (block == before) refl among (λ more. paired P before words more all.1)
  where
    by_test : (b : Bool) → block == before ≡ b → (b || is_among before (map (λ (pair : Incoming). pair.block) (incoming_in words))) ≡ true
        → (is_among before (map (λ (pair : Incoming). pair.block) (incoming_in words)) ≡ true → IsPaired P before words) → IsPaired P before (value ∷ block ∷ words)
    by_test true is among more = record {
      value = value;
      is = ap (λ (b : Bool). if b then value ∷ [] else paired_with before words) is;
      has = subst (λ n. P (record { value = value; block = n })) (same block before is) all.0;
    }
    by_test false isnt among more =
        let p = more among in record { value = p.value; is = ap (λ (b : Bool). if b then value ∷ [] else paired_with before words) isnt ∙ p.is; has = p.has }

-- ---- it names the blocks that branch to its block

third_of : (a b c : Bool) → (a && b && c) ≡ true → c ≡ true
third_of true true c is = is
third_of true false c is = cc
third_of false b c is = cc

named_all : (named labels : List ℕ) (label : ℕ) → list_all (λ label. is_among label named) labels ≡ true → is_among label labels ≡ true → is_among label named ≡ true
named_all named [] label all among = cc
named_all named (own ∷ labels) label all among =
    by_test (own == label) refl among (named_all named labels label (second_of_both (is_among own named) (list_all (λ label. is_among label named) labels) all))
  where
    by_test : (b : Bool) → own == label ≡ b → (b || is_among label labels) ≡ true → (is_among label labels ≡ true → is_among label named ≡ true) → is_among label named ≡ true
    by_test true is among more = ap (λ (l : ℕ). is_among l named) (sym (same own label is)) ∙ first_of_both (is_among own named) (list_all (λ label. is_among label named) labels) all
    by_test false isnt among more = more among

names_block : (insts : List Inst) (place terminator : ℕ) → names_predecessors insts place ≡ true → slice_get insts terminator ≡ Some (inst_at insts terminator) → is_terminator (inst_at insts terminator).op ≡ true
    → is_among (label_behind 0 (take place insts)) (targets (inst_at insts terminator)) ≡ true → is_among (label_behind 0 (take terminator insts)) (incoming_blocks (inst_at insts place)) ≡ true
unfolding names_predecessors predecessors blocks_of
names_block insts place terminator names at ends leads =
    let label = label_behind 0 (take place insts) in
    named_all (incoming_blocks (inst_at insts place)) (predecessors insts label) (label_behind 0 (take terminator insts))
    (third_of (not (repeat (incoming_blocks (inst_at insts place)))) _ _ names)
    (among_predecessors label (blocks_of insts) (block_to 0 0 insts terminator (inst_at insts terminator)) (blocks_have 0 0 insts terminator (inst_at insts terminator) at ends) leads)

-- ---- what is known of its pairs

record PhiFacts (intervals : List Interval) (insts : List Inst) (place : ℕ) : Type 0 where
  names : names_predecessors insts place ≡ true
  seen : AllPairs (λ pair. is_visible_use intervals insts (incoming_use insts place pair) ≡ true) (incoming (inst_at insts place))

pairs_seen : (intervals : List Interval) (insts : List Inst) (place : ℕ) (pairs : List Incoming)
    → option_map (λ (used : Use). used.id) (find (λ used. not (is_visible_use intervals insts used)) (map (incoming_use insts place) pairs)) ≡ None
    → AllPairs (λ pair. is_visible_use intervals insts (incoming_use insts place pair) ≡ true) pairs
pairs_seen intervals insts place [] none = tt
pairs_seen intervals insts place (pair ∷ pairs) none = by_first (is_visible_use intervals insts (incoming_use insts place pair)) refl none (λ rest. pairs_seen intervals insts place pairs rest)
  where
    by_first : (seen : Bool) → is_visible_use intervals insts (incoming_use insts place pair) ≡ seen
        → option_map (λ (used : Use). used.id) (if not seen then Some (incoming_use insts place pair) else find (λ used. not (is_visible_use intervals insts used)) (map (incoming_use insts place) pairs)) ≡ None
        → (option_map (λ (used : Use). used.id) (find (λ used. not (is_visible_use intervals insts used)) (map (incoming_use insts place) pairs)) ≡ None
        → AllPairs (λ pair. is_visible_use intervals insts (incoming_use insts place pair) ≡ true) pairs)
        → AllPairs (λ pair. is_visible_use intervals insts (incoming_use insts place pair) ≡ true) (pair ∷ pairs)
    by_first true is none more = (is, more none)
    by_first false is none more = cc

phi_facts : (intervals : List Interval) (insts : List Inst) (place : ℕ) → not_visible intervals insts place ≡ None → (inst_at insts place).op == op.PHI ≡ true → PhiFacts intervals insts place
unfolding not_visible uses_at
phi_facts intervals insts place none is = by_phi ((inst_at insts place).op == op.PHI) (names_predecessors insts place) is refl _ none
  where
    by_seen : (type : Use) (seen : Bool)
        → option_map (λ (used : Use). used.id) (if not seen then Some type else find (λ used. not (is_visible_use intervals insts used)) (map (incoming_use insts place) (incoming (inst_at insts place)))) ≡ None
        → option_map (λ (used : Use). used.id) (find (λ used. not (is_visible_use intervals insts used)) (map (incoming_use insts place) (incoming (inst_at insts place)))) ≡ None
    by_seen type true none = none
    by_seen type false none = cc

    by_phi : (b named : Bool) → b ≡ true → names_predecessors insts place ≡ named → (others : List Use)
        → (if b && not named then Some (word_at 1 (inst_at insts place))
        else option_map (λ (used : Use). used.id) (find (λ used. not (is_visible_use intervals insts used)) (if b then phi_uses insts place (inst_at insts place) else others))) ≡ None → PhiFacts intervals insts place
    by_phi true true is names others none = record { names = names; seen = pairs_seen intervals insts place (incoming (inst_at insts place)) (by_seen (use_at place (word_at 0 (inst_at insts place))) (is_visible_use intervals insts (use_at place (word_at 0 (inst_at insts place)))) none) }
    by_phi true false is names others none = cc
    by_phi false named is names others none = cc

-- a value of the phi's type
abbrev HasPhiType : List Inst → ℕ → Incoming → Type 0
HasPhiType insts type pair = type_id (meaning insts pair.value) ≡ Some type

word_is : (word : ℕ) (found : Option ℕ) → is_word word found ≡ true → found ≡ Some word
word_is word None is = cc
word_is word (Some own) is = ap Some (same own word is)

pairs_fit : (insts : List Inst) (type : ℕ) (pairs : List Incoming) → list_all (incoming_fits (typing_of insts) type) pairs ≡ true → AllPairs (HasPhiType insts type) pairs
unfolding typing_of
pairs_fit insts type [] all = tt
pairs_fit insts type (pair ∷ pairs) all =
    let first = first_of_both (incoming_fits (typing_of insts) type pair) (list_all (incoming_fits (typing_of insts) type) pairs) all in (
      word_is type (type_id (meaning insts pair.value)) (first_of_both (is_word type (type_id (meaning insts pair.value))) (not (is_pointer (meaning insts type))) first),
      pairs_fit insts type pairs (second_of_both (incoming_fits (typing_of insts) type pair) (list_all (incoming_fits (typing_of insts) type) pairs) all),
    )

abbrev PairsFit : List Inst → Inst → Type 0
PairsFit insts inst = operands_fit (typing_of insts) inst ≡ true → AllPairs (HasPhiType insts (word_at 0 inst)) (incoming inst)

phi_fits : (insts : List Inst) (words : List ℕ) → PairsFit insts (instruction op.PHI words)
unfolding operands_fit class_of entry_of
phi_fits insts words fit = pairs_fit insts (word_at 0 (instruction op.PHI words)) (incoming (instruction op.PHI words)) fit

both_pairs : (P Q : Incoming → Type 0) (pairs : List Incoming) → AllPairs P pairs → AllPairs Q pairs → AllPairs (λ pair. P pair × Q pair) pairs
both_pairs P Q [] ps qs = tt
both_pairs P Q (pair ∷ pairs) ps qs = ((ps.0, qs.0), both_pairs P Q pairs ps.1 qs.1)

-- ---- it runs

phi_runs : (insts : List Inst) (values : Values) (memory : Memory) (before id : ℕ) (words : List ℕ) → paired_with before (drop 2 words) ≡ id ∷ [] → type_id (meaning insts id) ≡ Some (word_at 0 (instruction op.PHI words)) → HasValue insts values id
    → Does insts values memory before (instruction op.PHI words)
unfolding read_ids effect_of result_of class_of entry_of program_of
phi_runs insts values memory before id words is of h = record {
  read = h.value ∷ [];
  are = ap (all_values values) is ∙ ap (option_and_then (λ first. option_map (λ rest. first ∷ rest) (all_values values []))) h.is;
  suit = subst (λ ids. AllSuit (program_of insts) (constant_word insts) ids (h.value ∷ [])) (sym is) (h.suits, tt);
  runs = record { effect = Gives h.value; is = refl; typed = h.suits.of_type (word_at 0 (instruction op.PHI words)) of };
}

value_seen : (insts : List Inst) (intervals : List Interval) (place type id : ℕ) (values : Values) → AreTyped insts intervals place values → (defined : Option ℕ) → definition insts id ≡ defined → is_defined_for intervals place defined ≡ true
    → type_id (meaning insts id) ≡ Some type → HasValue insts values id
value_seen insts intervals place type id values typed None at seen of = cc
value_seen insts intervals place type id values typed (Some at) is seen of = typed id at type is seen of

-- what a phi takes: the value of an id of its type, which it pairs with the block before
pub record PhiTakes (insts : List Inst) (values : Values) (before : ℕ) (inst : Inst) : Type 0 where
  pub id : ℕ
  pub pair : paired_with before (drop 2 inst.words) ≡ id ∷ []
  pub typed : type_id (meaning insts id) ≡ Some (word_at 0 inst)
  pub has : HasValue insts values id

-- with the values with which its block was entered
pub phi_takes : (words : Words) (v : IsValidList words) (place : ℕ) → v.derivation.before + 1 ≤ place → place < v.derivation.after → (inst_at words.insts place).op == op.PHI ≡ true
    → (before : ℕ) (values : Values) → Came words.insts v.derivation (label_behind 0 (take place words.insts)) before values → PhiTakes words.insts values before (inst_at words.insts place)
phi_takes words v place low high is before values came =
    let insts = words.insts in let intervals = intervals_of v.derivation in let inst = inst_at insts place in
    let within = function_within insts v.derivation place high in
    let facts = phi_facts intervals insts place (valid_seen words v place within) is in
    let fit = at_op (PairsFit insts) inst op.PHI is (phi_fits insts inst.words) ((valid_sound words v).fit place within) in
    let named = names_block insts place came.terminator facts.names (stands_there insts v.derivation came.terminator came.low came.high) came.ends came.names in
    let p = paired (λ pair. (is_visible_use intervals insts (incoming_use insts place pair) ≡ true) × HasPhiType insts (word_at 0 inst) pair) before (drop 2 inst.words)
    (ap (λ (l : ℕ). is_among l (incoming_blocks inst)) (sym came.block) ∙ named) (both_pairs _ _ (incoming inst) facts.seen fit) in
    let end : unwrap_or (block_end_of insts before) place ≡ came.terminator = ap (λ (o : Option ℕ). unwrap_or o place) (block_end_is words v came.terminator before came.low came.high came.ends came.block) in
    let seen : is_defined_for intervals came.terminator (definition insts p.value) ≡ true = ap (λ (n : ℕ). is_defined_for intervals n (definition insts p.value)) (sym end) ∙ p.has.0 in
    record { id = p.value; pair = p.is; typed = p.has.1; has = value_seen insts intervals came.terminator (word_at 0 inst) p.value values came.typed (definition insts p.value) refl seen p.has.1 }

pub phi_does : (words : Words) (v : IsValidList words) (place : ℕ) → v.derivation.before + 1 ≤ place → place < v.derivation.after → (inst_at words.insts place).op == op.PHI ≡ true
    → (before : ℕ) (values : Values) → Came words.insts v.derivation (label_behind 0 (take place words.insts)) before values → (memory : Memory) → Does words.insts values memory before (inst_at words.insts place)
phi_does words v place low high is before values came memory =
    let insts = words.insts in let inst = inst_at insts place in
    let t = phi_takes words v place low high is before values came in
    at_op (λ inst. paired_with before (drop 2 inst.words) ≡ t.id ∷ [] → type_id (meaning insts t.id) ≡ Some (word_at 0 inst) → Does insts values memory before inst) inst op.PHI is
    (λ pair of. phi_runs insts values memory before t.id inst.words pair of t.has) t.pair t.typed
