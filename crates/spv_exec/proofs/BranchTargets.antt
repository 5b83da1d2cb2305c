-- Where branches go, by the word of what they read.
use Rattle.std.proofs.Common.{◌≡◌, ℕ, ◌+◌, ◌<◌, ◌==◌, Bool, true, false, if◌then◌else◌, List, [], ◌∷◌, length, get_or, drop, slice_index, refl, ap, sym, ◌∙◌, subst, arith, Option, None, Some}
use Rattle.std.specs.Option.{option_map, option_and_then}
use Rattle.std.proofs.lemmas.Bool.Decides.{nat_tests}
use Rattle.spirv_model.specs.declared.module.Inst.{Inst}
use Rattle.spirv_model.specs.declared.module.Words.{Words}
use Rattle.spirv_model.specs.declared.op.TheConstants as op
use Rattle.spirv_model.specs.Operands.{word_at, entry_of, class_of}
use Rattle.valid_model.specs.Definitions.{definition, inst_at}
use Rattle.valid_model.specs.declared.meaning.IdFacts.{IdFacts}
use Rattle.valid_model.specs.Knowledge.{meaning_in}
use Rattle.valid_model.specs.Meanings.{meaning}
use Rattle.valid_model.proofs.KnownIds.{unknown_without_definition}
use Rattle.check_model.specs.Typing.{type_id, typing_of, constant_word}
use Rattle.check_model.specs.OperandTypes.{operands_fit}
use Rattle.check_model.specs.Validity.{IsValidList}
use Rattle.stage_model.specs.declared.outcome.Kind.TheVariants.{Done, Killed}
use Rattle.stage_model.specs.Value.{Value, Truth, Word, Composite, Pointer, Outside, word_of_truth, words_of}
use Rattle.stage_model.specs.Program.{Program, program_of}
use Rattle.stage_model.specs.Start.{Values, Memory, all_values}
use Rattle.stage_model.specs.Effect.{Effect, Passes, Gives, Writes, Enters, Goes, Stops, has_result_class, read_ids, result_of, place_of, stored, stores, branches, picks, target_for, effect_of}
use Rattle.typed_model.proofs.EffectsRun.{instruction}
use Rattle.typed_model.proofs.PlainRuns.{at_op}
use Rattle.typed_model.proofs.ReadTypes.{IsTyped, condition_typed, selector_typed}
use Rattle.typed_model.proofs.ValidModules.{valid_sound}
use Rattle.frame_model.specs.Frame.{frame_words, frame_place, in_frame}
use Rattle.frame_model.specs.Shown.{Shows}
use Rattle.frame_model.proofs.WrittenWords.{words_at_index}
use Rattle.spv_exec.specs.Branches.{GoesAt}

-- ---- what goes to a label

-- the branches that go to a label, by what they read
pub data GoesBy (inst : Inst) (read : List Value) (label : ℕ) : Type 0 where
  straight : inst.op == op.BRANCH ≡ true → label ≡ word_at 0 inst → GoesBy inst read label
  by_truth : inst.op == op.BRANCH ≡ false → inst.op == op.BRANCH_CONDITIONAL ≡ true → (b : Bool) → read ≡ Truth b ∷ [] → label ≡ (if b then word_at 1 inst else word_at 2 inst) → GoesBy inst read label
  by_word : inst.op == op.BRANCH ≡ false → inst.op == op.BRANCH_CONDITIONAL ≡ false → inst.op == op.SWITCH ≡ true → (word : ℕ) → read ≡ Word word ∷ [] → label ≡ target_for word (word_at 1 inst) (drop 2 inst.words) → GoesBy inst read label

tested : {Q A : Type 0} (b : Bool) (x y z : A) → (if b then x else y) ≡ z → (b ≡ true → x ≡ z → Q) → (b ≡ false → y ≡ z → Q) → Q
tested true x y z is here there = here refl is
tested false x y z is here there = there refl is

-- an effect that goes nowhere
abbrev IsNone : Option Effect → Type 0
IsNone found = (label : ℕ) → found ≡ Some (Goes label) → ⊥

no_passes : IsNone (Some Passes)
no_passes label is = cc

no_enters : (own : ℕ) → IsNone (Some (Enters own))
no_enters own label is = cc

no_done : IsNone (Some (Stops Done))
no_done label is = cc

no_killed : IsNone (Some (Stops Killed))
no_killed label is = cc

no_effect : IsNone None
no_effect label is = cc

no_gives : (found : Option Value) → IsNone (option_map Gives found)
no_gives None label is = cc
no_gives (Some value) label is = cc

no_value : (value : Value) → IsNone (Some (Gives value))
no_value value label is = cc

no_writes : (variable : ℕ) (words : List ℕ) (found : Option ℕ) → IsNone (option_map (λ place. Writes variable place words) found)
no_writes variable words None label is = cc
no_writes variable words (Some place) label is = cc

no_stored : (program : Program) (words : List ℕ) (pointer : Value) → IsNone (stored program words pointer)
no_stored program words (Pointer variable indices) label is = no_writes variable words (place_of program variable indices) label is
no_stored program words Outside label is = cc
no_stored program words (Truth b) label is = cc
no_stored program words (Word word) label is = cc
no_stored program words (Composite parts) label is = cc

no_stores_by : (program : Program) (pointer : Value) (words : Option (List ℕ)) → IsNone (option_and_then (λ words. stored program words pointer) words)
no_stores_by program pointer None label is = cc
no_stores_by program pointer (Some words) label is = no_stored program words pointer label is

no_stores : (program : Program) (values : List Value) → IsNone (stores program values)
no_stores program [] label is = cc
no_stores program (pointer ∷ []) label is = cc
no_stores program (pointer ∷ object ∷ []) label is = no_stores_by program pointer (words_of object) label is
no_stores program (pointer ∷ object ∷ other ∷ values) label is = cc

same_label : (a b : ℕ) → ◌≡◌ {A = Option Effect} (Some (Goes a)) (Some (Goes b)) → b ≡ a
same_label a b is = cc

branches_to : (values : List Value) (a b label : ℕ) → branches values a b ≡ Some (Goes label) → (c : Bool) × (values ≡ Truth c ∷ []) × (label ≡ (if c then a else b))
branches_to [] a b label is = cc
branches_to (Truth c ∷ []) a b label is = (c, refl, same_label (if c then a else b) label is)
branches_to (Word word ∷ []) a b label is = cc
branches_to (Composite parts ∷ []) a b label is = cc
branches_to (Pointer variable indices ∷ []) a b label is = cc
branches_to (Outside ∷ []) a b label is = cc
branches_to (first ∷ second ∷ values) a b label is = absurd (no_more first second values a b label is)
  where
    no_more : (first second : Value) (values : List Value) (a b : ℕ) → IsNone (branches (first ∷ second ∷ values) a b)
    no_more (Truth condition) second values a b label is = cc
    no_more (Word word) second values a b label is = cc
    no_more (Composite parts) second values a b label is = cc
    no_more (Pointer variable indices) second values a b label is = cc
    no_more Outside second values a b label is = cc

picks_to : (values : List Value) (default : ℕ) (cases : List ℕ) (label : ℕ) → picks values default cases ≡ Some (Goes label) → (word : ℕ) × (values ≡ Word word ∷ []) × (label ≡ target_for word default cases)
picks_to [] default cases label is = cc
picks_to (Word word ∷ []) default cases label is = (word, refl, same_label (target_for word default cases) label is)
picks_to (Truth condition ∷ []) default cases label is = cc
picks_to (Composite parts ∷ []) default cases label is = cc
picks_to (Pointer variable indices ∷ []) default cases label is = cc
picks_to (Outside ∷ []) default cases label is = cc
picks_to (first ∷ second ∷ values) default cases label is = absurd (no_more first second values default cases label is)
  where
    no_more : (first second : Value) (values : List Value) (default : ℕ) (cases : List ℕ) → IsNone (picks (first ∷ second ∷ values) default cases)
    no_more (Truth condition) second values default cases label is = cc
    no_more (Word word) second values default cases label is = cc
    no_more (Composite parts) second values default cases label is = cc
    no_more (Pointer variable indices) second values default cases label is = cc
    no_more Outside second values default cases label is = cc

pub goes_by : (program : Program) (memory : Memory) (inst : Inst) (read : List Value) (label : ℕ) → effect_of program memory inst read ≡ Some (Goes label) → GoesBy inst read label
unfolding effect_of
goes_by program memory inst read label is =
    tested (inst.op == op.LABEL) _ _ _ is (λ is e. absurd (no_enters _ label e))
    (λ isnt e. tested (inst.op == op.SELECTION_MERGE) _ _ _ e (λ is e. absurd (no_passes label e))
    (λ isnt e. tested (inst.op == op.LOOP_MERGE) _ _ _ e (λ is e. absurd (no_passes label e))
    (λ isnt e. tested (inst.op == op.VARIABLE) _ _ _ e (λ is e. absurd (no_value _ label e))
    (λ isnt e. tested (inst.op == op.STORE) _ _ _ e (λ is e. absurd (no_stores program read label e))
    (λ isnt e. tested (inst.op == op.BRANCH) _ _ _ e (λ is e. straight is (same_label (word_at 0 inst) label e))
    (λ no_branch e. tested (inst.op == op.BRANCH_CONDITIONAL) _ _ _ e (λ is e. let b = branches_to read (word_at 1 inst) (word_at 2 inst) label e in by_truth no_branch is b.0 b.1 b.2)
    (λ no_conditional e. tested (inst.op == op.SWITCH) _ _ _ e (λ is e. let p = picks_to read (word_at 1 inst) (drop 2 inst.words) label e in by_word no_branch no_conditional is p.0 p.1 p.2)
    (λ isnt e. tested (inst.op == op.RETURN) _ _ _ e (λ is e. absurd (no_done label e))
    (λ isnt e. tested (inst.op == op.UNREACHABLE) _ _ _ e (λ is e. absurd (no_done label e))
    (λ isnt e. tested (inst.op == op.KILL) _ _ _ e (λ is e. absurd (no_killed label e))
    (λ isnt e. tested (has_result_class (class_of inst.op)) _ _ _ e (λ has e. absurd (no_gives _ label e)) (λ isnt e. absurd (no_effect label e)))))))))))))

-- ---- what it reads

-- an id with a type is defined
pub defined_by : (insts : List Inst) (id type : ℕ) (found : Option ℕ) → definition insts id ≡ found → type_id (meaning insts id) ≡ Some type → (at : ℕ) × (definition insts id ≡ Some at)
defined_by insts id type (Some at) is typed = (at, is)
defined_by insts id type None is typed = absurd (never type (sym (ap (λ (f : Option IdFacts). type_id (meaning_in f)) (unknown_without_definition insts id is)) ∙ typed))
  where
    never : (type : ℕ) → ◌≡◌ {A = Option ℕ} None (Some type) → ⊥
    never type is = cc

-- the word of an id whose value takes one
pub record ReadWord (program : Program) (frame : List ℕ) (id word : ℕ) : Type 0 where
  pub at : ℕ
  pub defined : definition program.insts id ≡ Some at
  pub stands : slice_index frame (frame_place program at) ≡ word

read_word : (insts : List Inst) (frame : List ℕ) (values : Values) (id type word : ℕ) (value : Value) → Shows (program_of insts) frame values → type_id (meaning insts id) ≡ Some type → values id ≡ Some value
    → in_frame (program_of insts) value ≡ word ∷ [] → ReadWord (program_of insts) frame id word
unfolding program_of
read_word insts frame values id type word value shows typed has is =
    let d = defined_by insts id type (definition insts id) refl typed in
    let s = shows.stands id d.0 value d.1 has in
    let count : 0 < frame_words (program_of insts) (inst_at insts d.0) = let e = ap length is in let size = s.size in omega (arith, e, size) in
    let e : frame_place (program_of insts) d.0 + 0 ≡ frame_place (program_of insts) d.0 = omega arith in
    record {
      at = d.0;
      defined = d.1;
      stands = ap (λ (n : ℕ). get_or frame n 0) (sym e) ∙ (sym (words_at_index frame (frame_place (program_of insts) d.0) (frame_words (program_of insts) (inst_at insts d.0)) 0 count) ∙ ap (λ (l : List ℕ). get_or l 0 0) (s.stands ∙ is));
    }

-- the only id that it reads
abbrev ReadsFirst : Values → List Value → Inst → Type 0
ReadsFirst values read inst = all_values values (read_ids inst.op 0 inst.words) ≡ Some read → all_values values (word_at 0 inst ∷ []) ≡ Some read

condition_read : (values : Values) (read : List Value) (words : List ℕ) → ReadsFirst values read (instruction op.BRANCH_CONDITIONAL words)
unfolding read_ids class_of entry_of
condition_read values read words is = is

selector_read : (values : Values) (read : List Value) (words : List ℕ) → ReadsFirst values read (instruction op.SWITCH words)
unfolding read_ids class_of entry_of
selector_read values read words is = is

first_value : (found : Option Value) (value : Value) (read : List Value) → option_and_then (λ (first : Value). option_map (λ (rest : List Value). first ∷ rest) (Some [])) found ≡ Some read → read ≡ value ∷ [] → found ≡ Some value
first_value None value read is one = cc
first_value (Some own) value read is one = ap (λ (v : Value). Some v) (same_value own value (is ∙ ap (λ (l : List Value). Some l) one))
  where
    same_value : (a b : Value) → ◌≡◌ {A = Option (List Value)} (Some (a ∷ [])) (Some (b ∷ [])) → a ≡ b
    same_value a b is = cc

-- it has a type
abbrev IsTypedFirst : List Inst → Inst → Type 0
IsTypedFirst insts inst = operands_fit (typing_of insts) inst ≡ true → (type : ℕ) × (type_id (meaning insts (word_at 0 inst)) ≡ Some type)

condition_fits : (insts : List Inst) (words : List ℕ) → IsTypedFirst insts (instruction op.BRANCH_CONDITIONAL words)
unfolding operands_fit class_of entry_of typing_of
condition_fits insts words fit = let t = condition_typed (typing_of insts) (slice_index words 0) fit in (t.type, t.of)

selector_fits : (insts : List Inst) (words : List ℕ) → IsTypedFirst insts (instruction op.SWITCH words)
unfolding operands_fit class_of entry_of typing_of
selector_fits insts words fit = let t = selector_typed (typing_of insts) (slice_index words 0) fit in (t.type, t.of)

branch_word : (words : Words) → IsValidList words → (frame : List ℕ) (place label word : ℕ) (value : Value) (g : GoesAt (program_of words.insts) frame place label) → IsTypedFirst words.insts (inst_at words.insts place)
    → ReadsFirst g.values g.read (inst_at words.insts place) → g.read ≡ value ∷ [] → in_frame (program_of words.insts) value ≡ word ∷ [] → ReadWord (program_of words.insts) frame (word_at 0 (inst_at words.insts place)) word
unfolding program_of
branch_word words v frame place label word value g typed first one is =
    let t = typed ((valid_sound words v).fit place g.within) in
    read_word words.insts frame g.values (word_at 0 (inst_at words.insts place)) t.0 word value g.shows t.1 (first_value (g.values (word_at 0 (inst_at words.insts place))) value g.read (first g.are) one) is

truth_words : (program : Program) (b : Bool) → in_frame program (Truth b) ≡ word_of_truth b ∷ []
unfolding in_frame
truth_words program b = refl

one_word : (program : Program) (word : ℕ) → in_frame program (Word word) ≡ word ∷ []
unfolding in_frame
one_word program word = refl

pub condition_word : (words : Words) → IsValidList words → (frame : List ℕ) (place label : ℕ) (b : Bool) (g : GoesAt (program_of words.insts) frame place label) → (inst_at words.insts place).op == op.BRANCH_CONDITIONAL ≡ true → g.read ≡ Truth b ∷ []
    → ReadWord (program_of words.insts) frame (word_at 0 (inst_at words.insts place)) (word_of_truth b)
condition_word words v frame place label b g is one =
    let inst = inst_at words.insts place in
    branch_word words v frame place label (word_of_truth b) (Truth b) g (at_op (IsTypedFirst words.insts) inst op.BRANCH_CONDITIONAL is (condition_fits words.insts inst.words))
    (at_op (ReadsFirst g.values g.read) inst op.BRANCH_CONDITIONAL is (condition_read g.values g.read inst.words)) one (truth_words (program_of words.insts) b)

pub selector_word : (words : Words) → IsValidList words → (frame : List ℕ) (place label word : ℕ) (g : GoesAt (program_of words.insts) frame place label) → (inst_at words.insts place).op == op.SWITCH ≡ true → g.read ≡ Word word ∷ []
    → ReadWord (program_of words.insts) frame (word_at 0 (inst_at words.insts place)) word
selector_word words v frame place label word g is one =
    let inst = inst_at words.insts place in
    branch_word words v frame place label word (Word word) g (at_op (IsTypedFirst words.insts) inst op.SWITCH is (selector_fits words.insts inst.words))
    (at_op (ReadsFirst g.values g.read) inst op.SWITCH is (selector_read g.values g.read inst.words)) one (one_word (program_of words.insts) word)

-- ---- the label

same : (a b : ℕ) → a == b ≡ true → a ≡ b
same a b is = grind (arith, nat_tests)

differ : (a b : ℕ) → a == b ≡ false → a ≡ b → ⊥
differ a b isnt is = grind (arith, nat_tests)

-- where a word is read that the frame has for an id
abbrev Reads : Program → List ℕ → ℕ → ℕ → Type 0
Reads program frame id found = (place : ℕ) → definition program.insts id ≡ Some place → found ≡ slice_index frame (frame_place program place)

reads_it : (program : Program) (frame : List ℕ) (id word found : ℕ) → Reads program frame id found → ReadWord program frame id word → found ≡ word
reads_it program frame id word found reads r = reads r.at r.defined ∙ r.stands

-- OpBranch
pub branch_label : (words : Words) (frame : List ℕ) (place label : ℕ) → (inst_at words.insts place).op ≡ op.BRANCH → GoesAt (program_of words.insts) frame place label → word_at 0 (inst_at words.insts place) ≡ label
unfolding program_of
branch_label words frame place label is g = by_way (goes_by (program_of words.insts) g.held (inst_at words.insts place) g.read label g.effect)
  where
    by_way : GoesBy (inst_at words.insts place) g.read label → word_at 0 (inst_at words.insts place) ≡ label
    by_way (straight at e) = sym e
    by_way (by_truth isnt at b one e) = absurd (differ (inst_at words.insts place).op op.BRANCH isnt is)
    by_way (by_word isnt other at word one e) = absurd (differ (inst_at words.insts place).op op.BRANCH isnt is)

zero_truth : (b : Bool) → word_of_truth b ≡ 0 → b ≡ false
zero_truth true is = absurd (omega (arith, is))
zero_truth false is = refl

one_truth : (b : Bool) → (word_of_truth b ≡ 0 → ⊥) → b ≡ true
one_truth true isnt = refl
one_truth false isnt = absurd (isnt refl)

another_op : (opcode : ℕ) → opcode ≡ op.BRANCH_CONDITIONAL → opcode == op.BRANCH ≡ true → ⊥
another_op opcode is at = let e : opcode ≡ op.BRANCH = same opcode op.BRANCH at in omega (arith, is, e)

-- OpBranchConditional
conditional_label : (words : Words) → IsValidList words → (frame : List ℕ) (place label found : ℕ) → (inst_at words.insts place).op ≡ op.BRANCH_CONDITIONAL → (g : GoesAt (program_of words.insts) frame place label)
    → Reads (program_of words.insts) frame (word_at 0 (inst_at words.insts place)) found → (b : Bool) × (found ≡ word_of_truth b) × (label ≡ (if b then word_at 1 (inst_at words.insts place) else word_at 2 (inst_at words.insts place)))
unfolding program_of
conditional_label words v frame place label found is g reads = by_way (goes_by (program_of words.insts) g.held (inst_at words.insts place) g.read label g.effect)
  where
    by_way : GoesBy (inst_at words.insts place) g.read label → (b : Bool) × (found ≡ word_of_truth b) × (label ≡ (if b then word_at 1 (inst_at words.insts place) else word_at 2 (inst_at words.insts place)))
    by_way (straight at e) = absurd (another_op (inst_at words.insts place).op is at)
    by_way (by_truth isnt at b one e) = (b, reads_it (program_of words.insts) frame (word_at 0 (inst_at words.insts place)) (word_of_truth b) found reads (condition_word words v frame place label b g at one), e)
    by_way (by_word isnt other at word one e) = absurd (differ (inst_at words.insts place).op op.BRANCH_CONDITIONAL other is)

pub false_label : (words : Words) → IsValidList words → (frame : List ℕ) (place label found : ℕ) → (inst_at words.insts place).op ≡ op.BRANCH_CONDITIONAL → (g : GoesAt (program_of words.insts) frame place label)
    → Reads (program_of words.insts) frame (word_at 0 (inst_at words.insts place)) found → found ≡ 0 → word_at 2 (inst_at words.insts place) ≡ label
false_label words v frame place label found is g reads zero =
    let c = conditional_label words v frame place label found is g reads in
    sym (c.2 ∙ ap (λ (b : Bool). if b then word_at 1 (inst_at words.insts place) else word_at 2 (inst_at words.insts place)) (zero_truth c.0 (sym c.1 ∙ zero)))

pub true_label : (words : Words) → IsValidList words → (frame : List ℕ) (place label found : ℕ) → (inst_at words.insts place).op ≡ op.BRANCH_CONDITIONAL → (g : GoesAt (program_of words.insts) frame place label)
    → Reads (program_of words.insts) frame (word_at 0 (inst_at words.insts place)) found → (found ≡ 0 → ⊥) → word_at 1 (inst_at words.insts place) ≡ label
true_label words v frame place label found is g reads isnt =
    let c = conditional_label words v frame place label found is g reads in
    sym (c.2 ∙ ap (λ (b : Bool). if b then word_at 1 (inst_at words.insts place) else word_at 2 (inst_at words.insts place)) (one_truth c.0 (λ e. isnt (c.1 ∙ e))))

-- OpSwitch
pub switch_label : (words : Words) → IsValidList words → (frame : List ℕ) (place label found : ℕ) → ((inst_at words.insts place).op ≡ op.BRANCH → ⊥) → ((inst_at words.insts place).op ≡ op.BRANCH_CONDITIONAL → ⊥)
    → (g : GoesAt (program_of words.insts) frame place label) → Reads (program_of words.insts) frame (word_at 0 (inst_at words.insts place)) found
    → target_for found (word_at 1 (inst_at words.insts place)) (drop 2 (inst_at words.insts place).words) ≡ label
unfolding program_of
switch_label words v frame place label found no_branch no_conditional g reads = by_way (goes_by (program_of words.insts) g.held (inst_at words.insts place) g.read label g.effect)
  where
    by_way : GoesBy (inst_at words.insts place) g.read label → target_for found (word_at 1 (inst_at words.insts place)) (drop 2 (inst_at words.insts place).words) ≡ label
    by_way (straight at e) = absurd (no_branch (same (inst_at words.insts place).op op.BRANCH at))
    by_way (by_truth isnt at b one e) = absurd (no_conditional (same (inst_at words.insts place).op op.BRANCH_CONDITIONAL at))
    by_way (by_word isnt other at word one e) =
        ap (λ (n : ℕ). target_for n (word_at 1 (inst_at words.insts place)) (drop 2 (inst_at words.insts place).words))
        (reads_it (program_of words.insts) frame (word_at 0 (inst_at words.insts place)) word found reads (selector_word words v frame place label word g at one)) ∙ sym e
