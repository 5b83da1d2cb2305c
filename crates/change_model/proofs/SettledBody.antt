-- The function is structured as before where constants stand for specialization constants.
use Rattle.std.proofs.Common.{◌≡◌, ℕ, zero, suc, ◌+◌, ◌-◌, ◌<◌, ◌==◌, ◌||◌, Bool, true, false, cond, List, [], ◌∷◌, ◌++◌, length, take, drop, append_assoc, slice_index, refl, ap, sym, ◌∙◌, subst, arith, length-append, length-drop, Option, None, Some}
use Rattle.std.specs.Prelude.{All, IsTrue, map, filter, slice_get}
use Rattle.std.proofs.lemmas.List.{take_more}
use Rattle.std.proofs.lemmas.Option.{get_or_from_slice_get}
use Rattle.std.proofs.lemmas.List.Elements.{All-nil, All-cons, All-head, All-tail, All-same}
use Rattle.std.proofs.Math.Seq.{take-append_seam}
use Rattle.spirv_model.specs.declared.module.Inst.{Inst}
use Rattle.spirv_model.specs.declared.module.Words.{Words}
use Rattle.spirv_model.specs.declared.class.Class.{Class}
use Rattle.spirv_model.specs.declared.class.Class.TheVariants as class
use Rattle.spirv_model.specs.declared.op.TheConstants as op
use Rattle.spirv_model.specs.Operands.{word_at, entry_of, class_of, result}
use Rattle.body_model.specs.Classes.{is_module_level_class, is_module_level}
use Rattle.body_model.specs.Switches.{is_among, repeat}
use Rattle.body_model.specs.Grammar.{IsOp, Begins, Derives}
use Rattle.body_model.specs.Code.{printed, code_of}
use Rattle.body_model.specs.Fitting.{labels}
use Rattle.body_model.proofs.CodeFits.{fits}
use Rattle.body_model.proofs.CodeStands.{stands}
use Rattle.body_model.proofs.Forward.{forward}
use Rattle.body_model.proofs.Listings.{listed}
use Rattle.body_model.proofs.ModuleLevels.{within_list}
use Rattle.body_model.proofs.Printed.{Printed}
use Rattle.body_model.proofs.Slices.{slice_long, slice_and_rest, slice_get-drop}
use Rattle.valid_model.specs.Definitions.{inst_at, no_instruction, definition}
use Rattle.valid_model.specs.FirstFault.{type_fault}
use Rattle.typed_model.proofs.FunctionParts.{last_of}
use Rattle.typed_model.proofs.ModuleValues.{defined_at}
use Rattle.typed_model.proofs.ValidTypes.{keeps_rules}
use Rattle.change_model.specs.Constants.{is_spec_id}
use Rattle.change_model.specs.Settling.{is_plain_constant_class, StandsFor, same, settles, all_settled}
use Rattle.change_model.proofs.Settlings.{Settles, settled_cons, settled_gone, op_is}
use Rattle.change_model.proofs.SettledFunction.{Stays, unchanged, settled_append, first_of, settled_first, parts_settled, same_rest}

-- ---- labels differ where each id is given once

labels_more : (inst : Inst) (rest : List Inst) (is : Bool) → inst.op == op.LABEL ≡ is → labels (inst ∷ rest) ≡ cond is (word_at 0 inst ∷ labels rest) (labels rest)
labels_more inst rest true is = ap (λ (b : Bool). map (λ (i : Inst). slice_index i.words 0) (cond b (inst ∷ filter (λ (i : Inst). i.op == op.LABEL) rest) (filter (λ (i : Inst). i.op == op.LABEL) rest))) is
labels_more inst rest false is = ap (λ (b : Bool). map (λ (i : Inst). slice_index i.words 0) (cond b (inst ∷ filter (λ (i : Inst). i.op == op.LABEL) rest) (filter (λ (i : Inst). i.op == op.LABEL) rest))) is

-- a label stands at a place
record LabelAt (insts : List Inst) (label : ℕ) : Type 0 where
  place : ℕ
  within : place < length insts
  is : (inst_at insts place).op == op.LABEL ≡ true
  own : word_at 0 (inst_at insts place) ≡ label

further : (inst : Inst) (insts : List Inst) (label : ℕ) → LabelAt insts label → LabelAt (inst ∷ insts) label
further inst insts label a = record { place = suc a.place; within = let w = a.within in omega (arith, w); is = a.is; own = a.own }

label_there : (insts : List Inst) (label : ℕ) → is_among label (labels insts) ≡ true → LabelAt insts label
label_there [] label among = cc
label_there (inst ∷ insts) label among = by_test (label_there insts label) (inst.op == op.LABEL) refl
  where
    own : ((is_among label (labels insts) ≡ true) → LabelAt insts label) → inst.op == op.LABEL ≡ true → (b : Bool) → word_at 0 inst == label ≡ b → (b || is_among label (labels insts)) ≡ true → LabelAt (inst ∷ insts) label
    own rest is true equal among = record { place = 0; within = omega arith; is = is; own = op_is (word_at 0 inst) label equal }
    own rest is false isnt among = further inst insts label (rest among)

    by_test : ((is_among label (labels insts) ≡ true) → LabelAt insts label) → (b : Bool) → inst.op == op.LABEL ≡ b → LabelAt (inst ∷ insts) label
    by_test rest true is = own rest is (word_at 0 inst == label) refl (sym (ap (is_among label) (labels_more inst insts true is)) ∙ among)
    by_test rest false isnt = further inst insts label (rest (sym (ap (is_among label) (labels_more inst insts false isnt)) ∙ among))

-- no two labels are equal
abbrev pub LabelsDiffer : List Inst → Type 0
LabelsDiffer insts = (k n : ℕ) → k < n → n < length insts → (inst_at insts k).op == op.LABEL ≡ true → (inst_at insts n).op == op.LABEL ≡ true → word_at 0 (inst_at insts k) ≡ word_at 0 (inst_at insts n) → ⊥

pub differ : (insts : List Inst) → LabelsDiffer insts → repeat (labels insts) ≡ false
differ [] different = refl
differ (inst ∷ insts) different = by_test (differ insts (λ k n less within. different (suc k) (suc n) (omega (arith, less)) (omega (arith, within)))) (inst.op == op.LABEL) refl
  where
    alone : inst.op == op.LABEL ≡ true → (b : Bool) → is_among (word_at 0 inst) (labels insts) ≡ b → b ≡ false
    alone is true among = let a = label_there insts (word_at 0 inst) among in absurd (different 0 (suc a.place) (omega arith) (let w = a.within in omega (arith, w)) is a.is (sym a.own))
    alone is false among = refl

    by_test : repeat (labels insts) ≡ false → (b : Bool) → inst.op == op.LABEL ≡ b → repeat (labels (inst ∷ insts)) ≡ false
    by_test rest true is =
        ap repeat (labels_more inst insts true is)
        ∙ ap (λ (b : Bool). b || repeat (labels insts)) (alone is (is_among (word_at 0 inst) (labels insts)) refl) ∙ rest
    by_test rest false isnt = ap repeat (labels_more inst insts false isnt) ∙ rest

label_words : (words : List ℕ) → result (record { op = op.LABEL; words = words }) ≡ Some (slice_index words 0)
unfolding result entry_of
label_words words = refl

label_result : (inst : Inst) → inst.op == op.LABEL ≡ true → result inst ≡ Some (word_at 0 inst)
label_result inst is = ap (λ (o : ℕ). result (record { op = o; words = inst.words })) (op_is inst.op op.LABEL is) ∙ label_words inst.words

-- no label stands twice in a list that is sound
pub labels_apart : (words : Words) → type_fault words ≡ None → LabelsDiffer words.insts
labels_apart words sound k n less within is also equal =
    let here = defined_at words.insts k (word_at 0 (inst_at words.insts k)) (omega (arith, less, within)) (label_result (inst_at words.insts k) is) (keeps_rules words sound k (omega (arith, less, within))).once in
    let there = defined_at words.insts n (word_at 0 (inst_at words.insts n)) within (label_result (inst_at words.insts n) also) (keeps_rules words sound n within).once in
    let one : k ≡ n = one_place k n (definition words.insts (word_at 0 (inst_at words.insts n))) (ap (definition words.insts) (sym equal) ∙ here) there in
    omega (arith, less, one)
  where
    one_place : (a b : ℕ) (found : Option ℕ) → found ≡ Some a → found ≡ Some b → a ≡ b
    one_place a b found first second = cc

pub labels_differ : (words : Words) → type_fault words ≡ None → repeat (labels words.insts) ≡ false
labels_differ words sound = differ words.insts (labels_apart words sound)

-- ---- the module's level

constant_level : (of : Option Class) → is_plain_constant_class of ≡ true → is_module_level_class of ≡ true
constant_level None is = cc
constant_level (Some class.Constant) is = refl
constant_level (Some other) is = cc

level_for : (inst for : Inst) → StandsFor inst for → IsTrue (is_module_level for.op) → IsTrue (is_module_level inst.op)
level_for inst for (same is) level = subst (λ (i : Inst). IsTrue (is_module_level i.op)) (sym is) level
level_for inst for (settles spec constant type id) level = constant_level (class_of inst.op) constant

abbrev pub IsLevel : Inst → Type 0
IsLevel inst = IsTrue (is_module_level inst.op)

level_settled : (f : Inst → Inst) → Settles f → (insts : List Inst) → All IsLevel insts → All IsLevel (all_settled f insts)
level_settled f s [] level = All-nil IsLevel
level_settled f s (inst ∷ insts) level = by_test (level_settled f s insts (All-tail IsLevel inst insts level)) (is_spec_id inst) refl
  where
    by_test : All IsLevel (all_settled f insts) → (b : Bool) → is_spec_id inst ≡ b → All IsLevel (all_settled f (inst ∷ insts))
    by_test rest true is = All-same IsLevel (all_settled f (inst ∷ insts)) (all_settled f insts) (settled_gone f inst insts is) rest
    by_test rest false isnt =
        All-same IsLevel (all_settled f (inst ∷ insts)) (f inst ∷ all_settled f insts) (settled_cons f inst insts isnt)
        (All-cons IsLevel (f inst) (all_settled f insts) (level_for (f inst) inst (s inst) (All-head IsLevel inst insts level)) rest)

stays_function : Stays op.FUNCTION
unfolding class_of entry_of
stays_function = record { no_spec = refl; no_decorate = refl }

-- OpFunction, as an instruction
record FunctionAt (insts : List Inst) (place : ℕ) : Type 0 where
  inst : Inst
  at : slice_get insts place ≡ Some inst
  is : inst.op ≡ op.FUNCTION

function_at : (insts : List Inst) (place : ℕ) (found : Option Inst) → slice_get insts place ≡ found → IsOp op.FUNCTION found → FunctionAt insts place
function_at insts place None at is = absurd is
function_at insts place (Some inst) at is = record { inst = inst; at = at; is = is }

one_stays : (f : Inst → Inst) → Settles f → (inst : Inst) → inst.op ≡ op.FUNCTION → all_settled f (inst ∷ []) ≡ inst ∷ []
one_stays f s inst is = unchanged f s (inst ∷ []) here
  where
    here : (k : ℕ) → k < length (inst ∷ []) → Stays (inst_at (inst ∷ []) k).op
    here zero within = subst Stays (sym is) stays_function
    here (suc k) within = absurd (omega (arith, within))

-- where OpFunction stands then
abbrev pub settled_before : (Inst → Inst) → (insts : List Inst) → Derives insts → ℕ
settled_before f insts d = length (all_settled f (take d.before insts))

take_function : (insts : List Inst) (place : ℕ) (inst : Inst) → slice_get insts place ≡ Some inst → place < length insts → take (place + 1) insts ≡ take place insts ++ inst ∷ []
take_function insts place inst at within =
    take_more insts place no_instruction within ∙ ap (λ (i : Inst). take place insts ++ i ∷ []) (get_or_from_slice_get insts place inst no_instruction at)

-- the instructions up to the first label
front_settled : (f : Inst → Inst) → Settles f → (insts : List Inst) (d : Derives insts) (fn : FunctionAt insts d.before) → all_settled f (take (first_of insts d) insts) ≡ all_settled f (take d.before insts) ++ fn.inst ∷ []
front_settled f s insts d fn =
    ap (all_settled f) (take_function insts d.before fn.inst fn.at (within_list op.FUNCTION insts d.before d.begins.function))
    ∙ settled_append f (take d.before insts) (fn.inst ∷ [])
    ∙ ap (λ (l : List Inst). all_settled f (take d.before insts) ++ l) (one_stays f s fn.inst fn.is)

own_function : (insts : List Inst) (d : Derives insts) → FunctionAt insts d.before
own_function insts d = function_at insts d.before (slice_get insts d.before) refl d.begins.function

pub before_first : (f : Inst → Inst) → Settles f → (insts : List Inst) (d : Derives insts) → settled_first f insts d ≡ settled_before f insts d + 1
before_first f s insts d =
    let fn = own_function insts d in
    ap length (front_settled f s insts d fn) ∙ length-append (all_settled f (take d.before insts)) (fn.inst ∷ [])

-- the whole new list
whole_settled : (f : Inst → Inst) → Settles f → (insts : List Inst) (d : Derives insts) → (fn : FunctionAt insts d.before)
    → all_settled f insts ≡ all_settled f (take d.before insts) ++ (fn.inst ∷ drop (first_of insts d) insts)
whole_settled f s insts d fn =
    parts_settled f s insts d ∙ ap (λ (l : List Inst). l ++ drop (first_of insts d) insts) (front_settled f s insts d fn)
    ∙ append_assoc (all_settled f (take d.before insts)) (fn.inst ∷ []) (drop (first_of insts d) insts)

begins_settled : (f : Inst → Inst) → Settles f → (insts : List Inst) (d : Derives insts) → Begins (all_settled f insts) (settled_before f insts d)
begins_settled f s insts d =
    let fn = own_function insts d in
    let level = all_settled f (take d.before insts) in
    let whole = whole_settled f s insts d fn in
    record {
      module_level = All-same IsLevel (take (settled_before f insts d) (all_settled f insts)) level
          (ap (take (settled_before f insts d)) whole ∙ take-append_seam level (fn.inst ∷ drop (first_of insts d) insts)) (level_settled f s (take d.before insts) d.begins.module_level);
      function = subst (IsOp op.FUNCTION) (sym (ap (λ (l : List Inst). slice_get l (settled_before f insts d)) whole ∙ last_of level fn.inst (drop (first_of insts d) insts))) fn.is;
    }

-- ---- the function

-- the place behind its sequence
abbrev pub settled_after : (Inst → Inst) → (insts : List Inst) → Derives insts → ℕ
settled_after f insts d = settled_before f insts d + 1 + (d.after - (d.before + 1))

pub code_long : (insts : List Inst) (d : Derives insts) → length (printed (code_of d.sequence)) ≡ d.after - (d.before + 1)
code_long insts d =
    let b = forward insts d.sequence in
    ap length (listed insts d.sequence) ∙ slice_long insts (d.before + 1) d.after (let w = b.within in omega (arith, w))

printed_settled : (f : Inst → Inst) → Settles f → (insts : List Inst) (d : Derives insts) → Printed (all_settled f insts) (printed (code_of d.sequence)) (settled_before f insts d + 1) (settled_after f insts d)
printed_settled f s insts d =
    let b = forward insts d.sequence in
    record {
      rest = drop d.after insts;
      is = ap (λ (n : ℕ). drop n (all_settled f insts)) (sym (before_first f s insts d)) ∙ same_rest f s insts d
          ∙ sym (slice_and_rest insts (d.before + 1) d.after (let w = b.forward in omega (arith, w)))
          ∙ ap (λ (l : List Inst). l ++ drop d.after insts) (sym (listed insts d.sequence));
      to_is = ap (λ (n : ℕ). settled_before f insts d + 1 + n) (sym (code_long insts d));
    }

-- a derivation of the new list, with the code of the old one's
pub record HasBody (f : Inst → Inst) (insts : List Inst) (d : Derives insts) : Type 0 where
  pub derivation : Derives (all_settled f insts)
  pub before : derivation.before ≡ settled_before f insts d
  pub after : derivation.after ≡ settled_after f insts d
  pub code : code_of derivation.sequence ≡ code_of d.sequence

inst_far : (f : Inst → Inst) → Settles f → (insts : List Inst) (d : Derives insts) (far : ℕ) → slice_get (all_settled f insts) (settled_before f insts d + 1 + far) ≡ slice_get insts (first_of insts d + far)
inst_far f s insts d far =
    ap (λ (n : ℕ). slice_get (all_settled f insts) (n + far)) (sym (before_first f s insts d))
    ∙ sym (slice_get-drop (settled_first f insts d) far (all_settled f insts))
    ∙ ap (λ (l : List Inst). slice_get l far) (same_rest f s insts d)
    ∙ slice_get-drop (first_of insts d) far insts

long_settled : (f : Inst → Inst) → Settles f → (insts : List Inst) (d : Derives insts) → length (all_settled f insts) ≡ settled_after f insts d + 1
long_settled f s insts d =
    let fn = own_function insts d in
    let b = forward insts d.sequence in
    let w = b.forward in let last = d.last in
    let a = length-append (all_settled f (take d.before insts)) (fn.inst ∷ drop (first_of insts d) insts) in
    let e = length-drop (first_of insts d) insts in
    let whole : length (all_settled f insts) ≡ length (all_settled f (take d.before insts) ++ (fn.inst ∷ drop (first_of insts d) insts)) = ap length (whole_settled f s insts d fn) in
    omega (arith, w, last, a, e, whole)

pub body_settled : (f : Inst → Inst) → Settles f → (insts : List Inst) (d : Derives insts) → repeat (labels (all_settled f insts)) ≡ false → HasBody f insts d
body_settled f s insts d differs =
    let b = forward insts d.sequence in
    let w = b.forward in
    let sequence = stands (all_settled f insts) differs (fits insts d.sequence) (settled_before f insts d + 1) (settled_after f insts d) (printed_settled f s insts d) in
    let end : slice_get (all_settled f insts) (settled_after f insts d) ≡ slice_get insts d.after =
    inst_far f s insts d (d.after - (d.before + 1)) ∙ ap (slice_get insts) {x = first_of insts d + (d.after - (d.before + 1))} {y = d.after} (omega (arith, w)) in
    record {
      derivation = record {
        before = settled_before f insts d;
        after = settled_after f insts d;
        begins = begins_settled f s insts d;
        sequence = sequence.sequence;
        function_end = subst (IsOp op.FUNCTION_END) (sym end) d.function_end;
        last = long_settled f s insts d;
      };
      before = refl;
      after = refl;
      code = sequence.same;
    }
