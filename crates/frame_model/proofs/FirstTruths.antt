-- A run of a valid module begins with a memory whose truth values are 0 or 1: inputs, uniforms and push constants hold integers, a built-in truth value aside.
use Rattle.std.proofs.Common.{◌≡◌, ℕ, zero, suc, ◌+◌, ◌-◌, ◌<◌, ◌==◌, ◌&&◌, ◌||◌, ◌⊎◌, inl, inr, Bool, true, false, not, nat_lt, if◌then◌else◌, List, [], ◌∷◌, length, take, refl, ap, sym, ◌∙◌, subst, arith, Option, None, Some, is_some}
use Rattle.std.specs.Prelude.{slice_index}
use Rattle.std.specs.List.{find}
use Rattle.std.specs.Option.{option_map, option_and_then}
use Rattle.std.proofs.lemmas.Bool.Decides.{nat_tests}
use Rattle.basics.proofs.Bools.{first_of_both, second_of_both}
use Rattle.spirv_model.specs.declared.module.Inst.{Inst}
use Rattle.spirv_model.specs.declared.module.Words.{Words}
use Rattle.spirv_model.specs.declared.op.TheConstants as op
use Rattle.spirv_model.specs.declared.storage_class.TheConstants as class
use Rattle.spirv_model.specs.declared.builtin.TheConstants as builtin
use Rattle.spirv_model.specs.declared.decoration.TheConstants.{SPEC_ID, BUILT_IN, LOCATION}
use Rattle.spirv_model.specs.Operands.{word_at, class_of, result}
use Rattle.state_model.specs.declared.buffers.Buffers.{Buffers}
use Rattle.valid_model.specs.declared.meaning.Meaning.{Meaning}
use Rattle.valid_model.specs.declared.meaning.Meaning.TheVariants.{Shape as OfShape, Variable}
use Rattle.valid_model.specs.declared.meaning.Shape.TheVariants.{Int, IntVector, Array, Struct, Pointer as PointerType}
use Rattle.valid_model.specs.Blocks.{is_block_member, is_laid_out, are_laid_out, is_block_type, is_block, points_to_block}
use Rattle.valid_model.specs.BuiltIns.{is_built_in, takes_built_in}
use Rattle.valid_model.specs.DecorationWords.{decorates, is_decorate, is_listed, decoration_of}
use Rattle.valid_model.specs.Decorations.{is_out_of_range, repeats, bad_decorate, breaks_decorations, bad_decoration}
use Rattle.valid_model.specs.Definitions.{definition, inst_at}
use Rattle.valid_model.specs.EarlierFacts.{EarlierFacts, before_of}
use Rattle.valid_model.specs.Knowledge.{meaning_in, is_bool, is_integer}
use Rattle.valid_model.specs.Meanings.{known_before, meaning}
use Rattle.valid_model.proofs.KnownIds.{known_by_definition}
use Rattle.valid_model.specs.ModuleFacts.{ModuleFacts, facts_of, is_decorated, is_vertex, is_spec_op}
use Rattle.valid_model.specs.Shapes.{is_integers, is_position_type, pointee_id}
use Rattle.valid_model.specs.Shapes as shapes
use Rattle.valid_model.specs.Variables.{bad_interface, bad_location, bad_uniform, bad_push, bad_variable}
use Rattle.check_model.specs.Validity.{IsValidList}
use Rattle.stage_model.specs.declared.inputs.Inputs.{Inputs}
use Rattle.stage_model.specs.Value.{Layout, OneWord, Several, Layouts, NoLayouts, LayoutsOf, size_of, repeated, word_of_truth}
use Rattle.stage_model.specs.Program.{Program, layouts_of, pointee, held, held_layout, program_of}
use Rattle.stage_model.specs.Start.{built_in_word, input_word, class_word, variable_word, first_memory}
use Rattle.typed_model.specs.Types.{HasTypes}
use Rattle.typed_model.proofs.EffectsRun.{instruction}
use Rattle.typed_model.proofs.KeptSteps.{variable_class}
use Rattle.typed_model.proofs.PlainRuns.{at_op}
use Rattle.typed_model.proofs.ResultIds.{defines, defined_id}
use Rattle.typed_model.proofs.TypedSteps.{gives_at}
use Rattle.typed_model.proofs.ValidTypes.{keeps_decorations, valid_types, makes_variable, defined_within}
use Rattle.frame_model.specs.Truths.{is_truth_at, is_truth_in, HoldsTruths}
use Rattle.frame_model.proofs.GivenResults.{own_result}
use Rattle.frame_model.proofs.PointerWords.{variable_lies}

same : (a b : ℕ) → a == b ≡ true → a ≡ b
same a b is = grind (arith, nat_tests)

same_some : {A : Type 0} (x y : A) → Some x ≡ Some y → x ≡ y
same_some x y is = cc

-- ---- layouts without truth values

abbrev HasNone : Layout → Type 0
HasNone layout = (place : ℕ) → is_truth_at layout place ≡ false

abbrev HaveNone : Layouts → Type 0
HaveNone all = (place : ℕ) → is_truth_in all place ≡ false

none_both : (layout : Layout) (all : Layouts) → HasNone layout → HaveNone all → HaveNone (LayoutsOf layout all)
none_both layout all first rest place = by_test (nat_lt place (size_of layout)) (first place) (rest (place - size_of layout))
  where
    by_test : {x y : Bool} (b : Bool) → x ≡ false → y ≡ false → (if b then x else y) ≡ false
    by_test true here there = here
    by_test false here there = there

none_repeated : (n : ℕ) (layout : Layout) → HasNone layout → HaveNone (repeated n layout)
none_repeated zero layout none place = refl
none_repeated (suc n) layout none place = none_both layout (repeated n layout) none (none_repeated n layout none) place

none_of : (layout : Layout) (whole : Layout) → HasNone layout → layout ≡ whole → HasNone whole
none_of layout whole none is = subst HasNone is none

-- integers and vectors of them
integers_none : (program : Program) → HasTypes program → (type : ℕ) (layout : Layout) (m : Meaning) → program.meaning type ≡ m → program.layout type ≡ Some layout → is_integers m ≡ true → HasNone layout
integers_none program types type layout (OfShape (Int signed)) means known is =
    none_of OneWord layout (λ place. refl) (same_some OneWord layout (sym (types.shaped type (Int signed) means) ∙ known))
integers_none program types type layout (OfShape (IntVector count signed)) means known is =
    none_of (Several (repeated count OneWord)) layout (none_repeated count OneWord (λ place. refl)) (same_some _ layout (sym (types.shaped type (IntVector count signed) means) ∙ known))
integers_none program types type layout m means known is = cc

array_none : (count : ℕ) (whole : Layout) (element : Option Layout) → option_map (λ l. Several (repeated count l)) element ≡ Some whole → ((layout : Layout) → element ≡ Some layout → HasNone layout) → HasNone whole
array_none count whole None is none = cc
array_none count whole (Some layout) is none = none_of (Several (repeated count layout)) whole (none_repeated count layout (none layout refl)) (same_some _ whole is)

-- what the rules know of ids, as a program does
abbrev KnowsMeanings : Program → ModuleFacts → Type 0
KnowsMeanings program facts = (id : ℕ) → facts.meaning id ≡ program.meaning id

member_none : (program : Program) → HasTypes program → (facts : ModuleFacts) → KnowsMeanings program facts → (type : ℕ) (layout : Layout) (m : Meaning) → program.meaning type ≡ m → program.layout type ≡ Some layout → is_block_member facts m ≡ true → HasNone layout
member_none program types facts knows type layout (OfShape (Array element count)) means known is =
    array_none count layout (program.layout element) (sym (types.shaped type (Array element count) means) ∙ known)
    (λ own known. integers_none program types element own (program.meaning element) refl known (ap is_integers (sym (knows element)) ∙ is))
member_none program types facts knows type layout m means known is = integers_none program types type layout m means known is

members_none : (program : Program) → HasTypes program → (facts : ModuleFacts) → KnowsMeanings program facts → (block member : ℕ) (members : List ℕ) (all : Layouts) → layouts_of program.layout members ≡ Some all → are_laid_out facts block member members ≡ true → HaveNone all
members_none program types facts knows block member [] all are laid = λ place. ap (λ (l : Layouts). is_truth_in l place) (sym (same_some NoLayouts all are))
members_none program types facts knows block member (type ∷ members) all are laid =
    by_both (program.layout type) (layouts_of program.layout members) refl refl are (λ more known. members_none program types facts knows block (member + 1) members more known rest)
  where
    first : is_laid_out facts block member type ≡ true
    first = first_of_both (is_laid_out facts block member type) (are_laid_out facts block (member + 1) members) laid

    rest : are_laid_out facts block (member + 1) members ≡ true
    rest = second_of_both (is_laid_out facts block member type) (are_laid_out facts block (member + 1) members) laid

    is_member : is_block_member facts (program.meaning type) ≡ true
    is_member = ap (is_block_member facts) (sym (knows type)) ∙ first_of_both (is_block_member facts (facts.meaning type)) _ (first_of_both _ _ first)

    by_both : (one : Option Layout) (others : Option Layouts) → program.layout type ≡ one → layouts_of program.layout members ≡ others → option_and_then (λ first. option_map (λ rest. LayoutsOf first rest) others) one ≡ Some all
        → ((more : Layouts) → layouts_of program.layout members ≡ Some more → HaveNone more) → HaveNone all
    by_both None others known rest_known are go = cc
    by_both (Some layout) None known rest_known are go = cc
    by_both (Some layout) (Some more) known rest_known are go = λ place.
        ap (λ (l : Layouts). is_truth_in l place) (sym (same_some (LayoutsOf layout more) all are))
        ∙ none_both layout more (member_none program types facts knows type layout (program.meaning type) refl known is_member) (go more rest_known) place

struct_none : (program : Program) → HasTypes program → (facts : ModuleFacts) → KnowsMeanings program facts → (block : ℕ) (members : List ℕ) (whole : Layout) (all : Option Layouts) → layouts_of program.layout members ≡ all → option_map Several all ≡ Some whole
    → are_laid_out facts block 0 members ≡ true → HasNone whole
struct_none program types facts knows block members whole None known is laid = cc
struct_none program types facts knows block members whole (Some all) known is laid = none_of (Several all) whole (members_none program types facts knows block 0 members all known laid) (same_some _ whole is)

block_none : (program : Program) → HasTypes program → (facts : ModuleFacts) → KnowsMeanings program facts → (block : ℕ) (whole : Layout) (m : Meaning) → program.meaning block ≡ m → program.layout block ≡ Some whole → is_block_type facts block m ≡ true → HasNone whole
block_none program types facts knows block whole (OfShape (Struct members)) means known is =
    struct_none program types facts knows block members.list whole (layouts_of program.layout members.list) refl (sym (types.shaped block (Struct members) means) ∙ known) (second_of_both _ _ is)
block_none program types facts knows block whole m means known is = cc

-- ---- what variables hold

-- the layout of a variable of this type is that of what its pointer type points to
pub record Holds (program : Program) (type : ℕ) (layout : Layout) : Type 0 where
  pub class : ℕ
  pub to : ℕ
  pub means : program.meaning type ≡ OfShape (PointerType class to)
  pub known : program.layout to ≡ Some layout

holds_by : (program : Program) (type : ℕ) (layout : Layout) (m : Meaning) → program.meaning type ≡ m → option_and_then program.layout (pointee m) ≡ Some layout → Holds program type layout
holds_by program type layout (OfShape (PointerType class to)) means is = record { class = class; to = to; means = means; known = is }
holds_by program type layout m means is = cc

held_integers : (program : Program) → HasTypes program → (facts : ModuleFacts) → KnowsMeanings program facts → (type : ℕ) (layout : Layout) → Holds program type layout → is_integers (shapes.held_type facts type) ≡ true → HasNone layout
held_integers program types facts knows type layout h is =
    let held : shapes.held_type facts type ≡ program.meaning h.to = ap (λ (m : Meaning). shapes.pointee facts (pointee_id m)) (knows type ∙ h.means) ∙ knows h.to in
    integers_none program types h.to layout (program.meaning h.to) refl h.known (ap is_integers (sym held) ∙ is)

held_block : (program : Program) → HasTypes program → (facts : ModuleFacts) → KnowsMeanings program facts → (type : ℕ) (layout : Layout) → Holds program type layout → points_to_block facts type ≡ true → HasNone layout
held_block program types facts knows type layout h is =
    let block : is_block_type facts h.to (program.meaning h.to) ≡ true =
    sym (ap (λ (m : Meaning). is_block facts (pointee_id m)) (knows type ∙ h.means) ∙ ap (is_block_type facts h.to) (knows h.to)) ∙ is in
    block_none program types facts knows h.to layout (program.meaning h.to) refl h.known block

-- ---- decorations

-- where a decoration stands
decorated_place : (test : Inst → Bool) (insts : List Inst) (found : Inst) → find test insts ≡ Some found → (place : ℕ) × (place < length insts) × (inst_at insts place ≡ found) × (test found ≡ true)
decorated_place test [] found is = cc
decorated_place test (inst ∷ insts) found is = by_test (test inst) refl is (λ rest. decorated_place test insts found rest)
  where
    by_test : (b : Bool) → test inst ≡ b → (if b then Some inst else find test insts) ≡ Some found → (find test insts ≡ Some found → (place : ℕ) × (place < length insts) × (inst_at insts place ≡ found) × (test found ≡ true))
        → (place : ℕ) × (place < length (inst ∷ insts)) × (inst_at (inst ∷ insts) place ≡ found) × (test found ≡ true)
    by_test true passes is go = let e = same_some inst found is in (0, omega arith, e, ap test (sym e) ∙ passes)
    by_test false passes is go = let rest = go is in let within = rest.1 in (suc rest.0, omega (arith, within), rest.2, rest.3)

word_found : (found : Option Inst) (word : ℕ) → option_map (word_at 2) found ≡ Some word → (inst : Inst) × (found ≡ Some inst) × (word_at 2 inst ≡ word)
word_found None word is = cc
word_found (Some inst) word is = (inst, refl, same_some _ word is)

last_of : (a b c d e : Bool) → (a || b || c || d || e) ≡ false → e ≡ false
last_of false false false false e is = is
last_of true b c d e is = cc
last_of false true c d e is = cc
last_of false false true d e is = cc
last_of false false false true e is = cc

and_not : (a b : Bool) → (a && not b) ≡ false → a ≡ true → b ≡ true
and_not true true is here = refl
and_not true false is here = cc
and_not false b is here = cc

take_it : {A : Type 0} {x : A} (y : A) (b : Bool) → b ≡ true → (if b then x else y) ≡ x
take_it y true is = refl
take_it y false is = cc

bad_built_in : (facts : ModuleFacts) (before : EarlierFacts) (id decoration word words : ℕ) → bad_decorate facts before id decoration word words ≡ false → ((decoration == BUILT_IN) && not (takes_built_in facts word (facts.meaning id))) ≡ false
unfolding bad_decorate
bad_built_in facts before id decoration word words is =
    last_of (not (is_listed decoration words)) (repeats before id decoration word) (is_out_of_range decoration word) ((decoration == SPEC_ID) && not (is_spec_op (facts.opcode id)))
    ((decoration == BUILT_IN) && not (takes_built_in facts word (facts.meaning id))) is

-- a built-in is one of what its variable holds
takes_it : (facts : ModuleFacts) (before : EarlierFacts) (inst : Inst) (id number : ℕ) → decorates id BUILT_IN inst ≡ true → word_at 2 inst ≡ number → breaks_decorations facts before inst ≡ false → takes_built_in facts number (facts.meaning id) ≡ true
unfolding breaks_decorations
takes_it facts before inst id number is word keeps =
    let own = first_of_both (is_decorate inst && (word_at 0 inst == id)) (word_at 1 inst == BUILT_IN) is in
    let decorate = first_of_both (inst.op == op.DECORATE) (is_listed (word_at 1 inst) (length inst.words)) (first_of_both (is_decorate inst) (word_at 0 inst == id) own) in
    let target = same (word_at 0 inst) id (second_of_both (is_decorate inst) (word_at 0 inst == id) own) in
    let which = second_of_both (is_decorate inst && (word_at 0 inst == id)) (word_at 1 inst == BUILT_IN) is in
    let fits = bad_built_in facts before (word_at 0 inst) (word_at 1 inst) (word_at 2 inst) (length inst.words) (sym (take_it _ (inst.op == op.DECORATE) decorate) ∙ keeps) in
    sym (ap (λ (n : ℕ). takes_built_in facts n (facts.meaning (word_at 0 inst))) word ∙ ap (λ (n : ℕ). takes_built_in facts number (facts.meaning n)) target) ∙ and_not (word_at 1 inst == BUILT_IN) _ fits which

pub valid_built_in : (words : Words) → IsValidList words → (id number : ℕ) → decoration_of words.insts id BUILT_IN ≡ Some number → takes_built_in (facts_of words.insts) number (meaning words.insts id) ≡ true
unfolding decoration_of bad_decoration facts_of
valid_built_in words v id number is =
    let w = word_found (find (decorates id BUILT_IN) words.insts) number is in
    let p = decorated_place (decorates id BUILT_IN) words.insts w.0 w.1 in
    takes_it (facts_of words.insts) _ (inst_at words.insts p.0) id number (ap (decorates id BUILT_IN) p.2 ∙ p.3) (ap (word_at 2) p.2 ∙ w.2) (keeps_decorations words v.sound p.0 p.1)

-- ---- variables

-- the rules of variables hold of the variable with this type and class
pub record VariableKeeps (insts : List Inst) (variable type class : ℕ) : Type 0 where
  pub before : EarlierFacts
  pub keeps : bad_variable (facts_of insts) before type variable class ≡ false

abbrev BreaksAsVariable : ModuleFacts → EarlierFacts → Inst → Type 0
BreaksAsVariable facts before inst = breaks_decorations facts before inst ≡ bad_variable facts before (word_at 0 inst) (word_at 1 inst) (word_at 2 inst)

breaks_as : (facts : ModuleFacts) (before : EarlierFacts) (words : List ℕ) → BreaksAsVariable facts before (instruction op.VARIABLE words)
unfolding breaks_decorations
breaks_as facts before words = refl

pub variable_keeps : (words : Words) → IsValidList words → (variable type class place : ℕ) → definition words.insts variable ≡ Some place → meaning words.insts variable ≡ Variable type class → VariableKeeps words.insts variable type class
unfolding bad_decoration
variable_keeps words v variable type class place defined means =
    let insts = words.insts in let inst = inst_at insts place in
    let m = makes_variable (known_before insts place) inst type class (sym (ap meaning_in (known_by_definition insts variable place defined)) ∙ means) in
    let own = own_result variable (result inst) (gives_at insts variable place defined) in
    let second = defined_id inst (at_op (λ inst. defines (class_of inst.op) ≡ true) inst op.VARIABLE m.is variable_class) in
    let id : word_at 1 inst ≡ variable = same_some (word_at 1 inst) variable (sym second ∙ own) in
    let before = before_of (facts_of insts) (take place insts) in
    let all : bad_variable (facts_of insts) before (word_at 0 inst) (word_at 1 inst) (word_at 2 inst) ≡ false =
    sym (at_op (BreaksAsVariable (facts_of insts) before) inst op.VARIABLE m.is (breaks_as (facts_of insts) before inst.words)) ∙ keeps_decorations words v.sound place (defined_within insts variable place defined) in
    record {
      before = before;
      keeps =
          sym (ap (λ (t : ℕ). bad_variable (facts_of insts) before t (word_at 1 inst) (word_at 2 inst)) m.of
          ∙ (ap (λ (n : ℕ). bad_variable (facts_of insts) before type n (word_at 2 inst)) id ∙ ap (bad_variable (facts_of insts) before type variable) m.in_class))
          ∙ all;
    }

-- the rules one by one
pub record VariableRules (facts : ModuleFacts) (before : EarlierFacts) (type variable storage : ℕ) : Type 0 where
  pub interface : bad_interface facts variable storage ≡ false
  pub location : bad_location facts variable type ≡ false
  pub uniform : bad_uniform facts before type variable storage ≡ false
  pub push : bad_push facts before type storage ≡ false

variable_rules : (facts : ModuleFacts) (before : EarlierFacts) (type variable storage : ℕ) → bad_variable facts before type variable storage ≡ false → VariableRules facts before type variable storage
unfolding bad_variable
variable_rules facts before type variable storage is =
    let n = none_of_five (bad_interface facts variable storage) (bad_location facts variable type) (bad_uniform facts before type variable storage) (bad_push facts before type storage) _ is in
    record { interface = n.0; location = n.1; uniform = n.2; push = n.3 }
  where
    none_of_five : (a b c d e : Bool) → (a || b || c || d || e) ≡ false → (a ≡ false) × (b ≡ false) × (c ≡ false) × (d ≡ false)
    none_of_five true b c d e is = cc
    none_of_five false true c d e is = cc
    none_of_five false false true d e is = cc
    none_of_five false false false true e is = cc
    none_of_five false false false false e is = (refl, refl, refl, refl)

or_not : (a b : Bool) → (a || not b) ≡ false → b ≡ true
or_not true b is = cc
or_not false true is = refl
or_not false false is = cc

and_false : (a b : Bool) → (a && b) ≡ false → a ≡ true → b ≡ false
and_false true b is here = is
and_false false b is here = cc

-- ---- the words that a run begins with

-- integers, or a word below two
abbrev IsSmallOr : Bool → ℕ → Type 0
IsSmallOr integers word = (integers ≡ true) ⊎ (word < 2)

position_integers : (m : Meaning) → is_position_type m ≡ true → is_integers m ≡ true
position_integers (OfShape (IntVector count signed)) is = refl
position_integers m is = cc

integer_integers : (m : Meaning) → is_integer m ≡ true → is_integers m ≡ true
integer_integers (OfShape (Int signed)) is = refl
integer_integers m is = cc

truth_small : (b : Bool) → word_of_truth b < 2
truth_small true = omega arith
truth_small false = omega arith

third_of : (a b c : Bool) → (a && b && c) ≡ true → c ≡ true
third_of true true c is = is
third_of true false c is = cc
third_of false b c is = cc

built_in_small : (inputs : Inputs) (number at storage : ℕ) (vertex : Bool) (m : Meaning) → is_built_in number vertex storage m ≡ true → IsSmallOr (is_integers m) (built_in_word inputs number at)
built_in_small inputs number at storage vertex m is =
    by_tests (number == builtin.VERTEX_INDEX) (number == builtin.INSTANCE_INDEX) (number == builtin.POSITION) (number == builtin.FRAG_COORD) (number == builtin.FRONT_FACING) is
  where
    by_tests : (a b p f g : Bool)
        → (if a || b then vertex && (storage == class.INPUT) && is_integer m else if p then vertex && (storage == class.OUTPUT) && is_position_type m
        else if f then not vertex && (storage == class.INPUT) && is_position_type m else if g then not vertex && (storage == class.INPUT) && is_bool m else false) ≡ true
        → IsSmallOr (is_integers m) (if a then inputs.vertex_index else if b then inputs.instance_index else if f then slice_index inputs.frag_coord at else if g then word_of_truth inputs.front else 0)
    by_tests true b p f g is = inl (integer_integers m (third_of vertex (storage == class.INPUT) (is_integer m) is))
    by_tests false true p f g is = inl (integer_integers m (third_of vertex (storage == class.INPUT) (is_integer m) is))
    by_tests false false true f g is = inl (position_integers m (third_of vertex (storage == class.OUTPUT) (is_position_type m) is))
    by_tests false false false true g is = inl (position_integers m (third_of (not vertex) (storage == class.INPUT) (is_position_type m) is))
    by_tests false false false false true is = inr (truth_small inputs.front)
    by_tests false false false false false is = cc

-- what an input holds
input_small : (inputs : Inputs) (facts : ModuleFacts) (type variable at : ℕ) (built_in location : Option ℕ) → facts.decoration variable BUILT_IN ≡ built_in → facts.decoration variable LOCATION ≡ location
    → ((number : ℕ) → built_in ≡ Some number → takes_built_in facts number (Variable type class.INPUT) ≡ true) → bad_location facts variable type ≡ false
    → IsSmallOr (is_integers (shapes.held_type facts type)) (input_word inputs built_in location at)
input_small inputs facts type variable at (Some number) location is_built_in is_at takes located = built_in_small inputs number at class.INPUT (is_vertex facts) (shapes.held_type facts type) (takes number refl)
input_small inputs facts type variable at None (Some location) is_built_in is_at takes located = inl (and_not (is_decorated facts variable LOCATION) (is_integers (shapes.held_type facts type)) located (ap is_some is_at))
input_small inputs facts type variable at None None is_built_in is_at takes located = inr (omega arith)

not_true : {word : ℕ} (b : Bool) → b ≡ false → b ≡ true → word < 2
not_true true isnt is = cc
not_true false isnt is = cc

class_small : (words : Words) → IsValidList words → (inputs : Inputs) (buffers : Buffers) (variable type storage at place : ℕ) (layout : Layout) → definition words.insts variable ≡ Some place → meaning words.insts variable ≡ Variable type storage
    → Holds (program_of words.insts) type layout → is_truth_at layout at ≡ true → class_word (program_of words.insts) inputs buffers variable storage at < 2
unfolding facts_of program_of
class_small words v inputs buffers variable type storage at place layout defined means holds is =
    by_tests _ _ (storage == class.INPUT) (storage == class.UNIFORM) (storage == class.PUSH_CONSTANT) refl refl refl
  where
    facts : ModuleFacts
    facts = facts_of words.insts

    knows : KnowsMeanings (program_of words.insts) (facts_of words.insts)
    knows id = refl

    keeps : VariableKeeps words.insts variable type storage
    keeps = variable_keeps words v variable type storage place defined means

    rules : VariableRules (facts_of words.insts) keeps.before type variable storage
    rules = variable_rules (facts_of words.insts) keeps.before type variable storage keeps.keeps

    no_integers : (word : ℕ) → is_integers (shapes.held_type (facts_of words.insts) type) ≡ true → word < 2
    no_integers word integers = not_true (is_truth_at layout at) (held_integers (program_of words.insts) (valid_types words v.sound) (facts_of words.insts) knows type layout holds integers at) is

    no_block : (word : ℕ) → points_to_block (facts_of words.insts) type ≡ true → word < 2
    no_block word block = not_true (is_truth_at layout at) (held_block (program_of words.insts) (valid_types words v.sound) (facts_of words.insts) knows type layout holds block at) is

    input : storage == class.INPUT ≡ true → input_word inputs (decoration_of words.insts variable BUILT_IN) (decoration_of words.insts variable LOCATION) at < 2
    input is_input =
        elim (input_small inputs (facts_of words.insts) type variable at (decoration_of words.insts variable BUILT_IN) (decoration_of words.insts variable LOCATION) refl refl
        (λ number built_in. sym (ap (takes_built_in (facts_of words.insts) number) (means ∙ ap (λ (n : ℕ). Variable type n) (same storage class.INPUT is_input))) ∙ valid_built_in words v variable number built_in) rules.location) [
          | inl integers ↦ no_integers _ integers
          | inr small ↦ small
        ]

    by_tests : (x y : ℕ) (a b c : Bool) → (storage == class.INPUT) ≡ a → (storage == class.UNIFORM) ≡ b → (storage == class.PUSH_CONSTANT) ≡ c
        → (if a then input_word inputs (decoration_of words.insts variable BUILT_IN) (decoration_of words.insts variable LOCATION) at else if b then x else if c then y else 0) < 2
    by_tests x y true b c is_input is_uniform is_push = input is_input
    by_tests x y false true c is_input is_uniform is_push = no_block x (or_not _ (points_to_block (facts_of words.insts) type) (and_false _ _ rules.uniform is_uniform))
    by_tests x y false false true is_input is_uniform is_push = no_block y (or_not _ (points_to_block (facts_of words.insts) type) (and_false _ _ rules.push is_push))
    by_tests x y false false false is_input is_uniform is_push = omega arith

first_word : (words : Words) → IsValidList words → (inputs : Inputs) (buffers : Buffers) (variable type storage at place : ℕ) (layout : Layout) → definition (program_of words.insts).insts variable ≡ Some place
    → (program_of words.insts).meaning variable ≡ Variable type storage → Holds (program_of words.insts) type layout → is_truth_at layout at ≡ true → class_word (program_of words.insts) inputs buffers variable storage at < 2
unfolding program_of
first_word words v inputs buffers variable type storage at place layout defined means holds is = class_small words v inputs buffers variable type storage at place layout defined means holds is

-- a variable that holds something is one
held_by : (program : Program) (m : Meaning) (layout : Layout) → option_and_then program.layout (held program.meaning m) ≡ Some layout → (type : ℕ) × (storage : ℕ) × (m ≡ Variable type storage) × (option_and_then program.layout (pointee (program.meaning type)) ≡ Some layout)
held_by program (Variable type storage) layout is = (type, storage, refl, is)
held_by program m layout is = cc

-- the memory that a run begins with
pub first_truths : (words : Words) → IsValidList words → (inputs : Inputs) (buffers : Buffers) → HoldsTruths (program_of words.insts) (first_memory (program_of words.insts) inputs buffers)
unfolding first_memory held_layout
first_truths words v inputs buffers variable layout at holds less is =
    let program = program_of words.insts in
    let h = held_by program (program.meaning variable) layout holds in
    let held = holds_by program h.0 layout (program.meaning h.0) refl h.3 in
    let lies = variable_lies words variable h.0 h.1 layout h.2 holds in
    subst (λ (n : ℕ). n < 2) (sym (ap (λ (m : Meaning). variable_word program inputs buffers variable m at) h.2))
    (first_word words v inputs buffers variable h.0 h.1 at lies.place layout lies.defined h.2 held is)
