-- The words of values of the module's level that are one word.
use Rattle.std.proofs.Common.{◌≡◌, ℕ, ◌+◌, ◌^◌, ◌<◌, ◌≤◌, ◌==◌, ◌||◌, Bool, true, false, if◌then◌else◌, List, [], ◌∷◌, length, take, slice_index, refl, ap, sym, ◌∙◌, subst, arith, Option, None, Some}
use Rattle.std.specs.Option.{option_map, option_and_then, unwrap_or}
use Rattle.std.proofs.lemmas.Bool.Decides.{nat_tests}
use Rattle.spirv_model.specs.declared.module.Inst.{Inst}
use Rattle.spirv_model.specs.declared.module.Words.{Words}
use Rattle.spirv_model.specs.declared.op.TheConstants as op
use Rattle.spirv_model.specs.Operands.{word_at}
use Rattle.state_model.specs.declared.parts.SpecValues.{SpecValues}
use Rattle.valid_model.specs.Definitions.{definition, inst_at}
use Rattle.check_model.specs.Validity.{IsValidList}
use Rattle.stage_model.specs.Value.{Value, Truth, Word, Pointer, Layout, word_of_truth, part_along}
use Rattle.stage_model.specs.Program.{Program, program_of, held_layout}
use Rattle.stage_model.specs.Start.{Values, is_nonzero, specialized, constant_of, defined_by}
use Rattle.stage_model.specs.Effect.{place_of}
use Rattle.typed_model.proofs.PlainRuns.{at_op}
use Rattle.typed_model.proofs.EffectsRun.{instruction}
use Rattle.frame_model.specs.Frame.{memory_place, variable_place, in_frame}
use Rattle.frame_model.proofs.FrameLimits.{memory_few}
use Rattle.frame_model.proofs.ResultWords.{makes_variable}
use Rattle.spv_exec.specs.FirstFrames.{DefinesWord, defines_one, defines_value, defines_zeros, defines_composite}

-- the value of the instruction, if it has one, is this word
abbrev Makes : Program → SpecValues → Values → (Inst → ℕ) → Inst → Type 0
Makes program entries values word inst = (value : Value) → constant_of program entries values inst.op inst.words ≡ Some value → in_frame program value ≡ word inst ∷ []

same_some : {A : Type 0} (x y : A) → Some x ≡ Some y → x ≡ y
same_some x y is = cc

is_made : (program : Program) (made value : Value) (word : ℕ) → in_frame program made ≡ word ∷ [] → ◌≡◌ {A = Option Value} (Some made) (Some value) → in_frame program value ≡ word ∷ []
is_made program made value word shown is = ap (in_frame program) (sym (same_some made value is)) ∙ shown

never : (value : Value) → ◌≡◌ {A = Option Value} None (Some value) → ⊥
never value is = cc

truth_shown : (program : Program) (b : Bool) → in_frame program (Truth b) ≡ word_of_truth b ∷ []
unfolding in_frame
truth_shown program b = refl

word_shown : (program : Program) (word : ℕ) → in_frame program (Word word) ≡ word ∷ []
unfolding in_frame
word_shown program word = refl

true_made : (program : Program) (entries : SpecValues) (values : Values) (words : List ℕ) → Makes program entries values (λ _. 1) (instruction op.CONSTANT_TRUE words)
unfolding constant_of
true_made program entries values (type ∷ id ∷ words) = λ value is. is_made program (Truth true) value 1 (truth_shown program true) is
true_made program entries values (type ∷ []) = λ value is. absurd (never value is)
true_made program entries values [] = λ value is. absurd (never value is)

false_made : (program : Program) (entries : SpecValues) (values : Values) (words : List ℕ) → Makes program entries values (λ _. 0) (instruction op.CONSTANT_FALSE words)
unfolding constant_of
false_made program entries values (type ∷ id ∷ words) = λ value is. is_made program (Truth false) value 0 (truth_shown program false) is
false_made program entries values (type ∷ []) = λ value is. absurd (never value is)
false_made program entries values [] = λ value is. absurd (never value is)

number_made : (program : Program) (entries : SpecValues) (values : Values) (words : List ℕ) → Makes program entries values (word_at 2) (instruction op.CONSTANT words)
unfolding constant_of
number_made program entries values (type ∷ id ∷ words) = λ value is. is_made program (Word (slice_index words 0)) value _ (word_shown program (slice_index words 0)) is
number_made program entries values (type ∷ []) = λ value is. absurd (never value is)
number_made program entries values [] = λ value is. absurd (never value is)

abbrev truth_of : Program → SpecValues → ℕ → Inst → ℕ
truth_of program entries default inst = word_of_truth (is_nonzero (unwrap_or (specialized program entries (word_at 1 inst)) default))

spec_true_made : (program : Program) (entries : SpecValues) (values : Values) (words : List ℕ) → Makes program entries values (truth_of program entries 1) (instruction op.SPEC_CONSTANT_TRUE words)
unfolding constant_of
spec_true_made program entries values (type ∷ id ∷ words) = λ value is. is_made program _ value _ (truth_shown program (is_nonzero (unwrap_or (specialized program entries id) 1))) is
spec_true_made program entries values (type ∷ []) = λ value is. absurd (never value is)
spec_true_made program entries values [] = λ value is. absurd (never value is)

spec_false_made : (program : Program) (entries : SpecValues) (values : Values) (words : List ℕ) → Makes program entries values (truth_of program entries 0) (instruction op.SPEC_CONSTANT_FALSE words)
unfolding constant_of
spec_false_made program entries values (type ∷ id ∷ words) = λ value is. is_made program _ value _ (truth_shown program (is_nonzero (unwrap_or (specialized program entries id) 0))) is
spec_false_made program entries values (type ∷ []) = λ value is. absurd (never value is)
spec_false_made program entries values [] = λ value is. absurd (never value is)

abbrev number_of : Program → SpecValues → Inst → ℕ
number_of program entries inst = unwrap_or (specialized program entries (word_at 1 inst)) (word_at 2 inst)

spec_number_made : (program : Program) (entries : SpecValues) (values : Values) (words : List ℕ) → Makes program entries values (number_of program entries) (instruction op.SPEC_CONSTANT words)
unfolding constant_of
spec_number_made program entries values (type ∷ id ∷ words) = λ value is. is_made program _ value _ (word_shown program (unwrap_or (specialized program entries id) (slice_index words 0))) is
spec_number_made program entries values (type ∷ []) = λ value is. absurd (never value is)
spec_number_made program entries values [] = λ value is. absurd (never value is)

-- ---- a variable

whole_place : (found : Option Layout) → unwrap_or (option_map (λ (place, layout). place) (option_and_then (λ layout. part_along layout []) found)) 0 ≡ 0
whole_place None = refl
whole_place (Some layout) = refl

pointer_shown : (program : Program) (id : ℕ) → in_frame program (Pointer id []) ≡ variable_place program id ∷ []
unfolding in_frame
pointer_shown program id = ap (λ (n : ℕ). n ∷ []) (ap (λ (n : ℕ). variable_place program id + n) (whole_place (held_layout program id)) ∙ omega arith)

variable_made : (program : Program) (entries : SpecValues) (values : Values) (words : List ℕ) → Makes program entries values (λ inst. variable_place program (word_at 1 inst)) (instruction op.VARIABLE words)
unfolding constant_of
variable_made program entries values (type ∷ id ∷ words) = λ value is. is_made program (Pointer id []) value (variable_place program id) (pointer_shown program id) is
variable_made program entries values (type ∷ []) = λ value is. absurd (never value is)
variable_made program entries values [] = λ value is. absurd (never value is)

-- ---- at a place

equal : (a b : ℕ) → a ≡ b → a == b ≡ true
equal a b is = grind (arith, nat_tests)

made_here : (insts : List Inst) (entries : SpecValues) (place opcode word : ℕ) (of : Inst → ℕ) (inst : Inst) → inst ≡ inst_at insts place → inst.op ≡ opcode → word ≡ of inst
    → ((words : List ℕ) → Makes (program_of insts) entries (defined_by (program_of insts) entries (take place insts)) of (instruction opcode words)) → DefinesWord insts entries place word
made_here insts entries place opcode word of inst at is is_word makes = λ value made.
    at_op (Makes (program_of insts) entries (defined_by (program_of insts) entries (take place insts)) of) (inst_at insts place) opcode (sym (ap (λ (i : Inst). i.op == opcode) at) ∙ equal inst.op opcode is) (makes (inst_at insts place).words) value made
    ∙ ap (λ (n : ℕ). n ∷ []) (sym (is_word ∙ ap of at))

pub true_here : (insts : List Inst) (entries : SpecValues) (place : ℕ) (inst : Inst) → inst ≡ inst_at insts place → inst.op ≡ op.CONSTANT_TRUE → DefinesWord insts entries place 1
true_here insts entries place inst at is = made_here insts entries place op.CONSTANT_TRUE 1 (λ _. 1) inst at is refl (true_made (program_of insts) entries _)

pub false_here : (insts : List Inst) (entries : SpecValues) (place : ℕ) (inst : Inst) → inst ≡ inst_at insts place → inst.op ≡ op.CONSTANT_FALSE → DefinesWord insts entries place 0
false_here insts entries place inst at is = made_here insts entries place op.CONSTANT_FALSE 0 (λ _. 0) inst at is refl (false_made (program_of insts) entries _)

pub number_here : (insts : List Inst) (entries : SpecValues) (place word : ℕ) (inst : Inst) → inst ≡ inst_at insts place → inst.op ≡ op.CONSTANT → word ≡ word_at 2 inst → DefinesWord insts entries place word
number_here insts entries place word inst at is is_word = made_here insts entries place op.CONSTANT word (word_at 2) inst at is is_word (number_made (program_of insts) entries _)

pub spec_true_here : (insts : List Inst) (entries : SpecValues) (place word id : ℕ) (inst : Inst) → inst ≡ inst_at insts place → inst.op ≡ op.SPEC_CONSTANT_TRUE → id ≡ word_at 1 inst
    → word ≡ word_of_truth (is_nonzero (unwrap_or (specialized (program_of insts) entries id) 1)) → DefinesWord insts entries place word
spec_true_here insts entries place word id inst at is own is_word =
    made_here insts entries place op.SPEC_CONSTANT_TRUE word (truth_of (program_of insts) entries 1) inst at is (is_word ∙ ap (λ (n : ℕ). word_of_truth (is_nonzero (unwrap_or (specialized (program_of insts) entries n) 1))) own) (spec_true_made (program_of insts) entries _)

pub spec_false_here : (insts : List Inst) (entries : SpecValues) (place word id : ℕ) (inst : Inst) → inst ≡ inst_at insts place → inst.op ≡ op.SPEC_CONSTANT_FALSE → id ≡ word_at 1 inst
    → word ≡ word_of_truth (is_nonzero (unwrap_or (specialized (program_of insts) entries id) 0)) → DefinesWord insts entries place word
spec_false_here insts entries place word id inst at is own is_word =
    made_here insts entries place op.SPEC_CONSTANT_FALSE word (truth_of (program_of insts) entries 0) inst at is (is_word ∙ ap (λ (n : ℕ). word_of_truth (is_nonzero (unwrap_or (specialized (program_of insts) entries n) 0))) own) (spec_false_made (program_of insts) entries _)

pub spec_number_here : (insts : List Inst) (entries : SpecValues) (place word id default : ℕ) (inst : Inst) → inst ≡ inst_at insts place → inst.op ≡ op.SPEC_CONSTANT → id ≡ word_at 1 inst → default ≡ word_at 2 inst
    → word ≡ unwrap_or (specialized (program_of insts) entries id) default → DefinesWord insts entries place word
spec_number_here insts entries place word id default inst at is own last is_word =
    made_here insts entries place op.SPEC_CONSTANT word (number_of (program_of insts) entries) inst at is
    (is_word ∙ ap (λ (n : ℕ). unwrap_or (specialized (program_of insts) entries n) default) own ∙ ap (unwrap_or (specialized (program_of insts) entries (word_at 1 inst))) last) (spec_number_made (program_of insts) entries _)

variable_at : (insts : List Inst) (place id : ℕ) → definition insts id ≡ Some place → variable_place (program_of insts) id ≡ memory_place (program_of insts) place
unfolding program_of
variable_at insts place id is = ap (λ (o : Option ℕ). memory_place (program_of insts) (unwrap_or o 0)) is

pub variable_here : (words : Words) → IsValidList words → (entries : SpecValues) (place word : ℕ) (inst : Inst) → place < length words.insts → inst ≡ inst_at words.insts place → inst.op ≡ op.VARIABLE → word ≡ memory_place (program_of words.insts) place
    → DefinesWord words.insts entries place word
variable_here words v entries place word inst within at is is_word =
    let there = inst_at words.insts place in
    let m = makes_variable words v place within (sym (ap (λ (i : Inst). i.op == op.VARIABLE) at) ∙ equal inst.op op.VARIABLE is) in
    made_here words.insts entries place op.VARIABLE word (λ inst. variable_place (program_of words.insts) (word_at 1 inst)) inst at is
    (is_word ∙ sym (variable_at words.insts place (word_at 1 there) m.there) ∙ ap (λ (i : Inst). variable_place (program_of words.insts) (word_at 1 i)) (sym at)) (variable_made (program_of words.insts) entries _)

-- ---- OpConstantFalse is what is left

never_true : ◌≡◌ {A = Bool} true false → ⊥
never_true is = cc

never_false : ◌≡◌ {A = Bool} false true → ⊥
never_false is = cc

differs : (a b : ℕ) → (a ≡ b → ⊥) → a == b ≡ false
differs a b isnt = grind (arith, nat_tests)

same : (a b : ℕ) → a == b ≡ true → a ≡ b
same a b is = grind (arith, nat_tests)

left : (a b c d e f g h z k : Bool) → ((a || b || c || d || e || f || g || h) || z || k) ≡ true → z ≡ false → k ≡ false → a ≡ false → c ≡ false → d ≡ false → e ≡ false → f ≡ false → g ≡ false → h ≡ false → b ≡ true
left a true c d e f g h z k is zn kn an cn dn en fn gn hn = refl
left true false c d e f g h z k is zn kn an cn dn en fn gn hn = absurd (never_true an)
left false false true d e f g h z k is zn kn an cn dn en fn gn hn = absurd (never_true cn)
left false false false true e f g h z k is zn kn an cn dn en fn gn hn = absurd (never_true dn)
left false false false false true f g h z k is zn kn an cn dn en fn gn hn = absurd (never_true en)
left false false false false false true g h z k is zn kn an cn dn en fn gn hn = absurd (never_true fn)
left false false false false false false true h z k is zn kn an cn dn en fn gn hn = absurd (never_true gn)
left false false false false false false false true z k is zn kn an cn dn en fn gn hn = absurd (never_true hn)
left false false false false false false false false true k is zn kn an cn dn en fn gn hn = absurd (never_true zn)
left false false false false false false false false false true is zn kn an cn dn en fn gn hn = absurd (never_true kn)
left false false false false false false false false false false is zn kn an cn dn en fn gn hn = absurd (never_false is)

pub false_left : (insts : List Inst) (entries : SpecValues) (place : ℕ) (inst : Inst) → inst ≡ inst_at insts place → defines_value (inst_at insts place).op ≡ true → defines_zeros (inst_at insts place).op ≡ false → defines_composite (inst_at insts place).op ≡ false
    → (inst.op ≡ op.CONSTANT_TRUE → ⊥) → (inst.op ≡ op.CONSTANT → ⊥) → (inst.op ≡ op.SPEC_CONSTANT_TRUE → ⊥) → (inst.op ≡ op.SPEC_CONSTANT_FALSE → ⊥) → (inst.op ≡ op.SPEC_CONSTANT → ⊥) → (inst.op ≡ op.SPEC_CONSTANT_OP → ⊥) → (inst.op ≡ op.VARIABLE → ⊥)
    → DefinesWord insts entries place 0
false_left insts entries place inst at is zeros composite a c d e f g h =
    let o = inst.op in
    let same_op : inst.op ≡ (inst_at insts place).op = ap (λ (i : Inst). i.op) at in
    false_here insts entries place inst at (same o op.CONSTANT_FALSE
    (left (o == op.CONSTANT_TRUE) (o == op.CONSTANT_FALSE) (o == op.CONSTANT) (o == op.SPEC_CONSTANT_TRUE) (o == op.SPEC_CONSTANT_FALSE) (o == op.SPEC_CONSTANT) (o == op.SPEC_CONSTANT_OP) (o == op.VARIABLE) (defines_zeros o) (defines_composite o)
    (ap defines_value same_op ∙ is) (ap defines_zeros same_op ∙ zeros) (ap defines_composite same_op ∙ composite)
    (differs o op.CONSTANT_TRUE a) (differs o op.CONSTANT c) (differs o op.SPEC_CONSTANT_TRUE d) (differs o op.SPEC_CONSTANT_FALSE e) (differs o op.SPEC_CONSTANT f) (differs o op.SPEC_CONSTANT_OP g) (differs o op.VARIABLE h)))
