-- The frame of the module's level, by one more instruction.
use Rattle.std.proofs.Common.{◌≡◌, ℕ, ◌+◌, ◌<◌, ◌≤◌, ◌==◌, ◌||◌, Bool, true, false, if◌then◌else◌, List, [], ◌∷◌, length, take, drop, get_or, slice_index, refl, ap, sym, ◌∙◌, subst, arith, Option, None, Some, is_some}
use Rattle.std.specs.Option.{option_or}
use Rattle.std.proofs.lemmas.List.{at_drop_more}
use Rattle.std.proofs.lemmas.Bool.Decides.{nat_tests}
use Rattle.spirv_model.specs.declared.module.Inst.{Inst}
use Rattle.spirv_model.specs.declared.module.Words.{Words}
use Rattle.spirv_model.specs.declared.op.TheConstants as op
use Rattle.spirv_model.specs.Operands.{word_at}
use Rattle.state_model.specs.declared.parts.Entry.{Entry}
use Rattle.state_model.specs.declared.parts.SpecValues.{SpecValues}
use Rattle.valid_model.specs.Definitions.{definition, inst_at}
use Rattle.valid_model.specs.Meanings.{meaning}
use Rattle.check_model.specs.Validity.{IsValidList}
use Rattle.check_model.specs.Typing.{constant_word}
use Rattle.stage_model.specs.Value.{Value}
use Rattle.stage_model.specs.Program.{Program, program_of}
use Rattle.stage_model.specs.Start.{Values, no_values, with_value, constant_of, with_definition, defined_by, entry_word}
use Rattle.typed_model.specs.Types.{Suits}
use Rattle.typed_model.specs.Judgement.{HasValue}
use Rattle.typed_model.specs.Modules.{IsFront}
use Rattle.typed_model.proofs.TypedSteps.{visible_by}
use Rattle.typed_model.proofs.ModuleValues.{defined_next, with_one, with_none}
use Rattle.typed_model.proofs.ModuleTyped.{module_typed}
use Rattle.typed_model.proofs.ValidModules.{valid_sound}
use Rattle.typed_model.proofs.ValidFunctions.{front_of}
use Rattle.typed_model.proofs.RunningStart.{first_label_is}
use Rattle.stage_model.specs.Stage.{first_label}
use Rattle.frame_model.specs.Frame.{frame_place, frame_words, in_frame}
use Rattle.frame_model.specs.Shown.{Shows, IsFrame}
use Rattle.frame_model.specs.Written.{written}
use Rattle.frame_model.proofs.FrameWrites.{is_frame_written, shows_written}
use Rattle.frame_model.proofs.ResultWords.{suits_words}
use Rattle.spv_exec.specs.FirstFrames.{IsFirstFrame, IsDefined, defines_value, entry_value}
use Rattle.spv_exec.proofs.ModuleVariables.{DefinesThere, defines_there}

abbrev values_at : List Inst → SpecValues → ℕ → Values
values_at insts entries place = defined_by (program_of insts) entries (take place insts)

abbrev pub made_at : List Inst → SpecValues → ℕ → Option Value
made_at insts entries place = constant_of (program_of insts) entries (values_at insts entries place) (inst_at insts place).op (inst_at insts place).words

-- the instruction at a place gives its result this value
pub record GivesValue (insts : List Inst) (entries : SpecValues) (place : ℕ) : Type 0 where
  pub value : Value
  pub made : made_at insts entries place ≡ Some value
  pub there : definition insts (word_at 1 (inst_at insts place)) ≡ Some place
  pub suits : Suits (program_of insts) (constant_word insts) (word_at 1 (inst_at insts place)) value
  pub size : length (in_frame (program_of insts) value) ≡ frame_words (program_of insts) (inst_at insts place)

same_some : {A : Type 0} (x y : A) → Some x ≡ Some y → x ≡ y
same_some x y is = cc

self : (a : ℕ) → a == a ≡ true
self a = grind (arith, nat_tests)

value_here : (id : ℕ) (value own : Value) (values : Values) → with_value id (Some value) values id ≡ Some own → value ≡ own
value_here id value own values is = same_some value own (sym (ap (λ (b : Bool). if b then Some value else values id) (self id)) ∙ is)

gives_by : (words : Words) → IsValidList words → (entries : SpecValues) (place : ℕ) → place < length words.insts → ((id : ℕ) (value : Value) → values_at words.insts entries place id ≡ Some value → (at : ℕ) × (definition words.insts id ≡ Some at) × (at < place))
    → (d : DefinesThere words.insts place) → (h : HasValue words.insts (with_definition (program_of words.insts) entries (values_at words.insts entries place) (inst_at words.insts place)) (word_at 1 (inst_at words.insts place)))
    → (made : Option Value) → made_at words.insts entries place ≡ made → GivesValue words.insts entries place
gives_by words v entries place within early d h None made =
    let inst = inst_at words.insts place in
    let id = word_at 1 inst in
    let before = early id h.value (sym (ap (λ (f : Values). f id) (with_none (program_of words.insts) entries (values_at words.insts entries place) inst made)) ∙ h.is) in
    let e : before.0 ≡ place = same_some before.0 place (sym before.1 ∙ d.there) in
    absurd (let less = before.2 in omega (arith, e, less))
gives_by words v entries place within early d h (Some value) made =
    let inst = inst_at words.insts place in
    let id = word_at 1 inst in
    let own : value ≡ h.value = value_here id value h.value (values_at words.insts entries place) (sym (ap (λ (f : Values). f id) (with_one (program_of words.insts) entries (values_at words.insts entries place) inst value made)) ∙ h.is) in
    let suits = subst (λ (w : Value). Suits (program_of words.insts) (constant_word words.insts) id w) (sym own) h.suits in
    record { value = value; made = made; there = d.there; suits = suits; size = suits_words words v id place d.type value d.there d.typed suits }

pub gives_value : (words : Words) → IsValidList words → (entries : SpecValues) (place : ℕ) (frame : List ℕ) → place < length words.insts → IsFront words (place + 1) → IsDefined words.insts entries place frame → defines_value (inst_at words.insts place).op ≡ true
    → GivesValue words.insts entries place
unfolding program_of
gives_value words v entries place frame within front before is =
    let d = defines_there words v place within is in
    let id = word_at 1 (inst_at words.insts place) in
    let h = module_typed words entries [] (valid_sound words v) (place + 1) front id place d.type d.there (visible_by [] place (place + 1) (omega arith) refl) d.typed in
    let next = defined_next words.insts (program_of words.insts) entries place within in
    gives_by words v entries place within before.early d (subst (λ (f : Values). HasValue words.insts f id) next h) (made_at words.insts entries place) refl

-- ---- one more instruction

pub defined_none : (insts : List Inst) (entries : SpecValues) (frame : List ℕ) → length frame ≡ frame_place (program_of insts) (length insts) → IsDefined insts entries 0 frame
unfolding program_of defined_by
defined_none insts entries frame long = record {
  is = record { size = long; shows = record { suits = λ id value has. absurd (never value has); stands = λ id place value at has. absurd (never value has) } };
  early = λ id value has. absurd (never value has);
}
  where
    never : (value : Value) → ◌≡◌ {A = Option Value} None (Some value) → ⊥
    never value has = cc

pub defined_kept : (insts : List Inst) (entries : SpecValues) (place : ℕ) (frame : List ℕ) → place < length insts → made_at insts entries place ≡ None → IsDefined insts entries place frame → IsDefined insts entries (place + 1) frame
unfolding program_of
defined_kept insts entries place frame within none before =
    let same : values_at insts entries (place + 1) ≡ values_at insts entries place = defined_next insts (program_of insts) entries place within ∙ with_none (program_of insts) entries (values_at insts entries place) (inst_at insts place) none in
    record {
      is = record { size = before.is.size; shows = subst (λ (f : Values). Shows (program_of insts) frame f) (sym same) before.is.shows };
      early = λ id value has. (let e = before.early id value (sym (ap (λ (f : Values). f id) same) ∙ has) in (e.0, e.1, (let l = e.2 in omega (arith, l))));
    }

pub defined_more : (insts : List Inst) (entries : SpecValues) (place : ℕ) (frame new : List ℕ) → place < length insts → (g : GivesValue insts entries place) → new ≡ written frame (frame_place (program_of insts) place) (in_frame (program_of insts) g.value)
    → IsDefined insts entries place frame → IsDefined insts entries (place + 1) new
unfolding program_of
defined_more insts entries place frame new within g is before =
    let program = program_of insts in
    let id = word_at 1 (inst_at insts place) in
    let values = values_at insts entries place in
    let next : values_at insts entries (place + 1) ≡ with_value id (Some g.value) values = defined_next insts program entries place within ∙ with_one program entries values (inst_at insts place) g.value g.made in
    record {
      is = record {
        size = subst (λ (l : List ℕ). IsFrame program l) (sym is) (is_frame_written program frame place g.value before.is.size within g.size);
        shows = subst (λ (l : List ℕ). Shows program l (values_at insts entries (place + 1))) (sym is)
            (subst (λ (f : Values). Shows program (written frame (frame_place program place) (in_frame program g.value)) f) (sym next)
            (shows_written program frame values place id g.value before.is.size before.is.shows (record { defined = g.there; size = g.size; suits = g.suits })));
      };
      early = λ other own has. early_by other own (other == id) refl (sym (ap (λ (f : Values). f other) next) ∙ has);
    }
  where
    same_number : (a b : ℕ) → a == b ≡ true → a ≡ b
    same_number a b is = grind (arith, nat_tests)

    early_by : (other : ℕ) (own : Value) (b : Bool) → (other == word_at 1 (inst_at insts place)) ≡ b → (if b then Some g.value else values_at insts entries place other) ≡ Some own → (at : ℕ) × (definition insts other ≡ Some at) × (at < place + 1)
    early_by other own true same has = (place, ap (definition insts) (same_number other (word_at 1 (inst_at insts place)) same) ∙ g.there, omega arith)
    early_by other own false same has = (let e = before.early other own has in (e.0, e.1, (let l = e.2 in omega (arith, l))))

-- ---- what defines nothing

never_false : ◌≡◌ {A = Bool} true false → ⊥
never_false is = cc

pub no_value : (program : Program) (entries : SpecValues) (values : Values) (opcode : ℕ) (words : List ℕ) → defines_value opcode ≡ false → constant_of program entries values opcode words ≡ None
unfolding constant_of
no_value program entries values opcode [] isnt = refl
no_value program entries values opcode (type ∷ []) isnt = refl
no_value program entries values opcode (type ∷ id ∷ words) isnt =
    by_tests (opcode == op.CONSTANT_TRUE) (opcode == op.CONSTANT_FALSE) (opcode == op.CONSTANT) (opcode == op.SPEC_CONSTANT_TRUE) (opcode == op.SPEC_CONSTANT_FALSE) (opcode == op.SPEC_CONSTANT) (opcode == op.SPEC_CONSTANT_OP) (opcode == op.VARIABLE)
    (opcode == op.CONSTANT_NULL) (opcode == op.UNDEF) (opcode == op.CONSTANT_COMPOSITE) (opcode == op.SPEC_CONSTANT_COMPOSITE) _ _ _ _ _ _ _ _ _ _ _ _ isnt
  where
    by_tests : (a b c d e f g h i j k l : Bool) (va vb vc vi vk vl vd ve vf vg vj vh : Option Value) → ((a || b || c || d || e || f || g || h) || (i || j) || (k || l)) ≡ false
        → (if a then va else if b then vb else if c then vc else if i then vi else if k then vk else if l then vl else if d then vd else if e then ve else if f then vf else if g then vg else if j then vj else if h then vh else None) ≡ None
    by_tests true b c d e f g h i j k l va vb vc vi vk vl vd ve vf vg vj vh isnt = absurd (never_false isnt)
    by_tests false true c d e f g h i j k l va vb vc vi vk vl vd ve vf vg vj vh isnt = absurd (never_false isnt)
    by_tests false false true d e f g h i j k l va vb vc vi vk vl vd ve vf vg vj vh isnt = absurd (never_false isnt)
    by_tests false false false true e f g h i j k l va vb vc vi vk vl vd ve vf vg vj vh isnt = absurd (never_false isnt)
    by_tests false false false false true f g h i j k l va vb vc vi vk vl vd ve vf vg vj vh isnt = absurd (never_false isnt)
    by_tests false false false false false true g h i j k l va vb vc vi vk vl vd ve vf vg vj vh isnt = absurd (never_false isnt)
    by_tests false false false false false false true h i j k l va vb vc vi vk vl vd ve vf vg vj vh isnt = absurd (never_false isnt)
    by_tests false false false false false false false true i j k l va vb vc vi vk vl vd ve vf vg vj vh isnt = absurd (never_false isnt)
    by_tests false false false false false false false false true j k l va vb vc vi vk vl vd ve vf vg vj vh isnt = absurd (never_false isnt)
    by_tests false false false false false false false false false true k l va vb vc vi vk vl vd ve vf vg vj vh isnt = absurd (never_false isnt)
    by_tests false false false false false false false false false false true l va vb vc vi vk vl vd ve vf vg vj vh isnt = absurd (never_false isnt)
    by_tests false false false false false false false false false false false true va vb vc vi vk vl vd ve vf vg vj vh isnt = absurd (never_false isnt)
    by_tests false false false false false false false false false false false false va vb vc vi vk vl vd ve vf vg vj vh isnt = refl

-- ---- entries

pub entry_next : (entries : List (Option Entry)) (i id : ℕ) (default : Option Entry) → i < length entries → entry_word (drop i entries) id ≡ option_or (entry_value (get_or entries i default) id) (entry_word (drop (i + 1) entries) id)
entry_next entries i id default within =
    at_drop_more (λ (l : List (Option Entry)). entry_word l id) entries i default within ∙ one (get_or entries i default) (drop (i + 1) entries) id
  where
    one : (entry : Option Entry) (entries : List (Option Entry)) (id : ℕ) → entry_word (entry ∷ entries) id ≡ option_or (entry_value entry id) (entry_word entries id)
    one None entries id = refl
    one (Some entry) entries id = by_test (entry.id == id) entry entries id
      where
        by_test : (b : Bool) (entry : Entry) (entries : List (Option Entry)) (id : ℕ) → (if b then Some entry.value else entry_word entries id) ≡ option_or (if b then Some entry.value else None) (entry_word entries id)
        by_test true entry entries id = refl
        by_test false entry entries id = refl

pub entry_found : (entries : List (Option Entry)) (i id word : ℕ) (default : Option Entry) (found : Option ℕ) → i < length entries → found ≡ entry_value (get_or entries i default) id → found ≡ Some word → entry_word entries id ≡ entry_word (drop i entries) id → Some word ≡ entry_word entries id
entry_found entries i id word default found within is some before =
    sym some ∙ sym (ap (λ (o : Option ℕ). option_or o (entry_word (drop (i + 1) entries) id)) some ∙ sym some) ∙ ap (λ (o : Option ℕ). option_or o (entry_word (drop (i + 1) entries) id)) is ∙ sym (entry_next entries i id default within) ∙ sym before

pub entry_missed : (entries : List (Option Entry)) (i id : ℕ) (default : Option Entry) (found : Option ℕ) → i < length entries → found ≡ entry_value (get_or entries i default) id → found ≡ None → entry_word entries id ≡ entry_word (drop i entries) id
    → entry_word entries id ≡ entry_word (drop (i + 1) entries) id
entry_missed entries i id default found within is none before =
    before ∙ entry_next entries i id default within ∙ ap (λ (o : Option ℕ). option_or o (entry_word (drop (i + 1) entries) id)) (sym is ∙ none)

-- ---- the module's level

pub front_here : (words : Words) → IsValidList words → (first place : ℕ) → first_label words.insts ≡ Some first → place < first → IsFront words (place + 1)
front_here words v first place is less =
    let front = front_of words v.derivation in
    let e : first ≡ v.derivation.before + 1 = same_some first (v.derivation.before + 1) (sym is ∙ first_label_is words.insts v.derivation) in
    record { within = (let w = front.within in omega (arith, w, e, less)); level = λ other before. front.level other (omega (arith, before, less, e)) }
