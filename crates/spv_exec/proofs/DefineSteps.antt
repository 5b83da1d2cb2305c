-- What the code writes for an instruction of the module's level.
use Rattle.std.proofs.Common.{◌≡◌, ℕ, zero, suc, ◌+◌, ◌<◌, ◌≤◌, ◌==◌, ◌||◌, Bool, true, false, if◌then◌else◌, List, [], ◌∷◌, ◌++◌, length, take, drop, replicate, slice_index, refl, ap, sym, ◌∙◌, subst, arith, Option, None, Some}
use Rattle.std.specs.List.{flat_map}
use Rattle.std.specs.Option.{option_map, option_and_then}
use Rattle.std.proofs.lemmas.List.{length-replicate}
use Rattle.std.proofs.lemmas.List.Concat.{flat_map-cons}
use Rattle.spirv_model.specs.declared.module.Inst.{Inst}
use Rattle.spirv_model.specs.declared.module.Words.{Words}
use Rattle.spirv_model.specs.declared.op.TheConstants as op
use Rattle.spirv_model.specs.Operands.{word_at, words_from}
use Rattle.state_model.specs.declared.parts.SpecValues.{SpecValues}
use Rattle.valid_model.specs.declared.meaning.Meaning.{Meaning}
use Rattle.valid_model.specs.declared.meaning.Meaning.TheVariants.{Shape as OfShape}
use Rattle.valid_model.specs.declared.meaning.Shape.TheVariants.{Pointer as PointerType}
use Rattle.valid_model.specs.Definitions.{definition, inst_at}
use Rattle.valid_model.specs.Meanings.{meaning}
use Rattle.check_model.specs.Validity.{IsValidList}
use Rattle.check_model.specs.Typing.{type_id}
use Rattle.stage_model.specs.Value.{Value, Composite, Layout, zero_of, size_of, words_of, parts_from}
use Rattle.stage_model.specs.Program.{Program, program_of}
use Rattle.stage_model.specs.Start.{Values, all_values, constant_of, defined_by}
use Rattle.typed_model.specs.Modules.{IsFront}
use Rattle.typed_model.specs.Values.{IsData, IsOfMeaning}
use Rattle.typed_model.proofs.PlainRuns.{at_op}
use Rattle.typed_model.proofs.EffectsRun.{instruction}
use Rattle.frame_model.specs.Frame.{frame_place, frame_words, in_frame}
use Rattle.frame_model.specs.Shown.{Shows, IsFrame}
use Rattle.frame_model.specs.ShownWords.{shown_at, shown_of}
use Rattle.frame_model.specs.Written.{written}
use Rattle.frame_model.proofs.FrameSizes.{layout_size}
use Rattle.frame_model.proofs.FrameWrites.{frame_apart, frame_room}
use Rattle.frame_model.proofs.LoadedWords.{zero_in_frame}
use Rattle.frame_model.proofs.PartWords.{in_frame_words}
use Rattle.frame_model.proofs.VectorWords.{constructed_words}
use Rattle.frame_model.proofs.CompositeResults.{IsBefore, AreBefore, ConstructAt}
use Rattle.frame_model.proofs.GivenComposites.{Room}
use Rattle.spv_exec.proofs.CompositeRuns.{Gathers, gathers}
use Rattle.spv_exec.proofs.SplitWords.{IsSplit, split_written}
use Rattle.spv_exec.specs.FirstFrames.{IsDefined, DefinesWord, defines_value, defines_zeros, defines_composite}
use Rattle.spv_exec.proofs.ModuleVariables.{DefinesThere, defines_there}
use Rattle.spv_exec.proofs.DefinedValues.{made_at, GivesValue, gives_value, defined_kept, defined_more, no_value}

same_some : {A : Type 0} (x y : A) → Some x ≡ Some y → x ≡ y
same_some x y is = cc

never_none : {A : Type 0} (x : A) → ◌≡◌ {A = Option A} None (Some x) → ⊥
never_none x is = cc

pub step_none : (insts : List Inst) (entries : SpecValues) (place : ℕ) (frame : List ℕ) (inst : Inst) (b : Bool) → place < length insts → inst ≡ inst_at insts place → b ≡ defines_value inst.op → b ≡ false → IsDefined insts entries place frame → IsDefined insts entries (place + 1) frame
step_none insts entries place frame inst b within at is isnt before =
    defined_kept insts entries place frame within
    (no_value (program_of insts) entries (defined_by (program_of insts) entries (take place insts)) (inst_at insts place).op (inst_at insts place).words (sym (is ∙ ap (λ (i : Inst). defines_value i.op) at) ∙ isnt)) before

-- ---- zeros

abbrev IsZero : Program → Value → Type 0
IsZero program value = (layout : Layout) × (value ≡ zero_of layout)

abbrev MakesZero : Program → SpecValues → Values → Value → Inst → Type 0
MakesZero program entries values value inst = constant_of program entries values inst.op inst.words ≡ Some value → IsZero program value

of_layout : (program : Program) (layout : Option Layout) (value : Value) → option_map zero_of layout ≡ Some value → IsZero program value
of_layout program None value is = absurd (never_none value is)
of_layout program (Some layout) value is = (layout, sym (same_some (zero_of layout) value is))

null_zero : (program : Program) (entries : SpecValues) (values : Values) (value : Value) (words : List ℕ) → MakesZero program entries values value (instruction op.CONSTANT_NULL words)
unfolding constant_of
null_zero program entries values value (type ∷ id ∷ words) is = of_layout program (program.layout type) value is
null_zero program entries values value (type ∷ []) is = absurd (never_none value is)
null_zero program entries values value [] is = absurd (never_none value is)

undef_zero : (program : Program) (entries : SpecValues) (values : Values) (value : Value) (words : List ℕ) → MakesZero program entries values value (instruction op.UNDEF words)
unfolding constant_of
undef_zero program entries values value (type ∷ id ∷ words) is = of_layout program (program.layout type) value is
undef_zero program entries values value (type ∷ []) is = absurd (never_none value is)
undef_zero program entries values value [] is = absurd (never_none value is)

either : {Q : Type 0} (a b : Bool) → (a || b) ≡ true → (a ≡ true → Q) → (b ≡ true → Q) → Q
either true b is f g = f refl
either false b is f g = g is

zero_made : (program : Program) (entries : SpecValues) (values : Values) (value : Value) (inst : Inst) → defines_zeros inst.op ≡ true → MakesZero program entries values value inst
zero_made program entries values value inst is =
    either (inst.op == op.CONSTANT_NULL) (inst.op == op.UNDEF) is
    (λ e. at_op (MakesZero program entries values value) inst op.CONSTANT_NULL e (null_zero program entries values value inst.words))
    (λ e. at_op (MakesZero program entries values value) inst op.UNDEF e (undef_zero program entries values value inst.words))

room_here : (insts : List Inst) (entries : SpecValues) (place : ℕ) (frame : List ℕ) → place < length insts → IsDefined insts entries place frame → frame_place (program_of insts) place + frame_words (program_of insts) (inst_at insts place) ≤ length frame
unfolding program_of
room_here insts entries place frame within before = (let r = frame_room (program_of insts) place within in let s = before.is.size in omega (arith, r, s))

pub step_zeros : (words : Words) → IsValidList words → (entries : SpecValues) (place at count : ℕ) (frame new : List ℕ) (inst : Inst) (b z : Bool) → place < length words.insts → IsFront words (place + 1) → inst ≡ inst_at words.insts place → b ≡ defines_value inst.op → b ≡ true
    → z ≡ defines_zeros inst.op → z ≡ true → at ≡ frame_place (program_of words.insts) place → count ≡ frame_words (program_of words.insts) (inst_at words.insts place) → (at + count ≤ length frame → new ≡ written frame at (replicate count 0))
    → IsDefined words.insts entries place frame → IsDefined words.insts entries (place + 1) new
step_zeros words v entries place at count frame new inst b z within front inst_is b_is is z_is zeros at_is count_is writes before =
    let program = program_of words.insts in
    let g = gives_value words v entries place frame within front before (sym (b_is ∙ ap (λ (i : Inst). defines_value i.op) inst_is) ∙ is) in
    let made = zero_made program entries (defined_by program entries (take place words.insts)) g.value (inst_at words.insts place) (sym (z_is ∙ ap (λ (i : Inst). defines_zeros i.op) inst_is) ∙ zeros) g.made in
    let shown : in_frame program g.value ≡ replicate (size_of made.0) 0 = ap (in_frame program) made.1 ∙ zero_in_frame program made.0 in
    let size : size_of made.0 ≡ count = sym (length-replicate (size_of made.0) 0) ∙ sym (ap length shown) ∙ g.size ∙ sym count_is in
    let room = room_here words.insts entries place frame within before in
    defined_more words.insts entries place frame new within g
    (writes (omega (arith, room, at_is, count_is)) ∙ ap (λ (n : ℕ). written frame n (replicate count 0)) at_is
    ∙ ap (λ (n : ℕ). written frame (frame_place program place) (replicate n 0)) (sym size) ∙ ap (written frame (frame_place program place)) (sym shown)) before

-- ---- one word

pub step_word : (words : Words) → IsValidList words → (entries : SpecValues) (place at word : ℕ) (frame new : List ℕ) (inst : Inst) (b : Bool) → place < length words.insts → IsFront words (place + 1) → inst ≡ inst_at words.insts place → b ≡ defines_value inst.op → b ≡ true
    → at ≡ frame_place (program_of words.insts) place → DefinesWord words.insts entries place word → (at < length frame → new ≡ written frame at (word ∷ []))
    → IsDefined words.insts entries place frame → IsDefined words.insts entries (place + 1) new
step_word words v entries place at word frame new inst b within front inst_is b_is is at_is defines writes before =
    let program = program_of words.insts in
    let g = gives_value words v entries place frame within front before (sym (b_is ∙ ap (λ (i : Inst). defines_value i.op) inst_is) ∙ is) in
    let shown : in_frame program g.value ≡ word ∷ [] = defines g.value g.made in
    let size : 1 ≡ frame_words program (inst_at words.insts place) = sym (ap length shown) ∙ g.size in
    let room = room_here words.insts entries place frame within before in
    defined_more words.insts entries place frame new within g
    (writes (omega (arith, room, at_is, size)) ∙ ap (λ (n : ℕ). written frame n (word ∷ [])) at_is ∙ ap (written frame (frame_place program place)) (sym shown)) before

-- ---- composites

record IsMadeOf (program : Program) (values : Values) (ids : List ℕ) (value : Value) : Type 0 where
  read : List Value
  are : all_values values ids ≡ Some read
  is : value ≡ Composite (parts_from read)

abbrev MakesComposite : Program → SpecValues → Values → Value → Inst → Type 0
MakesComposite program entries values value inst = constant_of program entries values inst.op inst.words ≡ Some value → IsMadeOf program values (words_from 2 inst) value

of_parts : (program : Program) (values : Values) (ids : List ℕ) (value : Value) (read : Option (List Value)) → all_values values ids ≡ read → option_map (λ parts. Composite (parts_from parts)) read ≡ Some value → IsMadeOf program values ids value
of_parts program values ids value None are is = absurd (never_none value is)
of_parts program values ids value (Some read) are is = record { read = read; are = are; is = sym (same_some (Composite (parts_from read)) value is) }

constant_composite : (program : Program) (entries : SpecValues) (values : Values) (value : Value) (words : List ℕ) → MakesComposite program entries values value (instruction op.CONSTANT_COMPOSITE words)
unfolding constant_of
constant_composite program entries values value (type ∷ id ∷ ids) is = of_parts program values ids value (all_values values ids) refl is
constant_composite program entries values value (type ∷ []) is = absurd (never_none value is)
constant_composite program entries values value [] is = absurd (never_none value is)

spec_composite : (program : Program) (entries : SpecValues) (values : Values) (value : Value) (words : List ℕ) → MakesComposite program entries values value (instruction op.SPEC_CONSTANT_COMPOSITE words)
unfolding constant_of
spec_composite program entries values value (type ∷ id ∷ ids) is = of_parts program values ids value (all_values values ids) refl is
spec_composite program entries values value (type ∷ []) is = absurd (never_none value is)
spec_composite program entries values value [] is = absurd (never_none value is)

composite_made : (program : Program) (entries : SpecValues) (values : Values) (value : Value) (inst : Inst) → defines_composite inst.op ≡ true → MakesComposite program entries values value inst
composite_made program entries values value inst is =
    either (inst.op == op.CONSTANT_COMPOSITE) (inst.op == op.SPEC_CONSTANT_COMPOSITE) is
    (λ e. at_op (MakesComposite program entries values value) inst op.CONSTANT_COMPOSITE e (constant_composite program entries values value inst.words))
    (λ e. at_op (MakesComposite program entries values value) inst op.SPEC_CONSTANT_COMPOSITE e (spec_composite program entries values value inst.words))

-- what its parts show
record PartsShow (insts : List Inst) (frame : List ℕ) (place : ℕ) (ids : List ℕ) (read : List Value) : Type 0 where
  before : AreBefore insts place ids
  are : flat_map (shown_of insts frame) ids ≡ flat_map (in_frame (program_of insts)) read

parts_show : (insts : List Inst) (entries : SpecValues) (frame : List ℕ) (place : ℕ) → place ≤ length insts → IsDefined insts entries place frame → (ids : List ℕ) (read : List Value) → all_values (defined_by (program_of insts) entries (take place insts)) ids ≡ Some read → PartsShow insts frame place ids read
unfolding program_of
parts_show insts entries frame place within defined [] read is =
    subst (PartsShow insts frame place []) (same_some [] read is) (record { before = λ k less. absurd (omega (arith, less)); are = refl })
parts_show insts entries frame place within defined (id ∷ ids) read is =
    by_values id ids read (defined_by (program_of insts) entries (take place insts) id) (all_values (defined_by (program_of insts) entries (take place insts)) ids) refl is
    (λ rest e. parts_show insts entries frame place within defined ids rest e)
  where
    by_values : (id : ℕ) (ids : List ℕ) (read : List Value) (first : Option Value) (rest : Option (List Value)) → defined_by (program_of insts) entries (take place insts) id ≡ first
        → option_and_then (λ (value : Value). option_map (λ (values : List Value). value ∷ values) rest) first ≡ Some read → ((values : List Value) → rest ≡ Some values → PartsShow insts frame place ids values) → PartsShow insts frame place (id ∷ ids) read
    by_values id ids read None rest first_is is go = absurd (never_none read is)
    by_values id ids read (Some value) None first_is is go = absurd (never_none read is)
    by_values id ids read (Some value) (Some values) first_is is go =
        let e = defined.early id value first_is in
        let stands = defined.is.shows.stands id e.0 value e.1 first_is in
        let others = go values refl in
        let f : ℕ → List ℕ = shown_of insts frame in
        subst (PartsShow insts frame place (id ∷ ids)) (same_some (value ∷ values) read is) (record {
          before = λ k less. before_at k less (record { at = e.0; defined = e.1; before = frame_apart (program_of insts) e.0 place e.2 within }) others.before;
          are = flat_map-cons f id ids ∙ ap (λ (l : List ℕ). l ++ flat_map f ids) (ap (shown_at insts frame) e.1 ∙ stands.stands) ∙ ap (λ (l : List ℕ). in_frame (program_of insts) value ++ l) others.are
              ∙ sym (flat_map-cons (in_frame (program_of insts)) value values);
        })
      where
        before_at : (k : ℕ) → k < length (id ∷ ids) → IsBefore insts place id → AreBefore insts place ids → IsBefore insts place (slice_index (id ∷ ids) k)
        before_at zero less here more = here
        before_at (suc k) less here more = more k (omega (arith, less))

data_of : (program : Program) (type : ℕ) (m : Meaning) (read : List Value) → IsOfMeaning program type m (Composite (parts_from read)) → IsData program type (Composite (parts_from read))
data_of program type (OfShape (PointerType class to)) read is = absurd is
data_of program type m read is = is

typed_in : (insts : List Inst) (id type : ℕ) → type_id (meaning insts id) ≡ Some type → type_id ((program_of insts).meaning id) ≡ Some type
unfolding program_of
typed_in insts id type is = is

construct_here : (words : Words) → IsValidList words → (entries : SpecValues) (place : ℕ) (frame : List ℕ) → place < length words.insts → defines_value (inst_at words.insts place).op ≡ true → defines_composite (inst_at words.insts place).op ≡ true
    → IsDefined words.insts entries place frame → (g : GivesValue words.insts entries place) → ConstructAt words.insts frame place g.value (inst_at words.insts place)
construct_here words v entries place frame within is composite before g =
    let program = program_of words.insts in
    let inst = inst_at words.insts place in
    let made = composite_made program entries (defined_by program entries (take place words.insts)) g.value inst composite g.made in
    let shown = parts_show words.insts entries frame place (omega (arith, within)) before (words_from 2 inst) made.read made.are in
    let d = defines_there words v place within is in
    let typed = subst (λ (w : Value). IsOfMeaning program d.type (program.meaning d.type) w) made.is (g.suits.of_type d.type (typed_in words.insts (word_at 1 inst) d.type d.typed)) in
    let is_data = data_of program d.type (program.meaning d.type) made.read typed in
    let size = layout_size (Composite (parts_from made.read)) is_data.layout is_data.has in
    record {
      before = shown.before;
      are = ap (in_frame program) made.is ∙ in_frame_words program (Composite (parts_from made.read)) size.list size.is ∙ sym (constructed_words program false made.read size.list size.is) ∙ sym shown.are;
    }

-- the words of its parts are gathered in front of it
pub gathers_here : (words : Words) → IsValidList words → (entries : SpecValues) (place at : ℕ) (frame front back ids : List ℕ) (inst : Inst) (b z : Bool) → place < length words.insts → inst ≡ inst_at words.insts place → b ≡ defines_value inst.op → b ≡ true
    → z ≡ defines_composite inst.op → z ≡ true → at ≡ frame_place (program_of words.insts) place → ids ≡ words_from 2 inst → front ≡ take at frame → back ≡ drop at frame → IsDefined words.insts entries place frame
    → (g : GivesValue words.insts entries place) → Gathers words.insts front back ids (in_frame (program_of words.insts) g.value)
gathers_here words v entries place at frame front back ids inst b z within inst_is b_is is z_is composite at_is ids_are front_is back_is before g =
    let x = construct_here words v entries place frame within (sym (b_is ∙ ap (λ (i : Inst). defines_value i.op) inst_is) ∙ is) (sym (z_is ∙ ap (λ (i : Inst). defines_composite i.op) inst_is) ∙ composite) before g in
    let room = room_here words.insts entries place frame within before in
    gathers words.insts frame front back place g.value (inst_at words.insts place) x (record { fits = room; size = g.size }) at ids (ids_are ∙ ap (words_from 2) inst_is) at_is
    (record { front_is = front_is; back_is = back_is; within = omega (arith, room, at_is) })

pub at_within : (insts : List Inst) (entries : SpecValues) (place at : ℕ) (frame : List ℕ) → place < length insts → at ≡ frame_place (program_of insts) place → IsDefined insts entries place frame → at ≤ length frame
at_within insts entries place at frame within at_is before = (let room = room_here insts entries place frame within before in omega (arith, room, at_is))

pub gives_here : (words : Words) → IsValidList words → (entries : SpecValues) (place : ℕ) (frame : List ℕ) (inst : Inst) (b : Bool) → place < length words.insts → IsFront words (place + 1) → inst ≡ inst_at words.insts place → b ≡ defines_value inst.op → b ≡ true
    → IsDefined words.insts entries place frame → GivesValue words.insts entries place
gives_here words v entries place frame inst b within front inst_is b_is is before = gives_value words v entries place frame within front before (sym (b_is ∙ ap (λ (i : Inst). defines_value i.op) inst_is) ∙ is)

pub step_composite : (words : Words) → (entries : SpecValues) (place at : ℕ) (frame front back to : List ℕ) (ids : List ℕ) → place < length words.insts → at ≡ frame_place (program_of words.insts) place → front ≡ take at frame → back ≡ drop at frame
    → to ≡ written back 0 (flat_map (shown_of words.insts front) ids) → IsDefined words.insts entries place frame → (g : GivesValue words.insts entries place) → Gathers words.insts front back ids (in_frame (program_of words.insts) g.value)
    → IsDefined words.insts entries (place + 1) (front ++ to)
step_composite words entries place at frame front back to ids within at_is front_is back_is to_is before g gathered =
    let program = program_of words.insts in
    defined_more words.insts entries place frame (front ++ to) within g
    (split_written frame front back to at (in_frame program g.value) (record { front_is = front_is; back_is = back_is; within = at_within words.insts entries place at frame within at_is before }) (to_is ∙ ap (written back 0) gathered.are)
    ∙ ap (λ (n : ℕ). written frame n (in_frame program g.value)) at_is) before
