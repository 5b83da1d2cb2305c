-- Ids mean the same, constants not told from other values, where one instruction became a constant.
use Rattle.std.proofs.Common.{◌≡◌, ℕ, zero, suc, ◌+◌, ◌<◌, ◌==◌, ◌&&◌, Bool, true, false, if◌then◌else◌, List, [], ◌∷◌, ◌++◌, length, take, drop, refl, ap, sym, ◌∙◌, subst, arith, length-drop, take-append-drop, Option, None, Some}
use Rattle.std.proofs.Math.Path.{fun_ext}
use Rattle.std.specs.Prelude.{is_none}
use Rattle.std.specs.List.{fold}
use Rattle.std.proofs.lemmas.Bool.Decides.{nat_tests}
use Rattle.std.proofs.lemmas.List.{drop_more, get_or-drop}
use Rattle.std.proofs.lemmas.List.Sums.{fold-append}
use Rattle.spirv_model.specs.declared.module.Inst.{Inst}
use Rattle.spirv_model.specs.declared.op.TheConstants as op
use Rattle.body_model.specs.Grammar.{Derives}
use Rattle.body_model.proofs.ModuleLevels.{within_list}
use Rattle.valid_model.specs.declared.meaning.IdFacts.{IdFacts}
use Rattle.valid_model.specs.declared.meaning.Meaning.{Meaning}
use Rattle.valid_model.specs.declared.meaning.Meaning.TheVariants.{Constant, Value}
use Rattle.valid_model.specs.Definitions.{gives, inst_at, no_instruction}
use Rattle.valid_model.specs.Knowledge.{Knowledge, meaning_in, nothing_known}
use Rattle.valid_model.specs.Types.{is_type}
use Rattle.valid_model.specs.Meanings.{is_constant, known_of, known_after, known_by, meaning}
use Rattle.stage_model.specs.Value.{Layout}
use Rattle.stage_model.specs.Program.{layout_of, layouts_after, layouts_by}
use Rattle.change_model.specs.Programs.{plainly}
use Rattle.change_model.specs.Folding.{moved_up}
use Rattle.change_model.proofs.KnownResults.{without_one}
use Rattle.change_model.proofs.MovedUp.{moved_up_is}
use Rattle.change_model.proofs.SameEffects.{by_plain}

-- ---- knowledge that differs for one id

-- the same is known of all other ids, and something is known of this one on the new side
record KnowsBeside (own : ℕ) (made : IdFacts) (new old : Knowledge) : Type 0 where
  others : (id : ℕ) → id == own ≡ false → new id ≡ old id
  known : new own ≡ Some made

-- what is known of the result of an instruction that is no type and no constant doesn't depend on what is known before
known_alone : (new old : Knowledge) (inst : Inst) → is_type inst.op ≡ false → is_constant inst.op ≡ false → known_of new inst ≡ known_of old inst
unfolding known_of
known_alone new old inst no_type no_constant = rw no_type (rw no_constant refl)

after_of : (here : Bool) (known made known' made' : Option IdFacts) → known ≡ known' → made ≡ made' → (if here && is_none known then made else known) ≡ (if here && is_none known' then made' else known')
after_of here known made known' made' is same = rw is (rw same refl)

stays_own : (here : Bool) (known : Option IdFacts) (made : Option IdFacts) (own : IdFacts) → known ≡ Some own → (if here && is_none known then made else known) ≡ Some own
stays_own here None made own is = cc
stays_own true (Some x) made own is = is
stays_own false (Some x) made own is = is

-- one more instruction on both sides
both_more : (own : ℕ) (made : IdFacts) (new old : Knowledge) → KnowsBeside own made new old → (inst : Inst) → known_of new inst ≡ known_of old inst → KnowsBeside own made (known_after new inst) (known_after old inst)
unfolding known_after
both_more own made new old k inst same = record {
  others = λ id isnt. after_of (gives id inst) (new id) (Some (known_of new inst)) (old id) (Some (known_of old inst)) (k.others id isnt) (ap (λ (f : IdFacts). Some f) same);
  known = stays_own (gives own inst) (new own) (Some (known_of new inst)) made k.known;
}

-- the instruction that is gone
old_more : (own : ℕ) (made : IdFacts) (new old : Knowledge) → KnowsBeside own made new old → (inst : Inst) → ((id : ℕ) → id == own ≡ false → gives id inst ≡ false) → KnowsBeside own made new (known_after old inst)
unfolding known_after
old_more own made new old k inst other = record {
  others = λ id isnt. k.others id isnt ∙ sym (ap (λ (b : Bool). if b && is_none (old id) then Some (known_of old inst) else old id) (other id isnt));
  known = k.known;
}

-- the constant that is new
new_more : (own : ℕ) (known : Knowledge) (inst : Inst) → ((id : ℕ) → id == own ≡ false → gives id inst ≡ false) → gives own inst ≡ true → known own ≡ None → KnowsBeside own (known_of known inst) (known_after known inst) known
unfolding known_after
new_more own known inst other its none = record {
  others = λ id isnt. ap (λ (b : Bool). if b && is_none (known id) then Some (known_of known inst) else known id) (other id isnt);
  known = ap (λ (b : Bool). if b && is_none (known own) then Some (known_of known inst) else known own) its ∙ ap (λ (o : Option IdFacts). if is_none o then Some (known_of known inst) else o) none;
}

-- instructions that are no types and no constants
AreAlone : List Inst → Type 0
AreAlone insts = (k : ℕ) → k < length insts → (is_type (inst_at insts k).op ≡ false) × (is_constant (inst_at insts k).op ≡ false)

all_more : (own : ℕ) (made : IdFacts) (insts : List Inst) → AreAlone insts → (new old : Knowledge) → KnowsBeside own made new old → KnowsBeside own made (fold known_after new insts) (fold known_after old insts)
unfolding AreAlone
all_more own made [] alone new old k = k
all_more own made (inst ∷ insts) alone new old k =
    let here = alone 0 (omega arith) in
    all_more own made insts (λ n within. alone (suc n) (omega (arith, within))) (known_after new inst) (known_after old inst)
    (both_more own made new old k inst (known_alone new old inst here.0 here.1))

-- with one of them gone
without_more : (own : ℕ) (made : IdFacts) (insts : List Inst) (gone : ℕ) → AreAlone insts → gone < length insts → ((id : ℕ) → id == own ≡ false → gives id (inst_at insts gone) ≡ false) → (new old : Knowledge) → KnowsBeside own made new old
    → KnowsBeside own made (fold known_after new (without_one gone insts)) (fold known_after old insts)
unfolding without_one AreAlone
without_more own made [] gone alone within other new old k = absurd (omega (arith, within))
without_more own made (inst ∷ insts) zero alone within other new old k =
    all_more own made insts (λ n less. alone (suc n) (omega (arith, less))) new (known_after old inst) (old_more own made new old k inst other)
without_more own made (inst ∷ insts) (suc gone) alone within other new old k =
    let here = alone 0 (omega arith) in
    without_more own made insts gone (λ n less. alone (suc n) (omega (arith, less))) (omega (arith, within)) other (known_after new inst) (known_after old inst) (both_more own made new old k inst (known_alone new old inst here.0 here.1))

-- ---- of both lists

pub by_level : (insts : List Inst) (d : Derives insts) → insts ≡ take d.before insts ++ (inst_at insts d.before ∷ drop (d.before + 1) insts)
by_level insts d =
    sym (take-append-drop d.before insts) ∙ ap (λ (l : List Inst). take d.before insts ++ l) (drop_more insts d.before no_instruction (within_list op.FUNCTION insts d.before d.begins.function))

-- what is told of an instruction that goes, and of the constant that comes
pub record IsMovedUp (insts : List Inst) (d : Derives insts) (gone own type : ℕ) (constant : Inst) : Type 0 where
  pub within : d.before + 1 + gone < length insts
  pub function : (is_type (inst_at insts d.before).op ≡ false) × (is_constant (inst_at insts d.before).op ≡ false)
  pub alone : (k : ℕ) → k < length (drop (d.before + 1) insts) → (is_type (inst_at (drop (d.before + 1) insts) k).op ≡ false) × (is_constant (inst_at (drop (d.before + 1) insts) k).op ≡ false)
  pub gone_gives : (id : ℕ) → id == own ≡ false → gives id (inst_at insts (d.before + 1 + gone)) ≡ false
  pub constant_gives : (id : ℕ) → id == own ≡ false → gives id constant ≡ false
  pub gives_own : gives own constant ≡ true
  pub unknown : known_by (take d.before insts) own ≡ None
  pub old_meaning : meaning insts own ≡ Value type
  pub new_meaning : (known_of (known_by (take d.before insts)) constant).meaning ≡ Constant type

knows_moved_up : (insts : List Inst) (d : Derives insts) (gone own type : ℕ) (constant : Inst) → IsMovedUp insts d gone own type constant
    → KnowsBeside own (known_of (known_by (take d.before insts)) constant) (known_by (moved_up (d.before + 1 + gone) constant insts)) (known_by insts)
unfolding known_by AreAlone
knows_moved_up insts d gone own type constant i =
    let level = take d.before insts in
    let fn = inst_at insts d.before in
    let rest = drop (d.before + 1) insts in
    let known = fold known_after nothing_known level in
    let made = known_of known constant in
    let first : KnowsBeside own made (known_after known constant) known = new_more own known constant i.constant_gives i.gives_own i.unknown in
    let second : KnowsBeside own made (known_after (known_after known constant) fn) (known_after known fn) =
    both_more own made (known_after known constant) known first fn (known_alone (known_after known constant) known fn i.function.0 i.function.1) in
    let e = length-drop (d.before + 1) insts in
    let third = without_more own made rest gone i.alone (let w = i.within in omega (arith, e, w))
    (λ id isnt. ap (gives id) (get_or-drop (d.before + 1) insts gone no_instruction) ∙ i.gone_gives id isnt) (known_after (known_after known constant) fn) (known_after known fn) second in
    subst (λ (l : List Inst). KnowsBeside own made (fold known_after nothing_known l) (fold known_after nothing_known insts)) (sym (moved_up_is insts d gone constant))
    (subst (λ (l : List Inst). KnowsBeside own made (fold known_after nothing_known (level ++ (constant ∷ fn ∷ without_one gone rest))) (fold known_after nothing_known l)) (sym (by_level insts d))
    (subst (λ (k : Knowledge). KnowsBeside own made k (fold known_after nothing_known (level ++ (fn ∷ rest)))) (sym (fold-append known_after nothing_known level (constant ∷ fn ∷ without_one gone rest)))
    (subst (λ (k : Knowledge). KnowsBeside own made (fold known_after known (constant ∷ fn ∷ without_one gone rest)) k) (sym (fold-append known_after nothing_known level (fn ∷ rest))) third)))

same_id : (a b : ℕ) → a == b ≡ true → a ≡ b
same_id a b is = grind (arith, nat_tests)

-- ids mean the same
pub meaning_moved_up : (insts : List Inst) (d : Derives insts) (gone own type : ℕ) (constant : Inst) → IsMovedUp insts d gone own type constant → (id : ℕ)
    → plainly (meaning (moved_up (d.before + 1 + gone) constant insts) id) ≡ plainly (meaning insts id)
meaning_moved_up insts d gone own type constant i id = by_test (id == own) refl
  where
    k : KnowsBeside own (known_of (known_by (take d.before insts)) constant) (known_by (moved_up (d.before + 1 + gone) constant insts)) (known_by insts)
    k = knows_moved_up insts d gone own type constant i

    by_test : (b : Bool) → id == own ≡ b → plainly (meaning (moved_up (d.before + 1 + gone) constant insts) id) ≡ plainly (meaning insts id)
    by_test false isnt = ap (λ (o : Option IdFacts). plainly (meaning_in o)) (k.others id isnt)
    by_test true is =
        ap (λ (n : ℕ). plainly (meaning (moved_up (d.before + 1 + gone) constant insts) n)) (same_id id own is)
        ∙ ap (λ (o : Option IdFacts). plainly (meaning_in o)) k.known ∙ ap plainly i.new_meaning ∙ sym (ap plainly i.old_meaning)
        ∙ ap (λ (n : ℕ). plainly (meaning insts n)) (sym (same_id id own is))

-- ---- layouts

layout_plain : (layout : ℕ → Option Layout) (meaning : Meaning) → layout_of layout meaning ≡ layout_of layout (plainly meaning)
layout_plain layout (Constant type) = refl
layout_plain layout meaning = refl

after_plain : (new old : ℕ → Meaning) → ((id : ℕ) → plainly (new id) ≡ plainly (old id)) → layouts_after new ≡ layouts_after old
after_plain new old same = fun_ext (λ layout. fun_ext (λ inst. fun_ext (λ id.
    ap (λ (o : Option Layout). if gives id inst && is_none (layout id) then o else layout id) (by_plain (layout_of layout) (layout_plain layout) (new id) (old id) (same id)))))

-- an id without a layout
none_after : (means : ℕ → Meaning) (own type : ℕ) → means own ≡ Value type → (layout : ℕ → Option Layout) → layout own ≡ None → (inst : Inst) → layouts_after means layout inst own ≡ None
none_after means own type value layout none inst = by_test (gives own inst && is_none (layout own))
  where
    by_test : (b : Bool) → (if b then layout_of layout (means own) else layout own) ≡ None
    by_test true = ap (layout_of layout) value
    by_test false = none

none_all : (means : ℕ → Meaning) (own type : ℕ) → means own ≡ Value type → (insts : List Inst) (layout : ℕ → Option Layout) → layout own ≡ None → fold (layouts_after means) layout insts own ≡ None
none_all means own type value [] layout none = none
none_all means own type value (inst ∷ insts) layout none = none_all means own type value insts (layouts_after means layout inst) (none_after means own type value layout none inst)

passes : (means : ℕ → Meaning) (own type : ℕ) → means own ≡ Value type → (layout : ℕ → Option Layout) → layout own ≡ None → (inst : Inst) → ((id : ℕ) → id == own ≡ false → gives id inst ≡ false) → layouts_after means layout inst ≡ layout
passes means own type value layout none inst other = fun_ext (λ id. by_test id (id == own) refl)
  where
    by_test : (id : ℕ) (b : Bool) → id == own ≡ b → layouts_after means layout inst id ≡ layout id
    by_test id true is = ap (layouts_after means layout inst) (same_id id own is) ∙ none_after means own type value layout none inst ∙ sym none ∙ ap layout (sym (same_id id own is))
    by_test id false isnt = ap (λ (b : Bool). if b && is_none (layout id) then layout_of layout (means id) else layout id) (other id isnt)

without_layout : (means : ℕ → Meaning) (own type : ℕ) → means own ≡ Value type → (insts : List Inst) (gone : ℕ) → gone < length insts → ((id : ℕ) → id == own ≡ false → gives id (inst_at insts gone) ≡ false) → (layout : ℕ → Option Layout) → layout own ≡ None
    → fold (layouts_after means) layout (without_one gone insts) ≡ fold (layouts_after means) layout insts
unfolding without_one
without_layout means own type value [] gone within other layout none = absurd (omega (arith, within))
without_layout means own type value (inst ∷ insts) zero within other layout none = ap (λ (l : ℕ → Option Layout). fold (layouts_after means) l insts) (sym (passes means own type value layout none inst other))
without_layout means own type value (inst ∷ insts) (suc gone) within other layout none =
    without_layout means own type value insts gone (omega (arith, within)) other (layouts_after means layout inst) (none_after means own type value layout none inst)

-- types have the same layouts
pub layouts_moved_up : (insts : List Inst) (d : Derives insts) (gone own type : ℕ) (constant : Inst) → IsMovedUp insts d gone own type constant
    → layouts_by (meaning (moved_up (d.before + 1 + gone) constant insts)) (moved_up (d.before + 1 + gone) constant insts) ≡ layouts_by (meaning insts) insts
unfolding layouts_by
layouts_moved_up insts d gone own type constant i =
    let level = take d.before insts in
    let fn = inst_at insts d.before in
    let rest = drop (d.before + 1) insts in
    let m = meaning insts in
    let g : (ℕ → Option Layout) → Inst → ℕ → Option Layout = layouts_after m in
    let at_level : ℕ → Option Layout = fold g (λ id. None) level in
    let none : at_level own ≡ None = none_all m own type i.old_meaning level (λ id. None) refl in
    let e = length-drop (d.before + 1) insts in
    ap (λ (h : (ℕ → Option Layout) → Inst → ℕ → Option Layout). fold h (λ id. None) (moved_up (d.before + 1 + gone) constant insts)) (after_plain (meaning (moved_up (d.before + 1 + gone) constant insts)) m (meaning_moved_up insts d gone own type constant i))
    ∙ ap (fold g (λ id. None)) (moved_up_is insts d gone constant) ∙ fold-append g (λ id. None) level (constant ∷ fn ∷ without_one gone rest)
    ∙ ap (λ (l : ℕ → Option Layout). fold g l (fn ∷ without_one gone rest)) (passes m own type i.old_meaning at_level none constant i.constant_gives)
    ∙ without_layout m own type i.old_meaning rest gone (let w = i.within in omega (arith, e, w)) (λ id isnt. ap (gives id) (get_or-drop (d.before + 1) insts gone no_instruction) ∙ i.gone_gives id isnt)
    (g at_level fn) (none_after m own type i.old_meaning at_level none fn)
    ∙ sym (fold-append g (λ id. None) level (fn ∷ rest)) ∙ ap (fold g (λ id. None)) (sym (by_level insts d))
