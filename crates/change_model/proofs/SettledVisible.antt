-- What is visible at a place of the new list is what is visible at that of the old one.
use Rattle.std.proofs.Common.{◌≡◌, ℕ, zero, suc, ◌+◌, ◌-◌, ◌<◌, ◌≤◌, ◌==◌, ◌||◌, inl, Bool, true, false, not, cond, nat_lt, if◌then◌else◌, List, [], ◌∷◌, length, take, drop, map, refl, ap, sym, ◌∙◌, arith, length-drop, Option, None, Some}
use Rattle.std.specs.Option.{option_map}
use Rattle.std.specs.List.{find}
use Rattle.std.proofs.lemmas.Bool.{lt-ltb, ltb-true}
use Rattle.std.proofs.lemmas.Bool.Decides.{nat_tests}
use Rattle.std.proofs.lemmas.List.{length-take-le}
use Rattle.spirv_model.specs.declared.module.Inst.{Inst}
use Rattle.spirv_model.specs.declared.class.Class.{Class}
use Rattle.spirv_model.specs.declared.class.Class.TheVariants as class
use Rattle.spirv_model.specs.declared.op.TheConstants as op
use Rattle.spirv_model.specs.Operands.{entry_of, class_of}
use Rattle.body_model.specs.Classes.{is_module_level}
use Rattle.body_model.specs.Grammar.{Derives}
use Rattle.body_model.proofs.Forward.{forward}
use Rattle.valid_model.specs.Definitions.{gives, inst_at, definition, is_earlier}
use Rattle.check_model.specs.Intervals.{Interval, inside, intervals_of, is_visible}
use Rattle.check_model.specs.Visibility.{Use, use_at, uses_operands, is_choice, used_ids, uses_at, is_defined_for, is_visible_use, not_visible}
use Rattle.typed_model.specs.Jumps.{keeps}
use Rattle.typed_model.proofs.BlockParts.{another, clash}
use Rattle.typed_model.proofs.Keeping.{lie_around, kept_outside}
use Rattle.typed_model.proofs.VisibleJumps.{lies}
use Rattle.typed_model.proofs.TypedSteps.{visible_by, seen}
use Rattle.typed_model.proofs.ValidFunctions.{front_of}
use Rattle.change_model.specs.Constants.{is_spec_id}
use Rattle.change_model.specs.Settling.{is_spec_class, is_plain_constant_class, StandsFor, same, settles, all_settled}
use Rattle.change_model.proofs.LaterIntervals.{later, intervals_later, visible_later}
use Rattle.change_model.proofs.SameFunction.{HaveSameFunction, further, as_far}
use Rattle.change_model.proofs.Settlings.{Settles, IsOther, by_op, settled_cons, settled_gone}
use Rattle.change_model.proofs.SettledBody.{before_first, HasBody}
use Rattle.change_model.proofs.SettledFunction.{first_of, settled_first, same_rest, function_settled}
use Rattle.change_model.proofs.SettledPlaces.{PlaceOf, earlier_same}
use Rattle.change_model.proofs.SettledUses.{function_place}

-- ---- how far apart both sides are

shorter : (f : Inst → Inst) (insts : List Inst) → length (all_settled f insts) ≤ length insts
shorter f [] = omega arith
shorter f (inst ∷ insts) = by_test (shorter f insts) (is_spec_id inst) refl
  where
    by_test : length (all_settled f insts) ≤ length insts → (b : Bool) → is_spec_id inst ≡ b → length (all_settled f (inst ∷ insts)) ≤ suc (length insts)
    by_test rest true is = let e = ap length (settled_gone f inst insts is) in omega (arith, e, rest)
    by_test rest false isnt = let e = ap length (settled_cons f inst insts isnt) in omega (arith, e, rest)

-- both lists, with derivations that have the same code
pub record Sides (f : Inst → Inst) (insts : List Inst) (d : Derives insts) : Type 0 where
  pub stands : Settles f
  pub body : HasBody f insts d

-- the old list's places in the function are so many later
abbrev pub apart : (Inst → Inst) → (insts : List Inst) → Derives insts → ℕ
apart f insts d = first_of insts d - settled_first f insts d

pub first_apart : (f : Inst → Inst) (insts : List Inst) (d : Derives insts) → Settles f → first_of insts d ≡ settled_first f insts d + apart f insts d
first_apart f insts d s =
    let a = shorter f (take (first_of insts d) insts) in
    let w = (function_settled f s insts d).within' in
    let long = length-take-le (first_of insts d) insts w in
    omega (arith, a, long)

pub intervals_apart : (f : Inst → Inst) (insts : List Inst) (d : Derives insts) (both : Sides f insts d) → intervals_of d ≡ map (later (apart f insts d)) (intervals_of both.body.derivation)
intervals_apart f insts d both =
    let e = first_apart f insts d both.stands in
    let a = before_first f both.stands insts d in
    let b = both.body.before in let c = both.body.after in
    let w = forward insts d.sequence in let low = w.forward in
    intervals_later (apart f insts d) both.body.derivation d both.body.code (omega (arith, e, a, b)) (omega (arith, e, a, b, c, low))

-- ---- definitions

never_zero : (n : ℕ) → nat_lt 0 (suc n) ≡ true
never_zero n = grind (arith, nat_tests)

less_too : (a b : ℕ) → nat_lt (suc a) (suc b) ≡ nat_lt a b
less_too a b = grind (arith, nat_tests)

pub definition_behind : (insts : List Inst) (n id : ℕ) → n ≤ length insts → is_earlier (definition insts id) n ≡ false → definition insts id ≡ option_map (λ (k : ℕ). n + k) (definition (drop n insts) id)
unfolding definition
definition_behind insts zero id within late = as_far (definition insts id)
definition_behind [] (suc n) id within late = absurd (omega (arith, within))
definition_behind (inst ∷ insts) (suc n) id within late = by_test (gives id inst) (definition_behind insts n id (omega (arith, within))) late
  where
    earlier_too : (found : Option ℕ) → is_earlier (option_map (λ (k : ℕ). suc k) found) (suc n) ≡ is_earlier found n
    earlier_too None = refl
    earlier_too (Some at) = less_too at n

    by_test : (b : Bool) → (is_earlier (definition insts id) n ≡ false → definition insts id ≡ option_map (λ (k : ℕ). n + k) (definition (drop n insts) id))
        → is_earlier (if b then Some 0 else option_map (λ (k : ℕ). suc k) (definition insts id)) (suc n) ≡ false
        → (if b then Some 0 else option_map (λ (k : ℕ). suc k) (definition insts id)) ≡ option_map (λ (k : ℕ). suc n + k) (definition (drop n insts) id)
    by_test true rest late = absurd (clash (nat_lt 0 (suc n)) (never_zero n) late)
    by_test false rest late = ap (option_map (λ (k : ℕ). suc k)) (rest (sym (earlier_too (definition insts id)) ∙ late)) ∙ further n (definition (drop n insts) id)

-- ---- what is defined before the function

kept_front : (insts : List Inst) (d : Derives insts) (a b : ℕ) → a < d.before + 1 → keeps (intervals_of d) a b ≡ true
kept_front insts d a b less = kept_outside (d.before + 1) d.after (intervals_of d) (lie_around (d.before + 1) d.after (inside d.sequence) (lies insts d.sequence)) a b (inl less)

-- at a place up to the function's first label what is defined earlier is visible
pub visible_front : (insts : List Inst) (d : Derives insts) (place : ℕ) → place ≤ d.before + 1 → (found : Option ℕ) → is_defined_for (intervals_of d) place found ≡ is_earlier found place
visible_front insts d place low None = refl
visible_front insts d place low (Some at) = by_test (nat_lt at place) refl
  where
    by_test : (b : Bool) → nat_lt at place ≡ b → is_visible (intervals_of d) at place ≡ nat_lt at place
    by_test true less = let l = ltb-true at place less in visible_by (intervals_of d) at place l (kept_front insts d at place (omega (arith, l, low))) ∙ sym less
    by_test false isnt = unseen (is_visible (intervals_of d) at place) refl ∙ sym isnt
      where
        never : (a b : ℕ) → a < b → nat_lt a b ≡ false → ⊥
        never a b less isnt = clash (nat_lt a b) (lt-ltb a b less) isnt

        unseen : (v : Bool) → is_visible (intervals_of d) at place ≡ v → is_visible (intervals_of d) at place ≡ false
        unseen false is = is
        unseen true is = absurd (never at place (seen (intervals_of d) at place is).0 isnt)

-- what is defined before the function is visible in it
pub seen_later : (insts : List Inst) (d : Derives insts) (place : ℕ) → d.before + 1 ≤ place → (found : Option ℕ) → is_earlier found (d.before + 1) ≡ true → is_defined_for (intervals_of d) place found ≡ true
seen_later insts d place low None early = cc
seen_later insts d place low (Some at) early =
    let l = ltb-true at (d.before + 1) early in visible_by (intervals_of d) at place (omega (arith, l, low)) (kept_front insts d at place l)

-- ---- in the function

abbrev pub new_of : (f : Inst → Inst) (insts : List Inst) (d : Derives insts) → Sides f insts d → Derives (all_settled f insts)
new_of f insts d both = both.body.derivation

new_first : (f : Inst → Inst) (insts : List Inst) (d : Derives insts) (both : Sides f insts d) → (new_of f insts d both).before + 1 ≡ settled_first f insts d
new_first f insts d both = let a = before_first f both.stands insts d in let b = both.body.before in omega (arith, a, b)

first_earlier : (f : Inst → Inst) (insts : List Inst) (d : Derives insts) (both : Sides f insts d) (id : ℕ)
    → is_earlier (definition (all_settled f insts) id) (settled_first f insts d) ≡ is_earlier (definition insts id) (first_of insts d)
first_earlier f insts d both id =
    let w = function_settled f both.stands insts d in
    let here : first_of insts d + 0 < length insts = (let b = forward insts d.sequence in let low = b.forward in let last = d.last in omega (arith, low, last)) in
    let p = function_place f both.stands insts d 0 here in
    let there : settled_first f insts d + 0 < length (all_settled f insts) =
    (let e = length-drop (first_of insts d) insts in let g = length-drop (settled_first f insts d) (all_settled f insts) in
    let h : length (drop (settled_first f insts d) (all_settled f insts)) ≡ length (drop (first_of insts d) insts) = ap length (same_rest f both.stands insts d) in omega (arith, e, g, h, here)) in
    ap (is_earlier (definition (all_settled f insts) id)) {x = settled_first f insts d} {y = settled_first f insts d + 0} (omega arith)
    ∙ earlier_same f both.stands insts (settled_first f insts d + 0) there p.0 id
    ∙ ap (is_earlier (definition insts id)) (p.1 ∙ plus_zero (first_of insts d))
  where
    plus_zero : (n : ℕ) → n + 0 ≡ n
    plus_zero n = omega arith

-- a definition in the function
behind_first : (f : Inst → Inst) (insts : List Inst) (d : Derives insts) (both : Sides f insts d) (place : ℕ) (found : Option ℕ)
    → is_defined_for (intervals_of (new_of f insts d both)) place (option_map (λ (k : ℕ). settled_first f insts d + k) found)
    ≡ is_defined_for (intervals_of d) (place + apart f insts d) (option_map (λ (k : ℕ). first_of insts d + k) found)
behind_first f insts d both place None = refl
behind_first f insts d both place (Some far) =
    let k = apart f insts d in
    let e = first_apart f insts d both.stands in
    sym (visible_later k (settled_first f insts d + far) place (intervals_of (new_of f insts d both)))
    ∙ ap (λ (l : List Interval). is_visible l (settled_first f insts d + far + k) (place + k)) (sym (intervals_apart f insts d both))
    ∙ ap (λ (n : ℕ). is_visible (intervals_of d) n (place + k)) {x = settled_first f insts d + far + k} {y = first_of insts d + far} (omega (arith, e))

pub defined_later : (f : Inst → Inst) (insts : List Inst) (d : Derives insts) (both : Sides f insts d) (place id : ℕ) → settled_first f insts d ≤ place
    → is_defined_for (intervals_of (new_of f insts d both)) place (definition (all_settled f insts) id) ≡ is_defined_for (intervals_of d) (place + apart f insts d) (definition insts id)
defined_later f insts d both place id low = by_test (is_earlier (definition insts id) (first_of insts d)) refl
  where
    w : HaveSameFunction (all_settled f insts) insts (settled_first f insts d) (first_of insts d)
    w = function_settled f both.stands insts d

    early : is_earlier (definition insts id) (first_of insts d) ≡ true → is_earlier (definition (all_settled f insts) id) ((new_of f insts d both).before + 1) ≡ true
    early is = ap (is_earlier (definition (all_settled f insts) id)) (new_first f insts d both) ∙ first_earlier f insts d both id ∙ is

    by_test : (b : Bool) → is_earlier (definition insts id) (first_of insts d) ≡ b
        → is_defined_for (intervals_of (new_of f insts d both)) place (definition (all_settled f insts) id) ≡ is_defined_for (intervals_of d) (place + apart f insts d) (definition insts id)
    by_test true is =
        let e = first_apart f insts d both.stands in
        let g = new_first f insts d both in
        seen_later (all_settled f insts) (new_of f insts d both) place (omega (arith, g, low)) (definition (all_settled f insts) id) (early is)
        ∙ sym (seen_later insts d (place + apart f insts d) (omega (arith, e, low)) (definition insts id) is)
    by_test false isnt =
        ap (is_defined_for (intervals_of (new_of f insts d both)) place)
        (definition_behind (all_settled f insts) (settled_first f insts d) id w.within (first_earlier f insts d both id ∙ isnt) ∙ ap (λ (l : List Inst). option_map (λ (k : ℕ). settled_first f insts d + k) (definition l id)) w.same)
        ∙ behind_first f insts d both place (definition (drop (first_of insts d) insts) id)
        ∙ ap (is_defined_for (intervals_of d) (place + apart f insts d)) (sym (definition_behind insts (first_of insts d) id w.within' isnt))

-- before the function
defined_front : (f : Inst → Inst) (insts : List Inst) (d : Derives insts) (both : Sides f insts d) (place : ℕ) → place < settled_first f insts d → (p : PlaceOf f insts place) → p.old < first_of insts d → (id : ℕ)
    → is_defined_for (intervals_of (new_of f insts d both)) place (definition (all_settled f insts) id) ≡ is_defined_for (intervals_of d) p.old (definition insts id)
defined_front f insts d both place within p less id =
    let g = new_first f insts d both in
    let w = (function_settled f both.stands insts d).within in
    visible_front (all_settled f insts) (new_of f insts d both) place (omega (arith, g, within)) (definition (all_settled f insts) id)
    ∙ earlier_same f both.stands insts place (omega (arith, within, w)) p id
    ∙ sym (visible_front insts d p.old (omega (arith, less)) (definition insts id))

-- ---- uses

pub found_same : {A : Type 0} (new old : Use → Bool) (g h : A → Use) → ((x : A) → (g x).id ≡ (h x).id) → ((x : A) → new (g x) ≡ old (h x)) → (xs : List A)
    → option_map (λ (u : Use). u.id) (find (λ u. not (new u)) (map g xs)) ≡ option_map (λ (u : Use). u.id) (find (λ u. not (old u)) (map h xs))
found_same new old g h ids equal [] = refl
found_same new old g h ids equal (x ∷ xs) = one_more (new (g x)) (old (h x)) (g x) (h x) (ids x) (equal x) (found_same new old g h ids equal xs)
  where
    one_more : (a b : Bool) (u v : Use) → u.id ≡ v.id → a ≡ b
        → option_map (λ (u : Use). u.id) (find (λ u. not (new u)) (map g xs)) ≡ option_map (λ (u : Use). u.id) (find (λ u. not (old u)) (map h xs))
        → option_map (λ (u : Use). u.id) (cond (not a) (Some u) (find (λ u. not (new u)) (map g xs))) ≡ option_map (λ (u : Use). u.id) (cond (not b) (Some v) (find (λ u. not (old u)) (map h xs)))
    one_more true true u v is equal rest = rest
    one_more false false u v is equal rest = ap (λ (n : ℕ). Some n) is
    one_more true false u v is equal rest = cc
    one_more false true u v is equal rest = cc

-- a constant and a specialization constant use nothing
uses_none : (of : Option Class) → (is_spec_class of || is_plain_constant_class of) ≡ true → uses_operands of ≡ false
uses_none None is = refl
uses_none (Some class.SpecConstant) is = refl
uses_none (Some class.SpecConstantResult) is = refl
uses_none (Some class.Constant) is = refl
uses_none (Some other) is = cc

record NoChoice : Type 0 where
  spec_branch : is_spec_class (class_of op.BRANCH_CONDITIONAL) ≡ false
  spec_switch : is_spec_class (class_of op.SWITCH) ≡ false
  branch : is_plain_constant_class (class_of op.BRANCH_CONDITIONAL) ≡ false
  switch : is_plain_constant_class (class_of op.SWITCH) ≡ false

no_choice : NoChoice
unfolding class_of entry_of
no_choice = record { spec_branch = refl; spec_switch = refl; branch = refl; switch = refl }

neither : (a b : Bool) → a ≡ false → b ≡ false → (a || b) ≡ false
neither a b is also = rw is also

no_uses : (inst : Inst) → uses_operands (class_of inst.op) ≡ false → is_choice inst.op ≡ false → used_ids inst ≡ []
unfolding used_ids
no_uses inst none isnt = rw none (rw isnt refl)

or_left : (a b : Bool) → a ≡ true → (a || b) ≡ true
or_left true b is = refl
or_left false b is = cc

or_right : (a b : Bool) → b ≡ true → (a || b) ≡ true
or_right true b is = refl
or_right false b is = is

uses_same : (new old : Inst) → StandsFor new old → used_ids new ≡ used_ids old
uses_same new old (same is) = ap used_ids is
uses_same new old (settles spec constant type id) =
    no_uses new (uses_none (class_of new.op) (or_right (is_spec_class (class_of new.op)) (is_plain_constant_class (class_of new.op)) constant))
    (neither (new.op == op.BRANCH_CONDITIONAL) (new.op == op.SWITCH) (another (λ o. is_plain_constant_class (class_of o)) op.BRANCH_CONDITIONAL no_choice.branch new.op constant) (another (λ o. is_plain_constant_class (class_of o)) op.SWITCH no_choice.switch new.op constant))
    ∙ sym (no_uses old (uses_none (class_of old.op) (or_left (is_spec_class (class_of old.op)) (is_plain_constant_class (class_of old.op)) spec))
    (neither (old.op == op.BRANCH_CONDITIONAL) (old.op == op.SWITCH) (another (λ o. is_spec_class (class_of o)) op.BRANCH_CONDITIONAL no_choice.spec_branch old.op spec) (another (λ o. is_spec_class (class_of o)) op.SWITCH no_choice.spec_switch old.op spec)))

pub other_phi : IsOther op.PHI
unfolding class_of entry_of
other_phi = record { no_spec = refl; no_constant = refl }

-- ---- at a place before the function

no_level_phi : (is_module_level op.PHI || (op.PHI == op.FUNCTION)) ≡ false
unfolding class_of entry_of
no_level_phi = refl

pub no_phi_front : (insts : List Inst) (d : Derives insts) (k : ℕ) → k < first_of insts d → (inst_at insts k).op == op.PHI ≡ false
no_phi_front insts d k less = another (λ opcode. is_module_level opcode || (opcode == op.FUNCTION)) op.PHI no_level_phi (inst_at insts k).op ((front_of (record { insts = insts; bound = 0 }) d).level k less)

pub without_phi : (intervals : List Interval) (insts : List Inst) (place : ℕ) → (inst_at insts place).op == op.PHI ≡ false
    → not_visible intervals insts place ≡ option_map (λ (u : Use). u.id) (find (λ u. not (is_visible_use intervals insts u)) (map (use_at place) (used_ids (inst_at insts place))))
unfolding not_visible uses_at
without_phi intervals insts place isnt = rw isnt refl

pub front_visible : (f : Inst → Inst) (insts : List Inst) (d : Derives insts) (both : Sides f insts d) (place : ℕ) → place < settled_first f insts d → (p : PlaceOf f insts place) → p.old < first_of insts d
    → not_visible (intervals_of (new_of f insts d both)) (all_settled f insts) place ≡ not_visible (intervals_of d) insts p.old
front_visible f insts d both place within p less =
    let new = all_settled f insts in
    let x = inst_at insts p.old in
    let no_phi = no_phi_front insts d p.old less in
    without_phi (intervals_of (new_of f insts d both)) new place
    (ap (λ (i : Inst). i.op == op.PHI) p.inst ∙ by_op op.PHI other_phi (λ inst. inst.op == op.PHI) (λ inst isnt. isnt) (f x) x (both.stands x) ∙ no_phi)
    ∙ ap (λ (l : List ℕ). option_map (λ (u : Use). u.id) (find (λ u. not (is_visible_use (intervals_of (new_of f insts d both)) new u)) (map (use_at place) l))) (ap used_ids p.inst ∙ uses_same (f x) x (both.stands x))
    ∙ found_same (is_visible_use (intervals_of (new_of f insts d both)) new) (is_visible_use (intervals_of d) insts) (use_at place) (use_at p.old) (λ id. refl) (defined_front f insts d both place within p less) (used_ids x)
    ∙ sym (without_phi (intervals_of d) insts p.old no_phi)
