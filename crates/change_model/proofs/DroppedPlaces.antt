-- Which place of the old list a place of the new one is, where variables and constants of the module's level are dropped; the function
-- stands as it was.
use Rattle.std.proofs.Common.{◌≡◌, ℕ, ◌+◌, ◌<◌, ◌≤◌, ◌==◌, ◌&&◌, ◌||◌, Bool, true, false, if◌then◌else◌, List, length, take, drop, get_or, ◌++◌, refl, ap, sym, ◌∙◌, subst, arith, length-append, length-drop, take-append-drop, Option, None, Some}
use Rattle.std.proofs.lemmas.List.{drop_at, get_or-drop, get_or-take, length-take-le}
use Rattle.std.proofs.Math.Seq.{take-add}
use Rattle.spirv_model.specs.declared.module.Inst.{Inst}
use Rattle.spirv_model.specs.declared.module.Words.{Words}
use Rattle.spirv_model.specs.declared.op.TheConstants as op
use Rattle.spirv_model.specs.Operands.{word_at, class_of, entry_of, result, kinds}
use Rattle.body_model.specs.Grammar.{Derives}
use Rattle.body_model.proofs.ModuleLevels.{within_list}
use Rattle.valid_model.specs.Definitions.{inst_at, no_instruction}
use Rattle.check_model.specs.Validity.{IsValidList}
use Rattle.typed_model.proofs.ModuleValues.{defined_at}
use Rattle.typed_model.proofs.ValidTypes.{keeps_rules}
use Rattle.change_model.specs.Dropping.{is_gone, is_decoration, is_dropped, words_left, entry_without, dropped, MayDrop}
use Rattle.change_model.proofs.BehindLevel.{is_setting_class, setting_fails, fails_old, no_setting, are_settings}
use Rattle.change_model.proofs.Settlings.{op_is}
use Rattle.change_model.proofs.Sifted.{sifted_append, sifted_same, place_in, place_rises, new_place}

-- ---- places

-- where an instruction stands then that isn't dropped
abbrev pub dropped_left : (ℕ → Bool) → List Inst → ℕ → ℕ
dropped_left gone insts old = length (dropped gone (take old insts))

pub record DroppedPlace (gone : ℕ → Bool) (insts : List Inst) (place : ℕ) : Type 0 where
  pub old : ℕ
  pub within : old < length insts
  pub stays : is_dropped gone (inst_at insts old) ≡ false
  pub front : take place (dropped gone insts) ≡ dropped gone (take old insts)
  pub inst : inst_at (dropped gone insts) place ≡ entry_without gone (inst_at insts old)

-- the place of the old list that a place is
pub dropped_place : (gone : ℕ → Bool) (insts : List Inst) (place : ℕ) → place < length (dropped gone insts) → DroppedPlace gone insts place
unfolding dropped
dropped_place gone insts place within =
    let p = place_in (is_dropped gone) (entry_without gone) insts place within in
    record { old = p.old; within = p.within; stays = p.stays; front = p.front; inst = p.inst }

-- so many stand before a place
pub dropped_to : (gone : ℕ → Bool) (insts : List Inst) (place : ℕ) → place < length (dropped gone insts) → (p : DroppedPlace gone insts place) → dropped_left gone insts p.old ≡ place
dropped_to gone insts place within p = let e = ap length p.front in let long = length-take-le place (dropped gone insts) in omega (arith, e, long, within)

pub dropped_rises : (gone : ℕ → Bool) (insts : List Inst) (a b : ℕ) → a ≤ b → dropped_left gone insts a ≤ dropped_left gone insts b
unfolding dropped
dropped_rises gone insts a b less = place_rises (is_dropped gone) (entry_without gone) insts a b less

pub record KeptPlace (gone : ℕ → Bool) (insts : List Inst) (old : ℕ) : Type 0 where
  pub within : dropped_left gone insts old < length (dropped gone insts)
  pub front : take (dropped_left gone insts old) (dropped gone insts) ≡ dropped gone (take old insts)
  pub inst : inst_at (dropped gone insts) (dropped_left gone insts old) ≡ entry_without gone (inst_at insts old)

-- the place where an instruction of the old list stands that isn't dropped
pub kept_place : (gone : ℕ → Bool) (insts : List Inst) (old : ℕ) → old < length insts → is_dropped gone (inst_at insts old) ≡ false → KeptPlace gone insts old
unfolding dropped
kept_place gone insts old within stays =
    let p = new_place (is_dropped gone) (entry_without gone) insts old within stays in
    record { within = p.within; front = p.front; inst = p.inst }

-- ---- one instruction

first_isnt : (a b : Bool) → (a || b) ≡ false → a ≡ false
first_isnt true b is = cc
first_isnt false b is = refl

second_isnt : (a b : Bool) → (a || b) ≡ false → b ≡ false
second_isnt true b is = cc
second_isnt false b is = is

-- one that isn't dropped has no result that goes
pub result_stays : (gone : ℕ → Bool) (inst : Inst) → is_dropped gone inst ≡ false → is_gone gone (result inst) ≡ false
result_stays gone inst stays = first_isnt (is_gone gone (result inst)) (is_decoration inst.op && gone (word_at 0 inst)) stays

pub target_stays : (gone : ℕ → Bool) (inst : Inst) → is_dropped gone inst ≡ false → is_decoration inst.op ≡ true → gone (word_at 0 inst) ≡ false
target_stays gone inst stays is = by_test (is_decoration inst.op) (gone (word_at 0 inst)) (second_isnt (is_gone gone (result inst)) (is_decoration inst.op && gone (word_at 0 inst)) stays) is
  where
    by_test : (a b : Bool) → (a && b) ≡ false → a ≡ true → b ≡ false
    by_test true b isnt is = isnt
    by_test false b isnt is = cc

-- any but an entry point is as it was
pub entry_same : (gone : ℕ → Bool) (inst : Inst) → inst.op == op.ENTRY_POINT ≡ false → entry_without gone inst ≡ inst
entry_same gone inst isnt = ap (λ (b : Bool). if b then record inst { words = words_left gone (kinds inst) inst.words } else inst) isnt

pub entry_op : (gone : ℕ → Bool) (inst : Inst) → (entry_without gone inst).op ≡ inst.op
entry_op gone inst = by_test (inst.op == op.ENTRY_POINT)
  where
    by_test : (b : Bool) → (if b then record inst { words = words_left gone (kinds inst) inst.words } else inst).op ≡ inst.op
    by_test true = refl
    by_test false = refl

entry_result : (words : List ℕ) → result (record { op = op.ENTRY_POINT; words = words }) ≡ None
unfolding result entry_of
entry_result words = refl

pub entry_silent : (inst : Inst) → inst.op == op.ENTRY_POINT ≡ true → result inst ≡ None
entry_silent inst is = ap (λ (o : ℕ). result (record { op = o; words = inst.words })) (op_is inst.op op.ENTRY_POINT is) ∙ entry_result inst.words

pub result_left : (gone : ℕ → Bool) (inst : Inst) → result (entry_without gone inst) ≡ result inst
result_left gone inst = by_test (inst.op == op.ENTRY_POINT) refl
  where
    by_test : (b : Bool) → inst.op == op.ENTRY_POINT ≡ b → result (entry_without gone inst) ≡ result inst
    by_test true is = entry_silent (entry_without gone inst) (ap (λ (o : ℕ). o == op.ENTRY_POINT) (entry_op gone inst) ∙ is) ∙ sym (entry_silent inst is)
    by_test false isnt = ap result (entry_same gone inst isnt)

-- ---- the function

gone_by : (gone : ℕ → Bool) (given : Option ℕ) (b : Bool) → is_gone gone given ≡ b → ((id : ℕ) → given ≡ Some id → gone id ≡ true → ⊥) → b ≡ false
gone_by gone given false is never = refl
gone_by gone None true is never = cc
gone_by gone (Some id) true is never = absurd (never id refl is)

-- the result of an instruction of the function stays
no_result_gone : (words : Words) (v : IsValidList words) (gone : ℕ → Bool) → MayDrop words v gone → (k : ℕ) → v.derivation.before ≤ k → k < length words.insts → is_gone gone (result (inst_at words.insts k)) ≡ false
no_result_gone words v gone m k low within = gone_by gone (result (inst_at words.insts k)) (is_gone gone (result (inst_at words.insts k))) refl (λ id given is.
    let l = m.level id is in
    let e = defined_at words.insts k id within given (keeps_rules words v.sound k within).once in
    let same : l.place ≡ k = some_same l.place k (sym l.is ∙ e) in
    let early = l.early in
    omega (arith, same, early, low))
  where
    some_same : (a b : ℕ) → ◌≡◌ {A = Option ℕ} (Some a) (Some b) → a ≡ b
    some_same a b is = cc

-- OpFunction and what stands behind it are no settings
pub no_setting_behind : (insts : List Inst) (d : Derives insts) (k : ℕ) → d.before ≤ k → k < length insts → is_setting_class (class_of (inst_at insts k).op) ≡ false
no_setting_behind insts d k low within = fails_old is_setting_class setting_fails insts d k low within

pub no_entry_behind : (insts : List Inst) (d : Derives insts) (k : ℕ) → d.before ≤ k → k < length insts → (inst_at insts k).op == op.ENTRY_POINT ≡ false
no_entry_behind insts d k low within = no_setting op.ENTRY_POINT (inst_at insts k).op are_settings.entry (no_setting_behind insts d k low within)

pub no_decoration_behind : (insts : List Inst) (d : Derives insts) (k : ℕ) → d.before ≤ k → k < length insts → is_decoration (inst_at insts k).op ≡ false
no_decoration_behind insts d k low within =
    let s = no_setting_behind insts d k low within in
    neither ((inst_at insts k).op == op.DECORATE) ((inst_at insts k).op == op.MEMBER_DECORATE) (no_setting op.DECORATE (inst_at insts k).op are_settings.decorate s) (no_setting op.MEMBER_DECORATE (inst_at insts k).op are_settings.member s)
  where
    neither : (a b : Bool) → a ≡ false → b ≡ false → (a || b) ≡ false
    neither a b is so = rw is so

-- none of them is dropped
pub function_stays : (words : Words) (v : IsValidList words) (gone : ℕ → Bool) → MayDrop words v gone → (k : ℕ) → v.derivation.before ≤ k → k < length words.insts → is_dropped gone (inst_at words.insts k) ≡ false
function_stays words v gone m k low within =
    both (is_gone gone (result (inst_at words.insts k))) (is_decoration (inst_at words.insts k).op) (gone (word_at 0 (inst_at words.insts k)))
    (no_result_gone words v gone m k low within) (no_decoration_behind words.insts v.derivation k low within)
  where
    both : (a b c : Bool) → a ≡ false → b ≡ false → (a || (b && c)) ≡ false
    both a b c is so = rw is (rw so refl)

dropped_same : (gone : ℕ → Bool) (insts : List Inst) → ((k : ℕ) → k < length insts → is_dropped gone (inst_at insts k) ≡ false) → ((k : ℕ) → k < length insts → (inst_at insts k).op == op.ENTRY_POINT ≡ false) → dropped gone insts ≡ insts
unfolding dropped
dropped_same gone insts stay none = sifted_same (is_dropped gone) (entry_without gone) insts stay (λ k within. entry_same gone (inst_at insts k) (none k within))

pub dropped_append : (gone : ℕ → Bool) (xs ys : List Inst) → dropped gone (xs ++ ys) ≡ dropped gone xs ++ dropped gone ys
unfolding dropped
dropped_append gone xs ys = sifted_append (is_dropped gone) (entry_without gone) xs ys

-- from OpFunction on the list is the same
rest_same : (words : Words) (v : IsValidList words) (gone : ℕ → Bool) → MayDrop words v gone → dropped gone (drop v.derivation.before words.insts) ≡ drop v.derivation.before words.insts
rest_same words v gone m =
    let insts = words.insts in let before = v.derivation.before in
    let within = within_list op.FUNCTION insts before v.derivation.begins.function in
    let long = length-drop before insts in
    dropped_same gone (drop before insts)
    (λ k less. subst (λ (i : Inst). is_dropped gone i ≡ false) (sym (get_or-drop before insts k no_instruction)) (function_stays words v gone m (before + k) (omega arith) (omega (arith, less, long, within))))
    (λ k less. subst (λ (i : Inst). i.op == op.ENTRY_POINT ≡ false) (sym (get_or-drop before insts k no_instruction)) (no_entry_behind insts v.derivation (before + k) (omega arith) (omega (arith, less, long, within))))

-- the list in two parts
pub dropped_parts : (words : Words) (v : IsValidList words) (gone : ℕ → Bool) → MayDrop words v gone
    → dropped gone words.insts ≡ dropped gone (take v.derivation.before words.insts) ++ drop v.derivation.before words.insts
dropped_parts words v gone m =
    ap (dropped gone) (sym (take-append-drop v.derivation.before words.insts)) ∙ dropped_append gone (take v.derivation.before words.insts) (drop v.derivation.before words.insts)
    ∙ ap (λ (l : List Inst). dropped gone (take v.derivation.before words.insts) ++ l) (rest_same words v gone m)

-- where OpFunction stands then
abbrev pub dropped_before : (ℕ → Bool) → (insts : List Inst) → Derives insts → ℕ
dropped_before gone insts d = dropped_left gone insts d.before

pub same_function : (words : Words) (v : IsValidList words) (gone : ℕ → Bool) → MayDrop words v gone
    → drop (dropped_before gone words.insts v.derivation) (dropped gone words.insts) ≡ drop v.derivation.before words.insts
same_function words v gone m =
    ap (drop (dropped_before gone words.insts v.derivation)) (dropped_parts words v gone m)
    ∙ drop_at (dropped gone (take v.derivation.before words.insts)) (drop v.derivation.before words.insts) (dropped_before gone words.insts v.derivation) refl

-- each instruction of the function stands as far behind OpFunction as it did
pub function_inst : (words : Words) (v : IsValidList words) (gone : ℕ → Bool) → MayDrop words v gone → (n : ℕ)
    → inst_at (dropped gone words.insts) (dropped_before gone words.insts v.derivation + n) ≡ inst_at words.insts (v.derivation.before + n)
function_inst words v gone m n =
    sym (get_or-drop (dropped_before gone words.insts v.derivation) (dropped gone words.insts) n no_instruction)
    ∙ ap (λ (l : List Inst). get_or l n no_instruction) (same_function words v gone m) ∙ get_or-drop v.derivation.before words.insts n no_instruction

-- where it stands then
pub function_left : (words : Words) (v : IsValidList words) (gone : ℕ → Bool) → MayDrop words v gone → (n : ℕ) → v.derivation.before + n ≤ length words.insts
    → dropped_left gone words.insts (v.derivation.before + n) ≡ dropped_before gone words.insts v.derivation + n
function_left words v gone m n within =
    let insts = words.insts in let before = v.derivation.before in
    let all = length-drop before insts in
    let long = length-take-le n (drop before insts) in
    let fits : n ≤ length (drop before insts) = omega (arith, within, all) in
    let same : dropped gone (take n (drop before insts)) ≡ take n (drop before insts) = dropped_same gone (take n (drop before insts))
    (λ k less. let early : k < n = omega (arith, less, long, fits) in
    subst (λ (i : Inst). is_dropped gone i ≡ false) (sym (get_or-drop before insts k no_instruction) ∙ sym (get_or-take n (drop before insts) k no_instruction early)) (function_stays words v gone m (before + k) (omega arith) (omega (arith, early, within))))
    (λ k less. let early : k < n = omega (arith, less, long, fits) in
    subst (λ (i : Inst). i.op == op.ENTRY_POINT ≡ false) (sym (get_or-drop before insts k no_instruction) ∙ sym (get_or-take n (drop before insts) k no_instruction early)) (no_entry_behind insts v.derivation (before + k) (omega arith) (omega (arith, early, within)))) in
    let e : dropped gone (take (before + n) insts) ≡ dropped gone (take before insts) ++ take n (drop before insts) =
    ap (dropped gone) (take-add before n insts) ∙ dropped_append gone (take before insts) (take n (drop before insts)) ∙ ap (λ (l : List Inst). dropped gone (take before insts) ++ l) same in
    let lengths = ap length e ∙ length-append (dropped gone (take before insts)) (take n (drop before insts)) in
    omega (arith, lengths, long, fits)

pub function_length : (words : Words) (v : IsValidList words) (gone : ℕ → Bool) → MayDrop words v gone
    → length (dropped gone words.insts) + v.derivation.before ≡ dropped_before gone words.insts v.derivation + length words.insts
function_length words v gone m =
    let within = within_list op.FUNCTION words.insts v.derivation.before v.derivation.begins.function in
    let e = ap length (dropped_parts words v gone m) ∙ length-append (dropped gone (take v.derivation.before words.insts)) (drop v.derivation.before words.insts) in
    let long = length-drop v.derivation.before words.insts in
    omega (arith, e, long, within)
