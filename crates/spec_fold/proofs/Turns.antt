-- The module that a pass makes, and the one behind the last pass.
use Rattle.std.proofs.Common.{◌≡◌, ℕ, ◌<◌, true, false, List, [], ap, sym, ◌∙◌, subst}
use Rattle.std.specs.Prelude.{Result, Ok, Err, IfOk}
use Rattle.spirv_model.specs.declared.module.Inst.{Inst}
use Rattle.spirv_model.specs.declared.module.Words.{Words}
use Rattle.check_model.specs.Validity.{IsValidList}
use Rattle.state_model.specs.declared.parts.SpecValues.{SpecValues}
use Rattle.change_model.specs.declared.fate.Fate.{Fate}
use Rattle.change_model.specs.Constants.{constants, with_constants}
use Rattle.change_model.specs.Plans.{changed, plan_of}
use Rattle.change_model.specs.Specialised.{CameOf, IsSpecialised}
use Rattle.change_model.proofs.FoundPlans.{Found}
use Rattle.change_model.proofs.FoundReduced.{StaysAll}
use Rattle.change_model.proofs.FoundStraight.{folded_found, straight_found}
use Rattle.change_model.proofs.FoundUnnamed.{unnamed}
use Rattle.change_model.proofs.FoundWhole.{found_is_plan, pass_again, pass_valid}
use Rattle.change_model.proofs.FunctionFalls.{function_falls, function_size}
use Rattle.change_model.proofs.Rounds.{first_round}
use Rattle.spv_rewrite.proofs.KeptInsts.{valid_parts}
use Rattle.spec_fold.specs.Rounds.{IsStraightened, changed_by}
use Rattle.spec_fold.specs.Walks.{IsPassOf, plan_in}
use Rattle.spec_fold.specs.declared.walk.Walk.{Walk}

abbrev pub found_of : (words : Words) → IsValidList words → (zeros : List ℕ) (walk : Walk) → IsPassOf words zeros walk → Found
found_of words v zeros walk pass = record { words = words; valid = v; zeros = zeros; plan = plan_in walk; is = pass.found v }

-- the plan of a pass, by the parts of the walk
pub by_parts : (words : Words) (walk : Walk) (fates : List Fate) (names : List ℕ) (insts : List Inst) → insts ≡ changed (plan_of fates names (λ _. false)) words.insts
    → fates ≡ walk.fates.items → names ≡ walk.names.items → insts ≡ changed (plan_in walk) words.insts
by_parts words walk fates names insts is first second =
    is ∙ ap (λ (f : List Fate). changed (plan_of f names (λ _. false)) words.insts) first ∙ ap (λ (n : List ℕ). changed (plan_of walk.fates.items n (λ _. false)) words.insts) second

-- what a pass makes is a valid module
pub made_valid : (words : Words) → IsValidList words → (zeros : List ℕ) (walk : Walk) → IsPassOf words zeros walk → (bound : ℕ) (insts : List Inst) → bound ≡ words.bound
    → insts ≡ changed (plan_in walk) words.insts → IsValidList (record { bound = bound; insts = insts })
made_valid words v zeros walk pass bound insts same is = valid_parts (changed_by (plan_in walk) words) (pass_valid (found_of words v zeros walk pass)) bound insts same is

pub made_by : (words : Words) (walk : Walk) (bound : ℕ) (insts : List Inst) (new : Words) → new ≡ (record { bound = bound; insts = insts }) → bound ≡ words.bound → insts ≡ changed (plan_in walk) words.insts → new ≡ changed_by (plan_in walk) words
made_by words walk bound insts new made same is =
    made ∙ ap (λ (n : ℕ). record { bound = n; insts = insts }) same ∙ ap (λ (l : List Inst). record { bound = words.bound; insts = l }) is

-- ---- one more pass

pub came_again : (words : Words) → IsValidList words → (zeros : List ℕ) (walk : Walk) → IsPassOf words zeros walk → (new : Words) → new ≡ changed_by (plan_in walk) words → (entries : SpecValues) (old : Words)
    → CameOf zeros entries words old → CameOf zeros entries new old
came_again words v zeros walk pass new made entries old came =
    subst (λ (w : Words). CameOf zeros entries w old) (sym made) (pass_again (found_of words v zeros walk pass) entries old came)

pub falls : (words : Words) → IsValidList words → (zeros : List ℕ) (walk : Walk) → IsPassOf words zeros walk → (new : Words) → new ≡ changed_by (plan_in walk) words → walk.changes ≡ true
    → function_size new.insts < function_size words.insts
falls words v zeros walk pass new made changes =
    let f = found_of words v zeros walk pass in
    let g = pass.changed changes in
    subst (λ (w : Words). function_size w.insts < function_size words.insts) (sym made) (function_falls f (found_is_plan f) g.at g.goes)

-- ---- the last pass

pub last_pass : (words : Words) → IsValidList words → (zeros : List ℕ) (walk : Walk) → IsPassOf words zeros walk → walk.changes ≡ false → (first : Words)
    → ((entries : SpecValues) (old : Words) → CameOf zeros entries first old → CameOf zeros entries words old) → IsStraightened zeros words first
last_pass words v zeros walk pass unchanged first came =
    let s : StaysAll = record { found = found_of words v zeros walk pass; stays = pass.unchanged unchanged } in
    record { came = came; folded = folded_found s; straightened = straight_found s; unnamed = unnamed s }

-- ---- before the first pass

-- with constants for its specialization constants a module is valid
pub settled_valid : (words : Words) → IsValidList words → (entries : SpecValues) (bound : ℕ) (insts : List Inst) → bound ≡ words.bound → insts ≡ constants entries words.insts → IsValidList (record { bound = bound; insts = insts })
settled_valid words v entries bound insts same is = valid_parts (with_constants entries words) ((first_round [] entries words v).changes entries).valid bound insts same is

-- the module behind the last pass is specialized
pub specialised : {E : Type 0} (result : Result Words E) (words : Words) → IsValidList words → (zeros : List ℕ) (entries : SpecValues) (first : Words) → first ≡ with_constants entries words
    → IfOk result (λ new. IsStraightened zeros new first) → IfOk result (λ new. IsSpecialised zeros entries new words)
specialised (Err e) words v zeros entries first same is = tt
specialised (Ok new) words v zeros entries first same is =
    let came = is.came entries words (subst (λ (w : Words). CameOf zeros entries w words) (sym same) (first_round zeros entries words v)) in
    record {
      keeps = λ any. (came.changes any).keeps;
      interface = (came.changes entries).interface;
      specialized = came.specialized;
      folded = is.folded;
      straightened = is.straightened;
      unnamed = is.unnamed;
    }
