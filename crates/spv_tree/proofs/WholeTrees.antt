-- The reading of a whole list.
use Rattle.std.proofs.Common.{◌≡◌, ℕ, ◌+◌, ◌<◌, ◌≤◌, false, List, length, take, get_or, Option, None, Result, Ok, Err, refl, subst, sym, ◌∙◌, ⊎_elim, arith}
use Rattle.std.specs.Prelude.{All, IsTrue, IfErr, MatchBool}
use Rattle.std.proofs.lemmas.Bool.{cases_lt}
use Rattle.std.proofs.lemmas.List.Elements.{All-more}
use Rattle.std.proofs.lemmas.Option.{slice_get_past, slice_get_read}
use Rattle.spirv_model.specs.declared.module.Inst.{Inst}
use Rattle.spirv_model.specs.declared.op.TheConstants.{FUNCTION, FUNCTION_END}
use Rattle.basics.specs.Answer.{UnlessMemory}
use Rattle.body_model.specs.declared.fault.TreeFault.{TreeFault}
use Rattle.body_model.specs.declared.fault.TreeFault.TheVariants.{BadBlock, BadMerge, BadExit, TooDeep, Memory}
use Rattle.body_model.specs.Classes.{is_module_level}
use Rattle.body_model.specs.Scope.{Scope, main}
use Rattle.body_model.specs.Grammar.{Begins, IsOp, Derives}
use Rattle.body_model.specs.Faults.{Reached, first_block, HasFault, LeavesModuleLevel, EndsAt, no_function, no_function_end, behind_function_end}
use Rattle.body_model.proofs.FaultLaws.{not_both, one_fault}
use Rattle.spv_tree.specs.declared.tree.Body.{Body}
use Rattle.spv_tree.specs.declared.tree.Run.{Run}
use Rattle.spv_tree.specs.Answers.{is_memory}
use Rattle.spv_tree.specs.Parts.{FaultIf, Closes}
use Rattle.spv_tree.specs.Trees.{IsTreeOf}
use Rattle.spv_tree.proofs.OneTree.{one_tree}
use Rattle.spv_tree.proofs.Readings.{IsRun, unlabelled}

-- ---- before the function

abbrev pub IsLevel : List Inst → ℕ → Type 0
IsLevel insts n = All (λ (inst : Inst). IsTrue (is_module_level inst.op)) (take n insts)

pub level_more : (insts : List Inst) (index : ℕ) (inst : Inst) → index < length insts → inst ≡ get_or insts index inst → IsTrue (is_module_level inst.op) → IsLevel insts index → IsLevel insts (index + 1)
level_more insts index inst within is level all =
    All-more (λ (i : Inst). IsTrue (is_module_level i.op)) insts index inst within all (subst (λ (i : Inst). IsTrue (is_module_level i.op)) is level)

pub begins_at : (insts : List Inst) (place index : ℕ) (inst : Inst) → index < length insts → inst ≡ get_or insts index inst → inst.op ≡ FUNCTION → place ≡ index → IsLevel insts index → Begins insts place
begins_at insts place index inst within is function at level =
    subst (Begins insts) (sym at) (record { module_level = level; function = subst (IsOp FUNCTION) (sym (slice_get_read insts (length insts) index inst refl within is)) function })

pub leaves_at : (insts : List Inst) (place index : ℕ) (inst : Inst) → index < length insts → inst ≡ get_or insts index inst → (inst.op ≡ FUNCTION → ⊥) → is_module_level inst.op ≡ false → place ≡ index
    → IsLevel insts index → HasFault insts (BadBlock place)
leaves_at insts place index inst within is other not_level at level =
    subst (λ (n : ℕ). HasFault insts (BadBlock n)) (sym at)
    (no_function index level (omega arith) (subst LeavesModuleLevel (sym (slice_get_read insts (length insts) index inst refl within is)) (other, not_level)))

pub leaves_past : (insts : List Inst) (place index : ℕ) → length insts ≤ index → index ≤ length insts → place ≡ index → IsLevel insts index → HasFault insts (BadBlock place)
leaves_past insts place index past within at level =
    subst (λ (n : ℕ). HasFault insts (BadBlock n)) (sym at) (no_function index level within (subst LeavesModuleLevel (sym (slice_get_past insts index past)) tt))

pub begins_within : (insts : List Inst) (place : ℕ) → Begins insts place → place < length insts
begins_within insts place found =
    ⊎_elim (λ within. within) (λ past. absurd (subst (IsOp FUNCTION) (slice_get_past insts place past) found.function)) (cases_lt place (length insts))

-- ---- behind it

pub ends_past : (insts : List Inst) (place : ℕ) → length insts ≤ place → EndsAt insts place → HasFault insts (BadBlock place)
ends_past insts place past ends = no_function_end place ends (λ is. subst (IsOp FUNCTION_END) (slice_get_past insts place past) is)

pub ends_other : (insts : List Inst) (place : ℕ) (inst : Inst) → place < length insts → inst ≡ get_or insts place inst → (inst.op ≡ FUNCTION_END → ⊥) → EndsAt insts place → HasFault insts (BadBlock place)
ends_other insts place inst within is other ends = no_function_end place ends (λ end. other (subst (IsOp FUNCTION_END) (slice_get_read insts (length insts) place inst refl within is) end))

pub ends_early : (insts : List Inst) (place : ℕ) (inst : Inst) → place + 1 < length insts → inst ≡ get_or insts place inst → inst.op ≡ FUNCTION_END → EndsAt insts place → HasFault insts (BadBlock (place + 1))
ends_early insts place inst within is end ends =
    behind_function_end place ends (subst (IsOp FUNCTION_END) (sym (slice_get_read insts (length insts) place inst refl (omega arith) is)) end) within

pub closes_at : (insts : List Inst) (place : ℕ) (inst : Inst) → place < length insts → length insts ≤ place + 1 → inst ≡ get_or insts place inst → inst.op ≡ FUNCTION_END → Closes insts place
closes_at insts place inst within last is end = record {
  function_end = subst (IsOp FUNCTION_END) (sym (slice_get_read insts (length insts) place inst refl within is)) end;
  last = omega arith;
}

-- ---- the whole

-- the whole of a function that was read is its tree
pub is_tree : (insts : List Inst) (before after : ℕ) (next : Option ℕ) (scope : Scope) (body : Body) → Begins insts before → scope ≡ main → IsRun insts scope None (before + 1) after next body.run → Closes insts after
    → IsTreeOf insts body
is_tree insts before after next scope body found is read closed =
    let r = unlabelled insts scope main None (before + 1) after next body.run is refl read in
    let derives : Derives insts = record { before = before; after = after; begins = found; sequence = r.0; function_end = closed.function_end; last = closed.last } in
    record { derives = derives; run_is = λ d. r.1 ∙ one_tree insts derives d }

if_reason : {Reason : Type 0} (insts : List Inst) (fault : TreeFault) → Reason → FaultIf Reason insts fault → MatchBool (is_memory fault) (Unit {0}) (HasFault insts fault)
if_reason insts (BadBlock place) reason is = is reason
if_reason insts (BadMerge place) reason is = is reason
if_reason insts (BadExit place) reason is = is reason
if_reason insts (TooDeep place) reason is = is reason
if_reason insts Memory reason is = tt

always : (insts : List Inst) (fault : TreeFault) → HasFault insts fault → MatchBool (is_memory fault) (Unit {0}) (HasFault insts fault)
always insts (BadBlock place) is = is
always insts (BadMerge place) is = is
always insts (BadExit place) is = is
always insts (TooDeep place) is = is
always insts Memory is = tt

-- what the answer says of the list's fault
abbrev pub Tells : List Inst → Result Body TreeFault → Type 0
Tells insts answer = UnlessMemory is_memory (λ body. Derives insts) (HasFault insts) answer

pub function_fails : (insts : List Inst) (answer : Result Body TreeFault) (fault : TreeFault) → answer ≡ Err fault → HasFault insts fault → Tells insts answer
function_fails insts answer fault is has = subst (Tells insts) (sym is) (always insts fault has)

pub sequence_fails : (insts : List Inst) (answer : Result Body TreeFault) (before : ℕ) (scope : Scope) (fault : TreeFault) → answer ≡ Err fault → Begins insts before → scope ≡ main → FaultIf (Reached insts scope None (before + 1)) insts fault
    → Tells insts answer
sequence_fails insts answer before scope fault is begins same fails =
    subst (Tells insts) (sym is) (if_reason insts fault (subst (λ (s : Scope). Reached insts s None (before + 1)) (sym same) (first_block before begins refl)) fails)

pub closing_fails : (insts : List Inst) (answer : Result Body TreeFault) (before after : ℕ) (next : Option ℕ) (scope : Scope) (built : Run) (fault : TreeFault) → answer ≡ Err fault → Begins insts before → scope ≡ main
    → IsRun insts scope None (before + 1) after next built → (EndsAt insts after → HasFault insts fault) → Tells insts answer
closing_fails insts answer before after next scope built fault is begins same read fails =
    let r = unlabelled insts scope main None (before + 1) after next built same refl read in
    subst (Tells insts) (sym is) (always insts fault (fails (record { before = before; begins = begins; sequence = r.0 })))

-- so it fails only for memory, where the list derives
pub exactly : (insts : List Inst) (answer : Result Body TreeFault) → Tells insts answer → Derives insts → IfErr answer (λ fault. fault ≡ Memory)
exactly insts (Ok body) tells d = tt
exactly insts (Err (BadBlock place)) tells d = absurd (not_both insts (BadBlock place) d tells)
exactly insts (Err (BadMerge place)) tells d = absurd (not_both insts (BadMerge place) d tells)
exactly insts (Err (BadExit place)) tells d = absurd (not_both insts (BadExit place) d tells)
exactly insts (Err (TooDeep place)) tells d = absurd (not_both insts (TooDeep place) d tells)
exactly insts (Err Memory) tells d = refl

-- and with the list's fault, where it has one
pub that_fault : (insts : List Inst) (answer : Result Body TreeFault) → Tells insts answer → (fault : TreeFault) → HasFault insts fault → UnlessMemory is_memory (λ body. ⊥) (λ found. found ≡ fault) answer
that_fault insts (Ok body) tells fault has = not_both insts fault tells has
that_fault insts (Err (BadBlock place)) tells fault has = one_fault insts (BadBlock place) fault tells has
that_fault insts (Err (BadMerge place)) tells fault has = one_fault insts (BadMerge place) fault tells has
that_fault insts (Err (BadExit place)) tells fault has = one_fault insts (BadExit place) fault tells has
that_fault insts (Err (TooDeep place)) tells fault has = one_fault insts (TooDeep place) fault tells has
that_fault insts (Err Memory) tells fault has = tt
