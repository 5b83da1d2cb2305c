-- Code that fits a scope: each of its blocks ends as it says, whatever stands around.
use Rattle.std.specs.Prelude.{◌≡◌, ℕ, ◌-◌, ◌==◌, List, [], ◌++◌, length, filter, map, slice_index, slice_get, IsTrue, Option, None, Some}
use Rattle.spirv_model.specs.declared.module.Inst.{Inst}
use Rattle.spirv_model.specs.declared.op.TheConstants.{LABEL}
use Rattle.body_model.specs.declared.scope.End.{End}
use Rattle.body_model.specs.declared.block_end.BlockEnd.{BlockEnd}
use Rattle.body_model.specs.declared.block_end.BlockEnd.TheVariants as way
use Rattle.body_model.specs.Scope.{Scope}
use Rattle.body_model.specs.Scope as scopes
use Rattle.body_model.specs.Blocks.{begins_with, block_from}
use Rattle.body_model.specs.Switches.{Case, is_among, without, arm_labels, cases_of, words_at}
use Rattle.body_model.specs.Code.{Code, Ends, GoesOn, Selects, Picks, Loops, CodeArm, Straight, Through, CodeArms, NoArm, ArmBehind, printed}

-- the block ends so wherever it stands before these instructions; places count from its own OpLabel
abbrev pub EndsAs : Scope → List Inst → List Inst → BlockEnd → Type 0
EndsAs scope block rest end = block_from scope (block ++ rest) 0 ≡ end

-- the block begins with the OpLabel that is wanted, where one is
abbrev pub HasLabel : Option ℕ → List Inst → Type 0
HasLabel None block = (label : ℕ) × IsTrue (begins_with label block)
HasLabel (Some label) block = IsTrue (begins_with label block)

-- the words of a block's last instruction
abbrev pub last_words : List Inst → List ℕ
last_words block = words_at (slice_get block (length block - 1))

mutual
  -- code is a sequence in a scope, whose first block has the wanted label; behind a condition sequence the block with the label `next` stands
  pub data Fits : Scope → Option ℕ → Code → Option ℕ → Type 0 where
    ends : {scope : Scope} {wanted next : Option ℕ} {block : List Inst} {end : End} → HasLabel wanted block
        → ((rest : List Inst) → EndsAs scope block rest (way.Ends (record { end = end; next = next; after = length block })))
        → Fits scope wanted (Ends block end) next
    goes_on : {scope : Scope} {wanted next : Option ℕ} {block : List Inst} {code : Code} → HasLabel wanted block
        → ((rest : List Inst) → EndsAs scope block (printed code ++ rest) (way.GoesOn (length block)))
        → Fits (scopes.behind_block scope) None code next → Fits scope wanted (GoesOn block code) next
    selects : {scope : Scope} {wanted next : Option ℕ} {block : List Inst} {cond merge on_true on_false : ℕ} {if_true if_false : CodeArm} {code : Code} → HasLabel wanted block
        → ((rest : List Inst) → EndsAs scope block rest (way.Selects (record { cond = cond; merge = merge; on_true = on_true; on_false = on_false; after = length block })))
        → FitsArm scope merge on_true if_true → FitsArm scope merge on_false if_false
        → Fits (scopes.behind_selection scope) (Some merge) code next
        → Fits scope wanted (Selects block cond merge on_true on_false if_true if_false code) next
    picks : {scope : Scope} {wanted next : Option ℕ} {block : List Inst} {selector merge default : ℕ} {cases : List Case} {arms : CodeArms} {code : Code} → HasLabel wanted block
        → ((rest : List Inst) → EndsAs scope block rest (way.Picks (record { selector = selector; merge = merge; default = default; after = length block })))
        → cases_of (last_words block) ≡ cases
        → FitsArms scope merge (arm_labels merge (last_words block)) (arm_labels merge (last_words block)) arms []
        → Fits (scopes.behind_selection scope) (Some merge) code next
        → Fits scope wanted (Picks block selector merge default cases arms code) next
    loops : {scope : Scope} {wanted next : Option ℕ} {block : List Inst} {header merge continue test inner_label : ℕ} {condition inner step code : Code} → HasLabel wanted block
        → ((rest : List Inst) → EndsAs scope block rest (way.Loops (record { header = header; merge = merge; next = continue; test = test; after = length block })))
        → Fits (scopes.condition scope merge) (Some test) condition (Some inner_label)
        → Fits (scopes.body scope merge continue) (Some inner_label) inner None
        → Fits (scopes.continuing scope header) (Some continue) step None
        → Fits (scopes.behind_loop scope) (Some merge) code next
        → Fits scope wanted (Loops block merge continue test condition inner step code) next

  pub data FitsArm : Scope → ℕ → ℕ → CodeArm → Type 0 where
    straight : {scope : Scope} {merge target : ℕ} → target ≡ merge → FitsArm scope merge target Straight
    through : {scope : Scope} {merge target : ℕ} {code : Code} → (target ≡ merge → ⊥) → Fits (scopes.arm scope merge) (Some target) code None → FitsArm scope merge target (Through code)

  -- of the arms of an OpSwitch with the first labels, those with the second ones are due, and those with the third ones are left behind these
  pub data FitsArms : Scope → ℕ → List ℕ → List ℕ → CodeArms → List ℕ → Type 0 where
    no_arm : {scope : Scope} {merge : ℕ} {all due left : List ℕ} → due ≡ left → FitsArms scope merge all due NoArm left
    arm_behind : {scope : Scope} {merge : ℕ} {all due left : List ℕ} {arms : CodeArms} {code : Code} (label : ℕ) (before : List ℕ)
        → FitsArms scope merge all due arms before → IsTrue (is_among label before) → without label before ≡ left
        → Fits (scopes.switch_arm scope merge (without label all)) (Some label) code None → FitsArms scope merge all due (ArmBehind arms label code) left

-- the labels of a list of instructions, in their order
abbrev pub labels : List Inst → List ℕ
labels insts = map (λ (inst : Inst). slice_index inst.words 0) (filter (λ (inst : Inst). inst.op == LABEL) insts)
