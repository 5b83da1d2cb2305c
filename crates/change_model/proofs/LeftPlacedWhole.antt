-- The sequence of a valid module's function is placed: nothing outside names a label.
use Rattle.std.proofs.Common.{◌≡◌, ℕ, ◌+◌, ◌<◌, ◌≤◌, ◌⊎◌, inl, inr, Bool, true, false, ◌==◌, ◌||◌, List, length, refl, ap, sym, ◌∙◌, subst, arith, None}
use Rattle.std.proofs.lemmas.Bool.{cases_lt, eqb-true}
use Rattle.std.proofs.lemmas.List.{get_or_past}
use Rattle.spirv_model.specs.declared.module.Inst.{Inst}
use Rattle.spirv_model.specs.declared.module.Words.{Words}
use Rattle.spirv_model.specs.declared.op.TheConstants as op
use Rattle.spirv_model.specs.Operands.{entry_of, class_of}
use Rattle.body_model.specs.Classes.{is_module_level}
use Rattle.body_model.specs.Scope.{main}
use Rattle.valid_model.specs.Definitions.{inst_at, no_instruction}
use Rattle.check_model.specs.Intervals.{inside}
use Rattle.check_model.specs.Validity.{IsValidList}
use Rattle.stage_model.proofs.StageRuns.{nowhere}
use Rattle.typed_model.proofs.BlockParts.{another}
use Rattle.typed_model.proofs.ValidFunctions.{front_of}
use Rattle.change_model.proofs.BehindLevel.{end_op}
use Rattle.change_model.proofs.LeftCuts.{LabelsOnce}
use Rattle.change_model.proofs.LeftBlockNames.{Silent, silent_names}
use Rattle.change_model.proofs.LeftParts.{part_around}
use Rattle.change_model.proofs.LeftScopes.{is_label_at, label_at, Placed}
use Rattle.change_model.proofs.SettledBody.{labels_apart}

clash : {Q : Type 0} (b : Bool) → b ≡ true → b ≡ false → Q
clash true is isnt = cc
clash false is isnt = cc

-- ---- instructions outside a function

record NoLevel : Type 0 where
  branch : is_module_level op.BRANCH ≡ false
  conditional : is_module_level op.BRANCH_CONDITIONAL ≡ false
  switch : is_module_level op.SWITCH ≡ false
  selection_merge : is_module_level op.SELECTION_MERGE ≡ false
  loop_merge : is_module_level op.LOOP_MERGE ≡ false

no_level : NoLevel
unfolding class_of entry_of
no_level = record { branch = refl; conditional = refl; switch = refl; selection_merge = refl; loop_merge = refl }

level_silent : (opcode : ℕ) → is_module_level opcode ≡ true → Silent opcode
level_silent opcode is = record {
  nowhere = record {
    no_branch = another is_module_level op.BRANCH no_level.branch opcode is;
    no_choice = another is_module_level op.BRANCH_CONDITIONAL no_level.conditional opcode is;
    no_switch = another is_module_level op.SWITCH no_level.switch opcode is;
  };
  no_selection = another is_module_level op.SELECTION_MERGE no_level.selection_merge opcode is;
  no_loop = another is_module_level op.LOOP_MERGE no_level.loop_merge opcode is;
}

function_silent : Silent op.FUNCTION
function_silent = record { nowhere = record { no_branch = refl; no_choice = refl; no_switch = refl }; no_selection = refl; no_loop = refl }

end_silent : Silent op.FUNCTION_END
end_silent = record { nowhere = record { no_branch = refl; no_choice = refl; no_switch = refl }; no_selection = refl; no_loop = refl }

nothing_silent : Silent op.NOP
nothing_silent = record { nowhere = record { no_branch = refl; no_choice = refl; no_switch = refl }; no_selection = refl; no_loop = refl }

front_silent : (opcode : ℕ) → (is_module_level opcode || (opcode == op.FUNCTION)) ≡ true → Silent opcode
front_silent opcode is = by_tests (is_module_level opcode) (opcode == op.FUNCTION) refl refl is
  where
    by_tests : (a b : Bool) → is_module_level opcode ≡ a → opcode == op.FUNCTION ≡ b → (a || b) ≡ true → Silent opcode
    by_tests true b level function either = level_silent opcode level
    by_tests false true level function either = subst Silent (sym (eqb-true opcode op.FUNCTION function)) function_silent
    by_tests false false level function either = cc

past_end : (insts : List Inst) (place : ℕ) → length insts ≤ place → inst_at insts place ≡ no_instruction
past_end insts place past = get_or_past insts place no_instruction past

module _ (words : Words) (v : IsValidList words) where
  pub outside_silent : (place : ℕ) → (place < v.derivation.before + 1) ⊎ (v.derivation.after ≤ place) → Silent (inst_at words.insts place).op
  outside_silent place (inl front) = front_silent (inst_at words.insts place).op ((front_of words v.derivation).level place front)
  outside_silent place (inr past) = by_end (cases_lt v.derivation.after place)
    where
      by_end : (v.derivation.after < place) ⊎ (place ≤ v.derivation.after) → Silent (inst_at words.insts place).op
      by_end (inl behind) = let last = v.derivation.last in subst Silent (sym (ap (λ (i : Inst). i.op) (past_end words.insts place (omega (arith, last, behind))))) nothing_silent
      by_end (inr there) =
          let same : place ≡ v.derivation.after = omega (arith, there, past) in
          subst Silent (sym (ap (λ (n : ℕ). (inst_at words.insts n).op) same ∙ end_op words.insts v.derivation)) end_silent

  -- each label stands once
  label_within : (place : ℕ) → is_label_at words.insts place ≡ true → place < length words.insts
  label_within place is = by_order (cases_lt place (length words.insts))
    where
      by_order : (place < length words.insts) ⊎ (length words.insts ≤ place) → place < length words.insts
      by_order (inl within) = within
      by_order (inr past) = clash (is_label_at words.insts place) is (ap (λ (i : Inst). i.op == op.LABEL) (past_end words.insts place past))

  pub labels_once : LabelsOnce words.insts
  labels_once a b first second same = by_order (cases_lt a b) (cases_lt b a)
    where
      by_order : (a < b) ⊎ (b ≤ a) → (b < a) ⊎ (a ≤ b) → a ≡ b
      by_order (inl less) other = absurd (labels_apart words v.sound a b less (label_within b second) first second same)
      by_order (inr most) (inl less) = absurd (labels_apart words v.sound b a less (label_within a first) second first (sym same))
      by_order (inr most) (inr least) = omega (arith, most, least)

  pub placed_whole : Placed words.insts v.derivation main None (v.derivation.before + 1) v.derivation.after (inside v.derivation.sequence)
  placed_whole =
      let around = part_around (v.derivation.before + 1) v.derivation.after (inside v.derivation.sequence) in
      record {
        low = omega arith;
        high = omega arith;
        entered = λ place at outside behind before is. silent_names words.insts place (label_at words.insts at) (outside_silent place outside);
        left = λ label may. absurd (nowhere label may);
        merge = λ label is. cc;
        intervals = λ test some. around.among test some;
        within = λ first past low order high some. around.own first past low order high some;
      }
