-- A module has an output at a location where its ids tell of one.
use Rattle.std.proofs.Common.{◌≡◌, ℕ, Bool, true, false, cond, List, [], ◌∷◌, refl, ap, sym, ◌∙◌}
use Rattle.std.proofs.Math.Path.{fun_ext}
use Rattle.std.specs.Prelude.{Option, Some, slice_index, is_some, ◌==◌, ◌&&◌, ◌||◌}
use Rattle.std.specs.Option.{option_map}
use Rattle.std.specs.List.{find, list_any}
use Rattle.spirv_model.specs.declared.module.Inst.{Inst}
use Rattle.spirv_model.specs.declared.module.Words.{Words}
use Rattle.spirv_model.specs.declared.op.TheConstants as op
use Rattle.spirv_model.specs.declared.storage_class.TheConstants as class
use Rattle.spirv_model.specs.declared.decoration.TheConstants.{LOCATION}
use Rattle.spirv_model.specs.Operands.{word_at}
use Rattle.spv_types.specs.declared.ids.Ids.{Ids}
use Rattle.spv_types.specs.Answers.{AreIdsOf}
use Rattle.stage_model.specs.Program.{program_of}
use Rattle.stage_model.specs.Stage.{is_number, is_output_with}
use Rattle.draw_model.specs.SampleWrites.{has_output}
use Rattle.int_device.specs.SampleRules.{is_output_told}

found_any : (f : Inst → ℕ) (test : Inst → Bool) (insts : List Inst) → is_some (option_map f (find test insts)) ≡ list_any test insts
found_any f test [] = refl
found_any f test (inst ∷ insts) = by_test (test inst) (found_any f test insts)
  where
    by_test : (b : Bool) → is_some (option_map f (find test insts)) ≡ list_any test insts →
        is_some (option_map f (cond b (Some inst) (find test insts))) ≡ (b || list_any test insts)
    by_test true h = refl
    by_test false h = h

pub output_is : (words : Words) (ids : Ids) (location : ℕ) → AreIdsOf words ids → list_any (is_output_told ids location) words.insts ≡ has_output words.insts location
unfolding program_of
output_is words ids location are =
    ap (λ (test : Inst → Bool). list_any test words.insts)
    (fun_ext (λ (inst : Inst). ap (λ (own : Option ℕ). (inst.op == op.VARIABLE) && (word_at 2 inst == class.OUTPUT) && is_number location own) (are.decorations (word_at 1 inst) LOCATION)))
    ∙ sym (found_any (λ inst. slice_index inst.words 1) (is_output_with (program_of words.insts) LOCATION location) words.insts)
