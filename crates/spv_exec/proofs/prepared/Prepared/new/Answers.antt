use Rattle.std.proofs.Common.{◌≡◌, ℕ, List, length, ap, sym, ◌∙◌, subst}
use Rattle.spirv_model.specs.declared.module.Words.{Words}
use Rattle.check_model.specs.Validity.{IsValidList}
use Rattle.stage_model.specs.Program.{program_of}
use Rattle.frame_model.specs.Frame.{frame_place, memory_place}
use Rattle.spv_exec.proofs.PreparedRuns.{so_many}
use Rattle.spv_exec.proofs.prepared.Prepared.new.Goals as goal

pub invariant_of-result : goal.invariant_of-result
unfolding program_of
invariant_of-result c = record {
  valid = subst IsValidList c.of.view_is c.of.invariant.valid;
  same = c.in_ok-variables.ensures;
  first_is = c.first_place-first.ensures;
  shows = c.in_ok-constants.ensures;
  frame_size =
      so_many c.in_ok-frame.frame.items c.frame_place.result c.in_ok-frame.ensures ∙ (c.frame_place.ensures ∙ ap (frame_place (program_of c.in_ok-of.of.insts)) c.count.ensures);
  incoming_size =
      so_many c.in_ok-incoming.incoming.items c.frame_place-2.result c.in_ok-incoming.ensures ∙ (c.frame_place-2.ensures ∙ ap (frame_place (program_of c.in_ok-of.of.insts)) c.count-2.ensures);
  memory_size =
      so_many c.in_ok-memory.memory.items c.memory_place.result c.in_ok-memory.ensures ∙ (c.memory_place.ensures ∙ ap (memory_place (program_of c.in_ok-of.of.insts)) c.count-3.ensures);
}
