use Rattle.std.proofs.Common.{◌≡◌, ℕ, List, length, ap, sym, ◌∙◌, subst, Some}
use Rattle.std.specs.Option.{option_map}
use Rattle.spirv_model.specs.declared.module.Words.{Words}
use Rattle.stage_model.specs.Program.{program_of}
use Rattle.stage_model.specs.Stage.{Given, start_at, stage, ended_of}
use Rattle.stage_model.specs.Start.{first_memory}
use Rattle.frame_model.specs.Shown.{ShowsMemory}
use Rattle.spv_exec.specs.FirstFrames.{IsFirstFrame}
use Rattle.spv_exec.specs.PreparedFor.{PreparedFor, left_so}
use Rattle.spv_exec.proofs.PreparedRuns.{ends_some, ends_in, stands_first, outcome_is}
use Rattle.spv_exec.proofs.prepared.Prepared.run.Goals as goal

pub walk-end-requires : goal.walk-end-requires
walk-end-requires c =
    let p = c.self.invariant in let words = c.self.inside.of in
    let given : Given = record { entries = c.self.inside.entries; inputs = c.args.inputs.now; buffers = c.args.buffers.now } in
    ends_some words p.valid given c.self.inside.first c.copy_from_slice.new.self c.as_mut_slice.result.now c.fill.new.memory p.first_is
    (subst (λ (l : List ℕ). IsFirstFrame (program_of words.insts) c.self.inside.entries c.self.inside.first l) (sym (c.copy_from_slice.ensures.after ∙ c.as_slice.ensures.value)) p.shows)
    (ap (λ (l : List ℕ). length l) c.as_mut_slice.ensures.value ∙ p.incoming_size)
    (subst (λ (w : Words). ShowsMemory (program_of w.insts) c.fill.new.memory (first_memory (program_of w.insts) c.args.inputs.now c.args.buffers.now)) p.same c.fill.ensures)

pub returns-clause-outcome : goal.returns-clause-outcome
returns-clause-outcome c =
    let p = c.self.invariant in let words = c.self.inside.of in
    let given : Given = record { entries = c.self.inside.entries; inputs = c.args.inputs.now; buffers = c.args.buffers.now } in
    let e = ends_in words p.valid given c.self.inside.first p.first_is in
    let stands = stands_first words p.valid given c.self.inside.first c.copy_from_slice.new.self c.as_mut_slice.result.now c.fill.new.memory p.first_is
    (subst (λ (l : List ℕ). IsFirstFrame (program_of words.insts) c.self.inside.entries c.self.inside.first l) (sym (c.copy_from_slice.ensures.after ∙ c.as_slice.ensures.value)) p.shows)
    (ap (λ (l : List ℕ). length l) c.as_mut_slice.ensures.value ∙ p.incoming_size)
    (subst (λ (w : Words). ShowsMemory (program_of w.insts) c.fill.new.memory (first_memory (program_of w.insts) c.args.inputs.now c.args.buffers.now)) p.same c.fill.ensures) in
    let so = c.walk-end.ensures (start_at (program_of words.insts) given c.self.inside.first) e.kind e.state stands e.ends in
    let left : c.leave.new.ended ≡ left_so (program_of words.insts) c.walk-end.result e.state.memory =
    c.leave.ensures e.state.memory (subst (λ (w : Words). ShowsMemory (program_of w.insts) c.walk-end.new.memory e.state.memory) (sym p.same) so.holds)
    ∙ ap (λ (w : Words). left_so (program_of w.insts) c.walk-end.result e.state.memory) p.same in
    ap (λ (q : PreparedFor). option_map ended_of (stage q.words.insts (record { entries = q.entries; inputs = c.args.inputs.now; buffers = c.args.buffers.now }))) (sym c.self.view_is)
    ∙ outcome_is words given c.self.inside.first e c.walk-end.result c.walk-end.new.memory c.leave.new.ended so left
