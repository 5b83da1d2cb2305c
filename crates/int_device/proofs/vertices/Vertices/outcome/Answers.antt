use Rattle.std.proofs.Common.{◌≤◌, ◌^◌, ap, sym, subst, ℕ}
use Rattle.stage_model.specs.declared.outcome.Ended.{Ended}
use Rattle.int_device.specs.Scenes.{Scene}
use Rattle.int_device.proofs.SceneLaws.{vertex_told, vertex_few}
use Rattle.int_device.proofs.vertices.Vertices.outcome.Goals as goal

pub returns-clause-is : goal.returns-clause-is
returns-clause-is c =
    let v = c.self.inside in
    rw (← c.self.view_is)
    (vertex_told v.run v.library.part v.state.now v.dynamic.now v.call.now v.buffers.now c.args.instance c.args.vertex c.vertex_index.result c.instance_index.result c.inputs_of-inputs.result c.run.result
    c.self.invariant c.vertex_index.ensures c.instance_index.ensures c.inputs_of-inputs.ensures c.run.ensures.outcome)

pub returns-clause-bound : goal.returns-clause-bound
returns-clause-bound c =
    let v = c.self.inside in
    let of : Scene = record { vs = v.run.words.insts; state = v.state.now; dynamic = v.dynamic.now; call = v.call.now; buffers = v.buffers.now } in
    let is = vertex_told v.run v.library.part v.state.now v.dynamic.now v.call.now v.buffers.now c.args.instance c.args.vertex c.vertex_index.result c.instance_index.result c.inputs_of-inputs.result c.run.result
    c.self.invariant c.vertex_index.ensures c.instance_index.ensures c.inputs_of-inputs.ensures c.run.ensures.outcome in
    subst (λ (n : ℕ). n ≤ 2 ^ 27) (sym (ap (λ (e : Ended). e.work) is)) (vertex_few of c.args.instance c.args.vertex c.self.invariant.few)
