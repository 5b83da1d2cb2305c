use Rattle.std.proofs.Common.{◌≡◌, ◌+◌, ℕ, List, [], ◌∷◌, ◌++◌, length, subst, sym, ap, ◌∙◌, arith}
use Rattle.stage_model.specs.Program.{program_of}
use Rattle.frame_model.specs.Frame.{variable_words, memory_place}
use Rattle.spv_exec.proofs.PlacesTo.{AreTo, read_there, memory_first, memory_next, memory_room, memory_all}
use Rattle.spv_exec.proofs.places.memory_places.Goals as goal

pub loop-inst-init : goal.loop-inst-init
loop-inst-init c = record {
  same = c.insts-insts.ensures.are;
  valid = c.insts-insts.ensures.valid;
  to = subst (λ (l : List ℕ). AreTo (memory_place (program_of c.args.of.now.insts)) l 0 0) (sym (c.in_ok-push.ensures.items ∙ ap (λ (l : List ℕ). l ++ 0 ∷ []) c.in_ok-places.ensures.items)) (memory_first c.args.of.now);
}

pub overflow_add-next : goal.overflow_add-next
overflow_add-next c =
    let at =
    read_there (variable_words (program_of c.args.of.now.insts)) c.insts-insts.result.now c.args.of.now.insts c.inst-item.result c.loop-inst.inst-index c.variable_words-next.result c.loop-inst.invariant.same c.loop-inst-test.true c.inst-item.is
    c.variable_words-next.ensures in
    let room = memory_room c.args.of.now c.loop-inst.places.items c.loop-inst.next c.loop-inst.inst-index c.variable_words-next.result c.loop-inst.invariant.valid at.0 at.1 c.loop-inst.invariant.to in
    omega (arith, room)

pub loop-inst-preserved : goal.loop-inst-preserved
loop-inst-preserved c =
    let at =
    read_there (variable_words (program_of c.args.of.now.insts)) c.insts-insts.result.now c.args.of.now.insts c.inst-item.result c.loop-inst.inst-index c.variable_words-next.result c.loop-inst.invariant.same c.loop-inst-test.true c.inst-item.is
    c.variable_words-next.ensures in
    record {
      same = c.loop-inst.invariant.same;
      valid = c.loop-inst.invariant.valid;
      to = subst (λ (l : List ℕ). AreTo (memory_place (program_of c.args.of.now.insts)) l (c.loop-inst.next + c.variable_words-next.result) (c.loop-inst.inst-index + 1)) (sym c.in_ok-push-2.ensures.items)
          (memory_next c.args.of.now c.loop-inst.places.items c.loop-inst.next c.loop-inst.inst-index c.variable_words-next.result at.0 at.1 c.loop-inst.invariant.to);
    }

pub returns : goal.returns
returns c =
    let e : length c.insts-insts.result.now ≡ length c.args.of.now.insts = ap length c.loop-inst.invariant.same in
    let low = c.loop-inst.auto.inst-index-end in
    let high = c.loop-inst-test.false in
    memory_all c.args.of.now c.loop-inst.places.items c.loop-inst.next c.loop-inst.inst-index (omega (arith, e, low, high)) c.loop-inst.invariant.to
