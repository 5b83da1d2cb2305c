use Rattle.std.proofs.Common.{arith}
use Rattle.std.proofs.lemmas.List.Folds.{length-flat_map-take}
use Rattle.spirv_model.specs.Module.{words_of}
use Rattle.trace_text.proofs.print_modules.words_of.Goals as goal

pub overflow_add-count : goal.overflow_add-count
overflow_add-count c =
    let fits = length-flat_map-take words_of c.args.insts.now c.loop-inst.inst-index c.inst-item.result c.loop-inst-test.true in
    grind (arith, fits, c.inst-item.is, c.len.ensures)

pub overflow_add-count-in-loop-inst : goal.overflow_add-count-in-loop-inst
overflow_add-count-in-loop-inst c =
    let fits = length-flat_map-take words_of c.args.insts.now c.loop-inst.inst-index c.inst-item.result c.loop-inst-test.true in
    grind (arith, fits, c.inst-item.is, c.len.ensures, c.loop-inst.invariant)
