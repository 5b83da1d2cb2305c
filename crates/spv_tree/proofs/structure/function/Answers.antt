use Rattle.std.proofs.Common.{arith, sym, ◌∙◌}
use Rattle.std.specs.Prelude.{IsTrue}
use Rattle.body_model.specs.Classes.{is_module_level}
use Rattle.spv_tree.proofs.WholeTrees.{level_more, leaves_at, leaves_past}
use Rattle.spv_tree.proofs.structure.function.Goals as goal

pub returns-then-not-is_module_level : goal.returns-then-not-is_module_level
returns-then-not-is_module_level c =
    let so = c.loop-inst in
    leaves_at c.args.insts.now so.place so.inst-index c.inst-item.result c.loop-inst-test.true c.inst-item.is c.if-inst-eq-FUNCTION.false
    (sym c.is_module_level.ensures ∙ c.if-not-is_module_level.true) so.invariant.place so.invariant.level

pub loop-inst-preserved : goal.loop-inst-preserved
loop-inst-preserved c =
    let insts = c.args.insts.now in
    let so = c.loop-inst in
    let inst = c.inst-item.result in
    let level : IsTrue (is_module_level inst.op) = sym c.is_module_level.ensures ∙ c.if-not-is_module_level.false in
    record { place = omega arith; level = level_more insts so.inst-index inst c.loop-inst-test.true c.inst-item.is level so.invariant.level }

pub returns : goal.returns
returns c =
    let so = c.loop-inst in
    leaves_past c.args.insts.now so.place so.inst-index c.loop-inst-test.false so.auto.inst-index-end so.invariant.place so.invariant.level
