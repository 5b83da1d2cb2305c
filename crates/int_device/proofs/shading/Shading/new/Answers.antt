use Rattle.std.proofs.Common.{refl, sym, subst}
use Rattle.spv_exec.specs.PreparedFor.{PreparedFor}
use Rattle.int_device.specs.SampleRules.{AreRules}
use Rattle.int_device.specs.Draws.{IsShading}
use Rattle.int_device.proofs.Shades.{rules_limited}
use Rattle.int_device.proofs.shading.Shading.new.Goals as goal

pub invariant_of-result : goal.invariant_of-result
invariant_of-result c =
    subst (λ (for : PreparedFor). IsShading for c.args.part.now c.args.output.now c.args.dynamic.now c.rules_of.result c.first_inputs.result) (sym c.in_ok-run.ensures)
    (record {
      entries = refl;
      few = c.count_insts-few.ensures.few;
      ruled = c.rules_of.ensures;
      limited = subst AreRules (sym c.rules_of.ensures) (rules_limited c.args.shader.now.insts c.args.part.now c.args.output.now c.args.dynamic.now c.requires.part c.requires.output);
      scissor_x = c.requires.scissor_x;
      scissor_y = c.requires.scissor_y;
      given = c.first_inputs.ensures;
    })
