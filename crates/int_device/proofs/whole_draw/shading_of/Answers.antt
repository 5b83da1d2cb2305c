use Rattle.std.proofs.Common.{[], ap, ◌∙◌}
use Rattle.std.specs.Borrow.{Bor}
use Rattle.std.specs.Option.{option_copied}
use Rattle.std.specs.Prelude.{Option, Some}
use Rattle.spirv_model.specs.declared.module.Words.{Words}
use Rattle.int_device.specs.Modules.{Modules}
use Rattle.int_device.proofs.WholeLaws.{no_shader, no_part, no_output, shaded}
use Rattle.int_device.proofs.whole_draw.shading_of.Goals as goal

-- some modules with this fragment module
abbrev with_fragment : Option (Bor Words) → Modules
with_fragment shader = record { vertex = record { bound = 0; insts = [] }; fragment = option_copied shader }

pub returns-in_default : goal.returns-in_default
returns-in_default c = no_shader (with_fragment c.args.fragment) c.args.state.now c.args.dynamic.now c.args.buffers.now (ap option_copied c.in_default.is)

pub returns-in_default-fragment : goal.returns-in_default-fragment
returns-in_default-fragment c = no_part (with_fragment c.args.fragment) c.args.state.now c.args.dynamic.now c.args.buffers.now c.in_default-fragment.is

pub returns-in_default-output : goal.returns-in_default-output
returns-in_default-output c = no_output (with_fragment c.args.fragment) c.args.state.now c.args.dynamic.now c.args.buffers.now c.in_default-output.is

pub returns : goal.returns
returns c =
    ap Some c.in_ok-shading.ensures
    ∙ shaded (with_fragment c.args.fragment) c.args.state.now c.args.dynamic.now c.args.buffers.now c.in-Some.shader.now c.in-Some-fragment.part c.in-Some-output.output
    (ap option_copied c.in-Some.is) c.in-Some-fragment.is c.in-Some-output.is
