use Rattle.std.proofs.Common.{List, sym, subst}
use Rattle.std.specs.List.{All}
use Rattle.std.specs.Prelude.{IsSome}
use Rattle.spirv_model.specs.declared.module.Inst.{Inst}
use Rattle.spirv_model.specs.Operands.{kinds}
use Rattle.spv_text.proofs.Fitting.{all_fit}
use Rattle.spv_text.proofs.list.list_text.Goals as goal

pub listing-requires : goal.listing-requires
listing-requires c =
    subst (λ (insts : List Inst). All (λ inst. IsSome (kinds inst)) insts) (sym c.as_slice.ensures)
    (all_fit c.args.words.now c.in-Ok.module c.in-Ok.ensures.gives)
