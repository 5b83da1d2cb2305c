use Rattle.std.proofs.Common.{◌≡◌, List, true, sym, subst}
use Rattle.std.specs.List.{list_all}
use Rattle.spirv_model.specs.declared.module.Inst.{Inst}
use Rattle.spirv_model.specs.Module.{fits_table}
use Rattle.gpl_play.proofs.listings.push_module.Goals as goal

pub push_module-requires : goal.push_module-requires
push_module-requires c =
    subst (λ (insts : List Inst). list_all fits_table insts ≡ true) (sym c.insts.ensures.are) c.insts.ensures.valid.writable.fit
