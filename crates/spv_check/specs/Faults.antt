-- The faults of the parts as those of a module, want of memory being the same in all.
use Rattle.spirv_model.specs.declared.module.WordsFault.{WordsFault}
use Rattle.spirv_model.specs.declared.module.WordsFault.TheVariants as words
use Rattle.body_model.specs.declared.fault.TreeFault.{TreeFault}
use Rattle.body_model.specs.declared.fault.TreeFault.TheVariants as tree
use Rattle.valid_model.specs.declared.type_fault.TypeFault.{TypeFault}
use Rattle.valid_model.specs.declared.type_fault.TypeFault.TheVariants as ids
use Rattle.check_model.specs.declared.fault.CheckFault.{CheckFault}
use Rattle.check_model.specs.declared.fault.CheckFault.TheVariants as fault

abbrev pub words_fault : WordsFault → CheckFault
words_fault words.Memory = fault.Memory
words_fault reason = fault.Words reason

abbrev pub tree_fault : TreeFault → CheckFault
tree_fault tree.Memory = fault.Memory
tree_fault reason = fault.Tree reason

abbrev pub ids_fault : TypeFault → CheckFault
ids_fault ids.Memory = fault.Memory
ids_fault reason = fault.Ids reason
