use Rattle.spv_check.proofs.copy.valid_module.Goals as goal

pub check_list-requires : goal.check_list-requires
check_list-requires c = c.requires.writable

pub want_of_memory-requires : goal.want_of_memory-requires
want_of_memory-requires c = c.in-Err.ensures.exact c.requires
