use Rattle.std.proofs.Common.{◌≡◌, ◌≤◌, true, take}
use Rattle.std.specs.List.{list_all}
use Rattle.limits.specs.declared.TheConstants.{TYPE_WORDS}
use Rattle.valid_model.specs.Knowledge.{is_data, meaning_in}
use Rattle.valid_model.specs.Types.{members_size}
use Rattle.spv_types.specs.Tables.{in_table}
use Rattle.spv_types.proofs.types.struct_size.Given as goal

abbrev pub invariant-loop-member : goal.invariant-loop-member
invariant-loop-member l = record {
  within : l.words ≤ TYPE_WORDS;
  data_so_far : list_all (λ id. is_data (meaning_in (in_table l.table id))) (take l.member-index l.members) ≡ true;
  size_so_far : l.words ≡ members_size (in_table l.table) (take l.member-index l.members);
}
