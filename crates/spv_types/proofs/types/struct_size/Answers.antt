use Rattle.std.proofs.Common.{sym, arith}
use Rattle.valid_model.specs.Knowledge.{is_data, meaning_in, size_in}
use Rattle.limits.specs.declared.TheConstants.{TYPE_WORDS}
use Rattle.spv_types.specs.Tables.{in_table}
use Rattle.spv_types.proofs.MemberSizes.{sized-not, sized-over, all_more, size_more}
use Rattle.spv_types.proofs.types.struct_size.Goals as goal

pub returns-then-not-is_data : goal.returns-then-not-is_data
returns-then-not-is_data c =
    sym (sized-not (λ id. is_data (meaning_in (in_table c.args.table.now id))) (λ id. size_in (in_table c.args.table.now id)) TYPE_WORDS
    c.args.members.now c.loop-member.member-index (omega arith) (cc))

pub returns-then-words-from : goal.returns-then-words-from
returns-then-words-from c =
    sym (sized-over (λ id. is_data (meaning_in (in_table c.args.table.now id))) (λ id. size_in (in_table c.args.table.now id)) TYPE_WORDS
    c.args.members.now c.loop-member.member-index (omega arith) (omega (arith, c.if-words-from.true, c.from.ensures, c.from-words.ensures, c.size.ensures, c.loop-member.invariant.size_so_far)))

pub loop-member-preserved : goal.loop-member-preserved
loop-member-preserved c = record {
  within = omega arith;
  data_so_far = all_more (λ id. is_data (meaning_in (in_table c.args.table.now id))) c.args.members.now c.loop-member.member-index (omega arith) c.loop-member.invariant.data_so_far (cc);
  size_so_far = omega (arith, size_more (λ id. size_in (in_table c.args.table.now id)) c.args.members.now c.loop-member.member-index (omega arith), c.size.ensures, c.loop-member.invariant.size_so_far);
}
