use Rattle.std.proofs.Common.{sym, subst}
use Rattle.check_model.specs.Validity.{IsValid}
use Rattle.check_model.proofs.FaultLaws.{one_valid}
use Rattle.unit_records.proofs.WrittenRead.{written_valid}
use Rattle.unit_records.proofs.read.module_of.Goals as goal

pub want_of_memory-requires : goal.want_of_memory-requires
want_of_memory-requires c =
    let r = c.requires in
    c.in-Err.ensures.exact r.own (subst (λ ws. IsValid ws r.own) (sym r.is) (written_valid r.own r.valid))

pub returns-in-Ok : goal.returns-in-Ok
returns-in-Ok c own valid is = one_valid c.args.words.now c.in-Ok.module own c.in-Ok.ensures.fault (subst (λ ws. IsValid ws own) (sym is) (written_valid own valid))
