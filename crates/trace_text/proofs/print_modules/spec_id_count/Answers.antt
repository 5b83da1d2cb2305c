use Rattle.std.proofs.Common.{ℕ, List, length, ap}
use Rattle.trace_model.proofs.SpecIdLaws.{one_spec_ids}
use Rattle.trace_text.proofs.print_modules.spec_id_count.Goals as goal

pub returns : goal.returns
returns c = ap (λ (ids : List ℕ). length ids) (one_spec_ids c.args.«module».now.insts c.spec_ids.result.now c.spec_ids.ensures)
