use Rattle.std.proofs.Common.{◌∙◌, ap, arith}
use Rattle.std.specs.Prelude.{None, slice_index_or}
use Rattle.id_table.proofs.Places.{none_more}
use Rattle.id_table.proofs.table.empty_places.Goals as goal

pub loop-preserved : goal.loop-preserved
loop-preserved g c = record {
  many = omega (arith, c.push_reserved.ensures.len, c.push_reserved.new.self.ok.0, c.loop.places.ok.0, c.loop.invariant.many);
  none = λ id. ap (λ xs. slice_index_or xs id None) c.push_reserved.ensures.items ∙ none_more c.loop.places.items id (c.loop.invariant.none id);
  room = c.push_reserved.ensures.capacity ∙ c.loop.invariant.room;
}
