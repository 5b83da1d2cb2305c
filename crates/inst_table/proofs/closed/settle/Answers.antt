use Rattle.std.proofs.Common.{sym, subst}
use Rattle.inst_table.specs.declared.view.View.{View}
use Rattle.inst_table.specs.Closing.{AgreesWith}
use Rattle.inst_table.proofs.Endings.{keys_agree, agrees}
use Rattle.inst_table.proofs.closed.settle.Goals as goal

pub returns : goal.returns
returns g c = let same = c.split-other.ensures.same in
    subst (λ (v : View). AgreesWith v c.args.creator.seat.me.0.rows.linked c.args.publisher.seat.me.0.units.built) same
    (agrees _ _ _ _ c.args.creator.seat.me.0.rows.linked c.args.publisher.seat.me c.take_in-2.new.seat.me c.split-other.new.self.seat.me.0 c.take_in-2.ensures.view
    (keys_agree c.args.creator.seat.me c.take_in.new.seat.me c.split-other.result.seat.me.0 c.split-other.new.self.seat.me.0 c.take_in.ensures.view
    (subst (λ (v : View). Rattle.inst_table.specs.Passes.KnowsAtLeast v c.split-other.result.seat.me.0) (sym same) c.split-other.ensures.knows) c.own_word.ensures.known)
    c.own_unit_word.ensures.sound)
