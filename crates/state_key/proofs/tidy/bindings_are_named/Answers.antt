use Rattle.std.proofs.Common.{◌≡◌, length, refl, arith, rules}
use Rattle.limits.specs.declared.TheConstants.{VERTEX_BINDINGS}
use Rattle.state_key.proofs.Order.{within_from_present}
use Rattle.state_key.proofs.tidy.bindings_are_named.Goals as goal

pub returns : goal.returns
returns c = (
  λ _ number there. let within = within_from_present c.args.bindings.now number there in let count : length c.args.bindings.now ≡ VERTEX_BINDINGS = search rules in c.loop-number.invariant number (omega arith) there,
  λ _. refl,
)
