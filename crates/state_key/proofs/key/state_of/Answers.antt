use Rattle.std.proofs.Common.{◌≡◌, Bool, true, false, Some, ap, ◌∙◌, sym, subst}
use Rattle.state_key.specs.Keys.{HasKey}
use Rattle.state_key.proofs.KeyBack.{unpacked_is}
use Rattle.state_key.proofs.key.state_of.Goals as goal

both : (b : Bool) → b ≡ true → b ≡ false → ⊥
both b t f = cc

pub returns-then-has_key-clause-found : goal.returns-then-has_key-clause-found
returns-then-has_key-clause-found c = λ s has. ap (λ x. Some x) (c.unpacked_state-state.ensures ∙ unpacked_is c.args.key.now s has)

pub returns-else-has_key-clause-none : goal.returns-else-has_key-clause-none
returns-else-has_key-clause-none c = λ s has.
    let same = c.unpacked_state-state.ensures ∙ unpacked_is c.args.key.now s has in
    both c.has_key.result (c.has_key.ensures.1 (subst (HasKey c.args.key.now) (sym same) has)) c.if-has_key.false

pub returns-else-has_key-clause-found : goal.returns-else-has_key-clause-found
returns-else-has_key-clause-found c = λ s has.
    let same = c.unpacked_state-state.ensures ∙ unpacked_is c.args.key.now s has in
    absurd (both c.has_key.result (c.has_key.ensures.1 (subst (HasKey c.args.key.now) (sym same) has)) c.if-has_key.false)
