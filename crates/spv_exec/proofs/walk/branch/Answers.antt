use Rattle.std.proofs.Common.{◌≡◌, ℕ, ap, ◌∙◌, arith, Option}
use Rattle.std.specs.Option.{unwrap_or}
use Rattle.valid_model.specs.Definitions.{definition}
use Rattle.spv_exec.proofs.StandJumps.{jumps_ahead, jumps_last, jumps_back}
use Rattle.spv_exec.proofs.walk.branch.Goals as goal

pub returns-then-to-at-clause-jumps : goal.returns-then-to-at-clause-jumps
returns-then-to-at-clause-jumps c = λ label to state v goes defined here.
    let e : c.unwrap_or-to.result ≡ to = c.unwrap_or-to.ensures ∙ ap (λ (o : Option ℕ). unwrap_or o 0) (c.definition.ensures ∙ (ap (definition c.args.of.now.insts) (c.target.ensures label v goes) ∙ defined)) in
    jumps_ahead c.args.at.now to c.unwrap_or-to.result state e (omega arith) here

pub returns-then-at-ge-BACK_EDGES-clause-jumps : goal.returns-then-at-ge-BACK_EDGES-clause-jumps
returns-then-at-ge-BACK_EDGES-clause-jumps c = λ label to state v goes defined here.
    let e : c.unwrap_or-to.result ≡ to = c.unwrap_or-to.ensures ∙ ap (λ (o : Option ℕ). unwrap_or o 0) (c.definition.ensures ∙ (ap (definition c.args.of.now.insts) (c.target.ensures label v goes) ∙ defined)) in
    jumps_last c.args.at.now to c.unwrap_or-to.result state e (omega arith) (omega arith) here

pub returns-clause-jumps : goal.returns-clause-jumps
returns-clause-jumps c = λ label to state v goes defined here.
    let e : c.unwrap_or-to.result ≡ to = c.unwrap_or-to.ensures ∙ ap (λ (o : Option ℕ). unwrap_or o 0) (c.definition.ensures ∙ (ap (definition c.args.of.now.insts) (c.target.ensures label v goes) ∙ defined)) in
    jumps_back c.args.at.now to c.unwrap_or-to.result state e (omega arith) (omega arith) here
