use Rattle.std.proofs.Common.{◌∙◌, subst, sym}
use Rattle.state_model.specs.Lawful.{IsLawful}
use Rattle.state_model.specs.Canonical.{IsCanonicalOf, IsTidy}
use Rattle.state_key.proofs.CanonicalState.{IsCanonicalOf-canonical, IsLawful-canonical, IsTidy-canonical, canonical_of_tidy}
use Rattle.state_key.proofs.canonical.canon.Goals as goal

pub returns-clause-form : goal.returns-clause-form
returns-clause-form c =
    subst (IsCanonicalOf c.args.vs_ids.now c.args.fs_ids.now c.args.state.now) (sym c.canonical_state.ensures) (IsCanonicalOf-canonical c.args.vs_ids.now c.args.fs_ids.now c.args.state.now c.requires)

pub returns-clause-lawful : goal.returns-clause-lawful
returns-clause-lawful c =
    subst IsLawful (sym c.canonical_state.ensures) (IsLawful-canonical c.args.vs_ids.now c.args.fs_ids.now c.args.state.now c.requires)

pub returns-clause-tidy : goal.returns-clause-tidy
returns-clause-tidy c =
    subst IsTidy (sym c.canonical_state.ensures) (IsTidy-canonical c.args.vs_ids.now c.args.fs_ids.now c.args.state.now c.requires)

pub returns-clause-unchanged : goal.returns-clause-unchanged
returns-clause-unchanged c = λ tidy declared.
    c.canonical_state.ensures ∙ canonical_of_tidy c.args.vs_ids.now c.args.fs_ids.now c.args.state.now c.requires tidy declared
