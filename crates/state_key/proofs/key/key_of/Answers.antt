use Rattle.std.proofs.Common.{ap, ◌∙◌, sym}
use Rattle.state_model.specs.Key.{key}
use Rattle.state_key.proofs.KeyBack.{same_from_key}
use Rattle.state_key.proofs.key.key_of.Goals as goal

pub returns-clause-exact : goal.returns-clause-exact
returns-clause-exact c = λ tidy t lawful' tidy'. (
  λ e. same_from_key t c.args.state.now lawful' tidy' c.requires tidy (e ∙ c.key_words.ensures),
  λ e. ap key e ∙ sym c.key_words.ensures,
)
