use Rattle.std.proofs.Common.{◌≡◌, ℕ, take}
use Rattle.valid_model.specs.DecorationWords.{decoration_of}
use Rattle.spv_types.specs.Pairs.{at_pair}
use Rattle.spv_types.proofs.decoration_words.words_of.Given as goal

abbrev pub invariant-loop-inst : goal.invariant-loop-inst
invariant-loop-inst l = (id decoration : ℕ) → at_pair l.words id decoration ≡ decoration_of (take l.inst-index l.insts) id decoration
