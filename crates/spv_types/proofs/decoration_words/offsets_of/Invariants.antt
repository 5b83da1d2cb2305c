use Rattle.std.proofs.Common.{◌≡◌, ℕ, take}
use Rattle.valid_model.specs.DecorationWords.{offset_of}
use Rattle.spv_types.specs.Pairs.{at_pair}
use Rattle.spv_types.proofs.decoration_words.offsets_of.Given as goal

abbrev pub invariant-loop-inst : goal.invariant-loop-inst
invariant-loop-inst l = (id member : ℕ) → at_pair l.offsets id member ≡ offset_of (take l.inst-index l.insts) id member
