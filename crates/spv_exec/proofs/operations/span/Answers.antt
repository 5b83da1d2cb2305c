use Rattle.std.proofs.Common.{◌<◌, length, sym, arith}
use Rattle.typed_model.proofs.ValidTypes.{defined_within}
use Rattle.spv_exec.proofs.operations.span.Goals as goal

pub frame_place-requires : goal.frame_place-requires
frame_place-requires c =
    let less : c.in-Some.place < length c.args.of.now.insts = defined_within c.args.of.now.insts c.args.id c.in-Some.place (sym c.in-Some.ensures) in
    omega (arith, less)

pub frame_words-requires : goal.frame_words-requires
frame_words-requires c = defined_within c.args.of.now.insts c.args.id c.in-Some.place (sym c.in-Some.ensures)
