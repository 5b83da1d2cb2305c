use Rattle.std.proofs.Common.{ap, sym, ◌∙◌}
use Rattle.spv_exec.proofs.FilledVariables.{kept_other_at, kept_absent_at, in_order, added_at}
use Rattle.spv_exec.proofs.variables.add_variable.Goals as goal

pub returns-then-inst-ne-VARIABLE : goal.returns-then-inst-ne-VARIABLE
returns-then-inst-ne-VARIABLE c = kept_other_at c.args.of.now.insts c.args.place c.inst-inst.result.now c.args.fills.now.items c.requires.within c.inst-inst.ensures c.if-inst-ne-VARIABLE.true c.requires.before

pub returns-in_default : goal.returns-in_default
returns-in_default c =
    kept_absent_at c.args.of.now.insts c.args.place c.word.result c.inst-inst.result.now c.meaning.result.now c.args.fills.now.items c.requires.within c.inst-inst.ensures c.if-inst-ne-VARIABLE.false c.word.ensures
    c.meaning.ensures c.in_default.not-Variable c.requires.before

pub add_words-requires : goal.add_words-requires
add_words-requires c = in_order c.args.of.now.insts c.args.place c.memory_place-start.result c.memory_place-end.result c.requires.within c.memory_place-start.ensures c.memory_place-end.ensures

pub returns : goal.returns
returns c =
    added_at c.args.of.now.insts c.args.place c.word.result c.word-2.result c.in-Variable.ty c.in-Variable.class c.from.result c.inst-inst.result.now c.meaning.result.now c.meaning-2.result.now c.origin_of-origin.result _
    c.memory_place-start.result c.memory_place-end.result c.args.fills.now.items c.add_words.new.fills.items c.requires.within c.inst-inst.ensures c.if-inst-ne-VARIABLE.false c.word.ensures c.meaning.ensures c.in-Variable.is
    c.word-2.ensures c.from.ensures c.origin_of-origin.ensures c.meaning-2.ensures (c.as_slice.ensures.value ∙ c.in_ok-offsets.ensures) c.memory_place-start.ensures c.memory_place-end.ensures
    c.in_ok-add_words.ensures c.requires.before
