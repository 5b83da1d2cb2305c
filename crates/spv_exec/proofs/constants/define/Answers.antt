use Rattle.spv_exec.proofs.DefineSteps.{at_within, gathers_here, gives_here, step_composite, step_none, step_word, step_zeros}
use Rattle.spv_exec.proofs.constants.define.Goals as goal

pub returns-then-not-defines_value : goal.returns-then-not-defines_value
returns-then-not-defines_value c =
    step_none c.args.of.now.insts c.args.values.now c.args.place c.args.frame.now c.inst-inst.result.now c.defines_value.result c.requires.within c.inst-inst.ensures c.defines_value.ensures c.if-not-defines_value.true c.requires.before

pub returns-then-defines_zeros : goal.returns-then-defines_zeros
returns-then-defines_zeros c =
    step_zeros c.args.of.now c.module-module.ensures.valid c.args.values.now c.args.place c.frame_place-at.result c.frame_words.result c.args.frame.now c.clear_words.new.frame c.inst-inst.result.now c.defines_value.result c.defines_zeros.result
    c.requires.within c.requires.front c.inst-inst.ensures c.defines_value.ensures c.if-not-defines_value.false c.defines_zeros.ensures c.if-defines_zeros.true c.frame_place-at.ensures c.frame_words.ensures c.clear_words.ensures c.requires.before

pub split_at_mut-front-requires : goal.split_at_mut-front-requires
split_at_mut-front-requires c = at_within c.args.of.now.insts c.args.values.now c.args.place c.frame_place-at.result c.args.frame.now c.requires.within c.frame_place-at.ensures c.requires.before

pub gather_words-requires-clause-fits : goal.gather_words-requires-clause-fits
gather_words-requires-clause-fits c =
    let v = c.module-module.ensures.valid in
    let g = gives_here c.args.of.now v c.args.values.now c.args.place c.args.frame.now c.inst-inst.result.now c.defines_value.result c.requires.within c.requires.front c.inst-inst.ensures c.defines_value.ensures c.if-not-defines_value.false c.requires.before in
    (gathers_here c.args.of.now v c.args.values.now c.args.place c.frame_place-at.result c.args.frame.now c.split_at_mut-front.result.0.now c.split_at_mut-front.result.1.now c.words_from.result.now c.inst-inst.result.now
    c.defines_value.result c.defines_composite.result c.requires.within c.inst-inst.ensures c.defines_value.ensures c.if-not-defines_value.false c.defines_composite.ensures c.if-defines_composite.true c.frame_place-at.ensures
    c.words_from.ensures c.split_at_mut-front.ensures.front c.split_at_mut-front.ensures.back c.requires.before g).fits

pub gather_words-requires-clause-there : goal.gather_words-requires-clause-there
gather_words-requires-clause-there c =
    let v = c.module-module.ensures.valid in
    let g = gives_here c.args.of.now v c.args.values.now c.args.place c.args.frame.now c.inst-inst.result.now c.defines_value.result c.requires.within c.requires.front c.inst-inst.ensures c.defines_value.ensures c.if-not-defines_value.false c.requires.before in
    (gathers_here c.args.of.now v c.args.values.now c.args.place c.frame_place-at.result c.args.frame.now c.split_at_mut-front.result.0.now c.split_at_mut-front.result.1.now c.words_from.result.now c.inst-inst.result.now
    c.defines_value.result c.defines_composite.result c.requires.within c.inst-inst.ensures c.defines_value.ensures c.if-not-defines_value.false c.defines_composite.ensures c.if-defines_composite.true c.frame_place-at.ensures
    c.words_from.ensures c.split_at_mut-front.ensures.front c.split_at_mut-front.ensures.back c.requires.before g).there

pub returns-then-defines_composite : goal.returns-then-defines_composite
returns-then-defines_composite c =
    let v = c.module-module.ensures.valid in
    let g = gives_here c.args.of.now v c.args.values.now c.args.place c.args.frame.now c.inst-inst.result.now c.defines_value.result c.requires.within c.requires.front c.inst-inst.ensures c.defines_value.ensures c.if-not-defines_value.false c.requires.before in
    step_composite c.args.of.now c.args.values.now c.args.place c.frame_place-at.result c.args.frame.now c.split_at_mut-front.result.0.now c.split_at_mut-front.result.1.now c.gather_words.new.to c.words_from.result.now
    c.requires.within c.frame_place-at.ensures c.split_at_mut-front.ensures.front c.split_at_mut-front.ensures.back c.gather_words.ensures c.requires.before g
    (gathers_here c.args.of.now v c.args.values.now c.args.place c.frame_place-at.result c.args.frame.now c.split_at_mut-front.result.0.now c.split_at_mut-front.result.1.now c.words_from.result.now c.inst-inst.result.now
    c.defines_value.result c.defines_composite.result c.requires.within c.inst-inst.ensures c.defines_value.ensures c.if-not-defines_value.false c.defines_composite.ensures c.if-defines_composite.true c.frame_place-at.ensures
    c.words_from.ensures c.split_at_mut-front.ensures.front c.split_at_mut-front.ensures.back c.requires.before g)

pub returns : goal.returns
returns c =
    step_word c.args.of.now c.module-module.ensures.valid c.args.values.now c.args.place c.frame_place-at.result c.defined_word-word.result c.args.frame.now c.put.new.frame c.inst-inst.result.now c.defines_value.result
    c.requires.within c.requires.front c.inst-inst.ensures c.defines_value.ensures c.if-not-defines_value.false c.frame_place-at.ensures c.defined_word-word.ensures c.put.ensures c.requires.before
