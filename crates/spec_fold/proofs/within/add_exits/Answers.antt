use Rattle.spec_fold.proofs.ExitSets.{adds_branch, adds_choice, adds_switch}
use Rattle.spec_fold.proofs.within.add_exits.Goals as goal

pub returns-in-249 : goal.returns-in-249
returns-in-249 c =
    adds_branch c.args.arms.now c.args.place c.args.limit c.add_exit.result c.args.inst.now c.args.within.now c.args.within.now c.add_exit.new.within c.word.result c.in-249.is c.word.ensures c.add_exit.ensures

pub returns-in_ok-add_exit-in-250 : goal.returns-in_ok-add_exit-in-250
returns-in_ok-add_exit-in-250 c =
    adds_choice c.args.arms.now c.args.place c.args.limit c.add_exit-in-250-2.result c.args.inst.now c.args.within.now c.add_exit-in-250.new.within c.add_exit-in-250-2.new.within
    c.word-in-250.result c.word-in-250-2.result c.in-250.is c.word-in-250.ensures c.word-in-250-2.ensures c.in_ok-add_exit-in-250.ensures c.add_exit-in-250-2.ensures

pub returns-in_ok-add_exit-in-251 : goal.returns-in_ok-add_exit-in-251
returns-in_ok-add_exit-in-251 c =
    adds_switch c.args.arms.now c.args.place c.args.limit c.add_cases.result c.args.inst.now c.args.within.now c.add_exit-in-251.new.within c.add_cases.new.within
    c.word-in-251.result c.words_from.result.now c.in-251.is c.word-in-251.ensures c.words_from.ensures c.in_ok-add_exit-in-251.ensures c.add_cases.ensures
