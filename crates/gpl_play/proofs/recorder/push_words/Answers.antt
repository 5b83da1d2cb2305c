use Rattle.std.proofs.Common.{ℕ, ◌+◌, ◌<◌, ◌≤◌, List, length, drop, sym, ap, ◌∙◌, arith}
use Rattle.std.specs.Prelude.{slice_index, slice_set}
use Rattle.std.proofs.lemmas.List.{at_drop_more, at_drop_all}
use Rattle.draw_model.specs.declared.command.Dynamic.{Dynamic}
use Rattle.draw_model.specs.TargetWords.{words_set}
use Rattle.gpl_play.proofs.recorder.push_words.Goals as goal

pub loop-i-preserved : goal.loop-i-preserved
loop-i-preserved c =
    let d : Dynamic = c.loop-i.dynamic in
    let at : ℕ = c.args.at in
    let i : ℕ = c.loop-i.i in
    let words : List ℕ = c.args.words.now in
    let within : i < length words = omega arith in
    ap (λ (push : List ℕ). record d { push = push })
    (ap (λ (n : ℕ). words_set (at + (i + 1)) (drop (i + 1) words) (slice_set d.push (n + i) (slice_index words i))) c.from.ensures
    ∙ ap (λ (n : ℕ). words_set n (drop (i + 1) words) (slice_set d.push (at + i) (slice_index words i))) {x = at + (i + 1)} {y = at + i + 1} (omega arith)
    ∙ sym (at_drop_more (λ (ws : List ℕ). words_set (at + i) ws d.push) words i 0 within))
    ∙ c.loop-i.invariant

pub returns : goal.returns
returns c =
    let d : Dynamic = c.loop-i.dynamic in
    let at : ℕ = c.args.at in
    let i : ℕ = c.loop-i.i in
    let words : List ℕ = c.args.words.now in
    let past : length words ≤ i = omega arith in
    ap (λ (push : List ℕ). record d { push = push }) (sym (at_drop_all (λ (ws : List ℕ). words_set (at + i) ws d.push) words i past))
    ∙ c.loop-i.invariant
