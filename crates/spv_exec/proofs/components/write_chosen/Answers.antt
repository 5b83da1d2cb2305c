use Rattle.std.proofs.Common.{◌≡◌, ℕ, ◌+◌, ◌<◌, ◌≤◌, List, length, get_or, sym, ap, ◌∙◌, arith}
use Rattle.frame_model.specs.Shown.{words_at}
use Rattle.frame_model.specs.Componentwise.{chosen_word, chosen_words}
use Rattle.spv_exec.proofs.ComponentLoops.{kept, next_word, all_written, length_chosen, chosen_at}
use Rattle.spv_exec.proofs.components.write_chosen.Goals as goal

pub loop-k-preserved : goal.loop-k-preserved
loop-k-preserved c =
    let xs : List ℕ = c.args.frame.now in
    let k = c.loop-k.k in let count = c.args.count in
    let new : List ℕ = chosen_words (words_at xs c.args.conditions count) (words_at xs c.args.first count) (words_at xs c.args.second count) in
    let long = length_chosen xs c.args.conditions c.args.first c.args.second count c.requires.conditions_within c.requires.first_within c.requires.second_within in
    let room : c.args.at + length new ≤ length xs = (let r = c.requires.room in omega (arith, r, long)) in
    let less : k < count = c.loop-k-test.true in
    let of_condition : get_or c.loop-k.frame (c.args.conditions + k) 0 ≡ get_or xs (c.args.conditions + k) 0 =
    ap (λ (l : List ℕ). get_or l (c.args.conditions + k) 0) c.loop-k.invariant ∙ kept xs new c.args.at k count c.args.conditions room long less c.requires.conditions_apart in
    let of_first : get_or c.loop-k.frame (c.args.first + k) 0 ≡ get_or xs (c.args.first + k) 0 =
    ap (λ (l : List ℕ). get_or l (c.args.first + k) 0) c.loop-k.invariant ∙ kept xs new c.args.at k count c.args.first room long less c.requires.first_apart in
    let of_second : get_or c.loop-k.frame (c.args.second + k) 0 ≡ get_or xs (c.args.second + k) 0 =
    ap (λ (l : List ℕ). get_or l (c.args.second + k) 0) c.loop-k.invariant ∙ kept xs new c.args.at k count c.args.second room long less c.requires.second_apart in
    next_word xs c.loop-k.frame new c.args.at k c.chosen_word.result c.loop-k.invariant room (omega (arith, less, long))
    (c.chosen_word.ensures ∙ (ap (λ (w : ℕ). chosen_word w (get_or c.loop-k.frame (c.args.first + k) 0) (get_or c.loop-k.frame (c.args.second + k) 0)) of_condition
    ∙ (ap (λ (w : ℕ). chosen_word (get_or xs (c.args.conditions + k) 0) w (get_or c.loop-k.frame (c.args.second + k) 0)) of_first
    ∙ (ap (chosen_word (get_or xs (c.args.conditions + k) 0) (get_or xs (c.args.first + k) 0)) of_second
    ∙ sym (chosen_at xs c.args.conditions c.args.first c.args.second count k c.requires.conditions_within c.requires.first_within c.requires.second_within less)))))

pub returns : goal.returns
returns c =
    let xs : List ℕ = c.args.frame.now in let count = c.args.count in
    let long = length_chosen xs c.args.conditions c.args.first c.args.second count c.requires.conditions_within c.requires.first_within c.requires.second_within in
    let past = c.loop-k-test.false in
    all_written xs c.loop-k.frame (chosen_words (words_at xs c.args.conditions count) (words_at xs c.args.first count) (words_at xs c.args.second count)) c.args.at c.loop-k.k c.loop-k.invariant (omega (arith, long, past))
