-- The blocks of instructions, one instruction after another.
use Rattle.std.proofs.Common.{◌≡◌, ℕ, suc, ◌+◌, ◌<◌, ◌≤◌, ◌==◌, Bool, true, false, not, ◌&&◌, ◌||◌, if◌then◌else◌, List, [], ◌∷◌, ◌++◌, length, map, filter, take, Option, None, Some, refl, ap, sym, ◌∙◌, arith, append-nil, append_assoc, get_or, inl, inr}
use Rattle.std.specs.List.{find}
use Rattle.std.specs.Option.{option_map, option_or}
use Rattle.std.specs.Ordering.{nat_cmp}
use Rattle.std.specs.BTreeMap.{get}
use Rattle.std.specs.BTreeSet.{BTreeSet, contains}
use Rattle.std.proofs.lemmas.Bool.{eqb-true, eq-eqb, ne_eqb, cases_eq, cases_lt}
use Rattle.spv_tree.proofs.Among.{among_push}
use Rattle.std.proofs.lemmas.List.{take_more, take_all, length-take-le, get_or_append_left, get_or_push, length_push}
use Rattle.spirv_model.specs.declared.module.Inst.{Inst}
use Rattle.spirv_model.specs.declared.op.TheConstants.{LABEL}
use Rattle.spirv_model.specs.Operands.{word_at, class_of, entry_of}
use Rattle.body_model.specs.Classes.{is_terminator}
use Rattle.body_model.specs.Switches.{is_among}
use Rattle.body_model.specs.Targets.{targets}
use Rattle.valid_model.specs.Definitions.{inst_at, no_instruction}
use Rattle.check_model.specs.Branches.{Block, blocks_from, blocks_of, leads_to, predecessors, is_labelled, block_end_of, label_behind}
use Rattle.spv_check.specs.Branches.{AreLabels, AreEnds, AreSources, AddsEnd, AddsSource, Sources, Ends, end_here, if_so, list_at}

-- an OpLabel is no terminator
label_ends_nothing : is_terminator LABEL ≡ false
unfolding class_of entry_of
label_ends_nothing = refl

-- the block that the instruction ends, in the block with this label
abbrev last_block : ℕ → ℕ → Inst → List Block
last_block label place inst = if is_terminator inst.op then record { label = label; end = place; targets = targets inst } ∷ [] else []

no_block : (is_label ends : Bool) (block : Block) → (is_label ≡ true → ends ≡ false) → (if is_label then [] else if ends then block ∷ [] else []) ≡ (if ends then block ∷ [] else [])
no_block true ends block none = sym (ap (λ (b : Bool). if b then block ∷ [] else []) (none refl))
no_block false true block none = refl
no_block false false block none = refl

step : (is_label ends : Bool) (block : Block) (next same next_old same_old last_next last_same : List Block) → next ≡ next_old ++ last_next → same ≡ same_old ++ last_same
    → (if is_label then next else if ends then block ∷ same else same) ≡ (if is_label then next_old else if ends then block ∷ same_old else same_old) ++ (if is_label then last_next else last_same)
step true ends block next same next_old same_old last_next last_same one two = one
step false true block next same next_old same_old last_next last_same one two = ap (λ (l : List Block). block ∷ l) two
step false false block next same next_old same_old last_next last_same one two = two

by_label : (b : Bool) (word label place : ℕ) (xs : List Inst) (last : Inst)
    → (if b then last_block (label_behind word xs) place last else last_block (label_behind label xs) place last) ≡ last_block (label_behind (if b then word else label) xs) place last
by_label true word label place xs last = refl
by_label false word label place xs last = refl

pub blocks_push : (label place : ℕ) (xs : List Inst) (last : Inst) → blocks_from label place (xs ++ last ∷ []) ≡ blocks_from label place xs ++ last_block (label_behind label xs) (place + length xs) last
blocks_push label place [] last =
    no_block (last.op == LABEL) (is_terminator last.op) (record { label = label; end = place; targets = targets last }) (λ is. ap is_terminator (eqb-true last.op LABEL is) ∙ label_ends_nothing)
    ∙ ap (λ (n : ℕ). last_block label n last) {x = place} {y = place + 0} (omega arith)
blocks_push label place (x ∷ xs) last =
    let past : (place + 1) + length xs ≡ place + suc (length xs) = omega arith in
    step (x.op == LABEL) (is_terminator x.op) (record { label = label; end = place; targets = targets x }) _ _ (blocks_from (word_at 0 x) (place + 1) xs) (blocks_from label (place + 1) xs)
    (last_block (label_behind (word_at 0 x) xs) ((place + 1) + length xs) last) (last_block (label_behind label xs) ((place + 1) + length xs) last)
    (blocks_push (word_at 0 x) (place + 1) xs last) (blocks_push label (place + 1) xs last)
    ∙ ap (λ (l : List Block). blocks_from label place (x ∷ xs) ++ l)
    (by_label (x.op == LABEL) (word_at 0 x) label ((place + 1) + length xs) xs last ∙ ap (λ (n : ℕ). last_block (label_behind (if x.op == LABEL then word_at 0 x else label) xs) n last) past)

pub label_push : (label : ℕ) (xs : List Inst) (last : Inst) → label_behind label (xs ++ last ∷ []) ≡ (if last.op == LABEL then word_at 0 last else label_behind label xs)
label_push label [] last = refl
label_push label (x ∷ xs) last = label_push (if x.op == LABEL then word_at 0 x else label) xs last

-- ---- ends

find_step : (b : Bool) (x : Block) (found all last : Option Block) → option_map (λ (k : Block). k.end) all ≡ option_or (option_map (λ (k : Block). k.end) found) (option_map (λ (k : Block). k.end) last)
    → option_map (λ (k : Block). k.end) (if b then Some x else all) ≡ option_or (option_map (λ (k : Block). k.end) (if b then Some x else found)) (option_map (λ (k : Block). k.end) last)
find_step true x found all last so = refl
find_step false x found all last so = so

none_or : (last : Option ℕ) → last ≡ option_or None last
none_or None = refl
none_or (Some x) = refl

find_append : (p : Block → Bool) (xs ys : List Block) → option_map (λ (k : Block). k.end) (find p (xs ++ ys)) ≡ option_or (option_map (λ (k : Block). k.end) (find p xs)) (option_map (λ (k : Block). k.end) (find p ys))
find_append p [] ys = none_or _
find_append p (x ∷ xs) ys = find_step (p x) x (find p xs) (find p (xs ++ ys)) (find p ys) (find_append p xs ys)

find_last : (ends : Bool) (own place label : ℕ) (block : Block) → block.label ≡ own → block.end ≡ place
    → option_map (λ (k : Block). k.end) (find (is_labelled label) (if ends then block ∷ [] else [])) ≡ (if ends && (own == label) then Some place else None)
find_last false own place label block one two = refl
find_last true own place label block one two = found (block.label == label) ∙ ap (λ (n : ℕ). if n == label then Some block.end else None) one ∙ ap (λ (n : ℕ). if own == label then Some n else None) two
  where
    found : (b : Bool) → option_map (λ (k : Block). k.end) (if b then Some block else None) ≡ (if b then Some block.end else None)
    found true = refl
    found false = refl

pub end_push : (xs : List Inst) (last : Inst) (label : ℕ) → block_end_of (xs ++ last ∷ []) label ≡ option_or (block_end_of xs label) (end_here (label_behind 0 xs) last (length xs) label)
unfolding block_end_of blocks_of
end_push xs last label =
    let past : 0 + length xs ≡ length xs = omega arith in
    ap (λ (l : List Block). option_map (λ (k : Block). k.end) (find (is_labelled label) l)) (blocks_push 0 0 xs last)
    ∙ find_append (is_labelled label) (blocks_from 0 0 xs) (last_block (label_behind 0 xs) (0 + length xs) last)
    ∙ ap (option_or (option_map (λ (k : Block). k.end) (find (is_labelled label) (blocks_from 0 0 xs))))
    (find_last (is_terminator last.op) (label_behind 0 xs) (length xs) label (record { label = label_behind 0 xs; end = 0 + length xs; targets = targets last }) refl past)

-- ---- sources

kept : (b : Bool) (x : Block) (all front back : List Block) → all ≡ front ++ back → (if b then x ∷ all else all) ≡ (if b then x ∷ front else front) ++ back
kept true x all front back so = ap (λ (l : List Block). x ∷ l) so
kept false x all front back so = so

filter_append : (p : Block → Bool) (xs ys : List Block) → filter p (xs ++ ys) ≡ filter p xs ++ filter p ys
filter_append p [] ys = refl
filter_append p (x ∷ xs) ys = kept (p x) x (filter p (xs ++ ys)) (filter p xs) (filter p ys) (filter_append p xs ys)

labels_append : (xs ys : List Block) → map (λ (block : Block). block.label) (xs ++ ys) ≡ map (λ (block : Block). block.label) xs ++ map (λ (block : Block). block.label) ys
labels_append [] ys = refl
labels_append (x ∷ xs) ys = ap (λ (l : List ℕ). x.label ∷ l) (labels_append xs ys)

source_last : (ends : Bool) (label : ℕ) (block : Block) → map (λ (block : Block). block.label) (filter (leads_to label) (if ends then block ∷ [] else [])) ≡ if_so block.label (ends && is_among label block.targets)
source_last false label block = refl
source_last true label block = kept (is_among label block.targets)
  where
    kept : (b : Bool) → map (λ (k : Block). k.label) (if b then block ∷ [] else []) ≡ if_so block.label b
    kept true = refl
    kept false = refl

pub source_push : (xs : List Inst) (last : Inst) (label : ℕ) → predecessors (xs ++ last ∷ []) label ≡ predecessors xs label ++ if_so (label_behind 0 xs) (is_terminator last.op && is_among label (targets last))
unfolding predecessors blocks_of
source_push xs last label =
    ap (λ (l : List Block). map (λ (block : Block). block.label) (filter (leads_to label) l)) (blocks_push 0 0 xs last)
    ∙ ap (map (λ (block : Block). block.label)) (filter_append (leads_to label) (blocks_from 0 0 xs) (last_block (label_behind 0 xs) (0 + length xs) last))
    ∙ labels_append (filter (leads_to label) (blocks_from 0 0 xs)) (filter (leads_to label) (last_block (label_behind 0 xs) (0 + length xs) last))
    ∙ ap (λ (l : List ℕ). map (λ (block : Block). block.label) (filter (leads_to label) (blocks_from 0 0 xs)) ++ l)
    (source_last (is_terminator last.op) label (record { label = label_behind 0 xs; end = 0 + length xs; targets = targets last }))

-- ---- as the code goes over a list

one_more : (insts : List Inst) (place : ℕ) → place < length insts → take (place + 1) insts ≡ take place insts ++ inst_at insts place ∷ []
one_more insts place within = take_more insts place no_instruction within

-- so many labels, and the one behind them
pub record Labelled (insts : List Inst) (place : ℕ) (labels : List ℕ) (label : ℕ) : Type 0 where
  pub for_each : length labels ≡ place
  pub behind : label ≡ label_behind 0 (take place insts)
  pub at : (k : ℕ) → k < place → get_or labels k 0 ≡ label_behind 0 (take k insts)

pub none_labelled : (insts : List Inst) (labels : List ℕ) → labels ≡ [] → Labelled insts 0 labels 0
none_labelled insts labels none = record { for_each = ap length none; behind = refl; at = λ k less. absurd (omega (arith, less)) }

pub labelled_more : (insts : List Inst) (place : ℕ) (labels more : List ℕ) (label next : ℕ) (inst : Inst) → place < length insts → inst ≡ inst_at insts place → Labelled insts place labels label
    → more ≡ labels ++ label ∷ [] → next ≡ (if inst.op == LABEL then word_at 0 inst else label) → Labelled insts (place + 1) more next
labelled_more insts place labels more label next inst within is so more_is next_is = record {
  for_each = ap length more_is ∙ length_push labels label ∙ ap (λ (n : ℕ). n + 1) so.for_each;
  behind = next_is ∙ ap (λ (i : Inst). if i.op == LABEL then word_at 0 i else label) is ∙ ap (λ (n : ℕ). if (inst_at insts place).op == LABEL then word_at 0 (inst_at insts place) else n) so.behind
      ∙ sym (label_push 0 (take place insts) (inst_at insts place)) ∙ ap (label_behind 0) (sym (one_more insts place within));
  at = λ k less. ap (λ (l : List ℕ). get_or l k 0) more_is ∙ split k less;
} where
  split : (k : ℕ) → k < place + 1 → get_or (labels ++ label ∷ []) k 0 ≡ label_behind 0 (take k insts)
  split k less = elim (cases_lt k place) [
    | inl before ↦ get_or_append_left labels (label ∷ []) 0 k (omega (arith, so.for_each)) ∙ so.at k before
    | inr past ↦ let same : place ≡ k = omega arith in get_or_push labels label 0 k (so.for_each ∙ same) ∙ so.behind ∙ ap (λ (n : ℕ). label_behind 0 (take n insts)) same
  ]

pub all_labelled : (insts : List Inst) (place : ℕ) (labels : List ℕ) (label : ℕ) → place ≡ length insts → Labelled insts place labels label → AreLabels insts labels
all_labelled insts place labels label whole so = record { for_each = so.for_each ∙ whole; at = λ k less. so.at k (omega (arith, whole, less)) }

pub end_more : (insts : List Inst) (place : ℕ) (labels : List ℕ) (inst : Inst) (old new : Ends) → place < length insts → inst ≡ inst_at insts place → AreLabels insts labels
    → ((label : ℕ) → get nat_cmp old label ≡ block_end_of (take place insts) label) → AddsEnd (get_or labels place 0) inst place old new
    → (label : ℕ) → get nat_cmp new label ≡ block_end_of (take (place + 1) insts) label
end_more insts place labels inst old new within is known so more label =
    let size : length (take place insts) ≡ place = length-take-le place insts (omega arith) in
    more label ∙ ap (λ (o : Option ℕ). option_or o (end_here (get_or labels place 0) inst place label)) (so label)
    ∙ ap (option_or (block_end_of (take place insts) label))
    (ap (λ (n : ℕ). end_here n inst place label) (known.at place within) ∙ ap (λ (i : Inst). end_here (label_behind 0 (take place insts)) i place label) is
    ∙ ap (λ (n : ℕ). end_here (label_behind 0 (take place insts)) (inst_at insts place) n label) (sym size))
    ∙ sym (end_push (take place insts) (inst_at insts place) label) ∙ ap (λ (l : List Inst). block_end_of l label) (sym (one_more insts place within))

pub source_more : (insts : List Inst) (place : ℕ) (labels : List ℕ) (inst : Inst) (old new : Sources) → place < length insts → inst ≡ inst_at insts place → AreLabels insts labels
    → ((label : ℕ) → list_at old label ≡ predecessors (take place insts) label) → AddsSource (get_or labels place 0) (λ target. is_terminator inst.op && is_among target (targets inst)) old new
    → (label : ℕ) → list_at new label ≡ predecessors (take (place + 1) insts) label
source_more insts place labels inst old new within is known so more label =
    more label ∙ ap (λ (l : List ℕ). l ++ if_so (get_or labels place 0) (is_terminator inst.op && is_among label (targets inst))) (so label)
    ∙ ap (λ (l : List ℕ). predecessors (take place insts) label ++ l)
    (ap (λ (n : ℕ). if_so n (is_terminator inst.op && is_among label (targets inst))) (known.at place within)
    ∙ ap (λ (i : Inst). if_so (label_behind 0 (take place insts)) (is_terminator i.op && is_among label (targets i))) is)
    ∙ sym (source_push (take place insts) (inst_at insts place) label) ∙ ap (λ (l : List Inst). predecessors l label) (sym (one_more insts place within))

pub all_ends : (insts : List Inst) (place : ℕ) (ends : Ends) → length insts ≤ place → ((label : ℕ) → get nat_cmp ends label ≡ block_end_of (take place insts) label) → AreEnds insts ends
all_ends insts place ends past so = record { at = λ label. so label ∙ ap (λ (l : List Inst). block_end_of l label) (take_all place insts past) }

pub all_sources : (insts : List Inst) (place : ℕ) (sources : Sources) → length insts ≤ place → ((label : ℕ) → list_at sources label ≡ predecessors (take place insts) label) → AreSources insts sources
all_sources insts place sources past so = record { at = λ label. so label ∙ ap (λ (l : List Inst). predecessors l label) (take_all place insts past) }

-- ---- targets, each once

pub same_turned : (x y : ℕ) → (x == y) ≡ (y == x)
same_turned x y = elim (cases_eq x y) [ inl is ↦ eq-eqb x y is ∙ sym (eq-eqb y x (sym is)) | inr isnt ↦ ne_eqb x y isnt ∙ sym (ne_eqb y x (λ is. isnt (sym is))) ]

or_turned : (a b : Bool) → (a || b) ≡ (b || a)
or_turned true true = refl
or_turned true false = refl
or_turned false true = refl
or_turned false false = refl

one_of_two : (own : ℕ) (a b : Bool) → (b ≡ true → a ≡ false) → if_so own a ++ if_so own b ≡ if_so own (a || b)
one_of_two own true true none = absurd (let e = none refl in cc)
one_of_two own true false none = refl
one_of_two own false true none = refl
one_of_two own false false none = refl

abbrev pub HasSeen : BTreeSet ℕ → List ℕ → Type 0
HasSeen seen labels = (label : ℕ) → contains nat_cmp seen label ≡ is_among label labels

pub seen_more : (seen now : BTreeSet ℕ) (before after : List ℕ) (target : ℕ) → HasSeen seen before → after ≡ before ++ target ∷ []
    → ((other : ℕ) → contains nat_cmp now other ≡ ((other == target) || contains nat_cmp seen other)) → HasSeen now after
seen_more seen now before after target so is more = λ label.
    more label ∙ or_turned (label == target) (contains nat_cmp seen label) ∙ ap (λ (b : Bool). b || (label == target)) (so label)
    ∙ ap (λ (b : Bool). is_among label before || b) (same_turned label target) ∙ sym (among_push label target before) ∙ ap (is_among label) (sym is)

pub new_one : (is_new has : Bool) → is_new ≡ not has → is_new ≡ true → has ≡ false
new_one is_new false is so = refl
new_one is_new true is so = absurd (let e : false ≡ true = sym is ∙ so in cc)

pub old_one : (is_new has : Bool) → is_new ≡ not has → is_new ≡ false → has ≡ true
old_one is_new true is so = refl
old_one is_new false is so = absurd (let e : true ≡ false = sym is ∙ so in cc)

pub target_new : (own target : ℕ) (start old new : Sources) (seen : BTreeSet ℕ) (before after : List ℕ) (is_new : Bool) → HasSeen seen before → after ≡ before ++ target ∷ []
    → is_new ≡ not (contains nat_cmp seen target) → is_new ≡ true → AddsSource own (λ label. is_among label before) start old → AddsSource own (λ label. target == label) old new
    → AddsSource own (λ label. is_among label after) start new
target_new own target start old new seen before after is_new has is told fresh so more = λ label.
    more label ∙ ap (λ (l : List ℕ). l ++ if_so own (target == label)) (so label) ∙ append_assoc (list_at start label) (if_so own (is_among label before)) (if_so own (target == label))
    ∙ ap (λ (l : List ℕ). list_at start label ++ l)
    (one_of_two own (is_among label before) (target == label) (λ same. ap (λ (n : ℕ). is_among n before) (sym (eqb-true target label same)) ∙ sym (has target) ∙ new_one is_new (contains nat_cmp seen target) told fresh)
    ∙ ap (if_so own) (sym (among_push label target before) ∙ ap (is_among label) (sym is)))

among_again : (a b : Bool) → (b ≡ true → a ≡ true) → a ≡ (a || b)
among_again true b so = refl
among_again false true so = so refl
among_again false false so = refl

pub target_old : (own target : ℕ) (start old : Sources) (seen : BTreeSet ℕ) (before after : List ℕ) (is_new : Bool) → HasSeen seen before → after ≡ before ++ target ∷ []
    → is_new ≡ not (contains nat_cmp seen target) → is_new ≡ false → AddsSource own (λ label. is_among label before) start old
    → AddsSource own (λ label. is_among label after) start old
target_old own target start old seen before after is_new has is told known so = λ label.
    so label ∙ ap (λ (b : Bool). list_at start label ++ if_so own b)
    (among_again (is_among label before) (target == label) (λ same. ap (λ (n : ℕ). is_among n before) (sym (eqb-true target label same)) ∙ sym (has target) ∙ old_one is_new (contains nat_cmp seen target) told known)
    ∙ sym (among_push label target before) ∙ ap (is_among label) (sym is))

pub nothing_added : (own : ℕ) (sources : Sources) (leads : ℕ → Bool) → ((label : ℕ) → leads label ≡ false) → AddsSource own leads sources sources
nothing_added own sources leads none = λ label. sym (ap (λ (b : Bool). list_at sources label ++ if_so own b) (none label) ∙ append-nil (list_at sources label))
