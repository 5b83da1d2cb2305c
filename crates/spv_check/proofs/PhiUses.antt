-- What a phi uses, and which blocks it names.
use Rattle.std.proofs.Common.{◌≡◌, ℕ, ◌+◌, ◌<◌, ◌≤◌, ◌==◌, Bool, true, false, not, ◌&&◌, ◌||◌, if◌then◌else◌, List, [], ◌∷◌, ◌++◌, length, map, take, drop, Option, None, Some, refl, ap, sym, ◌∙◌, arith}
use Rattle.std.specs.List.{find}
use Rattle.std.specs.Option.{option_map, unwrap_or}
use Rattle.std.proofs.lemmas.Bool.{eq-eqb, ne_eqb}
use Rattle.std.proofs.lemmas.List.{take-append-drop}
use Rattle.spirv_model.specs.declared.module.Inst.{Inst}
use Rattle.spirv_model.specs.declared.op.TheConstants.{LABEL, PHI}
use Rattle.spirv_model.specs.Operands.{word_at, words_from}
use Rattle.body_model.specs.Classes.{is_terminator}
use Rattle.body_model.specs.Grammar.{Derives}
use Rattle.body_model.specs.Switches.{is_among, repeat}
use Rattle.body_model.specs.Targets.{targets}
use Rattle.valid_model.specs.Definitions.{definition, inst_at}
use Rattle.check_model.specs.Intervals.{intervals_of}
use Rattle.check_model.specs.Branches.{Block, blocks_from, blocks_of, is_labelled, block_end_of, label_behind}
use Rattle.check_model.specs.Visibility.{Use, use_at, Incoming, incoming_in, incoming_use, are_those, names_predecessors, used_ids, uses_at, is_defined_for, is_visible_use, not_visible}
use Rattle.spv_types.specs.declared.ids.Ids.{Ids}
use Rattle.spv_tree.proofs.Among.{among_push}
use Rattle.spv_check.specs.declared.branches.Branches.{Branches}
use Rattle.spv_check.specs.Branches.{label_at, end_at, sources_at}
use Rattle.spv_check.specs.Visibility.{TellsVisible, is_within, is_shown, first_hidden_id, first_hidden_value, phi_hidden, blocks_named}
use Rattle.spv_check.proofs.BlockLists.{same_turned}

-- ---- places of terminators stand in the list

abbrev AllBelow : ℕ → List Block → Type 0
AllBelow bound [] = Unit {0}
AllBelow bound (block ∷ blocks) = (block.end < bound) × AllBelow bound blocks

below_if : (is_label ends : Bool) (bound : ℕ) (block : Block) (next same : List Block) → AllBelow bound next → AllBelow bound same → block.end < bound
    → AllBelow bound (if is_label then next else if ends then block ∷ same else same)
below_if true ends bound block next same one two less = one
below_if false true bound block next same one two less = (less, two)
below_if false false bound block next same one two less = two

blocks_below : (label place bound : ℕ) (insts : List Inst) → place + length insts ≤ bound → AllBelow bound (blocks_from label place insts)
blocks_below label place bound [] within = tt
blocks_below label place bound (inst ∷ insts) within =
    let rest : (place + 1) + length insts ≤ bound = omega (arith, within) in
    let less : place < bound = omega (arith, within) in
    below_if (inst.op == LABEL) (is_terminator inst.op) bound (record { label = label; end = place; targets = targets inst }) (blocks_from (word_at 0 inst) (place + 1) insts) (blocks_from label (place + 1) insts)
    (blocks_below (word_at 0 inst) (place + 1) bound insts rest) (blocks_below label (place + 1) bound insts rest) less

found_below : (test : Bool) (bound other : ℕ) (block : Block) (rest : Option Block) → block.end < bound → unwrap_or (option_map (λ (k : Block). k.end) rest) other < bound
    → unwrap_or (option_map (λ (k : Block). k.end) (if test then Some block else rest)) other < bound
found_below true bound other block rest less so = less
found_below false bound other block rest less so = so

find_below : (p : Block → Bool) (bound other : ℕ) (blocks : List Block) → AllBelow bound blocks → other < bound → unwrap_or (option_map (λ (k : Block). k.end) (find p blocks)) other < bound
find_below p bound other [] all less = less
find_below p bound other (block ∷ blocks) all less = found_below (p block) bound other block (find p blocks) all.0 (find_below p bound other blocks all.1 less)

end_below : (insts : List Inst) (label place : ℕ) → place < length insts → unwrap_or (block_end_of insts label) place < length insts
unfolding block_end_of blocks_of
end_below insts label place within = find_below (is_labelled label) (length insts) place (blocks_from 0 0 insts) (blocks_below 0 0 (length insts) insts (omega arith)) within

-- ---- uses

module _ (insts : List Inst) (ids : Ids) (limits : List ℕ) (branches : Branches) (known : TellsVisible insts ids limits branches) (d : Derives insts) where
  defined_at : (at : ℕ) (place : Option ℕ) → at < length insts → is_within limits at place ≡ is_defined_for (intervals_of d) at place
  defined_at at None within = refl
  defined_at at (Some place) within = sym (known.ends.are_exact d place at within)

  shown : (at id : ℕ) → at < length insts → is_shown ids limits (use_at at id) ≡ is_visible_use (intervals_of d) insts (use_at at id)
  shown at id within = ap (is_within limits at) (known.places id) ∙ defined_at at (definition insts id) within

  met : (here there : Bool) (used : Use) (rest found : Option ℕ) (uses : List Use) → here ≡ there → rest ≡ option_map (λ (u : Use). u.id) (find (λ u. not (is_visible_use (intervals_of d) insts u)) uses)
      → (if here then rest else Some used.id) ≡ option_map (λ (u : Use). u.id) (if not there then Some used else find (λ u. not (is_visible_use (intervals_of d) insts u)) uses)
  met true true used rest found uses same so = so
  met true false used rest found uses same so = absurd (cc)
  met false true used rest found uses same so = absurd (cc)
  met false false used rest found uses same so = refl

  values : (place : ℕ) (words : List ℕ) → place < length insts
      → first_hidden_value ids limits branches place words ≡ option_map (λ (u : Use). u.id) (find (λ u. not (is_visible_use (intervals_of d) insts u)) (map (incoming_use insts place) (incoming_in words)))
  values place [] within = refl
  values place (value ∷ []) within = refl
  values place (value ∷ block ∷ words) within =
      let used = use_at (unwrap_or (block_end_of insts block) place) value in
      met (is_shown ids limits (use_at (unwrap_or (end_at branches block) place) value)) (is_visible_use (intervals_of d) insts used) used (first_hidden_value ids limits branches place words) None
      (map (incoming_use insts place) (incoming_in words))
      (ap (λ (o : Option ℕ). is_shown ids limits (use_at (unwrap_or o place) value)) (known.blocks.ends block) ∙ shown (unwrap_or (block_end_of insts block) place) value (end_below insts block place within))
      (values place words within)

  used : (place : ℕ) (words : List ℕ) → place < length insts
      → first_hidden_id ids limits place words ≡ option_map (λ (u : Use). u.id) (find (λ u. not (is_visible_use (intervals_of d) insts u)) (map (use_at place) words))
  used place [] within = refl
  used place (id ∷ words) within =
      met (is_shown ids limits (use_at place id)) (is_visible_use (intervals_of d) insts (use_at place id)) (use_at place id) (first_hidden_id ids limits place words) None (map (use_at place) words)
      (shown place id within) (used place words within)

  plain : (is_phi names : Bool) (result : ℕ) (other : Option ℕ) → is_phi ≡ false → other ≡ (if is_phi && not names then Some result else other)
  plain false names result other is = refl
  plain true names result other is = absurd (cc)

  plain_uses : (is_phi : Bool) (uses others : List Use) → is_phi ≡ false → others ≡ (if is_phi then uses else others)
  plain_uses false uses others is = refl
  plain_uses true uses others is = absurd (cc)

  pub no_phi : (place : ℕ) (inst : Inst) (words : List ℕ) → place < length insts → inst ≡ inst_at insts place → (inst.op ≡ PHI → ⊥) → words ≡ used_ids (inst_at insts place)
      → first_hidden_id ids limits place words ≡ not_visible (intervals_of d) insts place
  unfolding not_visible uses_at
  no_phi place inst words within is isnt words_are =
      let there = inst_at insts place in
      let none = ne_eqb there.op PHI (λ phi. isnt (ap (λ (i : Inst). i.op) is ∙ phi)) in
      used place words within ∙ ap (λ (l : List ℕ). option_map (λ (u : Use). u.id) (find (λ u. not (is_visible_use (intervals_of d) insts u)) (map (use_at place) l))) words_are
      ∙ ap (λ (l : List Use). option_map (λ (u : Use). u.id) (find (λ u. not (is_visible_use (intervals_of d) insts u)) l)) (plain_uses (there.op == PHI) _ (map (use_at place) (used_ids there)) none)
      ∙ plain (there.op == PHI) (names_predecessors insts place) (word_at 1 there) _ none

  named_are : (words : List ℕ) → blocks_named words ≡ map (λ (pair : Incoming). pair.block) (incoming_in words)
  named_are [] = refl
  named_are (value ∷ []) = refl
  named_are (value ∷ block ∷ words) = ap (λ (l : List ℕ). block ∷ l) (named_are words)

  told : (are : Bool) (named sources : List ℕ) (place : ℕ) → place < length insts → named ≡ blocks_named (words_from 2 (inst_at insts place)) → sources ≡ sources_at branches (label_at branches place)
      → are ≡ are_those named sources → are ≡ names_predecessors insts place
  unfolding names_predecessors
  told are named sources place within named_is sources_is is =
      is ∙ ap (λ (l : List ℕ). are_those l sources) (named_is ∙ named_are (words_from 2 (inst_at insts place)))
      ∙ ap (are_those (map (λ (pair : Incoming). pair.block) (incoming_in (words_from 2 (inst_at insts place)))))
      (sources_is ∙ ap (sources_at branches) (known.blocks.labels place within) ∙ known.blocks.sources (label_behind 0 (take place insts)))

  if_names : (is_phi names : Bool) (result : ℕ) (other : Option ℕ) → is_phi ≡ true → names ≡ false → Some result ≡ (if is_phi && not names then Some result else other)
  if_names true false result other one two = refl
  if_names true true result other one two = absurd (cc)
  if_names false names result other one two = absurd (cc)

  if_not : (is_phi names : Bool) (result : ℕ) (other : Option ℕ) → names ≡ true → other ≡ (if is_phi && not names then Some result else other)
  if_not true true result other is = refl
  if_not false true result other is = refl
  if_not is_phi false result other is = absurd (cc)

  phi_uses_are : (is_phi : Bool) (place : ℕ) (uses others : List Use) → is_phi ≡ true → uses ≡ (if is_phi then uses else others)
  phi_uses_are true place uses others is = refl
  phi_uses_are false place uses others is = absurd (cc)

  pub not_named : (place : ℕ) (inst : Inst) (are : Bool) (named sources : List ℕ) → place < length insts → inst ≡ inst_at insts place → inst.op ≡ PHI → named ≡ blocks_named (words_from 2 inst)
      → sources ≡ sources_at branches (label_at branches place) → are ≡ are_those named sources → are ≡ false → Some (word_at 1 inst) ≡ not_visible (intervals_of d) insts place
  unfolding not_visible
  not_named place inst are named sources within is phi named_is sources_is told_is none =
      ap (λ (i : Inst). Some (word_at 1 i)) is
      ∙ if_names ((inst_at insts place).op == PHI) (names_predecessors insts place) (word_at 1 (inst_at insts place)) _ (eq-eqb (inst_at insts place).op PHI (ap (λ (i : Inst). i.op) (sym is) ∙ phi))
      (sym (told are named sources place within (named_is ∙ ap (λ (i : Inst). blocks_named (words_from 2 i)) is) sources_is told_is) ∙ none)

  pub all_named : (place : ℕ) (inst : Inst) (are : Bool) (named sources : List ℕ) → place < length insts → inst ≡ inst_at insts place → inst.op ≡ PHI → named ≡ blocks_named (words_from 2 inst)
      → sources ≡ sources_at branches (label_at branches place) → are ≡ are_those named sources → are ≡ true → phi_hidden ids limits branches inst place ≡ not_visible (intervals_of d) insts place
  unfolding not_visible uses_at
  all_named place inst are named sources within is phi named_is sources_is told_is some =
      let there = inst_at insts place in
      let is_phi = eq-eqb there.op PHI (ap (λ (i : Inst). i.op) (sym is) ∙ phi) in
      let uses = use_at place (word_at 0 there) ∷ map (incoming_use insts place) (incoming_in (words_from 2 there)) in
      ap (λ (i : Inst). phi_hidden ids limits branches i place) is
      ∙ met (is_shown ids limits (use_at place (word_at 0 there))) (is_visible_use (intervals_of d) insts (use_at place (word_at 0 there))) (use_at place (word_at 0 there))
      (first_hidden_value ids limits branches place (words_from 2 there)) None (map (incoming_use insts place) (incoming_in (words_from 2 there)))
      (shown place (word_at 0 there) within) (values place (words_from 2 there) within)
      ∙ ap (λ (l : List Use). option_map (λ (u : Use). u.id) (find (λ u. not (is_visible_use (intervals_of d) insts u)) l)) (phi_uses_are (there.op == PHI) place uses _ is_phi)
      ∙ if_not (there.op == PHI) (names_predecessors insts place) (word_at 1 there) _
      (sym (told are named sources place within (named_is ∙ ap (λ (i : Inst). blocks_named (words_from 2 i)) is) sources_is told_is) ∙ some)

-- ---- labels that repeat

or_swap : (a b c d : Bool) → ((a || b) || (c || d)) ≡ ((a || c) || (b || d))
or_swap true b c d = refl
or_swap false true true d = refl
or_swap false true false d = refl
or_swap false false true d = refl
or_swap false false false d = refl

repeat_push : (xs : List ℕ) (y : ℕ) → repeat (xs ++ y ∷ []) ≡ (repeat xs || is_among y xs)
repeat_push [] y = refl
repeat_push (x ∷ xs) y =
    ap (λ (b : Bool). b || repeat (xs ++ y ∷ [])) (among_push x y xs) ∙ ap (λ (b : Bool). (is_among x xs || (y == x)) || b) (repeat_push xs y)
    ∙ or_swap (is_among x xs) (y == x) (repeat xs) (is_among y xs) ∙ ap (λ (b : Bool). (is_among x xs || repeat xs) || (b || is_among y xs)) (same_turned y x)

true_or : (a b : Bool) → b ≡ true → (a || b) ≡ true
true_or true b is = refl
true_or false b is = is

or_front : (a b c : Bool) → (b ≡ true → c ≡ true) → (a || b) ≡ true → (a || c) ≡ true
or_front true b c so is = refl
or_front false b c so is = so is

among_front : (x : ℕ) (xs ys : List ℕ) → is_among x xs ≡ true → is_among x (xs ++ ys) ≡ true
among_front x [] ys is = absurd (cc)
among_front x (z ∷ zs) ys is = or_front (z == x) (is_among x zs) (is_among x (zs ++ ys)) (among_front x zs ys) is

or_both : (a b c e : Bool) → (a ≡ true → c ≡ true) → (b ≡ true → e ≡ true) → (a || b) ≡ true → (c || e) ≡ true
or_both true b c e one two is = ap (λ (x : Bool). x || e) (one refl)
or_both false b c e one two is = true_or c e (two is)

repeat_front : (xs ys : List ℕ) → repeat xs ≡ true → repeat (xs ++ ys) ≡ true
repeat_front [] ys is = absurd (cc)
repeat_front (x ∷ xs) ys is = or_both (is_among x xs) (repeat xs) (is_among x (xs ++ ys)) (repeat (xs ++ ys)) (among_front x xs ys) (repeat_front xs ys) is

-- a label that stands among the first ones stands there twice
pub repeats : (labels before : List ℕ) (place label : ℕ) → take (place + 1) labels ≡ before ++ label ∷ [] → is_among label before ≡ true → repeat labels ≡ true
repeats labels before place label more is =
    ap repeat (sym (take-append-drop (place + 1) labels)) ∙ repeat_front (take (place + 1) labels) (drop (place + 1) labels) (ap repeat more ∙ repeat_push before label ∙ true_or (repeat before) (is_among label before) is)

pub none_repeats : (before after : List ℕ) (label : ℕ) → after ≡ before ++ label ∷ [] → repeat before ≡ false → is_among label before ≡ false → repeat after ≡ false
none_repeats before after label more one two = ap repeat more ∙ repeat_push before label ∙ ap (λ (b : Bool). b || is_among label before) one ∙ two
