-- Instructions that stand in a list from one place up to another.
use Rattle.std.proofs.Common.{◌≡◌, ℕ, ◌+◌, ◌-◌, ◌<◌, ◌≤◌, true, false, ◌==◌, List, [], ◌∷◌, ◌++◌, length, take, drop, slice_index, Option, None, Some, refl, ap, subst, sym, ◌∙◌, arith, append_assoc, length-append}
use Rattle.std.proofs.lemmas.Bool.{and_parts, eqb-true}
use Rattle.std.proofs.lemmas.List.{take_at, drop_at, drop-drop, length-drop}
use Rattle.spirv_model.specs.declared.module.Inst.{Inst}
use Rattle.spirv_model.specs.declared.op.TheConstants.{LABEL}
use Rattle.body_model.specs.declared.block_end.BlockEnd.{BlockEnd}
use Rattle.body_model.specs.Scope.{Scope}
use Rattle.body_model.specs.Switches.{repeat, arm_labels, switch_words, labels_of}
use Rattle.body_model.specs.Blocks.{begins_with, block_from, block_end}
use Rattle.body_model.specs.Due.{is_wanted, missing, only, IsDue}
use Rattle.body_model.specs.Code.{slice}
use Rattle.body_model.specs.Fitting.{HasLabel, EndsAs, last_words, labels}
use Rattle.body_model.proofs.Cuts.{Alike, ends_alike}
use Rattle.body_model.proofs.Dues.{at_stands, one_among}
use Rattle.body_model.proofs.Labels.{new_at}
use Rattle.body_model.proofs.BlockCuts.{last_words_of, last_labels_of}

pub record Printed (insts xs : List Inst) (from to : ℕ) : Type 0 where
  pub rest : List Inst
  pub is : drop from insts ≡ xs ++ rest
  pub to_is : to ≡ from + length xs

abbrev pub first_part : (insts xs ys : List Inst) (from to : ℕ) → Printed insts (xs ++ ys) from to → Printed insts xs from (from + length xs)
first_part insts xs ys from to p = record { rest = ys ++ p.rest; is = p.is ∙ append_assoc xs ys p.rest; to_is = refl }

pub second_part : (insts xs ys : List Inst) (from to : ℕ) → Printed insts (xs ++ ys) from to → Printed insts ys (from + length xs) to
second_part insts xs ys from to p = record {
  rest = p.rest;
  is = sym (drop-drop (length xs) from insts) ∙ ap (drop (length xs)) (p.is ∙ append_assoc xs ys p.rest) ∙ drop_at xs (ys ++ p.rest) (length xs) refl;
  to_is = omega (arith, p.to_is, length-append xs ys);
}

pub nothing_printed : (insts : List Inst) (from to : ℕ) → Printed insts [] from to → from ≡ to
nothing_printed insts from to p = omega (arith, p.to_is)

pub slice_is : (insts xs : List Inst) (from to : ℕ) → Printed insts xs from to → slice insts from (from + length xs) ≡ xs
slice_is insts xs from to p =
    let long : from + length xs - from ≡ length xs = omega arith in
    ap (λ (n : ℕ). take n (drop from insts)) long ∙ ap (take (length xs)) p.is ∙ take_at xs p.rest (length xs) refl

pub printed_within : (insts xs : List Inst) (from to : ℕ) → 0 < length xs → Printed insts xs from to → from + length xs ≤ length insts
printed_within insts xs from to some p = omega (arith, length-drop from insts, ap length p.is, length-append xs p.rest)

-- ---- a block

record Front (label : ℕ) (block : List Inst) : Type 0 where
  inst : Inst
  more : List Inst
  is : block ≡ inst ∷ more
  is_label : inst.op == LABEL ≡ true
  label_is : slice_index inst.words 0 ≡ label

front_by : (label : ℕ) (block : List Inst) → begins_with label block ≡ true → Front label block
front_by label [] begins = cc
front_by label (inst ∷ more) begins =
    let parts = and_parts (inst.op == LABEL) (slice_index inst.words 0 == label) begins in
    record { inst = inst; more = more; is = refl; is_label = parts.0; label_is = eqb-true (slice_index inst.words 0) label parts.1 }

due_front : (insts : List Inst) (wanted : Option (List ℕ)) (label : ℕ) (block : List Inst) (from to : ℕ) → repeat (labels insts) ≡ false → Front label block → Printed insts block from to → is_wanted wanted label ≡ true
    → missing insts wanted from ≡ None
due_front insts wanted label block from to differ f p among =
    let front = p.is ∙ ap (λ (l : List Inst). l ++ p.rest) f.is in
    at_stands insts wanted from (record {
      inst = f.inst;
      more = f.more ++ p.rest;
      front = front;
      label = f.is_label;
      new = new_at insts from f.inst (f.more ++ p.rest) differ front f.is_label;
      among = ap (is_wanted wanted) f.label_is ∙ among;
    })

pub due_printed : (insts : List Inst) (wanted : Option ℕ) (block : List Inst) (from to : ℕ) → repeat (labels insts) ≡ false → HasLabel wanted block → Printed insts block from to → IsDue insts wanted from
due_printed insts None block from to differ has p = due_front insts None has.0 block from to differ (front_by has.0 block has.1) p refl
due_printed insts (Some label) block from to differ has p = due_front insts (only (Some label)) label block from to differ (front_by label block has) p (one_among label label refl)

some_front : (label : ℕ) (block : List Inst) → begins_with label block ≡ true → 0 < length block
some_front label [] begins = cc
some_front label (inst ∷ more) begins = omega arith

pub some_block : (wanted : Option ℕ) (block : List Inst) → HasLabel wanted block → 0 < length block
some_block None block has = some_front has.0 block has.1
some_block (Some label) block has = some_front label block has

-- a block that ends so by itself ends so where it stands
pub end_printed : (insts : List Inst) (scope : Scope) (block : List Inst) (from to : ℕ) (end : BlockEnd) → 0 < length block → (p : Printed insts block from to) → EndsAs scope block p.rest end
    → Alike 0 from (length block) p.rest p.rest end (block_end insts scope from)
unfolding block_end
end_printed insts scope block from to end some p ends =
    subst (λ (l : List Inst). Alike 0 from (length block) p.rest p.rest end (block_from scope l from)) (sym p.is) (ends_alike scope block p.rest p.rest 0 from end some ends)

-- the words and the labels of the OpSwitch that ends it
pub words_printed : (insts block : List Inst) (from to selector merge default : ℕ) → 0 < length block → Printed insts block from to
    → switch_words insts (record { selector = selector; merge = merge; default = default; after = from + length block }) ≡ last_words block
words_printed insts block from to selector merge default some p =
    sym (last_words_of insts from (record { selector = selector; merge = merge; default = default; after = from + length block }) (omega arith) (printed_within insts block from to some p))
    ∙ ap last_words (slice_is insts block from to p)

pub labels_printed : (insts block : List Inst) (from to selector merge default : ℕ) → 0 < length block → Printed insts block from to
    → labels_of insts (record { selector = selector; merge = merge; default = default; after = from + length block }) ≡ arm_labels merge (last_words block)
labels_printed insts block from to selector merge default some p =
    sym (last_labels_of insts from (record { selector = selector; merge = merge; default = default; after = from + length block }) (omega arith) (printed_within insts block from to some p))
    ∙ ap (λ (l : List Inst). arm_labels merge (last_words l)) (slice_is insts block from to p)
