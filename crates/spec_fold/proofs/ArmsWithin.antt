-- An arm of an OpSwitch is left from within where an instruction leads to its merge block from a place before the arm's last one
-- whose limit lies before the arm's end.
use Rattle.std.proofs.Common.{◌≡◌, ℕ, zero, suc, ◌+◌, ◌-◌, ◌<◌, ◌≤◌, inl, inr, Bool, true, false, ◌==◌, ◌&&◌, ◌||◌, nat_lt, nat_le, List, length, slice_index, refl, ap, sym, ◌∙◌, subst, arith, Some}
use Rattle.std.specs.List.{list_any, range_with_len}
use Rattle.std.proofs.lemmas.Bool.{cases_lt, lt-ltb, le-leb, ltb-true, leb-true, eqb-true, eq-eqb, and_parts, and_from}
use Rattle.spirv_model.specs.declared.module.Inst.{Inst}
use Rattle.spirv_model.specs.declared.module.Words.{Words}
use Rattle.spirv_model.specs.declared.op.TheConstants as op
use Rattle.spirv_model.specs.Operands.{word_at, entry_of, result}
use Rattle.body_model.specs.Grammar.{Derives}
use Rattle.body_model.specs.Switches.{is_among}
use Rattle.body_model.specs.Targets.{targets}
use Rattle.valid_model.specs.Definitions.{inst_at, definition}
use Rattle.check_model.specs.Intervals.{Interval, interval, around, inside, intervals_of}
use Rattle.check_model.specs.Validity.{IsValidList}
use Rattle.typed_model.proofs.ModuleValues.{defined_at}
use Rattle.typed_model.proofs.ValidTypes.{keeps_rules}
use Rattle.unit_model.specs.ConstantScalars.{begins_at, is_nested, is_left_to, is_left_from_within}
use Rattle.change_model.proofs.LeftPlacedWhole.{labels_once, outside_silent}
use Rattle.change_model.proofs.LeftScopes.{is_label_at, label_at}
use Rattle.spv_check.specs.SequenceLimits.{AreLimits}
use Rattle.spec_fold.specs.Facts.{arm_from, is_nested_in, merge_before}
use Rattle.spec_fold.specs.declared.within.Arm.{Arm}
use Rattle.spec_fold.proofs.InnerLimits.{any_at, some_any, limit_most, limit_ends}
use Rattle.spec_fold.proofs.Nests.{Among, Nest, stands_before, stands_behind, has, lies_in, same, Lies, Tidy, nest_of, each_of, parts, nested, long, around_tidy, inside_parts}
use Rattle.spec_fold.proofs.SwitchPlaces.{Selected, selected, selected_more}

clash : {Q : Type 0} (b : Bool) → b ≡ true → b ≡ false → Q
clash true is isnt = cc
clash false is isnt = cc

-- ---- places

pub any_place : (test : ℕ → Bool) (a n k : ℕ) → a ≤ k → k < a + n → test k ≡ true → list_any test (range_with_len a n) ≡ true
any_place test a zero k low high so = absurd (omega (arith, low, high))
any_place test a (suc n) k low high so = elim (cases_lt a k) [
  | inl later ↦ second (test a) (list_any test (range_with_len (a + 1) n)) (any_place test (a + 1) n k (omega (arith, later)) (omega (arith, high)) so)
  | inr first ↦ let e : a ≡ k = omega (arith, first, low) in ap (λ (b : Bool). b || list_any test (range_with_len (a + 1) n)) (ap test e ∙ so)
]
  where
    second : (a b : Bool) → b ≡ true → (a || b) ≡ true
    second true b is = refl
    second false b is = is

pub record PlaceWith (test : ℕ → Bool) (a n : ℕ) : Type 0 where
  pub place : ℕ
  pub low : a ≤ place
  pub high : place < a + n
  pub so : test place ≡ true

pub some_place : (test : ℕ → Bool) (a n : ℕ) → list_any test (range_with_len a n) ≡ true → PlaceWith test a n
some_place test a zero some = cc
some_place test a (suc n) some = by_first (test a) refl some (λ rest. some_place test (a + 1) n rest)
  where
    by_first : (b : Bool) → test a ≡ b → (b || list_any test (range_with_len (a + 1) n)) ≡ true → (list_any test (range_with_len (a + 1) n) ≡ true → PlaceWith test (a + 1) n) → PlaceWith test a (suc n)
    by_first true is some rest = record { place = a; low = omega arith; high = omega arith; so = is }
    by_first false is some rest = (let s = rest some in let l = s.low in let h = s.high in record { place = s.place; low = omega (arith, l); high = omega (arith, h); so = s.so })

pub refuted : (b : Bool) → (b ≡ true → ⊥) → b ≡ false
refuted true isnt = absurd (isnt refl)
refuted false isnt = refl

pub both_ways : (a b : Bool) → (a ≡ true → b ≡ true) → (b ≡ true → a ≡ true) → a ≡ b
both_ways true b one other = sym (one refl)
both_ways false b one other = sym (refuted b (λ is. clash false (other is) refl))

label_words : (words : List ℕ) → result (record { op = op.LABEL; words = words }) ≡ Some (slice_index words 0)
unfolding result entry_of
label_words words = refl

label_result : (inst : Inst) → inst.op == op.LABEL ≡ true → result inst ≡ Some (word_at 0 inst)
label_result inst is = ap (λ (o : ℕ). result (record { op = o; words = inst.words })) (eqb-true inst.op op.LABEL is) ∙ label_words inst.words

-- ---- the whole function

module _ (words : Words) (v : IsValidList words) where
  abbrev d : Derives words.insts
  d = v.derivation

  abbrev whole : List Interval
  whole = around (d.before + 1) d.after (parts d.sequence)

  tidy : Tidy (d.before + 1) d.after whole
  tidy = let l = long words.insts d.sequence in around_tidy (d.before + 1) d.after (parts d.sequence) (omega (arith, l)) (nested words.insts d.sequence)

  in_whole : (i : Interval) → Among i (intervals_of d) → Among i whole
  in_whole i (inl first) = inl first
  in_whole i (inr later) = inr (inside_parts d.sequence i later)

  nest : (i j : Interval) → Among i whole → Among j whole → Nest i j
  nest i j one two = nest_of i j whole tidy.1 one two

  lie : (i : Interval) → Among i whole → Lies (d.before + 1) d.after i
  lie i among = each_of (Lies (d.before + 1) d.after) i whole tidy.0 among

  ends_within : (i : Interval) → Among i (intervals_of d) → i.to < length words.insts
  ends_within i among = let h = (lie i (in_whole i among)).high in let l = d.last in omega (arith, h, l)

  selected_at : (place : ℕ) → (inst_at words.insts place).op ≡ op.SWITCH → Selected words.insts whole (intervals_of d) place
  selected_at place switch = elim (cases_lt place (d.before + 1)) [
    | inl front ↦ clash ((inst_at words.insts place).op == op.SWITCH) (eq-eqb (inst_at words.insts place).op op.SWITCH switch) (outside_silent words v place (inl front)).nowhere.no_switch
    | inr low ↦ elim (cases_lt place d.after) [
      | inl high ↦ selected_more words.insts (parts d.sequence) (inside d.sequence) whole (intervals_of d) place (λ i a. inr a) (λ i a. inr a) (selected words.insts d.sequence place low high switch)
      | inr past ↦ clash ((inst_at words.insts place).op == op.SWITCH) (eq-eqb (inst_at words.insts place).op op.SWITCH switch) (outside_silent words v place (inr past)).nowhere.no_switch
    ]
  ]

  -- it isn't the first instruction
  pub not_first : (place : ℕ) → (inst_at words.insts place).op ≡ op.SWITCH → 0 < place
  not_first place switch = let s = selected_at place switch in let l = (lie (interval place (s.join + 1)) s.there).low in omega (arith, l)

  -- a merge block belongs to one OpSwitch
  pub one_switch : (a b : ℕ) → (inst_at words.insts a).op ≡ op.SWITCH → (inst_at words.insts b).op ≡ op.SWITCH → merge_before words.insts a ≡ merge_before words.insts b → a ≡ b
  one_switch a b first second merges =
      let s = selected_at a first in
      let t = selected_at b second in
      let e = labels_once words v s.join t.join s.stands.is_label t.stands.is_label (s.stands.own ∙ merges ∙ sym t.stands.own) in
      let p = (lie (interval a (s.join + 1)) s.there).long in
      let q = (lie (interval b (t.join + 1)) t.there).long in
      by_nest s.join t.join e p q (nest (interval a (s.join + 1)) (interval b (t.join + 1)) s.there t.there)
    where
      by_nest : (j k : ℕ) → j ≡ k → a + 1 < j + 1 → b + 1 < k + 1 → Nest (interval a (j + 1)) (interval b (k + 1)) → a ≡ b
      by_nest j k e p q (stands_before up) = omega (arith, e, p, q, up)
      by_nest j k e p q (stands_behind up) = omega (arith, e, p, q, up)
      by_nest j k e p q (has low high) = omega (arith, e, high)
      by_nest j k e p q (lies_in low high) = omega (arith, e, high)
      by_nest j k e p q (same low high) = low

  -- and no interval begins there
  unbegun : (place : ℕ) → (inst_at words.insts place).op ≡ op.SWITCH → (i : Interval) → Among i (intervals_of d) → begins_at words.insts (merge_before words.insts place) i ≡ true → ⊥
  unbegun place switch i among begins =
      let s = selected_at place switch in
      let b = and_parts (is_label_at words.insts i.from) (label_at words.insts i.from == merge_before words.insts place) begins in
      let e = labels_once words v i.from s.join b.0 s.stands.is_label (eqb-true (label_at words.insts i.from) (merge_before words.insts place) b.1 ∙ sym s.stands.own) in
      let p = (lie (interval place (s.join + 1)) s.there).long in
      let q = (lie i (in_whole i among)).long in
      by_nest s.join e p q (nest (interval place (s.join + 1)) i s.there (in_whole i among))
    where
      by_nest : (join : ℕ) → i.from ≡ join → place + 1 < join + 1 → i.from + 1 < i.to → Nest (interval place (join + 1)) i → ⊥
      by_nest join e p q (stands_before up) = omega (arith, e, p, q, up)
      by_nest join e p q (stands_behind up) = omega (arith, e, p, q, up)
      by_nest join e p q (has low high) = omega (arith, e, p, q, high)
      by_nest join e p q (lies_in low high) = omega (arith, e, p, q, low)
      by_nest join e p q (same low high) = omega (arith, e, p, q, low)

  abbrev leaves_within : ℕ → Interval → Bool
  leaves_within label outer = list_any (λ (inner : Interval). is_nested outer inner && is_left_to words.insts label inner) (intervals_of d)

  abbrev is_left_arm : ℕ → ℕ → Interval → Bool
  is_left_arm arm label outer = begins_at words.insts arm outer && leaves_within label outer

  -- where the default is the merge block
  pub none_within : (place : ℕ) → (inst_at words.insts place).op ≡ op.SWITCH → word_at 1 (inst_at words.insts place) ≡ merge_before words.insts place
      → is_left_from_within (intervals_of d) words.insts (word_at 1 (inst_at words.insts place)) (merge_before words.insts place) ≡ false
  none_within place switch merges = refuted (is_left_from_within (intervals_of d) words.insts (word_at 1 (inst_at words.insts place)) (merge_before words.insts place)) (λ some.
      (let s = some_any (is_left_arm (word_at 1 (inst_at words.insts place)) (merge_before words.insts place)) (intervals_of d) some in
      unbegun place switch s.i s.among (ap (λ (l : ℕ). begins_at words.insts l s.i) (sym merges) ∙ (and_parts (begins_at words.insts (word_at 1 (inst_at words.insts place)) s.i) (leaves_within (merge_before words.insts place) s.i) s.so).0)))

  -- ---- an arm

  module _ (limits : List ℕ) (are : AreLimits words.insts limits) where
    abbrev limit : ℕ → ℕ
    limit place = slice_index limits place

    -- that of the first place of an interval is its end
    limit_first : (outer : Interval) → Among outer (intervals_of d) → limit outer.from ≡ outer.to
    limit_first outer among =
        let long = (lie outer (in_whole outer among)).long in
        let within = ends_within outer among in
        let most = limit_most words.insts d limits are outer outer.from among (omega arith) (omega (arith, long)) within in
        elim (cases_lt (limit outer.from) outer.to) [
          | inr least ↦ omega (arith, most, least)
          | inl less ↦
              let e = limit_ends words.insts d limits are outer.from (outer.to - 1) (omega (arith, long)) (omega (arith, less)) (omega (arith, within)) in
              let low = e.low in let high = e.high in let ends = e.ends in
              absurd (by_nest e.i low high ends long (nest outer e.i (in_whole outer among) (in_whole e.i e.among)))
        ]
      where
        by_nest : (i : Interval) → i.from ≤ outer.from → outer.from < i.to → i.to ≤ outer.to - 1 → outer.from + 1 < outer.to → Nest outer i → ⊥
        by_nest i low high ends long (stands_before up) = omega (arith, low, long, up)
        by_nest i low high ends long (stands_behind up) = omega (arith, high, up)
        by_nest i low high ends long (has from to) = omega (arith, low, from)
        by_nest i low high ends long (lies_in from to) = omega (arith, ends, to)
        by_nest i low high ends long (same from to) = omega (arith, ends, long, to)

    -- the place leads to the label, from a sequence in the arm that is nested
    abbrev leads_out : Arm → ℕ → ℕ → Bool
    leads_out arm label place = is_among label (targets (inst_at words.insts place)) && is_nested_in (Some arm) place (limit place)

    three : (a b c : Bool) → (a && b && c) ≡ true → (a ≡ true) × (b ≡ true) × (c ≡ true)
    three true true true all = (refl, refl, refl)
    three true true false all = cc
    three true false c all = cc
    three false b c all = cc

    three_from : (a b c : Bool) → a ≡ true → b ≡ true → c ≡ true → (a && b && c) ≡ true
    three_from a b c one two more = rw one (rw two more)

    module _ (outer : Interval) (among : Among outer (intervals_of d)) (label : ℕ) where
      abbrev own : Arm
      own = arm_from limits label outer.from

      -- a nested sequence that leads to the label
      leads_from : (inner : Interval) → Among inner (intervals_of d) → is_nested outer inner ≡ true → is_left_to words.insts label inner ≡ true → list_any (leads_out own label) (range_with_len 0 (length words.insts)) ≡ true
      leads_from inner there nests leads =
          let n = and_parts (nat_lt outer.from inner.from) (nat_le inner.to outer.to) nests in
          let from = ltb-true outer.from inner.from n.0 in
          let to = leb-true inner.to outer.to n.1 in
          let s = some_place (λ place. is_among label (targets (inst_at words.insts place))) inner.from (inner.to - inner.from) leads in
          let long = (lie inner (in_whole inner there)).long in
          let low = s.low in
          let high : s.place < inner.to = (let h = s.high in omega (arith, h, long)) in
          let strict = by_nest inner from to long (nest outer inner (in_whole outer among) (in_whole inner there)) in
          let end = limit_first outer among in
          let within = ends_within inner there in
          let most = limit_most words.insts d limits are inner s.place there low high within in
          any_place (leads_out own label) 0 (length words.insts) s.place (omega arith) (omega (arith, high, within))
          (and_from (is_among label (targets (inst_at words.insts s.place))) (is_nested_in (Some own) s.place (limit s.place)) s.so
          (three_from (nat_le outer.from s.place) (nat_lt s.place (limit outer.from - 1)) (nat_le (limit s.place) (limit outer.from - 1))
          (le-leb outer.from s.place (omega (arith, from, low))) (lt-ltb s.place (limit outer.from - 1) (omega (arith, end, high, strict))) (le-leb (limit s.place) (limit outer.from - 1) (omega (arith, end, most, strict)))))
        where
          by_nest : (i : Interval) → outer.from < i.from → i.to ≤ outer.to → i.from + 1 < i.to → Nest outer i → i.to < outer.to
          by_nest i low high long (stands_before up) = omega (arith, high, long, up)
          by_nest i low high long (stands_behind up) = omega (arith, low, long, up)
          by_nest i low high long (has from to) = to
          by_nest i low high long (lies_in from to) = omega (arith, low, from)
          by_nest i low high long (same from to) = omega (arith, low, from)

      leads_back : list_any (leads_out own label) (range_with_len 0 (length words.insts)) ≡ true → leaves_within label outer ≡ true
      leads_back some =
          let s = some_place (leads_out own label) 0 (length words.insts) some in
          let b = and_parts (is_among label (targets (inst_at words.insts s.place))) (is_nested_in (Some own) s.place (limit s.place)) s.so in
          let t = three (nat_le outer.from s.place) (nat_lt s.place (limit outer.from - 1)) (nat_le (limit s.place) (limit outer.from - 1)) b.1 in
          let from = leb-true outer.from s.place t.0 in
          let to = ltb-true s.place (limit outer.from - 1) t.1 in
          let most = leb-true (limit s.place) (limit outer.from - 1) t.2 in
          let end = limit_first outer among in
          let within = ends_within outer among in
          let e = limit_ends words.insts d limits are s.place (limit outer.from - 1) to most (omega (arith, end, within)) in
          let low = e.low in let high = e.high in let ends = e.ends in
          let n = by_nest s.place e.i from low high (omega (arith, ends, end)) (omega (arith, end, to)) (nest outer e.i (in_whole outer among) (in_whole e.i e.among)) in
          any_at (λ (inner : Interval). is_nested outer inner && is_left_to words.insts label inner) (intervals_of d) e.i e.among
          (and_from (is_nested outer e.i) (is_left_to words.insts label e.i)
          (and_from (nat_lt outer.from e.i.from) (nat_le e.i.to outer.to) (lt-ltb outer.from e.i.from n) (le-leb e.i.to outer.to (omega (arith, ends, end))))
          (any_place (λ place. is_among label (targets (inst_at words.insts place))) e.i.from (e.i.to - e.i.from) s.place low (omega (arith, low, high)) b.0))
        where
          by_nest : (place : ℕ) (i : Interval) → outer.from ≤ place → i.from ≤ place → place < i.to → i.to ≤ outer.to - 1 → place < outer.to - 1 → Nest outer i → outer.from < i.from
          by_nest place i from low high ends to (stands_before up) = omega (arith, low, to, up)
          by_nest place i from low high ends to (stands_behind up) = omega (arith, from, high, up)
          by_nest place i from low high ends to (has first last) = first
          by_nest place i from low high ends to (lies_in first last) = omega (arith, ends, last)
          by_nest place i from low high ends to (same first last) = omega (arith, ends, to, last)

    -- where the default is another label, its arm begins at it
    pub record ArmLeft (place : ℕ) : Type 0 where
      pub first : ℕ
      pub defined : definition words.insts (word_at 1 (inst_at words.insts place)) ≡ Some first
      pub is : is_left_from_within (intervals_of d) words.insts (word_at 1 (inst_at words.insts place)) (merge_before words.insts place)
          ≡ list_any (leads_out (arm_from limits (merge_before words.insts place) first) (merge_before words.insts place)) (range_with_len 0 (length words.insts))

    pub some_within : (place : ℕ) → (inst_at words.insts place).op ≡ op.SWITCH → (word_at 1 (inst_at words.insts place) ≡ merge_before words.insts place → ⊥) → ArmLeft place
    some_within place switch differs =
        let label = word_at 1 (inst_at words.insts place) in
        let merge = merge_before words.insts place in
        let a = (selected_at place switch).arm differs in
        let outer : Interval = interval a.from a.to in
        let within = ends_within outer a.there in
        let long = (lie outer (in_whole outer a.there)).long in
        let starts : a.from < length words.insts = omega (arith, within, long) in
        record {
          first = a.from;
          defined = defined_at words.insts a.from label starts (label_result (inst_at words.insts a.from) a.stands.is_label ∙ ap (λ (n : ℕ). Some n) a.stands.own) (keeps_rules words v.sound a.from starts).once;
          is = both_ways (is_left_from_within (intervals_of d) words.insts label merge) (list_any (leads_out (arm_from limits merge a.from) merge) (range_with_len 0 (length words.insts)))
              (λ some.
              (let s = some_any (is_left_arm label merge) (intervals_of d) some in
              let b = and_parts (begins_at words.insts label s.i) (leaves_within merge s.i) s.so in
              let c = and_parts (is_label_at words.insts s.i.from) (label_at words.insts s.i.from == label) b.0 in
              let e = labels_once words v s.i.from a.from c.0 a.stands.is_label (eqb-true (label_at words.insts s.i.from) label c.1 ∙ sym a.stands.own) in
              let t = some_any (λ (inner : Interval). is_nested s.i inner && is_left_to words.insts merge inner) (intervals_of d) b.1 in
              let u = and_parts (is_nested s.i t.i) (is_left_to words.insts merge t.i) t.so in
              subst (λ (n : ℕ). list_any (leads_out (arm_from limits merge n) merge) (range_with_len 0 (length words.insts)) ≡ true) e (leads_from s.i s.among merge t.i t.among u.0 u.1)))
              (λ some. any_at (is_left_arm label merge) (intervals_of d) outer a.there
              (and_from (begins_at words.insts label outer) (leaves_within merge outer) (and_from (is_label_at words.insts a.from) (label_at words.insts a.from == label) a.stands.is_label (eq-eqb (label_at words.insts a.from) label a.stands.own))
              (leads_back outer a.there merge some)));
        }
