-- What becomes of a merge instruction of a selection or an OpSwitch that isn't dead, and of the terminator behind it.
use Rattle.std.proofs.Common.{◌≡◌, ℕ, suc, ◌+◌, ◌<◌, ◌≤◌, ◌⊎◌, inl, inr, true, false, ◌==◌, List, ◌∷◌, refl, ap, sym, ◌∙◌, subst, arith}
use Rattle.std.proofs.lemmas.Bool.{eqb-true, eq-eqb}
use Rattle.spirv_model.specs.declared.module.Inst.{Inst}
use Rattle.spirv_model.specs.declared.module.Words.{Words}
use Rattle.spirv_model.specs.declared.op.TheConstants as op
use Rattle.body_model.specs.declared.block_end.BlockEnd.{BlockEnd}
use Rattle.body_model.specs.Scope.{Scope}
use Rattle.valid_model.specs.Definitions.{inst_at}
use Rattle.check_model.specs.Intervals.{intervals_of}
use Rattle.check_model.specs.Validity.{IsValidList}
use Rattle.change_model.specs.declared.fate.Fate.{Fate}
use Rattle.change_model.specs.declared.fate.Fate.TheVariants as fate
use Rattle.change_model.specs.Plans.{Plan, is_dead}
use Rattle.change_model.specs.PlanRules.{IsPlan, FateFits, MayStay, MayGo, MaySkip, selection, loop, goes}
use Rattle.change_model.proofs.LeftBlocks.{is_inner}
use Rattle.change_model.proofs.LeftFates.{inners, Outer, stays, picks, skips, outer}
use Rattle.change_model.proofs.LeftFates as fates
use Rattle.change_model.proofs.LeftFronts.{inst_is, next_is}
use Rattle.change_model.proofs.LeftHeads.{fits_in}
use Rattle.change_model.proofs.LeftLasts.{Head, clash, last_at, last_here, last_alive}
use Rattle.change_model.proofs.LeftScopes.{is_label_at}
use Rattle.change_model.proofs.LeftTests.{choice_stays}

-- one opcode isn't another
other_op : {Q : Type 0} (opcode known other : ℕ) → opcode ≡ known → opcode ≡ other → known == other ≡ false → Q
other_op opcode known other is also isnt = clash (known == other) (ap (λ (o : ℕ). o == other) (sym is) ∙ ap (λ (o : ℕ). o == other) also ∙ self other) isnt
  where
    self : (n : ℕ) → n == n ≡ true
    self n = eq-eqb n n refl

-- a merge instruction stays or is left out
merge_way : (inst : Inst) (what : Fate) → inst.op ≡ op.SELECTION_MERGE → Outer inst what → is_dead what ≡ false → (what ≡ fate.Stays) ⊎ (what ≡ fate.Skips)
merge_way inst fate.Dead is o alive = cc
merge_way inst fate.Stays is o alive = inl refl
merge_way inst fate.Skips is o alive = inr refl
merge_way inst (fate.Goes label) is (fates.goes l (inl choice)) alive = other_op inst.op op.SELECTION_MERGE op.BRANCH_CONDITIONAL is (eqb-true inst.op op.BRANCH_CONDITIONAL choice) refl
merge_way inst (fate.Goes label) is (fates.goes l (inr switch)) alive = other_op inst.op op.SELECTION_MERGE op.SWITCH is (eqb-true inst.op op.SWITCH switch) refl
merge_way inst (fate.Picks label) is (picks l switch) alive = other_op inst.op op.SELECTION_MERGE op.SWITCH is switch refl
merge_way inst (fate.Folds scalar) is o alive = elim o [ ]
merge_way inst fate.Nulls is o alive = elim o [ ]
merge_way inst fate.Resolves is o alive = elim o [ ]
merge_way inst fate.Unused is o alive = elim o [ ]

-- an OpSwitch with more than one way stays, or keeps one
switch_way : (inst : Inst) (what : Fate) → inst.op ≡ op.SWITCH → Outer inst what → is_dead what ≡ false → goes what ≡ false → (what ≡ fate.Stays) ⊎ ((label : ℕ) × (what ≡ fate.Picks label))
switch_way inst fate.Dead is o alive ways = cc
switch_way inst fate.Stays is o alive ways = inl refl
switch_way inst (fate.Goes label) is o alive ways = cc
switch_way inst (fate.Picks label) is o alive ways = inr (label, refl)
switch_way inst fate.Skips is (skips (inl merge)) alive ways = other_op inst.op op.SWITCH op.SELECTION_MERGE is merge refl
switch_way inst fate.Skips is (skips (inr merge)) alive ways = other_op inst.op op.SWITCH op.LOOP_MERGE is merge refl
switch_way inst (fate.Folds scalar) is o alive ways = elim o [ ]
switch_way inst fate.Nulls is o alive ways = elim o [ ]
switch_way inst fate.Resolves is o alive ways = elim o [ ]
switch_way inst fate.Unused is o alive ways = elim o [ ]

one_way : (what : Fate) → goes what ≡ true → (label : ℕ) × (what ≡ fate.Goes label)
one_way (fate.Goes label) is = (label, refl)
one_way other is = cc

module _ (words : Words) (v : IsValidList words) (zeros : List ℕ) (plan : Plan) (p : IsPlan words v zeros plan) (old new : Scope) (from : ℕ) (end : BlockEnd) (h : Head words v plan old new from end)
    (last : Inst) (rest : List Inst) (at : h.o.behind ≡ last ∷ rest) (is : h.o.inst.op ≡ op.SELECTION_MERGE) (high : h.o.place + 1 < v.derivation.after) where
  abbrev place : ℕ
  place = h.o.place

  low : v.derivation.before + 1 ≤ place
  low = let e = h.o.place_is in let l = h.low in omega (arith, l, e)

  pub merge_here : inst_at words.insts place ≡ h.o.inst
  merge_here = last_here words v zeros plan p old new from end h

  pub merge_op : (inst_at words.insts place).op ≡ op.SELECTION_MERGE
  merge_op = ap (λ (i : Inst). i.op) merge_here ∙ is

  pub branch_here : inst_at words.insts (place + 1) ≡ last
  branch_here = inst_is words.insts (place + 1) last rest (next_is words.insts place h.o.inst h.o.behind (last_at words v zeros plan p old new from end h) ∙ at)

  merge_alive : is_dead (plan.fate place) ≡ false
  merge_alive = last_alive words v zeros plan p old new from end h (ap (λ (o : ℕ). o == op.LABEL) merge_op)

  fits_merge : FateFits plan words.insts (intervals_of v.derivation) zeros place (plan.fate place)
  fits_merge = fits_in words v zeros plan p place low h.high

  fits_branch : FateFits plan words.insts (intervals_of v.derivation) zeros (place + 1) (plan.fate (place + 1))
  fits_branch = let l = low in fits_in words v zeros plan p (place + 1) (omega (arith, l)) high

  pub merge_fate : (plan.fate place ≡ fate.Stays) ⊎ (plan.fate place ≡ fate.Skips)
  merge_fate = merge_way (inst_at words.insts place) (plan.fate place) merge_op (outer plan words.insts (intervals_of v.derivation) zeros place (plan.fate place) fits_merge (ap is_inner merge_op ∙ inners.selection_merge)) merge_alive

  -- the terminator isn't dead either
  branch_alive : is_label_at words.insts (place + 1) ≡ false → is_dead (plan.fate (place + 1)) ≡ false
  branch_alive plain =
      let one : suc place ≡ place + 1 = omega arith in
      ap (λ (n : ℕ). is_dead (plan.fate n)) (sym one) ∙ p.blocks place low (omega (arith, high)) (ap (is_label_at words.insts) one ∙ plain) ∙ merge_alive

  -- ---- a merge instruction that stays

  module _ (stay : plan.fate place ≡ fate.Stays) where
    ways : goes (plan.fate (place + 1)) ≡ false
    ways = stays_fits.selection merge_op
      where
        stays_fits : MayStay plan words.insts place
        stays_fits = subst (FateFits plan words.insts (intervals_of v.derivation) zeros place) stay fits_merge

    pub choice_fate : last.op ≡ op.BRANCH_CONDITIONAL → plan.fate (place + 1) ≡ fate.Stays
    choice_fate choice =
        let there : (inst_at words.insts (place + 1)).op ≡ op.BRANCH_CONDITIONAL = ap (λ (i : Inst). i.op) branch_here ∙ choice in
        choice_stays (inst_at words.insts (place + 1)) (plan.fate (place + 1)) there
        (outer plan words.insts (intervals_of v.derivation) zeros (place + 1) (plan.fate (place + 1)) fits_branch (ap is_inner there ∙ inners.conditional)) (branch_alive (ap (λ (o : ℕ). o == op.LABEL) there)) ways

    pub switch_fate : last.op ≡ op.SWITCH → (plan.fate (place + 1) ≡ fate.Stays) ⊎ ((label : ℕ) × (plan.fate (place + 1) ≡ fate.Picks label))
    switch_fate switch =
        let there : (inst_at words.insts (place + 1)).op ≡ op.SWITCH = ap (λ (i : Inst). i.op) branch_here ∙ switch in
        switch_way (inst_at words.insts (place + 1)) (plan.fate (place + 1)) there
        (outer plan words.insts (intervals_of v.derivation) zeros (place + 1) (plan.fate (place + 1)) fits_branch (ap is_inner there ∙ inners.switch)) (branch_alive (ap (λ (o : ℕ). o == op.LABEL) there)) ways

  -- ---- one that is left out

  pub record GoesOneWay : Type 0 where
    pub label : ℕ
    pub is_there : plan.fate (place + 1) ≡ fate.Goes label
    pub may : MayGo plan words.insts (intervals_of v.derivation) (place + 1) label

  pub skipped_fate : plan.fate place ≡ fate.Skips → GoesOneWay
  skipped_fate skip = by_way (subst (FateFits plan words.insts (intervals_of v.derivation) zeros place) skip fits_merge)
    where
      by_way : MaySkip plan words.insts place → GoesOneWay
      by_way (selection merges leads) =
          let w = one_way (plan.fate (place + 1)) leads in
          record { label = w.0; is_there = w.1; may = subst (FateFits plan words.insts (intervals_of v.derivation) zeros (place + 1)) w.1 fits_branch }
      by_way (loop merges tests) = other_op (inst_at words.insts place).op op.SELECTION_MERGE op.LOOP_MERGE merge_op merges refl
