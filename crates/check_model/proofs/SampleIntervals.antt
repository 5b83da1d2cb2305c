-- Derivations of sample modules, and the intervals in them.
use Rattle.std.proofs.Common.{◌≡◌, ℕ, ◌==◌, true, false, [], ◌∷◌, take, refl, arith}
use Rattle.std.specs.Prelude.{None, Some}
use Rattle.std.proofs.lemmas.Bool.Decides.{nat_tests}
use Rattle.std.proofs.lemmas.List.Sums.{AllPass-from_list_all}
use Rattle.spirv_model.specs.declared.module.Inst.{Inst}
use Rattle.spirv_model.specs.Operands.{entry_of, class_of}
use Rattle.body_model.specs.declared.scope.End.TheVariants.{Merge, Leave, Continue, Back, Test, Return}
use Rattle.body_model.specs.Classes.{is_module_level}
use Rattle.body_model.specs.Blocks.{block_end, last_part}
use Rattle.body_model.specs.Due.{missing}
use Rattle.body_model.specs.Switches.{switch_words, labels_of}
use Rattle.body_model.specs.Grammar.{ends, goes_on, selects, picks, loops, straight, through, no_arm, arm_behind, Derives}
use Rattle.body_model.proofs.SampleModules.{f1, f3, f5, f7, f8, f10}
use Rattle.check_model.specs.Intervals.{interval, intervals_of}

differ : (a b : ℕ) → a == b ≡ false → a ≡ b → ⊥
differ a b isnt is = grind (arith, nat_tests)

f1_derives : Derives f1
unfolding entry_of class_of block_end missing last_part labels_of switch_words
f1_derives = record {
  before = 11;
  after = 15;
  begins = record { module_level = AllPass-from_list_all (λ (inst : Inst). is_module_level inst.op) (take 11 f1) refl; function = refl };
  sequence = ends (record { end = Return; next = None; after = 15 }) refl refl refl refl;
  function_end = refl;
  last = refl;
}

f1-intervals : intervals_of f1_derives ≡ interval 12 15 ∷ []
unfolding f1_derives
f1-intervals = refl

f3_derives : Derives f3
unfolding entry_of class_of block_end missing last_part labels_of switch_words
f3_derives = record {
  before = 16;
  after = 39;
  begins = record { module_level = AllPass-from_list_all (λ (inst : Inst). is_module_level inst.op) (take 16 f3) refl; function = refl };
  sequence = goes_on 21 refl refl
      (loops (record { header = 21; merge = 25; next = 24; test = 22; after = 24 }) 23 28 30 35 refl refl
      (ends (record { end = Test 31 true; next = Some 23; after = 28 }) refl refl refl refl)
      (ends (record { end = Continue; next = None; after = 30 }) refl refl refl refl)
      (ends (record { end = Back; next = None; after = 35 }) refl refl refl refl)
      (ends (record { end = Return; next = None; after = 39 }) refl refl refl refl));
  function_end = refl;
  last = refl;
}

f3-intervals : intervals_of f3_derives ≡ interval 17 39 ∷ interval 24 28 ∷ interval 28 30 ∷ interval 30 35 ∷ []
unfolding f3_derives
f3-intervals = refl

f5_derives : Derives f5
unfolding entry_of class_of block_end missing last_part labels_of switch_words
f5_derives = record {
  before = 15;
  after = 27;
  begins = record { module_level = AllPass-from_list_all (λ (inst : Inst). is_module_level inst.op) (take 15 f5) refl; function = refl };
  sequence = selects (record { cond = 9; merge = 23; on_true = 21; on_false = 22; after = 19 }) 21 23 refl refl
      (through (λ is. differ 21 23 refl is) (ends (record { end = Merge; next = None; after = 21 }) refl refl refl refl))
      (through (λ is. differ 22 23 refl is) (ends (record { end = Merge; next = None; after = 23 }) refl refl refl refl))
      (ends (record { end = Return; next = None; after = 27 }) refl refl refl refl);
  function_end = refl;
  last = refl;
}

f5-intervals : intervals_of f5_derives ≡ interval 16 27 ∷ interval 19 21 ∷ interval 21 23 ∷ []
unfolding f5_derives
f5-intervals = refl

f7_derives : Derives f7
unfolding entry_of class_of block_end missing last_part labels_of switch_words
f7_derives = record {
  before = 15;
  after = 27;
  begins = record { module_level = AllPass-from_list_all (λ (inst : Inst). is_module_level inst.op) (take 15 f7) refl; function = refl };
  sequence = picks (record { selector = 9; merge = 23; default = 22; after = 19 }) 23 refl refl
      (arm_behind 22 21 (22 ∷ []) (arm_behind 21 19 (22 ∷ 21 ∷ 21 ∷ []) (no_arm refl refl) refl refl
      (ends (record { end = Merge; next = None; after = 21 }) refl refl refl refl)) refl refl
      (ends (record { end = Merge; next = None; after = 23 }) refl refl refl refl))
      (ends (record { end = Return; next = None; after = 27 }) refl refl refl refl);
  function_end = refl;
  last = refl;
}

f7-intervals : intervals_of f7_derives ≡ interval 16 27 ∷ interval 19 21 ∷ interval 21 23 ∷ []
unfolding f7_derives
f7-intervals = refl

f8_derives : Derives f8
unfolding entry_of class_of block_end missing last_part labels_of switch_words
f8_derives = record {
  before = 15;
  after = 35;
  begins = record { module_level = AllPass-from_list_all (λ (inst : Inst). is_module_level inst.op) (take 15 f8) refl; function = refl };
  sequence = goes_on 18 refl refl
      (loops (record { header = 21; merge = 25; next = 24; test = 22; after = 23 }) 23 26 28 32 refl refl
      (ends (record { end = Test 34 true; next = Some 23; after = 26 }) refl refl refl refl)
      (ends (record { end = Continue; next = None; after = 28 }) refl refl refl refl)
      (ends (record { end = Back; next = None; after = 32 }) refl refl refl refl)
      (ends (record { end = Return; next = None; after = 35 }) refl refl refl refl));
  function_end = refl;
  last = refl;
}

f8-intervals : intervals_of f8_derives ≡ interval 16 35 ∷ interval 23 26 ∷ interval 26 28 ∷ interval 28 32 ∷ []
unfolding f8_derives
f8-intervals = refl

f10_derives : Derives f10
unfolding entry_of class_of block_end missing last_part labels_of switch_words
f10_derives = record {
  before = 18;
  after = 34;
  begins = record { module_level = AllPass-from_list_all (λ (inst : Inst). is_module_level inst.op) (take 18 f10) refl; function = refl };
  sequence = picks (record { selector = 9; merge = 23; default = 22; after = 23 }) 30 refl refl
      (arm_behind 22 23 (22 ∷ []) (no_arm refl refl) refl refl
      (selects (record { cond = 30; merge = 25; on_true = 24; on_false = 25; after = 26 }) 28 28 refl refl
      (through (λ is. differ 24 25 refl is) (ends (record { end = Leave; next = None; after = 28 }) refl refl refl refl))
      (straight refl refl)
      (ends (record { end = Merge; next = None; after = 30 }) refl refl refl refl)))
      (ends (record { end = Return; next = None; after = 34 }) refl refl refl refl);
  function_end = refl;
  last = refl;
}

f10-intervals : intervals_of f10_derives ≡ interval 19 34 ∷ interval 23 30 ∷ interval 26 28 ∷ []
unfolding f10_derives
f10-intervals = refl
