-- Derivations of sample modules, written out.
use Rattle.std.proofs.Common.{◌≡◌, ℕ, ◌==◌, Bool, true, false, List, [], ◌∷◌, take, refl, arith}
use Rattle.std.specs.Prelude.{None, Some, Option}
use Rattle.std.specs.List.{list_all}
use Rattle.std.proofs.lemmas.Bool.Decides.{nat_tests}
use Rattle.std.proofs.lemmas.List.Sums.{AllPass-from_list_all}
use Rattle.spirv_model.specs.declared.module.Inst.{Inst}
use Rattle.spirv_model.specs.declared.op.TheConstants.{FUNCTION}
use Rattle.spirv_model.specs.Operands.{entry_of, class_of}
use Rattle.body_model.specs.declared.scope.End.TheVariants.{Merge, Leave, Break, Continue, Back, Test, Return, Kill}
use Rattle.body_model.specs.Classes.{is_module_level}
use Rattle.body_model.specs.Blocks.{block_end, last_part}
use Rattle.body_model.specs.Due.{missing}
use Rattle.body_model.specs.Switches.{switch_words, labels_of}
use Rattle.body_model.specs.Grammar.{Sequence, ends, goes_on, selects, picks, loops, Arm, straight, through, Arms, no_arm, arm_behind, IsOp, Begins, Derives}
use Rattle.body_model.proofs.SampleModules.{f1, f3, f5, f7, f8, f10}

differ : (a b : ℕ) → a == b ≡ false → a ≡ b → ⊥
differ a b isnt is = grind (arith, nat_tests)

f1-begins : Begins f1 11
unfolding entry_of class_of
f1-begins = record { module_level = AllPass-from_list_all (λ (inst : Inst). is_module_level inst.op) (take 11 f1) refl; function = refl }

pub f1-derives : Derives f1
unfolding entry_of class_of block_end missing last_part labels_of switch_words
f1-derives = record {
  before = 11;
  after = 15;
  begins = f1-begins;
  sequence = ends (record { end = Return; next = None; after = 15 }) refl refl refl refl;
  function_end = refl;
  last = refl;
}

f3-begins : Begins f3 16
unfolding entry_of class_of
f3-begins = record { module_level = AllPass-from_list_all (λ (inst : Inst). is_module_level inst.op) (take 16 f3) refl; function = refl }

pub f3-derives : Derives f3
unfolding entry_of class_of block_end missing last_part labels_of switch_words
f3-derives = record {
  before = 16;
  after = 39;
  begins = f3-begins;
  sequence = goes_on 21 refl refl
      (loops (record { header = 21; merge = 25; next = 24; test = 22; after = 24 }) 23 28 30 35 refl refl
      (ends (record { end = Test 31 true; next = Some 23; after = 28 }) refl refl refl refl)
      (ends (record { end = Continue; next = None; after = 30 }) refl refl refl refl)
      (ends (record { end = Back; next = None; after = 35 }) refl refl refl refl)
      (ends (record { end = Return; next = None; after = 39 }) refl refl refl refl));
  function_end = refl;
  last = refl;
}

f5-begins : Begins f5 15
unfolding entry_of class_of
f5-begins = record { module_level = AllPass-from_list_all (λ (inst : Inst). is_module_level inst.op) (take 15 f5) refl; function = refl }

pub f5-derives : Derives f5
unfolding entry_of class_of block_end missing last_part labels_of switch_words
f5-derives = record {
  before = 15;
  after = 27;
  begins = f5-begins;
  sequence = selects (record { cond = 9; merge = 23; on_true = 21; on_false = 22; after = 19 }) 21 23 refl refl
      (through (λ is. differ 21 23 refl is) (ends (record { end = Merge; next = None; after = 21 }) refl refl refl refl))
      (through (λ is. differ 22 23 refl is) (ends (record { end = Merge; next = None; after = 23 }) refl refl refl refl))
      (ends (record { end = Return; next = None; after = 27 }) refl refl refl refl);
  function_end = refl;
  last = refl;
}

f7-begins : Begins f7 15
unfolding entry_of class_of
f7-begins = record { module_level = AllPass-from_list_all (λ (inst : Inst). is_module_level inst.op) (take 15 f7) refl; function = refl }

pub f7-derives : Derives f7
unfolding entry_of class_of block_end missing last_part labels_of switch_words
f7-derives = record {
  before = 15;
  after = 27;
  begins = f7-begins;
  sequence = picks (record { selector = 9; merge = 23; default = 22; after = 19 }) 23 refl refl
      (arm_behind 22 21 (22 ∷ []) (arm_behind 21 19 (22 ∷ 21 ∷ 21 ∷ []) (no_arm refl refl) refl refl
      (ends (record { end = Merge; next = None; after = 21 }) refl refl refl refl)) refl refl
      (ends (record { end = Merge; next = None; after = 23 }) refl refl refl refl))
      (ends (record { end = Return; next = None; after = 27 }) refl refl refl refl);
  function_end = refl;
  last = refl;
}

f8-begins : Begins f8 15
unfolding entry_of class_of
f8-begins = record { module_level = AllPass-from_list_all (λ (inst : Inst). is_module_level inst.op) (take 15 f8) refl; function = refl }

pub f8-derives : Derives f8
unfolding entry_of class_of block_end missing last_part labels_of switch_words
f8-derives = record {
  before = 15;
  after = 35;
  begins = f8-begins;
  sequence = goes_on 18 refl refl
      (loops (record { header = 21; merge = 25; next = 24; test = 22; after = 23 }) 23 26 28 32 refl refl
      (ends (record { end = Test 34 true; next = Some 23; after = 26 }) refl refl refl refl)
      (ends (record { end = Continue; next = None; after = 28 }) refl refl refl refl)
      (ends (record { end = Back; next = None; after = 32 }) refl refl refl refl)
      (ends (record { end = Return; next = None; after = 35 }) refl refl refl refl));
  function_end = refl;
  last = refl;
}

f10-begins : Begins f10 18
unfolding entry_of class_of
f10-begins = record { module_level = AllPass-from_list_all (λ (inst : Inst). is_module_level inst.op) (take 18 f10) refl; function = refl }

pub f10-derives : Derives f10
unfolding entry_of class_of block_end missing last_part labels_of switch_words
f10-derives = record {
  before = 18;
  after = 34;
  begins = f10-begins;
  sequence = picks (record { selector = 9; merge = 23; default = 22; after = 23 }) 30 refl refl
      (arm_behind 22 23 (22 ∷ []) (no_arm refl refl) refl refl
      (selects (record { cond = 30; merge = 25; on_true = 24; on_false = 25; after = 26 }) 28 28 refl refl
      (through (λ is. differ 24 25 refl is) (ends (record { end = Leave; next = None; after = 28 }) refl refl refl refl))
      (straight refl refl)
      (ends (record { end = Merge; next = None; after = 30 }) refl refl refl refl)))
      (ends (record { end = Return; next = None; after = 34 }) refl refl refl refl);
  function_end = refl;
  last = refl;
}
