-- Worked values of what is left in a module, by computing.
use Rattle.std.proofs.Common.{◌≡◌, ℕ, Bool, true, false, List, [], ◌∷◌, ◌++◌, map, refl}
use Rattle.spirv_model.specs.declared.module.Inst.{Inst}
use Rattle.spirv_model.specs.declared.op.TheConstants as op
use Rattle.spirv_model.specs.Operands.{entry_of, class_of, kinds, ids, result}
use Rattle.body_model.specs.Targets.{targets_by}
use Rattle.body_model.proofs.SampleModules.{v1, v2, f1, f2, f3, f5, f6, f7}
use Rattle.valid_model.specs.Definitions.{definition}
use Rattle.valid_model.specs.DecorationWords.{decoration_of}
use Rattle.valid_model.specs.Types.{type_of}
use Rattle.valid_model.specs.Meanings.{known_of, known_after, known_by}
use Rattle.valid_model.specs.ModuleFacts.{model_of, facts_of}
use Rattle.check_model.specs.Intervals.{Interval, interval}
use Rattle.check_model.specs.Interfaces.{inputs_of, outputs_of}
use Rattle.check_model.specs.Storage.{is_in_function}
use Rattle.unit_model.specs.ConstantScalars.{constant_scalar, is_specialized, is_folded, is_straightened}
use Rattle.unit_model.specs.UsedResults.{uses_all_results}
use Rattle.unit_model.specs.UsedInterface.{roots_of, names_fed_inputs, keeps_read_outputs}
use Rattle.unit_model.specs.Reduced.{no_slots}

abbrev i : ℕ → List ℕ → Inst
i opcode words = record { op = opcode; words = words }

-- ---- specialization and folding

specialized : map is_specialized (f1 ∷ f2 ∷ f3 ∷ f5 ∷ v1 ∷ []) ≡ true ∷ false ∷ false ∷ false ∷ true ∷ []
unfolding entry_of class_of
specialized = refl

-- truth values 2 (true) and 3 (false), the number 5, the null 6 and the specialization constant 7 of an integer, and a null vector 9
abbrev given : List Inst
given =
    i op.TYPE_BOOL (1 ∷ []) ∷ i op.CONSTANT_TRUE (1 ∷ 2 ∷ []) ∷ i op.CONSTANT_FALSE (1 ∷ 3 ∷ []) ∷ i op.TYPE_INT (4 ∷ 32 ∷ 0 ∷ [])
    ∷ i op.CONSTANT (4 ∷ 5 ∷ 11 ∷ []) ∷ i op.CONSTANT_NULL (4 ∷ 6 ∷ []) ∷ i op.SPEC_CONSTANT (4 ∷ 7 ∷ 1 ∷ [])
    ∷ i op.TYPE_VECTOR (8 ∷ 4 ∷ 2 ∷ []) ∷ i op.CONSTANT_NULL (8 ∷ 9 ∷ []) ∷ i op.FUNCTION (30 ∷ 31 ∷ 0 ∷ 32 ∷ []) ∷ i op.LABEL (20 ∷ []) ∷ []

abbrev folded_with : List Inst → Bool
folded_with insts = is_folded (given ++ insts)

folded :
    map folded_with ((i op.I_ADD (4 ∷ 40 ∷ 5 ∷ 6 ∷ []) ∷ []) ∷ (i op.I_ADD (4 ∷ 40 ∷ 5 ∷ 7 ∷ []) ∷ []) ∷ (i op.I_ADD (8 ∷ 40 ∷ 9 ∷ 9 ∷ []) ∷ []) ∷ (i op.SELECT (4 ∷ 40 ∷ 2 ∷ 5 ∷ 6 ∷ []) ∷ []) ∷ [])
    ≡ false ∷ true ∷ true ∷ false ∷ []
unfolding entry_of class_of kinds result definition decoration_of type_of known_of known_after known_by model_of facts_of constant_scalar is_in_function
folded = refl

-- ---- branches

abbrev straight_with : List Interval → List Inst → Bool
straight_with intervals insts = is_straightened intervals (given ++ insts)

-- a selection on a constant, and on another value
selections :
    map (straight_with []) (
    (i op.SELECTION_MERGE (21 ∷ 0 ∷ []) ∷ i op.BRANCH_CONDITIONAL (3 ∷ 21 ∷ 22 ∷ []) ∷ [])
    ∷ (i op.SELECTION_MERGE (21 ∷ 0 ∷ []) ∷ i op.BRANCH_CONDITIONAL (40 ∷ 21 ∷ 22 ∷ []) ∷ []) ∷ []
    ) ≡ false ∷ true ∷ []
unfolding entry_of class_of kinds result targets_by definition decoration_of type_of known_of known_after known_by model_of facts_of constant_scalar is_in_function
selections = refl

-- a loop whose constant condition leaves it, by either target, and one whose constant condition stays
abbrev loop_on : ℕ → ℕ → ℕ → List Inst
loop_on condition on_true on_false =
    i op.LOOP_MERGE (25 ∷ 24 ∷ 0 ∷ []) ∷ i op.BRANCH (22 ∷ []) ∷ i op.LABEL (22 ∷ []) ∷ i op.BRANCH_CONDITIONAL (condition ∷ on_true ∷ on_false ∷ []) ∷ []

loops : map (straight_with []) (loop_on 3 23 25 ∷ loop_on 2 25 23 ∷ loop_on 2 23 25 ∷ loop_on 40 23 25 ∷ []) ≡ false ∷ false ∷ true ∷ true ∷ []
unfolding entry_of class_of kinds result targets_by definition decoration_of type_of known_of known_after known_by model_of facts_of constant_scalar is_in_function
loops = refl

-- the merge block is 29; in the arm 21, from place 13 to 20, a nested arm from 16 to 18 leaves to a label
abbrev switch_with : List ℕ → ℕ → List Inst
switch_with cases leaves =
    i op.SELECTION_MERGE (29 ∷ 0 ∷ []) ∷ i op.SWITCH (5 ∷ 21 ∷ cases) ∷ i op.LABEL (21 ∷ []) ∷ i op.SELECTION_MERGE (23 ∷ 0 ∷ [])
    ∷ i op.BRANCH_CONDITIONAL (40 ∷ 22 ∷ 23 ∷ []) ∷ i op.LABEL (22 ∷ []) ∷ i op.BRANCH (leaves ∷ []) ∷ i op.LABEL (23 ∷ []) ∷ i op.BRANCH (29 ∷ []) ∷ []

abbrev arms : List Interval
arms = interval 10 30 ∷ interval 13 20 ∷ interval 16 18 ∷ []

switches : map (straight_with arms) (switch_with [] 29 ∷ switch_with [] 23 ∷ switch_with (1 ∷ 21 ∷ []) 29 ∷ []) ≡ true ∷ false ∷ false ∷ []
unfolding entry_of class_of kinds result targets_by definition decoration_of type_of known_of known_after known_by model_of facts_of constant_scalar is_in_function
switches = refl

-- ---- results

abbrev used_with : List Inst → Bool
used_with insts = uses_all_results (given ++ insts)

-- a result that is stored, one that isn't used, one that only its own phi uses, and two that use each other
used :
    map used_with (
    (i op.I_ADD (4 ∷ 40 ∷ 5 ∷ 5 ∷ []) ∷ i op.STORE (33 ∷ 40 ∷ []) ∷ []) ∷ (i op.I_ADD (4 ∷ 40 ∷ 5 ∷ 5 ∷ []) ∷ [])
    ∷ (i op.PHI (4 ∷ 40 ∷ 5 ∷ 20 ∷ 40 ∷ 24 ∷ []) ∷ []) ∷ (i op.PHI (4 ∷ 40 ∷ 5 ∷ 20 ∷ 41 ∷ 24 ∷ []) ∷ i op.I_ADD (4 ∷ 41 ∷ 40 ∷ 5 ∷ []) ∷ []) ∷ []
    ) ≡ true ∷ false ∷ false ∷ true ∷ []
unfolding entry_of class_of kinds ids result is_in_function
used = refl

samples_use : map uses_all_results (f1 ∷ f3 ∷ f7 ∷ v2 ∷ []) ≡ true ∷ true ∷ true ∷ true ∷ []
unfolding entry_of class_of kinds ids result is_in_function
samples_use = refl

-- ---- interfaces

-- an input at location 3 that no output feeds
fed : names_fed_inputs (outputs_of v1) f6 ≡ false
unfolding entry_of class_of kinds ids result definition decoration_of type_of known_of known_after known_by model_of facts_of outputs_of is_in_function
fed = refl

fed_by_none : names_fed_inputs no_slots f1 ≡ true
unfolding entry_of class_of kinds ids result definition decoration_of type_of known_of known_after known_by model_of facts_of is_in_function
fed_by_none = refl

-- an output that is read by nobody, the same where the next stage has it, and where the function loads from it through a chain
outputs_alone : keeps_read_outputs no_slots (i op.DECORATE (50 ∷ 30 ∷ 2 ∷ []) ∷ i op.TYPE_INT (4 ∷ 32 ∷ 0 ∷ []) ∷ i op.VARIABLE (51 ∷ 50 ∷ 3 ∷ []) ∷ i op.FUNCTION (30 ∷ 31 ∷ 0 ∷ 32 ∷ []) ∷ []) ≡ false
unfolding entry_of class_of kinds ids result definition decoration_of type_of known_of known_after known_by is_in_function roots_of
outputs_alone = refl

outputs_loaded :
    keeps_read_outputs no_slots (
    i op.DECORATE (50 ∷ 30 ∷ 2 ∷ []) ∷ i op.VARIABLE (51 ∷ 50 ∷ 3 ∷ []) ∷ i op.FUNCTION (30 ∷ 31 ∷ 0 ∷ 32 ∷ []) ∷ i op.LABEL (20 ∷ [])
    ∷ i op.ACCESS_CHAIN (52 ∷ 53 ∷ 50 ∷ 5 ∷ []) ∷ i op.LOAD (4 ∷ 54 ∷ 53 ∷ []) ∷ []
    ) ≡ true
unfolding entry_of class_of kinds ids result definition decoration_of type_of known_of known_after known_by is_in_function roots_of
outputs_loaded = refl

-- f6's input is at location 3, and the output at location 2 isn't read by it
outputs_at_another_location :
    keeps_read_outputs (inputs_of f6) (i op.DECORATE (50 ∷ 30 ∷ 2 ∷ []) ∷ i op.VARIABLE (51 ∷ 50 ∷ 3 ∷ []) ∷ []) ≡ false
unfolding entry_of class_of kinds ids result definition decoration_of type_of known_of known_after known_by model_of facts_of inputs_of is_in_function roots_of
outputs_at_another_location = refl

outputs_at_its_location :
    keeps_read_outputs (inputs_of f6) (i op.DECORATE (50 ∷ 30 ∷ 3 ∷ []) ∷ i op.VARIABLE (51 ∷ 50 ∷ 3 ∷ []) ∷ []) ≡ true
unfolding entry_of class_of kinds ids result definition decoration_of type_of known_of known_after known_by model_of facts_of inputs_of is_in_function roots_of
outputs_at_its_location = refl
