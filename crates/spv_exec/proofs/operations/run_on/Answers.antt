use Rattle.std.proofs.Common.{◌≡◌, ℕ, ◌≤◌, List, length, drop, sym, ap, ◌∙◌, arith}
use Rattle.valid_model.specs.Definitions.{inst_at}
use Rattle.spv_exec.proofs.ComponentResults.{few_operands, list_three}
use Rattle.spv_exec.proofs.operations.run_on.Goals as goal

-- the other lists have three ids
three : (reads ids : List ℕ) → reads ≡ ids → (1 ≤ length ids) × (length ids ≤ 3) → (length reads ≡ 1 → ⊥) → (length reads ≡ 2 → ⊥) → length reads ≡ 3
three reads ids is few not_one not_two = let e = ap length is in let low = few.0 in let high = few.1 in omega (arith, e, low, high, not_one, not_two)

pub bounds-reads-0-else-many-eq2 : goal.bounds-reads-0-else-many-eq2
bounds-reads-0-else-many-eq2 c =
    let f = few_operands c.args.of.now c.module-module.ensures.valid c.args.frame.now c.requires.gives.held c.args.place c.requires.gives.value c.requires.is c.requires.gives.gives in
    let n = three c.args.reads.now (drop 2 (inst_at c.args.of.now.insts c.args.place).words) c.requires.reads f c.if-many-eq1.false c.if-many-eq2.false in
    omega (arith, n)

pub bounds-reads-1-else-many-eq2 : goal.bounds-reads-1-else-many-eq2
bounds-reads-1-else-many-eq2 c =
    let f = few_operands c.args.of.now c.module-module.ensures.valid c.args.frame.now c.requires.gives.held c.args.place c.requires.gives.value c.requires.is c.requires.gives.gives in
    let n = three c.args.reads.now (drop 2 (inst_at c.args.of.now.insts c.args.place).words) c.requires.reads f c.if-many-eq1.false c.if-many-eq2.false in
    omega (arith, n)

pub bounds-reads-2 : goal.bounds-reads-2
bounds-reads-2 c =
    let f = few_operands c.args.of.now c.module-module.ensures.valid c.args.frame.now c.requires.gives.held c.args.place c.requires.gives.value c.requires.is c.requires.gives.gives in
    let n = three c.args.reads.now (drop 2 (inst_at c.args.of.now.insts c.args.place).words) c.requires.reads f c.if-many-eq1.false c.if-many-eq2.false in
    omega (arith, n)

pub run_select-requires-clause-reads : goal.run_select-requires-clause-reads
run_select-requires-clause-reads c =
    let f = few_operands c.args.of.now c.module-module.ensures.valid c.args.frame.now c.requires.gives.held c.args.place c.requires.gives.value c.requires.is c.requires.gives.gives in
    let n = three c.args.reads.now (drop 2 (inst_at c.args.of.now.insts c.args.place).words) c.requires.reads f c.if-many-eq1.false c.if-many-eq2.false in
    sym c.requires.reads ∙ list_three c.args.reads.now n
