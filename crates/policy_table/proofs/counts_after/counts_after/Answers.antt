use Rattle.std.proofs.Common.{arith}
use Rattle.policy_table.specs.Changes.{edited}
use Rattle.policy_table.proofs.RoleLemmas.{few_roles, pairs_all, patterns_all}
use Rattle.policy_table.proofs.counts_after.counts_after.Goals as goal

pub overflow_add-patterns : goal.overflow_add-patterns
overflow_add-patterns c = omega (arith, few_roles c.as_slice-shape-items.result.now c.as_slice-shape-items.ensures.roles)

pub overflow_add-pairs : goal.overflow_add-pairs
overflow_add-pairs c = omega (arith, few_roles c.as_slice-shape-items.result.now c.as_slice-shape-items.ensures.roles)

pub returns-clause-patterns : goal.returns-clause-patterns
returns-clause-patterns c =
    patterns_all (edited c.args.edit.now c.args.tables.now.policy) c.args.shapes.now c.as_slice-shape-items.result.now c.loop-shape.shape-index _ c.as_slice-shape-items.ensures.value (omega arith) c.loop-shape.invariant.patterns

pub returns-clause-pairs : goal.returns-clause-pairs
returns-clause-pairs c =
    pairs_all (edited c.args.edit.now c.args.tables.now.policy) c.args.shapes.now c.as_slice-shape-items.result.now c.loop-shape.shape-index _ c.as_slice-shape-items.ensures.value (omega arith) c.loop-shape.invariant.pairs
