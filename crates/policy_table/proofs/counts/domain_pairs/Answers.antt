use Rattle.std.proofs.Common.{arith}
use Rattle.policy_table.proofs.RoleLemmas.{few_roles, pairs_all}
use Rattle.policy_table.proofs.counts.domain_pairs.Goals as goal

pub overflow_add-count : goal.overflow_add-count
overflow_add-count c = omega (arith, few_roles c.as_slice-shape-items.result.now c.as_slice-shape-items.ensures.roles)

pub returns : goal.returns
returns c =
    pairs_all c.args.tables.now.policy c.args.shapes.now c.as_slice-shape-items.result.now c.loop-shape.shape-index _ c.as_slice-shape-items.ensures.value (omega arith) c.loop-shape.invariant.counted
