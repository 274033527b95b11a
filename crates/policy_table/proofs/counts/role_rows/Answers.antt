use Rattle.std.proofs.Common.{arith}
use Rattle.policy_table.proofs.RoleLemmas.{few_roles}
use Rattle.policy_table.proofs.counts.role_rows.Goals as goal

pub overflow_add-count : goal.overflow_add-count
overflow_add-count c = omega (arith, few_roles c.as_slice-shape-items.result.now c.as_slice-shape-items.ensures.roles)
