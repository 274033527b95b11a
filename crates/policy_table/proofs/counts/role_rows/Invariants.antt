use Rattle.std.proofs.Common.{◌≡◌, ◌≤◌, ◌*◌, length, take}
use Rattle.std.specs.List.{sum_by}
use Rattle.perm_base.specs.declared.shapes.RoleShape.{RoleShape}
use Rattle.perm_base.specs.declared.shapes.TableId.TheVariants.{G}
use Rattle.policy_table.specs.Tables.{rows}
use Rattle.policy_table.proofs.counts.role_rows.Given as goal

abbrev pub invariant-loop-shape : goal.invariant-loop-shape
invariant-loop-shape l = record {
  counted : l.count ≡ sum_by (λ (shape : RoleShape). length (rows l.tables.policy (G shape.number))) (take l.shape-index l.shape-items);
  few : l.count ≤ l.shape-index * 4294967296;
}
