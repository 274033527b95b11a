use Rattle.std.proofs.Common.{◌≡◌, ◌≤◌, take}
use Rattle.std.specs.List.{count_by}
use Rattle.perm_base.specs.declared.shapes.TableId.TheVariants.{G}
use Rattle.policy_table.specs.Helps.Moves.{is_gone}
use Rattle.policy_table.specs.Limits.{domains_of}
use Rattle.policy_table.specs.Tables.{rows}
use Rattle.policy_table.proofs.counts_after.gone_domains.Given as goal

abbrev pub invariant-loop-text : goal.invariant-loop-text
invariant-loop-text l = record {
  counted : l.count ≡ count_by (is_gone (domains_of (rows l.tables.policy (G l.number))) l.put l.taken) (take l.text-index l.text-items);
  few : l.count ≤ l.text-index;
}
