use Rattle.std.proofs.Common.{◌≡◌, ◌+◌, length, map, take}
use Rattle.policy_table.specs.Tables.{Fields}
use Rattle.role_domain.specs.Helps.OwnRows.{lent}
use Rattle.role_domain.specs.Relations.{pair_of}
use Rattle.role_graph.specs.Built.{IsCounted}
use Rattle.role_graph.specs.Groups.{times}
use Rattle.role_domain.proofs.domain.push_own.Given as goal

abbrev pub invariant-loop-row : goal.invariant-loop-row
invariant-loop-row l = record {
  rows : (one : Fields) → times one l.graph.rows ≡ times one l.initial.graph.rows + times one (map pair_of (lent (take l.row-index l.own)));
  long : length l.graph.rows ≡ length l.initial.graph.rows + l.row-index;
  counts : IsCounted l.graph;
  names : l.graph.names ≡ l.initial.graph.names;
  limited : l.graph.limit ≡ l.initial.graph.limit;
}
