use Rattle.std.proofs.Common.{◌≡◌, false, map, take}
use Rattle.std.specs.List.{list_any}
use Rattle.perm_base.specs.LineEnds.{has_line_end}
use Rattle.role_meaning.specs.Links.{role_of}
use Rattle.role_graph.proofs.prepared.names_of.Given as goal

abbrev pub invariant-loop-row : goal.invariant-loop-row
invariant-loop-row l = record {
  names : l.names ≡ map role_of (take l.row-index l.rows);
  whole_lines : list_any has_line_end l.names ≡ false;
}
