use Rattle.std.proofs.Common.{◌≡◌, ◌≤◌, drop, length, map}
use Rattle.perm_base.specs.declared.shapes.TableId.TheVariants.{P}
use Rattle.perm_value.specs.Seen.{datum}
use Rattle.policy_state.specs.States.{tables}
use Rattle.policy_table.specs.Tables.{rows}
use Rattle.regex_gate.specs.Refusals.{IsRefused, IsUsed}
use Rattle.near_miss.specs.Helps.Rows.{IsFound}
use Rattle.near_miss.proofs.misses.near_misses.Given as goal

abbrev pub invariant-loop-row : goal.invariant-loop-row
invariant-loop-row g l = record {
  left : l.row-iterator ≡ drop l.number (rows (tables l.state) P);
  found : IsFound l.state.shapes (tables l.state) (map datum l.request) (IsRefused (g.P.Finder.refusals l.initial.finder) (g.P.Finder.refusals l.finder)) l.explainer l.number l.misses.items;
  few : length l.misses.items ≤ l.most;
  used : IsUsed (g.P.Finder.refusals l.initial.finder) (g.P.Finder.refusals l.finder);
}
