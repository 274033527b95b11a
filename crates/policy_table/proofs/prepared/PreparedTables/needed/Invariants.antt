use Rattle.std.proofs.Common.{◌≡◌, ◌≤◌, take}
use Rattle.policy_table.specs.Held.{needed}
use Rattle.policy_table.proofs.prepared.PreparedTables.needed.Given as goal

abbrev pub invariant-loop-step : goal.invariant-loop-step
invariant-loop-step l = record {
  counted : l.count ≡ needed l.at (take l.step-index l.step-items);
  few : l.count ≤ l.step-index;
}
