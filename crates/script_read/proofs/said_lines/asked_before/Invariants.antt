use Rattle.std.proofs.Common.{◌-◌, ◌≤◌, ℕ, Bool}
use Rattle.std.specs.Str.{IsUtf8}
use Rattle.script_read.specs.Helps.Asks.{AreAskedBefore}
use Rattle.script_read.specs.Helps.Checked.{AreChecked}
use Rattle.script_read.proofs.said_lines.asked_before.Given as goal

abbrev pub invariant-loop-count : goal.invariant-loop-count
invariant-loop-count l = record {
  passed : (json : Bool) (number : ℕ) → AreChecked json number l.text → AreAskedBefore json number l.count l.text l.rest;
  few : l.count ≤ l.most;
  utf8 : IsUtf8 l.rest;
}

abbrev pub decreases-loop-count : goal.decreases-loop-count
decreases-loop-count l = l.most - l.count
