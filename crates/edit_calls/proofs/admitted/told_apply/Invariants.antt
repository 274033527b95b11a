use Rattle.std.proofs.Common.{◌≡◌, true, take}
use Rattle.policy_table.specs.Changes.{applies, edited}
use Rattle.edit_calls.specs.Helps.ToldRules.{AreTold}
use Rattle.edit_calls.proofs.admitted.told_apply.Given as goal

-- the changes in front apply, and behind them rules stand as is told
abbrev pub invariant-loop-change : goal.invariant-loop-change
invariant-loop-change l = record {
  front : applies (take l.change-index l.changes) l.tables.policy ≡ true;
  told : AreTold l.told.entries l.tables.policy (edited (take l.change-index l.changes) l.tables.policy);
}
