use Rattle.std.proofs.Common.{◌≡◌, take}
use Rattle.policy_table.specs.Changes.{replay}
use Rattle.policy_table.specs.Limits.{AreSound}
use Rattle.edit_calls.specs.Admitted.{AreAdmitted}
use Rattle.edit_calls.proofs.front.make_front.Given as goal

-- the edits in front are admitted and made, and the tables after them are sound
abbrev pub invariant-loop-at : goal.invariant-loop-at
invariant-loop-at l = record {
  front : AreAdmitted l.shapes l.initial.tables.policy (take l.at l.edits);
  made : l.tables.policy ≡ replay (take l.at l.edits) l.initial.tables.policy;
  sound : AreSound l.shapes l.tables.policy;
}
