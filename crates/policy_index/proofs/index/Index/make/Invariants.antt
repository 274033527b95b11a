use Rattle.std.proofs.Common.{◌≡◌, take}
use Rattle.policy_index.specs.Hashes.{marks_of}
use Rattle.policy_index.proofs.index.Index.make.Given as goal

abbrev pub invariant-loop-rule : goal.invariant-loop-rule
invariant-loop-rule l = record {
  key : l.index.key ≡ l.fn.key;
  marks : l.index.marks ≡ marks_of l.fn.key (take l.rule-index l.rule-items);
}
