use Rattle.std.proofs.Common.{◌≡◌, ◌++◌}
use Rattle.file_lint.proofs.judge.push_all.Given as goal

abbrev pub invariant-loop-found : goal.invariant-loop-found
invariant-loop-found l = l.findings.items ++ l.found-iterator.rest.items ≡ l.fn.findings.items ++ l.fn.more.items
