use Rattle.std.proofs.Common.{take}
use Rattle.rbac_query.specs.Helps.Tests.{tells}
use Rattle.rbac_query.proofs.permissions.set_of.Given as goal

abbrev pub invariant-loop-text : goal.invariant-loop-text
invariant-loop-text l = tells l.set.keys (take l.text-index l.texts)
