use Rattle.std.proofs.Common.{sym, subst, map, List}
use Rattle.role_graph.specs.Helps.Kept.{AreKept, group_of}
use Rattle.role_graph.proofs.Entries.{Entry, kept_none}
use Rattle.role_graph.proofs.groups.Groups.new.Goals as goal

pub invariant_of-result : goal.invariant_of-result
invariant_of-result c = subst (λ (entries : List Entry). AreKept (map group_of entries)) (sym c.with_hasher.ensures.empty) kept_none

pub returns-clause-kept : goal.returns-clause-kept
returns-clause-kept c = subst (λ (entries : List Entry). AreKept (map group_of entries)) (sym c.with_hasher.ensures.empty) kept_none
