use Rattle.std.proofs.Common.{length}
use Rattle.role_graph.proofs.ChangeLemmas.{IsChanging}
use Rattle.role_graph.proofs.link_groups.LinkGroups.change.Given as goal

abbrev pub decreases-loop-user : goal.decreases-loop-user
decreases-loop-user l = length l.edits

abbrev pub invariant-loop-user : goal.invariant-loop-user
invariant-loop-user l = IsChanging l.fn.self l.fn.edits l.edits (record { plain = l.self-inside.plain; patterned = l.self-inside.patterned; names = l.self-inside.names })
