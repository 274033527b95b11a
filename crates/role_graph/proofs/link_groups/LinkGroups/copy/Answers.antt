use Rattle.std.proofs.Common.{refl}
use Rattle.role_graph.proofs.CopyLemmas.{links_copied}
use Rattle.role_graph.proofs.link_groups.LinkGroups.copy.Goals as goal

pub invariant_of-result : goal.invariant_of-result
invariant_of-result c =
    links_copied c.self.inside.names c.self.inside.names c.self.inside.plain.groups c.self.inside.patterned.groups c.in_ok-plain.plain.groups c.in_ok-patterned.patterned.groups refl c.in_ok-plain.ensures c.in_ok-patterned.ensures c.self.invariant
