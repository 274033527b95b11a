use Rattle.role_graph.proofs.ShortLists.{parts_listed}
use Rattle.role_graph.proofs.link_groups.LinkGroups.list.Goals as goal

pub returns : goal.returns
returns c = λ yes. parts_listed c.args.self.now c.args.name.now c.args.listed.now.items c.list_text.new.listed.items c.list_patterns.new.listed.items (c.list_text.ensures c.if-not-list_text.false) (c.list_patterns.ensures yes)
