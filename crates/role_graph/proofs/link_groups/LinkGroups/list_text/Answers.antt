use Rattle.std.proofs.Common.{◌<◌, length, subst}
use Rattle.role_graph.specs.Helps.Kept.{Parts, linked_of}
use Rattle.role_graph.specs.Helps.Lists.{Lists}
use Rattle.role_graph.specs.Helps.Walks.{FitsAt}
use Rattle.role_graph.proofs.ShortLists.{text_listed, text_unlisted}
use Rattle.role_graph.proofs.link_groups.LinkGroups.list_text.Goals as goal

pub returns-in-Some : goal.returns-in-Some
returns-in-Some c = λ yes.
    subst (λ (p : Parts). Lists (λ at. (at < length p.plain.groups) × FitsAt (linked_of p) c.args.name.now at) (λ at. FitsAt (linked_of p) c.args.name.now at) c.args.listed.now.items c.list_one.new.listed.items) c.self.view_is
    (text_listed (record { plain = c.self.inside.plain; patterned = c.self.inside.patterned; names = c.self.inside.names }) c.args.name.now c.in-Some.at c.args.listed.now.items c.list_one.new.listed.items c.self.invariant c.in-Some.ensures.found (c.list_one.ensures yes))

pub returns-in-None : goal.returns-in-None
returns-in-None c = λ yes.
    subst (λ (p : Parts). Lists (λ at. (at < length p.plain.groups) × FitsAt (linked_of p) c.args.name.now at) (λ at. FitsAt (linked_of p) c.args.name.now at) c.args.listed.now.items c.args.listed.now.items) c.self.view_is
    (text_unlisted (record { plain = c.self.inside.plain; patterned = c.self.inside.patterned; names = c.self.inside.names }) c.args.name.now c.args.listed.now.items c.self.invariant c.in-None.ensures.none)
