use Rattle.std.proofs.Common.{List, ℕ, subst}
use Rattle.std.specs.List.{Contains}
use Rattle.role_graph.proofs.ShortLists.{listed_new, listed_there}
use Rattle.role_graph.proofs.short.list_one.Goals as goal

pub returns-then-is_listed : goal.returns-then-is_listed
returns-then-is_listed c = λ yes. listed_there c.args.listed.now.items c.args.place (subst (λ (l : List ℕ). Contains l c.args.place) c.as_slice.ensures.value (c.is_listed.ensures.0 c.if-is_listed.true))

pub returns : goal.returns
returns c = λ yes. listed_new c.args.listed.now.items c.push.new.self.items c.args.place c.push.ensures.items
