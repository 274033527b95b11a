use Rattle.std.proofs.Common.{◌<◌, ℕ, length, subst}
use Rattle.role_graph.specs.Helps.Kept.{linked_of, Parts}
use Rattle.role_graph.specs.Helps.Marks.{Extends, IsSet}
use Rattle.role_graph.specs.Helps.Walks.{FitsAt}
use Rattle.role_graph.proofs.LinkLemmas.{text_marked, text_marks, text_nowhere}
use Rattle.role_graph.proofs.MarkLemmas.{extends_none}
use Rattle.role_graph.proofs.link_groups.LinkGroups.mark_text.Goals as goal

pub returns-in-Some-clause-marked : goal.returns-in-Some-clause-marked
returns-in-Some-clause-marked c =
    subst (λ (p : Parts). (at : ℕ) → at < length p.plain.groups → FitsAt (linked_of p) c.args.name.now at → IsSet c.reach.new.reached at) c.self.view_is
    (text_marked (record { plain = c.self.inside.plain; patterned = c.self.inside.patterned; names = c.self.inside.names }) c.args.name.now c.in-Some.at c.reach.new.reached c.self.invariant c.in-Some.ensures.found c.reach.ensures.marked)

pub returns-in-Some-clause-marks : goal.returns-in-Some-clause-marks
returns-in-Some-clause-marks c =
    subst (λ (p : Parts). Extends (λ at. FitsAt (linked_of p) c.args.name.now at) c.args.reached.now c.args.fresh.now c.reach.new.reached c.reach.new.fresh) c.self.view_is
    (text_marks (record { plain = c.self.inside.plain; patterned = c.self.inside.patterned; names = c.self.inside.names }) c.args.name.now c.in-Some.at c.args.reached.now c.args.fresh.now c.reach.new.reached c.reach.new.fresh c.in-Some.ensures.found c.reach.ensures.marks)

pub returns-in_default-clause-marked : goal.returns-in_default-clause-marked
returns-in_default-clause-marked c =
    subst (λ (p : Parts). (at : ℕ) → at < length p.plain.groups → FitsAt (linked_of p) c.args.name.now at → IsSet c.args.reached.now at) c.self.view_is
    (text_nowhere (record { plain = c.self.inside.plain; patterned = c.self.inside.patterned; names = c.self.inside.names }) c.args.name.now c.args.reached.now c.self.invariant c.in_default.ensures.none)

pub returns-in_default-clause-marks : goal.returns-in_default-clause-marks
returns-in_default-clause-marks c = extends_none (λ at. FitsAt (linked_of c.args.self.now) c.args.name.now at) c.args.reached.now c.args.fresh.now
