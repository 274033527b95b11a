use Rattle.role_graph.specs.Helps.Kept.{linked_of}
use Rattle.role_graph.specs.Helps.Walks.{FitsAt}
use Rattle.role_graph.proofs.LinkLemmas.{both_parts}
use Rattle.role_graph.proofs.MarkLemmas.{extends_both}
use Rattle.role_graph.proofs.link_groups.LinkGroups.mark.Goals as goal

pub returns-clause-marks : goal.returns-clause-marks
returns-clause-marks c =
    extends_both (λ at. FitsAt (linked_of c.args.self.now) c.args.name.now at) c.args.reached.now c.args.fresh.now c.mark_text.new.reached c.mark_text.new.fresh c.mark_patterns.new.reached c.mark_patterns.new.fresh
    c.mark_text.ensures.marks c.mark_patterns.ensures.marks

pub returns-clause-marked : goal.returns-clause-marked
returns-clause-marked c =
    both_parts c.args.self.now c.args.name.now c.mark_text.new.reached c.mark_patterns.new.reached c.mark_patterns.ensures.marks.keeps c.mark_text.ensures.marked c.mark_patterns.ensures.marked
