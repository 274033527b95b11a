use Rattle.policy_desk.specs.Desks.{Work}
use Rattle.policy_desk.proofs.DeskLemmas.{begun_from, ready_for}
use Rattle.policy_desk.proofs.desk.Desk.begin_publish.Goals as goal

pub returns-clause-begun : goal.returns-clause-begun
returns-clause-begun c =
    begun_from c.args.self.now _ c.prepare_parts.new.self c.next_floor-self-inside.result c.self.view_is c.next_floor-self-inside.ensures.value c.prepare_parts.ensures.shapes c.prepare_parts.ensures.key
    c.prepare_parts.ensures.log_start c.prepare_parts.ensures.tail c.prepare_parts.ensures.tables

pub returns-clause-ready : goal.returns-clause-ready
returns-clause-ready c =
    let desk : Work = record { state = c.prepare_parts.new.self; pending = c.self.inside.pending.items; drafts = c.self.inside.drafts; kept = c.self.inside.kept; floor = c.next_floor-self-inside.result } in
    ready_for desk c.prepare_parts.result c.deref.result.now c.prepare_parts.ensures.ready c.prepare_parts.ensures.start c.deref.ensures.value
