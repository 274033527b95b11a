use Rattle.policy_desk.proofs.DeskLemmas.{published_from}
use Rattle.policy_desk.proofs.desk.Desk.publish.Goals as goal

pub returns-clause-published : goal.returns-clause-published
returns-clause-published c = published_from c.args.self.now c.begin_publish.new.self c.end_publish.new.self c.begin_publish.ensures.begun c.end_publish.ensures.published
