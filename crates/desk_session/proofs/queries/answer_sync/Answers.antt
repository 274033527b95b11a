use Rattle.desk_session.proofs.StepLemmas.{sync_step}
use Rattle.desk_session.proofs.queries.answer_sync.Goals as goal

pub returns : goal.returns
returns c = sync_step c.args.desk.now c.state.result.now c.state.ensures.state c.version.result c.version.ensures.value
