use Rattle.loaded_work.proofs.ExplainLemmas.{tells_no_request}
use Rattle.loaded_work.proofs.guide.push_below.Goals as goal

pub returns-in-Refused-clause-told : goal.returns-in-Refused-clause-told
returns-in-Refused-clause-told g c =
    rw c.in-Refused.is (tells_no_request c.args.guide.now.explainer.now c.args.guide.now.most c.args.guide.now.program.now c.args.guide.now.state.now _ _ c.args.text.now)
