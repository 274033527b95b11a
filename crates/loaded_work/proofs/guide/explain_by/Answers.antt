use Rattle.script_read.specs.Script.{IsRequests}
use Rattle.loaded_work.proofs.ExplainWork.{explain_ends}
use Rattle.loaded_work.proofs.guide.explain_by.Goals as goal

pub returns : goal.returns
returns g c =
    explain_ends (IsRequests c.args.json c.args.input.now) c.args.most _ _ _ _ _ _ _ c.print_explained.result c.print_explained.ensures.printed c.print_explained.ensures.stopped c.print_explained.ensures.counted c.print_explained.ensures.used
