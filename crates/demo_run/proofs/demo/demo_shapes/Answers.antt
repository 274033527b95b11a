use Rattle.demo_run.proofs.DemoLemmas.{plain_suits}
use Rattle.demo_run.proofs.demo.demo_shapes.Goals as goal

pub returns-in-Ok-clause-suits : goal.returns-in-Ok-clause-suits
returns-in-Ok-clause-suits c = plain_suits c.args.model.now c.in-Ok.shapes c.in-Ok.ensures.found
