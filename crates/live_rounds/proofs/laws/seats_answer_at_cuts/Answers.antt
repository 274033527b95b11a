use Rattle.live_rounds.proofs.CutLemmas.{served_at, served_rise}
use Rattle.live_rounds.proofs.laws.seats_answer_at_cuts.Goals as goal

pub returns-clause-cuts : goal.returns-clause-cuts
returns-clause-cuts c model shapes opening before round old new others seat seats refused replies readings learned done from served until end above =
    served_at shapes opening before round old.list new.list learned done.grown done.cuts end above model seat seats refused replies readings from until served

pub returns-clause-rise : goal.returns-clause-rise
returns-clause-rise c model shapes opening seat seats refused replies readings served = served_rise shapes opening model seat seats refused replies readings served
