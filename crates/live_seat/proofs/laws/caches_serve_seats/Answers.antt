use Rattle.std.proofs.Common.{refl}
use Rattle.live_seat.proofs.CacheLemmas.{serves_asked, serves_empty, serves_longer}
use Rattle.live_seat.proofs.laws.caches_serve_seats.Goals as goal

pub returns-clause-empty : goal.returns-clause-empty
returns-clause-empty c = serves_empty

pub returns-clause-longer : goal.returns-clause-longer
returns-clause-longer c = serves_longer

pub returns-clause-asked : goal.returns-clause-asked
returns-clause-asked c model opening front state cache stands is judged = serves_asked model state.shapes opening front state cache refl stands is judged
