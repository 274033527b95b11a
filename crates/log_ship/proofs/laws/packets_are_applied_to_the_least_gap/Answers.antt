use Rattle.log_ship.proofs.LawLemmas.{applies_least}
use Rattle.log_ship.proofs.laws.packets_are_applied_to_the_least_gap.Goals as goal

pub returns : goal.returns
returns c = λ opening history before now packet result are holds honest takes. applies_least opening history before now packet are holds honest result takes
