use Rattle.log_ship.proofs.LawLemmas.{all_steps, step}
use Rattle.log_ship.proofs.laws.followers_hold_a_front.Goals as goal

pub returns-clause-one : goal.returns-clause-one
returns-clause-one c = λ opening history before now packet result are holds honest takes. step opening history before now packet are holds honest result takes

pub returns-clause-all : goal.returns-clause-all
returns-clause-all c = all_steps
