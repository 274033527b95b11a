use Rattle.std.proofs.Common.{arith}
use Rattle.policy_index.proofs.LawLemmas.{exact_places, rising_places}
use Rattle.policy_index.proofs.laws.places_are_exact.Goals as goal

pub returns-clause-exact : goal.returns-clause-exact
returns-clause-exact c = λ column text rules at. exact_places 0 column text rules at at (omega arith)

pub returns-clause-rising : goal.returns-clause-rising
returns-clause-rising c = λ column text rules. rising_places 0 column text rules
