use Rattle.policy_state.proofs.LogLemmas.{version_stands}
use Rattle.policy_state.proofs.laws.states_stand_for_their_history.Goals as goal

pub returns : goal.returns
returns c = record { tables = λ state opening history stands. stands.tables; version = λ state opening history stands. version_stands state.log history stands.log }
