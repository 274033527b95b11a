use Rattle.session_meaning.proofs.GivenLemmas.{given_both, given_few}
use Rattle.session_meaning.proofs.laws.edits_stay_given.Goals as goal

pub returns : goal.returns
returns c = record { begins = given_both; few = given_few }
