use Rattle.live_pair.proofs.LifeLemmas.{legal_entry}
use Rattle.live_pair.proofs.laws.entries_are_legal.Goals as goal

pub returns : goal.returns
returns c = record { legal = legal_entry }
