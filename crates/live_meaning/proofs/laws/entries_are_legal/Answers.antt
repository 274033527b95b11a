use Rattle.live_meaning.proofs.LawLemmas.{legal_entry}
use Rattle.live_meaning.proofs.laws.entries_are_legal.Goals as goal

pub returns : goal.returns
returns c = record { legal = legal_entry }
