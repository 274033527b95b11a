use Rattle.live_meaning.proofs.LawLemmas.{whole_entry}
use Rattle.live_meaning.proofs.laws.entries_are_cuts.Goals as goal

pub returns : goal.returns
returns c = record { whole = whole_entry }
