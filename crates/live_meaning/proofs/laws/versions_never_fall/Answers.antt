use Rattle.live_meaning.proofs.LawLemmas.{rising_entries}
use Rattle.live_meaning.proofs.laws.versions_never_fall.Goals as goal

pub returns : goal.returns
returns c = record { rising = rising_entries }
