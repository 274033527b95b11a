use Rattle.live_meaning.proofs.LawLemmas.{following_entries}
use Rattle.live_meaning.proofs.laws.entries_follow_notes.Goals as goal

pub returns : goal.returns
returns c = record { follow = following_entries }
