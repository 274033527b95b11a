use Rattle.matcher_read.proofs.SoundLemmas.{matcher_or_fault}
use Rattle.matcher_read.proofs.laws.every_text_is_a_matcher_or_at_fault.Goals as goal

pub returns : goal.returns
returns c = matcher_or_fault
