use Rattle.version_log.proofs.DecideLemmas.{text_decides}
use Rattle.version_log.proofs.laws.every_text_is_an_edit_or_at_fault.Goals as goal

pub returns : goal.returns
returns c = text_decides
