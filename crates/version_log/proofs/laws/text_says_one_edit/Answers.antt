use Rattle.version_log.proofs.ReadLemmas.{edit_once}
use Rattle.version_log.proofs.laws.text_says_one_edit.Goals as goal

pub returns : goal.returns
returns c = edit_once
