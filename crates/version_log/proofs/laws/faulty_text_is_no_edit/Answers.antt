use Rattle.version_log.proofs.ReadLemmas.{no_edit}
use Rattle.version_log.proofs.laws.faulty_text_is_no_edit.Goals as goal

pub returns : goal.returns
returns c = no_edit
