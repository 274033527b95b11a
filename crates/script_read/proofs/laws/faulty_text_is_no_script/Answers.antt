use Rattle.text_parts.proofs.ReaderLemmas.{never_both}
use Rattle.script_read.proofs.ScriptLemmas.{text_read}
use Rattle.script_read.proofs.laws.faulty_text_is_no_script.Goals as goal

pub returns : goal.returns
returns c = λ json bytes. never_both (text_read json bytes)
