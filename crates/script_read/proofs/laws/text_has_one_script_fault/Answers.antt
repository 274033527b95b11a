use Rattle.text_parts.proofs.ReaderLemmas.{one_fault}
use Rattle.script_read.proofs.ScriptLemmas.{text_read}
use Rattle.script_read.proofs.laws.text_has_one_script_fault.Goals as goal

pub returns : goal.returns
returns c = λ json bytes. one_fault (text_read json bytes)
