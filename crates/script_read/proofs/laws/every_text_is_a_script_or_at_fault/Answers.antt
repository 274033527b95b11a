use Rattle.text_parts.proofs.ReaderLemmas.{value_or_fault}
use Rattle.script_read.proofs.ScriptLemmas.{text_read}
use Rattle.script_read.proofs.laws.every_text_is_a_script_or_at_fault.Goals as goal

pub returns : goal.returns
returns c = λ json bytes. value_or_fault (text_read json bytes)
