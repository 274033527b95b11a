use Rattle.text_parts.proofs.ReaderLemmas.{one_value}
use Rattle.script_read.proofs.ScriptLemmas.{text_read}
use Rattle.script_read.proofs.laws.text_says_one_script.Goals as goal

pub returns : goal.returns
returns c = λ json bytes. one_value (text_read json bytes)
